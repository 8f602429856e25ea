-- The items of a body that walks reach are those that a search along its ways reaches.
use Rattle.std.proofs.Common.{◌≡◌, ℕ, ◌+◌, ◌<◌, Bool, true, false, not, ◌⊎◌, inl, inr, ◌↔◌, List, length, get_or, refl, ap, sym, ◌∙◌, subst, ⊎_elim}
use Rattle.std.proofs.lemmas.Bool.{false≢true}
use Rattle.sloth_base.specs.declared.config.Config.{Config}
use Rattle.sloth_base.specs.declared.app.App.{App}
use Rattle.sloth_base.specs.declared.app.Op.TheVariants as op
use Rattle.sloth_base.specs.Named.{function, operation}
use Rattle.code_rules.specs.Code.{IsItem, IsPathStep, HasCall, is_followed}
use Rattle.osek_scheduler.proofs.Facts.{Facts}
use Rattle.osek_scheduler.proofs.Held.{falls_inside}
use Rattle.osek_blocking.specs.Walks.{chains_itself}
use Rattle.walk_sums.specs.declared.graph.Ways.{Ways}
use Rattle.walk_sums.specs.Graph.{ways_of, HasMark}
use Rattle.walk_sums.specs.Search.{IsReachable, reachable_first, reachable_on}
use Rattle.walk_sums.specs.Activations.{is_plain, IsInnerStep, ReachesItem, reaches_first, reaches_inside, reaches_behind, CanReturn}
use Rattle.walk_sums.specs.Links.{goes_past, item_ways}
use Rattle.walk_sums.specs.KnownBodies.{KnowsReturns}
use Rattle.walk_sums.proofs.Leading.{past_cases, plain_past, way_plain, LeadsOn, Led, led, leads}

module _ (config : Config) (app : App) (w : Facts config app) where
  pub called_known : (f g : ℕ) → HasCall app f g → g < length app.funcs
  called_known f g calls = (w.items f calls.0 (op.Invoke g) calls.1).0

  -- where a walk goes on to is there
  pub steps_inside : (f i j : ℕ) → IsInnerStep app f i j → j < length (function app f).items
  steps_inside f i j s = w.stays_inside f i j s.item.known s.item.inside s.goes_on

  pub behind_inside : (f i g : ℕ) → IsItem app f i (op.Invoke g) → i + 1 < length (function app f).items
  behind_inside f i g item = falls_inside config app w f i (op.Invoke g) item refl

  pub reached_inside : (f i : ℕ) → f < length app.funcs → ReachesItem app f i → i < length (function app f).items
  reached_inside f i known (reaches_first g) = w.has_items g known
  reached_inside f i known (reaches_inside g k j before s) = steps_inside g k j s
  reached_inside f i known (reaches_behind a k g q before call inner ret) = behind_inside a k g call

-- a step inside a function, from what a way tells
abbrev pub step_of : (app : App) (f i j : ℕ) → f < length app.funcs → i < length (function app f).items → chains_itself (function app f) (operation app f i) ≡ false
    → is_plain (operation app f i) ≡ true → IsPathStep (function app f) i j → IsInnerStep app f i j
step_of app f i j known inside stays plain goes =
    record { operation = operation app f i; item = record { known = known; inside = inside; is = refl }; plain = plain; goes_on = goes; stays = stays }

pub not_true : (b : Bool) → not b ≡ true → b ≡ false
not_true true e = absurd (false≢true e)
not_true false e = refl

module _ (config : Config) (app : App) (w : Facts config app) (f : ℕ) (known : f < length app.funcs) (passed going open_items : List Bool) (ways : List Ways)
    (count : length ways ≡ length (function app f).items)
    (exact : (i : ℕ) → i < length (function app f).items → ways_of ways i ≡ item_ways (function app f) passed going open_items i)
    (returns : KnowsReturns app f passed)
    (going_is : (i : ℕ) → i < length (function app f).items → get_or going i false ≡ not (chains_itself (function app f) (operation app f i)))
    (all_open : (i : ℕ) → i < length (function app f).items → get_or open_items i false ≡ true) where
  step : (i j : ℕ) → ReachesItem app f i → Led (function app f) passed going open_items ways count exact i j → ReachesItem app f j
  step i j r l = by l.on
    where
      stays : chains_itself (function app f) (operation app f i) ≡ false
      stays = not_true (chains_itself (function app f) (operation app f i)) (sym (going_is i l.inside) ∙ l.goes)

      by : LeadsOn (function app f) passed going open_items ways count exact i j → ReachesItem app f j
      by (inl h) = at (past_cases passed (operation app f i) h.0)
        where
          at : ((g : ℕ) × (operation app f i ≡ op.Invoke g) × (get_or passed g false ≡ true)) ⊎ ((is_plain (operation app f i) ≡ true) × (is_followed (operation app f i) ≡ true))
              → ReachesItem app f j
          at (inl c) =
              let item : IsItem app f i (op.Invoke c.0) = record { known = known; inside = l.inside; is = c.1 } in
              let back = (returns c.0 (i, item)).0 c.2 in
              subst (ReachesItem app f) (sym h.1) (reaches_behind f i c.0 back.0 r item back.1 back.2)
          at (inr p) = reaches_inside f i j r (step_of app f i j known l.inside stays p.0 (inl (p.1, h.1)))
      by (inr h) = reaches_inside f i j r (step_of app f i j known l.inside stays (way_plain (operation app f i) h.0 h.1) (inr (h.0, h.1, h.2)))

  to_walk : (i : ℕ) → IsReachable ways 0 i → ReachesItem app f i
  to_walk i reachable_first = reaches_first f
  to_walk i (reachable_on k j r g) = step k j (to_walk k r) (led (function app f) passed going open_items ways count exact k j g)

  back_step : (i j : ℕ) → IsInnerStep app f i j → Led (function app f) passed going open_items ways count exact i j
  back_step i j s = record {
    inside = s.item.inside;
    goes = going_is i s.item.inside ∙ ap not (ap (chains_itself (function app f)) s.item.is ∙ s.stays);
    is_open = all_open j (steps_inside config app w f i j s);
    on = ⊎_elim (λ h. inl (plain_past passed (operation app f i) (ap is_plain s.item.is ∙ s.plain) h.0, h.1)) (λ h. inr (h.0, h.1, h.2)) s.goes_on;
  }

  back_call : (i g : ℕ) → IsItem app f i (op.Invoke g) → CanReturn app g → Led (function app f) passed going open_items ways count exact i (i + 1)
  back_call i g item ret = record {
    inside = item.inside;
    goes = going_is i item.inside ∙ ap (λ o. not (chains_itself (function app f) o)) item.is;
    is_open = all_open (i + 1) (behind_inside config app w f i g item);
    on = inl (ap (goes_past passed) item.is ∙ (returns g (i, item)).1 ret, refl);
  }

  from_walk : (h i : ℕ) → h ≡ f → ReachesItem app h i → IsReachable ways 0 i
  from_walk h i e (reaches_first g) = reachable_first
  from_walk h i e (reaches_inside g k j before s) =
      reachable_on k j (from_walk g k e before)
      (leads (function app f) passed going open_items ways count exact k j (back_step k j (subst (λ x. IsInnerStep app x k j) e s)))
  from_walk h i e (reaches_behind a k g q before call inner ret) =
      reachable_on k (k + 1) (from_walk a k e before)
      (leads (function app f) passed going open_items ways count exact k (k + 1) (back_call k g (subst (λ x. IsItem app x k (op.Invoke g)) e call) (q, inner, ret)))

  -- what the search marks
  pub walked : (marks : List Bool) → ((i : ℕ) → HasMark marks i ↔ IsReachable ways 0 i) → (i : ℕ) → HasMark marks i ↔ ReachesItem app f i
  walked marks m i = (λ h. to_walk i ((m i).0 h), λ r. (m i).1 (from_walk f i refl r))
