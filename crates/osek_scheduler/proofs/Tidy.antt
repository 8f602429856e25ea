-- What the laws of the simulation ask of one task.
use Rattle.std.proofs.Common.{◌≡◌, ℕ, ◌<◌, ◌≤◌, ◌==◌, ◌⊎◌, ◌&&◌, List, [], ◌∷◌, Bool, true, false, not, length, refl, sym, ◌∙◌, ap, subst, arith, inl, inr, bit_and}
use Rattle.std.specs.Prelude.{All, IsTrue}
use Rattle.std.proofs.lemmas.Bool.{true≢false, false≢true, or_cases, eqb-true}
use Rattle.std.proofs.lemmas.Nat.{and_le_r, or_of_32}
use Rattle.sloth_base.specs.ConfigRange.{IsUnionOf, scheduler_number}
use Rattle.sloth_base.specs.declared.config.EventDecl.{EventDecl}
use Rattle.std.proofs.lemmas.List.Elements.{All-head, All-tail}
use Rattle.std.proofs.Math.Bool.{and-true}
use Rattle.sloth_base.specs.declared.config.Config.{Config}
use Rattle.sloth_base.specs.declared.app.App.{App}
use Rattle.osek_scheduler.specs.declared.state.TaskState.{TaskState}
use Rattle.osek_scheduler.specs.declared.state.TaskState.TheVariants as mode
use Rattle.osek_scheduler.specs.State.{System, task}
use Rattle.sloth_base.specs.Named.{declaration, undeclared_task}
use Rattle.sloth_base.specs.Limits.{ceiling_count, resource_limit}
use Rattle.code_rules.specs.Code.{is_in}
use Rattle.osek_scheduler.specs.Priority.{is_active}
use Rattle.code_rules.specs.WellFormed.{HasEvents}
use Rattle.osek_scheduler.proofs.Facts.{Facts}
use Rattle.osek_scheduler.specs.Valid.{MayHold, IsAtRest, InState, IsValidTask, IsValid}
use Rattle.osek_scheduler.specs.Tidy.{IsTidy}
use Rattle.osek_scheduler.proofs.Depth.{frames_differ}

from_all : (P : ℕ → Type 0) (rs : List ℕ) (r : ℕ) → All P rs → is_in r rs ≡ true → P r
from_all P [] r all h = absurd (false≢true h)
from_all P (x ∷ rs) r all h = by (from_all P rs r (All-tail P x rs all)) (or_cases _ _ h)
  where
    by : (is_in r rs ≡ true → P r) → ((x == r) ≡ true) ⊎ (is_in r rs ≡ true) → P r
    by rest (inl e) = subst P (eqb-true x r e) (All-head P x rs all)
    by rest (inr e) = rest e

-- a union of masks of 32 bits is one
union_small : (events : List EventDecl) (mask : ℕ) → All (λ (e : EventDecl). (0 < e.mask) × (e.mask < 4294967296)) events → IsUnionOf events mask → mask < 4294967296
union_small [] mask all u = omega (arith, u)
union_small (e ∷ events) mask all u =
    by (λ m. union_small events m (All-tail (λ (e : EventDecl). (0 < e.mask) × (e.mask < 4294967296)) e events all)) u
  where
    by : ((m : ℕ) → IsUnionOf events m → m < 4294967296) → IsUnionOf (e ∷ events) mask → mask < 4294967296
    by rest (inl h) = rest mask h
    by rest (inr h) =
        let here = (All-head (λ (e : EventDecl). (0 < e.mask) × (e.mask < 4294967296)) e events all).1 in
        subst (λ m. m < 4294967296) (sym h.3) (or_of_32 e.mask h.0 here (rest h.0 h.1))

module _ (config : Config) (app : App) (w : Facts config app) where
  small : (t mask : ℕ) → t < length config.tasks → HasEvents (declaration config t) mask → mask < 4294967296
  small t mask lt covers =
      let declared = union_small config.events (declaration config t).events w.in_range.configuration.masks (w.in_range.configuration.tasks t undeclared_task lt).events in
      let le = and_le_r mask (declaration config t).events in
      below mask (bit_and mask (declaration config t).events) (declaration config t).events covers le declared
    where
      below : (a b c : ℕ) → b ≡ a → b ≤ c → c < 4294967296 → a < 4294967296
      below a b c e le lt = omega (arith, e, le, lt)

  few : (t r : ℕ) → t < length config.tasks → MayHold config t r → r < ceiling_count
  few t r lt (inl e) = omega (arith, e)
  few t r lt (inr h) =
      by (from_all (λ x. (x < length config.resources) ⊎ ((x ≡ scheduler_number) × IsTrue config.res_scheduler)) (declaration config t).resources r (w.in_range.configuration.tasks t undeclared_task lt).resources h) w.in_range.configuration.few_resources
    where
      by : (r < length config.resources) ⊎ ((r ≡ scheduler_number) × IsTrue config.res_scheduler) → length config.resources ≤ resource_limit → r < ceiling_count
      by (inl l) le = omega (arith, l, le)
      by (inr e) le = omega (arith, e.0)

  pub tidy : (s : System) (t : ℕ) → IsValid config app s → t < length config.tasks → IsTidy config app t (task s t)
  tidy s t v lt = record {
    registers = k.registers;
    at_rest = λ e. rest (task s t).state k.in_state e;
    asleep = λ e. let i = subst (InState config t (task s t)) e k.in_state in (i.1, i.2);
    raised_by = λ r h. raised (task s t).state refl k.in_state r h;
    few = λ r h. few t r lt (k.listed r h);
    events_small = small t (task s t).events lt k.events;
    wait_small = λ m e. small t m lt (subst (InState config t (task s t)) e k.in_state).3;
    calls = k.calls;
    held = k.held;
    frames_differ = frames_differ config app w t (task s t).frames k.calls;
  }
    where
      k : IsValidTask config app t (task s t)
      k = v.each t lt

      rest : (m : TaskState) → InState config t (task s t) m → is_active m ≡ false → IsAtRest (task s t)
      rest mode.Suspended i e = i.0
      rest mode.Ready i e = i.0
      rest mode.Active i e = absurd (true≢false e)
      rest (mode.Waiting mask) i e = i.0

      nothing : (r : ℕ) → is_in r (task s t).held ≡ true → (task s t).held ≡ [] → ⊥
      nothing r h e = false≢true (sym (ap (is_in r) e) ∙ h)

      at : (r : ℕ) → (o : Bool) → (task s t).owed ≡ o → is_in r (task s t).held ≡ true → ((task s t).owed ≡ true → (task s t).held ≡ [])
          → (task s t).raised ≡ ((declaration config t).non && not (task s t).owed) → (task s t).raised ≡ (declaration config t).non
      at r true e h owes is = absurd (nothing r h (owes e))
      at r false e h owes is = is ∙ ap (λ b. (declaration config t).non && not b) e ∙ and-true (declaration config t).non

      raised : (m : TaskState) → (task s t).state ≡ m → InState config t (task s t) m → (r : ℕ) → is_in r (task s t).held ≡ true
          → (task s t).raised ≡ (declaration config t).non
      raised mode.Suspended e i r h = absurd (nothing r h i.0.holds)
      raised mode.Ready e i r h = absurd (nothing r h i.0.holds)
      raised mode.Active e i r h = at r (task s t).owed refl h i.2 i.1
      raised (mode.Waiting mask) e i r h = absurd (nothing r h i.0.holds)
