-- The least line of what counts in a function, item by item.
use Rattle.std.proofs.Common.{◌≡◌, ℕ, ◌<◌, ◌≤◌, ◌⊎◌, inl, inr, Bool, true, false, cond, List, length, get_or, Option, Some, None, refl, ap, sym, ◌∙◌, subst, arith}
use Rattle.std.proofs.lemmas.Bool.{false≢true}
use Rattle.sloth_base.specs.declared.config.Config.{Config}
use Rattle.sloth_base.specs.declared.app.App.{App}
use Rattle.sloth_base.specs.declared.app.Op.{Op}
use Rattle.sloth_base.specs.declared.app.Op.TheVariants as op
use Rattle.sloth_base.specs.Named.{function, operation}
use Rattle.code_rules.specs.Code.{IsItem, HasCall}
use Rattle.bound_rules.specs.declared.bound.Body.{Body}
use Rattle.osek_scheduler.proofs.Facts.{Facts}
use Rattle.run_windows.specs.RunWindows.{IsLeastOf}
use Rattle.run_windows.proofs.Leasts.{same_least, Below}
use Rattle.walk_sums.specs.declared.counted.Counted.{Counted}
use Rattle.walk_sums.specs.Counted.{is_ending_counted}
use Rattle.walk_sums.specs.declared.counted.Counted.TheVariants as counts
use Rattle.walk_sums.proofs.Reached.{reached_inside}
use Rattle.walk_sums.specs.Activations.{ReachesItem, ReachesCall}
use Rattle.walk_sums.specs.KnownBodies.{IsKnownBody}
use Rattle.response_reasons.specs.Loops.{line_of}
use Rattle.response_reasons.specs.LoopCode.{line_at}
use Rattle.response_reasons.specs.Calls.{ComesTo, comes_here, comes_called, IsCallLine, op_line, item_line}

module _ (app : App) (c : Counted) (f : ℕ) where
  -- item i is reached, counts and has this line
  abbrev pub IsCounted : (i line : ℕ) → Type 0
  IsCounted i line = IsItem app f i (operation app f i) × ReachesItem app f i × (is_ending_counted c (operation app f i) ≡ true) × (line ≡ line_of app f i)

  -- it is a reached call of a function that comes to what counts
  abbrev pub IsCalled : (i line : ℕ) → Type 0
  IsCalled i line = (g : ℕ) × ReachesCall app f i g × ComesTo app c g line

  abbrev pub IsItemLine : (i line : ℕ) → Type 0
  IsItemLine i line = IsCounted i line ⊎ IsCalled i line

  to_line : (line : ℕ) → Below IsItemLine (length (function app f).items) line → ComesTo app c f line
  to_line line (i, lt, inl h) = subst (ComesTo app c f) (sym h.3) (comes_here f i h.1 h.2)
  to_line line (i, lt, inr h) = comes_called f i h.0 line h.1 h.2

-- no call counts
no_call : (c : Counted) (g : ℕ) → is_ending_counted c (op.Invoke g) ≡ false
no_call (counts.Activations task) g = refl
no_call (counts.Chains task) g = refl
no_call (counts.Settings task) g = refl
no_call (counts.Waits events) g = refl
no_call counts.Schedules g = refl
no_call (counts.Calls s) g = refl
no_call (counts.CallsFor s object) g = refl

module _ (config : Config) (app : App) (w : Facts config app) (c : Counted) (f : ℕ) (known : f < length app.funcs) (body : Body) (is : IsKnownBody config app f body)
    (lines : List (Option ℕ)) (called : (g : ℕ) → HasCall app f g → IsCallLine app c g (line_at lines g)) where
  from_line : (g line : ℕ) → ComesTo app c g line → g ≡ f → Below (IsItemLine app c f) (length (function app f).items) line
  from_line g line (comes_here a i r e) same =
      subst (λ n. ReachesItem app n i → is_ending_counted c (operation app n i) ≡ true → Below (IsItemLine app c f) (length (function app f).items) (line_of app n i)) (sym same)
      (λ reached counts. let lt = reached_inside config app w f i known reached in (i, lt, inl (record { known = known; inside = lt; is = refl }, reached, counts, refl))) r e
  from_line g line (comes_called a i b low call inner) same =
      subst (λ n. ReachesCall app n i b → Below (IsItemLine app c f) (length (function app f).items) low) (sym same)
      (λ here. (i, here.item.inside, inr (b, here, inner))) call

  -- all items together
  pub all_lines : (least : Option ℕ) → IsLeastOf (Below (IsItemLine app c f) (length (function app f).items)) least → IsCallLine app c f least
  all_lines least = same_least (Below (IsItemLine app c f) (length (function app f).items)) (ComesTo app c f) least (to_line app c f) (λ n comes. from_line f n comes refl)

  same_call : (g h : ℕ) → op.Invoke g ≡ op.Invoke h → g ≡ h
  same_call g h e = cc

  of_call : (i g : ℕ) → IsItem app f i (op.Invoke g) → ReachesItem app f i → IsLeastOf (IsItemLine app c f i) (line_at lines g)
  of_call i g item r = same_least (ComesTo app c g) (IsItemLine app c f i) (line_at lines g) (λ n h. inr (g, record { reached = r; item = item }, h)) from (called g (i, item))
    where
      from : (n : ℕ) → IsItemLine app c f i n → ComesTo app c g n
      from n (inl h) = absurd (false≢true (sym (no_call c g) ∙ (ap (is_ending_counted c) (sym item.is) ∙ h.2)))
      from n (inr h) = subst (λ v. ComesTo app c v n) (sym (same_call g h.0 (sym item.is ∙ h.1.item.is))) h.2

  of_other : (i : ℕ) → i < length (function app f).items → ReachesItem app f i → (o : Op) → operation app f i ≡ o → ((g : ℕ) → o ≡ op.Invoke g → ⊥)
      → IsLeastOf (IsItemLine app c f i) (cond (is_ending_counted c o) (Some (line_of app f i)) None)
  of_other i lt r o e apart = by (is_ending_counted c o) (ap (is_ending_counted c) e)
    where
      calls : (m : ℕ) → IsCalled app c f i m → ⊥
      calls m h = apart h.0 (sym e ∙ h.1.item.is)

      by : (b : Bool) → is_ending_counted c (operation app f i) ≡ b → IsLeastOf (IsItemLine app c f i) (cond b (Some (line_of app f i)) None)
      by true counted = (inl (record { known = known; inside = lt; is = refl }, r, counted, refl), above)
        where
          above : (m : ℕ) → IsItemLine app c f i m → line_of app f i ≤ m
          above m (inl h) = let same = h.3 in omega (arith, same)
          above m (inr h) = absurd (calls m h)
      by false uncounted = empty
        where
          empty : (m : ℕ) → IsItemLine app c f i m → ⊥
          empty m (inl h) = false≢true (sym uncounted ∙ h.2)
          empty m (inr h) = calls m h

  by_operation : (i : ℕ) → i < length (function app f).items → ReachesItem app f i → (o : Op) → operation app f i ≡ o
      → IsLeastOf (IsItemLine app c f i) (op_line c (line_of app f i) lines o)
  by_operation i lt r (op.Invoke g) e = of_call i g (record { known = known; inside = lt; is = e }) r
  by_operation i lt r _ e = of_other i lt r _ e (λ g same. cc)

  pub item_least : (i : ℕ) → i < length (function app f).items → IsLeastOf (IsItemLine app c f i) (item_line c (function app f) body lines i)
  item_least i lt = by (get_or body.reached i false) refl
    where
      empty : get_or body.reached i false ≡ false → (m : ℕ) → IsItemLine app c f i m → ⊥
      empty mark m (inl counts) = false≢true (sym mark ∙ (is.reached i).1 counts.1)
      empty mark m (inr calls) = false≢true (sym mark ∙ (is.reached i).1 calls.1.reached)

      by : (b : Bool) → get_or body.reached i false ≡ b → IsLeastOf (IsItemLine app c f i) (cond b (op_line c (line_of app f i) lines (operation app f i)) None)
      by true e = by_operation i lt ((is.reached i).0 e) (operation app f i) refl
      by false e = empty e
