-- Where a task does not do what counts, nothing of its walks is counted.
use Rattle.std.proofs.Common.{◌≡◌, ℕ, zero, suc, ◌≤◌, inl, Bool, true, false, ◌||◌, List, [], ◌∷◌, ◌++◌, map, get_or, refl, ap, sym, subst, arith}
use Rattle.std.specs.List.{AllByRecursion}
use Rattle.std.proofs.lemmas.Bool.{true≢false}
use Rattle.std.proofs.lemmas.List.{append_assoc}
use Rattle.sloth_base.specs.declared.config.Config.{Config}
use Rattle.sloth_base.specs.declared.app.App.{App}
use Rattle.sloth_base.specs.declared.app.Func.{Func}
use Rattle.sloth_base.specs.declared.app.Item.{Item}
use Rattle.sloth_base.specs.declared.app.Op.{Op}
use Rattle.sloth_base.specs.Named.{no_function, no_item, item_of}
use Rattle.osek_scheduler.specs.Apart.{static_priority}
use Rattle.osek_blocking.specs.Walks.{Position, AreConsecutive, IsWalk}
use Rattle.osek_blocking.specs.Sections.{IsSection, operation_at, priority_at}
use Rattle.bound_rules.specs.Weights.{no_weights}
use Rattle.walk_sums.specs.Weights.{sum_of, ending_at, going_at}
use Rattle.walk_sums.specs.declared.counted.Counted.{Counted}
use Rattle.walk_sums.specs.declared.counted.Counted.TheVariants as counts
use Rattle.walk_sums.specs.declared.sections.Sum.TheVariants as sum
use Rattle.walk_sums.specs.Rounds.{IsPart, Reaches}
use Rattle.walk_sums.specs.Counted.{one_if, is_going_counted, is_ending_counted, body_counts, counted_weights}
use Rattle.walk_sums.specs.Clears.{ReachesCounted}
use Rattle.walk_sums.specs.Told.{NoneIsAbove, IsToldSum, are_limited}
use Rattle.run_costs.specs.Rounds.{AreRounds}
use Rattle.run_costs.specs.Sections.{DoesRaised}
use Rattle.run_costs.specs.Tables.{no_sums}

-- ---- walks

consecutive_front : (app : App) (before further : List Position) (at : Position) → AreConsecutive app (before ++ at ∷ further) → AreConsecutive app (before ++ at ∷ [])
consecutive_front app [] further at c = (tt, tt)
consecutive_front app (x ∷ []) further at c = (c.0, (tt, tt))
consecutive_front app (x ∷ y ∷ before) further at c = (c.0, consecutive_front app (y ∷ before) further at c.1)

-- a walk up to one of its positions
pub walk_front : (app : App) (t : ℕ) (before further : List Position) (at : Position) → IsWalk app t (before ++ at ∷ further) → IsWalk app t (before ++ at ∷ [])
walk_front app t [] further at walk = (walk.0, (tt, tt))
walk_front app t (x ∷ before) further at walk = (walk.0, consecutive_front app (x ∷ before) further at walk.1)

-- ---- weights

first_free : (a b : Bool) → (a || b) ≡ false → a ≡ false
first_free true b e = absurd (true≢false e)
first_free false b e = refl

going_free_of : (c : Counted) (o : Op) → is_ending_counted c o ≡ false → is_going_counted c o ≡ false
going_free_of (counts.Activations task) o e = first_free _ _ e
going_free_of (counts.Chains task) o e = refl
going_free_of (counts.Settings task) o e = e
going_free_of (counts.Waits events) o e = refl
going_free_of counts.Schedules o e = refl
going_free_of (counts.Calls s) o e = refl
going_free_of (counts.CallsFor s object) o e = refl

module _ (c : Counted) where
  ending_items : (items : List Item) (i : ℕ) → is_ending_counted c (get_or items i no_item).op ≡ false
      → get_or (map (λ (item : Item). one_if (is_ending_counted c item.op)) items) i 0 ≡ 0
  ending_items [] i e = refl
  ending_items (item ∷ items) zero e = ap one_if e
  ending_items (item ∷ items) (suc i) e = ending_items items i e

  ending_bodies : (funcs : List Func) (f i : ℕ) → is_ending_counted c (item_of (get_or funcs f no_function) i).op ≡ false
      → get_or (get_or (map (body_counts c) funcs) f no_weights).ending i 0 ≡ 0
  ending_bodies [] f i e = refl
  ending_bodies (func ∷ funcs) zero i e = ending_items func.items i e
  ending_bodies (func ∷ funcs) (suc f) i e = ending_bodies funcs f i e

  -- what counts where a walk goes on counts where it ends
  going_free : (o : Op) → is_ending_counted c o ≡ false → is_going_counted c o ≡ false
  going_free o e = going_free_of c o e

  going_items : (items : List Item) (i : ℕ) → is_ending_counted c (get_or items i no_item).op ≡ false
      → get_or (map (λ (item : Item). one_if (is_going_counted c item.op)) items) i 0 ≡ 0
  going_items [] i e = refl
  going_items (item ∷ items) zero e = ap one_if (going_free item.op e)
  going_items (item ∷ items) (suc i) e = going_items items i e

  going_bodies : (funcs : List Func) (f i : ℕ) → is_ending_counted c (item_of (get_or funcs f no_function) i).op ≡ false
      → get_or (get_or (map (body_counts c) funcs) f no_weights).going i 0 ≡ 0
  going_bodies [] f i e = refl
  going_bodies (func ∷ funcs) zero i e = going_items func.items i e
  going_bodies (func ∷ funcs) (suc f) i e = going_bodies funcs f i e

  module _ (app : App) where
    ending_none : (at : Position) → is_ending_counted c (operation_at app at) ≡ false → ending_at (counted_weights c app) at ≡ 0
    ending_none [] e = refl
    ending_none (here ∷ outer) e = ending_bodies app.funcs here.func here.item e

    going_none : (at : Position) → is_ending_counted c (operation_at app at) ≡ false → going_at (counted_weights c app) at ≡ 0
    going_none [] e = refl
    going_none (here ∷ outer) e = going_bodies app.funcs here.func here.item e

    -- positions at which nothing counts have no sum
    none_sum : (positions : List Position) → AllByRecursion (λ at. is_ending_counted c (operation_at app at) ≡ false) positions → sum_of (counted_weights c app) positions ≡ 0
    none_sum [] none = refl
    none_sum (at ∷ []) none = ending_none at none.0
    none_sum (at ∷ next ∷ further) none = let here = going_none at none.0 in let rest = none_sum (next ∷ further) none.1 in omega (arith, here, rest)

    -- those of a part, where nothing counts at a position of its kind
    all_none : (t : ℕ) (Stands : Position → Type 0) (before positions : List Position) → IsWalk app t (before ++ positions) → AllByRecursion Stands positions
        → ((at : Position) → Reaches app t at → Stands at → is_ending_counted c (operation_at app at) ≡ false)
        → AllByRecursion (λ at. is_ending_counted c (operation_at app at) ≡ false) positions
    all_none t Stands before [] walk stands none = tt
    all_none t Stands before (at ∷ further) walk stands none = (
      none at (before, walk_front app t before further at walk) stands.0,
      all_none t Stands (before ++ at ∷ []) further (subst (IsWalk app t) (sym (append_assoc before (at ∷ []) further)) walk) stands.1 none,
    )

    none_above : (t : ℕ) (Begins : List Position → Type 0) (Stands : Position → Type 0) (stops : Op → Bool)
        → ((at : Position) → Reaches app t at → Stands at → is_ending_counted c (operation_at app at) ≡ false)
        → NoneIsAbove (IsPart app t Begins Stands stops) (counted_weights c app) 0
    none_above t Begins Stands stops none positions part =
        let e = none_sum positions (all_none t Stands part.before positions part.of_walk part.stands none) in omega (arith, e)

    told_none : (t : ℕ) (Begins : List Position → Type 0) (Stands : Position → Type 0) (stops : Op → Bool)
        → ((at : Position) → Reaches app t at → Stands at → is_ending_counted c (operation_at app at) ≡ false)
        → IsToldSum (IsPart app t Begins Stands stops) (counted_weights c app) (sum.Counts 0)
    told_none t Begins Stands stops none = (record { none_above = none_above t Begins Stands stops none; attained = inl refl }, omega arith)

    not_counted : (t : ℕ) → ¬ (ReachesCounted app t c) → (at : Position) → Reaches app t at → is_ending_counted c (operation_at app at) ≡ false
    not_counted t free at r = by (is_ending_counted c (operation_at app at)) refl
      where
        by : (b : Bool) → is_ending_counted c (operation_at app at) ≡ b → b ≡ false
        by true e = absurd (free (at, r, e))
        by false e = refl

    -- ---- rounds

    pub rounds_none : (t : ℕ) → ¬ (ReachesCounted app t c) → (clean extended : Bool) → AreRounds app clean extended t (counted_weights c app) no_sums
    rounds_none t free true true =
        are_limited no_sums (λ e. cc) (λ e. cc) (told_none t _ _ _ (λ at r s. not_counted t free at r)) (told_none t _ _ _ (λ at r s. not_counted t free at r))
    rounds_none t free true false = (
      sum.Counts 0,
      are_limited no_sums (λ e. cc) (λ e. cc) (told_none t _ _ _ (λ at r s. not_counted t free at r)) (told_none t _ _ _ (λ at r s. not_counted t free at r)),
      refl,
    )
    rounds_none t free false extended = (told_none t _ _ _ (λ at r s. not_counted t free at r), refl)

    -- ---- sections

    pub section_none : (config : Config) (h k : ℕ) → ¬ (DoesRaised config app h k c) → IsToldSum (IsSection config app h k) (counted_weights c app) (sum.Counts 0)
    section_none config h k free = (record { none_above = none; attained = inl refl }, omega arith)
      where
        by : (at : Position) → Reaches app k at → static_priority config h ≤ priority_at config app k at → (b : Bool) → is_ending_counted c (operation_at app at) ≡ b → b ≡ false
        by at r s true e = absurd (free (at, (r, s), e))
        by at r s false e = refl

        none : NoneIsAbove (IsSection config app h k) (counted_weights c app) 0
        none positions part =
            let uncounted = all_none k (λ at. static_priority config h ≤ priority_at config app k at) part.before positions part.of_walk part.raised
            (λ at r s. by at r s (is_ending_counted c (operation_at app at)) refl) in
            let e = none_sum positions uncounted in omega (arith, e)
