-- A task clears what it waits for where no walk from one WaitEvent to the next leaves a bit of what the second one waits for.
use Rattle.std.proofs.Common.{◌≡◌, ℕ, zero, suc, ◌+◌, ◌*◌, ◌^◌, ◌<◌, ◌≤◌, ◌⊎◌, inl, inr, Bool, true, false, not, ◌&&◌, ◌||◌, cond, min, List, [], ◌∷◌, ◌++◌, length, get_or, refl, ap, sym, ◌∙◌, subst, arith}
use Rattle.std.specs.Prelude.{◌==◌, bit_and}
use Rattle.std.specs.List.{AllByRecursion}
use Rattle.std.specs.Int.{bit_at}
use Rattle.std.proofs.lemmas.Bool.{cases_eq, cases_lt, and_parts, false≢true, true≢false, eq-eqb, ne_eqb}
use Rattle.std.proofs.lemmas.List.{append_assoc}
use Rattle.std.proofs.lemmas.Nat.Bits.{bit_at-zero, bit_at_and, bit_at_or, and_pow, bit_at-pow_same, bit_at-lt, bit_at_above, same_from_bits}
use Rattle.sloth_base.specs.declared.config.Config.{Config}
use Rattle.sloth_base.specs.declared.app.App.{App}
use Rattle.sloth_base.specs.declared.app.Op.{Op}
use Rattle.sloth_base.specs.declared.app.Op.TheVariants as op
use Rattle.sloth_base.specs.declared.service.Service.{Service}
use Rattle.sloth_base.specs.declared.service.Service.TheVariants as service
use Rattle.sloth_base.specs.Named.{operation}
use Rattle.sloth_base.specs.ServiceCodes.{is_service, has_mask}
use Rattle.sloth_base.specs.ConfigRange.{no_event}
use Rattle.code_rules.specs.AppRange.{IsMask, mask_of, AreEvents}
use Rattle.code_rules.specs.Code.{IsItem}
use Rattle.osek_scheduler.proofs.Facts.{Facts}
use Rattle.osek_blocking.specs.Walks.{Position, IsWalk}
use Rattle.osek_blocking.specs.Sections.{operation_at}
use Rattle.bound_rules.specs.declared.bound.BodyWeights.{BodyWeights}
use Rattle.bound_rules.specs.Weights.{going_weight}
use Rattle.walk_sums.specs.Weights.{going_at, ending_at, sum_of}
use Rattle.walk_sums.proofs.Reached.{reached_inside}
use Rattle.walk_sums.specs.declared.levels.Kind.TheVariants as kinds
use Rattle.walk_sums.specs.declared.counted.Counted.TheVariants as counts
use Rattle.walk_sums.specs.Rounds.{OnlyLast, IsPart, IsBehindWait, Anywhere, is_wait, awaited, cleared, cleared_along, IsBetweenWaits, IsClean}
use Rattle.walk_sums.specs.Kinds.{clears, stops}
use Rattle.walk_sums.specs.Counted.{one_if, awaits, counted_weights}
use Rattle.walk_sums.specs.Clears.{ClearsBit}
use Rattle.walk_sums.proofs.CountedWeights.{ending_is, waits_weightless}
use Rattle.walk_sums.proofs.Callers.{walked_to}

-- ---- one bit

zero_times : (p : ℕ) → 0 * p ≡ 0
zero_times p = omega arith

-- a mask has the bit or it has not
has_bit : (mask k : ℕ) → ((bit_at mask k ≡ 1) × (not (bit_and mask (2 ^ k) == 0) ≡ true)) ⊎ ((bit_at mask k ≡ 0) × (not (bit_and mask (2 ^ k) == 0) ≡ false))
has_bit mask k = by (cases_eq (bit_at mask k) 0)
  where
    by : (bit_at mask k ≡ 0) ⊎ (bit_at mask k ≡ 0 → ⊥) → ((bit_at mask k ≡ 1) × (not (bit_and mask (2 ^ k) == 0) ≡ true)) ⊎ ((bit_at mask k ≡ 0) × (not (bit_and mask (2 ^ k) == 0) ≡ false))
    by (inl e) =
        let none : bit_and mask (2 ^ k) ≡ 0 = and_pow mask k ∙ ap (λ b. b * 2 ^ k) e ∙ zero_times (2 ^ k) in
        inr (e, ap not (eq-eqb (bit_and mask (2 ^ k)) 0 none))
    by (inr n) =
        let lt = bit_at-lt mask k in
        let one : bit_at mask k ≡ 1 = omega (arith, lt, n) in
        let is : bit_and mask (2 ^ k) ≡ 1 * 2 ^ k = and_pow mask k ∙ ap (λ b. b * 2 ^ k) one in
        inl (one, ap not (ne_eqb (bit_and mask (2 ^ k)) 0 (λ z. some (2 ^ k) (bit_at-pow_same k) (sym is ∙ z))))
      where
        some : (p : ℕ) → bit_at p k ≡ 1 → 1 * p ≡ 0 → ⊥
        some p has e =
            let none : p ≡ 0 = omega (arith, e) in
            let zero = sym (ap (λ n. bit_at n k) none ∙ bit_at-zero k) ∙ has in
            omega (arith, zero)

-- an operation clears the bit exactly where it is among what it clears
clears_bit : (k : ℕ) (o : Op) → clears (2 ^ k) o ≡ false → bit_at (cleared o) k ≡ 0
clears_bit k (op.Serve call) e = by (is_service call.service service.ClearEvent) refl (has_bit call.mask k)
  where
    by : (b : Bool) → is_service call.service service.ClearEvent ≡ b
        → ((bit_at call.mask k ≡ 1) × (not (bit_and call.mask (2 ^ k) == 0) ≡ true)) ⊎ ((bit_at call.mask k ≡ 0) × (not (bit_and call.mask (2 ^ k) == 0) ≡ false))
        → bit_at (cond (is_service call.service service.ClearEvent) call.mask 0) k ≡ 0
    by false is bit = ap (λ b. bit_at (cond b call.mask 0) k) is ∙ bit_at-zero k
    by true is (inr none) = ap (λ b. bit_at (cond b call.mask 0) k) is ∙ none.0
    by true is (inl some) = absurd (true≢false (sym (ap (λ b. b && not (bit_and call.mask (2 ^ k) == 0)) is ∙ some.1) ∙ e))
clears_bit k _ e = bit_at-zero k

bit_cleared : (k : ℕ) (o : Op) → bit_at (cleared o) k ≡ 0 → clears (2 ^ k) o ≡ false
bit_cleared k (op.Serve call) e = by (is_service call.service service.ClearEvent) refl (has_bit call.mask k)
  where
    by : (b : Bool) → is_service call.service service.ClearEvent ≡ b
        → ((bit_at call.mask k ≡ 1) × (not (bit_and call.mask (2 ^ k) == 0) ≡ true)) ⊎ ((bit_at call.mask k ≡ 0) × (not (bit_and call.mask (2 ^ k) == 0) ≡ false))
        → (is_service call.service service.ClearEvent && not (bit_and call.mask (2 ^ k) == 0)) ≡ false
    by false is bit = ap (λ b. b && not (bit_and call.mask (2 ^ k) == 0)) is
    by true is (inr none) = ap (λ b. b && not (bit_and call.mask (2 ^ k) == 0)) is ∙ none.1
    by true is (inl some) = let zero = sym (ap (λ b. bit_at (cond b call.mask 0) k) is ∙ some.0) ∙ e in absurd (let wrong : ⊥ = omega (arith, zero) in wrong)
bit_cleared k _ e = refl

-- it waits for the bit exactly where it is among what it waits for
awaits_bit : (k : ℕ) (o : Op) → awaits (2 ^ k) o ≡ true → (is_wait o ≡ true) × (bit_at (awaited o) k ≡ 1)
awaits_bit k (op.Serve call) e =
    let both = and_parts (is_service call.service service.WaitEvent) (not (bit_and call.mask (2 ^ k) == 0)) e in
    (both.0, ap (λ b. bit_at (cond b call.mask 0) k) both.0 ∙ by both.1 (has_bit call.mask k))
  where
    by : not (bit_and call.mask (2 ^ k) == 0) ≡ true
        → ((bit_at call.mask k ≡ 1) × (not (bit_and call.mask (2 ^ k) == 0) ≡ true)) ⊎ ((bit_at call.mask k ≡ 0) × (not (bit_and call.mask (2 ^ k) == 0) ≡ false)) → bit_at call.mask k ≡ 1
    by e (inl some) = some.0
    by e (inr none) = absurd (true≢false (sym e ∙ none.1))
awaits_bit k _ e = absurd (false≢true e)

bit_awaited : (k : ℕ) (o : Op) → bit_at (awaited o) k ≡ 1 → awaits (2 ^ k) o ≡ true
bit_awaited k (op.Serve call) e = by (is_service call.service service.WaitEvent) refl (has_bit call.mask k)
  where
    by : (b : Bool) → is_service call.service service.WaitEvent ≡ b
        → ((bit_at call.mask k ≡ 1) × (not (bit_and call.mask (2 ^ k) == 0) ≡ true)) ⊎ ((bit_at call.mask k ≡ 0) × (not (bit_and call.mask (2 ^ k) == 0) ≡ false))
        → (is_service call.service service.WaitEvent && not (bit_and call.mask (2 ^ k) == 0)) ≡ true
    by true is (inl some) = ap (λ b. b && not (bit_and call.mask (2 ^ k) == 0)) is ∙ some.1
    by true is (inr none) = let one = sym (ap (λ b. bit_at (cond b call.mask 0) k) is ∙ none.0) ∙ e in absurd (let wrong : ⊥ = omega (arith, one) in wrong)
    by false is bit = let one = sym (ap (λ b. bit_at (cond b call.mask 0) k) is ∙ bit_at-zero k) ∙ e in absurd (let wrong : ⊥ = omega (arith, one) in wrong)
bit_awaited k _ e = let one = sym (bit_at-zero k) ∙ e in absurd (let wrong : ⊥ = omega (arith, one) in wrong)

or_false : (a b : Bool) → (a || b) ≡ false → (a ≡ false) × (b ≡ false)
or_false true b e = absurd (true≢false e)
or_false false b e = (refl, e)

-- ---- walks

-- positions, and the last one
pub record Split (app : App) (weights : List BodyWeights) (stop : Op → Bool) (positions : List Position) : Type 0 where
  pub between : List Position
  pub last : Position
  pub are : positions ≡ between ++ last ∷ []
  pub none : AllByRecursion (λ at. stop (operation_at app at) ≡ false) between
  pub sum : sum_of weights positions ≡ ending_at weights last

module _ (app : App) (weights : List BodyWeights) (nothing : (f i : ℕ) → going_weight weights f i ≡ 0) (stop : Op → Bool) where
  nothing_at : (at : Position) → going_at weights at ≡ 0
  nothing_at [] = refl
  nothing_at (here ∷ outer) = nothing here.func here.item

  pub split : (at : Position) (further : List Position) → OnlyLast app stop (at ∷ further) → Split app weights stop (at ∷ further)
  split at [] u = record { between = []; last = at; are = refl; none = tt; sum = refl }
  split at (next ∷ further) u =
      let rest = split next further u.1 in
      let is = rest.sum in
      let z = nothing_at at in
      record { between = at ∷ rest.between; last = rest.last; are = ap (λ l. at ∷ l) rest.are; none = (u.0 (λ e. cc), rest.none); sum = omega (arith, is, z) }

  pub only_last : (between : List Position) (to : Position) → AllByRecursion (λ at. stop (operation_at app at) ≡ false) between → OnlyLast app stop (between ++ to ∷ [])
  only_last [] to n = (λ none. absurd (none refl), tt)
  only_last (at ∷ between) to n = (λ _. n.0, only_last between to n.1)

  pub sum_is : (between : List Position) (to : Position) → sum_of weights (between ++ to ∷ []) ≡ ending_at weights to
  sum_is [] to = refl
  sum_is (at ∷ []) to = let z = nothing_at at in omega (arith, z)
  sum_is (at ∷ next ∷ between) to = let again = sum_is (next ∷ between) to in let z = nothing_at at in omega (arith, again, z)

pub anywhere : (positions : List Position) → AllByRecursion (λ (at : Position). Anywhere at) positions
anywhere [] = tt
anywhere (at ∷ further) = (tt, anywhere further)

module _ (config : Config) (app : App) (w : Facts config app) (t : ℕ) (declared : t < length config.tasks) (k : ℕ) where
  abbrev weights : List BodyWeights
  weights = counted_weights (counts.Waits (2 ^ k)) app

  abbrev Stop : Op → Bool
  Stop = stops (kinds.Uncleared (2 ^ k))

  -- what the last position weighs
  last_is : (before : List Position) (at : Position) → IsWalk app t (before ++ at ∷ []) → ending_at weights at ≡ one_if (awaits (2 ^ k) (operation_at app at))
  last_is before [] walk =
      absurd (walked_to config app w t declared before [] [] walk).0
  last_is before (here ∷ outer) walk =
      let s = (walked_to config app w t declared before (here ∷ outer) [] walk).0 in
      ending_is (counts.Waits (2 ^ k)) app here.func here.item s.0 (reached_inside config app w here.func here.item s.0 s.1)

  no_wait : (between : List Position) → AllByRecursion (λ at. Stop (operation_at app at) ≡ false) between → AllByRecursion (λ at. is_wait (operation_at app at) ≡ false) between
  no_wait [] n = tt
  no_wait (at ∷ between) n = ((or_false (is_wait (operation_at app at)) (clears (2 ^ k) (operation_at app at)) n.0).0, no_wait between n.1)

  not_cleared : (between : List Position) → AllByRecursion (λ at. Stop (operation_at app at) ≡ false) between → bit_at (cleared_along app between) k ≡ 0
  not_cleared [] n = bit_at-zero k
  not_cleared (at ∷ between) n =
      let here = clears_bit k (operation_at app at) (or_false (is_wait (operation_at app at)) (clears (2 ^ k) (operation_at app at)) n.0).1 in
      let rest = not_cleared between n.1 in
      let is = bit_at_or (cleared (operation_at app at)) (cleared_along app between) k in
      omega (arith, here, rest, is)

  all_stops : (between : List Position) → AllByRecursion (λ at. is_wait (operation_at app at) ≡ false) between → bit_at (cleared_along app between) k ≡ 0
      → AllByRecursion (λ at. Stop (operation_at app at) ≡ false) between
  all_stops [] n z = tt
  all_stops (at ∷ between) n z =
      let is = bit_at_or (cleared (operation_at app at)) (cleared_along app between) k in
      let here : bit_at (cleared (operation_at app at)) k ≡ 0 = omega (arith, is, z) in
      let rest : bit_at (cleared_along app between) k ≡ 0 = omega (arith, is, z) in
      (ap (λ b. b || clears (2 ^ k) (operation_at app at)) n.0 ∙ bit_cleared k (operation_at app at) here, all_stops between n.1 rest)

  -- a clean task clears the bit
  pub clean_clears : IsClean app t → ClearsBit app t k
  clean_clears clean [] is = omega arith
  clean_clears clean (at ∷ further) is =
      let s = split app weights (waits_weightless (2 ^ k) app) Stop at further is.unbroken in
      let P : List Position → Type 0 = λ l. IsWalk app t (is.before ++ l) in
      let walk = subst P s.are is.of_walk in
      by s.between s.last s.none s.sum (subst (IsWalk app t) (sym (append_assoc is.before s.between (s.last ∷ []))) walk) walk (cases_le (sum_of weights (at ∷ further)))
    where
      cases_le : (n : ℕ) → (n ≤ 0) ⊎ (0 < n)
      cases_le zero = inl (omega arith)
      cases_le (suc n) = inr (omega arith)

      by : (between : List Position) (last : Position) → AllByRecursion (λ at. Stop (operation_at app at) ≡ false) between → sum_of weights (at ∷ further) ≡ ending_at weights last
          → IsWalk app t ((is.before ++ between) ++ last ∷ []) → IsWalk app t (is.before ++ (between ++ last ∷ [])) → (sum_of weights (at ∷ further) ≤ 0) ⊎ (0 < sum_of weights (at ∷ further))
          → sum_of weights (at ∷ further) ≤ 0
      by between last none sum grouped walk (inl le) = le
      by between last none sum grouped walk (inr lt) = absurd (wrong is.begins)
        where
          weighs : ending_at weights last ≡ one_if (awaits (2 ^ k) (operation_at app last))
          weighs = last_is (is.before ++ between) last grouped

          waits : awaits (2 ^ k) (operation_at app last) ≡ true
          waits = is_true (awaits (2 ^ k) (operation_at app last)) weighs
            where
              is_true : (b : Bool) → ending_at weights last ≡ one_if b → b ≡ true
              is_true true e = refl
              is_true false e = absurd (omega (arith, e, sum, lt))

          wrong : IsBehindWait app is.before → ⊥
          wrong (front, from, behind, first) =
              let Q : List Position → Type 0 = λ b. IsWalk app t (b ++ (between ++ last ∷ [])) in
              let whole = subst (IsWalk app t) (append_assoc front (from ∷ []) (between ++ last ∷ [])) (subst Q behind walk) in
              let a = awaits_bit k (operation_at app last) waits in
              let kept = clean from last between (record { before = front; of_walk = whole; first = first; none = no_wait between none; last = a.0 }) in
              let bit = a.1 in
              let z = not_cleared between none in
              let both = sym (bit_at_and (awaited (operation_at app last)) (cleared_along app between) k) ∙ ap (λ n. bit_at n k) kept in
              omega (arith, bit, z, both)

  -- between two WaitEvents a task that clears the bit clears it where the second one waits for it
  pub bit_kept : ClearsBit app t k → (from to : Position) (between : List Position) → IsBetweenWaits app t from between to
      → min (bit_at (awaited (operation_at app to)) k) (bit_at (cleared_along app between) k) ≡ bit_at (awaited (operation_at app to)) k
  bit_kept clears from to between is = by (cases_eq (bit_at (awaited (operation_at app to)) k) 0) (cases_eq (bit_at (cleared_along app between) k) 0)
    where
      by : (bit_at (awaited (operation_at app to)) k ≡ 0) ⊎ (bit_at (awaited (operation_at app to)) k ≡ 0 → ⊥) → (bit_at (cleared_along app between) k ≡ 0) ⊎ (bit_at (cleared_along app between) k ≡ 0 → ⊥)
          → min (bit_at (awaited (operation_at app to)) k) (bit_at (cleared_along app between) k) ≡ bit_at (awaited (operation_at app to)) k
      by (inl z) other = omega (arith, z)
      by (inr n) (inr c) =
          let a = bit_at-lt (awaited (operation_at app to)) k in
          let b = bit_at-lt (cleared_along app between) k in
          omega (arith, n, c, a, b)
      by (inr n) (inl c) = absurd wrong
        where
          one : bit_at (awaited (operation_at app to)) k ≡ 1
          one = let lt = bit_at-lt (awaited (operation_at app to)) k in omega (arith, n, lt)

          walk : IsWalk app t ((is.before ++ from ∷ []) ++ (between ++ to ∷ []))
          walk = subst (IsWalk app t) (sym (append_assoc is.before (from ∷ []) (between ++ to ∷ []))) is.of_walk

          grouped : IsWalk app t (((is.before ++ from ∷ []) ++ between) ++ to ∷ [])
          grouped = subst (IsWalk app t) (sym (append_assoc (is.before ++ from ∷ []) between (to ∷ []))) walk

          part : IsPart app t (IsBehindWait app) Anywhere Stop (between ++ to ∷ [])
          part = record {
            before = is.before ++ from ∷ [];
            of_walk = walk;
            begins = (is.before, from, refl, is.first);
            stands = anywhere (between ++ to ∷ []);
            unbroken = only_last app weights (waits_weightless (2 ^ k) app) Stop between to (all_stops between is.none c);
          }

          wrong : ⊥
          wrong =
              let le = clears (between ++ to ∷ []) part in
              let sum = sum_is app weights (waits_weightless (2 ^ k) app) Stop between to in
              let last = last_is ((is.before ++ from ∷ []) ++ between) to grouped ∙ ap one_if (bit_awaited k (operation_at app to) one) in
              omega (arith, le, sum, last)

-- ---- all bits

high_bits : (config : Config) (events : List ℕ) → ((j : ℕ) → j < length events → get_or events j 0 < length config.events)
    → ((e : ℕ) → e < length config.events → (get_or config.events e no_event).mask < 2 ^ 32) → (i : ℕ) → 32 ≤ i → bit_at (mask_of config events) i ≡ 0
high_bits config [] declared small i le = bit_at-zero i
high_bits config (e ∷ events) declared small i le =
    let here = bit_at_above (get_or config.events e no_event).mask 32 i (small e (declared 0 (omega arith))) le in
    let rest = high_bits config events (λ j lt. declared (suc j) (omega (arith, lt))) small i le in
    let is = bit_at_or (get_or config.events e no_event).mask (mask_of config events) i in
    omega (arith, here, rest, is)

module _ (config : Config) (app : App) (w : Facts config app) where
  masks_high : (mask : ℕ) → IsMask config mask → (i : ℕ) → 32 ≤ i → bit_at mask i ≡ 0
  masks_high mask m i le =
      ap (λ n. bit_at n i) m.is ∙ high_bits config (m.first ∷ m.more) (λ j lt. m.declared j 0 lt) (λ e lt. (w.in_range.configuration.masks e no_event lt).1) i le

  -- no WaitEvent waits for a bit above the 32nd
  awaited_high : (o : Op) (f i : ℕ) → IsItem app f i o → (k : ℕ) → 32 ≤ k → bit_at (awaited o) k ≡ 0
  awaited_high (op.Serve call) f i item k le = by call.service (w.items f i (op.Serve call) item).1
    where
      by : (s : Service) → AreEvents config (has_mask s) call.mask → bit_at (cond (is_service s service.WaitEvent) call.mask 0) k ≡ 0
      by service.WaitEvent m = masks_high call.mask m k le
      by service.ActivateTask m = bit_at-zero k
      by _ m = bit_at-zero k
  awaited_high _ f i item k le = bit_at-zero k

  module _ (t : ℕ) (declared : t < length config.tasks) where
    to_high : (before : List Position) (to : Position) → IsWalk app t (before ++ to ∷ []) → (k : ℕ) → 32 ≤ k → bit_at (awaited (operation_at app to)) k ≡ 0
    to_high before [] walk k le = bit_at-zero k
    to_high before (here ∷ outer) walk k le =
        let s = (walked_to config app w t declared before (here ∷ outer) [] walk).0 in
        awaited_high (operation app here.func here.item) here.func here.item
        (record { known = s.0; inside = reached_inside config app w here.func here.item s.0 s.1; is = refl }) k le

    -- a task that clears each bit is clean
    pub clears_clean : ((k : ℕ) → k < 32 → ClearsBit app t k) → IsClean app t
    clears_clean clears from to between is =
        same_from_bits (bit_and (awaited (operation_at app to)) (cleared_along app between)) (awaited (operation_at app to))
        (λ i. bit_at_and (awaited (operation_at app to)) (cleared_along app between) i ∙ by i (cases_lt i 32))
      where
        walk : IsWalk app t ((is.before ++ from ∷ []) ++ (between ++ to ∷ []))
        walk = subst (IsWalk app t) (sym (append_assoc is.before (from ∷ []) (between ++ to ∷ []))) is.of_walk

        grouped : IsWalk app t (((is.before ++ from ∷ []) ++ between) ++ to ∷ [])
        grouped = subst (IsWalk app t) (sym (append_assoc (is.before ++ from ∷ []) between (to ∷ []))) walk

        by : (i : ℕ) → (i < 32) ⊎ (32 ≤ i) → min (bit_at (awaited (operation_at app to)) i) (bit_at (cleared_along app between) i) ≡ bit_at (awaited (operation_at app to)) i
        by i (inl lt) = bit_kept config app w t declared i (clears i lt) from to between is
        by i (inr le) = let z = to_high ((is.before ++ from ∷ []) ++ between) to grouped i le in omega (arith, z)
