-- What is read is in range.
use Rattle.std.proofs.Common.{◌≡◌, ◌∙◌, inl, inr, ℕ, zero, suc, ◌+◌, ◌-◌, ◌<◌, ◌≤◌, Bool, true, false, not, List, [], ◌∷◌, ◌++◌, Option, Some, None, take, length, length-append, arith, cond, refl, sym, ap, subst}
use Rattle.std.specs.Prelude.{◌==◌, ◌&&◌, ◌||◌, nat_le, nat_lt, is_some, unwrap_or, bytes_eq, slice_index_or, IfSome}
use Rattle.std.specs.List.{All}
use Rattle.std.proofs.lemmas.Bool.{and_from, le-leb, leb-false, lt-ltb, ltb-false, or_parts}
use Rattle.std.proofs.lemmas.Option.{none-some, same_Some}
use Rattle.std.proofs.lemmas.List.{length-take}
use Rattle.std.proofs.lemmas.List.Elements.{All-nil, All-cons, All-append, All-head, All-tail}
use Rattle.std.proofs.lemmas.List.Quantifiers.{position-Some}
use Rattle.std.proofs.Math.Nat.{min-le_left, min-le_right}
use Rattle.sloth_base.specs.Arrivals.{AreArrivals, AreRisingMoments}
use Rattle.sloth_base.specs.declared.service.Arrival.{Arrival}
use Rattle.sloth_base.specs.declared.refusal.Part.TheVariants.{Arr}
use Rattle.sloth_base.specs.declared.refusal.Code.TheVariants.{T2, T3, T4}
use Rattle.sloth_base.specs.Owners.{IsOwned, counter_line, first_counter_line, is_counter_line}
use Rattle.sloth_base.specs.declared.numbers.LineKind.TheVariants as line_of
use Rattle.sloth_base.specs.declared.numbers.Owners.{Owners}
use Rattle.sloth_base.specs.Limits.{count_limit, arrival_limit}
use Rattle.sloth_base.proofs.Owners.{task_owned}
use Rattle.sloth_base.specs.Order.{NoFault}
use Rattle.sloth_base.proofs.Nowhere.{case_false}
use Rattle.trace_text.specs.ArrivalsText.{is_arrival, moment_of, line_of_either, named_among, owner_line, named_line, name_text, arrival_of, last_moment, is_outside, is_t2, is_t3, is_t4, ArrivalLineFault, owners_read}

last-at : (none : ℕ) (xs : List Arrival) (k : ℕ) (d : Arrival) → length xs ≡ suc k → (slice_index_or xs k d).at ≡ last_moment none xs
last-at none [] k d h = absurd (omega (arith, h))
last-at none (x ∷ []) zero d h = refl
last-at none (x ∷ []) (suc k) d h = absurd (omega (arith, h))
last-at none (x ∷ y ∷ xs) zero d h = absurd (omega (arith, h))
last-at none (x ∷ y ∷ xs) (suc k) d h = last-at x.at (y ∷ xs) k d (omega (arith, h))

-- the moment of the last arrival of a list that has one
pub last-is : (none : ℕ) (xs : List Arrival) (d : Arrival) → (length xs == 0) ≡ false → (slice_index_or xs (length xs - 1) d).at ≡ last_moment none xs
last-is none [] d h = cc
last-is none (x ∷ xs) d h = last-at none (x ∷ xs) (length (x ∷ xs) - 1) d (omega arith)

pub last-fits : (none : ℕ) (xs : List Arrival) → none ≤ count_limit → All (λ a. a.at ≤ count_limit) xs → last_moment none xs ≤ count_limit
last-fits none [] h all = h
last-fits none (x ∷ xs) h all = last-fits x.at xs (All-head (λ a. a.at ≤ count_limit) x xs all) (All-tail (λ a. a.at ≤ count_limit) x xs all)

-- a place that is found is one of the first
pub found-below : (o : Option ℕ) (most : ℕ) (names : List (List ℕ)) (word : List ℕ) → o ≡ named_among most names word → (i : ℕ) → o ≡ Some i → (i < most) × (i < length names)
found-below o most names word q i e =
    let h = (position-Some (bytes_eq word) (take most names) i [] (sym q ∙ e)).0 in
    let l = length-take most names in
    let a = min-le_left most (length names) in
    let b = min-le_right most (length names) in
    (omega (arith, h, l, a), omega (arith, h, l, b))

-- the line of a counter has an owner, also where it is a task's
counter-owned : (owners : Owners) (c : ℕ) → c < owners.counters → IsOwned owners (counter_line c)
counter-owned owners c h = by (nat_lt (counter_line c) owners.tasks)
  where
    tested : is_counter_line owners (counter_line c) ≡ true
    tested = and_from _ _ (le-leb first_counter_line (counter_line c) (omega arith)) (lt-ltb (counter_line c - first_counter_line) owners.counters (omega (arith, h)))

    counted : (b : Bool) → b ≡ true → cond b (line_of.Counter (counter_line c - first_counter_line)) line_of.Unused ≡ line_of.Unused → ⊥
    counted true is e = cc
    counted false is e = cc

    by : (b : Bool) → cond b (line_of.Task (counter_line c)) (cond (is_counter_line owners (counter_line c)) (line_of.Counter (counter_line c - first_counter_line)) line_of.Unused) ≡ line_of.Unused → ⊥
    by true e = cc
    by false e = counted (is_counter_line owners (counter_line c)) tested e

-- the line that a name has, where it has one, has an owner
either-owned : (tasks counters : List (List ℕ)) (word : List ℕ) (t c : Option ℕ) → t ≡ named_among 256 tasks word → c ≡ named_among 226 counters word
    → (k : ℕ) → line_of_either t c ≡ Some k → IsOwned (owners_read tasks counters) k
either-owned tasks counters word (Some t) c p q k e =
    subst (IsOwned (owners_read tasks counters)) (same_Some t k e) (task_owned (owners_read tasks counters) t (found-below (Some t) 256 tasks word p t refl).1)
either-owned tasks counters word None (Some c) p q k e =
    subst (IsOwned (owners_read tasks counters)) (same_Some (counter_line c) k e)
    (counter-owned (owners_read tasks counters) c (found-below (Some c) 226 counters word q c refl).1)
either-owned tasks counters word None None p q k e = absurd (none-some k e)

pub line-owned : (tasks counters : List (List ℕ)) (word : List ℕ) (k : ℕ) → owner_line tasks counters word ≡ Some k → IsOwned (owners_read tasks counters) k
line-owned tasks counters word k e =
    either-owned tasks counters word (named_among 256 tasks word) (named_among 226 counters word) refl refl k e

pub some-is : (o : Option ℕ) (P : ℕ → Type 0) → ((i : ℕ) → o ≡ Some i → P i) → IfSome o P
some-is None P f = tt
some-is (Some i) P f = f i refl

falls : (b : ℕ) (xs : List Arrival) (a : Arrival) → AreRisingMoments b xs → last_moment b xs ≤ a.at → AreRisingMoments b (xs ++ a ∷ [])
falls b [] a n l = (l, tt)
falls b (x ∷ xs) a n l = (n.0, falls x.at xs a n.1 l)

last-by : (xs : List Arrival) (m : ℕ) → last_moment 0 xs ≤ m → 1 ≤ m → last_moment 1 xs ≤ m
last-by [] m l h = h
last-by (x ∷ xs) m l h = l

pub without : (a b : Bool) → a ≡ true → (a && b) ≡ false → b ≡ false
without true b e h = h
without false b e h = cc

pub some-of : (o : Option ℕ) → not (is_some o) ≡ false → (i : ℕ) × (o ≡ Some i)
some-of None h = cc
some-of (Some i) h = (i, refl)

module _ (tasks counters : List (List ℕ)) (before : List Arrival) (n : ℕ) (line : List ℕ) (none : NoFault (ArrivalLineFault tasks counters before n line)) (is : is_arrival line ≡ true) where
  is-in : (nat_le arrival_limit (length before) ≡ false) × (nat_lt (moment_of line) 1 ≡ false) × (nat_lt count_limit (moment_of line) ≡ false)
  is-in =
      let t4 = case_false Arr (is_t4 before line) n T4 (λ r f. none r (inr (inr (inr f)))) in
      let w = or_parts (nat_le arrival_limit (length before)) (is_outside line) (without (is_arrival line) (nat_le arrival_limit (length before) || is_outside line) is t4) in
      let v = or_parts (nat_lt (moment_of line) 1) (nat_lt count_limit (moment_of line)) w.1 in
      (w.0, v.0, v.1)

  pub moment-fits : moment_of line ≤ count_limit
  moment-fits = ltb-false count_limit (moment_of line) is-in.2

  names-owner : IsOwned (owners_read tasks counters) (unwrap_or (named_line tasks counters line) 0)
  names-owner =
      let t2 = case_false Arr (is_t2 tasks counters line) n T2 (λ r f. none r (inr (inl f))) in
      let some = some-of (named_line tasks counters line) (without (is_arrival line) (not (is_some (named_line tasks counters line))) is t2) in
      let e : unwrap_or (named_line tasks counters line) 0 ≡ some.0 = ap (λ o. unwrap_or o 0) some.1 in
      subst (IsOwned (owners_read tasks counters)) (sym e)
      (line-owned tasks counters (name_text line) some.0 some.1)

  rises : last_moment 0 before ≤ moment_of line
  rises =
      let t3 = case_false Arr (is_t3 before line) n T3 (λ r f. none r (inr (inr (inl f)))) in
      ltb-false (moment_of line) (last_moment 0 before) (without (is_arrival line) (nat_lt (moment_of line) (last_moment 0 before)) is t3)

  -- one arrival more
  pub one-more : AreArrivals (owners_read tasks counters) before → AreArrivals (owners_read tasks counters) (before ++ arrival_of tasks counters line ∷ [])
  one-more h =
      let a = arrival_of tasks counters line in
      let single : (P : Arrival → Type 0) → P a → All P (a ∷ []) = λ P p. All-cons P a [] p (All-nil P) in
      let few = leb-false arrival_limit (length before) is-in.0 in
      let l : length (before ++ a ∷ []) ≡ length before + 1 = length-append before (a ∷ []) in
      record {
        few = omega (arith, few, l);
        moments_in_range = All-append (λ a. a.at ≤ count_limit) before (a ∷ []) h.moments_in_range (single (λ a. a.at ≤ count_limit) moment-fits);
        ordered = falls 1 before a h.ordered (last-by before (moment_of line) rises (ltb-false (moment_of line) 1 is-in.1));
        lines_owned = All-append (λ a. IsOwned (owners_read tasks counters) a.line) before (a ∷ []) h.lines_owned (single (λ a. IsOwned (owners_read tasks counters) a.line) names-owner);
      }
