-- The admits are the first arrivals, moment for moment, and the end of the run leaves the others out.
use Rattle.std.proofs.Common.{◌≡◌, ◌∙◌, ℕ, zero, suc, ◌+◌, ◌/◌, ◌%◌, ◌-◌, ◌<◌, ◌≤◌, ◌⊎◌, inl, inr, List, [], ◌∷◌, ◌++◌, Bool, true, false, cond, map, take, drop, length, get_or, Option, Some, None, refl, sym, ap, subst, arith, length-append}
use Rattle.std.specs.Prelude.{◌==◌, ◌&&◌, leb, ltb, All}
use Rattle.std.proofs.lemmas.Bool.{and_parts, and_from, eq-eqb, ne_eqb, cases_lt, cases_eq, leb-true, leb-false, le-leb, lt-leb, ltb-true, lt-ltb}
use Rattle.std.proofs.lemmas.List.{length-map}
use Rattle.std.proofs.Math.Seq.{take-append_seam, drop-append_seam}
use Rattle.std.proofs.lemmas.List.Elements.{All-cons, All-head, All-tail}
use Rattle.std.proofs.lemmas.List.Sums.{sum_by-cons, sum_by-append}
use Rattle.sloth_base.specs.Arrivals.{AreRisingMoments}
use Rattle.sloth_base.specs.Options.{is_number}
use Rattle.sloth_base.specs.declared.config.Config.{Config}
use Rattle.sloth_base.specs.declared.service.Arrival.{Arrival}
use Rattle.sloth_base.specs.declared.service.Stamped.{Stamped}
use Rattle.sloth_base.specs.Events.{admitted_line}
use Rattle.osek_scheduler.specs.InTime.{admits_at, arrivals_at, AreAllAdmitted, AreLeftOut, IsStamped, longest_cut_off_stretch, others}
use Rattle.trace_check.specs.Counts.{number_at, arrival_number, with_admit, admit_numbers, times, SameCounts, last_moment, may_leave, IsLineInRange, AreLinesInRange}
use Rattle.trace_check.proofs.Endings.{Ending}
use Rattle.trace_check.proofs.Counts.{same_length}

-- ---- counts of numbers are counts of admits and of arrivals

number_apart : (k t a u : ℕ) → t < 4294967296 → u < 4294967296 → number_at a u ≡ number_at k t → (a ≡ k) × (u ≡ t)
number_apart k t a u p q h = (omega (arith, p, q, h), omega (arith, p, q, h))

and_no : (b : Bool) → (b && false) ≡ false
and_no true = refl
and_no false = refl

test_is : (k t a u : ℕ) → t < 4294967296 → u < 4294967296 → (number_at a u == number_at k t) ≡ ((u == t) && (a == k))
test_is k t a u p q = by (cases_eq (number_at a u) (number_at k t))
  where
    by : (number_at a u ≡ number_at k t) ⊎ (number_at a u ≡ number_at k t → ⊥) → (number_at a u == number_at k t) ≡ ((u == t) && (a == k))
    by (inl e) =
        let same = number_apart k t a u p q e in
        eq-eqb (number_at a u) (number_at k t) e ∙ sym (and_from (u == t) (a == k) (eq-eqb u t same.1) (eq-eqb a k same.0))
    by (inr n) = ne_eqb (number_at a u) (number_at k t) n ∙ sym (neither (cases_eq u t) (cases_eq a k))
      where
        neither : (u ≡ t) ⊎ (u ≡ t → ⊥) → (a ≡ k) ⊎ (a ≡ k → ⊥) → ((u == t) && (a == k)) ≡ false
        neither (inl x) (inl y) = absurd (n (ap (λ (v : ℕ). number_at v u) y ∙ ap (number_at k) x))
        neither (inl x) (inr y) = ap (λ b. (u == t) && b) (ne_eqb a k y) ∙ and_no (u == t)
        neither (inr x) y = ap (λ b. b && (a == k)) (ne_eqb u t x)

module _ (k t : ℕ) (small : t < 4294967296) where
  pub admits_counted : (events : List Stamped) → AreLinesInRange events → admits_at k t events ≡ times (number_at k t) (admit_numbers events)
  admits_counted [] h = refl
  admits_counted (e ∷ events) h =
      sum_by-cons (λ (x : Stamped). cond (is_number t (admitted_line x.event) && (x.stamp.at == k)) 1 0) e events
      ∙ (ap (λ n. cond (is_number t (admitted_line e.event) && (e.stamp.at == k)) 1 0 + n) (admits_counted events (All-tail (λ (x : Stamped). IsLineInRange (admitted_line x.event)) e events h))
      ∙ by (admitted_line e.event) (All-head (λ (x : Stamped). IsLineInRange (admitted_line x.event)) e events h))
    where
      by : (o : Option ℕ) → IsLineInRange o → cond (is_number t o && (e.stamp.at == k)) 1 0 + times (number_at k t) (admit_numbers events)
          ≡ times (number_at k t) (with_admit o e.stamp.at (admit_numbers events))
      by (Some u) s = ap (λ b. cond b 1 0 + times (number_at k t) (admit_numbers events)) (sym (test_is k t e.stamp.at u small s))
      by None s = omega arith

  pub arrivals_counted : (arrivals : List Arrival) → All (λ a. a.line < 4294967296) arrivals → arrivals_at k t arrivals ≡ times (number_at k t) (map arrival_number arrivals)
  arrivals_counted [] h = refl
  arrivals_counted (a ∷ arrivals) h =
      sum_by-cons (λ (x : Arrival). cond ((x.line == t) && (x.at == k)) 1 0) a arrivals
      ∙ (ap (λ n. cond ((a.line == t) && (a.at == k)) 1 0 + n) (arrivals_counted arrivals (All-tail (λ (x : Arrival). x.line < 4294967296) a arrivals h))
      ∙ ap (λ b. cond b 1 0 + times (number_at k t) (map arrival_number arrivals)) (sym (test_is k t a.at a.line small (All-head (λ (x : Arrival). x.line < 4294967296) a arrivals h))))

-- a number that no 32 bits hold counts nowhere
module _ (k t : ℕ) (great : 4294967296 ≤ t) where
  pub no_admits : (events : List Stamped) → AreLinesInRange events → admits_at k t events ≡ 0
  no_admits [] h = refl
  no_admits (e ∷ events) h =
      sum_by-cons (λ (x : Stamped). cond (is_number t (admitted_line x.event) && (x.stamp.at == k)) 1 0) e events
      ∙ (ap (λ n. cond (is_number t (admitted_line e.event) && (e.stamp.at == k)) 1 0 + n) (no_admits events (All-tail (λ (x : Stamped). IsLineInRange (admitted_line x.event)) e events h))
      ∙ by (admitted_line e.event) (All-head (λ (x : Stamped). IsLineInRange (admitted_line x.event)) e events h))
    where
      by : (o : Option ℕ) → IsLineInRange o → cond (is_number t o && (e.stamp.at == k)) 1 0 + 0 ≡ 0
      by (Some u) s = ap (λ b. cond (b && (e.stamp.at == k)) 1 0 + 0) (ne_eqb u t (λ same. omega (arith, same, s, great)))
      by None s = refl

  pub no_arrivals : (arrivals : List Arrival) → All (λ a. a.line < 4294967296) arrivals → arrivals_at k t arrivals ≡ 0
  no_arrivals [] h = refl
  no_arrivals (a ∷ arrivals) h =
      sum_by-cons (λ (x : Arrival). cond ((x.line == t) && (x.at == k)) 1 0) a arrivals
      ∙ (ap (λ n. cond ((a.line == t) && (a.at == k)) 1 0 + n) (no_arrivals arrivals (All-tail (λ (x : Arrival). x.line < 4294967296) a arrivals h))
      ∙ ap (λ b. cond (b && (a.at == k)) 1 0 + 0) (ne_eqb a.line t (λ same. let s = All-head (λ (x : Arrival). x.line < 4294967296) a arrivals h in omega (arith, same, s, great))))

-- ---- parts of the arrivals

abbrev one_if : Bool → ℕ
one_if b = cond b 1 0

counts_one : (a : Arrival) → one_if ((a.line == a.line) && (a.at == a.at)) ≡ 1
counts_one a = by ((a.line == a.line) && (a.at == a.at)) (and_from (a.line == a.line) (a.at == a.at) (eq-eqb a.line a.line refl) (eq-eqb a.at a.at refl))
  where
    by : (b : Bool) → b ≡ true → one_if b ≡ 1
    by true e = refl
    by false e = absurd cc

arrivals-append : (k t : ℕ) (xs ys : List Arrival) → arrivals_at k t (xs ++ ys) ≡ arrivals_at k t xs + arrivals_at k t ys
arrivals-append k t xs ys = sum_by-append (λ (x : Arrival). cond ((x.line == t) && (x.at == k)) 1 0) xs ys

-- none of these is of that moment
module _ (k t : ℕ) where
  none_here : (arrivals : List Arrival) → All (λ a. a.at ≡ k → ⊥) arrivals → arrivals_at k t arrivals ≡ 0
  none_here [] h = refl
  none_here (a ∷ arrivals) h =
      sum_by-cons (λ (x : Arrival). cond ((x.line == t) && (x.at == k)) 1 0) a arrivals
      ∙ (ap (λ m. cond ((a.line == t) && (a.at == k)) 1 0 + m) (none_here arrivals (All-tail (λ (x : Arrival). x.at ≡ k → ⊥) a arrivals h))
      ∙ (ap (λ b. cond ((a.line == t) && b) 1 0 + 0) (ne_eqb a.at k (All-head (λ (x : Arrival). x.at ≡ k → ⊥) a arrivals h)) ∙ by (a.line == t)))
    where
      by : (b : Bool) → cond (b && false) 1 0 + 0 ≡ 0
      by true = refl
      by false = refl

  none_admitted : (events : List Stamped) → All (λ e. e.stamp.at ≡ k → ⊥) events → admits_at k t events ≡ 0
  none_admitted [] h = refl
  none_admitted (e ∷ events) h =
      sum_by-cons (λ (x : Stamped). cond (is_number t (admitted_line x.event) && (x.stamp.at == k)) 1 0) e events
      ∙ (ap (λ m. cond (is_number t (admitted_line e.event) && (e.stamp.at == k)) 1 0 + m) (none_admitted events (All-tail (λ (x : Stamped). x.stamp.at ≡ k → ⊥) e events h))
      ∙ (ap (λ b. cond (is_number t (admitted_line e.event) && b) 1 0 + 0) (ne_eqb e.stamp.at k (All-head (λ (x : Stamped). x.stamp.at ≡ k → ⊥) e events h)) ∙ by (is_number t (admitted_line e.event))))
    where
      by : (b : Bool) → cond (b && false) 1 0 + 0 ≡ 0
      by true = refl
      by false = refl

all_from : (b : ℕ) (arrivals : List Arrival) → AreRisingMoments b arrivals → All (λ a. b ≤ a.at) arrivals
all_from b [] h = λ k d l. absurd (omega (arith, l))
all_from b (a ∷ arrivals) h =
    let le = h.0 in
    let rest = all_from a.at arrivals h.1 in
    All-cons (λ (x : Arrival). b ≤ x.at) a arrivals le (λ k d l. let r = rest k d l in omega (arith, r, le))

falls_front : (b : ℕ) (xs ys : List Arrival) → AreRisingMoments b (xs ++ ys) → AreRisingMoments b xs
falls_front b [] ys h = tt
falls_front b (x ∷ xs) ys h = (h.0, falls_front x.at xs ys h.1)

falls_weaker : (b c : ℕ) (xs : List Arrival) → b ≤ c → AreRisingMoments c xs → AreRisingMoments b xs
falls_weaker b c [] le h = tt
falls_weaker b c (x ∷ xs) le h = let l = h.0 in (omega (arith, le, l), h.1)

falls_back : (b : ℕ) (xs ys : List Arrival) → AreRisingMoments b (xs ++ ys) → AreRisingMoments b ys
falls_back b [] ys h = h
falls_back b (x ∷ xs) ys h = falls_weaker b x.at ys h.0 (falls_back x.at xs ys h.1)

below_last : (b : ℕ) (xs : List Arrival) → AreRisingMoments b xs → (All (λ a. a.at ≤ last_moment xs) xs)
below_last b [] h = λ k d l. absurd (omega (arith, l))
below_last b (a ∷ []) h = All-cons (λ (x : Arrival). x.at ≤ a.at) a [] (omega arith) (λ k d l. absurd (omega (arith, l)))
below_last b (a ∷ c ∷ xs) h =
    let ih = below_last a.at (c ∷ xs) h.1 in
    let first = All-head (λ (x : Arrival). x.at ≤ last_moment (c ∷ xs)) c xs ih in
    let le = h.1.0 in
    All-cons (λ (x : Arrival). x.at ≤ last_moment (c ∷ xs)) a (c ∷ xs) (omega (arith, first, le)) ih

last_below : (k : ℕ) (xs : List Arrival) → 0 < k → All (λ a. a.at < k) xs → last_moment xs < k
last_below k [] p h = p
last_below k (a ∷ []) p h = All-head (λ (x : Arrival). x.at < k) a [] h
last_below k (a ∷ c ∷ xs) p h = last_below k (c ∷ xs) p (All-tail (λ (x : Arrival). x.at < k) a (c ∷ xs) h)

-- the arrivals before a moment, and the others
record Parts (k : ℕ) (arrivals : List Arrival) : Type 0 where
  front : List Arrival
  back : List Arrival
  is : arrivals ≡ front ++ back
  low : All (λ a. a.at < k) front
  high : All (λ a. k ≤ a.at) back

parts : (k b : ℕ) (arrivals : List Arrival) → AreRisingMoments b arrivals → Parts k arrivals
parts k b [] h = record { front = []; back = []; is = refl; low = λ i d l. absurd (omega (arith, l)); high = λ i d l. absurd (omega (arith, l)) }
parts k b (a ∷ arrivals) h = by (cases_lt a.at k) (parts k a.at arrivals h.1)
  where
    by : (a.at < k) ⊎ (k ≤ a.at) → Parts k arrivals → Parts k (a ∷ arrivals)
    by (inl less) p = record {
      front = a ∷ p.front;
      back = p.back;
      is = ap (λ (l : List Arrival). a ∷ l) p.is;
      low = All-cons (λ (x : Arrival). x.at < k) a p.front less p.low;
      high = p.high;
    }
    by (inr le) p = record {
      front = [];
      back = a ∷ arrivals;
      is = refl;
      low = λ i d l. absurd (omega (arith, l));
      high = All-cons (λ (x : Arrival). k ≤ x.at) a arrivals le (λ i d l. let r = all_from a.at arrivals h.1 i d l in omega (arith, r, le));
    }

-- ---- the admits are those before a moment

same_from_keys : (xs ys : List ℕ) → ((k t : ℕ) → t < 4294967296 → times (number_at k t) xs ≡ times (number_at k t) ys) → SameCounts xs ys
same_from_keys xs ys h x =
    let is : number_at (x / 4294967296) (x % 4294967296) ≡ x = omega arith in
    let P : ℕ → Type 0 = λ v. times v xs ≡ times v ys in
    subst P is (h (x / 4294967296) (x % 4294967296) (omega arith))

module _ (config : Config) (arrivals : List Arrival) (events : List Stamped) (small : AreLinesInRange events) (lines : All (λ a. a.line < 4294967296) arrivals) where
  abbrev SameAt : List Arrival → Type 0
  SameAt front = (k t : ℕ) → admits_at k t events ≡ arrivals_at k t front

  lines_front : (front back : List Arrival) → arrivals ≡ front ++ back → All (λ a. a.line < 4294967296) front
  lines_front front back is =
      let P : List Arrival → Type 0 = λ l. All (λ (a : Arrival). a.line < 4294967296) l in
      λ k d l. All_front k d front back (subst P is lines) l
    where
      All_front : (k : ℕ) (d : Arrival) (xs ys : List Arrival) → All (λ a. a.line < 4294967296) (xs ++ ys) → k < length xs → (get_or xs k d).line < 4294967296
      All_front k d [] ys h l = absurd (omega (arith, l))
      All_front zero d (x ∷ xs) ys h l = All-head (λ (a : Arrival). a.line < 4294967296) x (xs ++ ys) h
      All_front (suc k) d (x ∷ xs) ys h l = All_front k d xs ys (All-tail (λ (a : Arrival). a.line < 4294967296) x (xs ++ ys) h) (omega (arith, l))

  counts_same : (front back : List Arrival) → arrivals ≡ front ++ back → SameAt front → SameCounts (admit_numbers events) (map arrival_number front)
  counts_same front back is h =
      same_from_keys (admit_numbers events) (map arrival_number front)
      (λ k t p. sym (admits_counted k t p events small) ∙ (h k t ∙ arrivals_counted k t p front (lines_front front back is)))

  same_counted : (front back : List Arrival) → arrivals ≡ front ++ back → SameCounts (admit_numbers events) (map arrival_number front) → SameAt front
  same_counted front back is h k t = by (cases_lt t 4294967296)
    where
      by : (t < 4294967296) ⊎ (4294967296 ≤ t) → admits_at k t events ≡ arrivals_at k t front
      by (inl p) = admits_counted k t p events small ∙ (h (number_at k t) ∙ sym (arrivals_counted k t p front (lines_front front back is)))
      by (inr p) = no_admits k t p events small ∙ sym (no_arrivals k t p front (lines_front front back is))

  -- ---- what is left out, from the counts

  module _ (n : ℕ) (stamped : All (IsStamped n) events) (rising : AreRisingMoments 1 arrivals) where
    -- before a moment that none behind `front` is before
    admits_all : (k : ℕ) (front back : List Arrival) → arrivals ≡ front ++ back → All (λ a. k ≤ a.at) back → SameAt front → AreAllAdmitted k arrivals events
    admits_all k front back is high same moment t less =
        let apart = none_here moment t back (λ i d l e. let r = high i d l in omega (arith, r, e, less)) in
        let all = ap (arrivals_at moment t) is ∙ arrivals-append moment t front back in
        let here = same moment t in
        omega (arith, apart, all, here)

    module _ (ends : ℕ) (behind : (k : ℕ) → ends ≤ k → All (λ e. e.stamp.at < k) (others events)) where
      left_out : (front : List Arrival) (a : Arrival) (rest : List Arrival) → arrivals ≡ front ++ a ∷ rest → SameAt front → a.at < n → last_moment front < a.at → ends ≤ a.at
          → n - a.at < longest_cut_off_stretch config events → AreLeftOut config n arrivals events a.at
      left_out front a rest is same inside last after short =
          let P : List Arrival → Type 0 = λ l. AreRisingMoments 1 l in
          let falls = subst P is rising in
          let back_falls = falls_back 1 front (a ∷ rest) falls in
          let high = All-cons (λ (x : Arrival). a.at ≤ x.at) a rest (omega arith) (all_from a.at rest back_falls.1) in
          let low = below_last 1 front (falls_front 1 front (a ∷ rest) falls) in
          let here = sum_by-cons (λ (x : Arrival). cond ((x.line == a.line) && (x.at == a.at)) 1 0) a rest in
          let one = counts_one a in
          let all = ap (arrivals_at a.at a.line) is ∙ arrivals-append a.at a.line front (a ∷ rest) in
          record {
            admits = admits_all a.at front (a ∷ rest) is high same;
            leaves = λ moment t le. same moment t ∙ none_here moment t front (λ i d l e. let r = low i d l in omega (arith, r, e, le, last));
            first = (a.line, omega (arith, all, here, one));
            inside = inside;
            behind = behind a.at after;
            short = short;
          }

      pub ends_well : (front back : List Arrival) → arrivals ≡ front ++ back → SameCounts (admit_numbers events) (map arrival_number front)
          → may_leave n (longest_cut_off_stretch config events) ends (last_moment front) back ≡ true → AreAllAdmitted n arrivals events ⊎ ((k : ℕ) × AreLeftOut config n arrivals events k)
      ends_well front [] is same h = inl (admits_all n front [] is (λ i d l. absurd (omega (arith, l))) (same_counted front [] is same))
      ends_well front (a ∷ rest) is same h = by (leb n a.at) refl h
        where
          falls : AreRisingMoments 1 (a ∷ rest)
          falls = let P : List Arrival → Type 0 = λ l. AreRisingMoments 1 l in falls_back 1 front (a ∷ rest) (subst P is rising)

          by : (b : Bool) → leb n a.at ≡ b → cond b true (ltb (last_moment front) a.at && (leb ends a.at && ltb (n - a.at) (longest_cut_off_stretch config events))) ≡ true
              → AreAllAdmitted n arrivals events ⊎ ((k : ℕ) × AreLeftOut config n arrivals events k)
          by true e h =
              let le = leb-true n a.at e in
              inl (admits_all n front (a ∷ rest) is
              (All-cons (λ (x : Arrival). n ≤ x.at) a rest le (λ i d l. let r = all_from a.at rest falls.1 i d l in omega (arith, r, le)))
              (same_counted front (a ∷ rest) is same))
          by false e h =
              let first = and_parts (ltb (last_moment front) a.at) (leb ends a.at && ltb (n - a.at) (longest_cut_off_stretch config events)) h in
              let second = and_parts (leb ends a.at) (ltb (n - a.at) (longest_cut_off_stretch config events)) first.1 in
              inr (
                a.at,
                left_out front a rest is (same_counted front (a ∷ rest) is same) (leb-false n a.at e) (ltb-true (last_moment front) a.at first.0)
                    (leb-true ends a.at second.0) (ltb-true (n - a.at) (longest_cut_off_stretch config events) second.1),
              )

    -- ---- and the counts from what is left out

    same_before : (k : ℕ) → AreAllAdmitted k arrivals events → ((moment t : ℕ) → k ≤ moment → admits_at moment t events ≡ 0) → (p : Parts k arrivals) → SameAt p.front
    same_before k all none p moment t = by (cases_lt moment k)
      where
        by : (moment < k) ⊎ (k ≤ moment) → admits_at moment t events ≡ arrivals_at moment t p.front
        by (inl less) =
            let apart = none_here moment t p.back (λ i d l e. let r = p.high i d l in omega (arith, r, e, less)) in
            let whole = ap (arrivals_at moment t) p.is ∙ arrivals-append moment t p.front p.back in
            let here = all moment t less in
            omega (arith, apart, whole, here)
        by (inr le) = none moment t le ∙ sym (none_here moment t p.front (λ i d l e. let r = p.low i d l in omega (arith, r, e, le)))

    none_past : (moment t : ℕ) → n ≤ moment → admits_at moment t events ≡ 0
    none_past moment t le = none_admitted moment t events (λ i d l e. let r = (stamped i d l).below in omega (arith, r, e, le))

    module _ (ends : ℕ) where
      ending_of : (front back : List Arrival) → arrivals ≡ front ++ back → SameAt front → may_leave n (longest_cut_off_stretch config events) ends (last_moment front) back ≡ true → Ending config n arrivals events ends
      ending_of front back is same leaves = record {
        enough = let l = ap length is in let a = length-append front back in omega (arith, l, a, count);
        same = subst (λ (l : List Arrival). SameCounts (admit_numbers events) (map arrival_number l)) (sym taken) counts;
        leaves =
            subst (λ (l : List Arrival). may_leave n (longest_cut_off_stretch config events) ends (last_moment l) (drop (length (admit_numbers events)) arrivals) ≡ true) (sym taken)
            (subst (λ (l : List Arrival). may_leave n (longest_cut_off_stretch config events) ends (last_moment front) l ≡ true) (sym dropped) leaves);
      }
        where
          counts : SameCounts (admit_numbers events) (map arrival_number front)
          counts = counts_same front back is same

          count : length (admit_numbers events) ≡ length front
          count = same_length (admit_numbers events) (map arrival_number front) counts ∙ length-map front arrival_number

          taken : take (length (admit_numbers events)) arrivals ≡ front
          taken = ap (λ k. take k arrivals) count ∙ (ap (take (length front)) is ∙ take-append_seam front back)

          dropped : drop (length (admit_numbers events)) arrivals ≡ back
          dropped = ap (λ k. drop k arrivals) count ∙ (ap (drop (length front)) is ∙ drop-append_seam front back)

      pub ending_all : AreAllAdmitted n arrivals events → Ending config n arrivals events ends
      ending_all all = by p.back p.is p.high
        where
          p : Parts n arrivals
          p = parts n 1 arrivals rising

          same : SameAt p.front
          same = same_before n all none_past p

          by : (back : List Arrival) → arrivals ≡ p.front ++ back → All (λ a. n ≤ a.at) back → Ending config n arrivals events ends
          by [] is high = ending_of p.front [] is same refl
          by (a ∷ rest) is high =
              let le = All-head (λ (x : Arrival). n ≤ x.at) a rest high in
              ending_of p.front (a ∷ rest) is same
              (ap (λ b. cond b true (ltb (last_moment p.front) a.at && (leb ends a.at && ltb (n - a.at) (longest_cut_off_stretch config events)))) (le-leb n a.at le))

      pub ending_left : (k : ℕ) → ends ≤ k → AreLeftOut config n arrivals events k → Ending config n arrivals events ends
      ending_left k after h = by p.back p.is p.high
        where
          p : Parts k arrivals
          p = parts k 1 arrivals rising

          same : SameAt p.front
          same = same_before k h.admits h.leaves p

          by : (back : List Arrival) → arrivals ≡ p.front ++ back → All (λ a. k ≤ a.at) back → Ending config n arrivals events ends
          by [] is high =
              let none = none_here k h.first.0 p.front (λ i d l e. let r = p.low i d l in omega (arith, r, e)) in
              let whole = ap (arrivals_at k h.first.0) is ∙ arrivals-append k h.first.0 p.front [] in
              let some = h.first.1 in
              let empty : arrivals_at k h.first.0 [] ≡ 0 = refl in
              absurd (omega (arith, none, whole, some, empty))
          by (a ∷ rest) is high = here (cases_lt k a.at)
            where
              low : k ≤ a.at
              low = All-head (λ (x : Arrival). k ≤ x.at) a rest high

              falls : AreRisingMoments 1 (p.front ++ a ∷ rest)
              falls = let P : List Arrival → Type 0 = λ l. AreRisingMoments 1 l in subst P is rising

              positive : 1 ≤ a.at
              positive = (falls_back 1 p.front (a ∷ rest) falls).0

              here : (k < a.at) ⊎ (a.at ≤ k) → Ending config n arrivals events ends
              here (inl less) =
                  let later = all_from a.at rest (falls_back 1 p.front (a ∷ rest) falls).1 in
                  let none = none_here k h.first.0 p.front (λ i d l e. let r = p.low i d l in omega (arith, r, e)) in
                  let apart = none_here k h.first.0 (a ∷ rest) (All-cons (λ (x : Arrival). x.at ≡ k → ⊥) a rest (λ e. omega (arith, e, less)) (λ i d l e. let r = later i d l in omega (arith, r, e, less))) in
                  let whole = ap (arrivals_at k h.first.0) is ∙ arrivals-append k h.first.0 p.front (a ∷ rest) in
                  let some = h.first.1 in
                  absurd (omega (arith, none, apart, whole, some))
              here (inr le) =
                  let inside = h.inside in
                  let short = h.short in
                  let last = last_below k p.front (omega (arith, positive, le)) p.low in
                  ending_of p.front (a ∷ rest) is same
                  (ap (λ b. cond b true (ltb (last_moment p.front) a.at && (leb ends a.at && ltb (n - a.at) (longest_cut_off_stretch config events)))) (lt-leb n a.at (omega (arith, le, inside)))
                  ∙ and_from (ltb (last_moment p.front) a.at) (leb ends a.at && ltb (n - a.at) (longest_cut_off_stretch config events)) (lt-ltb (last_moment p.front) a.at (omega (arith, last, low)))
                  (and_from (leb ends a.at) (ltb (n - a.at) (longest_cut_off_stretch config events)) (le-leb ends a.at (omega (arith, after, low))) (lt-ltb (n - a.at) (longest_cut_off_stretch config events) (omega (arith, low, le, short)))))
