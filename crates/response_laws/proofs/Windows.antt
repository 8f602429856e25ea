-- At most so many arrivals of a line fall into a window of moments as fit into it at their distance.
use Rattle.std.proofs.Common.{◌≡◌, ℕ, zero, suc, ◌+◌, ◌-◌, ◌*◌, ◌/◌, ◌<◌, ◌≤◌, ◌⊎◌, ◌==◌, ◌&&◌, List, [], ◌∷◌, Bool, true, false, cond, leb, ltb, Option, Some, None, count_by, refl, sym, ap, ◌∙◌, subst, arith, inl, inr, le-div_iff_mul-le}
use Rattle.std.specs.List.{AllByRecursion}
use Rattle.std.proofs.lemmas.Bool.{cases_Bool, and_parts, eqb-true, ltb-true, leb-true, cases_eq, cases_lt, lt-ltb, le-ltb, le-leb, lt-leb, eq-eqb, ne_eqb}
use Rattle.std.proofs.lemmas.List.Sums.{sum_by-cons}
use Rattle.sloth_base.specs.declared.service.Arrival.{Arrival}
use Rattle.load_text.specs.declared.load_line.Entry.{Entry}
use Rattle.load_text.specs.Loads.{distance, IsBehind, KeepDistances, filling, arrivals_within}
use Rattle.response_laws.specs.Arrivals.{is_inside, passing_inside, arrivals_inside, HasDistances, ArrivalsAreFew}
use Rattle.response_laws.proofs.Sums.{one_more}

-- ---- one moment more

module _ {X : Type 0} (test : X → Bool) (moment : X → ℕ) where
  one_inside : (b : Bool) (low high m : ℕ) → low ≤ high
      → ◌≡◌ {A = ℕ} (cond (b && is_inside low (suc high) m) 1 0) (cond (b && is_inside low high m) 1 0 + cond (b && (m == high)) 1 0)
  one_inside false low high m le = refl
  one_inside true low high m le = by (cases_eq m high) (cases_lt m high)
    where
      by : (m ≡ high) ⊎ (m ≡ high → ⊥) → (m < high) ⊎ (high ≤ m)
          → ◌≡◌ {A = ℕ} (cond (leb low m && ltb m (suc high)) 1 0) (cond (leb low m && ltb m high) 1 0 + cond (m == high) 1 0)
      by (inl e) which =
          let a = le-leb low m (omega (arith, e, le)) in
          let b = lt-ltb m (suc high) (omega (arith, e)) in
          let c = le-ltb m high (omega (arith, e)) in
          let d = eq-eqb m high e in
          rw (a, b, c, d) refl
      by (inr other) (inl lt) =
          let b = lt-ltb m (suc high) (omega (arith, lt)) in
          let c = lt-ltb m high lt in
          let d = ne_eqb m high other in
          rw (b, c, d) (omega arith)
      by (inr other) (inr ge) =
          let b = le-ltb m (suc high) (omega (arith, ge, other)) in
          let c = le-ltb m high ge in
          let d = ne_eqb m high other in
          rw (b, c, d) (omega arith)

  pub inside_more : (low high : ℕ) (xs : List X) → low ≤ high
      → passing_inside test moment low (suc high) xs
      ≡ passing_inside test moment low high xs + count_by (λ x. test x && (moment x == high)) xs
  inside_more low high [] le = refl
  inside_more low high (x ∷ xs) le =
      let here = one_inside (test x) low high (moment x) le in
      let rest = inside_more low high xs le in
      let more = sum_by-cons (λ y. cond (test y && (moment y == high)) 1 0) x xs in
      omega (arith, here, rest, more)

  inside_none : (low : ℕ) (xs : List X) → passing_inside test moment low low xs ≡ 0
  inside_none low [] = refl
  inside_none low (x ∷ xs) =
      let rest = inside_none low xs in
      let here = none (test x) in
      omega (arith, here, rest)
    where
      none : (b : Bool) → ◌≡◌ {A = ℕ} (cond (b && is_inside low low (moment x)) 1 0) 0
      none false = refl
      none true = by (cases_lt (moment x) low)
        where
          by : (moment x < low) ⊎ (low ≤ moment x) → ◌≡◌ {A = ℕ} (cond (leb low (moment x) && ltb (moment x) low) 1 0) 0
          by (inl lt) = rw (lt-leb low (moment x) lt) refl
          by (inr le) = rw (le-ltb (moment x) low le, le-leb low (moment x) le) refl

-- where at each moment there are no more of the one kind than of the other, there are no more inside
module _ {X Y : Type 0} (test : X → Bool) (moment : X → ℕ) (other : Y → Bool) (other_moment : Y → ℕ) (xs : List X) (ys : List Y)
    (fewer : (k : ℕ) → count_by (λ x. test x && (moment x == k)) xs ≤ count_by (λ y. other y && (other_moment y == k)) ys) where
  inside_by : (low w : ℕ) → passing_inside test moment low (low + w) xs ≤ passing_inside other other_moment low (low + w) ys
  inside_by low zero =
      let same : low + 0 ≡ low = omega arith in
      let none = inside_none test moment low xs in
      let P : ℕ → Type 0 = λ high. passing_inside test moment low high xs ≤ passing_inside other other_moment low high ys in
      subst P (sym same) (omega (arith, none))
  inside_by low (suc w) =
      let same : low + suc w ≡ suc (low + w) = omega arith in
      let rest = inside_by low w in
      let a = inside_more test moment low (low + w) xs (omega arith) in
      let b = inside_more other other_moment low (low + w) ys (omega arith) in
      let here = fewer (low + w) in
      let P : ℕ → Type 0 = λ high. passing_inside test moment low high xs ≤ passing_inside other other_moment low high ys in
      subst P (sym same) (omega (arith, rest, a, b, here))

  pub fewer_inside : (low high : ℕ) → low ≤ high → passing_inside test moment low high xs ≤ passing_inside other other_moment low high ys
  fewer_inside low high le =
      let same : low + (high - low) ≡ high = omega (arith, le) in
      let P : ℕ → Type 0 = λ h. passing_inside test moment low h xs ≤ passing_inside other other_moment low h ys in
      subst P same (inside_by low (high - low))

-- ---- arrivals that are apart

module _ (load : List Entry) (line d low high : ℕ) (positive : 0 < d) (is : distance load line ≡ Some d) where
  -- each arrival of the line that is not before `low` is not before p
  abbrev NotBefore : ℕ → Arrival → Type 0
  NotBefore p a = a.line ≡ line → low ≤ a.at → p ≤ a.at

  further : (a : Arrival) (arrivals : List Arrival) → a.line ≡ line → AllByRecursion (λ b. b.line ≡ a.line → IsBehind (distance load a.line) a b) arrivals
      → AllByRecursion (NotBefore (a.at + d)) arrivals
  further a [] same each = tt
  further a (b ∷ arrivals) same each =
      ((λ also behind. subst (λ (o : Option ℕ). IsBehind o a b) (ap (distance load) same ∙ is) (each.0 (also ∙ sym same))), further a arrivals same each.1)

  few : (p : ℕ) (arrivals : List Arrival) → KeepDistances load arrivals → AllByRecursion (NotBefore p) arrivals
      → (arrivals_inside low high line arrivals ≡ 0) ⊎ (arrivals_inside low high line arrivals * d + p < high + d)
  few p [] keeps each = inl refl
  few p (a ∷ arrivals) keeps each =
      by (λ q more. few q arrivals keeps.2 more) ((a.line == line) && is_inside low high a.at) refl
    where
      counted : p ≤ a.at → a.at < high
          → (arrivals_inside low high line arrivals ≡ 0) ⊎ (arrivals_inside low high line arrivals * d + (a.at + d) < high + d)
          → (1 + arrivals_inside low high line arrivals) * d + p < high + d
      counted le top (inl none) =
          let more = one_more (arrivals_inside low high line arrivals) d in
          let zero = ap (λ m. m * d) none in
          omega (arith, le, top, more, zero)
      counted le top (inr some) =
          let more = one_more (arrivals_inside low high line arrivals) d in
          omega (arith, le, top, more, some)

      by : ((q : ℕ) → AllByRecursion (NotBefore q) arrivals
          → (arrivals_inside low high line arrivals ≡ 0) ⊎ (arrivals_inside low high line arrivals * d + q < high + d))
          → (b : Bool) → ((a.line == line) && is_inside low high a.at) ≡ b
          → (cond b 1 0 + arrivals_inside low high line arrivals ≡ 0) ⊎ ((cond b 1 0 + arrivals_inside low high line arrivals) * d + p < high + d)
      by rest true passes =
          let both = and_parts (a.line == line) (is_inside low high a.at) passes in
          let inside = and_parts (leb low a.at) (ltb a.at high) both.1 in
          let same = eqb-true a.line line both.0 in
          let behind = leb-true low a.at inside.0 in
          let top = ltb-true a.at high inside.1 in
          inr (counted (each.0 same behind) top (rest (a.at + d) (further a arrivals same keeps.1)))
      by rest false other =
          let zero : 0 + arrivals_inside low high line arrivals ≡ arrivals_inside low high line arrivals = omega arith in
          subst (λ m. (m ≡ 0) ⊎ (m * d + p < high + d)) (sym zero) (rest p each.1)

  all_behind : (arrivals : List Arrival) → AllByRecursion (NotBefore low) arrivals
  all_behind [] = tt
  all_behind (a ∷ arrivals) = ((λ same behind. behind), all_behind arrivals)

  pub few_inside : (window : ℕ) (arrivals : List Arrival) → high ≤ low + window → KeepDistances load arrivals
      → arrivals_inside low high line arrivals ≤ arrivals_within load window line
  few_inside window arrivals fits keeps =
      subst (λ (o : Option ℕ). arrivals_inside low high line arrivals ≤ filling window o) (sym is) (by (few low arrivals keeps (all_behind arrivals)))
    where
      by : (arrivals_inside low high line arrivals ≡ 0) ⊎ (arrivals_inside low high line arrivals * d + low < high + d)
          → arrivals_inside low high line arrivals ≤ (window + d - 1) / d
      by (inl none) = omega (arith, none)
      by (inr some) = (le-div_iff_mul-le positive).1 (omega (arith, some, fits, positive))

-- ---- any line

-- a line that never arrives
no_arrival : (load : List Entry) (low high line : ℕ) (rest : List Arrival) → distance load line ≡ None → KeepDistances load rest → arrivals_inside low high line rest ≡ 0
no_arrival load low high line [] none k = refl
no_arrival load low high line (a ∷ rest) none k =
    let further = no_arrival load low high line rest none k.2 in
    let here = by (cases_Bool (a.line == line)) in
    omega (arith, further, here)
  where
    by : ((a.line == line) ≡ true) ⊎ ((a.line == line) ≡ false) → ◌≡◌ {A = ℕ} (cond ((a.line == line) && is_inside low high a.at) 1 0) 0
    by (inl is) = absurd (k.0 (ap (distance load) (eqb-true a.line line is) ∙ none))
    by (inr other) = ap {B = ℕ} (λ b. cond (b && is_inside low high a.at) 1 0) other

pub few_arrivals : (load : List Entry) (arrivals : List Arrival) → HasDistances load → KeepDistances load arrivals → (low high w line : ℕ) → high ≤ low + w
    → arrivals_inside low high line arrivals ≤ arrivals_within load w line
few_arrivals load arrivals positive keeps low high w line fits = by (distance load line) refl
  where
    by : (o : Option ℕ) → distance load line ≡ o → arrivals_inside low high line arrivals ≤ arrivals_within load w line
    by None is = let none = no_arrival load low high line arrivals is keeps in omega (arith, none)
    by (Some zero) is = absurd (positive line is)
    by (Some (suc d)) is = few_inside load line (suc d) low high (omega arith) is w arrivals fits keeps

pub arrivals_are_few : ArrivalsAreFew
arrivals_are_few load arrivals low counts line positive keeps = few_arrivals load arrivals positive keeps low (low + counts) counts line (omega arith)
