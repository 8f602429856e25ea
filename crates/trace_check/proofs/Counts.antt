-- Lists of numbers with the same counts: they are as long, and where both rise they are the same.
use Rattle.std.proofs.Common.{◌≡◌, ◌∙◌, ℕ, suc, ◌+◌, ◌<◌, ◌≤◌, ◌⊎◌, inl, inr, List, [], ◌∷◌, ◌++◌, cond, length, get_or, refl, sym, ap, arith}
use Rattle.std.specs.Prelude.{◌==◌, count_by}
use Rattle.std.specs.List.{sum_by}
use Rattle.std.specs.List.Sorted.{IsPermutation, IsNonDecreasing}
use Rattle.std.proofs.lemmas.Bool.{eq-eqb, ne_eqb, cases_eq, cases_order}
use Rattle.std.proofs.lemmas.List.Sums.{sum_by-cons, count_by-le-length}
use Rattle.std.proofs.lemmas.List.Sorted.{sum_by-IsPermutation}
use Rattle.sloth_base.specs.declared.config.AlarmDecl.{AlarmDecl}
use Rattle.trace_check.specs.Counts.{times, SameCounts}

pub times_here : (x : ℕ) (xs : List ℕ) → times x (x ∷ xs) ≡ 1 + times x xs
times_here x xs = ap (λ b. cond b 1 0 + times x xs) (eq-eqb x x refl)

pub times_other : (x y : ℕ) (xs : List ℕ) → (y ≡ x → ⊥) → times x (y ∷ xs) ≡ times x xs
times_other x y xs n = ap (λ b. cond b 1 0 + times x xs) (ne_eqb y x n) ∙ omega arith

pub times-append : (x : ℕ) (xs ys : List ℕ) → times x (xs ++ ys) ≡ times x xs + times x ys
times-append x [] ys = omega arith
times-append x (y ∷ xs) ys = let ih = times-append x xs ys in omega (arith, ih)

times_is_sum : (x : ℕ) (xs : List ℕ) → times x xs ≡ sum_by (λ y. cond (y == x) 1 0) xs
times_is_sum x [] = refl
times_is_sum x (y ∷ xs) = let ih = times_is_sum x xs in let c = sum_by-cons (λ (z : ℕ). cond (z == x) 1 0) y xs in omega (arith, ih, c)

pub counts_permuted : (xs ys : List ℕ) → IsPermutation xs ys → SameCounts xs ys
counts_permuted xs ys h x = times_is_sum x xs ∙ (sym (sum_by-IsPermutation (λ (y : ℕ). cond (y == x) 1 0) xs ys h) ∙ sym (times_is_sum x ys))

-- ---- the same length

-- a list without the first of its items that is x
record Less (x : ℕ) (ys : List ℕ) : Type 0 where
  rest : List ℕ
  shorter : length ys ≡ suc (length rest)
  fewer : (z : ℕ) → times z (x ∷ rest) ≡ times z ys

less : (x : ℕ) (ys : List ℕ) → 0 < times x ys → Less x ys
less x [] h = absurd (omega (arith, h))
less x (y ∷ ys) h = by (less x ys) (cases_eq y x)
  where
    by : (0 < times x ys → Less x ys) → (y ≡ x) ⊎ (y ≡ x → ⊥) → Less x (y ∷ ys)
    by more (inl same) = record { rest = ys; shorter = refl; fewer = λ z. ap (λ (w : ℕ). times z (w ∷ ys)) (sym same) }
    by more (inr differ) =
        let e = times_other x y ys differ in
        let ih = more (omega (arith, h, e)) in
        record {
          rest = y ∷ ih.rest;
          shorter = ap (λ k. suc k) ih.shorter;
          fewer = λ z. let f = ih.fewer z in omega (arith, f);
        }

pub same_length : (xs ys : List ℕ) → SameCounts xs ys → length xs ≡ length ys
same_length [] [] h = refl
same_length [] (y ∷ ys) h = let here = times_here y ys in let none = h y in absurd (omega (arith, here, none))
same_length (x ∷ xs) ys h =
    let here = times_here x xs in
    let first = h x in
    let l = less x ys (omega (arith, here, first)) in
    ap (λ k. suc k) (same_length xs l.rest (λ z. let a = h z in let b = l.fewer z in omega (arith, a, b))) ∙ sym l.shorter

-- ---- rising lists

abbrev pub AreFrom : ℕ → List ℕ → Type 0
AreFrom x [] = Unit {0}
AreFrom x (y ∷ ys) = (x ≤ y) × AreFrom x ys

abbrev pub Rises : List ℕ → Type 0
Rises [] = Unit {0}
Rises (x ∷ xs) = AreFrom x xs × Rises xs

pub times_below : (x y : ℕ) (ys : List ℕ) → x < y → AreFrom y ys → times x ys ≡ 0
times_below x y [] less h = refl
times_below x y (z ∷ ys) less h =
    let le = h.0 in
    times_other x z ys (λ same. omega (arith, same, le, less)) ∙ times_below x y ys less h.1

pub same_rising : (xs ys : List ℕ) → Rises xs → Rises ys → SameCounts xs ys → xs ≡ ys
same_rising [] [] r q h = refl
same_rising [] (y ∷ ys) r q h = let here = times_here y ys in let none = h y in absurd (omega (arith, here, none))
same_rising (x ∷ xs) [] r q h = let here = times_here x xs in let none = h x in absurd (omega (arith, here, none))
same_rising (x ∷ xs) (y ∷ ys) r q h = by (same_rising xs ys r.1 q.1) (cases_order x y)
  where
    lower : (a b : ℕ) (us vs : List ℕ) → a < b → AreFrom b vs → times a (a ∷ us) ≡ times a (b ∷ vs) → ⊥
    lower a b us vs l f e =
        let here = times_here a us in
        let none = times_other a b vs (λ same. omega (arith, same, l)) in
        let low = times_below a b vs l f in
        omega (arith, here, none, low, e)

    by : (SameCounts xs ys → xs ≡ ys) → (x ≡ y) ⊎ ((x < y) ⊎ (y < x)) → (x ∷ xs) ≡ (y ∷ ys)
    by more (inl same) =
        let cut : SameCounts xs ys =
        λ z. let e = h z in let f = ap (λ (w : ℕ). times z (w ∷ ys)) (sym same) in omega (arith, e, f) in
        ap (λ (w : ℕ). w ∷ xs) same ∙ ap (λ (l : List ℕ). y ∷ l) (more cut)
    by more (inr (inl l)) = absurd (lower x y xs ys l q.0 (h x))
    by more (inr (inr l)) = absurd (lower y x ys xs l r.0 (sym (h y)))

from_index : (x : ℕ) (xs : List ℕ) → ((k : ℕ) → k < length xs → x ≤ get_or xs k 0) → AreFrom x xs
from_index x [] h = tt
from_index x (y ∷ xs) h = (h 0 (omega arith), from_index x xs (λ k l. h (suc k) (omega (arith, l))))

pub rises : (xs : List ℕ) → IsNonDecreasing xs → Rises xs
rises [] h = tt
rises (x ∷ xs) h = (
  from_index x xs (λ k l. h 0 (suc k) 0 (omega arith) (omega (arith, l))),
  rises xs (λ i j d le l. h (suc i) (suc j) d (omega (arith, le)) (omega (arith, l))),
)

-- no counter has more alarms than there are
pub few_alarms : (alarms : List AlarmDecl) (counter count : ℕ) → count ≡ count_by (λ alarm. alarm.counter == counter) alarms → count ≤ length alarms
few_alarms alarms counter count is = let few = count_by-le-length (λ (alarm : AlarmDecl). alarm.counter == counter) alarms in omega (arith, few, is)
