-- A set that has all that another has, and one more, has more members.
use Rattle.std.proofs.Common.{◌≡◌, ℕ, zero, suc, ◌+◌, ◌/◌, ◌%◌, ◌<◌, ◌≤◌, Bool, true, false, refl, sym, ap, ◌∙◌, arith}
use Rattle.std.specs.Prelude.{count_ones, ◌==◌}
use Rattle.std.specs.Int.Count.{ones_step}
use Rattle.std.proofs.lemmas.Bool.{true≢false, eqb-true, eqb-false}
use Rattle.std.proofs.lemmas.Nat.Bits.{bit_at_lowest, bit_at-suc}
use Rattle.call_graph.specs.Bits.{is_member}
use Rattle.call_graph.proofs.Sets.{has_none}

abbrev pub IsSubset : ℕ → ℕ → Type 0
IsSubset a b = (i : ℕ) → is_member a i ≡ true → is_member b i ≡ true

has_lowest : (a : ℕ) → is_member a 0 ≡ (a % 2 == 1)
unfolding is_member
has_lowest a = ap (λ x. x == 1) (bit_at_lowest a)

has_higher : (a i : ℕ) → is_member a (suc i) ≡ is_member (a / 2) i
unfolding is_member
has_higher a i = ap (λ x. x == 1) (bit_at-suc a i)

halves : (a b : ℕ) → IsSubset a b → IsSubset (a / 2) (b / 2)
halves a b h i e = sym (has_higher b i) ∙ h (suc i) (has_higher a i ∙ e)

lowest_le : (a b : ℕ) → IsSubset a b → a % 2 ≤ b % 2
lowest_le a b h = by (a % 2 == 1) refl
  where
    by : (t : Bool) → (a % 2 == 1) ≡ t → a % 2 ≤ b % 2
    by true e = let f : b % 2 ≡ 1 = eqb-true (b % 2) 1 (sym (has_lowest b) ∙ h 0 (has_lowest a ∙ e)) in let g : a % 2 ≡ 1 = eqb-true (a % 2) 1 e in omega (arith, f, g)
    by false e = let g = eqb-false (a % 2) 1 e in omega (arith, g)

fewer : (w a b : ℕ) → a ≤ w → b ≤ w → IsSubset a b → count_ones a ≤ count_ones b
fewer zero a b l m h = let e : a ≡ 0 = omega (arith, l) in let f : b ≡ 0 = omega (arith, m) in let g : count_ones a ≡ count_ones b = ap count_ones (e ∙ sym f) in omega (arith, g)
fewer (suc w) a b l m h =
    let rest = fewer w (a / 2) (b / 2) (omega (arith, l)) (omega (arith, m)) (halves a b h) in
    let low = lowest_le a b h in
    omega (arith, rest, low, ones_step a, ones_step b)

less : (w a b j : ℕ) → a ≤ w → b ≤ w → IsSubset a b → is_member b j ≡ true → is_member a j ≡ false → count_ones a < count_ones b
less zero a b j l m h y n =
    let f : b ≡ 0 = omega (arith, m) in absurd (true≢false (sym y ∙ ap (λ x. is_member x j) f ∙ has_none j))
less (suc w) a b zero l m h y n =
    let rest = fewer w (a / 2) (b / 2) (omega (arith, l)) (omega (arith, m)) (halves a b h) in
    let yes : b % 2 ≡ 1 = eqb-true (b % 2) 1 (sym (has_lowest b) ∙ y) in
    let no_more = eqb-false (a % 2) 1 (sym (has_lowest a) ∙ n) in
    omega (arith, rest, yes, no_more, ones_step a, ones_step b)
less (suc w) a b (suc j) l m h y n =
    let rest = less w (a / 2) (b / 2) j (omega (arith, l)) (omega (arith, m)) (halves a b h) (sym (has_higher b j) ∙ y) (sym (has_higher a j) ∙ n) in
    let low = lowest_le a b h in
    omega (arith, rest, low, ones_step a, ones_step b)

pub counts_less : (a b j : ℕ) → IsSubset a b → is_member b j ≡ true → is_member a j ≡ false → count_ones a < count_ones b
counts_less a b j h y n = less (a + b) a b j (omega arith) (omega arith) h y n
