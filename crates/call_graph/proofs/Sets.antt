-- Sets of small numbers as bits.
use Rattle.std.proofs.Common.{◌≡◌, ℕ, ◌*◌, ◌/◌, ◌%◌, ◌^◌, ◌<◌, max, true, false, ◌||◌, ap, sym, ◌∙◌, arith, ⊎_elim, nat_eq, get_or, length, List}
use Rattle.std.specs.Prelude.{◌==◌, bit_and, bit_or}
use Rattle.std.specs.Int.{bit_at}
use Rattle.std.proofs.lemmas.Nat.{shl_whole}
use Rattle.std.proofs.lemmas.Bool.{cases_eq, cases_lt, true≢false, eq-eqb, ne_eqb}
use Rattle.std.proofs.lemmas.Nat.Bits.{bit_at_or, bit_at-zero, bit_at-lt, bit_at-pow_same, bit_at-pow_other, shr_and_one}
use Rattle.std.proofs.lemmas.List.{get_or_past}
use Rattle.call_graph.specs.Bits.{is_member}

pub has_is : (set k : ℕ) → nat_eq (bit_and (set / 2 ^ k) 1) 1 ≡ is_member set k
unfolding is_member
has_is set k = ap (λ x. x == 1) (shr_and_one set k)

max_one : (a b : ℕ) → a < 2 → b < 2 → (max a b == 1) ≡ ((a == 1) || (b == 1))
max_one a b h k = ⊎_elim
    (λ e. let m : max a b ≡ 1 = omega (arith, e) in ap (λ x. x == 1) m ∙ sym (ap (λ x. (x == 1) || (b == 1)) e))
    (λ e. let z : a ≡ 0 = omega (arith, e) in let m : max a b ≡ b = omega (arith, z) in ap (λ x. x == 1) m ∙ sym (ap (λ x. (x == 1) || (b == 1)) z))
    (cases_eq a 1)

pub has_or : (a b k : ℕ) → is_member (bit_or a b) k ≡ (is_member a k || is_member b k)
unfolding is_member
has_or a b k = ap (λ x. x == 1) (bit_at_or a b k) ∙ max_one (bit_at a k) (bit_at b k) (bit_at-lt a k) (bit_at-lt b k)

pub has_none : (k : ℕ) → is_member 0 k ≡ false
unfolding is_member
has_none k = ap (λ x. x == 1) (bit_at-zero k)

one_bit : (member k : ℕ) → is_member (2 ^ member) k ≡ (member == k)
unfolding is_member
one_bit member k = ⊎_elim
    (λ e. ap (λ x. bit_at (2 ^ member) x == 1) (sym e) ∙ ap (λ x. x == 1) (bit_at-pow_same member) ∙ sym (eq-eqb member k e))
    (λ n. ap (λ x. x == 1) (bit_at-pow_other member k (λ e. n (sym e))) ∙ sym (ne_eqb member k n))
    (cases_eq member k)

-- `set | 1 << member` in so many bits
pub has_one_more : (width set member k : ℕ) → member < width → is_member (bit_or set (1 * 2 ^ member % 2 ^ width)) k ≡ (is_member set k || (member == k))
has_one_more width set member k within =
    let one : 1 < 2 ^ 1 = omega arith in
    let shifted : 1 * 2 ^ member % 2 ^ width ≡ 2 ^ member = shl_whole 1 1 member width one (omega arith) ∙ omega arith in
    ap (λ x. is_member (bit_or set x) k) shifted ∙ (has_or set (2 ^ member) k ∙ ap (λ b. is_member set k || b) (one_bit member k))

-- a row that has a member is one of the rows
pub row_inside : (rows : List ℕ) (i k : ℕ) → is_member (get_or rows i 0) k ≡ true → i < length rows
row_inside rows i k h = ⊎_elim
    (λ l. l)
    (λ l. absurd (true≢false (sym h ∙ ap (λ x. is_member x k) (get_or_past rows i 0 l) ∙ has_none k)))
    (cases_lt i (length rows))
