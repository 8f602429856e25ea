-- The computed choice is the chosen line, and there is only one.
use Rattle.std.proofs.Common.{◌≡◌, ℕ, zero, suc, ◌<◌, ◌≤◌, refl, sym, subst, arith, ⊎_elim, true, false, cond, Option, Some, None, slice_index}
use Rattle.std.proofs.lemmas.Bool.{cases_Bool, cases_eq, ltb-true, ltb-false}
use Rattle.std.proofs.lemmas.Bool.Decides.{nat_tests}
use Rattle.std.specs.Prelude.{nat_lt}
use Rattle.sloth_base.specs.Lines.{Lines}
use Rattle.sloth_base.specs.Choose.{MayTake, IsBetterLine, IsChosen, may_take, better_line, best_line_below, choose_line}
use Rattle.sloth_base.specs.MemoryMap.{line_count}

-- the test tells whether the line may be taken
may-from : (lines : Lines) (level line : ℕ) → line < line_count → may_take lines level line ≡ true → MayTake lines level line
may-from lines level line h e = record {
  in_range = h;
  is_pending = grind (arith, nat_tests);
  is_enabled = grind (arith, nat_tests);
  is_above = grind (arith, nat_tests);
}

may-to : (lines : Lines) (level line : ℕ) → MayTake lines level line → may_take lines level line ≡ true
may-to lines level line m =
    let p = m.is_pending in let e = m.is_enabled in let a = m.is_above in grind (arith, nat_tests)

-- the best of the lines below n
IsBest : Lines → ℕ → ℕ → Option ℕ → Type 0
IsBest lines level n None = (line : ℕ) → line < n → MayTake lines level line → ⊥
IsBest lines level n (Some best) =
    (best < n) × MayTake lines level best
    × ((line : ℕ) → line < n → MayTake lines level line → IsBetterLine lines best line)

below_more : (P : ℕ → Type 0) (n : ℕ) → ((k : ℕ) → k < n → P k) → P n → (k : ℕ) → k < suc n → P k
below_more P n a b k h =
    ⊎_elim (λ (e : k ≡ n). subst P (sym e) b) (λ (e : k ≡ n → ⊥). a k (omega arith)) (cases_eq k n)

now_better
    : (lines : Lines) (level n : ℕ) (best : Option ℕ) → IsBest lines level n best → MayTake lines level n
    → IsBest lines level (suc n) (better_line lines best n)
unfolding IsBest
now_better lines level n None h m = (
  omega arith,
  m,
  below_more (λ k. MayTake lines level k → IsBetterLine lines n k) n (λ k l t. absurd (h k l t)) (λ t. grind arith),
)
now_better lines level n (Some best) h m =
    ⊎_elim
    (λ (e : nat_lt (slice_index lines.levels best) (slice_index lines.levels n) ≡ true).
    let lt = ltb-true (slice_index lines.levels best) (slice_index lines.levels n) e in
    subst (λ v. IsBest lines level (suc n) (cond v (Some n) (Some best))) (sym e)
    (omega arith, m, below_more (λ k. MayTake lines level k → IsBetterLine lines n k) n (λ k l t. let f = h.2 k l t in grind (arith, f)) (λ t. grind arith)))
    (λ (e : nat_lt (slice_index lines.levels best) (slice_index lines.levels n) ≡ false).
    let ge = ltb-false (slice_index lines.levels best) (slice_index lines.levels n) e in
    let lower = h.0 in
    subst (λ v. IsBest lines level (suc n) (cond v (Some n) (Some best))) (sym e)
    (omega arith, h.1, below_more (λ k. MayTake lines level k → IsBetterLine lines best k) n h.2 (λ t. grind arith)))
    (cases_Bool (nat_lt (slice_index lines.levels best) (slice_index lines.levels n)))

as_before
    : (lines : Lines) (level n : ℕ) (best : Option ℕ) → IsBest lines level n best → (MayTake lines level n → ⊥)
    → IsBest lines level (suc n) best
unfolding IsBest
as_before lines level n None h m = below_more (λ k. MayTake lines level k → ⊥) n h m
as_before lines level n (Some best) h m =
    let lower = h.0 in
    (omega arith, h.1, below_more (λ k. MayTake lines level k → IsBetterLine lines best k) n h.2 (λ t. absurd (m t)))

best : (lines : Lines) (level n : ℕ) → n ≤ line_count → IsBest lines level n (best_line_below lines level n)
unfolding IsBest best_line_below
best lines level zero b = λ line h. absurd (omega arith)
best lines level (suc n) b =
    let earlier = best lines level n (omega arith) in
    ⊎_elim
    (λ (e : may_take lines level n ≡ true).
    subst (λ v. IsBest lines level (suc n) (cond v (better_line lines (best_line_below lines level n) n) (best_line_below lines level n))) (sym e)
    (now_better lines level n (best_line_below lines level n) earlier (may-from lines level n (omega arith) e)))
    (λ (e : may_take lines level n ≡ false).
    subst (λ v. IsBest lines level (suc n) (cond v (better_line lines (best_line_below lines level n) n) (best_line_below lines level n))) (sym e)
    (as_before lines level n (best_line_below lines level n) earlier (λ m. let y = may-to lines level n m in cc)))
    (cases_Bool (may_take lines level n))

chosen-best : (lines : Lines) (level : ℕ) (o : Option ℕ) → IsBest lines level line_count o → IsChosen lines level o
unfolding IsBest
chosen-best lines level None h = λ line m. h line m.in_range m
chosen-best lines level (Some line) h = (h.1, λ other m. h.2 other m.in_range m)

-- the computed choice is the chosen line
pub choose_line-is : (lines : Lines) (level : ℕ) → IsChosen lines level (choose_line lines level)
unfolding choose_line
choose_line-is lines level =
    chosen-best lines level (best_line_below lines level line_count) (best lines level line_count (omega arith))

-- there is only one choice
pub only_choice : (lines : Lines) (level : ℕ) (a b : Option ℕ) → IsChosen lines level a → IsChosen lines level b → a ≡ b
only_choice lines level None None h g = refl
only_choice lines level None (Some b) h g = absurd (h b g.0)
only_choice lines level (Some a) None h g = absurd (g a h.0)
only_choice lines level (Some a) (Some b) h g =
    let p = h.1 b g.0 in let q = g.1 a h.0 in let e : a ≡ b = grind (arith, p, q) in cc
