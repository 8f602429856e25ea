-- The first loss, step by step.
use Rattle.std.proofs.Common.{◌≡◌, ◌<◌, ◌+◌, ◌-◌, ◌*◌, ◌∙◌, ℕ, suc, false, cond, Some, List, ap, arith}
use Rattle.symbol_image.specs.Frames.{first_loss, loses, memory_word}
use Rattle.symbol_image.specs.declared.frames.Lost.{Lost}

left-one : (k left : ℕ) → k < left → left - k ≡ suc (left - (k + 1))
left-one k left h = omega (arith, h)

-- behind an instruction that loses nothing it is that of those that are left
pub loss_behind : (what : Lost) (memory : List ℕ) (base from left k : ℕ) → k < left → loses what (memory_word memory (base + 4 * (from + k))) ≡ false
    → first_loss what memory base (from + k) (left - k) ≡ first_loss what memory base (from + (k + 1)) (left - (k + 1))
loss_behind what memory base from left k h t =
    let next : from + k + 1 ≡ from + (k + 1) = omega arith in
    ap (first_loss what memory base (from + k)) (left-one k left h)
    ∙ ap (λ b. cond b (Some (from + k)) (first_loss what memory base (from + k + 1) (left - (k + 1)))) t
    ∙ ap (λ n. first_loss what memory base n (left - (k + 1))) next
