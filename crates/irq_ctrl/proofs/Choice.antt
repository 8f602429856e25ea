-- The best line below 32 is the choice.
use Rattle.std.proofs.Common.{◌≡◌, ℕ, ◌∙◌, ap, sym, subst, Option}
use Rattle.sloth_base.specs.Lines.{Lines}
use Rattle.sloth_base.specs.Choose.{best_line_below, choose_line, IsChosen}
use Rattle.sloth_base.specs.MemoryMap.{line_count}
use Rattle.sloth_base.proofs.Choosing.{choose_line-is}

pub choice_at_end
    : (lines : Lines) (level line : ℕ) (best : Option ℕ) → best ≡ best_line_below lines level line → line ≡ line_count
    → best ≡ choose_line lines level
unfolding choose_line
choice_at_end lines level line best e end = e ∙ ap (best_line_below lines level) end

pub chosen_at_end
    : (lines : Lines) (level line : ℕ) (best : Option ℕ) → best ≡ best_line_below lines level line → line ≡ line_count
    → IsChosen lines level best
chosen_at_end lines level line best e end =
    subst (IsChosen lines level) (sym (choice_at_end lines level line best e end)) (choose_line-is lines level)
