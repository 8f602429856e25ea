-- Each of several short files is short, and so is one that is not there.
use Rattle.std.proofs.Common.{ℕ, ◌≤◌, List, [], length, get_or, inl, inr, sym, subst, arith}
use Rattle.std.specs.List.{All}
use Rattle.std.proofs.lemmas.Bool.Decides.{leb_tells}
use Rattle.std.proofs.lemmas.List.{get_or_past}
use Rattle.std.proofs.lemmas.List.Elements.{All-get_or}
use Rattle.sloth_base.specs.Limits.{file_limit}
use Rattle.tool_commands.specs.Answers.{input}

pub short_input : (inputs : List (List ℕ)) (k : ℕ) → All (λ i. length i ≤ file_limit) inputs → length (input inputs k) ≤ file_limit
short_input inputs k all =
    elim (leb_tells (length inputs) k) [
      | inl past ↦ subst (λ (l : List ℕ). length l ≤ file_limit) (sym (get_or_past inputs k [] past.1)) (omega arith)
      | inr here ↦ All-get_or (λ (i : List ℕ). length i ≤ file_limit) inputs k [] here.1 all
    ]
