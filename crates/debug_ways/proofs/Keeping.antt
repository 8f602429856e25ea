-- Machines that were kept of a run.
use Rattle.std.proofs.Common.{◌≡◌, ℕ, ◌+◌, ◌*◌, ◌<◌, ◌≤◌, ◌∙◌, ⊎_elim, List, [], ◌∷◌, ◌++◌, length, ap, arith, length-append}
use Rattle.std.proofs.lemmas.List.{get_or_append_left, get_or_push}
use Rattle.std.proofs.lemmas.Bool.{cases_lt}
use Rattle.debug_ways.specs.Runs.{Run}
use Rattle.debug_ways.specs.Marks.{AreMarks}

-- one more behind them
pub marks_longer : {M : Type 0} (run_of : M → Run) (count_of : M → ℕ) (run : Run) (marks : List M) (mark : M) → AreMarks run_of count_of run marks
    → run_of mark ≡ run → count_of mark ≡ length marks * 65536 → AreMarks run_of count_of run (marks ++ mark ∷ [])
marks_longer run_of count_of run marks mark are is stands = λ i d inside.
    ⊎_elim (λ (before : i < length marks).
    let e = get_or_append_left marks (mark ∷ []) d i before in
    (ap run_of e ∙ (are i d before).0, ap count_of e ∙ (are i d before).1))
    (λ (behind : length marks ≤ i).
    let at : length marks ≡ i = grind (arith, length-append, inside, behind) in
    let e = get_or_push marks mark d i at in
    (ap run_of e ∙ is, ap count_of e ∙ stands ∙ ap (λ n. n * 65536) at))
    (cases_lt i (length marks))

pub one_longer : {M : Type 0} (marks next : List M) (mark : M) → next ≡ marks ++ mark ∷ [] → length next ≡ length marks + 1
one_longer marks next mark is = ap length is ∙ length-append marks (mark ∷ [])
