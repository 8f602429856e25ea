-- The lines of the first tasks, and that there is one list of them.
use Rattle.std.proofs.Common.{◌≡◌, ◌+◌, ℕ, List, [], ◌++◌, refl, ap}
use Rattle.std.proofs.Math.Numerals.{add-one}
use Rattle.sloth_base.specs.declared.config.TaskDecl.{TaskDecl}
use Rattle.walk_sums.specs.declared.sections.Sum.{Sum}
use Rattle.bounds_text.specs.LowerCounts.{count_line, count_lines}

pub no-lines : (tasks : List TaskDecl) (weight : ℕ) (table : List (List Sum)) → count_lines tasks weight table 0 ≡ []
unfolding count_lines
no-lines tasks weight table = refl

pub one-line-more : (tasks : List TaskDecl) (weight : ℕ) (table : List (List Sum)) (k : ℕ)
    → count_lines tasks weight table (k + 1) ≡ count_lines tasks weight table k ++ count_line tasks weight table k
unfolding count_lines
one-line-more tasks weight table k = ap (count_lines tasks weight table) (add-one k)
