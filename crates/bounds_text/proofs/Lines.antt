-- The lines of the first tasks.
use Rattle.std.proofs.Common.{◌≡◌, ◌+◌, ◌<◌, ℕ, zero, suc, List, [], ◌++◌, get_or, codes, refl, ap, ◌∙◌, arith}
use Rattle.std.proofs.Math.Numerals.{add-one}
use Rattle.sloth_base.specs.declared.config.TaskDecl.{TaskDecl}
use Rattle.sloth_base.specs.Named.{undeclared_task}
use Rattle.bound_rules.specs.declared.bound.Bound.{Bound}
use Rattle.bound_rules.specs.declared.bound.Bound.TheVariants as bound
use Rattle.bounds_text.specs.BoundsText.{bound_text, bound_line, bound_lines}

pub no-lines : (tasks : List TaskDecl) (bounds : List Bound) → bound_lines tasks bounds 0 ≡ []
unfolding bound_lines
no-lines tasks bounds = refl

pub one-line-more : (tasks : List TaskDecl) (bounds : List Bound) (k : ℕ) → bound_lines tasks bounds (k + 1) ≡ bound_lines tasks bounds k ++ bound_line tasks bounds k
unfolding bound_lines
one-line-more tasks bounds k = ap (bound_lines tasks bounds) (add-one k)

same-line : (tasks : List TaskDecl) (one other : List Bound) (k : ℕ) → get_or one k bound.Endless ≡ get_or other k bound.Endless → bound_line tasks one k ≡ bound_line tasks other k
unfolding bound_line
same-line tasks one other k e = ap (λ b. ((get_or tasks k undeclared_task).name ++ bound_text b) ++ codes "\n") e

-- lines of the same bounds are the same
pub same-lines : (tasks : List TaskDecl) (one other : List Bound) (n : ℕ) → ((t : ℕ) → t < n → get_or one t bound.Endless ≡ get_or other t bound.Endless)
    → bound_lines tasks one n ≡ bound_lines tasks other n
unfolding bound_lines
same-lines tasks one other zero e = refl
same-lines tasks one other (suc n) e =
    ap (λ l. l ++ bound_line tasks one n) (same-lines tasks one other n (λ t lt. e t (omega (arith, lt))))
    ∙ ap (λ l. bound_lines tasks other n ++ l) (same-line tasks one other n (e n (omega arith)))
