use Rattle.std.proofs.Common.{get_or, refl, arith, ⊎_elim, lit<}
use Rattle.std.specs.Prelude.{ltb, set, replicate}
use Rattle.std.proofs.lemmas.Bool.{ltb-true, cases_lt}
use Rattle.std.proofs.lemmas.List.{get_or_past}
use Rattle.sloth_base.specs.Limits.{task_limit}
use Rattle.top_answers.proofs.Every.{every_at}
use Rattle.top_answers.proofs.kernel.levels.Goals as goal

pub returns : goal.returns
returns c =
    let levels = set (replicate task_limit 0) 0 5 in (
      lit< tt,
      λ t. ⊎_elim (λ h. ltb-true (get_or levels t 0) 32 (every_at (λ x. ltb x 32) levels refl t h)) (λ h. let e = get_or_past levels t 0 h in omega arith) (cases_lt t task_limit),
    )
