use Rattle.std.proofs.Common.{◌≡◌, ◌<◌, ap, ◌∙◌, subst, arith, Some, ⊎_elim}
use Rattle.std.proofs.lemmas.Bool.{cases_eq}
use Rattle.sloth_base.specs.declared.app.Func.{Func}
use Rattle.code_lengths.specs.Bodies.{IsBodyPlace}
use Rattle.code_lengths.proofs.lengths.body_of.Goals as goal

pub loop-i-preserved : goal.loop-i-preserved
loop-i-preserved c = λ k below is.
    ⊎_elim
    (λ e.
    let here = subst (IsBodyPlace c.args.funcs.now c.args.task) e is in
    let owned : c.index-funcs-i.result.task ≡ Some c.args.task = ap (λ (f : Func). f.task) c.index-funcs-i.is ∙ here.1 c.index-funcs-i.result in
    let yes = c.if-is_task_body.ensures.1 owned in
    grind (arith, yes))
    (λ ne. c.loop-i.invariant k (omega arith) is)
    (cases_eq k c.loop-i.i)

pub returns : goal.returns
returns c =
    let is = c.requires.1 in
    let below : c.requires.0 < c.loop-i.i = omega (arith, is.0) in
    absurd (c.loop-i.invariant c.requires.0 below is)
