use Rattle.std.proofs.Common.{subst, sym}
use Rattle.sloth_base.specs.declared.app.Func.{Func}
use Rattle.call_graph.specs.Reached.{IsOfFew}
use Rattle.call_graph.proofs.Sets.{has_none}
use Rattle.call_graph.proofs.Itself.{func_is}
use Rattle.call_graph.proofs.rows.reaching_tasks.Goals as goal

pub loop-number-init : goal.loop-number-init
loop-number-init c = has_none

pub with_user-users-requires : goal.with_user-users-requires
with_user-users-requires c =
    let i = c.loop-number.number in
    subst (λ (f : Func). IsOfFew f) (sym (func_is c.args.funcs.now i c.index-funcs-number.result c.loop-number-test.true c.index-funcs-number.is)) (c.requires.few.tasks i c.loop-number-test.true)
