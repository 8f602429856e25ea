use Rattle.std.proofs.Common.{subst}
use Rattle.std.proofs.lemmas.Result.{IfOk-weaker}
use Rattle.sloth_base.specs.declared.service.Service.TheVariants as service
use Rattle.run_windows.specs.RunWindows.{IsLeastOf}
use Rattle.walk_sums.specs.declared.counted.Counted.TheVariants as counts
use Rattle.response_reasons.specs.Calls.{HasServer, HasActivator}
use Rattle.response_reasons.proofs.Servers.{of_chain, of_activation}
use Rattle.response_reasons.proofs.calls.activating_line.Goals as goal

pub returns-in-Some : goal.returns-in-Some
returns-in-Some c =
    let w = c.args.walks.now in
    of_chain w.config w.app c.args.costs.now c.args.h c.args.j c.in-Some.line
    (subst (IsLeastOf (HasServer w.config w.app c.args.costs.now c.args.h (counts.Chains c.args.j))) c.in-Some.is c.in_ok-chained.ensures)

pub returns-in-None : goal.returns-in-None
returns-in-None c =
    let w = c.args.walks.now in
    let costs = c.args.costs.now in
    let h = c.args.h in
    let j = c.args.j in
    IfOk-weaker c.serving_line-in-None.result (IsLeastOf (HasServer w.config w.app costs h (counts.CallsFor service.ActivateTask j))) (IsLeastOf (HasActivator w.config w.app costs h j))
    (λ line l. of_activation w.config w.app costs h j line (subst (IsLeastOf (HasServer w.config w.app costs h (counts.Chains j))) c.in-None.is c.in_ok-chained.ensures) l)
    c.serving_line-in-None.ensures
