use Rattle.std.proofs.Common.{sym, subst}
use Rattle.shares_text.specs.Verdicts.{AreVerdicts}
use Rattle.shares_text.proofs.Kept.{keeps_verdicts}
use Rattle.shares_text.proofs.symbol_verdicts.data_verdicts.Goals as goal

pub returns-clause-kept : goal.returns-clause-kept
returns-clause-kept c =
    let config = c.args.verified.now.config in
    let app = c.args.verified.now.app in
    let are : AreVerdicts config app c.from_vec.result =
    subst (λ x. AreVerdicts x app c.from_vec.result) c.config-config.ensures.is
    (subst (λ x. AreVerdicts c.config-config.result.now x c.from_vec.result) c.app-app.ensures.is
    (subst (λ x. AreVerdicts c.config-config.result.now c.app-app.result.now x) (sym c.from_vec.ensures) c.in_ok-list.ensures)) in
    keeps_verdicts config app c.from_vec.result c.config-config.ensures.well_formed are
