use Rattle.std.proofs.Common.{◌<◌, length, subst, arith}
use Rattle.response_reasons.specs.Calls.{StartsInside}
use Rattle.response_reasons.proofs.calls.service_line.Goals as goal

pub activating_line-requires : goal.activating_line-requires
activating_line-requires c =
    let lt : c.in-Activation.j < length c.args.walks.now.config.tasks = subst (StartsInside (length c.args.walks.now.config.tasks)) c.in-Activation.is c.requires.inside in
    let few = c.requires.small in
    omega (arith, lt, few)

pub setting_line-requires : goal.setting_line-requires
setting_line-requires c =
    let lt : c.in-Setting.j < length c.args.walks.now.config.tasks = subst (StartsInside (length c.args.walks.now.config.tasks)) c.in-Setting.is c.requires.inside in
    let few = c.requires.small in
    omega (arith, lt, few)

pub raising_line-requires : goal.raising_line-requires
raising_line-requires c = subst (StartsInside (length c.args.walks.now.config.tasks)) c.in-Section.is c.requires.inside
