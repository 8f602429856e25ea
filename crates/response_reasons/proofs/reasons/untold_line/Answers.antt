use Rattle.std.proofs.Common.{length, subst}
use Rattle.run_windows.specs.FirstUntold.{IsInside}
use Rattle.response_reasons.proofs.reasons.untold_line.Goals as goal

pub item_line-requires-clause-clean : goal.item_line-requires-clause-clean
item_line-requires-clause-clean c =
    c.requires.clean c.in-Rounds.k (subst (IsInside (length c.args.walks.now.config.tasks)) c.in-Rounds.is c.requires.inside)

pub making_line-requires-clause-clean : goal.making_line-requires-clause-clean
making_line-requires-clause-clean c =
    c.requires.clean c.in-Makings.k (subst (IsInside (length c.args.walks.now.config.tasks)) c.in-Makings.is c.requires.inside).0
