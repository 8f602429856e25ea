use Rattle.std.proofs.Common.{sym, subst}
use Rattle.std.proofs.lemmas.Result.{err_from_is_err_and}
use Rattle.call_graph.specs.Ranks.{RanksOf}
use Rattle.task_verify.specs.Accepted.{VerifiedCode}
use Rattle.sloth_source.proofs.Meaning.{accepted_code, refused_code}
use Rattle.sloth_source.proofs.reading.read_checked.Goals as goal

pub returns-clause-accepted : goal.returns-clause-accepted
returns-clause-accepted c =
    let read = c.in_ok-config.field-0 in
    accepted_code c.args.oil.now c.args.src.now read.config read.app c.in_ok-verified.verified c.in_ok-config.ensures.has_ranks c.in_ok-verified.ensures.none
    c.in_ok-verified.ensures.accepted

pub returns-clause-belong : goal.returns-clause-belong
returns-clause-belong c =
    let read = c.in_ok-config.field-0 in
    subst (λ (x : VerifiedCode). RanksOf x.app read.ranks) (sym c.in_ok-verified.ensures.accepted) c.in_ok-config.ensures.belong

pub returns-in_err-verified-clause-refused : goal.returns-in_err-verified-clause-refused
returns-in_err-verified-clause-refused c =
    let read = c.in_ok-config.field-0 in
    let failed = err_from_is_err_and c.from_residual-in_err-verified.result c.from_residual-in_err-verified.ensures.1 in
    rw (failed.1, failed.2)
    (refused_code c.args.oil.now c.args.src.now read.config read.app c.in_err-verified.field-0.0 c.in_ok-config.ensures.has_ranks c.in_err-verified.ensures.refused)
