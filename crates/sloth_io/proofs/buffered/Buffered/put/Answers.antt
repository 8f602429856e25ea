use Rattle.std.proofs.lemmas.Result.{err_from_is_err_and, on_err_weaker, on_ok_weaker}
use Rattle.sloth_io.proofs.Passing.{passes-behind, breaks-behind, breaks-before}
use Rattle.sloth_io.proofs.buffered.Buffered.put.Goals as goal

pub returns-in_err-flush-clause-err : goal.returns-in_err-flush-clause-err
returns-in_err-flush-clause-err g c =
    let failed = err_from_is_err_and c.from_residual.result c.from_residual.ensures.1 in
    rw failed.1 (breaks-before _ _ c.args.self.now.backlog c.args.piece.now c.in_err-flush.ensures.err)

pub returns-clause-ok : goal.returns-clause-ok
returns-clause-ok g c =
    on_ok_weaker c.begin.result (passes-behind _ _ _ c.args.self.now.backlog c.args.piece.now _ c.in_ok-flush.ensures.ok) c.begin.ensures.ok

pub returns-clause-err : goal.returns-clause-err
returns-clause-err g c =
    on_err_weaker c.begin.result (breaks-behind _ _ _ c.args.self.now.backlog c.args.piece.now c.in_ok-flush.ensures.ok) c.begin.ensures.err
