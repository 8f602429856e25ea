use Rattle.std.proofs.lemmas.Result.{err_from_is_err_and, IfErr-weaker}
use Rattle.command_line.specs.Words.{execution_of}
use Rattle.core_commands.proofs.CallFiles.{stays-kept}
use Rattle.core_commands.proofs.InOrder.{exec-delivered}
use Rattle.core_commands.proofs.ImageCauses.{runnable, load-ends, exec-done, exec-failed, both-told}
use Rattle.core_commands.proofs.image_commands.execute.Goals as goal

pub returns-clause-err : goal.returns-clause-err
returns-clause-err g c =
    let of = c.in_ok-loaded.ensures in
    let is =
    runnable (g.F.Store.seen c.args.files.now) (g.F.Store.seen c.read_inputs.new.files) (execution_of c.args.e.now) c.in_ok-loaded.loaded.image c.in_ok-loaded.loaded.arrivals.items _ _ c.in_ok-inputs.ensures.ok c.in_ok-inputs.ensures.delivered of.image of.read of.in_range in
    IfErr-weaker c.run_image.result _ _
    (λ failure h. exec-failed failure _ _ _ _ (execution_of c.args.e.now) c.in_ok-loaded.loaded.image c.in_ok-loaded.loaded.arrivals.items is
    (stays-kept _ _ c.read_inputs.ensures.keeps) h)
    (rw c.as_slice.ensures.value at c.run_image.ensures.err)

pub returns-clause-done : goal.returns-clause-done
returns-clause-done g c =
    let of = c.in_ok-loaded.ensures in
    let is =
    runnable (g.F.Store.seen c.args.files.now) (g.F.Store.seen c.read_inputs.new.files) (execution_of c.args.e.now) c.in_ok-loaded.loaded.image c.in_ok-loaded.loaded.arrivals.items _ _ c.in_ok-inputs.ensures.ok c.in_ok-inputs.ensures.delivered of.image of.read of.in_range in
    both-told c.run_image.result _ _ _
    (λ status end text. exec-done status _ _ _ _ (execution_of c.args.e.now) c.in_ok-loaded.loaded.image c.in_ok-loaded.loaded.arrivals.items is
    (stays-kept _ _ c.read_inputs.ensures.keeps) end text)
    (rw c.as_slice.ensures.value at c.run_image.ensures.end) (rw c.as_slice.ensures.value at c.run_image.ensures.text)

pub returns-in_err-loaded-clause-err : goal.returns-in_err-loaded-clause-err
returns-in_err-loaded-clause-err g c =
    let failed = err_from_is_err_and c.from_residual-in_err-loaded.result c.from_residual-in_err-loaded.ensures.1 in
    rw (failed.1, failed.2)
    (load-ends c.in_err-loaded.field-0.0 (g.F.Store.seen c.args.files.now) (g.F.Store.seen c.read_inputs.new.files) _ (execution_of c.args.e.now) _ _
    c.in_ok-inputs.ensures.ok c.in_ok-inputs.ensures.delivered c.in_err-loaded.ensures.err (stays-kept _ _ c.read_inputs.ensures.keeps))

pub returns-in_err-inputs-clause-reads : goal.returns-in_err-inputs-clause-reads
returns-in_err-inputs-clause-reads g c = c.in_err-inputs.ensures.front

pub returns-in_err-loaded-clause-reads : goal.returns-in_err-loaded-clause-reads
returns-in_err-loaded-clause-reads g c =
    exec-delivered (g.F.Store.seen c.args.files.now) (g.F.Store.seen c.read_inputs.new.files) (execution_of c.args.e.now) _ _ c.in_ok-inputs.ensures.delivered

pub returns-clause-reads : goal.returns-clause-reads
returns-clause-reads g c =
    exec-delivered (g.F.Store.seen c.args.files.now) (g.F.Store.seen c.read_inputs.new.files) (execution_of c.args.e.now) _ _ c.in_ok-inputs.ensures.delivered
