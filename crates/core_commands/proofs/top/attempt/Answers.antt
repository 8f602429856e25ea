use Rattle.std.proofs.lemmas.Result.{err_from_is_err_and, IfErr-weaker}
use Rattle.command_line.specs.Command.{Builds}
use Rattle.command_line.specs.Words.{building_of}
use Rattle.core_commands.specs.CommandFiles.{inputs_of}
use Rattle.core_commands.proofs.CallFiles.{stays-kept}
use Rattle.core_commands.proofs.InOrder.{still-delivered, texts-delivered}
use Rattle.core_commands.proofs.Causes.{read-ends, judge-ends, perform-ends, built-of, done, both-ok}
use Rattle.core_commands.specs.ToolTables.{LacksTools}
use Rattle.core_commands.proofs.SampleCauses.{built-owned}
use Rattle.core_commands.proofs.top.attempt.Goals as goal

pub returns-in_err-inputs-clause-err : goal.returns-in_err-inputs-clause-err
returns-in_err-inputs-clause-err g c =
    let failed = err_from_is_err_and c.from_residual.result c.from_residual.ensures.1 in
    rw (failed.1, failed.2)
    (read-ends LacksTools c.in_err-inputs.field-0.0 _ _ _ (Builds (building_of c.args.c.now)) c.in_err-inputs.ensures.err
    (stays-kept _ _ c.read_inputs.ensures.keeps))

pub returns-in_err-judged-clause-err : goal.returns-in_err-judged-clause-err
returns-in_err-judged-clause-err g c =
    let failed = err_from_is_err_and c.from_residual-in_err-judged.result c.from_residual-in_err-judged.ensures.1 in
    rw (failed.1, failed.2)
    (judge-ends c.in_err-judged.field-0.0 _ _ _ (building_of c.args.c.now) _ _ _ c.in_ok-inputs.ensures.ok c.in_ok-inputs.ensures.delivered c.in_err-judged.ensures.err
    (stays-kept _ _ c.read_inputs.ensures.keeps))

pub returns-clause-err : goal.returns-clause-err
returns-clause-err g c =
    let of = c.in_ok-judged.ensures in
    let built =
    built-of _ _ (building_of c.args.c.now) _ _ c.in_ok-judged.judged.built.image _ _ _ _ c.in_ok-inputs.ensures.ok c.in_ok-inputs.ensures.delivered of.accepted of.read of.in_range of.image c.read_inputs.ensures.keeps in
    IfErr-weaker c.perform.result _ _ (λ failure h. perform-ends failure _ _ _ _ (building_of c.args.c.now) c.in_ok-judged.judged.built.image _ built c.perform.ensures.reads h)
    (rw c.items.ensures at c.perform.ensures.err)

pub returns-clause-done : goal.returns-clause-done
returns-clause-done g c =
    let of = c.in_ok-judged.ensures in
    let built =
    built-of _ _ (building_of c.args.c.now) _ _ c.in_ok-judged.judged.built.image _ _ _ _ c.in_ok-inputs.ensures.ok c.in_ok-inputs.ensures.delivered of.accepted of.read of.in_range of.image c.read_inputs.ensures.keeps in
    both-ok c.perform.result _ _ _ (λ written text. (_, done _ _ _ (building_of c.args.c.now) c.in_ok-judged.judged.built.image _ built c.perform.ensures.reads written, text))
    c.perform.ensures.written (rw c.items.ensures at c.perform.ensures.text)

pub returns-in_err-inputs-clause-reads : goal.returns-in_err-inputs-clause-reads
returns-in_err-inputs-clause-reads g c = c.in_err-inputs.ensures.front

pub returns-in_err-judged-clause-reads : goal.returns-in_err-judged-clause-reads
returns-in_err-judged-clause-reads g c =
    texts-delivered (g.F.Store.seen c.args.files.now) (g.F.Store.seen c.read_inputs.new.files) (building_of c.args.c.now) _ _ _ c.in_ok-inputs.ensures.delivered

pub returns-clause-reads : goal.returns-clause-reads
returns-clause-reads g c =
    let old = g.F.Store.seen c.args.files.now in
    let mid = g.F.Store.seen c.read_inputs.new.files in
    still-delivered old mid (g.F.Store.seen c.perform.new.files) (inputs_of (Builds (building_of c.args.c.now))) c.perform.ensures.reads
    (texts-delivered old mid (building_of c.args.c.now) _ _ _ c.in_ok-inputs.ensures.delivered)

pub perform-requires-clause-format : goal.perform-requires-clause-format
perform-requires-clause-format g c = c.in_ok-judged.ensures.image.format

pub perform-requires-clause-arrivals : goal.perform-requires-clause-arrivals
perform-requires-clause-arrivals g c =
    let built = c.in_ok-judged.judged.built in
    rw c.items.ensures (built-owned built.config built.app built.image _ c.in_ok-judged.ensures.image c.in_ok-judged.ensures.in_range)
