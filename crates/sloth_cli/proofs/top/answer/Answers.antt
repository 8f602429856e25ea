use Rattle.std.proofs.Common.{inl, inr, ap, subst}
use Rattle.std.specs.Prelude.{codes}
use Rattle.sloth_io.specs.Store.{Files, call_files}
use Rattle.command_line.specs.Command.{Uses}
use Rattle.command_line.specs.Words.{use_of}
use Rattle.core_commands.specs.CommandFiles.{inputs_of, AreFirstDelivered}
use Rattle.core_commands.specs.Failures.{IsCommandFailure, IsPerformed}
use Rattle.core_commands.specs.Top.{world}
use Rattle.sloth_commands.specs.ToolFiles.{IsToolAnswer}
use Rattle.sloth_commands.specs.ToolLines.{IsToldByLine, IsToolUntold}
use Rattle.core_commands.proofs.InOrder.{none-delivered}
use Rattle.core_commands.proofs.Causes.{finished, answered, usage-ends}
use Rattle.core_commands.proofs.Complete.{usage-of-put}
use Rattle.core_commands.proofs.NoTools.{answered-anyway}
use Rattle.core_commands.proofs.OwnOutput.{own-by-words}
use Rattle.core_commands.proofs.HandedOn.{failure-stays, performed-stays}
use Rattle.sloth_commands.proofs.ToolCauses.{no-image-file}
use Rattle.sloth_commands.proofs.ToolLines.{closed-lines, finished-lines, usage-lines}
use Rattle.sloth_cli.proofs.top.answer.Goals as goal

pub returns-in_default-clause-answers : goal.returns-in_default-clause-answers
returns-in_default-clause-answers g c = answered-anyway IsToolAnswer _ c.in_default.ensures.none _ _ _ c.core_top.ensures.answers

pub returns-in_default-clause-lines : goal.returns-in_default-clause-lines
returns-in_default-clause-lines g c u is = absurd (c.in_default.ensures.none u is)

pub returns-then-is_tool_input-clause-answers : goal.returns-then-is_tool_input-clause-answers
returns-then-is_tool_input-clause-answers g c =
    usage-ends IsToolAnswer _ (g.F.Store.seen c.args.files.now) (g.F.Store.seen c.is_tool_input.new.files) _ _ c.say.result c.is_tool_input.ensures.only
    (inr (Uses (use_of c.in-Some.tool), c.in-Some.ensures.some, c.is_tool_input.ensures.yes c.if-is_tool_input.true)) c.say.ensures.ends

pub returns-then-is_tool_input-clause-overwrite : goal.returns-then-is_tool_input-clause-overwrite
returns-then-is_tool_input-clause-overwrite g c other is tells own =
    usage-of-put (g.S.Sink.seen c.args.out.now) (g.S.Sink.seen c.say.new.out) c.say.result (codes "usage\n")
    c.say.ensures.ends

pub returns-then-is_tool_input-clause-reads : goal.returns-then-is_tool_input-clause-reads
returns-then-is_tool_input-clause-reads g c =
    let old = g.F.Store.seen c.args.files.now in
    let new = g.F.Store.seen c.is_tool_input.new.files in
    inl (
      Uses (use_of c.in-Some.tool),
      c.in-Some.ensures.some,
      none-delivered old new (inputs_of (Uses (use_of c.in-Some.tool))) (ap (λ (files : Files). files.reads) c.is_tool_input.ensures.only),
    )

pub returns-then-is_tool_input-clause-lines : goal.returns-then-is_tool_input-clause-lines
returns-then-is_tool_input-clause-lines g c =
    usage-lines _ (g.F.Store.seen c.args.files.now) (g.F.Store.seen c.is_tool_input.new.files) _ _ _ _ c.say.result
    c.is_tool_input.ensures.only
    (inr (Uses (use_of c.in-Some.tool), c.in-Some.ensures.some, c.is_tool_input.ensures.yes c.if-is_tool_input.true)) c.say.ensures.ends
    c.say.ensures.pieces

pub returns-in-Err-clause-answers : goal.returns-in-Err-clause-answers
returns-in-Err-clause-answers g c =
    let kept = c.is_tool_input.ensures.kept c.if-is_tool_input.false in
    let new = g.F.Store.seen c.use_tool.new.files in
    let P : Files → Type 0 = λ old.
    IsCommandFailure IsToolAnswer c.in-Err.failure (world (call_files old new) (g.S.Sink.seen c.args.out.now)) (world new (g.S.Sink.seen c.use_tool.new.out)) (Uses (use_of c.in-Some.tool)) in
    finished IsToolAnswer no-image-file c.in-Err.failure _ (Uses (use_of c.in-Some.tool)) _ _ _ _ c.finish.result c.in-Some.ensures.some (subst P kept c.in-Err.ensures.err) c.finish.ensures.ends

pub returns-in-Err-clause-overwrite : goal.returns-in-Err-clause-overwrite
returns-in-Err-clause-overwrite g c other is tells none =
    absurd (own-by-words _ (Uses (use_of c.in-Some.tool)) other c.in-Some.ensures.some is (c.is_tool_input.ensures.no c.if-is_tool_input.false tells) none)

pub returns-in-Err-clause-reads : goal.returns-in-Err-clause-reads
returns-in-Err-clause-reads g c =
    let kept = c.is_tool_input.ensures.kept c.if-is_tool_input.false in
    let P : Files → Type 0 = λ old. AreFirstDelivered old (g.F.Store.seen c.use_tool.new.files) (inputs_of (Uses (use_of c.in-Some.tool))) in
    inl (Uses (use_of c.in-Some.tool), c.in-Some.ensures.some, subst P kept c.use_tool.ensures.reads)

pub returns-in-Err-clause-lines : goal.returns-in-Err-clause-lines
returns-in-Err-clause-lines g c =
    let kept = c.is_tool_input.ensures.kept c.if-is_tool_input.false in
    let new = g.F.Store.seen c.use_tool.new.files in
    let P : Files → Type 0 = λ old.
    IsCommandFailure IsToolAnswer c.in-Err.failure (world (call_files old new) (g.S.Sink.seen c.args.out.now)) (world new (g.S.Sink.seen c.use_tool.new.out)) (Uses (use_of c.in-Some.tool)) in
    let Q : Files → Type 0 = λ old.
    IsToolUntold c.in-Err.failure (world (call_files old new) (g.S.Sink.seen c.args.out.now)) (world new (g.S.Sink.seen c.use_tool.new.out))
    (g.S.Sink.pieces c.args.out.now) (g.S.Sink.pieces c.use_tool.new.out) (use_of c.in-Some.tool) in
    finished-lines c.in-Err.failure _ (use_of c.in-Some.tool) _ _ _ _ _ _ _ c.finish.result c.in-Some.ensures.some (subst P kept c.in-Err.ensures.err)
    (subst Q kept c.in-Err.ensures.untold) c.finish.ensures.ends c.finish.ensures.pieces

pub returns-in-Ok-clause-answers : goal.returns-in-Ok-clause-answers
returns-in-Ok-clause-answers g c =
    let kept = c.is_tool_input.ensures.kept c.if-is_tool_input.false in
    let new = g.F.Store.seen c.use_tool.new.files in
    let P : Files → Type 0 = λ old.
    IsPerformed IsToolAnswer c.in-Ok.status (world (call_files old new) (g.S.Sink.seen c.args.out.now)) (world new (g.S.Sink.seen c.use_tool.new.out)) (Uses (use_of c.in-Some.tool)) in
    answered IsToolAnswer no-image-file _ (Uses (use_of c.in-Some.tool)) _ _ _ _ c.in-Ok.status c.close.result c.in-Some.ensures.some (subst P kept c.in-Ok.ensures.done) c.close.ensures.ends

pub returns-in-Ok-clause-overwrite : goal.returns-in-Ok-clause-overwrite
returns-in-Ok-clause-overwrite g c other is tells none =
    absurd (own-by-words _ (Uses (use_of c.in-Some.tool)) other c.in-Some.ensures.some is (c.is_tool_input.ensures.no c.if-is_tool_input.false tells) none)

pub returns-in-Ok-clause-reads : goal.returns-in-Ok-clause-reads
returns-in-Ok-clause-reads g c =
    let kept = c.is_tool_input.ensures.kept c.if-is_tool_input.false in
    let P : Files → Type 0 = λ old. AreFirstDelivered old (g.F.Store.seen c.use_tool.new.files) (inputs_of (Uses (use_of c.in-Some.tool))) in
    inl (Uses (use_of c.in-Some.tool), c.in-Some.ensures.some, subst P kept c.use_tool.ensures.reads)

pub returns-in-Ok-clause-lines : goal.returns-in-Ok-clause-lines
returns-in-Ok-clause-lines g c =
    let kept = c.is_tool_input.ensures.kept c.if-is_tool_input.false in
    let new = g.F.Store.seen c.use_tool.new.files in
    let P : Files → Type 0 = λ old.
    IsToldByLine c.in-Ok.status (world (call_files old new) (g.S.Sink.seen c.args.out.now)) (world new (g.S.Sink.seen c.use_tool.new.out))
    (g.S.Sink.pieces c.args.out.now) (g.S.Sink.pieces c.use_tool.new.out) (use_of c.in-Some.tool) in
    closed-lines c.in-Ok.status _ (use_of c.in-Some.tool) _ _ _ _ _ _ _ c.close.result c.in-Some.ensures.some (subst P kept c.in-Ok.ensures.lines) c.close.ensures.ends
    c.close.ensures.pieces

pub returns-in-Err-clause-handed : goal.returns-in-Err-clause-handed
returns-in-Err-clause-handed g c stays =
    let new = g.F.Store.seen c.use_tool.new.files in
    let old = world (call_files (g.F.Store.seen c.is_tool_input.new.files) new) (g.S.Sink.seen c.args.out.now) in
    let of =
    failure-stays IsToolAnswer c.in-Err.failure (Uses (use_of c.in-Some.tool)) old new (g.S.Sink.seen c.use_tool.new.out) (g.S.Sink.seen c.finish.new.out) c.finish.result
    c.in-Err.ensures.err c.finish.ensures.ends stays in
    c.finish.ensures.handed of.0 of.1

pub returns-in-Ok-clause-handed : goal.returns-in-Ok-clause-handed
returns-in-Ok-clause-handed g c stays =
    let new = g.F.Store.seen c.use_tool.new.files in
    let old = world (call_files (g.F.Store.seen c.is_tool_input.new.files) new) (g.S.Sink.seen c.args.out.now) in
    c.close.ensures.handed (performed-stays IsToolAnswer c.in-Ok.status (Uses (use_of c.in-Some.tool)) old new (g.S.Sink.seen c.use_tool.new.out) (g.S.Sink.seen c.close.new.out) c.in-Ok.ensures.done stays)
