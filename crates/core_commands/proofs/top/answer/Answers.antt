use Rattle.std.proofs.Common.{inl, inr, ap, subst}
use Rattle.std.specs.Prelude.{codes}
use Rattle.sloth_io.specs.Store.{Files, call_files}
use Rattle.command_line.specs.Words.{command_of}
use Rattle.core_commands.specs.CommandFiles.{inputs_of, AreFirstDelivered}
use Rattle.core_commands.specs.Failures.{IsCommandFailure, IsPerformed}
use Rattle.core_commands.specs.ToolTables.{LacksTools}
use Rattle.core_commands.specs.Top.{world}
use Rattle.core_commands.proofs.InOrder.{none-delivered}
use Rattle.core_commands.proofs.Causes.{finished, answered, usage-ends}
use Rattle.core_commands.proofs.Complete.{no-tool, usage-of-put}
use Rattle.core_commands.proofs.NoTools.{lacking-ends, lacking-reads, lacks-faults}
use Rattle.core_commands.proofs.OwnOutput.{own-by-words}
use Rattle.core_commands.proofs.HandedOn.{failure-stays, performed-stays}
use Rattle.core_commands.proofs.top.answer.Goals as goal

pub returns-in_default-clause-answers : goal.returns-in_default-clause-answers
returns-in_default-clause-answers g c =
    lacking-ends _ (g.F.Store.seen c.args.files.now) _ _ c.say.result c.in_default.ensures.none c.say.ensures.ends

pub returns-in_default-clause-no_tool : goal.returns-in_default-clause-no_tool
returns-in_default-clause-no_tool g c u is =
    usage-of-put (g.S.Sink.seen c.args.out.now) (g.S.Sink.seen c.say.new.out) c.say.result (codes "usage\n") c.say.ensures.ends

pub returns-in_default-clause-overwrite : goal.returns-in_default-clause-overwrite
returns-in_default-clause-overwrite g c other is tells own =
    usage-of-put (g.S.Sink.seen c.args.out.now) (g.S.Sink.seen c.say.new.out) c.say.result (codes "usage\n") c.say.ensures.ends

pub returns-in_default-clause-reads : goal.returns-in_default-clause-reads
returns-in_default-clause-reads g c = lacking-reads _ (g.F.Store.seen c.args.files.now) c.in_default.ensures.none

pub returns-then-overwrites_input-clause-answers : goal.returns-then-overwrites_input-clause-answers
returns-then-overwrites_input-clause-answers g c =
    usage-ends LacksTools _ (g.F.Store.seen c.args.files.now) (g.F.Store.seen c.overwrites_input.new.files) _ _ c.say-then-overwrites_input.result
    c.overwrites_input.ensures.only
    (inr (command_of c.in-Some.c, c.in-Some.ensures.some, c.overwrites_input.ensures.yes c.if-overwrites_input.true)) c.say-then-overwrites_input.ensures.ends

pub returns-then-overwrites_input-clause-no_tool : goal.returns-then-overwrites_input-clause-no_tool
returns-then-overwrites_input-clause-no_tool g c u is = absurd (no-tool _ u (command_of c.in-Some.c) is c.in-Some.ensures.some c.in-Some.ensures.plain)

pub returns-then-overwrites_input-clause-overwrite : goal.returns-then-overwrites_input-clause-overwrite
returns-then-overwrites_input-clause-overwrite g c other is tells own =
    usage-of-put (g.S.Sink.seen c.args.out.now) (g.S.Sink.seen c.say-then-overwrites_input.new.out) c.say-then-overwrites_input.result (codes "usage\n")
    c.say-then-overwrites_input.ensures.ends

pub returns-then-overwrites_input-clause-reads : goal.returns-then-overwrites_input-clause-reads
returns-then-overwrites_input-clause-reads g c =
    let old = g.F.Store.seen c.args.files.now in
    let new = g.F.Store.seen c.overwrites_input.new.files in
    inl (
      command_of c.in-Some.c,
      c.in-Some.ensures.some,
      none-delivered old new (inputs_of (command_of c.in-Some.c)) (ap (λ (files : Files). files.reads) c.overwrites_input.ensures.only),
    )

pub returns-in-Err-clause-answers : goal.returns-in-Err-clause-answers
returns-in-Err-clause-answers g c =
    let kept = c.overwrites_input.ensures.kept c.if-overwrites_input.false in
    let new = g.F.Store.seen c.obey.new.files in
    let P : Files → Type 0 = λ old.
    IsCommandFailure LacksTools c.in-Err.failure (world (call_files old new) (g.S.Sink.seen c.args.out.now)) (world new (g.S.Sink.seen c.obey.new.out)) (command_of c.in-Some.c) in
    finished LacksTools lacks-faults c.in-Err.failure _ (command_of c.in-Some.c) _ _ _ _ c.finish.result c.in-Some.ensures.some (subst P kept c.in-Err.ensures.err) c.finish.ensures.ends

pub returns-in-Err-clause-no_tool : goal.returns-in-Err-clause-no_tool
returns-in-Err-clause-no_tool g c u is = absurd (no-tool _ u (command_of c.in-Some.c) is c.in-Some.ensures.some c.in-Some.ensures.plain)

pub returns-in-Err-clause-overwrite : goal.returns-in-Err-clause-overwrite
returns-in-Err-clause-overwrite g c other is tells none =
    absurd (own-by-words _ (command_of c.in-Some.c) other c.in-Some.ensures.some is (c.overwrites_input.ensures.no c.if-overwrites_input.false tells) none)

pub returns-in-Err-clause-reads : goal.returns-in-Err-clause-reads
returns-in-Err-clause-reads g c =
    let kept = c.overwrites_input.ensures.kept c.if-overwrites_input.false in
    let P : Files → Type 0 = λ old. AreFirstDelivered old (g.F.Store.seen c.obey.new.files) (inputs_of (command_of c.in-Some.c)) in
    inl (command_of c.in-Some.c, c.in-Some.ensures.some, subst P kept c.obey.ensures.reads)

pub returns-in-Ok-clause-answers : goal.returns-in-Ok-clause-answers
returns-in-Ok-clause-answers g c =
    let kept = c.overwrites_input.ensures.kept c.if-overwrites_input.false in
    let new = g.F.Store.seen c.obey.new.files in
    let P : Files → Type 0 = λ old.
    IsPerformed LacksTools c.in-Ok.status (world (call_files old new) (g.S.Sink.seen c.args.out.now)) (world new (g.S.Sink.seen c.obey.new.out)) (command_of c.in-Some.c) in
    answered LacksTools lacks-faults _ (command_of c.in-Some.c) _ _ _ _ c.in-Ok.status c.close.result c.in-Some.ensures.some (subst P kept c.in-Ok.ensures.done) c.close.ensures.ends

pub returns-in-Ok-clause-no_tool : goal.returns-in-Ok-clause-no_tool
returns-in-Ok-clause-no_tool g c u is = absurd (no-tool _ u (command_of c.in-Some.c) is c.in-Some.ensures.some c.in-Some.ensures.plain)

pub returns-in-Ok-clause-overwrite : goal.returns-in-Ok-clause-overwrite
returns-in-Ok-clause-overwrite g c other is tells none =
    absurd (own-by-words _ (command_of c.in-Some.c) other c.in-Some.ensures.some is (c.overwrites_input.ensures.no c.if-overwrites_input.false tells) none)

pub returns-in-Ok-clause-reads : goal.returns-in-Ok-clause-reads
returns-in-Ok-clause-reads g c =
    let kept = c.overwrites_input.ensures.kept c.if-overwrites_input.false in
    let P : Files → Type 0 = λ old. AreFirstDelivered old (g.F.Store.seen c.obey.new.files) (inputs_of (command_of c.in-Some.c)) in
    inl (command_of c.in-Some.c, c.in-Some.ensures.some, subst P kept c.obey.ensures.reads)

pub returns-in-Err-clause-handed : goal.returns-in-Err-clause-handed
returns-in-Err-clause-handed g c stays =
    let new = g.F.Store.seen c.obey.new.files in
    let old = world (call_files (g.F.Store.seen c.overwrites_input.new.files) new) (g.S.Sink.seen c.args.out.now) in
    let of =
    failure-stays LacksTools c.in-Err.failure (command_of c.in-Some.c) old new (g.S.Sink.seen c.obey.new.out) (g.S.Sink.seen c.finish.new.out) c.finish.result
    c.in-Err.ensures.err c.finish.ensures.ends stays in
    c.finish.ensures.handed of.0 of.1

pub returns-in-Ok-clause-handed : goal.returns-in-Ok-clause-handed
returns-in-Ok-clause-handed g c stays =
    let new = g.F.Store.seen c.obey.new.files in
    let old = world (call_files (g.F.Store.seen c.overwrites_input.new.files) new) (g.S.Sink.seen c.args.out.now) in
    c.close.ensures.handed (performed-stays LacksTools c.in-Ok.status (command_of c.in-Some.c) old new (g.S.Sink.seen c.obey.new.out) (g.S.Sink.seen c.close.new.out) c.in-Ok.ensures.done stays)
