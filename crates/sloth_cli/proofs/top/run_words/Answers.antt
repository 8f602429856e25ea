use Rattle.std.proofs.Common.{ℕ, List, [], None, inl, inr, subst}
use Rattle.sloth_io.specs.FileStore.{shown_files}
use Rattle.sloth_io.specs.OutSink.{shown_output, given_bytes}
use Rattle.debug_session.specs.Transcripts.{Act}
use Rattle.debug_command.specs.DebugAnswers.{heard}
use Rattle.debug_command.specs.DebugRun.{IsDebugRun}
use Rattle.debug_command.specs.Words.{debugging_of}
use Rattle.sloth_cli.proofs.top.run_words.Goals as goal

pub returns-in-Some : goal.returns-in-Some
returns-in-Some g c =
    let d = debugging_of c.in-Some.asked in
    let files = shown_files c.debug_over.new.files in
    let out = c.debug_over.new.out in
    let came = c.debug_over.new.input.given.items in
    let acts = c.debug_over.new.transcript.notes.items in
    let B : List ℕ → Type 0 = λ before. IsDebugRun d (heard None before came c.new-transcript.result.notes.items acts) files (given_bytes out) (shown_output out).faults c.debug_over.result in
    let A : List Act → Type 0 = λ first. IsDebugRun d (heard None [] came first acts) files (given_bytes out) (shown_output out).faults c.debug_over.result in
    inl (d, c.in-Some.ensures.some, (came, acts, files, given_bytes out, (shown_output out).faults, subst A c.new-transcript.ensures (subst B c.new-input.ensures.given c.debug_over.ensures)))

pub returns-in-None : goal.returns-in-None
returns-in-None g c =
    let out = c.run_over.new.out in
    inr (c.in-None.ensures.none, (shown_files c.run_over.new.files, given_bytes out, (shown_output out).faults, c.run_over.ensures))
