use Rattle.std.proofs.Common.{◌≡◌, ◌∙◌, ℕ, List, ◌++◌, refl, sym, ap, append-nil}
use Rattle.sloth_io.specs.FileStore.{shown_files}
use Rattle.sloth_io.specs.Store.{Files}
use Rattle.sloth_io.specs.OutSink.{IsPassedOn, shown_output, accepted_bytes, given_bytes}
use Rattle.debug_command.specs.DebugAnswers.{heard}
use Rattle.debug_command.specs.Words.{debugging_of}
use Rattle.debug_command.proofs.DebugRan.{debug_ran}
use Rattle.debug_command.proofs.command.debug_over.Goals as goal

pub returns : goal.returns
returns g c =
    let files = c.debug.new.files in
    let out = c.debug.new.out in
    let passed : IsPassedOn out → given_bytes out ≡ accepted_bytes out = λ on.
    sym (out.but on.0 ∙ ap (λ (xs : List ℕ). given_bytes out ++ xs) on.1 ∙ append-nil (given_bytes out)) in
    debug_ran (debugging_of c.args.words.now)
    (heard (g.I.Input.coming c.args.input.now) (g.I.Input.given c.args.input.now) (g.I.Input.given c.debug.new.input) c.args.transcript.now.notes.items c.debug.new.transcript.notes.items)
    (shown_files c.args.files.now) (shown_files files)
    (shown_output c.args.out.now) (shown_output out) (accepted_bytes c.args.out.now) (accepted_bytes out) (given_bytes out) (IsPassedOn out) c.debug.result
    refl c.requires.out refl c.requires.faults c.requires.files out.front passed
    (c.debug.ensures.keeps.writes ∙ ap (λ (files : Files). files.writes) c.requires.files) c.debug.ensures.answer
