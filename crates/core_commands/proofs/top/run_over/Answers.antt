use Rattle.std.proofs.Common.{◌≡◌, ◌≢◌, ◌∙◌, ℕ, List, ◌++◌, Some, refl, sym, ap, subst, append-nil, arith}
use Rattle.command_line.specs.Command.{words_of}
use Rattle.sloth_io.specs.Store.{Files}
use Rattle.sloth_io.specs.FileStore.{shown_files}
use Rattle.core_commands.specs.CommandFiles.{ReadsInOrder}
use Rattle.sloth_io.specs.OutSink.{IsPassedOn, shown_output, accepted_bytes, given_bytes}
use Rattle.command_line.specs.declared.answer.Status.TheVariants as status
use Rattle.core_commands.proofs.Shipped.{ran}
use Rattle.core_commands.specs.ToolTables.{LacksTools}
use Rattle.core_commands.proofs.top.run_over.Goals as goal

pub returns : goal.returns
returns g c =
    let files = c.core_top.new.files in
    let out = c.core_top.new.out in
    let given : IsPassedOn out → given_bytes out ≡ accepted_bytes out = λ on.
    sym (out.but on.0 ∙ ap (λ (xs : List ℕ). given_bytes out ++ xs) on.1 ∙ append-nil (given_bytes out)) in
    let passed : c.core_top.result ≢ status.WriteFault → given_bytes out ≡ accepted_bytes out = λ no. given (c.core_top.ensures.passed no) in
    let handed : (shown_output out).faults ≡ 0 → given_bytes out ≡ accepted_bytes out = λ none.
    given (c.core_top.ensures.handed (none ∙ sym c.requires.faults, omega (arith, c.requires.faults))) in
    ran LacksTools (words_of c.args.words.now) (shown_files files)
    (shown_output c.args.out.now) (shown_output out) (accepted_bytes out) (given_bytes out) c.core_top.result
    (ap (λ (xs : List ℕ). Some xs) c.requires.out) c.requires.faults refl out.front passed handed
    (subst (λ (old : Files). ReadsInOrder (words_of c.args.words.now) old (shown_files files)) c.requires.files c.core_top.ensures.reads) (shown_files c.args.files.now) c.requires.files c.core_top.ensures.answers
