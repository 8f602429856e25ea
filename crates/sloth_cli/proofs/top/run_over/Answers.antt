use Rattle.std.proofs.Common.{◌≡◌, ◌≢◌, ◌∙◌, ℕ, List, ◌++◌, Some, refl, sym, ap, subst, append-nil, arith}
use Rattle.command_line.specs.Command.{words_of}
use Rattle.sloth_io.specs.Store.{Files}
use Rattle.sloth_io.specs.FileStore.{shown_files}
use Rattle.core_commands.specs.CommandFiles.{ReadsInOrder}
use Rattle.sloth_io.specs.OutSink.{IsPassedOn, shown_output, accepted_bytes, given_bytes}
use Rattle.command_line.specs.declared.answer.Status.TheVariants as status
use Rattle.core_commands.proofs.Shipped.{ran}
use Rattle.sloth_commands.specs.ToolFiles.{IsToolAnswer}
use Rattle.sloth_cli.proofs.top.run_over.Goals as goal

pub returns : goal.returns
returns g c =
    let files = c.sloth_top.new.files in
    let out = c.sloth_top.new.out in
    let given : IsPassedOn out → given_bytes out ≡ accepted_bytes out = λ on.
    sym (out.but on.0 ∙ ap (λ (xs : List ℕ). given_bytes out ++ xs) on.1 ∙ append-nil (given_bytes out)) in
    let passed : c.sloth_top.result ≢ status.WriteFault → given_bytes out ≡ accepted_bytes out = λ no. given (c.sloth_top.ensures.passed no) in
    let handed : (shown_output out).faults ≡ 0 → given_bytes out ≡ accepted_bytes out = λ none.
    given (c.sloth_top.ensures.handed (none ∙ sym c.requires.faults, omega (arith, c.requires.faults))) in
    ran IsToolAnswer (words_of c.args.words.now) (shown_files files)
    (shown_output c.args.out.now) (shown_output out) (accepted_bytes out) (given_bytes out) c.sloth_top.result
    (ap (λ (xs : List ℕ). Some xs) c.requires.out) c.requires.faults refl out.front passed handed
    (subst (λ (old : Files). ReadsInOrder (words_of c.args.words.now) old (shown_files files)) c.requires.files c.sloth_top.ensures.reads) (shown_files c.args.files.now) c.requires.files c.sloth_top.ensures.answers
