use Rattle.std.proofs.Common.{◌≤◌, ◌∙◌, ℕ, List, ap, subst, sym, length}
use Rattle.std.specs.Prelude.{All, string_bytes}
use Rattle.std.proofs.lemmas.Result.{err_from_is_err_and, IfErr-weaker}
use Rattle.std.proofs.lemmas.List.{length-map}
use Rattle.std.proofs.lemmas.List.Elements.{All-from_recursion}
use Rattle.sloth_base.specs.Limits.{file_limit}
use Rattle.command_line.specs.Command.{Uses}
use Rattle.command_line.specs.Tools.{file_names}
use Rattle.command_line.proofs.ToolWords.{files-counted}
use Rattle.command_line.specs.Words.{use_of}
use Rattle.core_commands.specs.CommandFiles.{inputs_of}
use Rattle.core_commands.proofs.InOrder.{still-delivered}
use Rattle.sloth_commands.specs.ToolFiles.{IsToolAnswer}
use Rattle.core_commands.proofs.Causes.{read-ends}
use Rattle.sloth_commands.proofs.ToolCauses.{all-told, answer-of, tell-ends, tool-performed}
use Rattle.core_commands.proofs.CallFiles.{stays-kept}
use Rattle.sloth_commands.proofs.ToolLines.{both-err, four-told, read-untold, told, untold}
use Rattle.core_commands.proofs.ToolReads.{all-short, as-many}
use Rattle.sloth_commands.proofs.tool_command.use_tool.Goals as goal

-- they have as many names
pub judge-requires-clause-named : goal.judge-requires-clause-named
judge-requires-clause-named g c = sym (length-map c.args.words.now.inputs.now (λ w. string_bytes w)) ∙ c.requires.counted

-- as many files are read as the tool asks for
pub judge-requires-clause-counted : goal.judge-requires-clause-counted
judge-requires-clause-counted g c =
    ap (λ (xs : List (List ℕ)). length xs) c.as_slice.ensures.value
    ∙ as-many _ (file_names (use_of c.args.words.now)) _ c.in_ok-inputs.ensures.ok
    ∙ files-counted (use_of c.args.words.now) c.requires.counted

pub judge-requires-clause-short : goal.judge-requires-clause-short
judge-requires-clause-short g c =
    let P : List ℕ → Type 0 = λ input. length input ≤ file_limit in
    let Q : List (List ℕ) → Type 0 = λ xs. All P xs in
    subst Q (sym c.as_slice.ensures.value)
    (All-from_recursion P _ (all-short _ (file_names (use_of c.args.words.now)) _ c.in_ok-inputs.ensures.ok))

pub returns-in_err-inputs-clause-err : goal.returns-in_err-inputs-clause-err
returns-in_err-inputs-clause-err g c =
    let failed = err_from_is_err_and c.from_residual.result c.from_residual.ensures.1 in
    rw (failed.1, failed.2)
    (read-ends IsToolAnswer c.in_err-inputs.field-0.0 _ _ _ (Uses (use_of c.args.words.now)) c.in_err-inputs.ensures.err
    (stays-kept _ _ c.fetch_inputs.ensures.keeps))

pub returns-clause-err : goal.returns-clause-err
returns-clause-err g c =
    let is = answer-of (g.F.Store.seen c.args.files.now) (g.F.Store.seen c.fetch_inputs.new.files) (use_of c.args.words.now) _ _ _ c.in_ok-inputs.ensures.ok c.in_ok-inputs.ensures.delivered c.as_slice.ensures.value c.in_ok-answer.ensures in
    IfErr-weaker c.tell.result _ _ (λ failure h. tell-ends _ _ _ _ (use_of c.args.words.now) c.fetch_inputs.ensures.keeps c.tell.ensures.reads failure c.in_ok-answer.answer is h) c.tell.ensures.err

pub returns-clause-done : goal.returns-clause-done
returns-clause-done g c =
    let is = answer-of (g.F.Store.seen c.args.files.now) (g.F.Store.seen c.fetch_inputs.new.files) (use_of c.args.words.now) _ _ _ c.in_ok-inputs.ensures.ok c.in_ok-inputs.ensures.delivered c.as_slice.ensures.value c.in_ok-answer.ensures in
    all-told c.tell.result _ _ _ _
    (λ status is_status text after. tool-performed _ _ _ _ (use_of c.args.words.now) c.fetch_inputs.ensures.keeps c.tell.ensures.reads status c.in_ok-answer.answer is is_status text after)
    c.tell.ensures.status c.tell.ensures.text c.tell.ensures.files

pub returns-in_err-inputs-clause-reads : goal.returns-in_err-inputs-clause-reads
returns-in_err-inputs-clause-reads g c = c.in_err-inputs.ensures.front

pub returns-in_err-answer-clause-reads : goal.returns-in_err-answer-clause-reads
returns-in_err-answer-clause-reads g c = (c.in_ok-inputs.inputs.items, c.in_ok-inputs.ensures.delivered)

pub returns-clause-reads : goal.returns-clause-reads
returns-clause-reads g c =
    still-delivered (g.F.Store.seen c.args.files.now) (g.F.Store.seen c.fetch_inputs.new.files) (g.F.Store.seen c.tell.new.files)
    (inputs_of (Uses (use_of c.args.words.now))) c.tell.ensures.reads (c.in_ok-inputs.inputs.items, c.in_ok-inputs.ensures.delivered)

pub returns-clause-lines : goal.returns-clause-lines
returns-clause-lines g c =
    let is = answer-of (g.F.Store.seen c.args.files.now) (g.F.Store.seen c.fetch_inputs.new.files) (use_of c.args.words.now) _ _ _ c.in_ok-inputs.ensures.ok c.in_ok-inputs.ensures.delivered c.as_slice.ensures.value c.in_ok-answer.ensures in
    four-told c.tell.result _ _ _ _ _
    (λ status is_status text after lines. told _ _ _ _ _ _ (use_of c.args.words.now) c.fetch_inputs.ensures.keeps c.tell.ensures.reads status c.in_ok-answer.answer is is_status text after lines)
    c.tell.ensures.status c.tell.ensures.text c.tell.ensures.files c.tell.ensures.lines

pub returns-clause-untold : goal.returns-clause-untold
returns-clause-untold g c =
    let is = answer-of (g.F.Store.seen c.args.files.now) (g.F.Store.seen c.fetch_inputs.new.files) (use_of c.args.words.now) _ _ _ c.in_ok-inputs.ensures.ok c.in_ok-inputs.ensures.delivered c.as_slice.ensures.value c.in_ok-answer.ensures in
    both-err c.tell.result _ _ _
    (λ failure h broken. untold _ _ _ _ _ _ (use_of c.args.words.now) c.fetch_inputs.ensures.keeps c.tell.ensures.reads failure c.in_ok-answer.answer is h broken)
    c.tell.ensures.err c.tell.ensures.untold

pub returns-in_err-inputs-clause-untold : goal.returns-in_err-inputs-clause-untold
returns-in_err-inputs-clause-untold g c =
    let failed = err_from_is_err_and c.from_residual.result c.from_residual.ensures.1 in
    rw (failed.1, failed.2) (read-untold c.in_err-inputs.field-0.0 _ _ _ _ _ _ (use_of c.args.words.now) c.in_err-inputs.ensures.err)
