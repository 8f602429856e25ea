use Rattle.std.proofs.Common.{rules, ◌≡◌, ◌∙◌, ◌≤◌, ◌+◌, ◌++◌, ℕ, List, Option, drop, length, sym, ap, subst}
use Rattle.std.specs.Prelude.{option_to_list}
use Rattle.std.specs.Option.{option_map}
use Rattle.command_line.specs.declared.counts.Counts.{Counts}
use Rattle.command_line.specs.declared.counts.Limit.{Limit}
use Rattle.command_line.specs.Command.{NoTool, words_of}
use Rattle.command_line.specs.Tools.{ToolRow, IsAskedFor, input_count, further_word, closing_word, counts_limit, writes_file, counts_words, output_words, AreCounts, IsOutput}
use Rattle.command_line.proofs.ToolWords.{begin, no-tool-named, words-behind, is-tool, if-none, without-further, without-counts, without-closing, without-output}
use Rattle.command_line.proofs.tool_words.tool_command.Goals as goal

pub returns-in_err-tool-clause-none : goal.returns-in_err-tool-clause-none
returns-in_err-tool-clause-none c =
    if-none c.from_residual-in_err-tool.result (NoTool (words_of c.args.words.now))
    (no-tool-named c.args.words.now c.in_ok-first.field-0.now c.deref.result.now c.in_ok-first.ensures.value c.deref.ensures c.in_err-tool.ensures.none)

pub returns-in_err-rest-clause-none : goal.returns-in_err-rest-clause-none
returns-in_err-rest-clause-none c =
    let words = words_of c.args.words.now in
    let t = c.in_ok-tool.tool in
    let told = c.in_ok-tool.ensures.some in
    let begins = begin c.args.words.now c.in_ok-first.field-0.now t c.in_ok-first.ensures.value (sym c.deref.ensures ∙ told.0) told.1
    (subst (λ a. IsAskedFor t a) c.asks_second.ensures told.2) in
    let front = words-behind c.args.words.now c.words_behind.result.now t c.row-row.result.inputs (ap (λ (r : ToolRow). r.inputs) c.row-row.ensures.is) c.words_behind.ensures in
    if-none c.from_residual-in_err-rest.result (NoTool words)
    (without-further words t begins
    (λ rest e. c.in_err-rest.ensures.none rest (front ∙ e ∙ ap (λ f. option_to_list f ++ rest) (sym (ap (λ (r : ToolRow). r.further) c.row-row.ensures.is)))))

pub returns-in_err-counted-clause-none : goal.returns-in_err-counted-clause-none
returns-in_err-counted-clause-none c =
    let words = words_of c.args.words.now in
    let t = c.in_ok-tool.tool in
    let told = c.in_ok-tool.ensures.some in
    let begins = begin c.args.words.now c.in_ok-first.field-0.now t c.in_ok-first.ensures.value (sym c.deref.ensures ∙ told.0) told.1
    (subst (λ a. IsAskedFor t a) c.asks_second.ensures told.2) in
    let front = words-behind c.args.words.now c.words_behind.result.now t c.row-row.result.inputs (ap (λ (r : ToolRow). r.inputs) c.row-row.ensures.is) c.words_behind.ensures in
    let behind : List (List ℕ) = words_of c.in_ok-rest.rest.now in
    let further : drop (input_count t + 1) words ≡ option_to_list (further_word t) ++ behind =
    sym front ∙ c.in_ok-rest.ensures.some ∙ ap (λ f. option_to_list f ++ behind) (ap (λ (r : ToolRow). r.further) c.row-row.ensures.is) in
    let none : (n : Option Counts) (rest : List (List ℕ)) → AreCounts (counts_limit t) n → behind ≡ counts_words n ++ rest → ⊥ =
    λ n rest is e. c.in_err-counted.ensures.none n rest (e, let N : Option Limit → Type 0 = λ limit. AreCounts limit n in subst N (sym (ap (λ (r : ToolRow). r.limit) c.row-row.ensures.is)) is) in
    if-none c.from_residual-in_err-counted.result (NoTool words) (without-counts words t behind begins further none)

pub returns-in_err-closed-clause-none : goal.returns-in_err-closed-clause-none
returns-in_err-closed-clause-none c =
    let words = words_of c.args.words.now in
    let t = c.in_ok-tool.tool in
    let told = c.in_ok-tool.ensures.some in
    let begins = begin c.args.words.now c.in_ok-first.field-0.now t c.in_ok-first.ensures.value (sym c.deref.ensures ∙ told.0) told.1
    (subst (λ a. IsAskedFor t a) c.asks_second.ensures told.2) in
    let front = words-behind c.args.words.now c.words_behind.result.now t c.row-row.result.inputs (ap (λ (r : ToolRow). r.inputs) c.row-row.ensures.is) c.words_behind.ensures in
    let behind : List (List ℕ) = words_of c.in_ok-rest.rest.now in
    let further : drop (input_count t + 1) words ≡ option_to_list (further_word t) ++ behind =
    sym front ∙ c.in_ok-rest.ensures.some ∙ ap (λ f. option_to_list f ++ behind) (ap (λ (r : ToolRow). r.further) c.row-row.ensures.is) in
    let number = c.in_ok-counted.ensures.some in
    let rest : List (List ℕ) = words_of c.in_ok-counted.counted.1.now in
    let N : Option Limit → Type 0 = λ limit. AreCounts limit c.in_ok-counted.counted.0 in
    let none : (behind : List (List ℕ)) → rest ≡ option_to_list (closing_word t) ++ behind → ⊥ =
    λ closed e. c.in_err-closed.ensures.none closed (e ∙ ap (λ f. option_to_list f ++ closed) (sym c.closing_word.ensures)) in
    if-none c.from_residual-in_err-closed.result (NoTool words)
    (without-closing words t c.in_ok-counted.counted.0 behind rest begins (subst N (ap (λ (r : ToolRow). r.limit) c.row-row.ensures.is) number.1) further number.0 none)

pub returns-in_err-output-clause-none : goal.returns-in_err-output-clause-none
returns-in_err-output-clause-none c =
    let words = words_of c.args.words.now in
    let t = c.in_ok-tool.tool in
    let told = c.in_ok-tool.ensures.some in
    let begins = begin c.args.words.now c.in_ok-first.field-0.now t c.in_ok-first.ensures.value (sym c.deref.ensures ∙ told.0) told.1
    (subst (λ a. IsAskedFor t a) c.asks_second.ensures told.2) in
    let front = words-behind c.args.words.now c.words_behind.result.now t c.row-row.result.inputs (ap (λ (r : ToolRow). r.inputs) c.row-row.ensures.is) c.words_behind.ensures in
    let behind : List (List ℕ) = words_of c.in_ok-rest.rest.now in
    let further : drop (input_count t + 1) words ≡ option_to_list (further_word t) ++ behind =
    sym front ∙ c.in_ok-rest.ensures.some ∙ ap (λ f. option_to_list f ++ behind) (ap (λ (r : ToolRow). r.further) c.row-row.ensures.is) in
    let number = c.in_ok-counted.ensures.some in
    let rest : List (List ℕ) = words_of c.in_ok-counted.counted.1.now in
    let N : Option Limit → Type 0 = λ limit. AreCounts limit c.in_ok-counted.counted.0 in
    let closed : List (List ℕ) = words_of c.in_ok-closed.closed.now in
    let closing : rest ≡ option_to_list (closing_word t) ++ closed =
    c.in_ok-closed.ensures.some ∙ ap (λ f. option_to_list f ++ closed) c.closing_word.ensures in
    let none : (o : Option (List ℕ)) → IsOutput (writes_file t) o → closed ≡ output_words o → ⊥ =
    λ o is e. c.in_err-output.ensures.none o (subst (λ w. IsOutput w o) (sym (ap (λ (r : ToolRow). r.writes) c.row-row.ensures.is)) is) e in
    if-none c.from_residual-in_err-output.result (NoTool words)
    (without-output words t c.in_ok-counted.counted.0 behind rest closed begins (subst N (ap (λ (r : ToolRow). r.limit) c.row-row.ensures.is) number.1) further number.0 closing none)

pub returns-clause-some : goal.returns-clause-some
returns-clause-some c =
    let words = words_of c.args.words.now in
    let t = c.in_ok-tool.tool in
    let told = c.in_ok-tool.ensures.some in
    let begins = begin c.args.words.now c.in_ok-first.field-0.now t c.in_ok-first.ensures.value (sym c.deref.ensures ∙ told.0) told.1
    (subst (λ a. IsAskedFor t a) c.asks_second.ensures told.2) in
    let front = words-behind c.args.words.now c.words_behind.result.now t c.row-row.result.inputs (ap (λ (r : ToolRow). r.inputs) c.row-row.ensures.is) c.words_behind.ensures in
    let behind : List (List ℕ) = words_of c.in_ok-rest.rest.now in
    let further : drop (input_count t + 1) words ≡ option_to_list (further_word t) ++ behind =
    sym front ∙ c.in_ok-rest.ensures.some ∙ ap (λ f. option_to_list f ++ behind) (ap (λ (r : ToolRow). r.further) c.row-row.ensures.is) in
    let number = c.in_ok-counted.ensures.some in
    let rest : List (List ℕ) = words_of c.in_ok-counted.counted.1.now in
    let N : Option Limit → Type 0 = λ limit. AreCounts limit c.in_ok-counted.counted.0 in
    let closed : List (List ℕ) = words_of c.in_ok-closed.closed.now in
    let closing : rest ≡ option_to_list (closing_word t) ++ closed =
    c.in_ok-closed.ensures.some ∙ ap (λ f. option_to_list f ++ closed) c.closing_word.ensures in
    let written = c.in_ok-output.ensures.some in
    let output : Option (List ℕ) = option_map (λ name. name.now) c.in_ok-output.output in
    let long : c.row-row.result.inputs + 1 ≤ length c.args.words.now = search rules in
    is-tool c.args.words.now t c.row-row.result.inputs c.in_ok-counted.counted.0 output behind rest closed begins
    (ap (λ (r : ToolRow). r.inputs) c.row-row.ensures.is) long further number.0 closing written.0 (subst N (ap (λ (r : ToolRow). r.limit) c.row-row.ensures.is) number.1)
    (subst (λ w. IsOutput w output) (ap (λ (r : ToolRow). r.writes) c.row-row.ensures.is) written.1)
