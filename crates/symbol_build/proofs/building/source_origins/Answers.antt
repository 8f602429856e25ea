use Rattle.std.proofs.Common.{◌≡◌, ◌∙◌, ℕ, List, ap, length, map, sym, subst, arith}
use Rattle.std.specs.Prelude.{IfOk}
use Rattle.std.proofs.lemmas.List.{length-map}
use Rattle.asm_lines.proofs.Counts.{lines_few}
use Rattle.asm_lines.specs.Faults.{source_lines}
use Rattle.asm_lines.specs.SourceLines.{source_line}
use Rattle.asm_lines.specs.declared.source_line.SourceLine.{SourceLine}
use Rattle.text_pieces.specs.Lines.{lines}
use Rattle.text_pieces.specs.Names.{referent}
use Rattle.map_text.specs.LinePlaces.{line_origins}
use Rattle.symbol_build.proofs.building.source_origins.Goals as goal

pub line_origins-requires-clause-few : goal.line_origins-requires-clause-few
line_origins-requires-clause-few c =
    let texts : map referent c.as_slice.result.now ≡ lines c.args.src.now = ap (map referent) c.as_slice.ensures.value ∙ c.in_ok-texts.ensures in
    let count = length-map c.as_slice.result.now referent in
    let is = ap (λ (ts : List (List ℕ)). length ts) texts in
    let all = length-map (lines c.args.src.now) source_line in
    let few = lines_few c.args.src.now in
    let short = c.requires.short in
    omega (arith, count, is, all, few, short)

pub line_origins-requires-clause-same : goal.line_origins-requires-clause-same
line_origins-requires-clause-same c =
    let texts : map referent c.as_slice.result.now ≡ lines c.args.src.now = ap (map referent) c.as_slice.ensures.value ∙ c.in_ok-texts.ensures in
    let statements = c.items.ensures ∙ c.in_ok-statements.ensures in
    ap (λ (ss : List SourceLine). length ss) statements ∙ length-map (lines c.args.src.now) source_line ∙ sym (ap (λ (ts : List (List ℕ)). length ts) texts)
    ∙ length-map c.as_slice.result.now referent

pub returns : goal.returns
returns c =
    let texts : map referent c.as_slice.result.now ≡ lines c.args.src.now = ap (map referent) c.as_slice.ensures.value ∙ c.in_ok-texts.ensures in
    let statements = c.items.ensures ∙ c.in_ok-statements.ensures in
    subst (λ (ts : List (List ℕ)). IfOk c.line_origins.result (λ found. found ≡ line_origins ts (source_lines c.args.src.now))) texts
    (subst (λ (ss : List SourceLine). IfOk c.line_origins.result (λ found. found ≡ line_origins (map referent c.as_slice.result.now) ss)) statements
    c.line_origins.ensures)
