use Rattle.std.proofs.Common.{◌≡◌, ◌∙◌, ◌++◌, ℕ, List, [], get_or, ap}
use Rattle.std.proofs.lemmas.List.{get_or_default}
use Rattle.orti_text.specs.Tables.{number_line}
use Rattle.orti_text.proofs.Steps.{number_more}
use Rattle.orti_text.proofs.tables.push_number_lines.Goals as goal

pub loop-number-preserved : goal.loop-number-preserved
loop-number-preserved c =
    let names = c.args.names.now in
    let n = c.loop-number.number in
    let name : c.bytes.result.now ≡ get_or names n [] =
    c.bytes.ensures ∙ c.index-names-number.is ∙ get_or_default names n c.index-names-number.result [] c.loop-number-test.true in
    number_more names n _ _ _ c.loop-number-test.true
    (c.in_ok-push_number_line.ensures ∙ ap (λ (x : List ℕ). c.loop-number.text.items ++ number_line n x) name) c.loop-number.invariant
