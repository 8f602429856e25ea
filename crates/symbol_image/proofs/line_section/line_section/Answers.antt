use Rattle.std.proofs.Common.{◌≡◌, ◌∙◌, List, ap, rules}
use Rattle.std.proofs.lemmas.Result.{IfOk-weaker}
use Rattle.map_text.specs.declared.line_rows.LineRow.{LineRow}
use Rattle.map_text.specs.LineRows.{line_rows}
use Rattle.symbol_image.specs.Fields.{sized}
use Rattle.symbol_image.specs.FileRows.{file_rows}
use Rattle.symbol_image.specs.LineSection.{line_section, line_unit}
use Rattle.symbol_image.proofs.line_section.line_section.Goals as goal

pub returns : goal.returns
unfolding line_section
returns c =
    let origins = c.args.origins.now in
    let are : c.as_slice.result.now ≡ line_rows c.args.places.now c.args.end 0 c.args.app.now.funcs = search rules in
    let unit = c.as_slice-2.ensures.value ∙ (c.in_ok-unit.ensures
    ∙ ap (λ (rows : List LineRow). line_unit c.args.source.now origins.files (file_rows origins.places rows) c.args.end) are) in
    IfOk-weaker c.sized.result (λ section. section.items ≡ sized c.as_slice-2.result.now)
    (λ section. section.items ≡ line_section c.args.source.now origins.files
    (file_rows origins.places (line_rows c.args.places.now c.args.end 0 c.args.app.now.funcs)) c.args.end)
    (λ section e. e ∙ ap sized unit) c.sized.ensures
