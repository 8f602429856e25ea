use Rattle.std.proofs.Common.{◌∙◌, List, ap, subst, length, arith}
use Rattle.sloth_base.specs.declared.refusal.Part.TheVariants.{Src}
use Rattle.sloth_base.specs.Search.{Somewhere}
use Rattle.asm_lines.specs.declared.source_line.SourceLine.{SourceLine}
use Rattle.asm_lines.specs.Faults.{source_lines}
use Rattle.text_pieces.specs.Lines.{lines}
use Rattle.asm_lines.proofs.Counts.{lines_few}
use Rattle.stage_faults.specs.Told.{Adds}
use Rattle.stage_faults.specs.ToldLines.{ToldFault}
use Rattle.stage_faults.specs.ToldNarrow.{NarrowFault, ToldForm}
use Rattle.stage_faults.proofs.Telling.{adds_both, all_made}
use Rattle.stage_faults.proofs.notes.line_notes.Goals as goal

pub add_all-requires : goal.add_all-requires
add_all-requires c =
    let e = ap length (c.items.ensures ∙ c.in_ok-lines.ensures) in
    let f = lines_few c.args.text.now in
    let t = c.requires in
    omega (arith, e, f, t)

pub returns : goal.returns
returns c =
    let text = c.args.text.now in
    let start = c.new-notes.result.items in
    let a = c.add_all.new.notes.items in
    let b = c.add_narrow.new.notes.items in
    let of_lines = subst (λ (ls : List SourceLine). Adds Src (ToldFault ls) start a) (c.items.ensures ∙ c.in_ok-lines.ensures) c.in_ok-add_all.ensures in
    all_made Src (ToldForm text) start b c.new-notes.ensures.items
    (adds_both Src (ToldFault (source_lines text)) (Somewhere NarrowFault (lines text)) start a b of_lines c.in_ok-add_narrow.ensures)
