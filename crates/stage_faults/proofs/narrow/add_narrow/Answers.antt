use Rattle.std.proofs.Common.{◌∙◌, ℕ, List, ap, subst, map, length, arith}
use Rattle.std.proofs.lemmas.List.{length-map}
use Rattle.std.proofs.lemmas.Result.{on_ok_weaker}
use Rattle.sloth_base.specs.declared.refusal.Part.TheVariants.{Src}
use Rattle.sloth_base.specs.Search.{Somewhere}
use Rattle.text_pieces.specs.Names.{referent}
use Rattle.text_pieces.specs.Lines.{lines}
use Rattle.asm_lines.specs.SourceLines.{source_line}
use Rattle.asm_lines.proofs.Counts.{lines_few}
use Rattle.stage_faults.specs.Told.{Adds}
use Rattle.stage_faults.specs.ToldNarrow.{NarrowFault}
use Rattle.stage_faults.proofs.narrow.add_narrow.Goals as goal

pub add_lines-requires : goal.add_lines-requires
add_lines-requires c =
    let text = c.args.text.now in
    let a = length-map c.as_slice.result.now referent in
    let b = ap length (ap (map referent) c.as_slice.ensures.value ∙ c.in_ok-lines.ensures) in
    let d = length-map (lines text) source_line in
    let f = lines_few text in
    let t = c.requires in
    omega (arith, a, b, d, f, t)

pub returns : goal.returns
returns c =
    let a = c.args.notes.now.items in
    let b = c.add_lines.new.notes.items in
    let e = ap (map referent) c.as_slice.ensures.value ∙ c.in_ok-lines.ensures in
    on_ok_weaker c.add_lines.result (λ told. subst (λ (xs : List (List ℕ)). Adds Src (Somewhere NarrowFault xs) a b) e told) c.add_lines.ensures
