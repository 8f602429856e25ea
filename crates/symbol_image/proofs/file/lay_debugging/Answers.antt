use Rattle.std.proofs.Common.{◌≡◌, ◌∙◌, ℕ, List, codes, ap}
use Rattle.std.proofs.lemmas.Result.{on_ok_weaker}
use Rattle.map_text.specs.LineRows.{line_rows}
use Rattle.symbol_image.specs.Entries.{info_section}
use Rattle.symbol_image.specs.Frames.{frame_section}
use Rattle.symbol_image.specs.LineSection.{line_section}
use Rattle.symbol_image.specs.FileParts.{FileParts}
use Rattle.symbol_image.specs.FileRows.{file_rows}
use Rattle.symbol_image.specs.Layout.{Laid, laid_with, plain}
use Rattle.symbol_image.specs.LayoutViews.{laid_of}
use Rattle.symbol_image.specs.SymbolFile.{entries_section, frames_section, kinds_section, lines_section}
use Rattle.symbol_image.proofs.file.lay_debugging.Goals as goal

pub returns : goal.returns
returns c =
    let p = c.args.from.now in
    let end = c.args.end in
    let old : Laid = laid_of c.args.laid.now in
    let one : Laid = laid_with old kinds_section in
    let two : Laid = laid_with one (entries_section p end) in
    let three : Laid = laid_with two (lines_section p end) in
    let entries = c.as_slice-2.ensures.value ∙ (c.in_ok-entries.ensures
    ∙ (ap (λ (l : List ℕ). info_section c.from.inside.source.now c.from.inside.app.now c.from.inside.map.now.places end l) c.items-declared.ensures
    ∙ ap (λ (p : FileParts). info_section p.source p.app p.map.places end p.origins.lines) c.from.view_is)) in
    let lines = c.as_slice-3.ensures.value ∙ (c.in_ok-lines.ensures
    ∙ ap (λ (p : FileParts). line_section p.source p.origins.files (file_rows p.origins.places (line_rows p.map.places end 0 p.app.funcs)) end) c.from.view_is) in
    let frames = c.as_slice-4.ensures.value ∙ (c.in_ok-frames.ensures
    ∙ ap (λ (p : FileParts). frame_section p.app p.map.places end p.memory c.args.rows.now) c.from.view_is) in
    let first : laid_of c.lay_unloaded.new.laid ≡ one = c.in_ok-lay_unloaded.ensures
    ∙ ap (λ (b : List ℕ). laid_with old (plain (codes ".debug_abbrev") b)) (c.as_slice.ensures.value ∙ c.in_ok-kinds.ensures) in
    let second : laid_of c.lay_unloaded-2.new.laid ≡ two = c.in_ok-lay_unloaded-2.ensures
    ∙ (ap (λ (b : List ℕ). laid_with (laid_of c.lay_unloaded.new.laid) (plain (codes ".debug_info") b)) entries
    ∙ ap (λ (l : Laid). laid_with l (entries_section p end)) first) in
    let third : laid_of c.lay_unloaded-3.new.laid ≡ three = c.in_ok-lay_unloaded-3.ensures
    ∙ (ap (λ (b : List ℕ). laid_with (laid_of c.lay_unloaded-2.new.laid) (plain (codes ".debug_line") b)) lines
    ∙ ap (λ (l : Laid). laid_with l (lines_section p end)) second) in
    on_ok_weaker c.lay_unloaded-4.result
    (λ h. h ∙ (ap (λ (b : List ℕ). laid_with (laid_of c.lay_unloaded-3.new.laid) (plain (codes ".debug_frame") b)) frames
    ∙ ap (λ (l : Laid). laid_with l (frames_section p end c.args.rows.now)) third))
    c.lay_unloaded-4.ensures
