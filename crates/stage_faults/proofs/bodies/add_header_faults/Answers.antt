use Rattle.std.proofs.Common.{◌∙◌, ◌⊎◌, ap, take, List, ℕ}
use Rattle.std.specs.List.{list_any}
use Rattle.std.specs.Str.{bytes_eq}
use Rattle.std.proofs.lemmas.Result.{on_ok_weaker}
use Rattle.sloth_base.specs.declared.refusal.Code.TheVariants.{A5, A6, A7}
use Rattle.sloth_base.specs.declared.refusal.Part.TheVariants.{Src}
use Rattle.asm_lines.specs.Faults.{SourceCase}
use Rattle.asm_scopes.specs.Statements.{name_of}
use Rattle.asm_parse.specs.NameFaults.{is_strange}
use Rattle.stage_faults.specs.ToldNames.{is_header_beyond}
use Rattle.stage_faults.proofs.Telling.{case_is, adds_both}
use Rattle.stage_faults.proofs.bodies.add_header_faults.Goals as goal

pub returns : goal.returns
returns c =
    let h = c.args.header.now in
    let n = c.args.number in
    let earlier = take c.args.count c.args.scope.now.functions in
    let t = list_any (bytes_eq (name_of h)) earlier in
    let g = is_header_beyond c.args.count h in
    let s = is_strange c.args.scope.now h in
    let a = c.args.notes.now.items in
    let b = c.add_named.new.notes.items in
    let d = c.add_bare.new.notes.items in
    let e = c.add_named-2.new.notes.items in
    let same = c.is_among_first-doubled.ensures ∙ ap (λ (w : List ℕ). list_any (bytes_eq w) earlier) c.name_of-name.ensures in
    let doubled = case_is Src t c.is_among_first-doubled.result n A5 a b same (c.in_ok-add_named.ensures Src) in
    let great = case_is Src g c.is_header_beyond.result n A6 b d c.is_header_beyond.ensures (c.in_ok-add_bare.ensures Src) in
    on_ok_weaker c.add_named-2.result
    (λ told.
    adds_both Src (SourceCase t n A5) (λ r. SourceCase g n A6 r ⊎ SourceCase s n A7 r) a b e doubled
    (adds_both Src (SourceCase g n A6) (SourceCase s n A7) b d e great (case_is Src s c.is_strange-strange.result n A7 d e c.is_strange-strange.ensures (told Src))))
    c.add_named-2.ensures
