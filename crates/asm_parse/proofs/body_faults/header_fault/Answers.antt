use Rattle.std.proofs.Common.{◌∙◌, ◌⊎◌, ap, take, List, ℕ}
use Rattle.std.specs.List.{list_any}
use Rattle.std.specs.Str.{bytes_eq}
use Rattle.sloth_base.specs.declared.refusal.Code.TheVariants.{A5, A6, A7}
use Rattle.sloth_base.specs.declared.refusal.Part.TheVariants.{Src}
use Rattle.sloth_base.proofs.Kept.{both_are}
use Rattle.sloth_base.proofs.Cases.{case_found}
use Rattle.asm_lines.specs.Faults.{SourceCase}
use Rattle.asm_scopes.specs.Statements.{name_of}
use Rattle.asm_parse.specs.NameFaults.{is_too_great, is_strange}
use Rattle.asm_parse.proofs.body_faults.header_fault.Goals as goal

pub returns : goal.returns
returns c =
    let h = c.args.header.now in
    let n = c.args.number in
    let earlier = take c.args.count c.args.scope.now.functions in
    let test = list_any (bytes_eq (name_of h)) earlier in
    let same = c.is_among_first-doubled.ensures ∙ ap (λ (w : List ℕ). list_any (bytes_eq w) earlier) c.name_of.ensures in
    let doubled = case_found Src test c.is_among_first-doubled.result n A5 c.fault_if-doubled.result c.fault_if-doubled.ensures same in
    let great = case_found Src (is_too_great c.args.count h) c.is_too_great.result n A6 c.fault_if-great.result c.fault_if-great.ensures c.is_too_great.ensures in
    let strange = case_found Src (is_strange c.args.scope.now h) c.is_strange.result n A7 c.fault_if-strange.result c.fault_if-strange.ensures c.is_strange.ensures in
    both_are (SourceCase test n A5) (λ r. SourceCase (is_too_great c.args.count h) n A6 r ⊎ SourceCase (is_strange c.args.scope.now h) n A7 r) c.fault_if-doubled.result c.merge.result c.merge-2.result doubled
    (both_are (SourceCase (is_too_great c.args.count h) n A6) (SourceCase (is_strange c.args.scope.now h) n A7) c.fault_if-great.result c.fault_if-strange.result c.merge.result great strange c.merge.ensures)
    c.merge-2.ensures
