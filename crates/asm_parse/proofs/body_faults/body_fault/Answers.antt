use Rattle.std.proofs.Common.{◌∙◌, ℕ, List, ap, subst, take}
use Rattle.asm_lines.specs.declared.source_line.SourceLine.{SourceLine}
use Rattle.sloth_base.specs.Search.{IsSearchResult, Somewhere}
use Rattle.sloth_base.proofs.Kept.{both_are}
use Rattle.asm_scopes.specs.Statements.{label_names}
use Rattle.asm_parse.specs.NameFaults.{HeaderFault, LineNameFault}
use Rattle.asm_parse.proofs.body_faults.body_fault.Goals as goal

pub returns : goal.returns
returns c =
    let body = c.args.body.now in
    let scope = c.args.scope.now in
    let earlier = take c.args.count scope.functions in
    let count = c.args.count in
    let items = c.args.items in
    let h = c.header_fault-of_header.result in
    let l = c.line_faults-of_lines.result in
    let of_header = subst (λ (x : SourceLine). IsSearchResult (HeaderFault scope earlier count body.line x) h) c.header.ensures
    (subst (λ (n : ℕ). IsSearchResult (HeaderFault scope earlier count n c.header.result.now) h) c.line.ensures c.header_fault-of_header.ensures) in
    let labels = c.in_ok-labels.ensures ∙ ap label_names c.lines.ensures in
    let of_lines = subst (λ (xs : List SourceLine). IsSearchResult (Somewhere (LineNameFault scope (label_names body.lines) items body.line) xs) l) c.lines-2.ensures
    (subst (λ (n : ℕ). IsSearchResult (Somewhere (LineNameFault scope (label_names body.lines) items n) c.lines-2.result.now) l) c.line-2.ensures
    (subst (λ (e : List (List ℕ)). IsSearchResult (Somewhere (LineNameFault scope e items c.line-2.result) c.lines-2.result.now) l) labels c.line_faults-of_lines.ensures)) in
    both_are (HeaderFault scope earlier count body.line body.header) (Somewhere (LineNameFault scope (label_names body.lines) items body.line) body.lines) h l c.merge.result of_header of_lines c.merge.ensures
