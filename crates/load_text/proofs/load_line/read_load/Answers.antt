use Rattle.std.proofs.Common.{◌∙◌, arith, ap, subst, map, length, List, ℕ}
use Rattle.std.specs.Prelude.{◌==◌, OnOk, IfErr}
use Rattle.std.proofs.lemmas.List.{length-map}
use Rattle.std.proofs.lemmas.List.Sums.{count_by-le-length}
use Rattle.text_pieces.proofs.LineCounts.{lines_count}
use Rattle.sloth_base.specs.Order.{NoFault, ErrorIs}
use Rattle.text_pieces.specs.Names.{referent}
use Rattle.load_text.specs.LoadText.{LinesFault}
use Rattle.load_text.proofs.load_line.read_load.Goals as goal

pub read_lines-requires : goal.read_lines-requires
read_lines-requires c =
    let text = c.args.text.now in
    let same = ap length (ap (map referent) c.as_slice.ensures.value ∙ c.in_ok-lines.ensures) in
    omega (arith, c.requires, same, length-map c.as_slice.result.now referent, lines_count text, count_by-le-length (λ b. b == 10) text)

pub returns-clause-none : goal.returns-clause-none
returns-clause-none c =
    let same = ap (map referent) c.as_slice.ensures.value ∙ c.in_ok-lines.ensures in
    subst (λ (ls : List (List ℕ)). OnOk c.read_lines.result (NoFault (LinesFault c.args.tasks.now c.args.counters.now ls))) same c.read_lines.ensures.none

pub returns-clause-refused : goal.returns-clause-refused
returns-clause-refused c =
    let same = ap (map referent) c.as_slice.ensures.value ∙ c.in_ok-lines.ensures in
    subst (λ (ls : List (List ℕ)). IfErr c.read_lines.result (λ error. ErrorIs (LinesFault c.args.tasks.now c.args.counters.now ls) error)) same c.read_lines.ensures.refused
