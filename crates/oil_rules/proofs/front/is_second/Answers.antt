use Rattle.std.proofs.Common.{◌∙◌, ap, sym}
use Rattle.std.specs.Prelude.{◌||◌, ◌&&◌, codes}
use Rattle.std.specs.List.{list_any}
use Rattle.oil_table.specs.Objects.{is_of_kind, is_declared}
use Rattle.oil_rules.proofs.Doubles.{doubled}
use Rattle.oil_rules.proofs.front.is_second.Goals as goal

pub returns-then-has : goal.returns-then-has
returns-then-has c =
    let o = c.args.object.now in
    let front = c.args.front.now in
    let has = c.has.ensures ∙ ap (λ kind. is_declared front kind c.bytes-2.result.now) c.bytes.ensures ∙ ap (is_declared front o.kind) c.bytes-2.ensures in
    c.if-has.true ∙ sym (doubled o front ∙ ap (λ b. b || (is_of_kind (codes "OS") o && list_any (is_of_kind (codes "OS")) front)) (sym has ∙ c.if-has.true))

pub returns-else-has : goal.returns-else-has
returns-else-has c =
    let o = c.args.object.now in
    let front = c.args.front.now in
    let has = c.has.ensures ∙ ap (λ kind. is_declared front kind c.bytes-2.result.now) c.bytes.ensures ∙ ap (is_declared front o.kind) c.bytes-2.ensures in
    c.is_second_os.ensures ∙ sym (doubled o front ∙ ap (λ b. b || (is_of_kind (codes "OS") o && list_any (is_of_kind (codes "OS")) front)) (sym has ∙ c.if-has.false))
