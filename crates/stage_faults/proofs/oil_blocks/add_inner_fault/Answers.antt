use Rattle.std.proofs.Common.{◌∙◌, ◌⊎◌, Option, ap}
use Rattle.std.proofs.lemmas.Result.{on_ok_weaker}
use Rattle.sloth_base.specs.declared.refusal.Code.TheVariants.{O9, O10, O12}
use Rattle.sloth_base.specs.declared.refusal.Part.TheVariants.{Oil}
use Rattle.oil_table.specs.declared.table.Attribute.{Attribute}
use Rattle.oil_table.specs.Cases.{OilCase}
use Rattle.oil_table.specs.Table.{attribute_of}
use Rattle.oil_table.specs.Uses.{is_second}
use Rattle.oil_table.specs.Beyond.{is_beyond}
use Rattle.oil_rules.specs.AlarmFaults.{is_unlisted}
use Rattle.stage_faults.proofs.Telling.{case_is, adds_both}
use Rattle.stage_faults.proofs.oil_blocks.add_inner_fault.Goals as goal

pub returns : goal.returns
returns c =
    let x = c.args.attr.now in
    let n = x.line in
    let before = c.args.before.now.attrs in
    let limits = c.args.limits in
    let row = attribute_of c.args.place x.name in
    let is_row = c.attribute_of-row.ensures ∙ ap (attribute_of c.args.place) c.bytes-name.ensures in
    let second = is_second 1 row before x in
    let left = is_unlisted c.args.block.now.objects c.args.place c.args.block.now.inner x in
    let beyond = is_beyond limits row x in
    let a = c.args.notes.now.items in
    let b = c.add_placed.new.notes.items in
    let d = c.add_placed-2.new.notes.items in
    let e = c.add_placed-3.new.notes.items in
    let one = case_is Oil second c.is_second-second.result n O9 a b
    (c.is_second-second.ensures ∙ ap (λ depth. is_second depth c.attribute_of-row.result before x) c.requires ∙ ap (λ (r : Option Attribute). is_second 1 r before x) is_row) (c.in_ok-add_placed.ensures Oil) in
    let two = case_is Oil left c.is_unlisted-unlisted.result n O10 b d c.is_unlisted-unlisted.ensures (c.in_ok-add_placed-2.ensures Oil) in
    on_ok_weaker c.add_placed-3.result
    (λ told.
    adds_both Oil (OilCase second n O9) (λ r. OilCase left n O10 r ⊎ OilCase beyond n O12 r) a b e one
    (adds_both Oil (OilCase left n O10) (OilCase beyond n O12) b d e two
    (case_is Oil beyond c.is_beyond-beyond.result n O12 d e (c.is_beyond-beyond.ensures ∙ ap (λ (r : Option Attribute). is_beyond limits r x) is_row) (told Oil))))
    c.add_placed-3.ensures
