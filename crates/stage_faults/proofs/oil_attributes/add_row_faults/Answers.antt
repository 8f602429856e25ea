use Rattle.std.proofs.Common.{◌∙◌, ◌⊎◌, ap}
use Rattle.std.specs.Prelude.{◌&&◌, not, is_none}
use Rattle.std.proofs.lemmas.Result.{on_ok_weaker}
use Rattle.sloth_base.specs.declared.refusal.Code.TheVariants.{O8, O9, O10, O12}
use Rattle.sloth_base.specs.declared.refusal.Part.TheVariants.{Oil}
use Rattle.oil_table.specs.Cases.{OilCase}
use Rattle.oil_table.specs.Uses.{is_second}
use Rattle.oil_rules.specs.AttributeFaults.{refers_to_none, is_refused}
use Rattle.stage_faults.proofs.Telling.{case_is, adds_both}
use Rattle.stage_faults.proofs.oil_attributes.add_row_faults.Goals as goal

pub returns : goal.returns
returns c =
    let row = c.args.row in
    let x = c.args.attr.now in
    let n = x.line in
    let before = c.args.before.now.attrs in
    let unlisted = is_none row && not c.args.follows in
    let second = is_second 0 row before x in
    let none = refers_to_none c.args.tables.now.objects.now c.args.tables.now.scheduler row x.value in
    let refused = is_refused row x.value in
    let a = c.args.notes.now.items in
    let b = c.add_unlisted.new.notes.items in
    let d = c.add_placed.new.notes.items in
    let e = c.add_placed-2.new.notes.items in
    let f = c.add_placed-3.new.notes.items in
    let two = case_is Oil second c.is_second-second.result n O9 b d (c.is_second-second.ensures ∙ ap (λ depth. is_second depth row before x) c.requires) (c.in_ok-add_placed.ensures Oil) in
    let three = case_is Oil none c.refers_to_none-missing.result n O10 d e c.refers_to_none-missing.ensures (c.in_ok-add_placed-2.ensures Oil) in
    on_ok_weaker c.add_placed-3.result
    (λ told.
    adds_both Oil (OilCase unlisted n O8) (λ r. OilCase second n O9 r ⊎ (OilCase none n O10 r ⊎ OilCase refused n O12 r)) a b f c.in_ok-add_unlisted.ensures
    (adds_both Oil (OilCase second n O9) (λ r. OilCase none n O10 r ⊎ OilCase refused n O12 r) b d f two
    (adds_both Oil (OilCase none n O10) (OilCase refused n O12) d e f three (case_is Oil refused c.is_refused-refused.result n O12 e f c.is_refused-refused.ensures (told Oil)))))
    c.add_placed-3.ensures
