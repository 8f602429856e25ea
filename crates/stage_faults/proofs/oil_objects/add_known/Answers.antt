use Rattle.std.proofs.Common.{◌⊎◌}
use Rattle.std.proofs.lemmas.Result.{on_ok_weaker}
use Rattle.sloth_base.specs.declared.refusal.Code.TheVariants.{O9, O11, O12, O14}
use Rattle.sloth_base.specs.declared.refusal.Part.TheVariants.{Oil}
use Rattle.oil_table.specs.Cases.{OilCase}
use Rattle.oil_rules.specs.ObjectFaults.{is_doubled, lacks_attribute, is_strange_mode}
use Rattle.stage_faults.specs.ToldModel.{is_told_above}
use Rattle.stage_faults.proofs.Telling.{case_is, adds_both}
use Rattle.stage_faults.proofs.oil_objects.add_known.Goals as goal

pub returns : goal.returns
returns c =
    let o = c.args.object.now in
    let n = o.line in
    let front = c.args.front.now in
    let doubled = is_doubled c.args.scheduler front o in
    let lacks = lacks_attribute o in
    let strange = is_strange_mode o in
    let above = is_told_above front o in
    let a = c.args.notes.now.items in
    let b = c.add_placed.new.notes.items in
    let d = c.add_bare.new.notes.items in
    let e = c.add_placed-2.new.notes.items in
    let f = c.add_named.new.notes.items in
    let one = case_is Oil doubled c.is_doubled-doubled.result n O9 a b c.is_doubled-doubled.ensures (c.in_ok-add_placed.ensures Oil) in
    let two = case_is Oil lacks c.lacks_attribute.result n O11 b d c.lacks_attribute.ensures (c.in_ok-add_bare.ensures Oil) in
    let three = case_is Oil strange c.is_strange_mode.result n O12 d e c.is_strange_mode.ensures (c.in_ok-add_placed-2.ensures Oil) in
    on_ok_weaker c.add_named.result
    (λ told.
    adds_both Oil (OilCase doubled n O9) (λ r. OilCase lacks n O11 r ⊎ (OilCase strange n O12 r ⊎ OilCase above n O14 r)) a b f one
    (adds_both Oil (OilCase lacks n O11) (λ r. OilCase strange n O12 r ⊎ OilCase above n O14 r) b d f two
    (adds_both Oil (OilCase strange n O12) (OilCase above n O14) d e f three (case_is Oil above c.is_told_above-above.result n O14 e f c.is_told_above-above.ensures (told Oil)))))
    c.add_named.ensures
