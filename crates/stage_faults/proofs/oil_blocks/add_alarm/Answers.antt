use Rattle.std.proofs.Common.{◌≡◌, ◌∙◌, ap, sym, true}
use Rattle.std.specs.Prelude.{codes}
use Rattle.std.proofs.lemmas.Result.{on_ok_weaker}
use Rattle.sloth_base.specs.declared.refusal.Code.TheVariants.{O11}
use Rattle.sloth_base.specs.declared.refusal.Part.TheVariants.{Oil}
use Rattle.sloth_base.specs.Search.{Somewhere}
use Rattle.oil_table.specs.Cases.{OilCase}
use Rattle.oil_table.specs.Objects.{is_of_kind}
use Rattle.oil_rules.specs.Blocks.{blocks_of}
use Rattle.oil_table.specs.AlarmCounters.{limits_of}
use Rattle.oil_rules.specs.AlarmFaults.{lacks_part, BlockFault, PartFault}
use Rattle.stage_faults.proofs.Guarded.{adds_guarded, adds_unguarded}
use Rattle.stage_faults.proofs.Telling.{case_is, adds_both}
use Rattle.stage_faults.proofs.oil_blocks.add_alarm.Goals as goal

pub returns-then-not-is_of_kind : goal.returns-then-not-is_of_kind
returns-then-not-is_of_kind c =
    let o = c.args.object.now in
    adds_unguarded Oil (PartFault c.args.tasks.now o) (is_of_kind (codes "ALARM") o) c.args.notes.now.items (sym c.is_of_kind.ensures ∙ c.if-not-is_of_kind.true)

pub returns : goal.returns
returns c =
    let alarm = c.args.object.now in
    let objects = c.args.tasks.now in
    let a = c.args.notes.now.items in
    let b = c.add_bare.new.notes.items in
    let d = c.add_in_blocks.new.notes.items in
    let t : is_of_kind (codes "ALARM") alarm ≡ true = sym c.is_of_kind.ensures ∙ c.if-not-is_of_kind.false in
    let one = case_is Oil (lacks_part alarm.attrs) c.lacks_part-lacking.result alarm.line O11 a b (c.lacks_part-lacking.ensures ∙ ap lacks_part c.items.ensures) (c.in_ok-add_bare.ensures Oil) in
    on_ok_weaker c.add_in_blocks.result
    (λ told.
    adds_guarded Oil (PartFault objects alarm) (is_of_kind (codes "ALARM") alarm) a d t
    (adds_both Oil (OilCase (lacks_part alarm.attrs) alarm.line O11) (Somewhere (BlockFault objects (limits_of objects alarm.attrs)) (blocks_of alarm.attrs)) a b d one told))
    c.add_in_blocks.ensures
