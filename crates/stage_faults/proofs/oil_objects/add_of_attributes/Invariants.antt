use Rattle.std.proofs.Common.{◌≡◌, take}
use Rattle.std.specs.Prelude.{codes}
use Rattle.sloth_base.specs.declared.refusal.Part.TheVariants.{Oil}
use Rattle.sloth_base.specs.Search.{Somewhere}
use Rattle.oil_table.specs.Objects.{is_used}
use Rattle.oil_rules.specs.TaskFaults.{TaskFault}
use Rattle.stage_faults.specs.Told.{Adds}
use Rattle.stage_faults.proofs.oil_objects.add_of_attributes.Given as goal

abbrev pub invariant-loop-number : goal.invariant-loop-number
invariant-loop-number l = record {
  told : Adds Oil (Somewhere (TaskFault l.events l.front) (take l.number l.attrs)) l.initial.notes.items l.notes.items;
  is_given : l.given ≡ is_used (take l.number l.attrs) (codes "PRIORITY");
  behind : l.before ≡ record { events = l.events; attrs = take l.number l.attrs };
}
