use Rattle.std.proofs.Common.{◌≡◌, take}
use Rattle.sloth_base.specs.declared.refusal.Part.TheVariants.{Oil}
use Rattle.sloth_base.specs.Search.{Somewhere}
use Rattle.oil_table.specs.Events.{taken_bits_before, BitFault}
use Rattle.stage_faults.specs.Told.{Adds}
use Rattle.stage_faults.proofs.oil_objects.add_events.Given as goal

abbrev pub invariant-loop-object : goal.invariant-loop-object
invariant-loop-object l = record {
  told : Adds Oil (Somewhere (BitFault l.objects) (take l.object-index l.objects)) l.initial.notes.items l.notes.items;
  taken : l.taken ≡ taken_bits_before l.objects (take l.object-index l.objects);
}
