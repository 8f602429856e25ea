use Rattle.std.proofs.Common.{◌≡◌, take}
use Rattle.sloth_base.specs.declared.refusal.Part.TheVariants.{Oil}
use Rattle.sloth_base.specs.Search.{Somewhere}
use Rattle.stage_faults.specs.Told.{Adds}
use Rattle.stage_faults.specs.ToldModel.{ToldObject}
use Rattle.stage_faults.proofs.oil_objects.add_objects.Given as goal

abbrev pub invariant-loop-number : goal.invariant-loop-number
invariant-loop-number l = record {
  told : Adds Oil (Somewhere (ToldObject l.tables.objects.now l.tables.scheduler l.tables.events.now) (take l.number l.objects)) l.initial.notes.items l.notes.items;
  behind : l.front ≡ take l.number l.objects;
}
