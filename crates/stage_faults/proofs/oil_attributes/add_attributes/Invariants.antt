use Rattle.std.proofs.Common.{◌≡◌, take}
use Rattle.sloth_base.specs.declared.refusal.Part.TheVariants.{Oil}
use Rattle.sloth_base.specs.Search.{Somewhere}
use Rattle.stage_faults.specs.Told.{Adds}
use Rattle.stage_faults.specs.ToldModel.{opened_by, ToldAttribute}
use Rattle.stage_faults.proofs.oil_attributes.add_attributes.Given as goal

abbrev pub invariant-loop-number : goal.invariant-loop-number
invariant-loop-number l = record {
  told : Adds Oil (Somewhere (ToldAttribute l.tables.objects.now l.tables.scheduler l.limits l.place) (take l.number l.attrs)) l.initial.notes.items l.notes.items;
  opens : opened_by l.tables.objects.now l.tables.scheduler l.limits l.place (take l.number l.attrs) ≡ record { inner = l.inner; fault = l.fault };
  depth : l.before.depth ≡ 0;
  behind : l.before.attrs ≡ take l.number l.attrs;
}
