use Rattle.std.proofs.Common.{◌≡◌, take}
use Rattle.sloth_base.specs.declared.refusal.Part.TheVariants.{Oil}
use Rattle.sloth_base.specs.Search.{Somewhere}
use Rattle.oil_rules.specs.AlarmFaults.{InsideFault}
use Rattle.stage_faults.specs.Told.{Adds}
use Rattle.stage_faults.proofs.oil_blocks.add_inner_faults.Given as goal

abbrev pub invariant-loop-number : goal.invariant-loop-number
invariant-loop-number l = record {
  told : Adds Oil (Somewhere (InsideFault l.block.objects l.limits l.place l.block.inner) (take l.number l.attrs)) l.initial.notes.items l.notes.items;
  depth : l.before.depth ≡ 1;
  behind : l.before.attrs ≡ take l.number l.attrs;
  own : l.attrs ≡ l.block.inner;
}
