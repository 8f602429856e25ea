use Rattle.std.proofs.Common.{◌≡◌, take}
use Rattle.sloth_base.proofs.Kept.{Loop}
use Rattle.oil_rules.specs.AlarmFaults.{InsideFault}
use Rattle.oil_rules.proofs.blocks.inner_faults.Given as goal

abbrev pub invariant-loop-number : goal.invariant-loop-number
invariant-loop-number l = record {
  finds : Loop (InsideFault l.block.objects l.limits l.place l.block.inner) l.attrs l.number l.least;
  depth : l.before.depth ≡ 1;
  behind : l.before.attrs ≡ take l.number l.attrs;
  own : l.attrs ≡ l.block.inner;
}
