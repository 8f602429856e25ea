use Rattle.std.proofs.Common.{◌≡◌, take}
use Rattle.sloth_base.proofs.Kept.{Loop}
use Rattle.oil_rules.specs.AttributeFaults.{AttributeFault, inner_place}
use Rattle.oil_rules.proofs.judging.attribute_faults.Given as goal

abbrev pub invariant-loop-number : goal.invariant-loop-number
invariant-loop-number l = record {
  finds : Loop (AttributeFault l.objects l.scheduler l.place) l.attrs l.number l.least;
  opens : l.inner ≡ inner_place l.place (take l.number l.attrs);
  depth : l.before.depth ≡ 0;
  behind : l.before.attrs ≡ take l.number l.attrs;
}
