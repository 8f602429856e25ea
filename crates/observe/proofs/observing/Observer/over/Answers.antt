use Rattle.std.proofs.Common.{refl, arith, sym}
use Rattle.observe.specs.Observe.{observe}
use Rattle.observe.proofs.Moments.{from-later}
use Rattle.observe.proofs.observing.Observer.over.Goals as goal

pub returns-clause-fed : goal.returns-clause-fed
unfolding observe
returns-clause-fed c = record {
  ordered = c.requires.ordered;
  told = refl;
  expected = refl;
  coming = sym (from-later 0 0 c.args.arrivals.now c.requires.ordered (omega arith));
  stretch = tt;
}
