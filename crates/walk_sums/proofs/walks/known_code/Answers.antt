use Rattle.std.proofs.Common.{sym, subst}
use Rattle.walk_sums.specs.CallOrder.{IsCallOrder}
use Rattle.walk_sums.specs.KnownBodies.{AreKnownBodies}
use Rattle.walk_sums.proofs.Bodily.{facts_of}
use Rattle.walk_sums.proofs.Reached.{called_known}
use Rattle.walk_sums.proofs.walks.known_code.Goals as goal

pub callees_first-requires-clause-known : goal.callees_first-requires-clause-known
callees_first-requires-clause-known c = called_known c.args.config.now c.args.app.now (facts_of c.args.config.now c.args.app.now c.requires.well_formed)

pub bodies-requires-clause-order : goal.bodies-requires-clause-order
bodies-requires-clause-order c = subst (IsCallOrder c.args.app.now) (sym c.deref.ensures.value) c.in_ok-order.ensures

pub returns : goal.returns
returns c = record {
  well_formed = c.requires.well_formed;
  order = subst (IsCallOrder c.args.app.now) (sym c.from_vec.ensures) c.in_ok-order.ensures;
  bodies = subst (AreKnownBodies c.args.config.now c.args.app.now) (sym c.from_vec-2.ensures) c.in_ok-bodies.ensures;
}
