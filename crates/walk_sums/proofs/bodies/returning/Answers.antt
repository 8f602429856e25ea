use Rattle.std.proofs.Common.{◌∙◌, Bool, List, get_or, ap, sym, subst, arith}
use Rattle.std.specs.Prelude.{Decides}
use Rattle.std.proofs.lemmas.List.{length-set}
use Rattle.sloth_base.specs.declared.app.Func.{Func}
use Rattle.sloth_base.specs.Named.{function}
use Rattle.walk_sums.specs.Activations.{CanReturn}
use Rattle.walk_sums.specs.KnownBodies.{returns_of}
use Rattle.walk_sums.proofs.Bodily.{returns_is, number_known, number_inside, knows_more}
use Rattle.walk_sums.proofs.bodies.returning.Goals as goal

pub numbered_function-func-requires : goal.numbered_function-func-requires
numbered_function-func-requires c =
    number_known c.args.app.now c.args.order.now c.requires.order c.loop-number.number-index c.loop-number-test.true c.loop-number.returns.items
    c.loop-number.invariant.count c.loop-number.invariant.each

pub reached_items-requires-clause-known : goal.reached_items-requires-clause-known
reached_items-requires-clause-known c =
    number_known c.args.app.now c.args.order.now c.requires.order c.loop-number.number-index c.loop-number-test.true c.loop-number.returns.items
    c.loop-number.invariant.count c.loop-number.invariant.each

pub index_mut-requires : goal.index_mut-requires
index_mut-requires c =
    let n = number_inside c.args.app.now c.args.order.now c.requires.order c.loop-number.number-index c.loop-number-test.true c.loop-number.returns.items
    c.loop-number.invariant.count c.loop-number.invariant.each in
    let len = c.loop-number.returns.ok.0 in
    omega (arith, n, len)

pub loop-number-preserved : goal.loop-number-preserved
loop-number-preserved c =
    let f = get_or c.args.order.now c.loop-number.number-index 0 in
    let there = number_known c.args.app.now c.args.order.now c.requires.order c.loop-number.number-index c.loop-number-test.true c.loop-number.returns.items
    c.loop-number.invariant.count c.loop-number.invariant.each in
    let same =
    c.has_return.ensures ∙ ap (λ (g : Func). returns_of g c.deref-in-loop-number.result.now) c.numbered_function-func.ensures
    ∙ ap (λ (m : List Bool). returns_of (function c.args.app.now f) m) c.deref-in-loop-number.ensures.value in
    let decides =
    subst (λ (b : Bool). Decides b (CanReturn c.args.app.now f)) (sym same)
    (returns_is c.args.config.now c.args.app.now c.requires.well_formed f there c.in_ok-reached.reached.items c.in_ok-reached.ensures.exact) in
    record {
      count = length-set c.loop-number.returns.items f c.has_return.result ∙ c.loop-number.invariant.count;
      each = knows_more c.args.app.now c.args.order.now c.requires.order c.loop-number.number-index c.loop-number-test.true c.loop-number.returns.items
          c.loop-number.invariant.count c.loop-number.invariant.each c.has_return.result decides;
    }
