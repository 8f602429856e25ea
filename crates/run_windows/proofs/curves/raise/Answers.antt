use Rattle.std.proofs.Common.{Bool, true, false, ap, arith}
use Rattle.run_windows.specs.declared.costs.TaskCosts.{TaskCosts}
use Rattle.run_windows.specs.Costs.{makers}
use Rattle.run_windows.specs.Windows.{numbers_of}
use Rattle.run_windows.proofs.Endless.{by_makers}
use Rattle.run_windows.proofs.LowerBounds.{raised_so, whole_rate}
use Rattle.run_windows.proofs.curves.raise.Goals as goal

pub returns : goal.returns
returns c =
    let p = c.plus.ensures in
    let a = c.plus-activated.ensures in
    let s = c.plus-set.ensures in
    let r = c.round_makings-made.ensures in
    let q = c.round_makings.ensures in
    let own = makers c.args.costs.now c.args.j in
    let acts = by_makers false (numbers_of c.args.rates.now) c.round_makings-made.result c.makers.result.now own c.makers.ensures (omega (arith, r)) in
    let sums = by_makers true (numbers_of c.args.rates.now) c.round_makings.result c.makers-2.result.now own c.makers-2.ensures (omega (arith, q)) in
    raised_so c.args.costs.now c.args.window.now c.args.rates.now c.args.j c.arrival_rate-arrived.result c.ticking_rate-ticked.result c.ticking_rate-signalled.result
    c.plus-activated.result c.plus-set.result c.rule_of-rule.result c.counted-rate.result c.requires.whole c.requires.rates c.requires.inside c.rule_of-rule.ensures
    (c.is_open.ensures c.if-not-is_open.false) c.is_boot-boot.result _ c.is_boot-boot.ensures (ap (λ (t : TaskCosts). t.distance) c.task.ensures) (λ k. c.arrival_rate-arrived.ensures k k (whole_rate k)) c.ticking_rate-ticked.ensures c.ticking_rate-signalled.ensures
    (omega (arith, p, a, acts)) (omega (arith, s, sums)) c.counted-rate.ensures
