use Rattle.std.proofs.Common.{Bool, true, false, arith}
use Rattle.run_windows.specs.Costs.{makers}
use Rattle.run_windows.specs.Windows.{numbers_of}
use Rattle.run_windows.proofs.Endless.{by_makers, one_mark}
use Rattle.run_windows.proofs.curves.mark.Goals as goal

pub returns : goal.returns
returns c =
    let a = c.min-activated.ensures in
    let r = c.round_makings.ensures in
    let s = c.min-signalled.ensures in
    let q = c.round_makings-2.ensures in
    one_mark c.args.costs.now c.args.window.now c.args.sets c.args.t c.args.marks.now c.args.j c.min-activated.result c.min-signalled.result c.rule_of-rule.result
    c.counted-made.result _ c.requires.marked c.requires.inside c.rule_of-rule.ensures (c.is_open.ensures c.if-not-is_open.false)
    (by_makers false (numbers_of c.args.marks.now) c.min-activated.result c.makers.result.now (makers c.args.costs.now c.args.j) c.makers.ensures (omega (arith, a, r)))
    (by_makers true (numbers_of c.args.marks.now) c.min-signalled.result c.makers-2.result.now (makers c.args.costs.now c.args.j) c.makers-2.ensures (omega (arith, s, q)))
    c.counted-made.ensures c.max.ensures c.max-2.ensures
