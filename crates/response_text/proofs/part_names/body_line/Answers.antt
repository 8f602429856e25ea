use Rattle.std.proofs.Common.{◌≡◌, ◌+◌, length, ap, sym, subst, arith}
use Rattle.run_windows.specs.RunWindows.{IsLeastOf}
use Rattle.run_windows.proofs.Leasts.{Below, none_below, one_below_more}
use Rattle.response_text.specs.PartNames.{HasNumberAt}
use Rattle.response_text.proofs.part_names.body_line.Goals as goal

pub loop-item-init : goal.loop-item-init
loop-item-init c = none_below (HasNumberAt c.args.func.now c.args.numbers.now c.args.wanted)

pub loop-item-preserved : goal.loop-item-preserved
loop-item-preserved c =
    subst (IsLeastOf (Below (HasNumberAt c.args.func.now c.args.numbers.now c.args.wanted) (c.loop-item.item + 1))) (sym c.lesser-least.ensures)
    (one_below_more (HasNumberAt c.args.func.now c.args.numbers.now c.args.wanted) c.loop-item.item c.loop-item.least c.numbered_line.result c.loop-item.invariant
    c.numbered_line.ensures)

pub returns : goal.returns
returns c =
    let over = c.loop-item-test.false in
    let most = c.loop-item.auto.item-end in
    let one : length c.items-item-end.result.now ≡ length c.args.func.now.items = ap length c.items-item-end.ensures in
    let same : c.loop-item.item ≡ length c.args.func.now.items = omega (arith, over, most, one) in
    subst (λ n. IsLeastOf (Below (HasNumberAt c.args.func.now c.args.numbers.now c.args.wanted) n) c.loop-item.least) same c.loop-item.invariant
