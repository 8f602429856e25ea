use Rattle.std.proofs.Common.{◌≡◌, ◌+◌, ◌++◌, ℕ, drop, ap, arith, rules}
use Rattle.asm_parse.specs.Apps.{item_of, items_from}
use Rattle.asm_parse.proofs.Made.{read_one}
use Rattle.asm_parse.proofs.bodies.body_items.Goals as goal

pub loop-n-preserved : goal.loop-n-preserved
loop-n-preserved c =
    let config = c.args.config.now in
    let scope = c.args.scope.now in
    let labels = c.args.labels.now in
    let number = c.args.number in
    let xs = c.args.lines.now in
    let n = c.loop-n.n in
    let x = c.index-lines-n.result in
    let behind : number + n + 1 + 1 ≡ number + (n + 1) + 1 = omega arith in
    read_one (items_from config scope labels (number + n + 1)) (items_from config scope labels (number + (n + 1) + 1)) c.loop-n.items.items c.add_item.new.items.items
    (item_of config scope labels (number + n + 1) x) (items_from config scope labels (number + 1) xs) xs n x c.loop-n-test.true c.index-lines-n.is
    (ap (λ (k : ℕ). item_of config scope labels (number + n + 1) x ++ items_from config scope labels k (drop (n + 1) xs)) behind) (search rules) c.loop-n.invariant
