use Rattle.std.proofs.Common.{◌≤◌, ◌<◌, List, length, ap, subst, sym, arith}
use Rattle.sloth_base.specs.Limits.{item_limit}
use Rattle.sloth_base.specs.declared.app.Func.{Func}
use Rattle.map_text.specs.LineRows.{item_count}
use Rattle.symbol_image.proofs.Counts.{counted_with, counted_within}
use Rattle.symbol_image.proofs.frames.put_body.Goals as goal

pub items_before-first-requires-clause-few : goal.items_before-first-requires-clause-few
items_before-first-requires-clause-few c =
    let funcs = c.items-funcs.result.now in
    let few : item_count funcs ≤ item_limit = subst (λ (fs : List Func). item_count fs ≤ item_limit) (sym c.items-funcs.ensures) c.requires.frames.few in
    let within = counted_within funcs c.args.row.now.number in
    omega (arith, few, within)

pub body_rules-requires-clause-number : goal.body_rules-requires-clause-number
body_rules-requires-clause-number c =
    let funcs = c.items-funcs.result.now in
    let number = c.args.row.now.number in
    let func = c.index-funcs-row.result in
    let few : item_count funcs ≤ item_limit = subst (λ (fs : List Func). item_count fs ≤ item_limit) (sym c.items-funcs.ensures) c.requires.frames.few in
    let there : number < length funcs = subst (λ (fs : List Func). number < length fs) (sym c.items-funcs.ensures) c.requires.there in
    let with = counted_with func funcs number there in
    let first = c.items_before-first.ensures in
    let long = ap (λ (f : Func). length f.items) c.index-funcs-row.is in
    omega (arith, few, with, first, long)
