-- Each item weighs something.
use Rattle.std.proofs.Common.{◌<◌, Bool, List, arith}
use Rattle.sloth_base.specs.declared.app.App.{App}
use Rattle.sloth_base.specs.Named.{function, item_of}
use Rattle.bound_rules.specs.declared.bound.BodyWeights.{BodyWeights}
use Rattle.run_counts.specs.Counts.{AreCounts}
use Rattle.run_costs.specs.Sections.{AllWeigh}
use Rattle.rv32_expand.specs.Long.{size, no_places}
use Rattle.rv32_expand.proofs.Counts.{expanded_some}
use Rattle.sloth_base.specs.declared.app.Op.{Op}

-- each item has an instruction
some_size : (app : App) (long : Bool) (o : Op) → 0 < size app long o
unfolding size
some_size app long o = expanded_some app no_places 0 0 long o

-- each item weighs something
pub counts_weigh_all : (app : App) (weights : List BodyWeights) → AreCounts app weights → AllWeigh app weights
counts_weigh_all app weights (lengths, are, by) f i o item =
    let ending = (by.each f item.known).ending i item.inside in
    let shortest = are.each f item.known in
    let length = shortest.are_lengths.each i item.inside in
    let some = some_size app (shortest.long i) (item_of (function app f) i).op in
    omega (arith, ending, length, some)
