use Rattle.std.proofs.Common.{◌∙◌, ◌++◌, ◌∷◌, [], ap, arith}
use Rattle.walk_sums.proofs.Spreading.{first_marked}
use Rattle.walk_sums.proofs.graph.spread_out.Goals as goal

pub keep-requires : goal.keep-requires
keep-requires c = let some = c.requires.some in let count = c.requires.count in omega (arith, some, count)

pub spread-requires-clause-spreading : goal.spread-requires-clause-spreading
spread-requires-clause-spreading c =
    first_marked c.args.ways.now c.args.first c.args.marks.now c.keep.new.marks c.keep.new.list.items c.requires.count c.requires.some c.requires.clear
    c.in_ok-keep.ensures.marks (c.in_ok-keep.ensures.list ∙ ap (λ s. s ++ c.args.first ∷ []) c.requires.none)
