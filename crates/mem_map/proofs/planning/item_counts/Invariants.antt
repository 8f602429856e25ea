use Rattle.std.proofs.Common.{◌≡◌, ◌++◌, drop, length}
use Rattle.std.specs.Prelude.{map}
use Rattle.mem_map.proofs.planning.item_counts.Given as goal

abbrev pub invariant-loop-func : goal.invariant-loop-func
invariant-loop-func l = l.counts.items ++ map (λ f. length f.items) (drop l.func-index l.funcs) ≡ map (λ f. length f.items) l.funcs
