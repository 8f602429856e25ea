-- How trails go.
use Rattle.std.specs.Prelude.{ℕ, Bool, true, false, List}
use Rattle.walk_sums.specs.declared.graph.Ways.{Ways}
use Rattle.walk_sums.specs.Graph.{IsOrder}
use Rattle.walk_sums.specs.Loops.{HasWeighingLoop}
use Rattle.walk_sums.specs.declared.paths.Shape.{Shape}
use Rattle.walk_sums.specs.declared.paths.Shape.TheVariants as shape

-- in an order of the nodes, in loops along which nothing weighs, or in one along which something does
abbrev pub IsShape : List Ways → (steps : List ℕ) → Shape → Type 0
IsShape ways steps (shape.Ordered order) = IsOrder ways order
IsShape ways steps shape.Looped = ¬ (HasWeighingLoop ways steps)
IsShape ways steps shape.Endless = HasWeighingLoop ways steps

-- where there is an order it is one of the nodes
abbrev pub HasOrder : List Ways → Shape → Type 0
HasOrder ways (shape.Ordered order) = IsOrder ways order
HasOrder ways shape.Looped = Unit {0}
HasOrder ways shape.Endless = Unit {0}

-- something weighs along a loop
abbrev pub is_endless : Shape → Bool
is_endless (shape.Ordered order) = false
is_endless shape.Looped = false
is_endless shape.Endless = true
