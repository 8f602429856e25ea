-- What a way holds.
use Rattle.std.specs.Prelude.{ℕ, ◌≡◌, List, ◌∷◌, Option}
use Rattle.sloth_base.specs.declared.app.Func.{Func}
use Rattle.code_rules.specs.Code.{held_list_at}
use Rattle.fault_witnesses.specs.CleanWays.{IsWayFrom, held_along, start_list}

-- The items of a clean way, one after the other, make of the list that it starts with the one that is held before the last of them.
abbrev pub WayHolds : Type 0
WayHolds = (f : Func) (label : Option ℕ) (goal first : ℕ) (way : List ℕ) → IsWayFrom f label goal (first ∷ way)
    → held_along f (start_list f label) first way ≡ held_list_at f goal
