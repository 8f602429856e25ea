-- What items weigh.
use Rattle.std.specs.Prelude.{ℕ, ◌+◌, min, List, [], get_or}
use Rattle.sloth_base.specs.Limits.{size_limit}
use Rattle.bound_rules.specs.declared.bound.BodyWeights.{BodyWeights}

-- ---- weights

-- a body of which no weight is known
abbrev pub no_weights : BodyWeights
no_weights = record { going = []; ending = [] }

-- the weight of item i of function f, where a part goes on behind it
abbrev pub going_weight : (weights : List BodyWeights) → (f i : ℕ) → ℕ
going_weight weights f i = get_or (get_or weights f no_weights).going i 0

-- where a part ends with it
abbrev pub ending_weight : (weights : List BodyWeights) → (f i : ℕ) → ℕ
ending_weight weights f i = get_or (get_or weights f no_weights).ending i 0

-- ---- sizes

-- a sum, counted up to the greatest size
abbrev pub joined : ℕ → ℕ → ℕ
joined one other = min size_limit (one + other)
