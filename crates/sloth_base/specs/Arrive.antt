-- Lines that arrive: their pending bytes become 1.
use Rattle.std.specs.Prelude.{ℕ, List, [], ◌∷◌, slice_set}
use Rattle.sloth_base.specs.Machine.{Core, State}

-- the pending bytes after the arrival of these lines, in order
abbrev pub arrive : List ℕ → List ℕ → List ℕ
arrive [] pending = pending
arrive (line ∷ lines) pending = arrive lines (slice_set pending line 1)

-- the machine without its pc after the arrival of these lines
abbrev pub core_arrive : List ℕ → Core → Core
core_arrive lines core = record core { pending = arrive lines core.pending }

-- the state after the arrival of these lines
abbrev pub state_arrive : List ℕ → State → State
state_arrive lines state = record state { core = core_arrive lines state.core }
