-- Rows of bits: what each function does itself, and what it reaches.
use Rattle.std.specs.Prelude.{ℕ, ◌≡◌, ◌==◌, ◌||◌, ◌&&◌, Bool, true, false, List, [], ◌∷◌, get_or}
use Rattle.sloth_base.specs.declared.app.Op.{Op}
use Rattle.sloth_base.specs.declared.app.Op.TheVariants as op
use Rattle.sloth_base.specs.declared.service.Service.{Service}
use Rattle.sloth_base.specs.declared.service.Service.TheVariants as service
use Rattle.call_graph.specs.Bits.{is_member}

-- ---- what an operation does itself

-- a call of function g
abbrev pub is_call : ℕ → Op → Bool
is_call g (op.Invoke h) = h == g
is_call g _ = false

-- the service that takes a resource
abbrev pub is_get : Service → Bool
is_get service.GetResource = true
is_get _ = false

-- an operation that takes resource r
abbrev pub is_taking : ℕ → Op → Bool
is_taking r (op.Serve call) = is_get call.service && (call.object == r)
is_taking r _ = false

-- a service in which the caller may wait, or let others run
abbrev pub is_pausing : Service → Bool
is_pausing service.WaitEvent = true
is_pausing service.Schedule = true
is_pausing _ = false

-- an operation that is such a service
abbrev pub is_pause : Op → Bool
is_pause (op.Serve call) = is_pausing call.service
is_pause _ = false

-- ---- rows

-- row i has bit j
abbrev pub row_has : List ℕ → ℕ → ℕ → Bool
row_has rows i j = is_member (get_or rows i 0) j

-- row i has the first of these, the row of each has the next, and that of the last has j
abbrev pub IsRowChain : List ℕ → ℕ → List ℕ → ℕ → Type 0
IsRowChain rows i [] j = row_has rows i j ≡ true
IsRowChain rows i (k ∷ between) j = (row_has rows i k ≡ true) × IsRowChain rows k between j

-- what a row becomes where ways through k are added
abbrev pub widened_row : List ℕ → ℕ → ℕ → ℕ → Bool
widened_row rows k i j = row_has rows i j || (row_has rows i k && row_has rows k j)
