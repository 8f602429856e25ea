-- Numbers below a bound.
use Rattle.std.specs.Prelude.{ℕ, ◌<◌, List, slice_index}

-- each of these numbers is below a bound
abbrev pub AreBelow : ℕ → List ℕ → Type 0
AreBelow bound numbers = (i : ℕ) → slice_index numbers i < bound
