-- Machines that were kept of a run, one at each multiple of 65,536.
use Rattle.std.specs.Prelude.{ℕ, ◌≡◌, ◌<◌, ◌*◌, List, length, slice_index_or}
use Rattle.debug_ways.specs.Runs.{Run}

-- each machine of a list stands in a run, at the count of its place; `run_of` and `count_of` say where a machine stands
abbrev pub AreMarks : {M : Type 0} → (M → Run) → (M → ℕ) → Run → List M → Type 0
AreMarks {M} run_of count_of run marks =
    (i : ℕ) (d : M) → i < length marks → (run_of (slice_index_or marks i d) ≡ run) × (count_of (slice_index_or marks i d) ≡ i * 65536)
