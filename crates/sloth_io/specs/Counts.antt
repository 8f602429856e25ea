-- Counts of calls, and of faults, which never fall and end at 2^64 - 1.
use Rattle.std.specs.Prelude.{ℕ, ◌≡◌, ◌+◌, ◌≤◌, ◌<◌, min, Bool, if◌then◌else◌}

-- the count after a call: one higher where the call is counted, but for its last value
abbrev pub count_after_call : Bool → ℕ → ℕ
count_after_call call count = if call then min (count + 1) 18446744073709551615 else count

-- the count has risen, or stands at its last value
abbrev pub Rose : ℕ → ℕ → Type 0
Rose old new = min (old + 1) 18446744073709551615 ≤ new

-- the count is as it was; of one that stands at its last value nothing is known
abbrev pub Stays : ℕ → ℕ → Type 0
Stays old new = (new ≡ old) × (old < 18446744073709551615)

-- the number of the next call after so many, counted from 1; it ends at 2^32 - 1
abbrev pub next_call : ℕ → ℕ
next_call calls = min (calls + 1) 4294967295
