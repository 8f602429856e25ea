-- Where ways through a run end.
use Rattle.std.specs.Prelude.{ℕ, zero, suc, ◌≡◌, ◌<◌, ◌≤◌, ◌+◌, ◌-◌, ◌⊎◌, Option, None, Some, Bool, true, false, ◌||◌, if◌then◌else◌}
use Rattle.debug_ways.specs.declared.standing.Look.{Look}
use Rattle.debug_ways.specs.Runs.{Run}

-- what ends a way: a count at which it stops, or an access that it does not cross
pub record Tests : Type 0 where
  pub stops : Look → Bool
  pub guards : Look → Bool

-- a way forward ends at this count
abbrev pub ends_ahead : Run → Tests → ℕ → Bool
ends_ahead run tests count = tests.stops (run.look count) || tests.guards (run.look count)

-- the access of the count before is not crossed
abbrev pub guards_before : Run → Tests → ℕ → Bool
guards_before run tests zero = false
guards_before run tests (suc count) = tests.guards (run.look count)

-- a way back ends at this count
abbrev pub ends_back : Run → Tests → ℕ → Bool
ends_back run tests count = tests.stops (run.look count) || guards_before run tests count

-- the least of the next n counts at which a way ends, or the last of them
abbrev pub least_behind : (ℕ → Bool) → (n from : ℕ) → ℕ
least_behind hit zero from = from
least_behind hit (suc n) from = if hit (from + 1) then from + 1 else least_behind hit n (from + 1)

-- the greatest count below a number at which a way ends, or 0
abbrev pub greatest_below : (ℕ → Bool) → ℕ → ℕ
greatest_below hit zero = 0
greatest_below hit (suc count) = if hit count then count else greatest_below hit count

-- where a way forward from a count ends
abbrev pub ahead : Run → Tests → ℕ → ℕ
ahead run tests from = if tests.guards (run.look from) then from else least_behind (ends_ahead run tests) (run.end - from) from

-- where a way back from a count ends
abbrev pub back : Run → Tests → ℕ → ℕ
back run tests from = if guards_before run tests from then from else greatest_below (ends_back run tests) from

-- ---- the same in words

-- Behind `from` this is the least count at which a way ends, or the end where there is none.
pub record IsLeast (hit : ℕ → Bool) (from end count : ℕ) : Type 0 where
  pub from_on : from ≤ count
  pub within : count ≤ end
  pub none : (k : ℕ) → from < k → k < count → hit k ≡ false
  pub there : ((from < count) × (hit count ≡ true)) ⊎ (count ≡ end)

-- Below `to` this is the greatest count at which a way ends, or 0 where there is none.
pub record IsGreatest (hit : ℕ → Bool) (to count : ℕ) : Type 0 where
  pub below : count ≤ to
  pub none : (k : ℕ) → count < k → k < to → hit k ≡ false
  pub there : ((count < to) × (hit count ≡ true)) ⊎ (count ≡ 0)

-- ---- on the way

-- the last of n counts at which a way ends
abbrev pub last_hit : (ℕ → Bool) → (n from : ℕ) → Option ℕ
last_hit hit zero from = None
last_hit hit (suc n) from = if hit (from + n) then Some (from + n) else last_hit hit n from
