-- The longest window of a task's starts, and of what its number is made.
use Rattle.std.specs.Prelude.{ℕ, ◌+◌, ◌<◌, ◌≤◌, ◌≡◌, ◌⊎◌, nat_lt, cond, Bool, true, false, List, length, Option, Some, None}
use Rattle.run_windows.specs.declared.costs.Costs.{Costs}
use Rattle.run_windows.specs.declared.costs.Start.{Start}
use Rattle.run_windows.specs.declared.costs.Longest.{Longest}
use Rattle.run_windows.specs.declared.responses.Parts.{Parts}
use Rattle.run_windows.specs.Windows.{numbers_of, round_counts, IsLeast}
use Rattle.run_windows.specs.Arrivals.{tick_counts}
use Rattle.run_windows.specs.RunWindows.{start_counts, start_service, lead_of, run_starts, start_at, begun_item, run_window, IsNumber, IsStartWithin, AreWithin, IsRunResponse}

-- ---- the longest of windows

-- Windows come in the order of their starts, and of those of one start the one that opens with its event comes first: a window of start j comes before one
-- of start i.
abbrev pub ComesBefore : (j : ℕ) → (other : Bool) → (i : ℕ) → (opens : Bool) → Type 0
ComesBefore j other i opens = (j < i) ⊎ ((j ≡ i) × (other ≡ true) × (opens ≡ false))

-- this is a window of one of these starts, and the first that has so great a number
pub record IsFirstWindow (longest late : ℕ) (costs : Costs) (h : ℕ) (ss : List Start) (l : Longest) : Type 0 where
  pub place : ℕ
  pub known : place < length ss
  pub is : l.start ≡ start_at ss place
  pub number : IsNumber longest late costs h l.opens l.start (Some l.number)
  pub first : (j : ℕ) (opens : Bool) (n : ℕ) → j < length ss → ComesBefore j opens place l.opens → IsNumber longest late costs h opens (start_at ss j) (Some n)
      → n < l.number

-- the longer of two windows
abbrev pub longer : Longest → Start → (opens : Bool) → (number : ℕ) → Longest
longer most s opens number = cond (nat_lt most.number number) (record { number = number; start = s; opens = opens }) most

-- it is one of start s, longer than the longest so far, and than the one that comes before it
pub record IsNewWindow (longest late : ℕ) (costs : Costs) (h : ℕ) (s : Start) (most next : Longest) : Type 0 where
  pub is : next.start ≡ s
  pub number : IsNumber longest late costs h next.opens s (Some next.number)
  pub more : most.number < next.number
  pub first : (n : ℕ) → next.opens ≡ false → IsNumber longest late costs h true s (Some n) → n < next.number

-- The windows of the start s are within the number of the next window, which is the longest so far or one of these; and no less will do.
pub record IsLonger (longest late : ℕ) (costs : Costs) (h : ℕ) (s : Start) (most next : Longest) : Type 0 where
  pub more : most.number ≤ next.number
  pub within : IsStartWithin longest late costs h next.number s
  pub least : (r : ℕ) → most.number ≤ r → IsStartWithin longest late costs h r s → next.number ≤ r
  pub some : (next ≡ most) ⊎ IsNewWindow longest late costs h s most next

-- there is such a window; or the windows of the start are within no number
abbrev pub IsLongerIf : (longest late : ℕ) → Costs → (h : ℕ) → Start → (most : Longest) → Option Longest → Type 0
IsLongerIf longest late costs h s most (Some next) = IsLonger longest late costs h s most next
IsLongerIf longest late costs h s most None = (r : ℕ) → IsStartWithin longest late costs h r s → ⊥

-- The windows of the first starts, so many of them, are within the number of this one, and within no less. It is the first of theirs with it, if the number
-- is not 0.
pub record IsMost (longest late : ℕ) (costs : Costs) (h : ℕ) (ss : List Start) (count : ℕ) (most : Longest) : Type 0 where
  pub within : AreWithin longest late costs h ss count most.number
  pub least : (r : ℕ) → AreWithin longest late costs h ss count r → most.number ≤ r
  pub some : (most.number ≡ 0) ⊎ IsFirstWindow longest late costs h ss most

-- of all these starts; none where their windows are within no number
abbrev pub IsMostIf : (longest late : ℕ) → Costs → (h : ℕ) → List Start → Option Longest → Type 0
IsMostIf longest late costs h ss (Some most) = IsMost longest late costs h ss (length ss) most
IsMostIf longest late costs h ss None = (r : ℕ) → AreWithin longest late costs h ss (length ss) r → ⊥

-- What is told of h, and the first window with that number, of its starts.
abbrev pub IsLongest : (longest late : ℕ) → Costs → (h : ℕ) → (boot : Bool) → Option Longest → Type 0
IsLongest longest late costs h boot (Some l) =
    IsRunResponse longest late costs h boot (Some l.number)
    × ((l.number ≡ 0) ⊎ IsFirstWindow longest late costs h (run_starts costs h boot) l)
IsLongest longest late costs h boot None = IsRunResponse longest late costs h boot None

-- the number that it tells
abbrev pub number_of : Option Longest → Option ℕ
number_of (Some l) = Some l.number
number_of None = None

-- ---- of what its number is made

-- The stretch in front of it, the item that a lower task has begun, a section and a service of others, rounds and ticks: they add up to the number.
pub record AreParts (longest late : ℕ) (costs : Costs) (h : ℕ) (l : Longest) (p : Parts) : Type 0 where
  pub stretch : p.stretch ≡ lead_of l.opens late
  pub item : p.item ≡ begun_item longest l.start
  pub section : p.section ≡ start_counts costs h l.start
  pub service : p.service ≡ cond l.opens 0 (start_service costs h l.start)
  pub least : IsLeast costs (run_window longest late costs h l.opens l.start) (numbers_of p.numbers) p.counts
  pub sum : l.number ≡ p.stretch + p.item + p.section + p.service + round_counts (numbers_of p.numbers) 0 costs.tasks + tick_counts p.counts costs.counters
