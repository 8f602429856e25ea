-- Why the events of a run are not in time.
use Rattle.std.specs.Prelude.{ℕ, ◌+◌, ◌-◌, ◌/◌, ◌%◌, ◌<◌, ◌≤◌, ◌≡◌, ◌≢◌, List, All, AllPairs, false, get_or, length, take}
use Rattle.sloth_base.specs.declared.service.Arrival.{Arrival}
use Rattle.sloth_base.specs.declared.service.Stamped.{Stamped}
use Rattle.osek_scheduler.specs.InTime.{AreAllAdmitted, IsOrdered, IsStamped, KeepsOrder, admits_at, arrivals_at, is_admit}
use Rattle.trace_check.specs.declared.late.Lateness.{Lateness}
use Rattle.trace_check.specs.declared.late.Lateness.TheVariants as late

-- ---- stamps, places and order

-- the stamps, the places and the order of these events are those of n instructions with these arrivals
pub record AreInPlace (n : ℕ) (arrivals : List Arrival) (events : List Stamped) : Type 0 where
  pub stamped : All (IsStamped n) events
  pub placed : AllPairs IsOrdered events
  pub in_order : KeepsOrder arrivals events

-- so many events in front are in place, and with the next one, if there is one, they are not
pub record IsFrontInPlace (n : ℕ) (arrivals : List Arrival) (events : List Stamped) (count : ℕ) : Type 0 where
  pub inside : count ≤ length events
  pub in_place : AreInPlace n arrivals (take count events)
  pub greatest : count < length events → AreInPlace n arrivals (take (count + 1) events) → ⊥

-- ---- admits

-- the event of line k is an admit too many: with it a moment has more admits of a line of the controller than arrivals, without it not
pub record IsFirstExtra (arrivals : List Arrival) (events : List Stamped) (moment line k : ℕ) : Type 0 where
  pub positive : 0 < k
  pub inside : k ≤ length events
  pub before : admits_at moment line (take (k - 1) events) ≤ arrivals_at moment line arrivals
  pub above : arrivals_at moment line arrivals < admits_at moment line (take k events)

-- each arrival of an earlier moment has its admit, and of this moment and line there are fewer admits than arrivals
pub record IsFirstMissing (arrivals : List Arrival) (events : List Stamped) (moment line : ℕ) : Type 0 where
  pub earlier : AreAllAdmitted moment arrivals events
  pub lacks : admits_at moment line events < arrivals_at moment line arrivals

-- an event that is no admit begins at this moment or behind it, so no admit of the moment may follow
pub record Passes (moment : ℕ) (e : Stamped) : Type 0 where
  pub other : is_admit e ≡ false
  pub behind : moment ≤ e.stamp.from

-- so many events in front do not
abbrev pub NonePasses : ℕ → List Stamped → ℕ → Type 0
NonePasses moment events count = (i : ℕ) (d : Stamped) → i < count → Passes moment (get_or events i d) → ⊥

-- the event of line k is the first that does
pub record IsFirstPassing (moment : ℕ) (events : List Stamped) (k : ℕ) : Type 0 where
  pub positive : 0 < k
  pub inside : k ≤ length events
  pub passes : (d : Stamped) → Passes moment (get_or events (k - 1) d)
  pub before : NonePasses moment events (k - 1)

-- ---- reasons

-- line k is the first with which the events are not in place
pub record IsMisplaced (n : ℕ) (arrivals : List Arrival) (events : List Stamped) (k : ℕ) : Type 0 where
  pub front : ℕ
  pub in_place : IsFrontInPlace n arrivals events front
  pub shorter : front < length events
  pub is : k ≡ front + 1

-- among those in front that are in place line k is an admit too many
pub record IsExtra (n : ℕ) (arrivals : List Arrival) (events : List Stamped) (k : ℕ) : Type 0 where
  pub front : ℕ
  pub in_place : IsFrontInPlace n arrivals events front
  pub moment : ℕ
  pub line : ℕ
  pub extra : IsFirstExtra arrivals (take front events) moment line k

-- among those in front that are in place this is the first moment that lacks an admit, and line k the first behind which it can't follow
pub record IsPassed (n : ℕ) (arrivals : List Arrival) (events : List Stamped) (k moment line : ℕ) : Type 0 where
  pub front : ℕ
  pub in_place : IsFrontInPlace n arrivals events front
  pub missing : IsFirstMissing arrivals (take front events) moment line
  pub passes : IsFirstPassing moment (take front events) k

-- all are in place, this is the first moment that lacks an admit, and no event but admits begins at it or behind it
pub record IsMissing (n : ℕ) (arrivals : List Arrival) (events : List Stamped) (moment line : ℕ) : Type 0 where
  pub in_place : AreInPlace n arrivals events
  pub inside : moment < n
  pub missing : IsFirstMissing arrivals events moment line
  pub passed : NonePasses moment events (length events)

-- this is why the events are not in time
abbrev pub IsLateness : ℕ → List Arrival → List Stamped → Lateness → Type 0
IsLateness n arrivals events (late.Misplaced k) = IsMisplaced n arrivals events k
IsLateness n arrivals events (late.Extra k) = IsExtra n arrivals events k
IsLateness n arrivals events (late.Passed k moment line) = IsPassed n arrivals events k moment line
IsLateness n arrivals events (late.Missing moment line) = IsMissing n arrivals events moment line

-- ---- how it is found

-- Each arrival of an earlier moment than this number's has its admit, and of its moment and line there are not as many admits as
-- arrivals, if it is not the greatest of 64 bits.
pub record IsFirstDifference (arrivals : List Arrival) (events : List Stamped) (number : ℕ) : Type 0 where
  pub earlier : AreAllAdmitted (number / 4294967296) arrivals events
  pub differs : number < 18446744073709551615
      → admits_at (number / 4294967296) (number % 4294967296) events ≢ arrivals_at (number / 4294967296) (number % 4294967296) arrivals
