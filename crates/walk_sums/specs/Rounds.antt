-- Rounds of tasks, the walks of which they are parts, and the tasks that clear what they wait for.
use Rattle.std.specs.Prelude.{ℕ, ◌≡◌, ◌≢◌, Bool, true, false, List, [], ◌∷◌, ◌++◌, cond, bit_and, bit_or}
use Rattle.std.specs.List.{AllByRecursion}
use Rattle.sloth_base.specs.declared.config.Config.{Config}
use Rattle.sloth_base.specs.declared.app.App.{App}
use Rattle.sloth_base.specs.declared.app.Op.{Op}
use Rattle.sloth_base.specs.declared.app.Op.TheVariants as op
use Rattle.sloth_base.specs.declared.service.Service.TheVariants as service
use Rattle.sloth_base.specs.Named.{declaration}
use Rattle.sloth_base.specs.ServiceCodes.{is_service}
use Rattle.osek_blocking.specs.Walks.{Position, IsWalk}
use Rattle.osek_blocking.specs.Sections.{operation_at, is_schedule}

-- ---- reached items

-- a walk of task t reaches a position
abbrev pub Reaches : App → (t : ℕ) → Position → Type 0
Reaches app t at = (before : List Position) × IsWalk app t (before ++ at ∷ [])

-- a WaitEvent (OSEK OS 2.2.3, section 13.5.3.4)
abbrev pub is_wait : Op → Bool
is_wait (op.Serve call) = is_service call.service service.WaitEvent
is_wait _ = false

-- ---- parts of walks

-- none of these positions but the last has an operation of this kind
abbrev pub OnlyLast : App → (Op → Bool) → List Position → Type 0
OnlyLast app is [] = Unit {0}
OnlyLast app is (at ∷ further) = (further ≢ [] → is (operation_at app at) ≡ false) × OnlyLast app is further

-- Consecutive positions of a walk of task t, at each of which it stands so, and of which none but the last has an operation of this kind. Where
-- they may begin is told by what is in front of them.
pub record IsPart (app : App) (t : ℕ) (Begins : List Position → Type 0) (Stands : Position → Type 0) (stops : Op → Bool) (positions : List Position) : Type 0 where
  pub before : List Position
  pub of_walk : IsWalk app t (before ++ positions)
  pub begins : Begins before
  pub stands : AllByRecursion Stands positions
  pub unbroken : OnlyLast app stops positions

-- nothing is in front
abbrev pub IsFirst : List Position → Type 0
IsFirst before = before ≡ []

-- a WaitEvent is in front
abbrev pub IsBehindWait : App → List Position → Type 0
IsBehindWait app before = (front : List Position) × (at : Position) × (before ≡ front ++ at ∷ []) × (is_wait (operation_at app at) ≡ true)

abbrev pub Anywhere : {X : Type 0} → X → Type 0
Anywhere x = Unit {0}

-- ---- rounds

-- a walk of a turn: it goes on behind each WaitEvent
abbrev pub IsTurn : App → (t : ℕ) → List Position → Type 0
IsTurn app t = IsPart app t IsFirst Anywhere (λ o. false)

-- a walk of a round that begins with the first item of the task's body
abbrev pub IsFirstRound : App → (t : ℕ) → List Position → Type 0
IsFirstRound app t = IsPart app t IsFirst Anywhere is_wait

-- of one that begins behind a WaitEvent
abbrev pub IsLaterRound : App → (t : ℕ) → List Position → Type 0
IsLaterRound app t = IsPart app t (IsBehindWait app) Anywhere is_wait

-- ---- tasks that clear what they wait for

-- the events that a WaitEvent waits for
abbrev pub awaited : Op → ℕ
awaited (op.Serve call) = cond (is_service call.service service.WaitEvent) call.mask 0
awaited _ = 0

-- those that a ClearEvent clears (OSEK OS 2.2.3, section 13.5.3.2)
abbrev pub cleared : Op → ℕ
cleared (op.Serve call) = cond (is_service call.service service.ClearEvent) call.mask 0
cleared _ = 0

abbrev pub cleared_along : App → List Position → ℕ
cleared_along app [] = 0
cleared_along app (at ∷ further) = bit_or (cleared (operation_at app at)) (cleared_along app further)

-- from one WaitEvent a walk of task t goes to the next by way of these positions
pub record IsBetweenWaits (app : App) (t : ℕ) (from : Position) (between : List Position) (to : Position) : Type 0 where
  pub before : List Position
  pub of_walk : IsWalk app t (before ++ from ∷ (between ++ to ∷ []))
  pub first : is_wait (operation_at app from) ≡ true
  pub none : AllByRecursion (λ at. is_wait (operation_at app at) ≡ false) between
  pub last : is_wait (operation_at app to) ≡ true

-- between two WaitEvents the task clears each event that the second one waits for
abbrev pub IsClean : App → (t : ℕ) → Type 0
IsClean app t =
    (from to : Position) (between : List Position) → IsBetweenWaits app t from between to
    → bit_and (awaited (operation_at app to)) (cleared_along app between) ≡ awaited (operation_at app to)

-- a task that is not preemptable and of which no walk reaches a Schedule
pub record IsSteady (config : Config) (app : App) (t : ℕ) : Type 0 where
  pub non : (declaration config t).non ≡ true
  pub none : (at : Position) → Reaches app t at → is_schedule (operation_at app at) ≡ false
