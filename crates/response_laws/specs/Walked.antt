-- What the events of a round come to is within the walks of the task code.
use Rattle.std.specs.Prelude.{ℕ, ◌+◌, ◌≤◌, ◌≡◌, ◌==◌, ◌&&◌, List, [], ◌∷◌, ◌++◌, Bool, true, false}
use Rattle.std.specs.List.{AllByRecursion}
use Rattle.sloth_base.specs.declared.config.Config.{Config}
use Rattle.sloth_base.specs.declared.app.App.{App}
use Rattle.sloth_base.specs.declared.app.Op.{Op}
use Rattle.sloth_base.specs.declared.service.Event.{Event}
use Rattle.sloth_base.specs.declared.service.Event.TheVariants as event
use Rattle.sloth_base.specs.declared.service.Stamped.{Stamped}
use Rattle.code_rules.specs.WellFormed.{WellFormed}
use Rattle.osek_scheduler.specs.State.{Frame, task}
use Rattle.osek_scheduler.specs.Runs.{OsekRun}
use Rattle.osek_blocking.specs.Walks.{Position, place}
use Rattle.osek_blocking.specs.Sections.{IsSection}
use Rattle.bound_rules.specs.declared.bound.BodyWeights.{BodyWeights}
use Rattle.walk_sums.specs.Rounds.{is_wait, IsPart, IsFirst, IsBehindWait, Anywhere}
use Rattle.walk_sums.specs.Told.{NoneIsAbove}
use Rattle.sim_induction.specs.Pace.{ItemSizes}
use Rattle.run_counts.specs.Stages.{Stage, run_stages}
use Rattle.run_counts.specs.Rounds.{is_left, round_of, total}
use Rattle.run_counts.specs.OwnCounts.{is_preempted, begun, left_begun}
use Rattle.response_laws.specs.Turns.{begins_first, begins_next, if_turn}

-- ---- walks

-- where the functions in progress of a task stand
abbrev pub standing : List Frame → Position
standing [] = []
standing (frame ∷ outer) = place frame.func frame.item ∷ standing outer

-- where WaitEvents cut turns into rounds, a round ends with one
abbrev pub is_cut : (cuts : Bool) → Op → Bool
is_cut cuts o = cuts && is_wait o

-- a first round of task t: a walk of it, up to a WaitEvent where these cut its turns
abbrev pub IsFirstRound : App → (cuts : Bool) → (t : ℕ) → List Position → Type 0
IsFirstRound app cuts t = IsPart app t IsFirst Anywhere (is_cut cuts)

-- another round of it: a part of a walk behind a WaitEvent, up to the next one where these cut its turns
abbrev pub IsLaterRound : App → (cuts : Bool) → (t : ℕ) → List Position → Type 0
IsLaterRound app cuts t = IsPart app t (IsBehindWait app) Anywhere (is_cut cuts)

-- the sum of what positions weigh: the last one where the walk may end with it, the others where it goes on
abbrev pub weigh : (going ending : Position → ℕ) → List Position → ℕ
weigh going ending [] = 0
weigh going ending (at ∷ []) = ending at
weigh going ending (at ∷ next ∷ further) = going at + weigh going ending (next ∷ further)

-- no first round weighs more
abbrev pub FirstRoundsWeigh : App → (cuts : Bool) → (t : ℕ) → (going ending : Position → ℕ) → (most : ℕ) → Type 0
FirstRoundsWeigh app cuts t going ending most = (positions : List Position) → IsFirstRound app cuts t positions → weigh going ending positions ≤ most

-- no other round weighs more
abbrev pub LaterRoundsWeigh : App → (cuts : Bool) → (t : ℕ) → (going ending : Position → ℕ) → (most : ℕ) → Type 0
LaterRoundsWeigh app cuts t going ending most = (positions : List Position) → IsLaterRound app cuts t positions → weigh going ending positions ≤ most

-- by the weights of items
abbrev pub FirstRoundsSum : App → (cuts : Bool) → (t : ℕ) → (weights : List BodyWeights) → (most : ℕ) → Type 0
FirstRoundsSum app cuts t weights most = NoneIsAbove (IsFirstRound app cuts t) weights most

abbrev pub LaterRoundsSum : App → (cuts : Bool) → (t : ℕ) → (weights : List BodyWeights) → (most : ℕ) → Type 0
LaterRoundsSum app cuts t weights most = NoneIsAbove (IsLaterRound app cuts t) weights most

-- no part of a walk of task b at each position of which it is raised to task h sums up to more
abbrev pub SectionsSum : Config → App → (h b : ℕ) → (weights : List BodyWeights) → (most : ℕ) → Type 0
SectionsSum config app h b weights most = NoneIsAbove (IsSection config app h b) weights most

-- ---- runs

-- the event executes an item of task t, which goes on
abbrev pub is_executed : (t : ℕ) → Event → Bool
is_executed t (event.Run u func item result) = u == t
is_executed t (event.Call u served status) = u == t
is_executed t _ = false

-- task t comes back from Schedule
abbrev pub is_back : (t : ℕ) → Event → Bool
is_back t (event.Back u) = u == t
is_back t _ = false

-- a number of an event of task t is at most what the item weighs that it executes
pub record FitsItem (t : ℕ) (f : Stage → ℕ) (going ending : Position → ℕ) (x : Stage) : Type 0 where
  pub goes : is_executed t x.stamped.event ≡ true → f x ≤ going (standing (task x.found t).frames)
  pub leaves : is_left t x.stamped.event ≡ true → f x ≤ ending (standing (task x.found t).frames)
  pub returns : is_back t x.stamped.event ≡ true → f x ≤ 0

-- the item that task t has begun where it is preempted has at most what a walk weighs that may end with it
abbrev pub FitsBegun : Config → ItemSizes → (t : ℕ) → (ending : Position → ℕ) → Stage → Type 0
FitsBegun config size t ending x = is_preempted config t x ≡ true → begun size t x ≤ ending (standing (task x.found t).frames)

-- In every run of well-formed task code: where each event of a task has at most what its item weighs, and an item that it has begun too, a round with the
-- item that it has begun and not ended has at most what walks weigh.
abbrev pub RoundsFollowWalksOn : Type 0
RoundsFollowWalksOn = (config : Config) (app : App) (events : List Stamped) (t : ℕ) (cuts : Bool) (f : Stage → ℕ) (going ending : Position → ℕ) (size : ItemSizes)
    → WellFormed config app → OsekRun config app events → AllByRecursion (FitsItem t f going ending) (run_stages config app events)
    → AllByRecursion (FitsBegun config size t ending) (run_stages config app events)
    → ((at : Position) → going at ≤ ending at)
    → (before behind : List Stage) (opens : Stage) → run_stages config app events ≡ before ++ opens ∷ behind
    → ((most : ℕ) → FirstRoundsWeigh app cuts t going ending most → begins_first t opens ≡ true
    → total (if_turn t f) (round_of cuts t behind) + left_begun config size t 0 (round_of cuts t behind) ≤ most)
    × ((most : ℕ) → LaterRoundsWeigh app cuts t going ending most → begins_next cuts t opens ≡ true
    → total (if_turn t f) (round_of cuts t behind) + left_begun config size t 0 (round_of cuts t behind) ≤ most)

-- In every run of well-formed task code: where each event of a task has at most what its item weighs, a round has at most what walks weigh.
abbrev pub RoundsFollowWalks : Type 0
RoundsFollowWalks = (config : Config) (app : App) (events : List Stamped) (t : ℕ) (cuts : Bool) (f : Stage → ℕ) (going ending : Position → ℕ)
    → WellFormed config app → OsekRun config app events → AllByRecursion (FitsItem t f going ending) (run_stages config app events)
    → ((at : Position) → going at ≤ ending at)
    → (before behind : List Stage) (opens : Stage) → run_stages config app events ≡ before ++ opens ∷ behind
    → ((most : ℕ) → FirstRoundsWeigh app cuts t going ending most → begins_first t opens ≡ true → total (if_turn t f) (round_of cuts t behind) ≤ most)
    × ((most : ℕ) → LaterRoundsWeigh app cuts t going ending most → begins_next cuts t opens ≡ true → total (if_turn t f) (round_of cuts t behind) ≤ most)
