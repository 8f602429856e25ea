-- What costs and starts say of a run.
use Rattle.std.specs.Prelude.{ℕ, ◌+◌, ◌<◌, ◌≤◌, ◌≡◌, List, [], ◌∷◌, ◌++◌, Bool, true, false, length, cond, Some}
use Rattle.std.specs.List.{AllByRecursion}
use Rattle.sloth_base.specs.declared.config.Config.{Config}
use Rattle.sloth_base.specs.Owners.{counter_line}
use Rattle.osek_scheduler.specs.Next.{is_due}
use Rattle.run_counts.specs.Stages.{Stage, spanned, end_of}
use Rattle.run_counts.specs.Rounds.{total}
use Rattle.response_laws.specs.Sums.{total_where, count, is_over}
use Rattle.response_laws.specs.Turns.{at_tick, at_admission, is_other, begins_first, begins_next, round_behind, if_turn, if_entry, comes_at, activated, was_set}
use Rattle.response_laws.specs.Busy.{IsBusyPeriod}
use Rattle.response_laws.specs.Shares.{share_of, lower_counts}
use Rattle.response_laws.specs.Demand.{Costs, Inflow, Start}

-- ---- rounds

-- each round of task t that begins so has at most this sum: of the entry that it begins with one number, of the stages behind it another
abbrev pub EachOf : List Stage → (cuts : Bool) → (t : ℕ) → (begins : Stage → Bool) → (entry share : Stage → ℕ) → (most : ℕ) → Type 0
EachOf run cuts t begins entry share most =
    (before behind : List Stage) (opens : Stage) → run ≡ before ++ opens ∷ behind → begins opens ≡ true
    → if_entry t entry opens + total share (round_behind cuts t behind) ≤ most

-- each first round of task t has at most this sum, with the entry that it begins with
abbrev pub EachFirst : List Stage → (cuts : Bool) → (t : ℕ) → (Stage → ℕ) → (most : ℕ) → Type 0
EachFirst run cuts t f most = EachOf run cuts t (begins_first t) f (if_turn t f) most

-- each round of it behind a WaitEvent
abbrev pub EachNext : List Stage → (cuts : Bool) → (t : ℕ) → (Stage → ℕ) → (most : ℕ) → Type 0
EachNext run cuts t f most = EachOf run cuts t (begins_next cuts t) f (if_turn t f) most

-- Where WaitEvents that go on cut the turns of task t, each round behind one has a setting of its own in front of it: in any part of the run whose first
-- stage finds the task neither Ready nor Active.
abbrev pub HasSettings : List Stage → (t : ℕ) → Type 0
HasSettings run t =
    (before further behind : List Stage) (first last : Stage) → run ≡ before ++ ((first ∷ (further ++ last ∷ [])) ++ behind) → is_due first.found t ≡ false
    → count (begins_next true t) (first ∷ (further ++ last ∷ [])) ≤ total (was_set t) (first ∷ further)

-- In any part of the run it has one in front, but for one: its event may have been set before.
abbrev pub HasSettingsButOne : List Stage → (t : ℕ) → Type 0
HasSettingsButOne run t =
    (before xs behind : List Stage) (last : Stage) → run ≡ before ++ ((xs ++ last ∷ []) ++ behind) → count (begins_next true t) (xs ++ last ∷ []) ≤ total (was_set t) xs + 1

-- a task of the configuration, of at least the static priority of h
abbrev pub IsOfLevel : Config → (h t : ℕ) → Type 0
IsOfLevel config h t = (t < length config.tasks) × (is_over config h t ≡ true)

-- The costs bound the rounds of a run, by the entries' and the tasks' own counts, and the ticks' own, and how often rounds of tasks of at least the static
-- priority of h make such tasks Ready.
pub record BoundsRounds (config : Config) (h : ℕ) (cuts : ℕ → Bool) (costs : Costs) (run : List Stage) : Type 0 where
  pub firsts : (t : ℕ) → t < length config.tasks → is_over config h t ≡ true → EachOf run (cuts t) t (begins_first t) spanned (share_of config t) (costs.first t)
  pub nexts : (t : ℕ) → t < length config.tasks → is_over config h t ≡ true → EachOf run (cuts t) t (begins_next (cuts t) t) spanned (share_of config t) (costs.next t)
  pub ticks : (c : ℕ) → AllByRecursion (λ x. at_tick c x ≡ true → spanned x ≤ costs.tick c) run
  pub first_acts : (k j : ℕ) → IsOfLevel config h k → IsOfLevel config h j → EachFirst run (cuts k) k (activated j) (costs.first_acts k j)
  pub next_acts : (k j : ℕ) → IsOfLevel config h k → IsOfLevel config h j → EachNext run (cuts k) k (activated j) (costs.next_acts k j)
  pub first_sets : (k j : ℕ) → IsOfLevel config h k → IsOfLevel config h j → EachFirst run (cuts k) k (was_set j) (costs.first_sets k j)
  pub next_sets : (k j : ℕ) → IsOfLevel config h k → IsOfLevel config h j → EachNext run (cuts k) k (was_set j) (costs.next_sets k j)
  pub settings : (t : ℕ) → t < length config.tasks → is_over config h t ≡ true → cuts t ≡ true → HasSettings run t

-- The costs bound how often rounds of tasks of at least the static priority of h set events of the lower task b, and its own rounds have settings.
pub record BoundsJoined (config : Config) (h : ℕ) (cuts : ℕ → Bool) (costs : Costs) (run : List Stage) (b : ℕ) : Type 0 where
  pub first_sets : (k : ℕ) → IsOfLevel config h k → EachFirst run (cuts k) k (was_set b) (costs.first_sets k b)
  pub next_sets : (k : ℕ) → IsOfLevel config h k → EachNext run (cuts k) k (was_set b) (costs.next_sets k b)
  pub settings : HasSettingsButOne run b

-- so of the task that joins
abbrev pub BoundsJoining : Config → (h : ℕ) → (cuts : ℕ → Bool) → Costs → List Stage → Start → Type 0
BoundsJoining config h cuts costs run s = (b : ℕ) → s.joins ≡ Some b → BoundsJoined config h cuts costs run b

-- ---- busy periods

-- a stage begins at most l counts behind this one
abbrev pub BeginsWithin : (l : ℕ) → (first : Stage) → Stage → Type 0
BeginsWithin l first x = x.start ≤ end_of first + l

-- what the stages of the round of h that ends in these have, where h leaves as they begin
abbrev pub left_of : (once : Bool) → (h : ℕ) → (share : Stage → ℕ) → List Stage → ℕ
left_of once h share xs = cond once (total share (round_behind false h xs)) 0

-- a number of the turn of h that ends in these stages, where h leaves as they begin
abbrev pub left_over : (once : Bool) → (h : ℕ) → (Stage → ℕ) → List Stage → ℕ
left_over once h f xs = left_of once h (if_turn h f) xs

-- what comes into the busy period from outside is within these numbers
pub record IsWithinInflow (config : Config) (h : ℕ) (once : Bool) (inflow : Inflow) (first : Stage) (period : List Stage) : Type 0 where
  pub arrivals : (line : ℕ) → count (at_admission line) (first ∷ period) ≤ inflow.arrivals line
  -- where the counter ticks no more often than it may
  pub alarm_acts : (c j : ℕ) → count (at_tick c) (first ∷ period) ≤ inflow.arrivals (counter_line c)
      → total_where (at_tick c) (activated j) (first ∷ period) ≤ inflow.alarm_acts c j
  pub alarm_sets : (c j : ℕ) → count (at_tick c) (first ∷ period) ≤ inflow.arrivals (counter_line c)
      → total_where (at_tick c) (was_set j) (first ∷ period) ≤ inflow.alarm_sets c j
  pub front : total (lower_counts config h) period + left_of once h (share_of config h) period ≤ inflow.front
  pub acts : (j : ℕ) → is_over config h j ≡ true → total_where (is_other config h) (activated j) (first ∷ period) + left_over once h (activated j) (first ∷ period) ≤ inflow.acts j
  pub sets : (j : ℕ) → is_over config h j ≡ true → total_where (is_other config h) (was_set j) (first ∷ period) + left_over once h (was_set j) (first ∷ period) ≤ inflow.sets j

-- Task b has, behind WaitEvents, no more rounds in these stages than its events are set: by others as often as the start says, by what is left over, by itself; and once in front
-- of them.
abbrev pub HasRoundsSet : Config → (h : ℕ) → Start → (left b : ℕ) → List Stage → Type 0
HasRoundsSet config h s left b xs = count (begins_next true b) xs ≤ s.settings + left + total_where (is_other config h) (was_set b) xs + 1

-- so has the task that joins
abbrev pub JoinsWithin : Config → (h : ℕ) → (once : Bool) → Start → List Stage → Type 0
JoinsWithin config h once s xs = (b : ℕ) → s.joins ≡ Some b → HasRoundsSet config h s (left_over once h (was_set b) xs) b xs

-- The busy period starts in this way: so much comes into each beginning of it, as long as that lasts no longer than the start says, and the task that joins has no more rounds than
-- settings.
abbrev pub StartsSo : Config → (h : ℕ) → (once : Bool) → Start → (first : Stage) → (period : List Stage) → Type 0
StartsSo config h once s first period =
    (front rest : List Stage) → period ≡ front ++ rest → AllByRecursion (BeginsWithin s.counts first) front → JoinsWithin config h once s (first ∷ front)
    → IsWithinInflow config h once s.inflow first front

-- from each moment at which one of these stages makes task h Ready, or a counter due, the first stage of the period ends within so many counts
abbrev pub EndsSoon : (h lead : ℕ) → (first : Stage) → List Stage → Type 0
EndsSoon h lead first xs = AllByRecursion (λ x. comes_at h x ≡ true → end_of first ≤ x.stamped.stamp.at + lead) xs

-- each busy period of the run starts in one of these ways, and soon; with boot only where it begins with the first event of the run
abbrev pub StartsInOne : Config → (h : ℕ) → (once : Bool) → (starts : ℕ) → (ℕ → Start) → List Stage → Type 0
StartsInOne config h once starts start run =
    (first : Stage) (period : List Stage) (busy : IsBusyPeriod config h once run first period)
    → (i : ℕ) × (i < starts) × StartsSo config h once (start i) first period × EndsSoon h (start i).lead first (first ∷ period)
    × ((start i).is_boot ≡ true → busy.before ≡ [])
