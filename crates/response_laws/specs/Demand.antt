-- What a busy period demands of the processor at most.
use Rattle.std.specs.Prelude.{ℕ, ◌+◌, ◌*◌, ◌<◌, ◌≤◌, ◌≡◌, ◌==◌, ◌&&◌, min, Bool, true, false, length, Option, Some}
use Rattle.sloth_base.specs.declared.config.Config.{Config}
use Rattle.sloth_base.specs.Owners.{counter_line}
use Rattle.response_laws.specs.Sums.{is_over, sum_over, sum_counters}

-- The greatest costs of a round of each task, and what it makes: of a first round, and of one behind a WaitEvent.
pub record Costs : Type 0 where
  -- own counts, and those of the entry that it begins with
  pub first : (t : ℕ) → ℕ
  pub next : (t : ℕ) → ℕ
  -- counts of a tick of a counter
  pub tick : (c : ℕ) → ℕ
  -- events of the round that make task j Ready to begin anew
  pub first_acts : (k j : ℕ) → ℕ
  pub next_acts : (k j : ℕ) → ℕ
  -- events of the round that set events of task j
  pub first_sets : (k j : ℕ) → ℕ
  pub next_sets : (k j : ℕ) → ℕ

-- The greatest numbers of what comes into a busy period from outside the rounds of the tasks of at least the static priority of h.
pub record Inflow : Type 0 where
  -- admissions of a line
  pub arrivals : (line : ℕ) → ℕ
  -- ticks of counter c that make task j Ready to begin anew, and that set events of it
  pub alarm_acts : (c j : ℕ) → ℕ
  pub alarm_sets : (c j : ℕ) → ℕ
  -- counts of lower tasks behind the first event, and of other events
  pub front : ℕ
  -- other events, the first included, that make task j Ready to begin anew, and that set events of it
  pub acts : (j : ℕ) → ℕ
  pub sets : (j : ℕ) → ℕ

-- a way in which a busy period may start, how long it lasts at most then, and how many rounds of each task it has at most
pub record Start : Type 0 where
  -- it is boot with which the period begins
  pub is_boot : Bool
  -- so many counts at most stand between the moment at which task h is made Ready and the end of the period's first event
  pub lead : ℕ
  pub inflow : Inflow
  -- a lower task that joins the period, if one does: it has rounds in it; and how often its events are set at most, but by itself
  pub joins : Option ℕ
  pub settings : ℕ
  pub counts : ℕ
  pub firsts : (j : ℕ) → ℕ
  pub nexts : (j : ℕ) → ℕ

-- how often task j is made Ready to begin anew at most, where each task has so many rounds
abbrev pub acts_due : Config → (h : ℕ) → Costs → Start → (j : ℕ) → ℕ
acts_due config h costs s j =
    s.inflow.acts j + s.inflow.arrivals j + sum_counters config (λ c. s.inflow.alarm_acts c j)
    + sum_over config h (λ k. s.firsts k * costs.first_acts k j + s.nexts k * costs.next_acts k j)

-- how often events of task j are set at most
abbrev pub sets_due : Config → (h : ℕ) → Costs → Start → (j : ℕ) → ℕ
sets_due config h costs s j =
    s.inflow.sets j + sum_counters config (λ c. s.inflow.alarm_sets c j)
    + sum_over config h (λ k. s.firsts k * costs.first_sets k j + s.nexts k * costs.next_sets k j)

-- how often they are set at most by alarms and by the tasks of at least the static priority of h
abbrev pub outer_sets : Config → (h : ℕ) → Costs → Start → (j : ℕ) → ℕ
outer_sets config h costs s j =
    sum_counters config (λ c. s.inflow.alarm_sets c j)
    + sum_over config h (λ k. s.firsts k * costs.first_sets k j + s.nexts k * costs.next_sets k j)

-- the counts of all events behind the first
abbrev pub counts_due : Config → (h : ℕ) → Costs → Start → ℕ
counts_due config h costs s =
    s.inflow.front + sum_over config h (λ j. s.firsts j * costs.first j + s.nexts j * costs.next j)
    + sum_counters config (λ c. s.inflow.arrivals (counter_line c) * costs.tick c)

-- Task h is entered once, if anything makes it, and all its rounds cost the same.
pub record IsEnteredOnce (config : Config) (h : ℕ) (costs : Costs) (s : Start) : Type 0 where
  pub number : min 1 (acts_due config h costs s h + sets_due config h costs s h) ≤ s.firsts h
  pub cost : costs.next h ≡ costs.first h
  pub acts : (j : ℕ) → costs.next_acts h j ≡ costs.first_acts h j
  pub sets : (j : ℕ) → costs.next_sets h j ≡ costs.first_sets h j

-- The length is enough, and so are the numbers of rounds; where task h is entered once, its makings count once.
pub record IsEnough (config : Config) (h : ℕ) (once : Bool) (costs : Costs) (s : Start) : Type 0 where
  pub firsts : (j : ℕ) → j < length config.tasks → is_over config h j ≡ true → (once && (j == h)) ≡ false → acts_due config h costs s j ≤ s.firsts j
  pub nexts : (j : ℕ) → j < length config.tasks → is_over config h j ≡ true → (once && (j == h)) ≡ false → sets_due config h costs s j ≤ s.nexts j
  pub entered : once ≡ true → IsEnteredOnce config h costs s
  pub joined : (b : ℕ) → s.joins ≡ Some b → outer_sets config h costs s b ≤ s.settings
  pub enough : counts_due config h costs s ≤ s.counts
