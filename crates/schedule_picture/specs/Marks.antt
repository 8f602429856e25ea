-- What of a run is marked between its counts.
use Rattle.std.specs.Prelude.{ℕ, zero, suc, ◌+◌, ◌-◌, ◌==◌, ◌&&◌, not, leb, ltb, nat_lt, Bool, cond, if◌then◌else◌, List, [], ◌∷◌, ◌++◌, get_or, replicate, Option, Some, None}
use Rattle.std.specs.List.{list_any}
use Rattle.sloth_base.specs.Limits.{task_limit, alarm_limit}
use Rattle.sloth_base.specs.Owners.{first_counter_line}
use Rattle.sloth_base.specs.declared.service.Arrival.{Arrival}
use Rattle.sloth_base.specs.declared.image.Image.{Image}
use Rattle.osek_scheduler.specs.declared.state.TaskState.{TaskState}
use Rattle.osek_scheduler.specs.declared.state.TaskState.TheVariants as mode
use Rattle.lane_drawing.specs.Signs.{is_woken, is_activated, is_over}
use Rattle.run_samples.specs.Addresses.{address_behind}
use Rattle.run_samples.specs.Samples.{no_sample}
use Rattle.run_samples.specs.ServiceWords.{words_behind}
use Rattle.sloth_runner.specs.declared.task_states.Seen.{Seen}
use Rattle.run_samples.specs.declared.samples.Sample.{Sample}
use Rattle.schedule_picture.specs.declared.marks.Actor.{Actor}
use Rattle.schedule_picture.specs.declared.marks.Actor.TheVariants as actor
use Rattle.schedule_picture.specs.declared.marks.Mark.{Mark}
use Rattle.schedule_picture.specs.declared.marks.Sign.TheVariants as sign

-- ---- waking and activating

-- a task waits at one count that finds interrupts open, and is Ready at the next
abbrev pub is_task_woken : (before now : Seen) (task : ℕ) → Bool
is_task_woken before now task = is_woken (get_or before.tasks task mode.Suspended) (get_or now.tasks task mode.Suspended)

-- an arrival of a line comes after a count, and at another at the latest
abbrev pub comes_between : (line after last : ℕ) → Arrival → Bool
comes_between line after last arrival = (arrival.line == line) && (ltb after arrival.at && leb arrival.at last)

-- a task is Suspended at one count that finds interrupts open and Ready at the next, and no arrival of its own comes between them
abbrev pub is_task_activated : List Arrival → (before now : Seen) (task : ℕ) → Bool
is_task_activated arrivals before now task =
    is_activated (get_or before.tasks task mode.Suspended) (get_or now.tasks task mode.Suspended)
    && not (list_any (comes_between task before.count now.count) arrivals)

-- who acts from a count that finds interrupts open to the next: the counter whose line is taken there, or the running task, told by its number
-- and 1 more, where no line is
abbrev pub acting : (taken : Option ℕ) (running : ℕ) → Option Actor
acting None running = if running == 0 then None else Some (actor.Task (running - 1))
acting (Some line) running = if nat_lt line first_counter_line then None else Some (actor.Counter (line - first_counter_line))

-- what is marked of a task, where it is Ready: that it is woken, or activated
abbrev pub task_marks : List Arrival → Actor → (before now : Seen) → (task : ℕ) → List Mark
task_marks arrivals by before now task =
    cond (is_task_woken before now task) (record { at = now.count; actor = by; sign = sign.Wakes task } ∷ []) []
    ++ cond (is_task_activated arrivals before now task) (record { at = now.count; actor = by; sign = sign.Activates task } ∷ []) []

-- and of the first tasks, so many of them
unfoldable pub tasks_marks : List Arrival → Actor → (before now : Seen) → ℕ → List Mark
tasks_marks arrivals by before now zero = []
tasks_marks arrivals by before now (suc k) = tasks_marks arrivals by before now k ++ task_marks arrivals by before now k

abbrev pub marks_by : List Arrival → Option Actor → (before now : Seen) → List Mark
marks_by arrivals None before now = []
marks_by arrivals (Some by) before now = tasks_marks arrivals by before now task_limit

-- ---- expiries

-- an alarm's ticks come to 0
abbrev pub is_alarm_over : (before now : List ℕ) (alarm : ℕ) → Bool
is_alarm_over before now alarm = is_over (get_or before alarm 0) (get_or now alarm 0)

-- the counter that ticks, where its line is taken
abbrev pub ticking : (taken : Option ℕ) → Option ℕ
ticking None = None
ticking (Some line) = if nat_lt line first_counter_line then None else Some (line - first_counter_line)

-- those of the first alarms, so many of them, that expire at the tick of a counter which begins at a count
unfoldable pub expiries : (at counter : ℕ) → (before now : List ℕ) → ℕ → List Mark
expiries at counter before now zero = []
expiries at counter before now (suc k) =
    expiries at counter before now k
    ++ cond (is_alarm_over before now k) (record { at = at; actor = actor.Counter counter; sign = sign.Expires k } ∷ []) []

abbrev pub expiries_at : (at : ℕ) → Option ℕ → (before now : List ℕ) → List Mark
expiries_at at None before now = []
expiries_at at (Some counter) before now = expiries at counter before now alarm_limit

-- ---- the marks of a run

-- what a count marks that finds interrupts open, behind one that did; of both the tasks are seen
abbrev pub marks_when_open : List Arrival → (taken : Option ℕ) (before now : Option Seen) → List Mark
marks_when_open arrivals taken None now = []
marks_when_open arrivals taken (Some before) None = []
marks_when_open arrivals taken (Some before) (Some now) = marks_by arrivals (acting taken before.running) before now

-- what one marks that finds them masked: alarms that have had ticks left at the count before, and have none
abbrev pub marks_when_masked : (taken : Option ℕ) → Option Seen → (before now : List ℕ) → List Mark
marks_when_masked taken None before now = []
marks_when_masked taken (Some seen) before now = expiries_at seen.count (ticking taken) before now

-- what a count marks, behind the last one that found interrupts open, if one did, by the ticks that alarms had left at the count before and have now
abbrev pub marks_at : List Arrival → Option Sample → Sample → (before now : List ℕ) → List Mark
marks_at arrivals None sample before now = []
marks_at arrivals (Some last) sample before now =
    if sample.interrupts.masked then marks_when_masked last.taken last.seen before now else marks_when_open arrivals last.taken last.seen sample.seen

-- a run that is watched: its arrivals, the last sample that found interrupts open, the ticks that alarms had left at the last count, and the marks and the
-- addresses so far
pub record Watch : Type 0 where
  pub arrivals : List Arrival
  pub last : Option Sample
  pub alarms : List ℕ
  pub marks : List Mark
  pub addresses : List ℕ

abbrev pub no_watch : List Arrival → Watch
no_watch arrivals = record { arrivals = arrivals; last = None; alarms = replicate alarm_limit 0; marks = []; addresses = [] }

-- one count more
abbrev pub watched : Watch → Sample → (alarms : List ℕ) → (address : ℕ) → Watch
watched watch sample alarms address = record {
  arrivals = watch.arrivals;
  last = if sample.interrupts.masked then watch.last else Some sample;
  alarms = alarms;
  marks = watch.marks ++ marks_at watch.arrivals watch.last sample watch.alarms alarms;
  addresses = watch.addresses ++ address ∷ [];
}

-- so many counts of a run from one on, of which these are the samples from its first count on
unfoldable pub run_watch : Image → List Arrival → List Sample → (from : ℕ) → ℕ → Watch
run_watch image arrivals samples from zero = no_watch arrivals
run_watch image arrivals samples from (suc k) =
    watched (run_watch image arrivals samples from k) (get_or samples (from + k) no_sample) (words_behind image arrivals (from + k)).alarms
    (address_behind image arrivals (from + k))

-- the marks of these counts
abbrev pub run_marks : Image → List Arrival → List Sample → (from : ℕ) → ℕ → List Mark
run_marks image arrivals samples from k = (run_watch image arrivals samples from k).marks

-- and the address of each of them
abbrev pub run_addresses : Image → List Arrival → List Sample → (from : ℕ) → ℕ → List ℕ
run_addresses image arrivals samples from k = (run_watch image arrivals samples from k).addresses
