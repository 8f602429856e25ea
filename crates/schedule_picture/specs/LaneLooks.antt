-- What a lane of a picture shows at a count.
use Rattle.std.specs.Prelude.{ℕ, ◌+◌, ◌-◌, ◌==◌, ◌||◌, nat_lt, is_some, Bool, cond, if◌then◌else◌, List, length, get_or, Option, Some, None}
use Rattle.sloth_base.specs.declared.image.Image.{Image}
use Rattle.sloth_base.specs.Options.{is_number}
use Rattle.sloth_base.specs.Owners.{counter_line}
use Rattle.osek_scheduler.specs.declared.state.TaskState.TheVariants as mode
use Rattle.sloth_runner.specs.declared.task_states.Seen.{Seen}
use Rattle.run_samples.specs.declared.samples.Sample.{Sample}
use Rattle.run_samples.specs.Samples.{no_sample}
use Rattle.lane_drawing.specs.declared.drawing.Look.{Look}
use Rattle.lane_drawing.specs.declared.drawing.Look.TheVariants as look
use Rattle.lane_drawing.specs.TaskLooks.{task_look}

-- generated kernel code is executed: interrupts are masked before the count's instruction, or a line is taken before it
abbrev pub is_kernel : Sample → Bool
is_kernel sample = sample.interrupts.masked || is_some sample.taken

-- a task as it was seen; the running task is told by its number and 1 more
abbrev pub state_look : Option Seen → (kernel : Bool) → ℕ → Option Look
state_look None kernel task = None
state_look (Some seen) kernel task = task_look (get_or seen.tasks task mode.Suspended) (seen.running == task + 1) kernel

-- the line of a counter is taken before the count's instruction: the counter ticks
abbrev pub is_tick : Sample → (counter : ℕ) → Bool
is_tick sample counter = is_number (counter_line counter) sample.taken

-- The look of a lane: a task's, behind those of all tasks a counter's, and behind these the lane of kernel code.
abbrev pub lane_look : (tasks counters : ℕ) → Sample → (lane : ℕ) → Option Look
lane_look tasks counters sample lane =
    if nat_lt lane tasks then state_look sample.seen (is_kernel sample) lane
    else if nat_lt lane (tasks + counters) then cond (is_tick sample (lane - tasks)) (Some look.Tick) None
    else cond (is_kernel sample) (Some look.Kernel) None

-- the look of a lane at a count of a run, of which these are the samples from its first count on
abbrev pub look_at : (tasks counters : ℕ) → List Sample → (lane count : ℕ) → Option Look
look_at tasks counters samples lane count = lane_look tasks counters (get_or samples count no_sample) lane

-- how many lanes an image has in front of that of kernel code: one for each task and for each counter
abbrev pub owned_lanes : Image → ℕ
owned_lanes image = length image.tasks + length image.counters

-- the same look of a run of an image
abbrev pub look_of : Image → List Sample → (lane count : ℕ) → Option Look
look_of image samples lane count = look_at (length image.tasks) (length image.counters) samples lane count
