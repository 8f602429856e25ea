-- Changes of a task, one by one.
use Rattle.std.specs.Prelude.{ℕ, ◌-◌, ◌==◌, List, [], ◌∷◌, ◌++◌, true, false, cond, replicate, set, bit_and, bit_or}
use Rattle.sloth_base.specs.Status.{E_OK}
use Rattle.code_rules.specs.Code.{without_last}
use Rattle.osek_scheduler.specs.declared.change.TaskChange.{TaskChange}
use Rattle.osek_scheduler.specs.declared.change.TaskChange.TheVariants as change
use Rattle.osek_scheduler.specs.declared.state.TaskState.{TaskState}
use Rattle.osek_scheduler.specs.declared.state.TaskState.TheVariants as mode
use Rattle.osek_scheduler.specs.State.{Frame, Task, System, task, with_task, zero_registers}
use Rattle.osek_scheduler.specs.Meaning.{with_register}
use Rattle.osek_scheduler.specs.Services.{moved_frames, answered_task, answered_task_with, waiting_task}

-- ---- functions in progress, the innermost first

-- the innermost function goes to an item
abbrev pub frames_at_item : ℕ → List Frame → List Frame
frames_at_item item [] = []
frames_at_item item (frame ∷ outer) = record frame { item = item } ∷ outer

-- a word of the innermost frame is changed
abbrev pub with_word : ℕ → ℕ → List Frame → List Frame
with_word word value [] = []
with_word word value (frame ∷ outer) = record frame { words = set frame.words word value } ∷ outer

-- the innermost function is left
abbrev pub outer_frames : List Frame → List Frame
outer_frames [] = []
outer_frames (frame ∷ outer) = outer

-- a function that is entered, with so many words
abbrev pub entry : (func words : ℕ) → Frame
entry func words = record { func = func; item = 0; words = replicate words 0 }

-- ---- changes

-- the state of a task when it has these events
abbrev pub woken_task_state : TaskState → ℕ → TaskState
woken_task_state mode.Suspended events = mode.Suspended
woken_task_state mode.Ready events = mode.Ready
woken_task_state mode.Active events = mode.Active
woken_task_state (mode.Waiting mask) events = cond (bit_and events mask == 0) (mode.Waiting mask) mode.Ready

-- the task after a change
abbrev pub changed_task : TaskChange → Task → Task
changed_task change.Activate k = record k { state = mode.Ready }
changed_task (change.AddEvents mask) k = record k { events = bit_or k.events mask; state = woken_task_state k.state (bit_or k.events mask) }
changed_task (change.Answer status) k = answered_task status k
changed_task (change.AnswerWith value) k = answered_task_with value k
changed_task change.End k = record k { state = mode.Suspended; registers = zero_registers; frames = []; events = 0; raised = false }
changed_task (change.Wait mask) k = waiting_task mask k
changed_task change.Pause k = record (answered_task E_OK k) { raised = false; owed = true }
changed_task (change.Take resource) k = record (answered_task E_OK k) { held = k.held ++ resource ∷ [] }
changed_task change.Release k = record (answered_task E_OK k) { held = without_last k.held }
changed_task (change.ClearEvents mask) k = record (answered_task E_OK k) { events = bit_and k.events (4294967295 - mask) }
changed_task (change.Start func words non) k =
    record k { registers = zero_registers; frames = entry func words ∷ []; state = mode.Active; raised = non }
changed_task (change.Resume non) k = record k { registers = set k.registers 5 E_OK; state = mode.Active; raised = non }
changed_task (change.ComeBack non) k = record k { owed = false; raised = non }
changed_task (change.Write rd value) k = record k { registers = with_register k.registers rd value; frames = moved_frames k.frames }
changed_task (change.GoTo item) k = record k { frames = frames_at_item item k.frames }
changed_task change.MoveOn k = record k { frames = moved_frames k.frames }
changed_task (change.StoreWord word value) k = record k { frames = moved_frames (with_word word value k.frames) }
changed_task (change.Invoke func words) k = record k { frames = entry func words ∷ k.frames }
changed_task change.Return k = record k { frames = moved_frames (outer_frames k.frames) }

-- the system after a change of one task
abbrev pub with_change : ℕ → TaskChange → System → System
with_change t c s = with_task s t (changed_task c (task s t))
