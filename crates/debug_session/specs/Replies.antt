-- The reply to a request, where a session stands behind it.
use Rattle.std.specs.Prelude.{ℕ, zero, suc, ◌+◌, ◌-◌, ◌/◌, ◌%◌, ◌==◌, ◌&&◌, nat_lt, not, List, [], ◌∷◌, ◌++◌, length, get_or, Option, None, Some, Bool, true, false, is_none, if◌then◌else◌, codes, decimal}
use Rattle.osek_scheduler.specs.declared.state.TaskState.{TaskState}
use Rattle.osek_scheduler.specs.declared.state.TaskState.TheVariants as mode
use Rattle.rv32_instr.specs.declared.encoding.Stop.{Stop}
use Rattle.rv32_instr.specs.declared.encoding.Stop.TheVariants as stops
use Rattle.trace_text.specs.StopLine.{stopped_line}
use Rattle.debug_session.specs.Hex.{hex_of}
use Rattle.debug_ways.specs.Around.{events_text}
use Rattle.debug_ways.specs.Shown.{last_seen, count_view, shown_thread, lesser}
use Rattle.debug_ways.specs.Runs.{Run}
use Rattle.debug_ways.specs.Causes.{running_thread}
use Rattle.debug_session.specs.Description.{description}
use Rattle.debug_ways.specs.Points.{is_among}
use Rattle.debug_session.specs.Texts.{up_to, hex_number, register_digits, window_text, state_text}
use Rattle.debug_ways.specs.declared.points.Point.{Point}
use Rattle.debug_session.specs.declared.replies.Request.{Request}
use Rattle.debug_session.specs.declared.replies.Request.TheVariants as asks
use Rattle.debug_session.specs.declared.replies.Window.{Window}
use Rattle.debug_ways.specs.declared.standing.Seen.{Seen}
use Rattle.debug_ways.specs.declared.standing.View.{View}
use Rattle.debug_ways.specs.declared.standing.Standing.{Standing}
use Rattle.debug_ways.specs.declared.standing.Cause.{Cause}
use Rattle.debug_ways.specs.declared.standing.Cause.TheVariants as causes

-- ---- stops

-- the signal of the end of a run
abbrev pub end_signal : Option Stop → List ℕ
end_signal None = codes "05"
end_signal (Some (stops.Illegal word)) = codes "04"
end_signal (Some (stops.Fetch pc)) = codes "0b"
end_signal (Some (stops.Access address)) = codes "0b"
end_signal (Some (stops.Misaligned address)) = codes "0a"
end_signal (Some stops.Environment) = codes "05"

-- the signal of a cause
abbrev pub cause_signal : Option Stop → (other : Bool) → Cause → List ℕ
cause_signal stop other causes.Interrupt = codes "02"
cause_signal stop other causes.Step = if other then codes "00" else codes "05"
cause_signal stop other (causes.Break kind) = codes "05"
cause_signal stop other (causes.Watch kind address) = codes "05"
cause_signal stop other causes.Begin = codes "05"
cause_signal stop other causes.End = end_signal stop

-- the word of a watchpoint's kind
abbrev pub watch_word : ℕ → List ℕ
watch_word kind = if kind == 2 then codes "watch:" else if kind == 3 then codes "rwatch:" else codes "awatch:"

-- the reason of a cause
abbrev pub cause_reason : Option Stop → Cause → List ℕ
cause_reason stop causes.Interrupt = []
cause_reason stop causes.Step = []
cause_reason stop (causes.Break kind) = if kind == 0 then codes "swbreak:;" else codes "hwbreak:;"
cause_reason stop (causes.Watch kind address) = watch_word kind ++ hex_number address ++ codes ";"
cause_reason stop causes.Begin = codes "replaylog:begin;"
cause_reason stop causes.End = if is_none stop then codes "replaylog:end;" else []

-- what is told of a stop, where the run ends so
abbrev pub told_text : Option Stop → Standing → List ℕ
told_text stop standing =
    codes "T" ++ cause_signal stop standing.told.other standing.told.cause ++ codes "thread:" ++ hex_number standing.stopped ++ codes ";"
    ++ cause_reason stop standing.told.cause

-- what is told of the last stop
abbrev pub stop_text : Run → Standing → List ℕ
stop_text run standing = told_text run.stop standing

-- ---- registers and memory

abbrev pub register_text : Run → Standing → ℕ → List ℕ
register_text run standing number = register_digits (run.register standing.count (shown_thread run standing) number)

-- all of them
abbrev pub registers_text : Run → Standing → List ℕ
registers_text run standing = up_to (register_text run standing) 38

-- the byte that is there and the further ones, or none
abbrev pub byte_and : Option ℕ → List ℕ → List ℕ
byte_and None further = []
byte_and (Some byte) further = byte ∷ further

-- the byte at an address; the last one is 4,294,967,295
abbrev pub memory_byte : (ℕ → Option ℕ) → (address : ℕ) → Option ℕ
memory_byte byte address = if nat_lt address 4294967296 then byte address else None

-- the bytes from an address on, so many at most, up to the first one that is not there
abbrev pub bytes_from : (ℕ → Option ℕ) → (n address : ℕ) → List ℕ
bytes_from byte zero address = []
bytes_from byte (suc n) address = byte_and (memory_byte byte address) (bytes_from byte n (address + 1))

-- their digits; it is at fault where bytes are wanted and none is there
abbrev pub digits_or_fault : (wanted : ℕ) → List ℕ → List ℕ
digits_or_fault wanted bytes = if length bytes == 0 && not (wanted == 0) then codes "E03" else hex_of bytes

-- the most bytes that are shown at once
abbrev pub byte_limit : ℕ
byte_limit = 8184

abbrev pub memory_text : Run → Standing → Window → List ℕ
memory_text run standing window =
    digits_or_fault window.length (bytes_from (run.byte standing.count) (lesser byte_limit window.length) window.from)

-- ---- threads

-- what the machine is: its count, its level, and whether interrupts are masked
unfoldable pub machine_text : View → List ℕ
machine_text view =
    codes "count " ++ decimal view.count ++ codes ", level " ++ decimal view.level
    ++ (if view.mstatus / 8 % 2 == 1 then [] else codes ", masked")

-- what a task is
unfoldable pub task_text : Option Seen → ℕ → List ℕ
task_text None task = codes "booting"
task_text (Some seen) task = state_text (if seen.running == task + 1 then codes "running" else codes "preempted") (get_or seen.states task mode.Suspended)

-- what a thread is; its number is at least 1
abbrev pub thread_text : View → ℕ → List ℕ
thread_text view thread = if thread == 1 then machine_text view else task_text view.seen (thread - 2)

-- the name of a thread
abbrev pub thread_name : List (List ℕ) → ℕ → List ℕ
thread_name names thread = if thread == 1 then codes "machine" else get_or names (thread - 2) []

-- a thread's name and what it is
abbrev pub words_text : View → List (List ℕ) → ℕ → List ℕ
words_text view names thread = thread_name names thread ++ codes " " ++ thread_text view thread

-- an element of the list of threads
unfoldable pub thread_element : View → List (List ℕ) → ℕ → List ℕ
thread_element view names thread =
    codes "<thread id=\"" ++ hex_number thread ++ codes "\" name=\"" ++ thread_name names thread ++ codes "\">" ++ thread_text view thread ++ codes "</thread>\n"

-- what stands in front of the list of threads
unfoldable pub threads_head : List ℕ
threads_head = codes "<?xml version=\"1.0\"?>\n<threads>\n"

abbrev pub threads_text : View → List (List ℕ) → List ℕ
threads_text view names =
    threads_head ++ up_to (λ place. thread_element view names (place + 1)) (length names + 1) ++ codes "</threads>\n"

-- the number of a task's thread, with a comma in front
abbrev pub number_text : ℕ → List ℕ
number_text task = codes "," ++ hex_number (task + 2)

abbrev pub thread_list : (tasks : ℕ) → List ℕ
thread_list tasks = codes "m1" ++ up_to number_text tasks

-- ---- monitor

-- where the machine was seen to stop
abbrev pub met_text : (pc : ℕ) → Option Stop → List ℕ
met_text pc None = codes "\n"
met_text pc (Some stop) = codes ", " ++ stopped_line pc stop

-- where a session stands, where this is the address of its count and the run ends so
abbrev pub place_text : Standing → (pc : ℕ) → Option Stop → List ℕ
place_text standing pc stop = codes "count " ++ decimal standing.count ++ (if standing.met then met_text pc stop else codes "\n")

abbrev pub count_text : Run → Standing → List ℕ
count_text run standing = place_text standing (run.look standing.count).pc run.stop

-- the line of a task's state
unfoldable pub task_line : List (List ℕ) → List TaskState → ℕ → List ℕ
task_line names states task = get_or names task [] ++ codes " " ++ state_text (codes "active") (get_or states task mode.Suspended) ++ codes "\n"

-- the states of all tasks
abbrev pub states_text : List (List ℕ) → Option Seen → List ℕ
states_text names None = codes "booting\n"
states_text names (Some seen) = codes "count " ++ decimal seen.count ++ codes "\n" ++ up_to (task_line names seen.states) (length names)

unfoldable pub help_text : List ℕ
help_text = codes "count      the number of instructions executed\ngoto K     to count K, from 0 to 1000000; then: maintenance flush register-cache\nstates     what each task is, as `at` prints it\nevents     the events around, as `run` prints them\n"

unfoldable pub no_goto_text : List ℕ
no_goto_text = codes "goto K: K is a count from 0 to 1000000\n"

-- ---- all of it

unfoldable pub features_text : List ℕ
features_text = codes "PacketSize=4000;QStartNoAckMode+;swbreak+;hwbreak+;vContSupported+;ReverseStep+;ReverseContinue+;qXfer:features:read+;qXfer:threads:read+"

-- the text of a reply in which the run has no part
abbrev pub fixed_text : List Point → Request → List ℕ
fixed_text points (asks.Fault fault) = if fault == 1 then codes "E01" else if fault == 2 then codes "E02" else codes "E04"
fixed_text points asks.Supported = features_text
fixed_text points asks.NoAnnex = codes "E00"
fixed_text points asks.ThreadListEnd = codes "l"
fixed_text points asks.Attached = codes "1"
fixed_text points (asks.SetPoint point) = if is_among point points then codes "OK" else codes "E05"
fixed_text points asks.Actions = codes "vCont;c;C;s;S;r"
fixed_text points asks.Confirmed = codes "OK"
fixed_text points asks.NoAcks = codes "OK"
fixed_text points (asks.SelectShown thread) = codes "OK"
fixed_text points (asks.SelectStepped thread) = codes "OK"
fixed_text points (asks.TakePoint point) = codes "OK"
fixed_text points asks.Detach = codes "OK"
fixed_text points _ = []

-- the text that a reply tells in digits
abbrev pub plain_text : Run → List (List ℕ) → Standing → Request → List ℕ
plain_text run names standing (asks.ThreadInfo thread) = words_text (count_view run standing.count) names thread
plain_text run names standing asks.Count = count_text run standing
plain_text run names standing (asks.Goto count) = count_text run standing
plain_text run names standing asks.NoGoto = no_goto_text
plain_text run names standing asks.States = states_text names (last_seen run standing.count)
plain_text run names standing asks.Events = events_text run standing.count
plain_text run names standing asks.Help = help_text
plain_text run names standing _ = []

-- the text of the reply to a request, where a session stands so behind it with these points
abbrev pub reply_text : Run → List (List ℕ) → List Point → Standing → Request → List ℕ
reply_text run names points standing asks.LastStop = stop_text run standing
reply_text run names points standing (asks.Continue backwards) = stop_text run standing
reply_text run names points standing (asks.Step step) = stop_text run standing
reply_text run names points standing (asks.PlainStep backwards) = stop_text run standing
reply_text run names points standing (asks.Description window) = window_text description window
reply_text run names points standing (asks.Threads window) = window_text (threads_text (count_view run standing.count) names) window
reply_text run names points standing asks.ThreadList = thread_list (length names)
reply_text run names points standing asks.CurrentThread = codes "QC" ++ hex_number (running_thread (run.look standing.count))
reply_text run names points standing asks.Registers = registers_text run standing
reply_text run names points standing (asks.Register number) = register_text run standing number
reply_text run names points standing (asks.Memory window) = memory_text run standing window
reply_text run names points standing (asks.ThreadInfo thread) = hex_of (plain_text run names standing (asks.ThreadInfo thread))
reply_text run names points standing asks.Count = hex_of (plain_text run names standing asks.Count)
reply_text run names points standing (asks.Goto count) = hex_of (plain_text run names standing (asks.Goto count))
reply_text run names points standing asks.NoGoto = hex_of (plain_text run names standing asks.NoGoto)
reply_text run names points standing asks.States = hex_of (plain_text run names standing asks.States)
reply_text run names points standing asks.Events = hex_of (plain_text run names standing asks.Events)
reply_text run names points standing asks.Help = hex_of (plain_text run names standing asks.Help)
reply_text run names points standing request = fixed_text points request

-- `k` has no reply
abbrev pub has_reply : Request → Bool
has_reply asks.Kill = false
has_reply _ = true

-- the reply, if there is one
abbrev pub reply : Run → List (List ℕ) → List Point → Standing → Request → Option (List ℕ)
reply run names points standing request = if has_reply request then Some (reply_text run names points standing request) else None
