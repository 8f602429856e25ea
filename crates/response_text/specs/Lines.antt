-- The lines of responses.
use Rattle.std.specs.Prelude.{ℕ, zero, suc, ◌*◌, ◌==◌, ◌&&◌, ◌||◌, not, leb, Bool, false, cond, List, [], ◌++◌, codes, decimal, get_or, position, is_some, Option, Some, None}
use Rattle.sloth_base.specs.declared.config.Config.{Config}
use Rattle.sloth_base.specs.declared.app.App.{App}
use Rattle.sloth_base.specs.declared.config.AlarmDecl.{AlarmDecl}
use Rattle.sloth_base.specs.declared.service.Service.TheVariants as service
use Rattle.sloth_base.specs.Named.{declaration, counter_declaration, alarm_declaration}
use Rattle.sloth_base.specs.Owners.{counter_line}
use Rattle.load_text.specs.declared.load_line.Entry.{Entry}
use Rattle.load_text.specs.Loads.{distance, deadline}
use Rattle.response_laws.specs.Made.{are_called, is_activating, is_made_by_arrivals, is_made_by_one_alarm}
use Rattle.response_text.specs.declared.task_text.Response.{Response}
use Rattle.response_reasons.specs.declared.reasons.Reason.{Reason}
use Rattle.response_reasons.specs.declared.reasons.Reason.TheVariants as reason

-- ---- a response

-- a number, if there is one
abbrev pub number_words : Option ℕ → List ℕ
number_words (Some n) = codes " " ++ decimal n
number_words None = codes " none"

-- nothing does
abbrev pub is_never : Option ℕ → Bool
is_never (Some n) = n == 0
is_never None = false

abbrev pub made_words : Option ℕ → List ℕ
made_words n = cond (is_never n) (codes " never") (number_words n)

-- Of a task that comes, within how many counts it leaves behind what makes it Ready, and where that is behind boot.
abbrev pub response_words : Response → List ℕ
response_words r = cond r.comes (number_words r.anywhere ++ (codes " behind" ++ made_words r.behind)) (codes " never")

-- the number is at most so great
abbrev pub is_within : (number : Option ℕ) → (limit : ℕ) → Bool
is_within (Some n) limit = leb n limit
is_within None limit = false

-- there is a limit, and the number is at most that
abbrev pub is_within_limit : (number limit : Option ℕ) → Bool
is_within_limit n (Some limit) = is_within n limit
is_within_limit n None = false

-- ---- deadlines

-- the task comes, and it is met wherever it is made; or behind boot
abbrev pub is_met : Response → (limit : ℕ) → Bool
is_met r limit = r.comes && is_within r.anywhere limit

abbrev pub is_met_behind : Response → (limit : ℕ) → Bool
is_met_behind r limit = r.comes && is_within r.behind limit

abbrev pub verdict_word : (met behind : Bool) → List ℕ
verdict_word met behind = cond met (codes " met ") (cond behind (codes " boot ") (codes " open "))

-- whether the deadline is met, if there is one
abbrev pub deadline_words : Response → (deadline : Option ℕ) → List ℕ
deadline_words r (Some limit) = verdict_word (is_met r limit) (is_met_behind r limit) ++ decimal limit
deadline_words r None = []

-- there is a deadline, and it is not met
abbrev pub is_open : Response → (deadline : Option ℕ) → Bool
is_open r (Some limit) = not (is_met r limit || is_met_behind r limit)
is_open r None = false

-- ---- activations that are not lost

-- Each arrival finds the task Suspended: nothing else makes it, and it has left before the next one comes.
abbrev pub keeps_arrivals : Config → App → List Entry → (t : ℕ) → (number : Option ℕ) → Bool
keeps_arrivals config app load t n = is_made_by_arrivals config app t && is_within_limit n (distance load t)

-- an alarm with this cycle expires once, or the number is at most that of so many distances
abbrev pub is_within_cycle : (number distance : Option ℕ) → (cycle : ℕ) → Bool
is_within_cycle n (Some d) cycle = (cycle == 0) || is_within n (cycle * d)
is_within_cycle n None cycle = false

-- alarm a starts with the system, no item sets it, and it expires once, or so seldom
abbrev pub is_spaced : App → List Entry → (a : ℕ) → AlarmDecl → (number : Option ℕ) → Bool
is_spaced app load a d n =
    not (d.time == 0) && (not (are_called service.SetRelAlarm service.SetAbsAlarm a app.funcs) && is_within_cycle n (distance load (counter_line d.counter)) d.cycle)

-- there is such an alarm
abbrev pub has_spaced : Config → App → List Entry → (alarm number : Option ℕ) → Bool
has_spaced config app load (Some a) n = is_spaced app load a (alarm_declaration config a) n
has_spaced config app load None n = false

-- Each expiry of the only alarm that makes the task finds it Suspended: it has no arrivals, and it has left before the alarm expires again.
abbrev pub keeps_expiries : Config → App → List Entry → (t : ℕ) → (number : Option ℕ) → Bool
keeps_expiries config app load t n =
    is_made_by_one_alarm config app t && (not (is_some (distance load t)) && has_spaced config app load (position (is_activating t) config.alarms) n)

-- no activation of the task is lost
abbrev pub is_lossless : Config → App → List Entry → (t : ℕ) → (number : Option ℕ) → Bool
is_lossless config app load t n = keeps_arrivals config app load t n || keeps_expiries config app load t n

-- ---- reasons

-- a word, the name of a task, and a source line
abbrev pub loop_words : Config → (word : List ℕ) → (k line : ℕ) → List ℕ
loop_words config word k line = word ++ ((declaration config k).name ++ number_words (Some line))

-- why there is no number
abbrev pub reason_words : Config → Option Reason → List ℕ
reason_words config None = []
reason_words config (Some (reason.Loop k line)) = loop_words config (codes " loop ") k line
reason_words config (Some (reason.Makes k line)) = loop_words config (codes " makes ") k line
reason_words config (Some reason.Load) = codes " load"

-- the reason of a task among those of all
abbrev pub reason_at : List (Option Reason) → (t : ℕ) → Option Reason
reason_at reasons t = get_or reasons t None

-- ---- a line

abbrev pub lossless_words : (kept : Bool) → List ℕ
lossless_words kept = cond kept (codes " lossless") []

-- what stands behind the name of a task: its response, whether that is within its deadline, whether no activation of it is lost, and why there is no number
abbrev pub task_words : Config → App → List Entry → (t : ℕ) → Response → Option Reason → List ℕ
task_words config app load t r why =
    ((response_words r ++ deadline_words r (deadline load t)) ++ lossless_words (is_lossless config app load t r.anywhere)) ++ reason_words config why

-- what stands in the place of a task that is not there
abbrev pub no_response : Response
no_response = record { comes = false; anywhere = None; behind = None }

-- the response of a task among those of all
abbrev pub response_at : List Response → (t : ℕ) → Response
response_at responses t = get_or responses t no_response

-- the line of a task
unfoldable pub response_line : Config → App → List Entry → (t : ℕ) → Response → Option Reason → List ℕ
response_line config app load t r why = ((declaration config t).name ++ task_words config app load t r why) ++ codes "\n"

-- the lines of the first tasks, so many of them
unfoldable pub response_lines : Config → App → List Entry → List Response → List (Option Reason) → (count : ℕ) → List ℕ
response_lines config app load responses reasons zero = []
response_lines config app load responses reasons (suc t) =
    response_lines config app load responses reasons t ++ response_line config app load t (response_at responses t) (reason_at reasons t)

-- a tick has ended so many counts after the arrival of its counter; it never comes where that has no distance
abbrev pub tick_words : (distance number : Option ℕ) → List ℕ
tick_words (Some d) (Some n) = codes " " ++ decimal n
tick_words (Some d) None = codes " none load"
tick_words None n = codes " never"

-- what stands behind the name of a counter; no arrival of it is lost where ticks end before the next one
abbrev pub counter_words : (distance number : Option ℕ) → List ℕ
counter_words d n = tick_words d n ++ lossless_words (is_within_limit n d)

-- the line of a counter
unfoldable pub counter_row : Config → List Entry → (number : Option ℕ) → (c : ℕ) → List ℕ
counter_row config load n c = ((codes "tick " ++ (counter_declaration config c).name) ++ counter_words (distance load (counter_line c)) n) ++ codes "\n"

-- the lines of the first counters, so many of them
unfoldable pub counter_rows : Config → List Entry → (number : Option ℕ) → (count : ℕ) → List ℕ
counter_rows config load n zero = []
counter_rows config load n (suc c) = counter_rows config load n c ++ counter_row config load n c

-- the line of the demand
abbrev pub demand_line : Option ℕ → List ℕ
demand_line demand = (codes "demand" ++ number_words demand) ++ codes "\n"

-- the deadline of one of the first tasks is not met
abbrev pub has_open : List Entry → List Response → (count : ℕ) → Bool
has_open load responses zero = false
has_open load responses (suc t) = has_open load responses t || is_open (response_at responses t) (deadline load t)
