-- What the data of a packet asks.
use Rattle.std.specs.Prelude.{ℕ, ◌-◌, ◌==◌, ◌&&◌, ◌||◌, nat_le, nat_lt, not, List, [], ◌∷◌, length, take, drop, Option, None, Some, Result, Ok, Err, Bool, true, false, is_none, if◌then◌else◌, codes}
use Rattle.std.specs.Str.{bytes_eq, is_utf8}
use Rattle.debug_session.specs.Hex.{number_of, bytes_of_hex}
use Rattle.debug_ways.specs.declared.points.Point.{Point}
use Rattle.debug_session.specs.declared.replies.Request.{Request}
use Rattle.debug_session.specs.declared.replies.Request.TheVariants as asks
use Rattle.debug_session.specs.declared.replies.Window.{Window}
use Rattle.debug_session.specs.declared.commands.Form.{Form}
use Rattle.debug_session.specs.declared.commands.Form.TheVariants as forms
use Rattle.debug_session.specs.declared.commands.Row.{Row}
use Rattle.debug_session.specs.Actions.{is_signal, actions_request}
use Rattle.debug_session.specs.Words.{front, behind, told_window, thread_number, first_word, further_words, told_count}

-- ---- threads, registers, memory

-- what is asked of a thread, or the fault of the text that tells it
abbrev pub thread_request : Form → Result ℕ ℕ → Request
thread_request form (Err fault) = asks.Fault fault
thread_request forms.Shown (Ok thread) = asks.SelectShown thread
thread_request forms.Stepped (Ok thread) = asks.SelectStepped thread
thread_request forms.Alive (Ok thread) = if thread == 0 then asks.Fault 1 else asks.Confirmed
thread_request forms.Info (Ok thread) = if thread == 0 then asks.Fault 1 else asks.ThreadInfo thread
thread_request _ (Ok thread) = asks.Fault 1

-- what is asked of a part of a text or of memory
abbrev pub window_request : Form → Option Window → Request
window_request form None = asks.Fault 1
window_request forms.Memory (Some window) = asks.Memory window
window_request forms.Description (Some window) = asks.Description window
window_request forms.Threads (Some window) = asks.Threads window
window_request _ (Some window) = asks.Fault 1

-- what is asked of a register
abbrev pub register_request : Option ℕ → Request
register_request None = asks.Fault 1
register_request (Some number) = if nat_lt number 38 then asks.Register number else asks.Fault 1

-- ---- points

-- a breakpoint is at four bytes, whatever it says
abbrev pub point_of : (kind : ℕ) → Window → Point
point_of kind window = record { kind = kind; address = window.from; length = if nat_lt kind 2 then 4 else window.length }

abbrev pub point_by : (sets : Bool) → (kind : ℕ) → Option Window → Request
point_by sets kind None = asks.Fault 1
point_by sets kind (Some window) = if sets then asks.SetPoint (point_of kind window) else asks.TakePoint (point_of kind window)

-- the kind that a text is, which is one digit of 0 to 4, or else 5
abbrev pub point_kind : List ℕ → ℕ
point_kind [] = 5
point_kind (digit ∷ []) = if nat_le 48 digit && nat_le digit 52 then digit - 48 else 5
point_kind (digit ∷ more ∷ rest) = 5

-- a text stands behind a comma, and there is no other comma in it
abbrev pub has_one : Option (List ℕ) → Bool
has_one None = false
has_one (Some rest) = is_none (behind 44 rest)

-- a point, of the kind in front of the first comma and the two parts behind it; what is of no known kind asks nothing
abbrev pub point_behind : (sets : Bool) → (kind : ℕ) → Option (List ℕ) → Request
point_behind sets kind None = asks.Fault 1
point_behind sets kind (Some rest) =
    if not (has_one (behind 44 rest)) then asks.Fault 1
    else if kind == 5 then asks.Nothing
    else point_by sets kind (told_window rest)

abbrev pub point_in : (sets : Bool) → List ℕ → Request
point_in sets text = point_behind sets (point_kind (front 44 text)) (behind 44 text)

-- `Z` and `z`: a kind, an address and a length, with commas between; what follows a `;` is ignored
abbrev pub points_request : (sets : Bool) → List ℕ → Request
points_request sets text = point_in sets (front 59 text)

-- ---- monitor

-- `goto`
abbrev pub goto_by : Option ℕ → Request
goto_by None = asks.NoGoto
goto_by (Some count) = asks.Goto count

-- a command of one word
unfoldable pub single_command : List ℕ → Request
single_command word =
    if bytes_eq word (codes "count") then asks.Count
    else if bytes_eq word (codes "states") then asks.States
    else if bytes_eq word (codes "events") then asks.Events
    else asks.Help

-- a command of two words
abbrev pub double_command : (word argument further : List ℕ) → Request
double_command word argument further =
    if bytes_eq word (codes "goto") && length further == 0 then goto_by (told_count argument) else asks.Help

-- what the text of `monitor` asks, by its words
unfoldable pub command_request : List ℕ → Request
command_request text =
    if length (further_words text) == 0 then single_command (first_word text)
    else double_command (first_word text) (first_word (further_words text)) (further_words (further_words text))

-- `qRcmd`
abbrev pub command_of : List ℕ → Request
command_of text = if is_utf8 text then command_request text else asks.Fault 1

abbrev pub monitor_request : Option (List ℕ) → Request
monitor_request None = asks.Fault 1
monitor_request (Some text) = command_of text

-- ---- by a word in front

-- what is asked where this stands behind a word
unfoldable pub followed : (tasks : ℕ) → Form → (rest : List ℕ) → Request
followed tasks (forms.Bare request) rest = if length rest == 0 then request else asks.Nothing
followed tasks (forms.Alone request) rest = if length rest == 0 then request else asks.Fault 1
followed tasks (forms.Any request) rest = request
followed tasks (forms.Signal request) rest = if is_signal rest then request else asks.Fault 1
followed tasks forms.Shown rest = thread_request forms.Shown (thread_number tasks rest)
followed tasks forms.Stepped rest = thread_request forms.Stepped (thread_number tasks rest)
followed tasks forms.Alive rest = thread_request forms.Alive (thread_number tasks rest)
followed tasks forms.Info rest = thread_request forms.Info (thread_number tasks rest)
followed tasks forms.Register rest = register_request (number_of rest)
followed tasks forms.Memory rest = window_request forms.Memory (told_window rest)
followed tasks forms.Description rest = window_request forms.Description (told_window rest)
followed tasks forms.Threads rest = window_request forms.Threads (told_window rest)
followed tasks (forms.Points sets) rest = points_request sets rest
followed tasks forms.Actions rest = actions_request tasks rest
followed tasks forms.Command rest = monitor_request (bytes_of_hex rest)

-- a text begins the content
abbrev pub begins : (text content : List ℕ) → Bool
begins text content = bytes_eq text (take (length text) content)

-- what the first word asks that begins the content
abbrev pub word_request : (tasks : ℕ) → List (List ℕ × Form) → List ℕ → Request
word_request tasks [] content = asks.Nothing
word_request tasks (row ∷ rows) content =
    if begins row.0 content then followed tasks row.1 (drop (length row.0) content) else word_request tasks rows content

abbrev pub row_of : Row → List ℕ × Form
row_of row = (row.0.now, row.1)

-- The words, and what may follow each. What steps and continues; what shows; what writes, which is refused; points, and ends; the others.
unfoldable pub words : List (List ℕ × Form)
words =
    (codes "c", forms.Alone (asks.Continue false))
    ∷ (codes "s", forms.Alone (asks.PlainStep false))
    ∷ (codes "C", forms.Signal (asks.Continue false))
    ∷ (codes "S", forms.Signal (asks.PlainStep false))
    ∷ (codes "bc", forms.Bare (asks.Continue true))
    ∷ (codes "bs", forms.Bare (asks.PlainStep true))
    ∷ (codes "?", forms.Bare asks.LastStop)
    ∷ (codes "g", forms.Bare asks.Registers)
    ∷ (codes "p", forms.Register)
    ∷ (codes "m", forms.Memory)
    ∷ (codes "Hg", forms.Shown)
    ∷ (codes "Hc", forms.Stepped)
    ∷ (codes "H", forms.Any (asks.Fault 1))
    ∷ (codes "T", forms.Alive)
    ∷ (codes "G", forms.Any (asks.Fault 4))
    ∷ (codes "P", forms.Any (asks.Fault 4))
    ∷ (codes "M", forms.Any (asks.Fault 4))
    ∷ (codes "X", forms.Any (asks.Fault 4))
    ∷ (codes "Z", forms.Points true)
    ∷ (codes "z", forms.Points false)
    ∷ (codes "D", forms.Bare asks.Detach)
    ∷ (codes "k", forms.Bare asks.Kill)
    ∷ (codes "vCont?", forms.Bare asks.Actions)
    ∷ (codes "vCont;", forms.Actions)
    ∷ (codes "qSupported:", forms.Any asks.Supported)
    ∷ (codes "qSupported", forms.Bare asks.Supported)
    ∷ (codes "qXfer:features:read:target.xml:", forms.Description)
    ∷ (codes "qXfer:features:read:", forms.Any asks.NoAnnex)
    ∷ (codes "qXfer:threads:read::", forms.Threads)
    ∷ (codes "qC", forms.Bare asks.CurrentThread)
    ∷ (codes "qAttached", forms.Bare asks.Attached)
    ∷ (codes "qfThreadInfo", forms.Bare asks.ThreadList)
    ∷ (codes "qsThreadInfo", forms.Bare asks.ThreadListEnd)
    ∷ (codes "qThreadExtraInfo,", forms.Info)
    ∷ (codes "qRcmd,", forms.Command)
    ∷ (codes "QStartNoAckMode", forms.Bare asks.NoAcks)
    ∷ []

-- what the data of a packet asks; beyond 16,384 bytes, and where it is no text, it is at fault
abbrev pub packet_request : (tasks : ℕ) → List ℕ → Request
packet_request tasks content =
    if nat_lt 16384 (length content) then asks.Fault 1
    else if is_utf8 content then word_request tasks words content
    else if begins (codes "X") content then asks.Fault 4
    else asks.Fault 1
