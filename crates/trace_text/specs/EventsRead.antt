-- How the one event is found that a counted line may show: word after word, read loosely. The line of that event is compared with the text.
use Rattle.std.specs.Prelude.{ℕ, nat_lt, Bool, ◌||◌, if◌then◌else◌, List}
use Rattle.std.specs.Prelude.{codes, bytes_eq, position, Option, Some, None, option_and_then}
use Rattle.sloth_base.specs.ServiceCodes.{service_named}
use Rattle.sloth_base.specs.declared.service.Event.{Event}
use Rattle.sloth_base.specs.declared.service.Event.TheVariants as event
use Rattle.sloth_base.specs.declared.service.Stamped.{Stamped}
use Rattle.text_pieces.specs.Digits.{value_from, capped_value}
use Rattle.text_pieces.specs.Bytes.{before, behind}
use Rattle.trace_text.specs.EventWords.{bare_in, single_in}

infixl 10 ◌>>=◌
-- goes on with what there is
abbrev pub ◌>>=◌ : {A B : Type 0} → Option A → (A → Option B) → Option B
o >>= go = option_and_then go o

-- a number, where it has 32 bits
abbrev pub word_of : ℕ → Option ℕ
word_of n = if nat_lt 4294967295 n then None else Some n

-- what stands before the first space (32)
abbrev pub first_word : List ℕ → List ℕ
first_word text = before 32 text

-- what stands behind the first space
abbrev pub other_words : List ℕ → List ℕ
other_words text = behind 32 text

-- the number that decimal digits write
unfoldable pub number : List ℕ → Option ℕ
number word = word_of (capped_value (value_from 10 0 word))

-- the number of a name
unfoldable pub place : List (List ℕ) → List ℕ → Option ℕ
place names word = do
  n ← position (bytes_eq word) names
  word_of n

-- the number of a task or a counter; that of none for `-`
unfoldable pub place_or_none : List (List ℕ) → List ℕ → Option ℕ
place_or_none names word = if bytes_eq word (codes "-") then Some 4294967295 else place names word

-- a run of an item by a task, of which these words tell
unfoldable pub run_in : ℕ → List (List ℕ) → List ℕ → Option Event
run_in task functions text = do
  function ← place functions (first_word text)
  item ← number (first_word (other_words text))
  result ← number (other_words (other_words text))
  Some (event.Run task function item result)

-- a call by a task
unfoldable pub call_in : ℕ → List ℕ → Option Event
call_in task text = do
  called ← service_named (first_word text)
  status ← number (other_words text)
  Some (event.Call task called status)

-- a leave of a task
unfoldable pub left_in : ℕ → List ℕ → Option Event
left_in task text = do
  called ← service_named text
  Some (event.Left task called)

-- an event of a task and of more, by its first word
unfoldable pub more_in : List ℕ → ℕ → List (List ℕ) → List ℕ → Option Event
more_in kind task functions text =
    if bytes_eq kind (codes "run") then run_in task functions text
    else if bytes_eq kind (codes "call") then call_in task text
    else if bytes_eq kind (codes "left") then left_in task text
    else None

-- the words tell of no more than a task
abbrev pub is_single : List ℕ → Bool
is_single kind = bytes_eq kind (codes "enter") || bytes_eq kind (codes "back")

-- an event of a task, by its first word and the others
unfoldable pub of_task : (tasks functions : List (List ℕ)) → List ℕ → List ℕ → Option Event
of_task tasks functions kind text =
    if is_single kind then place_or_none tasks text >>= (λ task. single_in kind task)
    else place_or_none tasks (first_word text) >>= (λ task. more_in kind task functions (other_words text))

-- the admission of a task, if there is one, or else of a counter
abbrev pub admission_of : Option ℕ → Option ℕ → Option Event
admission_of (Some task) counter = Some (event.Admit task)
admission_of None counter = counter >>= (λ c. Some (event.Due c))

-- the admission of the task or counter of a name
unfoldable pub admit_in : (tasks counters : List (List ℕ)) → List ℕ → Option Event
admit_in tasks counters text = admission_of (place_or_none tasks text) (place counters text)

-- a tick of a counter
unfoldable pub tick_in : List (List ℕ) → List ℕ → Option Event
tick_in counters text = place_or_none counters text >>= (λ c. Some (event.Tick c))

-- an event of a task or a counter, by its first word and the others
unfoldable pub named_in : (tasks functions counters : List (List ℕ)) → List ℕ → List ℕ → Option Event
named_in tasks functions counters kind text =
    if bytes_eq kind (codes "admit") then admit_in tasks counters text
    else if bytes_eq kind (codes "tick") then tick_in counters text
    else of_task tasks functions kind text

-- the event that one word shows, if it does, or else another
abbrev pub bare_or : Option Event → Option Event → Option Event
bare_or (Some e) other = Some e
bare_or None other = other

-- an event
unfoldable pub event_in : (tasks functions counters : List (List ℕ)) → List ℕ → Option Event
event_in tasks functions counters text = bare_or (bare_in text) (named_in tasks functions counters (first_word text) (other_words text))

-- an event behind its counts
unfoldable pub stamped_in : (tasks functions counters : List (List ℕ)) → List ℕ → Option Stamped
stamped_in tasks functions counters text = do
  from ← number (first_word text)
  at ← number (first_word (other_words text))
  event ← event_in tasks functions counters (other_words (other_words text))
  Some (record { stamp = record { from = from; at = at }; event = event })
