-- The text of an arrivals file: what it means, and its faults.
use Rattle.std.specs.Prelude.{ℕ, ◌+◌, ◌==◌, ◌&&◌, ◌||◌, ◌⊎◌, not, nat_le, nat_lt, Bool, true, List, [], ◌∷◌, length, map, filter, take}
use Rattle.std.specs.Prelude.{Option, Some, None, position, is_some, unwrap_or, bytes_eq}
use Rattle.std.specs.List.{list_all, before_first, after_first}
use Rattle.std.specs.Char.{is_ascii_digit}
use Rattle.sloth_base.specs.declared.service.Arrival.{Arrival}
use Rattle.sloth_base.specs.declared.refusal.Part.TheVariants.{Arr}
use Rattle.sloth_base.specs.declared.refusal.Code.TheVariants as code
use Rattle.sloth_base.specs.declared.refusal.Refusal.{Refusal}
use Rattle.sloth_base.specs.declared.numbers.Owners.{Owners}
use Rattle.sloth_base.specs.Owners.{counter_line}
use Rattle.sloth_base.specs.Limits.{count_limit, arrival_limit}
use Rattle.sloth_base.specs.Search.{Somewhere}
use Rattle.sloth_base.specs.Cases.{CaseOf}
use Rattle.text_pieces.specs.Bytes.{is_name}
use Rattle.text_pieces.specs.Digits.{value_from}
use Rattle.text_pieces.specs.Lines.{lines}

-- ---- a line

-- what stands before the first space (32)
abbrev pub moment_text : List ℕ → List ℕ
moment_text line = before_first (λ b. b == 32) line

-- what stands behind the first space
abbrev pub name_text : List ℕ → List ℕ
name_text line = after_first (λ b. b == 32) line

-- a line that is empty, or begins with `#` (35)
abbrev pub is_comment : List ℕ → Bool
is_comment [] = true
is_comment (b ∷ rest) = b == 35

-- at least one decimal digit, and no other byte
abbrev pub are_digits : List ℕ → Bool
are_digits t = not (length t == 0) && list_all is_ascii_digit t

-- a line of decimal digits, one space and a word
unfoldable pub is_arrival : List ℕ → Bool
is_arrival line = are_digits (moment_text line) && is_name (name_text line)

-- the moment of an arrival: the number of its digits
abbrev pub moment_of : List ℕ → ℕ
moment_of line = value_from 10 0 (moment_text line)

-- the place of a name among the first of these names
abbrev pub named_among : ℕ → List (List ℕ) → List ℕ → Option ℕ
named_among most names word = position (bytes_eq word) (take most names)

-- the line of a task, if there is one, or else of a counter
abbrev pub line_of_either : Option ℕ → Option ℕ → Option ℕ
line_of_either (Some task) counter = Some task
line_of_either None (Some counter) = Some (counter_line counter)
line_of_either None None = None

-- The line of the task or the counter of a name. A controller's line has a byte as its number, so there is none behind the first 256
-- tasks, nor behind the first 226 counters.
abbrev pub owner_line : List (List ℕ) → List (List ℕ) → List ℕ → Option ℕ
owner_line tasks counters word = line_of_either (named_among 256 tasks word) (named_among 226 counters word)

-- that of the arrival's name
abbrev pub named_line : List (List ℕ) → List (List ℕ) → List ℕ → Option ℕ
named_line tasks counters line = owner_line tasks counters (name_text line)

-- ---- the arrivals

-- the arrival of a line, with the names of the tasks and of the counters
abbrev pub arrival_of : List (List ℕ) → List (List ℕ) → List ℕ → Arrival
arrival_of tasks counters line = record { at = moment_of line; line = unwrap_or (named_line tasks counters line) 0 }

-- the arrivals of these lines, in their order
abbrev pub arrivals_of : (tasks counters : List (List ℕ)) → List (List ℕ) → List Arrival
arrivals_of tasks counters ls = map (arrival_of tasks counters) (filter is_arrival ls)

-- the arrivals of a text
abbrev pub arrivals_in : (tasks counters : List (List ℕ)) → List ℕ → List Arrival
arrivals_in tasks counters text = arrivals_of tasks counters (lines text)

-- ---- the faults

-- the moment of the last of these arrivals; where there is none, this one
abbrev pub last_moment : ℕ → List Arrival → ℕ
last_moment none [] = none
last_moment none (a ∷ rest) = last_moment a.at rest

-- T1: a line of another shape
abbrev pub is_t1 : List ℕ → Bool
is_t1 line = not (is_comment line) && not (is_arrival line)

-- T2: a name that is no task's and no counter's
abbrev pub is_t2 : (tasks counters : List (List ℕ)) → List ℕ → Bool
is_t2 tasks counters line = is_arrival line && not (is_some (named_line tasks counters line))

-- T3: a moment less than that of the arrival before
abbrev pub is_t3 : List Arrival → List ℕ → Bool
is_t3 before line = is_arrival line && nat_lt (moment_of line) (last_moment 0 before)

-- a moment outside 1 to `count_limit`
abbrev pub is_outside : List ℕ → Bool
is_outside line = nat_lt (moment_of line) 1 || nat_lt count_limit (moment_of line)

-- T4: one arrival too many, or a moment out of range
abbrev pub is_t4 : List Arrival → List ℕ → Bool
is_t4 before line = is_arrival line && (nat_le arrival_limit (length before) || is_outside line)

-- r is a fault of a line of this number, which these arrivals stand before
abbrev pub ArrivalLineFault : (tasks counters : List (List ℕ)) → List Arrival → ℕ → List ℕ → Refusal → Type 0
ArrivalLineFault tasks counters before number line r =
    CaseOf Arr (is_t1 line) number code.T1 r ⊎ (CaseOf Arr (is_t2 tasks counters line) number code.T2 r
    ⊎ (CaseOf Arr (is_t3 before line) number code.T3 r ⊎ CaseOf Arr (is_t4 before line) number code.T4 r))

-- r is a fault of a line, which these lines stand before
abbrev pub ArrivalFaultAt : (tasks counters : List (List ℕ)) → List (List ℕ) → List ℕ → Refusal → Type 0
ArrivalFaultAt tasks counters front line r = ArrivalLineFault tasks counters (arrivals_of tasks counters front) (length front + 1) line r

-- r is a fault of some of these lines
abbrev pub LinesFault : (tasks counters : List (List ℕ)) → List (List ℕ) → Refusal → Type 0
LinesFault tasks counters ls r = Somewhere (ArrivalFaultAt tasks counters) ls r

-- r is a fault of an arrivals text, with the names of the tasks and of the counters
abbrev pub ArrivalsFault : (tasks counters : List (List ℕ)) → List ℕ → Refusal → Type 0
ArrivalsFault tasks counters text r = LinesFault tasks counters (lines text) r

-- the owners of lines where these are the names of the tasks and of the counters
abbrev pub owners_read : (tasks counters : List (List ℕ)) → Owners
owners_read tasks counters = record { tasks = length tasks; counters = length counters }
