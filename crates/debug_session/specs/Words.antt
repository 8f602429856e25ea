-- Parts of the data of packets.
use Rattle.std.specs.Prelude.{ℕ, ◌+◌, ◌-◌, ◌*◌, ◌==◌, ◌&&◌, nat_le, nat_lt, List, [], ◌∷◌, length, drop, Option, None, Some, Result, Ok, Err, Bool, if◌then◌else◌, codes}
use Rattle.std.specs.List.{take_while, before_first, after_first, position_or_len}
use Rattle.std.specs.Str.{bytes_eq}
use Rattle.debug_session.specs.Hex.{number_of}
use Rattle.debug_session.specs.declared.replies.Window.{Window}

-- what stands in front of the first such byte, or all of it
abbrev pub front : ℕ → List ℕ → List ℕ
front mark text = before_first (λ byte. byte == mark) text

-- such a byte is there
abbrev pub has : ℕ → List ℕ → Bool
has mark text = nat_lt (position_or_len (λ byte. byte == mark) text) (length text)

-- what stands behind the first such byte, if there is one
abbrev pub behind : ℕ → List ℕ → Option (List ℕ)
behind mark text = if has mark text then Some (after_first (λ byte. byte == mark) text) else None

-- both numbers, if both are told
abbrev pub window_by : Option ℕ → Option ℕ → Option Window
window_by (Some from) (Some size) = Some (record { from = from; length = size })
window_by _ _ = None

abbrev pub window_behind : Option ℕ → Option (List ℕ) → Option Window
window_behind from None = None
window_behind from (Some rest) = window_by from (number_of rest)

-- two numbers with a comma between
abbrev pub told_window : List ℕ → Option Window
told_window text = window_behind (number_of (front 44 text)) (behind 44 text)

-- a thread of so many tasks: 1 is the machine, the tasks follow; fault 1 is that of no number, and 2 that of no thread
abbrev pub thread_by : (tasks : ℕ) → Option ℕ → Result ℕ ℕ
thread_by tasks None = Err 1
thread_by tasks (Some number) = if nat_le number (tasks + 1) then Ok number else Err 2

-- the thread that a text tells; 0 and -1 are any
abbrev pub thread_number : (tasks : ℕ) → List ℕ → Result ℕ ℕ
thread_number tasks text = if bytes_eq text (codes "-1") then Ok 0 else thread_by tasks (number_of text)

-- the bytes without the spaces in front
abbrev pub trimmed : List ℕ → List ℕ
trimmed text = drop (length (take_while (λ byte. byte == 32) text)) text

-- the first word, and what stands behind it
abbrev pub first_word : List ℕ → List ℕ
first_word text = front 32 (trimmed text)

abbrev pub further_words : List ℕ → List ℕ
further_words text = trimmed (after_first (λ byte. byte == 32) (trimmed text))

-- a number with a decimal digit behind it; beyond 1,000,000 it stays
abbrev pub counted : (value byte : ℕ) → ℕ
counted value byte = if nat_lt 1000000 value then value else value * 10 + (byte - 48)

-- the number that goes on with these decimal digits
abbrev pub count_from : ℕ → List ℕ → Option ℕ
count_from value [] = Some value
count_from value (byte ∷ text) =
    if nat_le 48 byte && nat_le byte 57
    then count_from (counted value byte) text
    else None

-- the count that a word tells, if it is one up to 1,000,000
abbrev pub count_up_to : Option ℕ → Option ℕ
count_up_to None = None
count_up_to (Some count) = if nat_le count 1000000 then Some count else None

abbrev pub told_count : List ℕ → Option ℕ
told_count text = if nat_lt 0 (length text) then count_up_to (count_from 0 text) else None
