-- Parts of replies.
use Rattle.std.specs.Prelude.{ℕ, zero, suc, ◌+◌, ◌/◌, ◌%◌, ◌==◌, ◌||◌, nat_le, nat_lt, List, [], ◌∷◌, ◌++◌, length, take, drop, Option, None, Some, Bool, if◌then◌else◌, codes, decimal}
use Rattle.osek_scheduler.specs.declared.state.TaskState.{TaskState}
use Rattle.osek_scheduler.specs.declared.state.TaskState.TheVariants as mode
use Rattle.debug_ways.specs.Shown.{lesser}
use Rattle.debug_session.specs.Hex.{hex_digit, hex_of}
use Rattle.debug_session.specs.declared.replies.Window.{Window}

-- the texts of the numbers below one, in their order
abbrev pub up_to : (ℕ → List ℕ) → ℕ → List ℕ
up_to text zero = []
up_to text (suc n) = up_to text n ++ text n

-- ---- numbers

-- the digit of a number at a place, unless it is a zero in front
abbrev pub digit_at : (place number : ℕ) → List ℕ
digit_at place number = if nat_le place number || place == 1 then hex_digit (number / place % 16) ∷ [] else []

-- a number in hexadecimal digits, with no zero in front
unfoldable pub hex_number : ℕ → List ℕ
hex_number number =
    digit_at 268435456 number ++ digit_at 16777216 number ++ digit_at 1048576 number ++ digit_at 65536 number
    ++ digit_at 4096 number ++ digit_at 256 number ++ digit_at 16 number ++ digit_at 1 number

-- a word in eight digits, low byte first
unfoldable pub word_digits : ℕ → List ℕ
word_digits word = hex_of (word % 256 ∷ word / 256 % 256 ∷ word / 65536 % 256 ∷ word / 16777216 % 256 ∷ [])

-- eight digits of a register, or eight x where it is not known
abbrev pub register_digits : Option ℕ → List ℕ
register_digits None = codes "xxxxxxxx"
register_digits (Some word) = word_digits word

-- ---- a part of a text

-- the most bytes of a part
abbrev pub part_limit : ℕ
part_limit = 16368

-- the bytes of a text from a place on, so many at most, with `l` in front where they are the last ones, or else `m`
unfoldable pub part_text : List ℕ → (from size : ℕ) → List ℕ
part_text text from size =
    if nat_le (length text) from then codes "l"
    else if nat_le (length text) (from + size) then codes "l" ++ drop from text
    else codes "m" ++ take size (drop from text)

abbrev pub window_text : List ℕ → Window → List ℕ
window_text text window = part_text text window.from (lesser part_limit window.length)

-- ---- states

-- the word of a state, where this is that of an Active task, and the events that a task waits for
unfoldable pub state_text : (active : List ℕ) → TaskState → List ℕ
state_text active mode.Suspended = codes "suspended"
state_text active mode.Ready = codes "ready"
state_text active mode.Active = active
state_text active (mode.Waiting mask) = codes "waiting " ++ decimal mask
