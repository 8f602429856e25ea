-- The events around a count, as lines of a text.
use Rattle.std.specs.Prelude.{ℕ, ◌+◌, ◌-◌, ◌==◌, ◌&&◌, List, [], ◌∷◌, ◌++◌, length, take, drop, Bool, true, false, bytes_eq, nat_lt, not, codes, decimal, if◌then◌else◌}
use Rattle.std.specs.List.{slice_split, before_first, after_first}
use Rattle.sloth_base.specs.Limits.{count_limit}
use Rattle.debug_ways.specs.Runs.{Run}
use Rattle.debug_ways.specs.Shown.{lesser}
use Rattle.text_pieces.specs.Digits.{capped_value, value_from}

-- the lines of a text; behind the last LF stands none
abbrev pub whole_lines : List ℕ → List (List ℕ)
whole_lines text = take (length (slice_split (λ b. b == 10) text) - 1) (slice_split (λ b. b == 10) text)

-- a line is that of an idle: so it goes on behind both counts
abbrev pub is_idle : List ℕ → Bool
is_idle line = bytes_eq (after_first (λ b. b == 32) (after_first (λ b. b == 32) line)) (codes "idle")

-- the lines without those of an idle directly behind an idle; whether the one in front is an idle's is given
abbrev pub merged_from : Bool → List (List ℕ) → List (List ℕ)
merged_from after_idle [] = []
merged_from after_idle (line ∷ lines) =
    if after_idle && is_idle line then merged_from true lines else line ∷ merged_from (is_idle line) lines

abbrev pub merged : List ℕ → List (List ℕ)
merged text = merged_from false (whole_lines text)

-- lines, each with its LF
abbrev pub lines_text : List (List ℕ) → List ℕ
lines_text [] = []
lines_text (line ∷ lines) = (line ++ 10 ∷ []) ++ lines_text lines

-- the lines on each side
abbrev pub side : ℕ
side = 8

-- the count at which the event of a line ends, which is its second one
abbrev pub end_count : List ℕ → ℕ
end_count line = capped_value (value_from 10 0 (before_first (λ b. b == 32) (after_first (λ b. b == 32) line)))

-- the event of a line ends before a count, or does not, where the other lines are asked for
abbrev pub is_aside : (before : Bool) → (count : ℕ) → List ℕ → Bool
is_aside before count line = if before then not (nat_lt (end_count line) count) else nat_lt (end_count line) count

-- the lines of events that end before a count, or those of the others
abbrev pub sided : (before : Bool) → (count : ℕ) → List (List ℕ) → List (List ℕ)
sided before count [] = []
sided before count (line ∷ lines) = if is_aside before count line then sided before count lines else line ∷ sided before count lines

-- the last of those that end before a count, and the first of the others
abbrev pub front_text : ℕ → List (List ℕ) → List ℕ
front_text count lines = lines_text (drop (length (sided true count lines) - side) (sided true count lines))

abbrev pub rest_text : ℕ → List (List ℕ) → List ℕ
rest_text count lines = lines_text (take side (sided false count lines))

-- of a text the last lines of events that end before a count, the count, and the first lines of the others
abbrev pub around : (text : List ℕ) → (count : ℕ) → List ℕ
around text count = front_text count (merged text) ++ (codes "count " ++ decimal count ++ codes "\n") ++ rest_text count (merged text)

-- of so many counts behind the own one the events are looked at
abbrev pub trace_counts : ℕ
trace_counts = 1000

-- the lines of the events around a count
abbrev pub events_text : Run → ℕ → List ℕ
events_text run count = around (run.trace (lesser count_limit (count + trace_counts))) count
