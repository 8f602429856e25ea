-- What arrives before each instruction of a stretch, and which line the instruction touches.
use Rattle.std.specs.Prelude.{ℕ, Bool, false, ◌||◌, if◌then◌else◌, List, [], ◌∷◌, ◌++◌, Option, Some, None}
use Rattle.sloth_base.specs.Options.{is_number}

-- the lines that arrive before an instruction, and the line whose pending byte it loads or sets to zero by a store
abbrev pub TraceEntry : Type 0
TraceEntry = List ℕ × Option ℕ

-- one entry for each instruction, in order
abbrev pub Trace : Type 0
Trace = List TraceEntry

-- the line that is touched, if one is, before others
abbrev pub lines_of : Option ℕ → List ℕ → List ℕ
lines_of None rest = rest
lines_of (Some line) rest = line ∷ rest

-- the lines that the instructions touch, in order
abbrev pub touched_lines : Trace → List ℕ
touched_lines [] = []
touched_lines (entry ∷ trace) = lines_of entry.1 (touched_lines trace)

-- some instruction touches the line
abbrev pub is_touched_line : Trace → ℕ → Bool
is_touched_line [] line = false
is_touched_line (entry ∷ trace) line = is_number line entry.1 || is_touched_line trace line

-- of these lines, those that a trace touches, and the others
abbrev pub touched_lines_of : Trace → List ℕ → List ℕ
touched_lines_of trace [] = []
touched_lines_of trace (line ∷ lines) = if is_touched_line trace line then line ∷ touched_lines_of trace lines else touched_lines_of trace lines

-- of these lines, those that the trace does not touch
abbrev pub untouched_lines_of : Trace → List ℕ → List ℕ
untouched_lines_of trace [] = []
untouched_lines_of trace (line ∷ lines) = if is_touched_line trace line then untouched_lines_of trace lines else line ∷ untouched_lines_of trace lines

-- the arrivals whose line that instruction or a later one of the stretch touches, and the others
abbrev pub early_arrivals : Trace → List ℕ
early_arrivals [] = []
early_arrivals (entry ∷ trace) = touched_lines_of (entry ∷ trace) entry.0 ++ early_arrivals trace

-- the arrivals that stand at the end of the trace: those whose line it does not touch from their step on
abbrev pub late_arrivals : Trace → List ℕ
late_arrivals [] = []
late_arrivals (entry ∷ trace) = untouched_lines_of (entry ∷ trace) entry.0 ++ late_arrivals trace
