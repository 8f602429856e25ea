-- A4 of lines that load or store less than a word. A word of the frame is no place for them (A3), and its number is judged all the same.
use Rattle.std.specs.Prelude.{ℕ, ◌+◌, ◌++◌, Bool, ◌||◌, ◌&&◌, ◌⊎◌, List, length, drop, codes}
use Rattle.std.specs.List.{list_any}
use Rattle.std.specs.Str.{bytes_eq}
use Rattle.sloth_base.specs.declared.refusal.Code.TheVariants.{A4}
use Rattle.sloth_base.specs.declared.refusal.Refusal.{Refusal}
use Rattle.sloth_base.specs.Search.{Somewhere}
use Rattle.asm_lines.specs.Bytes.{trim_start, word_of}
use Rattle.text_pieces.specs.Lines.{lines}
use Rattle.asm_lines.specs.Faults.{SourceCase, source_lines}
use Rattle.stage_faults.specs.ToldLines.{is_told_a4, ToldFault}

abbrev pub loads_narrow : List ℕ → Bool
loads_narrow word = bytes_eq word (codes "lb") || (bytes_eq word (codes "lbu") || (bytes_eq word (codes "lh") || bytes_eq word (codes "lhu")))

abbrev pub stores_narrow : List ℕ → Bool
stores_narrow word = bytes_eq word (codes "sb") || bytes_eq word (codes "sh")

-- the first word of a line that loads or stores less than a word
abbrev pub is_narrow : List ℕ → Bool
is_narrow word = loads_narrow word || stores_narrow word

abbrev pub first_word : List ℕ → List ℕ
first_word line = word_of (trim_start line)

-- what stands behind the first word
abbrev pub behind_word : List ℕ → List ℕ
behind_word line = drop (length (first_word line)) (trim_start line)

-- A4 of the line, read as one that loads a word
abbrev pub is_word_a4 : List ℕ → Bool
is_word_a4 line = list_any is_told_a4 (source_lines (codes "lw" ++ behind_word line))

abbrev pub is_narrow_a4 : List ℕ → Bool
is_narrow_a4 line = is_narrow (first_word line) && is_word_a4 line

-- r is A4 of a line with these before it
abbrev pub NarrowFault : List (List ℕ) → List ℕ → Refusal → Type 0
NarrowFault front line r = SourceCase (is_narrow_a4 line) (length front + 1) A4 r

-- ---- all

-- r is a fault that is told of the lines of a text
abbrev pub ToldForm : List ℕ → Refusal → Type 0
ToldForm text r = ToldFault (source_lines text) r ⊎ Somewhere NarrowFault (lines text) r
