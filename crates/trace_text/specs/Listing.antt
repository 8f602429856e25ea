-- The listing of an image: its numbers, and a line for each word of its memory.
use Rattle.std.specs.Prelude.{ℕ, zero, suc, ◌+◌, ◌-◌, ◌*◌, ◌/◌, ◌==◌, List, [], ◌∷◌, ◌++◌, length, codes, decimal, slice_index, find, Option, Some, None, if◌then◌else◌}
use Rattle.hex.specs.Hex.{encode_lower}
use Rattle.sloth_base.specs.declared.image.Image.{Image}
use Rattle.sloth_base.specs.declared.image.Mark.{Mark}
use Rattle.sloth_base.specs.MemoryMap.{memory_base}
use Rattle.trace_text.specs.MarkWords.{word_text, mark_text}

-- ---- words and marks

-- the four bytes of a word of memory, the high one first
abbrev pub word_bytes : List ℕ → ℕ → List ℕ
word_bytes memory at = slice_index memory (at + 3) ∷ slice_index memory (at + 2) ∷ slice_index memory (at + 1) ∷ slice_index memory at ∷ []

-- the mark on the word of an address
abbrev pub mark_on : List Mark → ℕ → Option Mark
mark_on marks address = find (λ mark. mark.address == address) marks

-- what the mark on a word says, if there is one
abbrev pub marked_text : List (List ℕ) → Option Mark → List ℕ
marked_text functions None = []
marked_text functions (Some mark) = mark_text functions mark

-- ---- lines

-- the numbers of tasks, of functions, of bytes of memory and of marks
abbrev pub sizes_line : Image → List ℕ
sizes_line image =
    codes "tasks " ++ decimal (length image.tasks) ++ codes " functions " ++ decimal (length image.funcs)
    ++ codes " bytes " ++ decimal (length image.memory) ++ codes " marks " ++ decimal (length image.marks)

-- the address of the word at an offset, the word, and what its mark says
abbrev pub word_line : Image → ℕ → List ℕ
word_line image offset =
    word_text (memory_base + offset) ++ codes " " ++ encode_lower (word_bytes image.memory offset)
    ++ marked_text image.funcs (mark_on image.marks (memory_base + offset))

-- line k, counted from 0, without its LF
abbrev pub line_at : Image → ℕ → List ℕ
line_at image k = if k == 0 then sizes_line image else word_line image ((k - 1) * 4)

-- the first lines, so many of them, each with its LF
unfoldable pub first_lines : Image → ℕ → List ℕ
first_lines image zero = []
first_lines image (suc k) = first_lines image k ++ (line_at image k ++ 10 ∷ [])

-- all of them: one, and one for each word of memory
abbrev pub listing : Image → List ℕ
listing image = first_lines image (length image.memory / 4 + 1)
