-- The summary of a run: how many events of each kind it shows.
use Rattle.std.specs.Prelude.{ℕ, zero, suc, ◌==◌, if◌then◌else◌, List, [], ◌∷◌, ◌++◌, count_by, decimal, codes, slice_index, map}
use Rattle.sloth_base.specs.declared.service.Stamped.{Stamped}
use Rattle.trace_text.specs.EventWords.{kind_of}

-- how many of these events are of a kind
abbrev pub count_of_kind : List Stamped → ℕ → ℕ
count_of_kind events kind = count_by (λ e. kind_of e.event == kind) events

-- the same for each kind
abbrev pub counts_of : List Stamped → List ℕ
counts_of events = map (count_of_kind events) (0 ∷ 1 ∷ 2 ∷ 3 ∷ 4 ∷ 5 ∷ 6 ∷ 7 ∷ 8 ∷ 9 ∷ [])

-- the word of a kind
unfoldable pub kind_word : ℕ → List ℕ
kind_word kind =
    if kind == 0 then codes "boot"
    else (if kind == 1 then codes "admit"
    else (if kind == 2 then codes "enter"
    else (if kind == 3 then codes "run"
    else (if kind == 4 then codes "call"
    else (if kind == 5 then codes "left"
    else (if kind == 6 then codes "back"
    else (if kind == 7 then codes "idle"
    else (if kind == 8 then codes "stray"
    else codes "tick"))))))))

-- the line of a kind: its word, one space, its number
unfoldable pub kind_line : List ℕ → ℕ → List ℕ
kind_line counts kind = kind_word kind ++ codes " " ++ decimal (slice_index counts kind) ++ codes "\n"

-- the lines of the first kinds, so many of them
unfoldable pub first_kinds : List ℕ → ℕ → List ℕ
first_kinds counts zero = []
first_kinds counts (suc k) = first_kinds counts k ++ kind_line counts k

-- the text of these numbers, ten lines
abbrev pub summary_text : List ℕ → List ℕ
summary_text counts = first_kinds counts 10
