-- The places of lines are those that the last comments above them state.
use Rattle.std.specs.Prelude.{ℕ, ◌≡◌, ◌≤◌, ◌<◌, true, false, List, [], get_or, length}
use Rattle.std.specs.List.{flat_map}
use Rattle.asm_lines.specs.declared.source_line.SourceLine.{SourceLine}
use Rattle.asm_lines.specs.declared.source_line.SourceLine.TheVariants.{Empty}
use Rattle.asm_scopes.specs.Statements.{closes_body}
use Rattle.map_text.specs.LinePlaces.{all_names, file_entry, further_files, is_stated, line_places, no_place, stated_place}

-- line k is the last one down to line n that states a place, and none from it to the line before n ends a body; lines are numbered from 0
pub record IsLast (lines : List (List ℕ)) (statements : List SourceLine) (k n : ℕ) : Type 0 where
  pub above : k ≤ n
  pub states : is_stated (get_or lines k []) ≡ true
  pub silent : (j : ℕ) → k < j → j ≤ n → is_stated (get_or lines j []) ≡ false
  pub inside : (j : ℕ) → k ≤ j → j < n → closes_body (get_or statements j Empty) ≡ false

-- then line n comes from the place that line k states, its file numbered among the names of all lines
abbrev pub PlacesAreStated : Type 0
PlacesAreStated = (lines : List (List ℕ)) (statements : List SourceLine) (k n : ℕ) → length statements ≡ length lines → n < length lines
    → IsLast lines statements k n
    → get_or (line_places [] no_place lines statements) n no_place ≡ stated_place (all_names [] lines) (get_or lines k [])

-- the table of files has the names in the order of their numbers
abbrev pub FilesAreNames : Type 0
FilesAreNames = (lines : List (List ℕ)) → further_files [] lines ≡ flat_map file_entry (all_names [] lines)

-- without such a line it has no place
abbrev pub OthersHaveNone : Type 0
OthersHaveNone = (lines : List (List ℕ)) (statements : List SourceLine) (n : ℕ) → ((k : ℕ) → IsLast lines statements k n → ⊥)
    → get_or (line_places [] no_place lines statements) n no_place ≡ no_place
