-- The places that comments state are numbers of 32 bits.
use Rattle.std.proofs.Common.{◌≡◌, ◌<◌, ◌+◌, ◌^◌, ℕ, zero, suc, Bool, true, false, cond, ltb, List, [], ◌∷◌, Option, Some, None, get_or, drop, position, refl, arith}
use Rattle.std.specs.Prelude.{◌&&◌}
use Rattle.std.specs.Char.{is_ascii_digit}
use Rattle.std.specs.List.{list_all}
use Rattle.std.specs.Str.{bytes_eq}
use Rattle.std.proofs.lemmas.Bool.{ltb-true}
use Rattle.text_pieces.specs.Bytes.{before}
use Rattle.text_pieces.specs.Digits.{capped_value, value_from}
use Rattle.text_pieces.specs.Lines.{lines}
use Rattle.asm_lines.specs.Faults.{source_lines}
use Rattle.asm_lines.specs.declared.source_line.SourceLine.{SourceLine}
use Rattle.asm_scopes.specs.Statements.{closes_body}
use Rattle.map_text.specs.LinePlaces.{is_stated, line_places, names_behind, no_place, number_or, place_behind, place_here, stated_line, stated_name, stated_place}
use Rattle.map_text.specs.declared.line_places.Place.{Place}
use Rattle.symbol_build.specs.SymbolFiles.{source_origins}

abbrev pub IsSmall : Place → Type 0
IsSmall place = (place.file < 2 ^ 32) × (place.line < 2 ^ 32)

abbrev pub AreSmall : List Place → Type 0
AreSmall places = (k : ℕ) → IsSmall (get_or places k no_place)

file_small : (o : Option ℕ) → number_or o < 2 ^ 32
file_small None = omega arith
file_small (Some place) = omega arith

line_small : (line : List ℕ) → stated_line line < 2 ^ 32
line_small line = by (list_all is_ascii_digit digits) (ltb number 2147483648) (ltb-true number 2147483648)
  where
    digits : List ℕ
    digits = before 32 (drop 6 line)

    number : ℕ
    number = capped_value (value_from 10 0 digits)

    by : (all b : Bool) → (b ≡ true → number < 2147483648) → cond (all && b) number 0 < 2 ^ 32
    by true true few = let l = few refl in omega (arith, l)
    by true false few = omega arith
    by false b few = omega arith

here_small : (names : List (List ℕ)) (left : Place) (line : List ℕ) → IsSmall left → IsSmall (place_here names left line)
unfolding place_here
here_small names left line h = by (is_stated line)
  where
    by : (b : Bool) → IsSmall (cond b (stated_place names line) left)
    by true = (file_small (position (bytes_eq (stated_name line)) names), line_small line)
    by false = h

behind_small : (here : Place) (statement : SourceLine) → IsSmall here → IsSmall (place_behind here statement)
behind_small here statement h = by (closes_body statement)
  where
    by : (b : Bool) → IsSmall (cond b no_place here)
    by true = (omega arith, omega arith)
    by false = h

places_small : (names : List (List ℕ)) (left : Place) (texts : List (List ℕ)) (statements : List SourceLine) → IsSmall left
    → AreSmall (line_places names left texts statements)
places_small names left [] statements h k = (omega arith, omega arith)
places_small names left (text ∷ texts) [] h k = (omega arith, omega arith)
places_small names left (text ∷ texts) (statement ∷ statements) h zero = here_small (names_behind names text) left text h
places_small names left (text ∷ texts) (statement ∷ statements) h (suc k) =
    places_small (names_behind names text) (place_behind (place_here (names_behind names text) left text) statement) texts statements
    (behind_small (place_here (names_behind names text) left text) statement (here_small (names_behind names text) left text h)) k

-- those of a source
pub source_places_small : (src : List ℕ) → AreSmall (source_origins src).places
source_places_small src = places_small [] no_place (lines src) (source_lines src) (omega arith, omega arith)
