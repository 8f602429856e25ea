-- Where the lines of a source come from, by its comments: `#line 16 "door.c"`, which may have text behind it, says that the lines of a body from there on, up to the next such comment or
-- the body's end, come from line 16 of door.c. A comment of another form says nothing.
use Rattle.std.specs.Prelude.{ℕ, ◌+◌, ◌%◌, ◌==◌, ◌&&◌, not, nat_le, ltb, Bool, cond, List, [], ◌∷◌, ◌++◌, Option, Some, None, codes, drop, take, length, position}
use Rattle.std.specs.Char.{is_ascii_digit}
use Rattle.std.specs.List.{list_all, list_any}
use Rattle.std.specs.Str.{bytes_eq}
use Rattle.asm_lines.specs.declared.source_line.SourceLine.{SourceLine}
use Rattle.asm_scopes.specs.Statements.{closes_body}
use Rattle.text_pieces.specs.Bytes.{before, behind, is_byte_of}
use Rattle.text_pieces.specs.Digits.{capped_value, value_from}
use Rattle.map_text.specs.DataLines.{data_lines}
use Rattle.map_text.specs.declared.line_places.Origins.{Origins}
use Rattle.map_text.specs.declared.line_places.Place.{Place}

-- ---- one comment

-- what stands behind `#line ` and the number with its blank (32): the name from its quote (34) on
abbrev pub quoted : List ℕ → List ℕ
quoted line = behind 32 (drop 6 line)

-- the name between the quotes
abbrev pub stated_name : List ℕ → List ℕ
stated_name line = before 34 (drop 1 (quoted line))

-- the number in front of it, in decimal digits, which is 0 where there is none below 2^31
abbrev pub stated_line : List ℕ → ℕ
stated_line line =
    let digits = before 32 (drop 6 line) in
    let number = capped_value (value_from 10 0 digits) in
    cond (list_all is_ascii_digit digits && ltb number 2147483648) number 0

-- a quote in front, and another one
abbrev pub begins_quoted : List ℕ → Bool
begins_quoted text = bytes_eq (take 1 text) (codes "\"") && is_byte_of 34 (drop 1 text)

-- at least one byte, all of which are shown
abbrev pub are_shown : List ℕ → Bool
are_shown name = not (length name == 0) && list_all (λ b. nat_le 32 b) name

-- such a comment: `#line `, a number from 1 on, and a name between quotes
unfoldable pub is_stated : List ℕ → Bool
is_stated line =
    bytes_eq (take 6 line) (codes "#line ") && (not (stated_line line == 0) && (begins_quoted (quoted line) && are_shown (stated_name line)))

-- ---- files

-- a line states a name that is not among these
abbrev pub is_new : List (List ℕ) → List ℕ → Bool
is_new names line = is_stated line && not (list_any (bytes_eq (stated_name line)) names)

-- the names that are known behind a line, where these are in front of it
unfoldable pub names_behind : List (List ℕ) → List ℕ → List (List ℕ)
names_behind names line = cond (is_new names line) (names ++ stated_name line ∷ []) names

-- those behind these lines: the names that their comments state, in the order in which they come first
abbrev pub all_names : List (List ℕ) → List (List ℕ) → List (List ℕ)
all_names names [] = names
all_names names (line ∷ lines) = all_names (names_behind names line) lines

-- the number of a file in the table of files: the source has 1, the first further one 2; a table has no more than numbers of 32 bits
abbrev pub number_or : Option ℕ → ℕ
number_or None = 1
number_or (Some place) = place % 4294967290 + 2

abbrev pub file_number : List (List ℕ) → List ℕ → ℕ
file_number names name = number_or (position (bytes_eq name) names)

-- a file in that table: its name, no directory, no time, no size (DWARF 4, 6.2.4)
abbrev pub file_entry : List ℕ → List ℕ
file_entry name = (name ++ 0 ∷ []) ++ 0 ∷ 0 ∷ 0 ∷ []

-- that of a line which states a new name
unfoldable pub file_behind : List (List ℕ) → List ℕ → List ℕ
file_behind names line = cond (is_new names line) (file_entry (stated_name line)) []

-- those of lines, where these names are known in front of them
abbrev pub further_files : List (List ℕ) → List (List ℕ) → List ℕ
further_files names [] = []
further_files names (line ∷ lines) = file_behind names line ++ further_files (names_behind names line) lines

-- ---- places

-- none is stated
abbrev pub no_place : Place
no_place = record { file = 0; line = 0 }

-- the place that a comment states, by these names of files
abbrev pub stated_place : List (List ℕ) → List ℕ → Place
stated_place names line = record { file = file_number names (stated_name line); line = stated_line line }

-- where a line comes from, where the lines before it leave this place: a comment states another one, by the names that are known with its own
unfoldable pub place_here : List (List ℕ) → Place → List ℕ → Place
place_here names left line = cond (is_stated line) (stated_place names line) left

-- what a line leaves to the next one: the end of a body leaves none
abbrev pub place_behind : Place → SourceLine → Place
place_behind here statement = cond (closes_body statement) no_place here

-- the places of lines, which are these statements, behind lines that leave this place and these names
abbrev pub line_places : List (List ℕ) → Place → List (List ℕ) → List SourceLine → List Place
line_places names left (line ∷ lines) (statement ∷ statements) =
    place_here (names_behind names line) left line
    ∷ line_places (names_behind names line) (place_behind (place_here (names_behind names line) left line) statement) lines statements
line_places names left _ _ = []

-- what these lines say, which are these statements
abbrev pub line_origins : List (List ℕ) → List SourceLine → Origins
line_origins lines statements =
    record { lines = data_lines 1 statements; files = further_files [] lines; places = line_places [] no_place lines statements }
