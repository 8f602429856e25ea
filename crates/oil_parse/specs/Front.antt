-- The piece at the front of a text: its kind and its length.
use Rattle.std.specs.Prelude.{ℕ, ◌+◌, Bool, if◌then◌else◌, ◌==◌, List, [], ◌∷◌, length, slice_index, nat_lt, drop}
use Rattle.std.specs.List.{prefix_len}
use Rattle.oil_parse.specs.declared.lexer.Class.{Class}
use Rattle.oil_parse.specs.declared.lexer.Class.TheVariants as class
use Rattle.oil_parse.specs.declared.lexer.Run.{Run}
use Rattle.oil_parse.specs.declared.lexer.Run.TheVariants.{WordBytes, Digits, HexDigits, Quoted, CommentLine}
use Rattle.oil_parse.specs.declared.lexer.PieceKind.{PieceKind}
use Rattle.oil_parse.specs.declared.lexer.PieceKind.TheVariants as kind
use Rattle.oil_parse.specs.Bytes.{class_of, is_word_byte, is_digit, is_hex_digit, is_quoted, is_not_lf}
use Rattle.oil_parse.specs.Pieces.{is_comment_end, begins_hex}

-- a byte goes on with a run
abbrev pub is_passed : Run → ℕ → Bool
is_passed WordBytes b = is_word_byte b
is_passed Digits b = is_digit b
is_passed HexDigits b = is_hex_digit b
is_passed Quoted b = is_quoted b
is_passed CommentLine b = is_not_lf b

-- how many bytes stand before the first `*/`, or all
unfoldable pub comment_length : List ℕ → ℕ
comment_length [] = 0
comment_length (b ∷ bs) = if is_comment_end (b ∷ bs) then 0 else (1 + comment_length bs)

-- behind a `/*`
unfoldable pub comment_piece : List ℕ → PieceKind × ℕ
comment_piece s = if nat_lt (comment_length s) (length s) then (kind.BlockComment, comment_length s + 4) else (kind.UnclosedComment, comment_length s + 2)

-- behind a quote
unfoldable pub text_piece : List ℕ → PieceKind × ℕ
text_piece s =
    if slice_index s (prefix_len (is_passed Quoted) s) == 34 then (kind.Text, prefix_len (is_passed Quoted) s + 2)
    else (kind.UnclosedText, prefix_len (is_passed Quoted) s + 1)

-- a comment, or the sign `/`
unfoldable pub slash_piece : List ℕ → PieceKind × ℕ
slash_piece t =
    if slice_index t 1 == 47 then (kind.LineComment, prefix_len (is_passed CommentLine) (drop 2 t) + 2)
    else (if slice_index t 1 == 42 then comment_piece (drop 2 t) else (kind.Sign, 1))

-- a number, hexadecimal or decimal
unfoldable pub number_piece : List ℕ → PieceKind × ℕ
number_piece t =
    if begins_hex t then (kind.Hexadecimal, prefix_len (is_passed HexDigits) (drop 3 t) + 3) else (kind.Decimal, prefix_len (is_passed Digits) (drop 1 t) + 1)

-- the kind and length of the piece at the front, by the class of its first byte
unfoldable pub piece_by : Class → List ℕ → PieceKind × ℕ
piece_by class.Blank t = (kind.Blank, 1)
piece_by class.Letter t = (kind.Word, prefix_len (is_passed WordBytes) (drop 1 t) + 1)
piece_by class.Digit t = number_piece t
piece_by class.Quote t = text_piece (drop 1 t)
piece_by class.Slash t = slash_piece t
piece_by class.Sign t = (kind.Sign, 1)
piece_by class.Other t = (kind.Stray, 1)

-- the kind and length of the piece at the front of a text
abbrev pub front_piece : List ℕ → PieceKind × ℕ
front_piece t = piece_by (class_of (slice_index t 0)) t
