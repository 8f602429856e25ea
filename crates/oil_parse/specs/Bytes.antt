-- The bytes of OIL text by their classes.
use Rattle.std.specs.Prelude.{ℕ, Bool, if◌then◌else◌, ◌||◌, ◌&&◌, ◌==◌, not, [], ◌∷◌}
use Rattle.std.specs.List.{list_any}
use Rattle.std.specs.Char.{is_ascii_digit, is_ascii_alphabetic, is_ascii_hexdigit}
use Rattle.sloth_base.specs.ImageRange.{continues_word}
use Rattle.oil_parse.specs.declared.lexer.Class.{Class}
use Rattle.oil_parse.specs.declared.lexer.Class.TheVariants as class

-- the signs but `/`, which may begin a comment: { } = ; : , . [ ] ( ) < > + - *
abbrev pub is_plain_sign : ℕ → Bool
is_plain_sign b = list_any (λ s. b == s) (123 ∷ 125 ∷ 61 ∷ 59 ∷ 58 ∷ 44 ∷ 46 ∷ 91 ∷ 93 ∷ 40 ∷ 41 ∷ 60 ∷ 62 ∷ 43 ∷ 45 ∷ 42 ∷ [])

-- space, tab, CR and LF
abbrev pub is_blank : ℕ → Bool
is_blank b = (b == 32) || (b == 9) || (b == 13) || (b == 10)

-- the class of a byte
unfoldable pub class_of : ℕ → Class
class_of b =
    if is_blank b then class.Blank
    else (if is_ascii_alphabetic b || (b == 95) then class.Letter
    else (if is_ascii_digit b then class.Digit
    else (if b == 34 then class.Quote
    else (if b == 47 then class.Slash
    else (if is_plain_sign b then class.Sign
    else class.Other)))))

-- letters, digits and _
unfoldable pub is_word_byte : ℕ → Bool
is_word_byte b = continues_word b

-- a decimal digit
unfoldable pub is_digit : ℕ → Bool
is_digit b = is_ascii_digit b

-- a hexadecimal digit
unfoldable pub is_hex_digit : ℕ → Bool
is_hex_digit b = is_ascii_hexdigit b

-- what may stand between quotes: all but the quote and LF
unfoldable pub is_quoted : ℕ → Bool
is_quoted b = not (b == 34) && not (b == 10)

-- a byte that is no LF
unfoldable pub is_not_lf : ℕ → Bool
is_not_lf b = not (b == 10)
