-- Bytes of task source, and parts of a text.
use Rattle.std.specs.Prelude.{ℕ, ◌-◌, Bool, false, ◌||◌, ◌&&◌, ◌==◌, nat_le, List, [], ◌∷◌, length, take, drop, reverse}
use Rattle.std.specs.Char.{is_ascii_alphabetic}
use Rattle.std.specs.List.{take_while}
use Rattle.sloth_base.specs.ImageRange.{continues_word}

-- space and tab
abbrev pub is_blank : ℕ → Bool
is_blank b = (b == 32) || (b == 9)

-- the bytes that may stand outside comments: 0x20 to 0x7E, and tab
abbrev pub is_shown : ℕ → Bool
is_shown b = (b == 9) || (nat_le 32 b && nat_le b 126)

-- a letter stands in front
abbrev pub is_letter : List ℕ → Bool
is_letter [] = false
is_letter (b ∷ bs) = is_ascii_alphabetic b

-- the longest front of letters, digits and `_`
abbrev pub word_of : List ℕ → List ℕ
word_of t = take_while continues_word t

-- the text without the blanks in front
abbrev pub trim_start : List ℕ → List ℕ
trim_start t = drop (length (take_while is_blank t)) t

-- the text without the blanks at its end
abbrev pub trim_end : List ℕ → List ℕ
trim_end t = take (length t - length (take_while is_blank (reverse t))) t

-- the text without the blanks at both ends
unfoldable pub trim : List ℕ → List ℕ
trim t = trim_end (trim_start t)
