-- Bytes of names, and parts of a text.
use Rattle.std.specs.Prelude.{ℕ, Bool, false, ◌&&◌, ◌==◌, List, [], ◌∷◌}
use Rattle.std.specs.List.{list_any, list_all, before_first, after_first}
use Rattle.sloth_base.specs.ImageRange.{begins_word, continues_word}

-- a letter or `_` stands in front
abbrev pub begins_name : List ℕ → Bool
begins_name [] = false
begins_name (b ∷ bs) = begins_word b

-- a letter or `_`, then letters, digits and `_`
unfoldable pub is_name : List ℕ → Bool
is_name t = begins_name t && list_all continues_word t

-- the byte stands in the text
unfoldable pub is_byte_of : ℕ → List ℕ → Bool
is_byte_of stop t = list_any (λ b. b == stop) t

-- what stands before the first byte of this kind, or all
abbrev pub before : ℕ → List ℕ → List ℕ
before c t = before_first (λ b. b == c) t

-- the text behind the first byte of this kind
abbrev pub behind : ℕ → List ℕ → List ℕ
behind c t = after_first (λ b. b == c) t
