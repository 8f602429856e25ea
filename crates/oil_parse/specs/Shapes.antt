-- What the grammar sees of a token.
use Rattle.std.specs.Prelude.{◌≡◌, ℕ, if◌then◌else◌, ◌==◌, List, [], ◌∷◌, slice_index}
use Rattle.std.specs.Str.{bytes_eq}
use Rattle.oil_parse.specs.declared.tree.TokenKind.{TokenKind}
use Rattle.oil_parse.specs.declared.tree.TokenKind.TheVariants as token
use Rattle.oil_parse.specs.Tokens.{Lexeme}
use Rattle.oil_parse.specs.declared.machine.Key.{Key}
use Rattle.oil_parse.specs.declared.machine.Key.TheVariants.{Version, Implementation, Cpu, Plain}
use Rattle.oil_parse.specs.declared.machine.Shape.{Shape}
use Rattle.oil_parse.specs.declared.machine.Shape.TheVariants.{Word, Number, Text, Open, Close, Equals, Semicolon, Colon, Other}

-- "OIL_VERSION", "IMPLEMENTATION", "CPU"
abbrev pub version_word : List ℕ
version_word = 79 ∷ 73 ∷ 76 ∷ 95 ∷ 86 ∷ 69 ∷ 82 ∷ 83 ∷ 73 ∷ 79 ∷ 78 ∷ []

-- "IMPLEMENTATION"
abbrev pub implementation_word : List ℕ
implementation_word = 73 ∷ 77 ∷ 80 ∷ 76 ∷ 69 ∷ 77 ∷ 69 ∷ 78 ∷ 84 ∷ 65 ∷ 84 ∷ 73 ∷ 79 ∷ 78 ∷ []

-- "CPU"
abbrev pub cpu_word : List ℕ
cpu_word = 67 ∷ 80 ∷ 85 ∷ []

-- the keyword that a word is
unfoldable pub key_of : List ℕ → Key
key_of bs = if bytes_eq bs version_word then Version
    else (if bytes_eq bs implementation_word then Implementation
    else (if bytes_eq bs cpu_word then Cpu else Plain))

-- the shape of a sign
unfoldable pub sign_of : List ℕ → Shape
sign_of bs =
    if slice_index bs 0 == 123 then Open
    else (if slice_index bs 0 == 125 then Close
    else (if slice_index bs 0 == 61 then Equals
    else (if slice_index bs 0 == 59 then Semicolon
    else (if slice_index bs 0 == 58 then Colon
    else Other))))

-- the shape of a token of this kind with these bytes
unfoldable pub shape_by : TokenKind → List ℕ → Shape
shape_by token.Word bs = Word (key_of bs)
shape_by (token.Number n) bs = Number n
shape_by token.Text bs = Text
shape_by token.Sign bs = sign_of bs

-- the shape of a token
abbrev pub shape : Lexeme → Shape
shape t = shape_by t.kind t.bytes

-- a token that is a word
abbrev pub IsWordToken : Lexeme → Type 0
IsWordToken t = (k : Key) × (shape t ≡ Word k)
