-- The grammar of OIL text, over tokens (OIL 2.5, section 5).
use Rattle.std.specs.Prelude.{◌≡◌, ℕ, ◌<◌, List, [], ◌∷◌, ◌++◌, ◌⊎◌, suc}
use Rattle.oil_parse.specs.declared.tree.TokenKind.{TokenKind}
use Rattle.oil_parse.specs.declared.tree.TokenKind.TheVariants as token
use Rattle.oil_parse.specs.Tokens.{Lexeme}
use Rattle.oil_parse.specs.declared.machine.Key.TheVariants.{Version, Implementation, Cpu}
use Rattle.oil_parse.specs.declared.machine.Shape.TheVariants.{Word, Number, Text, Open, Close, Equals, Semicolon, Colon}
use Rattle.oil_parse.specs.declared.tree.OilValue.{OilValue}
use Rattle.oil_parse.specs.declared.tree.OilValue.TheVariants as value
use Rattle.oil_parse.specs.declared.tree.OilAttr.{OilAttr}
use Rattle.oil_parse.specs.declared.tree.OilObject.{OilObject}
use Rattle.oil_parse.specs.declared.tree.OilTree.{OilTree}
use Rattle.oil_parse.specs.Shapes.{shape, IsWordToken}

-- a word, a number or a string
abbrev pub IsValue : Lexeme → Type 0
IsValue t = IsWordToken t ⊎ (((n : ℕ) × (shape t ≡ Number n)) ⊎ (shape t ≡ Text))

-- the value that a token of this kind is
abbrev pub value_by : TokenKind → List ℕ → OilValue
value_by token.Word bs = value.Word bs
value_by (token.Number n) bs = value.Number n
value_by token.Text bs = value.Text bs
value_by token.Sign bs = value.Text bs

-- the attribute of a name and a value, in d attribute blocks
abbrev pub attr_of : ℕ → Lexeme → Lexeme → OilAttr
attr_of d n v = record { name = n.bytes; value = value_by v.kind v.bytes; line = n.line; depth = d }

-- an optional description, and `;`
pub data IsEnd : List Lexeme → Type 0 where
  bare : {s : Lexeme} → shape s ≡ Semicolon → IsEnd (s ∷ [])
  described : {c x s : Lexeme} → shape c ≡ Colon → shape x ≡ Text → shape s ≡ Semicolon → IsEnd (c ∷ x ∷ s ∷ [])

-- attributes that lie in d attribute blocks, and those in their blocks
pub data IsAttrs : ℕ → List Lexeme → List OilAttr → Type 0 where
  no_attr : {d : ℕ} → IsAttrs d [] []
  attr : {d : ℕ} {n e v : Lexeme} (f ts : List Lexeme) {al : List OilAttr} → IsWordToken n → shape e ≡ Equals → IsValue v → IsEnd f → IsAttrs d ts al
      → IsAttrs d (n ∷ e ∷ v ∷ (f ++ ts)) (attr_of d n v ∷ al)
  block : {d : ℕ} {n e v o : Lexeme} (c : Lexeme) (us f ts : List Lexeme) (bl al : List OilAttr) → d < 8 → IsWordToken n → shape e ≡ Equals → IsValue v
      → shape o ≡ Open → IsAttrs (suc d) us bl → shape c ≡ Close → IsEnd f → IsAttrs d ts al
      → IsAttrs d (n ∷ e ∷ v ∷ o ∷ (us ++ c ∷ (f ++ ts))) (attr_of d n v ∷ (bl ++ al))

-- the tokens of an object, with a block or without one
pub data IsOilObject : List Lexeme → OilObject → Type 0 where
  plain_object : {k n : Lexeme} {f : List Lexeme} → IsWordToken k → IsWordToken n → IsEnd f
      → IsOilObject (k ∷ n ∷ f) (record { kind = k.bytes; name = n.bytes; line = k.line; attrs = [] })
  block_object : {k n o : Lexeme} (c : Lexeme) (us f : List Lexeme) {al : List OilAttr} → IsWordToken k → IsWordToken n → shape o ≡ Open
      → IsAttrs 0 us al → shape c ≡ Close → IsEnd f
      → IsOilObject (k ∷ n ∷ o ∷ (us ++ c ∷ f)) (record { kind = k.bytes; name = n.bytes; line = k.line; attrs = al })

-- the tokens of objects one after the other
pub data IsObjects : List Lexeme → List OilObject → Type 0 where
  no_object : IsObjects [] []
  object : (ts us : List Lexeme) {o : OilObject} {os : List OilObject} → IsOilObject ts o → IsObjects us os → IsObjects (ts ++ us) (o ∷ os)

-- any tokens in which `{` and `}` match
pub data IsBalanced : List Lexeme → Type 0 where
  no_token : IsBalanced []
  token_in : {t : Lexeme} {ts : List Lexeme} → (shape t ≡ Open → ⊥) → (shape t ≡ Close → ⊥) → IsBalanced ts → IsBalanced (t ∷ ts)
  braces : {o : Lexeme} (c : Lexeme) (us ts : List Lexeme) → shape o ≡ Open → IsBalanced us → shape c ≡ Close → IsBalanced ts → IsBalanced (o ∷ (us ++ c ∷ ts))

-- an optional section IMPLEMENTATION
pub data IsImplementation : List Lexeme → Type 0 where
  no_section : IsImplementation []
  section : {i n o : Lexeme} (c : Lexeme) (us f : List Lexeme) → shape i ≡ Word Implementation → IsWordToken n → shape o ≡ Open
      → IsBalanced us → shape c ≡ Close → IsEnd f
      → IsImplementation (i ∷ n ∷ o ∷ (us ++ c ∷ f))

-- the tokens of the version
pub data IsHead : List Lexeme → Type 0 where
  head : {v e x : Lexeme} {f : List Lexeme} → shape v ≡ Word Version → shape e ≡ Equals → shape x ≡ Text → IsEnd f → IsHead (v ∷ e ∷ x ∷ f)

-- the tokens of a whole file
pub data IsFile : List Lexeme → OilTree → Type 0 where
  file : (c n o z : Lexeme) (hs xs us f : List Lexeme) {os : List OilObject} → IsHead hs → IsImplementation xs → shape c ≡ Word Cpu → IsWordToken n → shape o ≡ Open
      → IsObjects us os → shape z ≡ Close → IsEnd f
      → IsFile (hs ++ (xs ++ (c ∷ n ∷ o ∷ (us ++ z ∷ f)))) (record { cpu_line = c.line; objects = os })
