-- Files, read from text.
use Rattle.std.specs.Prelude.{ℕ, zero, suc, ◌+◌, ◌≡◌, ◌≤◌, ◌==◌, ⊤, true, false, cond, List, [], ◌∷◌, ◌++◌, bytes_eq, codes, decimal, length, Option, Some, None}
use Rattle.std.specs.List.{AllByRecursion, find}
use Rattle.text_pieces.specs.Bytes.{before, behind, is_byte_of}
use Rattle.orti_text.specs.FormulaReading.{HasNumbers, Reading, after_word, depth_of, or_else, read_formula, ◌>>=◌}
use Rattle.orti_text.specs.Tables.{Meaning, Whole, Plain, OneOf, Attribute, Kind, Value, Expression, Literal, Named, Object, Table, head_text, table_text}

-- ---- readers

-- what stands before the first byte of this kind, and the text after it
abbrev pub read_before : (stop : ℕ) → List ℕ → Reading (List ℕ)
read_before stop text = Some (before stop text, behind stop text)

-- one more thing was read, and what is read after it; or nothing more
abbrev pub one_more : {A : Type 0} → Reading A → (rest : List ℕ → List A × List ℕ) → List ℕ → List A × List ℕ
one_more None rest text = ([], text)
one_more (Some r) rest text = (r.0 ∷ (rest r.1).0, (rest r.1).1)

-- things one after another, as many as there are up to a limit, numbered from this number on
abbrev pub read_many : {A : Type 0} → (limit : ℕ) → (ℕ → List ℕ → Reading A) → ℕ → List ℕ → List A × List ℕ
read_many zero read n text = ([], text)
read_many (suc limit) read n text = one_more (read n text) (λ rest. read_many limit read (n + 1) rest) text

-- the same, as many as the text has bytes
abbrev pub read_all : {A : Type 0} → (ℕ → List ℕ → Reading A) → List ℕ → List A × List ℕ
read_all read text = read_many (length text) read 0 text

-- ---- kinds

-- the text that stands for a number
abbrev pub read_number_line : ℕ → List ℕ → Reading (List ℕ)
read_number_line n text = do
  text ← after_word (cond (n == 0) [] (codes ",")) text
  text ← after_word (codes "\n      \"") text
  name ← read_before 34 text
  rest ← after_word (codes " = " ++ decimal n) name.1
  Some (name.0, rest)

abbrev pub read_names : List ℕ → Reading Meaning
read_names text = do
  text ← after_word (codes "ENUM \"unsigned int\" [") text
  rest ← after_word (codes "\n    ]") (read_all read_number_line text).1
  Some (OneOf (read_all read_number_line text).0, rest)

abbrev pub read_word : {A : Type 0} → (word : List ℕ) → A → List ℕ → Reading A
read_word word meant text = after_word word text >>= (λ rest. Some (meant, rest))

abbrev pub read_meaning : List ℕ → Reading Meaning
read_meaning text = or_else (read_word (codes "CTYPE \"unsigned int\"") Whole text) (or_else (read_word (codes "STRING") Plain text) (read_names text))

abbrev pub read_attribute : ℕ → List ℕ → Reading Attribute
read_attribute n text = do
  text ← after_word (codes "    ") text
  traced ← or_else (read_word (codes "TOTRACE ") true text) (Some (false, text))
  meaning ← read_meaning traced.1
  text ← after_word (codes " ") meaning.1
  name ← read_before 44 text
  text ← after_word (codes " \"") name.1
  about ← read_before 34 text
  rest ← after_word (codes ";\n") about.1
  Some (record { traced = traced.0; meaning = meaning.0; name = name.0; about = about.0 }, rest)

abbrev pub read_kind : ℕ → List ℕ → Reading Kind
read_kind n text = do
  text ← after_word (codes "  ") text
  word ← read_before 32 text
  text ← after_word (codes "{\n") word.1
  rest ← after_word (codes "  }, \"") (read_all read_attribute text).1
  about ← read_before 34 rest
  rest ← after_word (codes ";\n") about.1
  Some (record { word = word.0; attributes = (read_all read_attribute text).0; about = about.0 }, rest)

-- ---- objects

-- how deep formulas have brackets at most
abbrev pub depth_limit : ℕ
depth_limit = 8

-- a value in quotes: its own text where the attribute says so, else a formula
abbrev pub read_value : Meaning → List ℕ → Reading Value
read_value Plain text = Some (Literal (before 34 text), 34 ∷ behind 34 text)
read_value _ text = read_formula depth_limit text >>= (λ f. Some (Expression f.0, f.1))

-- the lines of attributes, in their order
abbrev pub read_values : List Attribute → List ℕ → Reading (List Named)
read_values [] text = Some ([], text)
read_values (a ∷ rest) text = do
  text ← after_word (codes "  " ++ a.name ++ codes " = \"") text
  value ← read_value a.meaning text
  text ← after_word (codes "\";\n") value.1
  values ← read_values rest text
  Some (record { name = a.name; value = value.0 } ∷ values.0, values.1)

-- an object of one of these kinds
abbrev pub read_object : List Kind → ℕ → List ℕ → Reading Object
read_object kinds n text = do
  word ← read_before 32 text
  kind ← find (λ k. bytes_eq k.word word.0) kinds
  name ← read_before 32 word.1
  text ← after_word (codes "{\n") name.1
  values ← read_values kind.attributes text
  rest ← after_word (codes "};\n") values.1
  Some (record { kind = word.0; name = name.0; values = values.0 }, rest)

-- ---- files

abbrev pub at_end : {A : Type 0} → A → List ℕ → Option A
at_end x [] = Some x
at_end x (c ∷ rest) = None

abbrev pub read_objects : List Kind → List ℕ → Option Table
read_objects kinds text =
    at_end (record { kinds = kinds; objects = (read_all (read_object kinds) text).0 }) (read_all (read_object kinds) text).1

abbrev pub read_file : List ℕ → Option Table
read_file text = do
  text ← after_word head_text text
  rest ← after_word (codes "};\n") (read_all read_kind text).1
  read_objects (read_all read_kind text).0 rest

-- ---- the law

-- no byte of the text is this one
abbrev pub Lacks : ℕ → List ℕ → Type 0
Lacks stop text = is_byte_of stop text ≡ false

abbrev pub IsMeaning : Meaning → Type 0
IsMeaning (OneOf names) = AllByRecursion (Lacks 34) names
IsMeaning _ = ⊤

pub record IsAttribute (a : Attribute) : Type 0 where
  pub meaning : IsMeaning a.meaning
  pub name : Lacks 44 a.name
  pub about : Lacks 34 a.about

pub record IsKind (k : Kind) : Type 0 where
  pub word : Lacks 32 k.word
  pub attributes : AllByRecursion IsAttribute k.attributes
  pub about : Lacks 34 k.about

-- a value that an attribute of this meaning may have
abbrev pub IsValue : Meaning → Value → Type 0
IsValue Plain (Literal t) = Lacks 34 t
IsValue Plain (Expression f) = ⊥
IsValue _ (Literal t) = ⊥
IsValue _ (Expression f) = HasNumbers f × (depth_of f ≤ depth_limit)

-- the attributes of a kind in their order, each with a value
abbrev pub AreValues : List Attribute → List Named → Type 0
AreValues [] [] = ⊤
AreValues (a ∷ rest) (v ∷ values) = (v.name ≡ a.name) × IsValue a.meaning v.value × AreValues rest values
AreValues _ _ = ⊥

pub record IsObject (kinds : List Kind) (o : Object) : Type 0 where
  pub kind : Kind
  pub found : find (λ k. bytes_eq k.word o.kind) kinds ≡ Some kind
  pub word : Lacks 32 o.kind
  pub name : Lacks 32 o.name
  pub values : AreValues kind.attributes o.values

pub record IsTable (t : Table) : Type 0 where
  pub kinds : AllByRecursion IsKind t.kinds
  pub objects : AllByRecursion (IsObject t.kinds) t.objects

-- the text of a table is read as this table
abbrev pub TablesReadBack : Type 0
TablesReadBack = (t : Table) → IsTable t → read_file (table_text t) ≡ Some t
