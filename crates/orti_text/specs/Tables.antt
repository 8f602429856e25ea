-- Files of ORTI (OSEK Run Time Interface 2.2): which kinds of objects a kernel has, which attributes each kind, and the value of each attribute of each object.
use Rattle.std.specs.Prelude.{ℕ, ◌+◌, ◌==◌, Bool, cond, List, [], ◌∷◌, ◌++◌, codes, decimal, flat_map}
use Rattle.orti_text.specs.Formulas.{Formula, text}

-- ---- kinds

-- what a value means: a number; its own text; or the text that stands here at the place of the number
pub data Meaning : Type 0 where
  Whole : Meaning
  Plain : Meaning
  OneOf : List (List ℕ) → Meaning

-- an attribute that each object of a kind has; a trace may follow the stores to a traced one
pub record Attribute : Type 0 where
  pub traced : Bool
  pub meaning : Meaning
  pub name : List ℕ
  pub about : List ℕ

pub record Kind : Type 0 where
  pub word : List ℕ
  pub attributes : List Attribute
  pub about : List ℕ

-- ---- objects

-- a formula, or a text
pub data Value : Type 0 where
  Expression : Formula → Value
  Literal : List ℕ → Value

-- the value of the attribute of a name
pub record Named : Type 0 where
  pub name : List ℕ
  pub value : Value

pub record Object : Type 0 where
  pub kind : List ℕ
  pub name : List ℕ
  pub values : List Named

pub record Table : Type 0 where
  pub kinds : List Kind
  pub objects : List Object

-- ---- the text

-- the line of the text that stands for a number; a comma stands before each but the first
abbrev pub number_line : ℕ → (name : List ℕ) → List ℕ
number_line n name = cond (n == 0) [] (codes ",") ++ codes "\n      \"" ++ name ++ codes "\" = " ++ decimal n

-- those of texts, numbered from this number on
abbrev pub number_lines : ℕ → List (List ℕ) → List ℕ
number_lines n [] = []
number_lines n (name ∷ names) = number_line n name ++ number_lines (n + 1) names

abbrev pub meaning_text : Meaning → List ℕ
meaning_text Whole = codes "CTYPE \"unsigned int\""
meaning_text Plain = codes "STRING"
meaning_text (OneOf names) = codes "ENUM \"unsigned int\" [" ++ number_lines 0 names ++ codes "\n    ]"

abbrev pub attribute_text : Attribute → List ℕ
attribute_text a =
    codes "    " ++ cond a.traced (codes "TOTRACE ") [] ++ meaning_text a.meaning ++ codes " " ++ a.name ++ codes ", \"" ++ a.about ++ codes "\";\n"

abbrev pub kind_text : Kind → List ℕ
kind_text k = codes "  " ++ k.word ++ codes " {\n" ++ flat_map attribute_text k.attributes ++ codes "  }, \"" ++ k.about ++ codes "\";\n"

abbrev pub value_text : Value → List ℕ
value_text (Expression f) = text f
value_text (Literal t) = t

abbrev pub value_line : Named → List ℕ
value_line v = codes "  " ++ v.name ++ codes " = \"" ++ value_text v.value ++ codes "\";\n"

abbrev pub object_text : Object → List ℕ
object_text o = o.kind ++ codes " " ++ o.name ++ codes " {\n" ++ flat_map value_line o.values ++ codes "};\n"

-- what stands before the kinds
unfoldable pub head_text : List ℕ
head_text =
    codes "VERSION {\n  KOIL = \"2.2\";\n  OSSEMANTICS = \"ORTI\", \"2.2\";\n};\nIMPLEMENTATION sloth {\n"

-- the bytes of the file
abbrev pub table_text : Table → List ℕ
table_text t = head_text ++ flat_map kind_text t.kinds ++ codes "};\n" ++ flat_map object_text t.objects
