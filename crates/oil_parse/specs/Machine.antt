-- What the parser does with a token that may stand there: what is added to the tree. The grammar's definitions stand in Grammar and
-- Faults; that the parser meets them is proved.
use Rattle.std.specs.Prelude.{ℕ, Bool, false, if◌then◌else◌, nat_lt, ◌<◌, List, [], ◌∷◌, ◌++◌, Option, Some}
use Rattle.sloth_base.specs.declared.refusal.Part.TheVariants.{Oil}
use Rattle.sloth_base.specs.declared.refusal.Code.TheVariants as code
use Rattle.sloth_base.specs.declared.refusal.Refusal.{Refusal}
use Rattle.sloth_base.specs.Search.{lesser}
use Rattle.oil_parse.specs.declared.tree.TokenKind.{TokenKind}
use Rattle.oil_parse.specs.declared.tree.TokenKind.TheVariants as token
use Rattle.oil_parse.specs.Tokens.{Lexeme}
use Rattle.oil_parse.specs.declared.machine.Shape.{Shape}
use Rattle.oil_parse.specs.declared.machine.Shape.TheVariants.{Word, Number, Semicolon}
use Rattle.oil_parse.specs.declared.machine.Construct.{Construct}
use Rattle.oil_parse.specs.declared.machine.Construct.TheVariants.{Object}
use Rattle.oil_parse.specs.declared.machine.Expect.{Expect}
use Rattle.oil_parse.specs.declared.machine.Expect.TheVariants.{Ending, Closing, Body, CpuWord, Objects, ObjectName, ObjectTail, Attrs, AttrValue}
use Rattle.oil_parse.specs.declared.tree.OilAttr.{OilAttr}
use Rattle.oil_parse.specs.declared.tree.OilObject.{OilObject}
use Rattle.oil_parse.specs.Grammar.{value_by}

-- What has been read so far: the objects, and the parts of the next.
pub record PartialTree : Type 0 where
  pub cpu_line : ℕ
  pub objects : List OilObject
  pub kind : List ℕ
  pub name : List ℕ
  pub line : ℕ
  pub attrs : List OilAttr
  pub attr_name : List ℕ
  pub attr_line : ℕ

-- the object is whole
abbrev pub whole_object : PartialTree → PartialTree
whole_object b = record b { objects = b.objects ++ record { kind = b.kind; name = b.name; line = b.line; attrs = b.attrs } ∷ []; attrs = [] }

-- a construct is whole
abbrev pub whole_construct : Construct → PartialTree → PartialTree
whole_construct Object b = whole_object b
whole_construct _ b = b

-- what is read so far behind a token that may stand there
unfoldable pub partial_tree_after : Expect → Shape → Lexeme → PartialTree → PartialTree
partial_tree_after Body x t b = record b { cpu_line = t.line }
partial_tree_after CpuWord x t b = record b { cpu_line = t.line }
partial_tree_after Objects (Word k) t b = record b { kind = t.bytes; line = t.line; attrs = [] }
partial_tree_after ObjectName x t b = record b { name = t.bytes }
partial_tree_after ObjectTail Semicolon t b = whole_object b
partial_tree_after (Ending p) Semicolon t b = whole_construct p b
partial_tree_after (Closing p) x t b = whole_construct p b
partial_tree_after (Attrs d) (Word k) t b = record b { attr_name = t.bytes; attr_line = t.line }
partial_tree_after (AttrValue d) x t b = record b { attrs = b.attrs ++ record { name = b.attr_name; value = value_by t.kind t.bytes; line = b.attr_line; depth = d } ∷ [] }
partial_tree_after _ _ t b = b

-- nothing has been read
abbrev pub nothing_built : PartialTree
nothing_built = record { cpu_line = 0; objects = []; kind = []; name = []; line = 0; attrs = []; attr_name = []; attr_line = 0 }

-- a value above the greatest number
abbrev pub too_big : Expect → Shape → Bool
too_big (AttrValue d) (Number v) = nat_lt 4294967295 v
too_big _ _ = false

-- the least fault with that of a token
abbrev pub least_fault_after : Option Refusal → Expect → Shape → ℕ → Option Refusal
least_fault_after o e x n = if too_big e x then Some (lesser o (record { part = Oil; line = n; code = code.O4 })) else o

-- a number is at most 4,294,967,295
abbrev pub ValueFits : TokenKind → Type 0
ValueFits (token.Number v) = v < 4294967296
ValueFits _ = Unit {0}

-- what a token adds fits
abbrev pub TakesFit : Expect → TokenKind → Type 0
TakesFit (AttrValue d) k = ValueFits k
TakesFit _ k = Unit {0}

-- an attribute more
abbrev pub with_attr : PartialTree → ℕ → TokenKind → List ℕ → PartialTree
with_attr b d k bs = record b { attrs = b.attrs ++ record { name = b.attr_name; value = value_by k bs; line = b.attr_line; depth = d } ∷ [] }
