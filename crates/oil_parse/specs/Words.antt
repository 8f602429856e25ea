-- The words of a tree: a letter or `_`, then letters, digits and `_` (OIL 2.5, section 5).
use Rattle.std.specs.Prelude.{All}
use Rattle.sloth_base.specs.ImageRange.{IsWord}
use Rattle.oil_parse.specs.declared.tree.OilValue.{OilValue}
use Rattle.oil_parse.specs.declared.tree.OilValue.TheVariants as value
use Rattle.oil_parse.specs.declared.tree.OilAttr.{OilAttr}
use Rattle.oil_parse.specs.declared.tree.OilObject.{OilObject}

-- a value that is a word is one
abbrev pub IsValueOfWord : OilValue → Type 0
IsValueOfWord (value.Word bytes) = IsWord bytes
IsValueOfWord _ = Unit {0}

-- an attribute whose name and word are words
pub record IsAttrOfWords (attr : OilAttr) : Type 0 where
  pub name : IsWord attr.name
  pub value : IsValueOfWord attr.value

-- an object whose kind, name and attributes are words
pub record IsObjectOfWords (object : OilObject) : Type 0 where
  pub kind : IsWord object.kind
  pub name : IsWord object.name
  pub attrs : All IsAttrOfWords object.attrs
