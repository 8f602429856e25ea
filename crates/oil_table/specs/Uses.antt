-- The uses of attributes before one, at one depth: 0 is an object's own block, 1 a block behind a value there.
use Rattle.std.specs.Prelude.{◌≡◌, ℕ, Bool, false, ◌&&◌, ◌==◌, List, Option, Some, None}
use Rattle.std.specs.List.{list_any}
use Rattle.std.specs.Str.{bytes_eq}
use Rattle.std.specs.Borrow.{Bor}
use Rattle.indexmap.specs.IndexSet.{IndexSet}
use Rattle.oil_parse.specs.declared.tree.OilAttr.{OilAttr}
use Rattle.oil_table.specs.declared.table.Attribute.{Attribute}
use Rattle.oil_table.specs.Table.{is_single}
use Rattle.oil_table.specs.Objects.{is_use_at}

-- the attributes before one, of which those at this depth count
pub record EarlierAttrs : Type 0 where
  pub depth : ℕ
  pub attrs : List OilAttr

-- these are the names of the attributes that count
abbrev pub AreNamesUsed : {S : Type 0} → ℕ → List OilAttr → IndexSet (Bor (List ℕ)) S → Type 0
AreNamesUsed depth attrs names = (name : List ℕ) → list_any (λ k. bytes_eq k.now name) names.keys ≡ list_any (is_use_at depth name) attrs

-- a second use of an attribute that may be used once
abbrev pub is_second : ℕ → Option Attribute → List OilAttr → OilAttr → Bool
is_second depth None before attr = false
is_second depth (Some row) before attr = is_single row && ((attr.depth == depth) && list_any (is_use_at depth attr.name) before)
