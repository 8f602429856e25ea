-- The events that a task refers to.
use Rattle.std.specs.Prelude.{ℕ, Bool, ◌&&◌, List, codes}
use Rattle.sloth_base.specs.declared.config.EventDecl.{EventDecl}
use Rattle.oil_parse.specs.declared.tree.OilValue.TheVariants.{Word}
use Rattle.oil_parse.specs.declared.tree.OilAttr.{OilAttr}
use Rattle.oil_table.specs.Objects.{is_use}
use Rattle.oil_rules.specs.TaskFaults.{is_event_clash}

-- the attributes of a task before one, and the events of the tree
pub record ReferenceContext : Type 0 where
  pub events : List EventDecl
  pub attrs : List OilAttr

-- an attribute refers to another event that shares a bit with this one
abbrev pub refers_to_clash : List EventDecl → List ℕ → OilAttr → Bool
refers_to_clash events word attr = is_use (codes "EVENT") attr && is_event_clash events attr.value (Word word)
