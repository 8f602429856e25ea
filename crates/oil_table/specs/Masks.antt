-- The masks of the events that attributes name.
use Rattle.std.specs.Prelude.{ℕ, if◌then◌else◌, bit_or, List, fold, codes}
use Rattle.sloth_base.specs.declared.config.EventDecl.{EventDecl}
use Rattle.oil_parse.specs.declared.tree.OilValue.{OilValue}
use Rattle.oil_parse.specs.declared.tree.OilValue.TheVariants.{Word}
use Rattle.oil_parse.specs.declared.tree.OilAttr.{OilAttr}
use Rattle.oil_table.specs.Objects.{is_use}
use Rattle.oil_table.specs.Events.{mask_named}

-- the mask of the event that a value names, or 0
abbrev pub mask_of_value : List EventDecl → OilValue → ℕ
mask_of_value events (Word word) = mask_named events word
mask_of_value events _ = 0

-- the mask of the event that an attribute lists
abbrev pub listed_mask : List EventDecl → OilAttr → ℕ
listed_mask events attr = if is_use (codes "EVENT") attr then mask_of_value events attr.value else 0

-- the union of the masks of the events that a task lists
abbrev pub event_mask : List EventDecl → List OilAttr → ℕ
event_mask events attrs = fold (λ mask attr. bit_or mask (listed_mask events attr)) 0 attrs
