use Rattle.std.proofs.Common.{◌≡◌, ◌++◌, drop, map}
use Rattle.std.specs.List.{flat_map}
use Rattle.orti_text.specs.OrtiTable.{declared_attribute}
use Rattle.orti_text.specs.Tables.{attribute_text}
use Rattle.orti_text.proofs.tables.push_attributes.Given as goal

abbrev pub invariant-loop-attribute : goal.invariant-loop-attribute
invariant-loop-attribute l = l.text.items ++ flat_map attribute_text (map (declared_attribute l.config) (drop l.attribute-index l.list))
    ≡ l.fn.text.items ++ flat_map attribute_text (map (declared_attribute l.config) l.list)
