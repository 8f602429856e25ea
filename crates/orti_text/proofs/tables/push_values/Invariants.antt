use Rattle.std.proofs.Common.{◌≡◌, ◌++◌, drop, map}
use Rattle.std.specs.List.{flat_map}
use Rattle.orti_text.specs.OrtiTable.{named_value}
use Rattle.orti_text.specs.Tables.{value_line}
use Rattle.orti_text.proofs.tables.push_values.Given as goal

abbrev pub invariant-loop-attribute : goal.invariant-loop-attribute
invariant-loop-attribute l = l.text.items ++ flat_map value_line (map (named_value l.config l.plan l.n) (drop l.attribute-index l.list))
    ≡ l.fn.text.items ++ flat_map value_line (map (named_value l.config l.plan l.n) l.list)
