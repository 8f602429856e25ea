use Rattle.std.proofs.Common.{◌≡◌, ◌++◌, drop, map}
use Rattle.std.specs.List.{flat_map}
use Rattle.orti_text.specs.OrtiTable.{declared_kind}
use Rattle.orti_text.specs.Tables.{kind_text}
use Rattle.orti_text.proofs.tables.push_kinds.Given as goal

abbrev pub invariant-loop-kind : goal.invariant-loop-kind
invariant-loop-kind l = l.text.items ++ flat_map kind_text (map (declared_kind l.config) (drop l.kind-index l.kinds))
    ≡ l.fn.text.items ++ flat_map kind_text (map (declared_kind l.config) l.kinds)
