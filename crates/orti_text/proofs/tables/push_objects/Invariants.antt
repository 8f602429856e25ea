use Rattle.std.proofs.Common.{◌≡◌, ◌++◌, drop}
use Rattle.std.specs.List.{flat_map}
use Rattle.orti_text.specs.OrtiTable.{objects_of_kind}
use Rattle.orti_text.specs.Tables.{object_text}
use Rattle.orti_text.proofs.tables.push_objects.Given as goal

abbrev pub invariant-loop-kind : goal.invariant-loop-kind
invariant-loop-kind l = l.text.items ++ flat_map object_text (flat_map (objects_of_kind l.config l.plan) (drop l.kind-index l.kinds))
    ≡ l.fn.text.items ++ flat_map object_text (flat_map (objects_of_kind l.config l.plan) l.kinds)
