use Rattle.std.proofs.Common.{◌≡◌, ◌++◌, drop}
use Rattle.std.specs.List.{flat_map}
use Rattle.orti_text.specs.OrtiTable.{numbered_objects}
use Rattle.orti_text.specs.Tables.{object_text}
use Rattle.orti_text.proofs.tables.push_named.Given as goal

abbrev pub invariant-loop-n : goal.invariant-loop-n
invariant-loop-n l = l.text.items ++ flat_map object_text (numbered_objects l.config l.plan l.kind l.n (drop l.n l.names))
    ≡ l.fn.text.items ++ flat_map object_text (numbered_objects l.config l.plan l.kind 0 l.names)
