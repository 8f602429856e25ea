use Rattle.std.proofs.Common.{◌≡◌, ◌++◌, drop}
use Rattle.std.specs.Prelude.{filter}
use Rattle.orti_text.specs.OrtiTable.{has_object}
use Rattle.orti_text.proofs.tables.push_present.Given as goal

abbrev pub invariant-loop-kind : goal.invariant-loop-kind
invariant-loop-kind l = l.present.items ++ filter (has_object l.config) (drop l.kind-index l.kinds) ≡ l.fn.present.items ++ filter (has_object l.config) l.kinds
