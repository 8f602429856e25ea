use Rattle.std.proofs.Common.{◌≡◌, ◌++◌, drop}
use Rattle.orti_text.specs.Tables.{number_lines}
use Rattle.orti_text.proofs.tables.push_number_lines.Given as goal

abbrev pub invariant-loop-number : goal.invariant-loop-number
invariant-loop-number l = l.text.items ++ number_lines l.number (drop l.number l.names) ≡ l.fn.text.items ++ number_lines 0 l.names
