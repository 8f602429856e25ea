use Rattle.std.proofs.Common.{◌≡◌, ◌++◌, drop, map}
use Rattle.std.specs.Prelude.{filter}
use Rattle.asm_scopes.specs.Statements.{is_data}
use Rattle.asm_parse.specs.Apps.{symbol_of}
use Rattle.asm_parse.proofs.apps.symbols.Given as goal

abbrev pub invariant-loop-line : goal.invariant-loop-line
invariant-loop-line l = l.symbols.items ++ map symbol_of (filter is_data (drop l.line-index l.lines)) ≡ map symbol_of (filter is_data l.lines)
