use Rattle.std.proofs.Common.{◌≡◌, ◌+◌, not, drop}
use Rattle.std.specs.List.{prefix_len}
use Rattle.asm_scopes.specs.Statements.{closes_body}
use Rattle.asm_scopes.proofs.statements.count_before_end.Given as goal

abbrev pub invariant-loop-n : goal.invariant-loop-n
invariant-loop-n l = l.n + prefix_len (λ x. not (closes_body x)) (drop l.n l.lines) ≡ prefix_len (λ x. not (closes_body x)) l.lines
