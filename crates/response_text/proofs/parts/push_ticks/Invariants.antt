use Rattle.std.proofs.Common.{◌≡◌, ◌++◌}
use Rattle.response_text.specs.Parts.{tick_lines}
use Rattle.response_text.proofs.parts.push_ticks.Given as goal

abbrev pub invariant-loop-c : goal.invariant-loop-c
invariant-loop-c l = l.text.items ≡ l.initial.text.items ++ tick_lines l.config l.costs l.counts l.c
