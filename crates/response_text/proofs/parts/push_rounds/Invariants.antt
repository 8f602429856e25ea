use Rattle.std.proofs.Common.{◌≡◌, ◌++◌}
use Rattle.response_text.specs.Parts.{round_lines}
use Rattle.response_text.proofs.parts.push_rounds.Given as goal

abbrev pub invariant-loop-t : goal.invariant-loop-t
invariant-loop-t l = l.text.items ≡ l.initial.text.items ++ round_lines l.config l.costs l.works l.start l.parts l.t
