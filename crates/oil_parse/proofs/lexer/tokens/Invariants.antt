use Rattle.std.proofs.Common.{◌≤◌, ◌+◌, ◌-◌, length}
use Rattle.oil_parse.proofs.Cuts.{IsCutterOf}
use Rattle.oil_parse.proofs.lexer.tokens.Given as goal

abbrev pub invariant-loop-cutter : goal.invariant-loop-cutter
invariant-loop-cutter l = record { within : l.cutter.place ≤ length l.cutter.text.now; lines : l.cutter.line ≤ l.cutter.place + 1; goes : IsCutterOf l.initial.cutter.text l.cutter }

abbrev pub decreases-loop-cutter : goal.decreases-loop-cutter
decreases-loop-cutter l = length l.cutter.text.now - l.cutter.place
