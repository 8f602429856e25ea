use Rattle.std.proofs.Common.{◌≡◌, drop}
use Rattle.load_text.specs.Loads.{said}
use Rattle.load_text.proofs.load_line.said.Given as goal

abbrev pub invariant-loop-entry : goal.invariant-loop-entry
invariant-loop-entry l = said l.form l.owner (drop l.entry-index l.load) ≡ said l.form l.owner l.load
