use Rattle.std.proofs.Common.{◌≡◌, length}
use Rattle.image_file.specs.Reading.{NamesStand}
use Rattle.image_file.proofs.read.read_names.Given as goal

abbrev pub invariant-loop : goal.invariant-loop
invariant-loop l = NamesStand l.bytes l.at l.end l.names.items × (length l.names.items ≡ l.counter)
