-- What a way stops at, as the code has it.
use Rattle.debug_ways.specs.Causes.{Wish}
use Rattle.debug_ways.specs.declared.standing.Wanted.{Wanted}

abbrev pub wanted_wish : Wanted → Wish
wanted_wish wanted = record { points = wanted.points.now; target = wanted.target; from = wanted.from; to = wanted.to }
