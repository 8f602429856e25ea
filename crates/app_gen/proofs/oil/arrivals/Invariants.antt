use Rattle.std.proofs.Common.{◌≡◌, ◌*◌}
use Rattle.app_gen.specs.Draws.{draw}
use Rattle.app_gen.specs.Load.{moment_before, first_arrivals}
use Rattle.app_gen.proofs.oil.arrivals.Given as goal

abbrev pub invariant-loop-number : goal.invariant-loop-number
invariant-loop-number l =
    (l.draws ≡ draw l.fn.draws (2 * l._number)) × (l.at ≡ moment_before l.fn.draws l._number)
    × (l.arrivals.items ≡ first_arrivals l.fn.draws l.tasks l._number)
