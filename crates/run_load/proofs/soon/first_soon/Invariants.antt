use Rattle.std.proofs.Common.{◌≡◌, drop}
use Rattle.run_load.specs.Soon.{no_lasts, first_soon}
use Rattle.run_load.proofs.soon.first_soon.Given as goal

abbrev pub invariant-loop-place : goal.invariant-loop-place
invariant-loop-place l = first_soon l.load l.lasts l.place (drop l.place l.arrivals) ≡ first_soon l.load no_lasts 0 l.arrivals
