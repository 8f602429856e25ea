use Rattle.run_windows.specs.Cycles.{AreRates}
use Rattle.run_windows.proofs.curves.raise_rates.Given as goal

abbrev pub invariant-loop-turn : goal.invariant-loop-turn
invariant-loop-turn l = AreRates l.costs l.window l.rates

abbrev pub invariant-loop-j : goal.invariant-loop-j
invariant-loop-j l = AreRates l.costs l.window l.rates
