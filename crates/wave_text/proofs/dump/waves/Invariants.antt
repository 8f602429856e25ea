use Rattle.wave_text.proofs.Waving.{IsDumping}
use Rattle.wave_text.proofs.dump.waves.Given as goal

abbrev pub invariant-loop-count : goal.invariant-loop-count
invariant-loop-count l = IsDumping l.fn.image l.fn.arrivals l.count l.sampler l.dump l.old l.words
