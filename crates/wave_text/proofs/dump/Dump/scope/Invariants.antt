use Rattle.wave_text.specs.Changes.{scope_changes}
use Rattle.wave_text.specs.Waves.{HasNewEntries}
use Rattle.wave_text.proofs.dump.Dump.scope.Given as goal

abbrev pub invariant-loop-place : goal.invariant-loop-place
invariant-loop-place l = HasNewEntries l.fn.self l.self (scope_changes l.fn.scope l.before l.after l.place)
