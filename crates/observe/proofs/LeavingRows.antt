-- Small runs of ticks, and of tasks that leave and come back, and their events, computed from the definition.
use Rattle.std.proofs.Common.{◌≡◌, true, false, [], ◌∷◌, None, refl}
use Rattle.sloth_base.specs.declared.service.Service.TheVariants as service
use Rattle.sloth_base.specs.declared.service.Event.TheVariants as event
use Rattle.observe.specs.Observe.{stamp, observe}
use Rattle.observe.proofs.Rows.{rows, went, took, arrives}

-- A counter becomes due outside the stretches and inside that of its tick; a line above those of counters' number is a counter's, and one below no task's.
tick-row : observe rows (arrives 6 30 ∷ arrives 8 30 ∷ []) (went 6 300 true true 0 0 None ∷ took 7 30 false ∷ went 8 600 false true 0 0 None ∷ took 9 31 true ∷ took 10 29 true ∷ [])
    ≡ stamp 6 6 (event.Due 0) ∷ stamp 6 6 event.Idle ∷ stamp 7 8 (event.Tick 0) ∷ stamp 8 8 (event.Due 0) ∷ stamp 9 9 (event.Tick 4294967295) ∷ stamp 10 10 (event.Enter 4294967295) ∷ []
unfolding observe
tick-row = refl

-- a task that leaves, one that comes back, a code that is no service's, and masked code at no opening mark
other-row : observe rows []
    (went 7 204 true false 2 2 None ∷ went 8 600 false true 2 1 None ∷ went 9 400 true false 1 1 None ∷ went 10 600 false true 1 1 None ∷ went 11 208 true false 1 1 None ∷ went 12 600 false true 1 1 None
    ∷ went 13 100 true false 1 1 None ∷ went 14 600 false true 1 1 None ∷ [])
    ≡ stamp 7 8 (event.Left 1 service.TerminateTask) ∷ stamp 9 10 (event.Back 0) ∷ stamp 11 12 event.Stray ∷ stamp 13 14 event.Stray ∷ []
unfolding observe
other-row = refl
