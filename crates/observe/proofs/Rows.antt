-- Small runs and their events, computed from the definition.
use Rattle.std.proofs.Common.{◌≡◌, ℕ, Bool, true, false, List, [], ◌∷◌, ◌++◌, take, Option, Some, None, refl}
use Rattle.std.specs.Prelude.{replicate}
use Rattle.sloth_base.specs.declared.service.Service.TheVariants as service
use Rattle.sloth_base.specs.declared.image.MarkKind.TheVariants as kind
use Rattle.sloth_base.specs.declared.service.Arrival.{Arrival}
use Rattle.sloth_base.specs.declared.service.Event.TheVariants as event
use Rattle.sloth_base.specs.declared.numbers.Step.{Step}
use Rattle.observe.specs.Observe.{View, view_from, stamp, observe}

-- the marks that the runs pass, two tasks and a counter
abbrev pub rows : View
rows = view_from (
    record { address = 100; kind = kind.Item; a = 5; b = 1; c = 2 }
    ∷ record { address = 104; kind = kind.Jump; a = 0; b = 1; c = 3 }
    ∷ record { address = 200; kind = kind.Opening; a = 0; b = 0; c = 0 }
    ∷ record { address = 204; kind = kind.Opening; a = 1; b = 0; c = 0 }
    ∷ record { address = 208; kind = kind.Opening; a = 16; b = 0; c = 0 }
    ∷ record { address = 300; kind = kind.Idle; a = 0; b = 0; c = 0 }
    ∷ record { address = 400; kind = kind.Back; a = 0; b = 0; c = 0 }
    ∷ []
    ) (record { tasks = 2; counters = 1 })

-- a step that takes no line, after which all registers hold 7
abbrev pub went : ℕ → ℕ → Bool → Bool → ℕ → ℕ → Option ℕ → Step
went count pc before after cur next touched = record { count = count; pc = pc; entered = None; enabled_before = before; enabled_after = after; cur_before = cur; cur_after = next; touched = touched; regs = replicate 32 7 }

-- the first step behind a line that was taken
abbrev pub took : ℕ → ℕ → Bool → Step
took count line after = record { count = count; pc = 500; entered = Some line; enabled_before = true; enabled_after = after; cur_before = 0; cur_after = 0; touched = None; regs = replicate 32 7 }

abbrev pub arrives : ℕ → ℕ → Arrival
arrives at line = record { at = at; line = line }

-- boot, then one unmasked instruction
abbrev boot : List Step
boot = went 0 0 false false 0 0 None ∷ went 1 4 false true 0 1 None ∷ went 2 100 true true 1 1 None ∷ []

boot-row : observe rows [] boot ≡ stamp 0 1 event.Boot ∷ stamp 2 2 (event.Run 0 1 2 7) ∷ []
unfolding observe
boot-row = refl

-- An arrival inside boot stands behind it. The running task's word is 0, or above the number of tasks: no task.
nobody-row : observe rows (arrives 1 0 ∷ arrives 3 9 ∷ [])
    (went 0 0 false false 0 0 None ∷ went 1 4 false true 0 1 None ∷ went 2 100 true true 0 0 None ∷ went 3 100 true true 3 3 None ∷ went 4 300 true true 0 0 None ∷ went 5 104 true true 1 1 None ∷ [])
    ≡ stamp 0 1 event.Boot ∷ stamp 1 1 (event.Admit 0) ∷ stamp 2 2 (event.Run 4294967295 1 2 7) ∷ stamp 3 3 (event.Admit 4294967295) ∷ stamp 3 3 (event.Run 4294967295 1 2 7) ∷ stamp 4 4 event.Idle ∷ []
unfolding observe
nobody-row = refl

-- a service of four instructions, the third of which touches line 1
abbrev call : List Step
call = went 7 200 true false 1 1 None ∷ went 8 600 false false 1 1 None ∷ went 9 604 false false 1 1 (Some 1) ∷ went 10 608 false true 1 1 None ∷ []

-- Before the stretch, inside it and touched, inside it and not touched, inside it behind the touch, after it.
call-row : observe rows (arrives 6 0 ∷ arrives 7 1 ∷ arrives 8 0 ∷ arrives 8 1 ∷ arrives 9 1 ∷ arrives 10 1 ∷ arrives 11 0 ∷ []) (went 6 300 true true 1 1 None ∷ (call ++ went 11 300 true true 1 1 None ∷ []))
    ≡ stamp 6 6 (event.Admit 0) ∷ stamp 6 6 event.Idle ∷ stamp 7 7 (event.Admit 1) ∷ stamp 8 8 (event.Admit 1) ∷ stamp 9 9 (event.Admit 1) ∷ stamp 7 10 (event.Call 0 service.ActivateTask 7) ∷ stamp 8 8 (event.Admit 0)
    ∷ stamp 10 10 (event.Admit 1) ∷ stamp 11 11 (event.Admit 0) ∷ stamp 11 11 event.Idle ∷ []
unfolding observe
call-row = refl

-- a stretch of one instruction that follows a stretch, and one of no task's line that follows that
follows-row : observe rows (arrives 11 1 ∷ []) (call ++ took 11 1 true ∷ took 12 2 false ∷ went 13 600 false true 0 2 None ∷ [])
    ≡ stamp 7 10 (event.Call 0 service.ActivateTask 7) ∷ stamp 11 11 (event.Admit 1) ∷ stamp 11 11 (event.Enter 1) ∷ stamp 12 13 (event.Enter 4294967295) ∷ []
unfolding observe
follows-row = refl

-- the end of the run cuts the stretch off: only the arrival that found MIE 1 shows
cut-off-row : observe rows (arrives 7 1 ∷ arrives 8 1 ∷ []) (take 3 call) ≡ stamp 7 7 (event.Admit 1) ∷ []
unfolding observe
cut-off-row = refl
