-- Short lists of events on which the definitions are tried: runs, why a `call` that finds the task fresh is excepted, and lists that are
-- no run and block more than once. The checker computes each state.
use Rattle.std.proofs.Common.{◌≡◌, ℕ, ◌⊎◌, List, [], ◌∷◌, ◌++◌, Bool, true, false, not, ◌&&◌, leb, Option, Some, None, map, refl, arith, inl, inr}
use Rattle.sloth_base.specs.declared.config.Config.{Config}
use Rattle.sloth_base.specs.declared.app.App.{App}
use Rattle.sloth_base.specs.declared.app.Op.TheVariants as op
use Rattle.sloth_base.specs.declared.service.Event.{Event}
use Rattle.sloth_base.specs.declared.service.Event.TheVariants as event
use Rattle.sloth_base.specs.declared.service.Stamped.{Stamped}
use Rattle.sloth_base.specs.declared.service.Service.TheVariants as service
use Rattle.osek_scheduler.specs.State.{System, task, opening}
use Rattle.code_rules.specs.Code.{is_in}
use Rattle.osek_scheduler.specs.Next.{is_ready}
use Rattle.osek_scheduler.proofs.SystemAfter.{system_after}
use Rattle.osek_scheduler.proofs.Examples.{full, system, body, code, serve, accepts}
use Rattle.osek_scheduler.proofs.Next.{step_of}
use Rattle.osek_scheduler.specs.Apart.{priority_of, static_priority}
use Rattle.osek_blocking.specs.Blocking.{events_up_to_entry, IsRaisedTo, FindsFresh, IsBlockedBy, BlocksOnce}
use Rattle.osek_blocking.specs.Protocol.{GetsResource}

-- ---- two tasks that share resource 0: Low, 0, which starts by itself, and High, 1

abbrev two : Config
two = system (full 1 true (0 ∷ []) 0 ∷ full 2 false (0 ∷ []) 0 ∷ [])

abbrev two_app : App
two_app = code (body 0 (serve service.GetTaskID 0 0 ∷ serve service.GetResource 0 0 ∷ op.Li 5 1 ∷ serve service.ReleaseResource 0 0 ∷ serve service.TerminateTask 0 0 ∷ []) []
    ∷ body 1 (serve service.TerminateTask 0 0 ∷ []) [] ∷ []) []

-- the state behind events, or the opening where they have none
abbrev state_of : Config → App → Option System → System
state_of config app None = opening config app
state_of config app (Some s) = s

abbrev after : Config → App → List Event → System
after config app events = state_of config app (system_after config app events (opening config app))

-- each is stamped with count 0
abbrev stamped : Event → Stamped
stamped e = record { stamp = record { from = 0; at = 0 }; event = e }

-- High is Ready
abbrev high_waits : System → Bool
high_waits s = is_ready (task s 1).state

-- Low's current priority is at least High's static priority
abbrev low_is_raised : System → Bool
low_is_raised s = leb (static_priority two 1) (priority_of two 0 (task s 0))

-- Low holds the resource as High is admitted, and goes on up to its release.
abbrev holding : List Event
holding = event.Boot ∷ event.Enter 0 ∷ event.Call 0 service.GetTaskID 0 ∷ event.Call 0 service.GetResource 0 ∷ event.Admit 1 ∷ []

blocked_runs : accepts two two_app (holding ++ (event.Run 0 0 2 1 ∷ event.Call 0 service.ReleaseResource 0 ∷ event.Enter 1 ∷ event.Left 1 service.TerminateTask ∷ event.Left 0 service.TerminateTask ∷ event.Idle ∷ [])) ≡ true
blocked_runs = refl

blocked-low_is_raised : (high_waits (after two two_app holding) && low_is_raised (after two two_app holding)) ≡ true
blocked-low_is_raised = refl

blocked-released_and_not_entered : accepts two two_app (holding ++ (event.Run 0 0 2 1 ∷ event.Call 0 service.ReleaseResource 0 ∷ event.Left 0 service.TerminateTask ∷ [])) ≡ false
blocked-released_and_not_entered = refl

-- ---- the exception

-- High is admitted while a service of Low is already running: the `call` finds Low's priority below High's, and High fresh.
abbrev passing : List Event
passing = event.Boot ∷ event.Enter 0 ∷ event.Admit 1 ∷ []

passing_runs : accepts two two_app (passing ++ (event.Call 0 service.GetTaskID 0 ∷ event.Enter 1 ∷ [])) ≡ true
passing_runs = refl

passing-low_is_not_raised : (not (low_is_raised (after two two_app passing)) && is_in 1 (after two two_app passing).fresh) ≡ true
passing-low_is_not_raised = refl

-- A second call does not pass High over.
passing-twice : accepts two two_app (passing ++ (event.Call 0 service.GetTaskID 0 ∷ event.Call 0 service.GetResource 0 ∷ [])) ≡ false
passing-twice = refl

-- The call that passes High over may be the one that takes the resource. Then the blocking begins with it, so the first sentence counts it.
abbrev taking : List Event
taking = event.Boot ∷ event.Enter 0 ∷ event.Call 0 service.GetTaskID 0 ∷ event.Admit 1 ∷ event.Call 0 service.GetResource 0 ∷ []

taking_runs : accepts two two_app (taking ++ (event.Run 0 0 2 1 ∷ event.Call 0 service.ReleaseResource 0 ∷ event.Enter 1 ∷ [])) ≡ true
taking_runs = refl

taking-low_is_raised : (high_waits (after two two_app taking) && low_is_raised (after two two_app taking)) ≡ true
taking-low_is_raised = refl

-- ---- the events up to an entry

up_to_it : events_up_to_entry 1 (stamped (event.Enter 0) ∷ stamped (event.Run 0 0 2 1) ∷ stamped (event.Enter 1) ∷ stamped (event.Left 1 service.TerminateTask) ∷ []) ≡ stamped (event.Enter 0) ∷ stamped (event.Run 0 0 2 1) ∷ []
up_to_it = refl

-- ---- what the definition says of a run: whoever blocks High is Low

low_blocks : (b : ℕ) → IsBlockedBy two two_app 1 (after two two_app holding) (events_up_to_entry 1 (stamped (event.Run 0 0 2 1) ∷ stamped (event.Enter 1) ∷ [])) b → 0 ≡ b
low_blocks b h = h.of_one [] [] (stamped (event.Run 0 0 2 1)) 0 refl (record { works = refl; lower = omega arith })

-- ---- lists that are no run

-- Low runs on over High, which was admitted: a `run` finds Low's priority below High's.
abbrev running_on : List Event
running_on = event.Run 0 0 2 1 ∷ []

running_on-nobody_may : (b : ℕ) → ¬ (IsBlockedBy two two_app 1 (after two two_app passing) (events_up_to_entry 1 (map stamped running_on)) b)
running_on-nobody_may b h =
    refuses (h.raised [] [] (stamped (event.Run 0 0 2 1)) 0 (after two two_app passing) refl (record { works = refl; lower = omega arith }) refl)
  where
    refuses : IsRaisedTo two (after two two_app passing) 0 1 ⊎ FindsFresh (event.Run 0 0 2 1) (after two two_app passing) 1 → ⊥
    refuses (inl le) = absurd (omega (arith, le))
    refuses (inr fresh) = let e = fresh.0 in absurd cc

running_on-is_refused : ¬ (BlocksOnce two two_app (map stamped (passing ++ running_on)))
running_on-is_refused h =
    let begun = after two two_app (event.Boot ∷ []) in
    let entered = after two two_app (event.Boot ∷ event.Enter 0 ∷ []) in
    let b =
    h (map stamped (event.Boot ∷ event.Enter 0 ∷ [])) (map stamped running_on) (stamped (event.Admit 1)) 1 entered (after two two_app passing) refl
    (begun, step_of two two_app (opening two two_app) begun event.Boot refl, (entered, step_of two two_app begun entered (event.Enter 0) refl, refl))
    (record { declared = omega arith; step = step_of two two_app entered (after two two_app passing) (event.Admit 1) refl; not_before = λ e. cc; behind = refl }) in
    running_on-nobody_may b.0 b.1

-- ---- three tasks

abbrev three : Config
three = system (full 1 true [] 0 ∷ full 2 true [] 0 ∷ full 3 false [] 0 ∷ [])

abbrev three_app : App
three_app = code (body 0 (op.Li 5 1 ∷ serve service.TerminateTask 0 0 ∷ []) [] ∷ body 1 (op.Li 5 1 ∷ serve service.TerminateTask 0 0 ∷ []) []
    ∷ body 2 (serve service.TerminateTask 0 0 ∷ []) [] ∷ []) []

-- Two tasks run before the highest, which was admitted, is entered.
abbrev both_run : List Event
both_run = event.Run 0 0 0 1 ∷ event.Run 1 1 0 1 ∷ event.Enter 2 ∷ []

both_run-is_no_run : accepts three three_app (event.Boot ∷ event.Admit 2 ∷ both_run) ≡ false
both_run-is_no_run = refl

both_run-nobody_may : (s : System) (b : ℕ) → ¬ (IsBlockedBy three three_app 2 s (events_up_to_entry 2 (map stamped both_run)) b)
both_run-nobody_may s b h =
    refuses (h.of_one [] (stamped (event.Run 1 1 0 1) ∷ []) (stamped (event.Run 0 0 0 1)) 0 refl (record { works = refl; lower = omega arith }))
    (h.of_one (stamped (event.Run 0 0 0 1) ∷ []) [] (stamped (event.Run 1 1 0 1)) 1 refl (record { works = refl; lower = omega arith }))
  where
    refuses : 0 ≡ b → 1 ≡ b → ⊥
    refuses e f = omega (arith, e, f)

both_run-is_refused : ¬ (BlocksOnce three three_app (map stamped (event.Boot ∷ event.Admit 2 ∷ both_run)))
both_run-is_refused h =
    let begun = after three three_app (event.Boot ∷ []) in
    let due = after three three_app (event.Boot ∷ event.Admit 2 ∷ []) in
    let b =
    h (map stamped (event.Boot ∷ [])) (map stamped both_run) (stamped (event.Admit 2)) 2 begun due refl
    (begun, step_of three three_app (opening three three_app) begun event.Boot refl, refl)
    (record { declared = omega arith; step = step_of three three_app begun due (event.Admit 2) refl; not_before = λ e. cc; behind = refl }) in
    both_run-nobody_may due b.0 b.1

-- ---- GetResource

another_status_is_refused : ¬ (GetsResource (event.Call 0 service.GetResource 4))
another_status_is_refused h = let e = h refl in absurd cc

leaving_is_refused : ¬ (GetsResource (event.Left 0 service.GetResource))
leaving_is_refused h = h refl
