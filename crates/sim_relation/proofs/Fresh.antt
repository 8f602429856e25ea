-- The priority at which a task is entered, and the stack with it on top.
use Rattle.std.proofs.Common.{◌≡◌, ℕ, zero, suc, ◌<◌, ◌≤◌, List, [], ◌∷◌, ap, ◌∙◌, arith, Bool, true, false, cond, max, get_or}
use Rattle.std.specs.Prelude.{map}
use Rattle.sloth_base.specs.declared.config.Config.{Config}
use Rattle.sloth_base.specs.declared.config.TaskDecl.{TaskDecl}
use Rattle.osek_scheduler.specs.State.{Task, System}
use Rattle.sloth_base.specs.Named.{declaration, undeclared_task}
use Rattle.code_rules.specs.Code.{is_in}
use Rattle.osek_scheduler.specs.Priority.{greatest, highest_priority, ceiling, current_priority}
use Rattle.sim_induction.specs.Mirror.{priority_of}
use Rattle.sim_relation.specs.Build.{Build}
use Rattle.sim_relation.specs.Stands.{IsActiveTask, AreFalling}
use Rattle.sim_relation.proofs.Tops.{is_in-head}

greatest_holds : (ds : List TaskDecl) (t : ℕ) → (get_or ds t undeclared_task).priority ≤ greatest (map (λ (d : TaskDecl). d.priority) ds)
greatest_holds [] t = omega arith
greatest_holds (d ∷ ds) zero = omega arith
greatest_holds (d ∷ ds) (suc t) = let a = greatest_holds ds t in omega arith

by_scheduling : (p h : ℕ) → p ≤ h → (non : Bool) → max p (max 0 (cond non h 0)) ≡ cond non h p
by_scheduling p h l true = omega arith
by_scheduling p h l false = omega arith

-- a task that holds nothing, with its internal resource where its scheduling is NON
pub start_priority : (config : Config) (t : ℕ) (own : Task) → own.held ≡ [] → own.raised ≡ (declaration config t).non
    → current_priority config (declaration config t) own ≡ cond (declaration config t).non (highest_priority config) (declaration config t).priority
start_priority config t own h r =
    let p = (declaration config t).priority in
    ap (λ (x : List ℕ). max p (max (greatest (map (ceiling config) x)) (cond own.raised (highest_priority config) 0))) h
    ∙ ap (λ (x : Bool). max p (max 0 (cond x (highest_priority config) 0))) r
    ∙ by_scheduling p (highest_priority config) (greatest_holds config.tasks t) (declaration config t).non

-- a task of higher priority may go on top of the stack
pub falling_cons : (b : Build) (s : System) (t : ℕ) (stack : List ℕ) → IsActiveTask b s t
    → ((u : ℕ) → is_in u stack ≡ true → priority_of b.config s u < (declaration b.config t).priority) → AreFalling b s stack → AreFalling b s (t ∷ stack)
falling_cons b s t [] a h f = a
falling_cons b s t (u ∷ below) a h f = (a, h u (is_in-head u below), f)
