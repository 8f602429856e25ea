-- Runs of tasks with resources, and lists that are none.
use Rattle.std.proofs.Common.{◌≡◌, ℕ, List, [], ◌∷◌, Bool, true, false, pos, refl}
use Rattle.sloth_base.specs.declared.config.TaskDecl.{TaskDecl}
use Rattle.sloth_base.specs.declared.app.Op.{Op}
use Rattle.sloth_base.specs.declared.app.Op.TheVariants as op
use Rattle.sloth_base.specs.declared.app.ImmKind.TheVariants as imm
use Rattle.sloth_base.specs.declared.app.BranchKind.TheVariants as branch
use Rattle.sloth_base.specs.declared.app.Width.TheVariants as width
use Rattle.sloth_base.specs.declared.service.Event.{Event}
use Rattle.sloth_base.specs.declared.service.Event.TheVariants as event
use Rattle.sloth_base.specs.declared.service.Service.{Service}
use Rattle.sloth_base.specs.declared.service.Service.TheVariants as service
use Rattle.osek_scheduler.proofs.Examples.{full, system, body, code, serve, accepts_behind_boot}

-- a task that is not preemptable
abbrev non_preemptable : (priority : ℕ) (autostart : Bool) (resources : List ℕ) → TaskDecl
non_preemptable priority autostart resources = record (full priority autostart resources 0) { non = true }

-- A task runs and ends.
abbrev one_task : List Event → Bool
one_task = accepts_behind_boot (system (full 1 true [] 0 ∷ []))
    (code (body 0 (op.AluImm imm.Addi 5 0 (pos 5) ∷ serve service.TerminateTask 0 0 ∷ []) [] ∷ []) [])

one_task_runs : one_task (event.Enter 0 ∷ event.Run 0 0 0 5 ∷ event.Left 0 service.TerminateTask ∷ event.Idle ∷ []) ≡ true
one_task_runs = refl

one_task-another_result : one_task (event.Enter 0 ∷ event.Run 0 0 0 6 ∷ event.Left 0 service.TerminateTask ∷ event.Idle ∷ []) ≡ false
one_task-another_result = refl

one_task-no_entry : one_task (event.Run 0 0 0 5 ∷ event.Left 0 service.TerminateTask ∷ event.Idle ∷ []) ≡ false
one_task-no_entry = refl

one_task-idle_before_the_end : one_task (event.Enter 0 ∷ event.Run 0 0 0 5 ∷ event.Idle ∷ event.Idle ∷ []) ≡ false
one_task-idle_before_the_end = refl

-- An activated task of higher priority preempts its activator.
abbrev preemption : List Event → Bool
preemption = accepts_behind_boot (system (full 1 true [] 0 ∷ full 2 false [] 0 ∷ []))
    (code (body 0 (op.Li 5 1 ∷ serve service.ActivateTask 1 0 ∷ op.AluImm imm.Addi 5 5 (pos 1) ∷ serve service.TerminateTask 0 0 ∷ []) []
    ∷ body 1 (op.Li 6 7 ∷ serve service.TerminateTask 0 0 ∷ []) [] ∷ []) [])

preemption_runs : preemption (event.Enter 0 ∷ event.Run 0 0 0 1 ∷ event.Call 0 service.ActivateTask 0 ∷ event.Enter 1 ∷ event.Run 1 1 0 7 ∷ event.Left 1 service.TerminateTask ∷ event.Run 0 0 2 2 ∷ event.Left 0 service.TerminateTask ∷ event.Idle ∷ []) ≡ true
preemption_runs = refl

preemption-the_activator_goes_on : preemption (event.Enter 0 ∷ event.Run 0 0 0 1 ∷ event.Call 0 service.ActivateTask 0 ∷ event.Run 0 0 2 2 ∷ event.Run 1 1 0 7 ∷ event.Left 1 service.TerminateTask ∷ event.Run 0 0 2 2 ∷ event.Left 0 service.TerminateTask ∷ event.Idle ∷ []) ≡ false
preemption-the_activator_goes_on = refl

preemption-another_status : preemption (event.Enter 0 ∷ event.Run 0 0 0 1 ∷ event.Call 0 service.ActivateTask 4 ∷ event.Enter 1 ∷ event.Run 1 1 0 7 ∷ event.Left 1 service.TerminateTask ∷ event.Run 0 0 2 2 ∷ event.Left 0 service.TerminateTask ∷ event.Idle ∷ []) ≡ false
preemption-another_status = refl

preemption-the_preempted_task_lost_its_register : preemption (event.Enter 0 ∷ event.Run 0 0 0 1 ∷ event.Call 0 service.ActivateTask 0 ∷ event.Enter 1 ∷ event.Run 1 1 0 7 ∷ event.Left 1 service.TerminateTask ∷ event.Run 0 0 2 1 ∷ event.Left 0 service.TerminateTask ∷ event.Idle ∷ []) ≡ false
preemption-the_preempted_task_lost_its_register = refl

-- A task that is not suspended is not activated again.
abbrev activated_twice : List Event → Bool
activated_twice = accepts_behind_boot (system (full 1 true [] 0 ∷ []))
    (code (body 0 (serve service.ActivateTask 0 0 ∷ op.AluImm imm.Addi 5 10 (pos 0) ∷ serve service.TerminateTask 0 0 ∷ []) [] ∷ []) [])

activated_twice_runs : activated_twice (event.Enter 0 ∷ event.Call 0 service.ActivateTask 4 ∷ event.Run 0 0 1 4 ∷ event.Left 0 service.TerminateTask ∷ event.Idle ∷ []) ≡ true
activated_twice_runs = refl

activated_twice-status_0 : activated_twice (event.Enter 0 ∷ event.Call 0 service.ActivateTask 0 ∷ event.Run 0 0 1 4 ∷ event.Left 0 service.TerminateTask ∷ event.Idle ∷ []) ≡ false
activated_twice-status_0 = refl

activated_twice-started_again : activated_twice (event.Enter 0 ∷ event.Call 0 service.ActivateTask 4 ∷ event.Run 0 0 1 4 ∷ event.Left 0 service.TerminateTask ∷ event.Enter 0 ∷ []) ≡ false
activated_twice-started_again = refl

-- A task chains itself, and then another that is already ready.
abbrev chaining : List Event → Bool
chaining = accepts_behind_boot (system (full 2 true [] 0 ∷ full 1 false [] 0 ∷ []))
    (code (body 0 (op.AluImm imm.Addi 6 6 (pos 3) ∷ op.Load width.Word 5 0 0 ∷ op.Branch branch.Bne 5 0 0 ∷ op.Li 7 1 ∷ op.Store width.Word 7 0 0 ∷ serve service.ChainTask 0 0 ∷ serve service.TerminateTask 0 0 ∷ serve service.ActivateTask 1 0 ∷ serve service.ChainTask 1 0 ∷ op.AluImm imm.Addi 5 10 (pos 0) ∷ serve service.TerminateTask 0 0 ∷ []) (7 ∷ [])
    ∷ body 1 (serve service.TerminateTask 0 0 ∷ []) [] ∷ []) ((0 ∷ 0 ∷ 0 ∷ 0 ∷ []) ∷ []))

chaining_runs : chaining (event.Enter 0 ∷ event.Run 0 0 0 3 ∷ event.Run 0 0 1 0 ∷ event.Run 0 0 2 0 ∷ event.Run 0 0 3 1 ∷ event.Run 0 0 4 1 ∷ event.Left 0 service.ChainTask ∷ event.Enter 0 ∷ event.Run 0 0 0 3 ∷ event.Run 0 0 1 1 ∷ event.Run 0 0 2 0 ∷ event.Call 0 service.ActivateTask 0 ∷ event.Call 0 service.ChainTask 4 ∷ event.Run 0 0 9 4 ∷ event.Left 0 service.TerminateTask ∷ event.Enter 1 ∷ event.Left 1 service.TerminateTask ∷ event.Idle ∷ []) ≡ true
chaining_runs = refl

chaining-registers_kept_at_an_end : chaining (event.Enter 0 ∷ event.Run 0 0 0 3 ∷ event.Run 0 0 1 0 ∷ event.Run 0 0 2 0 ∷ event.Run 0 0 3 1 ∷ event.Run 0 0 4 1 ∷ event.Left 0 service.ChainTask ∷ event.Enter 0 ∷ event.Run 0 0 0 6 ∷ event.Run 0 0 1 1 ∷ event.Run 0 0 2 0 ∷ event.Call 0 service.ActivateTask 0 ∷ event.Call 0 service.ChainTask 4 ∷ event.Run 0 0 9 4 ∷ event.Left 0 service.TerminateTask ∷ event.Enter 1 ∷ event.Left 1 service.TerminateTask ∷ event.Idle ∷ []) ≡ false
chaining-registers_kept_at_an_end = refl

chaining-no_entry_of_the_other_task : chaining (event.Enter 0 ∷ event.Run 0 0 0 3 ∷ event.Run 0 0 1 0 ∷ event.Run 0 0 2 0 ∷ event.Run 0 0 3 1 ∷ event.Run 0 0 4 1 ∷ event.Left 0 service.ChainTask ∷ event.Enter 0 ∷ event.Run 0 0 0 3 ∷ event.Run 0 0 1 1 ∷ event.Run 0 0 2 0 ∷ event.Call 0 service.ActivateTask 0 ∷ event.Call 0 service.ChainTask 4 ∷ event.Run 0 0 9 4 ∷ event.Left 0 service.TerminateTask ∷ event.Idle ∷ []) ≡ false
chaining-no_entry_of_the_other_task = refl

-- A resource keeps tasks below its ceiling out.
abbrev ceiling : List Event → Bool
ceiling = accepts_behind_boot (system (full 1 true (0 ∷ []) 0 ∷ full 2 false [] 0 ∷ full 3 false (0 ∷ []) 0 ∷ []))
    (code (body 0 (serve service.GetResource 0 0 ∷ serve service.ActivateTask 2 0 ∷ serve service.ActivateTask 1 0 ∷ serve service.ReleaseResource 0 0 ∷ op.AluImm imm.Addi 0 0 (pos 0) ∷ serve service.TerminateTask 0 0 ∷ []) []
    ∷ body 1 (serve service.TerminateTask 0 0 ∷ []) []
    ∷ body 2 (serve service.GetResource 0 0 ∷ serve service.ReleaseResource 0 0 ∷ serve service.TerminateTask 0 0 ∷ []) [] ∷ []) [])

ceiling_runs : ceiling (event.Enter 0 ∷ event.Call 0 service.GetResource 0 ∷ event.Call 0 service.ActivateTask 0 ∷ event.Call 0 service.ActivateTask 0 ∷ event.Call 0 service.ReleaseResource 0 ∷ event.Enter 2 ∷ event.Call 2 service.GetResource 0 ∷ event.Call 2 service.ReleaseResource 0 ∷ event.Left 2 service.TerminateTask ∷ event.Enter 1 ∷ event.Left 1 service.TerminateTask ∷ event.Run 0 0 4 0 ∷ event.Left 0 service.TerminateTask ∷ event.Idle ∷ []) ≡ true
ceiling_runs = refl

ceiling-entered_while_the_resource_is_held : ceiling (event.Enter 0 ∷ event.Call 0 service.GetResource 0 ∷ event.Call 0 service.ActivateTask 0 ∷ event.Enter 2 ∷ event.Call 0 service.ReleaseResource 0 ∷ event.Enter 2 ∷ event.Call 2 service.GetResource 0 ∷ event.Call 2 service.ReleaseResource 0 ∷ event.Left 2 service.TerminateTask ∷ event.Enter 1 ∷ event.Left 1 service.TerminateTask ∷ event.Run 0 0 4 0 ∷ event.Left 0 service.TerminateTask ∷ event.Idle ∷ []) ≡ false
ceiling-entered_while_the_resource_is_held = refl

ceiling-the_lower_of_two_ready_tasks_first : ceiling (event.Enter 0 ∷ event.Call 0 service.GetResource 0 ∷ event.Call 0 service.ActivateTask 0 ∷ event.Call 0 service.ActivateTask 0 ∷ event.Call 0 service.ReleaseResource 0 ∷ event.Enter 1 ∷ event.Call 2 service.GetResource 0 ∷ event.Call 2 service.ReleaseResource 0 ∷ event.Left 2 service.TerminateTask ∷ event.Enter 1 ∷ event.Left 1 service.TerminateTask ∷ event.Run 0 0 4 0 ∷ event.Left 0 service.TerminateTask ∷ event.Idle ∷ []) ≡ false
ceiling-the_lower_of_two_ready_tasks_first = refl

-- A task that is not preemptable gives way at Schedule alone.
abbrev non_preemptive : List Event → Bool
non_preemptive = accepts_behind_boot (system (non_preemptable 1 true [] ∷ full 2 false [] 0 ∷ []))
    (code (body 0 (serve service.ActivateTask 1 0 ∷ op.AluImm imm.Addi 0 0 (pos 0) ∷ serve service.Schedule 0 0 ∷ op.AluImm imm.Addi 0 0 (pos 0) ∷ serve service.TerminateTask 0 0 ∷ []) []
    ∷ body 1 (serve service.TerminateTask 0 0 ∷ []) [] ∷ []) [])

non_preemptive_runs : non_preemptive (event.Enter 0 ∷ event.Call 0 service.ActivateTask 0 ∷ event.Run 0 0 1 0 ∷ event.Call 0 service.Schedule 0 ∷ event.Enter 1 ∷ event.Left 1 service.TerminateTask ∷ event.Back 0 ∷ event.Run 0 0 3 0 ∷ event.Left 0 service.TerminateTask ∷ event.Idle ∷ []) ≡ true
non_preemptive_runs = refl

non_preemptive-preempted : non_preemptive (event.Enter 0 ∷ event.Call 0 service.ActivateTask 0 ∷ event.Enter 1 ∷ event.Call 0 service.Schedule 0 ∷ event.Enter 1 ∷ event.Left 1 service.TerminateTask ∷ event.Back 0 ∷ event.Run 0 0 3 0 ∷ event.Left 0 service.TerminateTask ∷ event.Idle ∷ []) ≡ false
non_preemptive-preempted = refl

non_preemptive-goes_on_without_coming_back : non_preemptive (event.Enter 0 ∷ event.Call 0 service.ActivateTask 0 ∷ event.Run 0 0 1 0 ∷ event.Call 0 service.Schedule 0 ∷ event.Enter 1 ∷ event.Left 1 service.TerminateTask ∷ event.Run 0 0 3 0 ∷ event.Left 0 service.TerminateTask ∷ event.Idle ∷ []) ≡ false
non_preemptive-goes_on_without_coming_back = refl

non_preemptive-comes_back_while_the_other_is_ready : non_preemptive (event.Enter 0 ∷ event.Call 0 service.ActivateTask 0 ∷ event.Run 0 0 1 0 ∷ event.Call 0 service.Schedule 0 ∷ event.Back 0 ∷ event.Left 1 service.TerminateTask ∷ event.Back 0 ∷ event.Run 0 0 3 0 ∷ event.Left 0 service.TerminateTask ∷ event.Idle ∷ []) ≡ false
non_preemptive-comes_back_while_the_other_is_ready = refl

-- RES_SCHEDULER keeps all other tasks out.
abbrev scheduler_resource : List Event → Bool
scheduler_resource = accepts_behind_boot (system (full 1 true [] 0 ∷ full 2 false [] 0 ∷ []))
    (code (body 0 (serve service.GetResource 32 0 ∷ serve service.ActivateTask 1 0 ∷ op.AluImm imm.Addi 0 0 (pos 0) ∷ serve service.ReleaseResource 32 0 ∷ serve service.TerminateTask 0 0 ∷ []) []
    ∷ body 1 (serve service.TerminateTask 0 0 ∷ []) [] ∷ []) [])

scheduler_resource_runs : scheduler_resource (event.Enter 0 ∷ event.Call 0 service.GetResource 0 ∷ event.Call 0 service.ActivateTask 0 ∷ event.Run 0 0 2 0 ∷ event.Call 0 service.ReleaseResource 0 ∷ event.Enter 1 ∷ event.Left 1 service.TerminateTask ∷ event.Left 0 service.TerminateTask ∷ event.Idle ∷ []) ≡ true
scheduler_resource_runs = refl

scheduler_resource-entered_while_it_is_held : scheduler_resource (event.Enter 0 ∷ event.Call 0 service.GetResource 0 ∷ event.Call 0 service.ActivateTask 0 ∷ event.Enter 1 ∷ event.Call 0 service.ReleaseResource 0 ∷ event.Enter 1 ∷ event.Left 1 service.TerminateTask ∷ event.Left 0 service.TerminateTask ∷ event.Idle ∷ []) ≡ false
scheduler_resource-entered_while_it_is_held = refl

-- A resource of a lower ceiling does not lower the level of a task that is not preemptable.
abbrev non_preemptive_ceiling : List Event → Bool
non_preemptive_ceiling = accepts_behind_boot (system (non_preemptable 1 true (0 ∷ []) ∷ full 2 false (0 ∷ []) 0 ∷ full 3 false [] 0 ∷ []))
    (code (body 0 (serve service.GetResource 0 0 ∷ serve service.ActivateTask 2 0 ∷ serve service.ReleaseResource 0 0 ∷ op.AluImm imm.Addi 0 0 (pos 0) ∷ serve service.TerminateTask 0 0 ∷ []) []
    ∷ body 1 (serve service.TerminateTask 0 0 ∷ []) []
    ∷ body 2 (serve service.TerminateTask 0 0 ∷ []) [] ∷ []) [])

non_preemptive_ceiling_runs : non_preemptive_ceiling (event.Enter 0 ∷ event.Call 0 service.GetResource 0 ∷ event.Call 0 service.ActivateTask 0 ∷ event.Call 0 service.ReleaseResource 0 ∷ event.Run 0 0 3 0 ∷ event.Left 0 service.TerminateTask ∷ event.Enter 2 ∷ event.Left 2 service.TerminateTask ∷ event.Idle ∷ []) ≡ true
non_preemptive_ceiling_runs = refl

non_preemptive_ceiling-preempted_after_the_release : non_preemptive_ceiling (event.Enter 0 ∷ event.Call 0 service.GetResource 0 ∷ event.Call 0 service.ActivateTask 0 ∷ event.Call 0 service.ReleaseResource 0 ∷ event.Enter 2 ∷ event.Left 0 service.TerminateTask ∷ event.Enter 2 ∷ event.Left 2 service.TerminateTask ∷ event.Idle ∷ []) ≡ false
non_preemptive_ceiling-preempted_after_the_release = refl

-- ---- what is not there

-- one item, which is no service, and the end of the task
abbrev single : Op → ℕ → Bool
single operation result = accepts_behind_boot (system (full 1 true [] 0 ∷ []))
    (code (body 0 (operation ∷ serve service.TerminateTask 0 0 ∷ []) (1 ∷ []) ∷ []) ((0 ∷ []) ∷ []))
    (event.Enter 0 ∷ event.Run 0 0 0 result ∷ event.Left 0 service.TerminateTask ∷ event.Idle ∷ [])

label-runs : single (op.Jump 0) 0 ≡ true
label-runs = refl

label-not_there : single (op.Jump 1) 0 ≡ false
label-not_there = refl

label-not_there_in_a_branch_that_is_not_taken : single (op.Branch branch.Bne 0 0 1) 0 ≡ false
label-not_there_in_a_branch_that_is_not_taken = refl

register-runs : single (op.AluImm imm.Addi 29 5 (pos 1)) 1 ≡ true
register-runs = refl

register-stack_pointer : single (op.AluImm imm.Addi 5 2 (pos 1)) 1 ≡ false
register-stack_pointer = refl

register-scratch : single (op.Lui 30 1) 4096 ≡ false
register-scratch = refl

data-runs : single (op.Load width.Byte 5 0 0) 0 ≡ true
data-runs = refl

data-outside : single (op.Load width.Byte 5 0 1) 0 ≡ false
data-outside = refl

function-not_there : single (op.Invoke 1) 0 ≡ false
function-not_there = refl

-- a service with status 0, and the end of the task
abbrev called : Service → ℕ → Bool
called s object = accepts_behind_boot (system (full 1 true [] 0 ∷ full 2 false [] 0 ∷ [])) (code (body 0 (serve s object 0 ∷ serve service.TerminateTask 0 0 ∷ []) [] ∷ []) [])
    (event.Enter 0 ∷ event.Call 0 s 0 ∷ [])

task-runs : called service.ActivateTask 1 ≡ true
task-runs = refl

task-not_there : called service.ActivateTask 2 ≡ false
task-not_there = refl

resource-runs : called service.GetResource 1 ≡ true
resource-runs = refl

resource-not_there : called service.GetResource 2 ≡ false
resource-not_there = refl

resource-not_held : called service.ReleaseResource 0 ≡ false
resource-not_held = refl

-- the second task has no body
body-not_there : accepts_behind_boot (system (full 1 true [] 0 ∷ full 2 false [] 0 ∷ [])) (code (body 0 (serve service.ActivateTask 1 0 ∷ []) [] ∷ []) [])
    (event.Enter 0 ∷ event.Call 0 service.ActivateTask 0 ∷ event.Enter 1 ∷ []) ≡ false
body-not_there = refl

-- Resources are released in the reverse order of their takings.
abbrev releases : (first second : ℕ) → Bool
releases first second = accepts_behind_boot (system (full 1 true (0 ∷ 1 ∷ []) 0 ∷ []))
    (code (body 0 (serve service.GetResource 0 0 ∷ serve service.GetResource 1 0 ∷ serve service.ReleaseResource first 0 ∷ serve service.ReleaseResource second 0 ∷ []) [] ∷ []) [])
    (event.Enter 0 ∷ event.Call 0 service.GetResource 0 ∷ event.Call 0 service.GetResource 0 ∷ event.Call 0 service.ReleaseResource 0 ∷ event.Call 0 service.ReleaseResource 0 ∷ [])

releases-in_reverse : releases 1 0 ≡ true
releases-in_reverse = refl

releases-in_the_order_taken : releases 0 1 ≡ false
releases-in_the_order_taken = refl
