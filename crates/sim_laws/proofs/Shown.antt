-- The states of tasks where the relation stands.
use Rattle.std.proofs.Common.{◌≡◌, ℕ, refl, subst}
use Rattle.std.specs.Prelude.{◌==◌, slice_index, if◌then◌else◌}
use Rattle.sloth_base.specs.Machine.{State}
use Rattle.sloth_region.specs.Layout.{active, wait}
use Rattle.rv32_instr.specs.Ram.{word_at}
use Rattle.rv32_machine.specs.Run.{state_with_arrivals}
use Rattle.osek_scheduler.specs.declared.state.TaskState.{TaskState}
use Rattle.osek_scheduler.specs.declared.state.TaskState.TheVariants as mode
use Rattle.osek_scheduler.specs.State.{System, task, opening}
use Rattle.osek_scheduler.proofs.Leading.{one_end}
use Rattle.sim_relation.specs.Build.{Build, with_passed}
use Rattle.sim_relation.specs.ServiceWords.{active_word, IsWaitWord}
use Rattle.sim_relation.specs.Stands.{Stands, AreLineBytes}
use Rattle.sloth_inspect.specs.States.{state_in}
use Rattle.sim_laws.proofs.KernelRuns.{stands_kernel}
use Rattle.sim_laws.specs.TaskStates.{AreTaskStates, ShowsSystem, KernelHasTaskStates}

-- a task's state, as its service words and the bytes of its line show it
abbrev shown : (activity mask pending enabled : ℕ) → TaskState
shown activity mask pending enabled =
    if activity == 1 then mode.Active
    else if enabled == 1 then (if pending == 1 then mode.Ready else mode.Suspended)
    else mode.Waiting mask

-- where they are those of a state, it is this one
shown_is : (m : TaskState) (activity mask pending enabled : ℕ) → activity ≡ active_word m → IsWaitWord m mask → AreLineBytes m pending enabled
    → shown activity mask pending enabled ≡ m
shown_is mode.Suspended activity mask pending enabled is waits line = rw (is, line.0, line.1) refl
shown_is mode.Ready activity mask pending enabled is waits line = rw (is, line.0, line.1) refl
shown_is mode.Active activity mask pending enabled is waits line = rw is refl
shown_is (mode.Waiting events) activity mask pending enabled is waits line = rw (is, line, waits) refl

pub states_shown : (b : Build) (state : State) (s : System) → Stands b state s → AreTaskStates b.config state.core s
unfolding state_in
states_shown b state s stands t declared =
    let words = stands.words t declared in
    shown_is (task s t).state (word_at state.core.ram (active t)) (word_at state.core.ram (wait t)) (slice_index state.core.pending t)
    (slice_index state.core.enabled t) words.activity words.wait_mask (stands.lines.each t declared)

pub system_shown : (b : Build) (state : State) (s : System) → Stands b state s → ShowsSystem b.config state.core s
system_shown b state s stands = record {
  task_states = states_shown b state s stands;
  task_events = λ t declared. (stands.words t declared).event_mask;
  counter_values = stands.clock.values;
  alarm_ticks = stands.clock.left;
}

pub kernel_shows : KernelHasTaskStates
kernel_shows b image kernel = record {
  each = λ arrivals n count state s are before after enabled leads.
      let found = stands_kernel b image kernel arrivals n count state are before after enabled in
      let same : found.0 ≡ s = one_end b.config b.app _ (opening b.config b.app) found.0 s found.1 leads in
      subst (λ (x : System). ShowsSystem b.config (state_with_arrivals arrivals count state).core x) same
      (system_shown (with_passed b (λ t. 0)) (state_with_arrivals arrivals count state) found.0 found.2.stands);
}
