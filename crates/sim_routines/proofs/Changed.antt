-- A service goes back with a status and has changed the events of a task, that of its caller or of another: the relation stands.
use Rattle.std.proofs.Common.{◌≡◌, ℕ, ◌^◌, ◌<◌, List, length, refl, sym, ap, ◌∙◌, subst, arith, inr}
use Rattle.std.specs.Prelude.{◌≢◌, slice_index}
use Rattle.sloth_base.specs.Machine.{State}
use Rattle.sloth_base.specs.declared.service.Service.{Service}
use Rattle.sloth_base.specs.Limits.{task_limit}
use Rattle.sloth_region.specs.Layout.{cur, events, wait}
use Rattle.rv32_instr.specs.Ram.{word_at, with_word}
use Rattle.masked_code.proofs.Words.{word_at-same, get_or-with_word, length-with_word}
use Rattle.block_parts.specs.Back.{BackEffect, a0}
use Rattle.osek_scheduler.specs.declared.state.TaskState.{TaskState}
use Rattle.osek_scheduler.specs.declared.state.TaskState.TheVariants as mode
use Rattle.osek_scheduler.specs.State.{Task, System, task}
use Rattle.osek_scheduler.specs.Priority.{is_active}
use Rattle.osek_scheduler.specs.Services.{answered_task}
use Rattle.osek_scheduler.proofs.ServiceStates.{answered_state}
use Rattle.osek_scheduler.specs.Steps.{settled_state}
use Rattle.sim_relation.specs.Build.{Build, HasFittingPlaces}
use Rattle.sim_relation.specs.Changes.{system_with_task_state, TaskChange}
use Rattle.sim_relation.specs.ServiceWords.{IsWaitWord}
use Rattle.sim_relation.specs.Stands.{Stands, AreLineBytes}
use Rattle.sim_relation.proofs.Changing.{change_stands}
use Rattle.sim_relation.proofs.Machines.{changed_machine}
use Rattle.sim_relation.proofs.Parts.{by_task, word_other}
use Rattle.sim_routines.specs.Opening.{IsFollowed}
use Rattle.sim_routines.specs.Served.{IsServed}
use Rattle.sim_routines.proofs.GoesOn.{active, behind_as_before}

-- the task `u` has this state and the events `now`, by the word of them and its line
pub record Changes (b : Build) (state : State) (s : System) (u : ℕ) (m : TaskState) (now word : ℕ) (pending enabled : List ℕ) : Type 0 where
  pub declared : u < length b.config.tasks
  pub same_active : is_active m ≡ is_active (task s u).state
  pub awake : m ≢ mode.Suspended
  pub small : word < 2 ^ 32
  pub word_is : word ≡ now
  pub wait_word : IsWaitWord m (word_at state.core.ram (wait u))
  pub long_pending : length pending ≡ length state.core.pending
  pub long_enabled : length enabled ≡ length state.core.enabled
  pub own_line : AreLineBytes m (slice_index pending u) (slice_index enabled u)
  pub own_bit : slice_index pending u < 2
  pub other_pending : (line : ℕ) → line ≢ u → slice_index pending line ≡ slice_index state.core.pending line
  pub other_enabled : (line : ℕ) → line ≢ u → slice_index enabled line ≡ slice_index state.core.enabled line

module _ (b : Build) (state : State) (s : System) (t : ℕ) (called : Task) (served : Service) (is : IsServed b state s t called served) (fits : HasFittingPlaces b)
    (followed : IsFollowed b is.opening.frame.func is.opening.frame.item) (end : State) (u word : ℕ) (pending enabled : List ℕ)
    (back : BackEffect a0 (record state.core { ram = with_word state.core.ram (events u) word; pending = pending; enabled = enabled }) state end)
    (status : ℕ) (status_is : slice_index end.core.registers a0 ≡ status) where
  -- the end, before the task changes
  abbrev middle : State
  middle = record { pc = end.pc; core = record end.core { ram = state.core.ram; pending = state.core.pending; enabled = state.core.enabled } }

  abbrev answer : System
  answer = settled_state (answered_state status t s)

  before : Stands b middle answer
  before =
      behind_as_before b state s t called served is fits followed end (with_word state.core.ram (events u) word) pending enabled state.core.ram state.core.pending state.core.enabled
      back refl refl refl status status_is

  pub among : t < length s.tasks
  among = let v = is.stands.tidy.tasks in let h = (active b state s t called served is fits).declared in omega arith

  -- the answer leaves the states and the events
  pub same_state : (v : ℕ) → (task answer v).state ≡ (task s v).state
  same_state = by_task (λ v (x : Task). x.state ≡ (task s v).state) s t (answered_task status (task s t)) among refl (λ v n. refl)

  pub current : word_at end.core.ram cur ≡ word_at state.core.ram cur
  current = ap (λ r. word_at r cur) back.left.ram ∙ word_other state.core.ram (events u) word cur (omega arith) (omega arith) (λ e. omega arith)

  module _ (m : TaskState) (now : ℕ) (c : Changes b state s u m now word pending enabled) where
    few : u < task_limit
    few = let g = fits.few_tasks in let h = c.declared in omega arith

    change : TaskChange b middle end answer u m now
    change =
        let f = is.stands.fixed in
        let g = few in
        record {
          same_active = c.same_active ∙ sym (ap is_active (same_state u));
          awake = c.awake;
          machine = changed_machine b middle before.fixed end.pc end.core.ram end.core.pending end.core.enabled
              (ap length back.left.ram ∙ length-with_word state.core.ram (events u) word)
              (ap length back.left.pending ∙ c.long_pending) (ap length back.left.enabled ∙ c.long_enabled);
          pc = refl;
          registers = refl;
          level = refl;
          own_line = subst (λ (e : List ℕ). AreLineBytes m (slice_index end.core.pending u) (slice_index e u)) (sym back.left.enabled)
              (subst (λ (p : List ℕ). AreLineBytes m (slice_index p u) (slice_index enabled u)) (sym back.left.pending) c.own_line);
          own_bit = subst (λ (p : List ℕ). slice_index p u < 2) (sym back.left.pending) c.own_bit;
          other_pending = λ l n. ap (λ q. slice_index q l) back.left.pending ∙ c.other_pending l n;
          other_enabled = λ l n. ap (λ q. slice_index q l) back.left.enabled ∙ c.other_enabled l n;
          high = λ i h. ap (λ v. slice_index v i) back.left.ram ∙ get_or-with_word state.core.ram (events u) word i (inr (omega arith));
          named = λ p h a n. ap (λ v. word_at v p) back.left.ram ∙ word_other state.core.ram (events u) word p a (omega arith) n;
          event_word = ap (λ v. word_at v (events u)) back.left.ram
              ∙ word_at-same state.core.ram (events u) word (let r = f.ram in omega arith) c.small ∙ c.word_is;
          wait_word = subst (IsWaitWord m)
              (sym (ap (λ v. word_at v (wait u)) back.left.ram ∙ word_other state.core.ram (events u) word (wait u) (omega arith) (omega arith) (λ e. omega arith)))
              c.wait_word;
        }

    -- the relation with the answer and the changed record
    pub stands_changed : Stands b end (system_with_task_state answer u m now)
    stands_changed = change_stands b middle end answer before fits u c.declared m now change
