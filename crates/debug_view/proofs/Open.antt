-- What of the system memory and controller have where the relation stands.
use Rattle.std.proofs.Common.{◌≡◌, ◌≢◌, ℕ, ◌<◌, List, [], ◌∷◌, length, sym, arith, ⊎_elim, ◌⊎◌, inl, inr, true, eqb}
use Rattle.std.proofs.lemmas.Bool.{eqb-true, or_cases, false≢true}
use Rattle.sloth_base.specs.Machine.{State}
use Rattle.sloth_base.specs.declared.config.Config.{Config}
use Rattle.code_rules.specs.Code.{is_in}
use Rattle.sloth_region.specs.Layout.{alarm_cycle, alarm_left, counter_value, cur, events}
use Rattle.rv32_instr.specs.Memory.{Memory, memory_of}
use Rattle.rv32_instr.specs.Ram.{word_at}
use Rattle.osek_scheduler.specs.State.{System, alarm, counter, task}
use Rattle.osek_scheduler.specs.declared.state.TaskState.TheVariants as mode
use Rattle.sloth_inspect.specs.States.{state_in}
use Rattle.sim_relation.specs.Build.{Build}
use Rattle.sim_relation.specs.Context.{RunsFirst}
use Rattle.sim_relation.specs.Stands.{AreActive, Stands}
use Rattle.sim_relation.proofs.Tops.{below_first, falling_head, static_le}
use Rattle.sim_laws.proofs.Shown.{states_shown}
use Rattle.debug_view.specs.RightValues.{IsHighestActive, IsRunningNumber}

-- the words of tasks, counters and alarms, and the one that names what runs
pub record HasSystem (config : Config) (memory : Memory) (s : System) : Type 0 where
  pub runs : IsRunningNumber config s (word_at memory.ram cur)
  pub states : (t : ℕ) → t < length config.tasks → state_in memory t ≡ (task s t).state
  pub events_set : (t : ℕ) → t < length config.tasks → word_at memory.ram (events t) ≡ (task s t).events
  pub values : (c : ℕ) → c < length config.counters → word_at memory.ram (counter_value c) ≡ (counter s c).value
  pub left : (a : ℕ) → a < length config.alarms → word_at memory.ram (alarm_left a) ≡ (alarm s a).left
  pub cycles : (a : ℕ) → a < length config.alarms → word_at memory.ram (alarm_cycle a) ≡ (alarm s a).cycle

-- the first of the stack is the highest of the Active tasks
pub first_highest : (b : Build) (s : System) (t : ℕ) (below : List ℕ) → AreActive b s (t ∷ below) → IsHighestActive b.config s t
first_highest b s t below a =
    let h = falling_head b s t below a.falling in
    record {
      declared = h.declared;
      active = h.active;
      above = λ u declared active other.
          ⊎_elim
          (λ (e : eqb t u ≡ true). absurd (other (sym (eqb-true t u e))))
          (λ (k : is_in u below ≡ true).
          let lower = below_first b s t below a.falling u k in
          let own = static_le b.config s t in
          omega (arith, lower, own))
          (or_cases (eqb t u) (is_in u below) (a.all u declared active));
    }

running : (b : Build) (state : State) (s : System) (stack : List ℕ) → AreActive b s stack → RunsFirst b state s stack
    → IsRunningNumber b.config s (word_at state.core.ram cur)
running b state s [] a k = inr ((λ t declared active. (let e = a.all t declared active in absurd (false≢true e))), k.current)
running b state s (t ∷ below) a k = inl (t, first_highest b s t below a, k.current)

pub has_system : (b : Build) (state : State) (s : System) → Stands b state s → HasSystem b.config (memory_of state.core) s
has_system b state s k = record {
  runs = running b state s k.stack k.active k.running;
  states = states_shown b state s k;
  events_set = λ t declared. (k.words t declared).event_mask;
  values = k.clock.values;
  left = k.clock.left;
  cycles = k.clock.cycles;
}
