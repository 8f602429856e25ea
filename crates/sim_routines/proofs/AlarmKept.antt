-- A service goes back with a status and has changed the words of an alarm: the relation stands.
use Rattle.std.proofs.Common.{◌≡◌, ℕ, ◌%◌, ◌<◌, ◌≤◌, List, [], length, refl, ap, ◌∙◌, arith, ⊎_elim}
use Rattle.std.specs.Prelude.{◌≢◌, slice_index}
use Rattle.sloth_base.specs.Machine.{State}
use Rattle.sloth_base.specs.declared.service.Service.{Service}
use Rattle.sloth_base.specs.Limits.{alarm_limit}
use Rattle.sloth_region.specs.Layout.{idle_context, below_word, counter_value, alarm_left, alarm_cycle}
use Rattle.rv32_instr.specs.Ram.{word_at}
use Rattle.block_parts.specs.Back.{BackEffect, a0}
use Rattle.osek_scheduler.specs.State.{Task, System, with_alarm}
use Rattle.osek_scheduler.proofs.ServiceStates.{answered_state}
use Rattle.osek_scheduler.specs.Steps.{settled_state}
use Rattle.sim_relation.specs.Build.{Build, HasFittingPlaces}
use Rattle.sim_relation.specs.Stands.{Stands}
use Rattle.sim_relation.proofs.Beside.{beside}
use Rattle.sim_relation.proofs.Machines.{changed_machine}
use Rattle.sim_routines.specs.Opening.{IsFollowed}
use Rattle.sim_routines.specs.Served.{IsServed}
use Rattle.sim_routines.proofs.GoesOn.{behind_as_before}
use Rattle.sim_routines.proofs.Clocks.{alarm_set}

-- the words of one alarm may have changed alone
pub record AlarmAlone (a left cycle : ℕ) (old new : List ℕ) : Type 0 where
  pub long : length new ≡ length old
  pub high : (i : ℕ) → idle_context ≤ i → slice_index new i ≡ slice_index old i
  pub other : (p : ℕ) → p % 4 ≡ 0 → p ≢ alarm_left a → p ≢ alarm_cycle a → word_at new p ≡ word_at old p
  pub left_is : word_at new (alarm_left a) ≡ left
  pub cycle_is : word_at new (alarm_cycle a) ≡ cycle

module _ (b : Build) (state : State) (s : System) (t : ℕ) (own : Task) (served : Service) (is : IsServed b state s t own served) (fits : HasFittingPlaces b)
    (followed : IsFollowed b is.opening.frame.func is.opening.frame.item) (end : State) (a left cycle : ℕ) (there : a < length b.config.alarms)
    (ram : List ℕ) (alone : AlarmAlone a left cycle state.core.ram ram) (back : BackEffect a0 (record state.core { ram = ram }) state end)
    (status : ℕ) (status_is : slice_index end.core.registers a0 ≡ status) where
  -- the end, before the alarm changes
  abbrev middle : State
  middle = record { pc = end.pc; core = record end.core { ram = state.core.ram } }

  abbrev answer : System
  answer = settled_state (answered_state status t s)

  before : Stands b middle answer
  before =
      behind_as_before b state s t own served is fits followed end ram state.core.pending state.core.enabled state.core.ram end.core.pending end.core.enabled
      back refl back.left.pending back.left.enabled status status_is

  few : a < alarm_limit
  few = let f = fits.few_alarms in omega (arith, there, f)

  other : (p : ℕ) → p % 4 ≡ 0 → p ≢ alarm_left a → p ≢ alarm_cycle a → word_at end.core.ram p ≡ word_at state.core.ram p
  other p l n m = ap (λ r. word_at r p) back.left.ram ∙ alone.other p l n m

  -- the relation with the answer and the alarm
  pub stands_set : Stands b end (settled_state (with_alarm (answered_state status t s) a (record { left = left; cycle = cycle })))
  stands_set =
      let f = few in
      beside b middle end answer before fits
      (record {
        machine = changed_machine b middle before.fixed end.pc end.core.ram end.core.pending end.core.enabled (ap length back.left.ram ∙ alone.long) refl refl;
        pc = refl;
        x2 = refl;
        x = λ i l. refl;
        level = refl;
        pending = λ u l. refl;
        enabled = refl;
        high = λ i h. ap (λ r. slice_index r i) back.left.ram ∙ alone.high i h;
        named = λ p l o.
            ⊎_elim
            (λ (x : p < counter_value 0). other p l (λ e. omega (arith, e, x)) (λ e. omega (arith, e, x)))
            (λ (x : below_word ≤ p). other p l (λ e. omega (arith, e, x, f)) (λ e. omega (arith, e, x, f))) o;
      })
      (with_alarm s a (record { left = left; cycle = cycle })).clock []
      (λ c l. let n = before.lines.counters c l in record { enabled = n.enabled; pending = n.pending; level = n.level })
      (alarm_set b state.core.ram end.core.ram s.clock a left cycle fits there (ap (λ r. word_at r (alarm_left a)) back.left.ram ∙ alone.left_is)
      (ap (λ r. word_at r (alarm_cycle a)) back.left.ram ∙ alone.cycle_is) other is.stands.clock)
