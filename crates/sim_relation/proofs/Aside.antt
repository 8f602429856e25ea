-- Where counters and alarms change and all tasks stay as they are, the relation stands again.
use Rattle.std.proofs.Common.{◌≡◌, ℕ, ◌<◌, List, length, refl, sym, ap, ◌∙◌, subst, true}
use Rattle.std.specs.Prelude.{slice_index}
use Rattle.sloth_base.specs.Machine.{State}
use Rattle.osek_scheduler.specs.State.{Clock, System, task}
use Rattle.sim_relation.specs.Build.{Build}
use Rattle.sim_relation.specs.Context.{RunsFirst}
use Rattle.sim_relation.specs.ServiceWords.{AreServiceWords}
use Rattle.sim_relation.specs.ClockStands.{CountersStand, ClockStands}
use Rattle.sim_relation.specs.DataStands.{DataStands}
use Rattle.sim_relation.specs.Stands.{Stands}
use Rattle.sim_relation.specs.Moves.{WholeMachine}
use Rattle.sim_relation.proofs.Parts.{falling_kept, line_same, running_tasks}
use Rattle.sim_relation.proofs.Rebuilt.{fixed_kept}

-- the system with this clock and these tasks that arrived since the last event
abbrev pub timed_system : System → Clock → List ℕ → System
timed_system s clock fresh = record s { clock = clock; fresh = fresh }

-- All that the relation says of tasks has stayed, and these are the counters and alarms.
pub record IsAside (b : Build) (old now : State) (s : System) (clock : Clock) (stack : List ℕ) : Type 0 where
  pub machine : WholeMachine old now
  pub code : (i : ℕ) → b.is_code i ≡ true → slice_index now.core.ram i ≡ slice_index old.core.ram i
  pub running : RunsFirst b now s stack
  pub pending : (t : ℕ) → t < length b.config.tasks → slice_index now.core.pending t ≡ slice_index old.core.pending t
  pub enabled : now.core.enabled ≡ old.core.enabled
  pub words : (t : ℕ) → t < length b.config.tasks → AreServiceWords b now.core.ram t (task s t)
  pub data_stands : DataStands b now.core.ram s.symbols
  pub counters : CountersStand b.config now.core clock
  pub clock_stands : ClockStands b.config now.core.ram clock

pub aside : (b : Build) (old now : State) (s : System) (k : Stands b old s) (clock : Clock) (fresh : List ℕ) → IsAside b old now s clock k.stack
    → Stands b now (timed_system s clock fresh)
aside b old now s k clock fresh r =
    let next : System = timed_system s clock fresh in
    record {
      stack = k.stack;
      active = record { falling = falling_kept b s next k.stack (λ u h. refl) k.active.falling; all = k.active.all };
      lines = record {
        each = λ t h. line_same (task s t).state (slice_index old.core.pending t) (slice_index now.core.pending t) (slice_index old.core.enabled t)
            (slice_index now.core.enabled t) (r.pending t h) (ap (λ e. slice_index e t) r.enabled) (k.lines.each t h);
        bits = λ t h. subst (λ (p : ℕ). p < 2) (sym (r.pending t h)) (k.lines.bits t h);
        levels = λ t h. ap (λ l. slice_index l t) r.machine.levels ∙ k.lines.levels t h;
        counters = r.counters;
        others = λ l h. ap (λ e. slice_index e l) r.enabled ∙ k.lines.others l h;
      };
      running = running_tasks b now now s next k.stack refl refl refl refl (λ u h. refl) r.running;
      words = r.words;
      clock = r.clock_stands;
      data_stands = r.data_stands;
      apart = k.apart;
      tidy = record { booted = k.tidy.booted; tasks = k.tidy.tasks; each = k.tidy.each };
      fixed = fixed_kept b old now r.machine r.code k.fixed;
    }
