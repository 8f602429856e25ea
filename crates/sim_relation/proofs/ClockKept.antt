-- What the relation says of counters and alarms stands as long as their lines and words stay.
use Rattle.std.proofs.Common.{◌≡◌, ℕ, ◌+◌, ◌%◌, ◌<◌, ◌≤◌, List, length, ap, ◌∙◌, arith, ⊎_elim, Bool}
use Rattle.std.specs.Prelude.{◌≢◌, slice_index}
use Rattle.std.proofs.lemmas.Bool.{cases_lt}
use Rattle.std.proofs.lemmas.List.{get_or_past}
use Rattle.sloth_base.specs.Machine.{Core, State}
use Rattle.sloth_base.specs.Owners.{counter_line}
use Rattle.sloth_base.specs.declared.config.Config.{Config}
use Rattle.sloth_region.specs.Layout.{below_word, counter_value, alarm_left, alarm_cycle}
use Rattle.rv32_instr.specs.Ram.{word_at}
use Rattle.osek_scheduler.specs.State.{Clock, System}
use Rattle.sloth_base.specs.Named.{declaration}
use Rattle.sloth_base.specs.MemoryMap.{line_count}
use Rattle.sim_relation.specs.Build.{Build, HasFittingPlaces}
use Rattle.sim_relation.specs.ClockStands.{CounterLineStands, ClockStands}
use Rattle.sim_relation.specs.Framing.{AreSameBytes, AreOtherWordsSame}
use Rattle.sim_relation.specs.Stands.{Stands}
use Rattle.sim_relation.proofs.Framing.{word_kept}
use Rattle.sim_relation.proofs.Levels.{level_of-few}

-- a counter's line, whose bytes stay
pub line_stands : (config : Config) (old now : Core) (c : ℕ) (due : Bool) → slice_index now.enabled (counter_line c) ≡ slice_index old.enabled (counter_line c)
    → slice_index now.pending (counter_line c) ≡ slice_index old.pending (counter_line c) → now.levels ≡ old.levels
    → CounterLineStands config old c due → CounterLineStands config now c due
line_stands config old now c due e p l k =
    record { enabled = e ∙ k.enabled; pending = p ∙ k.pending; level = ap (λ x. slice_index x (counter_line c)) l ∙ k.level }

-- a counter's line is no task's
pub no_task : (b : Build) (state : State) (s : System) → Stands b state s → (c : ℕ) → c < length b.config.counters → (t : ℕ) → t < length b.config.tasks → counter_line c ≢ t
no_task b state s k c h t l e =
    let own = (k.lines.counters c h).level in
    let other = k.lines.levels t l in
    let same : slice_index state.core.levels (counter_line c) ≡ slice_index state.core.levels t = ap (λ x. slice_index state.core.levels x) e in
    let few = level_of-few b.config (declaration b.config t).priority in
    omega (arith, own, other, same, few)

-- it is one of the controller's
pub in_range : (b : Build) (state : State) (s : System) → Stands b state s → (c : ℕ) → c < length b.config.counters → counter_line c < line_count
in_range b state s k c h =
    ⊎_elim (λ (l : counter_line c < line_count). l)
    (λ (l : 32 ≤ counter_line c).
    let long = k.fixed.enabled in
    let own = (k.lines.counters c h).enabled in
    let past : slice_index state.core.enabled (counter_line c) ≡ 0 = get_or_past state.core.enabled (counter_line c) 0 (omega (arith, l, long)) in
    absurd (omega (arith, own, past)))
    (cases_lt (counter_line c) 32)

-- the words of the clock, which stay
pub clock_kept : (b : Build) (old new : List ℕ) (clock : Clock) → HasFittingPlaces b
    → ((p : ℕ) → counter_value 0 ≤ p → p + 4 ≤ below_word → p % 4 ≡ 0 → word_at new p ≡ word_at old p)
    → ClockStands b.config old clock → ClockStands b.config new clock
clock_kept b old new clock fits same k =
    let c = fits.few_counters in
    let m = fits.few_alarms in
    record {
      counters = k.counters;
      alarms = k.alarms;
      values = λ i h. same (counter_value i) (omega arith) (omega arith) (omega arith) ∙ k.values i h;
      left = λ i h. same (alarm_left i) (omega arith) (omega arith) (omega arith) ∙ k.left i h;
      cycles = λ i h. same (alarm_cycle i) (omega arith) (omega arith) (omega arith) ∙ k.cycles i h;
    }

-- where the service words of one task alone change
pub clock_named : (b : Build) (old new : List ℕ) (clock : Clock) (t : ℕ) → HasFittingPlaces b → t < length b.config.tasks → AreOtherWordsSame old new t
    → ClockStands b.config old clock → ClockStands b.config new clock
clock_named b old new clock t fits declared named k =
    let few = fits.few_tasks in
    clock_kept b old new clock fits
    (λ p from to a. named p (omega arith) a (λ e. omega arith) (λ e. omega arith) (λ e. omega arith) (λ e. omega arith) (λ e. omega arith) (λ e. omega arith)) k

-- where no byte before the idle loop's context changes
pub clock_low : (b : Build) (old new : List ℕ) (clock : Clock) → HasFittingPlaces b → AreSameBytes old new 0 1024 → ClockStands b.config old clock → ClockStands b.config new clock
clock_low b old new clock fits low k = clock_kept b old new clock fits (λ p from to a. word_kept old new 0 1024 p low (omega arith) (omega arith)) k
