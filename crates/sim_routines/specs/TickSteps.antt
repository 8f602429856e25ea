-- The tick of a counter as a step of the abstract scheduler, said without arrivals and in a run.
use Rattle.std.specs.Prelude.{ℕ, ℤ, ◌+◌, ◌<◌, ◌≤◌, ◌≡◌, List, [], ◌∷◌, length, Some}
use Rattle.sloth_base.specs.Arithmetic.{plus}
use Rattle.sloth_base.specs.Choose.{choose}
use Rattle.sloth_base.specs.ConfigRange.{InRange}
use Rattle.sloth_base.specs.Machine.{State}
use Rattle.sloth_base.specs.MemoryMap.{memory_base}
use Rattle.sloth_base.specs.Named.{counter_declaration}
use Rattle.sloth_base.specs.Owners.{counter_line}
use Rattle.sloth_base.specs.Take.{take}
use Rattle.sloth_base.specs.declared.config.Config.{Config}
use Rattle.sloth_base.specs.declared.service.Arrival.{Arrival}
use Rattle.code_lengths.specs.CodeLengths.{tick_length}
use Rattle.rv32_instr.specs.declared.InstrKind.{InstrKind}
use Rattle.rv32_instr.specs.declared.InstrKind.TheVariants.{Jal}
use Rattle.rv32_machine.specs.Run.{state_with_arrivals}
use Rattle.masked_code.specs.Trace.{Trace}
use Rattle.observe.specs.Observe.{View}
use Rattle.service_gen.specs.Alarms.{counter_alarms}
use Rattle.service_gen.specs.Tick.{vector, TickEffect, IsTickCode}
use Rattle.osek_scheduler.specs.State.{System, counter}
use Rattle.osek_scheduler.specs.Services.{ticked_state}
use Rattle.osek_scheduler.specs.Steps.{settled_state}
use Rattle.sim_induction.specs.Admits.{IsSetting, lines_at, with_admits}
use Rattle.sim_induction.specs.PieceLaws.{StretchLaw}
use Rattle.sim_relation.specs.Bounds.{AreBelow}
use Rattle.sim_relation.specs.Build.{Build, HasFittingPlaces}
use Rattle.sim_relation.specs.Placed.{IsPlaced, setting_of}
use Rattle.sim_relation.specs.Progress.{progress_in}
use Rattle.sim_relation.specs.Stands.{Stands}

-- the counter's value is in range
abbrev pub HasCounterValue : Build → System → ℕ → Type 0
HasCounterValue b s c = (counter s c).value ≤ (counter_declaration b.config c).max

-- what holds where the line of a counter is taken
pub record MayCount (b : Build) (state : State) (s : System) (c : ℕ) : Type 0 where
  pub range : InRange b.config
  pub declared : c < length b.config.counters
  pub stands : Stands b state s
  pub value : HasCounterValue b s c
  pub bytes : AreBelow 256 state.core.ram

-- Its line was taken, and then the code of its tick has run.
abbrev pub HasTicked : Build → (c : ℕ) → List ℕ → State → State → Type 0
HasTicked b c touched state end =
    TickEffect c (counter_declaration b.config c).max (counter_alarms b.config c) touched (take (counter_line c) state) end

-- The code of a tick does what the tick of the counter does, whatever ran.
abbrev pub TickLaw : Type 0
TickLaw = (b : Build) (state end : State) (s : System) (c : ℕ) (touched : List ℕ) → HasFittingPlaces b → MayCount b state s c → HasTicked b c touched state end
    → Stands b end (settled_state (ticked_state b.config c s))

-- code is the tick of a counter of a configuration
pub record IsTick (config : Config) (c : ℕ) (code : List InstrKind) : Type 0 where
  pub size : length code ≡ tick_length c config.alarms
  pub ticks : IsTickCode c (counter_declaration config c).max (counter_alarms config c) code

-- the code of a counter's tick, and the jump to it at the vector of the counter's line
pub record TickStands (b : Build) (c : ℕ) : Type 0 where
  pub code : List InstrKind
  pub is_tick : IsTick b.config c code
  pub offset : ℕ
  pub placed : IsPlaced b offset code
  pub jump : ℤ
  pub vector_word : IsPlaced b (vector (counter_line c)) (Jal 0 jump ∷ [])
  pub to_code : plus (memory_base + vector (counter_line c)) jump ≡ memory_base + offset

-- Where the line that is taken at a count is that of a counter, the code of its tick is a stretch, whatever lines arrive.
abbrev pub TickStretch : Type 0
TickStretch = (b : Build) (view : View) (arrivals : List Arrival) (count c : ℕ) (state : State) (s : System) → IsSetting (setting_of b view arrivals)
    → HasFittingPlaces b → 0 < count → Stands b state s → choose (state_with_arrivals arrivals count state).core ≡ Some (counter_line c)
    → MayCount b (state_with_arrivals arrivals count state) (with_admits (lines_at arrivals count) s) c → TickStands b c
    → (next : State) × (trace : Trace) × (end : State) × StretchLaw (setting_of b view arrivals) (Stands b) (progress_in b) b.passed b.passed count state s next trace end
