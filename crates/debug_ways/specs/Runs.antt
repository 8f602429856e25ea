-- What is shown of a run, count by count.
use Rattle.std.specs.Prelude.{ℕ, List, Option}
use Rattle.osek_scheduler.specs.declared.state.TaskState.{TaskState}
use Rattle.rv32_instr.specs.declared.encoding.Stop.{Stop}
use Rattle.debug_ways.specs.declared.standing.Look.{Look}

-- the last count, and why the instruction there stops it, if it does; and at each count up to it what decides where a way ends, the states of
-- tasks, the registers of threads by their numbers, and the bytes of memory; and the text of the events that so many of its instructions bring
pub record Run : Type 0 where
  pub end : ℕ
  pub stop : Option Stop
  pub look : ℕ → Look
  pub states : ℕ → List TaskState
  pub register : (count thread number : ℕ) → Option ℕ
  pub byte : (count address : ℕ) → Option ℕ
  pub trace : (counts : ℕ) → List ℕ
