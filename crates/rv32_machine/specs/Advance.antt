-- One step of the machine: at most one line is taken, then one instruction is executed. A stop changes nothing.
use Rattle.std.specs.Prelude.{ℕ, None, false, replicate}
use Rattle.sloth_base.specs.declared.numbers.Step.{Step}
use Rattle.sloth_base.specs.Machine.{State}
use Rattle.sloth_base.specs.Take.{line_to_take, execution_state}
use Rattle.rv32_instr.specs.declared.encoding.Stop.{Stop}
use Rattle.rv32_machine.specs.declared.step.StepFront.{StepFront}
use Rattle.rv32_instr.specs.Ram.{word_at}
use Rattle.rv32_instr.specs.Execute.{Next, Going, Stopped, step, touched}

-- a step with the state behind it, or why there is none
pub data StepOutcome : Type 0 where
  Goes : Step → State → StepOutcome
  Halts : Stop → StepOutcome

-- a record that no step was written into
abbrev pub blank_step : Step
blank_step = record {
  count = 0;
  pc = 0;
  entered = None;
  enabled_before = false;
  enabled_after = false;
  cur_before = 0;
  cur_after = 0;
  touched = None;
  regs = replicate 32 0;
}

-- what is seen of the step of a count that leads from a state to another; the word at 0x80000000 tells the running task
abbrev pub observed_step : ℕ → State → State → Step
observed_step count before after = record {
  count = count;
  pc = (execution_state before).pc;
  entered = line_to_take before;
  enabled_before = before.core.mie;
  enabled_after = after.core.mie;
  cur_before = word_at before.core.ram 0;
  cur_after = word_at after.core.ram 0;
  touched = touched (execution_state before);
  regs = after.core.registers;
}

-- the step of this front that leaves this state
abbrev pub step_of : StepFront → State → Step
step_of front after = record {
  count = front.count;
  pc = front.pc;
  entered = front.entered;
  enabled_before = front.enabled_before;
  enabled_after = after.core.mie;
  cur_before = front.cur_before;
  cur_after = word_at after.core.ram 0;
  touched = front.touched;
  regs = after.core.registers;
}

-- that of what an instruction leaves
abbrev pub outcome : ℕ → State → Next → StepOutcome
outcome count before (Going after) = Goes (observed_step count before after) after
outcome count before (Stopped stop) = Halts stop

-- the step of a count
unfoldable pub advance : ℕ → State → StepOutcome
advance count state = outcome count state (step (execution_state state))
