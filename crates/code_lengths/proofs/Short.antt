-- How long pieces of generated code are at most.
use Rattle.std.proofs.Common.{ℕ, ◌+◌, ◌*◌, ◌≤◌, ◌==◌, Bool, true, false, cond, Option, Some, None, List, [], ◌∷◌, length, arith}
use Rattle.sloth_base.specs.Blocks.{block_service}
use Rattle.sloth_base.specs.declared.config.Action.{Action}
use Rattle.sloth_base.specs.declared.config.Action.TheVariants as action
use Rattle.sloth_base.specs.declared.config.AlarmDecl.{AlarmDecl}
use Rattle.sloth_base.specs.declared.config.TaskDecl.{TaskDecl}
use Rattle.sloth_base.specs.declared.service.Service.{Service}
use Rattle.sloth_base.specs.declared.service.Service.TheVariants as service
use Rattle.code_lengths.specs.CodeLengths.{lines_length, prologue_length, is_looked_at, action_length, alarms_length, tick_length, service_length, option_length, block_length}

-- what starts tasks
pub short_lines : (tasks : List TaskDecl) → lines_length tasks ≤ 4 * length tasks
short_lines [] = omega arith
short_lines (task ∷ tasks) =
    let rest = short_lines tasks in
    let one = by task.autostart in
    omega (arith, rest, one)
  where
    by : (auto : Bool) → cond auto 1 0 ≤ 1
    by true = omega arith
    by false = omega arith

-- a prologue, which has an instruction
pub short_prologue : (extended : Bool) (words : ℕ) → (1 ≤ prologue_length extended words) × (prologue_length extended words ≤ 109 + words)
short_prologue true words = (omega arith, omega arith)
short_prologue false words = (omega arith, omega arith)

-- an alarm with its look
short_action : (counter : ℕ) (does : Action) (later : List AlarmDecl) → action_length counter does later ≤ 34
short_action counter (action.Activate task) later = omega arith
short_action counter (action.Set task mask) later = by (is_looked_at counter task later)
  where
    by : (b : Bool) → 24 + cond b 0 10 ≤ 34
    by true = omega arith
    by false = omega arith

short_alarms : (counter : ℕ) (alarms : List AlarmDecl) → alarms_length counter alarms ≤ 34 * length alarms
short_alarms counter [] = omega arith
short_alarms counter (alarm ∷ later) =
    let rest = short_alarms counter later in
    let one = by (alarm.counter == counter) in
    omega (arith, rest, one)
  where
    by : (b : Bool) → cond b (action_length counter alarm.action later) 0 ≤ 34
    by true = short_action counter alarm.action later
    by false = omega arith

-- a tick, which has an instruction
pub short_tick : (counter : ℕ) (alarms : List AlarmDecl) → (1 ≤ tick_length counter alarms) × (tick_length counter alarms ≤ 11 + 34 * length alarms)
short_tick counter alarms = let short = short_alarms counter alarms in (omega (arith, short), omega (arith, short))

-- the code of a service
short_service : (s : Service) → service_length s ≤ 256
short_service service.ActivateTask = omega arith
short_service s = omega arith

-- the code at a place in the table of blocks
pub short_block : (number : ℕ) → block_length number ≤ 256
short_block number = by (block_service number)
  where
    by : (s : Option Service) → option_length s ≤ 256
    by None = omega arith
    by (Some s) = short_service s
