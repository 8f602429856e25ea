use Rattle.std.proofs.Common.{refl}
use Rattle.sloth_base.specs.Take.{entry_state}
use Rattle.rv32_instr.specs.Ram.{word_at}
use Rattle.rv32_machine.specs.State.{state}
use Rattle.rv32_machine.proofs.Stepping.{advanced, halted}
use Rattle.rv32_machine.proofs.machine.Machine.step_front.Goals as goal

pub returns-in-Ok-clause-ok : goal.returns-in-Ok-clause-ok
returns-in-Ok-clause-ok g c =
    let behind = state g.B.Bus.memory c.execute_after.new.self in
    advanced
    c.args.self.now.count
    (state g.B.Bus.memory c.args.self.now)
    (state g.B.Bus.memory c.cur-cur_before.new.self)
    (entry_state c.line_to_take-entered.result (state g.B.Bus.memory c.cur-cur_before.new.self))
    behind
    behind
    c.line_to_take-entered.result
    c.in-Ok.touched
    c.pc_after-pc.result
    c.cur-cur_before.result
    (word_at behind.core.ram 0)
    c.cur-cur_before.ensures.state
    refl
    c.line_to_take-entered.ensures.is
    c.pc_after-pc.ensures
    c.cur-cur_before.ensures.is
    c.in-Ok.ensures.ok
    c.in-Ok.ensures.touched
    refl
    refl

pub returns-in-Err-clause-err : goal.returns-in-Err-clause-err
returns-in-Err-clause-err g c =
    halted
    c.args.self.now.count
    (state g.B.Bus.memory c.args.self.now)
    (state g.B.Bus.memory c.cur-cur_before.new.self)
    c.line_to_take-entered.result
    c.in-Err.stop
    c.cur-cur_before.ensures.state
    c.line_to_take-entered.ensures.is
    c.in-Err.ensures.err
