use Rattle.std.proofs.Common.{◌≡◌, ◌∙◌, ap, sym, Some}
use Rattle.rv32_instr.specs.Effect.{effect}
use Rattle.rv32_instr.specs.declared.InstrKind.{InstrKind}
use Rattle.rv32_instr.specs.Table.{Decode}
use Rattle.rv32_instr.specs.Execute.{Going, Stopped, word_at_pc}
use Rattle.rv32_instr.specs.declared.encoding.Stop.TheVariants as stop
use Rattle.rv32_machine.specs.State.{state}
use Rattle.rv32_machine.proofs.Fetching.{step_fetch, step_illegal, executed, touched_executed}
use Rattle.rv32_machine.proofs.machine.Machine.execute.Goals as goal

pub returns-in-Err-clause-err : goal.returns-in-Err-clause-err
returns-in-Err-clause-err g c =
    step_fetch (state g.B.Bus.memory c.args.self.now) c.in-Err.ensures.err.0 ∙ ap Stopped (sym c.in-Err.ensures.err.1)

pub returns-in-Ok-None-clause-err : goal.returns-in-Ok-None-clause-err
returns-in-Ok-None-clause-err g c =
    let old = state g.B.Bus.memory c.args.self.now in
    step_illegal old c.in-Ok-None.ensures.ok.0 (sym c.in-Ok-None.ensures.ok.1 ∙ c.in-Ok-None.field-0-is)
    ∙ ap (λ v. Stopped (stop.Illegal v)) (sym (c.word.ensures.is ∙ ap word_at_pc c.in-Ok-None.ensures.state))

pub returns-in-Ok-clause-ok : goal.returns-in-Ok-clause-ok
returns-in-Ok-clause-ok g c =
    let fetched = state g.B.Bus.memory c.fetch.new.self in
    let d : Decode (word_at_pc (state g.B.Bus.memory c.args.self.now)) ≡ Some c.in-Ok-Some.instr = sym c.in-Ok-Some.ensures.ok.1 ∙ c.in-Ok-Some.field-0-is in
    let asked = c.effect-effect.ensures.is ∙ ap (λ (k : InstrKind). effect k fetched.pc fetched.core.registers) c.kind.ensures.is in
    executed
    (state g.B.Bus.memory c.args.self.now)
    fetched
    c.in-Ok-Some.instr
    c.effect-effect.result
    (Going (state g.B.Bus.memory c.perform.new.self))
    c.in-Ok-Some.ensures.ok.0
    d
    c.in-Ok-Some.ensures.state
    asked
    c.in-Ok.ensures.ok

pub returns-in-Ok-clause-touched : goal.returns-in-Ok-clause-touched
returns-in-Ok-clause-touched g c =
    let fetched = state g.B.Bus.memory c.fetch.new.self in
    let d : Decode (word_at_pc (state g.B.Bus.memory c.args.self.now)) ≡ Some c.in-Ok-Some.instr = sym c.in-Ok-Some.ensures.ok.1 ∙ c.in-Ok-Some.field-0-is in
    let asked = c.effect-effect.ensures.is ∙ ap (λ (k : InstrKind). effect k fetched.pc fetched.core.registers) c.kind.ensures.is in
    touched_executed
    (state g.B.Bus.memory c.args.self.now)
    fetched
    c.in-Ok-Some.instr
    c.effect-effect.result
    c.touched-line.result
    d
    c.in-Ok-Some.ensures.state
    asked
    c.touched-line.ensures.is

pub returns-in-Err-perform-clause-err : goal.returns-in-Err-perform-clause-err
returns-in-Err-perform-clause-err g c =
    let fetched = state g.B.Bus.memory c.fetch.new.self in
    let d : Decode (word_at_pc (state g.B.Bus.memory c.args.self.now)) ≡ Some c.in-Ok-Some.instr = sym c.in-Ok-Some.ensures.ok.1 ∙ c.in-Ok-Some.field-0-is in
    let asked = c.effect-effect.ensures.is ∙ ap (λ (k : InstrKind). effect k fetched.pc fetched.core.registers) c.kind.ensures.is in
    executed
    (state g.B.Bus.memory c.args.self.now)
    fetched
    c.in-Ok-Some.instr
    c.effect-effect.result
    (Stopped c.in-Err-perform.stop)
    c.in-Ok-Some.ensures.ok.0
    d
    c.in-Ok-Some.ensures.state
    asked
    c.in-Err-perform.ensures.err
