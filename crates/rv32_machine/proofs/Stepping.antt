-- The parts of a step, joined.
use Rattle.std.proofs.Common.{◌≡◌, ℕ, ap, sym, ◌∙◌, Option}
use Rattle.sloth_base.specs.Machine.{State}
use Rattle.sloth_base.specs.Take.{entry_state, execution_state, line_to_take}
use Rattle.rv32_instr.specs.declared.encoding.Stop.{Stop}
use Rattle.rv32_instr.specs.Ram.{word_at}
use Rattle.rv32_instr.specs.Execute.{Going, Stopped, step, touched}
use Rattle.rv32_machine.specs.Advance.{Goes, Halts, observed_step, outcome, advance}

pub advanced
    : (count : ℕ) (old start ent done after : State) (line touch : Option ℕ) (pc before_word after_word : ℕ)
    → start ≡ old → ent ≡ entry_state line start → line ≡ line_to_take start → pc ≡ ent.pc → before_word ≡ word_at old.core.ram 0
    → step ent ≡ Going done → touch ≡ touched ent → after ≡ done → after_word ≡ word_at done.core.ram 0
    → advance count old
    ≡ Goes
    (record {
      count = count;
      pc = pc;
      entered = line;
      enabled_before = old.core.mie;
      enabled_after = after.core.mie;
      cur_before = before_word;
      cur_after = after_word;
      touched = touch;
      regs = after.core.registers;
    })
    after
unfolding advance
advanced count old start ent done after line touch pc before_word after_word s e l p b g t a w =
    let ent-is : ent ≡ execution_state old = e ∙ ap (λ o. entry_state o start) l ∙ ap execution_state s in
    let line-is : line ≡ line_to_take old = l ∙ ap line_to_take s in
    let going : step (execution_state old) ≡ Going after = ap step (sym ent-is) ∙ g ∙ ap Going (sym a) in
    let touch-is : touch ≡ touched (execution_state old) = t ∙ ap touched ent-is in
    let word-is : after_word ≡ word_at after.core.ram 0 = w ∙ ap (λ x. word_at x.core.ram 0) (sym a) in
    ap (outcome count old) going
    ∙ ap (λ n. Goes (record (observed_step count old after) { pc = n }) after) (ap (λ x. x.pc) (sym ent-is) ∙ sym p)
    ∙ ap (λ o. Goes (record (observed_step count old after) { pc = pc; entered = o }) after) (sym line-is)
    ∙ ap (λ v. Goes (record (observed_step count old after) { pc = pc; entered = line; cur_before = v }) after) (sym b)
    ∙ ap (λ v. Goes (record (observed_step count old after) { pc = pc; entered = line; cur_before = before_word; cur_after = v }) after) (sym word-is)
    ∙ ap (λ o. Goes (record (observed_step count old after) { pc = pc; entered = line; cur_before = before_word; cur_after = after_word; touched = o }) after) (sym touch-is)

pub halted
    : (count : ℕ) (old start : State) (line : Option ℕ) (stop : Stop) → start ≡ old → line ≡ line_to_take start
    → step (entry_state line start) ≡ Stopped stop → advance count old ≡ Halts stop
unfolding advance
halted count old start line stop s l h =
    ap (outcome count old) (ap step (ap execution_state (sym s) ∙ ap (λ o. entry_state o start) (sym l)) ∙ h)
