use Rattle.std.proofs.Common.{◌≡◌, ◌∙◌, ◌+◌, Bool, [], ◌∷◌, ◌++◌, ap, sym, subst}
use Rattle.rv32_instr.specs.Ram.{word_at}
use Rattle.observe.specs.Progress.{HasProgress, expected_count, step_of_parts}
use Rattle.observe.specs.declared.observing.Observer.{Observer}
use Rattle.sloth_runner.specs.Moments.{sloth_state}
use Rattle.sloth_runner.proofs.runner.Runner.tell.Goals as goal

pub returns-then-passed-clause-fed : goal.returns-then-passed-clause-fed
returns-then-passed-clause-fed c steps events f =
    let front = c.args.front.now in
    let s = sloth_state c.args.self.now.machine in
    let P : Bool → Type 0 = λ b. HasProgress c.pass_by-passed.new.self
    (steps ++ step_of_parts front.count front.pc front.entered front.enabled_before b front.touched front.cur_before (word_at s.core.ram 0) s.core.registers ∷ []) events in
    subst P c.enabled-enabled_after.ensures (c.pass_by-passed.ensures.fed c.if-passed.true front.cur_before (word_at s.core.ram 0) s.core.registers steps events f)

pub returns-clause-fed : goal.returns-clause-fed
returns-clause-fed c steps events f =
    let same : c.pass_by-passed.new.self ≡ c.args.self.now.observer = c.pass_by-passed.ensures.left c.if-passed.false in
    let P : Observer → Type 0 = λ o. HasProgress o steps events in
    c.feed.ensures.fed steps events (subst P (sym same) f)

pub returns-clause-expected : goal.returns-clause-expected
returns-clause-expected c =
    let same : c.pass_by-passed.new.self ≡ c.args.self.now.observer = c.pass_by-passed.ensures.left c.if-passed.false in
    c.feed.ensures.expected ∙ ap (λ (o : Observer). expected_count o + 1) same
