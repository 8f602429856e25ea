use Rattle.std.proofs.Common.{◌∙◌, sym}
use Rattle.observe.specs.Progress.{progress_of, step_of_parts, view_of, arrivals_of}
use Rattle.observe.proofs.PassingBy.{fed_inside, fed_outside}
use Rattle.observe.proofs.observing.Observer.pass_by.Goals as goal

pub returns-then-is_some-clause-fed : goal.returns-then-is_some-clause-fed
returns-then-is_some-clause-fed c passed cur_before cur_after regs steps events f =
    let o = c.args.self.now in
    rw (c.pass_inside.ensures.view, c.pass_inside.ensures.arrivals)
    (fed_inside (view_of o) (arrivals_of o) (progress_of o) (progress_of c.pass_inside.new.self)
    (step_of_parts c.args.count c.args.pc c.args.entered.now c.args.enabled_before c.args.enabled_after c.args.touched.now cur_before cur_after regs)
    steps events (sym c.is_some.ensures ∙ c.if-is_some.true) (c.pass_inside.ensures.passed passed) f c.requires.drained c.requires.expected)

pub returns-clause-fed : goal.returns-clause-fed
returns-clause-fed c passed cur_before cur_after regs steps events f =
    let o = c.args.self.now in
    rw (c.pass_outside.ensures.view, c.pass_outside.ensures.arrivals)
    (fed_outside (view_of o) (arrivals_of o) (progress_of o) (progress_of c.pass_outside.new.self)
    (step_of_parts c.args.count c.args.pc c.args.entered.now c.args.enabled_before c.args.enabled_after c.args.touched.now cur_before cur_after regs)
    steps events (sym c.is_some.ensures ∙ c.if-is_some.false) (c.pass_outside.ensures.passed passed) f c.requires.drained c.requires.expected)
