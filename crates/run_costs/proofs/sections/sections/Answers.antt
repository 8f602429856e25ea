use Rattle.std.proofs.Common.{◌∙◌, ℕ, ◌<◌, ◌≤◌, List, length, get_or, ap, sym, subst, arith}
use Rattle.walk_sums.specs.declared.sections.Sum.{Sum}
use Rattle.walk_sums.specs.Sections.{no_sum, IsSumFor}
use Rattle.run_windows.specs.declared.costs.SectionCosts.{SectionCosts}
use Rattle.run_windows.specs.Costs.{no_section}
use Rattle.run_costs.specs.CostsOf.{IsTaskSection}
use Rattle.run_costs.specs.RunCosts.{AreSectionRow}
use Rattle.run_costs.proofs.Growing.{each_more, each_of}
use Rattle.run_costs.proofs.Sectioning.{sections_are}
use Rattle.run_costs.proofs.sections.sections.Goals as goal

pub loop-task-preserved : goal.loop-task-preserved
loop-task-preserved c =
    let w = c.args.walks.now in
    let weights = c.args.weights.now in
    let above = c.args.h in
    let task = c.loop-task.task in
    let sums = c.in_ok-sums.sums.items in
    let inside = subst (λ (n : ℕ). task < n) c.tasks-task-end.ensures.is c.loop-task-test.true in
    let told = c.in_ok-sums.ensures in
    let here = subst (IsSumFor w.config w.app weights above task) (sym (c.numbered_sum.ensures ∙ ap (λ (l : List Sum). get_or l task no_sum) c.deref.ensures.value))
    (told.each task inside) in
    each_more SectionCosts (IsTaskSection w.config w.app weights above) c.loop-task.list.items c.push.new.list.items c.summed_sections.result no_section task c.loop-task.invariant c.in_ok-push.ensures
    (sections_are w.config w.app weights above task c.tasks-task-end.ensures.well_formed c.requires.weigh c.numbered_sum.result here c.summed_sections.result
    c.summed_sections.ensures.exists c.summed_sections.ensures.endless c.summed_sections.ensures.counts)

pub returns : goal.returns
returns c =
    let over = subst (λ (n : ℕ). n ≤ c.loop-task.task) c.tasks-task-end.ensures.is c.loop-task-test.false in
    let most = subst (λ (n : ℕ). c.loop-task.task ≤ n) c.tasks-task-end.ensures.is c.loop-task.auto.task-end in
    subst (AreSectionRow c.args.walks.now.config c.args.walks.now.app c.args.weights.now c.args.h) (sym c.from_vec.ensures)
    (each_of SectionCosts (IsTaskSection c.args.walks.now.config c.args.walks.now.app c.args.weights.now c.args.h) c.loop-task.list.items no_section c.loop-task.task
    (length c.args.walks.now.config.tasks) (omega (arith, over, most)) c.loop-task.invariant)
