use Rattle.std.proofs.Common.{rules, ◌≡◌, ◌∙◌, ◌<◌, ◌≤◌, ℕ, Bool, List, Option, true, false, ap, arith, get_or, length, refl, subst, sym}
use Rattle.osek_blocking.specs.Sections.{IsSection}
use Rattle.walk_sums.proofs.Bodily.{facts_of}
use Rattle.walk_sums.specs.Counted.{counted_weights}
use Rattle.walk_sums.specs.Sections.{no_sum}
use Rattle.walk_sums.specs.Told.{IsToldSum}
use Rattle.walk_sums.specs.declared.sections.Sum.{Sum}
use Rattle.walk_sums.specs.declared.counted.Counted.{Counted}
use Rattle.walk_sums.specs.declared.counted.Counted.TheVariants as counts
use Rattle.run_windows.specs.declared.costs.SectionMakings.{SectionMakings}
use Rattle.run_windows.specs.Costs.{no_section_makings}
use Rattle.run_costs.specs.RunCosts.{IsRunSectionMaking, AreSectionMakingRow}
use Rattle.run_costs.specs.RunRecord.{is_asked, is_limited, times, AreTimes, AreSummed}
use Rattle.run_costs.specs.SectionSums.{is_once}
use Rattle.run_costs.proofs.Times.{times_are, joined}
use Rattle.run_costs.proofs.Growing.{each_more, each_of}
use Rattle.run_costs.proofs.sections.makers.Goals as goal

pub loop-task-preserved : goal.loop-task-preserved
loop-task-preserved c =
    let config = c.args.walks.now.config in
    let app = c.args.walks.now.app in
    let h = c.args.h in
    let j = c.args.j in
    let k = c.loop-task.task in
    let tops = c.args.tops.now in
    let well = facts_of config app c.tasks-task-end.ensures.well_formed in
    let inside = subst (λ (n : ℕ). k < n) c.tasks-task-end.ensures.is c.loop-task-test.true in
    let either = c.numbered_top.ensures ∙ ap (λ (l : List ℕ). get_or l k 0) c.items-eithers.ensures in
    let setting = c.numbered_top-in-loop-task.ensures ∙ ap (λ (l : List ℕ). get_or l k 0) c.items-sets.ensures in
    let made = subst (λ (l : List Sum). AreSummed config app (counts.Activations j) h j tops.either l) (sym c.deref.ensures.value)
    (subst (λ (l : List ℕ). AreSummed config app (counts.Activations j) h j l c.in_ok-activations.activations.items) c.items-eithers.ensures c.in_ok-activations.ensures) in
    let signalled = subst (λ (l : List Sum). AreSummed config app (counts.Settings j) h j tops.setting l) (sym c.deref-in-loop-task.ensures.value)
    (subst (λ (l : List ℕ). AreSummed config app (counts.Settings j) h j l c.in_ok-settings.settings.items) c.items-sets.ensures c.in_ok-settings.ensures) in
    let activates = c.is_asked-activates.ensures ∙ ap (is_asked config h j k) either in
    let sets = c.is_asked-signals.ensures ∙ ap (is_asked config h j k) setting in
    let first : c.times.result ≡ times c.is_asked-activates.result (is_once config h j k) c.numbered_sum.result = search rules in
    let own = λ (e : c.is_asked-activates.result ≡ true). subst (IsToldSum (IsSection config app h k) (counted_weights (counts.Activations j) app)) (sym c.numbered_sum.ensures) (made k inside (sym activates ∙ e)) in
    let set = λ (e : c.is_asked-signals.result ≡ true). subst (IsToldSum (IsSection config app h k) (counted_weights (counts.Settings j) app)) (sym c.numbered_sum-in-loop-task.ensures) (signalled k inside (sym sets ∙ e)) in
    let makings : SectionMakings = record { activations = c.times.result; settings = c.times-in-loop-task.result } in
    each_more (SectionMakings) (IsRunSectionMaking config app h j) c.loop-task.row.items c.push.new.list.items makings (no_section_makings) k c.loop-task.invariant c.in_ok-push.ensures
    (joined config app h j k makings c.times.result c.times-in-loop-task.result
    (times_are config app h j well c.requires.above c.requires.named true k inside (counts.Activations j) (get_or tops.either k 0) (c.requires.tops.either.each k inside)
    c.is_asked-activates.result c.numbered_sum.result activates own c.times.result first)
    (times_are config app h j well c.requires.above c.requires.named false k inside (counts.Settings j) (get_or tops.setting k 0) (c.requires.tops.setting.each k inside)
    c.is_asked-signals.result c.numbered_sum-in-loop-task.result sets set c.times-in-loop-task.result c.times-in-loop-task.ensures)
    refl refl)

pub returns : goal.returns
returns c =
    let over = subst (λ (n : ℕ). n ≤ c.loop-task.task) c.tasks-task-end.ensures.is c.loop-task-test.false in
    let most = subst (λ (n : ℕ). c.loop-task.task ≤ n) c.tasks-task-end.ensures.is c.loop-task.auto.task-end in
    subst (AreSectionMakingRow c.args.walks.now.config c.args.walks.now.app c.args.h c.args.j) (sym c.from_vec.ensures)
    (each_of (SectionMakings) (IsRunSectionMaking c.args.walks.now.config c.args.walks.now.app c.args.h c.args.j) c.loop-task.row.items (no_section_makings) c.loop-task.task (length c.args.walks.now.config.tasks) (omega (arith, over, most)) c.loop-task.invariant)
