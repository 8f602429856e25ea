use Rattle.std.proofs.Common.{◌≡◌, ◌∙◌, ℕ, List, length, ap, sym, subst}
use Rattle.std.proofs.lemmas.Result.{IfOk-weaker}
use Rattle.sloth_base.specs.declared.app.App.{App}
use Rattle.sloth_base.specs.declared.config.Config.{Config}
use Rattle.sloth_base.specs.declared.config.TaskDecl.{TaskDecl}
use Rattle.bound_rules.specs.declared.bound.BodyWeights.{BodyWeights}
use Rattle.walk_sums.specs.declared.sections.Sum.{Sum}
use Rattle.walk_sums.specs.Sections.{AreAllSums}
use Rattle.walk_sums.specs.Weights.{AreWeights}
use Rattle.run_counts.specs.Counts.{AreCounts}
use Rattle.bounds_text.specs.LowerCounts.{heaviest, count_lines}
use Rattle.bounds_text.proofs.KeptCounts.{has_counts}
use Rattle.bounds_text.proofs.task_lines.walked_lines.Goals as goal

pub section_sums-requires : goal.section_sums-requires
section_sums-requires c =
    subst (AreWeights c.args.walks.now.app) (sym c.deref.ensures.value)
    (subst (λ (a : App). AreWeights a c.in_ok-weights.weights.items) c.app.ensures.is c.in_ok-weights.ensures.fit)

pub returns : goal.returns
returns c =
    let w = c.args.walks.now in
    let weights = c.in_ok-weights.weights.items in
    let table = c.in_ok-table.table.items in
    let are = subst (λ (a : App). AreCounts a weights) c.app.ensures.is c.in_ok-weights.ensures.are in
    let are_sums = subst (λ (l : List BodyWeights). AreAllSums w.config w.app l table) c.deref.ensures.value c.in_ok-table.ensures in
    IfOk-weaker c.count_lines.result _ _ (λ text lines.
    let of_tasks : text.items ≡ count_lines w.config.tasks c.heaviest.result c.deref-3.result.now (length w.config.tasks) =
    subst (λ (tasks : List TaskDecl). text.items ≡ count_lines tasks c.heaviest.result c.deref-3.result.now (length tasks))
    (c.items-tasks.ensures ∙ ap (λ (g : Config). g.tasks) c.config.ensures.is) lines in
    let of_weights : text.items ≡ count_lines w.config.tasks (heaviest weights) c.deref-3.result.now (length w.config.tasks) =
    subst (λ (weight : ℕ). text.items ≡ count_lines w.config.tasks weight c.deref-3.result.now (length w.config.tasks))
    (c.heaviest.ensures ∙ ap heaviest c.deref-2.ensures.value) of_tasks in
    let of_table : text.items ≡ count_lines w.config.tasks (heaviest weights) table (length w.config.tasks) =
    subst (λ (sums : List (List Sum)). text.items ≡ count_lines w.config.tasks (heaviest weights) sums (length w.config.tasks)) c.deref-3.ensures.value of_weights in
    has_counts w.config w.app weights table text.items c.config.ensures.well_formed are are_sums of_table) c.count_lines.ensures
