use Rattle.std.proofs.Common.{◌≡◌, List, length, sym, subst, ap, ◌∙◌}
use Rattle.std.proofs.lemmas.Result.{IfOk-weaker}
use Rattle.sloth_base.specs.declared.config.Config.{Config}
use Rattle.sloth_base.specs.declared.app.App.{App}
use Rattle.sloth_base.specs.ConfigRange.{InRange}
use Rattle.code_rules.specs.WellFormed.{WellFormed}
use Rattle.bound_rules.specs.declared.bound.Bound.{Bound}
use Rattle.bound_rules.specs.declared.bound.BodyWeights.{BodyWeights}
use Rattle.sim_induction.specs.Items.{AreLengths}
use Rattle.walk_sums.specs.declared.sections.Sum.{Sum}
use Rattle.walk_sums.specs.Sections.{AreAllSums}
use Rattle.walk_sums.specs.Weights.{AreWeights}
use Rattle.run_counts.specs.Counts.{AreCountsBy}
use Rattle.bounds_text.specs.Latency.{AreAllLines}
use Rattle.bounds_text.proofs.KeptLatency.{has_latency}
use Rattle.bounds_text.proofs.latency.walked_lines.Goals as goal

pub section_sums-requires : goal.section_sums-requires
section_sums-requires c =
    subst (AreWeights c.args.walks.now.app) (sym c.deref.ensures.value)
    (subst (λ (a : App). AreWeights a c.in_ok-weights.weights.items) c.app-app.ensures.is c.in_ok-weights.ensures.fit)

pub all_lines-requires-clause-well_formed : goal.all_lines-requires-clause-well_formed
all_lines-requires-clause-well_formed c =
    subst (WellFormed c.config-config.result.now) (sym c.app-app.ensures.is)
    (subst (λ (g : Config). WellFormed g c.args.walks.now.app) (sym c.config-config.ensures.is) c.config-config.ensures.well_formed)

pub all_lines-requires-clause-in_range : goal.all_lines-requires-clause-in_range
all_lines-requires-clause-in_range c = subst InRange (sym c.config-config.ensures.is) c.config-config.ensures.well_formed.in_range.configuration

pub returns : goal.returns
returns c =
    let w = c.args.walks.now in
    let bounds = c.in_ok-bounds.bounds.items in
    let lengths = c.in_ok-lengths.lengths.bodies in
    let weights = c.in_ok-weights.weights.items in
    let table = c.in_ok-table.table.items in
    let are_lengths = subst (λ (a : App). AreLengths a lengths) c.app-app.ensures.is c.in_ok-lengths.ensures.are in
    let are_counts = subst (λ (a : App). AreCountsBy a lengths weights) c.app-app.ensures.is c.in_ok-weights.ensures.are in
    let are_sums = subst (λ (l : List BodyWeights). AreAllSums w.config w.app l table) c.deref.ensures.value c.in_ok-table.ensures in
    IfOk-weaker c.all_lines.result _ _ (λ text lines.
    let here : AreAllLines w.config w.app bounds lengths weights table text.items =
    subst (λ (l : List Bound). AreAllLines w.config w.app l lengths weights table text.items) c.deref-2.ensures.value
    (subst (λ (l : List BodyWeights). AreAllLines w.config w.app c.deref-2.result.now lengths l table text.items) c.deref-3.ensures.value
    (subst (λ (sums : List (List Sum)). AreAllLines w.config w.app c.deref-2.result.now lengths c.deref-3.result.now sums text.items) c.deref-4.ensures.value
    (subst (λ (g : Config). AreAllLines g w.app c.deref-2.result.now lengths c.deref-3.result.now c.deref-4.result.now text.items) c.config-config.ensures.is
    (subst (λ (a : App). AreAllLines c.config-config.result.now a c.deref-2.result.now lengths c.deref-3.result.now c.deref-4.result.now text.items) c.app-app.ensures.is lines)))) in
    has_latency w.config w.app bounds lengths weights table here.highest text.items c.config-config.ensures.well_formed c.in_ok-bounds.ensures are_lengths are_counts
    are_sums here.is_highest here.lines) c.all_lines.ensures
