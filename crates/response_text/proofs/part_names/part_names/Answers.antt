use Rattle.std.proofs.Common.{List, sym, subst}
use Rattle.sloth_base.specs.declared.config.Config.{Config}
use Rattle.sloth_base.specs.declared.app.App.{App}
use Rattle.bound_rules.specs.declared.bound.BodyWeights.{BodyWeights}
use Rattle.sim_induction.specs.Items.{AreLengths}
use Rattle.walk_sums.specs.Weights.{AreWeights}
use Rattle.run_windows.specs.RunWindows.{IsLeastOf}
use Rattle.run_counts.specs.Counts.{AreCounts, AreCountsBy}
use Rattle.response_text.specs.PartNames.{IsStretchName, HasLongItem, AreBounded}
use Rattle.response_text.proofs.part_names.part_names.Goals as goal

pub bounded-requires : goal.bounded-requires
bounded-requires c =
    subst (AreWeights c.args.walks.now.app) (sym c.deref.ensures.value)
    (subst (λ (a : App). AreWeights a c.in_ok-weights.weights.items) c.app-app.ensures.is c.in_ok-weights.ensures.fit)

pub returns : goal.returns
returns c =
    let w = c.args.walks.now in
    let found = c.args.found.now in
    let lengths = c.in_ok-lengths.lengths.bodies in
    let weights = c.in_ok-weights.weights.items in
    let kept = sym c.from_vec-2.ensures in
    let are : AreLengths w.app lengths = subst (λ (a : App). AreLengths a lengths) c.app-app.ensures.is c.in_ok-lengths.ensures.are in
    let counts : AreCounts w.app weights = (lengths, are, subst (λ (a : App). AreCountsBy a lengths weights) c.app-app.ensures.is c.in_ok-weights.ensures.are) in
    let fit : AreWeights w.app weights = subst (λ (a : App). AreWeights a weights) c.app-app.ensures.is c.in_ok-weights.ensures.fit in
    let stretch : IsStretchName w.config w.app weights found.late c.stretch_name-stretch.result =
    subst (λ (l : List BodyWeights). IsStretchName w.config w.app l found.late c.stretch_name-stretch.result) c.deref-2.ensures.value
    (subst (λ (a : App). IsStretchName w.config a c.deref-2.result.now found.late c.stretch_name-stretch.result) c.app-app.ensures.is
    (subst (λ (g : Config). IsStretchName g c.app-app.result.now c.deref-2.result.now found.late c.stretch_name-stretch.result) c.config-config.ensures.is
    c.stretch_name-stretch.ensures)) in
    let bounded : AreBounded w.config w.app c.args.load.now weights c.in_ok-bounded.bounded.items =
    subst (λ (l : List BodyWeights). AreBounded w.config w.app c.args.load.now l c.in_ok-bounded.bounded.items) c.deref.ensures.value c.in_ok-bounded.ensures in
    record {
      counts = subst (AreCounts w.app) kept counts;
      fit = subst (AreWeights w.app) kept fit;
      stretch = subst (λ (l : List BodyWeights). IsStretchName w.config w.app l found.late c.stretch_name-stretch.result) kept stretch;
      item = record {
        lengths = lengths;
        are_lengths = are;
        line = c.long_line.result;
        is_least = subst (λ (a : App). IsLeastOf (HasLongItem a lengths found.longest) c.long_line.result) c.app-app.ensures.is c.long_line.ensures;
        is = c.line_name-item.ensures;
      };
      bounded = subst (λ (l : List BodyWeights). AreBounded w.config w.app c.args.load.now l c.from_vec.result) kept
          (subst (AreBounded w.config w.app c.args.load.now weights) (sym c.from_vec.ensures) bounded);
    }
