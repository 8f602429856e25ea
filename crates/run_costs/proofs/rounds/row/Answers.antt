use Rattle.std.proofs.Common.{◌<◌, ◌≤◌, ◌∙◌, ℕ, List, ap, arith, cond, get_or, length, sym, subst}
use Rattle.std.specs.Prelude.{◌==◌}
use Rattle.walk_sums.specs.declared.sections.RoundSums.{RoundSums}
use Rattle.run_costs.specs.Tables.{no_sums}
use Rattle.run_costs.specs.Makings.{MakingSums, AreMakingSums}
use Rattle.run_costs.proofs.Making.{making_is}
use Rattle.run_windows.specs.declared.costs.Makings.{Makings}
use Rattle.run_windows.specs.Costs.{no_makings}
use Rattle.run_costs.specs.RunCosts.{AreRunMakings, AreMakingRow}
use Rattle.run_costs.proofs.Growing.{each_more, each_of}
use Rattle.run_costs.proofs.rounds.row.Goals as goal

pub loop-maker-preserved : goal.loop-maker-preserved
loop-maker-preserved c =
    let w = c.args.walks.now in
    let maker = c.loop-maker.maker in
    let inside = subst (λ (n : ℕ). maker < n) c.tasks-maker-end.ensures.is c.loop-maker-test.true in
    let sums : MakingSums = record { activations = c.in_ok-activations.activations.items; chains = c.in_ok-chains.chains.items; settings = c.in_ok-settings.settings.items } in
    let are : AreMakingSums w.config w.app c.args.clean.now c.args.j sums = record {
      activations = c.in_ok-activations.ensures;
      chains = c.in_ok-chains.ensures;
      settings = c.in_ok-settings.ensures;
    } in
    let own = c.numbered_sums-own.ensures ∙ ap (λ (l : List RoundSums). get_or l maker no_sums) c.deref.ensures.value in
    let other = c.numbered_sums-other.ensures ∙ ap (λ (l : List RoundSums). get_or l maker no_sums) c.deref-in-loop-maker.ensures.value in
    let set = c.numbered_sums-set.ensures ∙ ap (λ (l : List RoundSums). get_or l maker no_sums) c.deref-in-loop-maker-2.ensures.value in
    each_more (Makings) (AreRunMakings w.config w.app c.args.j) c.loop-maker.row.items c.push.new.list.items c.run_making.result (no_makings) maker c.loop-maker.invariant c.in_ok-push.ensures
    (making_is w.config w.app c.args.clean.now c.args.steady.now sums maker c.args.j inside are c.requires.clean c.requires.steady
    c.run_making.result c.is_once-once.result _ c.numbered_sums-set.result c.is_once-once.ensures
    (ap (λ (s : RoundSums). cond (maker == c.args.j) s c.numbered_sums-other.result) own ∙ ap (λ (s : RoundSums). cond (maker == c.args.j) (get_or sums.chains maker no_sums) s) other)
    set c.run_making.ensures)

pub returns : goal.returns
returns c =
    let over = subst (λ (n : ℕ). n ≤ c.loop-maker.maker) c.tasks-maker-end.ensures.is c.loop-maker-test.false in
    let most = subst (λ (n : ℕ). c.loop-maker.maker ≤ n) c.tasks-maker-end.ensures.is c.loop-maker.auto.maker-end in
    subst (AreMakingRow c.args.walks.now.config c.args.walks.now.app c.args.j) (sym c.from_vec.ensures)
    (each_of (Makings) (AreRunMakings c.args.walks.now.config c.args.walks.now.app c.args.j) c.loop-maker.row.items (no_makings) c.loop-maker.maker (length c.args.walks.now.config.tasks) (omega (arith, over, most)) c.loop-maker.invariant)
