use Rattle.std.proofs.Common.{◌≤◌, ℕ, arith, length, sym, subst}
use Rattle.run_windows.specs.declared.costs.Level.{Level}
use Rattle.run_windows.specs.Costs.{no_level}
use Rattle.run_costs.specs.RunCosts.{IsRunLevel, AreRunLevels}
use Rattle.run_costs.proofs.Growing.{each_more, each_of}
use Rattle.run_costs.proofs.sections.levels.Goals as goal

pub loop-h-preserved : goal.loop-h-preserved
loop-h-preserved c =
    let level : Level = record { sections = c.in_ok-sections.sections; makings = c.in_ok-makings.makings } in
    let here : IsRunLevel c.args.walks.now.config c.args.walks.now.app c.args.weights.now c.loop-h.h level = record { sections = c.in_ok-sections.ensures; makings = c.in_ok-makings.ensures } in
    each_more (Level) (IsRunLevel c.args.walks.now.config c.args.walks.now.app c.args.weights.now) c.loop-h.list.items c.push.new.list.items level (no_level) c.loop-h.h c.loop-h.invariant c.in_ok-push.ensures here

pub returns : goal.returns
returns c =
    let over = subst (λ (n : ℕ). n ≤ c.loop-h.h) c.tasks-h-end.ensures.is c.loop-h-test.false in
    let most = subst (λ (n : ℕ). c.loop-h.h ≤ n) c.tasks-h-end.ensures.is c.loop-h.auto.h-end in
    subst (AreRunLevels c.args.walks.now.config c.args.walks.now.app c.args.weights.now) (sym c.from_vec.ensures)
    (each_of (Level) (IsRunLevel c.args.walks.now.config c.args.walks.now.app c.args.weights.now) c.loop-h.list.items (no_level) c.loop-h.h (length c.args.walks.now.config.tasks) (omega (arith, over, most)) c.loop-h.invariant)
