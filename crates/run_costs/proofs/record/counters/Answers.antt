use Rattle.sloth_base.specs.declared.config.CounterDecl.{CounterDecl}
use Rattle.std.proofs.Common.{rules, List, arith, length, sym, subst, ◌≤◌}
use Rattle.run_windows.specs.declared.costs.CounterCosts.{CounterCosts}
use Rattle.run_costs.specs.CostsOf.{AreEach, no_counter}
use Rattle.run_costs.specs.RunCosts.{IsRunCounter}
use Rattle.run_costs.proofs.Growing.{each_more, each_of}
use Rattle.run_costs.proofs.record.counters.Goals as goal

pub loop-number-preserved : goal.loop-number-preserved
loop-number-preserved c =
    let counter : CounterCosts = record { distance = c.distance_of.result; tick = c.tick_path.result } in
    let here : IsRunCounter c.args.config.now c.args.load.now c.loop-number.number counter = search rules in
    each_more (CounterCosts) (IsRunCounter c.args.config.now c.args.load.now) c.loop-number.list.items c.push.new.list.items counter (no_counter) c.loop-number.number c.loop-number.invariant c.in_ok-push.ensures
    here

pub returns : goal.returns
returns c =
    let over = subst (λ (x : List CounterDecl). length x ≤ c.loop-number.number) c.items-number-end.ensures c.loop-number-test.false in
    let most = subst (λ (x : List CounterDecl). c.loop-number.number ≤ length x) c.items-number-end.ensures c.loop-number.auto.number-end in
    subst (AreEach (length c.args.config.now.counters) no_counter (IsRunCounter c.args.config.now c.args.load.now)) (sym c.from_vec.ensures)
    (each_of (CounterCosts) (IsRunCounter c.args.config.now c.args.load.now) c.loop-number.list.items (no_counter) c.loop-number.number (length c.args.config.now.counters) (omega (arith, over, most)) c.loop-number.invariant)
