use Rattle.std.proofs.Common.{arith, length, subst, ◌≤◌, ℕ}
use Rattle.run_costs.specs.declared.services.NamingTops.{NamingTops}
use Rattle.run_costs.specs.Services.{no_tops, AreNamingTops}
use Rattle.run_costs.proofs.Growing.{each_more, each_of}
use Rattle.run_costs.proofs.services.all_naming_tops.Goals as goal

pub loop-named-preserved : goal.loop-named-preserved
loop-named-preserved c =
    each_more (NamingTops) (λ j tops. AreNamingTops c.args.walks.now.config c.args.walks.now.app j tops) c.loop-named.all.items c.push.new.list.items c.in_ok-tops.tops (no_tops) c.loop-named.named c.loop-named.invariant c.in_ok-push.ensures c.in_ok-tops.ensures

pub returns : goal.returns
returns c =
    let over = subst (λ (n : ℕ). n ≤ c.loop-named.named) c.tasks-named-end.ensures.is c.loop-named-test.false in
    let most = subst (λ (n : ℕ). c.loop-named.named ≤ n) c.tasks-named-end.ensures.is c.loop-named.auto.named-end in
    let are = each_of (NamingTops) (λ j tops. AreNamingTops c.args.walks.now.config c.args.walks.now.app j tops) c.loop-named.all.items (no_tops) c.loop-named.named (length c.args.walks.now.config.tasks) (omega (arith, over, most)) c.loop-named.invariant in
    record { count = are.count; each = are.each }
