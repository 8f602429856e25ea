use Rattle.std.proofs.Common.{rules, ◌≡◌, ◌∙◌, ◌≤◌, ℕ, List, ap, sym, subst, length, arith}
use Rattle.std.specs.Prelude.{Option}
use Rattle.run_windows.specs.declared.costs.TaskCosts.{TaskCosts}
use Rattle.run_windows.specs.declared.costs.Untold.{Untold}
use Rattle.run_windows.specs.FirstUntold.{earlier, first_below, level_rounds, level_makings, untold_lower, first_untold}
use Rattle.run_windows.proofs.AllTold.{first_inside}
use Rattle.run_windows.proofs.Firsts.{one_further}
use Rattle.run_windows.proofs.costs.first_untold.Goals as goal

-- the three that are found among the first tasks, where these are all
all_found : (r m l : ℕ → Option Untold) (k n : ℕ) → k ≡ n → (rounds makings lower : Option Untold) → rounds ≡ first_below r k → makings ≡ first_below m k → lower ≡ first_below l k
    → (rest found : Option Untold) → rest ≡ earlier makings lower → found ≡ earlier rounds rest → found ≡ earlier (first_below r n) (earlier (first_below m n) (first_below l n))
all_found r m l k n end rounds makings lower a b c rest found e f =
    subst (λ (i : ℕ). found ≡ earlier (first_below r i) (earlier (first_below m i) (first_below l i))) end
    (f ∙ (ap (λ x. earlier x rest) a ∙ ap (earlier (first_below r k)) (e ∙ (ap (λ x. earlier x lower) b ∙ ap (earlier (first_below m k)) c))))

pub loop-k-preserved : goal.loop-k-preserved
loop-k-preserved c =
    let costs = c.args.costs.now in
    let h = c.args.h in
    let own : c.untold_rounds.result ≡ level_rounds costs h c.loop-k.k = search rules in
    record {
      rounds = one_further (level_rounds costs h) c.loop-k.k c.loop-k.rounds c.untold_rounds.result c.or-rounds.result c.loop-k.invariant.rounds own c.or-rounds.ensures;
      makings = one_further (level_makings costs h) c.loop-k.k c.loop-k.makings c.level_makings.result c.or-makings.result c.loop-k.invariant.makings c.level_makings.ensures c.or-makings.ensures;
      lower = one_further (untold_lower costs h) c.loop-k.k c.loop-k.lower c.untold_lower.result c.or-lower.result c.loop-k.invariant.lower c.untold_lower.ensures c.or-lower.ensures;
    }

pub returns-clause-is : goal.returns-clause-is
returns-clause-is c =
    let costs = c.args.costs.now in
    let h = c.args.h in
    let same = ap (λ (l : List TaskCosts). length l) c.items-k-end.ensures in
    let over = c.loop-k-test.false in
    let most = c.loop-k.auto.k-end in
    all_found (level_rounds costs h) (level_makings costs h) (untold_lower costs h) c.loop-k.k (length costs.tasks) (omega (arith, same, over, most)) c.loop-k.rounds c.loop-k.makings c.loop-k.lower
    c.loop-k.invariant.rounds c.loop-k.invariant.makings c.loop-k.invariant.lower c.or.result c.or-2.result c.or.ensures c.or-2.ensures

pub returns-clause-inside : goal.returns-clause-inside
returns-clause-inside c u e = first_inside c.args.costs.now c.args.h u (sym (returns-clause-is c) ∙ e)
