use Rattle.std.proofs.Common.{◌≡◌, ◌∙◌, ℕ, ◌≤◌, ◌⊎◌, inl, inr, not, true, [], sym, subst, ap, arith}
use Rattle.std.specs.Prelude.{◌==◌}
use Rattle.std.proofs.lemmas.Bool.{cases_eq, eq-eqb, true≢false}
use Rattle.run_windows.specs.Costs.{makers}
use Rattle.run_windows.specs.declared.costs.Rule.{Rule}
use Rattle.run_windows.specs.Windows.{numbers_of, rule_of, counted, activations, settings, round_makings}
use Rattle.run_windows.specs.Cycles.{IsOpen, rest}
use Rattle.run_windows.proofs.Endless.{by_makers, some_capped, some_share, first_mark, comes_again, made_again}
use Rattle.run_windows.proofs.curves.closes.Goals as goal

not_none_rest : (n : ℕ) → not (n == 0) ≡ true → 1 ≤ n
not_none_rest n e = by (cases_eq n 0)
  where
    by : (n ≡ 0) ⊎ (n ≡ 0 → ⊥) → 1 ≤ n
    by (inl z) = absurd (true≢false (sym e ∙ ap not (eq-eqb n 0 z)))
    by (inr more) = omega (arith, more)

pub reach-requires : goal.reach-requires
reach-requires c = record { marked = first_mark c.args.costs.now c.args.window.now c.args.sets c.args.t 30 c.one_share.result c.one_share.ensures }

pub returns-then-share-ne0 : goal.returns-then-share-ne0
returns-then-share-ne0 c _ =
    let costs = c.args.costs.now in
    let w = c.args.window.now in
    let not_none = c.if-round_makings-eq0.false in
    let r = c.round_makings.ensures in
    let own = makers costs c.args.t in
    let again = by_makers c.args.sets (numbers_of c.reach.new.marks) 1 c.makers.result.now own c.makers.ensures (omega (arith, not_none, r)) in
    let open_rule = c.is_open.ensures c.if-not-is_open.false in
    let counts_one = some_share c.args.sets c.counted.result (counted c.rule_of-rule.result 1 1) c.share.result c.share.ensures c.counted.ensures c.if-share-eq0.false in
    let some = some_share c.args.sets c.made_within.result _ c.share-2.result c.share-2.ensures c.made_within.ensures c.if-share-ne0.true in
    comes_again costs w c.args.sets c.args.t c.args.made.now c.reach.new.marks c.args.counts c.requires.below c.reach.ensures c.requires.inside
    c.rule_of-rule.result c.rule_of-rule.ensures open_rule counts_one again
    (some_capped (rule_of costs w c.args.t) c.args.sets (activations costs w (numbers_of []) c.args.counts c.args.t) (settings costs w (numbers_of []) c.args.counts c.args.t) some
    (subst (λ (q : Rule). IsOpen q) c.rule_of-rule.ensures open_rule))

pub returns : goal.returns
returns c more =
    let not_none = c.if-round_makings-eq0.false in
    let r = c.round_makings.ensures in
    let own = makers c.args.costs.now c.args.t in
    let again = by_makers c.args.sets (numbers_of c.reach.new.marks) 1 c.makers.result.now own c.makers.ensures (omega (arith, not_none, r)) in
    let some = not_none_rest c.rest_makings.result more in
    let q = c.rest_makings.ensures in
    let counts_one = some_share c.args.sets c.counted.result (counted c.rule_of-rule.result 1 1) c.share.result c.share.ensures c.counted.ensures c.if-share-eq0.false in
    made_again c.args.costs.now c.args.window.now c.args.sets c.args.t c.args.made.now c.reach.new.marks c.args.counts c.requires.below c.reach.ensures c.requires.inside
    c.rule_of-rule.result c.rule_of-rule.ensures (c.is_open.ensures c.if-not-is_open.false) counts_one again
    (by_makers c.args.sets (rest (numbers_of c.reach.new.marks) (numbers_of c.args.made.now)) 1 c.makers-2.result.now own c.makers-2.ensures (omega (arith, some, q)))
