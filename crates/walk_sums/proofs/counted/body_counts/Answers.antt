use Rattle.std.proofs.Common.{◌≡◌, ◌∙◌, ℕ, List, map, ap, ap₂}
use Rattle.std.proofs.lemmas.List.{take_all}
use Rattle.sloth_base.specs.declared.app.Item.{Item}
use Rattle.bound_rules.specs.declared.bound.BodyWeights.{BodyWeights}
use Rattle.walk_sums.specs.Counted.{one_if, is_going_counted, is_ending_counted}
use Rattle.walk_sums.proofs.counted.body_counts.Goals as goal

abbrev both : List ℕ → List ℕ → BodyWeights
both going ending = record { going = going; ending = ending }

pub returns : goal.returns
returns c =
    let k = c.args.counted in
    let all = take_all c.loop-item.item-index c.items-item-items.result.now c.loop-item-test.false ∙ c.items-item-items.ensures in
    ap₂ both
    (c.from_vec.ensures ∙ c.loop-item.invariant.going ∙ ap (λ (l : List Item). map (λ (item : Item). one_if (is_going_counted k item.op)) l) all)
    (c.from_vec-2.ensures ∙ c.loop-item.invariant.ending ∙ ap (λ (l : List Item). map (λ (item : Item). one_if (is_ending_counted k item.op)) l) all)
