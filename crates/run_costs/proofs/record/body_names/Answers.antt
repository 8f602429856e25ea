use Rattle.std.proofs.Common.{◌≤◌, List, length, sym, ◌∙◌, subst}
use Rattle.std.proofs.lemmas.Bool.{true≢false}
use Rattle.sloth_base.specs.declared.app.Item.{Item}
use Rattle.run_costs.proofs.Naming.{none_in}
use Rattle.run_costs.proofs.record.body_names.Goals as goal

pub returns-clause-none : goal.returns-clause-none
returns-clause-none c = λ i e.
    absurd (true≢false (sym e ∙ none_in c.args.alarm c.args.service c.args.func.now c.loop-number.number
    (subst (λ (x : List Item). length x ≤ c.loop-number.number) c.items-number-end.ensures c.loop-number-test.false) c.loop-number.invariant i))
