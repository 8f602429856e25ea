use Rattle.std.proofs.Common.{ℕ, List, [], ◌∷◌, ◌++◌, ◌∙◌, ap}
use Rattle.sloth_base.specs.declared.app.Func.{Func}
use Rattle.sloth_base.proofs.Mapping.{lent_more, lent_all}
use Rattle.sloth_base.proofs.config.function_names.Goals as goal

pub loop-func-preserved : goal.loop-func-preserved
loop-func-preserved c =
    lent_more Func (List ℕ) (λ x. x.name) c.args.app.now.funcs c.items-func-items.result.now c.loop-func.func-index c.func-item.result c.loop-func.names.items
    c.push.new.list.items c.items-func-items.ensures c.loop-func-test.true c.func-item.is (c.in_ok-push.ensures ∙ ap (λ (name : List ℕ). c.loop-func.names.items ++ name ∷ []) (c.in_ok-new.ensures ∙ c.bytes.ensures)) c.loop-func.invariant

pub returns : goal.returns
returns c =
    c.from_vec.ensures
    ∙ lent_all Func (List ℕ) (λ x. x.name) c.args.app.now.funcs c.items-func-items.result.now c.loop-func.func-index c.loop-func.names.items c.items-func-items.ensures
    c.loop-func-test.false c.loop-func.invariant
