use Rattle.std.proofs.Common.{ℕ, List, [], ◌∷◌, ◌++◌, ◌∙◌, ap}
use Rattle.sloth_base.specs.declared.config.CounterDecl.{CounterDecl}
use Rattle.sloth_base.proofs.Mapping.{lent_more, lent_all}
use Rattle.sloth_base.proofs.config.counter_names.Goals as goal

pub loop-counter-preserved : goal.loop-counter-preserved
loop-counter-preserved c =
    lent_more CounterDecl (List ℕ) (λ x. x.name) c.args.config.now.counters c.items-counter-items.result.now c.loop-counter.counter-index c.counter-item.result c.loop-counter.names.items
    c.push.new.list.items c.items-counter-items.ensures c.loop-counter-test.true c.counter-item.is (c.in_ok-push.ensures ∙ ap (λ (name : List ℕ). c.loop-counter.names.items ++ name ∷ []) (c.in_ok-new.ensures ∙ c.bytes.ensures)) c.loop-counter.invariant

pub returns : goal.returns
returns c =
    c.from_vec.ensures
    ∙ lent_all CounterDecl (List ℕ) (λ x. x.name) c.args.config.now.counters c.items-counter-items.result.now c.loop-counter.counter-index c.loop-counter.names.items c.items-counter-items.ensures
    c.loop-counter-test.false c.loop-counter.invariant
