use Rattle.std.proofs.Common.{Bool, List, subst, sym}
use Rattle.std.proofs.lemmas.Result.{IfOk-weaker}
use Rattle.rv32_expand.specs.Long.{IsInSet}
use Rattle.rv32_expand.specs.Passes.{set_in_list}
use Rattle.rv32_expand.proofs.Passing.{shortest_of}
use Rattle.rv32_expand.proofs.lengths.shortest.Goals as goal

pub returns-then-not-next : goal.returns-then-not-next
returns-then-not-next c = IfOk-weaker c.lengths.result _ _
    (λ lengths are. shortest_of c.args.app.now c.args.body.now c.loop-long.long.items c.deref.result.now c.deref-then-not-next.result.now c.in_ok-next.next.long.items c.in_ok-next.next.changed
    c.deref.ensures.value c.deref-then-not-next.ensures.value c.loop-long.invariant.least c.in_ok-next.ensures c.if-not-next.true lengths.items are)
    c.lengths.ensures

pub loop-long-preserved : goal.loop-long-preserved
loop-long-preserved c = record {
  count = c.in_ok-next.ensures.count;
  least = λ other s. c.in_ok-next.ensures.forced other s
      (subst (λ (x : List Bool). IsInSet c.args.body.now (set_in_list x) other) (sym c.deref.ensures.value) (c.loop-long.invariant.least other s));
}
