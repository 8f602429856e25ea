use Rattle.std.proofs.Common.{get_or, refl, sym, ap, add-one}
use Rattle.fault_witnesses.specs.CallChains.{caller_at, no_link}
use Rattle.fault_witnesses.proofs.Chained.{chain_more}
use Rattle.fault_witnesses.proofs.chains.is_chain.Goals as goal

pub loop-number-preserved : goal.loop-number-preserved
loop-number-preserved c =
    let links = c.args.links.now in
    let n = c.loop-number.number in
    let start = c.args.start in
    record {
      caller = ap (caller_at start links) (sym (add-one n));
      each = chain_more c.args.app.now start n links c.loop-number.caller (get_or links n no_link) c.loop-number-test.true refl c.loop-number.invariant.caller
          (c.makes_call.ensures c.if-not-makes_call.false) c.loop-number.invariant.each;
    }
