use Rattle.std.proofs.Common.{◌∙◌, [], ◌∷◌, List, length, length-append, ap, sym, subst, arith}
use Rattle.fault_witnesses.specs.CallChains.{IsCycle}
use Rattle.fault_witnesses.specs.declared.chains.Link.{Link}
use Rattle.fault_witnesses.proofs.chains.closed_cycle.Goals as goal

pub returns : goal.returns
returns c =
    let ok = c.if-not-leads.false in
    let link : Link = record { func = c.args.body; line = c.item_line-line.result } in
    let long = ap length (c.deref.ensures.value ∙ c.in_ok-push.ensures) in
    let more = length-append c.in_ok-longer.longer.items (link ∷ []) in
    subst (λ (links : List Link). IsCycle c.args.app.now c.args.body links) (c.deref.ensures.value ∙ sym c.from_vec.ensures)
    (record { some = omega (arith, long, more); chain = c.leads.ensures.chain ok; ends = c.leads.ensures.ends ok })
