use Rattle.std.proofs.Common.{◌≡◌, List, subst}
use Rattle.fault_witnesses.specs.CallChains.{IsChain, chain_end}
use Rattle.fault_witnesses.specs.declared.chains.Link.{Link}
use Rattle.fault_witnesses.proofs.chains.calls_between.Goals as goal

pub returns : goal.returns
returns c =
    let ok = c.if-not-leads.false in
    subst (λ (links : List Link). IsChain c.args.app.now c.args.start links × (chain_end c.args.start links ≡ c.args.end)) c.items.ensures
    (c.leads.ensures.chain ok, c.leads.ensures.ends ok)
