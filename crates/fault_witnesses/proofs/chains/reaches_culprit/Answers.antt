use Rattle.std.proofs.Common.{List, refl, subst}
use Rattle.fault_witnesses.specs.CallChains.{IsChain}
use Rattle.fault_witnesses.specs.declared.chains.Link.{Link}
use Rattle.fault_witnesses.proofs.chains.reaches_culprit.Goals as goal

pub returns-then-is_chain-clause-chain : goal.returns-then-is_chain-clause-chain
returns-then-is_chain-clause-chain c = λ h. subst (λ (links : List Link). IsChain c.args.app.now c.args.callee links) c.items-2.ensures (c.if-is_chain.ensures refl)
