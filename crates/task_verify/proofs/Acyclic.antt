-- Where ranks fall along calls, no function lies on a cycle of calls.
use Rattle.std.proofs.Common.{ℕ, ◌<◌, List, [], ◌∷◌, get_or, arith}
use Rattle.sloth_base.specs.declared.app.App.{App}
use Rattle.sloth_base.specs.Order.{NoFault}
use Rattle.code_rules.specs.Code.{IsCallChain}
use Rattle.code_rules.specs.WellFormed.{CycleFault, on_cycle}
use Rattle.call_graph.specs.declared.lists.Ranks.{Ranks}
use Rattle.call_graph.specs.Ranks.{RanksOf}

chain_falls : (app : App) (ranks : Ranks) → RanksOf app ranks → (f g : ℕ) (between : List ℕ) → IsCallChain app f between g
    → get_or ranks.rank g 0 < get_or ranks.rank f 0
chain_falls app ranks belong f g [] calls = belong.above f g calls
chain_falls app ranks belong f g (k ∷ between) chain =
    let first = belong.above f k chain.0 in
    let rest = chain_falls app ranks belong k g between chain.1 in omega (arith, first, rest)

pub no_cycle : (app : App) (ranks : Ranks) → RanksOf app ranks → NoFault (CycleFault app)
no_cycle app ranks belong r (on_cycle f between chain) = let falls = chain_falls app ranks belong f f between chain in omega (arith, falls)
