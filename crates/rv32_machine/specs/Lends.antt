-- A machine whose bus is lent.
use Rattle.std.specs.Borrow.{Lends, Fml, RattleType, MutBor}
use Rattle.rv32_machine.specs.declared.machine.Machine.{Machine}
use Rattle.rv32_machine.specs.contracts.machine.Machine.{the_row}

-- once the borrow of its bus ends, the machine has the bus that was left there, and all else as before
abbrev pub LendsBus : (B : RattleType) → MutBor (Machine B.Denot) → MutBor B.Denot → Fml
LendsBus B machine bus = Lends (the_row B) B machine bus (λ left. record machine.now { bus = left })
