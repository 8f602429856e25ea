-- An effect names registers that are there.
use Rattle.std.specs.Prelude.{◌<◌}
use Rattle.rv32_instr.specs.declared.encoding.Effect.{Effect}
use Rattle.rv32_instr.specs.declared.encoding.Effect.TheVariants.{Nothing, Write, Branch, Jump, Load, Store, Csr, Environment, Return}

-- the register that an effect writes is one of the 32
abbrev pub HasRegisterInRange : Effect → Type 0
HasRegisterInRange Nothing = Unit {0}
HasRegisterInRange (Write rd value) = rd < 32
HasRegisterInRange (Branch taken target) = Unit {0}
HasRegisterInRange (Jump rd target) = rd < 32
HasRegisterInRange (Load width rd address) = rd < 32
HasRegisterInRange (Store width address value) = Unit {0}
HasRegisterInRange (Csr rd csr change) = rd < 32
HasRegisterInRange Environment = Unit {0}
HasRegisterInRange Return = Unit {0}
