-- What comes of an input in memory.
use Rattle.debug_session.specs.Input.{Coming}
use Rattle.debug_session.specs.declared.input.MemInput.{MemInput}

-- its bytes, and what stands behind them
abbrev pub coming_of : MemInput → Coming
coming_of input = record { bytes = input.bytes.now; broken = input.broken }
