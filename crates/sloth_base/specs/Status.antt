-- The status that a service answers in a0 (OSEK OS 2.2.3, section 13.1).
use Rattle.std.specs.Prelude.{ℕ}

-- no error
abbrev pub E_OK : ℕ
E_OK = 0

-- too many activations of a task
abbrev pub E_OS_LIMIT : ℕ
E_OS_LIMIT = 4

-- an alarm is not in use
abbrev pub E_OS_NOFUNC : ℕ
E_OS_NOFUNC = 5

-- a task is in a state in which the service does nothing, or an alarm is in use
abbrev pub E_OS_STATE : ℕ
E_OS_STATE = 7

-- a value is outside a counter's limits
abbrev pub E_OS_VALUE : ℕ
E_OS_VALUE = 8
