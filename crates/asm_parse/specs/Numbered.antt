-- Names that a u32 can number.
use Rattle.std.specs.Prelude.{◌<◌, ◌^◌, length}
use Rattle.asm_scopes.specs.declared.scope.Scope.{Scope}

-- the names of a scope have numbers of 32 bits
pub record IsNumbered (scope : Scope) : Type 0 where
  pub tasks : length scope.tasks < 2 ^ 32
  pub resources : length scope.resources < 2 ^ 32
  pub alarms : length scope.alarms < 2 ^ 32
  pub symbols : length scope.symbols < 2 ^ 32
  pub functions : length scope.functions < 2 ^ 32
