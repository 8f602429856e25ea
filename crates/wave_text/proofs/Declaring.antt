-- The declarations of a scope, one signal after the other.
use Rattle.std.proofs.Common.{◌≡◌, ◌+◌, ℕ, List, [], ◌++◌, get_or, refl, ap}
use Rattle.std.proofs.Math.Numerals.{add-one}
use Rattle.wave_text.specs.declared.signals.Scope.{Scope}
use Rattle.wave_text.specs.declared.signals.Scope.TheVariants as scope
use Rattle.wave_text.specs.Header.{variable_line, variable_lines, alarm_name, alarm_lines}
use Rattle.wave_text.specs.Signals.{first_code, signal_width}

pub no-variables : (s : Scope) (names : List (List ℕ)) → variable_lines s names 0 ≡ []
unfolding variable_lines
no-variables s names = refl

pub variables-more : (s : Scope) (names : List (List ℕ)) (k : ℕ)
    → variable_lines s names (k + 1) ≡ variable_lines s names k ++ variable_line (signal_width s) (first_code s + k) (get_or names k [])
unfolding variable_lines
variables-more s names k = ap (variable_lines s names) (add-one k)

-- and of the alarms
pub no-alarms : alarm_lines 0 ≡ []
unfolding alarm_lines
no-alarms = refl

pub alarms-more : (k : ℕ) → alarm_lines (k + 1) ≡ alarm_lines k ++ variable_line (signal_width scope.Alarms) (first_code scope.Alarms + k) (alarm_name k)
unfolding alarm_lines
alarms-more k = ap alarm_lines (add-one k)
