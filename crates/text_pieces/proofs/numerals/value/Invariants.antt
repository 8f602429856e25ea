use Rattle.std.proofs.Common.{◌≡◌, ◌≤◌, drop}
use Rattle.text_pieces.specs.Digits.{value_from, capped_value}
use Rattle.text_pieces.proofs.numerals.value.Given as goal

abbrev pub invariant-loop-digit : goal.invariant-loop-digit
invariant-loop-digit l = (l.value ≤ 4294967296) × (capped_value (value_from l.base l.value (drop l.digit-index l.digits)) ≡ capped_value (value_from l.base 0 l.digits))
