-- Numbers in the blocks of an alarm outside the limits of its counter (OIL 2.5, section 3.2.9).
use Rattle.std.specs.Prelude.{ℕ, Bool, false, not, ◌||◌, ◌&&◌, ◌==◌, nat_lt, Option, Some, None}
use Rattle.oil_parse.specs.declared.tree.OilValue.{OilValue}
use Rattle.oil_parse.specs.declared.tree.OilValue.TheVariants.{Number}
use Rattle.oil_parse.specs.declared.tree.OilAttr.{OilAttr}
use Rattle.oil_table.specs.declared.table.Attribute.{Attribute}
use Rattle.oil_table.specs.declared.table.Attribute.TheVariants as attribute
use Rattle.oil_table.specs.declared.counter_limits.Limits.{Limits}

-- a number outside the limits of the alarm's counter
abbrev pub is_number_beyond : Limits → Attribute → ℕ → Bool
is_number_beyond limits attribute.Time number = nat_lt limits.greatest number
is_number_beyond limits attribute.Cycle number = not (number == 0) && (nat_lt number limits.least || nat_lt limits.greatest number)
is_number_beyond limits _ number = false

-- the same of a value
abbrev pub is_value_beyond : Limits → Attribute → OilValue → Bool
is_value_beyond limits row (Number number) = is_number_beyond limits row number
is_value_beyond limits row _ = false

-- the same of the value of an attribute with this row of the table
abbrev pub is_beyond : Limits → Option Attribute → OilAttr → Bool
is_beyond limits None attr = false
is_beyond limits (Some row) attr = (attr.depth == 1) && is_value_beyond limits row attr.value
