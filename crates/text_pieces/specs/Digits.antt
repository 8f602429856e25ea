-- The values of digits.
use Rattle.std.specs.Prelude.{ℕ, ◌+◌, ◌-◌, ◌*◌, if◌then◌else◌, nat_le, min, List, [], ◌∷◌}

-- the value of a digit, decimal or hexadecimal of either case
unfoldable pub digit_value : ℕ → ℕ
digit_value b = if nat_le 97 b then b - 87 else (if nat_le 65 b then b - 55 else b - 48)

-- the value of digits behind those of value v
abbrev pub value_from : ℕ → ℕ → List ℕ → ℕ
value_from base v [] = v
value_from base v (d ∷ ds) = value_from base (base * v + digit_value d) ds

-- The lesser of a value and 4,294,967,296. No number of a text may be that great, so one that is cut off is refused as the whole one is.
abbrev pub capped_value : ℕ → ℕ
capped_value v = min v 4294967296
