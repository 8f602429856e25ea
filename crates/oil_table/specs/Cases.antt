-- A case of a fault of an OIL text.
use Rattle.std.specs.Prelude.{ℕ, Bool}
use Rattle.sloth_base.specs.declared.refusal.Part.TheVariants.{Oil}
use Rattle.sloth_base.specs.declared.refusal.Code.{Code}
use Rattle.sloth_base.specs.declared.refusal.Refusal.{Refusal}
use Rattle.sloth_base.specs.Cases.{CaseOf}

-- The test says that there is a fault of this code on this line, and it is r.
abbrev pub OilCase : Bool → ℕ → Code → Refusal → Type 0
OilCase test line code r = CaseOf Oil test line code r
