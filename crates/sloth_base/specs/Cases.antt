-- A case of a fault: a test that says whether it is there.
use Rattle.std.specs.Prelude.{◌≡◌, ℕ, Bool, true}
use Rattle.sloth_base.specs.declared.refusal.Part.{Part}
use Rattle.sloth_base.specs.declared.refusal.Code.{Code}
use Rattle.sloth_base.specs.declared.refusal.Refusal.{Refusal}

-- a fault of this part on a line
abbrev pub fault_at : Part → ℕ → Code → Refusal
fault_at part line code = record { part = part; line = line; code = code }

-- The test says that the text has a fault of this code on this line, and it is r.
abbrev pub CaseOf : Part → Bool → ℕ → Code → Refusal → Type 0
CaseOf part test line code r = (test ≡ true) × (r ≡ fault_at part line code)
