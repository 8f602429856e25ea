-- Functions that their own row of bits has.
use Rattle.std.specs.Prelude.{ℕ, ◌<◌, ◌≡◌, true, List, length, get_or}
use Rattle.sloth_base.specs.declared.app.Func.{Func}
use Rattle.sloth_base.specs.declared.refusal.Code.TheVariants as code
use Rattle.sloth_base.specs.declared.refusal.Refusal.{Refusal}
use Rattle.sloth_base.specs.Named.{no_function}
use Rattle.code_rules.specs.WellFormed.{fault_at_line}
use Rattle.call_graph.specs.Rows.{row_has}

-- V1 at function f, where its own row has it
abbrev pub RowCycleAt : List Func → List ℕ → ℕ → Refusal → Type 0
RowCycleAt funcs rows f r = (row_has rows f f ≡ true) × (r ≡ fault_at_line (get_or funcs f no_function).line code.V1)

-- V1, by the rows of all functions
abbrev pub RowCycle : List Func → List ℕ → Refusal → Type 0
RowCycle funcs rows r = (f : ℕ) × (f < length funcs) × RowCycleAt funcs rows f r
