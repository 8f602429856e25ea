-- A rule that is judged by a test.
use Rattle.std.proofs.Common.{Bool, ◌≡◌, ℕ, Option, sym, ◌∙◌}
use Rattle.std.specs.Bool.{Decides}
use Rattle.sloth_base.specs.declared.refusal.Code.{Code}
use Rattle.sloth_base.specs.declared.refusal.Refusal.{Refusal}
use Rattle.sloth_base.specs.Search.{IsSearchResult, fault_if}
use Rattle.code_rules.specs.WellFormed.{fault_at_line}
use Rattle.code_rules.proofs.Judged.{decided}

-- a test that is that of a rule finds the refusal where the rule is broken
pub tested : (P : Type 0) (rule test : Bool) (line : ℕ) (c : Code) (found : Option Refusal) → found ≡ fault_if test (fault_at_line line c) → test ≡ rule → Decides rule P
    → IsSearchResult (λ r. P × (r ≡ fault_at_line line c)) found
tested P rule test line c found is same decides = decided P test line c found is (λ h. decides.0 (sym same ∙ h), λ p. same ∙ decides.1 p)
