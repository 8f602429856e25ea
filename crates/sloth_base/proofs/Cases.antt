-- A case, as the code finds it.
use Rattle.std.proofs.Common.{◌≡◌, ℕ, Bool, Option, ap, ◌∙◌}
use Rattle.sloth_base.specs.declared.refusal.Part.{Part}
use Rattle.sloth_base.specs.declared.refusal.Code.{Code}
use Rattle.sloth_base.specs.declared.refusal.Refusal.{Refusal}
use Rattle.sloth_base.specs.Search.{fault_if, IsSearchResult}
use Rattle.sloth_base.specs.Cases.{fault_at, CaseOf}
use Rattle.sloth_base.proofs.Kept.{finds_true_is}

pub case_found : (part : Part) (b t : Bool) (line : ℕ) (code : Code) (m : Option Refusal) → m ≡ fault_if t (fault_at part line code) → t ≡ b → IsSearchResult (CaseOf part b line code) m
case_found part b t line code m e q = finds_true_is b (fault_at part line code) m (e ∙ ap (λ v. fault_if v (fault_at part line code)) q)
