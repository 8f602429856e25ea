-- The faults of task source are of its part.
use Rattle.std.proofs.Common.{◌≡◌, ℕ, Bool, List, [], inl, inr, refl, ap}
use Rattle.sloth_base.specs.declared.config.Config.{Config}
use Rattle.sloth_base.specs.declared.app.App.{App}
use Rattle.sloth_base.specs.declared.refusal.Refusal.{Refusal}
use Rattle.sloth_base.specs.declared.refusal.Part.TheVariants.{Src}
use Rattle.sloth_base.specs.declared.refusal.Code.{Code}
use Rattle.asm_lines.specs.declared.source_line.SourceLine.{SourceLine}
use Rattle.asm_lines.specs.Faults.{SourceCase, LineFault, FaultAt, SourceLinesFault, source_lines}
use Rattle.asm_scopes.specs.declared.scope.Scope.{Scope}
use Rattle.asm_scopes.specs.Bodies.{BodyText, bodies_of}
use Rattle.asm_scopes.specs.Scopes.{scope_of}
use Rattle.asm_parse.specs.NameFaults.{DataFault, LineNameFault as NamedLineFault, BodyNameFault, NameFault}
use Rattle.asm_parse.specs.AppTexts.{SourceTextFault}
use Rattle.code_rules.specs.WellFormed.{CycleFault, RuleFault, BodyFault as RuleBodyFault}
use Rattle.code_rules.specs.WellFormed.CycleFault.{on_cycle}
use Rattle.code_rules.specs.WellFormed.BodyFault.{at_header, at_label, at_item}
use Rattle.sloth_source.proofs.Least.{of_some}

of_case : (b : Bool) (line : ℕ) (c : Code) (r : Refusal) → SourceCase b line c r → r.part ≡ Src
of_case b line c r h = ap (λ x. x.part) h.1

of_line : (inside : Bool) (n : ℕ) (s : SourceLine) (r : Refusal) → LineFault inside n s r → r.part ≡ Src
of_line inside n s r (inl h) = of_case _ _ _ r h
of_line inside n s r (inr (inl h)) = of_case _ _ _ r h
of_line inside n s r (inr (inr (inl h))) = of_case _ _ _ r h
of_line inside n s r (inr (inr (inr h))) = of_case _ _ _ r h

of_lines : (text : List ℕ) (r : Refusal) → SourceLinesFault text r → r.part ≡ Src
of_lines text r (inl h) = of_some Src FaultAt (λ front s q g. of_line _ _ s q g) [] (source_lines text) r h
of_lines text r (inr h) = of_case _ _ _ r h

of_data : (front : List SourceLine) (l : SourceLine) (r : Refusal) → DataFault front l r → r.part ≡ Src
of_data front l r (inl h) = of_case _ _ _ r h
of_data front l r (inr h) = of_case _ _ _ r h

of_inner : (scope : Scope) (labels : List (List ℕ)) (items n : ℕ) (front : List SourceLine) (l : SourceLine) (r : Refusal)
    → NamedLineFault scope labels items n front l r → r.part ≡ Src
of_inner scope labels items n front l r (inl h) = of_case _ _ _ r h
of_inner scope labels items n front l r (inr h) = of_case _ _ _ r h

of_body : (scope : Scope) (front : List BodyText) (body : BodyText) (r : Refusal) → BodyNameFault scope front body r → r.part ≡ Src
of_body scope front body r (inl (inl h)) = of_case _ _ _ r h
of_body scope front body r (inl (inr (inl h))) = of_case _ _ _ r h
of_body scope front body r (inl (inr (inr h))) = of_case _ _ _ r h
of_body scope front body r (inr h) = of_some Src (NamedLineFault scope _ _ body.line) (of_inner scope _ _ body.line) [] body.lines r h

of_names : (config : Config) (ls : List SourceLine) (r : Refusal) → NameFault config ls r → r.part ≡ Src
of_names config ls r (inl h) = of_some Src DataFault of_data [] ls r h
of_names config ls r (inr (inl h)) = of_some Src (BodyNameFault (scope_of config ls (bodies_of ls))) (of_body (scope_of config ls (bodies_of ls))) [] (bodies_of ls) r h
of_names config ls r (inr (inr h)) = of_case _ _ _ r h

pub of_source : (config : Config) (text : List ℕ) (r : Refusal) → SourceTextFault config text r → r.part ≡ Src
of_source config text r (inl h) = of_lines text r h
of_source config text r (inr h) = of_names config (source_lines text) r h.1

pub of_cycle : (app : App) (r : Refusal) → CycleFault app r → r.part ≡ Src
of_cycle app r (on_cycle f between chain) = refl

of_rule_body : (config : Config) (app : App) (f : ℕ) (r : Refusal) → RuleBodyFault config app f r → r.part ≡ Src
of_rule_body config app f r (at_header e) = refl
of_rule_body config app f r (at_label k l d) = refl
of_rule_body config app f r (at_item i c l b) = refl

pub of_rule : (config : Config) (app : App) (r : Refusal) → RuleFault config app r → r.part ≡ Src
of_rule config app r h = of_rule_body config app h.0 r h.2
