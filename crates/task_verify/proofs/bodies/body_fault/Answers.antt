use Rattle.std.proofs.Common.{◌≡◌, ◌⊎◌, ◌∙◌, List, length, ap, subst}
use Rattle.std.specs.Prelude.{◌==◌}
use Rattle.std.proofs.lemmas.Bool.{eqb-true, eq-eqb}
use Rattle.sloth_base.specs.declared.app.Func.{Func}
use Rattle.sloth_base.specs.declared.app.Item.{Item}
use Rattle.sloth_base.specs.declared.refusal.Code.TheVariants as code
use Rattle.sloth_base.specs.Search.{IsSearchResult}
use Rattle.sloth_base.proofs.Kept.{both_are, finds_same}
use Rattle.sloth_base.specs.Named.{no_function, no_label}
use Rattle.code_rules.specs.WellFormed.{BodyFault}
use Rattle.task_verify.proofs.Tested.{tested}
use Rattle.task_verify.specs.Cases.{LabelFaults, ItemFaults, PlacesFault}
use Rattle.task_verify.proofs.EmptyBodies.{EmptyFault}
use Rattle.task_verify.proofs.Parts.{Parts, to_parts, from_parts}
use Rattle.task_verify.proofs.bodies.body_fault.Goals as goal

pub returns : goal.returns
returns c =
    let config = c.args.config.now in
    let app = c.args.app.now in
    let b = c.args.body in
    let f = c.args.func.now in
    let found = c.merge-3.result in
    let empty = tested (length f.items ≡ 0) (length f.items == 0) c.is_empty.result f.line code.V5 c.fault_if-empty.result c.fault_if-empty.ensures
    (c.is_empty.ensures ∙ ap (λ (x : List Item). length x == 0) c.items-2.ensures) (eqb-true (length f.items) 0, eq-eqb (length f.items) 0) in
    let parts =
    both_are (EmptyFault f) (λ r. LabelFaults f r ⊎ (ItemFaults config app b f r ⊎ PlacesFault app f r)) c.fault_if-empty.result c.merge-2.result found empty
    (both_are (LabelFaults f) (λ r. ItemFaults config app b f r ⊎ PlacesFault app f r) c.in_ok-labels.labels c.merge.result c.merge-2.result c.in_ok-labels.ensures
    (both_are (ItemFaults config app b f) (PlacesFault app f) c.in_ok-items.items c.in_ok-held.held c.merge.result c.in_ok-items.ensures c.in_ok-held.ensures c.merge.ensures)
    c.merge-2.ensures)
    c.merge-3.ensures in
    finds_same (Parts config app b) (BodyFault config app b) found (from_parts config app b)
    (to_parts config app b (λ k l. ((c.requires.in_range.bodies b no_function c.requires.known).labels k no_label l).place))
    (subst (λ (x : Func). IsSearchResult (λ r. EmptyFault x r ⊎ (LabelFaults x r ⊎ (ItemFaults config app b x r ⊎ PlacesFault app x r))) found) c.requires.is parts)
