use Rattle.std.proofs.Common.{◌≡◌, ℕ, Some, length, subst, sym, ◌∙◌}
use Rattle.sloth_base.proofs.Kept.{finds_same}
use Rattle.task_verify.specs.Cases.{FallIntoFault, FallFault}
use Rattle.task_verify.specs.Labels.{first_label_below}
use Rattle.task_verify.proofs.Labelled.{first_is}
use Rattle.task_verify.proofs.bodies.fall_fault.Goals as goal

pub labelled_fault-requires-clause-known : goal.labelled_fault-requires-clause-known
labelled_fault-requires-clause-known c =
    let f = c.args.func.now in (first_is f.labels c.args.place (length f.labels) c.in-Some.label (sym c.requires.first ∙ c.in-Some.is)).0

pub returns-in-Some : goal.returns-in-Some
returns-in-Some c =
    let f = c.args.func.now in
    let place = c.args.place in
    let k = c.in-Some.label in
    let e : first_label_below f.labels place (length f.labels) ≡ Some k = sym c.requires.first ∙ c.in-Some.is in
    finds_same (FallIntoFault f place k) (FallFault f place) c.labelled_fault.result
    (λ r x. (k, e, x))
    (λ r x.
    let s : Some x.0 ≡ Some k = sym x.1 ∙ e in
    let same : x.0 ≡ k = cc in subst (λ (n : ℕ). FallIntoFault f place n r) same x.2)
    c.labelled_fault.ensures
