use Rattle.std.proofs.Common.{◌∙◌, ℕ, List, Option, None, length, get_or, ap, sym, arith}
use Rattle.task_verify.specs.Labels.{last_label_below, list_of}
use Rattle.task_verify.proofs.Labelled.{last_inside, held_is}
use Rattle.fault_witnesses.proofs.breaches.held_list.Goals as goal

pub held_at_label-requires : goal.held_at_label-requires
held_at_label-requires c =
    let f = c.args.func.now in
    let i = c.args.item in
    let inside = c.requires.inside in
    let place = ap (λ (l : List (Option ℕ)). get_or l i None) c.as_slice-places.ensures.value ∙ c.in_ok-last.ensures.exact i (omega (arith, inside)) in
    λ k e. last_inside f.labels i (length f.labels) k (sym place ∙ e)

pub returns : goal.returns
returns c =
    let f = c.args.func.now in
    let i = c.args.item in
    let inside = c.requires.inside in
    let place = ap (λ (l : List (Option ℕ)). get_or l i None) c.as_slice-places.ensures.value ∙ c.in_ok-last.ensures.exact i (omega (arith, inside)) in
    c.in_ok-held.ensures ∙ ap (λ o. list_of f.labels o c.in_ok-falling.falling.items) place
    ∙ ap (λ h. list_of f.labels (last_label_below f.labels i (length f.labels)) h) c.in_ok-falling.ensures ∙ sym (held_is f i)
