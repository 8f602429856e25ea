use Rattle.std.proofs.Common.{ℕ, List, ◌++◌, ◌∙◌, ap, codes}
use Rattle.debug_session.specs.Texts.{hex_number}
use Rattle.debug_session.proofs.Growing.{regrouped}
use Rattle.debug_session.proofs.threads.push_head.Goals as goal

pub returns : goal.returns
returns c =
    let out : List ℕ = c.args.out.now.items in
    let number : List ℕ = hex_number c.args.thread in
    let name : List ℕ = c.thread_name.result.now in
    let id : List ℕ = codes "<thread id=\"" in
    let front : List ℕ = codes "\" name=\"" in
    let end : List ℕ = codes "\">" in
    c.in_ok-line.ensures
    ∙ ap (λ (text : List ℕ). text ++ (front ++ name ++ end)) (c.in_ok-push_number.ensures ∙ ap (λ (text : List ℕ). text ++ number) c.in_ok-push.ensures)
    ∙ regrouped out id number front name end
    ∙ ap (λ (text : List ℕ). out ++ (id ++ number ++ front ++ text ++ end)) c.thread_name.ensures
