use Rattle.std.proofs.Common.{◌≡◌, List, ℕ, rules, subst}
use Rattle.std.specs.Prelude.{IfOk, codes}
use Rattle.orti_text.proofs.Digits.{running_text, state_is}
use Rattle.orti_text.proofs.formulas.state.Goals as goal

pub returns : goal.returns
returns c =
    let t = c.args.task in
    let entered : c.as_slice-3.result.now ≡ running_text t (codes "0") (codes "2") = search rules in
    let P : List ℕ → Type 0 = λ x. IfOk c.by_state.result (λ bytes. bytes.items ≡ x) in
    subst P (state_is t c.as_slice-3.result.now entered) c.by_state.ensures
