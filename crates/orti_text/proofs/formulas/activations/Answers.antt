use Rattle.std.proofs.Common.{◌≡◌, List, ℕ, subst}
use Rattle.std.specs.Prelude.{IfOk}
use Rattle.orti_text.proofs.Digits.{activations_text}
use Rattle.orti_text.proofs.formulas.activations.Goals as goal

pub returns : goal.returns
returns c =
    let P : List ℕ → Type 0 = λ x. IfOk c.by_state.result (λ bytes. bytes.items ≡ x) in
    subst P (activations_text c.args.task) c.by_state.ensures
