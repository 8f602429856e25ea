use Rattle.std.proofs.Common.{◌≡◌, ◌∙◌, List, ◌++◌, ℕ, ap, rules, subst}
use Rattle.std.specs.Prelude.{IfOk, codes}
use Rattle.sloth_region.specs.Layout.{active, enabled_byte, pending_byte}
use Rattle.orti_text.specs.Formulas.{in_brackets, text}
use Rattle.orti_text.specs.Values.{is_one, word}
use Rattle.orti_text.proofs.Digits.{byte_text, one_text}
use Rattle.orti_text.proofs.formulas.by_state.Goals as goal

pub returns : goal.returns
returns c =
    let t = c.args.task in
    let pending : c.as_slice.result.now ≡ byte_text (pending_byte t) c.args.ready.now c.args.suspended.now = search rules in
    let enabled : c.as_slice-2.result.now ≡ byte_text (enabled_byte t) c.as_slice.result.now (codes "1") = search rules in
    let whole = enabled ∙ ap (λ x. byte_text (enabled_byte t) x (codes "1")) pending
    ∙ ap (byte_text (enabled_byte t) (byte_text (pending_byte t) c.args.ready.now c.args.suspended.now)) one_text in
    let P : List ℕ → Type 0 = λ x. IfOk c.by_active.result
    (λ bytes. bytes.items ≡ in_brackets (text (is_one (word (active t)))) ++ codes " ? " ++ c.args.entered.now ++ codes " : " ++ x) in
    subst P whole c.by_active.ensures
