-- The texts of the numbers of formulas, and what they are in formulas by state.
use Rattle.std.proofs.Common.{◌≡◌, ◌∙◌, ℕ, ◌+◌, List, ◌++◌, ap, refl}
use Rattle.std.specs.Prelude.{codes, decimal}
use Rattle.std.specs.Fmt.{digits}
use Rattle.sloth_region.specs.Layout.{active, cur, enabled_byte, pending_byte}
use Rattle.orti_text.specs.Formulas.{in_brackets, text}
use Rattle.orti_text.specs.Values.{activations_formula, byte, is_one, state_formula, word}

pub zero_text : codes "0" ≡ decimal 0
unfolding digits
zero_text = refl

pub one_text : codes "1" ≡ decimal 1
unfolding digits
one_text = refl

two_text : codes "2" ≡ decimal 2
unfolding digits
two_text = refl

three_text : codes "3" ≡ decimal 3
unfolding digits
three_text = refl

-- one of two operands by a byte that is 1, as an operand
abbrev pub byte_text : (offset : ℕ) → (one other : List ℕ) → List ℕ
byte_text offset one other = in_brackets (in_brackets (text (is_one (byte offset))) ++ codes " ? " ++ one ++ codes " : " ++ other)

-- one of four operands by the state of a task
abbrev pub state_text : (task : ℕ) → (entered ready suspended waiting : List ℕ) → List ℕ
state_text t e r s w =
    in_brackets (text (is_one (word (active t)))) ++ codes " ? " ++ e ++ codes " : " ++ byte_text (enabled_byte t) (byte_text (pending_byte t) r s) w

pub activations_text : (t : ℕ) → state_text t (codes "1") (codes "1") (codes "0") (decimal 1) ≡ text (activations_formula t)
activations_text t =
    ap (λ x. state_text t x (codes "1") (codes "0") (decimal 1)) one_text ∙ ap (λ x. state_text t (decimal 1) x (codes "0") (decimal 1)) one_text
    ∙ ap (λ x. state_text t (decimal 1) (decimal 1) x (decimal 1)) zero_text

-- whether a task is the running one, as an operand
abbrev pub running_text : (task : ℕ) → (running preempted : List ℕ) → List ℕ
running_text t r p = in_brackets (in_brackets (text (word cur) ++ codes " == " ++ decimal (t + 1)) ++ codes " ? " ++ r ++ codes " : " ++ p)

pub state_is : (t : ℕ) (entered : List ℕ) → entered ≡ running_text t (codes "0") (codes "2")
    → state_text t entered (codes "2") (codes "3") (decimal 1) ≡ text (state_formula t)
state_is t entered is =
    ap (λ x. state_text t x (codes "2") (codes "3") (decimal 1))
    (is ∙ ap (λ x. running_text t x (codes "2")) zero_text ∙ ap (running_text t (decimal 0)) two_text)
    ∙ ap (λ x. state_text t (running_text t (decimal 0) (decimal 2)) x (codes "3") (decimal 1)) two_text
    ∙ ap (λ x. state_text t (running_text t (decimal 0) (decimal 2)) (decimal 2) x (decimal 1)) three_text
