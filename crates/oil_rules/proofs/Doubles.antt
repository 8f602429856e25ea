-- Objects of the kind and the name of an earlier one, and second OS objects.
use Rattle.std.proofs.Common.{◌≡◌, ◌∙◌, Bool, true, false, List, refl, ap, sym}
use Rattle.std.specs.Prelude.{◌||◌, ◌&&◌, codes}
use Rattle.std.specs.List.{list_any}
use Rattle.std.specs.Str.{bytes_eq}
use Rattle.std.proofs.lemmas.Slice.Eq.{bytes_eq-Decides}
use Rattle.std.proofs.lemmas.Bool.{and_parts}
use mathlib.Core.Bool.{or-false}
use Rattle.oil_parse.specs.declared.tree.OilObject.{OilObject}
use Rattle.oil_table.specs.Objects.{is_of_kind, is_declaration, is_declared}
use Rattle.oil_rules.specs.ObjectFaults.{is_double_of}
use Rattle.text_pieces.proofs.Tests.{any_implies}

or_takes : (a b : Bool) → (a ≡ true → b ≡ true) → (a || b) ≡ b
or_takes true b f = sym (f refl)
or_takes false b f = refl

all_of_kind : (k n : Bool) → (k && (n || true)) ≡ k
all_of_kind true true = refl
all_of_kind true false = refl
all_of_kind false n = refl

any_same : {X : Type 0} (p q : X → Bool) → ((x : X) → p x ≡ q x) → (xs : List X) → list_any p xs ≡ list_any q xs
any_same p q e xs = ap (λ f. list_any f xs) (λ i x. e x i)

pub doubled : (object : OilObject) (front : List OilObject)
    → list_any (is_double_of object) front ≡ (is_declared front object.kind object.name || (is_of_kind (codes "OS") object && list_any (is_of_kind (codes "OS")) front))
doubled object front = by (is_of_kind (codes "OS") object) refl
  where
    by : (b : Bool) → is_of_kind (codes "OS") object ≡ b
        → list_any (is_double_of object) front ≡ (is_declared front object.kind object.name || (is_of_kind (codes "OS") object && list_any (is_of_kind (codes "OS")) front))
    by false e =
        any_same (is_double_of object) (is_declaration object.kind object.name)
        (λ (x : OilObject). ap (λ b. bytes_eq x.kind object.kind && (bytes_eq x.name object.name || b)) e ∙ ap (λ b. bytes_eq x.kind object.kind && b) (or-false (bytes_eq x.name object.name))) front
        ∙ sym (ap (λ b. is_declared front object.kind object.name || (b && list_any (is_of_kind (codes "OS")) front)) e ∙ or-false (is_declared front object.kind object.name))
    by true e =
        let os : object.kind ≡ codes "OS" = (bytes_eq-Decides object.kind (codes "OS")).0 e in
        any_same (is_double_of object) (is_of_kind (codes "OS"))
        (λ (x : OilObject). ap (λ b. bytes_eq x.kind object.kind && (bytes_eq x.name object.name || b)) e ∙ all_of_kind (bytes_eq x.kind object.kind) (bytes_eq x.name object.name) ∙ ap (bytes_eq x.kind) os) front
        ∙ sym (ap (λ b. is_declared front object.kind object.name || (b && list_any (is_of_kind (codes "OS")) front)) e
        ∙ or_takes (is_declared front object.kind object.name) (list_any (is_of_kind (codes "OS")) front)
        (any_implies (is_declaration object.kind object.name) (is_of_kind (codes "OS"))
        (λ (x : OilObject) h. ap (bytes_eq x.kind) (sym os) ∙ (and_parts (bytes_eq x.kind object.kind) (bytes_eq x.name object.name) h).0) front))
