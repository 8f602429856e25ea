-- Lists of held resources.
use Rattle.std.proofs.Common.{◌≡◌, ℕ, zero, suc, ◌-◌, ◌^◌, ◌<◌, ◌≤◌, Bool, true, false, ◌||◌, List, [], ◌∷◌, length, take, get_or, refl, ap, ◌∙◌, arith, ⊎_elim}
use Rattle.std.specs.Prelude.{◌==◌}
use Rattle.std.specs.List.{list_any}
use Rattle.std.proofs.lemmas.Bool.{false≢true, or_cases, eq-eqb, eqb-true, or_right}
use Rattle.std.proofs.lemmas.Nat.Bits.{bit_at_above}
use Rattle.std.proofs.Math.Seq.{take-nil}
use Rattle.std.proofs.lemmas.List.{get_or_default}
use Rattle.sloth_base.specs.declared.app.Func.{Func}
use Rattle.sloth_base.specs.declared.app.Item.{Item}
use Rattle.sloth_base.specs.declared.app.Label.{Label}
use Rattle.sloth_base.specs.Named.{item_of, no_item, label_of, no_label}
use Rattle.code_rules.specs.Code.{is_in, is_last, without_last}
use Rattle.call_graph.specs.Bits.{is_member}

pub has_above : (n set member : ℕ) → set < 2 ^ n → n ≤ member → is_member set member ≡ false
unfolding is_member
has_above n set member fits le = ap (λ x. x == 1) (bit_at_above set n member fits le)

pub is_last_at : (r n : ℕ) (xs : List ℕ) → length xs ≡ suc n → is_last r xs ≡ (get_or xs n 0 == r)
is_last_at r n [] e = absurd (omega (arith, e))
is_last_at r zero (x ∷ []) e = refl
is_last_at r (suc n) (x ∷ []) e = absurd (omega (arith, e))
is_last_at r zero (x ∷ y ∷ ys) e = absurd (omega (arith, e))
is_last_at r (suc n) (x ∷ y ∷ ys) e = is_last_at r n (y ∷ ys) (omega (arith, e))

taken : (n : ℕ) (xs : List ℕ) → length xs ≡ suc n → take n xs ≡ without_last xs
taken n [] e = absurd (omega (arith, e))
taken zero (x ∷ []) e = refl
taken (suc n) (x ∷ []) e = absurd (omega (arith, e))
taken zero (x ∷ y ∷ ys) e = absurd (omega (arith, e))
taken (suc n) (x ∷ y ∷ ys) e = ap (λ l. x ∷ l) (taken n (y ∷ ys) (omega (arith, e)))

pub popped : (xs ys : List ℕ) (n : ℕ) → n ≡ length xs → ys ≡ take (n - 1) xs → ys ≡ without_last xs
popped [] ys n e h = h ∙ take-nil (n - 1)
popped (x ∷ xs) ys n e h =
    let l : length (x ∷ xs) ≡ suc (n - 1) = omega (arith, e) in h ∙ taken (n - 1) (x ∷ xs) l

-- one of the numbers passes a test
pub number_among : (test : ℕ → Bool) (xs : List ℕ) → list_any test xs ≡ true → (x : ℕ) × (test x ≡ true) × (is_in x xs ≡ true)
number_among test [] h = absurd (false≢true h)
number_among test (x ∷ xs) h = ⊎_elim
    (λ a. (x, a, ap (λ b. b || is_in x xs) (eq-eqb x x refl)))
    (λ b. let r = number_among test xs b in (r.0, r.1, or_right (x == r.0) (is_in r.0 xs) r.2))
    (or_cases (test x) (list_any test xs) h)

pub among_number : (test : ℕ → Bool) (xs : List ℕ) (x : ℕ) → test x ≡ true → is_in x xs ≡ true → list_any test xs ≡ true
among_number test [] x t h = absurd (false≢true h)
among_number test (y ∷ ys) x t h = ⊎_elim
    (λ a. ap (λ b. b || list_any test ys) (ap test (eqb-true y x a) ∙ t))
    (λ b. or_right (test y) (list_any test ys) (among_number test ys x t b))
    (or_cases (y == x) (is_in x ys) h)

-- an item of a body, as the code reads it
pub item_is : (f : Func) (items : List Item) (i : ℕ) (x : Item) → items ≡ f.items → i < length f.items → x ≡ get_or items i x → x ≡ item_of f i
item_is f items i x e l is = is ∙ ap (λ (y : List Item). get_or y i x) e ∙ get_or_default f.items i x no_item l

pub label_is : (f : Func) (labels : List Label) (k : ℕ) (x : Label) → labels ≡ f.labels → k < length f.labels → x ≡ get_or labels k x → x ≡ label_of f k
label_is f labels k x e l is = is ∙ ap (λ (y : List Label). get_or y k x) e ∙ get_or_default f.labels k x no_label l

-- one of the numbers is this one, asked of each in turn
pub any_is_in : (x : ℕ) (ys : List ℕ) → list_any (λ y. y == x) ys ≡ is_in x ys
any_is_in x [] = refl
any_is_in x (y ∷ ys) = ap (λ b. (y == x) || b) (any_is_in x ys)
