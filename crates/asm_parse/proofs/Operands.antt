-- Operands by their forms and their number, and the names that they write.
use Rattle.std.proofs.Common.{◌≡◌, refl, subst, ℕ, ℤ, ◌+◌, ◌≤◌, Bool, true, false, List, [], ◌∷◌, length, arith}
use Rattle.std.specs.Prelude.{◌||◌, not}
use Rattle.std.specs.List.{AllByRecursion}
use Rattle.std.proofs.lemmas.Bool.{not-false, or_parts}
use Rattle.asm_lines.specs.declared.operands.Operand.{Operand}
use Rattle.asm_lines.specs.declared.operands.Operand.TheVariants.{Register, Number, Name}
use Rattle.asm_lines.specs.declared.forms.Form.TheVariants as form
use Rattle.asm_lines.specs.declared.forms.Mnemonic.{Mnemonic}
use Rattle.asm_lines.specs.Numbers.{is_within}
use Rattle.asm_lines.specs.Forms.{form_of}
use Rattle.asm_scopes.specs.declared.scope.Kind.{Kind}
use Rattle.asm_scopes.specs.declared.scope.Scope.{Scope}
use Rattle.asm_scopes.specs.Statements.{written_name}
use Rattle.asm_scopes.specs.Scopes.{is_named, is_lacking, any_unknown, kind_of}
use Rattle.code_rules.specs.AppRange.{IsRegister}
use Rattle.sloth_base.specs.ImageRange.{IsWord}
use Rattle.asm_parse.proofs.Fit.{FitsForm, FitsRegister, FitsName, AllFit}

-- ---- by their forms

pub register_case : (P : Operand → Type 0) → ((r : ℕ) → IsRegister r → P (Register r)) → (o : Operand) → FitsRegister o → P o
register_case P f (Register r) h = f r h
register_case P f o h = absurd h

pub registers_case : (P : Operand → Operand → Type 0) → ((d r : ℕ) → IsRegister d → IsRegister r → P (Register d) (Register r)) → (a b : Operand) → FitsRegister a → FitsRegister b → P a b
registers_case P f a b h g = register_case (λ a. P a b) (λ d x. register_case (P (Register d)) (λ r y. f d r x y) b g) a h

pub name_case : (P : Operand → Type 0) → ((n : List ℕ) → IsWord n → P (Name n)) → (o : Operand) → FitsName o → P o
name_case P f (Name n) h = f n h
name_case P f o h = absurd h

pub number_case : (low high : ℤ) (P : Operand → Type 0) → ((n : ℤ) → is_within low high n ≡ true → P (Number n)) → (o : Operand) → FitsForm (form.Number low high) o → P o
number_case low high P f (Number n) h = f n h
number_case low high P f o h = absurd h

-- ---- by their number

pub none_of : (P : List Operand → Type 0) → P [] → (os : List Operand) → length os ≡ 0 → P os
none_of P f [] e = f
none_of P f (a ∷ os) e = absurd (omega (arith, e))

pub one_of : (P : List Operand → Type 0) → ((a : Operand) → P (a ∷ [])) → (os : List Operand) → length os ≡ 1 → P os
one_of P f [] e = absurd (omega (arith, e))
one_of P f (a ∷ []) e = f a
one_of P f (a ∷ b ∷ os) e = absurd (omega (arith, e))

pub two_of : (P : List Operand → Type 0) → ((a b : Operand) → P (a ∷ b ∷ [])) → (os : List Operand) → length os ≡ 2 → P os
two_of P f [] e = absurd (omega (arith, e))
two_of P f (a ∷ []) e = absurd (omega (arith, e))
two_of P f (a ∷ b ∷ []) e = f a b
two_of P f (a ∷ b ∷ c ∷ os) e = absurd (omega (arith, e))

pub three_of : (P : List Operand → Type 0) → ((a b c : Operand) → P (a ∷ b ∷ c ∷ [])) → (os : List Operand) → length os ≡ 3 → P os
three_of P f [] e = absurd (omega (arith, e))
three_of P f (a ∷ []) e = absurd (omega (arith, e))
three_of P f (a ∷ b ∷ []) e = absurd (omega (arith, e))
three_of P f (a ∷ b ∷ c ∷ []) e = f a b c
three_of P f (a ∷ b ∷ c ∷ d ∷ os) e = absurd (omega (arith, e))

pub some_of : (P : List Operand → Type 0) → ((a : Operand) (os : List Operand) → P (a ∷ os)) → (os : List Operand) → 1 ≤ length os → P os
some_of P f [] e = absurd (omega (arith, e))
some_of P f (a ∷ os) e = f a os

pub some_two_of : (P : List Operand → Type 0) → ((a b : Operand) (os : List Operand) → P (a ∷ b ∷ os)) → (os : List Operand) → 2 ≤ length os → P os
some_two_of P f [] e = absurd (omega (arith, e))
some_two_of P f (a ∷ []) e = absurd (omega (arith, e))
some_two_of P f (a ∷ b ∷ os) e = f a b os

-- ---- the names that they write

-- what is not lacking exists
pub does_exist : (b rest : Bool) → (not b || rest) ≡ false → b ≡ true
does_exist true rest e = refl
does_exist false rest e = cc

module _ (scope : Scope) (labels : List (List ℕ)) (K : Kind) where
  -- an operand writes the name of an object of the kind
  abbrev pub Names : Operand → Type 0
  Names x = (name : List ℕ) × (x ≡ Name name) × (is_named scope labels K name ≡ true)

  pub names : (x : Operand) → FitsName x → is_lacking scope labels K (written_name x) ≡ false → Names x
  names x h = name_case (λ x. is_lacking scope labels K (written_name x) ≡ false → Names x) (λ n w e. (n, refl, not-false (is_named scope labels K n) e)) x h

  -- Each operand from place i on does, where all of these places are to.
  pub all_names : (m : Mnemonic) (i : ℕ) (os : List Operand) → ((j : ℕ) → i ≤ j → (form_of m j ≡ form.Name) × (kind_of m j ≡ K)) → AllFit m i os
      → any_unknown scope labels m i os ≡ false → AllByRecursion Names os
  all_names m i [] f h u = tt
  all_names m i (x ∷ os) f h u =
      let k = kind_of m i in
      let lacks = is_lacking scope labels k (written_name x) in (
        names x (subst (λ F. FitsForm F x) (f i (omega arith)).0 h.0)
            (subst (λ k. is_lacking scope labels k (written_name x) ≡ false) (f i (omega arith)).1 (or_parts lacks (any_unknown scope labels m (i + 1) os) u).0),
        all_names m (i + 1) os (λ j l. f j (omega (arith, l))) h.1 (or_parts lacks (any_unknown scope labels m (i + 1) os) u).1,
      )
