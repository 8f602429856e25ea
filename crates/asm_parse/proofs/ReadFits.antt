-- An operand that is read in a form, and is neither wrong nor outside, fits it.
use Rattle.std.proofs.Common.{◌≡◌, refl, inl, inr, ⊎_elim, ◌⊎◌, ℕ, ◌+◌, ◌-◌, ◌≤◌, length, take, Bool, true, false, cond, List, [], ◌∷◌, ◌||◌, ◌&&◌, Option, Some, None, Result, Ok, Err, ℤ, pos, negsuc, arith}
use Rattle.std.specs.Prelude.{nat_le, ◌==◌, slice_index, drop, codes, if◌then◌else◌}
use Rattle.std.specs.List.{list_any, list_all, AllPass}
use Rattle.std.proofs.lemmas.List.Sums.{AllPass-from_list_all}
use Rattle.asm_lines.specs.SourceLines.{read_operands}
use Rattle.asm_lines.specs.Forms.{form_of}
use Rattle.asm_lines.specs.declared.forms.Mnemonic.{Mnemonic}
use Rattle.std.specs.Str.{bytes_eq}
use Rattle.std.proofs.lemmas.Bool.Decides.{eqb_tells, leb_tells}
use Rattle.std.proofs.lemmas.Bool.{or_parts, and_parts}
use Rattle.hex.specs.declared.error.FromHexError.{FromHexError}
use Rattle.hex.specs.Hex.{decode_of}
use Rattle.text_pieces.specs.Bytes.{is_name, is_byte_of}
use Rattle.sloth_base.specs.ImageRange.{IsWord, begins_word, continues_word}
use Rattle.sloth_base.specs.Limits.{operand_limit}
use Rattle.asm_lines.specs.declared.operands.Operand.{Operand}
use Rattle.asm_lines.specs.declared.operands.Operand.TheVariants.{Wrong, Outside, Register, Number, Name, Frame, Direct, Indexed, Bytes}
use Rattle.asm_lines.specs.declared.operands.Small.{Small}
use Rattle.asm_lines.specs.declared.operands.Small.TheVariants.{NoNumber, TooFar, Is}
use Rattle.asm_lines.specs.declared.forms.Form.{Form}
use Rattle.asm_lines.specs.declared.forms.Form.TheVariants as form
use Rattle.asm_lines.specs.Bytes.{trim}
use Rattle.asm_lines.specs.Numbers.{number, is_within}
use Rattle.asm_lines.specs.Registers.{register, lettered_register, lettered_register_by, small_number}
use Rattle.text_pieces.specs.Bytes.{before, behind}
use Rattle.asm_lines.specs.Operands.{small_of, register_operand, number_operand, name_operand, frame_operand, direct_operand, indexed_operand, in_brackets, bracketed_operand, place, bytes_operand, read_operand}
use Rattle.asm_lines.specs.Faults.{is_wrong, is_outside}
use Rattle.code_rules.specs.AppRange.{IsRegister}
use Rattle.asm_parse.proofs.Fit.{FitsPlace, FitsWord, FitsRegister, FitsName, FitsBytes, FitsForm, AllFit}

-- what is neither wrong nor outside has P
abbrev Sound : (Operand → Type 0) → Operand → Type 0
Sound P o = is_wrong o ≡ false → is_outside o ≡ false → P o

wrong_sound : (P : Operand → Type 0) → Sound P Wrong
wrong_sound P w o = cc

outside_sound : (P : Operand → Type 0) → Sound P Outside
outside_sound P w o = cc

-- ---- registers

abbrev IsRegisterIf : Option ℕ → Type 0
IsRegisterIf None = Unit {0}
IsRegisterIf (Some r) = IsRegister r

if_at_most : (k d n : ℕ) (o : Option ℕ) → (d ≡ 5) ⊎ (5 ≤ d) → d + k ≤ 29 → IsRegisterIf o → IsRegisterIf (if nat_le n k then Some (d + n) else o)
if_at_most k d n o l h g = ⊎_elim (λ t. rw t.0 (inr (let m = t.1 in ⊎_elim (λ e. omega (arith, e)) (λ e. omega (arith, e)) l, let m = t.1 in omega (arith, m, h)))) (λ t. rw t.0 g) (leb_tells n k)

if_x : (n : ℕ) → IsRegisterIf (if (n == 0) || (nat_le 5 n && nat_le n 29) then Some n else None)
if_x n = ⊎_elim (λ t. rw t.0 (inl t.1)) (λ t. rw t.0
    (⊎_elim (λ u. rw u.0 (⊎_elim (λ v. rw v.0 (inr (u.1, v.1))) (λ v. rw v.0 tt) (leb_tells n 29))) (λ u. rw u.0 tt) (leb_tells 5 n))) (eqb_tells n 0)

choose : (b : Bool) (x y : Option ℕ) → IsRegisterIf x → IsRegisterIf y → IsRegisterIf (if b then x else y)
choose true x y p q = p
choose false x y p q = q

is_lettered : (l n : ℕ) → IsRegisterIf (lettered_register l n)
is_lettered l n =
    choose (l == 120) _ _ (if_x n)
    (choose (l == 116) _ _ (if_at_most 2 5 n _ (inl refl) (omega arith) (if_at_most 4 25 n None (inr (omega arith)) (omega arith) tt))
    (choose (l == 115) _ _ (if_at_most 1 8 n _ (inr (omega arith)) (omega arith) (if_at_most 11 16 n None (inr (omega arith)) (omega arith) tt))
    (choose (l == 97) _ _ (if_at_most 7 10 n None (inr (omega arith)) (omega arith) tt) tt)))

is_lettered_by : (l : ℕ) (o : Option ℕ) → IsRegisterIf (lettered_register_by l o)
is_lettered_by l None = tt
is_lettered_by l (Some n) = is_lettered l n

pub is_register : (t : List ℕ) → IsRegisterIf (register t)
unfolding register
is_register t =
    choose (bytes_eq t (codes "zero")) (Some 0) _ (inl refl)
    (choose (bytes_eq t (codes "fp")) (Some 8) _ (inr (omega arith, omega arith)) (is_lettered_by (slice_index t 0) (small_number (drop 1 t))))

-- ---- names

pub is_word : (t : List ℕ) → is_name t ≡ true → IsWord t
unfolding is_name
is_word [] e = cc
is_word (b ∷ bs) e = ((and_parts (begins_word b) (list_all continues_word (b ∷ bs)) e).0, rest)
  where
    rest : AllPass continues_word bs
    rest = AllPass-from_list_all continues_word bs (and_parts (continues_word b) (list_all continues_word bs) (and_parts (begins_word b) (list_all continues_word (b ∷ bs)) e).1).1

-- ---- operands

register_sound : (o : Option ℕ) → IsRegisterIf o → Sound FitsRegister (register_operand o)
register_sound None r w x = cc
register_sound (Some n) r w x = r

number_sound : (low high : ℤ) (o : Option ℤ) → Sound (FitsForm (form.Number low high)) (number_operand low high o)
number_sound low high None = wrong_sound (FitsForm (form.Number low high))
number_sound low high (Some n) = by (is_within low high n) refl
  where
    by : (b : Bool) → is_within low high n ≡ b → Sound (FitsForm (form.Number low high)) (cond b (Number n) Outside)
    by true e = λ w x. e
    by false e = outside_sound (FitsForm (form.Number low high))

named : (P : Operand → Type 0) (t : List ℕ) (o : Operand) → (IsWord t → Sound P o) → Sound P (if is_name t then o else Wrong)
named P t o f = by (is_name t) refl
  where
    by : (b : Bool) → is_name t ≡ b → Sound P (cond b o Wrong)
    by true e = f (is_word t e)
    by false e = wrong_sound P

name_sound : (t : List ℕ) → Sound FitsName (name_operand t)
name_sound t = named FitsName t (Name t) (λ h w x. h)

either : (P : Operand → Type 0) (b : Bool) (o p : Operand) → Sound P o → Sound P p → Sound P (if b then o else p)
either P true o p f g = f
either P false o p f g = g

-- a number within the limit of operands
abbrev IsSmall : Small → Type 0
IsSmall (Is k) = k ≤ operand_limit
IsSmall _ = Unit {0}

is_small : (o : Option ℤ) → IsSmall (small_of o)
is_small None = tt
is_small (Some (negsuc n)) = tt
is_small (Some (pos n)) = ⊎_elim (λ t. rw t.0 t.1) (λ t. rw t.0 tt) (leb_tells n operand_limit)

direct_sound : (t : List ℕ) (k : Small) → IsSmall k → Sound FitsPlace (direct_operand t k)
direct_sound t NoNumber h = named FitsPlace t Wrong (λ w. wrong_sound FitsPlace)
direct_sound t TooFar h = named FitsPlace t Outside (λ w. outside_sound FitsPlace)
direct_sound t (Is k) h = named FitsPlace t (Direct t k) (λ w x y. (w, h))

indexed_sound : (t : List ℕ) (r : Option ℕ) (k : Small) → IsRegisterIf r → IsSmall k → Sound FitsPlace (indexed_operand t r k)
indexed_sound t None k g h = named FitsPlace t Wrong (λ w. wrong_sound FitsPlace)
indexed_sound t (Some r) NoNumber g h = named FitsPlace t Wrong (λ w. wrong_sound FitsPlace)
indexed_sound t (Some r) TooFar g h = named FitsPlace t Outside (λ w. outside_sound FitsPlace)
indexed_sound t (Some r) (Is k) g h = named FitsPlace t (Indexed t r k) (λ w x y. (w, g, h))

frame_sound : (k : Small) → IsSmall k → Sound FitsWord (frame_operand k)
frame_sound NoNumber h = wrong_sound FitsWord
frame_sound TooFar h = outside_sound FitsWord
frame_sound (Is k) h = λ w x. h

widen : (o : Operand) → FitsPlace o → FitsWord o
widen (Direct name k) h = h
widen (Indexed name r k) h = h
widen (Frame k) h = absurd h
widen Wrong h = h
widen Outside h = h
widen (Register r) h = h
widen (Number n) h = h
widen (Name n) h = h
widen (Bytes b) h = h

-- a place, in the frame or not
abbrev FitsIn : Bool → Operand → Type 0
FitsIn true o = FitsWord o
FitsIn false o = FitsPlace o

fits_in : (f : Bool) (o : Operand) → Sound FitsPlace o → Sound (FitsIn f) o
fits_in true o h = λ w x. widen o (h w x)
fits_in false o h = h

brackets_sound : (f : Bool) (name t : List ℕ) → Sound (FitsIn f) (in_brackets f name t)
unfolding in_brackets
brackets_sound f name t =
    either (FitsIn f) (is_byte_of 38 t) _ _
    (fits_in f _ (indexed_sound name (register (trim (before 38 t))) (small_of (number (trim (behind 38 t)))) (is_register (trim (before 38 t))) (is_small (number (trim (behind 38 t))))))
    (by f)
  where
    by : (g : Bool) → Sound (FitsIn g) (if g && bytes_eq name (codes "frame") then frame_operand (small_of (number t)) else Wrong)
    by true = either FitsWord (bytes_eq name (codes "frame")) (frame_operand (small_of (number t))) Wrong (frame_sound (small_of (number t)) (is_small (number t))) (wrong_sound FitsWord)
    by false = wrong_sound FitsPlace

bracketed_sound : (f : Bool) (name t : List ℕ) → Sound (FitsIn f) (bracketed_operand f name t)
unfolding bracketed_operand
bracketed_sound f name t = either (FitsIn f) (slice_index t (length t - 1) == 93) _ Wrong (brackets_sound f name (trim (take (length t - 1) t))) (wrong_sound (FitsIn f))

place_sound : (f : Bool) (t : List ℕ) → Sound (FitsIn f) (place f t)
unfolding place
place_sound f t =
    either (FitsIn f) (is_byte_of 91 t) _ _ (bracketed_sound f (before 91 t) (behind 91 t))
    (either (FitsIn f) (is_byte_of 43 t) _ _
    (fits_in f _ (direct_sound (trim (before 43 t)) (small_of (number (trim (behind 43 t)))) (is_small (number (trim (behind 43 t))))))
    (fits_in f _ (direct_sound t (Is 0) (omega arith))))

bytes_sound : (r : Result (List ℕ) FromHexError) → Sound FitsBytes (bytes_operand r)
bytes_sound (Ok bytes) = λ w x. tt
bytes_sound (Err e) = wrong_sound FitsBytes

pub read_fits : (f : Form) (t : List ℕ) → Sound (FitsForm f) (read_operand f t)
read_fits form.Register t = register_sound (register t) (is_register t)
read_fits (form.Number low high) t = number_sound low high (number t)
read_fits form.Name t = name_sound t
read_fits form.Place t = place_sound false t
read_fits form.WordPlace t = place_sound true t
read_fits form.Bytes t = bytes_sound (decode_of t)

-- the operands of a statement that has no fault fit their forms
pub all_fit : (m : Mnemonic) (i : ℕ) (ts : List (List ℕ)) → list_any is_wrong (read_operands m i ts) ≡ false → list_any is_outside (read_operands m i ts) ≡ false → AllFit m i (read_operands m i ts)
all_fit m i [] w x = tt
all_fit m i (t ∷ ts) w x =
    let o = read_operand (form_of m i) t in
    let os = read_operands m (i + 1) ts in (
      read_fits (form_of m i) t (or_parts (is_wrong o) (list_any is_wrong os) w).0 (or_parts (is_outside o) (list_any is_outside os) x).0,
      all_fit m (i + 1) ts (or_parts (is_wrong o) (list_any is_wrong os) w).1 (or_parts (is_outside o) (list_any is_outside os) x).1,
    )
