-- The lines that declare names: symbols, bodies and labels.
use Rattle.std.proofs.Common.{◌≡◌, ◌∙◌, sym, refl, subst, ⊎_elim, ℕ, ℤ, pos, negsuc, ◌-◌, ◌<◌, ◌≤◌, true, false, List, [], ◌∷◌, length, true≢false, arith}
use Rattle.std.specs.Prelude.{◌==◌, ◌||◌, not, nat_le, nat_lt, int_lt, if◌then◌else◌, replicate}
use Rattle.std.specs.List.{list_any}
use Rattle.std.proofs.lemmas.Bool.{leb-true, ltb-false, le-ltb, not-true, or_cases, or_parts, and_parts}
use Rattle.std.proofs.lemmas.Bool.Decides.{leb_tells, eqb_tells}
use Rattle.std.proofs.lemmas.List.{length-append, length-replicate}
use Rattle.sloth_base.specs.ImageRange.{IsName}
use Rattle.sloth_base.specs.Limits.{name_limit, operand_limit}
use Rattle.asm_lines.specs.declared.operands.Operand.{Operand}
use Rattle.asm_lines.specs.declared.operands.Operand.TheVariants.{Number, Name, Bytes}
use Rattle.asm_lines.specs.declared.source_line.SourceLine.{SourceLine}
use Rattle.asm_lines.specs.declared.source_line.SourceLine.TheVariants.{Empty, Shapeless, Unknown, Statement}
use Rattle.asm_lines.specs.declared.forms.Form.TheVariants as form
use Rattle.asm_lines.specs.declared.forms.Mnemonic.{Mnemonic}
use Rattle.asm_lines.specs.declared.forms.Mnemonic.TheVariants as m
use Rattle.asm_lines.specs.Faults.{is_long}
use Rattle.asm_lines.specs.Numbers.{is_within}
use Rattle.asm_lines.specs.Forms.{is_operand_count, form_of, is_body_start}
use Rattle.asm_scopes.specs.Statements.{is_data, opens_body, name_of, first_name, second_number, written_name}
use Rattle.asm_parse.specs.NameFaults.{has_long_name, has_long}
use Rattle.asm_parse.specs.Apps.{third_bytes, bytes_with}
use Rattle.asm_parse.proofs.Fit.{FitsBytes, FitsForm, AllFit}
use Rattle.asm_parse.proofs.Operands.{name_case, number_case, some_of, two_of, three_of}
use Rattle.asm_parse.proofs.OpsRange.{at_most}
use Rattle.asm_parse.proofs.Read.{IsRead}

-- ---- cases

-- a `data`, or another line
pub data_or : (P : SourceLine → Type 0) → ((os : List Operand) → P (Statement m.Data os)) → ((l : SourceLine) → is_data l ≡ false → P l) → (l : SourceLine) → P l
data_or P f g (Statement m.Data os) = f os
data_or P f g (Statement k os) = g (Statement k os) refl
data_or P f g l = g l refl

-- a mnemonic that opens a body
opening : (P : Mnemonic → Type 0) → P m.Task → P m.Func → (m : Mnemonic) → is_body_start m ≡ true → P m
opening P f g m.Task e = f
opening P f g m.Func e = g
opening P f g k e = absurd (true≢false (sym e))

-- ---- names

either_some : (n k j : ℕ) → 1 ≤ k → 1 ≤ j → ((n == k) || (n == j)) ≡ true → 1 ≤ n
either_some n k j a b e = ⊎_elim (λ t. same k a t) (λ t. same j b t) (or_cases (n == k) (n == j) e)
  where
    same : (k : ℕ) → 1 ≤ k → (n == k) ≡ true → 1 ≤ n
    same k a t = ⊎_elim (λ u. let e = u.1 in omega (arith, e, a)) (λ u. absurd (true≢false (sym t ∙ u.0))) (eqb_tells n k)

-- A statement whose first operand is a name declares a name.
declares : (m : Mnemonic) (os : List Operand) → form_of m 0 ≡ form.Name → 1 ≤ length os → AllFit m 0 os → has_long (Statement m os) ≡ false → IsName (first_name os)
declares m os is_name some h s =
    some_of (λ os. AllFit m 0 os → has_long (Statement m os) ≡ false → IsName (first_name os))
    (λ a os h s.
    name_case (λ a. has_long (Statement m (a ∷ os)) ≡ false → IsName (first_name (a ∷ os)))
    (λ n w s. record { word = w; short = ltb-false name_limit (length n) (or_parts (nat_lt name_limit (length n)) (list_any (λ x. has_long_name (written_name x)) os) s).0 })
    a (subst (λ F. FitsForm F a) is_name h.0) s)
    os some h s

pub header_name : (l : SourceLine) → opens_body l ≡ true → IsRead l → has_long l ≡ false → IsName (name_of l)
header_name Empty e h s = absurd (true≢false (sym e))
header_name Shapeless e h s = absurd (true≢false (sym e))
header_name Unknown e h s = absurd (true≢false (sym e))
header_name (Statement k os) e h s =
    opening (λ m. is_operand_count m (length os) ≡ true → AllFit m 0 os → IsName (first_name os))
    (λ t h. declares m.Task os refl (either_some (length os) 1 2 (omega arith) (omega arith) t) h s)
    (λ t h. declares m.Func os refl (either_some (length os) 1 2 (omega arith) (omega arith) t) h s)
    k e h.0 h.1

pub label_name : (os : List Operand) → IsRead (Statement m.Label os) → has_long (Statement m.Label os) ≡ false → IsName (first_name os)
label_name os h s = declares m.Label os refl (leb-true 1 (length os) h.0) h.1 s

pub data_name : (os : List Operand) → IsRead (Statement m.Data os) → has_long (Statement m.Data os) ≡ false → IsName (first_name os)
data_name os h s = declares m.Data os refl (either_some (length os) 2 3 (omega arith) (omega arith) h.0) h.1 s

-- ---- sizes

-- what a `data` says is as long as its number says, and no less than 1
abbrev HasSize : List Operand → Type 0
HasSize os = (length (bytes_with (third_bytes os) (second_number os)) ≡ second_number os) × (0 < second_number os)

at_least : (k n : ℕ) (high : ℤ) → is_within (pos k) high (pos n) ≡ true → k ≤ n
at_least k n high e = ltb-false n k (not-true (nat_lt n k) (and_parts (not (nat_lt n k)) (not (int_lt high (pos n))) e).0)

filled : (bytes : List ℕ) (size : ℕ) → length bytes ≤ size → length (bytes_with bytes size) ≡ size
filled bytes size h =
    let a = length-append bytes (replicate (size - length bytes) 0) in
    let b = length-replicate {A = ℕ} (size - length bytes) 0 in
    omega (arith, a, b, h)

small_is : (n : ℕ) → n ≤ operand_limit → (if nat_le n operand_limit then n else 0) ≡ n
small_is n h = ⊎_elim (λ t. rw t.0 refl) (λ t. absurd (let l = t.1 in omega (arith, l, h))) (leb_tells n operand_limit)

sized : (bytes : List ℕ) (z : ℤ) (c : List Operand) (x : Operand) → third_bytes (x ∷ Number z ∷ c) ≡ bytes → is_within (pos 1) (pos operand_limit) z ≡ true → int_lt z (pos (length bytes)) ≡ false → HasSize (x ∷ Number z ∷ c)
sized bytes (pos n) c x is e s =
    subst (λ bs. (length (bytes_with bs (if nat_le n operand_limit then n else 0)) ≡ (if nat_le n operand_limit then n else 0)) × (0 < (if nat_le n operand_limit then n else 0))) (sym is)
    (subst (λ k. (length (bytes_with bytes k) ≡ k) × (0 < k)) (sym (small_is n (at_most (pos 1) operand_limit n e))) (filled bytes n (ltb-false n (length bytes) s), at_least 1 n (pos operand_limit) e))
sized bytes (negsuc n) c x is e s = absurd (true≢false (sym e))

two_sized : (a b : Operand) → AllFit m.Data 0 (a ∷ b ∷ []) → HasSize (a ∷ b ∷ [])
two_sized a b h = number_case (pos 1) (pos operand_limit) (λ b. HasSize (a ∷ b ∷ [])) (λ z e. by z e) b h.1.0
  where
    by : (z : ℤ) → is_within (pos 1) (pos operand_limit) z ≡ true → HasSize (a ∷ Number z ∷ [])
    by (pos n) e = sized [] (pos n) [] a refl e (le-ltb n 0 (omega arith))
    by (negsuc n) e = absurd (true≢false (sym e))

bytes_case : (P : Operand → Type 0) → ((bs : List ℕ) → P (Bytes bs)) → (o : Operand) → FitsBytes o → P o
bytes_case P f (Bytes bs) h = f bs
bytes_case P f o h = absurd h

three_sized : (a b c : Operand) → AllFit m.Data 0 (a ∷ b ∷ c ∷ []) → is_long (a ∷ b ∷ c ∷ []) ≡ false → HasSize (a ∷ b ∷ c ∷ [])
three_sized a b c h = number_case (pos 1) (pos operand_limit) (λ b. is_long (a ∷ b ∷ c ∷ []) ≡ false → HasSize (a ∷ b ∷ c ∷ []))
    (λ z e. bytes_case (λ c. is_long (a ∷ Number z ∷ c ∷ []) ≡ false → HasSize (a ∷ Number z ∷ c ∷ [])) (λ bs s. sized bs z (Bytes bs ∷ []) a refl e s) c h.1.1.0)
    b h.1.0

pub data_size : (os : List Operand) → IsRead (Statement m.Data os) → HasSize os
data_size os h = ⊎_elim
    (λ t. two_of (λ os. AllFit m.Data 0 os → HasSize os) (λ a b h. two_sized a b h) os (is 2 t) h.1)
    (λ t. three_of (λ os. AllFit m.Data 0 os → is_long os ≡ false → HasSize os) (λ a b c h s. three_sized a b c h s) os (is 3 t) h.1 h.3)
    (or_cases (length os == 2) (length os == 3) h.0)
  where
    is : (k : ℕ) → (length os == k) ≡ true → length os ≡ k
    is k t = ⊎_elim (λ u. u.1) (λ u. absurd (true≢false (sym t ∙ u.0))) (eqb_tells (length os) k)
