-- Codes are printable, and each is that of one text.
use Rattle.std.proofs.Common.{◌≡◌, ◌≤◌, ◌<◌, ◌-◌, ◌∙◌, ℕ, List, [], ◌∷◌, sym, ap, subst, arith, ⊎_elim}
use Rattle.std.specs.Prelude.{if◌then◌else◌, All}
use Rattle.std.proofs.lemmas.Bool.{cases_lt, lt-ltb, le-ltb}
use Rattle.std.proofs.lemmas.List.Elements.{All-from_recursion}
use Rattle.wave_text.specs.Signals.{code_text, IsPrintable}

one-character : (code : ℕ) → code < 127 → code_text code ≡ code ∷ []
unfolding code_text
one-character code below = ap (λ b. if b then code ∷ [] else 33 ∷ (code - 94) ∷ []) (lt-ltb code 127 below)

two-characters : (code : ℕ) → 127 ≤ code → code_text code ≡ 33 ∷ (code - 94) ∷ []
unfolding code_text
two-characters code above = ap (λ b. if b then code ∷ [] else 33 ∷ (code - 94) ∷ []) (le-ltb code 127 above)

pub printable : (code : ℕ) → 33 ≤ code → code ≤ 220 → All IsPrintable (code_text code)
printable code low high =
    let P : List ℕ → Type 0 = All IsPrintable in
    ⊎_elim
    (λ (below : code < 127). subst P (sym (one-character code below)) (All-from_recursion IsPrintable (code ∷ []) ((low, omega arith), tt)))
    (λ (above : 127 ≤ code).
    subst P (sym (two-characters code above)) (All-from_recursion IsPrintable (33 ∷ (code - 94) ∷ []) ((omega arith, omega arith), ((omega arith, omega arith), tt))))
    (cases_lt code 127)

pub apart : (one other : ℕ) → code_text one ≡ code_text other → one ≡ other
apart one other same =
    ⊎_elim
    (λ (a : one < 127).
    ⊎_elim (λ (b : other < 127). let e : one ∷ [] ≡ other ∷ [] = sym (one-character one a) ∙ same ∙ one-character other b in cc)
    (λ (b : 127 ≤ other). let e : one ∷ [] ≡ 33 ∷ (other - 94) ∷ [] = sym (one-character one a) ∙ same ∙ two-characters other b in absurd cc) (cases_lt other 127))
    (λ (a : 127 ≤ one).
    ⊎_elim (λ (b : other < 127). let e : 33 ∷ (one - 94) ∷ [] ≡ other ∷ [] = sym (two-characters one a) ∙ same ∙ one-character other b in absurd cc)
    (λ (b : 127 ≤ other).
    let e : 33 ∷ (one - 94) ∷ [] ≡ 33 ∷ (other - 94) ∷ [] = sym (two-characters one a) ∙ same ∙ two-characters other b in
    let d : one - 94 ≡ other - 94 = cc in
    omega (arith, a, b, d)) (cases_lt other 127))
    (cases_lt one 127)
