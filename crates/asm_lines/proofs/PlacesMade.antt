-- A place, as the format draws it, is read as what it is.
use Rattle.std.proofs.Common.{◌≡◌, ℕ, ℤ, ◌-◌, ◌<◌, Bool, true, false, List, [], ◌∷◌, ◌++◌, length, reverse, refl, ap, arith, sym, ◌∙◌, Some, append_assoc}
use Rattle.std.specs.Prelude.{◌==◌, codes, slice_index}
use Rattle.std.proofs.lemmas.List.{append-nil, reverse-append, length-reverse}
use Rattle.sloth_base.specs.ImageRange.{continues_word}
use Rattle.asm_lines.specs.declared.operands.Operand.{Operand}
use Rattle.asm_lines.specs.declared.operands.Operand.TheVariants.{Direct}
use Rattle.text_pieces.specs.Bytes.{is_name, is_byte_of}
use Rattle.asm_lines.specs.Bytes.{is_blank, trim}
use Rattle.asm_lines.specs.Numbers.{number}
use Rattle.asm_lines.specs.Registers.{register}
use Rattle.text_pieces.specs.Bytes.{before, behind}
use Rattle.asm_lines.specs.Operands.{small_of, direct_operand, direct_operand_at, indexed_operand, indexed_operand_at, frame_operand, in_brackets, bracketed_operand, place}
use Rattle.asm_lines.specs.Grammar.{Blanks, has_bare_start, HasBareEnds, IsPlaceText, is_alone, is_offset, is_indexed, is_frame}
use Rattle.asm_lines.proofs.Trims.{trim_is}
use Rattle.text_pieces.proofs.Cuts.{lacks, has_here, has_in, before_is, behind_is, last_is, but_last}
use Rattle.asm_lines.proofs.Parts.{is_number_byte, name_bytes, number_bytes, number_some, register_bytes, register_some, bare_of}

pub name_bare : (n : List ℕ) → is_name n ≡ true → HasBareEnds n
name_bare n h = bare_of continues_word refl refl n (name_bytes n h)

number_bare : (k : List ℕ) (z : ℤ) → number k ≡ Some z → HasBareEnds k
number_bare k z h = bare_of is_number_byte refl refl k (number_bytes k z h)

register_bare : (r : List ℕ) (x : ℕ) → register r ≡ Some x → HasBareEnds r
register_bare r x h = bare_of continues_word refl refl r (register_bytes r x h)

name_lacks : (c : ℕ) → continues_word c ≡ false → (n : List ℕ) → is_name n ≡ true → is_byte_of c n ≡ false
name_lacks c f n h = lacks continues_word c f n (name_bytes n h)

number_lacks : (c : ℕ) → is_number_byte c ≡ false → (k : List ℕ) (z : ℤ) → number k ≡ Some z → is_byte_of c k ≡ false
number_lacks c f k z h = lacks is_number_byte c f k (number_bytes k z h)

blanks_lack : (c : ℕ) → is_blank c ≡ false → (a : List ℕ) → Blanks a → is_byte_of c a ≡ false
blanks_lack c f a h = lacks is_blank c f a h

has_cons : (c d : ℕ) (t : List ℕ) → (d == c) ≡ false → is_byte_of c t ≡ false → is_byte_of c (d ∷ t) ≡ false
unfolding is_byte_of
has_cons c d t e h = rw e h

trim_of : (a x b : List ℕ) → Blanks a → Blanks b → HasBareEnds x → trim (a ++ (x ++ b)) ≡ x
trim_of a x b h g w = trim_is (a ++ (x ++ b)) x (record { before = a; behind = b; blanks_before = h; blanks_behind = g; text = refl; bare = w })

trim_left : (x b : List ℕ) → Blanks b → HasBareEnds x → trim (x ++ b) ≡ x
trim_left x b g w = trim_of [] x b refl g w

trim_right : (a x : List ℕ) → Blanks a → HasBareEnds x → trim (a ++ x) ≡ x
trim_right a x h w = ap (λ y. trim (a ++ y)) (sym (append-nil x)) ∙ trim_of a x [] h refl w

alone : (f : Bool) (n : List ℕ) → is_name n ≡ true → is_byte_of 91 n ≡ false → is_byte_of 43 n ≡ false → place f n ≡ Direct n 0
unfolding place
alone f n h p q = rw (p, q, h) refl

plus : (f : Bool) (t n k : List ℕ) (z : ℤ) → is_byte_of 91 t ≡ false → is_byte_of 43 t ≡ true → trim (before 43 t) ≡ n → trim (behind 43 t) ≡ k → is_name n ≡ true → number k ≡ Some z
    → place f t ≡ direct_operand_at n (small_of (Some z))
unfolding place
plus f t n k z p q a b h e =
    rw (p, q) (ap (λ y. direct_operand y (small_of (number (trim (behind 43 t))))) a ∙ (ap (λ y. direct_operand n (small_of (number y))) b ∙ rw (h, e) refl))

bracket : (f : Bool) (n x : List ℕ) → is_byte_of 91 n ≡ false → place f (n ++ 91 ∷ (x ++ 93 ∷ [])) ≡ in_brackets f n (trim x)
unfolding place bracketed_operand
bracket f n x h =
    let r = x ++ 93 ∷ [] in
    let t = n ++ 91 ∷ r in
    let last : (slice_index r (length r - 1) == 93) ≡ true = ap (λ b. b == 93) (last_is x 93) in
    let cut : bracketed_operand f n r ≡ in_brackets f n (trim x) = rw last (ap (λ y. in_brackets f n (trim y)) (but_last x 93)) in
    rw (has_here 91 n r refl) (ap (λ y. bracketed_operand f y (behind 91 t)) (before_is 91 n r refl h) ∙ (ap (bracketed_operand f n) (behind_is 91 n r refl h) ∙ cut))

with_mask : (f : Bool) (n t r m : List ℕ) (x : ℕ) (z : ℤ) → is_byte_of 38 t ≡ true → trim (before 38 t) ≡ r → trim (behind 38 t) ≡ m → is_name n ≡ true → register r ≡ Some x → number m ≡ Some z
    → in_brackets f n t ≡ indexed_operand_at n (Some x) (small_of (Some z))
unfolding in_brackets
with_mask f n t r m x z p a b h e g =
    rw p (ap (λ y. indexed_operand n (register y) (small_of (number (trim (behind 38 t))))) a ∙ (ap (λ y. indexed_operand n (register r) (small_of (number y))) b ∙ rw (h, e, g) refl))

in_frame : (f : Bool) (k : List ℕ) (z : ℤ) → f ≡ true → is_byte_of 38 k ≡ false → number k ≡ Some z → in_brackets f (codes "frame") k ≡ frame_operand (small_of (Some z))
unfolding in_brackets
in_frame f k z e p g = rw (p, e, g) refl

front_on : (x y : List ℕ) → 0 < length x → has_bare_start x ≡ true → has_bare_start (x ++ y) ≡ true
front_on [] y l h = absurd (omega arith)
front_on (b ∷ x) y l h = h

pub end_on : (y x : List ℕ) → 0 < length x → has_bare_start (reverse x) ≡ true → has_bare_start (reverse (y ++ x)) ≡ true
end_on y x l h = let n = length-reverse x in ap has_bare_start (reverse-append y x) ∙ front_on (reverse x) (reverse y) (omega (arith, n)) h

long : (y x : List ℕ) → 0 < length x → 0 < length (y ++ x)
long [] x l = l
long (b ∷ y) x l = omega arith

pub place_made : (f : Bool) (t : List ℕ) (o : Operand) → IsPlaceText f t o → place f t ≡ o
place_made f t o (is_alone n h) = alone f n h (name_lacks 91 refl n h) (name_lacks 43 refl n h)
place_made f t o (is_offset n a b k z h ha hb hk) =
    let e : n ++ (a ++ 43 ∷ (b ++ k)) ≡ (n ++ a) ++ 43 ∷ (b ++ k) = sym (append_assoc n a (43 ∷ (b ++ k))) in
    let lack = has_in 43 n a (name_lacks 43 refl n h) (blanks_lack 43 refl a ha) in
    plus f (n ++ (a ++ 43 ∷ (b ++ k))) n k z
    (has_in 91 n (a ++ 43 ∷ (b ++ k)) (name_lacks 91 refl n h)
    (has_in 91 a (43 ∷ (b ++ k)) (blanks_lack 91 refl a ha) (has_cons 91 43 (b ++ k) refl (has_in 91 b k (blanks_lack 91 refl b hb) (number_lacks 91 refl k z hk)))))
    (ap (is_byte_of 43) e ∙ has_here 43 (n ++ a) (b ++ k) refl)
    (ap (λ y. trim (before 43 y)) e ∙ (ap trim (before_is 43 (n ++ a) (b ++ k) refl lack) ∙ trim_left n a ha (name_bare n h)))
    (ap (λ y. trim (behind 43 y)) e ∙ (ap trim (behind_is 43 (n ++ a) (b ++ k) refl lack) ∙ trim_right b k hb (number_bare k z hk))) h hk
place_made f t o (is_indexed n a r b c m d x z h ha hb hc hd hr hm) =
    let y = r ++ (b ++ 38 ∷ (c ++ m)) in
    let e : a ++ (r ++ (b ++ 38 ∷ (c ++ (m ++ (d ++ 93 ∷ []))))) ≡ (a ++ (y ++ d)) ++ 93 ∷ [] = simp append_assoc in
    let lm = number_some m z hm in
    let bm = number_bare m z hm in
    let bare : HasBareEnds y = record {
      front = front_on r (b ++ 38 ∷ (c ++ m)) (register_some r x hr) (register_bare r x hr).front;
      end = end_on r (b ++ 38 ∷ (c ++ m)) (long b (38 ∷ (c ++ m)) (omega arith)) (end_on b (38 ∷ (c ++ m)) (omega arith) (end_on (38 ∷ c) m lm bm.end));
    } in
    let g : y ≡ (r ++ b) ++ 38 ∷ (c ++ m) = sym (append_assoc r b (38 ∷ (c ++ m))) in
    let lack = has_in 38 r b (lacks continues_word 38 refl r (register_bytes r x hr)) (blanks_lack 38 refl b hb) in
    ap (λ v. place f (n ++ 91 ∷ v)) e ∙ (bracket f n (a ++ (y ++ d)) (name_lacks 91 refl n h) ∙ (ap (in_brackets f n) (trim_of a y d ha hd bare)
    ∙ with_mask f n y r m x z (ap (is_byte_of 38) g ∙ has_here 38 (r ++ b) (c ++ m) refl)
    (ap (λ v. trim (before 38 v)) g ∙ (ap trim (before_is 38 (r ++ b) (c ++ m) refl lack) ∙ trim_left r b hb (register_bare r x hr)))
    (ap (λ v. trim (behind 38 v)) g ∙ (ap trim (behind_is 38 (r ++ b) (c ++ m) refl lack) ∙ trim_right c m hc bm)) h hr hm))
place_made f t o (is_frame a k b z e ha hb hk) =
    let g : a ++ (k ++ (b ++ 93 ∷ [])) ≡ (a ++ (k ++ b)) ++ 93 ∷ [] = simp append_assoc in
    ap (λ v. place f (codes "frame" ++ 91 ∷ v)) g ∙ (bracket f (codes "frame") (a ++ (k ++ b)) (lacks continues_word 91 refl (codes "frame") refl)
    ∙ (ap (in_brackets f (codes "frame")) (trim_of a k b ha hb (number_bare k z hk)) ∙ in_frame f k z e (number_lacks 38 refl k z hk) hk))
