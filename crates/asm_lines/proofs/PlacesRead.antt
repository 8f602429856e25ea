-- What is read as a place is one, as the format draws it.
use Rattle.std.proofs.Common.{◌≡◌, ℕ, ℤ, ◌-◌, Bool, true, false, not, ◌&&◌, cond, List, [], ◌∷◌, ◌++◌, length, take, reverse, refl, ap, sym, ◌∙◌, subst, Option, Some, None, append_assoc}
use Rattle.std.specs.Prelude.{◌==◌, codes, slice_index}
use Rattle.std.specs.List.{list_all}
use Rattle.std.specs.Str.{bytes_eq}
use Rattle.std.proofs.lemmas.Slice.Eq.{bytes_eq-Decides}
use Rattle.std.proofs.lemmas.List.{append-nil, reverse-append, reverse-reverse}
use Rattle.std.proofs.lemmas.List.Folds.{list_all-append}
use Rattle.std.proofs.lemmas.Bool.{and_parts}
use Rattle.asm_lines.specs.declared.operands.Operand.{Operand}
use Rattle.asm_lines.specs.declared.operands.Operand.TheVariants.{Wrong, Direct}
use Rattle.asm_lines.specs.declared.operands.Small.TheVariants.{Is}
use Rattle.text_pieces.specs.Bytes.{is_name, is_byte_of}
use Rattle.asm_lines.specs.Bytes.{is_blank, trim}
use Rattle.asm_lines.specs.Numbers.{number}
use Rattle.asm_lines.specs.Registers.{register}
use Rattle.text_pieces.specs.Bytes.{before, behind}
use Rattle.asm_lines.specs.Operands.{small_of, direct_operand, direct_operand_at, indexed_operand, indexed_operand_at, frame_operand, in_brackets, bracketed_operand, place}
use Rattle.asm_lines.specs.Faults.{is_wrong}
use Rattle.asm_lines.specs.Grammar.{Blanks, has_bare_start, HasBareEnds, IsPlaceText, is_alone, is_offset, is_indexed, is_frame}
use Rattle.asm_lines.proofs.Trims.{trimmed, reversed_all}
use Rattle.text_pieces.proofs.Cuts.{cut_there, ends_there}

blanks_both : (a b : List ℕ) → Blanks a → Blanks b → Blanks (a ++ b)
blanks_both a b h g = list_all-append is_blank a b ∙ rw (h, g) refl

-- blanks in front of a text that has none there are nothing
none_before : (a y : List ℕ) → Blanks a → has_bare_start (a ++ y) ≡ true → a ≡ []
none_before [] y h s = refl
none_before (b ∷ a) y h s = let w = (and_parts (is_blank b) (list_all is_blank a) h).0 in let q : not true ≡ true = ap not (sym w) ∙ s in cc

none_behind : (y b : List ℕ) → Blanks b → has_bare_start (reverse (y ++ b)) ≡ true → b ≡ []
none_behind y b h s =
    let e = none_before (reverse b) (reverse y) (reversed_all is_blank b h) (ap has_bare_start (sym (reverse-append y b)) ∙ s) in
    sym (reverse-reverse b) ∙ ap reverse e

-- what names a number, and is not wrong
direct_read : (f : Bool) (t n a b k : List ℕ) (o : Operand) → t ≡ n ++ (a ++ 43 ∷ (b ++ k)) → Blanks a → Blanks b → direct_operand n (small_of (number k)) ≡ o → is_wrong o ≡ false → IsPlaceText f t o
direct_read f t n a b k o e ha hb d w =
    let Q : Option ℤ → Type 0 = λ z. number k ≡ z → direct_operand_at n (small_of z) ≡ o → is_name n ≡ true → IsPlaceText f t o in
    let P : Bool → Type 0 = λ v. is_name n ≡ v → cond v (direct_operand_at n (small_of (number k))) Wrong ≡ o → IsPlaceText f t o in
    elim (is_name n) as P [
      | true ↦ λ h g. elim (number k) as Q [
        | None ↦ λ q g h. let x : is_wrong Wrong ≡ false = ap is_wrong g ∙ w in cc
        | Some z ↦ λ q g h. subst (λ (y : Operand). IsPlaceText f t y) g (subst (λ (y : List ℕ). IsPlaceText f y (direct_operand_at n (small_of (Some z)))) (sym e) (is_offset n a b k z h ha hb q))
      ] refl g h
      | false ↦ λ h g. let x : is_wrong Wrong ≡ false = ap is_wrong g ∙ w in cc
    ] refl d

name_read : (f : Bool) (t : List ℕ) (o : Operand) → direct_operand t (Is 0) ≡ o → is_wrong o ≡ false → IsPlaceText f t o
name_read f t o d w =
    let P : Bool → Type 0 = λ v. is_name t ≡ v → cond v (Direct t 0) Wrong ≡ o → IsPlaceText f t o in
    elim (is_name t) as P [
      | true ↦ λ h g. subst (λ (y : Operand). IsPlaceText f t y) g (is_alone t h)
      | false ↦ λ h g. let x : is_wrong Wrong ≡ false = ap is_wrong g ∙ w in cc
    ] refl d

plus_read : (f : Bool) (t : List ℕ) (o : Operand) → HasBareEnds t → is_byte_of 43 t ≡ true → direct_operand (trim (before 43 t)) (small_of (number (trim (behind 43 t)))) ≡ o → is_wrong o ≡ false → IsPlaceText f t o
plus_read f t o bare h d w =
    let l = trimmed (before 43 t) in
    let r = trimmed (behind 43 t) in
    let n = trim (before 43 t) in
    let k = trim (behind 43 t) in
    let e : t ≡ (l.before ++ (n ++ l.behind)) ++ 43 ∷ (r.before ++ (k ++ r.behind)) =
    cut_there 43 t h ∙ (ap (λ y. y ++ 43 ∷ behind 43 t) l.text ∙ ap (λ y. (l.before ++ (n ++ l.behind)) ++ 43 ∷ y) r.text) in
    let e1 : t ≡ l.before ++ (n ++ (l.behind ++ 43 ∷ (r.before ++ (k ++ r.behind)))) = e ∙ simp append_assoc in
    let e2 : t ≡ (l.before ++ (n ++ (l.behind ++ 43 ∷ (r.before ++ k)))) ++ r.behind = e ∙ simp append_assoc in
    let z1 = none_before l.before (n ++ (l.behind ++ 43 ∷ (r.before ++ (k ++ r.behind)))) l.blanks_before (ap has_bare_start (sym e1) ∙ bare.front) in
    let z2 = none_behind (l.before ++ (n ++ (l.behind ++ 43 ∷ (r.before ++ k)))) r.behind r.blanks_behind (ap (λ y. has_bare_start (reverse y)) (sym e2) ∙ bare.end) in
    let e3 : t ≡ n ++ (l.behind ++ 43 ∷ (r.before ++ k)) =
    e1 ∙ (ap (λ y. y ++ (n ++ (l.behind ++ 43 ∷ (r.before ++ (k ++ r.behind))))) z1
    ∙ (ap (λ y. n ++ (l.behind ++ 43 ∷ (r.before ++ (k ++ y)))) z2 ∙ ap (λ y. n ++ (l.behind ++ 43 ∷ (r.before ++ y))) (append-nil k))) in
    direct_read f t n l.behind r.before k o e3 l.blanks_behind r.blanks_before d w

-- what stands in the brackets, with blanks a and d round it
masked_read : (f : Bool) (t n a y d : List ℕ) (o : Operand) → t ≡ n ++ 91 ∷ (a ++ (y ++ (d ++ 93 ∷ []))) → Blanks a → Blanks d → is_byte_of 38 y ≡ true
    → indexed_operand n (register (trim (before 38 y))) (small_of (number (trim (behind 38 y)))) ≡ o → is_wrong o ≡ false → IsPlaceText f t o
masked_read f t n a y d o e ha hd h g w =
    let l = trimmed (before 38 y) in
    let q = trimmed (behind 38 y) in
    let r = trim (before 38 y) in
    let m = trim (behind 38 y) in
    let cut : y ≡ (l.before ++ (r ++ l.behind)) ++ 38 ∷ (q.before ++ (m ++ q.behind)) =
    cut_there 38 y h ∙ (ap (λ v. v ++ 38 ∷ behind 38 y) l.text ∙ ap (λ v. (l.before ++ (r ++ l.behind)) ++ 38 ∷ v) q.text) in
    let whole : t ≡ n ++ 91 ∷ ((a ++ l.before) ++ (r ++ (l.behind ++ 38 ∷ (q.before ++ (m ++ ((q.behind ++ d) ++ 93 ∷ [])))))) =
    e ∙ (ap (λ v. n ++ 91 ∷ (a ++ (v ++ (d ++ 93 ∷ [])))) cut ∙ simp append_assoc) in
    let wrong : Wrong ≡ o → IsPlaceText f t o = λ v. let x : is_wrong Wrong ≡ false = ap is_wrong v ∙ w in cc in
    let M : ℕ → Option ℤ → Type 0 = λ x z. number m ≡ z → indexed_operand_at n (Some x) (small_of z) ≡ o → register r ≡ Some x → is_name n ≡ true → IsPlaceText f t o in
    let R : Option ℕ → Type 0 = λ x. register r ≡ x → indexed_operand_at n x (small_of (number m)) ≡ o → is_name n ≡ true → IsPlaceText f t o in
    let P : Bool → Type 0 = λ v. is_name n ≡ v → cond v (indexed_operand_at n (register r) (small_of (number m))) Wrong ≡ o → IsPlaceText f t o in
    elim (is_name n) as P [
      | true ↦ λ hn gn. elim (register r) as R [
        | None ↦ λ hr gr hn. wrong gr
        | Some x ↦ λ hr gr hn. elim (number m) as (M x) [
          | None ↦ λ hm gm hr hn. wrong gm
          | Some z ↦ λ hm gm hr hn.
              subst (λ (v : Operand). IsPlaceText f t v) gm (subst (λ (v : List ℕ). IsPlaceText f v (indexed_operand_at n (Some x) (small_of (Some z)))) (sym whole)
              (is_indexed n (a ++ l.before) r l.behind q.before m (q.behind ++ d) x z hn (blanks_both a l.before ha l.blanks_before) l.blanks_behind q.blanks_before
              (blanks_both q.behind d q.blanks_behind hd) hr hm))
        ] refl gr hr hn
      ] refl gn hn
      | false ↦ λ hn gn. wrong gn
    ] refl g

frame_read : (f : Bool) (t n a y d : List ℕ) (o : Operand) → t ≡ n ++ 91 ∷ (a ++ (y ++ (d ++ 93 ∷ []))) → Blanks a → Blanks d
    → cond (f && bytes_eq n (codes "frame")) (frame_operand (small_of (number y))) Wrong ≡ o → is_wrong o ≡ false → IsPlaceText f t o
frame_read f t n a y d o e ha hd g w =
    let wrong : Wrong ≡ o → IsPlaceText f t o = λ v. let x : is_wrong Wrong ≡ false = ap is_wrong v ∙ w in cc in
    let Q : Option ℤ → Type 0 = λ z. number y ≡ z → frame_operand (small_of z) ≡ o → IsPlaceText f t o in
    let P : Bool → Type 0 = λ v. (f && bytes_eq n (codes "frame")) ≡ v → cond v (frame_operand (small_of (number y))) Wrong ≡ o → IsPlaceText f t o in
    elim (f && bytes_eq n (codes "frame")) as P [
      | true ↦ λ h k.
          let b = and_parts f (bytes_eq n (codes "frame")) h in
          let name = (bytes_eq-Decides n (codes "frame")).0 b.1 in
          let whole : t ≡ codes "frame" ++ 91 ∷ (a ++ (y ++ (d ++ 93 ∷ []))) = e ∙ ap (λ v. v ++ 91 ∷ (a ++ (y ++ (d ++ 93 ∷ [])))) name in
          elim (number y) as Q [
            | None ↦ λ q i. wrong i
            | Some z ↦ λ q i. subst (λ (v : Operand). IsPlaceText f t v) i (subst (λ (v : List ℕ). IsPlaceText f v (frame_operand (small_of (Some z)))) (sym whole) (is_frame a y d z b.0 ha hd q))
          ] refl k
      | false ↦ λ h k. wrong k
    ] refl g

inside_read : (f : Bool) (t n a y d : List ℕ) (o : Operand) → t ≡ n ++ 91 ∷ (a ++ (y ++ (d ++ 93 ∷ []))) → Blanks a → Blanks d → in_brackets f n y ≡ o → is_wrong o ≡ false → IsPlaceText f t o
unfolding in_brackets
inside_read f t n a y d o e ha hd g w =
    let A : Operand = indexed_operand n (register (trim (before 38 y))) (small_of (number (trim (behind 38 y)))) in
    let B : Operand = cond (f && bytes_eq n (codes "frame")) (frame_operand (small_of (number y))) Wrong in
    let P : Bool → Type 0 = λ v. is_byte_of 38 y ≡ v → cond v A B ≡ o → IsPlaceText f t o in
    elim (is_byte_of 38 y) as P [ true ↦ λ h k. masked_read f t n a y d o e ha hd h k w | false ↦ λ h k. frame_read f t n a y d o e ha hd k w ] refl g

bracket_read : (f : Bool) (t n r : List ℕ) (o : Operand) → t ≡ n ++ 91 ∷ r → bracketed_operand f n r ≡ o → is_wrong o ≡ false → IsPlaceText f t o
unfolding bracketed_operand
bracket_read f t n r o e g w =
    let x = take (length r - 1) r in
    let P : Bool → Type 0 = λ v. (slice_index r (length r - 1) == 93) ≡ v → cond v (in_brackets f n (trim x)) Wrong ≡ o → IsPlaceText f t o in
    elim (slice_index r (length r - 1) == 93) as P [
      | true ↦ λ h k.
          let c = trimmed x in
          let y = trim x in
          let whole : t ≡ n ++ 91 ∷ (c.before ++ (y ++ (c.behind ++ 93 ∷ []))) =
          e ∙ (ap (λ v. n ++ 91 ∷ v) (ends_there r 93 refl h ∙ ap (λ v. v ++ 93 ∷ []) c.text) ∙ simp append_assoc) in
          inside_read f t n c.before y c.behind o whole c.blanks_before c.blanks_behind k w
      | false ↦ λ h k. let z : is_wrong Wrong ≡ false = ap is_wrong k ∙ w in cc
    ] refl g

pub place_read : (f : Bool) (t : List ℕ) (o : Operand) → HasBareEnds t → place f t ≡ o → is_wrong o ≡ false → IsPlaceText f t o
unfolding place
place_read f t o bare g w =
    let A : Operand = bracketed_operand f (before 91 t) (behind 91 t) in
    let B : Operand = direct_operand (trim (before 43 t)) (small_of (number (trim (behind 43 t)))) in
    let Q : Bool → Type 0 = λ v. is_byte_of 43 t ≡ v → cond v B (direct_operand t (Is 0)) ≡ o → IsPlaceText f t o in
    let P : Bool → Type 0 = λ v. is_byte_of 91 t ≡ v → cond v A (cond (is_byte_of 43 t) B (direct_operand t (Is 0))) ≡ o → IsPlaceText f t o in
    elim (is_byte_of 91 t) as P [
      | true ↦ λ h k. bracket_read f t (before 91 t) (behind 91 t) o (cut_there 91 t h) k w
      | false ↦ λ h. elim (is_byte_of 43 t) as Q [ true ↦ λ i k. plus_read f t o bare i k w | false ↦ λ i k. name_read f t o k w ] refl
    ] refl g
