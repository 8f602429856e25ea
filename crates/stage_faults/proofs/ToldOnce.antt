-- Sorted faults, told in order and once.
use Rattle.std.proofs.Common.{◌≡◌, ◌∙◌, ◌≤◌, ◌<◌, ◌+◌, ◌⊎◌, inl, inr, ⊎_elim, ℕ, suc, zero, Bool, true, false, cond, List, [], ◌∷◌, length, get_or, refl, ap, sym, subst, arith, true≢false, ltb-true, ltb-false}
use Rattle.std.specs.Prelude.{◌||◌, nat_lt}
use Rattle.std.specs.List.Sorted.{IsNonDecreasingBy}
use Rattle.std.proofs.lemmas.List.Elements.{Contains-push}
use Rattle.sloth_base.specs.declared.refusal.Code.{Code}
use Rattle.stage_faults.specs.declared.notes.Note.{Note}
use Rattle.stage_faults.specs.Told.{IsTold, TellSame, AreInOrder, Rise, note_order, told_from}
use Rattle.stage_faults.proofs.Telling.{none_told, told_left, told_right, told_cases}
use Rattle.stage_faults.proofs.Places.{one_note, same_line, same_code_at, tell_on}

-- ---- one fault

told_head : (x : Note) (line : ℕ) (code : Code) → x.follows ≡ false → x.line ≡ line → x.code ≡ code → IsTold (x ∷ []) line code
told_head x line code own l k = record { note = x; stands = Contains-push [] x; own = own; line_is = l; code_is = k }

head_own : (x : Note) (line : ℕ) (code : Code) → IsTold (x ∷ []) line code → x.follows ≡ false
head_own x line code t = ap (λ (y : Note). y.follows) (one_note x t.note t.stands) ∙ t.own

head_line : (x : Note) (line : ℕ) (code : Code) → IsTold (x ∷ []) line code → x.line ≡ line
head_line x line code t = ap (λ (y : Note). y.line) (one_note x t.note t.stands) ∙ t.line_is

head_code : (x : Note) (line : ℕ) (code : Code) → IsTold (x ∷ []) line code → x.code ≡ code
head_code x line code t = ap (λ (y : Note). y.code) (one_note x t.note t.stands) ∙ t.code_is

-- ---- in order

rise_by : (place : ℕ) (x : Note) (xs : List Note) (f b : Bool) → x.follows ≡ f → nat_lt (note_order x) place ≡ b → Rise place (told_from place xs)
    → Rise (note_order x + 1) (told_from (note_order x + 1) xs) → Rise place (cond (f || b) (told_from place xs) (x ∷ told_from (note_order x + 1) xs))
rise_by place x xs true b e g left next = left
rise_by place x xs false true e g left next = left
rise_by place x xs false false e g left next = (ltb-false (note_order x) place g, e, next)

rises : (place : ℕ) (xs : List Note) → Rise place (told_from place xs)
rises place [] = tt
rises place (x ∷ xs) = rise_by place x xs x.follows (nat_lt (note_order x) place) refl refl (rises place xs) (rises (note_order x + 1) xs)

pub once_in_order : (xs list : List Note) → list ≡ told_from 0 xs → AreInOrder list
once_in_order xs list e = subst AreInOrder (sym e) (rises 0 xs)

-- ---- nothing is lost

-- each stands at the place in front of this one or behind it, and at that of the one before it or behind it
abbrev NotBefore : ℕ → List Note → Type 0
NotBefore place [] = Unit {0}
NotBefore place (x ∷ xs) = (place ≤ note_order x + 1) × NotBefore (note_order x + 1) xs

earlier_place : (p q : ℕ) (xs : List Note) → p ≤ q → NotBefore q xs → NotBefore p xs
earlier_place p q [] l h = tt
earlier_place p q (x ∷ xs) l h = let a = h.0 in (omega (arith, l, a), h.1)

not_before : (place : ℕ) (xs : List Note) → IsNonDecreasingBy note_order xs → ((d : Note) → zero < length xs → place ≤ note_order (get_or xs zero d) + 1) → NotBefore place xs
not_before place [] h f = tt
not_before place (x ∷ xs) h f = (
  f x (omega arith),
  not_before (note_order x + 1) xs (λ i j d le lt. h (suc i) (suc j) d (omega (arith, le)) (omega (arith, lt)))
      (λ d l. let a = h zero (suc zero) d (omega arith) (omega (arith, l)) in omega (arith, a)),
)

module _ (x : Note) (line : ℕ) (code : Code) where
  -- what x tells was told, or is told now
  abbrev HeadCase : Type 0
  HeadCase = (x.line ≡ line) × (x.code ≡ code)

  after_head : (Q : Type 0) (ys : List Note) → x.follows ≡ false → (Q ⊎ HeadCase) ⊎ IsTold ys line code → Q ⊎ IsTold (x ∷ ys) line code
  after_head Q ys own (inl (inl q)) = inl q
  after_head Q ys own (inl (inr h)) = inr (told_left (x ∷ []) ys line code (told_head x line code own h.0 h.1))
  after_head Q ys own (inr t) = inr (told_right (x ∷ []) ys line code t)

told_by : (Q : ℕ → Code → Type 0) (place : ℕ) (x : Note) (xs : List Note) (line : ℕ) (code : Code) → place ≤ note_order x + 1 → ((y : Note) → note_order y + 1 ≡ place → Q y.line y.code)
    → (f b : Bool) → x.follows ≡ f → nat_lt (note_order x) place ≡ b
    → IsTold (x ∷ []) line code ⊎ IsTold xs line code
    → (IsTold xs line code → Q line code ⊎ IsTold (told_from place xs) line code)
    → (IsTold xs line code → (Q line code ⊎ HeadCase x line code) ⊎ IsTold (told_from (note_order x + 1) xs) line code)
    → Q line code ⊎ IsTold (cond (f || b) (told_from place xs) (x ∷ told_from (note_order x + 1) xs)) line code
told_by Q place x xs line code l seen true b e g (inl t) left next = absurd (true≢false (sym e ∙ head_own x line code t))
told_by Q place x xs line code l seen true b e g (inr t) left next = left t
told_by Q place x xs line code l seen false true e g (inl t) left next =
    let a = ltb-true (note_order x) place g in
    let q = seen x (omega (arith, l, a)) in
    inl (subst (λ (k : Code). Q line k) (head_code x line code t) (subst (λ (n : ℕ). Q n x.code) (head_line x line code t) q))
told_by Q place x xs line code l seen false true e g (inr t) left next = left t
told_by Q place x xs line code l seen false false e g (inl t) left next = inr (told_left (x ∷ []) (told_from (note_order x + 1) xs) line code t)
told_by Q place x xs line code l seen false false e g (inr t) left next = after_head x line code (Q line code) (told_from (note_order x + 1) xs) e (next t)

-- What is told of sorted faults was told at the place in front, or is told from this place on.
told_on : (Q : ℕ → Code → Type 0) (place : ℕ) (xs : List Note) → NotBefore place xs → ((y : Note) → note_order y + 1 ≡ place → Q y.line y.code)
    → (line : ℕ) (code : Code) → IsTold xs line code → Q line code ⊎ IsTold (told_from place xs) line code
told_on Q place [] s seen line code t = absurd (none_told line code t)
told_on Q place (x ∷ xs) s seen line code t =
    told_by Q place x xs line code s.0 seen x.follows (nat_lt (note_order x) place) refl refl (told_cases (x ∷ []) xs line code t)
    (told_on Q place xs (earlier_place place (note_order x + 1) xs s.0 s.1) seen line code)
    (told_on (λ l k. Q l k ⊎ HeadCase x l k) (note_order x + 1) xs s.1 (λ y e. inr (at_one_place y e)) line code)
  where
    at_one_place : (y : Note) → note_order y + 1 ≡ note_order x + 1 → HeadCase x y.line y.code
    at_one_place y e =
        let f : note_order x ≡ note_order y = omega (arith, e) in
        (same_line x y f, same_code_at x y f)

-- ---- nothing is added

back_by : (place : ℕ) (x : Note) (xs : List Note) (line : ℕ) (code : Code) (f b : Bool) → IsTold (cond (f || b) (told_from place xs) (x ∷ told_from (note_order x + 1) xs)) line code
    → (IsTold (told_from place xs) line code → IsTold xs line code) → (IsTold (told_from (note_order x + 1) xs) line code → IsTold xs line code) → IsTold (x ∷ xs) line code
back_by place x xs line code true b t left next = told_right (x ∷ []) xs line code (left t)
back_by place x xs line code false true t left next = told_right (x ∷ []) xs line code (left t)
back_by place x xs line code false false t left next =
    ⊎_elim (λ h. told_left (x ∷ []) xs line code h) (λ h. told_right (x ∷ []) xs line code (next h)) (told_cases (x ∷ []) (told_from (note_order x + 1) xs) line code t)

told_back : (place : ℕ) (xs : List Note) (line : ℕ) (code : Code) → IsTold (told_from place xs) line code → IsTold xs line code
told_back place [] line code t = t
told_back place (x ∷ xs) line code t = back_by place x xs line code x.follows (nat_lt (note_order x) place) t (told_back place xs line code) (told_back (note_order x + 1) xs line code)

-- ---- all

told_once : (xs : List Note) → IsNonDecreasingBy note_order xs → TellSame xs (told_from 0 xs)
told_once xs sorted = record {
  to = λ line code t. ⊎_elim (λ n. absurd n) (λ h. h) (told_on (λ l k. ⊥) 0 xs (not_before 0 xs sorted (λ d l. omega arith)) (λ y e. absurd (omega (arith, e))) line code t);
  from = λ line code t. told_back 0 xs line code t;
}

pub once_same : (old xs list : List Note) → TellSame old xs → IsNonDecreasingBy note_order xs → list ≡ told_from 0 xs → TellSame old list
once_same old xs list same sorted e = tell_on old xs list same (subst (TellSame xs) (sym e) (told_once xs sorted))
