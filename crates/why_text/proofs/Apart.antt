-- Faults of which none is like one before it.
use Rattle.std.proofs.Common.{◌≡◌, ◌∙◌, ◌<◌, ◌≤◌, ◌+◌, ◌-◌, ◌⊎◌, inl, inr, ⊎_elim, ℕ, suc, zero, Bool, true, false, cond, List, [], ◌∷◌, ◌++◌, length, get_or, take, refl, ap, sym, subst, append-nil, append_assoc, arith, eqb-true, true≢false}
use Rattle.std.specs.Prelude.{All, ◌&&◌, ◌||◌, ◌==◌, bytes_eq, fold}
use Rattle.std.specs.Borrow.{Bor}
use Rattle.std.specs.List.{Contains, list_any}
use Rattle.std.specs.List.Sorted.{IsNonDecreasingBy}
use Rattle.std.proofs.lemmas.Bool.{and_parts, cases_lt, cases_eq}
use Rattle.std.proofs.lemmas.List.{length_push, get_or_append_left, get_or_push, take-append-le}
use Rattle.std.proofs.Math.Seq.{take-length}
use Rattle.std.proofs.lemmas.List.Elements.{All-nil, All-push, All-get_or, All-weaker, All-head, All-tail}
use Rattle.std.proofs.lemmas.List.Sorted.{IsNonDecreasingBy-push}
use Rattle.std.proofs.lemmas.Slice.Eq.{bytes_eq-Decides}
use Rattle.indexmap.specs.IndexSet.{insert_key}
use Rattle.text_pieces.proofs.Tests.{any_insert}
use Rattle.sloth_base.specs.declared.refusal.Code.{Code}
use Rattle.stage_faults.specs.declared.notes.Note.{Note}
use Rattle.stage_faults.specs.Told.{IsTold, TellSame, note_order}
use Rattle.stage_faults.proofs.Telling.{none_told, told_left, told_right, told_cases}
use Rattle.stage_faults.proofs.Places.{one_note, same_line, same_code_at, tell_on}
use Rattle.why_text.specs.NamedFaults.{is_line, are_alike, apart_with, first_of_each, StandApart, is_key, AreKeys, NamesAll}

-- ---- keys

pub key_more : (keys : List (ℕ × Bor (List ℕ))) (place : ℕ) (name : Bor (List ℕ)) (n : ℕ) (word : List ℕ)
    → list_any (is_key n word) (insert_key (λ (x : ℕ × Bor (List ℕ)) y. (x.0 == y.0) && bytes_eq x.1.now y.1.now) keys (place, name))
    ≡ (list_any (is_key n word) keys || ((place == n) && bytes_eq name.now word))
key_more keys place name n word =
    any_insert (is_key n word) (λ (x : ℕ × Bor (List ℕ)) y. (x.0 == y.0) && bytes_eq x.1.now y.1.now) (place, name)
    (λ (y : ℕ × Bor (List ℕ)) h.
    let p = and_parts (place == y.0) (bytes_eq name.now y.1.now) h in
    let e : place ≡ y.0 = eqb-true place y.0 p.0 in
    let f : name.now ≡ y.1.now = (bytes_eq-Decides name.now y.1.now).0 p.1 in
    sym (ap (λ (k : ℕ). (k == n) && bytes_eq name.now word) e ∙ ap (λ (w : List ℕ). (y.0 == n) && bytes_eq w word) f)) keys

any_push : (p : Note → Bool) (xs : List Note) (x : Note) → list_any p (xs ++ x ∷ []) ≡ (list_any p xs || p x)
any_push p [] x = by (p x)
  where
    by : (b : Bool) → (b || false) ≡ b
    by true = refl
    by false = refl
any_push p (y ∷ ys) x = by (p y) (any_push p ys x)
  where
    by : (b : Bool) → list_any p (ys ++ x ∷ []) ≡ (list_any p ys || p x) → (b || list_any p (ys ++ x ∷ [])) ≡ ((b || list_any p ys) || p x)
    by true e = refl
    by false e = e

pub keys_more : (keys new : List (ℕ × Bor (List ℕ))) (list : List Note) (note : Note) → AreKeys keys list
    → ((n : ℕ) (word : List ℕ) → list_any (is_key n word) new ≡ (list_any (is_key n word) keys || ((note_order note == n) && bytes_eq note.name.now word)))
    → AreKeys new (list ++ note ∷ [])
keys_more keys new list note are more n word = more n word ∙ ap (λ b. b || is_line n word note) (are n word) ∙ sym (any_push (is_line n word) list note)

-- ---- what is alike tells the same

alike_told : (x : Note) (xs : List Note) → All (λ (note : Note). note.follows ≡ false) xs → list_any (are_alike x) xs ≡ true → IsTold xs x.line x.code
alike_told x [] own e = absurd (true≢false (sym e))
alike_told x (y ∷ ys) own e = by (are_alike x y) refl e
    (alike_told x ys (All-tail (λ (note : Note). note.follows ≡ false) y ys own))
  where
    by : (b : Bool) → are_alike x y ≡ b → (b || list_any (are_alike x) ys) ≡ true → (list_any (are_alike x) ys ≡ true → IsTold ys x.line x.code) → IsTold (y ∷ ys) x.line x.code
    by true t e rest =
        let p = eqb-true (note_order y) (note_order x) (and_parts (note_order y == note_order x) (bytes_eq y.name.now x.name.now) t).0 in
        record { note = y; stands = (0, omega arith, refl); own = All-head (λ (note : Note). note.follows ≡ false) y ys own; line_is = same_line y x p; code_is = same_code_at y x p }
    by false t e rest = told_right (y ∷ []) ys x.line x.code (rest e)

told_same : (x : Note) (xs : List Note) (line : ℕ) (code : Code) → IsTold xs x.line x.code → IsTold (x ∷ []) line code → IsTold xs line code
told_same x xs line code t h =
    let e = one_note x h.note h.stands in
    let l = ap (λ (y : Note). y.line) e ∙ h.line_is in
    let k = ap (λ (y : Note). y.code) e ∙ h.code_is in
    subst (λ (c : Code). IsTold xs line c) k (subst (λ (n : ℕ). IsTold xs n x.code) l t)

-- ---- one more

apart_push : (xs : List Note) (x : Note) → StandApart xs → list_any (are_alike x) xs ≡ false → StandApart (xs ++ x ∷ [])
apart_push xs x apart e k d lt =
    ⊎_elim
    (λ inside. ap (λ (y : Note). list_any (are_alike y) (take k (xs ++ x ∷ []))) (get_or_append_left xs (x ∷ []) d k inside)
    ∙ ap (list_any (are_alike (get_or xs k d))) (front inside) ∙ apart k d inside)
    (λ beyond. let n = length_push xs x in let at : length xs ≡ k = omega (arith, n, beyond, lt) in
    ap (λ (y : Note). list_any (are_alike y) (take k (xs ++ x ∷ []))) (get_or_push xs x d k at)
    ∙ ap (list_any (are_alike x)) (whole at) ∙ e)
    (cases_lt k (length xs))
  where
    front : k < length xs → take k (xs ++ x ∷ []) ≡ take k xs
    front inside = take-append-le k xs (x ∷ []) (omega (arith, inside))

    whole : length xs ≡ k → take k (xs ++ x ∷ []) ≡ xs
    whole at = take-append-le k xs (x ∷ []) (omega (arith, at)) ∙ ap (λ n. take n xs) (sym at) ∙ take-length xs

-- What holds of the faults so far, where those that follow stand at this place or behind it.
record SoFar (place : ℕ) (xs list : List Note) : Type 0 where
  names : TellSame xs list
  own : All (λ (note : Note). note.follows ≡ false) list
  sorted : IsNonDecreasingBy note_order list
  below : All (λ (note : Note). note_order note ≤ place) list
  apart : StandApart list

abbrev SortedFrom : ℕ → List Note → Type 0
SortedFrom place [] = Unit {0}
SortedFrom place (x ∷ xs) = (place ≤ note_order x) × SortedFrom (note_order x) xs

sorted_from : (place : ℕ) (xs : List Note) → IsNonDecreasingBy note_order xs → ((d : Note) → zero < length xs → place ≤ note_order (get_or xs zero d)) → SortedFrom place xs
sorted_from place [] h f = tt
sorted_from place (x ∷ xs) h f = (
  f x (omega arith),
  sorted_from (note_order x) xs (λ i j d le lt. h (suc i) (suc j) d (omega (arith, le)) (omega (arith, lt))) (λ d l. h zero (suc zero) d (omega arith) (omega (arith, l))),
)

so_far_by : (place : ℕ) (done list : List Note) (x : Note) (b : Bool) → list_any (are_alike x) list ≡ b → x.follows ≡ false → place ≤ note_order x → SoFar place done list
    → SoFar (note_order x) (done ++ x ∷ []) (cond b list (list ++ x ∷ []))
so_far_by place done list x true e own le s = record {
  names = record {
    to = λ line code t. ⊎_elim (λ h. s.names.to line code h) (λ h. told_same x list line code (alike_told x list s.own e) h) (told_cases done (x ∷ []) line code t);
    from = λ line code t. told_left done (x ∷ []) line code (s.names.from line code t);
  };
  own = s.own;
  sorted = s.sorted;
  below = All-weaker (λ (note : Note). note_order note ≤ place) (λ (note : Note). note_order note ≤ note_order x) (λ (note : Note) h. omega (arith, h, le)) list s.below;
  apart = s.apart;
}
so_far_by place done list x false e own le s = record {
  names = record {
    to = λ line code t. ⊎_elim (λ h. told_left list (x ∷ []) line code (s.names.to line code h)) (λ h. told_right list (x ∷ []) line code h) (told_cases done (x ∷ []) line code t);
    from = λ line code t. ⊎_elim (λ h. told_left done (x ∷ []) line code (s.names.from line code h)) (λ h. told_right done (x ∷ []) line code h) (told_cases list (x ∷ []) line code t);
  };
  own = All-push (λ (note : Note). note.follows ≡ false) list x s.own own;
  sorted = IsNonDecreasingBy-push note_order list x s.sorted
      (λ d l. let h = All-get_or (λ (note : Note). note_order note ≤ place) list (length list - 1) d (omega (arith, l)) s.below in omega (arith, h, le));
  below = All-push (λ (note : Note). note_order note ≤ note_order x) list x
      (All-weaker (λ (note : Note). note_order note ≤ place) (λ (note : Note). note_order note ≤ note_order x) (λ (note : Note) h. omega (arith, h, le)) list s.below) (omega arith);
  apart = apart_push list x s.apart e;
}

so_far : (place : ℕ) (done list xs : List Note) → All (λ (note : Note). note.follows ≡ false) xs → SortedFrom place xs → SoFar place done list
    → (last : ℕ) × SoFar last (done ++ xs) (fold apart_with list xs)
so_far place done list [] own sorted s = (place, subst (λ (ys : List Note). SoFar place ys list) (sym (append-nil done)) s)
so_far place done list (x ∷ xs) own sorted s =
    let next = so_far (note_order x) (done ++ x ∷ []) (apart_with list x) xs (All-tail (λ (note : Note). note.follows ≡ false) x xs own) sorted.1
    (so_far_by place done list x (list_any (are_alike x) list) refl (All-head (λ (note : Note). note.follows ≡ false) x xs own) sorted.0 s) in
    (next.0, subst (λ (ys : List Note). SoFar next.0 ys (fold apart_with (apart_with list x) xs)) (append_assoc done (x ∷ []) xs) next.1)

none_so_far : SoFar 0 [] []
none_so_far = record {
  names = record { to = λ line code t. t; from = λ line code t. t };
  own = All-nil (λ (note : Note). note.follows ≡ false);
  sorted = λ i j d le lt. absurd (omega (arith, lt));
  below = All-nil (λ (note : Note). note_order note ≤ 0);
  apart = λ k d lt. absurd (omega (arith, lt));
}

module _ (faults xs list : List Note) (all : NamesAll faults xs) (sorted : IsNonDecreasingBy note_order xs) (is : list ≡ first_of_each xs) where
  whole : (last : ℕ) × SoFar last xs (first_of_each xs)
  whole = so_far 0 [] [] xs all.own (sorted_from 0 xs sorted (λ d l. omega arith)) none_so_far

  pub each_names : NamesAll faults list
  each_names = subst (NamesAll faults) (sym is) (record { same = tell_on faults xs (first_of_each xs) all.same whole.1.names; own = whole.1.own })

  pub each_sorted : IsNonDecreasingBy note_order list
  each_sorted = subst (IsNonDecreasingBy note_order) (sym is) whole.1.sorted

  pub each_apart : StandApart list
  each_apart = subst StandApart (sym is) whole.1.apart
