-- What a list of faults tells as it grows.
use Rattle.std.proofs.Common.{◌≡◌, ◌∙◌, ℕ, ◌+◌, ◌<◌, Bool, true, false, ◌⊎◌, inl, inr, ⊎_elim, List, [], ◌∷◌, ◌++◌, take, get_or, length, suc, zero, refl, ap, sym, subst, append_assoc, append-nil, add-one, arith}
use Rattle.std.proofs.Math.Seq.{take-suc, take-length}
use Rattle.std.specs.List.{Contains}
use Rattle.std.proofs.lemmas.List.Elements.{Contains-append_left, Contains-append_right, Contains-append_cases, Contains-push}
use Rattle.sloth_base.specs.declared.refusal.Part.{Part}
use Rattle.sloth_base.specs.declared.refusal.Code.{Code}
use Rattle.sloth_base.specs.declared.refusal.Refusal.{Refusal}
use Rattle.sloth_base.specs.Search.{SomeFrom, Somewhere}
use Rattle.sloth_base.specs.Cases.{fault_at, CaseOf}
use Rattle.stage_faults.specs.declared.notes.Note.{Note}
use Rattle.stage_faults.specs.Told.{IsTold, AreAll, Adds}

nothing_stands : (x : Note) → Contains [] x → ⊥
nothing_stands x h = let n = h.1 in absurd (omega (arith, n))

pub none_told : (line : ℕ) (code : Code) → IsTold [] line code → ⊥
none_told line code t = nothing_stands t.note t.stands

pub all_of_none : (part : Part) (F : Refusal → Type 0) → ((r : Refusal) → F r → ⊥) → AreAll part F []
all_of_none part F none = record { each = λ r f. absurd (none r f); only = λ line code t. absurd (none_told line code t) }

pub told_left : (xs ys : List Note) (line : ℕ) (code : Code) → IsTold xs line code → IsTold (xs ++ ys) line code
told_left xs ys line code t = record { note = t.note; stands = Contains-append_left xs ys t.note t.stands; own = t.own; line_is = t.line_is; code_is = t.code_is }

pub told_right : (xs ys : List Note) (line : ℕ) (code : Code) → IsTold ys line code → IsTold (xs ++ ys) line code
told_right xs ys line code t = record { note = t.note; stands = Contains-append_right xs ys t.note t.stands; own = t.own; line_is = t.line_is; code_is = t.code_is }

pub told_cases : (xs ys : List Note) (line : ℕ) (code : Code) → IsTold (xs ++ ys) line code → IsTold xs line code ⊎ IsTold ys line code
told_cases xs ys line code t = ⊎_elim
    (λ h. inl (record { note = t.note; stands = h; own = t.own; line_is = t.line_is; code_is = t.code_is }))
    (λ h. inr (record { note = t.note; stands = h; own = t.own; line_is = t.line_is; code_is = t.code_is }))
    (Contains-append_cases xs ys t.note t.stands)

pub all_of_both : (part : Part) (F G : Refusal → Type 0) (xs ys : List Note) → AreAll part F xs → AreAll part G ys → AreAll part (λ r. F r ⊎ G r) (xs ++ ys)
all_of_both part F G xs ys f g = record {
  each = λ r x. ⊎_elim (λ h. told_left xs ys r.line r.code (f.each r h)) (λ h. told_right xs ys r.line r.code (g.each r h)) x;
  only = λ line code t. ⊎_elim (λ h. inl (f.only line code h)) (λ h. inr (g.only line code h)) (told_cases xs ys line code t);
}

-- The same set under another name.
pub all_same : (part : Part) (F G : Refusal → Type 0) (xs : List Note) → ((r : Refusal) → F r → G r) → ((r : Refusal) → G r → F r) → AreAll part F xs → AreAll part G xs
all_same part F G xs to from f = record { each = λ r g. f.each r (from r g); only = λ line code t. to (fault_at part line code) (f.only line code t) }

pub adds_same : (part : Part) (F G : Refusal → Type 0) (old new : List Note) → ((r : Refusal) → F r → G r) → ((r : Refusal) → G r → F r) → Adds part F old new → Adds part G old new
adds_same part F G old new to from a = record { more = a.more; are = a.are; all = all_same part F G a.more to from a.all }

pub adds_none : (part : Part) (F : Refusal → Type 0) (old : List Note) → ((r : Refusal) → F r → ⊥) → Adds part F old old
adds_none part F old none = record { more = []; are = sym (append-nil old); all = all_of_none part F none }

-- One after the other.
pub adds_both : (part : Part) (F G : Refusal → Type 0) (a b c : List Note) → Adds part F a b → Adds part G b c → Adds part (λ r. F r ⊎ G r) a c
adds_both part F G a b c f g = record {
  more = f.more ++ g.more;
  are = g.are ∙ ap (λ x. x ++ g.more) f.are ∙ append_assoc a f.more g.more;
  all = all_of_both part F G f.more g.more f.all g.all;
}

-- Three, told as the second, the first and the third.
pub adds_turned : (part : Part) (F G H : Refusal → Type 0) (a b c d : List Note) → Adds part F a b → Adds part G b c → Adds part H c d → Adds part (λ r. G r ⊎ (F r ⊎ H r)) a d
adds_turned part F G H a b c d f g h =
    adds_same part (λ r. F r ⊎ (G r ⊎ H r)) (λ r. G r ⊎ (F r ⊎ H r)) a d
    (λ r x. ⊎_elim (λ p. inr (inl p)) (λ q. ⊎_elim (λ p. inl p) (λ p. inr (inr p)) q) x)
    (λ r x. ⊎_elim (λ p. inr (inl p)) (λ q. ⊎_elim (λ p. inl p) (λ p. inr (inr p)) q) x)
    (adds_both part F (λ r. G r ⊎ H r) a b d f (adds_both part G H b c d g h))

is_it : (note x : Note) → Contains (note ∷ []) x → note ≡ x
is_it note x h = first h.0 h.1 h.2
  where
    first : (k : ℕ) → k < 1 → get_or (note ∷ []) k x ≡ x → note ≡ x
    first zero b e = e
    first (suc k) b e = absurd (omega (arith, b))

-- One that follows from another tells nothing.
pub adds_follower : (part : Part) (old new : List Note) (note : Note) → new ≡ old ++ note ∷ [] → note.follows ≡ true → Adds part (λ r. ⊥) old new
adds_follower part old new note e follows = record {
  more = note ∷ [];
  are = e;
  all = record {
    each = λ r f. absurd f;
    only = λ line code t. absurd (untrue t.note.follows t.own (sym (ap (λ (x : Note). x.follows) (is_it note t.note t.stands)) ∙ follows));
  };
}
  where
    untrue : (b : Bool) → b ≡ false → b ≡ true → ⊥
    untrue b f t = cc

pub adds_one : (part : Part) (old : List Note) (note : Note) → note.follows ≡ false → Adds part (λ r. r ≡ fault_at part note.line note.code) old (old ++ note ∷ [])
adds_one part old note own = record {
  more = note ∷ [];
  are = refl;
  all = record {
    each = λ r e. record { note = note; stands = Contains-push [] note; own = own; line_is = sym (ap (λ (x : Refusal). x.line) e); code_is = sym (ap (λ (x : Refusal). x.code) e) };
    only = λ line code t. one line code t;
  };
}
  where
    one : (line : ℕ) (code : Code) → IsTold (note ∷ []) line code → fault_at part line code ≡ fault_at part note.line note.code
    one line code t =
        let e = is_it note t.note t.stands in
        sym (ap (λ (l : ℕ). fault_at part l note.code) (ap (λ (x : Note). x.line) e ∙ t.line_is) ∙ ap (fault_at part line) (ap (λ (x : Note). x.code) e ∙ t.code_is))

-- A case, where its test says so and where not.
pub adds_case : (part : Part) (test : Bool) (line : ℕ) (code : Code) (old new : List Note) → test ≡ true → Adds part (λ r. r ≡ fault_at part line code) old new
    → Adds part (CaseOf part test line code) old new
adds_case part test line code old new h a =
    adds_same part (λ r. r ≡ fault_at part line code) (CaseOf part test line code) old new (λ r e. (h, e)) (λ r p. p.1) a

pub adds_no_case : (part : Part) (test : Bool) (line : ℕ) (code : Code) (old : List Note) → test ≡ false → Adds part (CaseOf part test line code) old old
adds_no_case part test line code old h = adds_none part (CaseOf part test line code) old (λ r p. let e = p.0 in cc)

-- The same case by another test.
pub case_is : (part : Part) (test other : Bool) (line : ℕ) (code : Code) (old new : List Note) → other ≡ test → Adds part (CaseOf part other line code) old new → Adds part (CaseOf part test line code) old new
case_is part test other line code old new e a = subst (λ (b : Bool). Adds part (CaseOf part b line code) old new) e a

-- ---- loops

some_more : {X : Type 0} (P : List X → X → Refusal → Type 0) (front xs : List X) (x : X) (r : Refusal) → SomeFrom P front (xs ++ x ∷ []) r → SomeFrom P front xs r ⊎ P (front ++ xs) x r
some_more P front [] x r (inl p) = inr (subst (λ ys. P ys x r) (sym (append-nil front)) p)
some_more P front [] x r (inr p) = absurd p
some_more P front (y ∷ ys) x r (inl p) = inl (inl p)
some_more P front (y ∷ ys) x r (inr p) = ⊎_elim (λ h. inl (inr h)) (λ h. inr (subst (λ zs. P zs x r) (append_assoc front (y ∷ []) ys) h)) (some_more P (front ++ y ∷ []) ys x r p)

some_earlier : {X : Type 0} (P : List X → X → Refusal → Type 0) (front xs : List X) (x : X) (r : Refusal) → SomeFrom P front xs r → SomeFrom P front (xs ++ x ∷ []) r
some_earlier P front [] x r p = absurd p
some_earlier P front (y ∷ ys) x r (inl p) = inl p
some_earlier P front (y ∷ ys) x r (inr p) = inr (some_earlier P (front ++ y ∷ []) ys x r p)

some_last : {X : Type 0} (P : List X → X → Refusal → Type 0) (front xs : List X) (x : X) (r : Refusal) → P (front ++ xs) x r → SomeFrom P front (xs ++ x ∷ []) r
some_last P front [] x r p = inl (subst (λ ys. P ys x r) (append-nil front) p)
some_last P front (y ∷ ys) x r p = inr (some_last P (front ++ y ∷ []) ys x r (subst (λ zs. P zs x r) (sym (append_assoc front (y ∷ []) ys)) p))

-- A loop's step: the faults of an element behind those in front of it.
pub adds_more : {X : Type 0} (part : Part) (P : List X → X → Refusal → Type 0) (xs : List X) (i : ℕ) (x : X) (a b c : List Note) → i < length xs → x ≡ get_or xs i x
    → Adds part (Somewhere P (take i xs)) a b → Adds part (P (take i xs) x) b c → Adds part (Somewhere P (take (i + 1) xs)) a c
adds_more part P xs i x a b c h e f g =
    let front = take i xs in
    let t : take (i + 1) xs ≡ front ++ x ∷ [] = rw add-one (take-suc xs i x h ∙ ap (λ y. front ++ y ∷ []) (sym e)) in
    subst (λ ys. Adds part (Somewhere P ys) a c) (sym t)
    (adds_same part (λ r. Somewhere P front r ⊎ P front x r) (Somewhere P (front ++ x ∷ [])) a c
    (λ r p. ⊎_elim (some_earlier P [] front x r) (some_last P [] front x r) p)
    (λ r p. some_more P [] front x r p)
    (adds_both part (Somewhere P front) (P front x) a b c f g))

pub adds_nowhere : {X : Type 0} (part : Part) (P : List X → X → Refusal → Type 0) (old : List Note) → Adds part (Somewhere P []) old old
adds_nowhere part P old = adds_none part (Somewhere P []) old (λ r p. p)

pub all_added : (part : Part) (F : Refusal → Type 0) (new : List Note) → Adds part F [] new → AreAll part F new
all_added part F new a = subst (AreAll part F) (sym a.are) a.all

pub adds_end : {X : Type 0} (part : Part) (P : List X → X → Refusal → Type 0) (xs : List X) (i : ℕ) (old new : List Note) → i ≡ length xs
    → Adds part (Somewhere P (take i xs)) old new → Adds part (Somewhere P xs) old new
adds_end part P xs i old new e a = subst (λ ys. Adds part (Somewhere P ys) old new) (ap (λ k. take k xs) e ∙ take-length xs) a

pub all_made : (part : Part) (F : Refusal → Type 0) (old new : List Note) → old ≡ [] → Adds part F old new → AreAll part F new
all_made part F old new e a = all_added part F new (subst (λ (xs : List Note). Adds part F xs new) e a)
