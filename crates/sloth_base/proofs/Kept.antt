-- A running least is the least of the whole set.
use Rattle.std.proofs.Common.{◌≡◌, ℕ, ◌<◌, ◌≤◌, Bool, true, false, cond, ltb, Option, Some, None, ◌⊎◌, inl, inr, ⊎_elim, refl, ap, sym, ◌∙◌, subst, arith, List, [], ◌∷◌, ◌++◌, take, drop, get_or, length, ◌+◌, add-one, suc}
use Rattle.std.proofs.lemmas.Bool.Decides.{eqb_tells, leb_tells}
use Rattle.std.proofs.lemmas.Bool.{cases_lt, lt-ltb, le-ltb}
use Rattle.sloth_base.specs.declared.refusal.Refusal.{Refusal}
use Rattle.sloth_base.specs.Order.{number, IsNoLater, is_before, IsLeast, NoFault}
use Rattle.sloth_base.specs.Search.{lesser, IsSearchResult, merge, fault_if, SomeFrom, Somewhere}
use Rattle.sloth_base.proofs.Searching.{IsBeaten, KeepsLeast}
use Rattle.std.proofs.Math.Seq.{drop-cons, take-suc}
use Rattle.std.proofs.Math.ListN.{drop_of_length-le}

pub precedes_self : (r : Refusal) → IsNoLater r r
precedes_self r = inr (refl, omega arith)

pub precedes_trans : (a b c : Refusal) → IsNoLater a b → IsNoLater b c → IsNoLater a c
precedes_trans a b c (inl p) (inl q) = inl (omega arith)
precedes_trans a b c (inl p) (inr q) = inl (let e = q.0 in omega (arith, e))
precedes_trans a b c (inr p) (inl q) = inl (let e = p.0 in omega (arith, e))
precedes_trans a b c (inr p) (inr q) = inr (p.0 ∙ q.0, let e = p.1 in let f = q.1 in omega (arith, e, f))

lt_tells : (a b : ℕ) → ((ltb a b ≡ true) × (a < b)) ⊎ ((ltb a b ≡ false) × (b ≤ a))
lt_tells a b = ⊎_elim (λ h. inl (lt-ltb a b h, h)) (λ h. inr (le-ltb a b h, h)) (cases_lt a b)

total : (a b : Refusal) → (is_before a b ≡ true × IsNoLater a b) ⊎ (is_before a b ≡ false × IsNoLater b a)
total a b = ⊎_elim
    (λ p. inl (rw p.0 (refl, inl p.1)))
    (λ p. ⊎_elim
    (λ q. ⊎_elim
    (λ r. inl (rw (p.0, q.0, r.0) (refl, inr (q.1, r.1))))
    (λ r. inr (rw (p.0, q.0, r.0) (refl, inr (sym q.1, let n = r.1 in omega (arith, n)))))
    (leb_tells (number a.code) (number b.code)))
    (λ q. inr (rw (p.0, q.0) (refl, inl (let n = q.1 in let l = p.1 in omega (arith, n, l)))))
    (eqb_tells a.line b.line))
    (lt_tells a.line b.line)

pub lesser_left : (m r : Refusal) → IsNoLater (lesser (Some m) r) m
unfolding lesser
lesser_left m r = ⊎_elim (λ p. rw p.0 (precedes_self m)) (λ p. rw p.0 p.1) (total m r)

pub lesser_right : (o : Option Refusal) (r : Refusal) → IsNoLater (lesser o r) r
unfolding lesser
lesser_right None r = precedes_self r
lesser_right (Some m) r = ⊎_elim (λ p. rw p.0 p.1) (λ p. rw p.0 (precedes_self r)) (total m r)

pub lesser_is : (F : Refusal → Type 0) (o : Option Refusal) (r : Refusal) → ((m : Refusal) → o ≡ Some m → F m) → F r → F (lesser o r)
unfolding lesser
lesser_is F None r h f = f
lesser_is F (Some m) r h f = elim (is_before m r) as (λ u. F (cond u m r)) [ true ↦ h m refl | false ↦ f ]

pub beaten_lesser : (o : Option Refusal) (m r : Refusal) → IsBeaten o r → IsNoLater (lesser o m) r
beaten_lesser None m r b = absurd b
beaten_lesser (Some k) m r b = precedes_trans (lesser (Some k) m) k r (lesser_left k m) b

module _ (F : Refusal → Type 0) where
  pub kept_start : KeepsLeast F F None
  kept_start = record { own = λ m e. cc; to_come = λ r f. f; all = λ r f. inl f }

  -- One place had no fault.
  pub kept_on : (G H : Refusal → Type 0) (o : Option Refusal) → ((r : Refusal) → G r → H r) → ((r : Refusal) → H r → G r) → KeepsLeast F G o → KeepsLeast F H o
  kept_on G H o to from k = record { own = k.own; to_come = λ r h. k.to_come r (from r h); all = λ r f. ⊎_elim (λ g. inl (to r g)) inr (k.all r f) }

  -- One fault was met.
  pub kept_found : (G H : Refusal → Type 0) (o : Option Refusal) (m : Refusal) → G m → ((r : Refusal) → G r → (r ≡ m) ⊎ H r) → ((r : Refusal) → H r → G r) → KeepsLeast F G o
      → KeepsLeast F H (Some (lesser o m))
  kept_found G H o m g to from k = record {
    own = λ n e. let q : lesser o m ≡ n = cc in subst F q (lesser_is F o m k.own (k.to_come m g));
    to_come = λ r h. k.to_come r (from r h);
    all = λ r f. ⊎_elim
        (λ x. ⊎_elim (λ e. inr (subst (λ (y : Refusal). IsNoLater (lesser o m) y) (sym e) (lesser_right o m))) inl (to r x))
        (λ b. inr (beaten_lesser o m r b))
        (k.all r f);
  }

  -- All are met.
  pub kept_none : (G : Refusal → Type 0) → ((r : Refusal) → G r → ⊥) → KeepsLeast F G None → NoFault F
  kept_none G e k r f = ⊎_elim (e r) (λ b. b) (k.all r f)

  pub kept_least : (G : Refusal → Type 0) (m : Refusal) → ((r : Refusal) → G r → ⊥) → KeepsLeast F G (Some m) → IsLeast F m
  kept_least G m e k = record { is_fault = k.own m refl; is_least = λ r f. ⊎_elim (λ g. absurd (e r g)) (λ b. b) (k.all r f) }

-- The same sets have the same least.
pub least_same : (F G : Refusal → Type 0) → ((r : Refusal) → F r → G r) → ((r : Refusal) → G r → F r) → (r : Refusal) → IsLeast F r → IsLeast G r
least_same F G to from r l = record { is_fault = to r l.is_fault; is_least = λ s g. l.is_least s (from s g) }

-- One search more: G is what it looked for, and the rest H.
pub kept_merge : (F G I H : Refusal → Type 0) (o m : Option Refusal) → IsSearchResult I m → ((r : Refusal) → G r → I r ⊎ H r) → ((r : Refusal) → I r → G r) → ((r : Refusal) → H r → G r)
    → KeepsLeast F G o → KeepsLeast F H (merge o m)
unfolding merge
kept_merge F G I H o None f to from back k = record {
  own = k.own;
  to_come = λ r h. k.to_come r (back r h);
  all = λ r x. ⊎_elim (λ g. ⊎_elim (λ i. absurd (f r i)) inl (to r g)) inr (k.all r x);
}
kept_merge F G I H o (Some m) f to from back k = record {
  own = λ n e. let q : lesser o m ≡ n = cc in subst F q (lesser_is F o m k.own (k.to_come m (from m f.is_fault)));
  to_come = λ r h. k.to_come r (back r h);
  all = λ r x. ⊎_elim
      (λ g. ⊎_elim (λ i. inr (precedes_trans (lesser o m) m r (lesser_right o m) (f.is_least r i))) inl (to r g))
      (λ b. inr (beaten_lesser o m r b))
      (k.all r x);
}

pub kept_finds : (F G : Refusal → Type 0) (o : Option Refusal) → ((r : Refusal) → G r → ⊥) → KeepsLeast F G o → IsSearchResult F o
kept_finds F G None e k = kept_none F G e k
kept_finds F G (Some m) e k = kept_least F G m e k

-- Two searches, merged, find the faults of both.
pub finds_both : (F G : Refusal → Type 0) (a b : Option Refusal) → IsSearchResult F a → IsSearchResult G b → IsSearchResult (λ r. F r ⊎ G r) (merge a b)
finds_both F G a b f g =
    let s : KeepsLeast (λ r. F r ⊎ G r) G a = after_first a f in
    kept_finds (λ r. F r ⊎ G r) (λ r. ⊥) (merge a b) (λ r x. x) (kept_merge (λ r. F r ⊎ G r) G G (λ r. ⊥) a b g (λ r x. inl x) (λ r x. x) (λ r x. absurd x) s)
  where
    after_first : (o : Option Refusal) → IsSearchResult F o → KeepsLeast (λ r. F r ⊎ G r) G o
    after_first None f = record { own = λ m e. cc; to_come = λ r g. inr g; all = λ r x. ⊎_elim (λ y. absurd (f r y)) inl x }
    after_first (Some m) f = record {
      own = λ n e. let q : m ≡ n = cc in inl (subst F q f.is_fault);
      to_come = λ r g. inr g;
      all = λ r x. ⊎_elim (λ y. inr (f.is_least r y)) inl x;
    }

-- A test finds its fault.
pub fault_if_found : (C : Type 0) (b : Bool) (m : Refusal) → (b ≡ true → C) → (C → b ≡ true) → IsSearchResult (λ r. C × (r ≡ m)) (fault_if b m)
fault_if_found C true m to from = record { is_fault = (to refl, refl); is_least = λ r f. subst (λ (x : Refusal). IsNoLater m x) (sym f.1) (precedes_self m) }
fault_if_found C false m to from = λ r f. let t = from f.0 in cc

pub finds_same : (F G : Refusal → Type 0) (o : Option Refusal) → ((r : Refusal) → F r → G r) → ((r : Refusal) → G r → F r) → IsSearchResult F o → IsSearchResult G o
finds_same F G None to from f = λ r g. f r (from r g)
finds_same F G (Some m) to from f = least_same F G to from m f

-- A loop over a list: at the start, at each element, at the end.
module _ {X : Type 0} (P : List X → X → Refusal → Type 0) (xs : List X) where
  abbrev pub Loop : ℕ → Option Refusal → Type 0
  Loop i o = KeepsLeast (Somewhere P xs) (SomeFrom P (take i xs) (drop i xs)) o

  pub loop_step : (i : ℕ) (x : X) (o m : Option Refusal) → i < length xs → x ≡ get_or xs i x → IsSearchResult (P (take i xs) x) m → Loop i o → Loop (i + 1) (merge o m)
  loop_step i x o m h e f k =
      let d : drop i xs ≡ x ∷ drop (i + 1) xs = rw add-one (drop-cons xs i x h ∙ ap (λ y. y ∷ drop (suc i) xs) (sym e)) in
      let t : take (i + 1) xs ≡ take i xs ++ x ∷ [] = rw add-one (take-suc xs i x h ∙ ap (λ y. take i xs ++ y ∷ []) (sym e)) in
      subst (λ (y : List X). KeepsLeast (Somewhere P xs) (SomeFrom P y (drop (i + 1) xs)) (merge o m)) (sym t)
      (kept_merge (Somewhere P xs) (SomeFrom P (take i xs) (drop i xs)) (P (take i xs) x) (SomeFrom P (take i xs ++ x ∷ []) (drop (i + 1) xs)) o m f
      (λ r g. subst (λ (y : List X). SomeFrom P (take i xs) y r) d g)
      (λ r g. subst (λ (y : List X). SomeFrom P (take i xs) y r) (sym d) (inl g))
      (λ r g. subst (λ (y : List X). SomeFrom P (take i xs) y r) (sym d) (inr g)) k)

  pub loop_end : (i : ℕ) (o : Option Refusal) → length xs ≤ i → Loop i o → IsSearchResult (Somewhere P xs) o
  loop_end i o h k =
      kept_finds (Somewhere P xs) (SomeFrom P (take i xs) (drop i xs)) o
      (λ r g. subst (λ (y : List X). SomeFrom P (take i xs) y r) (drop_of_length-le xs {i = i} h) g) k

pub finds_true : (b : Bool) (m : Refusal) → IsSearchResult (λ r. (b ≡ true) × (r ≡ m)) (fault_if b m)
finds_true b m = fault_if_found (b ≡ true) b m (λ h. h) (λ h. h)

-- The step in the words of a loop's body.
pub loop_more : {X : Type 0} (P : List X → X → Refusal → Type 0) (xs : List X) (i : ℕ) (x : X) (o m o' : Option Refusal) → i < length xs → x ≡ get_or xs i x
    → IsSearchResult (P (take i xs) x) m → o' ≡ merge o m → Loop P xs i o → Loop P xs (i + 1) o'
loop_more P xs i x o m o' h e f q k =
    subst (λ (y : Option Refusal). Loop P xs (i + 1) y) (sym q) (loop_step P xs i x o m h e f k)

pub finds_true_is : (b : Bool) (r : Refusal) (m : Option Refusal) → m ≡ fault_if b r → IsSearchResult (λ s. (b ≡ true) × (s ≡ r)) m
finds_true_is b r m e = subst (IsSearchResult (λ s. (b ≡ true) × (s ≡ r))) (sym e) (finds_true b r)

-- A rule that is judged only where a test says so.
pub finds_if : (F : Refusal → Type 0) (b : Bool) (m : Option Refusal) → (b ≡ true → IsSearchResult F m) → (b ≡ false → m ≡ None) → IsSearchResult (λ s. (b ≡ true) × F s) m
finds_if F true None f n = λ r g. f refl r g.1
finds_if F true (Some m) f n = let l = f refl in record { is_fault = (refl, l.is_fault); is_least = λ r g. l.is_least r g.1 }
finds_if F false None f n = λ r g. let z = g.0 in cc
finds_if F false (Some m) f n = let z = n refl in cc

pub both_are : (F G : Refusal → Type 0) (a b o : Option Refusal) → IsSearchResult F a → IsSearchResult G b → o ≡ merge a b → IsSearchResult (λ r. F r ⊎ G r) o
both_are F G a b o f g e = subst (IsSearchResult (λ r. F r ⊎ G r)) (sym e) (finds_both F G a b f g)
