-- The first open pair of a list of uses.
use Rattle.std.proofs.Common.{◌≡◌, ℕ, zero, suc, ◌+◌, ◌<◌, ◌≤◌, ◌⊎◌, inl, inr, Bool, true, false, ◌||◌, ◌&&◌, cond, min, List, [], ◌∷◌, length, get_or, Option, Some, None, refl, sym, ap, ◌∙◌, subst, arith}
use Rattle.std.specs.Prelude.{◌==◌, leb}
use Rattle.std.proofs.lemmas.Bool.{false≢true, cases_lt, and_parts, and_from, or_right, eq-eqb, eqb-true, lt-leb}
use Rattle.std.proofs.lemmas.Bool.Decides.{leb_tells}
use Rattle.std.proofs.lemmas.Option.{same_Some, none-some}
use Rattle.sloth_base.specs.declared.config.TaskDecl.{TaskDecl}
use Rattle.sloth_base.specs.Named.{undeclared_task}
use Rattle.shares_text.specs.declared.open_pairs.Firsts.{Firsts}
use Rattle.shares_text.specs.declared.open_pairs.OpenPair.{OpenPair}
use Rattle.shares_text.specs.declared.contexts.Use.{Use}
use Rattle.shares_text.specs.Verdicts.{is_before}
use Rattle.shares_text.specs.Computed.{no_firsts, least_line, firsts_with, firsts_of, AreFirsts, high_line, pair_with, pair_of, first_of, first_pair, first_pairs, IsPairBy, priority_in}
use Rattle.shares_text.proofs.Members.{In}
use Rattle.shares_text.proofs.Orders.{IsNoLater, no_later, earlier, no_later_trans, no_later_self}

-- ---- least lines

-- of the uses that pass and are among these
pub record IsLeastLine (passes : Use → Bool) (P : Use → Type 0) (o : Option ℕ) : Type 0 where
  pub some : (l : ℕ) → o ≡ Some l → (v : Use) × P v × (passes v ≡ true) × (v.line ≡ l)
  pub least : (v : Use) → P v → passes v ≡ true → (l : ℕ) × (o ≡ Some l) × (l ≤ v.line)

line_like : (passes : Use → Bool) (P Q : Use → Type 0) (o : Option ℕ) → ((v : Use) → P v → Q v) → ((v : Use) → Q v → P v) → IsLeastLine passes P o → IsLeastLine passes Q o
line_like passes P Q o to from h = record {
  some = λ l e. let s = h.some l e in (s.0, to s.0 s.1, s.2, s.3);
  least = λ v q t. h.least v (from v q) t;
}

-- one more that passes
line_with : (passes : Use → Bool) (P : Use → Type 0) (o : Option ℕ) (u : Use) → passes u ≡ true → IsLeastLine passes P o
    → IsLeastLine passes (λ v. P v ⊎ (u ≡ v)) (least_line o u.line)
line_with passes P None u t h = record {
  some = λ l e. (u, inr refl, t, same_Some u.line l e);
  least = λ v c p. by v c p;
}
  where
    by : (v : Use) → P v ⊎ (u ≡ v) → passes v ≡ true → (l : ℕ) × (Some u.line ≡ Some l) × (l ≤ v.line)
    by v (inl c) p = let s = h.least v c p in absurd (none-some s.0 s.1)
    by v (inr e) p = let same = ap (λ (x : Use). x.line) e in (u.line, refl, omega (arith, same))
line_with passes P (Some m) u t h = record {
  some = λ l e. found l (same_Some (min u.line m) l e) (cases_lt u.line m);
  least = λ v c p. by v c p;
}
  where
    found : (l : ℕ) → min u.line m ≡ l → (u.line < m) ⊎ (m ≤ u.line) → (v : Use) × (P v ⊎ (u ≡ v)) × (passes v ≡ true) × (v.line ≡ l)
    found l e (inl lt) = (u, inr refl, t, omega (arith, e, lt))
    found l e (inr le) = let s = h.some m refl in let at = s.3 in (s.0, inl s.1, s.2, omega (arith, e, le, at))

    by : (v : Use) → P v ⊎ (u ≡ v) → passes v ≡ true → (l : ℕ) × (Some (min u.line m) ≡ Some l) × (l ≤ v.line)
    by v (inl c) p = let s = h.least v c p in let same = same_Some m s.0 s.1 in let le = s.2 in (min u.line m, refl, omega (arith, same, le))
    by v (inr e) p = let same = ap (λ (x : Use). x.line) e in (min u.line m, refl, omega (arith, same))

-- one more that does not
line_past : (passes : Use → Bool) (P : Use → Type 0) (o : Option ℕ) (u : Use) → passes u ≡ false → IsLeastLine passes P o → IsLeastLine passes (λ v. P v ⊎ (u ≡ v)) o
line_past passes P o u t h = record {
  some = λ l e. let s = h.some l e in (s.0, inl s.1, s.2, s.3);
  least = λ v c p. by v c p;
}
  where
    by : (v : Use) → P v ⊎ (u ≡ v) → passes v ≡ true → (l : ℕ) × (o ≡ Some l) × (l ≤ v.line)
    by v (inl c) p = h.least v c p
    by v (inr e) p = absurd (false≢true (sym t ∙ (ap passes e ∙ p)))

module _ (t : ℕ) where
  abbrev pub of_task : Use → Bool
  of_task u = u.task == t

  abbrev pub stores_of_task : Use → Bool
  stores_of_task u = (u.task == t) && u.stores

  pub record AreLeast (P : Use → Type 0) (f : Firsts) : Type 0 where
    pub access : IsLeastLine of_task P f.access
    pub store : IsLeastLine stores_of_task P f.store

  firsts_step : (P : Use → Type 0) (f : Firsts) (u : Use) → AreLeast P f → AreLeast (λ v. P v ⊎ (u ≡ v)) (cond (u.task == t) (firsts_with f u) f)
  firsts_step P f u h = by (u.task == t) refl u.stores refl
    where
      by : (a : Bool) → (u.task == t) ≡ a → (b : Bool) → u.stores ≡ b → AreLeast (λ v. P v ⊎ (u ≡ v)) (cond (u.task == t) (firsts_with f u) f)
      by false e b s =
          subst (λ x. AreLeast (λ v. P v ⊎ (u ≡ v)) (cond x (firsts_with f u) f)) (sym e)
          (record {
            access = line_past of_task P f.access u e h.access;
            store = line_past stores_of_task P f.store u (ap (λ x. x && u.stores) e) h.store;
          })
      by true e true s =
          subst (λ x. AreLeast (λ v. P v ⊎ (u ≡ v)) (cond x (firsts_with f u) f)) (sym e)
          (record {
            access = line_with of_task P f.access u e h.access;
            store =
                subst (λ x. IsLeastLine stores_of_task (λ v. P v ⊎ (u ≡ v)) (cond x (least_line f.store u.line) f.store)) (sym s)
                (line_with stores_of_task P f.store u (ap (λ x. x && u.stores) e ∙ s) h.store);
          })
      by true e false s =
          subst (λ x. AreLeast (λ v. P v ⊎ (u ≡ v)) (cond x (firsts_with f u) f)) (sym e)
          (record {
            access = line_with of_task P f.access u e h.access;
            store =
                subst (λ x. IsLeastLine stores_of_task (λ v. P v ⊎ (u ≡ v)) (cond x (least_line f.store u.line) f.store)) (sym s)
                (line_past stores_of_task P f.store u (ap (λ x. x && u.stores) e ∙ s) h.store);
          })

  are_like : (P Q : Use → Type 0) (f : Firsts) → ((v : Use) → P v → Q v) → ((v : Use) → Q v → P v) → AreLeast P f → AreLeast Q f
  are_like P Q f to from h = record {
    access = line_like of_task P Q f.access to from h.access;
    store = line_like stores_of_task P Q f.store to from h.store;
  }

  firsts_go : (uses : List Use) (P : Use → Type 0) (f : Firsts) → AreLeast P f → AreLeast (λ v. P v ⊎ In v uses) (firsts_of t f uses)
  firsts_go [] P f h = are_like P (λ v. P v ⊎ In v []) f (λ v p. inl p) (λ v c. first v c) h
    where
      first : (v : Use) → P v ⊎ In v [] → P v
      first v (inl p) = p
      first v (inr i) = absurd i
  firsts_go (u ∷ uses) P f h =
      are_like (λ v. (P v ⊎ (u ≡ v)) ⊎ In v uses) (λ v. P v ⊎ In v (u ∷ uses)) (firsts_of t (cond (u.task == t) (firsts_with f u) f) uses)
      (λ v c. to v c) (λ v c. from v c)
      (firsts_go uses (λ v. P v ⊎ (u ≡ v)) (cond (u.task == t) (firsts_with f u) f) (firsts_step P f u h))
    where
      to : (v : Use) → (P v ⊎ (u ≡ v)) ⊎ In v uses → P v ⊎ In v (u ∷ uses)
      to v (inl (inl p)) = inl p
      to v (inl (inr e)) = inr (inl e)
      to v (inr i) = inr (inr i)

      from : (v : Use) → P v ⊎ In v (u ∷ uses) → (P v ⊎ (u ≡ v)) ⊎ In v uses
      from v (inl p) = inl (inl p)
      from v (inr (inl e)) = inl (inr e)
      from v (inr (inr i)) = inr i

  pub firsts_are : (uses : List Use) → AreLeast (λ v. In v uses) (firsts_of t no_firsts uses)
  firsts_are uses =
      are_like (λ v. ⊥ ⊎ In v uses) (λ v. In v uses) (firsts_of t no_firsts uses) (λ v c. last v c) (λ v i. inr i) (firsts_go uses (λ v. ⊥) no_firsts nothing)
    where
      nothing : AreLeast (λ v. ⊥) no_firsts
      nothing = record {
        access = record { some = λ l e. absurd (none-some l e); least = λ v i p. absurd i };
        store = record { some = λ l e. absurd (none-some l e); least = λ v i p. absurd i };
      }

      last : (v : Use) → ⊥ ⊎ In v uses → In v uses
      last v (inl e) = absurd e
      last v (inr i) = i

-- ---- the first of candidates

record IsFirst (Q : OpenPair → Type 0) (o : Option OpenPair) : Type 0 where
  pub some : (p : OpenPair) → o ≡ Some p → Q p
  pub first : (q : OpenPair) → Q q → (p : OpenPair) × (o ≡ Some p) × IsNoLater p q

first_like : (P Q : OpenPair → Type 0) (o : Option OpenPair) → ((p : OpenPair) → P p → Q p) → ((p : OpenPair) → Q p → P p) → IsFirst P o → IsFirst Q o
first_like P Q o to from h = record { some = λ p e. to p (h.some p e); first = λ q c. h.first q (from q c) }

first_with : (P : OpenPair → Type 0) (o more : Option OpenPair) → IsFirst P o → IsFirst (λ q. P q ⊎ (more ≡ Some q)) (first_of o more)
first_with P None more h = record {
  some = λ p e. inr e;
  first = λ q c. by q c;
}
  where
    by : (q : OpenPair) → P q ⊎ (more ≡ Some q) → (p : OpenPair) × (more ≡ Some p) × IsNoLater p q
    by q (inl c) = let s = h.first q c in absurd (none-some s.0 s.1)
    by q (inr e) = (q, e, no_later_self q)
first_with P (Some x) None h = record {
  some = λ p e. inl (h.some p e);
  first = λ q c. by q c;
}
  where
    by : (q : OpenPair) → P q ⊎ (None ≡ Some q) → (p : OpenPair) × (Some x ≡ Some p) × IsNoLater p q
    by q (inl c) = h.first q c
    by q (inr e) = absurd (none-some q e)
first_with P (Some x) (Some z) h = by (is_before z x) refl
  where
    by : (b : Bool) → is_before z x ≡ b → IsFirst (λ q. P q ⊎ (Some z ≡ Some q)) (first_of (Some x) (Some z))
    by true e =
        subst (λ b. IsFirst (λ q. P q ⊎ (Some z ≡ Some q)) (cond b (Some z) (Some x))) (sym e)
        (record { some = λ p s. inr s; first = λ q c. at q c })
      where
        at : (q : OpenPair) → P q ⊎ (Some z ≡ Some q) → (p : OpenPair) × (Some z ≡ Some p) × IsNoLater p q
        at q (inl c) =
            let s = h.first q c in
            (z, refl, no_later_trans z x q (earlier z x e) (subst (λ y. IsNoLater y q) (sym (same_Some x s.0 s.1)) s.2))
        at q (inr s) = (z, refl, subst (IsNoLater z) (same_Some z q s) (no_later_self z))
    by false e =
        subst (λ b. IsFirst (λ q. P q ⊎ (Some z ≡ Some q)) (cond b (Some z) (Some x))) (sym e)
        (record { some = λ p s. inl (h.some p s); first = λ q c. at q c })
      where
        at : (q : OpenPair) → P q ⊎ (Some z ≡ Some q) → (p : OpenPair) × (Some x ≡ Some p) × IsNoLater p q
        at q (inl c) = h.first q c
        at q (inr s) = (x, refl, subst (IsNoLater x) (same_Some z q s) (no_later x z e))

-- ---- over all tasks and uses

module _ (tasks : List TaskDecl) (firsts : List Firsts) where
  -- the pair of this use with one of the tasks, which are counted from n on
  abbrev WithOne : Use → (n : ℕ) → List TaskDecl → OpenPair → Type 0
  WithOne u n ds q = (k : ℕ) × (k < length ds) × (pair_of u (n + k) (get_or ds k undeclared_task).priority (get_or firsts (n + k) no_firsts) ≡ Some q)

  pair_go : (ds : List TaskDecl) (u : Use) (n : ℕ) (P : OpenPair → Type 0) (found : Option OpenPair) → IsFirst P found
      → IsFirst (λ q. P q ⊎ WithOne u n ds q) (first_pair firsts u n found ds)
  pair_go [] u n P found h = first_like P (λ q. P q ⊎ WithOne u n [] q) found (λ p c. inl c) (λ p c. first p c) h
    where
      first : (p : OpenPair) → P p ⊎ WithOne u n [] p → P p
      first p (inl c) = c
      first p (inr s) = let lt = s.1 in absurd (omega (arith, lt))
  pair_go (d ∷ ds) u n P found h =
      first_like (λ q. (P q ⊎ (here ≡ Some q)) ⊎ WithOne u (n + 1) ds q) (λ q. P q ⊎ WithOne u n (d ∷ ds) q) (first_pair firsts u (n + 1) (first_of found here) ds)
      (λ q c. to q c) (λ q c. from q c)
      (pair_go ds u (n + 1) (λ q. P q ⊎ (here ≡ Some q)) (first_of found here) (first_with P found here h))
    where
      here : Option OpenPair
      here = pair_of u n d.priority (get_or firsts n no_firsts)

      at : ℕ → ℕ → Option OpenPair
      at m k = pair_of u m (get_or (d ∷ ds) k undeclared_task).priority (get_or firsts m no_firsts)

      to : (q : OpenPair) → (P q ⊎ (here ≡ Some q)) ⊎ WithOne u (n + 1) ds q → P q ⊎ WithOne u n (d ∷ ds) q
      to q (inl (inl c)) = inl c
      to q (inl (inr e)) = let same : n + 0 ≡ n = omega arith in inr (0, omega arith, ap (λ m. at m 0) same ∙ e)
      to q (inr s) =
          let same : n + suc s.0 ≡ (n + 1) + s.0 = omega arith in
          let lt = s.1 in
          inr (suc s.0, omega (arith, lt), ap (λ m. at m (suc s.0)) same ∙ s.2)

      from_place : (q : OpenPair) (k : ℕ) → k < length (d ∷ ds) → at (n + k) k ≡ Some q → (P q ⊎ (here ≡ Some q)) ⊎ WithOne u (n + 1) ds q
      from_place q zero lt e = let same : n ≡ n + 0 = omega arith in inl (inr (ap (λ m. at m 0) same ∙ e))
      from_place q (suc k) lt e = let same : (n + 1) + k ≡ n + suc k = omega arith in inr (k, omega (arith, lt), ap (λ m. at m (suc k)) same ∙ e)

      from : (q : OpenPair) → P q ⊎ WithOne u n (d ∷ ds) q → (P q ⊎ (here ≡ Some q)) ⊎ WithOne u (n + 1) ds q
      from q (inl c) = inl (inl c)
      from q (inr s) = from_place q s.0 s.1 s.2

  -- the pair of one of these uses with one of the tasks
  abbrev Candidate : List Use → OpenPair → Type 0
  Candidate uses q = (u : Use) × In u uses × WithOne u 0 tasks q

  pairs_go : (uses : List Use) (P : OpenPair → Type 0) (found : Option OpenPair) → IsFirst P found → IsFirst (λ q. P q ⊎ Candidate uses q) (first_pairs tasks firsts found uses)
  pairs_go [] P found h = first_like P (λ q. P q ⊎ Candidate [] q) found (λ p c. inl c) (λ p c. first p c) h
    where
      first : (p : OpenPair) → P p ⊎ Candidate [] p → P p
      first p (inl c) = c
      first p (inr s) = absurd s.1
  pairs_go (u ∷ uses) P found h =
      first_like (λ q. (P q ⊎ WithOne u 0 tasks q) ⊎ Candidate uses q) (λ q. P q ⊎ Candidate (u ∷ uses) q) (first_pairs tasks firsts (first_pair firsts u 0 found tasks) uses)
      (λ q c. to q c) (λ q c. from q c)
      (pairs_go uses (λ q. P q ⊎ WithOne u 0 tasks q) (first_pair firsts u 0 found tasks) (pair_go tasks u 0 P found h))
    where
      to : (q : OpenPair) → (P q ⊎ WithOne u 0 tasks q) ⊎ Candidate uses q → P q ⊎ Candidate (u ∷ uses) q
      to q (inl (inl c)) = inl c
      to q (inl (inr s)) = inr (u, inl refl, s)
      to q (inr s) = inr (s.0, inr s.1, s.2)

      from_use : (q : OpenPair) (v : Use) → In v (u ∷ uses) → WithOne v 0 tasks q → (P q ⊎ WithOne u 0 tasks q) ⊎ Candidate uses q
      from_use q v (inl e) s = inl (inr (subst (λ (x : Use). WithOne x 0 tasks q) (sym e) s))
      from_use q v (inr i) s = inr (v, i, s)

      from : (q : OpenPair) → P q ⊎ Candidate (u ∷ uses) q → (P q ⊎ WithOne u 0 tasks q) ⊎ Candidate uses q
      from q (inl c) = inl (inl c)
      from q (inr s) = from_use q s.0 s.1 s.2

-- ---- pairs of uses

-- two uses, of which one stores and the lower one's priority lets the higher one in, as this pair
pub record IsPairOf (tasks : List TaskDecl) (u v : Use) (p : OpenPair) : Type 0 where
  pub lets_in : u.least < priority_in tasks v.task
  pub stores : (u.stores || v.stores) ≡ true
  pub is : p ≡ record { low = u.task; low_line = u.line; high = v.task; high_line = v.line }

abbrev pub HasPair : List TaskDecl → List Use → OpenPair → Type 0
HasPair tasks uses p = (u : Use) × (v : Use) × In u uses × In v uses × IsPairOf tasks u v p

pub record IsFirstPair (tasks : List TaskDecl) (uses : List Use) (found : Option OpenPair) : Type 0 where
  pub some : (p : OpenPair) → found ≡ Some p → HasPair tasks uses p
  pub first : (q : OpenPair) → HasPair tasks uses q → (p : OpenPair) × (found ≡ Some p) × IsNoLater p q

module _ (tasks : List TaskDecl) (uses : List Use) (firsts : List Firsts) (are : AreFirsts uses (length tasks) firsts) where
  least_of : (h : ℕ) → h < length tasks → AreLeast h (λ v. In v uses) (get_or firsts h no_firsts)
  least_of h lt = subst (AreLeast h (λ v. In v uses)) (sym (are.each h lt)) (firsts_are h uses)

  -- the line that is found is that of a use
  line_found : (u : Use) (h l : ℕ) → h < length tasks → high_line (get_or firsts h no_firsts) u.stores ≡ Some l
      → (v : Use) × In v uses × (v.task ≡ h) × (v.line ≡ l) × ((u.stores || v.stores) ≡ true)
  line_found u h l lt e = by u.stores refl
    where
      by : (b : Bool) → u.stores ≡ b → (v : Use) × In v uses × (v.task ≡ h) × (v.line ≡ l) × ((u.stores || v.stores) ≡ true)
      by true s =
          let f = (least_of h lt).access.some l (sym (ap (high_line (get_or firsts h no_firsts)) s) ∙ e) in
          (f.0, f.1, eqb-true f.0.task h f.2, f.3, ap (λ b. b || f.0.stores) s)
      by false s =
          let f = (least_of h lt).store.some l (sym (ap (high_line (get_or firsts h no_firsts)) s) ∙ e) in
          let both = and_parts (f.0.task == h) f.0.stores f.2 in
          (f.0, f.1, eqb-true f.0.task h both.0, f.3, or_right u.stores f.0.stores both.1)

  line_least : (u v : Use) → In v uses → v.task < length tasks → (u.stores || v.stores) ≡ true
      → (l : ℕ) × (high_line (get_or firsts v.task no_firsts) u.stores ≡ Some l) × (l ≤ v.line)
  line_least u v i lt stores = by u.stores refl
    where
      by : (b : Bool) → u.stores ≡ b → (l : ℕ) × (high_line (get_or firsts v.task no_firsts) u.stores ≡ Some l) × (l ≤ v.line)
      by true s =
          let f = (least_of v.task lt).access.least v i (eq-eqb v.task v.task refl) in
          (f.0, ap (high_line (get_or firsts v.task no_firsts)) s ∙ f.1, f.2)
      by false s =
          let other : v.stores ≡ true = sym (ap (λ b. b || v.stores) s) ∙ stores in
          let f = (least_of v.task lt).store.least v i (and_from (v.task == v.task) v.stores (eq-eqb v.task v.task refl) other) in
          (f.0, ap (high_line (get_or firsts v.task no_firsts)) s ∙ f.1, f.2)

  pair_found : (u : Use) (h : ℕ) (p : OpenPair) → In u uses → h < length tasks → pair_of u h (priority_in tasks h) (get_or firsts h no_firsts) ≡ Some p
      → HasPair tasks uses p
  pair_found u h p i lt e = by (leb_tells (priority_in tasks h) u.least)
    where
      with_line : (o : Option ℕ) → high_line (get_or firsts h no_firsts) u.stores ≡ o → pair_with u h o ≡ Some p → u.least < priority_in tasks h → HasPair tasks uses p
      with_line None o f less = absurd (none-some p f)
      with_line (Some l) o f less =
          let s = line_found u h l lt o in
          let is = sym (same_Some _ p f) in (
            u,
            s.0,
            i,
            s.1,
            record {
              lets_in = subst (λ x. u.least < priority_in tasks x) (sym s.2) less;
              stores = s.4;
              is = is ∙ (ap (λ x. record { low = u.task; low_line = u.line; high = x; high_line = l }) (sym s.2)
                  ∙ ap (λ x. record { low = u.task; low_line = u.line; high = s.0.task; high_line = x }) (sym s.3));
            },
          )

      by : ((leb (priority_in tasks h) u.least ≡ true) × (priority_in tasks h ≤ u.least)) ⊎ ((leb (priority_in tasks h) u.least ≡ false) × (u.least < priority_in tasks h))
          → HasPair tasks uses p
      by (inl c) = absurd (none-some p (sym (ap (λ b. cond b None (pair_with u h (high_line (get_or firsts h no_firsts) u.stores))) c.0) ∙ e))
      by (inr c) =
          with_line (high_line (get_or firsts h no_firsts) u.stores) refl
          (sym (ap (λ b. cond b None (pair_with u h (high_line (get_or firsts h no_firsts) u.stores))) c.0) ∙ e) c.1

  pair_least : (u v : Use) (q : OpenPair) → In v uses → v.task < length tasks → IsPairOf tasks u v q
      → (p : OpenPair) × (pair_of u v.task (priority_in tasks v.task) (get_or firsts v.task no_firsts) ≡ Some p) × IsNoLater p q
  pair_least u v q i lt is =
      let s = line_least u v i lt is.stores in
      let less = is.lets_in in (
        record { low = u.task; low_line = u.line; high = v.task; high_line = s.0 },
        ap (λ b. cond b None (pair_with u v.task (high_line (get_or firsts v.task no_firsts) u.stores))) (lt-leb (priority_in tasks v.task) u.least less)
            ∙ ap (pair_with u v.task) s.1,
        subst (IsNoLater (record { low = u.task; low_line = u.line; high = v.task; high_line = s.0 })) (sym is.is) (inr (refl, lines s.0 s.2 (cases_lt s.0 v.line))),
      )
    where
      lines : (l : ℕ) → l ≤ v.line → (l < v.line) ⊎ (v.line ≤ l) → (l < v.line) ⊎ ((l ≡ v.line) × ((u.task < u.task) ⊎ ((u.task ≡ u.task) × (v.task ≤ v.task))))
      lines l le (inl less) = inl less
      lines l le (inr ge) = inr (omega (arith, le, ge), inr (refl, omega arith))

  first_found : ((v : Use) → In v uses → v.task < length tasks) → IsFirstPair tasks uses (first_pairs tasks firsts None uses)
  first_found declared =
      let h = pairs_go tasks firsts uses (λ q. ⊥) None (record { some = λ p e. absurd (none-some p e); first = λ q e. absurd e }) in
      record { some = λ p e. by p (h.some p e); first = λ q s. at q s }
    where
      by : (p : OpenPair) → ⊥ ⊎ Candidate tasks firsts uses p → HasPair tasks uses p
      by p (inl e) = absurd e
      by p (inr s) =
          let same : 0 + s.2.0 ≡ s.2.0 = omega arith in
          pair_found s.0 s.2.0 p s.1 s.2.1
          (ap (λ m. pair_of s.0 m (priority_in tasks s.2.0) (get_or firsts m no_firsts)) (sym same) ∙ s.2.2)

      at : (q : OpenPair) → HasPair tasks uses q → (p : OpenPair) × (first_pairs tasks firsts None uses ≡ Some p) × IsNoLater p q
      at q s =
          let h = pairs_go tasks firsts uses (λ q. ⊥) None (record { some = λ p e. absurd (none-some p e); first = λ q e. absurd e }) in
          let u = s.0 in
          let v = s.1 in
          let lt = declared v s.3 in
          let least = pair_least u v q s.3 lt s.4 in
          let same : 0 + v.task ≡ v.task = omega arith in
          let candidate : WithOne tasks firsts u 0 tasks least.0 = (v.task, lt, ap (λ m. pair_of u m (priority_in tasks v.task) (get_or firsts m no_firsts)) same ∙ least.1) in
          let first = h.first least.0 (inr (u, s.2, candidate)) in
          (first.0, first.1, no_later_trans first.0 least.0 q first.2 least.2)

pub found_is : (tasks : List TaskDecl) (uses : List Use) (found : Option OpenPair) → ((v : Use) → In v uses → v.task < length tasks) → IsPairBy tasks uses found
    → IsFirstPair tasks uses found
found_is tasks uses found declared by =
    subst (IsFirstPair tasks uses) (sym by.2) (first_found tasks uses by.0 by.1 declared)
