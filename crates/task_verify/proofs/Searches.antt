-- A search along the ways of a body.
use Rattle.std.proofs.Common.{◌≡◌, ℕ, ◌+◌, ◌<◌, ◌≤◌, Bool, true, false, ◌||◌, ◌⊎◌, inl, inr, List, [], ◌∷◌, ◌++◌, length, get_or, set, cond, Option, Some, None, ◌↔◌, refl, ap, sym, ◌∙◌, subst, arith, ⊎_elim}
use Rattle.std.specs.Prelude.{◌==◌, ◌≢◌, nat_lt, MatchBool}
use Rattle.std.proofs.lemmas.Bool.{cases_eq, cases_lt, or_cases, ltb-true, eqb-true, eq-eqb, true≢false, false≢true, or_left, or_right}
use Rattle.std.proofs.lemmas.List.{get_or-set_same, get_or-set_other, get_or_past, length-set}
use Rattle.std.proofs.lemmas.List.Folds.{list_any-append}
use Rattle.sloth_base.specs.declared.app.Func.{Func}
use Rattle.sloth_base.specs.Named.{item_of, label_of}
use Rattle.code_rules.specs.Code.{is_followed, way, is_in}
use Rattle.task_verify.specs.Ways.{inside_or, next_of, label_place, jump_of, IsReachedItem, first, by_next, by_jump, IsMarked, IsMarkVisit, IsMarking}
use Rattle.task_verify.proofs.Paths.{closed_all}

-- ---- members

joined : (i x : ℕ) (xs : List ℕ) → is_in i (xs ++ x ∷ []) ≡ (is_in i xs || ((x == i) || false))
joined i x xs = list_any-append (λ y. y == i) xs (x ∷ [])

in_front : (i x : ℕ) (xs : List ℕ) → is_in i xs ≡ true → is_in i (xs ++ x ∷ []) ≡ true
in_front i x xs h = joined i x xs ∙ or_left (is_in i xs) ((x == i) || false) h

at_end : (x : ℕ) (xs : List ℕ) → is_in x (xs ++ x ∷ []) ≡ true
at_end x xs = joined x x xs ∙ or_right (is_in x xs) ((x == x) || false) (or_left (x == x) false (eq-eqb x x refl))

front_or_end : (i x : ℕ) (xs : List ℕ) → is_in i (xs ++ x ∷ []) ≡ true → (is_in i xs ≡ true) ⊎ (x ≡ i)
front_or_end i x xs h = ⊎_elim inl
    (λ e. ⊎_elim (λ t. inr (eqb-true x i t)) (λ f. absurd (false≢true f)) (or_cases (x == i) false e))
    (or_cases (is_in i xs) ((x == i) || false) (sym (joined i x xs) ∙ h))

no_member : (i : ℕ) (xs : List ℕ) → length xs ≡ 0 → is_in i xs ≡ true → ⊥
no_member i [] e h = false≢true h
no_member i (x ∷ xs) e h = absurd (omega (arith, e))

-- ---- ways stay inside

inside_in : (f : Func) (place itself : ℕ) → itself < length f.items → inside_or f place itself < length f.items
inside_in f place itself l = by (nat_lt place (length f.items)) refl
  where
    by : (b : Bool) → nat_lt place (length f.items) ≡ b → cond (nat_lt place (length f.items)) place itself < length f.items
    by true e = subst (λ (b : Bool). cond b place itself < length f.items) (sym e) (ltb-true place (length f.items) e)
    by false e = subst (λ (b : Bool). cond b place itself < length f.items) (sym e) l

pub next_inside : (f : Func) (x : ℕ) → x < length f.items → next_of f x < length f.items
next_inside f x l = by (is_followed (item_of f x).op)
  where
    by : (b : Bool) → cond b (inside_or f (x + 1) x) x < length f.items
    by true = inside_in f (x + 1) x l
    by false = l

pub jump_inside : (f : Func) (x : ℕ) → x < length f.items → jump_of f x < length f.items
jump_inside f x l = by (way (item_of f x).op)
  where
    by : (o : Option ℕ) → label_place f o x < length f.items
    by None = l
    by (Some k) = inside_in f (label_of f k).item x l

-- ---- marks

marked_more : (marks : List Bool) (at i : ℕ) → IsMarked marks i → IsMarked (set marks at true) i
marked_more marks at i m = ⊎_elim
    (λ e. subst (λ (x : ℕ). IsMarked (set marks at true) x) (sym e) (get_or-set_same marks at true false (inside (cases_lt i (length marks)) e)))
    (λ n. get_or-set_other marks at i true false n ∙ m)
    (cases_eq i at)
  where
    inside : (i < length marks) ⊎ (length marks ≤ i) → i ≡ at → at < length marks
    inside (inl l) e = subst (λ (x : ℕ). x < length marks) e l
    inside (inr l) e = absurd (true≢false (sym m ∙ get_or_past marks i false l))

-- ---- a search from which item x was taken

pub record Owing (f : Func) (marks : List Bool) (pending : List ℕ) (x : ℕ) : Type 0 where
  pub count : length marks ≡ length f.items
  pub start : IsMarked marks 0
  pub sound : (i : ℕ) → IsMarked marks i → IsReachedItem f i
  pub kept : (i : ℕ) → is_in i pending ≡ true → (i < length f.items) × IsMarked marks i
  pub known : x < length f.items
  pub here : IsMarked marks x
  pub closed : (i : ℕ) → i ≢ x → IsMarked marks i → (is_in i pending ≡ true) ⊎ (IsMarked marks (next_of f i) × IsMarked marks (jump_of f i))

pub taken : (f : Func) (marks : List Bool) (pending rest : List ℕ) (x : ℕ) → pending ≡ rest ++ x ∷ [] → IsMarking f marks pending → Owing f marks rest x
taken f marks pending rest x e s =
    let mine = s.kept x (ap (is_in x) e ∙ at_end x rest) in
    record {
      count = s.count;
      start = s.start;
      sound = s.sound;
      kept = λ i h. s.kept i (ap (is_in i) e ∙ in_front i x rest h);
      known = mine.0;
      here = mine.1;
      closed = λ i n m. ⊎_elim
          (λ h. ⊎_elim inl (λ same. absurd (n (sym same))) (front_or_end i x rest (sym (ap (is_in i) e) ∙ h)))
          inr (s.closed i m);
    }

-- a visit keeps it, and the place is marked
pub record Kept (f : Func) (marks new : List Bool) (pending : List ℕ) (x at : ℕ) : Type 0 where
  pub owing : Owing f new pending x
  pub marked : IsMarked new at
  pub keeps : (i : ℕ) → IsMarked marks i → IsMarked new i

pub visited : (f : Func) (marks new : List Bool) (pending kept : List ℕ) (x at : ℕ) → at < length f.items → IsReachedItem f at → IsMarkVisit marks new pending kept at
    → Owing f marks pending x → Kept f marks new kept x at
visited f marks new pending kept x at l r v o = by (get_or marks at false) refl v
  where
    same : (new ≡ marks) × (kept ≡ pending) → IsMarked marks at → Kept f marks new kept x at
    same e m =
        let P : List Bool → Type 0 = λ ms. Kept f marks ms kept x at in
        let Q : List ℕ → Type 0 = λ ps. Owing f marks ps x in
        subst P (sym e.0) (record { owing = subst Q (sym e.1) o; marked = m; keeps = λ i h. h })

    here : IsMarked (set marks at true) at
    here = let c = o.count in get_or-set_same marks at true false (omega (arith, l, c))

    more : Owing f (set marks at true) (pending ++ at ∷ []) x
    more = record {
      count = length-set marks at true ∙ o.count;
      start = marked_more marks at 0 o.start;
      sound = λ i m. ⊎_elim
          (λ e. subst (IsReachedItem f) (sym e) r)
          (λ n. o.sound i (sym (get_or-set_other marks at i true false n) ∙ m))
          (cases_eq i at);
      kept = λ i h. ⊎_elim
          (λ g. let k = o.kept i g in (k.0, marked_more marks at i k.1))
          (λ e. (subst (λ (y : ℕ). y < length f.items) e l, subst (λ (y : ℕ). IsMarked (set marks at true) y) e here))
          (front_or_end i at pending h);
      known = o.known;
      here = marked_more marks at x o.here;
      closed = λ i n m. ⊎_elim
          (λ e. inl (subst (λ (y : ℕ). is_in y (pending ++ at ∷ []) ≡ true) (sym e) (at_end at pending)))
          (λ ne. ⊎_elim
          (λ h. inl (in_front i at pending h))
          (λ h. inr (marked_more marks at (next_of f i) h.0, marked_more marks at (jump_of f i) h.1))
          (o.closed i n (sym (get_or-set_other marks at i true false ne) ∙ m)))
          (cases_eq i at);
    }

    fresh : (new ≡ set marks at true) × (kept ≡ pending ++ at ∷ []) → Kept f marks new kept x at
    fresh e =
        let P : List Bool → Type 0 = λ ms. Kept f marks ms kept x at in
        let Q : List ℕ → Type 0 = λ ps. Owing f (set marks at true) ps x in
        subst P (sym e.0) (record { owing = subst Q (sym e.1) more; marked = here; keeps = marked_more marks at })

    by : (b : Bool) → get_or marks at false ≡ b → MatchBool b ((new ≡ marks) × (kept ≡ pending)) ((new ≡ set marks at true) × (kept ≡ pending ++ at ∷ []))
        → Kept f marks new kept x at
    by true e w = same w e
    by false e w = fresh w

-- both ways of x are visited
pub gone_on : (f : Func) (marks mid new : List Bool) (pending more kept : List ℕ) (x : ℕ) → next_of f x < length f.items → jump_of f x < length f.items
    → IsMarkVisit marks mid pending more (next_of f x) → IsMarkVisit mid new more kept (jump_of f x) → Owing f marks pending x → IsMarking f new kept
gone_on f marks mid new pending more kept x l m v w o =
    let one = visited f marks mid pending more x (next_of f x) l (by_next x (next_of f x) o.known (o.sound x o.here) refl) v o in
    let p = one.owing in
    let two = visited f mid new more kept x (jump_of f x) m (by_jump x (jump_of f x) p.known (p.sound x p.here) refl) w p in
    let q = two.owing in
    record {
      count = q.count;
      start = q.start;
      sound = q.sound;
      kept = q.kept;
      closed = λ i h. ⊎_elim
          (λ e. inr (subst (λ (y : ℕ). IsMarked new (next_of f y) × IsMarked new (jump_of f y)) (sym e) (two.keeps (next_of f x) one.marked, two.marked)))
          (λ n. q.closed i n h)
          (cases_eq i x);
    }

-- nothing is kept any more
pub ended : (f : Func) (marks : List Bool) (pending : List ℕ) → length pending ≡ 0 → IsMarking f marks pending → (i : ℕ) → IsMarked marks i ↔ IsReachedItem f i
ended f marks pending e s i = (
  s.sound i,
  λ r. closed_all r marks s.start (λ k l m. ⊎_elim (λ h. absurd (no_member k pending e h)) (λ h. h) (s.closed k m)),
)

-- the first item alone is marked and kept
pub begun : (f : Func) (marks new : List Bool) (pending kept : List ℕ) → length marks ≡ length f.items → 0 < length marks
    → ((i : ℕ) → i < length marks → get_or marks i false ≡ false) → pending ≡ [] → IsMarkVisit marks new pending kept 0 → IsMarking f new kept
begun f marks new pending kept count some clear none v = by (get_or marks 0 false) refl v
  where
    clear_all : (i : ℕ) → get_or marks i false ≡ false
    clear_all i = ⊎_elim (λ h. clear i h) (λ h. get_or_past marks i false h) (cases_lt i (length marks))

    only : (i : ℕ) → IsMarked (set marks 0 true) i → i ≡ 0
    only i m = ⊎_elim (λ e. e) (λ n. absurd (false≢true (sym (clear_all i) ∙ (sym (get_or-set_other marks 0 i true false n) ∙ m)))) (cases_eq i 0)

    here : IsMarked (set marks 0 true) 0
    here = get_or-set_same marks 0 true false some

    start : IsMarking f (set marks 0 true) (0 ∷ [])
    start = record {
      count = length-set marks 0 true ∙ count;
      start = here;
      sound = λ i m. subst (IsReachedItem f) (sym (only i m)) first;
      kept = λ i h. ⊎_elim
          (λ g. absurd (false≢true g))
          (λ e. (subst (λ (y : ℕ). y < length f.items) e (subst (λ (n : ℕ). 0 < n) count some), subst (λ (y : ℕ). IsMarked (set marks 0 true) y) e here))
          (front_or_end i 0 [] h);
      closed = λ i m. inl (subst (λ (y : ℕ). is_in y (0 ∷ []) ≡ true) (sym (only i m)) (at_end 0 []));
    }

    by : (b : Bool) → get_or marks 0 false ≡ b → MatchBool b ((new ≡ marks) × (kept ≡ pending)) ((new ≡ set marks 0 true) × (kept ≡ pending ++ 0 ∷ []))
        → IsMarking f new kept
    by true e w = absurd (true≢false (sym e ∙ clear 0 some))
    by false e w =
        let P : List Bool → Type 0 = λ ms. IsMarking f ms kept in
        let Q : List ℕ → Type 0 = λ ps. IsMarking f (set marks 0 true) ps in
        subst P (sym w.0) (subst Q (sym (w.1 ∙ ap (λ ps. ps ++ 0 ∷ []) none)) start)
