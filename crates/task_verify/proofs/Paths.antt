-- What is reached along the ways of a body is what its paths lead to.
use Rattle.std.proofs.Common.{◌≡◌, ℕ, ◌+◌, ◌<◌, ◌≤◌, Bool, true, false, ◌⊎◌, inl, inr, List, [], ◌∷◌, ◌++◌, length, get_or, cond, not, ◌↔◌, Option, Some, None, refl, ap, sym, ◌∙◌, subst, ⊎_elim}
use Rattle.std.specs.Prelude.{nat_lt}
use Rattle.std.proofs.lemmas.Bool.{cases_lt, lt-ltb, true≢false, false≢true, false_from_ne_true, not-true}
use Rattle.std.proofs.lemmas.List.{get_or_past}
use Rattle.sloth_base.specs.declared.app.Func.{Func}
use Rattle.sloth_base.specs.Named.{item_of, label_of, no_item}
use Rattle.std.specs.Bool.{Decides}
use Rattle.code_rules.specs.Code.{is_followed, way, IsPathStep, IsPath}
use Rattle.code_rules.specs.WellFormed.{IsUnreached}
use Rattle.task_verify.specs.Ways.{inside_or, next_of, label_place, jump_of, IsReachedItem, first, by_next, by_jump, IsMarked}

-- a closed set of marks has all that is reached
pub closed_all : {f : Func} {i : ℕ} → IsReachedItem f i → (marks : List Bool) → IsMarked marks 0
    → ((k : ℕ) → k < length f.items → IsMarked marks k → IsMarked marks (next_of f k) × IsMarked marks (jump_of f k)) → IsMarked marks i
closed_all first marks s c = s
closed_all (by_next k j l r e) marks s c = subst (IsMarked marks) e (c k l (closed_all r marks s c)).0
closed_all (by_jump k j l r e) marks s c = subst (IsMarked marks) e (c k l (closed_all r marks s c)).1

pub path_joins : (f : Func) (i j k : ℕ) (between more : List ℕ) → IsPath f i between j → IsPath f j more k → IsPath f i (between ++ more) k
path_joins f i j k [] more a b = subst (λ (x : ℕ). IsPath f x more k) (sym a) b
path_joins f i j k (h ∷ between) more a b = (a.0, path_joins f h j k between more a.1 b)

step_of : (f : Func) (i j k : ℕ) (between : List ℕ) → IsPath f i between j → IsPathStep f j k → (more : List ℕ) × IsPath f i more k
step_of f i j k between path goes = (between ++ k ∷ [], path_joins f i j k between (k ∷ []) path (goes, refl))

stays : (f : Func) (i j k : ℕ) (between : List ℕ) → IsPath f i between j → j ≡ k → (more : List ℕ) × IsPath f i more k
stays f i j k between path e = (between, subst (λ (x : ℕ). IsPath f i between x) e path)

-- the place itself, or a place inside
chosen : (f : Func) (place itself k : ℕ) → inside_or f place itself ≡ k → (place ≡ k) ⊎ (itself ≡ k)
chosen f place itself k e = by (nat_lt place (length f.items)) refl
  where
    by : (b : Bool) → nat_lt place (length f.items) ≡ b → (place ≡ k) ⊎ (itself ≡ k)
    by true g = inl (sym (ap (λ c. cond c place itself) g) ∙ e)
    by false g = inr (sym (ap (λ c. cond c place itself) g) ∙ e)

pub next_goes : (f : Func) (i k : ℕ) → next_of f i ≡ k → IsPathStep f i k ⊎ (i ≡ k)
next_goes f i k e = by (is_followed (item_of f i).op) refl
  where
    by : (b : Bool) → is_followed (item_of f i).op ≡ b → IsPathStep f i k ⊎ (i ≡ k)
    by true g = ⊎_elim (λ a. inl (inl (g, sym a))) inr (chosen f (i + 1) i k (sym (ap (λ c. cond c (inside_or f (i + 1) i) i) g) ∙ e))
    by false g = inr (sym (ap (λ c. cond c (inside_or f (i + 1) i) i) g) ∙ e)

pub jump_goes : (f : Func) (i k : ℕ) → jump_of f i ≡ k → IsPathStep f i k ⊎ (i ≡ k)
jump_goes f i k e = by (way (item_of f i).op) refl
  where
    by : (o : Option ℕ) → way (item_of f i).op ≡ o → IsPathStep f i k ⊎ (i ≡ k)
    by None g = inr (sym (ap (λ o. label_place f o i) g) ∙ e)
    by (Some l) g = ⊎_elim (λ a. inl (inr (l, g, sym a))) inr (chosen f (label_of f l).item i k (sym (ap (λ o. label_place f o i) g) ∙ e))

pub path_of : {f : Func} {i : ℕ} → IsReachedItem f i → (between : List ℕ) × IsPath f 0 between i
path_of first = ([], refl)
path_of {f} {i} (by_next k j l r e) =
    let p = path_of r in ⊎_elim (λ g. step_of f 0 k j p.0 p.1 g) (λ g. stays f 0 k j p.0 p.1 g) (next_goes f k j e)
path_of {f} {i} (by_jump k j l r e) =
    let p = path_of r in ⊎_elim (λ g. step_of f 0 k j p.0 p.1 g) (λ g. stays f 0 k j p.0 p.1 g) (jump_goes f k j e)

-- behind the last item nothing goes on
pub goes_from_inside : (f : Func) (i j : ℕ) → IsPathStep f i j → i < length f.items
goes_from_inside f i j g = ⊎_elim (λ l. l) (λ l. absurd (none l g)) (cases_lt i (length f.items))
  where
    none : length f.items ≤ i → IsPathStep f i j → ⊥
    none l (inl a) = false≢true (sym (ap (λ x. is_followed x.op) (get_or_past f.items i no_item l)) ∙ a.0)
    none l (inr a) = let e : None ≡ Some a.0 = sym (ap (λ x. way x.op) (get_or_past f.items i no_item l)) ∙ a.1 in cc

lands : (f : Func) (place itself : ℕ) → place < length f.items → inside_or f place itself ≡ place
lands f place itself l = ap (λ c. cond c place itself) (lt-ltb place (length f.items) l)

reach_on : (f : Func) (i j : ℕ) → j < length f.items → IsReachedItem f i → IsPathStep f i j → IsReachedItem f j
reach_on f i j l r (inl a) =
    let inside = goes_from_inside f i j (inl a) in
    by_next i j inside r (ap (λ c. cond c (inside_or f (i + 1) i) i) a.0 ∙ subst (λ (x : ℕ). inside_or f x i ≡ j) a.1 (lands f j i l))
reach_on f i j l r (inr a) =
    let inside = goes_from_inside f i j (inr a) in
    by_jump i j inside r (ap (λ o. label_place f o i) a.1 ∙ subst (λ (x : ℕ). inside_or f x i ≡ j) a.2 (lands f j i l))

reached_along : (f : Func) (i j : ℕ) (between : List ℕ) → j < length f.items → IsReachedItem f i → IsPath f i between j → IsReachedItem f j
reached_along f i j [] l r e = subst (IsReachedItem f) e r
reached_along f i j (k ∷ between) l r p = reached_along f k j between l (reach_on f i k (inside between p.1) r p.0) p.1
  where
    inside : (between : List ℕ) → IsPath f k between j → k < length f.items
    inside [] e = subst (λ (x : ℕ). x < length f.items) (sym e) l
    inside (h ∷ more) q = goes_from_inside f k h q.0

pub reached_of : (f : Func) (i : ℕ) (between : List ℕ) → i < length f.items → IsPath f 0 between i → IsReachedItem f i
reached_of f i between l p = reached_along f 0 i between l first p

pub Decides-unreached : (f : Func) (marks : List Bool) (i : ℕ) → i < length f.items → (IsMarked marks i ↔ IsReachedItem f i)
    → Decides (not (get_or marks i false)) (IsUnreached f i)
Decides-unreached f marks i l exact = (
  λ e between path. true≢false (sym (exact.1 (reached_of f i between l path)) ∙ not-true (get_or marks i false) e),
  λ none. ap not (false_from_ne_true (get_or marks i false) (λ m. let p = path_of (exact.0 m) in none p.0 p.1)),
)
