-- What the rules say of all bodies in progress.
use Rattle.std.proofs.Common.{◌≡◌, ℕ, zero, suc, ◌<◌, ◌==◌, ◌⊎◌, List, [], ◌∷◌, ◌++◌, Bool, true, false, ◌||◌, cond, length, get_or, refl, sym, ap, ◌∙◌, subst, arith, inl, inr, Some, None, Option}
use Rattle.std.proofs.lemmas.Bool.{eqb-true, eq-eqb, true≢false, or_from, or_parts, or_cases, or_left, or_right}
use Rattle.sloth_base.specs.declared.config.Config.{Config}
use Rattle.sloth_base.specs.declared.app.App.{App}
use Rattle.sloth_base.specs.declared.app.Func.{Func}
use Rattle.sloth_base.specs.declared.app.Op.TheVariants as op
use Rattle.sloth_base.specs.declared.service.Service.{Service}
use Rattle.sloth_base.specs.declared.service.Service.TheVariants as service
use Rattle.sloth_base.specs.Options.{is_number}
use Rattle.sloth_base.specs.Named.{function, body_of, no_function, IsBodyOf}
use Rattle.osek_scheduler.specs.State.{Frame}
use Rattle.code_rules.specs.Code.{IsItem, service_op, HasCall, Reaches, TaskReaches, IsPausing, is_in, without_last}
use Rattle.osek_scheduler.proofs.Facts.{Facts}
use Rattle.code_rules.specs.WellFormed.{held_list_before}
use Rattle.osek_scheduler.specs.Valid.{IsCalledFrom, held_by, AreDistinct}

-- ---- lists of resources

pub is_in-append : (r : ℕ) (xs ys : List ℕ) → is_in r (xs ++ ys) ≡ (is_in r xs || is_in r ys)
is_in-append r [] ys = refl
is_in-append r (x ∷ xs) ys = ap (λ b. (x == r) || b) (is_in-append r xs ys) ∙ assoc (x == r) (is_in r xs) (is_in r ys)
  where
    assoc : (a b c : Bool) → (a || (b || c)) ≡ ((a || b) || c)
    assoc true b c = refl
    assoc false b c = refl

-- one more
pub distinct-push : (xs : List ℕ) (r : ℕ) → AreDistinct xs → is_in r xs ≡ false → AreDistinct (xs ++ r ∷ [])
distinct-push [] r d n = (refl, tt)
distinct-push (x ∷ xs) r d n =
    let both = or_parts (x == r) (is_in r xs) n in (
      is_in-append x xs (r ∷ []) ∙ or_from _ _ d.0 (or_from _ _ (other (r == x) refl both.0) refl),
      distinct-push xs r d.1 both.1,
    )
  where
    other : (b : Bool) → (r == x) ≡ b → (x == r) ≡ false → (r == x) ≡ false
    other false e f = e
    other true e f = absurd (true≢false (sym (eq-eqb x r (sym (eqb-true r x e))) ∙ f))

-- one less
pub in-without_last : (q : ℕ) (xs : List ℕ) → is_in q (without_last xs) ≡ true → is_in q xs ≡ true
in-without_last q [] h = h
in-without_last q (x ∷ []) h = absurd (true≢false (sym h))
in-without_last q (x ∷ y ∷ ys) h = by (in-without_last q (y ∷ ys)) (or_cases (x == q) _ h)
  where
    by : (is_in q (without_last (y ∷ ys)) ≡ true → is_in q (y ∷ ys) ≡ true) → ((x == q) ≡ true) ⊎ (is_in q (without_last (y ∷ ys)) ≡ true) → is_in q (x ∷ y ∷ ys) ≡ true
    by rest (inl e) = or_left _ _ e
    by rest (inr e) = or_right (x == q) _ (rest e)

pub distinct-without_last : (xs : List ℕ) → AreDistinct xs → AreDistinct (without_last xs)
distinct-without_last [] d = tt
distinct-without_last (x ∷ []) d = tt
distinct-without_last (x ∷ y ∷ ys) d = (by (is_in x (without_last (y ∷ ys))) refl, distinct-without_last (y ∷ ys) d.1)
  where
    by : (b : Bool) → is_in x (without_last (y ∷ ys)) ≡ b → is_in x (without_last (y ∷ ys)) ≡ false
    by false e = e
    by true e = absurd (true≢false (sym (in-without_last x (y ∷ ys) e) ∙ d.0))

pub without_last-push : (xs : List ℕ) (r : ℕ) → without_last (xs ++ r ∷ []) ≡ xs
without_last-push [] r = refl
without_last-push (x ∷ []) r = refl
without_last-push (x ∷ y ∷ ys) r = ap (λ l. x ∷ l) (without_last-push (y ∷ ys) r)

-- ---- chains

pub calls_reach : (app : App) (f g h : ℕ) → HasCall app f g → Reaches app g h → Reaches app f h
calls_reach app f g h calls (inl e) = inr ([], subst (HasCall app f) e calls)
calls_reach app f g h calls (inr chain) = inr (g ∷ chain.0, (calls, chain.1))

-- the body of a task is found
pub body_is : (funcs : List Func) (t f : ℕ) → f < length funcs → (get_or funcs f no_function).task ≡ Some t
    → (body_of funcs t < length funcs) × ((get_or funcs (body_of funcs t) no_function).task ≡ Some t)
body_is [] t f lt is = absurd (omega (arith, lt))
body_is (g ∷ rest) t f lt is = by (λ n. body_is rest t n) (is_number t g.task) refl
  where
    some : (o : Option ℕ) → is_number t o ≡ true → o ≡ Some t
    some None e = absurd (true≢false (sym e))
    some (Some u) e = ap Some (eqb-true u t e)

    later : ((n : ℕ) → n < length rest → (get_or rest n no_function).task ≡ Some t → (body_of rest t < length rest) × ((get_or rest (body_of rest t) no_function).task ≡ Some t))
        → (n : ℕ) → is_number t g.task ≡ false → n < length (g ∷ rest) → (get_or (g ∷ rest) n no_function).task ≡ Some t
        → (body_of rest t < length rest) × ((get_or rest (body_of rest t) no_function).task ≡ Some t)
    later found zero differs l e = absurd (true≢false (sym (ap (is_number t) e ∙ eq-eqb t t refl) ∙ differs))
    later found (suc n) differs l e = found n (omega (arith, l)) e

    by : ((n : ℕ) → n < length rest → (get_or rest n no_function).task ≡ Some t → (body_of rest t < length rest) × ((get_or rest (body_of rest t) no_function).task ≡ Some t))
        → (b : Bool) → is_number t g.task ≡ b
        → (body_of (g ∷ rest) t < length (g ∷ rest)) × ((get_or (g ∷ rest) (body_of (g ∷ rest) t) no_function).task ≡ Some t)
    by found true h =
        let P : Bool → Type 0 = λ c. (cond c 0 (suc (body_of rest t)) < length (g ∷ rest)) × ((get_or (g ∷ rest) (cond c 0 (suc (body_of rest t))) no_function).task ≡ Some t) in
        subst P (sym h) (omega arith, some g.task h)
    by found false h =
        let P : Bool → Type 0 = λ c. (cond c 0 (suc (body_of rest t)) < length (g ∷ rest)) × ((get_or (g ∷ rest) (cond c 0 (suc (body_of rest t))) no_function).task ≡ Some t) in
        let r = later found f h lt is in
        subst P (sym h) (omega (arith, r.0), r.1)

module _ (config : Config) (app : App) (w : Facts config app) (t : ℕ) where
  pub has_body : t < length config.tasks → IsBodyOf app t (body_of app.funcs t)
  has_body declared = let b = w.in_range.tasks.body t declared in body_is app.funcs t b.0 b.1.0 b.1.1

  -- the task reaches what its innermost function reaches
  pub stack_reaches : (f h : ℕ) (outer : List Frame) → IsCalledFrom app t f outer → Reaches app f h → Reaches app (body_of app.funcs t) h
  stack_reaches f h [] called r = subst (λ x. Reaches app x h) called r
  stack_reaches f h (caller ∷ outer) called r =
      stack_reaches caller.func h outer called.2 (calls_reach app caller.func f h (caller.item, called.1) r)

  pub task_reaches : (f : ℕ) (outer : List Frame) → t < length config.tasks → IsCalledFrom app t f outer → TaskReaches app t f
  task_reaches f outer declared called = (body_of app.funcs t, has_body declared, stack_reaches f f outer called (inl refl))

  -- where the innermost function waits, the outer ones hold nothing
  pub outer_free : (f h j o m : ℕ) (s : Service) (outer : List Frame) → IsCalledFrom app t f outer → Reaches app f h → IsItem app h j (service_op s o m)
      → IsPausing s → held_by app outer ≡ []
  outer_free f h j o m s [] called r at leaves = refl
  outer_free f h j o m s (caller ∷ outer) called r at leaves =
      ap (λ l. l ++ held_list_before app caller.func caller.item)
      (outer_free caller.func h j o m s outer called.2 (calls_reach app caller.func f h (caller.item, called.1) r) at leaves)
      ∙ w.calls_free caller.func caller.item f h j o m s called.1 r at leaves

  -- what the innermost function takes, no outer one holds
  pub outer_new : (f h j r m : ℕ) (outer : List Frame) → IsCalledFrom app t f outer → Reaches app f h → IsItem app h j (service_op service.GetResource r m)
      → is_in r (held_by app outer) ≡ false
  outer_new f h j r m [] called reach at = refl
  outer_new f h j r m (caller ∷ outer) called reach at =
      is_in-append r (held_by app outer) (held_list_before app caller.func caller.item)
      ∙ or_from _ _ (outer_new caller.func h j r m outer called.2 (calls_reach app caller.func f h (caller.item, called.1) reach) at)
      (w.calls_take_new caller.func caller.item f h j r m called.1 reach at)

  -- only the outermost function is a task's body
  pub in_body_alone : (f : ℕ) (outer : List Frame) → IsCalledFrom app t f outer → (u : ℕ) → (function app f).task ≡ Some u → outer ≡ []
  in_body_alone f [] called u e = refl
  in_body_alone f (caller ∷ outer) called u e =
      let none = (w.items caller.func caller.item (op.Invoke f) called.1).1 in absurd (clash (function app f).task e none)
    where
      clash : (o : Option ℕ) → o ≡ Some u → o ≡ None → ⊥
      clash None e n = absurd cc
      clash (Some v) e n = absurd cc
