-- The contexts of a task, by calls of which those of callers stand first.
use Rattle.std.proofs.Common.{◌≡◌, ℕ, zero, suc, ◌<◌, ◌≤◌, ◌⊎◌, inl, inr, true, false, ◌||◌, List, [], ◌∷◌, ◌++◌, length, get_or, set, replicate, refl, sym, ap, ◌∙◌, subst, arith}
use Rattle.std.specs.Prelude.{◌≢◌, ◌==◌}
use Rattle.std.specs.List.{list_any, AllByRecursion}
use Rattle.std.proofs.lemmas.Bool.{false≢true, cases_eq, or_cases, or_left, or_right, and_parts, and_from, eqb-true, eq-eqb}
use Rattle.std.proofs.lemmas.List.{get_or-set_same, get_or-set_other, length-set, append_assoc, append-nil, get_or-replicate, length-replicate}
use Rattle.std.proofs.lemmas.List.Folds.{list_any-append}
use Rattle.sloth_base.specs.declared.config.Config.{Config}
use Rattle.sloth_base.specs.declared.app.App.{App}
use Rattle.sloth_base.specs.declared.app.Func.{Func}
use Rattle.sloth_base.specs.declared.app.Op.TheVariants as op
use Rattle.sloth_base.specs.Named.{IsBodyOf, body_of}
use Rattle.code_rules.specs.Code.{IsItem}
use Rattle.code_rules.specs.WellFormed.{WellFormed}
use Rattle.osek_scheduler.proofs.Facts.{facts}
use Rattle.osek_scheduler.proofs.Stacks.{has_body}
use Rattle.osek_blocking.specs.Walks.{Place, Position, place}
use Rattle.osek_blocking.specs.Sections.{priority_at}
use Rattle.call_graph.proofs.Sets.{has_none}
use Rattle.shares_text.specs.declared.contexts.Context.{Context}
use Rattle.shares_text.specs.declared.sites.CallSite.{CallSite}
use Rattle.shares_text.specs.Accesses.{IsCalledFrom}
use Rattle.shares_text.specs.Sites.{IsCallSite}
use Rattle.shares_text.specs.Contexts.{no_call, no_context, start_context, through, joined, spread, spread_all, IsContextOf, AreContexts}
use Rattle.shares_text.specs.Tables.{is_call_at, HasCallSite, AreDescending, AreCalls}
use Rattle.shares_text.proofs.Joining.{same_ways, no_ways, Through, through_is, Either, joined_is}

-- ---- calls of a list with one more

one_more : (done : List CallSite) (c : CallSite) (f i : ℕ) → list_any (is_call_at f i) (done ++ c ∷ []) ≡ (list_any (is_call_at f i) done || (is_call_at f i c || false))
one_more done c f i = list_any-append (is_call_at f i) done (c ∷ [])

more_site : (done : List CallSite) (c : CallSite) (f i : ℕ) → HasCallSite done f i → HasCallSite (done ++ c ∷ []) f i
more_site done c f i h = one_more done c f i ∙ or_left (list_any (is_call_at f i) done) (is_call_at f i c || false) h

last_site : (done : List CallSite) (c : CallSite) → HasCallSite (done ++ c ∷ []) c.caller c.item
last_site done c =
    one_more done c c.caller c.item
    ∙ or_right (list_any (is_call_at c.caller c.item) done) (is_call_at c.caller c.item c || false)
    (or_left (is_call_at c.caller c.item c) false (and_from (c.caller == c.caller) (c.item == c.item) (eq-eqb c.caller c.caller refl) (eq-eqb c.item c.item refl)))

site_cases : (done : List CallSite) (c : CallSite) (f i : ℕ) → HasCallSite (done ++ c ∷ []) f i → HasCallSite done f i ⊎ ((c.caller ≡ f) × (c.item ≡ i))
site_cases done c f i h = by (or_cases (list_any (is_call_at f i) done) (is_call_at f i c || false) (sym (one_more done c f i) ∙ h))
  where
    last : (is_call_at f i c ≡ true) ⊎ (false ≡ true) → (c.caller ≡ f) × (c.item ≡ i)
    last (inl e) = let both = and_parts (c.caller == f) (c.item == i) e in (eqb-true c.caller f both.0, eqb-true c.item i both.1)
    last (inr e) = absurd (false≢true e)

    by : (list_any (is_call_at f i) done ≡ true) ⊎ ((is_call_at f i c || false) ≡ true) → HasCallSite done f i ⊎ ((c.caller ≡ f) × (c.item ≡ i))
    by (inl e) = inl e
    by (inr e) = inr (last (or_cases (is_call_at f i c) false e))

module _ (config : Config) (app : App) (t : ℕ) where
  -- a way of calls into function f, by these calls alone
  abbrev By : List CallSite → ℕ → Position → Type 0
  By calls f [] = IsCalledFrom app t f []
  By calls f (caller ∷ outer) = IsItem app caller.func caller.item (op.Invoke f) × HasCallSite calls caller.func caller.item × By calls caller.func outer

  -- more calls, more ways
  more_ways : (done : List CallSite) (c : CallSite) (f : ℕ) (outer : Position) → By done f outer → By (done ++ c ∷ []) f outer
  more_ways done c f [] h = h
  more_ways done c f (caller ∷ outer) h = (h.0, more_site done c caller.func caller.item h.1, more_ways done c caller.func outer h.2)

  -- no call of these is in the function that the further one calls, which is not its own
  record Follows (done : List CallSite) (c : CallSite) : Type 0 where
    pub is : IsCallSite config app c
    pub others : (f i : ℕ) → HasCallSite done f i → f ≢ c.callee
    pub itself : c.caller ≢ c.callee

  module _ (done : List CallSite) (c : CallSite) (next : Follows done c) where
    -- ways into other functions are as they were
    old_ways : (f : ℕ) → f ≢ c.callee → (outer : Position) → By (done ++ c ∷ []) f outer → By done f outer
    old_ways f n [] h = h
    old_ways f n (caller ∷ outer) h =
        by (λ m. old_ways caller.func m outer h.2) (site_cases done c caller.func caller.item h.1)
      where
        callee_is : (g : ℕ) → IsItem app caller.func caller.item (op.Invoke f) → IsItem app caller.func caller.item (op.Invoke g) → f ≡ g
        callee_is g one other = let both : op.Invoke f ≡ op.Invoke g = sym one.is ∙ other.is in cc

        by : (caller.func ≢ c.callee → By done caller.func outer) → HasCallSite done caller.func caller.item ⊎ ((c.caller ≡ caller.func) × (c.item ≡ caller.item))
            → By done f (caller ∷ outer)
        by before (inl s) = (h.0, s, before (next.others caller.func caller.item s))
        by before (inr e) =
            let moved = subst (λ x. IsItem app x c.item (op.Invoke c.callee)) e.0 next.is.is in
            absurd (n (callee_is c.callee h.0 (subst (λ x. IsItem app caller.func x (op.Invoke c.callee)) e.1 moved)))

    -- ways into the function that is called are those of before, and those through the call
    new_ways : (outer : Position) → By (done ++ c ∷ []) c.callee outer → Either config app t (By done c.callee) (Through config app t c.caller c.item (By done c.caller)) outer
    new_ways [] h = inl h
    new_ways (caller ∷ outer) h = by (site_cases done c caller.func caller.item h.1)
      where
        by : HasCallSite done caller.func caller.item ⊎ ((c.caller ≡ caller.func) × (c.item ≡ caller.item))
            → Either config app t (By done c.callee) (Through config app t c.caller c.item (By done c.caller)) (caller ∷ outer)
        by (inl s) = inl (h.0, s, old_ways caller.func (next.others caller.func caller.item s) outer h.2)
        by (inr e) =
            let here : caller ≡ place c.caller c.item = ap (λ x. place x caller.item) (sym e.0) ∙ ap (λ x. place c.caller x) (sym e.1) in
            let inner = subst (λ x. By (done ++ c ∷ []) x outer) (sym e.0) h.2 in
            inr (outer, old_ways c.caller next.itself outer inner, ap (λ (p : Place). p ∷ outer) here)

    joined_ways : (outer : Position) → Either config app t (By done c.callee) (Through config app t c.caller c.item (By done c.caller)) outer → By (done ++ c ∷ []) c.callee outer
    joined_ways outer (inl h) = more_ways done c c.callee outer h
    joined_ways outer (inr w) =
        subst (By (done ++ c ∷ []) c.callee) (sym w.2) (next.is.is, last_site done c, more_ways done c c.caller w.0 w.1)

  -- the table has the contexts by these calls
  record Has (calls : List CallSite) (table : List Context) : Type 0 where
    pub count : length table ≡ length app.funcs
    pub each : (f : ℕ) → f < length app.funcs → IsContextOf config app t (By calls f) (get_or table f no_context)

  spread_has : (done : List CallSite) (c : CallSite) (table : List Context) → Follows done c → c.callee < length app.funcs → Has done table
      → Has (done ++ c ∷ []) (spread table c)
  spread_has done c table next known h = record { count = length-set table c.callee _ ∙ h.count; each = λ f lt. by f lt (cases_eq f c.callee) }
    where
      from : Context
      from = through (get_or table c.caller no_context) c.held

      new : Context
      new = joined (get_or table c.callee no_context) from

      inside : c.callee < length table
      inside = let n = h.count in omega (arith, known, n)

      of_callee : IsContextOf config app t (By (done ++ c ∷ []) c.callee) new
      of_callee =
          same_ways config app t (Either config app t (By done c.callee) (Through config app t c.caller c.item (By done c.caller))) (By (done ++ c ∷ []) c.callee) new
          (joined_ways done c next) (new_ways done c next)
          (joined_is config app t (By done c.callee) (Through config app t c.caller c.item (By done c.caller)) (get_or table c.callee no_context) from (h.each c.callee known)
          (through_is config app t c.caller c.item c.held (By done c.caller) (get_or table c.caller no_context) next.is.held
          (h.each c.caller next.is.is.known)))

      by : (f : ℕ) → f < length app.funcs → (f ≡ c.callee) ⊎ (f ≡ c.callee → ⊥)
          → IsContextOf config app t (By (done ++ c ∷ []) f) (get_or (spread table c) f no_context)
      by f lt (inl e) =
          let here = subst (IsContextOf config app t (By (done ++ c ∷ []) c.callee)) (sym (get_or-set_same table c.callee new no_context inside)) of_callee in
          let P : ℕ → Type 0 = λ x. IsContextOf config app t (By (done ++ c ∷ []) x) (get_or (spread table c) x no_context) in
          subst P (sym e) here
      by f lt (inr n) =
          subst (IsContextOf config app t (By (done ++ c ∷ []) f)) (sym (get_or-set_other table c.callee f new no_context n))
          (same_ways config app t (By done f) (By (done ++ c ∷ []) f) (get_or table f no_context) (more_ways done c f) (old_ways done c next f n) (h.each f lt))

  -- ---- all calls

  module _ (w : WellFormed config app) (rank : ℕ → ℕ) (falls : (f i g : ℕ) → IsItem app f i (op.Invoke g) → rank g < rank f) where
    known : (c : CallSite) → IsCallSite config app c → c.callee < length app.funcs
    known c is = ((facts config app w).items c.caller c.item (op.Invoke c.callee) is.is).0

    follows : (done : List CallSite) (c : CallSite) → IsCallSite config app c → ((f i : ℕ) → HasCallSite done f i → rank c.caller ≤ rank f) → Follows done c
    follows done c is above = record {
      is = is;
      others = λ f i s e. let le = above f i s in let lt = falls c.caller c.item c.callee is.is in let same = ap rank e in absurd (omega (arith, le, lt, same));
      itself = λ e. let lt = falls c.caller c.item c.callee is.is in let same = ap rank e in absurd (omega (arith, lt, same));
    }

    spread_all_has : (done rest : List CallSite) (table : List Context) → AllByRecursion (IsCallSite config app) rest
        → ((f i : ℕ) → HasCallSite done f i → AllByRecursion (λ d. rank d.caller ≤ rank f) rest) → AreDescending rank rest → Has done table
        → Has (done ++ rest) (spread_all table rest)
    spread_all_has done [] table each above falling h = subst (λ (l : List CallSite). Has l table) (sym (append-nil done)) h
    spread_all_has done (c ∷ rest) table each above falling h =
        subst (λ (l : List CallSite). Has l (spread_all (spread table c) rest)) (append_assoc done (c ∷ []) rest)
        (spread_all_has (done ++ c ∷ []) rest (spread table c) each.1 (λ f i s. further f i (site_cases done c f i s)) falling.1
        (spread_has done c table (follows done c each.0 (λ f i s. (above f i s).0)) (known c each.0) h))
      where
        further : (f i : ℕ) → HasCallSite done f i ⊎ ((c.caller ≡ f) × (c.item ≡ i)) → AllByRecursion (λ d. rank d.caller ≤ rank f) rest
        further f i (inl s) = (above f i s).1
        further f i (inr e) = subst (λ x. AllByRecursion (λ d. rank d.caller ≤ rank x) rest) e.0 falling.0

  -- ---- the body

  abbrev start : (priority : ℕ) → List Context
  start priority = set (replicate (length app.funcs) no_context) (body_of app.funcs t) (start_context priority)

  start_has : WellFormed config app → t < length config.tasks → (priority : ℕ) → priority ≡ priority_at config app t [] → Has [] (start priority)
  start_has w declared priority is = record {
    count = length-set (replicate (length app.funcs) no_context) b _ ∙ length-replicate (length app.funcs) no_context;
    each = λ f lt. by f lt (cases_eq f b);
  }
    where
      b : ℕ
      b = body_of app.funcs t

      body : IsBodyOf app t b
      body = has_body config app (facts config app w) t declared

      inside : b < length (replicate (length app.funcs) no_context)
      inside = let lt = body.0 in let n = length-replicate (length app.funcs) no_context in omega (arith, lt, n)

      alone : (outer : Position) → By [] b outer → outer ≡ []
      alone [] h = refl
      alone (caller ∷ outer) h = absurd (false≢true h.1)

      here : IsContextOf config app t (By [] b) (start_context priority)
      here = record {
        reached = (λ e. ([], body), λ h. refl);
        held = λ r e few. (λ m. absurd (false≢true (sym (has_none r) ∙ m)), λ all. absurd (false≢true (all [] body)));
        attained = λ e. ([], body, sym is);
        none_less = λ e outer h. let same = ap (priority_at config app t) (alone outer h) in omega (arith, is, same);
      }

      nowhere : (f : ℕ) → (f ≡ b → ⊥) → (outer : Position) → By [] f outer → ⊥
      nowhere f n [] h = n ((facts config app w).in_range.tasks.one t f b h body)
      nowhere f n (caller ∷ outer) h = false≢true h.1

      by : (f : ℕ) → f < length app.funcs → (f ≡ b) ⊎ (f ≡ b → ⊥) → IsContextOf config app t (By [] f) (get_or (start priority) f no_context)
      by f lt (inl e) =
          let P : ℕ → Type 0 = λ x. IsContextOf config app t (By [] x) (get_or (start priority) x no_context) in
          subst P (sym e)
          (subst (IsContextOf config app t (By [] b)) (sym (get_or-set_same (replicate (length app.funcs) no_context) b (start_context priority) no_context inside)) here)
      by f lt (inr n) =
          subst (IsContextOf config app t (By [] f))
          (sym (get_or-set_other (replicate (length app.funcs) no_context) b f (start_context priority) no_context n ∙ get_or-replicate (length app.funcs) f no_context no_context lt))
          (no_ways config app t (By [] f) (nowhere f n))

  -- ---- all ways

  every_way : (calls : List CallSite) → ((f i g : ℕ) → IsItem app f i (op.Invoke g) → HasCallSite calls f i) → (f : ℕ) (outer : Position)
      → IsCalledFrom app t f outer → By calls f outer
  every_way calls all f [] h = h
  every_way calls all f (caller ∷ outer) h = (h.0, all caller.func caller.item f h.0, every_way calls all caller.func outer h.1)

  some_way : (calls : List CallSite) (f : ℕ) (outer : Position) → By calls f outer → IsCalledFrom app t f outer
  some_way calls f [] h = h
  some_way calls f (caller ∷ outer) h = (h.0, some_way calls caller.func outer h.2)

  pub contexts_are : WellFormed config app → t < length config.tasks → (calls : List CallSite) → AreCalls config app calls
      → (priority : ℕ) → priority ≡ priority_at config app t [] → AreContexts config app t (spread_all (start priority) calls)
  contexts_are w declared calls are priority is f lt =
      let h = spread_all_has w are.rank are.falls [] calls (start priority) are.each (λ f i s. absurd (false≢true s)) are.descending (start_has w declared priority is) in
      same_ways config app t (By calls f) (IsCalledFrom app t f) (get_or (spread_all (start priority) calls) f no_context)
      (some_way calls f) (every_way calls are.all f) (h.each f lt)

-- each call is of a function of the task code
pub callees_known : (config : Config) (app : App) → WellFormed config app → (calls : List CallSite) → AllByRecursion (IsCallSite config app) calls
    → (k : ℕ) → k < length calls → (get_or calls k no_call).callee < length app.funcs
callees_known config app w [] h k lt = absurd (omega (arith, lt))
callees_known config app w (c ∷ calls) h zero lt = ((facts config app w).items c.caller c.item (op.Invoke c.callee) h.0.is).0
callees_known config app w (c ∷ calls) h (suc k) lt = callees_known config app w calls h.1 k (omega (arith, lt))

-- of what is computed
pub contexts_by : (config : Config) (app : App) (t : ℕ) → WellFormed config app → t < length config.tasks → (calls : List CallSite) → AreCalls config app calls
    → (priority : ℕ) → priority ≡ priority_at config app t [] → (funcs : List Func) → funcs ≡ app.funcs → (b : ℕ) → b ≡ body_of funcs t → (table : List Context)
    → table ≡ spread_all (set (replicate (length funcs) no_context) b (start_context priority)) calls → AreContexts config app t table
contexts_by config app t w declared calls are priority is funcs f b body table e =
    let same = body ∙ ap (λ (fs : List Func). body_of fs t) f in
    subst (AreContexts config app t)
    (sym (e ∙ (ap (λ (fs : List Func). spread_all (set (replicate (length fs) no_context) b (start_context priority)) calls) f
    ∙ ap (λ x. spread_all (set (replicate (length app.funcs) no_context) x (start_context priority)) calls) same)))
    (contexts_are config app t w declared calls are priority is)
