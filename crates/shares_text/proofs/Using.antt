-- The uses of a symbol: each is one, and none is left out.
use Rattle.std.proofs.Common.{◌≡◌, ℕ, suc, ◌+◌, ◌<◌, ◌≤◌, ◌⊎◌, inl, inr, Bool, true, false, ◌&&◌, cond, List, [], ◌∷◌, ◌++◌, length, get_or, Some, refl, sym, ap, ◌∙◌, subst, arith}
use Rattle.std.specs.Prelude.{◌==◌}
use Rattle.std.specs.List.{list_any, AllByRecursion}
use Rattle.std.proofs.lemmas.Bool.{false≢true, or_cases, or_left, or_right, and_parts, and_from, eq-eqb, eqb-true, cases_eq}
use Rattle.std.proofs.lemmas.List.Folds.{list_any-append}
use Rattle.std.proofs.lemmas.Option.{same_Some}
use Rattle.sloth_base.specs.declared.config.Config.{Config}
use Rattle.sloth_base.specs.declared.app.App.{App}
use Rattle.sloth_base.specs.declared.app.Op.TheVariants as op
use Rattle.sloth_base.specs.Named.{operation}
use Rattle.code_rules.specs.Code.{is_in}
use Rattle.code_rules.specs.WellFormed.{WellFormed}
use Rattle.osek_scheduler.proofs.Facts.{facts}
use Rattle.osek_blocking.specs.Walks.{Position, place}
use Rattle.osek_blocking.specs.Sections.{held_list_along, priority_at}
use Rattle.shares_text.specs.declared.contexts.Context.{Context}
use Rattle.shares_text.specs.declared.contexts.Contexts.{Contexts}
use Rattle.shares_text.specs.declared.sites.Access.{Access}
use Rattle.shares_text.specs.declared.contexts.Use.{Use}
use Rattle.shares_text.specs.Accesses.{symbol_of, IsCalledFrom, IsUse}
use Rattle.shares_text.specs.Sites.{IsAccess}
use Rattle.shares_text.specs.Contexts.{no_context, through, IsContextOf, IsContext, AreContexts, IsUseOf, AreUses, is_use_at}
use Rattle.shares_text.specs.Tables.{is_access_at, AreAccesses, no_contexts, AreAllContexts}
use Rattle.shares_text.specs.Computed.{use_of, use_in, uses_by, uses_among}
use Rattle.shares_text.proofs.Gathering.{all_append}
use Rattle.shares_text.proofs.Joining.{Through, through_is}
use Rattle.shares_text.proofs.Members.{weaker}

module _ (config : Config) (app : App) (w : WellFormed config app) where
  -- what calls lead to is there
  pub called_known : (t f : ℕ) (outer : Position) → IsCalledFrom app t f outer → f < length app.funcs
  called_known t f [] h = h.0
  called_known t f (caller ∷ outer) h = ((facts config app w).items caller.func caller.item (op.Invoke f) h.0).0

  pub called_declared : (t f : ℕ) (outer : Position) → IsCalledFrom app t f outer → t < length config.tasks
  called_declared t f [] h = (facts config app w).in_range.tasks.declared t f h
  called_declared t f (caller ∷ outer) h = called_declared t caller.func outer h.1

  module _ (y : ℕ) where
    -- a use of the symbol by a task of the configuration
    record Right (u : Use) : Type 0 where
      pub is : IsUseOf config app y u
      pub declared : u.task < length config.tasks

    use_is : (a : Access) (t : ℕ) (c : Context) → IsAccess config app a → IsContext config app t a.func c → c.reached ≡ true → a.symbol ≡ y
        → IsUseOf config app y (use_of a t c)
    use_is a t c is known e symbol = record {
      outer = some.0;
      is = record { called = some.1; inside = is.inside; accesses = is.symbol ∙ ap Some symbol };
      line = is.line;
      stores = is.stores;
      held = λ r few. (
        λ m outer called. (h.held r e few).0 m (place a.func a.item ∷ outer) (outer, called, refl),
        λ all. (h.held r e few).1 (λ way v. ap (λ x. is_in r (held_list_along app x)) v.2 ∙ all v.0 v.1),
      );
      least = record {
        outer = attained.1.0;
        called = attained.1.1;
        is = ap (priority_at config app t) (sym attained.1.2) ∙ attained.2;
        none_less = λ other called. h.none_less e (place a.func a.item ∷ other) (other, called, refl);
      };
    }
      where
        some : (outer : Position) × IsCalledFrom app t a.func outer
        some = known.reached.0 e

        h : IsContextOf config app t (Through config app t a.func a.item (IsCalledFrom app t a.func)) (through c a.held)
        h = through_is config app t a.func a.item a.held (IsCalledFrom app t a.func) c is.held known

        attained : (way : Position) × Through config app t a.func a.item (IsCalledFrom app t a.func) way × (priority_at config app t way ≡ (through c a.held).least)
        attained = h.attained e

    -- the tasks from t on
    record From (t : ℕ) (tasks : List Contexts) : Type 0 where
      pub ends : t + length tasks ≡ length config.tasks
      pub each : (k : ℕ) → k < length tasks → AreContexts config app (t + k) (get_or tasks k no_contexts).table

    from_more : (t : ℕ) (c : Contexts) (tasks : List Contexts) → From t (c ∷ tasks) → From (t + 1) tasks
    from_more t c tasks r = record {
      ends = let e = r.ends in omega (arith, e);
      each = λ k lt.
          let same : t + suc k ≡ (t + 1) + k = omega arith in
          subst (λ n. AreContexts config app n (get_or tasks k no_contexts).table) same (r.each (suc k) (omega (arith, lt)));
    }

    from_here : (t : ℕ) (c : Contexts) (tasks : List Contexts) → From t (c ∷ tasks) → AreContexts config app t c.table
    from_here t c tasks r = let same : t + 0 ≡ t = omega arith in subst (λ n. AreContexts config app n c.table) same (r.each 0 (omega arith))

    from_first : (tasks : List Contexts) → AreAllContexts config app tasks → From 0 tasks
    from_first tasks are = record {
      ends = let n = are.count in omega (arith, n);
      each = λ k lt.
          let same : k ≡ 0 + k = omega arith in
          let n = are.count in
          subst (λ n. AreContexts config app n (get_or tasks k no_contexts).table) same (are.each k (omega (arith, lt, n)));
    }

    module _ (a : Access) (is : IsAccess config app a) (symbol : a.symbol ≡ y) where
      in_context : (t : ℕ) (c : Context) → IsContext config app t a.func c → t < length config.tasks → AllByRecursion Right (use_in a t c)
      in_context t c known lt = by c.reached refl
        where
          by : (b : Bool) → c.reached ≡ b → AllByRecursion Right (cond b (use_of a t c ∷ []) [])
          by true e = (record { is = use_is a t c is known e symbol; declared = lt }, tt)
          by false e = tt

      by_tasks : (t : ℕ) (tasks : List Contexts) → From t tasks → AllByRecursion Right (uses_by a t tasks)
      by_tasks t [] r = tt
      by_tasks t (c ∷ tasks) r =
          all_append Right (use_in a t (get_or c.table a.func no_context)) (uses_by a (t + 1) tasks)
          (in_context t (get_or c.table a.func no_context) (from_here t c tasks r a.func is.known) (let e = r.ends in omega (arith, e)))
          (by_tasks (t + 1) tasks (from_more t c tasks r))

      -- a task that comes there
      module _ (u : ℕ) (outer : Position) (called : IsCalledFrom app u a.func outer) where
        found_in : (c : Context) → IsContext config app u a.func c → list_any (is_use_at u a.func a.item) (use_in a u c) ≡ true
        found_in c known =
            ap (λ b. list_any (is_use_at u a.func a.item) (cond b (use_of a u c ∷ []) [])) (known.reached.1 (outer, called))
            ∙ or_left (is_use_at u a.func a.item (use_of a u c)) false
            (and_from (u == u) ((a.func == a.func) && (a.item == a.item)) (eq-eqb u u refl)
            (and_from (a.func == a.func) (a.item == a.item) (eq-eqb a.func a.func refl) (eq-eqb a.item a.item refl)))

        found_by : (t : ℕ) (tasks : List Contexts) → From t tasks → t ≤ u → u < length config.tasks → list_any (is_use_at u a.func a.item) (uses_by a t tasks) ≡ true
        found_by t [] r le lt = let e = r.ends in absurd (omega (arith, e, le, lt))
        found_by t (c ∷ tasks) r le lt = by (λ h. found_by (t + 1) tasks (from_more t c tasks r) h lt) (cases_eq u t)
          where
            first : List Use
            first = use_in a t (get_or c.table a.func no_context)

            by : (t + 1 ≤ u → list_any (is_use_at u a.func a.item) (uses_by a (t + 1) tasks) ≡ true) → (u ≡ t) ⊎ (u ≡ t → ⊥)
                → list_any (is_use_at u a.func a.item) (first ++ uses_by a (t + 1) tasks) ≡ true
            by later (inl e) =
                list_any-append (is_use_at u a.func a.item) first (uses_by a (t + 1) tasks)
                ∙ or_left (list_any (is_use_at u a.func a.item) first) (list_any (is_use_at u a.func a.item) (uses_by a (t + 1) tasks))
                (ap (λ n. list_any (is_use_at u a.func a.item) (use_in a n (get_or c.table a.func no_context))) (sym e)
                ∙ found_in (get_or c.table a.func no_context)
                (subst (λ n. IsContext config app n a.func (get_or c.table a.func no_context)) (sym e) (from_here t c tasks r a.func is.known)))
            by later (inr n) =
                list_any-append (is_use_at u a.func a.item) first (uses_by a (t + 1) tasks)
                ∙ or_right (list_any (is_use_at u a.func a.item) first) (list_any (is_use_at u a.func a.item) (uses_by a (t + 1) tasks))
                (later (omega (arith, le, n)))

    module _ (tasks : List Contexts) (contexts : AreAllContexts config app tasks) where
      among : (accesses : List Access) → AllByRecursion (IsAccess config app) accesses → AllByRecursion Right (uses_among tasks y accesses)
      among [] h = tt
      among (a ∷ rest) h = all_append Right (cond (a.symbol == y) (uses_by a 0 tasks) []) (uses_among tasks y rest) (by (a.symbol == y) refl) (among rest h.1)
        where
          by : (b : Bool) → (a.symbol == y) ≡ b → AllByRecursion Right (cond b (uses_by a 0 tasks) [])
          by true e = by_tasks a h.0 (eqb-true a.symbol y e) 0 tasks (from_first tasks contexts)
          by false e = tt

      module _ (t f i : ℕ) (outer : Position) (is_use : IsUse app y t (place f i) outer) where
        here : (a : Access) → IsAccess config app a → is_access_at f i a ≡ true
            → list_any (is_use_at t f i) (cond (a.symbol == y) (uses_by a 0 tasks) []) ≡ true
        here a is at =
            let both = and_parts (a.func == f) (a.item == i) at in
            let func = eqb-true a.func f both.0 in
            let item = eqb-true a.item i both.1 in
            let same : operation app a.func a.item ≡ operation app f i = ap (λ x. operation app x a.item) func ∙ ap (operation app f) item in
            let symbol : a.symbol ≡ y = same_Some a.symbol y (sym is.symbol ∙ (ap symbol_of same ∙ is_use.accesses)) in
            let called = subst (λ x. IsCalledFrom app t x outer) (sym func) is_use.called in
            ap (λ b. list_any (is_use_at t f i) (cond b (uses_by a 0 tasks) [])) (eq-eqb a.symbol y symbol)
            ∙ (ap (λ x. list_any (is_use_at t x i) (uses_by a 0 tasks)) (sym func)
            ∙ (ap (λ x. list_any (is_use_at t a.func x) (uses_by a 0 tasks)) (sym item)
            ∙ found_by a is symbol t outer called 0 tasks (from_first tasks contexts) (omega arith) (called_declared t a.func outer called)))

        found : (accesses : List Access) → AllByRecursion (IsAccess config app) accesses → list_any (is_access_at f i) accesses ≡ true
            → list_any (is_use_at t f i) (uses_among tasks y accesses) ≡ true
        found [] h e = absurd (false≢true e)
        found (a ∷ rest) h e = by (λ later. found rest h.1 later) (or_cases (is_access_at f i a) (list_any (is_access_at f i) rest) e)
          where
            first : List Use
            first = cond (a.symbol == y) (uses_by a 0 tasks) []

            by : (list_any (is_access_at f i) rest ≡ true → list_any (is_use_at t f i) (uses_among tasks y rest) ≡ true)
                → (is_access_at f i a ≡ true) ⊎ (list_any (is_access_at f i) rest ≡ true) → list_any (is_use_at t f i) (first ++ uses_among tasks y rest) ≡ true
            by further (inl at) =
                list_any-append (is_use_at t f i) first (uses_among tasks y rest)
                ∙ or_left (list_any (is_use_at t f i) first) (list_any (is_use_at t f i) (uses_among tasks y rest)) (here a h.0 at)
            by further (inr later) =
                list_any-append (is_use_at t f i) first (uses_among tasks y rest)
                ∙ or_right (list_any (is_use_at t f i) first) (list_any (is_use_at t f i) (uses_among tasks y rest)) (further later)

    pub uses_are : (tasks : List Contexts) (accesses : List Access) → AreAllContexts config app tasks → AreAccesses config app accesses
        → AreUses config app y (uses_among tasks y accesses)
    uses_are tasks accesses contexts are =
        let each = among tasks contexts accesses are.each in
        record {
          each = weaker Right (IsUseOf config app y) (uses_among tasks y accesses) (λ u r. r.is) each;
          declared = weaker Right (λ u. u.task < length config.tasks) (uses_among tasks y accesses) (λ u r. r.declared) each;
          all = λ t f i outer is_use.
              found tasks contexts t f i outer is_use accesses are.each (are.all f i y (called_known t f outer is_use.called) is_use.inside is_use.accesses);
        }
