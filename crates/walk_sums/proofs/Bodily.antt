-- What is read of each body of well-formed task code.
use Rattle.std.proofs.Common.{◌≡◌, ℕ, ◌<◌, ◌↔◌, ◌&&◌, ◌⊎◌, inl, inr, not, Bool, true, false, List, length, get_or, set, take, refl, sym, ap, ◌∙◌, subst, arith, ⊎_elim}
use Rattle.std.specs.Prelude.{Decides, ◌+◌}
use Rattle.std.proofs.lemmas.Bool.{cases_eq, and_parts, false≢true}
use Rattle.std.proofs.lemmas.List.{get_or-set_same, get_or-set_other}
use Rattle.sloth_base.specs.declared.config.Config.{Config}
use Rattle.sloth_base.specs.declared.app.App.{App}
use Rattle.sloth_base.specs.declared.app.Op.{Op}
use Rattle.sloth_base.specs.declared.app.Op.TheVariants as op
use Rattle.sloth_base.specs.Named.{function, operation, item_of}
use Rattle.code_rules.specs.Code.{HasCall, is_in}
use Rattle.code_rules.specs.WellFormed.{WellFormed}
use Rattle.osek_scheduler.proofs.Facts.{Facts, facts}
use Rattle.task_verify.specs.Ways.{HasBodyLabel}
use Rattle.task_verify.specs.Labels.{ArePlaced}
use Rattle.task_verify.proofs.Tests.{leads}
use Rattle.walk_sums.specs.Graph.{HasMark, ways_of, AreInside}
use Rattle.walk_sums.specs.CallOrder.{IsCallOrder}
use Rattle.walk_sums.specs.Activations.{ReachesItem, CanReturn}
use Rattle.walk_sums.specs.KnownBodies.{returns_of, is_return, KnowsReturns}
use Rattle.walk_sums.specs.Links.{item_ways}
use Rattle.walk_sums.proofs.Ordering.{member, one_more}
use Rattle.walk_sums.proofs.Counting.{any_is, none_is}
use Rattle.sloth_base.specs.declared.app.Func.{Func}
use Rattle.osek_blocking.specs.Walks.{chains_itself}
use Rattle.walk_sums.specs.declared.graph.Ways.{Ways}
use Rattle.walk_sums.specs.Search.{IsReachable}
use Rattle.walk_sums.proofs.Leading.{inside}
use Rattle.walk_sums.proofs.Reached.{walked}

module _ (config : Config) (app : App) (w : WellFormed config app) where
  pub facts_of : Facts config app
  facts_of = facts config app w

  pub labels_lead : (f i : ℕ) → f < length app.funcs → i < length (function app f).items → HasBodyLabel (function app f) (item_of (function app f) i).op
  labels_lead f i known inside =
      leads config app (function app f) (operation app f i) (facts_of.items f i (operation app f i) (record { known = known; inside = inside; is = refl }))

  pub are_placed : (f : ℕ) → f < length app.funcs → ArePlaced (function app f)
  are_placed f known k lt = facts_of.label_items f k known lt

  -- ---- which functions return

  is_ret : (o : Op) → is_return o ≡ true → o ≡ op.Return
  is_ret op.Return e = refl
  is_ret (op.Invoke g) e = absurd (false≢true e)
  is_ret _ e = absurd (false≢true e)

  -- a reached `ret` is found
  pub returns_is : (f : ℕ) → f < length app.funcs → (marks : List Bool) → ((i : ℕ) → HasMark marks i ↔ ReachesItem app f i)
      → Decides (returns_of (function app f) marks) (CanReturn app f)
  returns_is f known marks m = (sound, complete)
    where
      test : ℕ → Bool
      test i = get_or marks i false && is_return (item_of (function app f) i).op

      sound : returns_of (function app f) marks ≡ true → CanReturn app f
      sound e =
          let s = any_is (length (function app f).items) (λ i. get_or marks i false && is_return (item_of (function app f) i).op) e in
          let both = and_parts (get_or marks s.0 false) (is_return (item_of (function app f) s.0).op) s.2 in
          (s.0, (m s.0).0 both.0, record { known = known; inside = s.1; is = is_ret (operation app f s.0) both.1 })

      complete : CanReturn app f → returns_of (function app f) marks ≡ true
      complete r = by (returns_of (function app f) marks) refl
        where
          yes_and : (a b : Bool) → a ≡ true → b ≡ true → (a && b) ≡ true
          yes_and true b e d = d
          yes_and false b e d = absurd (false≢true e)

          by : (b : Bool) → returns_of (function app f) marks ≡ b → returns_of (function app f) marks ≡ true
          by true e = e
          by false e =
              let none = none_is (length (function app f).items) (λ i. get_or marks i false && is_return (item_of (function app f) i).op) e r.0 r.2.inside in
              absurd (false≢true (sym none ∙ yes_and (get_or marks r.0 false) (is_return (item_of (function app f) r.0).op) ((m r.0).1 r.1) (ap is_return r.2.is)))

module _ (app : App) (order : List ℕ) (o : IsCallOrder app order) (k : ℕ) (lt : k < length order) (returns : List Bool) (count : length returns ≡ length app.funcs)
    (each : (g : ℕ) → is_in g (take k order) ≡ true → Decides (get_or returns g false) (CanReturn app g)) where
  pub number_known : get_or order k 0 < length app.funcs
  number_known = o.inside (get_or order k 0) (member order k lt)

  pub number_inside : get_or order k 0 < length returns
  number_inside = let n = number_known in omega (arith, n, count)

  pub knows_called : KnowsReturns app (get_or order k 0) returns
  knows_called g calls = each g (o.behind k g lt calls)

  -- one more function
  pub knows_more : (b : Bool) → Decides b (CanReturn app (get_or order k 0)) → (g : ℕ) → is_in g (take (k + 1) order) ≡ true
      → Decides (get_or (set returns (get_or order k 0) b) g false) (CanReturn app g)
  knows_more b d g h = by (cases_eq g (get_or order k 0))
    where
      by : (g ≡ get_or order k 0) ⊎ (g ≡ get_or order k 0 → ⊥) → Decides (get_or (set returns (get_or order k 0) b) g false) (CanReturn app g)
      by (inl e) =
          subst (λ v. Decides (get_or (set returns (get_or order k 0) b) v false) (CanReturn app v)) (sym e)
          (subst (λ v. Decides v (CanReturn app (get_or order k 0))) (sym (get_or-set_same returns (get_or order k 0) b false number_inside)) d)
      by (inr n) =
          subst (λ v. Decides v (CanReturn app g)) (sym (get_or-set_other returns (get_or order k 0) g b false n))
          (each g (⊎_elim (λ x. x) (λ e. absurd (n (sym e))) (one_more order k g lt h)))

-- where all are known, so are those that a function calls
pub knows_all : (app : App) (order : List ℕ) → IsCallOrder app order → ((f g : ℕ) → HasCall app f g → g < length app.funcs) → (returns : List Bool)
    → ((g : ℕ) → g < length app.funcs → Decides (get_or returns g false) (CanReturn app g)) → (f : ℕ) → KnowsReturns app f returns
knows_all app order o known returns each f g calls = each g (known f g calls)

-- ---- the items that walks reach

-- the lists of a body's ways, past the functions that return
pub record Linked (func : Func) (returns onward all : List Bool) (ways : List Ways) : Type 0 where
  pub onward_is : (i : ℕ) → i < length func.items → get_or onward i false ≡ not (chains_itself func (item_of func i).op)
  pub all_count : length all ≡ length func.items
  pub all_is : (i : ℕ) → i < length func.items → HasMark all i
  pub ways_count : length ways ≡ length func.items
  pub ways_are : (i : ℕ) → i < length func.items → ways_of ways i ≡ item_ways func returns onward all i

-- they lead to items that are there
pub links_inside : (func : Func) (returns onward all : List Bool) (ways : List Ways) → Linked func returns onward all ways → AreInside ways
links_inside func returns onward all ways l = inside func returns onward all ways l.ways_count l.ways_are l.all_count

module _ (config : Config) (app : App) (well : WellFormed config app) (f : ℕ) (there : f < length app.funcs) (func : Func) (is_func : func ≡ function app f) where
  pub labels_of : (i : ℕ) → i < length func.items → HasBodyLabel func (item_of func i).op
  labels_of = subst (λ g. (i : ℕ) → i < length g.items → HasBodyLabel g (item_of g i).op) (sym is_func) (λ i lt. labels_lead config app well f i there lt)

  pub placed_of : ArePlaced func
  placed_of = subst ArePlaced (sym is_func) (are_placed config app well f there)

  pub some_items : 0 < length func.items
  some_items = subst (λ g. 0 < length g.items) (sym is_func) ((facts_of config app well).has_items f there)

  pub walked_items : (returns onward all : List Bool) (ways : List Ways) → KnowsReturns app f returns → Linked func returns onward all ways
      → (marks : List Bool) → ((i : ℕ) → HasMark marks i ↔ IsReachable ways 0 i) → (i : ℕ) → HasMark marks i ↔ ReachesItem app f i
  walked_items returns onward all ways knows linked marks m =
      let l = subst (λ g. Linked g returns onward all ways) is_func linked in
      walked config app (facts_of config app well) f there returns onward all ways l.ways_count l.ways_are knows l.onward_is l.all_is marks m
