-- The top of a function, from those of the functions that it calls.
use Rattle.std.proofs.Common.{◌≡◌, ℕ, ◌+◌, ◌<◌, ◌≤◌, ◌⊎◌, inl, inr, Bool, true, false, cond, max, List, [], length, get_or, set, take, refl, ap, sym, ◌∙◌, subst, arith, ⊎_elim}
use Rattle.std.proofs.lemmas.Bool.{cases_eq, ne_eqb, false≢true}
use Rattle.std.proofs.lemmas.List.{get_or-set_same, get_or-set_other, length-set, take_all}
use Rattle.sloth_base.specs.declared.config.Config.{Config}
use Rattle.sloth_base.specs.declared.app.App.{App}
use Rattle.sloth_base.specs.declared.app.Op.{Op}
use Rattle.sloth_base.specs.declared.app.Op.TheVariants as op
use Rattle.sloth_base.specs.Named.{function, operation}
use Rattle.code_rules.specs.Code.{IsItem, HasCall, is_in}
use Rattle.osek_scheduler.proofs.Facts.{Facts}
use Rattle.stack_bounds.proofs.Below.{max_below-at, max_below-some}
use Rattle.bound_rules.specs.declared.bound.Body.{Body}
use Rattle.walk_sums.specs.CallOrder.{IsCallOrder}
use Rattle.walk_sums.specs.KnownBodies.{IsKnownBody}
use Rattle.walk_sums.specs.Activations.{ReachesItem, ReachesCall, ceiling_before}
use Rattle.walk_sums.proofs.Reached.{reached_inside}
use Rattle.walk_sums.specs.declared.counted.Counted.{Counted}
use Rattle.walk_sums.specs.declared.counted.Counted.TheVariants as counts
use Rattle.walk_sums.specs.Counted.{is_ending_counted}
use Rattle.run_costs.specs.Tops.{ComesTo, comes_here, comes_called, IsTop, AreTops, under, op_top, item_top, body_top}
use Rattle.run_costs.proofs.Members.{member, one_more}

-- no call counts
no_call : (c : Counted) (g : ℕ) → is_ending_counted c (op.Invoke g) ≡ false
no_call (counts.Activations task) g = refl
no_call (counts.Chains task) g = refl
no_call (counts.Settings task) g = refl
no_call (counts.Waits events) g = refl
no_call counts.Schedules g = refl
no_call (counts.Calls s) g = refl
no_call (counts.CallsFor s object) g = refl

counted_top : (c : Counted) (ceiling : ℕ) (table : List ℕ) (o : Op) → is_ending_counted c o ≡ true → op_top c ceiling table o ≡ ceiling + 1
counted_top c ceiling table (op.Invoke g) e = absurd (false≢true (sym (no_call c g) ∙ e))
counted_top c ceiling table op.Return e = ap (λ b. cond b (ceiling + 1) 0) e
counted_top c ceiling table _ e = ap (λ b. cond b (ceiling + 1) 0) e

under_some : (ceiling top : ℕ) → 0 < top → under ceiling top ≡ max top (ceiling + 1)
under_some ceiling top lt = ap (λ b. cond b 0 (max top (ceiling + 1))) (ne_eqb top 0 (λ e. omega (arith, lt, e)))

module _ (config : Config) (app : App) (w : Facts config app) (c : Counted) (f : ℕ) (known : f < length app.funcs) (body : Body) (is : IsKnownBody config app f body) (table : List ℕ)
    (called : (g : ℕ) → HasCall app f g → IsTop config app c g (get_or table g 0)) where
  abbrev Top : ℕ
  Top = body_top c (function app f) body table

  item_is : (i : ℕ) → ReachesItem app f i → i < length (function app f).items → item_top c (function app f) body table i ≡ op_top c (ceiling_before config app f i) table (operation app f i)
  item_is i r lt =
      ap (λ b. cond b (op_top c (get_or body.ceilings i 0) table (operation app f i)) 0) ((is.reached i).1 r)
      ∙ ap (λ n. op_top c n table (operation app f i)) (is.ceilings i lt)

  at_most : (i : ℕ) → i < length (function app f).items → item_top c (function app f) body table i ≤ Top
  at_most i lt = max_below-at (length (function app f).items) (item_top c (function app f) body table) i lt

  here_above : (i : ℕ) → ReachesItem app f i → is_ending_counted c (operation app f i) ≡ true → ceiling_before config app f i < Top
  here_above i r e =
      let lt = reached_inside config app w f i known r in
      let most = at_most i lt in
      let top = item_is i r lt ∙ counted_top c (ceiling_before config app f i) table (operation app f i) e in
      omega (arith, most, top)

  called_above : (i g ceiling : ℕ) → ReachesCall app f i g → ceiling < get_or table g 0 → max ceiling (ceiling_before config app f i) < Top
  called_above i g ceiling call lt =
      let most = at_most i call.item.inside in
      let top = item_is i call.reached call.item.inside ∙ ap (op_top c (ceiling_before config app f i) table) call.item.is
      ∙ under_some (ceiling_before config app f i) (get_or table g 0) (omega (arith, lt)) in
      omega (arith, most, top, lt)

  above : (g ceiling : ℕ) → ComesTo config app c g ceiling → g ≡ f → ceiling < Top
  above g ceiling (comes_here a i r e) same = subst (λ n. ReachesItem app n i → is_ending_counted c (operation app n i) ≡ true → ceiling_before config app n i < Top) (sym same) (here_above i) r e
  above g ceiling (comes_called a i b low call inner) same =
      subst (λ n. ReachesCall app n i b → max low (ceiling_before config app n i) < Top) (sym same)
      (λ here. called_above i b low here ((called b (i, here.item)).none_above low inner)) call

  -- an item with this top
  abbrev Came : (top : ℕ) → Type 0
  Came top = (ceiling : ℕ) × ComesTo config app c f ceiling × (top ≡ ceiling + 1)

  counted_here : (i : ℕ) → ReachesItem app f i → (b : Bool) → is_ending_counted c (operation app f i) ≡ b → (top : ℕ) → cond b (ceiling_before config app f i + 1) 0 ≡ top → 0 < top → Came top
  counted_here i r true counts top e some = (ceiling_before config app f i, comes_here f i r counts, sym e)
  counted_here i r false counts top e some = absurd (let wrong : ⊥ = omega (arith, e, some) in wrong)

  called_here : (i g : ℕ) → ReachesItem app f i → IsItem app f i (op.Invoke g) → (top : ℕ) → under (ceiling_before config app f i) (get_or table g 0) ≡ top → 0 < top → Came top
  called_here i g r item top e some = by (cases_eq (get_or table g 0) 0)
    where
      by : (get_or table g 0 ≡ 0) ⊎ (get_or table g 0 ≡ 0 → ⊥) → Came top
      by (inl none) =
          let zero : under (ceiling_before config app f i) (get_or table g 0) ≡ 0 = ap (under (ceiling_before config app f i)) none in
          absurd (let wrong : ⊥ = omega (arith, e, zero, some) in wrong)
      by (inr ne) =
          let a = (called g (i, item)).attained (omega (arith, ne)) in
          let u = under_some (ceiling_before config app f i) (get_or table g 0) (omega (arith, ne)) in
          let one = a.2 in
          (max a.0 (ceiling_before config app f i), comes_called f i g a.0 (record { reached = r; item = item }) a.1, omega (arith, e, u, one))

  abbrev Comes : (i : ℕ) (o : Op) → Type 0
  Comes i o = operation app f i ≡ o → (top : ℕ) → op_top c (ceiling_before config app f i) table o ≡ top → 0 < top → Came top

  plain_here : (i : ℕ) → ReachesItem app f i → (o : Op) → operation app f i ≡ o → (top : ℕ) → cond (is_ending_counted c o) (ceiling_before config app f i + 1) 0 ≡ top → 0 < top → Came top
  plain_here i r o same top e some = counted_here i r (is_ending_counted c o) (ap (is_ending_counted c) same) top e some

  from_op : (i : ℕ) → ReachesItem app f i → i < length (function app f).items → (o : Op) → Comes i o
  from_op i r lt (op.Invoke g) same top e some = called_here i g r (record { known = known; inside = lt; is = same }) top e some
  from_op i r lt op.Return same top e some = plain_here i r op.Return same top e some
  from_op i r lt (op.Alu kind rd a b) same top e some = plain_here i r (op.Alu kind rd a b) same top e some
  from_op i r lt (op.AluImm kind rd a n) same top e some = plain_here i r (op.AluImm kind rd a n) same top e some
  from_op i r lt (op.Lui rd n) same top e some = plain_here i r (op.Lui rd n) same top e some
  from_op i r lt (op.Li rd v) same top e some = plain_here i r (op.Li rd v) same top e some
  from_op i r lt (op.FrameLoad rd word) same top e some = plain_here i r (op.FrameLoad rd word) same top e some
  from_op i r lt (op.FrameStore rs word) same top e some = plain_here i r (op.FrameStore rs word) same top e some
  from_op i r lt (op.Load w rd y offset) same top e some = plain_here i r (op.Load w rd y offset) same top e some
  from_op i r lt (op.Store w rs y offset) same top e some = plain_here i r (op.Store w rs y offset) same top e some
  from_op i r lt (op.LoadAt w rd y index mask) same top e some = plain_here i r (op.LoadAt w rd y index mask) same top e some
  from_op i r lt (op.StoreAt w rs y index mask) same top e some = plain_here i r (op.StoreAt w rs y index mask) same top e some
  from_op i r lt (op.Branch kind a b k) same top e some = plain_here i r (op.Branch kind a b k) same top e some
  from_op i r lt (op.Jump k) same top e some = plain_here i r (op.Jump k) same top e some
  from_op i r lt (op.Serve call) same top e some = plain_here i r (op.Serve call) same top e some

  from_item : (i : ℕ) → i < length (function app f).items → (b : Bool) → get_or body.reached i false ≡ b
      → (top : ℕ) → cond b (op_top c (get_or body.ceilings i 0) table (operation app f i)) 0 ≡ top → 0 < top → Came top
  from_item i lt false mark top e some = absurd (let wrong : ⊥ = omega (arith, e, some) in wrong)
  from_item i lt true mark top e some =
      from_op i ((is.reached i).0 mark) lt (operation app f i) refl top (sym (ap (λ n. op_top c n table (operation app f i)) (is.ceilings i lt)) ∙ e) some

  pub is_top : IsTop config app c f Top
  is_top = record {
    none_above = λ ceiling came. above f ceiling came refl;
    attained = λ lt. some lt (max_below-some (length (function app f).items) (item_top c (function app f) body table));
  }
    where
      some : 0 < Top → (Top ≡ 0) ⊎ ((i : ℕ) × (i < length (function app f).items) × (item_top c (function app f) body table i ≡ Top)) → Came Top
      some lt (inl none) = absurd (let wrong : ⊥ = omega (arith, lt, none) in wrong)
      some lt (inr (i, inside, e)) = from_item i inside (get_or body.reached i false) refl Top e lt

-- ---- an order

-- the tops of those functions that are among these
pub record AreTopsOf (config : Config) (app : App) (c : Counted) (funcs table : List ℕ) : Type 0 where
  pub count : length table ≡ length app.funcs
  pub each : (f : ℕ) → is_in f funcs ≡ true → IsTop config app c f (get_or table f 0)

module _ (config : Config) (app : App) (c : Counted) where
  pub none_topped : (table : List ℕ) → length table ≡ length app.funcs → AreTopsOf config app c [] table
  none_topped table count = record { count = count; each = λ f h. absurd (false≢true h) }

  module _ (order : List ℕ) (o : IsCallOrder app order) (table : List ℕ) (k : ℕ) (s : AreTopsOf config app c (take k order) table) (lt : k < length order) where
    pub next_known : get_or order k 0 < length app.funcs
    next_known = o.inside (get_or order k 0) (member order k lt)

    pub next_inside : get_or order k 0 < length table
    next_inside = let n = next_known in let e = s.count in omega (arith, n, e)

    pub called_topped : (g : ℕ) → HasCall app (get_or order k 0) g → IsTop config app c g (get_or table g 0)
    called_topped g calls = s.each g (o.behind k g lt calls)

    pub one_topped : (top : ℕ) → IsTop config app c (get_or order k 0) top → AreTopsOf config app c (take (k + 1) order) (set table (get_or order k 0) top)
    one_topped top is = record {
      count = length-set table x top ∙ s.count;
      each = λ f h. ⊎_elim
          (λ e. subst (λ y. IsTop config app c y (get_or (set table x top) y 0)) (sym e) (subst (IsTop config app c x) (sym here) is))
          (λ n. subst (IsTop config app c f) (sym (get_or-set_other table x f top 0 n))
          (s.each f (⊎_elim (λ g. g) (λ e. absurd (n (sym e))) (one_more order k f lt h))))
          (cases_eq f x);
    }
      where
        x : ℕ
        x = get_or order k 0

        here : get_or (set table x top) x 0 ≡ top
        here = get_or-set_same table x top 0 next_inside

  pub all_topped : (order : List ℕ) → IsCallOrder app order → (table : List ℕ) (k : ℕ) → length order ≤ k → AreTopsOf config app c (take k order) table → AreTops config app c table
  all_topped order o table k le s = record {
    count = s.count;
    each = λ f lt. s.each f (ap (is_in f) (take_all k order le) ∙ o.all f lt);
  }
