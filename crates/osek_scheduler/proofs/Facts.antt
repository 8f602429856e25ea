-- Where no rule has a fault, the rules hold of each item.
use Rattle.std.proofs.Common.{◌≡◌, ℕ, zero, suc, ◌+◌, ◌<◌, ◌≤◌, ◌==◌, ◌⊎◌, List, [], ◌∷◌, ◌++◌, Bool, true, false, ◌||◌, cond, length, get_or, take, refl, sym, ap, ◌∙◌, subst, arith, inl, inr, Some, None, Option}
use Rattle.std.specs.Prelude.{◌≢◌}
use Rattle.std.proofs.lemmas.Bool.{true≢false, false_from_ne_true, true_from_ne_false, eqb-true, cases_eq, cases_lt}
use Rattle.std.proofs.lemmas.Nat.{le_or_l}
use Rattle.sloth_base.specs.declared.config.Config.{Config}
use Rattle.sloth_base.specs.declared.app.App.{App}
use Rattle.sloth_base.specs.declared.app.Label.{Label}
use Rattle.sloth_base.specs.declared.app.Op.{Op}
use Rattle.sloth_base.specs.declared.app.Op.TheVariants as op
use Rattle.sloth_base.specs.declared.app.Width.{Width}
use Rattle.sloth_base.specs.declared.refusal.Code.{Code}
use Rattle.sloth_base.specs.declared.refusal.Code.TheVariants as code
use Rattle.sloth_base.specs.declared.service.Service.{Service}
use Rattle.sloth_base.specs.declared.service.Service.TheVariants as service
use Rattle.sloth_base.specs.Arithmetic.{size_of}
use Rattle.sloth_base.specs.Named.{function, no_function, declaration, operation, label_of, no_label, no_item, symbol_size}
use Rattle.code_rules.specs.AppRange.{AppInRange, IsBody, IsOp, IsMask, mask_of}
use Rattle.sloth_base.specs.ConfigRange.{no_event, scheduler_number}
use Rattle.code_rules.specs.Code.{IsItem, service_op, IsCallChain, Reaches, TaskReaches, IsPausing, IsEnding, way, IsPathStep, is_in, is_last, mark_at_labels, held_list_at_labels, held_list_fallen_into, is_fallen_into}
use Rattle.code_rules.specs.WellFormed
use Rattle.code_rules.specs.WellFormed.{HasEvents, held_list_before, IsBreach, at_header, at_label, at_item, falling_in, on_cycle}
use Rattle.osek_scheduler.specs.Valid.{MayHold}

-- ---- the facts

-- an item that may go to label k of its function
abbrev pub GoesTo : App → (f i k : ℕ) → Type 0
GoesTo app f i k = IsItem app f i (op.Jump k) ⊎ ((kind : _) × (a : ℕ) × (b : ℕ) × IsItem app f i (op.Branch kind a b k))

-- The labels at place i, in their order: each has the list that is held where it is fallen into, from the label before it at the same place too.
abbrev pub LabelsAgree : ℕ → Bool → List ℕ → List Label → Type 0
LabelsAgree i falls_in held [] = Unit {0}
LabelsAgree i falls_in held (l ∷ labels) =
    (l.item ≡ i → falls_in ≡ true → l.holds ≡ held) × LabelsAgree i ((l.item == i) || falls_in) (cond (l.item == i) l.holds held) labels

-- what the rules say of each item
pub record Facts (config : Config) (app : App) : Type 0 where
  pub in_range : AppInRange config app
  pub items : (f i : ℕ) (o : Op) → IsItem app f i o → IsOp config app (function app f) o
  pub label_items : (f k : ℕ) → f < length app.funcs → k < length (function app f).labels → (label_of (function app f) k).item ≤ length (function app f).items
  pub waits : (f i o m : ℕ) → IsItem app f i (service_op service.WaitEvent o m) → 0 < m
  pub acyclic : (f : ℕ) (between : List ℕ) → ¬ (IsCallChain app f between f)
  pub frame_loads : (f i rd w : ℕ) → IsItem app f i (op.FrameLoad rd w) → w < (function app f).frame_words
  pub frame_stores : (f i rs w : ℕ) → IsItem app f i (op.FrameStore rs w) → w < (function app f).frame_words
  pub loads : (f i rd y offset : ℕ) (w : Width) → IsItem app f i (op.Load w rd y offset) → offset + size_of w ≤ symbol_size app y
  pub stores : (f i rs y offset : ℕ) (w : Width) → IsItem app f i (op.Store w rs y offset) → offset + size_of w ≤ symbol_size app y
  pub masked_loads : (f i rd y index mask : ℕ) (w : Width) → IsItem app f i (op.LoadAt w rd y index mask) → mask + size_of w ≤ symbol_size app y
  pub masked_stores : (f i rs y index mask : ℕ) (w : Width) → IsItem app f i (op.StoreAt w rs y index mask) → mask + size_of w ≤ symbol_size app y
  pub has_items : (f : ℕ) → f < length app.funcs → 0 < length (function app f).items
  pub stays_inside : (f i j : ℕ) → f < length app.funcs → i < length (function app f).items → IsPathStep (function app f) i j → j < length (function app f).items
  pub jumps_agree : (f i k : ℕ) → GoesTo app f i k → (label_of (function app f) k).holds ≡ held_list_before app f i
  pub labels_agree : (f i : ℕ) → f < length app.funcs
      → LabelsAgree i (is_fallen_into (function app f) i) (held_list_fallen_into (function app f) i) (function app f).labels
  pub releases_last : (f i r m : ℕ) → IsItem app f i (service_op service.ReleaseResource r m) → (front : List ℕ) × (held_list_before app f i ≡ front ++ r ∷ [])
  pub takes_new : (f i r m : ℕ) → IsItem app f i (service_op service.GetResource r m) → is_in r (held_list_before app f i) ≡ false
  pub calls_take_new : (f i g h j r m : ℕ) → IsItem app f i (op.Invoke g) → Reaches app g h → IsItem app h j (service_op service.GetResource r m)
      → is_in r (held_list_before app f i) ≡ false
  pub serves_free : (f i o m : ℕ) (s : Service) → IsItem app f i (service_op s o m) → IsEnding s ⊎ IsPausing s → held_list_before app f i ≡ []
  pub returns_free : (f i : ℕ) → IsItem app f i op.Return → held_list_before app f i ≡ []
  pub calls_free : (f i g h j o m : ℕ) (s : Service) → IsItem app f i (op.Invoke g) → Reaches app g h → IsItem app h j (service_op s o m)
      → IsPausing s → held_list_before app f i ≡ []
  pub ends_in_task : (f i o m : ℕ) (s : Service) → IsItem app f i (service_op s o m) → IsEnding s → (t : ℕ) × ((function app f).task ≡ Some t)
  pub returns_in_func : (f i : ℕ) → IsItem app f i op.Return → (function app f).task ≡ None
  pub takes_listed : (t f i r m : ℕ) → TaskReaches app t f → IsItem app f i (service_op service.GetResource r m) → MayHold config t r
  pub waits_own : (t f i o m : ℕ) → TaskReaches app t f → IsItem app f i (service_op service.WaitEvent o m) → HasEvents (declaration config t) m
  pub sets_declared : (f i t m : ℕ) → IsItem app f i (service_op service.SetEvent t m) → HasEvents (declaration config t) m

-- ---- what is not false

stable_list : (xs ys : List ℕ) → ¬ (xs ≢ ys) → xs ≡ ys
stable_list xs ys h = by (cases_list xs ys)
  where
    cases_list : (xs ys : List ℕ) → (xs ≡ ys) ⊎ (xs ≢ ys)
    cases_list [] [] = inl refl
    cases_list [] (y ∷ ys) = inr (λ e. cc)
    cases_list (x ∷ xs) [] = inr (λ e. cc)
    cases_list (x ∷ xs) (y ∷ ys) = both (cases_eq x y) (cases_list xs ys)
      where
        both : (x ≡ y) ⊎ (x ≡ y → ⊥) → (xs ≡ ys) ⊎ (xs ≢ ys) → (x ∷ xs ≡ y ∷ ys) ⊎ (x ∷ xs ≢ y ∷ ys)
        both (inl e) (inl f) = inl (ap (λ a. a ∷ xs) e ∙ ap (λ l. y ∷ l) f)
        both (inr n) f = inr (λ e. n cc)
        both (inl e) (inr n) = inr (λ f. n cc)

    by : (xs ≡ ys) ⊎ (xs ≢ ys) → xs ≡ ys
    by (inl e) = e
    by (inr n) = absurd (h n)

stable_eq : (a b : ℕ) → ¬ (a ≢ b) → a ≡ b
stable_eq a b h = by (cases_eq a b)
  where
    by : (a ≡ b) ⊎ (a ≡ b → ⊥) → a ≡ b
    by (inl e) = e
    by (inr n) = absurd (h n)

stable_below : (a b : ℕ) → ¬ (b ≤ a) → a < b
stable_below a b h = by (cases_lt a b)
  where
    by : (a < b) ⊎ (b ≤ a) → a < b
    by (inl e) = e
    by (inr n) = absurd (h n)

at_most : (a b : ℕ) → ¬ (b < a) → a ≤ b
at_most a b h = by (cases_lt b a)
  where
    by : (b < a) ⊎ (a ≤ b) → a ≤ b
    by (inl e) = absurd (h e)
    by (inr e) = e

some_is : (o : Option ℕ) → ¬ (o ≡ None) → (t : ℕ) × (o ≡ Some t)
some_is None h = absurd (h refl)
some_is (Some t) h = (t, refl)

none_is : (o : Option ℕ) → ¬ ((t : ℕ) × (o ≡ Some t)) → o ≡ None
none_is None h = refl
none_is (Some t) h = absurd (h (t, refl))

front_of : (r : ℕ) (xs : List ℕ) → is_last r xs ≡ true → (front : List ℕ) × (xs ≡ front ++ r ∷ [])
front_of r [] e = absurd (true≢false (sym e))
front_of r (x ∷ []) e = ([], ap (λ y. y ∷ []) (eqb-true x r e))
front_of r (x ∷ y ∷ ys) e = let f = front_of r (y ∷ ys) e in (x ∷ f.0, ap (λ l. x ∷ l) f.1)

-- the labels one by one, and all of them at one place
labels_agree_of : (i : ℕ) (into : Bool) (held : List ℕ) (labels : List Label)
    → ((k : ℕ) → k < length labels → (get_or labels k no_label).item ≡ i → mark_at_labels i (take k labels) into ≡ true
    → (get_or labels k no_label).holds ≡ held_list_at_labels i (take k labels) held)
    → LabelsAgree i into held labels
labels_agree_of i into held [] h = tt
labels_agree_of i into held (l ∷ labels) h = (
  λ at falls. h 0 (omega arith) at falls,
  labels_agree_of i ((l.item == i) || into) (cond (l.item == i) l.holds held) labels (λ k lt at m. h (suc k) (omega (arith, lt)) at m),
)

pub way_of : (app : App) (f i k : ℕ) → GoesTo app f i k → way (operation app f i) ≡ Some k
way_of app f i k (inl is) = ap way is.is
way_of app f i k (inr is) = ap way is.3.is

-- ---- from no fault to the facts

module _ (config : Config) (app : App) (w : WellFormed.WellFormed config app) where
  at : (f i : ℕ) (o : Op) (c : Code) (P : Op → Type 0) → IsItem app f i o → (P (operation app f i) → IsBreach config app f i c) → ¬ (P o)
  at f i o c P is breaks p = w.no_fault _ (f, is.known, at_item i c is.inside (breaks (subst P (sym is.is) p)))

  stable_hold : (t r : ℕ) → ¬ (¬ (MayHold config t r)) → MayHold config t r
  stable_hold t r h = by (cases_eq r 32)
    where
      by : (r ≡ scheduler_number) ⊎ (r ≡ scheduler_number → ⊥) → MayHold config t r
      by (inl e) = inl e
      by (inr n) = inr (true_from_ne_false _ (λ e. h (no_way e)))
        where
          no_way : is_in r (declaration config t).resources ≡ false → ¬ (MayHold config t r)
          no_way e (inl x) = n x
          no_way e (inr x) = true≢false (sym x ∙ e)

  body_of_range : (f : ℕ) → f < length app.funcs → IsBody config app (function app f)
  body_of_range f known = w.in_range.bodies f no_function known

  item_in_range : (f i : ℕ) (o : Op) → IsItem app f i o → IsOp config app (function app f) o
  item_in_range f i o is = subst (IsOp config app (function app f)) is.is ((body_of_range f is.known).items i no_item is.inside)

  some_mask : (mask : ℕ) → IsMask config mask → 0 < mask
  some_mask mask m =
      let first = (w.in_range.configuration.masks m.first no_event (m.declared 0 0 (omega arith))).0 in
      let le = le_or_l (get_or config.events m.first no_event).mask (mask_of config m.more) in
      subst (λ x. 0 < x) (sym m.is) (omega (arith, first, le))

  -- no fault of one kind
  accesses : (f i : ℕ) (o : Op) → IsItem app f i o → ¬ (WellFormed.IsAccessPast app (function app f) o)
  accesses f i o is = at f i o code.V2 (WellFormed.IsAccessPast app (function app f)) is WellFormed.is_access_past

  masks : (f i : ℕ) (o : Op) → IsItem app f i o → ¬ (WellFormed.IsMaskPast app o)
  masks f i o is = at f i o code.V4 (WellFormed.IsMaskPast app) is WellFormed.is_mask_past

  takes : (f i : ℕ) (o : Op) → IsItem app f i o → ¬ (WellFormed.IsSecondTake app (held_list_before app f i) o)
  takes f i o is = at f i o code.V9 (WellFormed.IsSecondTake app (held_list_before app f i)) is WellFormed.is_second_take

  leaves : (f i : ℕ) (o : Op) → IsItem app f i o → ¬ (WellFormed.IsLeaveWithResource app (held_list_before app f i) o)
  leaves f i o is = at f i o code.V10 (WellFormed.IsLeaveWithResource app (held_list_before app f i)) is WellFormed.is_leave_with_resource

  wrongly : (f i : ℕ) (o : Op) → IsItem app f i o → ¬ (WellFormed.IsWrongLeave (function app f) o)
  wrongly f i o is = at f i o code.V11 (WellFormed.IsWrongLeave (function app f)) is WellFormed.is_wrong_leave

  uses : (f i : ℕ) (o : Op) → IsItem app f i o → ¬ (WellFormed.IsUndeclaredUse config app f o)
  uses f i o is = at f i o code.V12 (WellFormed.IsUndeclaredUse config app f) is WellFormed.is_undeclared_use

  place : (f i k : ℕ) → GoesTo app f i k → (f < length app.funcs) × (i < length (function app f).items)
  place f i k (inl j) = (j.known, j.inside)
  place f i k (inr b) = let j = b.3 in (j.known, j.inside)

  some_items : (f : ℕ) → f < length app.funcs → 0 < length (function app f).items
  some_items f known = by (length (function app f).items) (λ e. w.no_fault _ (f, known, at_header e))
    where
      by : (n : ℕ) → ¬ (n ≡ 0) → 0 < n
      by zero h = absurd (h refl)
      by (suc n) h = omega arith

  agrees : (f i k : ℕ) → f < length app.funcs → k < length (function app f).labels → (label_of (function app f) k).item ≡ i
      → mark_at_labels i (take k (function app f).labels) (is_fallen_into (function app f) i) ≡ true
      → (label_of (function app f) k).holds ≡ held_list_at_labels i (take k (function app f).labels) (held_list_fallen_into (function app f) i)
  agrees f i k known lt is into =
      let g = function app f in
      let P : ℕ → Type 0 = λ x. mark_at_labels x (take k g.labels) (is_fallen_into g x) ≡ true in
      let Q : ℕ → Type 0 = λ x. (label_of g k).holds ≡ held_list_at_labels x (take k g.labels) (held_list_fallen_into g x) in
      subst Q is (stable_list _ _ (λ n. w.no_fault _ (f, known, at_label k lt (falling_in (subst P (sym is) into) n))))

  pub facts : Facts config app
  facts = record {
    in_range = w.in_range;
    items = item_in_range;
    label_items = λ f k known lt. ((body_of_range f known).labels k no_label lt).place;
    waits = λ f i o m is. some_mask m (item_in_range f i (service_op service.WaitEvent o m) is).1;
    acyclic = λ f between chain. w.no_cycle _ (on_cycle f between chain);
    frame_loads = λ f i rd n is. stable_below n _ (accesses f i (op.FrameLoad rd n) is);
    frame_stores = λ f i rs n is. stable_below n _ (accesses f i (op.FrameStore rs n) is);
    loads = λ f i rd y offset width is. at_most _ _ (accesses f i (op.Load width rd y offset) is);
    stores = λ f i rs y offset width is. at_most _ _ (accesses f i (op.Store width rs y offset) is);
    masked_loads = λ f i rd y index mask width is. at_most _ _ (λ lt. masks f i (op.LoadAt width rd y index mask) is (inr lt));
    masked_stores = λ f i rs y index mask width is. at_most _ _ (λ lt. masks f i (op.StoreAt width rs y index mask) is (inr lt));
    has_items = some_items;
    stays_inside = λ f i j known inside goes.
        stable_below j _ (λ le. w.no_fault _ (f, known, at_item i code.V5 inside (WellFormed.is_run_out (j, goes, le))));
    jumps_agree = λ f i k goes.
        let p = place f i k goes in
        stable_list _ _ (λ n. w.no_fault _ (f, p.0, at_item i code.V7 p.1 (WellFormed.is_other_list_jump (k, way_of app f i k goes, n))));
    labels_agree = λ f i known. labels_agree_of i _ _ _ (λ k lt is into. agrees f i k known lt is into);
    releases_last = λ f i r m is.
        let o = service_op service.ReleaseResource r m in
        let held = held_list_before app f i in
        front_of r _ (true_from_ne_false _ (λ e. at f i o code.V8 (WellFormed.IsWrongRelease held) is WellFormed.is_wrong_release (refl, e)));
    takes_new = λ f i r m is. false_from_ne_true _ (λ e. takes f i (service_op service.GetResource r m) is (refl, e));
    calls_take_new = λ f i g h j r m is reach there. false_from_ne_true _ (λ e. takes f i (op.Invoke g) is (r, (h, j, m, reach, there), e));
    serves_free = λ f i o m s is kind. stable_list _ [] (λ n. leaves f i (service_op s o m) is (kind, n));
    returns_free = λ f i is. stable_list _ [] (λ n. leaves f i op.Return is n);
    calls_free = λ f i g h j o m s is reach there pauses. stable_list _ [] (λ n. leaves f i (op.Invoke g) is ((h, j, s, o, m, reach, there, pauses), n));
    ends_in_task = λ f i o m s is ends. some_is _ (λ e. wrongly f i (service_op s o m) is (ends, e));
    returns_in_func = λ f i is. none_is _ (wrongly f i op.Return is);
    takes_listed = λ t f i r m reach is.
        stable_hold t r (λ n. uses f i (service_op service.GetResource r m) is (λ e. n (inl e), (t, reach, λ l. n (inr l))));
    waits_own = λ t f i o m reach is. stable_eq _ m (λ n. uses f i (service_op service.WaitEvent o m) is (t, reach, n));
    sets_declared = λ f i t m is. stable_eq _ m (λ n. uses f i (service_op service.SetEvent t m) is n);
  }
