-- The weights that count what walks do.
use Rattle.std.proofs.Common.{◌≡◌, ℕ, zero, suc, ◌<◌, ◌≤◌, Bool, true, false, ◌||◌, map, List, [], ◌∷◌, length, get_or, refl, ap, sym, ◌∙◌, subst, arith}
use Rattle.std.proofs.lemmas.Bool.{true≢false}
use Rattle.std.proofs.lemmas.List.{get_or-map, length-map}
use Rattle.sloth_base.specs.declared.app.App.{App}
use Rattle.sloth_base.specs.declared.app.Func.{Func}
use Rattle.sloth_base.specs.declared.app.Item.{Item}
use Rattle.sloth_base.specs.declared.app.Op.{Op}
use Rattle.sloth_base.specs.declared.app.Op.TheVariants as op
use Rattle.sloth_base.specs.Named.{function, operation, no_function, no_item, item_of}
use Rattle.bound_rules.specs.declared.bound.BodyWeights.{BodyWeights}
use Rattle.bound_rules.specs.Weights.{no_weights, going_weight, ending_weight}
use Rattle.walk_sums.specs.Activations.{is_plain}
use Rattle.walk_sums.specs.declared.counted.Counted.{Counted}
use Rattle.walk_sums.specs.declared.counted.Counted.TheVariants as counts
use Rattle.walk_sums.specs.Weights.{AreWeights}
use Rattle.walk_sums.specs.Counted.{CountsEnds, one_if, is_going_counted, is_ending_counted, body_counts, counted_weights}

at_most_one : (b : Bool) → one_if b ≤ 1
at_most_one true = omega arith
at_most_one false = omega arith

or_more : (a b : Bool) → one_if a ≤ one_if (a || b)
or_more true b = omega arith
or_more false true = omega arith
or_more false false = omega arith

-- what counts where a walk goes on counts where it ends
no_lighter_op : (c : Counted) (o : Op) → one_if (is_going_counted c o) ≤ one_if (is_ending_counted c o)
no_lighter_op (counts.Activations task) o = or_more _ _
no_lighter_op (counts.Chains task) o = omega arith
no_lighter_op (counts.Settings task) o = omega arith
no_lighter_op (counts.Waits events) o = omega arith
no_lighter_op counts.Schedules o = omega arith
no_lighter_op (counts.Calls s) o = omega arith
no_lighter_op (counts.CallsFor s object) o = omega arith

-- no call and no `ret` counts
call_counts : (c : Counted) (g : ℕ) → one_if (is_ending_counted c (op.Invoke g)) ≡ one_if (is_going_counted c (op.Invoke g))
call_counts (counts.Activations task) g = refl
call_counts (counts.Chains task) g = refl
call_counts (counts.Settings task) g = refl
call_counts (counts.Waits events) g = refl
call_counts counts.Schedules g = refl
call_counts (counts.Calls s) g = refl
call_counts (counts.CallsFor s object) g = refl

return_counts : (c : Counted) → one_if (is_ending_counted c op.Return) ≡ one_if (is_going_counted c op.Return)
return_counts (counts.Activations task) = refl
return_counts (counts.Chains task) = refl
return_counts (counts.Settings task) = refl
return_counts (counts.Waits events) = refl
return_counts counts.Schedules = refl
return_counts (counts.Calls s) = refl
return_counts (counts.CallsFor s object) = refl

same_op : (c : Counted) (o : Op) → is_plain o ≡ false → one_if (is_ending_counted c o) ≡ one_if (is_going_counted c o)
same_op c (op.Invoke g) e = call_counts c g
same_op c op.Return e = return_counts c
same_op c _ e = absurd (true≢false e)

module _ (c : Counted) where
  items_go : (items : List Item) (i : ℕ) → get_or (map (λ (item : Item). one_if (is_going_counted c item.op)) items) i 0
      ≤ get_or (map (λ (item : Item). one_if (is_ending_counted c item.op)) items) i 0
  items_go [] i = omega arith
  items_go (item ∷ items) zero = no_lighter_op c item.op
  items_go (item ∷ items) (suc i) = items_go items i

  bodies_go : (funcs : List Func) (f i : ℕ) → get_or (get_or (map (body_counts c) funcs) f no_weights).going i 0 ≤ get_or (get_or (map (body_counts c) funcs) f no_weights).ending i 0
  bodies_go [] f i = omega arith
  bodies_go (func ∷ funcs) zero i = items_go func.items i
  bodies_go (func ∷ funcs) (suc f) i = bodies_go funcs f i

  items_few : (items : List Item) (i : ℕ) → get_or (map (λ (item : Item). one_if (is_ending_counted c item.op)) items) i 0 ≤ 1
  items_few [] i = omega arith
  items_few (item ∷ items) zero = at_most_one (is_ending_counted c item.op)
  items_few (item ∷ items) (suc i) = items_few items i

  bodies_few : (funcs : List Func) (f i : ℕ) → get_or (get_or (map (body_counts c) funcs) f no_weights).ending i 0 ≤ 1
  bodies_few [] f i = omega arith
  bodies_few (func ∷ funcs) zero i = items_few func.items i
  bodies_few (func ∷ funcs) (suc f) i = bodies_few funcs f i

  -- an item that is none weighs nothing
  items_same : (items : List Item) (i : ℕ) → is_plain (get_or items i no_item).op ≡ false
      → get_or (map (λ (item : Item). one_if (is_ending_counted c item.op)) items) i 0 ≡ get_or (map (λ (item : Item). one_if (is_going_counted c item.op)) items) i 0
  items_same [] i e = refl
  items_same (item ∷ items) zero e = same_op c item.op e
  items_same (item ∷ items) (suc i) e = items_same items i e

  bodies_same : (funcs : List Func) (f i : ℕ) → is_plain (item_of (get_or funcs f no_function) i).op ≡ false
      → get_or (get_or (map (body_counts c) funcs) f no_weights).ending i 0 ≡ get_or (get_or (map (body_counts c) funcs) f no_weights).going i 0
  bodies_same [] f i e = refl
  bodies_same (func ∷ funcs) zero i e = items_same func.items i e
  bodies_same (func ∷ funcs) (suc f) i e = bodies_same funcs f i e

  pub counted_fit : (app : App) → AreWeights app (counted_weights c app)
  counted_fit app = record {
    count = length-map app.funcs (body_counts c);
    small = λ f i. let le = bodies_few app.funcs f i in omega (arith, le);
    no_lighter = λ f i. bodies_go app.funcs f i;
    same = λ f i e. bodies_same app.funcs f i e;
  }

  pub list_fits : (app : App) (weights : List BodyWeights) → weights ≡ counted_weights c app → AreWeights app weights
  list_fits app weights e = subst (AreWeights app) (sym e) (counted_fit app)

  -- what an item of the code weighs where a walk ends with it
  pub ending_is : (app : App) (f i : ℕ) → f < length app.funcs → i < length (function app f).items
      → ending_weight (counted_weights c app) f i ≡ one_if (is_ending_counted c (operation app f i))
  ending_is app f i known inside =
      ap (λ (b : BodyWeights). get_or b.ending i 0) (get_or-map (body_counts c) app.funcs f no_function no_weights known)
      ∙ get_or-map (λ (item : Item). one_if (is_ending_counted c item.op)) (function app f).items i no_item 0 inside

-- ---- what counts at the end of a walk alone

module _ (c : Counted) (ends : CountsEnds c) where
  none_items : (items : List Item) (i : ℕ) → get_or (map (λ (item : Item). one_if (is_going_counted c item.op)) items) i 0 ≡ 0
  none_items [] i = refl
  none_items (item ∷ items) zero = ap one_if (ends item.op)
  none_items (item ∷ items) (suc i) = none_items items i

  none_bodies : (funcs : List Func) (f i : ℕ) → get_or (get_or (map (body_counts c) funcs) f no_weights).going i 0 ≡ 0
  none_bodies [] f i = refl
  none_bodies (func ∷ funcs) zero i = none_items func.items i
  none_bodies (func ∷ funcs) (suc f) i = none_bodies funcs f i

  pub ends_weightless : (app : App) (f i : ℕ) → going_weight (counted_weights c app) f i ≡ 0
  ends_weightless app f i = none_bodies app.funcs f i

pub waits_weightless : (events : ℕ) (app : App) (f i : ℕ) → going_weight (counted_weights (counts.Waits events) app) f i ≡ 0
waits_weightless events app f i = ends_weightless (counts.Waits events) (λ o. refl) app f i
