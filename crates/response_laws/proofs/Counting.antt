-- The weight of a position, where items are counted for what they do, is 1 where its item does it.
use Rattle.std.proofs.Common.{◌≡◌, ℕ, zero, suc, ◌≤◌, ◌||◌, Bool, true, false, map, List, [], ◌∷◌, get_or, refl, sym, ap, arith}
use Rattle.sloth_base.specs.declared.app.App.{App}
use Rattle.sloth_base.specs.declared.app.Func.{Func}
use Rattle.sloth_base.specs.declared.app.Item.{Item}
use Rattle.sloth_base.specs.declared.app.Op.{Op}
use Rattle.sloth_base.specs.declared.app.Op.TheVariants as op
use Rattle.sloth_base.specs.Named.{no_function, no_item}
use Rattle.osek_blocking.specs.Walks.{Position}
use Rattle.osek_blocking.specs.Sections.{operation_at}
use Rattle.bound_rules.specs.Weights.{no_weights}
use Rattle.walk_sums.specs.Weights.{going_at, ending_at}
use Rattle.walk_sums.specs.declared.counted.Counted.{Counted}
use Rattle.walk_sums.specs.declared.counted.Counted.TheVariants as counts
use Rattle.walk_sums.specs.Counted.{one_if, is_going_counted, is_ending_counted, body_counts, counted_weights}

module _ (c : Counted) (test : Op → Bool) (no_return : test op.Return ≡ false) where
  items_count : (items : List Item) (i : ℕ) → get_or (map (λ (item : Item). one_if (test item.op)) items) i 0 ≡ one_if (test (get_or items i no_item).op)
  items_count [] i = sym (ap one_if no_return)
  items_count (item ∷ items) zero = refl
  items_count (item ∷ items) (suc i) = items_count items i

no_going_return : (c : Counted) → is_going_counted c op.Return ≡ false
no_going_return (counts.Activations task) = refl
no_going_return (counts.Chains task) = refl
no_going_return (counts.Settings task) = refl
no_going_return (counts.Waits events) = refl
no_going_return counts.Schedules = refl
no_going_return (counts.Calls s) = refl
no_going_return (counts.CallsFor s object) = refl

no_ending_return : (c : Counted) → is_ending_counted c op.Return ≡ false
no_ending_return (counts.Activations task) = refl
no_ending_return (counts.Chains task) = refl
no_ending_return (counts.Settings task) = refl
no_ending_return (counts.Waits events) = refl
no_ending_return counts.Schedules = refl
no_ending_return (counts.Calls s) = refl
no_ending_return (counts.CallsFor s object) = refl

module _ (c : Counted) where
  bodies_going : (funcs : List Func) (f i : ℕ) → get_or (get_or (map (body_counts c) funcs) f no_weights).going i 0
      ≡ one_if (is_going_counted c (get_or (get_or funcs f no_function).items i no_item).op)
  bodies_going [] f i = sym (ap one_if (no_going_return c))
  bodies_going (func ∷ funcs) zero i = items_count c (is_going_counted c) (no_going_return c) func.items i
  bodies_going (func ∷ funcs) (suc f) i = bodies_going funcs f i

  bodies_ending : (funcs : List Func) (f i : ℕ) → get_or (get_or (map (body_counts c) funcs) f no_weights).ending i 0
      ≡ one_if (is_ending_counted c (get_or (get_or funcs f no_function).items i no_item).op)
  bodies_ending [] f i = sym (ap one_if (no_ending_return c))
  bodies_ending (func ∷ funcs) zero i = items_count c (is_ending_counted c) (no_ending_return c) func.items i
  bodies_ending (func ∷ funcs) (suc f) i = bodies_ending funcs f i

  pub counted_going : (app : App) (at : Position) → going_at (counted_weights c app) at ≡ one_if (is_going_counted c (operation_at app at))
  counted_going app [] = sym (ap one_if (no_going_return c))
  counted_going app (here ∷ outer) = bodies_going app.funcs here.func here.item

  pub counted_ending : (app : App) (at : Position) → ending_at (counted_weights c app) at ≡ one_if (is_ending_counted c (operation_at app at))
  counted_ending app [] = sym (ap one_if (no_ending_return c))
  counted_ending app (here ∷ outer) = bodies_ending app.funcs here.func here.item

-- what counts where a walk goes on counts where it ends
or_more : (a b : Bool) → one_if a ≤ one_if (a || b)
or_more true b = omega arith
or_more false true = omega arith
or_more false false = omega arith

lighter_op : (c : Counted) (o : Op) → one_if (is_going_counted c o) ≤ one_if (is_ending_counted c o)
lighter_op (counts.Activations task) o = or_more _ _
lighter_op (counts.Settings task) o = omega arith
lighter_op (counts.Chains task) o = omega arith
lighter_op (counts.Waits events) o = omega arith
lighter_op counts.Schedules o = omega arith
lighter_op (counts.Calls s) o = omega arith
lighter_op (counts.CallsFor s object) o = omega arith

pub counted_lighter : (c : Counted) (app : App) (at : Position) → going_at (counted_weights c app) at ≤ ending_at (counted_weights c app) at
counted_lighter c app at =
    let goes = counted_going c app at in
    let ends = counted_ending c app at in
    let le = lighter_op c (operation_at app at) in
    omega (arith, goes, ends, le)
