-- The weights that count items are weights of sections.
use Rattle.std.proofs.Common.{◌≡◌, ℕ, zero, suc, ◌≤◌, Bool, true, false, cond, map, List, [], ◌∷◌, get_or, refl, ap, sym, ◌∙◌, subst, arith}
use Rattle.std.proofs.lemmas.List.{get_or-map, length-map}
use Rattle.sloth_base.specs.declared.app.App.{App}
use Rattle.sloth_base.specs.declared.app.Func.{Func}
use Rattle.sloth_base.specs.declared.app.Item.{Item}
use Rattle.sloth_base.specs.declared.app.Op.{Op}
use Rattle.sloth_base.specs.Named.{function, operation, no_function, no_item}
use Rattle.code_rules.specs.Code.{IsItem}
use Rattle.osek_blocking.specs.Sections.{is_counted}
use Rattle.bound_rules.specs.declared.bound.BodyWeights.{BodyWeights}
use Rattle.bound_rules.specs.Weights.{no_weights, going_weight, ending_weight}
use Rattle.walk_sums.specs.Weights.{AreWeights, item_weight, body_weights, item_weights}

at_most_one : (b : Bool) → cond b 1 0 ≤ 1
at_most_one true = omega arith
at_most_one false = omega arith

items_few : (items : List Item) (i : ℕ) → get_or (map item_weight items) i 0 ≤ 1
items_few [] i = omega arith
items_few (item ∷ items) zero = at_most_one (is_counted item.op)
items_few (item ∷ items) (suc i) = items_few items i

bodies_few : (funcs : List Func) (f i : ℕ) → get_or (get_or (map body_weights funcs) f no_weights).ending i 0 ≤ 1
bodies_few [] f i = omega arith
bodies_few (func ∷ funcs) zero i = items_few func.items i
bodies_few (func ∷ funcs) (suc f) i = bodies_few funcs f i

both_same : (funcs : List Func) (f : ℕ) → (get_or (map body_weights funcs) f no_weights).going ≡ (get_or (map body_weights funcs) f no_weights).ending
both_same [] f = refl
both_same (func ∷ funcs) zero = refl
both_same (func ∷ funcs) (suc f) = both_same funcs f

module _ (app : App) where
  weights_same : (f i : ℕ) → going_weight (item_weights app) f i ≡ ending_weight (item_weights app) f i
  weights_same f i = ap (λ (l : List ℕ). get_or l i 0) (both_same app.funcs f)

  -- an item of the code
  pub going_is : (f i : ℕ) (o : Op) → IsItem app f i o → going_weight (item_weights app) f i ≡ cond (is_counted (operation app f i)) 1 0
  going_is f i o item =
      ap (λ (b : BodyWeights). get_or b.going i 0) (get_or-map body_weights app.funcs f no_function no_weights item.known)
      ∙ get_or-map item_weight (function app f).items i no_item 0 item.inside

  pub ending_is : (f i : ℕ) (o : Op) → IsItem app f i o → ending_weight (item_weights app) f i ≡ cond (is_counted (operation app f i)) 1 0
  ending_is f i o item = sym (weights_same f i) ∙ going_is f i o item

  pub items_fit : AreWeights app (item_weights app)
  items_fit = record {
    count = length-map app.funcs body_weights;
    small = λ f i. let le = bodies_few app.funcs f i in omega (arith, le);
    no_lighter = λ f i. let e = weights_same f i in omega (arith, e);
    same = λ f i call. sym (weights_same f i);
  }

  pub list_fits : (weights : List BodyWeights) → weights ≡ item_weights app → AreWeights app weights
  list_fits weights e = subst (AreWeights app) (sym e) items_fit
