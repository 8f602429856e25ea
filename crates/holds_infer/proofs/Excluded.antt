-- Ways to a place hold what the rules want to be held there; so two that differ leave no lists.
use Rattle.std.proofs.Common.{◌≡◌, ◌∙◌, ℕ, zero, suc, ◌+◌, ◌<◌, ◌≤◌, inl, inr, List, length, take, Some, refl, ap, sym, subst, arith}
use Rattle.std.proofs.lemmas.List.{take_all, get_or_past}
use Rattle.sloth_base.specs.declared.config.Config.{Config}
use Rattle.sloth_base.specs.declared.app.App.{App}
use Rattle.sloth_base.specs.declared.app.Func.{Func}
use Rattle.sloth_base.specs.declared.app.Item.{Item}
use Rattle.sloth_base.specs.declared.app.Op.{Op}
use Rattle.sloth_base.specs.declared.app.Op.TheVariants as op
use Rattle.sloth_base.specs.Named.{function, item_of, label_of}
use Rattle.code_rules.specs.Code.{IsPathStep, way, held_after, held_list_at}
use Rattle.task_verify.proofs.Paths.{goes_from_inside}
use Rattle.holds_infer.specs.Filling.{bare_func, IsFilling}
use Rattle.holds_infer.specs.RightLists.{HasRightLists}
use Rattle.holds_infer.specs.LabelWays.{way_place, held_on_way, IsWayTo, AreOtherWays}
use Rattle.holds_infer.specs.declared.other_ways.OtherWays.{OtherWays}
use Rattle.holds_infer.proofs.Bare.{item_same, goes_same, functions_same, count_functions}
use Rattle.holds_infer.proofs.Held.{held_first, held_falls, held_turns}
use Rattle.holds_infer.proofs.LongerWays.{held_next}
use Rattle.holds_infer.proofs.WellFormedLists.{rightly}

turning_keeps : (o : Op) (k : ℕ) (held : List ℕ) → way o ≡ Some k → held_after o held ≡ held
turning_keeps (op.Branch kind a b l) k held e = refl
turning_keeps (op.Jump l) k held e = refl
turning_keeps _ k held e = absurd cc

-- what is held where an item of a body with right lists leads
held_there : (g : Func) → HasRightLists g → (i j : ℕ) → IsPathStep g i j → held_after (item_of g i).op (held_list_at g i) ≡ held_list_at g j
held_there g right i j (inl a) =
    let next = a.1 in
    let up : suc i ≡ j = omega (arith, next) in
    sym (held_falls g right i a.0) ∙ ap (held_list_at g) up
held_there g right i j (inr a) =
    let l = goes_from_inside g i j (inr a) in
    turning_keeps (item_of g i).op a.0 (held_list_at g i) a.1 ∙ sym (held_turns g right i a.0 l a.1) ∙ ap (held_list_at g) (sym a.2)

module _ (f g : Func) (same : bare_func f ≡ bare_func g) (right : HasRightLists g) (goal : ℕ) (items : List ℕ) (leads : IsWayTo f goal items) where
  held_to : (n : ℕ) → n ≤ length items → held_on_way f (take n items) ≡ held_list_at g (way_place items goal n)
  held_to zero l = sym (held_first g right) ∙ ap (held_list_at g) (sym leads.starts)
  held_to (suc n) l =
      let on : n + 1 ≡ suc n = omega arith in
      let i = way_place items goal n in
      let step = leads.steps n (omega (arith, l)) in
      subst (λ (m : ℕ). held_on_way f (take m items) ≡ held_list_at g (way_place items goal m)) on
      (held_next f items n goal (omega (arith, l))
      ∙ ap (held_after (item_of f i).op) (held_to n (omega (arith, l)))
      ∙ ap (λ (x : Item). held_after x.op (held_list_at g i)) (item_same f g same i)
      ∙ held_there g right i (way_place items goal (n + 1)) (goes_same f g same i (way_place items goal (n + 1)) step.goes))

  -- a way holds what is held at its goal
  pub way_held : held_on_way f items ≡ held_list_at g goal
  way_held =
      let n = length items in
      ap (held_on_way f) (sym (take_all n items (omega arith))) ∙ held_to n (omega arith) ∙ ap (held_list_at g) (get_or_past items n goal (omega arith))

pub ways_exclude : (config : Config) (app other : App) (b : ℕ) (ways : OtherWays) → b < length app.funcs → AreOtherWays (function app b) ways → IsFilling config app other → ⊥
ways_exclude config app other b ways known are filling =
    let f = function app b in
    let g = function other b in
    let there : b < length other.funcs = subst (λ (n : ℕ). b < n) (count_functions app other filling.same) known in
    let right : HasRightLists g = rightly config other filling.well_formed filling.clear b there in
    let same = functions_same app other filling.same b in
    let place = (label_of f ways.label).item in
    are.differ (are.one.is ∙ way_held f g same right place ways.one.items are.one.leads
    ∙ sym (way_held f g same right place ways.other.items are.other.leads) ∙ sym are.other.is)
