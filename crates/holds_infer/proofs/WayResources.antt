-- Task code whose labels have the lists of ways: it is in range, and else the same.
use Rattle.std.proofs.Common.{◌≡◌, ◌∙◌, ℕ, zero, suc, ◌+◌, ◌<◌, ◌≤◌, ◌⊎◌, List, [], length, take, map, get_or, Option, Some, None, inl, inr, refl, ap, sym, subst, arith}
use Rattle.std.specs.Prelude.{All}
use Rattle.std.proofs.lemmas.List.{take_all, length-map, get_or-map, get_or_default}
use Rattle.std.proofs.lemmas.List.Elements.{All-push}
use Rattle.sloth_base.specs.declared.config.Config.{Config}
use Rattle.sloth_base.specs.declared.app.App.{App}
use Rattle.sloth_base.specs.declared.app.Func.{Func}
use Rattle.sloth_base.specs.declared.app.Label.{Label}
use Rattle.sloth_base.specs.declared.app.Op.{Op}
use Rattle.sloth_base.specs.declared.app.Op.TheVariants as op
use Rattle.sloth_base.specs.declared.service.Service.{Service}
use Rattle.sloth_base.specs.declared.service.Service.TheVariants as service
use Rattle.sloth_base.specs.Named.{no_function, no_item, no_label, function, item_of, label_of}
use Rattle.holds_infer.specs.Places.{PlaceLists, list_or}
use Rattle.code_rules.specs.AppRange.{AppInRange, IsResource, IsOp}
use Rattle.code_rules.specs.Code.{held_after, held_behind}
use Rattle.call_graph.specs.declared.lists.Ranks.{Ranks}
use Rattle.call_graph.specs.Ranks.{RanksOf}
use Rattle.task_verify.specs.Cases.{AreOps}
use Rattle.holds_infer.specs.Filling.{bare_func, SameButLists}
use Rattle.holds_infer.specs.BodyFilling.{HasResourceLists}
use Rattle.holds_infer.specs.Spread.{relisted_label, relisted_func}
use Rattle.holds_infer.specs.LabelWays.{way_place, held_on_way, IsWayTo}
use Rattle.holds_infer.specs.WayLists.{IsWayList, AreWayLists, HasWayList, IsWayFilling, IsWayFilled}
use Rattle.holds_infer.proofs.Bare.{same_bodies}
use Rattle.holds_infer.proofs.BodyFillings.{bare_relisted}
use Rattle.holds_infer.proofs.LongerWays.{held_next}
use Rattle.holds_infer.proofs.OtherLists.{ranks_there, range_there}
use Rattle.holds_infer.proofs.Spreading.{all_none, all_but_last, got}

-- ---- what ways hold are resources

behind_known : (P : ℕ → Type 0) (s : Service) (r : ℕ) (held : List ℕ) → (s ≡ service.GetResource → P r) → All P held → All P (held_behind s r held)
behind_known P service.GetResource r held is h = All-push P held r h (is refl)
behind_known P service.ReleaseResource r held is h = all_but_last P held h
behind_known P _ r held is h = h

after_known : (config : Config) (app : App) (f : Func) (o : Op) (held : List ℕ) → IsOp config app f o → All (IsResource config) held
    → All (IsResource config) (held_after o held)
after_known config app f (op.Serve call) held is h = behind_known (IsResource config) call.service call.object held (got config app f call is) h
after_known config app f _ held is h = h

module _ (config : Config) (app : App) (f : Func) (ops : AreOps config app f) (goal : ℕ) (way : List ℕ) (leads : IsWayTo f goal way) where
  known_to : (n : ℕ) → n ≤ length way → All (IsResource config) (held_on_way f (take n way))
  known_to zero l = all_none (IsResource config)
  known_to (suc n) l =
      let on : n + 1 ≡ suc n = omega arith in
      subst (λ (m : ℕ). All (IsResource config) (held_on_way f (take m way))) on
      (subst (All (IsResource config)) (sym (held_next f way n goal (omega (arith, l))))
      (after_known config app f (item_of f (way_place way goal n)).op (held_on_way f (take n way))
      (ops (way_place way goal n) (leads.steps n (omega (arith, l))).inside) (known_to n (omega (arith, l)))))

  known_on : All (IsResource config) (held_on_way f way)
  known_on = subst (λ (w : List ℕ). All (IsResource config) (held_on_way f w)) (take_all (length way) way (omega arith)) (known_to (length way) (omega arith))

known_list : (config : Config) (app : App) (f : Func) → AreOps config app f → (l : Label) → HasWayList f l → All (IsResource config) l.holds
known_list config app f ops l (inl e) = subst (All (IsResource config)) (sym e) (all_none (IsResource config))
known_list config app f ops l (inr h) = subst (All (IsResource config)) (sym h.1.is) (known_on config app f ops l.item h.0 h.1.leads)

filling_known : (config : Config) (app : App) (f g : Func) → AreOps config app f → IsWayFilling f g → HasResourceLists config g
filling_known config app f g ops filling k d l =
    subst (λ (x : Label). All (IsResource config) x.holds) (get_or_default g.labels k no_label d l) (known_list config app f ops (label_of g k) (filling.lists k l))

-- ---- a body with the lists of places

list_of_place : (f : Func) (l : Label) (o : Option (List ℕ)) → ((held : List ℕ) → o ≡ Some held → IsWayList f l.item held)
    → (list_or o ≡ []) ⊎ IsWayList f l.item (list_or o)
list_of_place f l None h = inl refl
list_of_place f l (Some held) h = inr (h held refl)

pub relisted_filling : (f : Func) (lists : PlaceLists) → AreWayLists f lists → IsWayFilling f (relisted_func lists f)
relisted_filling f lists are = record {
  same = ap (λ ls. record { name = f.name; line = f.line; task = f.task; frame_words = f.frame_words; items = f.items; labels = ls }) (bare_relisted lists f.labels);
  lists = λ k l.
      let m : k < length f.labels = let n = length-map f.labels (relisted_label lists) in omega (arith, n, l) in
      let is : label_of (relisted_func lists f) k ≡ relisted_label lists (label_of f k) = get_or-map (relisted_label lists) f.labels k no_label no_label m in
      subst (HasWayList f) (sym is) (list_of_place f (label_of f k) (get_or lists (label_of f k).item None) (are (label_of f k).item));
}

-- ---- all bodies

module _ (config : Config) (app other : App) (filled : IsWayFilled app other) where
  pub same_but_lists : SameButLists app other
  same_but_lists =
      ap (λ fs. record { funcs = fs; symbols = app.symbols })
      (same_bodies app.funcs other.funcs filled.funcs.count (λ b l. (filled.funcs.each b l).same))
      ∙ ap (λ ys. record { funcs = map bare_func other.funcs; symbols = ys }) (sym filled.symbols)

  resources : AppInRange config app → (b : ℕ) → b < length other.funcs → HasResourceLists config (function other b)
  resources range b l =
      let m : b < length app.funcs = let n = filled.funcs.count in omega (arith, n, l) in
      filling_known config app (function app b) (function other b) (λ i known. (range.bodies b no_function m).items i no_item known) (filled.funcs.each b m)

  pub filled_in_range : AppInRange config app → AppInRange config other
  filled_in_range range = range_there config app other same_but_lists (resources range) range

  pub filled_belongs : (ranks : Ranks) → RanksOf app ranks → RanksOf other ranks
  filled_belongs ranks belong = ranks_there app other same_but_lists ranks belong
