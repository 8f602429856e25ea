-- Bodies whose labels have the lists of their places.
use Rattle.std.proofs.Common.{◌≡◌, ℕ, ◌+◌, ◌<◌, ◌≤◌, Bool, true, false, List, [], ◌∷◌, ◌++◌, length, map, get_or, Option, Some, None, refl, sym, ap, ◌∙◌, subst, arith, ⊎_elim}
use Rattle.std.specs.Prelude.{is_some, All}
use Rattle.std.proofs.lemmas.Bool.{cases_lt, cases_eq, true≢false}
use Rattle.std.proofs.lemmas.List.{get_or-map, get_or_past, length-map, get_or_push, get_or_append_left}
use Rattle.sloth_base.specs.declared.config.Config.{Config}
use Rattle.sloth_base.specs.declared.app.App.{App}
use Rattle.sloth_base.specs.declared.app.Func.{Func}
use Rattle.sloth_base.specs.declared.app.Item.{Item}
use Rattle.sloth_base.specs.declared.app.Label.{Label}
use Rattle.sloth_base.specs.Named.{no_function, function, no_label, no_item, label_of, item_of}
use Rattle.sloth_base.specs.declared.refusal.Refusal.{Refusal}
use Rattle.sloth_base.specs.Order.{NoFault}
use Rattle.code_rules.specs.AppRange.{IsResource, AppInRange}
use Rattle.code_rules.specs.WellFormed.{RuleFault}
use Rattle.call_graph.specs.declared.lists.Ranks.{Ranks}
use Rattle.call_graph.specs.Ranks.{RanksOf}
use Rattle.task_verify.specs.Cases.{AreOps}
use Rattle.task_verify.proofs.Acyclic.{no_cycle}
use Rattle.task_verify.proofs.Tests.{leads}
use Rattle.code_rules.specs.Code.{held_list_at}
use Rattle.task_verify.proofs.Paths.{reached_of}
use Rattle.holds_infer.specs.Filling.{bare_label, bare_func, SameButLists, IsClear, AreClear, IsFilling}
use Rattle.holds_infer.specs.RightLists.{HasRightLists}
use Rattle.holds_infer.specs.Places.{PlaceLists, list_or, list_at}
use Rattle.holds_infer.specs.Spread.{AreLists, relisted_label, relisted_func}
use Rattle.holds_infer.specs.BodyFilling.{HaveTheirLabels, HasResourceLists, IsBodyFilling, AreBodyFillings}
use Rattle.holds_infer.proofs.Held.{held_of_label}
use Rattle.holds_infer.proofs.Bare.{functions_same, count_functions, items_same, place_same, count_same, path_same, body_same, app_same, same_bodies}
use Rattle.holds_infer.proofs.Spreading.{mark_at, listed, all_none}
use Rattle.holds_infer.proofs.OtherLists.{ranks_there, range_there}
use Rattle.holds_infer.proofs.WellFormedLists.{rightly}

pub bare_relisted : (lists : PlaceLists) (ls : List Label) → map bare_label ls ≡ map bare_label (map (relisted_label lists) ls)
bare_relisted lists [] = refl
bare_relisted lists (l ∷ ls) = ap (λ x. bare_label l ∷ x) (bare_relisted lists ls)

module _ (f : Func) (lists : PlaceLists) (are : AreLists f lists) where
  same : bare_func f ≡ bare_func (relisted_func lists f)
  same = ap (λ ls. record { name = f.name; line = f.line; task = f.task; frame_words = f.frame_words; items = f.items; labels = ls }) (bare_relisted lists f.labels)

  -- the list of a label
  label_list : (k : ℕ) → k < length f.labels → (label_of (relisted_func lists f) k).holds ≡ list_at lists (label_of f k).item
  label_list k l = ap (λ (x : Label). x.holds) (get_or-map (relisted_label lists) f.labels k no_label no_label l)

  past : (place : ℕ) → length f.items ≤ place → list_at lists place ≡ []
  past place l = let n = are.count in ap list_or (get_or_past lists place None (omega (arith, n, l)))

  clear : IsClear (relisted_func lists f)
  clear k l = ⊎_elim
      (λ inside.
      let there : (label_of (relisted_func lists f) k).item ≡ (label_of f k).item = sym (place_same f (relisted_func lists f) same k) in
      label_list k inside ∙ past (label_of f k).item (omega (arith, l, there)))
      (λ out. ap (λ (x : Label). x.holds) (get_or_past (map (relisted_label lists) f.labels) k no_label (let n = length-map f.labels (relisted_label lists) in omega (arith, n, out))))
      (cases_lt k (length f.labels))

  known : (config : Config) (o : Option (List ℕ)) → ((list : List ℕ) → o ≡ Some list → All (IsResource config) list) → All (IsResource config) (list_or o)
  known config None h = all_none (IsResource config)
  known config (Some list) h = h list refl

  resources : (config : Config) (app : App) → AreOps config app f → HasResourceLists config (relisted_func lists f)
  resources config app ops k d l =
      let m : k < length f.labels = let n = length-map f.labels (relisted_label lists) in omega (arith, n, l) in
      subst (λ (x : Label). All (IsResource config) x.holds) (sym (get_or-map (relisted_label lists) f.labels k no_label d m))
      (known config (get_or lists (label_of f k).item None) (are.resources config app ops (label_of f k).item))

  marked : (g : Func) → bare_func f ≡ bare_func g → HasRightLists g → (i : ℕ) → i < length f.items → is_some (get_or lists i None) ≡ true
  marked g alike right i l = by (is_some (get_or lists i None)) refl
    where
      by : (b : Bool) → is_some (get_or lists i None) ≡ b → is_some (get_or lists i None) ≡ true
      by true e = e
      by false e = absurd (right.reached i (subst (λ (xs : List Item). i < length xs) (items_same f g alike) l)
          (λ between p. true≢false (sym (are.reached i l (reached_of f i between l (path_same g f (sym alike) 0 i between p))) ∙ mark_at lists i ∙ e)))

  the_body : (g : Func) → bare_func f ≡ bare_func g → HasRightLists g → relisted_func lists f ≡ g
  the_body g alike right = body_same (relisted_func lists f) g (sym same ∙ alike) lists_same
    where
      lists_same : (k : ℕ) → k < length (relisted_func lists f).labels → (label_of (relisted_func lists f) k).holds ≡ (label_of g k).holds
      lists_same k n =
          let l : k < length f.labels = let e = length-map f.labels (relisted_label lists) in omega (arith, e, n) in
          let place = (label_of f k).item in
          let there = place_same f g alike k in
          ⊎_elim
          (λ inside.
          label_list k l
          ∙ are.true_lists g alike right place (list_at lists place) (listed (get_or lists place None) (marked g alike right place inside))
          ∙ ap (held_list_at g) there
          ∙ held_of_label g right k (subst (λ (m : ℕ). k < m) (count_same f g alike) l))
          (λ out.
          label_list k l ∙ past place out
          ∙ sym (right.clear k (subst (λ (m : ℕ). length g.items ≤ m) there (subst (λ (xs : List Item). length xs ≤ place) (items_same f g alike) out))))
          (cases_lt place (length f.items))

  pub filling : IsBodyFilling f (relisted_func lists f)
  filling = record { same = same; clear = clear; resources = resources; right = the_body }

-- ---- all bodies

-- one body more
pub fillings_more : (fs made more : List Func) (b : ℕ) (g : Func) → IsBodyFilling (get_or fs b no_function) g → more ≡ made ++ g ∷ [] → length made ≡ b
    → ((k : ℕ) → k < b → IsBodyFilling (get_or fs k no_function) (get_or made k no_function)) → (k : ℕ) → k < b + 1 → IsBodyFilling (get_or fs k no_function) (get_or more k no_function)
fillings_more fs made more b g here e n before k l = ⊎_elim
    (λ same. subst (λ (x : ℕ). IsBodyFilling (get_or fs x no_function) (get_or more x no_function)) (sym same)
    (subst (IsBodyFilling (get_or fs b no_function)) (sym (ap (λ (xs : List Func). get_or xs b no_function) e ∙ get_or_push made g no_function b n)) here))
    (λ other.
    let less : k < length made = omega (arith, l, other, n) in
    subst (IsBodyFilling (get_or fs k no_function)) (sym (ap (λ (xs : List Func). get_or xs k no_function) e ∙ get_or_append_left made (g ∷ []) no_function k less)) (before k (omega (arith, less, n))))
    (cases_eq k b)

-- the whole, from its parts
pub fillings_whole : (app other : App) → AreBodyFillings app.funcs other.funcs → other.symbols ≡ app.symbols
    → other ≡ record { funcs = other.funcs; symbols = app.symbols }
fillings_whole app other are e = ap (λ ys. record { funcs = other.funcs; symbols = ys }) e

module _ (app : App) (fs : List Func) (are : AreBodyFillings app.funcs fs) where
  abbrev pub other : App
  other = record { funcs = fs; symbols = app.symbols }

  pub filled : SameButLists app other
  filled = ap (λ xs. record { funcs = xs; symbols = app.symbols }) (same_bodies app.funcs fs are.count (λ b l. (are.each b l).same))

  pub all_clear : AreClear other
  all_clear b = ⊎_elim
      (λ l. (are.each b l).clear)
      (λ out. subst IsClear (sym (get_or_past fs b no_function (let n = are.count in omega (arith, n, out)))) (λ k l. refl))
      (cases_lt b (length app.funcs))

  pub all_resources : (config : Config) → AppInRange config app → (b : ℕ) → b < length other.funcs → HasResourceLists config (function other b)
  all_resources config range b l =
      let m : b < length app.funcs = let n = are.count in omega (arith, n, l) in
      (are.each b m).resources config app (λ i known. (range.bodies b no_function m).items i no_item known)

  -- if some lists keep the rules, they are these
  pub the_one : (config : Config) (h : App) → IsFilling config app h → other ≡ h
  the_one config h holds =
      let alike : SameButLists other h = sym filled ∙ holds.same in
      app_same other h alike (λ b l.
      let m : b < length app.funcs = let n = are.count in omega (arith, n, l) in
      (are.each b m).right (function h b) (functions_same app h holds.same b)
      (rightly config h holds.well_formed holds.clear b (subst (λ (n : ℕ). b < n) (count_functions app h holds.same) m)))

-- ---- what the verifier says of them

module _ (config : Config) (app found : App) (ranks : Ranks) (are : AreBodyFillings app.funcs found.funcs) (symbols : found.symbols ≡ app.symbols)
    (in_range : AppInRange config app) (belong : RanksOf app ranks) where
  is_other : found ≡ other app found.funcs are
  is_other = fillings_whole app found are symbols

  filled_found : SameButLists app found
  filled_found = subst (SameButLists app) (sym is_other) (filled app found.funcs are)

  pub found_in_range : AppInRange config found
  found_in_range = subst (AppInRange config) (sym is_other)
      (range_there config app (other app found.funcs are) (filled app found.funcs are) (all_resources app found.funcs are config in_range) in_range)

  pub found_belongs : RanksOf found ranks
  found_belongs = ranks_there app found filled_found ranks belong

  pub found_holds : NoFault (RuleFault config found) → IsFilling config app found
  found_holds none = record {
    same = filled_found;
    well_formed = record { in_range = found_in_range; no_cycle = no_cycle found ranks found_belongs; no_fault = none };
    clear = subst AreClear (sym is_other) (all_clear app found.funcs are);
  }

  pub none_holds : (r : Refusal) → RuleFault config found r → (h : App) → IsFilling config app h → ⊥
  none_holds r fault h holds =
      holds.well_formed.no_fault r (subst (λ (x : App). RuleFault config x r) (is_other ∙ the_one app found.funcs are config h holds) fault)

-- ---- branches and jumps of task code in range

pub have_labels : (config : Config) (app : App) → AppInRange config app → HaveTheirLabels app.funcs
have_labels config app range b l i known =
    leads config app (function app b) (item_of (function app b) i).op ((range.bodies b no_function l).items i no_item known)
