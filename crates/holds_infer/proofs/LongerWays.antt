-- Ways by items alone, item by item.
use Rattle.std.proofs.Common.{◌≡◌, ◌∙◌, ℕ, ◌+◌, ◌<◌, ◌≤◌, true, List, [], ◌∷◌, ◌++◌, length, take, set, get_or, Some, None, refl, ap, sym, subst, arith, ⊎_elim}
use Rattle.std.proofs.Math.Seq.{get_or-append_seam}
use Rattle.std.proofs.lemmas.Bool.{cases_lt, cases_eq}
use Rattle.std.proofs.lemmas.List.{take_all, take_at, take-append-le, length-append, length-set, get_or_append_left, get_or_default, get_or_past, get_or-set_same, get_or-set_other}
use Rattle.std.proofs.lemmas.List.Sums.{fold-append, fold_more}
use Rattle.sloth_base.specs.declared.app.Func.{Func}
use Rattle.sloth_base.specs.Named.{item_of}
use Rattle.holds_infer.specs.Places.{PlaceLists}
use Rattle.code_rules.specs.Code.{IsPathStep, held_after}
use Rattle.fault_witnesses.specs.CleanWays.{is_orderly}
use Rattle.holds_infer.specs.LabelWays.{way_place, held_on_way, IsWayStep, HoldsOnWay}
use Rattle.holds_infer.specs.WayLists.{IsWayList, AreWayLists, AreHeldBehind}

-- ---- items that are gone through

pub one_step : (f : Func) (goal : ℕ) (way : List ℕ) (n item place : ℕ) (held : List ℕ) → item ≡ way_place way goal n → place ≡ way_place way goal (n + 1)
    → held ≡ held_on_way f (take n way) → item < length f.items → is_orderly held (item_of f item).op ≡ true → IsPathStep f item place → IsWayStep f goal way n
one_step f goal way n item place held at next is inside orderly goes = record {
  inside = subst (λ (x : ℕ). x < length f.items) at inside;
  orderly = subst (λ (x : ℕ). is_orderly (held_on_way f (take n way)) (item_of f x).op ≡ true) at
      (subst (λ (h : List ℕ). is_orderly h (item_of f item).op ≡ true) is orderly);
  goes = subst (λ (x : ℕ). IsPathStep f (way_place way goal n) x) next (subst (λ (x : ℕ). IsPathStep f x place) at goes);
}

pub steps_more : (f : Func) (goal : ℕ) (way : List ℕ) (n : ℕ) → IsWayStep f goal way n → ((k : ℕ) → k < n → IsWayStep f goal way k)
    → (k : ℕ) → k < n + 1 → IsWayStep f goal way k
steps_more f goal way n step each k l = ⊎_elim
    (λ less. each k less)
    (λ ge. let same : n ≡ k = omega (arith, l, ge) in subst (IsWayStep f goal way) same step)
    (cases_lt k n)

pub held_next : (f : Func) (way : List ℕ) (n d : ℕ) → n < length way → held_on_way f (take (n + 1) way) ≡ held_after (item_of f (get_or way n d)).op (held_on_way f (take n way))
held_next f way n d l = fold_more (λ (held : List ℕ) (i : ℕ). held_after (item_of f i).op held) [] way n d l

pub whole_way : (f : Func) (goal : ℕ) (way held : List ℕ) (n : ℕ) → length way ≤ n → way_place way goal 0 ≡ 0 → held ≡ held_on_way f (take n way)
    → ((k : ℕ) → k < n → IsWayStep f goal way k) → HoldsOnWay f goal way held
whole_way f goal way held n all starts is each = record {
  leads = record { starts = starts; steps = λ k l. each k (omega (arith, l, all)) };
  is = is ∙ ap (held_on_way f) (take_all n way all);
}

-- ---- a way that goes on by one item

module _ (f : Func) (way : List ℕ) (i k : ℕ) where
  abbrev longer : List ℕ
  longer = way ++ i ∷ []

  -- up to the item that was its goal the longer way is the same
  same_place : (n : ℕ) → n ≤ length way → way_place longer k n ≡ way_place way i n
  same_place n l = ⊎_elim
      (λ inside. get_or_append_left way (i ∷ []) k n inside ∙ get_or_default way n k i inside)
      (λ ge.
      let last : n ≡ length way = omega (arith, l, ge) in
      ap (λ m. get_or longer m k) last ∙ get_or-append_seam way i [] k ∙ sym (get_or_past way n i ge))
      (cases_lt n (length way))

  step_before : (n : ℕ) → n < length way → IsWayStep f i way n → IsWayStep f k longer n
  step_before n l step =
      let here = same_place n (omega (arith, l)) in
      let next = same_place (n + 1) (omega (arith, l)) in
      let front : take n longer ≡ take n way = take-append-le n way (i ∷ []) (omega (arith, l)) in
      one_step f k longer n (way_place way i n) (way_place way i (n + 1)) (held_on_way f (take n way)) (sym here) (sym next) (ap (held_on_way f) (sym front))
      step.inside step.orderly step.goes

  last_step : (held : List ℕ) → held ≡ held_on_way f way → i < length f.items → is_orderly held (item_of f i).op ≡ true → IsPathStep f i k → IsWayStep f k longer (length way)
  last_step held is inside orderly goes =
      let n = length way in
      let count = length-append way (i ∷ []) in
      one_step f k longer n i k held
      (sym (same_place n (omega arith) ∙ get_or_past way n i (omega arith)))
      (sym (get_or_past longer (n + 1) k (omega (arith, count))))
      (is ∙ ap (held_on_way f) (sym (take_at way (i ∷ []) n refl)))
      inside orderly goes

  all_steps : (held : List ℕ) → HoldsOnWay f i way held → i < length f.items → is_orderly held (item_of f i).op ≡ true → IsPathStep f i k
      → (n : ℕ) → n < length longer → IsWayStep f k longer n
  all_steps held h inside orderly goes n l = ⊎_elim
      (λ before. step_before n before (h.leads.steps n before))
      (λ ge.
      let count = length-append way (i ∷ []) in
      let last : length way ≡ n = omega (arith, l, ge, count) in
      subst (IsWayStep f k longer) last (last_step held h.is inside orderly goes))
      (cases_lt n (length way))

  longer_way : (held : List ℕ) → HoldsOnWay f i way held → i < length f.items → is_orderly held (item_of f i).op ≡ true → IsPathStep f i k
      → HoldsOnWay f k longer (held_after (item_of f i).op held)
  longer_way held h inside orderly goes = record {
    leads = record { starts = same_place 0 (omega arith) ∙ h.leads.starts; steps = all_steps held h inside orderly goes };
    is = ap (held_after (item_of f i).op) h.is
        ∙ sym (fold-append (λ (before : List ℕ) (j : ℕ). held_after (item_of f j).op before) [] way (i ∷ []));
  }

pub behind_item : (f : Func) (i : ℕ) (held : List ℕ) → i < length f.items → IsWayList f i held → is_orderly held (item_of f i).op ≡ true
    → AreHeldBehind f i (held_after (item_of f i).op held)
behind_item f i held inside h orderly k goes = (h.0 ++ i ∷ [], longer_way f h.0 i k held h.1 inside orderly goes)

-- ---- the lists of places

pub way_of_none : (f : Func) → IsWayList f 0 []
way_of_none f = ([], record { leads = record { starts = refl; steps = λ n l. absurd (omega (arith, l)) }; is = refl })

pub one_list : (f : Func) (lists : PlaceLists) (place : ℕ) (held : List ℕ) → IsWayList f place held → AreWayLists f lists → AreWayLists f (set lists place (Some held))
one_list f lists place held here before i list e = ⊎_elim
    (λ same. ⊎_elim
    (λ inside.
    let there : Some held ≡ Some list =
    sym (get_or-set_same lists place (Some held) None inside) ∙ ap (λ (x : ℕ). get_or (set lists place (Some held)) x None) (sym same) ∙ e in
    let is : held ≡ list = cc in
    subst (λ (x : ℕ). IsWayList f x list) (sym same) (subst (IsWayList f place) is here))
    (λ past.
    let none : None ≡ Some list =
    sym (get_or_past (set lists place (Some held)) i None (let n = length-set lists place (Some held) in omega (arith, n, past, same))) ∙ e in
    absurd cc)
    (cases_lt place (length lists)))
    (λ differ. before i list (sym (get_or-set_other lists place i (Some held) None differ) ∙ e))
    (cases_eq i place)

pub no_way_lists : (f : Func) (lists : PlaceLists) → ((i : ℕ) → get_or lists i None ≡ None) → AreWayLists f lists
no_way_lists f lists clear i held e = let w : None ≡ Some held = sym (clear i) ∙ e in absurd cc
