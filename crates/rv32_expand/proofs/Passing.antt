-- One pass over a body.
use Rattle.std.proofs.Common.{◌≡◌, ◌∙◌, ℕ, ◌+◌, ◌<◌, ◌≤◌, ⊎_elim, Bool, true, false, cond, List, [], ◌∷◌, ◌++◌, length, take, refl, sym, ap, subst, arith}
use Rattle.std.specs.Prelude.{sum_by, ◌||◌, not}
use Rattle.std.proofs.Math.Nat.{eq-or-lt_of_le}
use Rattle.std.proofs.lemmas.List.{get_or_push, get_or_append_left, length-append, take_all}
use Rattle.std.proofs.lemmas.List.Sums.{sum_by_push, sum_by_more}
use Rattle.std.proofs.lemmas.Bool.{or_cases, or_parts, not-true}
use Rattle.sloth_base.specs.declared.app.App.{App}
use Rattle.sloth_base.specs.declared.app.Func.{Func}
use Rattle.rv32_expand.specs.Long.{BranchSet, IsBranchTo, IsNear, IsSufficient, IsInSet}
use Rattle.rv32_expand.specs.Passes.{set_in_list, short_count, AreItemLengths, IsFarMark, IsPass, AreShortest}
use Rattle.rv32_expand.proofs.PassTo.{IsPassTo}
use Rattle.rv32_expand.proofs.Growth.{near-stays}

module _ (app : App) (body : Func) (old : List Bool) where
  -- nothing is done before the first item
  pub starts : IsPassTo app body old 0 [] false
  starts = record {
    count = refl;
    forced = λ other s w k t h p e. absurd (omega arith);
    near = λ e k h t p o. absurd (omega arith);
    fewer = omega arith;
  }

  -- the last item of what is done, or an earlier one
  last : (P : ℕ → Type 0) (i k : ℕ) → k < i + 1 → (k < i → P k) → P i → P k
  last P i k h f p = ⊎_elim (λ e. subst P (sym e) p) (λ l. f (omega arith)) (eq-or-lt_of_le {n = k} {m = i} (omega arith))

  counted : (x far changed : Bool) (m n : ℕ) → (far ≡ true → x ≡ false) → m + cond changed 1 0 ≤ n → m + cond (x || far) 0 1 + cond (changed || far) 1 0 ≤ n + cond x 0 1
  counted true true changed m n f h = absurd (let e = f refl in cc)
  counted true false true m n f h = omega (arith, h)
  counted true false false m n f h = omega (arith, h)
  counted false true true m n f h = omega (arith, h)
  counted false true false m n f h = omega (arith, h)
  counted false false true m n f h = omega (arith, h)
  counted false false false m n f h = omega (arith, h)

  -- one item more, whose branch becomes long where it is far
  pub goes_on : (i : ℕ) (new : List Bool) (changed far : Bool) → i < length body.items → length old ≡ length body.items → IsPassTo app body old i new changed → IsFarMark app body (set_in_list old) i far
      → IsPassTo app body old (i + 1) (new ++ (set_in_list old i || far) ∷ []) (changed || far)
  goes_on i new changed far inside same so_far tells = record {
    count = length-append new ((set_in_list old i || far) ∷ []) ∙ ap (λ (n : ℕ). n + 1) so_far.count;
    forced = λ other s w k t h.
        last (λ (k : ℕ). IsBranchTo body k t → set_in_list (new ++ (set_in_list old i || far) ∷ []) k ≡ true → other k ≡ true) i k h
        (λ l p e. so_far.forced other s w k t l p (sym (get_or_append_left new ((set_in_list old i || far) ∷ []) false k (let c = so_far.count in omega (arith, c, l))) ∙ e))
        (λ p e. ⊎_elim
        (λ x. w i t p x)
        (λ x. let f = tells.yes x in by other s w f.0 f.1 f.3 (other i) refl)
        (or_cases (set_in_list old i) far (sym (get_or_push new (set_in_list old i || far) false i so_far.count) ∙ e)));
    near = λ e k h. let n = or_parts changed far e in
        last (λ (k : ℕ). (target : ℕ) → IsBranchTo body k target → set_in_list old k ≡ false → IsNear app body (set_in_list old) k target) i k h
        (λ l. so_far.near n.0 k l) (λ t p o. tells.no n.1 t p o);
    fewer =
        let a = sum_by_push (λ (b : Bool). cond {A = ℕ} b 0 1) new (set_in_list old i || far) in
        let b = sum_by_more (λ (b : Bool). cond {A = ℕ} b 0 1) old i false (omega arith) in
        let c = counted (set_in_list old i) far changed (short_count new) (sum_by (λ (b : Bool). cond {A = ℕ} b 0 1) (take i old)) (λ x. (tells.yes x).2) so_far.fewer in
        omega (arith, a, b, c);
  }
    where
      by : (other : BranchSet) → IsSufficient app body other → IsInSet body (set_in_list old) other → (t : ℕ) → IsBranchTo body i t → (IsNear app body (set_in_list old) i t → ⊥)
          → (b : Bool) → other i ≡ b → other i ≡ true
      by other s w t p far true e = e
      by other s w t p far false e = absurd (far (near-stays app body (set_in_list old) other w i t (s i t p e)))

  -- behind the last item the pass is whole
  pub ends : (new : List Bool) (changed : Bool) → length old ≡ length body.items → IsPassTo app body old (length body.items) new changed → IsPass app body old new changed
  ends new changed same so_far = record {
    count = so_far.count;
    forced = λ other s w k t p e. so_far.forced other s w k t (let q = so_far.count in let n = p.inside in omega (arith, n)) p e;
    done = λ e i t p o. so_far.near e i p.inside t p o;
    fewer = λ e.
        let w = ap short_count (take_all (length body.items) old (omega arith)) in
        let c : cond {A = ℕ} changed 1 0 ≡ 1 = ap (λ (b : Bool). cond {A = ℕ} b 1 0) e in
        let f = so_far.fewer in
        omega (arith, w, c, f);
  }

-- where a pass changes nothing, the set is the least one
pub shortest_of : (app : App) (body : Func) (long seen read new : List Bool) (changed : Bool) → seen ≡ long → read ≡ long
    → ((other : BranchSet) → IsSufficient app body other → IsInSet body (set_in_list long) other) → IsPass app body seen new changed → not changed ≡ true
    → (lengths : List ℕ) → AreItemLengths app body (set_in_list read) lengths → AreShortest app body lengths
shortest_of app body long seen read new changed s r least pass stays lengths are = record {
  long = set_in_list long;
  is_least = record {
    suffices = subst (λ (x : List Bool). IsSufficient app body (set_in_list x)) s (pass.done (not-true changed stays));
    least = least;
  };
  are_lengths = subst (λ (x : List Bool). AreItemLengths app body (set_in_list x) lengths) r are;
}
