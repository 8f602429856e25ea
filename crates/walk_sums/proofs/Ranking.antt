-- The order of the functions, by their ranks.
use Rattle.std.proofs.Common.{◌≡◌, ℕ, ◌+◌, ◌<◌, ◌≤◌, Bool, true, false, leb, ◌⊎◌, inl, inr, List, [], ◌∷◌, ◌++◌, length, get_or, set, take, cond, Option, Some, None, refl, ap, sym, ◌∙◌, subst, arith, ⊎_elim}
use Rattle.std.proofs.lemmas.Bool.{cases_eq, cases_lt, true≢false, false≢true}
use Rattle.std.proofs.lemmas.Bool.Decides.{leb_tells}
use Rattle.std.proofs.lemmas.List.{length-set, length-append, get_or_append_left, take-append-le, get_or_past}
use Rattle.std.proofs.Math.Seq.{get_or-append_seam, take-append_seam}
use Rattle.sloth_base.specs.declared.app.App.{App}
use Rattle.code_rules.specs.Code.{is_in, HasCall}
use Rattle.call_graph.specs.declared.lists.Ranks.{Ranks}
use Rattle.call_graph.specs.Ranks.{RanksOf}
use Rattle.walk_sums.specs.Graph.{HasMark}
use Rattle.walk_sums.specs.CallOrder.{IsCallOrder, IsLeastRank, lesser_of, lesser}
use Rattle.walk_sums.proofs.CallOrdering.{IsOrdering}
use Rattle.walk_sums.proofs.Diving.{at_end, in_front, front_or_end, has_more, has_now, has_before}

module _ (ranks : List ℕ) (done : List Bool) (n : ℕ) where
  below : (g : ℕ) → g < n + 1 → (g < n) ⊎ (g ≡ n)
  below g lt = ⊎_elim inl (λ le. inr (omega (arith, lt, le))) (cases_lt g n)

  -- one more function
  pub least_more : (best : Option ℕ) → IsLeastRank ranks done n best → IsLeastRank ranks done (n + 1) (lesser ranks done best n)
  least_more best l = by (get_or done n false) refl best l
    where
      marked : (best : Option ℕ) → HasMark done n → IsLeastRank ranks done n best → IsLeastRank ranks done (n + 1) best
      marked None h l = λ g lt. ⊎_elim (l g) (λ e. subst (HasMark done) (sym e) h) (below g lt)
      marked (Some f) h l =
          let lt = l.0 in
          (omega (arith, lt), l.1, λ g less undone. ⊎_elim (λ k. l.2 g k undone) (λ e. absurd (true≢false (sym h ∙ (ap (λ x. get_or done x false) (sym e) ∙ undone)))) (below g less))

      undone_best : (best : Option ℕ) → get_or done n false ≡ false → IsLeastRank ranks done n best → IsLeastRank ranks done (n + 1) (lesser_of ranks best n)
      undone_best None h l = (omega arith, h, λ g lt not_done. ⊎_elim (λ k. absurd (true≢false (sym (l g k) ∙ not_done))) (λ e. subst (λ x. get_or ranks n 0 ≤ get_or ranks x 0) (sym e) (omega arith)) (below g lt))
      undone_best (Some f) h l = at (leb_tells (get_or ranks f 0) (get_or ranks n 0))
        where
          at : ((leb (get_or ranks f 0) (get_or ranks n 0) ≡ true) × (get_or ranks f 0 ≤ get_or ranks n 0))
              ⊎ ((leb (get_or ranks f 0) (get_or ranks n 0) ≡ false) × (get_or ranks n 0 < get_or ranks f 0))
              → IsLeastRank ranks done (n + 1) (cond (leb (get_or ranks f 0) (get_or ranks n 0)) (Some f) (Some n))
          at (inl t) =
              let lt = l.0 in
              let P : Bool → Type 0 = λ b. IsLeastRank ranks done (n + 1) (cond b (Some f) (Some n)) in
              subst P (sym t.0) (
                omega (arith, lt),
                l.1,
                λ g less undone. ⊎_elim (λ k. l.2 g k undone) (λ e. subst (λ x. get_or ranks f 0 ≤ get_or ranks x 0) (sym e) t.1) (below g less),
              )
          at (inr t) =
              let less = t.1 in
              let P : Bool → Type 0 = λ b. IsLeastRank ranks done (n + 1) (cond b (Some f) (Some n)) in
              subst P (sym t.0) (
                omega arith,
                h,
                λ g lt undone. ⊎_elim (λ k. let le = l.2 g k undone in omega (arith, le, less)) (λ e. subst (λ x. get_or ranks n 0 ≤ get_or ranks x 0) (sym e) (omega arith)) (below g lt),
              )

      by : (b : Bool) → get_or done n false ≡ b → (best : Option ℕ) → IsLeastRank ranks done n best → IsLeastRank ranks done (n + 1) (cond (get_or done n false) best (lesser_of ranks best n))
      by true e best l = let P : Bool → Type 0 = λ b. IsLeastRank ranks done (n + 1) (cond b best (lesser_of ranks best n)) in subst P (sym e) (marked best e l)
      by false e best l = let P : Bool → Type 0 = λ b. IsLeastRank ranks done (n + 1) (cond b best (lesser_of ranks best n)) in subst P (sym e) (undone_best best e l)

module _ (app : App) (ranks : Ranks) (belong : RanksOf app ranks) (known : (f g : ℕ) → HasCall app f g → g < length app.funcs) (done : List Bool) (order : List ℕ)
    (o : IsOrdering app done order) where
  -- the function of least rank is put behind the others
  pub one_more : (f : ℕ) → IsLeastRank ranks.rank done (length ranks.rank) (Some f) → IsOrdering app (set done f true) (order ++ f ∷ [])
  one_more f l = record {
    count = length-set done f true ∙ o.count;
    listed = λ g h. ⊎_elim
        (λ e. subst (λ (y : ℕ). is_in y (order ++ f ∷ []) ≡ true) (sym e) (at_end f order))
        (λ n. in_front g f order (o.listed g (has_before done f g n h)))
        (cases_eq g f);
    ordered = λ g h. ⊎_elim
        (λ k. let d = o.ordered g k in (d.0, has_more done f g d.1))
        (λ e. (subst (λ (y : ℕ). y < length app.funcs) e there, subst (HasMark (set done f true)) e here))
        (front_or_end g f order h);
    behind = λ k g lt calls. at k g (cases_lt k (length order)) (subst (λ n. k < n) (length-append order (f ∷ [])) lt) calls;
  }
    where
      there : f < length app.funcs
      there = let lt = l.0 in let c = belong.covers.rank in omega (arith, lt, c)

      here : HasMark (set done f true) f
      here = has_now done f (let t = there in let c = o.count in omega (arith, t, c))

      called : (g : ℕ) → HasCall app f g → is_in g order ≡ true
      called g calls = by (get_or done g false) refl
        where
          by : (b : Bool) → get_or done g false ≡ b → is_in g order ≡ true
          by true e = o.listed g e
          by false e =
              let less = belong.above f g calls in
              let k = known f g calls in
              let c = belong.covers.rank in
              let le = l.2 g (omega (arith, k, c)) e in
              absurd (omega (arith, less, le))

      at : (k g : ℕ) → (k < length order) ⊎ (length order ≤ k) → k < length order + 1 → HasCall app (get_or (order ++ f ∷ []) k 0) g
          → is_in g (take k (order ++ f ∷ [])) ≡ true
      at k g (inl lt) less calls =
          ap (is_in g) (take-append-le k order (f ∷ []) (omega (arith, lt)))
          ∙ o.behind k g lt (subst (λ v. HasCall app v g) (get_or_append_left order (f ∷ []) 0 k lt) calls)
      at k g (inr ge) less calls =
          let e : k ≡ length order = omega (arith, ge, less) in
          let P : ℕ → Type 0 = λ v. HasCall app (get_or (order ++ f ∷ []) v 0) g → is_in g (take v (order ++ f ∷ [])) ≡ true in
          subst P (sym e) (λ calls. ap (is_in g) (take-append_seam order (f ∷ []))
          ∙ called g (subst (λ v. HasCall app v g) (get_or-append_seam order f [] 0) calls)) calls

  -- all are done
  pub all_done : IsLeastRank ranks.rank done (length ranks.rank) None → IsCallOrder app order
  all_done l = record {
    all = λ f lt. o.listed f (l f (let c = belong.covers.rank in omega (arith, lt, c)));
    inside = λ f h. (o.ordered f h).0;
    behind = o.behind;
  }

-- none is done
pub none_done : (app : App) (done : List Bool) (order : List ℕ) → length done ≡ length app.funcs → ((i : ℕ) → i < length app.funcs → get_or done i false ≡ false)
    → order ≡ [] → IsOrdering app done order
none_done app done order count clear none = subst (IsOrdering app done) (sym none) (record {
  count = count;
  listed = λ f h. absurd (false≢true (sym (⊎_elim (λ lt. clear f lt) (λ le. get_or_past done f false (omega (arith, le, count))) (cases_lt f (length app.funcs))) ∙ h));
  ordered = λ f h. absurd (false≢true h);
  behind = λ k g lt. absurd (omega (arith, lt));
})
