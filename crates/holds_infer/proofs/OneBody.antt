-- The lists of the labels are determined.
use Rattle.std.proofs.Common.{◌≡◌, ℕ, suc, ◌<◌, ◌≤◌, Bool, true, false, inl, inr, List, [], ◌∷◌, length, Some, refl, sym, ap, ◌∙◌, subst, arith, ⊎_elim}
use Rattle.std.specs.Prelude.{◌≢◌}
use Rattle.std.specs.Str.{bytes_eq}
use Rattle.std.proofs.lemmas.Bool.{cases_lt, true≢false}
use Rattle.std.proofs.lemmas.Slice.Eq.{bytes_eq-Decides}
use Rattle.sloth_base.specs.declared.app.Func.{Func}
use Rattle.sloth_base.specs.declared.app.Item.{Item}
use Rattle.sloth_base.specs.Named.{label_of, item_of}
use Rattle.code_rules.specs.Code.{is_followed, way, held_list_at, held_after, IsPathStep, IsPath}
use Rattle.task_verify.proofs.Paths.{goes_from_inside}
use Rattle.holds_infer.specs.Filling.{bare_func}
use Rattle.holds_infer.specs.RightLists.{HasRightLists}
use Rattle.holds_infer.proofs.Held.{held_first, held_falls, held_of_label, held_turns}
use Rattle.holds_infer.proofs.Bare.{items_same, item_same, place_same, count_same, body_same}

-- lists that are not different are the same
pub stable : (xs ys : List ℕ) → ¬ (xs ≢ ys) → xs ≡ ys
stable xs ys h = by (bytes_eq xs ys) refl
  where
    by : (b : Bool) → bytes_eq xs ys ≡ b → xs ≡ ys
    by true e = (bytes_eq-Decides xs ys).0 e
    by false e = absurd (h (λ same. true≢false (sym ((bytes_eq-Decides xs ys).1 same) ∙ e)))

module _ (f g : Func) (same : bare_func f ≡ bare_func g) (one : HasRightLists f) (other : HasRightLists g) where
  goes_alike : (i j : ℕ) → IsPathStep f i j → held_list_at f i ≡ held_list_at g i → held_list_at f j ≡ held_list_at g j
  goes_alike i j (inl a) e =
      let next = a.1 in
      let up : j ≡ suc i = omega (arith, next) in
      subst (λ (x : ℕ). held_list_at f x ≡ held_list_at g x) (sym up)
      (held_falls f one i a.0
      ∙ ap (held_after (item_of f i).op) e
      ∙ ap (λ (x : Item). held_after x.op (held_list_at g i)) (item_same f g same i)
      ∙ sym (held_falls g other i (ap (λ (x : Item). is_followed x.op) (sym (item_same f g same i)) ∙ a.0)))
  goes_alike i j (inr a) e =
      let l = goes_from_inside f i j (inr a) in
      let way_g : way (item_of g i).op ≡ Some a.0 = ap (λ (x : Item). way x.op) (sym (item_same f g same i)) ∙ a.1 in
      let m : i < length g.items = subst (λ (x : List Item). i < length x) (items_same f g same) l in
      let at_f : j ≡ (label_of f a.0).item = a.2 in
      let at_g : j ≡ (label_of g a.0).item = a.2 ∙ place_same f g same a.0 in
      ap (held_list_at f) at_f ∙ held_turns f one i a.0 l a.1 ∙ e ∙ sym (held_turns g other i a.0 m way_g) ∙ ap (held_list_at g) (sym at_g)

  path_alike : (i j : ℕ) (between : List ℕ) → IsPath f i between j → held_list_at f i ≡ held_list_at g i → held_list_at f j ≡ held_list_at g j
  path_alike i j [] p e = subst (λ (x : ℕ). held_list_at f x ≡ held_list_at g x) p e
  path_alike i j (k ∷ between) p e = path_alike k j between p.1 (goes_alike i k p.0 e)

  pub held_alike : (i : ℕ) → i < length f.items → held_list_at f i ≡ held_list_at g i
  held_alike i l = stable (held_list_at f i) (held_list_at g i)
      (λ differ. one.reached i l (λ between p. differ (path_alike 0 i between p (held_first f one ∙ sym (held_first g other)))))

  list_alike : (k : ℕ) → k < length f.labels → (label_of f k).holds ≡ (label_of g k).holds
  list_alike k l = ⊎_elim
      (λ inside.
      let m : k < length g.labels = subst (λ (n : ℕ). k < n) (count_same f g same) l in
      sym (held_of_label f one k l) ∙ held_alike (label_of f k).item inside
      ∙ ap (held_list_at g) (place_same f g same k) ∙ held_of_label g other k m)
      (λ behind.
      let past : length g.items ≤ (label_of g k).item =
      subst (λ (n : ℕ). length g.items ≤ n) (place_same f g same k) (subst (λ (x : List Item). length x ≤ (label_of f k).item) (items_same f g same) behind) in
      one.clear k behind ∙ sym (other.clear k past))
      (cases_lt (label_of f k).item (length f.items))

  -- two bodies with right lists, and else the same, are the same
  pub one_body : f ≡ g
  one_body = body_same f g same list_alike
