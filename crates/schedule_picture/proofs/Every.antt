-- One lane more that changes.
use Rattle.std.proofs.Common.{◌≡◌, ◌<◌, ◌+◌, ◌∙◌, inl, inr, ℕ, List, [], ◌∷◌, ◌++◌, length, get_or, set, refl, sym, subst, arith}
use Rattle.std.proofs.lemmas.Bool.Decides.{leb_tells}
use Rattle.std.proofs.lemmas.List.{get_or-set_same, get_or-set_other, length-set, get_or_append_left}
use Rattle.std.proofs.Math.Seq.{get_or-append_seam}
use Rattle.lane_drawing.specs.Strips.{Lane, empty_lane}
use Rattle.schedule_picture.specs.Lanes.{HaveChanged}

module _ (P : (lane : ℕ) (old new : Lane) → Type 0) where
  pub changed_none : (lanes : List Lane) → HaveChanged P 0 lanes lanes
  changed_none lanes = record { lanes = refl; changed = λ lane below. absurd (omega (arith, below)); kept = λ lane past. refl }

  pub changed_more : (k : ℕ) (old now : List Lane) (lane : Lane) → HaveChanged P k old now → k < length old → P k (get_or now k empty_lane) lane
      → HaveChanged P (k + 1) old (set now k lane)
  changed_more k old now lane h inside this = record {
    lanes = length-set now k lane ∙ h.lanes;
    changed = λ j below. elim (leb_tells k j) [
      | inl t ↦ (let l = t.1 in
          let at : j ≡ k = omega (arith, below, l) in
          let there = h.lanes in
          let new : get_or (set now k lane) k empty_lane ≡ lane = get_or-set_same now k lane empty_lane (omega (arith, inside, there)) in
          let Q : Lane → Type 0 = λ x. P k (get_or old k empty_lane) x in
          let R : ℕ → Type 0 = λ n. P n (get_or old n empty_lane) (get_or (set now k lane) n empty_lane) in
          let S : Lane → Type 0 = λ x. P k x lane in
          subst R (sym at) (subst Q (sym new) (subst S (h.kept k (omega arith)) this)))
      | inr t ↦ (let l = t.1 in
          let Q : Lane → Type 0 = λ x. P j (get_or old j empty_lane) x in
          subst Q (sym (get_or-set_other now k j lane empty_lane (λ e. absurd (omega (arith, l, e))))) (h.changed j l))
    ];
    kept = λ j past. get_or-set_other now k j lane empty_lane (λ e. absurd (omega (arith, past, e))) ∙ h.kept j (omega (arith, past));
  }

-- what holds of each of some lanes and of one more holds of each of them all
pub each_more : (P : Lane → Type 0) (k : ℕ) (lanes more : List Lane) (lane : Lane) → length lanes ≡ k → more ≡ lanes ++ lane ∷ []
    → ((j : ℕ) → j < k → P (get_or lanes j empty_lane)) → P lane → (j : ℕ) → j < k + 1 → P (get_or more j empty_lane)
each_more P k lanes more lane counted is each this j below =
    let Q : List Lane → Type 0 = λ l. P (get_or l j empty_lane) in
    subst Q (sym is) (elim (leb_tells k j) [
      | inl t ↦ (let l = t.1 in
          let at : length lanes ≡ j = omega (arith, below, l, counted) in
          let R : ℕ → Type 0 = λ n. P (get_or (lanes ++ lane ∷ []) n empty_lane) in
          subst R at (subst P (sym (get_or-append_seam lanes lane [] empty_lane)) this))
      | inr t ↦ (let l = t.1 in subst P (sym (get_or_append_left lanes (lane ∷ []) empty_lane j (omega (arith, l, counted)))) (each j l))
    ])
