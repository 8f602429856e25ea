-- One line more.
use Rattle.std.proofs.Common.{◌≡◌, ◌+◌, ◌∙◌, ℕ, List, [], ◌++◌, append-nil, append_assoc, refl, sym, ap}
use Rattle.std.proofs.Math.Numerals.{add-one}
use Rattle.sloth_base.specs.declared.config.Config.{Config}
use Rattle.sloth_base.specs.declared.limits.Bounds.{Bounds}
use Rattle.map_text.specs.MapText.{need_line, need_lines}

module _ (config : Config) (bounds : Bounds) where
  no_needs : need_lines config bounds 0 ≡ []
  unfolding need_lines
  no_needs = refl

  one_need_more : (k : ℕ) → need_lines config bounds (k + 1) ≡ need_lines config bounds k ++ need_line config bounds k
  unfolding need_lines
  one_need_more k = ap (need_lines config bounds) (add-one k)

  pub needs_begin : (text : List ℕ) → text ≡ text ++ need_lines config bounds 0
  needs_begin text = sym (append-nil text) ∙ ap (λ l. text ++ l) (sym no_needs)

  pub needs_more : (k : ℕ) (old text more : List ℕ) → text ≡ old ++ need_lines config bounds k → more ≡ text ++ need_line config bounds k
      → more ≡ old ++ need_lines config bounds (k + 1)
  needs_more k old text more before is =
      is ∙ ap (λ l. l ++ need_line config bounds k) before ∙ append_assoc old (need_lines config bounds k) (need_line config bounds k)
      ∙ ap (λ l. old ++ l) (sym (one_need_more k))
