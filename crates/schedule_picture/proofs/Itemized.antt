-- The first and the last item, one count after the other.
use Rattle.std.proofs.Common.{◌≡◌, ◌<◌, ◌≤◌, ◌+◌, ◌-◌, ◌∙◌, ℕ, zero, suc, List, Option, Some, None, get_or, refl, sym, ap, arith}
use Rattle.std.specs.Option.{option_or}
use Rattle.sloth_base.specs.declared.image.Image.{Image}
use Rattle.sloth_base.specs.declared.image.Mark.{Mark}
use Rattle.schedule_picture.specs.Items.{address_item, first_item, last_item}

module _ (image : Image) (addresses : List ℕ) where
  first-suc : (from n : ℕ) → first_item image addresses from (suc n) ≡ option_or (address_item image (get_or addresses from 0)) (first_item image addresses (from + 1) n)
  unfolding first_item
  first-suc from n = refl

  last-suc : (from n : ℕ) → last_item image addresses from (suc n) ≡ option_or (address_item image (get_or addresses (from + n) 0)) (last_item image addresses from n)
  unfolding last_item
  last-suc from n = refl

  first-zero : (from : ℕ) → first_item image addresses from 0 ≡ None
  unfolding first_item
  first-zero from = refl

  last-zero : (from : ℕ) → last_item image addresses from 0 ≡ None
  unfolding last_item
  last-zero from = refl

  pub first_none : (from place to : ℕ) → to ≤ place → first_item image addresses from (to - place) ≡ None
  first_none from place to past = let n : to - place ≡ 0 = omega (arith, past) in ap (first_item image addresses from) n ∙ first-zero from

  pub last_none : (from to behind : ℕ) → to - from ≤ behind → last_item image addresses from (to - from - behind) ≡ None
  last_none from to behind past = let n : to - from - behind ≡ 0 = omega (arith, past) in ap (last_item image addresses from) n ∙ last-zero from

  -- the first count is an item's, or not
  pub first_here : (place to : ℕ) (found : Option Mark) → place < to → found ≡ address_item image (get_or addresses place 0)
      → first_item image addresses place (to - place) ≡ option_or found (first_item image addresses (place + 1) (to - (place + 1)))
  first_here place to found below is =
      let n : to - place ≡ suc (to - (place + 1)) = omega (arith, below) in
      ap (first_item image addresses place) n ∙ first-suc place (to - (place + 1))
      ∙ ap (λ o. option_or o (first_item image addresses (place + 1) (to - (place + 1)))) (sym is)

  -- and the last one
  pub last_here : (from to behind : ℕ) (found : Option Mark) → behind < to - from → found ≡ address_item image (get_or addresses (to - 1 - behind) 0)
      → last_item image addresses from (to - from - behind) ≡ option_or found (last_item image addresses from (to - from - (behind + 1)))
  last_here from to behind found below is =
      let n : to - from - behind ≡ suc (to - from - (behind + 1)) = omega (arith, below) in
      let there : from + (to - from - (behind + 1)) ≡ to - 1 - behind = omega (arith, below) in
      ap (last_item image addresses from) n ∙ last-suc from (to - from - (behind + 1))
      ∙ ap (λ o. option_or o (last_item image addresses from (to - from - (behind + 1)))) (ap (λ p. address_item image (get_or addresses p 0)) there ∙ sym is)
