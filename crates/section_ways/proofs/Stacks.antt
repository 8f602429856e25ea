-- Stacks that grow and shrink by their innermost function.
use Rattle.std.proofs.Common.{◌≡◌, ℕ, List, [], ◌∷◌, ◌++◌, refl}
use Rattle.sloth_base.specs.declared.config.Config.{Config}
use Rattle.sloth_base.specs.declared.app.App.{App}
use Rattle.osek_blocking.specs.Walks.{Position}
use Rattle.walk_sums.specs.declared.standing.Standing.{Standing}
use Rattle.walk_sums.specs.Positions.{place_of}
use Rattle.section_ways.specs.Standings.{is_raised_at, AreToldOn}
use Rattle.walk_sums.specs.Positions.{position_on}

-- the position of a stack with one more function
pub position_more : (outer : Position) (stack : List Standing) (s : Standing) → position_on outer (stack ++ s ∷ []) ≡ place_of s.point ∷ position_on outer stack
position_more outer [] s = refl
position_more outer (x ∷ inner) s = position_more (place_of x.point ∷ outer) inner s

module _ (config : Config) (app : App) (h t : ℕ) where
  pub told_more : (outer : Position) (stack : List Standing) (s : Standing) → AreToldOn config app h t outer stack
      → s.raised ≡ is_raised_at config app h t (position_on outer stack) → AreToldOn config app h t outer (stack ++ s ∷ [])
  told_more outer [] s all is = (is, tt)
  told_more outer (x ∷ inner) s all is = (all.0, told_more (place_of x.point ∷ outer) inner s all.1 is)

  -- of the others, and of the last one
  pub told_less : (outer : Position) (stack : List Standing) (s : Standing) → AreToldOn config app h t outer (stack ++ s ∷ [])
      → AreToldOn config app h t outer stack × (s.raised ≡ is_raised_at config app h t (position_on outer stack))
  told_less outer [] s all = (tt, all.0)
  told_less outer (x ∷ inner) s all = let r = told_less (place_of x.point ∷ outer) inner s all.1 in ((all.0, r.0), r.1)
