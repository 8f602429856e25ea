use Rattle.std.proofs.Common.{subst}
use Rattle.sloth_region.specs.Region.{Area, AreApartWithin}
use Rattle.sloth_region.proofs.Placed.{apart_within}
use Rattle.sloth_region.proofs.region.Region.extents.Goals as goal

pub returns-clause-apart : goal.returns-clause-apart
returns-clause-apart c =
    let P : Area → Type 0 = λ a. AreApartWithin a.base a.end a.placed in
    subst P c.self.view_is (apart_within _ _ _ c.self.invariant.4)
