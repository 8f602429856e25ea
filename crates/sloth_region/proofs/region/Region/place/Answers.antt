use Rattle.std.proofs.Common.{◌≡◌, List, take, set, [], ◌∷◌, ◌++◌, ◌+◌, ◌<◌, sym, ap, subst, ◌∙◌, arith}
use Rattle.std.proofs.lemmas.List.{take_more_set}
use Rattle.std.proofs.lemmas.Grind.{common_steps}
use Rattle.sloth_region.specs.declared.region.Extent.{Extent}
use Rattle.sloth_region.specs.Region.{first_free_address, FollowWithin}
use Rattle.sloth_region.proofs.Placed.{first_free-append, follow-append}
use Rattle.sloth_region.proofs.region.Region.place.Goals as goal

pub invariant_of-self : goal.invariant_of-self
invariant_of-self c =
    let i = c.self.inside in
    let e : Extent = record { base = i.free + c.if-past-eq0.gap; len = c.args.len } in
    let taken = take i.count i.extents in
    let room : i.count < 96 = grind (arith, common_steps) in
    let more : take (i.count + 1) (set i.extents i.count e) ≡ taken ++ e ∷ [] = take_more_set i.extents i.count e (omega arith) in
    let free = c.self.invariant.3 in
    let follows = c.self.invariant.4 in (
      omega arith,
      c.self.invariant.1,
      omega arith,
      sym (ap (first_free_address i.base) more ∙ first_free-append i.base taken e),
      (let P : List Extent → Type 0 = λ l. FollowWithin i.base (i.base + i.len) l in
          subst P (sym more) (follow-append i.base (i.base + i.len) taken e follows (omega arith) (omega arith) (omega arith))),
    )
