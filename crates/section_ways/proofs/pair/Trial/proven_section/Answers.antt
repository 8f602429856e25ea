use Rattle.std.proofs.Common.{List, length, ap, sym, subst, arith}
use Rattle.walk_sums.specs.declared.standing.Point.{Point}
use Rattle.section_ways.specs.SectionWays.{IsSectionWay}
use Rattle.section_ways.proofs.pair.Trial.proven_section.Goals as goal

pub returns : goal.returns
returns c =
    let same = ap (λ (l : List Point). length l) (sym c.as_slice.ensures.value) in
    let count = c.has_items.ensures c.if-not-has_items.false in (
      subst (λ (l : List Point). IsSectionWay c.args.self.now.config c.args.self.now.app c.args.self.now.above c.args.self.now.task l) c.as_slice-2.ensures.value (c.in_ok-is_section_way.ensures c.if-not-branch.false),
      omega (arith, same, count),
    )
