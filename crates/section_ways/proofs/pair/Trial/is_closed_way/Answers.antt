use Rattle.std.proofs.Common.{◌≡◌, List, ap, sym, ◌∙◌, arith, rules}
use Rattle.walk_sums.specs.declared.standing.Standing.{Standing}
use Rattle.walk_sums.specs.Positions.{position_of}
use Rattle.section_ways.specs.Standings.{IsStart}
use Rattle.section_ways.proofs.Closing.{closed}
use Rattle.section_ways.proofs.pair.Trial.is_closed_way.Goals as goal

pub is_section-requires : goal.is_section-requires
is_section-requires c =
    let t = c.args.self.now in
    let start : IsStart t.config t.app t.above t.task c.in-Some.stack.items = search rules in
    start.told

pub returns-clause-closed : goal.returns-clause-closed
returns-clause-closed c = λ same.
    let t = c.args.self.now in
    let several = c.if-points-lt2.false in
    let start : IsStart t.config t.app t.above t.task c.in-Some.stack.items = search rules in
    let first : c.as_slice-3.result.now ≡ c.in-Some.stack.items = search rules in
    let last : c.as_slice-2.result.now ≡ c.is_section.new.stack.items = search rules in
    closed t.config t.app t.above t.task c.in-Some.stack.items c.is_section.new.stack.items c.args.points.now start
    (c.in_ok-is_section.ensures c.if-not-branch.false)
    (ap (λ (s : List Standing). position_of s) (sym last) ∙ c.is_standing.ensures same ∙ ap (λ (s : List Standing). position_of s) first)
    (omega (arith, several))
