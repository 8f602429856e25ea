use Rattle.std.proofs.Common.{List, get_or, sym, subst}
use Rattle.std.proofs.lemmas.Result.{IfOk-weaker}
use Rattle.walk_sums.specs.declared.standing.Standing.{Standing}
use Rattle.walk_sums.specs.Positions.{no_point}
use Rattle.section_ways.specs.Standings.{AreTold, IsRaisedAt, IsStretch}
use Rattle.section_ways.proofs.pair.Trial.is_section.Goals as goal

pub goes_through-requires-clause-told : goal.goes_through-requires-clause-told
goes_through-requires-clause-told c =
    subst (AreTold c.args.self.now.config c.args.self.now.app c.args.self.now.above c.args.self.now.task) (sym (c.in_ok-is_there.ensures c.if-not-branch.false).0) c.requires

pub goes_through-requires-clause-at : goal.goes_through-requires-clause-at
goes_through-requires-clause-at c =
    let there = c.in_ok-is_there.ensures c.if-not-branch.false in
    subst (λ (s : List Standing). IsRaisedAt c.args.self.now.config c.args.self.now.app c.args.self.now.above c.args.self.now.task s (get_or c.args.points.now 0 no_point)) (sym there.0) there.1

pub returns : goal.returns
returns c =
    IfOk-weaker c.goes_through.result _ _ (λ goes is on.
    subst (λ (s : List Standing). IsStretch c.args.self.now.config c.args.self.now.app c.args.self.now.above c.args.self.now.task s c.goes_through.new.stack.items c.args.points.now) (c.in_ok-is_there.ensures c.if-not-branch.false).0 (is on))
    c.goes_through.ensures
