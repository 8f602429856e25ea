use Rattle.std.proofs.Common.{rules}
use Rattle.std.proofs.lemmas.Result.{IfOk-weaker}
use Rattle.section_ways.specs.Standings.{IsStart}
use Rattle.section_ways.proofs.Closing.{section_way}
use Rattle.section_ways.proofs.pair.Trial.is_section_way.Goals as goal

pub is_section-requires : goal.is_section-requires
is_section-requires c =
    let t = c.args.self.now in
    let start : IsStart t.config t.app t.above t.task c.in-Some.stack.items = search rules in
    start.told

pub returns : goal.returns
returns c =
    let t = c.args.self.now in
    let start : IsStart t.config t.app t.above t.task c.in-Some.stack.items = search rules in
    IfOk-weaker c.is_section.result _ _ (λ is stretch on.
    section_way t.config t.app t.above t.task c.in-Some.stack.items c.is_section.new.stack.items c.args.points.now c.walked_stack.ensures.lower start (stretch on))
    c.is_section.ensures
