use Rattle.std.proofs.lemmas.Result.{IfOk-weaker}
use Rattle.section_ways.proofs.Advances.{advanced_as, told_parts}
use Rattle.section_ways.proofs.pair.Trial.advance.Goals as goal

pub advance_inner-requires-clause-told : goal.advance_inner-requires-clause-told
advance_inner-requires-clause-told c =
    (told_parts c.args.self.now.config c.args.self.now.app c.args.self.now.above c.args.self.now.task c.args.stack.now.items c.pop.new.self.items c.in-Some.at c.in-Some.ensures.items c.requires).0

pub advance_inner-requires-clause-raised : goal.advance_inner-requires-clause-raised
advance_inner-requires-clause-raised c =
    (told_parts c.args.self.now.config c.args.self.now.app c.args.self.now.above c.args.self.now.task c.args.stack.now.items c.pop.new.self.items c.in-Some.at c.in-Some.ensures.items c.requires).1

pub returns : goal.returns
returns c =
    IfOk-weaker c.advance_inner.result _ _ (λ goes step on.
    advanced_as c.args.self.now.config c.args.self.now.app c.args.self.now.above c.args.self.now.task c.args.stack.now.items c.pop.new.self.items c.advance_inner.new.stack.items c.in-Some.at c.args.to c.in-Some.ensures.items (step on))
    c.advance_inner.ensures
