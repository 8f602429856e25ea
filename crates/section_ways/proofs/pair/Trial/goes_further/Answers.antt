use Rattle.std.proofs.Common.{◌≡◌, false, subst}
use Rattle.std.proofs.lemmas.Result.{IfOk-weaker}
use Rattle.sloth_base.specs.declared.app.App.{App}
use Rattle.sloth_base.specs.Named.{operation}
use Rattle.osek_blocking.specs.Sections.{is_schedule}
use Rattle.section_ways.proofs.Advances.{section_step_as}
use Rattle.section_ways.proofs.pair.Trial.goes_further.Goals as goal

pub is_there-requires : goal.is_there-requires
is_there-requires c = (c.in_ok-advance.ensures c.if-not-branch.false).told

pub returns : goal.returns
returns c =
    IfOk-weaker c.is_there.result _ _ (λ stands is on.
    let there = is on in
    let goes = subst (λ (a : App). is_schedule (operation a c.args.from.func c.args.from.item) ≡ false) c.app.ensures.is (c.is_calm.ensures c.if-not-is_calm.false) in
    section_step_as c.args.self.now.config c.args.self.now.app c.args.self.now.above c.args.self.now.task c.args.stack.now.items c.advance.new.stack.items c.is_there.new.stack.items c.args.from c.args.to
    goes c.requires.at (c.in_ok-advance.ensures c.if-not-branch.false) there.0 there.1)
    c.is_there.ensures
