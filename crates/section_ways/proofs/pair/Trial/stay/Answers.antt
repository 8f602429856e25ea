use Rattle.std.proofs.Common.{◌≡◌, false, refl, subst}
use Rattle.sloth_base.specs.declared.app.App.{App}
use Rattle.sloth_base.specs.Named.{function, item_of}
use Rattle.code_rules.specs.Code.{IsPathStep}
use Rattle.osek_blocking.specs.Walks.{chains_itself}
use Rattle.section_ways.proofs.Advances.{stayed_as}
use Rattle.section_ways.proofs.pair.Trial.stay.Goals as goal

pub returns : goal.returns
returns c = λ _.
    let goes = c.if-not-goes_inside.false in
    let from = c.args.at.point in
    let path = subst (λ (a : App). IsPathStep (function a from.func) from.item c.args.to.item) c.app.ensures.is (c.goes_inside.ensures.path goes) in
    let stays = subst (λ (a : App). chains_itself (function a from.func) (item_of (function a from.func) from.item).op ≡ false) c.app.ensures.is (c.goes_inside.ensures.stays goes) in
    stayed_as c.args.self.now.config c.args.self.now.app c.args.self.now.above c.args.self.now.task c.args.stack.now.items c.push.new.list.items c.args.at
    (record { point = c.args.to; raised = c.args.at.raised }) c.args.op c.in_ok-push.ensures c.requires.item c.requires.plain
    (c.goes_inside.ensures.same goes) path stays refl c.requires.told c.requires.raised
