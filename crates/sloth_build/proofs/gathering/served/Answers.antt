use Rattle.std.proofs.Common.{◌∙◌, sym, subst}
use Rattle.sloth_base.specs.Blocks.{block_object}
use Rattle.service_gen.specs.Calls.{IsCalledWith}
use Rattle.sloth_build.proofs.Places.{some_same, served_at}
use Rattle.sloth_build.proofs.gathering.served.Goals as goal

pub returns : goal.returns
returns c =
    let b = c.block.ensures in
    let h = c.requires.served in
    let is = sym c.block_service.ensures ∙ c.in-Some.is in
    let same = some_same h.service c.in-Some.service (sym h.is ∙ is) in
    served_at c.args.config.now c.args.levels.now c.args.map.now c.args.place c.block_object.result c.in-Some.service c.block.result is
    c.block_object.ensures (subst (λ s. IsCalledWith c.args.config.now s (block_object c.args.place)) same h.called_with) b.block b.serves
