use Rattle.std.proofs.Common.{◌<◌, ◌^◌, arith, rules}
use Rattle.symbol_image.proofs.Groups.{begun-first, begun-more, ended}
use Rattle.symbol_image.proofs.fields.put_groups.Goals as goal

pub loop-rest-init : goal.loop-rest-init
loop-rest-init c =
    let small : c.args.number < 2 ^ 32 = omega arith in
    begun-first c.args.limit c.args.section.now.items c.args.number c.requires.0 small

pub loop-rest-preserved : goal.loop-rest-preserved
loop-rest-preserved c =
    begun-more c.args.limit c.args.section.now.items c.loop-rest.section.items _ c.args.number c.loop-rest.rest c.loop-rest.invariant
    (omega arith) (search rules)

pub returns : goal.returns
returns c =
    ended c.args.limit c.args.section.now.items c.loop-rest.section.items _ c.args.number c.loop-rest.rest c.loop-rest.invariant (omega arith)
    (search rules)
