use Rattle.std.proofs.Common.{get_or, refl, arith}
use Rattle.sloth_base.specs.declared.image.Mark.{Mark}
use Rattle.sloth_base.specs.declared.image.MarkKind.TheVariants as kind
use Rattle.observe.proofs.Marking.{numbers_placed}
use Rattle.observe.proofs.image_view.MarkTable.of.Goals as goal

-- an element of the loop is read so
abbrev no_mark : Mark
no_mark = record { address = 0; kind = kind.Item; a = 0; b = 0; c = 0 }

pub loop-index-preserved : goal.loop-index-preserved
loop-index-preserved c =
    let marks = c.args.marks.now in
    let i = c.loop-index.index in
    numbers_placed marks c.in-Some.first.now.address i c.loop-index.numbers.items c.place_number.new.numbers.items (get_or marks i no_mark) no_mark
    c.entry_place.result (omega arith) refl c.entry_place.ensures (c.place_number.ensures c.if-not-place_number.false) c.loop-index.invariant
