use Rattle.sloth_base.specs.declared.image.Mark.{Mark}
use Rattle.std.proofs.lemmas.Bool.{true≢false}
use Rattle.image_file.proofs.Failing.{none_unless}
use Rattle.image_file.proofs.Marked.{mark_stands, no_kind, no_mark}
use Rattle.std.proofs.Common.{refl, sym, ◌∙◌, ◌≢◌, ◌+◌}
use Rattle.std.proofs.Common.{drop, slice_index_or}
use Rattle.image_file.specs.ImageText.{kind_number}
use Rattle.sloth_base.specs.declared.image.MarkKind.{MarkKind as KindOfMark}
use Rattle.image_file.proofs.header.read_mark.Goals as goal

pub returns-in_err-kind-clause-none : goal.returns-in_err-kind-clause-none
returns-in_err-kind-clause-none c =
    let none : (kind : KindOfMark) → kind_number kind ≢ slice_index_or c.args.bytes.now (c.args.at + 4) 0 = c.in_err-kind.ensures.none in
    rw c.from_residual.ensures (λ m rest right e. no_kind c.args.bytes.now c.args.at none m rest e)

pub returns-clause-none : goal.returns-clause-none
returns-clause-none c =
    let file = c.args.bytes.now in
    let at = c.args.at in
    let inside = c.requires.within in
    let m : Mark = record { address = c.read_u32.result; kind = c.in_ok-kind.kind; a = slice_index_or file (at + 5) 0; b = c.read_u16.result; c = c.read_u32-2.result } in
    let stands = mark_stands file at m inside c.read_u32.ensures.stands c.in_ok-kind.ensures.some refl c.read_u16.ensures.stands c.read_u32-2.ensures.stands in
    rw c.then_some.ensures (none_unless c.is_mark.result m (λ wrong. no_mark file at c.args.services c.args.funcs c.args.size m (drop (at + 12) file) c.requires.few c.requires.fits
    (record { address = c.read_u32.type_inv; b = c.read_u16.type_inv; c = c.read_u32-2.type_inv }) stands
    (λ right. true≢false (sym (c.is_mark.ensures.1 right) ∙ wrong))))
