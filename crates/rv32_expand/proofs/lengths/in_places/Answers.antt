use Rattle.std.proofs.Common.{◌∙◌, List, set, sym, ap, subst, arith}
use Rattle.rv32_instr.specs.declared.InstrKind.{InstrKind}
use Rattle.rv32_instr.specs.Range.{InRange}
use Rattle.rv32_expand.proofs.Filling.{filled, one_in_range, one_filled}
use Rattle.rv32_expand.proofs.lengths.in_places.Goals as goal

pub of-requires : goal.of-requires
of-requires c =
    subst InRange (sym c.index-kinds-index.is) (one_in_range c.args.kinds.now c.loop-index.index c.index-kinds-index.result c.requires.in_range (omega arith))

pub loop-index-preserved : goal.loop-index-preserved
loop-index-preserved c =
    let kinds = c.args.kinds.now in
    let i = c.loop-index.index in
    ap (λ (xs : List InstrKind). set xs i c.of.result) c.loop-index.invariant
    ∙ ap (λ (kind : InstrKind). set (filled kinds i) i kind) (c.of.ensures ∙ c.index-kinds-index.is)
    ∙ one_filled kinds i c.index-kinds-index.result (omega arith) c.requires.few
