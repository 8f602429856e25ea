use Rattle.std.proofs.Common.{◌∙◌, ap, sym}
use Rattle.symbol_image.specs.Frames.{loses}
use Rattle.symbol_image.proofs.Losses.{loss_behind}
use Rattle.symbol_image.proofs.frames.first_loss.Goals as goal

pub loop-k-preserved : goal.loop-k-preserved
loop-k-preserved c =
    let kept = ap (loses c.args.what) (sym c.memory_word.ensures) ∙ (sym c.loses.ensures ∙ c.if-loses.false) in
    sym (loss_behind c.args.what c.args.memory.now c.args.base c.args.from c.args.left c.loop-k.k c.loop-k-test.true kept) ∙ c.loop-k.invariant
