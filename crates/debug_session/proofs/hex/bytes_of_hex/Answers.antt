use Rattle.std.proofs.Common.{arith, ◌∙◌}
use Rattle.debug_session.proofs.Digits.{pair_behind}
use Rattle.debug_session.proofs.hex.bytes_of_hex.Goals as goal

pub loop-place-preserved : goal.loop-place-preserved
loop-place-preserved c =
    pair_behind c.args.text.now c.loop-place.bytes.items _ c.loop-place.place c.digit_value-high.result c.digit_value-low.result (omega (arith, c.loop-place-test.true))
    c.digit_value-high.ensures c.digit_value-low.ensures (omega (arith, c.if-high-ge16.false)) (omega (arith, c.if-low-ge16.false)) c.in_ok-extend_from_slice.ensures.items
    ∙ c.loop-place.invariant
