use Rattle.std.proofs.Common.{arith, ◌+◌, ◌*◌, ◌≡◌, ◌∙◌, ap, get_or, drop}
use Rattle.text_pieces.specs.Digits.{digit_value, value_from, capped_value}
use Rattle.text_pieces.proofs.Values.{value_step}
use Rattle.text_pieces.proofs.numerals.value.Goals as goal

pub loop-digit-preserved : goal.loop-digit-preserved
loop-digit-preserved c =
    let d = get_or c.args.digits.now c.loop-digit.digit-index 0 in
    let e : c.min-value.result ≡ capped_value (c.args.base * c.loop-digit.value + digit_value d) = omega (arith, c.min-value.ensures, c.digit_value.ensures.value) in (
      omega (arith, e),
      ap (λ v. capped_value (value_from c.args.base v (drop (c.loop-digit.digit-index + 1) c.args.digits.now))) e
          ∙ (value_step c.args.base c.loop-digit.value c.loop-digit.digit-index c.args.digits.now c.requires.some c.loop-digit-test.true ∙ c.loop-digit.invariant.1),
    )
