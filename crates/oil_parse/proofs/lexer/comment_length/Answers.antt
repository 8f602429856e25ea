use Rattle.std.proofs.Common.{arith, ◌≡◌, sym, ◌∙◌, drop, true, false}
use Rattle.oil_parse.specs.Pieces.{is_comment_end}
use Rattle.oil_parse.proofs.Lengths.{comment_length_stop, comment_length_step, comment_length_end, whole}
use Rattle.oil_parse.proofs.lexer.comment_length.Goals as goal

pub returns-then-closes-clause-value : goal.returns-then-closes-clause-value
returns-then-closes-clause-value c =
    let t : is_comment_end (drop c.loop-i.i c.args.bytes.now) ≡ true = rw whole at (sym c.closes.ensures ∙ c.if-closes.true) in
    let f = comment_length_stop c.args.bytes.now c.loop-i.i c.loop-i-test.true t in omega (arith, f)

pub loop-i-preserved : goal.loop-i-preserved
loop-i-preserved c =
    let t : is_comment_end (drop c.loop-i.i c.args.bytes.now) ≡ false = rw whole at (sym c.closes.ensures ∙ c.if-closes.false) in
    let f = comment_length_step c.args.bytes.now c.loop-i.i c.loop-i-test.true t in omega (arith, f)

pub returns-clause-value : goal.returns-clause-value
returns-clause-value c = let f = comment_length_end c.args.bytes.now c.loop-i.i c.loop-i-test.false in omega (arith, f)
