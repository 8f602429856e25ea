use Rattle.std.proofs.Common.{◌≡◌, arith, sym, ap, true, ◌∙◌}
use Rattle.std.specs.Str.{bytes_eq}
use Rattle.std.proofs.lemmas.Slice.Eq.{bytes_eq-Decides}
use Rattle.std.specs.Prelude.{decimal}
use Rattle.std.proofs.lemmas.Fmt.{parse-decimal}
use Rattle.trace_text.proofs.events.number.Goals as goal

pub returns-in_default-clause-none : goal.returns-in_default-clause-none
returns-in_default-clause-none c n le e =
    let q = parse-decimal 32 n c.args.word.now c.parse.result (omega arith) (omega arith) e c.parse.ensures.value.0 in cc

pub returns-clause-none : goal.returns-clause-none
returns-clause-none c n le e =
    let q = parse-decimal 32 n c.args.word.now c.parse.result (omega arith) (omega arith) e c.parse.ensures.value.0 in
    let same : c.in-Ok.n ≡ n = cc in
    let printed : c.format.result.now ≡ c.args.word.now = c.format.ensures.text ∙ ap decimal same ∙ sym e in
    let yes_is : bytes_eq c.format.result.now c.args.word.now ≡ true = (bytes_eq-Decides _ _).1 printed in
    cc
