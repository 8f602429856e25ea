use Rattle.std.proofs.Common.{ℕ, List, inr, subst}
use Rattle.debug_command.specs.DebugAnswers.{IsTextsAnswer, heard}
use Rattle.debug_command.proofs.command.debug.Goals as goal

pub returns-in-Ok-clause-answer : goal.returns-in-Ok-clause-answer
returns-in-Ok-clause-answer g c =
    let img = c.in-Ok.texts.img.items in
    let arr = c.in-Ok.texts.arr.items in
    let bytes = heard (g.I.Input.coming c.args.input.now) (g.I.Input.given c.args.input.now) (g.I.Input.given c.judge.new.input)
    c.args.transcript.now.notes.items c.judge.new.transcript.notes.items in
    let before = g.S.Sink.seen c.args.out.now in
    let now = g.S.Sink.seen c.judge.new.out in
    let passed = g.S.Sink.passed_on c.judge.new.out in
    let A : List ℕ → Type 0 = λ text. IsTextsAnswer c.as_slice-img.result.now text bytes before now passed c.judge.result in
    let I : List ℕ → Type 0 = λ text. IsTextsAnswer text arr bytes before now passed c.judge.result in
    inr (img, arr, c.in-Ok.ensures.ok, subst I c.as_slice-img.ensures.value (subst A c.as_slice-arr.ensures.value c.judge.ensures))
