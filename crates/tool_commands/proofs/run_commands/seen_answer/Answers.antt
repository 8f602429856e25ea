use Rattle.std.proofs.Common.{◌≡◌, ◌∙◌, ap, subst}
use Rattle.run_samples.specs.ServiceWords.{AreWordsRead, words_behind}
use Rattle.run_samples.specs.declared.samples.WordsRead.{WordsRead}
use Rattle.tool_commands.proofs.AtAllAnswers.{seen_is_answer}
use Rattle.tool_commands.proofs.run_commands.seen_answer.Goals as goal

pub returns-in_ok-text-in-At : goal.returns-in_ok-text-in-At
returns-in_ok-text-in-At c img arr is =
    let run = c.args.run.now in
    let seen = c.args.seen.now in
    let words = c.in-At.words in
    let R : WordsRead → Type 0 = λ w. AreWordsRead run.image c.as_slice.result.now seen.count w in
    let read : words ≡ words_behind run.image c.as_slice.result.now seen.count = subst R c.in-At.is c.in_ok-words.ensures in
    let there : words ≡ words_behind run.image run.arrivals.items seen.count = read ∙ ap (λ a. words_behind run.image a seen.count) c.as_slice.ensures.value in
    seen_is_answer img arr c.args.k run.image run.arrivals.items seen words c.in_ok-text-in-At.text.items c.told.result is c.requires.seen there
    c.in_ok-text-in-At.ensures c.told.ensures
