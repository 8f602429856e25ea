use Rattle.std.proofs.Common.{◌∙◌, [], ◌∷◌, ◌++◌, ap, subst}
use Rattle.sloth_base.specs.declared.numbers.Step.{Step}
use Rattle.observe.specs.Progress.{HasProgress}
use Rattle.sloth_runner.proofs.runner.Runner.feed.Goals as goal

pub returns-clause-fed : goal.returns-clause-fed
returns-clause-fed c steps events f =
    let P : Step → Type 0 = λ s. HasProgress c.feed.new.self (steps ++ s ∷ []) events in
    subst P c.show.ensures.shown (c.feed.ensures.fed steps events f)

pub feed-requires-clause-expected : goal.feed-requires-clause-expected
feed-requires-clause-expected c = ap (λ (s : Step). s.count) c.show.ensures.shown ∙ c.requires.expected
