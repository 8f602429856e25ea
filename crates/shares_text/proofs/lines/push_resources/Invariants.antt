use Rattle.std.proofs.Common.{◌≡◌, ◌++◌}
use Rattle.shares_text.specs.SharesText.{resource_word, words_below}
use Rattle.shares_text.proofs.lines.push_resources.Given as goal

abbrev pub invariant-loop-resource : goal.invariant-loop-resource
invariant-loop-resource l = l.text.items ≡ l.initial.text.items ++ words_below (resource_word l.config) l.set l.resource
