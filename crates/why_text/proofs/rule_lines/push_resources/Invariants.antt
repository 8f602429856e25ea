use Rattle.std.proofs.Common.{◌≡◌, ◌++◌, drop}
use Rattle.why_text.specs.RuleLines.{resource_words}
use Rattle.why_text.proofs.rule_lines.push_resources.Given as goal

abbrev pub invariant-loop-resource : goal.invariant-loop-resource
invariant-loop-resource l = l.text.items ++ resource_words l.config (drop l.resource-index l.list) ≡ l.initial.text.items ++ resource_words l.config l.list
