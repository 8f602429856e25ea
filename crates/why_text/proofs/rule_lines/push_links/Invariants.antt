use Rattle.std.proofs.Common.{◌≡◌, ◌++◌, drop}
use Rattle.why_text.specs.RuleLines.{link_words}
use Rattle.why_text.proofs.rule_lines.push_links.Given as goal

abbrev pub invariant-loop-link : goal.invariant-loop-link
invariant-loop-link l = l.text.items ++ link_words l.app (drop l.link-index l.links) ≡ l.initial.text.items ++ link_words l.app l.links
