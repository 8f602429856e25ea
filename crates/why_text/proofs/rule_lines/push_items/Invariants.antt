use Rattle.std.proofs.Common.{◌≡◌, ◌++◌, drop}
use Rattle.why_text.specs.RuleLines.{item_words}
use Rattle.why_text.proofs.rule_lines.push_items.Given as goal

abbrev pub invariant-loop-item : goal.invariant-loop-item
invariant-loop-item l = l.text.items ++ item_words l.func (drop l.item-index l.items) ≡ l.initial.text.items ++ item_words l.func l.items
