use Rattle.std.proofs.Common.{◌≡◌, ◌++◌, take, map}
use Rattle.sloth_base.specs.declared.app.Label.{Label}
use Rattle.text_pieces.specs.Names.{referent}
use Rattle.holds_infer.proofs.filling.push_lists.Given as goal

abbrev pub invariant-loop-label : goal.invariant-loop-label
invariant-loop-label l = map referent l.lists.items ≡ map referent l.fn.lists.items ++ map (λ (x : Label). x.holds) (take l.label-index l.label-items)
