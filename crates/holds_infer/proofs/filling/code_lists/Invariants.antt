use Rattle.std.proofs.Common.{◌≡◌, take, map}
use Rattle.std.specs.List.{flat_map}
use Rattle.text_pieces.specs.Names.{referent}
use Rattle.holds_infer.specs.Relabel.{func_holds}
use Rattle.holds_infer.proofs.filling.code_lists.Given as goal

abbrev pub invariant-loop-func : goal.invariant-loop-func
invariant-loop-func l = map referent l.lists.items ≡ flat_map func_holds (take l.func-index l.func-items)
