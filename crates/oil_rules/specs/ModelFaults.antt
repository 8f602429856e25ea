-- The faults of an OIL tree's meaning.
use Rattle.std.specs.Prelude.{◌⊎◌}
use Rattle.sloth_base.specs.declared.refusal.Refusal.{Refusal}
use Rattle.sloth_base.specs.Search.{Somewhere}
use Rattle.oil_parse.specs.declared.tree.OilTree.{OilTree}
use Rattle.oil_rules.specs.TreeFaults.{TreeFault}
use Rattle.oil_rules.specs.AlarmFaults.{AlarmFault}

-- the faults of a tree
abbrev pub ModelFault : OilTree → Refusal → Type 0
ModelFault tree r = TreeFault tree r ⊎ Somewhere (AlarmFault tree.objects) tree.objects r
