-- A plan can be listed.
use Rattle.std.proofs.Common.{List, length, ap, arith}
use Rattle.sloth_base.specs.declared.app.App.{App}
use Rattle.sloth_base.specs.declared.config.Config.{Config}
use Rattle.sloth_base.specs.declared.limits.Bounds.{Bounds}
use Rattle.sloth_region.specs.declared.region.Extent.{Extent}
use Rattle.sloth_region.specs.declared.region.Map.{Map}
use Rattle.code_rules.specs.WellFormed.{WellFormed}
use Rattle.mem_map.specs.Planned.{IsPlanned}
use Rattle.mem_map.specs.StackParts.{no_extent}
use Rattle.map_text.specs.Listable.{IsListable}

pub listable : (config : Config) (app : App) (bounds : Bounds) (m : Map) → WellFormed config app → IsPlanned config app bounds m → IsListable config m
listable config app bounds m well p =
    let long = ap (λ (l : List Extent). length l) p.zones.extents in
    let code = (p.zones.apart.inside 1 no_extent (omega (arith, long))).2 in
    let data_zone = (p.zones.apart.inside 2 no_extent (omega (arith, long))).2 in
    record {
      code = omega (arith, code);
      data_zone = omega (arith, data_zone);
      few_tasks = p.zones.few_tasks;
      few_counters = well.in_range.configuration.few_counters;
    }
