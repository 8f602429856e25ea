-- The names of local symbols.
use Rattle.std.specs.Prelude.{◌≢◌, AllPairs}
use Rattle.code_rules.specs.WellFormed.{WellFormed}
use Rattle.map_text.specs.Rows.{map_rows}
use Rattle.mem_map.specs.Planned.{IsPlanned}
use Rattle.sloth_base.specs.declared.app.App.{App}
use Rattle.sloth_base.specs.declared.config.Config.{Config}
use Rattle.sloth_base.specs.declared.limits.Bounds.{Bounds}
use Rattle.sloth_region.specs.declared.region.Map.{Map}
use Rattle.symbol_image.specs.Symbols.{locals_of}
use Rattle.symbol_image.specs.declared.symbol.Symbol.{Symbol}

-- no two local symbols of a planned map have one name; a body and a symbol of the task code may
abbrev pub LocalNamesDiffer : Type 0
LocalNamesDiffer =
    (config : Config) (app : App) (bounds : Bounds) (m : Map) → WellFormed config app → IsPlanned config app bounds m
    → AllPairs (λ (s t : Symbol). s.name ≢ t.name) (locals_of config (map_rows config m))
