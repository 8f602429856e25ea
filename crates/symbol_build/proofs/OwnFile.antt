-- The file of a map that is planned once more is that of the image's own.
use Rattle.std.proofs.Common.{◌≡◌, ◌+◌, ◌∙◌, ℕ, List, length, ap, sym}
use Rattle.std.specs.Prelude.{slice_index_or}
use Rattle.sloth_base.specs.MemoryMap.{memory_base}
use Rattle.sloth_base.specs.declared.app.App.{App}
use Rattle.sloth_base.specs.declared.config.Config.{Config}
use Rattle.sloth_base.specs.declared.image.Image.{Image}
use Rattle.sloth_base.specs.declared.limits.Bounds.{Bounds}
use Rattle.sloth_region.specs.declared.region.Extent.{Extent}
use Rattle.sloth_region.specs.declared.region.Map.{Map}
use Rattle.code_rules.specs.WellFormed.{WellFormed}
use Rattle.sloth_build.specs.ImageOf.{IsOfPlannedMap}
use Rattle.mem_map.proofs.OnePlan.{AreAlike, one_plan}
use Rattle.mem_map.specs.Planned.{IsPlanned}
use Rattle.mem_map.specs.StackParts.{no_extent}
use Rattle.mem_map.specs.Stacks.{address_behind_data}
use Rattle.symbol_image.specs.FileParts.{MayShow}
use Rattle.map_text.specs.declared.line_places.Origins.{Origins}
use Rattle.symbol_image.specs.SymbolFile.{symbol_file}
use Rattle.symbol_build.proofs.OneFile.{same_file}
use Rattle.symbol_build.proofs.Shown.{may_show}
use Rattle.symbol_build.specs.SymbolFiles.{parts_of}

same_end : (m n : Map) → AreAlike m n → address_behind_data m ≡ address_behind_data n
same_end m n h = ap (λ (es : List Extent). (slice_index_or es 2 no_extent).base + (slice_index_or es 2 no_extent).len) h.extents

module _ (config : Config) (app : App) (bounds : Bounds) (image : Image) (by_map : IsOfPlannedMap config app bounds image) (m : Map)
    (planned : IsPlanned config app bounds m) where
  well : WellFormed config app
  well = by_map.is.has_items.well_formed

  alike : AreAlike m by_map.map
  alike = one_plan config app well.in_range bounds m by_map.map planned by_map.planned

  pub may_show_again : (name : List ℕ) (origins : Origins) (memory : List ℕ) → memory ≡ image.memory → MayShow (parts_of name origins config app m memory)
  may_show_again name origins memory is =
      may_show config app bounds m well planned name origins memory
      (ap (λ (bytes : List ℕ). memory_base + length bytes) is ∙ by_map.is.ends ∙ sym (same_end m by_map.map alike))

  pub own_file : (name : List ℕ) (origins other : Origins) (memory file : List ℕ) → memory ≡ image.memory → other ≡ origins → file ≡ symbol_file (parts_of name other config app m memory)
      → file ≡ symbol_file (parts_of name origins config app by_map.map image.memory)
  own_file name origins other memory file is same e =
      e ∙ ap (λ (o : Origins). symbol_file (parts_of name o config app m memory)) same
      ∙ ap (λ (bytes : List ℕ). symbol_file (parts_of name origins config app m bytes)) is
      ∙ same_file name origins config app image.memory m by_map.map alike
