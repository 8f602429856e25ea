-- Texts have one file for each image.
use Rattle.std.proofs.Common.{◌≡◌, ◌∙◌, ℕ, List, sym, ap, subst}
use Rattle.sloth_base.specs.declared.app.App.{App}
use Rattle.sloth_base.specs.declared.config.Config.{Config}
use Rattle.sloth_base.specs.declared.image.Image.{Image}
use Rattle.sloth_base.specs.declared.limits.Bounds.{Bounds}
use Rattle.sloth_region.specs.declared.region.Extent.{Extent}
use Rattle.sloth_region.specs.declared.region.Map.{Map}
use Rattle.code_rules.specs.WellFormed.{WellFormed}
use Rattle.map_text.proofs.OneText.{rows_alike, same_bounds}
use Rattle.map_text.specs.declared.piece_starts.Row.{Row}
use Rattle.mem_map.proofs.OnePlan.{AreAlike, one_plan}
use Rattle.mem_map.specs.Planned.{IsPlanned}
use Rattle.sloth_source.proofs.Unique.{one_meaning}
use Rattle.map_text.specs.declared.line_places.Origins.{Origins}
use Rattle.symbol_image.specs.SymbolFile.{laid_file, laid_parts, parts_borders, symbol_file}
use Rattle.sloth_build.specs.ImageOf.{HasPlannedMap}
use Rattle.symbol_build.specs.SymbolFiles.{FitsEachImage, IsFileOfImage, OneSymbolFile, parts_of, source_origins}

module _ (name : List ℕ) (origins : Origins) (config : Config) (app : App) (memory : List ℕ) where
  -- the file of a map
  abbrev file_by : Map → List ℕ
  file_by m = symbol_file (parts_of name origins config app m memory)

  -- it is that of the map with other tops and words
  file_alike : (m : Map) (tops : List ℕ) (words : Extent) → file_by (record m { tops = tops; words = words }) ≡ file_by m
  unfolding symbol_file
  file_alike m tops words =
      let p = parts_of name origins config app m memory in
      ap (λ (rows : List Row). laid_file (parts_borders p) (laid_parts p (parts_borders p) rows)) (rows_alike config m tops words)

  pub same_file : (m n : Map) → AreAlike m n → file_by m ≡ file_by n
  same_file m n h =
      let whole : m ≡ record n { tops = m.tops; words = m.words } =
      ap (λ x. record m { extents = x }) h.extents ∙ ap (λ x. record m { extents = n.extents; places = x }) h.places
      ∙ ap (λ x. record m { extents = n.extents; places = n.places; stacks = x }) h.stacks
      ∙ ap (λ x. record m { extents = n.extents; places = n.places; stacks = n.stacks; idle = x }) h.idle
      ∙ ap (λ x. record m { extents = n.extents; places = n.places; stacks = n.stacks; idle = n.idle; handlers = x }) h.handlers in
      ap file_by whole ∙ file_alike n m.tops m.words

-- two images have alike maps
one_map : (config : Config) (app : App) (one other : Image) → WellFormed config app → (a : HasPlannedMap config app one) (b : HasPlannedMap config app other)
    → AreAlike a.by_map.map b.by_map.map
one_map config app one other well a b =
    let bounds = same_bounds config app a.bounds b.bounds well a.are_bounds b.are_bounds in
    let P : Bounds → Type 0 = λ x. IsPlanned config app x a.by_map.map in
    one_plan config app well.in_range b.bounds a.by_map.map b.by_map.map (subst P bounds a.by_map.planned) b.by_map.planned

one_of_image : (config : Config) (app : App) (name : List ℕ) (origins : Origins) (image : Image) (one other : List ℕ) → WellFormed config app
    → IsFileOfImage config app name origins image one → IsFileOfImage config app name origins image other → one ≡ other
one_of_image config app name origins image one other well h k =
    let a = h.is_built.planned in
    let b = k.is_built.planned in
    h.is ∙ same_file name origins config app image.memory a.by_map.map b.by_map.map (one_map config app image image well a b) ∙ sym k.is

pub one_symbol_file : OneSymbolFile
one_symbol_file oil src name one other h k image =
    let same = one_meaning oil src h.config k.config h.app k.app h.accepted k.accepted in
    let origins = source_origins src in
    let C : Config → Type 0 = λ c. IsFileOfImage c h.app name origins h.image one in
    let A : App → Type 0 = λ a. IsFileOfImage k.config a name origins h.image one in
    let I : Image → Type 0 = λ i. IsFileOfImage k.config k.app name origins i one in
    one_of_image k.config k.app name origins k.image one other k.of_image.is_built.planned.by_map.is.has_items.well_formed
    (subst I image (subst A same.1 (subst C same.0 h.of_image))) k.of_image

pub fits_each_image : FitsEachImage
fits_each_image oil src name file h image built =
    let a = h.of_image.is_built.planned in
    let b = built.planned in
    h.of_image.is ∙ same_file name (source_origins src) h.config h.app h.image.memory a.by_map.map b.by_map.map
    (one_map h.config h.app h.image image a.by_map.is.has_items.well_formed a b)
