-- The file of a built image loads the image.
use Rattle.std.proofs.Common.{◌≡◌, ◌<◌, ◌≤◌, ◌+◌, ℕ, List, length, refl, sym, subst}
use Rattle.std.specs.Prelude.{slice_index}
use Rattle.sloth_base.specs.MemoryMap.{memory_base}
use Rattle.sloth_base.specs.declared.image.Image.{Image}
use Rattle.symbol_image.proofs.Loads.{loaded_once, memory_is_loaded, nothing_else}
use Rattle.symbol_image.specs.FileParts.{FileParts, MayShow}
use Rattle.symbol_image.specs.Loading.{Loads}
use Rattle.symbol_image.specs.SymbolFile.{symbol_file}
use Rattle.symbol_build.proofs.Shown.{may_show}
use Rattle.symbol_build.specs.SymbolFiles.{parts_of}
use Rattle.symbol_build.specs.BuiltFiles.{BuiltMayShow, BuiltMemoryIsLoaded, LoadsImage}

pub built_may_show : BuiltMayShow
built_may_show config app name origins image built =
    let p = built.planned in
    may_show config app p.bounds p.by_map.map p.by_map.is.has_items.well_formed p.by_map.planned name origins image.memory p.by_map.is.ends

loads_image : (parts : FileParts) (image : Image) → MayShow parts → parts.memory ≡ image.memory → LoadsImage (symbol_file parts) image
loads_image parts image may is =
    let P : List ℕ → Type 0 = λ memory. (i : ℕ) → i < length memory
    → (number : ℕ) × Loads (symbol_file parts) number (memory_base + i) (slice_index memory i) in
    let one = subst P is (memory_is_loaded parts may) in
    record {
      each = λ i h.
          let found = one i h in
          record { number = found.0; loads = found.1; alone = λ other byte l. loaded_once parts may other found.0 (memory_base + i) byte (slice_index image.memory i) l found.1 };
      only = λ number address byte l.
          subst (λ (memory : List ℕ). (memory_base ≤ address) × (address < memory_base + length memory)) is (nothing_else parts may number address byte l);
    }

pub built_memory_is_loaded : BuiltMemoryIsLoaded
built_memory_is_loaded config app name origins image file h =
    let parts = parts_of name origins config app h.is_built.planned.by_map.map image.memory in
    subst (λ (f : List ℕ). LoadsImage f image) (sym h.is) (loads_image parts image (built_may_show config app name origins image h.is_built) refl)
