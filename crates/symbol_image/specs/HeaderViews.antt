-- What the headers ask of the zones of an image.
use Rattle.std.specs.Prelude.{ℕ, ◌+◌, ◌≡◌, ◌≤◌}
use Rattle.sloth_base.specs.MemoryMap.{memory_base, vectors_base}
use Rattle.map_text.specs.declared.piece_starts.Borders.{Borders}

-- the data begin behind the vector words, and the memory ends behind them
pub record AreOrdered (borders : Borders) : Type 0 where
  pub code : vectors_base ≤ borders.code_end
  pub memory : borders.code_end ≤ borders.end

-- the memory has so many bytes, up to its end; the data begin behind the vector words
pub record IsMemoryWithin (memory : ℕ) (borders : Borders) : Type 0 where
  pub ordered : AreOrdered borders
  pub ends : borders.end ≡ memory_base + memory
