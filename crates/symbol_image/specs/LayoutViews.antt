-- Sections and their layout as the code has them.
use Rattle.std.specs.Prelude.{ℕ, List, get_or}
use Rattle.symbol_image.specs.Layout as layout
use Rattle.symbol_image.specs.declared.layout.Laid.{Laid}

-- a section with this name, these numbers in its header and these bytes in the file
abbrev pub section_of : (name numbers contents : List ℕ) → layout.Section
section_of name n contents = record {
  name = name;
  kind = get_or n 0 0;
  flags = get_or n 1 0;
  address = get_or n 2 0;
  contents = contents;
  size = get_or n 3 0;
  link = get_or n 4 0;
  info = get_or n 5 0;
  align = get_or n 6 0;
  entry = get_or n 7 0;
}

-- what is laid out
abbrev pub laid_of : Laid → layout.Laid
laid_of l = record { contents = l.contents.items; headers = l.headers.items; names = l.names.items }
