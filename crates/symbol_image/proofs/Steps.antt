-- The entries of the labels that pass.
use Rattle.std.proofs.Common.{ℕ, Bool, List, filter, map}
use Rattle.sloth_base.specs.declared.app.Label.{Label}
use Rattle.symbol_image.specs.EntryBytes.{DwarfEntry, entries_bytes}

abbrev pub kept_bytes : (Label → DwarfEntry) → (Label → Bool) → List Label → List ℕ
kept_bytes entry test labels = entries_bytes (map entry (filter test labels))
