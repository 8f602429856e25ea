-- A table of the marks of an image by their addresses.
use Rattle.std.specs.Prelude.{◌≡◌, ◌<◌, ◌-◌, ◌/◌, ◌%◌, ◌==◌, ◌||◌, nat_lt, not, if◌then◌else◌, ℕ, zero, suc, List, length, get_or, set, slice_get, take, find, Option, Some, None}
use Rattle.sloth_base.specs.declared.image.Mark.{Mark}

-- numbers of words from an address on
pub record Table : Type 0 where
  pub from : ℕ
  pub numbers : List ℕ

-- the place of the word at an address, from another address on
abbrev pub entry_place : ℕ → ℕ → Option ℕ
entry_place from address = if nat_lt address from || not ((address - from) % 4 == 0) then None else Some ((address - from) / 4)

-- the number in that place, or 0 behind the last one
abbrev pub number_in : List ℕ → Option ℕ → ℕ
number_in numbers None = 0
number_in numbers (Some place) = get_or numbers place 0

-- the number of the word at an address
abbrev pub number_at : Table → ℕ → ℕ
number_at table address = number_in table.numbers (entry_place table.from address)

-- the mark whose place and 1 more is a number, or none
abbrev pub mark_of : List Mark → ℕ → Option Mark
mark_of marks zero = None
mark_of marks (suc place) = slice_get marks place

-- the numbers tell of each address what a search among so many marks does
abbrev pub AreNumbers : List Mark → (from : ℕ) → (numbers : List ℕ) → (count : ℕ) → Type 0
AreNumbers marks from numbers count = (address : ℕ) → mark_of marks (number_in numbers (entry_place from address)) ≡ find (λ mark. mark.address == address) (take count marks)

-- the table tells of each address what a search among the marks does
abbrev pub IsMarkTable : List Mark → Table → Type 0
IsMarkTable marks table = (address : ℕ) → mark_of marks (number_at table address) ≡ find (λ mark. mark.address == address) marks

-- a number is written into a place that had none
abbrev pub IsPlaced : Option ℕ → (number : ℕ) → (old new : List ℕ) → Type 0
IsPlaced None number old new = ⊥
IsPlaced (Some place) number old new = (place < length old) × (get_or old place 0 ≡ 0) × (new ≡ set old place number)
