-- Names that are words, and images in the range of the image file format.
use Rattle.std.specs.Prelude.{◌≡◌, ◌≢◌, ◌≤◌, ◌<◌, ◌+◌, ◌%◌, ◌==◌, ◌||◌, ℕ, Bool, IsTrue, if◌then◌else◌, List, [], ◌∷◌, length, map, All}
use Rattle.std.specs.Char.{is_ascii_alphabetic, is_ascii_alphanumeric}
use Rattle.std.specs.List.{AllPass, AllPairs}
use Rattle.std.specs.List.Sorted.{IsStrictlyIncreasing}
use Rattle.sloth_base.specs.declared.image.Image.{Image}
use Rattle.sloth_base.specs.declared.image.Mark.{Mark}
use Rattle.sloth_base.specs.declared.image.MarkKind.{MarkKind}
use Rattle.sloth_base.specs.declared.image.MarkKind.TheVariants as kind
use Rattle.sloth_base.specs.MemoryMap.{memory_base, memory_bytes}
use Rattle.sloth_base.specs.Limits.{task_limit, counter_limit, name_limit, body_limit, mark_limit}

-- a letter or `_`
abbrev pub begins_word : ℕ → Bool
begins_word byte = is_ascii_alphabetic byte || (byte == 95)

-- a letter, a digit or `_`
abbrev pub continues_word : ℕ → Bool
continues_word byte = is_ascii_alphanumeric byte || (byte == 95)

-- a letter or `_`, then letters, digits and `_`, as the names of OIL 2.5
abbrev pub IsWord : List ℕ → Type 0
IsWord [] = ⊥
IsWord (first ∷ rest) = IsTrue (begins_word first) × AllPass continues_word rest

-- a word that is no longer than a name may be
pub record IsName (bytes : List ℕ) : Type 0 where
  pub word : IsWord bytes
  pub short : length bytes ≤ name_limit

-- names that differ from one another
pub record AreNames (names : List (List ℕ)) : Type 0 where
  pub each : All IsName names
  pub distinct : AllPairs (λ one other. one ≢ other) names

-- none of the names is one of the others
abbrev pub AreNamesApart : List (List ℕ) → List (List ℕ) → Type 0
AreNamesApart names others = All (λ name. All (λ other. other ≢ name) others) names

-- how many services the marks of an image with so many counters may name: those on alarms need a counter
abbrev pub service_limit : ℕ → ℕ
service_limit counters = if counters == 0 then 12 else 16

-- what the fields `a`, `b` and `c` of a mark may be, in an image of so many services and functions
abbrev pub AreFields : (services functions : ℕ) → MarkKind → ℕ → ℕ → ℕ → Type 0
AreFields services functions kind.Item a b c = (a < 32) × (b < functions) × (c ≤ 4095)
AreFields services functions kind.Jump a b c = (a < services) × (b < functions) × (c ≤ 4095)
AreFields services functions kind.Opening a b c = (a < services) × (b ≡ 0) × (c ≡ 0)
AreFields services functions kind.Idle a b c = (a ≡ 0) × (b ≡ 0) × (c ≡ 0)
AreFields services functions kind.Back a b c = (a ≡ 0) × (b ≡ 0) × (c ≡ 0)

-- a mark on a word of a memory of so many bytes, which begins at its base
pub record IsMark (services functions size : ℕ) (mark : Mark) : Type 0 where
  pub aligned : mark.address % 4 ≡ 0
  pub above : memory_base ≤ mark.address
  pub below : mark.address < memory_base + size
  pub fields : AreFields services functions mark.kind mark.a mark.b mark.c

-- the addresses of the marks rise
abbrev pub AreAscending : List Mark → Type 0
AreAscending marks = IsStrictlyIncreasing (map (λ mark. mark.address) marks)

-- the image is in the range of the format
pub record InFormat (image : Image) : Type 0 where
  pub few_tasks : length image.tasks ≤ task_limit
  pub few_functions : length image.funcs ≤ body_limit
  pub few_counters : length image.counters ≤ counter_limit
  pub tasks : AreNames image.tasks
  pub functions : AreNames image.funcs
  pub counters : AreNames image.counters
  -- no counter has a task's name
  pub counters_apart : AreNamesApart image.counters image.tasks
  pub memory_fits : length image.memory ≤ memory_bytes
  pub whole_words : length image.memory % 4 ≡ 0
  pub few_marks : length image.marks ≤ mark_limit
  pub marks : All (IsMark (service_limit (length image.counters)) (length image.funcs) (length image.memory)) image.marks
  pub ascending : AreAscending image.marks
