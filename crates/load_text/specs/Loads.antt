-- What a load says, and which arrivals keep it.
use Rattle.std.specs.Prelude.{ℕ, ◌+◌, ◌-◌, ◌/◌, ◌≤◌, ◌≡◌, cond, List, [], ◌∷◌, All, Option, Some, None}
use Rattle.std.specs.List.{AllByRecursion}
use Rattle.sloth_base.specs.declared.service.Arrival.{Arrival}
use Rattle.sloth_base.specs.declared.numbers.Owners.{Owners}
use Rattle.sloth_base.specs.Owners.{IsOwned}
use Rattle.load_text.specs.declared.load_line.Entry.{Entry}
use Rattle.load_text.specs.declared.load_line.Form.{Form}
use Rattle.load_text.specs.declared.load_line.Form.TheVariants as form
use Rattle.load_text.specs.LoadText.{load_limit, is_of}

-- ---- what is said

-- the number of the first of these entries that is of a form and an owner
abbrev pub said : Form → (owner : ℕ) → List Entry → Option ℕ
said f owner [] = None
said f owner (entry ∷ load) = cond (is_of f owner entry) (Some entry.number) (said f owner load)

-- how many counts two arrivals of a line are apart at least; none where the line never arrives
abbrev pub distance : List Entry → (line : ℕ) → Option ℕ
distance load line = said form.Every line load

-- how many counts of its own a round of a task takes at most; none where the load does not say
abbrev pub work : List Entry → (t : ℕ) → Option ℕ
work load t = said form.Work t load

-- within how many counts the response of a task is wanted; this is no premise
abbrev pub deadline : List Entry → (t : ℕ) → Option ℕ
deadline load t = said form.Deadline t load

-- ---- in range

-- each number is one of counts, of 31 bits
abbrev pub IsNumber : Entry → Type 0
IsNumber entry = (1 ≤ entry.number) × (entry.number ≤ load_limit)

-- none of these entries is of the form and the owner of this one
abbrev pub IsNew : List Entry → Entry → Type 0
IsNew load entry = said entry.form entry.owner load ≡ None

-- no two of these entries are of one form and owner
abbrev pub AreApart : List Entry → Type 0
AreApart [] = Unit {0}
AreApart (entry ∷ load) = IsNew load entry × AreApart load

-- entries of owned lines, no two of one form and owner, with numbers in range
pub record IsLoad (owners : Owners) (load : List Entry) : Type 0 where
  pub numbers : All IsNumber load
  pub owned : All (λ entry. IsOwned owners entry.owner) load
  pub apart : AreApart load

-- ---- arrivals

-- an arrival that comes later is this far behind; where none is said there is no such arrival
abbrev pub IsBehind : Option ℕ → (earlier later : Arrival) → Type 0
IsBehind None earlier later = ⊥
IsBehind (Some d) earlier later = earlier.at + d ≤ later.at

-- Arrivals, in their order, keep a load where each is of a line with a distance, and two of one line are that far apart.
abbrev pub KeepDistances : List Entry → List Arrival → Type 0
KeepDistances load [] = Unit {0}
KeepDistances load (a ∷ arrivals) =
    ((distance load a.line ≡ None) → ⊥) × AllByRecursion (λ b. b.line ≡ a.line → IsBehind (distance load a.line) a b) arrivals × KeepDistances load arrivals

-- the least number of distances that fill a window
abbrev pub filling : (window : ℕ) → Option ℕ → ℕ
filling window None = 0
filling window (Some d) = (window + d - 1) / d

-- the most arrivals of a line at so many moments, one behind the other
abbrev pub arrivals_within : List Entry → (window line : ℕ) → ℕ
arrivals_within load window line = filling window (distance load line)
