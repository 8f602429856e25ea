-- The labels at a place of a body, by their numbers.
use Rattle.std.specs.Prelude.{ℕ, zero, suc, ◌+◌, ◌==◌, ◌≡◌, ◌<◌, ◌≤◌, cond, length, List, Option, Some, None, get_or}
use Rattle.sloth_base.specs.declared.app.Label.{Label}
use Rattle.sloth_base.specs.declared.app.Func.{Func}
use Rattle.sloth_base.specs.Named.{no_label, label_of}

-- of the first k labels the last one at this place
abbrev pub last_label_below : List Label → (place k : ℕ) → Option ℕ
last_label_below labels place zero = None
last_label_below labels place (suc k) = cond ((get_or labels k no_label).item == place) (Some k) (last_label_below labels place k)

-- the list of a label, or this one without a label
abbrev pub list_of : List Label → Option ℕ → List ℕ → List ℕ
list_of labels None held = held
list_of labels (Some k) held = (get_or labels k no_label).holds

-- the first of these that there is
abbrev pub or_else : Option ℕ → Option ℕ → Option ℕ
or_else (Some k) other = Some k
or_else None other = other

-- of the first k labels the first one at this place
abbrev pub first_label_below : List Label → (place k : ℕ) → Option ℕ
first_label_below labels place zero = None
first_label_below labels place (suc k) = or_else (first_label_below labels place k) (cond ((get_or labels k no_label).item == place) (Some k) None)

-- every label stands before an item or behind the last one
abbrev pub ArePlaced : Func → Type 0
ArePlaced f = (k : ℕ) → k < length f.labels → (label_of f k).item ≤ length f.items

-- the first and the last label at each place of a body, also behind the last item
pub record AreTables (f : Func) (first last : List (Option ℕ)) : Type 0 where
  pub first_count : length first ≡ length f.items + 1
  pub firsts : (place : ℕ) → place ≤ length f.items → get_or first place None ≡ first_label_below f.labels place (length f.labels)
  pub last_count : length last ≡ length f.items + 1
  pub lasts : (place : ℕ) → place ≤ length f.items → get_or last place None ≡ last_label_below f.labels place (length f.labels)
