-- Task code with other lists at its labels, and the one choice of lists that keeps every rule.
use Rattle.std.specs.Prelude.{ℕ, ◌≡◌, ◌≤◌, [], map, length}
use Rattle.sloth_base.specs.declared.config.Config.{Config}
use Rattle.sloth_base.specs.declared.app.App.{App}
use Rattle.sloth_base.specs.declared.app.Func.{Func}
use Rattle.sloth_base.specs.declared.app.Label.{Label}
use Rattle.sloth_base.specs.Named.{function, label_of}
use Rattle.code_rules.specs.WellFormed.{WellFormed}

-- a label without its list
abbrev pub bare_label : Label → Label
bare_label l = record { name = l.name; line = l.line; item = l.item; holds = [] }

-- a body without the lists of its labels
abbrev pub bare_func : Func → Func
bare_func f = record { name = f.name; line = f.line; task = f.task; frame_words = f.frame_words; items = f.items; labels = map bare_label f.labels }

-- task code without the lists of its labels
abbrev pub bare_app : App → App
bare_app app = record { funcs = map bare_func app.funcs; symbols = app.symbols }

-- both are the same but for the lists of their labels
abbrev pub SameButLists : App → App → Type 0
SameButLists app other = bare_app app ≡ bare_app other

-- a label behind the last item of the body has an empty list
abbrev pub IsClear : Func → Type 0
IsClear f = (k : ℕ) → length f.items ≤ (label_of f k).item → (label_of f k).holds ≡ []

-- so it is in each body
abbrev pub AreClear : App → Type 0
AreClear app = (b : ℕ) → IsClear (function app b)

-- other is the task code with lists at its labels that keep every rule
pub record IsFilling (config : Config) (app other : App) : Type 0 where
  pub same : SameButLists app other
  pub well_formed : WellFormed config other
  pub clear : AreClear other
