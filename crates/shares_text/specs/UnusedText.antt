-- The lines of the command `unused`.
use Rattle.std.specs.Prelude.{ℕ, zero, suc, ◌≡◌, ◌++◌, Bool, cond, List, [], codes, decimal, length, get_or, Decides}
use Rattle.sloth_base.specs.declared.config.Config.{Config}
use Rattle.sloth_base.specs.declared.app.App.{App}
use Rattle.sloth_base.specs.ConfigRange.{no_event}
use Rattle.sloth_base.specs.Named.{declaration, alarm_declaration, function, no_symbol}
use Rattle.sloth_source.specs.Texts.{AreAccepted}
use Rattle.shares_text.specs.Accesses.{Uses}
use Rattle.shares_text.specs.declared.unused.Kind.{Kind}
use Rattle.shares_text.specs.declared.unused.Kind.TheVariants as kind
use Rattle.shares_text.specs.Uses.{IsUsed}

-- ---- lines

-- the word of a kind
abbrev pub kind_word : Kind → List ℕ
kind_word kind.Task = codes "task"
kind_word kind.Resource = codes "resource"
kind_word kind.Event = codes "event"
kind_word kind.Alarm = codes "alarm"
kind_word kind.Symbol = codes "symbol"
kind_word kind.Function = codes "function"

-- how many there are of a kind
abbrev pub count_of : Config → App → Kind → ℕ
count_of config app kind.Task = length config.tasks
count_of config app kind.Resource = length config.resources
count_of config app kind.Event = length config.events
count_of config app kind.Alarm = length config.alarms
count_of config app kind.Symbol = length app.symbols
count_of config app kind.Function = length app.funcs

-- the name of one
abbrev pub object_name : Config → App → Kind → ℕ → List ℕ
object_name config app kind.Task t = (declaration config t).name
object_name config app kind.Resource r = get_or config.resources r []
object_name config app kind.Event e = (get_or config.events e no_event).name
object_name config app kind.Alarm a = (alarm_declaration config a).name
object_name config app kind.Symbol y = (get_or app.symbols y no_symbol).name
object_name config app kind.Function f = (function app f).name

-- the line of a function's header
abbrev pub header_line : App → ℕ → ℕ
header_line app f = (function app f).line

-- behind the name: that arrivals alone activate the task, or the line of the function's header
abbrev pub further_words : App → Kind → ℕ → List ℕ
further_words app kind.Task t = codes " arrivals"
further_words app kind.Resource r = []
further_words app kind.Event e = []
further_words app kind.Alarm a = []
further_words app kind.Symbol y = []
further_words app kind.Function f = codes " " ++ decimal (header_line app f)

-- the line of one
abbrev pub unused_line : Config → App → Kind → ℕ → List ℕ
unused_line config app k n = ((kind_word k ++ (codes " " ++ object_name config app k n)) ++ further_words app k n) ++ codes "\n"

-- the lines of those of the first n of a kind that are not used
abbrev pub lines_below : Config → App → (used : Kind → ℕ → Bool) → Kind → (n : ℕ) → List ℕ
lines_below config app used k zero = []
lines_below config app used k (suc n) = lines_below config app used k n ++ cond (used k n) [] (unused_line config app k n)

-- those of a kind
abbrev pub lines_of : Config → App → (used : Kind → ℕ → Bool) → Kind → List ℕ
lines_of config app used k = lines_below config app used k (count_of config app k)

-- those of all kinds
abbrev pub unused_lines : Config → App → (used : Kind → ℕ → Bool) → List ℕ
unused_lines config app used =
    ((((lines_of config app used kind.Task ++ lines_of config app used kind.Resource) ++ lines_of config app used kind.Event)
    ++ lines_of config app used kind.Alarm) ++ lines_of config app used kind.Symbol) ++ lines_of config app used kind.Function

-- ---- texts

-- these are the lines of exactly what is not used
pub record HasUnused (config : Config) (app : App) (text : List ℕ) : Type 0 where
  pub used : Kind → ℕ → Bool
  pub decided : (k : Kind) (n : ℕ) → Decides (used k n) (IsUsed config app k n)
  pub lines : text ≡ unused_lines config app used

-- the texts are accepted, and these are the lines of what they do not use
pub record IsUnusedText (oil src text : List ℕ) : Type 0 where
  pub config : Config
  pub app : App
  pub accepted : AreAccepted oil src config app
  pub has_unused : HasUnused config app text

-- texts have one list of these lines at most
abbrev pub OneUnusedText : Type 0
OneUnusedText = (oil src one other : List ℕ) → IsUnusedText oil src one → IsUnusedText oil src other → one ≡ other

-- a symbol is used exactly where a task uses it in the sense of `shares`
abbrev pub SymbolsAgree : Type 0
SymbolsAgree = (config : Config) (app : App) (y : ℕ)
    → (IsUsed config app kind.Symbol y → (t : ℕ) × Uses app y t) × ((t : ℕ) → Uses app y t → IsUsed config app kind.Symbol y)
