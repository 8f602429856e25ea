-- The lines of the command `shares`.
use Rattle.std.specs.Prelude.{ℕ, zero, suc, ◌≡◌, List, [], ◌∷◌, ◌++◌, ◌||◌, Bool, false, cond, codes, decimal, length, get_or}
use Rattle.sloth_base.specs.declared.config.Config.{Config}
use Rattle.sloth_base.specs.declared.app.App.{App}
use Rattle.sloth_base.specs.Named.{declaration, no_symbol}
use Rattle.sloth_base.specs.Limits.{ceiling_count}
use Rattle.call_graph.specs.Bits.{is_member}
use Rattle.sloth_base.specs.ConfigRange.{resource_name}
use Rattle.sloth_source.specs.Texts.{AreAccepted}
use Rattle.shares_text.specs.declared.keepers.Keeper.{Keeper}
use Rattle.shares_text.specs.declared.open_pairs.OpenPair.{OpenPair}
use Rattle.shares_text.specs.declared.verdict.Verdict.{Verdict}
use Rattle.shares_text.specs.declared.verdict.Verdict.TheVariants as verdict
use Rattle.shares_text.specs.Verdicts.{AreVerdicts}
use Rattle.shares_text.specs.RunLaws.{RunsKeepApart}

-- ---- names

-- a space and a task's name
abbrev pub task_word : Config → ℕ → List ℕ
task_word config t = codes " " ++ (declaration config t).name

-- a space and a resource's name
abbrev pub resource_word : Config → ℕ → List ℕ
resource_word config r = codes " " ++ resource_name config r

-- of the first n numbers the words of those in a set
abbrev pub words_below : (ℕ → List ℕ) → (set n : ℕ) → List ℕ
words_below word set zero = []
words_below word set (suc n) = words_below word set n ++ cond (is_member set n) (word n) []

-- the tasks of a set, by number
abbrev pub task_words : Config → ℕ → List ℕ
task_words config set = words_below (task_word config) set (length config.tasks)

-- the resources of a set, by number, RES_SCHEDULER last
abbrev pub resource_words : Config → ℕ → List ℕ
resource_words config set = words_below (resource_word config) set ceiling_count

-- ---- lines

-- the set has one of the first n numbers
abbrev pub has_below : (set n : ℕ) → Bool
has_below set zero = false
has_below set (suc n) = has_below set n || is_member set n

-- the resources behind `under`, if there are any
abbrev pub under_words : Config → ℕ → List ℕ
under_words config set = cond (has_below set ceiling_count) (codes " under" ++ resource_words config set) []

-- a user, with what keeps those above it out
abbrev pub keeper_words : Config → Keeper → List ℕ
keeper_words config k = (task_word config k.task ++ cond k.non (codes " NON") []) ++ under_words config k.held

-- users, each behind a comma
abbrev pub further_keepers : Config → List Keeper → List ℕ
further_keepers config [] = []
further_keepers config (k ∷ rest) = (codes "," ++ keeper_words config k) ++ further_keepers config rest

-- users, with commas between
abbrev pub keepers_words : Config → List Keeper → List ℕ
keepers_words config [] = []
keepers_words config (k ∷ rest) = keeper_words config k ++ further_keepers config rest

-- an open pair: the lower task, its line, the higher one, its line
abbrev pub pair_words : Config → OpenPair → List ℕ
pair_words config p = (((task_word config p.low ++ codes " ") ++ decimal p.low_line) ++ task_word config p.high) ++ (codes " " ++ decimal p.high_line)

-- a verdict
abbrev pub verdict_words : Config → Verdict → List ℕ
verdict_words config verdict.Unused = codes " unused"
verdict_words config (verdict.One t) = codes " one" ++ task_word config t
verdict_words config (verdict.Reads set) = codes " reads" ++ task_words config set
verdict_words config (verdict.Guarded set) = codes " guarded" ++ resource_words config set
verdict_words config (verdict.Ordered list) = codes " ordered" ++ keepers_words config list
verdict_words config (verdict.Open p) = codes " open" ++ pair_words config p

-- the line of a symbol
unfoldable pub share_line : Config → App → List Verdict → ℕ → List ℕ
share_line config app verdicts y = ((get_or app.symbols y no_symbol).name ++ verdict_words config (get_or verdicts y verdict.Unused)) ++ codes "\n"

-- the lines of the first symbols, so many of them
unfoldable pub share_lines : Config → App → List Verdict → ℕ → List ℕ
share_lines config app verdicts zero = []
share_lines config app verdicts (suc k) = share_lines config app verdicts k ++ share_line config app verdicts k

-- these are the lines of the verdicts of all symbols, and runs keep what these promise
pub record HasShares (config : Config) (app : App) (text : List ℕ) : Type 0 where
  pub verdicts : List Verdict
  pub are_verdicts : AreVerdicts config app verdicts
  pub lines : text ≡ share_lines config app verdicts (length app.symbols)
  pub kept : RunsKeepApart config app verdicts

-- the texts are accepted, and these are the lines of what they mean
pub record IsSharesText (oil src text : List ℕ) : Type 0 where
  pub config : Config
  pub app : App
  pub accepted : AreAccepted oil src config app
  pub has_shares : HasShares config app text

-- texts have one list of lines at most
abbrev pub OneText : Type 0
OneText = (oil src one other : List ℕ) → IsSharesText oil src one → IsSharesText oil src other → one ≡ other
