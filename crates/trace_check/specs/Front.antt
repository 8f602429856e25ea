-- The events of the lines in front of one.
use Rattle.std.specs.Prelude.{ℕ, ◌+◌, ◌≡◌, ◌⊎◌, List, ◌++◌, All, length}
use Rattle.sloth_base.specs.DeclaredNames.{AreNamesOf}
use Rattle.sloth_base.specs.declared.config.DeclaredNames.{DeclaredNames}
use Rattle.sloth_base.specs.declared.config.Config.{Config}
use Rattle.sloth_base.specs.declared.app.App.{App}
use Rattle.sloth_base.specs.declared.service.Stamped.{Stamped}
use Rattle.trace_check.specs.TraceText.{HasFirstLine, HasLine, HasNoFirstLine, text_of}
use Rattle.trace_check.specs.Walk.{IsWalked, IsWalkEnd, Walk}

-- these are the events of the lines in front of line k
pub record AreEventsBefore (config : Config) (app : App) (names : DeclaredNames) (trace : List ℕ) (k : ℕ) (past : List Stamped) : Type 0 where
  pub named : AreNamesOf config app names
  pub lines : All (HasLine names.tasks names.funcs names.counters) past
  pub rest : List ℕ
  pub shows : trace ≡ text_of names.tasks names.funcs names.counters past ++ rest
  pub count : k ≡ length past + 1

-- the walk behind them
pub record IsFront (config : Config) (app : App) (names : DeclaredNames) (trace : List ℕ) (k : ℕ) (walk : Walk) : Type 0 where
  pub past : List Stamped
  pub before : AreEventsBefore config app names trace k past
  pub walked : IsWalked config app past walk

-- the first line of the text is an event's, which leads to no walk
pub record IsLineStray (names : DeclaredNames) (text : List ℕ) (old : Walk) : Type 0 where
  pub event : Stamped
  pub first : HasFirstLine names.tasks names.funcs names.counters text event
  pub ends : IsWalkEnd event old

-- no event leads on from the walk: the first line is none's, or leads to no walk
abbrev pub IsLineEnd : DeclaredNames → List ℕ → Walk → Type 0
IsLineEnd names text old = HasNoFirstLine names.tasks names.funcs names.counters text ⊎ IsLineStray names text old
