-- What a text in the counted form shows, and its first line that shows nothing.
use Rattle.std.specs.Prelude.{ℕ, ◌+◌, ◌≡◌, ◌≢◌, List, [], ◌∷◌, ◌++◌, length, All}
use Rattle.sloth_base.specs.ImageRange.{AreNames, AreNamesApart}
use Rattle.sloth_base.specs.declared.config.DeclaredNames.{DeclaredNames}
use Rattle.sloth_base.specs.declared.service.Stamped.{Stamped}
use Rattle.text_pieces.specs.Bytes.{behind}
use Rattle.trace_text.specs.EventLines.{IsLineOf, counted_line}
use Rattle.trace_text.specs.Texts.{lines_with}
use Rattle.trace_text.specs.declared.events.Form.TheVariants as form

-- names by which the lines of events are read: words, those of counters apart from those of tasks
pub record AreReadable (names : DeclaredNames) : Type 0 where
  pub tasks : AreNames names.tasks
  pub funcs : AreNames names.funcs
  pub counters : AreNames names.counters
  pub apart : AreNamesApart names.counters names.tasks

-- the text of events in the counted form
abbrev pub text_of : (tasks functions counters : List (List ℕ)) → List Stamped → List ℕ
text_of tasks functions counters events = lines_with tasks functions counters form.Counted events

-- an event has a line: its numbers are of 32 bits, and name tasks, functions and counters, or no task or counter
abbrev pub HasLine : (tasks functions counters : List (List ℕ)) → Stamped → Type 0
HasLine tasks functions counters e = IsLineOf tasks functions counters e (counted_line tasks functions counters e)

-- the text is that of these events
pub record IsEventText (tasks functions counters : List (List ℕ)) (events : List Stamped) (text : List ℕ) : Type 0 where
  pub lines : All (HasLine tasks functions counters) events
  pub is : text ≡ text_of tasks functions counters events

-- the first line is no event's, or no LF ends it
abbrev pub HasNoFirstLine : (tasks functions counters : List (List ℕ)) → List ℕ → Type 0
HasNoFirstLine tasks functions counters text =
    (e : Stamped) (after : List ℕ) → HasLine tasks functions counters e → text ≡ counted_line tasks functions counters e ++ 10 ∷ after → ⊥

-- line k is the first that is no event's, or not ended by LF
pub record IsFirstBad (tasks functions counters : List (List ℕ)) (text : List ℕ) (k : ℕ) : Type 0 where
  pub front : List Stamped
  pub rest : List ℕ
  pub lines : All (HasLine tasks functions counters) front
  pub is : text ≡ text_of tasks functions counters front ++ rest
  pub line : k ≡ length front + 1
  pub more : rest ≢ []
  pub bad : HasNoFirstLine tasks functions counters rest

-- the first line of the text is this event's, and an LF ends it
pub record HasFirstLine (tasks functions counters : List (List ℕ)) (text : List ℕ) (e : Stamped) : Type 0 where
  pub line : HasLine tasks functions counters e
  pub is : text ≡ counted_line tasks functions counters e ++ 10 ∷ behind 10 text
