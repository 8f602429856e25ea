-- The words of a command.
use Rattle.std.specs.Prelude.{ℕ, ◌≡◌, ◌≤◌, List, [], ◌∷◌, map, codes, decimal, string_bytes, String, Option, Some, None}
use Rattle.std.proofs.Common.{Global}
use Rattle.sloth_base.specs.Limits.{count_limit}
use Rattle.trace_text.specs.declared.events.Form.{Form}
use Rattle.trace_text.specs.declared.events.Form.TheVariants as form
use Rattle.command_line.specs.Tools.{ToolUse, tool_words, IsToolUse}

-- how an image is run: the form of the lines, the arrivals, and how many instructions
pub record Run : Type 0 where
  pub form : Form
  pub arr : List ℕ
  pub n : ℕ

-- what is built: the configuration, the task code, where the image goes, and how it is run, if it is
pub record Building : Type 0 where
  pub oil : List ℕ
  pub src : List ℕ
  pub img : List ℕ
  pub run : Option Run

-- a run of an image file: the file, the arrivals, and how many instructions
pub record Execution : Type 0 where
  pub img : List ℕ
  pub arr : List ℕ
  pub n : ℕ

-- a command: one that builds an image, one that runs an image file, one that lists an image file, one that generates an application from
-- a seed, builds its image and runs it, or a tool
pub data Command : Type 0 where
  Builds : Building → Command
  Executes : Execution → Command
  Lists : List ℕ → Command
  Samples : ℕ → List ℕ → Command
  Uses : ToolUse → Command

-- `run` prints the events with their counts, `order` without them
abbrev pub word_of : Form → List ℕ
word_of form.Counted = codes "run"
word_of form.Bare = codes "order"

-- `build OIL SRC IMG`, `run OIL SRC ARR IMG N`, `order OIL SRC ARR IMG N`
abbrev pub words_by : List ℕ → List ℕ → List ℕ → Option Run → List (List ℕ)
words_by oil src img None = codes "build" ∷ oil ∷ src ∷ img ∷ []
words_by oil src img (Some run) = word_of run.form ∷ oil ∷ src ∷ run.arr ∷ img ∷ decimal run.n ∷ []

-- those, `exec IMG ARR N`, `list IMG`, `sample SEED IMG` and the words of tools
abbrev pub spelling : Command → List (List ℕ)
spelling (Builds b) = words_by b.oil b.src b.img b.run
spelling (Executes e) = codes "exec" ∷ e.img ∷ e.arr ∷ decimal e.n ∷ []
spelling (Lists img) = codes "list" ∷ img ∷ []
spelling (Samples seed img) = codes "sample" ∷ decimal seed ∷ img ∷ []
spelling (Uses used) = tool_words used

-- at most so many instructions are run
abbrev pub IsInLimit : Option Run → Type 0
IsInLimit None = Unit {0}
IsInLimit (Some run) = run.n ≤ count_limit

-- the same of a command; a seed is a word of 32 bits, and a tool has what its row of the table asks for
abbrev pub KeepsLimit : Command → Type 0
KeepsLimit (Builds b) = IsInLimit b.run
KeepsLimit (Executes e) = e.n ≤ count_limit
KeepsLimit (Lists img) = Unit {0}
KeepsLimit (Samples seed img) = seed ≤ 4294967295
KeepsLimit (Uses used) = IsToolUse used

-- the words are those of this command
abbrev pub IsCommand : List (List ℕ) → Command → Type 0
IsCommand words c = (words ≡ spelling c) × KeepsLimit c

-- the words are those of no command
abbrev pub NoCommand : List (List ℕ) → Type 0
NoCommand words = (c : Command) → IsCommand words c → ⊥

-- the words are those of no tool
abbrev pub NoTool : List (List ℕ) → Type 0
NoTool words = (used : ToolUse) → IsCommand words (Uses used) → ⊥

-- a command that is no tool
abbrev pub IsNoTool : Command → Type 0
IsNoTool (Builds b) = Unit {0}
IsNoTool (Executes e) = Unit {0}
IsNoTool (Lists img) = Unit {0}
IsNoTool (Samples seed img) = Unit {0}
IsNoTool (Uses used) = ⊥

-- the words are those of no command but a tool
abbrev pub ToolAtMost : List (List ℕ) → Type 0
ToolAtMost words = (c : Command) → IsNoTool c → IsCommand words c → ⊥

-- the bytes of each word
abbrev pub words_of : List (String Global) → List (List ℕ)
words_of words = map (λ w. string_bytes w) words
