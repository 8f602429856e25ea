-- The commands that read files, judge what they hold, and end with one answer: a row for each in each of these tables.
use Rattle.std.specs.Prelude.{ℕ, ◌≡◌, ◌≤◌, ◌+◌, List, [], ◌∷◌, ◌++◌, length, get_or, take, codes, decimal, Bool, true, false, not, ◌&&◌, ◌==◌, if◌then◌else◌, cond, Option, Some, None, option_to_list}
use Rattle.std.specs.Str.{bytes_eq}
use Rattle.sloth_base.specs.Limits.{count_limit, picture_limit}
use Rattle.command_line.specs.declared.counts.Counts.{Counts}
use Rattle.command_line.specs.declared.counts.Counts.TheVariants as counts
use Rattle.command_line.specs.declared.counts.Limit.{Limit}
use Rattle.command_line.specs.declared.counts.Limit.TheVariants as limit
use Rattle.command_line.specs.declared.counts.Window.{Window}
use Rattle.command_line.specs.declared.tool.Tool.{Tool}
use Rattle.command_line.specs.declared.tool.Tool.TheVariants as tool

-- ---- the table

-- a row: the tool's first word; how many names are its next words, those of the files that it reads and of a task behind them; the word behind these names
-- and the counts behind that word, if it has them; and whether its last word names a file that it writes
pub record ToolRow : Type 0 where
  pub word : List ℕ
  pub inputs : ℕ
  pub further : Option (List ℕ)
  pub limit : Option Limit
  pub writes : Bool

abbrev row : List ℕ → ℕ → Option (List ℕ) → Option Limit → Bool → ToolRow
row word inputs further limit writes = record { word = word; inputs = inputs; further = further; limit = limit; writes = writes }

-- the row of a tool
abbrev pub tool_row : Tool → ToolRow
tool_row tool.Elf = row (codes "elf") 1 None None true
tool_row tool.Unelf = row (codes "unelf") 1 None None true
tool_row tool.Infer = row (codes "infer") 2 None None true
tool_row tool.At = row (codes "at") 2 None (Some (limit.One 999999)) false
tool_row tool.AtAll = row (codes "at") 2 None (Some (limit.One 999999)) false
tool_row tool.Losses = row (codes "losses") 3 None (Some (limit.One count_limit)) false
tool_row tool.Wave = row (codes "wave") 2 None (Some (limit.One count_limit)) true
tool_row tool.Picture = row (codes "picture") 2 None (Some (limit.Window count_limit picture_limit)) true
tool_row tool.Check = row (codes "check") 4 None (Some (limit.One count_limit)) false
tool_row tool.Bounds = row (codes "bounds") 2 None None false
tool_row tool.Latency = row (codes "bounds") 2 (Some (codes "latency")) None false
tool_row tool.LowerCounts = row (codes "bounds") 2 (Some (codes "counts")) None false
tool_row tool.Map = row (codes "map") 2 None None false
tool_row tool.Shares = row (codes "shares") 2 None None false
tool_row tool.Response = row (codes "response") 3 None None false
tool_row tool.Why = row (codes "why") 2 None None false
tool_row tool.TaskBound = row (codes "why") 3 None None false
tool_row tool.TaskResponse = row (codes "response") 4 None None false
tool_row tool.Symbols = row (codes "symbols") 2 None None true
tool_row tool.Orti = row (codes "orti") 2 None None true
tool_row tool.Labels = row (codes "why") 2 (Some (codes "labels")) None false
tool_row tool.TraceReason = row (codes "why") 4 None (Some (limit.One count_limit)) false
tool_row tool.Unused = row (codes "unused") 2 None None false
tool_row tool.RunResponse = row (codes "response") 4 None (Some (limit.One count_limit)) false

-- the tools
abbrev pub tools : List Tool
tools =
    tool.Elf ∷ tool.Unelf ∷ tool.Infer ∷ tool.At ∷ tool.AtAll ∷ tool.Losses ∷ tool.Wave ∷ tool.Picture ∷ tool.Check
    ∷ tool.Bounds ∷ tool.Latency ∷ tool.LowerCounts ∷ tool.Map ∷ tool.Shares ∷ tool.Response ∷ tool.Why
    ∷ tool.TaskBound ∷ tool.TaskResponse ∷ tool.Symbols ∷ tool.Orti ∷ tool.Labels ∷ tool.TraceReason
    ∷ tool.Unused ∷ tool.RunResponse ∷ []

-- its first word
abbrev pub tool_word : Tool → List ℕ
tool_word t = (tool_row t).word

-- how many names are its next words: those of the files that it reads, and of a task behind them
abbrev pub input_count : Tool → ℕ
input_count t = (tool_row t).inputs

-- how many of them are of files that it reads
abbrev pub file_count : Tool → ℕ
file_count tool.TaskBound = 2
file_count tool.TaskResponse = 3
file_count t = input_count t

-- the word that stands behind these names, if one does
abbrev pub further_word : Tool → Option (List ℕ)
further_word t = (tool_row t).further

-- which counts it takes as its next words, if it takes any
abbrev pub counts_limit : Tool → Option Limit
counts_limit t = (tool_row t).limit

-- the word that stands behind its counts, if one does
abbrev pub closing_word : Tool → Option (List ℕ)
closing_word tool.AtAll = Some (codes "all")
closing_word _ = None

-- whether its last word names a file that it writes
abbrev pub writes_file : Tool → Bool
writes_file t = (tool_row t).writes

-- how many numbers stand where there is a limit
abbrev pub number_count : Option Limit → ℕ
number_count None = 0
number_count (Some (limit.One most)) = 1
number_count (Some (limit.Window most apart)) = 2

-- how many words it has
abbrev pub word_count : Tool → ℕ
word_count t =
    1 + (input_count t + (length (option_to_list (further_word t)) + (number_count (counts_limit t)
    + (length (option_to_list (closing_word t)) + cond (writes_file t) 1 0))))

-- ---- two tools of one word, and of as many words

-- the further word of the second one, by the first word
abbrev pub second_word : (word : List ℕ) → List ℕ
second_word word = cond (bytes_eq word (codes "why")) (codes "labels") (codes "counts")

-- the fourth word is that of the second one
abbrev pub asks_second : (words : List (List ℕ)) → Bool
asks_second words = bytes_eq (get_or words 3 []) (second_word (get_or words 0 []))

-- of two such tools it is the one that is asked for
abbrev pub is_meant : Tool → (asks : Bool) → Bool
is_meant tool.Latency asks = not asks
is_meant tool.LowerCounts asks = asks
is_meant tool.TaskBound asks = not asks
is_meant tool.Labels asks = asks
is_meant _ asks = true

-- a tool that is one of the two is the one that is asked for
abbrev pub IsAskedFor : Tool → (asks : Bool) → Type 0
IsAskedFor t asks = is_meant t asks ≡ true

-- ---- the tool of a word

-- it has this word and so many words, and is the one that is asked for
abbrev pub is_called : Tool → (word : List ℕ) → (count : ℕ) → (asks : Bool) → Bool
is_called t word count asks = bytes_eq word (tool_word t) && ((count == word_count t) && is_meant t asks)

-- the first of these
abbrev pub tool_among : List Tool → (word : List ℕ) → (count : ℕ) → (asks : Bool) → Option Tool
tool_among [] word count asks = None
tool_among (t ∷ rest) word count asks = if is_called t word count asks then Some t else tool_among rest word count asks

-- the first of all
unfoldable pub tool_called : (word : List ℕ) → (count : ℕ) → (asks : Bool) → Option Tool
tool_called word count asks = tool_among tools word count asks

-- ---- uses

-- a tool with the names of the files that it reads and of a task, its counts and the file that it writes, if it has them
pub record ToolUse : Type 0 where
  pub tool : Tool
  pub inputs : List (List ℕ)
  pub counts : Option Counts
  pub output : Option (List ℕ)

-- the files that it reads
abbrev pub file_names : ToolUse → List (List ℕ)
file_names used = take (file_count used.tool) used.inputs

-- the words of counts, if there are any
abbrev pub counts_words : Option Counts → List (List ℕ)
counts_words None = []
counts_words (Some (counts.One n)) = decimal n ∷ []
counts_words (Some (counts.Window w)) = decimal w.from ∷ decimal w.to ∷ []

-- the word of a file that is written, if there is one
abbrev pub output_words : Option (List ℕ) → List (List ℕ)
output_words None = []
output_words (Some name) = name ∷ []

-- the words of a tool that stand behind its counts
abbrev pub last_words : Tool → Option (List ℕ) → List (List ℕ)
last_words t output = option_to_list (closing_word t) ++ output_words output

-- the words of a tool
abbrev pub tool_words : ToolUse → List (List ℕ)
tool_words used =
    tool_word used.tool ∷ used.inputs ++ (option_to_list (further_word used.tool) ++ (counts_words used.counts ++ last_words used.tool used.output))

-- a window whose ends are in order, the second at most so great, and at most so far behind the first
pub record IsWindow (most apart : ℕ) (window : Window) : Type 0 where
  pub ordered : window.from ≤ window.to
  pub short : window.to ≤ window.from + apart
  pub within : window.to ≤ most

-- counts within a limit
abbrev pub AreWithin : Limit → Counts → Type 0
AreWithin (limit.One most) (counts.One n) = n ≤ most
AreWithin (limit.One most) (counts.Window w) = ⊥
AreWithin (limit.Window most apart) (counts.One n) = ⊥
AreWithin (limit.Window most apart) (counts.Window w) = IsWindow most apart w

-- counts within the limit, where there is a limit; else none
abbrev pub AreCounts : Option Limit → Option Counts → Type 0
AreCounts None None = Unit {0}
AreCounts None (Some c) = ⊥
AreCounts (Some l) None = ⊥
AreCounts (Some l) (Some c) = AreWithin l c

-- the number among a tool's counts, or 0
abbrev pub number_of : Option Counts → ℕ
number_of None = 0
number_of (Some (counts.One n)) = n
number_of (Some (counts.Window w)) = 0

-- the window among a tool's counts, or one of no counts
abbrev pub window_of : Option Counts → Window
window_of None = record { from = 0; to = 0 }
window_of (Some (counts.One n)) = record { from = 0; to = 0 }
window_of (Some (counts.Window w)) = w

-- words begin with counts within the limit, if there is one, and these stand behind them
abbrev pub BeginWith : Option Limit → List (List ℕ) → Option Counts → List (List ℕ) → Type 0
BeginWith limit words c rest = (words ≡ counts_words c ++ rest) × AreCounts limit c

-- a file that is written, where one is; else none
abbrev pub IsOutput : Bool → Option (List ℕ) → Type 0
IsOutput false None = Unit {0}
IsOutput false (Some name) = ⊥
IsOutput true None = ⊥
IsOutput true (Some name) = Unit {0}

-- it has what its rows of the tables ask for, and of two tools of one word it is the one that its words ask for
pub record IsToolUse (used : ToolUse) : Type 0 where
  pub asked : IsAskedFor used.tool (asks_second (tool_words used))
  pub counted : length used.inputs ≡ input_count used.tool
  pub counts : AreCounts (counts_limit used.tool) used.counts
  pub output : IsOutput (writes_file used.tool) used.output
