-- The files that a command reads, in which order, and the one that it writes.
use Rattle.std.specs.Prelude.{ℕ, ◌≡◌, ◌≢◌, ◌⊎◌, List, [], ◌∷◌, Option, Some, None}
use Rattle.std.specs.List.{AllByRecursion}
use Rattle.sloth_io.specs.Store.{Files, AreDelivered, IsSaidSame}
use Rattle.command_line.specs.Command.{Command, Run, Builds, Executes, Lists, Samples, Uses, IsCommand, NoCommand}
use Rattle.command_line.specs.Tools.{file_names}
use Rattle.core_commands.specs.ToolInputs.{input_deliveries}

-- the file that a run reads its arrivals from
abbrev pub arrivals_named : Option Run → List (List ℕ)
arrivals_named None = []
arrivals_named (Some run) = run.arr ∷ []

-- the files that a command reads, in the order of its words
abbrev pub inputs_of : Command → List (List ℕ)
inputs_of (Builds b) = b.oil ∷ b.src ∷ arrivals_named b.run
inputs_of (Executes e) = e.img ∷ e.arr ∷ []
inputs_of (Lists img) = img ∷ []
inputs_of (Samples seed img) = []
inputs_of (Uses u) = file_names u

-- the file that a command writes, if it writes one
abbrev pub output_of : Command → Option (List ℕ)
output_of (Builds b) = Some b.img
output_of (Executes e) = None
output_of (Lists img) = None
output_of (Samples seed img) = Some img
output_of (Uses u) = u.output

-- the store said that the file of this name is that of one of these, which it may be
abbrev pub IsFileAmong : Files → Files → List ℕ → List (List ℕ) → Type 0
IsFileAmong old new name [] = ⊥
IsFileAmong old new name (other ∷ rest) = IsSaidSame old new name other ⊎ IsFileAmong old new name rest

-- the same of the file of a name, if there is one
abbrev pub IsOutputAmong : Files → Files → Option (List ℕ) → List (List ℕ) → Type 0
IsOutputAmong old new None inputs = ⊥
IsOutputAmong old new (Some name) inputs = IsFileAmong old new name inputs

-- the store said in a call that the file which a command writes is one that it reads
abbrev pub OverwritesInput : Files → Files → Command → Type 0
OverwritesInput old new c = IsOutputAmong old new (output_of c) (inputs_of c)

-- nothing has changed but what the store said of names
abbrev pub IsOnlyAsked : Files → Files → Type 0
IsOnlyAsked old new = new ≡ record old { same = new.same }

-- none of these names is that of the file that is written, if one is
abbrev pub IsNameApart : Option (List ℕ) → List (List ℕ) → Type 0
IsNameApart None inputs = Unit {0}
IsNameApart (Some name) inputs = AllByRecursion (λ other. name ≢ other) inputs

-- the file that a command writes has not the name of one that it reads
abbrev pub HasOwnOutput : Command → Type 0
HasOwnOutput c = IsNameApart (output_of c) (inputs_of c)

-- why the words are answered by `usage`: they are those of no command, or the command would write over a file that it reads, by the store's own word
abbrev pub IsUsageCause : List (List ℕ) → Files → Files → Type 0
IsUsageCause words old new = NoCommand words ⊎ ((c : Command) × IsCommand words c × OverwritesInput old new c)

-- what was delivered are the bytes of the first of these files, in their order, and nothing else: of all of them where all were read
abbrev pub AreFirstDelivered : Files → Files → List (List ℕ) → Type 0
AreFirstDelivered old new names = (inputs : List (List ℕ)) × AreDelivered old new (input_deliveries names inputs)

-- What a call read, whatever its answer: of a command's files the first, in the order of its words; of words of no command nothing.
abbrev pub ReadsInOrder : List (List ℕ) → Files → Files → Type 0
ReadsInOrder words old new =
    ((c : Command) × IsCommand words c × AreFirstDelivered old new (inputs_of c)) ⊎ (NoCommand words × (new.reads ≡ old.reads))
