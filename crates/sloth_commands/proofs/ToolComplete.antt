-- Which answer a tool has, where the files that it reads are told.
use Rattle.std.proofs.Common.{◌≡◌, ◌∙◌, inl, inr, ℕ, List, ◌∷◌, length, refl, subst}
use Rattle.std.specs.Prelude.{IsTrue, ◌⊎◌, Option, Some, None, codes}
use Rattle.sloth_base.specs.Limits.{file_limit}
use Rattle.sloth_io.specs.Counts.{Rose}
use Rattle.sloth_io.specs.Store.{Files, IsMissing, IsTooLong}
use Rattle.image_file.specs.declared.read.ImageFault.{ImageFault}
use Rattle.image_file.proofs.Faulted.{fault_is_one, none_is_both}
use Rattle.command_line.specs.Command.{Command, Builds, Executes, Lists, Samples, Uses, IsCommand}
use Rattle.command_line.specs.Tools.{ToolUse, file_names}
use Rattle.command_line.specs.declared.counts.Counts.{Counts}
use Rattle.command_line.specs.declared.tool.Tool.{Tool}
use Rattle.command_line.proofs.Commands.{one-command}
use Rattle.tool_commands.specs.Answers.{IsAnswer}
use Rattle.command_line.specs.Lines.{tool_text}
use Rattle.command_line.specs.declared.answer.Outcome.{Outcome}
use Rattle.command_line.specs.declared.answer.ToolAnswer.{ToolAnswer}
use Rattle.command_line.specs.declared.answer.ToolAnswer.TheVariants as tool_answer
use Rattle.tool_commands.proofs.OneAnswer.{image-or-fault, no-image, one_answer}
use Rattle.command_line.specs.ImageReaders.{HasImage}
use Rattle.core_commands.specs.ImageFiles.{IsNoImage}
use Rattle.command_line.specs.Statuses.{tool_status}
use Rattle.sloth_commands.specs.ToolFiles.{IsToolAnswer}
use Rattle.core_commands.specs.ToolInputs.{AreToolInputs, ReadsImageFirst}
use Rattle.sloth_commands.specs.ToolAnswers.{IsToolTold, IsToolStatus, OutputWorks, StandsFor, ToolWorks, HasToolAnswer, HasToolDoneAnswer}
use Rattle.core_commands.specs.Top.{World, IsFailedRead, IsLongRead, FilesAfter, IsUnwrittenOutput, IsRequired, IsPutAnswer, IsTextTaken, IsTextBrokenOff, IsFullAnswer, IsTopAnswer}
use Rattle.core_commands.specs.Top.{IsCommandDone, IsCommandRefused, IsCommandUnwritten, IsCommandStopped, ReadsWork, LacksTask}
use Rattle.command_line.specs.declared.answer.Status.{Status}
use Rattle.command_line.specs.declared.answer.Status.TheVariants as status
use Rattle.core_commands.proofs.OwnOutput.{keeps-inputs, no-usage}
use Rattle.core_commands.specs.CommandFiles.{HasOwnOutput, IsUsageCause}
use Rattle.core_commands.proofs.Complete.{not-missing, not-long, counted-put, no-broken-put, no-failed-write}
use Rattle.core_commands.proofs.ImageComplete.{KnowsAnyImage}
use Rattle.core_commands.proofs.ToolEnds.{AnswersAs}
use Rattle.core_commands.proofs.ToolReads.{none-unread, told-inputs}

pub no-failed-tool-read : (old new : Files) (u : ToolUse) (inputs : List (List ℕ)) → IsTrue old.tells → AreToolInputs old (file_names u) inputs → ReadsWork old new
    → IsFailedRead old new (Uses u) → ⊥
no-failed-tool-read old new u inputs tells i works =
    none-unread (IsMissing old new) old (file_names u) inputs i (λ name bytes holds short. not-missing old new name bytes tells works holds)

pub no-long-tool-read : (old new : Files) (u : ToolUse) (inputs : List (List ℕ)) → IsTrue old.tells → AreToolInputs old (file_names u) inputs
    → IsLongRead old new (Uses u) → ⊥
no-long-tool-read old new u inputs tells i =
    none-unread (λ name. IsTooLong old new name file_limit) old (file_names u) inputs i (λ name bytes holds short. not-long old new name bytes tells holds short)

-- what an answer says of the image file that a tool reads first
image-of-inputs : (old : Files) (u : ToolUse) (file : List ℕ) (b : ToolAnswer) → IsTrue old.tells → ReadsImageFirst old u file
    → (inputs : List (List ℕ)) → AreToolInputs old (file_names u) inputs → IsAnswer u.tool u.counts u.inputs inputs b
    → HasImage file ⊎ ((fault : ImageFault) × (b ≡ tool_answer.NotAnImage fault))
image-of-inputs old u file b tells i inputs read answers =
    let same : inputs ≡ file ∷ i.rest = told-inputs old (file_names u) inputs (file ∷ i.rest) tells read i.read in
    let is = subst (λ xs. IsAnswer u.tool u.counts u.inputs xs b) same answers in
    image-or-fault u.tool u.counts u.inputs (file ∷ i.rest) b i.first is

tool-image : (old : Files) (u : ToolUse) (file : List ℕ) (b : ToolAnswer) → IsTrue old.tells → ReadsImageFirst old u file → IsToolAnswer old u b
    → HasImage file ⊎ ((fault : ImageFault) × (b ≡ tool_answer.NotAnImage fault))
tool-image old u file b tells i h = image-of-inputs old u file b tells i h.inputs h.read h.is

pub knows-image : (old : Files) (c : Command) → KnowsAnyImage IsToolAnswer old c
knows-image old (Builds b) file tells i = tt
knows-image old (Executes e) file tells i = tt
knows-image old (Lists img) file tells i = tt
knows-image old (Samples seed img) file tells i = tt
knows-image old (Uses u) file tells i = λ b h. tool-image old u file b tells i h

-- the write of an answer's file failed
abbrev IsUnwrittenFor : ToolAnswer → Option (List ℕ) → Files → Files → Type 0
IsUnwrittenFor (tool_answer.Done outcome) output old new = IsUnwrittenOutput old new output outcome.file
IsUnwrittenFor (tool_answer.Refused r) output old new = ⊥
IsUnwrittenFor (tool_answer.Stopped pc stop) output old new = ⊥
IsUnwrittenFor (tool_answer.NotAnImage f) output old new = ⊥
IsUnwrittenFor (tool_answer.NotAnElf f) output old new = ⊥
IsUnwrittenFor (tool_answer.Explained kind f) output old new = ⊥
IsUnwrittenFor (tool_answer.BadTrace f) output old new = ⊥
IsUnwrittenFor tool_answer.NoHolds output old new = ⊥
IsUnwrittenFor (tool_answer.Unmet lines) output old new = ⊥
IsUnwrittenFor tool_answer.NoTask output old new = ⊥

-- what a failed write leaves to be said
data Told (words : List (List ℕ)) (a : ToolAnswer) (output : Option (List ℕ)) (old new : World) (answer : Status) : Type 0 where
  Whole : IsToolTold a output old new answer → Told words a output old new answer
  Wanting : IsFullAnswer IsToolAnswer status.NoMemory words old new answer → Told words a output old new answer
  Unwritten : answer ≡ status.WriteFault → IsUnwrittenFor a output old.files new.files → Told words a output old new answer
  Broke : answer ≡ status.WriteFault → IsTextBrokenOff old.sink new.sink (tool_text a) → Told words a output old new answer
  BrokeWanting : answer ≡ status.WriteFault → IsTextBrokenOff old.sink new.sink (codes "no memory\n") → Told words a output old new answer

module _ (words : List (List ℕ)) (old new : World) (answer : Status) (u : ToolUse) (is : IsCommand words (Uses u)) (tells : IsTrue old.files.tells)
    (own_output : HasOwnOutput (Uses u)) (inputs : List (List ℕ)) (i : AreToolInputs old.files (file_names u) inputs) (works : ReadsWork old.files new.files) (a : ToolAnswer)
    (is_answer : IsAnswer u.tool u.counts u.inputs inputs a) where
  -- what the tool answers is an answer to these files
  an-answer : (b : ToolAnswer) → IsToolAnswer old.files u b → IsAnswer u.tool u.counts u.inputs inputs b
  an-answer b h =
      let same : h.inputs ≡ inputs = told-inputs old.files (file_names u) h.inputs inputs tells h.read i in
      subst (λ xs. IsAnswer u.tool u.counts u.inputs xs b) same h.is

  ended : (wanted : Status) (b : ToolAnswer) (text : List ℕ) → IsToolAnswer old.files u b → wanted ≡ tool_status b → text ≡ tool_text b
      → FilesAfter b old.files new.files u.output → IsPutAnswer wanted answer old.sink new.sink text
      → (c : ToolAnswer) × IsAnswer u.tool u.counts u.inputs inputs c × Told words c u.output old new answer
  ended wanted b text h status_is text_is after (inl p) = (
    b,
    an-answer b h,
    Whole (record { status_is = p.0 ∙ status_is; text = subst (λ x. IsTextTaken old.sink new.sink x) text_is p.1; files = after }),
  )
  ended wanted b text h status_is text_is after (inr p) =
      (b, an-answer b h, Broke p.0 (subst (λ x. IsTextBrokenOff old.sink new.sink x) text_is p.1))

  own : (c : Command) (b : ToolAnswer) → IsCommand words c → AnswersAs IsToolAnswer old.files b c → IsToolAnswer old.files u b
  own c b other h = subst (AnswersAs IsToolAnswer old.files b) (one-command words c (Uses u) other is) h

  -- where the image file that it reads has a fault, this is its answer
  no-image-told : (fault : ImageFault) → IsNoImage old.files (Uses u) fault → IsToolAnswer old.files u (tool_answer.NotAnImage fault)
  no-image-told fault n = by (image-of-inputs old.files u n.file a tells n.inputs inputs i is_answer)
    where
      by : HasImage n.file ⊎ ((own : ImageFault) × (a ≡ tool_answer.NotAnImage own)) → IsToolAnswer old.files u (tool_answer.NotAnImage fault)
      by (inl image) = absurd (none_is_both n.file image.0 fault image.1 n.faulty)
      by (inr other) =
          let same : inputs ≡ n.file ∷ n.inputs.rest = told-inputs old.files (file_names u) inputs (n.file ∷ n.inputs.rest) tells i n.inputs.read in
          let is_no : IsAnswer u.tool u.counts u.inputs (n.file ∷ n.inputs.rest) (tool_answer.NotAnImage other.0) =
          subst (λ xs. IsAnswer u.tool u.counts u.inputs xs (tool_answer.NotAnImage other.0)) same (subst (λ x. IsAnswer u.tool u.counts u.inputs inputs x) other.1 is_answer) in
          let fault_is : other.0 ≡ fault = fault_is_one n.file other.0 fault (no-image u.tool u.counts u.inputs (n.file ∷ n.inputs.rest) other.0 is_no).1 n.faulty in
          record {
            inputs = n.file ∷ n.inputs.rest;
            read = n.inputs.read;
            delivered = n.delivered;
            is = subst (λ f. IsAnswer u.tool u.counts u.inputs (n.file ∷ n.inputs.rest) (tool_answer.NotAnImage f)) fault_is is_no;
          }

  told-by : (wanted : Status) (text : List ℕ) → IsRequired IsToolAnswer wanted words old.files new.files text → IsPutAnswer wanted answer old.sink new.sink text
      → (b : ToolAnswer) × IsAnswer u.tool u.counts u.inputs inputs b × Told words b u.output old new answer
  told-by status.Done text q p =
      let d = subst (λ x. IsCommandDone IsToolAnswer old.files new.files x text) (one-command words q.0 (Uses u) q.1 is) q.2 in
      ended status.Done d.answer text d.is d.status_is d.text_is d.files p
  told-by status.Stopped text q p =
      let d = subst (λ x. IsCommandStopped IsToolAnswer old.files new.files x text) (one-command words q.0 (Uses u) q.1 is) q.2 in
      ended status.Stopped d.answer text d.is d.status_is d.text_is d.files p
  told-by status.Refused text q p =
      let d = subst (λ x. IsCommandRefused IsToolAnswer old.files x q.2) (one-command words q.0 (Uses u) q.1 is) q.3 in
      ended status.Refused (tool_answer.Refused q.2) text d refl q.4 q.5 p
  told-by status.NotAnImage text q p =
      let n = subst (λ x. IsNoImage old.files x q.2) (one-command words q.0 (Uses u) q.1 is) q.3 in
      ended status.NotAnImage (tool_answer.NotAnImage q.2) text (no-image-told q.2 n) refl q.4 q.5 p
  told-by status.NotAnElf text q p = ended status.NotAnElf (tool_answer.NotAnElf q.2) text (own (Uses q.0) (tool_answer.NotAnElf q.2) q.1 q.3) refl q.4 q.5 p
  told-by (status.Explained kind) text q p = ended (status.Explained kind) (tool_answer.Explained kind q.2) text (own (Uses q.0) (tool_answer.Explained kind q.2) q.1 q.3) refl q.4 q.5 p
  told-by status.BadTrace text q p = ended status.BadTrace (tool_answer.BadTrace q.2) text (own (Uses q.0) (tool_answer.BadTrace q.2) q.1 q.3) refl q.4 q.5 p
  told-by status.NoHolds text q p = ended status.NoHolds tool_answer.NoHolds text (own (Uses q.0) tool_answer.NoHolds q.1 q.2) refl q.3 q.4 p
  told-by status.Unmet text q p =
      ended status.Unmet (tool_answer.Unmet q.2) text (own (Uses q.0) (tool_answer.Unmet q.2) q.1 q.3) refl q.4 q.5 p
  told-by status.NoMemory text q (inl p) = (a, is_answer, Wanting (p.0, (text, q, p.1)))
  told-by status.NoMemory text q (inr p) = (a, is_answer, BrokeWanting p.0 (subst (λ x. IsTextBrokenOff old.sink new.sink x) q.2 p.1))
  told-by status.WriteFault text q p =
      let d = subst (IsCommandUnwritten IsToolAnswer old.files new.files) (one-command words q.0 (Uses u) q.1 is) q.2 in
      (tool_answer.Done d.outcome, an-answer (tool_answer.Done d.outcome) d.is, Unwritten (write-fault p) d.failed)
    where
      write-fault : IsPutAnswer status.WriteFault answer old.sink new.sink text → answer ≡ status.WriteFault
      write-fault (inl p) = p.0
      write-fault (inr p) = p.0
  told-by status.Usage text q p = by q.0
    where
      by : IsUsageCause words old.files new.files ⊎ LacksTask IsToolAnswer words old.files
          → (b : ToolAnswer) × IsAnswer u.tool u.counts u.inputs inputs b × Told words b u.output old new answer
      by (inl h) = absurd (no-usage words old.files new.files (Uses u) is (keeps-inputs old.files new.files (Uses u) tells own_output) h)
      by (inr h) = ended status.Usage tool_answer.NoTask text (own (Uses h.0) tool_answer.NoTask h.1 h.2) refl q.1 q.2 p
  told-by status.ReadFault text q p =
      absurd (no-failed-tool-read old.files new.files u inputs tells i works (subst (IsFailedRead old.files new.files) (one-command words q.0 (Uses u) q.1 is) q.2))
  told-by status.TooLong text q p =
      absurd (no-long-tool-read old.files new.files u inputs tells i (subst (IsLongRead old.files new.files) (one-command words q.0 (Uses u) q.1 is) q.2))

-- ---- the clauses

rose-output : (output : Option (List ℕ)) (bytes : List ℕ) (old new : Files) → IsUnwrittenOutput old new output bytes → Rose old.failed_writes new.failed_writes
rose-output None bytes old new h = absurd h
rose-output (Some name) bytes old new h = h.0.0

rose-for : (a : ToolAnswer) (output : Option (List ℕ)) (old new : Files) → IsUnwrittenFor a output old new → Rose old.failed_writes new.failed_writes
rose-for (tool_answer.Done outcome) output old new h = rose-output output outcome.file old new h
rose-for (tool_answer.Refused r) output old new h = absurd h
rose-for (tool_answer.Stopped pc stop) output old new h = absurd h
rose-for (tool_answer.NotAnImage f) output old new h = absurd h
rose-for (tool_answer.NotAnElf f) output old new h = absurd h
rose-for (tool_answer.Explained kind f) output old new h = absurd h
rose-for (tool_answer.BadTrace f) output old new h = absurd h
rose-for tool_answer.NoHolds output old new h = absurd h
rose-for (tool_answer.Unmet lines) output old new h = absurd h
rose-for tool_answer.NoTask output old new h = absurd h

not-unwritten-output : (outcome : Outcome) (output : Option (List ℕ)) (old new : Files) → OutputWorks (tool_answer.Done outcome) output old new
    → IsUnwrittenOutput old new output outcome.file → ⊥
not-unwritten-output outcome None old new works h = h
not-unwritten-output outcome (Some name) old new works h = no-failed-write old new name (length outcome.file) works h.0

not-unwritten : (a : ToolAnswer) (output : Option (List ℕ)) (old new : Files) → OutputWorks a output old new → IsUnwrittenFor a output old new → ⊥
not-unwritten (tool_answer.Done outcome) output old new works h = not-unwritten-output outcome output old new works h
not-unwritten (tool_answer.Refused r) output old new works h = h
not-unwritten (tool_answer.Stopped pc stop) output old new works h = h
not-unwritten (tool_answer.NotAnImage f) output old new works h = h
not-unwritten (tool_answer.NotAnElf f) output old new works h = h
not-unwritten (tool_answer.Explained kind f) output old new works h = h
not-unwritten (tool_answer.BadTrace f) output old new works h = h
not-unwritten tool_answer.NoHolds output old new works h = h
not-unwritten (tool_answer.Unmet lines) output old new works h = h
not-unwritten tool_answer.NoTask output old new works h = h

answers-tool : (words : List (List ℕ)) (a : ToolAnswer) (output : Option (List ℕ)) (old new : World) (answer : Status) → Told words a output old new answer
    → IsToolStatus words a output old new answer
answers-tool words a output old new answer (Whole h) = inl h
answers-tool words a output old new answer (Wanting h) = inr (inl h)
answers-tool words a output old new answer (Unwritten is h) = inr (inr (inl (is, rose-for a output old.files new.files h)))
answers-tool words a output old new answer (Broke is h) = inr (inr (inr (is, counted-put old.sink new.sink (tool_text a) h)))
answers-tool words a output old new answer (BrokeWanting is h) = inr (inr (inr (is, counted-put old.sink new.sink (codes "no memory\n") h)))

answers-done : (words : List (List ℕ)) (a : ToolAnswer) (output : Option (List ℕ)) (old new : World) (answer : Status) → ToolWorks a output old new
    → Told words a output old new answer → IsToolTold a output old new answer ⊎ IsFullAnswer IsToolAnswer status.NoMemory words old new answer
answers-done words a output old new answer works (Whole h) = inl h
answers-done words a output old new answer works (Wanting h) = inr h
answers-done words a output old new answer works (Unwritten is h) = absurd (not-unwritten a output old.files new.files works.write h)
answers-done words a output old new answer works (Broke is h) = absurd (no-broken-put old.sink new.sink (tool_text a) works.text h)
answers-done words a output old new answer works (BrokeWanting is h) = absurd (no-broken-put old.sink new.sink (codes "no memory\n") works.last_line h)

-- answers to the same files stand for each other
stands : (t : Tool) (counts : Option Counts) (names inputs : List (List ℕ)) (b a : ToolAnswer) → IsAnswer t counts names inputs b
    → IsAnswer t counts names inputs a → StandsFor t b a
stands t counts names inputs b a p q = λ d. one_answer t counts names inputs b a d p q

pub tells-tool : (words : List (List ℕ)) (old new : World) (answer : Status) → IsTopAnswer IsToolAnswer words old new answer → HasToolAnswer words old new answer
tells-tool words old new answer h u is tells own inputs i reads a is_answer =
    let t = told-by words old new answer u is tells own inputs i reads a is_answer h.wanted h.text h.required h.puts in
    (t.0, t.1, stands u.tool u.counts u.inputs inputs t.0 a t.1 is_answer, answers-tool words t.0 u.output old new answer t.2)

-- what a call that works comes to, of one of the answers
one-done : (P S Q : ToolAnswer → Type 0) (R : Type 0) (b : ToolAnswer) → P b → S b → Q b ⊎ R → ((c : ToolAnswer) × P c × S c × Q c) ⊎ R
one-done P S Q R b p s (inl q) = inl (b, p, s, q)
one-done P S Q R b p s (inr r) = inr r

pub tells-tool-done : (words : List (List ℕ)) (old new : World) (answer : Status) → IsTopAnswer IsToolAnswer words old new answer → HasToolDoneAnswer words old new answer
tells-tool-done words old new answer h u is tells own inputs i a is_answer works =
    let t = told-by words old new answer u is tells own inputs i (works a is_answer).reads a is_answer h.wanted h.text h.required h.puts in
    one-done (λ b. IsAnswer u.tool u.counts u.inputs inputs b) (λ b. StandsFor u.tool b a) (λ b. IsToolTold b u.output old new answer)
    (IsFullAnswer IsToolAnswer status.NoMemory words old new answer) t.0 t.1 (stands u.tool u.counts u.inputs inputs t.0 a t.1 is_answer)
    (answers-done words t.0 u.output old new answer (works t.0 t.1) t.2)
