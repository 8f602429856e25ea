-- Which answer a command on an image file has, where its inputs are told.
use Rattle.std.proofs.Common.{◌≡◌, ◌≤◌, ◌∙◌, inl, inr, ℕ, List, [], ◌∷◌, length, refl, sym, ap, subst}
use Rattle.std.specs.Prelude.{IsTrue, ◌⊎◌}
use Rattle.sloth_base.specs.declared.service.Arrival.{Arrival}
use Rattle.sloth_base.specs.declared.image.Image.{Image}
use Rattle.sloth_base.specs.declared.refusal.Part.TheVariants.{Arr}
use Rattle.sloth_base.specs.declared.refusal.Refusal.{Refusal}
use Rattle.sloth_base.specs.Limits.{file_limit}
use Rattle.sloth_base.specs.Order.{IsLeast}
use Rattle.sloth_io.specs.Store.{Files, Holds, IsMissing, IsTooLong}
use Rattle.image_file.specs.ImageText.{ImageText}
use Rattle.image_file.specs.Faults.{IsFirstImageFault}
use Rattle.image_file.specs.declared.read.ImageFault.{ImageFault}
use Rattle.image_file.proofs.Faulted.{fault_is_one, none_is_both}
use Rattle.image_file.proofs.Images.{image-unique}
use Rattle.trace_text.specs.ArrivalsText.{ArrivalsFault, arrivals_in}
use Rattle.trace_text.specs.Listing.{listing}
use Rattle.sloth_source.proofs.Least.{one_least}
use Rattle.command_line.specs.Command.{Command, Execution, Builds, Executes, Lists, Samples, Uses, IsCommand}
use Rattle.command_line.specs.Tools.{ToolUse, file_names}
use Rattle.command_line.specs.declared.answer.ToolAnswer.{ToolAnswer}
use Rattle.command_line.specs.declared.answer.ToolAnswer.TheVariants as tool_answer
use Rattle.command_line.specs.ImageReaders.{HasImage}
use Rattle.core_commands.specs.FileInputs.{IsInput}
use Rattle.command_line.specs.Statuses.{tool_status}
use Rattle.core_commands.proofs.ToolReads.{told-inputs, none-unread as no-tool-unread}
use Rattle.core_commands.proofs.ToolEnds.{AnswersAs, KnowsImage}
use Rattle.run_inputs.specs.Inputs.{AreArrivalsOf}
use Rattle.core_commands.specs.ImageFiles.{AreExecInputs, ReadsImageFile, IsRunnable, IsExecuted, IsNoImage, exec_text}
use Rattle.core_commands.specs.ImageAnswers.{end_status, LinesWork, IsNoImageAnswer, IsImageFaultAnswer, IsImageFaultTold, IsNoImageTold, HasExecRefusedAnswer, HasExecutedAnswer, HasListedAnswer}
use Rattle.command_line.specs.LastLine.{no_image_line, refusal_line}
use Rattle.sloth_runner.specs.Runner.{run_end}
use Rattle.core_commands.specs.Top.{World, FirstUnread, IsFailedRead, IsLongRead, IsRequired, IsPutAnswer, IsTextTaken, IsFullAnswer, IsTopAnswer, IsRefusalAnswer, ReadsWork, PutsWork}
use Rattle.core_commands.specs.CommandFiles.{inputs_of, HasOwnOutput, IsUsageCause}
use Rattle.core_commands.specs.Top.{IsCommandDone, IsCommandRefused, IsCommandUnwritten, IsCommandStopped, IsToolEnd, LacksTask}
use Rattle.sloth_runner.specs.declared.runner.RunEnd.{RunEnd}
use Rattle.sloth_runner.specs.declared.runner.RunEnd.TheVariants as ends
use Rattle.command_line.specs.declared.answer.Status.{Status}
use Rattle.command_line.specs.declared.answer.Status.TheVariants as status
use Rattle.command_line.proofs.Commands.{one-command}
use Rattle.core_commands.proofs.OwnOutput.{keeps-inputs, no-usage}
use Rattle.core_commands.proofs.Complete.{told, not-missing, not-long, counted-put, no-tool, never-usage, stands}
use Rattle.run_inputs.proofs.Refused.{of-arrivals}
use Rattle.core_commands.specs.ToolTables.{ToolTable}

-- ---- the inputs that are told

no-exec-unread : (P : List ℕ → Type 0) (old : Files) (e : Execution) (file arr : List ℕ) → AreExecInputs old e file arr
    → ((name bytes : List ℕ) → Holds old name bytes → length bytes ≤ file_limit → P name → ⊥) → FirstUnread old P (e.img ∷ e.arr ∷ []) → ⊥
no-exec-unread P old e file arr i f (inl h) = f e.img file i.image_file.read i.image_file.short h
no-exec-unread P old e file arr i f (inr h) = behind h.1
  where
    behind : FirstUnread old P (e.arr ∷ []) → ⊥
    behind (inl h) = f e.arr arr i.arrivals_file.read i.arrivals_file.short h
    behind (inr h) = h.1

no-list-unread : (P : List ℕ → Type 0) (old : Files) (img file : List ℕ) → IsInput old img file
    → ((name bytes : List ℕ) → Holds old name bytes → length bytes ≤ file_limit → P name → ⊥) → FirstUnread old P (img ∷ []) → ⊥
no-list-unread P old img file i f (inl h) = f img file i.read i.short h
no-list-unread P old img file i f (inr h) = h.1

none-unread : (P : List ℕ → Type 0) (old : Files) (c : Command) (file : List ℕ) → ReadsImageFile old c file
    → ((name bytes : List ℕ) → Holds old name bytes → length bytes ≤ file_limit → P name → ⊥) → FirstUnread old P (inputs_of c) → ⊥
none-unread P old (Builds b) file i f h = i
none-unread P old (Executes e) file i f h = no-exec-unread P old e file i.0 i.1 f h
none-unread P old (Lists img) file i f h = no-list-unread P old img file i f h
none-unread P old (Samples seed img) file i f h = i
none-unread P old (Uses u) file i f h = no-tool-unread P old (file_names u) (file ∷ i.rest) i.read f h

no-failed-read : (old new : Files) (c : Command) (file : List ℕ) → IsTrue old.tells → ReadsImageFile old c file → ReadsWork old new → IsFailedRead old new c → ⊥
no-failed-read old new c file tells i works =
    none-unread (IsMissing old new) old c file i (λ name bytes holds short. not-missing old new name bytes tells works holds)

no-long-read : (old new : Files) (c : Command) (file : List ℕ) → IsTrue old.tells → ReadsImageFile old c file → IsLongRead old new c → ⊥
no-long-read old new c file tells i =
    none-unread (λ name. IsTooLong old new name file_limit) old c file i (λ name bytes holds short. not-long old new name bytes tells holds short)

told-file : (old : Files) (c : Command) (one other : List ℕ) → IsTrue old.tells → ReadsImageFile old c one → ReadsImageFile old c other → one ≡ other
told-file old (Builds b) one other tells h i = absurd h
told-file old (Executes e) one other tells h i = told old e.img one other tells h.1.image_file.read i.1.image_file.read
told-file old (Lists img) one other tells h i = told old img one other tells h.read i.read
told-file old (Samples seed img) one other tells h i = absurd h
told-file old (Uses u) one other tells h i =
    let both : one ∷ h.rest ≡ other ∷ i.rest = told-inputs old (file_names u) (one ∷ h.rest) (other ∷ i.rest) tells h.read i.read in cc

-- ---- an image or none

moved : (one other : List ℕ) → one ≡ other → HasImage one → HasImage other
moved one other same h = subst HasImage same h

-- a tool with another answer has an image
other-answer : (tools : ToolTable) (old : Files) (u : ToolUse) (file : List ℕ) (b : ToolAnswer) → KnowsImage tools old file (Uses u) → tools old u b
    → ((fault : ImageFault) → b ≡ tool_answer.NotAnImage fault → ⊥) → HasImage file
other-answer tools old u file b k h other = by (k b h)
  where
    by : HasImage file ⊎ ((fault : ImageFault) × (b ≡ tool_answer.NotAnImage fault)) → HasImage file
    by (inl image) = image
    by (inr fault) = absurd (other fault.0 fault.1)

ended-image : (tools : ToolTable) (wanted : Status) (old new : Files) (u : ToolUse) (file text : List ℕ) → KnowsImage tools old file (Uses u)
    → IsToolEnd tools wanted old new u text → (wanted ≡ status.NotAnImage → ⊥) → HasImage file
ended-image tools wanted old new u file text k h other =
    other-answer tools old u file h.answer k h.is (λ fault same. other (h.status_is ∙ ap tool_status same))

-- what was run or listed has an image
done-image : (tools : ToolTable) (old new : Files) (c : Command) (file text : List ℕ) → IsTrue old.tells → ReadsImageFile old c file → KnowsImage tools old file c → IsCommandDone tools old new c text → HasImage file
done-image tools old new (Builds b) file text tells i k h = absurd i
done-image tools old new (Executes e) file text tells i k h =
    let a = h.0.accepted in moved a.file file (told-file old (Executes e) a.file file tells (a.arr, a.inputs) i) (h.0.image, a.is_image)
done-image tools old new (Lists img) file text tells i k h =
    moved h.0.file file (told-file old (Lists img) h.0.file file tells h.0.input i) (h.0.image, h.0.is_image)
done-image tools old new (Samples seed img) file text tells i k h = absurd i
done-image tools old new (Uses u) file text tells i k h = ended-image tools status.Done old new u file text k h (λ e. let same : status.Done ≡ status.NotAnImage = e in cc)

stopped-image : (tools : ToolTable) (old new : Files) (c : Command) (file text : List ℕ) → IsTrue old.tells → ReadsImageFile old c file → KnowsImage tools old file c → IsCommandStopped tools old new c text → HasImage file
stopped-image tools old new (Builds b) file text tells i k h = absurd i
stopped-image tools old new (Executes e) file text tells i k h =
    let a = h.2.accepted in moved a.file file (told-file old (Executes e) a.file file tells (a.arr, a.inputs) i) (h.2.image, a.is_image)
stopped-image tools old new (Lists img) file text tells i k h = absurd h
stopped-image tools old new (Samples seed img) file text tells i k h = absurd i
stopped-image tools old new (Uses u) file text tells i k h = ended-image tools status.Stopped old new u file text k h (λ e. let same : status.Stopped ≡ status.NotAnImage = e in cc)

refused-image : (tools : ToolTable) (old : Files) (c : Command) (file : List ℕ) (r : Refusal) → IsTrue old.tells → ReadsImageFile old c file → KnowsImage tools old file c → IsCommandRefused tools old c r → HasImage file
refused-image tools old (Builds b) file r tells i k h = absurd i
refused-image tools old (Executes e) file r tells i k h =
    moved h.file file (told-file old (Executes e) h.file file tells (h.arr, h.inputs) i) (h.image, h.is_image)
refused-image tools old (Lists img) file r tells i k h = absurd h
refused-image tools old (Samples seed img) file r tells i k h = absurd i
refused-image tools old (Uses u) file r tells i k h =
    other-answer tools old u file (tool_answer.Refused r) k h (λ fault e. let same : tool_answer.Refused r ≡ tool_answer.NotAnImage fault = e in cc)

-- a tool whose file was not written has one too; other commands on an image file write none
unwritten-image : (tools : ToolTable) (old new : Files) (c : Command) (file : List ℕ) → IsTrue old.tells → ReadsImageFile old c file → KnowsImage tools old file c → IsCommandUnwritten tools old new c → HasImage file
unwritten-image tools old new (Builds b) file tells i k h = absurd i
unwritten-image tools old new (Executes e) file tells i k h = absurd h
unwritten-image tools old new (Lists img) file tells i k h = absurd h
unwritten-image tools old new (Samples seed img) file tells i k h = absurd i
unwritten-image tools old new (Uses u) file tells i k h =
    other-answer tools old u file (tool_answer.Done h.outcome) k h.is
    (λ fault e. let same : tool_answer.Done h.outcome ≡ tool_answer.NotAnImage fault = e in cc)

own-image : (tools : ToolTable) (old : Files) (c : Command) (file : List ℕ) (b : ToolAnswer) → KnowsImage tools old file c → AnswersAs tools old b c
    → ((fault : ImageFault) → b ≡ tool_answer.NotAnImage fault → ⊥) → HasImage file
own-image tools old (Builds b) file a k h other = absurd h
own-image tools old (Executes e) file a k h other = absurd h
own-image tools old (Lists img) file a k h other = absurd h
own-image tools old (Samples seed img) file a k h other = absurd h
own-image tools old (Uses u) file a k h other = other-answer tools old u file a k h other

-- what an answer says of the image file: it is one, or has this fault, or memory was wanting
abbrev Verdict : Status → List ℕ → List ℕ → Type 0
Verdict wanted file text =
    HasImage file ⊎ (((wanted ≡ status.NotAnImage) × ((fault : ImageFault) × IsFirstImageFault fault file × (text ≡ no_image_line fault))) ⊎ (wanted ≡ status.NoMemory))

module _ (tools : ToolTable) (words : List (List ℕ)) (old new : Files) (text : List ℕ) (c : Command) (file : List ℕ) (is : IsCommand words c) (tells : IsTrue old.tells)
    (own : HasOwnOutput c) (i : ReadsImageFile old c file) (k : KnowsImage tools old file c) (works : ReadsWork old new) where
  verdict : (wanted : Status) → IsRequired tools wanted words old new text → Verdict wanted file text
  verdict status.Done q = inl (done-image tools old new c file text tells i k (subst (λ x. IsCommandDone tools old new x text) (one-command words q.0 c q.1 is) q.2))
  verdict status.Stopped q = inl (stopped-image tools old new c file text tells i k (subst (λ x. IsCommandStopped tools old new x text) (one-command words q.0 c q.1 is) q.2))
  verdict status.Refused q = inl (refused-image tools old c file q.2 tells i k (subst (λ x. IsCommandRefused tools old x q.2) (one-command words q.0 c q.1 is) q.3))
  verdict status.NotAnImage q =
      let n = subst (λ x. IsNoImage old x q.2) (one-command words q.0 c q.1 is) q.3 in
      let same : n.file ≡ file = told-file old c n.file file tells n.inputs i in
      inr (inl (refl, (q.2, subst (IsFirstImageFault q.2) same n.faulty, q.4)))
  verdict status.NoMemory q = inr (inr refl)
  verdict status.Usage q = by q.0
    where
      by : IsUsageCause words old new ⊎ LacksTask tools words old → Verdict status.Usage file text
      by (inl h) = absurd (no-usage words old new c is (keeps-inputs old new c tells own) h)
      by (inr h) =
          inl (own-image tools old c file tool_answer.NoTask k (subst (AnswersAs tools old tool_answer.NoTask) (one-command words (Uses h.0) c h.1 is) h.2)
          (λ fault e. let same : tool_answer.NoTask ≡ tool_answer.NotAnImage fault = e in cc))
  verdict status.ReadFault q =
      absurd (no-failed-read old new c file tells i works (subst (IsFailedRead old new) (one-command words q.0 c q.1 is) q.2))
  verdict status.TooLong q = absurd (no-long-read old new c file tells i (subst (IsLongRead old new) (one-command words q.0 c q.1 is) q.2))
  verdict status.WriteFault q = inl (unwritten-image tools old new c file tells i k (subst (IsCommandUnwritten tools old new) (one-command words q.0 c q.1 is) q.2))
  verdict status.NotAnElf q =
      inl (own-image tools old c file (tool_answer.NotAnElf q.2) k (subst (AnswersAs tools old (tool_answer.NotAnElf q.2)) (one-command words (Uses q.0) c q.1 is) q.3)
      (λ fault e. let same : tool_answer.NotAnElf q.2 ≡ tool_answer.NotAnImage fault = e in cc))
  verdict (status.Explained kind) q =
      inl (own-image tools old c file (tool_answer.Explained kind q.2) k (subst (AnswersAs tools old (tool_answer.Explained kind q.2)) (one-command words (Uses q.0) c q.1 is) q.3)
      (λ fault e. let same : tool_answer.Explained kind q.2 ≡ tool_answer.NotAnImage fault = e in cc))
  verdict status.BadTrace q =
      inl (own-image tools old c file (tool_answer.BadTrace q.2) k (subst (AnswersAs tools old (tool_answer.BadTrace q.2)) (one-command words (Uses q.0) c q.1 is) q.3)
      (λ fault e. let same : tool_answer.BadTrace q.2 ≡ tool_answer.NotAnImage fault = e in cc))
  verdict status.NoHolds q =
      inl (own-image tools old c file tool_answer.NoHolds k (subst (AnswersAs tools old tool_answer.NoHolds) (one-command words (Uses q.0) c q.1 is) q.2)
      (λ fault e. let same : tool_answer.NoHolds ≡ tool_answer.NotAnImage fault = e in cc))
  verdict status.Unmet q =
      inl (own-image tools old c file (tool_answer.Unmet q.2) k (subst (AnswersAs tools old (tool_answer.Unmet q.2)) (one-command words (Uses q.0) c q.1 is) q.3)
      (λ fault e. let same : tool_answer.Unmet q.2 ≡ tool_answer.NotAnImage fault = e in cc))

fault-by : (wanted answer : Status) (old new : World) (file text : List ℕ) (fault : ImageFault) → IsFirstImageFault fault file → Verdict wanted file text
    → IsPutAnswer wanted answer old.sink new.sink text → IsImageFaultAnswer old new fault answer
fault-by wanted answer old new file text fault h (inl image) p = absurd (none_is_both file image.0 fault image.1 h)
fault-by wanted answer old new file text fault h v (inr p) = inr (inr (p.0, counted-put old.sink new.sink text p.1))
fault-by wanted answer old new file text fault h (inr (inl v)) (inl p) =
    let same : v.1.0 ≡ fault = fault_is_one file v.1.0 fault v.1.1 h in
    inl (p.0 ∙ v.0, subst (λ x. IsTextTaken old.sink new.sink x) (v.1.2 ∙ ap no_image_line same) p.1)
fault-by wanted answer old new file text fault h (inr (inr none)) (inl p) = inr (inl (p.0 ∙ none))

-- what the tool answers to the image file is known, where the command is one
abbrev pub KnowsAnyImage : ToolTable → Files → Command → Type 0
KnowsAnyImage tools old c = (file : List ℕ) → IsTrue old.tells → ReadsImageFile old c file → KnowsImage tools old file c

pub tells-fault : (tools : ToolTable) (words : List (List ℕ)) (old new : World) (answer : Status) → IsTopAnswer tools words old new answer → (c : Command)
    → KnowsAnyImage tools old.files c → IsImageFaultTold words old new answer c
tells-fault tools words old new answer h c knows is tells own file i works fault faulty =
    fault-by h.wanted answer old new file h.text fault faulty
    (verdict tools words old.files new.files h.text c file is tells own i (knows file tells i) works h.wanted h.required) h.puts

none-by : (wanted answer : Status) (old new : World) (file text : List ℕ) → ((image : Image) → ImageText file image → ⊥) → Verdict wanted file text
    → IsPutAnswer wanted answer old.sink new.sink text → IsNoImageAnswer old new answer
none-by wanted answer old new file text h (inl image) p = absurd (h image.0 image.1)
none-by wanted answer old new file text h v (inr p) = inr (inr (p.0, counted-put old.sink new.sink text p.1))
none-by wanted answer old new file text h (inr (inl v)) (inl p) = inl (p.0 ∙ v.0)
none-by wanted answer old new file text h (inr (inr none)) (inl p) = inr (inl (p.0 ∙ none))

pub tells-no-image : (tools : ToolTable) (words : List (List ℕ)) (old new : World) (answer : Status) → IsTopAnswer tools words old new answer → (c : Command)
    → KnowsAnyImage tools old.files c → IsNoImageTold words old new answer c
tells-no-image tools words old new answer h c knows is tells own file i works none =
    none-by h.wanted answer old new file h.text none
    (verdict tools words old.files new.files h.text c file is tells own i (knows file tells i) works h.wanted h.required) h.puts

-- ---- `exec`

-- the inputs that are told have one image and one list of arrivals
one-image : (old : Files) (e : Execution) (file arr : List ℕ) (image other : Image) (arrivals others : List Arrival) → IsTrue old.tells → AreExecInputs old e file arr
    → ImageText file image → AreArrivalsOf image.tasks image.counters arr arrivals → IsRunnable old e other others → (other ≡ image) × (others ≡ arrivals)
one-image old e file arr image other arrivals others tells i is read a =
    let file_is : a.file ≡ file = told old e.img a.file file tells a.inputs.image_file.read i.image_file.read in
    let arr_is : a.arr ≡ arr = told old e.arr a.arr arr tells a.inputs.arrivals_file.read i.arrivals_file.read in
    let same : other ≡ image = image-unique other image file (subst (λ x. ImageText x other) file_is a.is_image) is in (
      same,
      a.read.arrivals_are ∙ ap (λ (x : Image). arrivals_in x.tasks x.counters a.arr) same ∙ ap (arrivals_in image.tasks image.counters) arr_is ∙ sym read.arrivals_are,
    )

same-end : (image other : Image) (arrivals others : List Arrival) (n : ℕ) → (other ≡ image) × (others ≡ arrivals) → run_end other others n ≡ run_end image arrivals n
same-end image other arrivals others n same = ap (λ (x : Image). run_end x others n) same.0 ∙ ap (λ (x : List Arrival). run_end image x n) same.1

same-text : (image other : Image) (arrivals others : List Arrival) (n : ℕ) → (other ≡ image) × (others ≡ arrivals) → exec_text other others n ≡ exec_text image arrivals n
same-text image other arrivals others n same = ap (λ (x : Image). exec_text x others n) same.0 ∙ ap (λ (x : List Arrival). exec_text image x n) same.1

module _ (tools : ToolTable) (words : List (List ℕ)) (old new : World) (answer : Status) (e : Execution) (file arr : List ℕ) (image : Image) (is : IsCommand words (Executes e))
    (tells : IsTrue old.files.tells) (i : AreExecInputs old.files e file arr) (is_image : ImageText file image) where
  -- a run of the image, whole or not, is the one that is wanted
  ended-by : (end : RunEnd) (arrivals : List Arrival) (text : List ℕ) → AreArrivalsOf image.tasks image.counters arr arrivals → PutsWork old.sink new.sink (exec_text image arrivals e.n)
      → IsExecuted old.files e end text → IsRequired tools (end_status end) words old.files new.files text → IsPutAnswer (end_status end) answer old.sink new.sink text
      → IsFullAnswer tools (end_status (run_end image arrivals e.n)) words old new answer
  ended-by end arrivals text read lines d q p =
      let same = one-image old.files e file arr image d.image arrivals d.arrivals tells i is_image read d.accepted in
      let text_is : text ≡ exec_text image arrivals e.n = d.text_is ∙ same-text image d.image arrivals d.arrivals e.n same in
      let end_is : end ≡ run_end image arrivals e.n = d.end_is ∙ same-end image d.image arrivals d.arrivals e.n same in
      let P : RunEnd → Type 0 = λ x. IsFullAnswer tools (end_status x) words old new answer in
      subst P end_is (stands tools (end_status end) answer words old new text (subst (λ x. PutsWork old.sink new.sink x) (sym text_is) lines) q p)

  -- the file is an image's, so it has no fault
  no-fault : (fault : ImageFault) → IsNoImage old.files (Executes e) fault → ⊥
  no-fault fault n =
      let same : n.file ≡ file = told-file old.files (Executes e) n.file file tells n.inputs (arr, i) in
      none_is_both file image fault is_image (subst (IsFirstImageFault fault) same n.faulty)

  executed-by : (wanted : Status) (arrivals : List Arrival) (text : List ℕ) → AreArrivalsOf image.tasks image.counters arr arrivals → LinesWork old new (exec_text image arrivals e.n)
      → IsRequired tools wanted words old.files new.files text → IsPutAnswer wanted answer old.sink new.sink text
      → IsFullAnswer tools (end_status (run_end image arrivals e.n)) words old new answer ⊎ IsFullAnswer tools status.NoMemory words old new answer
  executed-by status.Done arrivals text read works q p =
      let d = subst (λ x. IsCommandDone tools old.files new.files x text) (one-command words q.0 (Executes e) q.1 is) q.2 in
      inl (ended-by ends.Whole arrivals text read works.lines d.0 q p)
  executed-by status.Stopped arrivals text read works q p =
      let d = subst (λ x. IsCommandStopped tools old.files new.files x text) (one-command words q.0 (Executes e) q.1 is) q.2 in
      inl (ended-by (ends.Stopped d.0 d.1) arrivals text read works.lines d.2 q p)
  executed-by status.NoMemory arrivals text read works q p =
      inr (stands tools status.NoMemory answer words old new text (subst (λ x. PutsWork old.sink new.sink x) (sym q.2) works.last_line) q p)
  executed-by status.Refused arrivals text read works q p =
      let d = subst (λ x. IsCommandRefused tools old.files x q.2) (one-command words q.0 (Executes e) q.1 is) q.3 in
      let file_is : d.file ≡ file = told old.files e.img d.file file tells d.inputs.image_file.read i.image_file.read in
      let arr_is : d.arr ≡ arr = told old.files e.arr d.arr arr tells d.inputs.arrivals_file.read i.arrivals_file.read in
      let same : d.image ≡ image = image-unique d.image image file (subst (λ x. ImageText x d.image) file_is d.is_image) is_image in
      absurd (read.no_fault q.2 (subst (λ x. ArrivalsFault image.tasks image.counters x q.2) arr_is (subst (λ (x : Image). ArrivalsFault x.tasks x.counters d.arr q.2) same d.least.is_fault)))
  executed-by status.NotAnImage arrivals text read works q p =
      absurd (no-fault q.2 (subst (λ x. IsNoImage old.files x q.2) (one-command words q.0 (Executes e) q.1 is) q.3))
  executed-by status.Usage arrivals text read works q p = absurd (never-usage tools words old.files new.files (Executes e) tt is (λ h. h) q.0)
  executed-by status.ReadFault arrivals text read works q p =
      absurd (no-failed-read old.files new.files (Executes e) file tells (arr, i) works.reads (subst (IsFailedRead old.files new.files) (one-command words q.0 (Executes e) q.1 is) q.2))
  executed-by status.TooLong arrivals text read works q p =
      absurd (no-long-read old.files new.files (Executes e) file tells (arr, i) (subst (IsLongRead old.files new.files) (one-command words q.0 (Executes e) q.1 is) q.2))
  executed-by status.WriteFault arrivals text read works q p =
      absurd (subst (IsCommandUnwritten tools old.files new.files) (one-command words q.0 (Executes e) q.1 is) q.2)
  executed-by status.NotAnElf arrivals text read works q p = absurd (no-tool words q.0 (Executes e) q.1 is tt)
  executed-by (status.Explained kind) arrivals text read works q p = absurd (no-tool words q.0 (Executes e) q.1 is tt)
  executed-by status.BadTrace arrivals text read works q p = absurd (no-tool words q.0 (Executes e) q.1 is tt)
  executed-by status.NoHolds arrivals text read works q p = absurd (no-tool words q.0 (Executes e) q.1 is tt)
  executed-by status.Unmet arrivals text read works q p = absurd (no-tool words q.0 (Executes e) q.1 is tt)

  -- accepted arrivals are not refused
  not-accepted : (other : Image) (others : List Arrival) (r : Refusal) → IsRunnable old.files e other others → IsLeast (ArrivalsFault image.tasks image.counters arr) r → ⊥
  not-accepted other others r a least =
      let file_is : a.file ≡ file = told old.files e.img a.file file tells a.inputs.image_file.read i.image_file.read in
      let arr_is : a.arr ≡ arr = told old.files e.arr a.arr arr tells a.inputs.arrivals_file.read i.arrivals_file.read in
      let same : other ≡ image = image-unique other image file (subst (λ x. ImageText x other) file_is a.is_image) is_image in
      a.read.no_fault r (subst (λ (x : Image). ArrivalsFault x.tasks x.counters a.arr r) (sym same) (subst (λ x. ArrivalsFault image.tasks image.counters x r) (sym arr_is) least.is_fault))

  refused-by : (wanted : Status) (text : List ℕ) (r : Refusal) → ReadsWork old.files new.files → IsLeast (ArrivalsFault image.tasks image.counters arr) r
      → IsRequired tools wanted words old.files new.files text → IsPutAnswer wanted answer old.sink new.sink text → IsRefusalAnswer old new r answer
  refused-by status.Refused text r works least q (inl p) =
      let d = subst (λ x. IsCommandRefused tools old.files x q.2) (one-command words q.0 (Executes e) q.1 is) q.3 in
      let file_is : d.file ≡ file = told old.files e.img d.file file tells d.inputs.image_file.read i.image_file.read in
      let arr_is : d.arr ≡ arr = told old.files e.arr d.arr arr tells d.inputs.arrivals_file.read i.arrivals_file.read in
      let same : d.image ≡ image = image-unique d.image image file (subst (λ x. ImageText x d.image) file_is d.is_image) is_image in
      let least_too = subst (λ x. IsLeast (ArrivalsFault image.tasks image.counters x) q.2) arr_is (subst (λ (x : Image). IsLeast (ArrivalsFault x.tasks x.counters d.arr) q.2) same d.least) in
      let one : q.2 ≡ r = one_least Arr (ArrivalsFault image.tasks image.counters arr) (of-arrivals image.tasks image.counters arr) q.2 r least_too least in
      inl (p.0, subst (λ x. IsTextTaken old.sink new.sink x) (q.4 ∙ ap refusal_line one) p.1)
  refused-by status.Refused text r works least q (inr p) = inr (inr (p.0, counted-put old.sink new.sink text p.1))
  refused-by status.NoMemory text r works least q (inl p) = inr (inl p.0)
  refused-by status.NoMemory text r works least q (inr p) = inr (inr (p.0, counted-put old.sink new.sink text p.1))
  refused-by status.Done text r works least q p =
      let d = subst (λ x. IsCommandDone tools old.files new.files x text) (one-command words q.0 (Executes e) q.1 is) q.2 in
      absurd (not-accepted d.0.image d.0.arrivals r d.0.accepted least)
  refused-by status.Stopped text r works least q p =
      let d = subst (λ x. IsCommandStopped tools old.files new.files x text) (one-command words q.0 (Executes e) q.1 is) q.2 in
      absurd (not-accepted d.2.image d.2.arrivals r d.2.accepted least)
  refused-by status.NotAnImage text r works least q p =
      absurd (no-fault q.2 (subst (λ x. IsNoImage old.files x q.2) (one-command words q.0 (Executes e) q.1 is) q.3))
  refused-by status.Usage text r works least q p = absurd (never-usage tools words old.files new.files (Executes e) tt is (λ h. h) q.0)
  refused-by status.ReadFault text r works least q p =
      absurd (no-failed-read old.files new.files (Executes e) file tells (arr, i) works (subst (IsFailedRead old.files new.files) (one-command words q.0 (Executes e) q.1 is) q.2))
  refused-by status.TooLong text r works least q p =
      absurd (no-long-read old.files new.files (Executes e) file tells (arr, i) (subst (IsLongRead old.files new.files) (one-command words q.0 (Executes e) q.1 is) q.2))
  refused-by status.WriteFault text r works least q p =
      absurd (subst (IsCommandUnwritten tools old.files new.files) (one-command words q.0 (Executes e) q.1 is) q.2)
  refused-by status.NotAnElf text r works least q p = absurd (no-tool words q.0 (Executes e) q.1 is tt)
  refused-by (status.Explained kind) text r works least q p = absurd (no-tool words q.0 (Executes e) q.1 is tt)
  refused-by status.BadTrace text r works least q p = absurd (no-tool words q.0 (Executes e) q.1 is tt)
  refused-by status.NoHolds text r works least q p = absurd (no-tool words q.0 (Executes e) q.1 is tt)
  refused-by status.Unmet text r works least q p = absurd (no-tool words q.0 (Executes e) q.1 is tt)

pub tells-executed : (tools : ToolTable) (words : List (List ℕ)) (old new : World) (answer : Status) → IsTopAnswer tools words old new answer → HasExecutedAnswer tools words old new answer
tells-executed tools words old new answer h e is tells file arr i image is_image arrivals read works =
    executed-by tools words old new answer e file arr image is tells i is_image h.wanted arrivals h.text read works h.required h.puts

pub tells-exec-refused : (tools : ToolTable) (words : List (List ℕ)) (old new : World) (answer : Status) → IsTopAnswer tools words old new answer → HasExecRefusedAnswer words old new answer
tells-exec-refused tools words old new answer h e is tells file arr i works image is_image r least =
    refused-by tools words old new answer e file arr image is tells i is_image h.wanted h.text r works least h.required h.puts

-- ---- `list`

module _ (tools : ToolTable) (words : List (List ℕ)) (old new : World) (answer : Status) (img file : List ℕ) (image : Image) (is : IsCommand words (Lists img))
    (tells : IsTrue old.files.tells) (i : IsInput old.files img file) (is_image : ImageText file image) (works : LinesWork old new (listing image)) where
  listed-by : (wanted : Status) (text : List ℕ) → IsRequired tools wanted words old.files new.files text → IsPutAnswer wanted answer old.sink new.sink text
      → IsFullAnswer tools status.Done words old new answer ⊎ IsFullAnswer tools status.NoMemory words old new answer
  listed-by status.Done text q p =
      let d = subst (λ x. IsCommandDone tools old.files new.files x text) (one-command words q.0 (Lists img) q.1 is) q.2 in
      let file_is : d.0.file ≡ file = told old.files img d.0.file file tells d.0.input.read i.read in
      let same : d.0.image ≡ image = image-unique d.0.image image file (subst (λ x. ImageText x d.0.image) file_is d.0.is_image) is_image in
      let text_is : text ≡ listing image = d.0.text_is ∙ ap listing same in
      inl (stands tools status.Done answer words old new text (subst (λ x. PutsWork old.sink new.sink x) (sym text_is) works.lines) q p)
  listed-by status.NoMemory text q p =
      inr (stands tools status.NoMemory answer words old new text (subst (λ x. PutsWork old.sink new.sink x) (sym q.2) works.last_line) q p)
  listed-by status.NotAnImage text q p =
      let n = subst (λ x. IsNoImage old.files x q.2) (one-command words q.0 (Lists img) q.1 is) q.3 in
      let same : n.file ≡ file = told-file old.files (Lists img) n.file file tells n.inputs i in
      absurd (none_is_both file image q.2 is_image (subst (IsFirstImageFault q.2) same n.faulty))
  listed-by status.Stopped text q p = absurd (subst (λ x. IsCommandStopped tools old.files new.files x text) (one-command words q.0 (Lists img) q.1 is) q.2)
  listed-by status.Refused text q p = absurd (subst (λ x. IsCommandRefused tools old.files x q.2) (one-command words q.0 (Lists img) q.1 is) q.3)
  listed-by status.Usage text q p = absurd (never-usage tools words old.files new.files (Lists img) tt is (λ h. h) q.0)
  listed-by status.ReadFault text q p =
      absurd (no-failed-read old.files new.files (Lists img) file tells i works.reads (subst (IsFailedRead old.files new.files) (one-command words q.0 (Lists img) q.1 is) q.2))
  listed-by status.TooLong text q p =
      absurd (no-long-read old.files new.files (Lists img) file tells i (subst (IsLongRead old.files new.files) (one-command words q.0 (Lists img) q.1 is) q.2))
  listed-by status.WriteFault text q p = absurd (subst (IsCommandUnwritten tools old.files new.files) (one-command words q.0 (Lists img) q.1 is) q.2)
  listed-by status.NotAnElf text q p = absurd (no-tool words q.0 (Lists img) q.1 is tt)
  listed-by (status.Explained kind) text q p = absurd (no-tool words q.0 (Lists img) q.1 is tt)
  listed-by status.BadTrace text q p = absurd (no-tool words q.0 (Lists img) q.1 is tt)
  listed-by status.NoHolds text q p = absurd (no-tool words q.0 (Lists img) q.1 is tt)
  listed-by status.Unmet text q p = absurd (no-tool words q.0 (Lists img) q.1 is tt)

pub tells-listed : (tools : ToolTable) (words : List (List ℕ)) (old new : World) (answer : Status) → IsTopAnswer tools words old new answer → HasListedAnswer tools words old new answer
tells-listed tools words old new answer h img is tells file i image is_image works =
    listed-by tools words old new answer img file image is tells i is_image works h.wanted h.text h.required h.puts
