-- What a tool did, and why it did not.
use Rattle.std.proofs.Common.{◌≡◌, ◌∙◌, ℕ, List, [], ◌∷◌, ◌++◌, refl, sym, ap, subst, arith, length}
use Rattle.std.specs.Prelude.{IsTrue, Option, Some, None, Result, Ok, Err, IfOk, OnOk}
use Rattle.image_file.specs.declared.read.ImageFault.{ImageFault}
use Rattle.sloth_io.specs.Counts.{Rose}
use Rattle.sloth_io.specs.Sink.{Output}
use Rattle.sloth_io.specs.Store.{Files, KeepsFiles, AreDelivered, call_files}
use Rattle.sloth_io.specs.Slots.{is_space_for}
use Rattle.command_line.specs.Command.{Uses}
use Rattle.command_line.specs.Tools.{ToolUse, IsToolUse, file_names}
use Rattle.tool_commands.specs.Answers.{IsAnswer, input}
use Rattle.command_line.specs.ImageReaders.{reads_image}
use Rattle.command_line.specs.Lines.{tool_text}
use Rattle.command_line.specs.declared.answer.ToolAnswer.{ToolAnswer}
use Rattle.command_line.specs.declared.answer.ToolAnswer.TheVariants as tool_answer
use Rattle.command_line.proofs.ToolWords.{files-counted}
use Rattle.tool_commands.proofs.OneAnswer.{no-image, reads-one}
use Rattle.core_commands.specs.ImageFiles.{IsNoImage}
use Rattle.command_line.specs.Statuses.{tool_status}
use Rattle.sloth_commands.specs.ToolFiles.{IsToolAnswer}
use Rattle.core_commands.specs.ToolInputs.{AreToolInputs, ReadsImageFirst, input_deliveries}
use Rattle.core_commands.specs.Top.{World, world, FilesAfter, IsOutputWritten, IsUnwrittenOutput, IsTextTaken}
use Rattle.core_commands.specs.Failures.{IsTellFailure, IsCommandFailure, IsPerformed}
use Rattle.command_line.specs.declared.answer.Status.{Status}
use Rattle.core_commands.specs.declared.failure.Failure.{Failure}
use Rattle.core_commands.specs.declared.failure.Failure.TheVariants as failure
use Rattle.core_commands.proofs.CallFiles.{delivered-in_call, tool-inputs-in_call, stays-behind, still}
use Rattle.core_commands.proofs.ToolReads.{as-many}

-- ---- no image

first-of : (files : Files) (u : ToolUse) (inputs : List (List ℕ)) → IsTrue (reads_image u.tool) → IsToolUse u → AreToolInputs files (file_names u) inputs
    → (i : ReadsImageFirst files u (input inputs 0)) × (inputs ≡ input inputs 0 ∷ i.rest)
first-of files u [] reads is read =
    let same = as-many files (file_names u) [] read in
    let counted = files-counted u is.counted in
    let one = reads-one u.tool reads in
    absurd (omega (arith, same, counted, one))
first-of files u (b ∷ rest) reads is read = (record { rest = rest; first = reads; read = read }, refl)

pub no-image-file : (files : Files) (u : ToolUse) (fault : ImageFault) → IsToolUse u → IsToolAnswer files u (tool_answer.NotAnImage fault)
    → IsNoImage files (Uses u) fault
no-image-file files u fault is h =
    let no = no-image u.tool u.counts u.inputs h.inputs fault h.is in
    let first = first-of files u h.inputs no.0 is h.read in
    record {
      file = input h.inputs 0;
      inputs = first.0;
      delivered = h.delivered ∙ ap (λ (xs : List (List ℕ)). input_deliveries (file_names u) xs) first.1;
      faulty = no.1;
    }

-- ---- behind the reads

output-kept : (old mid new : Files) (output : Option (List ℕ)) (bytes : List ℕ) → KeepsFiles old mid → IsOutputWritten mid new output bytes
    → IsOutputWritten (call_files old new) new output bytes
output-kept old mid new None bytes kept h = stays-behind old mid new kept h
output-kept old mid new (Some name) bytes kept h = (
  (h.0.0, h.0.1 ∙ ap (λ (xs : List (List ℕ × List ℕ)). xs ++ (name, bytes) ∷ []) kept.writes),
  λ other differs. h.1 other differs ∙ kept.holds other,
)

pub after-kept : (a : ToolAnswer) (old mid new : Files) (output : Option (List ℕ)) → KeepsFiles old mid → FilesAfter a mid new output
    → FilesAfter a (call_files old new) new output
after-kept (tool_answer.Done outcome) old mid new output kept h = output-kept old mid new output outcome.file kept h
after-kept (tool_answer.Refused r) old mid new output kept h = stays-behind old mid new kept h
after-kept (tool_answer.Stopped pc stop) old mid new output kept h = stays-behind old mid new kept h
after-kept (tool_answer.NotAnImage f) old mid new output kept h = stays-behind old mid new kept h
after-kept (tool_answer.NotAnElf f) old mid new output kept h = stays-behind old mid new kept h
after-kept (tool_answer.Explained kind f) old mid new output kept h = stays-behind old mid new kept h
after-kept (tool_answer.BadTrace f) old mid new output kept h = stays-behind old mid new kept h
after-kept tool_answer.NoHolds old mid new output kept h = stays-behind old mid new kept h
after-kept (tool_answer.Unmet lines) old mid new output kept h = stays-behind old mid new kept h
after-kept tool_answer.NoTask old mid new output kept h = stays-behind old mid new kept h

unwritten-kept : (old mid new : Files) (output : Option (List ℕ)) (bytes : List ℕ) → KeepsFiles old mid → IsUnwrittenOutput mid new output bytes
    → IsUnwrittenOutput (call_files old new) new output bytes
unwritten-kept old mid new None bytes kept h = absurd h
unwritten-kept old mid new (Some name) bytes kept h = (
  (
    subst (λ n. Rose n new.failed_writes) kept.failed_writes h.0.0,
    λ sure. (ap (λ s. is_space_for s (length bytes)) (sym (kept.space name)) ∙ h.0.1 (subst (λ t. IsTrue t) (sym kept.sure) sure)),
    h.0.2 ∙ kept.writes,
  ),
  λ other differs. h.1 other differs ∙ kept.holds other,
)

module _ (old mid : Files) (sink : Output) (new : World) (u : ToolUse) (kept : KeepsFiles old mid)
    (same : new.files.reads ≡ mid.reads) where
  at-end : (a : ToolAnswer) → IsToolAnswer (call_files old mid) u a → IsToolAnswer (call_files old new.files) u a
  at-end a is = still (λ files. IsToolAnswer files u a) old mid new.files same is

  pub tell-ends : (f : Failure) (a : ToolAnswer) → IsToolAnswer (call_files old mid) u a → IsTellFailure f a (world mid sink) new u.output
      → IsCommandFailure IsToolAnswer f (world (call_files old new.files) sink) new (Uses u)
  tell-ends failure.Put a is h = (
    tool_status a,
    tool_text a,
    record { answer = a; is = at-end a is; status_is = refl; text_is = refl; files = after-kept a old mid new.files u.output kept h.0 },
    h.1,
  )
  tell-ends failure.WriteFile (tool_answer.Done outcome) is h =
      (record { outcome = outcome; is = at-end (tool_answer.Done outcome) is; failed = unwritten-kept old mid new.files u.output outcome.file kept h.0 }, h.1)
  tell-ends failure.WriteFile (tool_answer.Refused r) is h = absurd h
  tell-ends failure.WriteFile (tool_answer.Stopped pc stop) is h = absurd h
  tell-ends failure.WriteFile (tool_answer.NotAnImage e) is h = absurd h
  tell-ends failure.WriteFile (tool_answer.NotAnElf e) is h = absurd h
  tell-ends failure.WriteFile (tool_answer.Explained kind e) is h = absurd h
  tell-ends failure.WriteFile (tool_answer.BadTrace e) is h = absurd h
  tell-ends failure.WriteFile tool_answer.NoHolds is h = absurd h
  tell-ends failure.WriteFile (tool_answer.Unmet lines) is h = absurd h
  tell-ends failure.WriteFile tool_answer.NoTask is h = absurd h
  tell-ends (failure.Refused r) a is h = absurd h
  tell-ends failure.ReadFault a is h = absurd h
  tell-ends failure.TooLong a is h = absurd h
  tell-ends (failure.NotAnImage e) a is h = absurd h
  tell-ends failure.NoMemory a is h = absurd h

  pub tool-performed : (s : Status) (a : ToolAnswer) → IsToolAnswer (call_files old mid) u a → s ≡ tool_status a → IsTextTaken sink new.sink (tool_text a)
      → FilesAfter a mid new.files u.output → IsPerformed IsToolAnswer s (world (call_files old new.files) sink) new (Uses u)
  tool-performed s a is status text after =
      (tool_text a, record { answer = a; is = at-end a is; status_is = status; text_is = refl; files = after-kept a old mid new.files u.output kept after }, text)

-- the answer to what was read
pub answer-of : (old mid : Files) (u : ToolUse) (inputs slice : List (List ℕ)) (a : ToolAnswer) → AreToolInputs old (file_names u) inputs
    → AreDelivered old mid (input_deliveries (file_names u) inputs) → slice ≡ inputs → IsAnswer u.tool u.counts u.inputs slice a → IsToolAnswer (call_files old mid) u a
answer-of old mid u inputs slice a read delivered same is = record {
  inputs = inputs;
  read = tool-inputs-in_call old mid (file_names u) inputs read;
  delivered = delivered-in_call old mid (input_deliveries (file_names u) inputs) delivered;
  is = subst (λ xs. IsAnswer u.tool u.counts u.inputs xs a) same is;
}

-- three facts of a call that succeeds
pub all-told : {T E : Type 0} (r : Result T E) (P : T → Type 0) (Q R : Type 0) (W : T → Type 0) → ((t : T) → P t → Q → R → W t) → IfOk r P → OnOk r Q → OnOk r R → IfOk r W
all-told (Ok t) P Q R W f p q r = f t p q r
all-told (Err e) P Q R W f p q r = tt
