-- Why a command was not done, from its first read to its last line.
use Rattle.std.proofs.Common.{◌≡◌, ◌∙◌, inl, inr, ℕ, List, [], ◌∷◌, ◌++◌, length, refl, sym, ap, subst}
use Rattle.std.specs.Prelude.{codes, IsTrue, Option, Some, None, Result, Ok, Err, OnOk}
use Rattle.sloth_base.specs.declared.config.Config.{Config}
use Rattle.sloth_base.specs.declared.app.App.{App}
use Rattle.sloth_base.specs.declared.service.Arrival.{Arrival}
use Rattle.sloth_base.specs.Arrivals.{AreArrivals}
use Rattle.sloth_base.specs.declared.image.Image.{Image}
use Rattle.sloth_base.specs.Owners.{owners_in}
use Rattle.sloth_io.specs.Counts.{Rose}
use Rattle.sloth_io.specs.Sink.{Output}
use Rattle.sloth_io.proofs.Gains.{part-whole}
use Rattle.sloth_io.specs.Store.{Files, KeepsFiles, AreDelivered, IsFileWritten, IsMissing, IsTooLong, call_files}
use Rattle.sloth_io.specs.Slots.{is_space_for}
use Rattle.image_file.specs.ImageText.{image_bytes}
use Rattle.sloth_source.specs.Texts.{AreAccepted}
use Rattle.command_line.specs.Command.{Command, Building, Builds, Executes, Lists, Samples, Uses, IsCommand}
use Rattle.sloth_base.specs.Limits.{file_limit}
use Rattle.run_inputs.specs.Inputs.{AreArrivalsOf}
use Rattle.command_line.specs.LastLine.{refusal_line, no_image_line}
use Rattle.command_line.specs.declared.answer.Status.{Status}
use Rattle.command_line.specs.declared.answer.Status.TheVariants as status
use Rattle.sim_induction.proofs.Coming.{arrivals_come}
use Rattle.core_commands.specs.declared.failure.Failure.{Failure}
use Rattle.core_commands.specs.declared.failure.Failure.TheVariants as failure
use Rattle.core_commands.specs.Top.{World, world, text_deliveries, AreInputs, AreFilesSame, IsAccepted, IsBuiltImage}
use Rattle.core_commands.specs.CommandFiles.{inputs_of, output_of, IsFileAmong, IsOnlyAsked, IsOutputAmong, IsUsageCause}
use Rattle.sloth_base.specs.DeclaredNames.{task_names, counter_names}
use Rattle.core_commands.specs.Top.{IsWritten, IsDone, IsRequired, IsTextTaken, IsPutAnswer, IsCloseAnswer, IsTextBrokenOff, IsTopAnswer, done_text}
use Rattle.core_commands.specs.Failures.{IsReadFailure, IsJudgeFailure, IsPerformFailure, IsCommandEnd, IsPlainEnd, IsCommandFailure, IsPerformed, IsFailureEnd}
use Rattle.core_commands.proofs.Ceilings.{shown-keep}
use Rattle.core_commands.proofs.CallFiles.{delivered-in_call, inputs-in_call, unread-in_call, stays-behind, still}
use Rattle.core_commands.proofs.ToolEnds.{FaultsAreOfImages, end-required}
use Rattle.core_commands.specs.ToolTables.{LacksTools, ToolTable}

-- ---- usage

-- the cause holds of what was shown before the call, with what was read in it
cause-in_call : (words : List (List ℕ)) (old new : Files) → IsUsageCause words old new → IsUsageCause words (call_files old new) new
cause-in_call words old new (inl none) = inl none
cause-in_call words old new (inr h) = inr (h.0, h.1, output-in_call old new (output_of h.0) (inputs_of h.0) h.2)
  where
    among-in_call : (old new : Files) (name : List ℕ) (inputs : List (List ℕ)) → IsFileAmong old new name inputs → IsFileAmong (call_files old new) new name inputs
    among-in_call old new name [] h = h
    among-in_call old new name (input ∷ rest) (inl h) = inl h
    among-in_call old new name (input ∷ rest) (inr h) = inr (among-in_call old new name rest h)

    output-in_call : (old new : Files) (output : Option (List ℕ)) (inputs : List (List ℕ)) → IsOutputAmong old new output inputs
        → IsOutputAmong (call_files old new) new output inputs
    output-in_call old new None inputs h = h
    output-in_call old new (Some name) inputs h = among-in_call old new name inputs h

-- nothing was read and nothing written
pub usage-required : (tools : ToolTable) (words : List (List ℕ)) (old new : Files) → IsOnlyAsked old new → IsUsageCause words old new
    → IsRequired tools status.Usage words (call_files old new) new (codes "usage\n")
usage-required tools words old new only cause =
    (inl (cause-in_call words old new cause), refl, (λ name. ap (λ (x : Files). x.holds name) only, ap (λ (x : Files). x.writes) only))

pub usage-ends : (tools : ToolTable) (words : List (List ℕ)) (old new : Files) (sink out : Output) (answer : Status) → IsOnlyAsked old new → IsUsageCause words old new
    → IsPutAnswer status.Usage answer sink out (codes "usage\n") → IsTopAnswer tools words (world (call_files old new) sink) (world new out) answer
usage-ends tools words old new sink out answer only cause put =
    record { wanted = status.Usage; text = codes "usage\n"; required = usage-required tools words old new only cause; puts = put }

-- ---- a command

pub read-ends : (tools : ToolTable) (f : Failure) (old new : Files) (sink : Output) (c : Command) → IsReadFailure f old new (inputs_of c) → AreFilesSame old new
    → IsCommandFailure tools f (world (call_files old new) sink) (world new sink) c
read-ends tools failure.ReadFault old new sink c h stay = (unread-in_call old new (IsMissing old new) (inputs_of c) h, stay, refl)
read-ends tools failure.TooLong old new sink c h stay = (unread-in_call old new (λ name. IsTooLong old new name file_limit) (inputs_of c) h, stay, refl)
read-ends tools failure.NoMemory old new sink c h stay = (stay, refl)
read-ends tools (failure.Refused r) old new sink c h stay = absurd h
read-ends tools failure.WriteFile old new sink c h stay = absurd h
read-ends tools failure.Put old new sink c h stay = absurd h
read-ends tools (failure.NotAnImage fault) old new sink c h stay = absurd h

pub judge-ends : (f : Failure) (old new : Files) (sink : Output) (c : Building) (oil src arr : List ℕ)
    → AreInputs old c oil src arr → AreDelivered old new (text_deliveries c oil src arr) → IsJudgeFailure f oil src arr → AreFilesSame old new
    → IsCommandFailure LacksTools f (world (call_files old new) sink) (world new sink) (Builds c)
judge-ends (failure.Refused r) old new sink c oil src arr inputs delivered h stay = (
  record {
    oil = oil;
    src = src;
    arr = arr;
    inputs = inputs-in_call old new c oil src arr inputs;
    delivered = delivered-in_call old new (text_deliveries c oil src arr) delivered;
    is = h;
  },
  stay,
  refl,
)
judge-ends failure.NoMemory old new sink c oil src arr inputs delivered h stay = (stay, refl)
judge-ends failure.ReadFault old new sink c oil src arr inputs delivered h stay = absurd h
judge-ends failure.TooLong old new sink c oil src arr inputs delivered h stay = absurd h
judge-ends failure.WriteFile old new sink c oil src arr inputs delivered h stay = absurd h
judge-ends failure.Put old new sink c oil src arr inputs delivered h stay = absurd h
judge-ends (failure.NotAnImage fault) old new sink c oil src arr inputs delivered h stay = absurd h

-- an image was built of the inputs, the arrivals are read, and nothing is written yet
pub record IsBuilt (old mid : Files) (c : Building) (image : Image) (arrivals : List Arrival) : Type 0 where
  pub config : Config
  pub app : App
  pub accepted : IsAccepted (call_files old mid) c config app arrivals
  pub is_image : IsBuiltImage config app image
  pub kept : KeepsFiles old mid

pub built-of : (old mid : Files) (c : Building) (config : Config) (app : App) (image : Image) (arrivals : List Arrival) (oil src arr : List ℕ)
    → AreInputs old c oil src arr → AreDelivered old mid (text_deliveries c oil src arr) → AreAccepted oil src config app → AreArrivalsOf (task_names config) (counter_names config) arr arrivals → AreArrivals (owners_in config) arrivals
    → IsBuiltImage config app image → KeepsFiles old mid → IsBuilt old mid c image arrivals
built-of old mid c config app image arrivals oil src arr inputs delivered accepted read in_range is_image kept = record {
  config = config;
  app = app;
  accepted = record {
    oil = oil;
    src = src;
    arr = arr;
    inputs = inputs-in_call old mid c oil src arr inputs;
    delivered = delivered-in_call old mid (text_deliveries c oil src arr) delivered;
    accepted = accepted;
    read = read;
    in_range = in_range;
  };
  is_image = is_image;
  kept = kept;
}

pub written-behind : (old mid new : Files) (name bytes : List ℕ) → KeepsFiles old mid → IsFileWritten mid new name bytes → IsFileWritten old new name bytes
written-behind old mid new name bytes kept put = (put.0, put.1 ∙ ap (λ (xs : List (List ℕ × List ℕ)). xs ++ (name, bytes) ∷ []) kept.writes)

pub done : (old mid new : Files) (c : Building) (image : Image) (arrivals : List Arrival) → IsBuilt old mid c image arrivals
    → new.reads ≡ mid.reads → IsWritten mid new c.img (image_bytes image) → IsDone (call_files old new) new c (done_text image arrivals c.run)
done old mid new c image arrivals b same w = record {
  config = b.config;
  app = b.app;
  arrivals = arrivals;
  image = image;
  accepted = still (λ files. IsAccepted files c b.config b.app arrivals) old mid new same b.accepted;
  is_image = b.is_image;
  written = (written-behind old mid new c.img (image_bytes image) b.kept w.0, λ name other. w.1 name other ∙ b.kept.holds name);
  text_is = refl;
  protocol = shown-keep b.config b.app image arrivals c.run b.is_image.protocol (arrivals_come (owners_in b.config) arrivals b.accepted.in_range);
}

pub perform-ends : (f : Failure) (old mid : Files) (sink : Output) (new : World) (c : Building) (image : Image) (arrivals : List Arrival)
    → IsBuilt old mid c image arrivals → new.files.reads ≡ mid.reads → IsPerformFailure f (world mid sink) new c.img (image_bytes image) (done_text image arrivals c.run)
    → IsCommandFailure LacksTools f (world (call_files old new.files) sink) new (Builds c)
perform-ends failure.NoMemory old mid sink new c image arrivals is same h = (stays-behind old mid new.files is.kept h.0, h.1)
perform-ends failure.WriteFile old mid sink new c image arrivals is same h = (
  record {
    config = is.config;
    app = is.app;
    arrivals = arrivals;
    image = image;
    accepted = still (λ files. IsAccepted files c is.config is.app arrivals) old mid new.files same is.accepted;
    is_image = is.is_image;
    failed = (
      subst (λ n. Rose n new.files.failed_writes) is.kept.failed_writes h.0.0,
      λ sure. (ap (λ s. is_space_for s (length (image_bytes image))) (sym (is.kept.space c.img)) ∙ h.0.1 (subst (λ t. IsTrue t) (sym is.kept.sure) sure)),
      h.0.2 ∙ is.kept.writes,
    );
    others = λ name other. h.1 name other ∙ is.kept.holds name;
  },
  h.2,
)
perform-ends failure.Put old mid sink new c image arrivals is same h =
    (status.Done, done_text image arrivals c.run, done old mid new.files c image arrivals is same h.0, h.1)
perform-ends (failure.Refused r) old mid sink new c image arrivals is same h = absurd h
perform-ends failure.ReadFault old mid sink new c image arrivals is same h = absurd h
perform-ends failure.TooLong old mid sink new c image arrivals is same h = absurd h
perform-ends (failure.NotAnImage fault) old mid sink new c image arrivals is same h = absurd h

-- two facts of a call that succeeds
pub both-ok : {T E : Type 0} (r : Result T E) (P Q R : Type 0) → (P → Q → R) → OnOk r P → OnOk r Q → OnOk r R
both-ok (Ok x) P Q R f p q = f p q
both-ok (Err e) P Q R f p q = tt

-- ---- the last line

-- a line that is put behind a command that put nothing
puts-behind : (wanted answer : Status) (old mid new : Output) (line : List ℕ) → mid ≡ old → IsPutAnswer wanted answer mid new line → IsPutAnswer wanted answer old new line
puts-behind wanted answer old mid new line same p = subst (λ (x : Output). IsPutAnswer wanted answer x new line) same p

-- how a command ended is what its status requires
required-plain : (tools : ToolTable) (s : Status) (words : List (List ℕ)) (c : Command) (old new : Files) (text : List ℕ) → IsCommand words c → IsPlainEnd tools s old new c text
    → IsRequired tools s words old new text
required-plain tools status.Done words c old new text is h = (c, is, h)
required-plain tools status.Stopped words c old new text is h = (c, is, h)
required-plain tools status.Usage words c old new text is h = absurd h
required-plain tools status.Refused words c old new text is h = absurd h
required-plain tools status.ReadFault words c old new text is h = absurd h
required-plain tools status.WriteFault words c old new text is h = absurd h
required-plain tools status.NoMemory words c old new text is h = absurd h
required-plain tools status.TooLong words c old new text is h = absurd h
required-plain tools status.NotAnImage words c old new text is h = absurd h
required-plain tools status.NotAnElf words c old new text is h = absurd h
required-plain tools (status.Explained kind) words c old new text is h = absurd h
required-plain tools status.BadTrace words c old new text is h = absurd h
required-plain tools status.NoHolds words c old new text is h = absurd h
required-plain tools status.Unmet words c old new text is h = absurd h

required : (tools : ToolTable) (faults : FaultsAreOfImages tools) (s : Status) (words : List (List ℕ)) (c : Command) (old new : Files) (text : List ℕ) → IsCommand words c → IsCommandEnd tools s old new c text
    → IsRequired tools s words old new text
required tools faults s words (Builds b) old new text is h = required-plain tools s words (Builds b) old new text is h
required tools faults s words (Executes e) old new text is h = required-plain tools s words (Executes e) old new text is h
required tools faults s words (Lists img) old new text is h = required-plain tools s words (Lists img) old new text is h
required tools faults s words (Samples seed img) old new text is h = required-plain tools s words (Samples seed img) old new text is h
required tools faults s words (Uses u) old new text is h = end-required tools faults s words u old new text is h

pub finished : (tools : ToolTable) (faults : FaultsAreOfImages tools) (f : Failure) (words : List (List ℕ)) (c : Command) (old : World) (files : Files) (mid new : Output) (answer : Status)
    → IsCommand words c → IsCommandFailure tools f old (world files mid) c → IsFailureEnd f answer mid new → IsTopAnswer tools words old (world files new) answer
finished tools faults (failure.Refused r) words c old files mid new answer is h d = record {
  wanted = status.Refused;
  text = refusal_line r;
  required = (c, is, r, h.0, refl, h.1);
  puts = puts-behind status.Refused answer old.sink mid new (refusal_line r) h.2 d;
}
finished tools faults failure.ReadFault words c old files mid new answer is h d = record {
  wanted = status.ReadFault;
  text = codes "read fault\n";
  required = (c, is, h.0, refl, h.1);
  puts = puts-behind status.ReadFault answer old.sink mid new (codes "read fault\n") h.2 d;
}
finished tools faults failure.TooLong words c old files mid new answer is h d = record {
  wanted = status.TooLong;
  text = codes "too long\n";
  required = (c, is, h.0, refl, h.1);
  puts = puts-behind status.TooLong answer old.sink mid new (codes "too long\n") h.2 d;
}
finished tools faults (failure.NotAnImage fault) words c old files mid new answer is h d = record {
  wanted = status.NotAnImage;
  text = no_image_line fault;
  required = (c, is, fault, h.0, refl, h.1);
  puts = puts-behind status.NotAnImage answer old.sink mid new (no_image_line fault) h.2 d;
}
finished tools faults failure.NoMemory words c old files mid new answer is h d = record {
  wanted = status.NoMemory;
  text = codes "no memory\n";
  required = (c, is, refl, h.0);
  puts = puts-behind status.NoMemory answer old.sink mid new (codes "no memory\n") h.1 d;
}
finished tools faults failure.WriteFile words c old files mid new answer is h d = record {
  wanted = status.WriteFault;
  text = codes "write fault\n";
  required = (c, is, h.0, refl);
  puts = puts-behind status.WriteFault answer old.sink mid new (codes "write fault\n") h.1 d;
}
finished tools faults failure.Put words c old files mid new answer is h d = record {
  wanted = h.0;
  text = h.1;
  required = required tools faults h.0 words c old.files files h.1 is h.2;
  puts = inr (d.0, subst (λ (x : Output). IsTextBrokenOff old.sink x h.1) (sym d.1) h.3);
}

-- a text that was taken, and then what the sink holds back
pub closed : (wanted answer : Status) (old mid new : Output) (text : List ℕ) → IsTextTaken old mid text → IsCloseAnswer wanted answer mid new
    → IsPutAnswer wanted answer old new text
closed wanted answer old mid new text took (inl done) = inl (done.0, done.1 ∙ took)
closed wanted answer old mid new text took (inr failed) = inr (failed.0, part-whole old mid new text took failed.1)

pub answered : (tools : ToolTable) (faults : FaultsAreOfImages tools) (words : List (List ℕ)) (c : Command) (old : World) (files : Files) (mid new : Output) (s answer : Status) → IsCommand words c
    → IsPerformed tools s old (world files mid) c → IsCloseAnswer s answer mid new → IsTopAnswer tools words old (world files new) answer
answered tools faults words c old files mid new s answer is h d = record {
  wanted = s;
  text = h.0;
  required = required tools faults s words c old.files files h.0 is h.1;
  puts = closed s answer old.sink mid new h.0 h.2 d;
}
