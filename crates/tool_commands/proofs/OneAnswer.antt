-- Files have one answer of a tool, and what it says of an image file.
use Rattle.std.proofs.Common.{◌≡◌, ◌≤◌, ℕ, List, refl, ◌⊎◌, inl, inr, arith}
use Rattle.std.specs.Prelude.{Option, IsTrue}
use Rattle.std.proofs.lemmas.Bool.{false≢true}
use Rattle.sloth_base.specs.declared.image.Image.{Image}
use Rattle.image_file.specs.ImageText.{ImageText}
use Rattle.image_file.specs.Faults.{IsFirstImageFault}
use Rattle.image_file.specs.declared.read.ImageFault.{ImageFault}
use Rattle.command_line.specs.Tools.{file_count, number_of, window_of}
use Rattle.command_line.specs.declared.counts.Counts.{Counts}
use Rattle.command_line.specs.declared.tool.Tool.{Tool}
use Rattle.command_line.specs.declared.tool.Tool.TheVariants as tool
use Rattle.elf_image.specs.ElfText.{ElfText}
use Rattle.tool_commands.specs.Answers.{IsAnswer, OneAnswer, input}
use Rattle.command_line.specs.ImageReaders.{reads_image, HasImage}
use Rattle.command_line.specs.declared.answer.ToolAnswer.{ToolAnswer}
use Rattle.command_line.specs.declared.answer.ToolAnswer.TheVariants as answer
use Rattle.tool_commands.proofs.AtAllAnswers.{all-one, all-image}
use Rattle.tool_commands.proofs.AtAnswers.{at-one, at-image}
use Rattle.tool_commands.proofs.BoundsAnswers.{BoundsSays, LatencySays, LowerCountsSays, one_bounds, one_latency, one_lower_counts}
use Rattle.tool_commands.proofs.CheckAnswers.{one_check}
use Rattle.tool_commands.proofs.ElfAnswers.{Wrote, elf-one, elf-view, unelf-one}
use Rattle.tool_commands.proofs.InferAnswers.{infer-one}
use Rattle.tool_commands.proofs.MapAnswers.{MapSays, one_map}
use Rattle.tool_commands.proofs.OrtiAnswers.{one_orti}
use Rattle.tool_commands.proofs.ResponseAnswers.{one_response_answer, one_task_answer}
use Rattle.tool_commands.proofs.SharesAnswers.{SharesSays, one_shares}
use Rattle.tool_commands.proofs.PictureAnswers.{Pictures, one_pictures}
use Rattle.tool_commands.proofs.RunAnswers.{run-image, run-one}
use Rattle.tool_commands.proofs.SourceAnswers.{one_source}
use Rattle.tool_commands.proofs.UnusedAnswers.{UnusedSays, one_unused}
use Rattle.tool_commands.proofs.WaveAnswers.{Waves, one_waves}

pub one_answer : OneAnswer
one_answer tool.Elf counts names inputs a b d p q = elf-one (input inputs 0) a b p q
one_answer tool.Unelf counts names inputs a b d p q = unelf-one (input inputs 0) a b p q
one_answer tool.Infer counts names inputs a b d p q = infer-one (input inputs 0) (input inputs 1) a b p q
one_answer tool.At counts names inputs a b d p q = at-one (input inputs 0) (input inputs 1) (number_of counts) a b p q
one_answer tool.AtAll counts names inputs a b d p q = all-one (input inputs 0) (input inputs 1) (number_of counts) a b p q
one_answer tool.Losses counts names inputs a b d p q = absurd (false≢true d)
one_answer tool.Wave counts names inputs a b d p q =
    let n = number_of counts in run-one (Waves n) (input inputs 0) (input inputs 1) n (one_waves n) a b p q
one_answer tool.Picture counts names inputs a b d p q =
    let w = window_of counts in run-one (Pictures w.from w.to) (input inputs 0) (input inputs 1) w.to (one_pictures w.from w.to) a b p q
one_answer tool.Check counts names inputs a b d p q =
    one_check (input inputs 0) (input inputs 1) (input inputs 2) (input inputs 3) (number_of counts) a b p q
one_answer tool.Bounds counts names inputs a b d p q =
    let oil = input inputs 0 in let src = input inputs 1 in one_source oil src (BoundsSays oil src) (one_bounds oil src) a b p q
one_answer tool.Latency counts names inputs a b d p q =
    let oil = input inputs 0 in let src = input inputs 1 in one_source oil src (LatencySays oil src) (one_latency oil src) a b p q
one_answer tool.LowerCounts counts names inputs a b d p q =
    let oil = input inputs 0 in let src = input inputs 1 in one_source oil src (LowerCountsSays oil src) (one_lower_counts oil src) a b p q
one_answer tool.Map counts names inputs a b d p q =
    let oil = input inputs 0 in let src = input inputs 1 in one_source oil src (MapSays oil src) (one_map oil src) a b p q
one_answer tool.Shares counts names inputs a b d p q =
    let oil = input inputs 0 in let src = input inputs 1 in one_source oil src (SharesSays oil src) (one_shares oil src) a b p q
one_answer tool.Response counts names inputs a b d p q = one_response_answer (input inputs 0) (input inputs 1) (input inputs 2) a b p q
one_answer tool.TaskResponse counts names inputs a b d p q =
    one_task_answer (input inputs 0) (input inputs 1) (input inputs 2) (input names 3) a b p q
one_answer tool.Symbols counts names inputs a b d p q = absurd (false≢true d)
one_answer tool.Orti counts names inputs a b d p q = one_orti (input inputs 0) (input inputs 1) a b p q
one_answer tool.Why counts names inputs a b d p q = absurd (false≢true d)
one_answer tool.TaskBound counts names inputs a b d p q = absurd (false≢true d)
one_answer tool.Labels counts names inputs a b d p q = absurd (false≢true d)
one_answer tool.TraceReason counts names inputs a b d p q = absurd (false≢true d)
one_answer tool.RunResponse counts names inputs a b d p q = absurd (false≢true d)
one_answer tool.Unused counts names inputs a b d p q =
    let oil = input inputs 0 in let src = input inputs 1 in one_source oil src (UnusedSays oil src) (one_unused oil src) a b p q

-- a tool that reads an image file reads a file
pub reads-one : (t : Tool) → IsTrue (reads_image t) → 1 ≤ file_count t
reads-one tool.Elf h = omega arith
reads-one tool.Unelf h = omega arith
reads-one tool.Infer h = omega arith
reads-one tool.At h = omega arith
reads-one tool.AtAll h = omega arith
reads-one tool.Losses h = omega arith
reads-one tool.Wave h = omega arith
reads-one tool.Picture h = omega arith
reads-one tool.Check h = omega arith
reads-one tool.Bounds h = omega arith
reads-one tool.Latency h = omega arith
reads-one tool.LowerCounts h = omega arith
reads-one tool.Map h = omega arith
reads-one tool.Shares h = omega arith
reads-one tool.Response h = omega arith
reads-one tool.Why h = omega arith
reads-one tool.TaskBound h = omega arith
reads-one tool.TaskResponse h = omega arith
reads-one tool.Symbols h = omega arith
reads-one tool.Orti h = omega arith
reads-one tool.Labels h = omega arith
reads-one tool.TraceReason h = omega arith
reads-one tool.Unused h = omega arith
reads-one tool.RunResponse h = omega arith

-- only a tool that reads an image file says that it is none, by its first fault
pub no-image : (t : Tool) (counts : Option Counts) (names inputs : List (List ℕ)) (fault : ImageFault)
    → IsAnswer t counts names inputs (answer.NotAnImage fault)
    → IsTrue (reads_image t) × IsFirstImageFault fault (input inputs 0)
no-image tool.Elf counts names inputs fault h = (refl, h)
no-image tool.Unelf counts names inputs fault h = absurd h
no-image tool.Infer counts names inputs fault h = absurd h
no-image tool.At counts names inputs fault h = (refl, h)
no-image tool.AtAll counts names inputs fault h = (refl, h)
no-image tool.Losses counts names inputs fault h = absurd h
no-image tool.Wave counts names inputs fault h = (refl, h)
no-image tool.Picture counts names inputs fault h = (refl, h)
no-image tool.Check counts names inputs fault h = absurd h
no-image tool.Bounds counts names inputs fault h = absurd h
no-image tool.Latency counts names inputs fault h = absurd h
no-image tool.LowerCounts counts names inputs fault h = absurd h
no-image tool.Map counts names inputs fault h = absurd h
no-image tool.Shares counts names inputs fault h = absurd h
no-image tool.Response counts names inputs fault h = absurd h
no-image tool.Why counts names inputs fault h = absurd h
no-image tool.TaskBound counts names inputs fault h = absurd h
no-image tool.TaskResponse counts names inputs fault h = absurd h
no-image tool.Symbols counts names inputs fault h = absurd h
no-image tool.Orti counts names inputs fault h = absurd h
no-image tool.Labels counts names inputs fault h = absurd h
no-image tool.TraceReason counts names inputs fault h = absurd h
no-image tool.Unused counts names inputs fault h = absurd h
no-image tool.RunResponse counts names inputs fault h = absurd h

-- what an answer says of the image file that is read
pub image-or-fault : (t : Tool) (counts : Option Counts) (names inputs : List (List ℕ)) (a : ToolAnswer) → IsTrue (reads_image t)
    → IsAnswer t counts names inputs a
    → HasImage (input inputs 0) ⊎ ((fault : ImageFault) × (a ≡ answer.NotAnImage fault))
image-or-fault tool.Elf counts names inputs a reads h = by (elf-view (input inputs 0) a h)
  where
    by : Wrote (λ out. (image : Image) × ImageText (input inputs 0) image × ElfText out image) a ⊎ ((fault : ImageFault) × (a ≡ answer.NotAnImage fault) × IsFirstImageFault fault (input inputs 0))
        → HasImage (input inputs 0) ⊎ ((fault : ImageFault) × (a ≡ answer.NotAnImage fault))
    by (inl w) = inl (w.file.0, w.file.1)
    by (inr w) = inr (w.0, w.1)
image-or-fault tool.Unelf counts names inputs a reads h = absurd (false≢true reads)
image-or-fault tool.Infer counts names inputs a reads h = absurd (false≢true reads)
image-or-fault tool.At counts names inputs a reads h = at-image (input inputs 0) (input inputs 1) (number_of counts) a h
image-or-fault tool.AtAll counts names inputs a reads h = all-image (input inputs 0) (input inputs 1) (number_of counts) a h
image-or-fault tool.Losses counts names inputs a reads h = absurd (false≢true reads)
image-or-fault tool.Wave counts names inputs a reads h =
    let n = number_of counts in run-image (Waves n) (input inputs 0) (input inputs 1) n (one_waves n) a h
image-or-fault tool.Picture counts names inputs a reads h =
    let w = window_of counts in run-image (Pictures w.from w.to) (input inputs 0) (input inputs 1) w.to (one_pictures w.from w.to) a h
image-or-fault tool.Check counts names inputs a reads h = absurd (false≢true reads)
image-or-fault tool.Bounds counts names inputs a reads h = absurd (false≢true reads)
image-or-fault tool.Latency counts names inputs a reads h = absurd (false≢true reads)
image-or-fault tool.LowerCounts counts names inputs a reads h = absurd (false≢true reads)
image-or-fault tool.Map counts names inputs a reads h = absurd (false≢true reads)
image-or-fault tool.Shares counts names inputs a reads h = absurd (false≢true reads)
image-or-fault tool.Response counts names inputs a reads h = absurd (false≢true reads)
image-or-fault tool.Why counts names inputs a reads h = absurd (false≢true reads)
image-or-fault tool.TaskBound counts names inputs a reads h = absurd (false≢true reads)
image-or-fault tool.TaskResponse counts names inputs a reads h = absurd (false≢true reads)
image-or-fault tool.Symbols counts names inputs a reads h = absurd (false≢true reads)
image-or-fault tool.Orti counts names inputs a reads h = absurd (false≢true reads)
image-or-fault tool.Labels counts names inputs a reads h = absurd (false≢true reads)
image-or-fault tool.TraceReason counts names inputs a reads h = absurd (false≢true reads)
image-or-fault tool.Unused counts names inputs a reads h = absurd (false≢true reads)
image-or-fault tool.RunResponse counts names inputs a reads h = absurd (false≢true reads)
