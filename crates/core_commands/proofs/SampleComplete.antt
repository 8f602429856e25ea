-- Which answer `sample` has.
use Rattle.std.proofs.Common.{◌≡◌, ◌∙◌, inl, inr, ℕ, List, length, sym, ap, subst}
use Rattle.std.specs.Prelude.{◌⊎◌}
use Rattle.sloth_base.specs.declared.config.Config.{Config}
use Rattle.sloth_base.specs.declared.app.App.{App}
use Rattle.sloth_base.specs.declared.refusal.Refusal.{Refusal}
use Rattle.image_file.specs.ImageText.{image_bytes}
use Rattle.sloth_source.specs.Texts.{AreAccepted, FirstRefusal}
use Rattle.sloth_source.proofs.Refusals.{one_refusal}
use Rattle.sloth_source.proofs.Unique.{one_meaning, never_both}
use Rattle.command_line.specs.Command.{Samples, IsCommand}
use Rattle.core_commands.specs.ImageFiles.{IsNoImage}
use Rattle.command_line.specs.LastLine.{refusal_line}
use Rattle.core_commands.specs.Samples.{sample_oil, sample_source}
use Rattle.core_commands.specs.SampleAnswers.{SampleWorks, HasSampleRefusedAnswer, HasSampledAnswer}
use Rattle.core_commands.specs.Top.{World, IsFailedRead, IsLongRead, IsRequired, IsPutAnswer, IsTextTaken, IsFullAnswer, IsTopAnswer, IsRefusalAnswer, PutsWork}
use Rattle.core_commands.specs.Top.{IsCommandDone, IsCommandRefused, IsCommandUnwritten, IsCommandStopped}
use Rattle.command_line.specs.declared.answer.Status.{Status}
use Rattle.command_line.specs.declared.answer.Status.TheVariants as status
use Rattle.command_line.proofs.Commands.{one-command}
use Rattle.core_commands.proofs.Complete.{counted-put, stands, image-of, no-failed-write, no-tool, never-usage}
use Rattle.core_commands.specs.ToolTables.{ToolTable}

module _ (tools : ToolTable) (words : List (List ℕ)) (old new : World) (answer : Status) (seed : ℕ) (img : List ℕ) (is : IsCommand words (Samples seed img)) where
  refused-by : (wanted : Status) (text : List ℕ) (r : Refusal) → FirstRefusal sample_oil (sample_source seed) r
      → IsRequired tools wanted words old.files new.files text → IsPutAnswer wanted answer old.sink new.sink text → IsRefusalAnswer old new r answer
  refused-by status.Refused text r refusal q (inl p) =
      let d = subst (λ x. IsCommandRefused tools old.files x q.2) (one-command words q.0 (Samples seed img) q.1 is) q.3 in
      let same : q.2 ≡ r = one_refusal sample_oil (sample_source seed) q.2 r d refusal in
      inl (p.0, subst (λ x. IsTextTaken old.sink new.sink x) (q.4 ∙ ap refusal_line same) p.1)
  refused-by status.Refused text r refusal q (inr p) = inr (inr (p.0, counted-put old.sink new.sink text p.1))
  refused-by status.NoMemory text r refusal q (inl p) = inr (inl p.0)
  refused-by status.NoMemory text r refusal q (inr p) = inr (inr (p.0, counted-put old.sink new.sink text p.1))
  refused-by status.Done text r refusal q p =
      let d = subst (λ x. IsCommandDone tools old.files new.files x text) (one-command words q.0 (Samples seed img) q.1 is) q.2 in
      absurd (never_both sample_oil (sample_source seed) d.config d.app r d.accepted refusal)
  refused-by status.WriteFault text r refusal q p =
      let d = subst (IsCommandUnwritten tools old.files new.files) (one-command words q.0 (Samples seed img) q.1 is) q.2 in
      absurd (never_both sample_oil (sample_source seed) d.config d.app r d.accepted refusal)
  refused-by status.Usage text r refusal q p = absurd (never-usage tools words old.files new.files (Samples seed img) tt is (λ h. h) q.0)
  refused-by status.ReadFault text r refusal q p =
      absurd (subst (IsFailedRead old.files new.files) (one-command words q.0 (Samples seed img) q.1 is) q.2)
  refused-by status.TooLong text r refusal q p =
      absurd (subst (IsLongRead old.files new.files) (one-command words q.0 (Samples seed img) q.1 is) q.2)
  refused-by status.Stopped text r refusal q p =
      absurd (subst (λ x. IsCommandStopped tools old.files new.files x text) (one-command words q.0 (Samples seed img) q.1 is) q.2)
  refused-by status.NotAnImage text r refusal q p =
      absurd (subst (λ x. IsNoImage old.files x q.2) (one-command words q.0 (Samples seed img) q.1 is) q.3).inputs
  refused-by status.NotAnElf text r refusal q p = absurd (no-tool words q.0 (Samples seed img) q.1 is tt)
  refused-by (status.Explained kind) text r refusal q p = absurd (no-tool words q.0 (Samples seed img) q.1 is tt)
  refused-by status.BadTrace text r refusal q p = absurd (no-tool words q.0 (Samples seed img) q.1 is tt)
  refused-by status.NoHolds text r refusal q p = absurd (no-tool words q.0 (Samples seed img) q.1 is tt)
  refused-by status.Unmet text r refusal q p = absurd (no-tool words q.0 (Samples seed img) q.1 is tt)

  sampled-by : (wanted : Status) (text : List ℕ) (config : Config) (app : App) → AreAccepted sample_oil (sample_source seed) config app
      → SampleWorks seed img config app old new → IsRequired tools wanted words old.files new.files text → IsPutAnswer wanted answer old.sink new.sink text
      → IsFullAnswer tools status.Done words old new answer ⊎ IsFullAnswer tools status.NoMemory words old new answer
  sampled-by status.Done text config app accepted works q p =
      let d = subst (λ x. IsCommandDone tools old.files new.files x text) (one-command words q.0 (Samples seed img) q.1 is) q.2 in
      let same = one_meaning sample_oil (sample_source seed) d.config config d.app app d.accepted accepted in
      let lines = works.lines d.image (image-of config d.config app d.app d.image same d.is_image) in
      inl (stands tools status.Done answer words old new text (subst (λ x. PutsWork old.sink new.sink x) (sym d.text_is) lines) q p)
  sampled-by status.NoMemory text config app accepted works q p =
      inr (stands tools status.NoMemory answer words old new text (subst (λ x. PutsWork old.sink new.sink x) (sym q.2) works.last_line) q p)
  sampled-by status.Refused text config app accepted works q p =
      let d = subst (λ x. IsCommandRefused tools old.files x q.2) (one-command words q.0 (Samples seed img) q.1 is) q.3 in
      absurd (never_both sample_oil (sample_source seed) config app q.2 accepted d)
  sampled-by status.WriteFault text config app accepted works q p =
      let d = subst (IsCommandUnwritten tools old.files new.files) (one-command words q.0 (Samples seed img) q.1 is) q.2 in
      let same = one_meaning sample_oil (sample_source seed) d.config config d.app app d.accepted accepted in
      let image = image-of config d.config app d.app d.image same d.is_image in
      absurd (no-failed-write old.files new.files img (length (image_bytes d.image)) (works.write d.image image) d.failed)
  sampled-by status.Usage text config app accepted works q p = absurd (never-usage tools words old.files new.files (Samples seed img) tt is (λ h. h) q.0)
  sampled-by status.ReadFault text config app accepted works q p =
      absurd (subst (IsFailedRead old.files new.files) (one-command words q.0 (Samples seed img) q.1 is) q.2)
  sampled-by status.TooLong text config app accepted works q p =
      absurd (subst (IsLongRead old.files new.files) (one-command words q.0 (Samples seed img) q.1 is) q.2)
  sampled-by status.Stopped text config app accepted works q p =
      absurd (subst (λ x. IsCommandStopped tools old.files new.files x text) (one-command words q.0 (Samples seed img) q.1 is) q.2)
  sampled-by status.NotAnImage text config app accepted works q p =
      absurd (subst (λ x. IsNoImage old.files x q.2) (one-command words q.0 (Samples seed img) q.1 is) q.3).inputs
  sampled-by status.NotAnElf text config app accepted works q p = absurd (no-tool words q.0 (Samples seed img) q.1 is tt)
  sampled-by (status.Explained kind) text config app accepted works q p = absurd (no-tool words q.0 (Samples seed img) q.1 is tt)
  sampled-by status.BadTrace text config app accepted works q p = absurd (no-tool words q.0 (Samples seed img) q.1 is tt)
  sampled-by status.NoHolds text config app accepted works q p = absurd (no-tool words q.0 (Samples seed img) q.1 is tt)
  sampled-by status.Unmet text config app accepted works q p = absurd (no-tool words q.0 (Samples seed img) q.1 is tt)

pub tells-sample-refused : (tools : ToolTable) (words : List (List ℕ)) (old new : World) (answer : Status) → IsTopAnswer tools words old new answer → HasSampleRefusedAnswer words old new answer
tells-sample-refused tools words old new answer h seed img is r refusal =
    refused-by tools words old new answer seed img is h.wanted h.text r refusal h.required h.puts

pub tells-sampled : (tools : ToolTable) (words : List (List ℕ)) (old new : World) (answer : Status) → IsTopAnswer tools words old new answer → HasSampledAnswer tools words old new answer
tells-sampled tools words old new answer h seed img is config app accepted works =
    sampled-by tools words old new answer seed img is h.wanted h.text config app accepted works h.required h.puts
