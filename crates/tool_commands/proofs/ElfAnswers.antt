-- Files have one answer of `elf`, and one of `unelf`.
use Rattle.std.proofs.Common.{◌≡◌, ◌∙◌, ℕ, List, length, refl, sym, ap, ◌⊎◌, inl, inr}
use Rattle.sloth_base.specs.declared.image.Image.{Image}
use Rattle.image_file.specs.ImageText.{image_bytes}
use Rattle.image_file.specs.Faults.{IsFirstImageFault as ImageFaulty}
use Rattle.image_file.specs.declared.read.ImageFault.{ImageFault}
use Rattle.image_file.proofs.Faulted.{fault_is_one as one_image_fault, none_is_both as no_image_and_fault}
use Rattle.image_file.proofs.Images.{image-unique}
use Rattle.elf_image.specs.ElfText.{file_bytes, description_bytes}
use Rattle.elf_image.specs.Faults.{IsFirstElfFault as ElfFaulty}
use Rattle.image_file.specs.declared.read.ElfFault.{ElfFault}
use Rattle.elf_image.proofs.Faulted.{elf-unique, fault_is_one as one_elf_fault, none_is_both as no_elf_and_fault}
use Rattle.tool_commands.specs.ElfAnswers.{AreOfOneImage, IsElfAnswer, IsUnelfAnswer}
use Rattle.tool_commands.specs.Lines.{written_line}
use Rattle.command_line.specs.declared.answer.Outcome.{Outcome}
use Rattle.command_line.specs.declared.answer.ToolAnswer.{ToolAnswer}
use Rattle.command_line.specs.declared.answer.ToolAnswer.TheVariants as answer

-- a tool that writes a file was done
pub record Wrote (P : List ℕ → Type 0) (a : ToolAnswer) : Type 0 where
  pub outcome : Outcome
  pub is : a ≡ answer.Done outcome
  pub file : P outcome.file
  pub text : outcome.text ≡ written_line (length outcome.file)

pub same-outcome : (o p : Outcome) → o.file ≡ p.file → o.text ≡ p.text → o ≡ p
same-outcome o p f t = ap (λ x. record { file = x; text = o.text }) f ∙ ap (λ x. record { file = p.file; text = x }) t

pub same-wrote : (P : List ℕ → Type 0) → ((one other : List ℕ) → P one → P other → one ≡ other) → (a b : ToolAnswer) → Wrote P a → Wrote P b → a ≡ b
same-wrote P one a b w v =
    let file = one w.outcome.file v.outcome.file w.file v.file in
    let text : w.outcome.text ≡ v.outcome.text = w.text ∙ ap (λ x. written_line (length x)) file ∙ sym v.text in
    w.is ∙ ap answer.Done (same-outcome w.outcome v.outcome file text) ∙ sym v.is

-- what an answer of `elf` is
abbrev ElfView : List ℕ → ToolAnswer → Type 0
ElfView file a = Wrote (λ out. AreOfOneImage file out) a ⊎ ((fault : ImageFault) × (a ≡ answer.NotAnImage fault) × ImageFaulty fault file)

pub elf-view : (file : List ℕ) (a : ToolAnswer) → IsElfAnswer file a → ElfView file a
elf-view file (answer.Done outcome) h = inl (record { outcome = outcome; is = refl; file = h.0; text = h.1 })
elf-view file (answer.NotAnImage fault) h = inr (fault, refl, h)
elf-view file (answer.Refused refusal) h = absurd h
elf-view file (answer.Stopped pc stop) h = absurd h
elf-view file (answer.NotAnElf fault) h = absurd h
elf-view file (answer.BadTrace fault) h = absurd h
elf-view file answer.NoHolds h = absurd h
elf-view file (answer.Unmet lines) h = absurd h
elf-view file (answer.Explained kind lines) h = absurd h
elf-view file answer.NoTask h = absurd h

elf-file : (file one other : List ℕ) → AreOfOneImage file one → AreOfOneImage file other → one ≡ other
elf-file file one other h i =
    let same = image-unique h.0 i.0 file h.1 i.1 in
    h.2.written ∙ ap (λ (x : Image). file_bytes x.memory (description_bytes x)) same ∙ sym i.2.written

pub elf-one : (file : List ℕ) (a b : ToolAnswer) → IsElfAnswer file a → IsElfAnswer file b → a ≡ b
elf-one file a b p q = by (elf-view file a p) (elf-view file b q)
  where
    by : ElfView file a → ElfView file b → a ≡ b
    by (inl w) (inl v) = same-wrote (λ out. AreOfOneImage file out) (elf-file file) a b w v
    by (inl w) (inr v) = absurd (no_image_and_fault file w.file.0 v.0 w.file.1 v.2)
    by (inr w) (inl v) = absurd (no_image_and_fault file v.file.0 w.0 v.file.1 w.2)
    by (inr w) (inr v) = w.1 ∙ ap answer.NotAnImage (one_image_fault file w.0 v.0 w.2 v.2) ∙ sym v.1

-- what an answer of `unelf` is
abbrev UnelfView : List ℕ → ToolAnswer → Type 0
UnelfView file a = Wrote (λ out. AreOfOneImage out file) a ⊎ ((fault : ElfFault) × (a ≡ answer.NotAnElf fault) × ElfFaulty fault file)

unelf-view : (file : List ℕ) (a : ToolAnswer) → IsUnelfAnswer file a → UnelfView file a
unelf-view file (answer.Done outcome) h = inl (record { outcome = outcome; is = refl; file = h.0; text = h.1 })
unelf-view file (answer.NotAnElf fault) h = inr (fault, refl, h)
unelf-view file (answer.Refused refusal) h = absurd h
unelf-view file (answer.Stopped pc stop) h = absurd h
unelf-view file (answer.NotAnImage fault) h = absurd h
unelf-view file (answer.BadTrace fault) h = absurd h
unelf-view file answer.NoHolds h = absurd h
unelf-view file (answer.Unmet lines) h = absurd h
unelf-view file (answer.Explained kind lines) h = absurd h
unelf-view file answer.NoTask h = absurd h

image-file : (file one other : List ℕ) → AreOfOneImage one file → AreOfOneImage other file → one ≡ other
image-file file one other h i = let same = elf-unique h.0 i.0 file h.2 i.2 in h.1.written ∙ ap image_bytes same ∙ sym i.1.written

pub unelf-one : (file : List ℕ) (a b : ToolAnswer) → IsUnelfAnswer file a → IsUnelfAnswer file b → a ≡ b
unelf-one file a b p q = by (unelf-view file a p) (unelf-view file b q)
  where
    by : UnelfView file a → UnelfView file b → a ≡ b
    by (inl w) (inl v) = same-wrote (λ out. AreOfOneImage out file) (image-file file) a b w v
    by (inl w) (inr v) = absurd (no_elf_and_fault file w.file.0 v.0 w.file.2 v.2)
    by (inr w) (inl v) = absurd (no_elf_and_fault file v.file.0 w.0 v.file.2 w.2)
    by (inr w) (inr v) = w.1 ∙ ap answer.NotAnElf (one_elf_fault file w.0 v.0 w.2 v.2) ∙ sym v.1
