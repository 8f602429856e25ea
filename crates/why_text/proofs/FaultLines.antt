-- Lines that tell each fault of a set.
use Rattle.std.proofs.Common.{◌≡◌, ℕ, List, subst}
use Rattle.sloth_base.specs.declared.config.Config.{Config}
use Rattle.sloth_base.specs.declared.refusal.BuildError.TheVariants as error
use Rattle.sloth_base.specs.declared.refusal.Part.{Part}
use Rattle.sloth_base.specs.declared.refusal.Refusal.{Refusal}
use Rattle.sloth_base.specs.Order.{ErrorIs}
use Rattle.asm_lines.specs.Faults.{SourceLinesFault}
use Rattle.sloth_source.specs.OilText.{OilText, OilErrorIs}
use Rattle.sloth_source.proofs.Readings.{one_configuration}
use Rattle.sloth_source.proofs.Unique.{declared}
use Rattle.stage_faults.specs.declared.notes.Note.{Note}
use Rattle.stage_faults.specs.Told.{AreAll}
use Rattle.stage_faults.proofs.Places.{all_told}
use Rattle.why_text.specs.NameLines.{TellsNotes, AreFaultLines}
use Rattle.why_text.specs.WhyLines.{TellsNamesFor, TellsNames}

pub fault_lines : (part : Part) (F : Refusal → Type 0) (notes : List Note) (lines : List ℕ) → AreAll part F notes → TellsNotes notes lines → AreFaultLines part F lines
fault_lines part F notes lines all t =
    record { named = t.named; is_named = t.is_named; notes = t.told; in_order = t.in_order; all = all_told part F notes t.told t.same all; are = t.are }

-- ---- texts with a fault of an earlier stage

pub no_names_for : (config : Config) (src lines : List ℕ) (r : Refusal) → ErrorIs (SourceLinesFault src) (error.Refused r) → TellsNamesFor config src lines
no_names_for config src lines r least none = absurd (none r least.is_fault)

pub undeclared : (oil : List ℕ) (r : Refusal) → OilErrorIs oil (error.Refused r) → (config : Config) → OilText oil config → ⊥
undeclared oil r refused config t = declared oil config r t refused

pub no_names : (oil src lines : List ℕ) → ((config : Config) → OilText oil config → ⊥) → TellsNames oil src lines
no_names oil src lines none config t = absurd (none config t)

pub names_for_one : (oil src lines : List ℕ) (config : Config) → OilText oil config → TellsNamesFor config src lines → TellsNames oil src lines
names_for_one oil src lines config t tells other o = subst (λ (c : Config). TellsNamesFor c src lines) (one_configuration oil config other t o) tells
