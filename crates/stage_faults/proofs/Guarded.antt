-- Faults that are there where a test says so.
use Rattle.std.proofs.Common.{◌≡◌, Bool, true, false, List}
use Rattle.sloth_base.specs.declared.refusal.Part.{Part}
use Rattle.sloth_base.specs.declared.refusal.Refusal.{Refusal}
use Rattle.stage_faults.specs.declared.notes.Note.{Note}
use Rattle.stage_faults.specs.Told.{Adds}
use Rattle.stage_faults.proofs.Telling.{adds_same, adds_none}

pub adds_guarded : (part : Part) (F : Refusal → Type 0) (test : Bool) (old new : List Note) → test ≡ true → Adds part F old new → Adds part (λ r. (test ≡ true) × F r) old new
adds_guarded part F test old new t a = adds_same part F (λ r. (test ≡ true) × F r) old new (λ r f. (t, f)) (λ r p. p.1) a

pub adds_unguarded : (part : Part) (F : Refusal → Type 0) (test : Bool) (old : List Note) → test ≡ false → Adds part (λ r. (test ≡ true) × F r) old old
adds_unguarded part F test old f = adds_none part (λ r. (test ≡ true) × F r) old (λ r p. let t = p.0 in cc)
