-- The marks of the blocks of services.
use Rattle.std.specs.Prelude.{ℕ}
use Rattle.sloth_base.specs.declared.image.Mark.{Mark}
use Rattle.sloth_base.specs.declared.image.MarkKind.TheVariants as mark

-- the mark on the instruction with which a service of this code begins
abbrev pub opening : ℕ → ℕ → Mark
opening address code = record { address = address; kind = mark.Opening; a = code; b = 0; c = 0 }

-- the mark on the instruction with which a task comes back from Schedule
abbrev pub back_mark : ℕ → Mark
back_mark address = record { address = address; kind = mark.Back; a = 0; b = 0; c = 0 }
