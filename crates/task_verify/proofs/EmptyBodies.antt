-- The fault of a body without items.
use Rattle.std.specs.Prelude.{◌≡◌, length}
use Rattle.sloth_base.specs.declared.app.Func.{Func}
use Rattle.sloth_base.specs.declared.refusal.Code.TheVariants as code
use Rattle.sloth_base.specs.declared.refusal.Refusal.{Refusal}
use Rattle.task_verify.specs.Cases.{BodyCase}

-- V5 of a body without items
abbrev pub EmptyFault : Func → Refusal → Type 0
EmptyFault f r = BodyCase (length f.items ≡ 0) f.line code.V5 r
