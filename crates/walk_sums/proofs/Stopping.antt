-- Neither a call nor a `ret` stops parts.
use Rattle.std.proofs.Common.{◌≡◌, ℕ, false, refl}
use Rattle.sloth_base.specs.declared.app.Op.TheVariants as op
use Rattle.walk_sums.specs.declared.levels.Kind.{Kind}
use Rattle.walk_sums.specs.declared.levels.Kind.TheVariants as kinds
use Rattle.walk_sums.specs.Kinds.{stops}

pub call_free : (k : Kind) (g : ℕ) → stops k (op.Invoke g) ≡ false
call_free kinds.Turns g = refl
call_free kinds.Rounds g = refl
call_free kinds.Sections g = refl
call_free (kinds.EarlySections line) g = refl
call_free (kinds.Uncleared events) g = refl

pub return_free : (k : Kind) → stops k op.Return ≡ false
return_free kinds.Turns = refl
return_free kinds.Rounds = refl
return_free kinds.Sections = refl
return_free (kinds.EarlySections line) = refl
return_free (kinds.Uncleared events) = refl
