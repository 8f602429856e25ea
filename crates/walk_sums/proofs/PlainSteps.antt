-- Steps of walks inside a function: plain operations lead to where its paths go on.
use Rattle.std.proofs.Common.{◌≡◌, ℕ, true, ◌∷◌, refl, ap, ◌∙◌}
use Rattle.sloth_base.specs.declared.app.App.{App}
use Rattle.sloth_base.specs.declared.app.Op.{Op}
use Rattle.sloth_base.specs.declared.app.Op.TheVariants as op
use Rattle.sloth_base.specs.Named.{function}
use Rattle.osek_blocking.specs.Walks.{Position, place, GoesOnInside, LeadsTo, IsPositionStep, chains_itself}
use Rattle.walk_sums.specs.Activations.{is_plain, IsInnerStep}

-- a plain operation leads to where a path of its function goes on
pub plain_leads : (app : App) (o : Op) (f i : ℕ) (outer next : Position) → is_plain o ≡ true → GoesOnInside app f i outer next → LeadsTo app o f i outer next
plain_leads app (op.Invoke g) f i outer next p l = absurd cc
plain_leads app op.Return f i outer next p l = absurd cc
plain_leads app (op.Alu kind rd a b) f i outer next p l = l
plain_leads app (op.AluImm kind rd a n) f i outer next p l = l
plain_leads app (op.Lui rd n) f i outer next p l = l
plain_leads app (op.Li rd v) f i outer next p l = l
plain_leads app (op.FrameLoad rd word) f i outer next p l = l
plain_leads app (op.FrameStore rs word) f i outer next p l = l
plain_leads app (op.Load w rd y offset) f i outer next p l = l
plain_leads app (op.Store w rs y offset) f i outer next p l = l
plain_leads app (op.LoadAt w rd y index mask) f i outer next p l = l
plain_leads app (op.StoreAt w rs y index mask) f i outer next p l = l
plain_leads app (op.Branch kind a b k) f i outer next p l = l
plain_leads app (op.Jump k) f i outer next p l = l
plain_leads app (op.Serve call) f i outer next p l = l

-- one step inside a function
pub step_inside : (app : App) (f i j : ℕ) (outer : Position) → IsInnerStep app f i j → IsPositionStep app (place f i ∷ outer) (place f j ∷ outer)
step_inside app f i j outer s =
    (s.operation, s.item, plain_leads app s.operation f i outer (place f j ∷ outer) s.plain (j, s.goes_on, ap (chains_itself (function app f)) s.item.is ∙ s.stays, refl))
