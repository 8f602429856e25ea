-- Walks inside functions, and into calls.
use Rattle.std.proofs.Common.{◌≡◌, ℕ, ◌+◌, true, false, [], ◌∷◌, refl, ap, ◌∙◌}
use Rattle.sloth_base.specs.declared.app.App.{App}
use Rattle.sloth_base.specs.declared.app.Op.{Op}
use Rattle.sloth_base.specs.declared.app.Op.TheVariants as op
use Rattle.sloth_base.specs.Named.{function, operation, body_of}
use Rattle.code_rules.specs.Code.{IsItem, IsPathStep}
use Rattle.osek_blocking.specs.Walks.{Position, place, IsPositionStep, chains_itself}
use Rattle.osek_blocking.proofs.Reached.{IsReached, reached_next, reached_first}
use Rattle.walk_sums.proofs.PlainSteps.{plain_leads}
use Rattle.walk_sums.specs.Activations.{is_plain, ReachesItem, reaches_first, reaches_inside, reaches_behind}

module _ (app : App) where
  -- one step inside a function
  pub step_inside : (f i j : ℕ) (outer : Position) (o : Op) → IsItem app f i o → is_plain o ≡ true → IsPathStep (function app f) i j
      → chains_itself (function app f) (operation app f i) ≡ false → IsPositionStep app (place f i ∷ outer) (place f j ∷ outer)
  step_inside f i j outer o item plain path stays = (o, item, plain_leads app o f i outer (place f j ∷ outer) plain (j, path, stays, refl))

  -- to an item that walks into the function reach
  pub walk_inside : (t f i : ℕ) (outer : Position) → ReachesItem app f i → IsReached app t (place f 0 ∷ outer) → IsReached app t (place f i ∷ outer)
  walk_inside t f i outer (reaches_first g) r = r
  walk_inside t f i outer (reaches_inside g k j before s) r =
      reached_next app t (place g k ∷ outer) (place g j ∷ outer) (walk_inside t g k outer before r)
      (step_inside g k j outer s.operation s.item s.plain s.goes_on (ap (chains_itself (function app g)) s.item.is ∙ s.stays))
  walk_inside t f i outer (reaches_behind a k g q before call inner ret) r =
      let at = walk_inside t a k outer before r in
      let entered = reached_next app t (place a k ∷ outer) (place g 0 ∷ place a k ∷ outer) at (op.Invoke g, call, refl) in
      reached_next app t (place g q ∷ place a k ∷ outer) (place a (k + 1) ∷ outer) (walk_inside t g q (place a k ∷ outer) inner entered) (op.Return, ret, refl)

  -- to one of what an item calls
  pub walk_called : (t f i g j : ℕ) (outer : Position) → IsItem app f i (op.Invoke g) → ReachesItem app g j → IsReached app t (place f i ∷ outer)
      → IsReached app t (place g j ∷ place f i ∷ outer)
  walk_called t f i g j outer call reached r =
      walk_inside t g j (place f i ∷ outer) reached (reached_next app t (place f i ∷ outer) (place g 0 ∷ place f i ∷ outer) r (op.Invoke g, call, refl))

  -- to an item of the task's body
  pub walk_body : (t i : ℕ) → ReachesItem app (body_of app.funcs t) i → IsReached app t (place (body_of app.funcs t) i ∷ [])
  walk_body t i reached = walk_inside t (body_of app.funcs t) i [] reached (reached_first app t)
