-- Events lead from a state to one state alone; and where they lead, joined and taken apart.
use Rattle.std.proofs.Common.{◌≡◌, List, [], ◌∷◌, ◌++◌, refl, sym, ◌∙◌, subst}
use Rattle.sloth_base.specs.declared.config.Config.{Config}
use Rattle.sloth_base.specs.declared.app.App.{App}
use Rattle.sloth_base.specs.declared.service.Event.{Event}
use Rattle.sloth_base.specs.declared.service.Stamped.{Stamped}
use Rattle.osek_scheduler.specs.State.{System}
use Rattle.osek_scheduler.specs.Steps.{OsekStep}
use Rattle.osek_scheduler.specs.Runs.{AreStepsTo, AreStepsBehind}
use Rattle.osek_scheduler.proofs.Next.{step_is}
use Rattle.osek_scheduler.proofs.Tests.{some_one}

pub leads-append : (c : Config) (app : App) (a b : List Stamped) (s x z : System) → AreStepsTo c app a s x → AreStepsTo c app b x z → AreStepsTo c app (a ++ b) s z
leads-append c app [] b s x z h k = subst (λ v. AreStepsTo c app b v z) h k
leads-append c app (e ∷ a) b s x z h k = (h.0, h.1, leads-append c app a b h.0 x z h.2 k)

-- the two parts of a list lead by way of a state between them
pub leads-parts : (c : Config) (app : App) (a b : List Stamped) (s z : System) → AreStepsTo c app (a ++ b) s z → (x : System) × AreStepsTo c app a s x × AreStepsTo c app b x z
leads-parts c app [] b s z h = (s, refl, h)
leads-parts c app (e ∷ a) b s z h =
    let parts = leads-parts c app a b h.0 z h.2 in
    (parts.0, (h.0, h.1, parts.1), parts.2)

pub follows_leads : (c : Config) (app : App) (past : List Stamped) (s : System) (es : List Stamped) (z : System) → AreStepsBehind c app past s es z → AreStepsTo c app es s z
follows_leads c app past s [] z h = h
follows_leads c app past s (e ∷ es) z h = (h.0, h.1, follows_leads c app (past ++ e ∷ []) h.0 es z h.3)

-- a step leads to one state
pub one_step : (c : Config) (app : App) (e : Event) (s x z : System) → OsekStep c app e s x → OsekStep c app e s z → x ≡ z
one_step c app e s x z h k = some_one x z (sym (step_is c app s x e h) ∙ step_is c app s z e k)

-- and so do events
pub one_end : (c : Config) (app : App) (es : List Stamped) (s x z : System) → AreStepsTo c app es s x → AreStepsTo c app es s z → x ≡ z
one_end c app [] s x z h k = h ∙ sym k
one_end c app (e ∷ es) s x z h k =
    let same = one_step c app e.event s h.0 k.0 h.1 k.1 in
    one_end c app es k.0 x z (subst (λ v. AreStepsTo c app es v x) same h.2) k.2
