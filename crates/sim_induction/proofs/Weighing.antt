-- Steps within their weights: joined, those of arrivals, and one among others.
use Rattle.std.proofs.Common.{◌≡◌, ◌∙◌, ◌≤◌, List, [], ◌∷◌, ◌++◌, length, refl, sym, subst, arith, true}
use Rattle.std.specs.Prelude.{map}
use Rattle.sloth_base.specs.declared.app.App.{App}
use Rattle.sloth_base.specs.declared.config.Config.{Config}
use Rattle.sloth_base.specs.declared.service.Arrival.{Arrival}
use Rattle.sloth_base.specs.declared.service.Stamped.{Stamped}
use Rattle.sloth_base.specs.Owners.{first_counter_line, owners_in, AreOwned}
use Rattle.osek_scheduler.specs.State.{System}
use Rattle.osek_scheduler.specs.Runs.{AreStepsTo}
use Rattle.osek_scheduler.proofs.Leading.{one_step}
use Rattle.sim_induction.specs.Admits.{with_arrival, with_admits, admit_event}
use Rattle.sim_induction.specs.Weighed.{IsWithinWeight, AreWeighedTo}
use Rattle.sim_induction.proofs.Follow.{booted_arrival}
use Rattle.sim_induction.proofs.Lines.{arrival_steps}

pub weighed-append : (c : Config) (app : App) (a b : List Stamped) (s x z : System) → AreWeighedTo c app a s x → AreWeighedTo c app b x z → AreWeighedTo c app (a ++ b) s z
weighed-append c app [] b s x z h k = subst (λ v. AreWeighedTo c app b v z) h k
weighed-append c app (e ∷ a) b s x z h k = (h.0, h.1, h.2, weighed-append c app a b h.0 x z h.3 k)

-- an admission spans one count
pub weighed_admits : (c : Config) (app : App) (a : List Arrival) (s : System) → length c.tasks ≤ first_counter_line → s.booted ≡ true → AreOwned (owners_in c) (map (λ x. x.line) a)
    → AreWeighedTo c app (map admit_event a) s (with_admits (map (λ x. x.line) a) s)
weighed_admits c app [] s few b h = refl
weighed_admits c app (x ∷ a) s few b h =
    (with_arrival x.line s, omega arith, arrival_steps c app x.line s few h.0 b, weighed_admits c app a (with_arrival x.line s) few (booted_arrival x.line s ∙ b) h.1)

-- behind the events before it each event finds one state, and is within its weight there
pub found_within : (c : Config) (app : App) (before behind : List Stamped) (e : Stamped) (s end found : System) → AreWeighedTo c app (before ++ e ∷ behind) s end
    → AreStepsTo c app before s found → IsWithinWeight c app found e
found_within c app [] behind e s end found h k = subst (λ v. IsWithinWeight c app v e) (sym k) h.1
found_within c app (x ∷ before) behind e s end found h k =
    let same = one_step c app x.event s h.0 k.0 h.2 k.1 in
    found_within c app before behind e k.0 end found (subst (λ v. AreWeighedTo c app (before ++ e ∷ behind) v end) same h.3) k.2
