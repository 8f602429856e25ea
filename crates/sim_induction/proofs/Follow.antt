-- Runs of the abstract scheduler, joined; and the events of arrivals.
use Rattle.std.proofs.Common.{◌≡◌, ℕ, List, [], ◌∷◌, ◌++◌, ◌≤◌, length, refl, sym, ◌∙◌, subst, append_assoc, append-nil, true}
use Rattle.std.specs.Prelude.{map}
use Rattle.sloth_base.specs.declared.config.Config.{Config}
use Rattle.sloth_base.specs.declared.app.App.{App}
use Rattle.sloth_base.specs.declared.service.Arrival.{Arrival}
use Rattle.sloth_base.specs.declared.service.Stamped.{Stamped}
use Rattle.sloth_base.specs.Owners.{first_counter_line, owners_in, AreOwned}
use Rattle.osek_scheduler.specs.declared.state.TaskState.{TaskState}
use Rattle.osek_scheduler.specs.declared.state.TaskState.TheVariants as mode
use Rattle.osek_scheduler.specs.State.{System, task}
use Rattle.osek_scheduler.specs.Services.{if_suspended, activated_state}
use Rattle.osek_scheduler.specs.Steps.{admitted_state}
use Rattle.osek_scheduler.specs.Runs.{AreStepsTo, AreStepsBehind}
pub use Rattle.osek_scheduler.proofs.Leading.{leads-append, follows_leads}
use Rattle.sim_induction.specs.Admits.{with_arrival, with_admits, admit_event}
use Rattle.sim_induction.proofs.Lines.{arrival_cases, arrival_steps, arrival_passes}

pub follows-append : (c : Config) (app : App) (past : List Stamped) (s x z : System) (a b : List Stamped) → AreStepsBehind c app past s a x → AreStepsBehind c app (past ++ a) x b z → AreStepsBehind c app past s (a ++ b) z
follows-append c app past s x z [] b h k =
    subst (λ v. AreStepsBehind c app past v b z) h (subst (λ p. AreStepsBehind c app p x b z) (append-nil past) k)
follows-append c app past s x z (e ∷ a) b h k =
    (h.0, h.1, h.2, follows-append c app (past ++ e ∷ []) h.0 x z a b h.3 (subst (λ p. AreStepsBehind c app p x b z) (sym (append_assoc past (e ∷ []) a)) k))

-- ---- arrivals

booted_if : (t : TaskState) (x s : System) → x.booted ≡ s.booted → (if_suspended t x s).booted ≡ s.booted
booted_if mode.Suspended x s h = h
booted_if mode.Ready x s h = refl
booted_if mode.Active x s h = refl
booted_if (mode.Waiting m) x s h = refl

pub booted_admitted : (t : ℕ) (s : System) → (admitted_state t s).booted ≡ s.booted
booted_admitted t s = booted_if (task s t).state (record (activated_state s t) { fresh = t ∷ s.fresh }) s refl

pub booted_arrival : (line : ℕ) (s : System) → (with_arrival line s).booted ≡ s.booted
booted_arrival line s = arrival_cases (λ z. z.booted ≡ s.booted) line s (booted_admitted line s) (λ c. refl)

pub booted_admits : (lines : List ℕ) (s : System) → (with_admits lines s).booted ≡ s.booted
booted_admits [] s = refl
booted_admits (line ∷ lines) s = booted_admits lines (with_arrival line s) ∙ booted_arrival line s

pub follows_admits : (c : Config) (app : App) (past : List Stamped) (a : List Arrival) (s : System) → length c.tasks ≤ first_counter_line → s.booted ≡ true → AreOwned (owners_in c) (map (λ x. x.line) a)
    → AreStepsBehind c app past s (map admit_event a) (with_admits (map (λ x. x.line) a) s)
follows_admits c app past [] s few b h = refl
follows_admits c app past (x ∷ a) s few b h =
    (with_arrival x.line s, arrival_steps c app x.line s few h.0 b, arrival_passes c app past x.line s x.at, follows_admits c app (past ++ admit_event x ∷ []) a (with_arrival x.line s) few (booted_arrival x.line s ∙ b) h.1)

pub leads_admits : (c : Config) (app : App) (a : List Arrival) (s : System) → length c.tasks ≤ first_counter_line → s.booted ≡ true → AreOwned (owners_in c) (map (λ x. x.line) a) → AreStepsTo c app (map admit_event a) s (with_admits (map (λ x. x.line) a) s)
leads_admits c app a s few b h = follows_leads c app [] s (map admit_event a) (with_admits (map (λ x. x.line) a) s) (follows_admits c app [] a s few b h)
