-- Stages that follow one another.
use Rattle.std.proofs.Common.{◌≡◌, ℕ, ◌+◌, ◌-◌, ◌≤◌, List, [], ◌∷◌, ◌++◌, Bool, true, false, cond, refl, sym, ap, subst, arith}
use Rattle.std.specs.List.{AllByRecursion}
use Rattle.sloth_base.specs.declared.config.Config.{Config}
use Rattle.sloth_base.specs.declared.app.App.{App}
use Rattle.sloth_base.specs.declared.service.Event.{Event}
use Rattle.sloth_base.specs.declared.service.Stamped.{Stamped}
use Rattle.osek_scheduler.specs.State.{System}
use Rattle.osek_scheduler.specs.InTime.{is_admit}
use Rattle.osek_scheduler.specs.Steps.{OsekStep}
use Rattle.osek_scheduler.specs.Runs.{AreStepsTo}
use Rattle.osek_scheduler.proofs.Next.{step_is}
use Rattle.osek_scheduler.specs.Valid.{IsValid}
use Rattle.osek_scheduler.proofs.Facts.{Facts}
use Rattle.osek_scheduler.proofs.Steps.{step_valid}
use Rattle.osek_blocking.proofs.Effects.{Ordered}
use Rattle.osek_blocking.proofs.Ordering.{step_ordered}
use Rattle.run_counts.specs.Stages.{Stage, state_or, state_behind, stage, stages, end_of, charged}
use Rattle.run_counts.specs.Rounds.{total}

-- the stage is a step from an ordered and valid state
pub record Known (config : Config) (app : App) (x : Stage) : Type 0 where
  pub step : OsekStep config app x.stamped.event x.found x.next
  pub ordered : Ordered config x.found
  pub valid : IsValid config app x.found

-- ---- links

-- the first of these stages finds state s, where the events before it ended at count `at`, and each other one what the one before it leaves
abbrev pub Linked : (at : ℕ) → System → List Stage → Type 0
Linked at s [] = Unit {0}
Linked at s (x ∷ xs) = (x.start ≡ at) × (x.found ≡ s) × Linked (end_of x) x.next xs

-- the state behind these stages, the first of which finds state s
abbrev pub last_state : System → List Stage → System
last_state s [] = s
last_state s (x ∷ xs) = last_state x.next xs

-- the last count of these stages
abbrev pub last_end : (at : ℕ) → List Stage → ℕ
last_end at [] = at
last_end at (x ∷ xs) = last_end (end_of x) xs

pub linked_front : (at : ℕ) (s : System) (xs ys : List Stage) → Linked at s (xs ++ ys) → Linked at s xs
linked_front at s [] ys l = tt
linked_front at s (x ∷ xs) ys l = (l.0, l.1, linked_front (end_of x) x.next xs ys l.2)

pub linked_behind : (at : ℕ) (s : System) (xs ys : List Stage) → Linked at s (xs ++ ys) → Linked (last_end at xs) (last_state s xs) ys
linked_behind at s [] ys l = l
linked_behind at s (x ∷ xs) ys l = linked_behind (end_of x) x.next xs ys l.2

pub each_append : {X : Type 0} (P : X → Type 0) (xs ys : List X) → AllByRecursion P (xs ++ ys) → AllByRecursion P xs × AllByRecursion P ys
each_append P [] ys h = (tt, h)
each_append P (x ∷ xs) ys h = let both = each_append P xs ys h.1 in ((h.0, both.0), both.1)

pub each_joined : {X : Type 0} (P : X → Type 0) (xs ys : List X) → AllByRecursion P xs → AllByRecursion P ys → AllByRecursion P (xs ++ ys)
each_joined P [] ys h k = k
each_joined P (x ∷ xs) ys h k = (h.0, each_joined P xs ys h.1 k)

pub each_so : {X : Type 0} (P Q : X → Type 0) → ((x : X) → P x → Q x) → (xs : List X) → AllByRecursion P xs → AllByRecursion Q xs
each_so P Q f [] h = tt
each_so P Q f (x ∷ xs) h = (f x h.0, each_so P Q f xs h.1)

pub each_both : {X : Type 0} (P Q : X → Type 0) (xs : List X) → AllByRecursion P xs → AllByRecursion Q xs → AllByRecursion (λ x. P x × Q x) xs
each_both P Q [] h k = tt
each_both P Q (x ∷ xs) h k = ((h.0, k.0), each_both P Q xs h.1 k.1)

pub last_end-append : (at : ℕ) (xs ys : List Stage) → last_end at (xs ++ ys) ≡ last_end (last_end at xs) ys
last_end-append at [] ys = refl
last_end-append at (x ∷ xs) ys = last_end-append (end_of x) xs ys

pub last_state-append : (s : System) (xs ys : List Stage) → last_state s (xs ++ ys) ≡ last_state (last_state s xs) ys
last_state-append s [] ys = refl
last_state-append s (x ∷ xs) ys = last_state-append x.next xs ys

-- an event ends no later than what it is charged with
ends : (x : Stage) → end_of x ≤ x.start + charged x
ends x = by (is_admit x.stamped)
  where
    by : (b : Bool) → cond b x.start (x.stamped.stamp.at + 1) ≤ x.start + cond b 0 (x.stamped.stamp.at + 1 - x.start)
    by true = omega arith
    by false = omega arith

pub last_within : (at : ℕ) (s : System) (xs : List Stage) → Linked at s xs → last_end at xs ≤ at + total charged xs
last_within at s [] l = omega arith
last_within at s (x ∷ xs) l =
    let rest = last_within (end_of x) x.next xs l.2 in
    let here = ends x in
    let same = l.0 in
    omega (arith, rest, here, same)

-- ---- the stages of events that lead on

module _ (config : Config) (app : App) where
  pub behind_is : (e : Event) (s next : System) → OsekStep config app e s next → state_behind config app e s ≡ next
  unfolding state_behind
  behind_is e s next step = ap (state_or s) (step_is config app s next e step)

  pub stages_linked : (at : ℕ) (s : System) (events : List Stamped) → Linked at s (stages config app at s events)
  stages_linked at s [] = tt
  stages_linked at s (e ∷ events) =
      (refl, refl, stages_linked (end_of (stage config app at s e)) (state_behind config app e.event s) events)

  pub stages_known : Facts config app → (at : ℕ) (s end : System) (events : List Stamped) → Ordered config s → IsValid config app s → AreStepsTo config app events s end
      → AllByRecursion (Known config app) (stages config app at s events)
  stages_known w at s end [] o v leads = tt
  stages_known w at s end (e ∷ events) o v leads =
      let is = behind_is e.event s leads.0 leads.1 in
      let step : OsekStep config app e.event s (state_behind config app e.event s) = subst (OsekStep config app e.event s) (sym is) leads.1 in (
        record { step = step; ordered = o; valid = v },
        stages_known w (end_of (stage config app at s e)) (state_behind config app e.event s) end events
            (step_ordered config app s (state_behind config app e.event s) o e.event step)
            (step_valid config app e.event s (state_behind config app e.event s) w step v)
            (subst (λ x. AreStepsTo config app events x end) (sym is) leads.2),
      )

  pub stages-append : (at : ℕ) (s : System) (a b : List Stamped)
      → stages config app at s (a ++ b)
      ≡ stages config app at s a ++ stages config app (last_end at (stages config app at s a)) (last_state s (stages config app at s a)) b
  stages-append at s [] b = refl
  stages-append at s (e ∷ a) b =
      ap (λ xs. stage config app at s e ∷ xs) (stages-append (end_of (stage config app at s e)) (state_behind config app e.event s) a b)

  -- events that lead to a state have it behind them
  pub leads_to : (at : ℕ) (s end : System) (events : List Stamped) → AreStepsTo config app events s end → last_state s (stages config app at s events) ≡ end
  leads_to at s end [] leads = sym leads
  leads_to at s end (e ∷ events) leads =
      let is = behind_is e.event s leads.0 leads.1 in
      leads_to (end_of (stage config app at s e)) (state_behind config app e.event s) end events
      (subst (λ x. AreStepsTo config app events x end) (sym is) leads.2)
