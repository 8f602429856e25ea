-- From where a task becomes Ready lower tasks spend at most one item and a section.
use Rattle.std.proofs.Common.{◌≡◌, ◌∙◌, ℕ, ◌+◌, ◌<◌, ◌≤◌, ◌⊎◌, List, [], ◌∷◌, ◌++◌, length, refl, sym, subst, arith, inl, inr}
use Rattle.std.proofs.lemmas.List.{append_assoc}
use Rattle.sloth_base.specs.declared.config.Config.{Config}
use Rattle.sloth_base.specs.declared.app.App.{App}
use Rattle.sloth_base.specs.declared.service.Stamped.{Stamped}
use Rattle.osek_scheduler.specs.State.{System, opening}
use Rattle.osek_scheduler.specs.Runs.{AreStepsTo, OsekRun}
use Rattle.osek_scheduler.specs.Steps.{OsekStep}
use Rattle.osek_scheduler.specs.Valid.{IsValid}
use Rattle.osek_scheduler.proofs.Apart.{opening_apart}
use Rattle.osek_scheduler.proofs.Facts.{Facts, facts}
use Rattle.osek_scheduler.proofs.Leading.{leads-append, leads-parts, follows_leads, one_step, one_end}
use Rattle.osek_scheduler.proofs.Reached.{run_valid}
use Rattle.osek_scheduler.proofs.Steps.{step_valid, opening_valid}
use Rattle.osek_blocking.specs.Blocking.{events_up_to_entry, IsBlockedBy, MakesReady}
use Rattle.osek_blocking.proofs.Effects.{IsReady, Ordered}
use Rattle.osek_blocking.proofs.Once.{block_once}
use Rattle.osek_blocking.proofs.Ordering.{step_ordered, opening_ordered, leads_ordered}
use Rattle.osek_blocking.specs.Pace.{last_count}
use Rattle.osek_blocking.specs.Sections.{IsLower}
use Rattle.osek_blocking.specs.Kept.{lower_events}
use Rattle.osek_blocking.specs.Spent.{spent_counts}
use Rattle.osek_blocking.proofs.FrameEffects.{frame_effect, leads_placed}
use Rattle.osek_blocking.proofs.Placed.{Placed, step_placed, opening_placed}
use Rattle.bound_rules.specs.declared.bound.BodyWeights.{BodyWeights}
use Rattle.bound_rules.specs.Weights.{going_weight}
use Rattle.sim_induction.specs.Pace.{ItemSizes}
use Rattle.sim_induction.specs.Paced.{ArePacedTo, KeepsPace}
use Rattle.sim_induction.proofs.Pacing.{last-append}
use Rattle.run_counts.specs.Spending.{WeighsItems, NoSumIsAbove, RunsSpendOnLower, RunsSpendNothing}
use Rattle.run_counts.proofs.Lowers.{none_or_lower}
use Rattle.run_counts.proofs.Weighed.{spent_none}
use Rattle.run_counts.proofs.Summed.{at_most}

-- the events behind others are in pace, from the state that those lead to
pub paced_behind : (config : Config) (app : App) (size : ItemSizes) (longest n : ℕ) (events : List Stamped) → KeepsPace config app size longest n events
    → (before rest : List Stamped) (s end : System) → events ≡ before ++ rest → AreStepsTo config app before (opening config app) s → AreStepsTo config app rest s end
    → ArePacedTo config app size longest (last_count 0 before) rest s end
paced_behind config app size longest n events keeps before [] s end is led leads = leads
paced_behind config app size longest n events keeps before (e ∷ rest) s end is led leads = (
  leads.0,
  keeps.each before rest e s is led,
  leads.1,
  subst (λ at. ArePacedTo config app size longest at rest leads.0 end) (last-append 0 before (e ∷ []))
      (paced_behind config app size longest n events keeps (before ++ e ∷ []) rest leads.0 end (is ∙ sym (append_assoc before (e ∷ []) rest))
      (leads-append config app before (e ∷ []) (opening config app) s leads.0 led (leads.0, leads.1, refl)) leads.2),
)

module _ (config : Config) (app : App) (size : ItemSizes) (longest heaviest : ℕ) (weights : List BodyWeights) (weighs : WeighsItems app size weights)
    (heavy : (f i : ℕ) → going_weight weights f i ≤ heaviest) (w : Facts config app) (h most : ℕ) (none_above : NoSumIsAbove config app weights h most) where
  -- from the state behind the event that makes h Ready
  from_there : (at : ℕ) (s end : System) (behind : List Stamped) → h < length config.tasks → IsValid config app s → Ordered config s → Placed app s → IsReady s h
      → ArePacedTo config app size longest at behind s end → (l : ℕ) → IsBlockedBy config app h s (events_up_to_entry h behind) l
      → (lower_events config h (events_up_to_entry h behind) ≡ 0) ⊎ IsLower config h l → spent_counts config h at (events_up_to_entry h behind) ≤ heaviest + most
  from_there at s end behind declared v o p ready paced l k (inl none) = let e = spent_none config h at (events_up_to_entry h behind) none in omega (arith, e)
  from_there at s end behind declared v o p ready paced l k (inr lower) =
      at_most (record { facts = w; declared = declared; lower = lower }) size longest weights weighs most heaviest (none_above l lower) heavy behind at s end
      (record { valid = v; ordered = o; placed = p; ready = ready }) k paced

-- the events behind the one that makes a task Ready lead on from there
pub leads_behind : (config : Config) (app : App) (events : List Stamped) (run : OsekRun config app events) (before behind : List Stamped) (made : Stamped) (h : ℕ) (found s : System)
    → events ≡ before ++ made ∷ behind → AreStepsTo config app before (opening config app) found → MakesReady config app h made.event found s → AreStepsTo config app behind s run.0
leads_behind config app events run before behind made h found s is leads makes =
    let whole = follows_leads config app [] (opening config app) events run.0 run.1 in
    let parts = leads-parts config app before (made ∷ behind) (opening config app) run.0
    (subst (λ es. AreStepsTo config app es (opening config app) run.0) is whole) in
    let met = one_end config app before (opening config app) parts.0 found parts.1 leads in
    let step = subst (λ x. OsekStep config app made.event x parts.2.0) met parts.2.1 in
    let next = one_step config app made.event found parts.2.0 s step makes.step in
    subst (λ x. AreStepsTo config app behind x run.0) next parts.2.2

pub spends_on_lower : RunsSpendOnLower
spends_on_lower config app size longest n heaviest weights events wf run keeps weighs heavy before behind made h most found s is leads makes none_above =
    let w = facts config app wf in
    let blocked = block_once config app events run before behind made h found s is leads makes in
    let behind_leads = leads_behind config app events run before behind made h found s is leads makes in
    let valid = (run_valid config app w before (opening config app) found leads (opening_valid config app) (opening_apart config app)).0 in
    let ordered = leads_ordered config app before (opening config app) found (opening_ordered config app) leads in
    let placed = leads_placed config app w before (opening config app) found leads (opening_valid config app) (opening_placed config app) in
    let paced = paced_behind config app size longest n events keeps (before ++ made ∷ []) behind s run.0 (is ∙ sym (append_assoc before (made ∷ []) behind))
    (leads-append config app before (made ∷ []) (opening config app) found s leads (s, makes.step, refl)) behind_leads in
    from_there config app size longest heaviest weights weighs heavy w h most none_above (last_count 0 (before ++ made ∷ [])) s run.0 behind makes.declared
    (step_valid config app made.event found s w makes.step valid)
    (step_ordered config app found s ordered made.event makes.step)
    (step_placed config app found s made.event (frame_effect config app w found s valid made.event makes.step) placed)
    makes.behind paced blocked.0 blocked.1 (none_or_lower config app h blocked.0 behind s run.0 behind_leads blocked.1.of_one)

pub spends_nothing : RunsSpendNothing
spends_nothing config app events wf run before behind made h found s is leads makes nobody =
    let blocked = block_once config app events run before behind made h found s is leads makes in
    by blocked.0 (none_or_lower config app h blocked.0 behind s run.0 (leads_behind config app events run before behind made h found s is leads makes) blocked.1.of_one)
  where
    by : (l : ℕ) → (lower_events config h (events_up_to_entry h behind) ≡ 0) ⊎ IsLower config h l
        → spent_counts config h (last_count 0 (before ++ made ∷ [])) (events_up_to_entry h behind) ≡ 0
    by l (inl none) = spent_none config h (last_count 0 (before ++ made ∷ [])) (events_up_to_entry h behind) none
    by l (inr lower) = absurd (nobody l lower)
