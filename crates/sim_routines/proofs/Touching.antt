-- What a service touches are lines of tasks.
use Rattle.std.proofs.Common.{◌≡◌, ℕ, ◌<◌, List, [], ◌∷◌, length, sym, subst, ⊎_elim}
use Rattle.sloth_base.specs.Owners.{owners_in, AreTasks}
use Rattle.service_gen.specs.ChainTask.{ChainTaskEffect, HasChained, HasNotChained}
use Rattle.service_gen.specs.GetTaskState.{IsStateNumber, GetTaskStateEffect}
use Rattle.service_gen.specs.GetTaskState.IsStateNumber.{running, preempted, waiting, ready, suspended}
use Rattle.sim_relation.specs.Build.{Build}
use Rattle.sim_routines.proofs.ServiceLaws.{TouchesTasks}

module _ (b : Build) where
  -- a service that touches no line
  pub touches_none : (touched : List ℕ) → touched ≡ [] → AreTasks (owners_in b.config) touched
  touches_none touched e = subst (AreTasks (owners_in b.config)) (sym e) tt

  -- one that touches the line of a task
  pub touches_one : (t : ℕ) (touched : List ℕ) → t < length b.config.tasks → touched ≡ t ∷ [] → AreTasks (owners_in b.config) touched
  touches_one t touched l e = subst (AreTasks (owners_in b.config)) (sym e) (l, tt)

  touches_two : (t u : ℕ) (touched : List ℕ) → t < length b.config.tasks → u < length b.config.tasks → touched ≡ t ∷ u ∷ [] → AreTasks (owners_in b.config) touched
  touches_two t u touched l m e = subst (AreTasks (owners_in b.config)) (sym e) (l, (m, tt))

  -- ChainTask touches the lines of its caller and of the chained task
  pub chain_touches : (t own place : ℕ) → t < length b.config.tasks → own < length b.config.tasks → TouchesTasks b (ChainTaskEffect t own place)
  chain_touches t own place l m touched start end effect =
      ⊎_elim
      (λ (h : HasChained t own place touched start end).
      ⊎_elim (λ h. touches_one own touched m h.1) (λ h. touches_two t own touched l m h.2) h.may)
      (λ (h : HasNotChained t own touched start end). touches_one t touched l h.touches)
      effect

  -- GetTaskState touches the line of the task that is asked for, or none
  pub state_touches : (t own : ℕ) → t < length b.config.tasks → TouchesTasks b (GetTaskStateEffect t own)
  state_touches t own l touched start end effect = by effect.number
    where
      by : {number : ℕ} → IsStateNumber t own start.core touched number → AreTasks (owners_in b.config) touched
      by (running a is e n) = touches_none touched e
      by (preempted a is e n) = touches_none touched e
      by (waiting a is e n) = touches_none touched e
      by (ready a en p e n) = touches_one t touched l e
      by (suspended looks e n) = touches_one t touched l e
