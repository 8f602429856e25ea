-- What is known of each stage of a run that keeps the pace.
use Rattle.std.proofs.Common.{◌≡◌, ℕ, ◌≤◌, ◌⊎◌, [], true, cond, ap, subst, arith, inl, inr}
use Rattle.sloth_base.specs.declared.config.Config.{Config}
use Rattle.sloth_base.specs.declared.app.App.{App}
use Rattle.osek_scheduler.specs.State.{task}
use Rattle.osek_scheduler.specs.Valid.{InState}
use Rattle.osek_scheduler.specs.Apart.{IsActive}
use Rattle.osek_blocking.specs.Walks.{Position}
use Rattle.osek_blocking.proofs.Placed.{Placed}
use Rattle.osek_blocking.proofs.Reached.{IsReached}
use Rattle.walk_sums.specs.Weights.{going_at, ending_at}
use Rattle.walk_sums.specs.Rounds.{Reaches}
use Rattle.sim_induction.specs.Pace.{ItemSizes}
use Rattle.run_counts.specs.Stages.{Stage}
use Rattle.run_counts.specs.Laws.{IsWithinWeights}
use Rattle.response_laws.specs.Turns.{at_entry, in_turn, if_entry, activated, was_set}
use Rattle.response_laws.specs.Walked.{standing, FitsItem}
use Rattle.response_laws.specs.Makers.{activation_weights, setting_weights}
use Rattle.response_laws.proofs.Linked.{Known}
use Rattle.response_laws.proofs.RoundEnds.{no_acts, no_sets}
use Rattle.response_laws.proofs.Steps.{turn_active, active_declared}

-- where task t stands as the event comes
abbrev pub position : Stage → (t : ℕ) → Position
position x t = standing (task x.found t).frames

module _ (config : Config) (app : App) (size : ItemSizes) (longest : ℕ) where
  -- what is known of a stage
  pub record Seen (x : Stage) : Type 0 where
    pub known : Known config app x
    pub placed : Placed app x.found
    pub within : IsWithinWeights config app size longest x
    pub acts : (t j : ℕ) → FitsItem t (activated j) (going_at (activation_weights app t j)) (ending_at (activation_weights app t j)) x
    pub sets : (t j : ℕ) → FitsItem t (was_set j) (going_at (setting_weights app j)) (ending_at (setting_weights app j)) x

  module _ (x : Stage) (s : Seen x) where
    -- where a task in whose turn the event comes stands, a walk leads
    pub stands_reached : (t : ℕ) → in_turn t x ≡ true → Reaches app t (position x t)
    stands_reached t is = by (s.placed t)
      where
        active : IsActive x.found t
        active = turn_active config app t x s.known is

        by : ((task x.found t).frames ≡ []) ⊎ IsReached app t (position x t) → Reaches app t (position x t)
        by (inl empty) =
            absurd ((subst (InState config t (task x.found t)) active
            (s.known.valid.each t (active_declared config x.found t s.known.valid.count active)).in_state).0 empty)
        by (inr r) = (r.before, r.walk)

    -- an entry makes nothing
    pub entry_acts : (t j : ℕ) → at_entry t x ≡ true → activated j x ≤ 0
    entry_acts t j is =
        let zero = no_acts config app j x s.known t in
        let on : if_entry t (activated j) x ≡ activated j x = ap {B = ℕ} (λ b. cond b (activated j x) 0) is in
        omega (arith, zero, on)

    pub entry_sets : (t j : ℕ) → at_entry t x ≡ true → was_set j x ≤ 0
    entry_sets t j is =
        let zero = no_sets config app j x s.known t in
        let on : if_entry t (was_set j) x ≡ was_set j x = ap {B = ℕ} (λ b. cond b (was_set j x) 0) is in
        omega (arith, zero, on)
