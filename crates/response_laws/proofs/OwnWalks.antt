-- The own counts of a round are within the walks of the task code, with no item in front of the entries and ticks that preempt it.
use Rattle.std.proofs.Common.{◌≡◌, ℕ, ◌+◌, ◌<◌, ◌≤◌, ◌⊎◌, List, [], ◌∷◌, ◌++◌, Bool, true, false, cond, length, subst, arith, inl, inr}
use Rattle.std.specs.Prelude.{IfSome}
use Rattle.std.specs.List.{AllByRecursion}
use Rattle.sloth_base.specs.declared.config.Config.{Config}
use Rattle.sloth_base.specs.declared.app.App.{App}
use Rattle.sloth_base.specs.declared.service.Arrival.{Arrival}
use Rattle.sloth_base.specs.declared.service.Stamped.{Stamped}
use Rattle.code_rules.specs.WellFormed.{WellFormed}
use Rattle.load_text.specs.declared.load_line.Entry.{Entry}
use Rattle.osek_scheduler.specs.State.{Frame, task, opening}
use Rattle.osek_scheduler.specs.InTime.{InTime}
use Rattle.osek_scheduler.specs.Runs.{OsekRun}
use Rattle.osek_scheduler.specs.Valid.{AreCalls}
use Rattle.osek_scheduler.proofs.Facts.{facts}
use Rattle.osek_scheduler.proofs.Leading.{follows_leads}
use Rattle.osek_scheduler.proofs.Steps.{opening_valid}
use Rattle.osek_blocking.proofs.Ordering.{opening_ordered}
use Rattle.bound_rules.specs.declared.bound.BodyWeights.{BodyWeights}
use Rattle.walk_sums.specs.Weights.{going_at, ending_at}
use Rattle.sim_induction.specs.Pace.{ItemSizes, next_size}
use Rattle.sim_induction.specs.Spent.{SpendsOnItems}
use Rattle.run_counts.specs.Spending.{WeighsItems}
use Rattle.run_counts.specs.Stages.{Stage, end_of, own, run_stages}
use Rattle.run_counts.specs.Rounds.{opens_round, round_of, total, weight_of, WeighsEndings}
use Rattle.run_counts.specs.OwnCounts.{left_begun}
use Rattle.run_counts.proofs.OwnItems.{own_items_of}
use Rattle.response_laws.specs.Shares.{share_of}
use Rattle.response_laws.specs.Turns.{begins_first, begins_next, round_behind}
use Rattle.response_laws.specs.SoundRuns.{KeepsWork, WorksWithin}
use Rattle.response_laws.specs.Walked.{standing, FitsBegun, FirstRoundsSum, LaterRoundsSum}
use Rattle.response_laws.proofs.Executed.{executed_by, all_weigh, lighter}
use Rattle.response_laws.proofs.Linked.{Known, Linked, linked_behind, each_append, each_so, stages_linked, stages_known}
use Rattle.response_laws.proofs.OwnShares.{own_within_round}
use Rattle.response_laws.proofs.Walked.{rounds_follow_on}

module _ (config : Config) (app : App) (size : ItemSizes) (longest n : ℕ) (weights : List BodyWeights) (load : List Entry) (arrivals : List Arrival) (events : List Stamped)
    (cuts : ℕ → Bool) (wf : WellFormed config app) (osek : OsekRun config app events) (timed : InTime config n arrivals events)
    (weighs : WeighsItems app size weights) (ends : WeighsEndings app size weights) (works : KeepsWork config load cuts (run_stages config app events))
    (t : ℕ) (declared : t < length config.tasks) (spends : SpendsOnItems config app size longest t events) where
  abbrev run : List Stage
  run = run_stages config app events

  known : AllByRecursion (Known config app) run
  known =
      stages_known config app (facts config app wf) 0 (opening config app) osek.0 events (opening_ordered config app) (opening_valid config app)
      (follows_leads config app [] (opening config app) events osek.0 osek.1)

  -- the item at which a task stands weighs at least its instructions where a walk may end with it
  begun_fits : (x : Stage) → Known config app x → FitsBegun config size t (ending_at weights) x
  begun_fits x k preempted = by (task x.found t).owed (task x.found t).frames (k.valid.each t declared).calls
    where
      by : (b : Bool) (fs : List Frame) → AreCalls app t fs → cond b 0 (next_size size fs) ≤ ending_at weights (standing fs)
      by true fs calls = omega arith
      by false [] calls = omega arith
      by false (frame ∷ outer) calls = let le = ends.item frame.func frame.item calls.0.inside in omega (arith, le)

  all_begun : AllByRecursion (FitsBegun config size t (ending_at weights)) run
  all_begun = each_so (Known config app) (FitsBegun config size t (ending_at weights)) begun_fits run known

  module _ (before behind : List Stage) (opens : Stage) (is : run ≡ before ++ opens ∷ behind) where
    -- the shares of the round are among its own counts
    shorter : total (share_of config t) (round_behind (cuts t) t behind) ≤ total (own config t) (round_of (cuts t) t behind)
    shorter =
        let linked = (linked_behind 0 (opening config app) before (opens ∷ behind) (subst (Linked 0 (opening config app)) is (stages_linked config app 0 (opening config app) events))).2 in
        let ks = (each_append (Known config app) before (opens ∷ behind) (subst (AllByRecursion (Known config app)) is known)).1.1 in
        own_within_round config app t (facts config app wf) (cuts t) (end_of opens) opens.next behind linked ks

    weighed : opens_round (cuts t) t opens.stamped.event ≡ true
        → total (own config t) (round_of (cuts t) t behind)
        ≤ total (weight_of weights t) (round_of (cuts t) t behind) + left_begun config size t 0 (round_of (cuts t) t behind)
    weighed begun = own_items_of config app size longest n t (cuts t) weights arrivals events wf osek timed spends weighs ends before behind opens is begun

    by_load : (counts : ℕ) → opens_round (cuts t) t opens.stamped.event ≡ true → WorksWithin load t counts
        → total (own config t) (round_of (cuts t) t behind) ≤ counts
    by_load counts begun (most, said, le) =
        let all = subst (λ o. IfSome o (λ counts. (before behind : List Stage) (opens : Stage) → run ≡ before ++ opens ∷ behind
        → opens_round (cuts t) t opens.stamped.event ≡ true → total (own config t) (round_of (cuts t) t behind) ≤ counts)) said (works t) in
        let few = all before behind opens is begun in
        omega (arith, few, le)

    -- the counts of a first round, by the load or by walks
    pub own_first : (counts : ℕ) → WorksWithin load t counts ⊎ FirstRoundsSum app (cuts t) t weights counts
        → begins_first t opens ≡ true → opens_round (cuts t) t opens.stamped.event ≡ true
        → total (share_of config t) (round_behind (cuts t) t behind) ≤ counts
    own_first counts (inl load) begins begun = let few = by_load counts begun load in let less = shorter in omega (arith, few, less)
    own_first counts (inr walks) begins begun =
        let few = (rounds_follow_on config app events t (cuts t) (executed_by weights) (going_at weights) (ending_at weights) size wf osek (all_weigh weights t run) all_begun
        (lighter weights weighs.no_lighter) before behind opens is).0 counts walks begins in
        let spent = weighed begun in
        let less = shorter in
        omega (arith, few, spent, less)

    -- of one behind a WaitEvent
    pub own_next : (counts : ℕ) → WorksWithin load t counts ⊎ LaterRoundsSum app (cuts t) t weights counts
        → begins_next (cuts t) t opens ≡ true → opens_round (cuts t) t opens.stamped.event ≡ true
        → total (share_of config t) (round_behind (cuts t) t behind) ≤ counts
    own_next counts (inl load) begins begun = let few = by_load counts begun load in let less = shorter in omega (arith, few, less)
    own_next counts (inr walks) begins begun =
        let few = (rounds_follow_on config app events t (cuts t) (executed_by weights) (going_at weights) (ending_at weights) size wf osek (all_weigh weights t run) all_begun
        (lighter weights weighs.no_lighter) before behind opens is).1 counts walks begins in
        let spent = weighed begun in
        let less = shorter in
        omega (arith, few, spent, less)
