-- What a round has up to its end, and that entries make nothing.
use Rattle.std.proofs.Common.{◌≡◌, ℕ, ◌+◌, ◌≤◌, ◌==◌, List, [], ◌∷◌, ◌++◌, Bool, true, false, cond, refl, sym, ap, ◌∙◌, subst, arith}
use Rattle.std.specs.List.{AllByRecursion}
use Rattle.std.proofs.lemmas.Bool.{false≢true}
use Rattle.sloth_base.specs.declared.config.Config.{Config}
use Rattle.sloth_base.specs.declared.app.App.{App}
use Rattle.sloth_base.specs.declared.service.Event.{Event}
use Rattle.sloth_base.specs.declared.service.Event.TheVariants as event
use Rattle.sloth_base.specs.declared.service.Stamped.{Stamped}
use Rattle.sloth_base.specs.Named.{declaration}
use Rattle.code_rules.specs.WellFormed.{WellFormed}
use Rattle.osek_scheduler.specs.declared.state.TaskState.TheVariants as mode
use Rattle.osek_scheduler.specs.State.{Frame, Task, System, task, opening}
use Rattle.osek_scheduler.specs.Next.{is_ready}
use Rattle.osek_scheduler.specs.Services.{started_task}
use Rattle.osek_scheduler.specs.Steps.{OsekStep}
use Rattle.osek_scheduler.specs.Runs.{OsekRun}
use Rattle.osek_scheduler.proofs.Apart.{at_task}
use Rattle.osek_scheduler.proofs.Facts.{Facts, facts}
use Rattle.osek_scheduler.proofs.Leading.{follows_leads}
use Rattle.osek_scheduler.proofs.Steps.{opening_valid}
use Rattle.osek_blocking.proofs.Ordering.{opening_ordered}
use Rattle.walk_sums.specs.Weights.{going_at, ending_at}
use Rattle.walk_sums.specs.declared.counted.Counted.{Counted}
use Rattle.walk_sums.specs.declared.counted.Counted.TheVariants as counts
use Rattle.walk_sums.specs.Counted.{counted_weights}
use Rattle.run_counts.specs.Stages.{Stage, end_of, is_entry, run_stages}
use Rattle.run_counts.specs.Rounds.{round_of, total}
use Rattle.response_laws.specs.Turns.{at_entry, round_behind, if_turn, if_entry, activated, was_set}
use Rattle.response_laws.specs.Bounded.{EachFirst, EachNext}
use Rattle.response_laws.specs.Walked.{FirstRoundsSum, LaterRoundsSum, FitsItem}
use Rattle.response_laws.specs.Makers.{RoundsMakeWithin}
use Rattle.response_laws.proofs.Counting.{counted_lighter}
use Rattle.response_laws.proofs.Linked.{Known, Linked, linked_behind, each_append, stages_linked, stages_known}
use Rattle.response_laws.proofs.Shares as shares
pub use Rattle.response_laws.proofs.Shares.{left_inactive}
use Rattle.response_laws.proofs.RoundSums.{turn_rests}
use Rattle.response_laws.proofs.Steps.{activated_between, set_between, not_activated, not_set}
use Rattle.response_laws.proofs.Walked.{rounds_follow_walks}
use Rattle.response_laws.proofs.Making.{unready_acts, unready_sets, items_activate, items_set}

-- up to where the next round begins a task has no more than up to where the round ends
pub within_round : (config : Config) (app : App) → Facts config app → (cuts : Bool) (t : ℕ) (f : Stage → ℕ) (at : ℕ) (s : System) (xs : List Stage) → Linked at s xs
    → AllByRecursion (Known config app) xs → total (if_turn t f) (round_behind cuts t xs) ≤ total (if_turn t f) (round_of cuts t xs)
within_round config app w cuts t f = shares.within_round cuts t f (if_turn t f) config app w (turn_rests t f config app)

-- an entry makes no task Ready and sets no event
module _ (config : Config) (app : App) (j : ℕ) (x : Stage) (k : Known config app x) where
  entered_none : (number : Task → Task → ℕ) → ((old : Task) → number old old ≡ 0)
      → ((new : Task) → new.state ≡ mode.Active → new.events ≡ (task x.found j).events → number (task x.found j) new ≡ 0)
      → (e : Event) → OsekStep config app e x.found x.next → (t : ℕ) → is_entry t e ≡ true → number (task x.found j) (task x.next j) ≡ 0
  entered_none number same alike (event.Enter u) step t is =
      subst (λ (y : System). number (task x.found j) (task y j) ≡ 0) (sym step.4)
      (at_task x.found u j (record (started_task app u (task x.found u).frames (task x.found u)) { state = mode.Active; raised = (declaration config u).non })
      (λ new. number (task x.found j) new ≡ 0) (same (task x.found j))
      (λ e. alike (record (started_task app u (task x.found u).frames (task x.found u)) { state = mode.Active; raised = (declaration config u).non }) refl
      (kept_events (task x.found u).frames (task x.found u) ∙ ap (λ v. (task x.found v).events) (sym e))))
    where
      kept_events : (fs : List Frame) (own : Task) → (started_task app u fs own).events ≡ own.events
      kept_events [] own = refl
      kept_events (frame ∷ outer) own = refl
  entered_none number same alike e step t is = absurd (false≢true is)

  pub no_acts : (t : ℕ) → if_entry t (activated j) x ≡ 0
  no_acts t = by (at_entry t x) refl
    where
      by : (b : Bool) → at_entry t x ≡ b → ◌≡◌ {A = ℕ} (cond b (activated j x) 0) 0
      by true is =
          entered_none activated_between not_activated (λ new state events. unready_acts (task x.found j) new (ap is_ready state)) x.stamped.event k.step t is
      by false other = refl

  pub no_sets : (t : ℕ) → if_entry t (was_set j) x ≡ 0
  no_sets t = by (at_entry t x) refl
    where
      by : (b : Bool) → at_entry t x ≡ b → ◌≡◌ {A = ℕ} (cond b (was_set j x) 0) 0
      by true is =
          entered_none set_between not_set (λ new state events. unready_sets (task x.found j) new (ap is_ready state) (omega (arith, events)))
          x.stamped.event k.step t is
      by false other = refl

-- ---- what rounds make

module _ (config : Config) (app : App) (events : List Stamped) (k j : ℕ) (cuts : Bool) (wf : WellFormed config app) (osek : OsekRun config app events) where
  abbrev run : List Stage
  run = run_stages config app events

  known : AllByRecursion (Known config app) run
  known =
      stages_known config app (facts config app wf) 0 (opening config app) osek.0 events (opening_ordered config app) (opening_valid config app)
      (follows_leads config app [] (opening config app) events osek.0 osek.1)

  module _ (f : Stage → ℕ) (c : Counted)
      (fits : AllByRecursion (FitsItem k f (going_at (counted_weights c app)) (ending_at (counted_weights c app))) run)
      (none : (x : Stage) → Known config app x → if_entry k f x ≡ 0) where
    shorter : (before behind : List Stage) (opens : Stage) → run ≡ before ++ opens ∷ behind
        → if_entry k f opens + total (if_turn k f) (round_behind cuts k behind) ≤ total (if_turn k f) (round_of cuts k behind)
    shorter before behind opens is =
        let linked = (linked_behind 0 (opening config app) before (opens ∷ behind) (subst (Linked 0 (opening config app)) is (stages_linked config app 0 (opening config app) events))).2 in
        let ks = (each_append (Known config app) before (opens ∷ behind) (subst (AllByRecursion (Known config app)) is known)).1 in
        let le = within_round config app (facts config app wf) cuts k f (end_of opens) opens.next behind linked ks.1 in
        let zero = none opens ks.0 in
        omega (arith, le, zero)

    firsts : (most : ℕ) → FirstRoundsSum app cuts k (counted_weights c app) most → EachFirst run cuts k f most
    firsts most bound before behind opens is begun =
        let le = (rounds_follow_walks config app events k cuts f (going_at (counted_weights c app)) (ending_at (counted_weights c app)) wf osek fits (counted_lighter c app) before behind opens is).0 most bound begun in
        let few = shorter before behind opens is in
        omega (arith, le, few)

    nexts : (most : ℕ) → LaterRoundsSum app cuts k (counted_weights c app) most → EachNext run cuts k f most
    nexts most bound before behind opens is begun =
        let le = (rounds_follow_walks config app events k cuts f (going_at (counted_weights c app)) (ending_at (counted_weights c app)) wf osek fits (counted_lighter c app) before behind opens is).1 most bound begun in
        let few = shorter before behind opens is in
        omega (arith, le, few)

pub rounds_make_within : RoundsMakeWithin
rounds_make_within config app events k j cuts most wf osek = record {
  first_acts = firsts config app events k j cuts wf osek (activated j) (cond (k == j) (counts.Chains j) (counts.Activations j)) (items_activate config app events k j wf osek)
      (λ x known. no_acts config app j x known k) most;
  next_acts = nexts config app events k j cuts wf osek (activated j) (cond (k == j) (counts.Chains j) (counts.Activations j)) (items_activate config app events k j wf osek)
      (λ x known. no_acts config app j x known k) most;
  first_sets = firsts config app events k j cuts wf osek (was_set j) (counts.Settings j) (items_set config app events k j wf osek)
      (λ x known. no_sets config app j x known k) most;
  next_sets = nexts config app events k j cuts wf osek (was_set j) (counts.Settings j) (items_set config app events k j wf osek)
      (λ x known. no_sets config app j x known k) most;
}
