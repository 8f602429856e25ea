-- What lower tasks bring into busy periods is within the starts that the task code fits.
use Rattle.std.proofs.Common.{◌≡◌, ℕ, ◌+◌, ◌<◌, ◌≤◌, ◌⊎◌, List, [], ◌∷◌, Bool, true, false, cond, length, refl, sym, ap, subst, arith, is_some}
use Rattle.std.specs.List.{AllByRecursion}
use Rattle.sloth_base.specs.Events.{is_boot, served_task}
use Rattle.osek_scheduler.specs.declared.state.TaskState.TheVariants as mode
use Rattle.osek_scheduler.specs.State.{System, opening, task}
use Rattle.osek_blocking.specs.Sections.{IsLower}
use Rattle.osek_scheduler.proofs.Facts.{Facts, facts}
use Rattle.osek_scheduler.proofs.Leading.{follows_leads}
use Rattle.osek_scheduler.proofs.Steps.{opening_valid, asleep_at}
use Rattle.osek_blocking.proofs.Ordering.{opening_ordered}
use Rattle.osek_blocking.proofs.FrameEffects.{frame_effect}
use Rattle.osek_blocking.proofs.Placed.{Placed, step_placed, opening_placed}
use Rattle.walk_sums.specs.Weights.{going_at, ending_at}
use Rattle.run_counts.specs.Stages.{Stage, charged, end_of, run_stages}
use Rattle.run_counts.specs.Laws.{IsWithinWeights}
use Rattle.run_counts.specs.Rounds.{is_left}
use Rattle.run_counts.proofs.States.{not_suspended}
use Rattle.response_laws.specs.Turns.{at_entry, is_other, begins_first, begins_next, activated, was_set}
use Rattle.response_laws.specs.Bounded.{EachOf}
use Rattle.response_laws.specs.Walked.{FitsItem, FirstRoundsSum, LaterRoundsSum}
use Rattle.response_laws.specs.Works.{WorksWithin}
use Rattle.response_laws.specs.Makers.{activation_weights, setting_weights}
use Rattle.response_laws.specs.Starts.{IsWithinStart, SomeIsWithin, begun_item}
use Rattle.response_laws.specs.CodeStarts.{CodeFitsStarts}
use Rattle.response_laws.proofs.Linked.{Known, Linked, each_so, each_both, stages_linked, stages_known}
use Rattle.response_laws.proofs.Making.{items_activate, items_set}
use Rattle.response_laws.proofs.LowerSpending.{spent_in, lower_spend}
use Rattle.response_laws.specs.Never.{OthersSleep}
use Rattle.response_laws.specs.Shares.{share_of, LowerSpendWithin}
use Rattle.response_laws.specs.Starts.{IsSectionWithin}
use Rattle.response_laws.proofs.Absent.{at_most, absent_within}
use Rattle.response_laws.proofs.OwnWalks.{own_first, own_next}
use Rattle.response_laws.proofs.RoundEnds.{rounds_make_within}
use Rattle.response_laws.proofs.RoundSums.{first_opens, next_opens}
use Rattle.response_laws.proofs.Seen.{Seen}
use Rattle.response_laws.proofs.SingleStarts.{within_one, within_served, within_leaving}
use Rattle.response_laws.proofs.SectionStarts.{sections_within}

-- ---- a run

pub code_fits_starts : CodeFitsStarts
code_fits_starts config app size longest late n weights load cuts comes arrivals events h once starts start wf osek timed most spends within weighs ends sleeps works fits = record {
  some = fits.some;
  opens = each_so Awaken
      (λ x. is_other config h x ≡ true → (i : ℕ) × (i < starts) × ((start i).is_boot ≡ true → is_boot x.stamped.event ≡ true) × IsWithinStart config h (begun_item longest (start i)) late (start i) x)
      (λ x s. within_one config app w size longest weights weighs ends h late once starts start load cuts comes fits x s.0 s.1) (run_stages config app events) awaken;
  serves = each_so Awaken
      (λ x. is_other config h x ≡ true → is_some (served_task x.stamped.event) ≡ true → SomeIsWithin config h starts start (charged x + longest) 0 x)
      (λ x s. within_served config app w size longest weights weighs ends h late once starts start load cuts comes fits x s.0 s.1) (run_stages config app events) awaken;
  leaves = λ on. each_so Awaken
      (λ x. is_left h x.stamped.event ≡ true → SomeIsWithin config h starts start longest late x × SomeIsWithin config h starts start (charged x + longest) 0 x)
      (λ x s. within_leaving config app w size longest weights weighs ends h late once starts start load cuts comes fits x s.0 s.1 on) (run_stages config app events) awaken;
  section = λ b lower raised. section_of b lower raised (comes b) refl;
}
  where
    w : Facts config app
    w = facts config app wf

    run : List Stage
    run = run_stages config app events

    few : LowerSpendWithin config h longest run
    few = lower_spend config app size longest n h arrivals events wf osek timed most spends

    known : AllByRecursion (Known config app) (run_stages config app events)
    known =
        stages_known config app w 0 (opening config app) osek.0 events (opening_ordered config app) (opening_valid config app)
        (follows_leads config app [] (opening config app) events osek.0 osek.1)

    all_seen : (at : ℕ) (st : System) (xs : List Stage) → Linked at st xs → AllByRecursion (Known config app) xs → Placed app st
        → AllByRecursion (IsWithinWeights config app size longest) xs
        → ((t j : ℕ) → AllByRecursion (FitsItem t (activated j) (going_at (activation_weights app t j)) (ending_at (activation_weights app t j))) xs)
        → ((t j : ℕ) → AllByRecursion (FitsItem t (was_set j) (going_at (setting_weights app j)) (ending_at (setting_weights app j))) xs) → AllByRecursion (Seen config app size longest) xs
    all_seen at st [] l k placed charges acts sets = tt
    all_seen at st (x ∷ xs) l k placed charges acts sets =
        let here : Placed app x.found = subst (Placed app) (sym l.1) placed in
        let next = step_placed config app x.found x.next x.stamped.event (frame_effect config app w x.found x.next k.0.valid x.stamped.event k.0.step) here in (
          record { known = k.0; placed = here; within = charges.0; acts = λ t j. (acts t j).0; sets = λ t j. (sets t j).0 },
          all_seen (end_of x) x.next xs l.2 k.1 next charges.1 (λ t j. (acts t j).1) (λ t j. (sets t j).1),
        )

    seen : AllByRecursion (Seen config app size longest) (run_stages config app events)
    seen =
        all_seen 0 (opening config app) (run_stages config app events) (stages_linked config app 0 (opening config app) events) known (opening_placed config app) within
        (λ t j. items_activate config app events t j wf osek) (λ t j. items_set config app events t j wf osek)

    Awaken : Stage → Type 0
    Awaken x = Seen config app size longest x × OthersSleep comes x.found

    awaken : AllByRecursion Awaken run
    awaken = each_both (Seen config app size longest) (λ x. OthersSleep comes x.found) run seen sleeps

    no_entry_counts : (e : Bool) → ◌≡◌ {A = ℕ} (cond e 0 0) 0
    no_entry_counts true = refl
    no_entry_counts false = refl

    -- the counts of rounds of a task whose turns WaitEvents cut
    first_of : (b : ℕ) → b < length config.tasks → cuts b ≡ true → (m : ℕ) → WorksWithin load b m ⊎ FirstRoundsSum app true b weights m
        → EachOf run true b (begins_first b) (λ x. 0) (share_of config b) m
    first_of b lt cut m =
        subst (λ c. WorksWithin load b m ⊎ FirstRoundsSum app c b weights m → EachOf run c b (begins_first b) (λ x. 0) (share_of config b) m) cut
        (λ takes before behind opens is begun.
        let le = own_first config app size longest n weights load arrivals events cuts wf osek timed weighs ends works b lt (spends b lt) before behind opens is m takes begun (first_opens (cuts b) b opens begun) in
        let none = no_entry_counts (at_entry b opens) in
        omega (arith, le, none))

    next_of : (b : ℕ) → b < length config.tasks → cuts b ≡ true → (m : ℕ) → WorksWithin load b m ⊎ LaterRoundsSum app true b weights m
        → EachOf run true b (begins_next true b) (λ x. 0) (share_of config b) m
    next_of b lt cut m =
        subst (λ c. WorksWithin load b m ⊎ LaterRoundsSum app c b weights m → EachOf run c b (begins_next c b) (λ x. 0) (share_of config b) m) cut
        (λ takes before behind opens is begun.
        let le = own_next config app size longest n weights load arrivals events cuts wf osek timed weighs ends works b lt (spends b lt) before behind opens is m takes begun (next_opens (cuts b) b opens begun) in
        let none = no_entry_counts (at_entry b opens) in
        omega (arith, le, none))

    -- the section of a task that never comes has none of its events
    section_of : (b : ℕ) → IsLower config h b → (raised c : Bool) → comes b ≡ c
        → (i : ℕ) × (i < starts) × ((start i).is_boot ≡ false) × (cond raised late 0 ≤ (start i).lead) × IsSectionWithin config h run b raised (start i)
    section_of b lower raised true is =
        let s = fits.sections b lower is raised in (
          s.0,
          s.1,
          s.2,
          s.3,
          sections_within config app w size longest weights weighs ends h b lower run (opening config app)
              (stages_linked config app 0 (opening config app) events) seen (λ before xs behind is. spent_in config app size longest n b arrivals events wf osek timed (spends b lower.0) before xs behind is)
              few load cuts works (λ active. not_suspended (task (opening config app) b).state active (ap (λ k. k.state) (asleep_at config.tasks b)))
              (λ j most. rounds_make_within config app events b j true most wf osek) (first_of b lower.0) (next_of b lower.0) raised (start s.0) s.4,
        )
    section_of b lower raised false is =
        let s = fits.some in (
          s.0,
          s.1,
          s.2,
          (let le = s.4 in let part = at_most raised late in omega (arith, le, part)),
          absent_within config app h b longest run few known (each_so (λ x. OthersSleep comes x.found) (λ x. (task x.found b).state ≡ mode.Suspended) (λ x others. others b is) run sleeps) raised (start s.0) s.3,
        )
