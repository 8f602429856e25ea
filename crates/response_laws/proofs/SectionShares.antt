-- What lower tasks have of the counts of a section, with the pieces of its items in front of entries and ticks: the items of a part of a walk, and one item.
use Rattle.std.proofs.Common.{◌≡◌, ℕ, ◌+◌, ◌≤◌, ◌⊎◌, List, [], ◌∷◌, ◌++◌, Bool, true, false, cond, is_some, refl, sym, ap, ◌∙◌, subst, arith, inl, inr, append_assoc}
use Rattle.std.specs.List.{AllByRecursion}
use Rattle.std.proofs.lemmas.Bool.{cases_Bool, true≢false, false≢true, eqb-true}
use Rattle.sloth_base.specs.declared.config.Config.{Config}
use Rattle.sloth_base.specs.declared.app.App.{App}
use Rattle.sloth_base.specs.declared.service.Event.{Event}
use Rattle.sloth_base.specs.declared.service.Event.TheVariants as event
use Rattle.sloth_base.specs.Events.{is_boot, admitted_line}
use Rattle.osek_scheduler.specs.State.{Frame, System, task}
use Rattle.osek_scheduler.specs.InTime.{is_admit}
use Rattle.osek_scheduler.specs.Steps.{OsekStep}
use Rattle.osek_scheduler.specs.Valid.{AreCalls}
use Rattle.osek_scheduler.proofs.Facts.{Facts}
use Rattle.osek_blocking.proofs.Once.{Blocks}
use Rattle.osek_blocking.specs.Walks.{Position}
use Rattle.osek_blocking.specs.Sections.{IsSection, IsLower}
use Rattle.osek_blocking.proofs.FrameEffects.{frame_effect}
use Rattle.osek_blocking.proofs.Placed.{Placed, step_placed}
use Rattle.bound_rules.specs.declared.bound.BodyWeights.{BodyWeights}
use Rattle.walk_sums.specs.Weights.{going_at, ending_at}
use Rattle.sim_induction.specs.Pace.{ItemSizes, next_size, paced_counts}
use Rattle.sim_induction.specs.Spent.{spent_behind}
use Rattle.sim_induction.proofs.Spending.{none_left}
use Rattle.run_counts.specs.Stages.{Stage, charged, own, end_of}
use Rattle.run_counts.specs.Spending.{WeighsItems}
use Rattle.run_counts.specs.Rounds.{is_left, next_ending, total, WeighsEndings}
use Rattle.run_counts.specs.OwnCounts.{is_preempted, begun}
use Rattle.run_counts.proofs.Rounded.{left_fits}
use Rattle.run_counts.proofs.SpentStages.{IsSpent, AreSpent, turn_fits, goes_on}
use Rattle.run_counts.proofs.Weighed.{event_fits}
use Rattle.response_laws.specs.Sums.{count}
use Rattle.response_laws.specs.Turns.{is_other}
use Rattle.response_laws.specs.Walked.{standing, weigh, is_executed}
use Rattle.response_laws.specs.Shares.{lower_own, lower_counts, LowerSpendWithin}
use Rattle.response_laws.specs.Starts.{IsRaisedTurn, InSection}
use Rattle.response_laws.proofs.Linked.{Known, Linked}
use Rattle.response_laws.proofs.Blocking.{blocks_or_not}
use Rattle.response_laws.proofs.LowerSpending.{own_where_none, no_turn, no_entry, blocker_runs}
use Rattle.response_laws.proofs.RoundEnds.{left_inactive}
use Rattle.response_laws.proofs.SectionWalks.{Turn, executes, leaves, returns, turn, rests, free, Found, nothing, in_front, last, kept, found_within}
use Rattle.response_laws.proofs.SectionEnds.{none_follow}

-- ---- what an event has is within the item that it executes

module _ (config : Config) (app : App) (w : Facts config app) (size : ItemSizes) (longest : ℕ) (weights : List BodyWeights) (weighs : WeighsItems app size weights)
    (ends : WeighsEndings app size weights) where
  pub lighter : (at : Position) → going_at weights at ≤ ending_at weights at
  lighter [] = omega arith
  lighter (here ∷ outer) = weighs.no_lighter here.func here.item

  -- so many counts are within what the event may take
  abbrev pub IsPaced : (counts : ℕ) → System → Event → Type 0
  IsPaced counts s e = is_some (admitted_line e) ≡ false → is_boot e ≡ false → counts ≤ paced_counts config app size longest s e

  module _ (counts : ℕ) (s next : System) where
    pub executed_fits : (e : Event) (t : ℕ) → OsekStep config app e s next → IsPaced counts s e → is_executed t e ≡ true
        → counts ≤ going_at weights (standing (task s t).frames)
    executed_fits (event.Run u func item result) t step paced is =
        let le = paced refl refl in
        let fits = event_fits config app size longest weights weighs (event.Run u func item result) s next u step refl in
        subst (λ v. counts ≤ going_at weights (standing (task s v).frames)) (eqb-true u t is) (omega (arith, le, fits))
    executed_fits (event.Call u served status) t step paced is =
        let le = paced refl refl in
        let fits = event_fits config app size longest weights weighs (event.Call u served status) s next u step refl in
        subst (λ v. counts ≤ going_at weights (standing (task s v).frames)) (eqb-true u t is) (omega (arith, le, fits))
    executed_fits e t step paced is = absurd (false≢true is)

    ending_is : (fs : List Frame) → next_ending weights fs ≡ ending_at weights (standing fs)
    ending_is [] = refl
    ending_is (frame ∷ outer) = refl

    pub leaving_fits : (e : Event) (t : ℕ) → OsekStep config app e s next → IsPaced counts s e → is_left t e ≡ true
        → counts ≤ ending_at weights (standing (task s t).frames)
    leaving_fits (event.Left u served) t step paced is =
        let le = left_fits config app size longest weights weighs ends w counts u served s next step paced in
        let same = ending_is (task s u).frames in
        subst (λ v. counts ≤ ending_at weights (standing (task s v).frames)) (eqb-true u t is) (omega (arith, le, same))
    leaving_fits e t step paced is = absurd (false≢true is)

  -- ---- a section of task b

  module _ (h b : ℕ) (lower : IsLower config h b) (run : List Stage) (few : LowerSpendWithin config h longest run) where
    abbrev Has : System → ℕ → Type 0
    Has s counts = Found config app w h b lower (going_at weights) (ending_at weights) lighter s counts

    -- what lower tasks have of the stages, where b has spent so much on its next item: no more than one item; or that with the items of a walk, in which
    -- what was spent is counted too
    data Few (s : System) (spent counts : ℕ) : Type 0 where
      brief : counts ≤ longest → Few s spent counts
      walked : (most : ℕ) → counts + spent ≤ most + longest → Has s most → Few s spent counts

    module _ (before xs behind : List Stage) (is : run ≡ before ++ (xs ++ behind)) where
      brief_where_none : count (is_other config h) xs ≤ 0 → total (lower_counts config h) xs ≤ longest
      brief_where_none none =
          let le = own_where_none config h xs none in
          let most = few before xs behind is none in
          omega (arith, le, most)

    begun_fits : (x : Stage) → Known config app x → begun size b x ≤ ending_at weights (standing (task x.found b).frames)
    begun_fits x k = by (task x.found b).owed (task x.found b).frames (k.valid.each b lower.0).calls
      where
        by : (o : Bool) (fs : List Frame) → AreCalls app b fs → cond o 0 (next_size size fs) ≤ ending_at weights (standing fs)
        by true fs calls = omega arith
        by false [] calls = omega arith
        by false (frame ∷ outer) calls = let le = ends.item frame.func frame.item calls.0.inside in omega (arith, le)

    module _ (x : Stage) (xs : List Stage) (k : Known config app x) (placed : Placed app x.found) (at spent : ℕ) (one : IsSpent config app size longest b at spent x)
        (blocks : Blocks config h x.found b) where
      abbrev behind_spent : ℕ
      behind_spent = spent_behind config b at spent x.found x.stamped

      abbrev rest : ℕ
      rest = total (lower_counts config h) xs

      -- an event in a turn of it
      with_turn : is_other config h x ≡ true → (r : IsRaisedTurn config h b x) → Turn config app w h b lower x.stamped.event x.found x.next
          → (is_left b x.stamped.event ≡ true → rest ≤ longest) → Few x.next behind_spent rest → Few x.found spent (lower_counts config h x + rest)
      with_turn is r kind gone more = by kind more
        where
          counts_are : lower_counts config h x ≡ charged x
          counts_are = ap {B = ℕ} (λ o. cond o (charged x) (lower_own config h x)) is

          fits : IsPaced (charged x + spent) x.found x.stamped.event
          fits later on = turn_fits config app size longest b at spent x one r.turn

          none : behind_spent ≡ 0
          none = none_left config b at spent x.found x.stamped r.turn

          by : Turn config app w h b lower x.stamped.event x.found x.next → Few x.next behind_spent rest → Few x.found spent (lower_counts config h x + rest)
          by (executes is steps) (brief le) =
              let c = counts_are in
              walked (charged x + spent + 0) (omega (arith, le, c))
              (in_front config app w h b lower (going_at weights) (ending_at weights) lighter x k placed blocks.active blocks.raised (charged x + spent) 0 steps
              (executed_fits (charged x + spent) x.found x.next x.stamped.event b k.step fits is)
              (nothing config app w h b lower (going_at weights) (ending_at weights) lighter x.next 0 (omega arith)))
          by (executes is steps) (walked most le found) =
              let c = counts_are in
              let n = none in
              walked (charged x + spent + most) (omega (arith, le, c, n))
              (in_front config app w h b lower (going_at weights) (ending_at weights) lighter x k placed blocks.active blocks.raised (charged x + spent) most steps
              (executed_fits (charged x + spent) x.found x.next x.stamped.event b k.step fits is) found)
          by (leaves is) _ =
              let c = counts_are in
              let le = gone is in
              walked (charged x + spent + 0) (omega (arith, le, c))
              (last config app w h b lower (going_at weights) (ending_at weights) lighter x k placed blocks.active blocks.raised (charged x + spent) 0
              (leaving_fits (charged x + spent) x.found x.next x.stamped.event b k.step fits is) (omega arith))
          by (returns owed) _ = absurd (true≢false (sym owed ∙ free config app w h b lower x k blocks.active blocks.raised))

      -- one that is no lower task's
      without_turn : is_other config h x ≡ false → Few x.next behind_spent rest → Few x.found spent (lower_counts config h x + rest)
      without_turn other more = by more (cases_Bool (is_preempted config b x))
        where
          counts_are : lower_counts config h x ≡ lower_own config h x
          counts_are = ap {B = ℕ} (λ o. cond o (charged x) (lower_own config h x)) other

          mine : lower_own config h x ≤ own config b x
          mine = blocker_runs config app h x k other b blocks

          grows : (own config b x + spent ≤ behind_spent) × (behind_spent ≤ cond (is_preempted config b x) (begun size b x) spent)
          grows =
              goes_on config app size longest b at spent x one (no_turn config app h x.stamped.event b lower.1 other) spent (omega arith)
              (no_entry config app h x.stamped.event b lower.1 other)

          by : Few x.next behind_spent rest → (is_preempted config b x ≡ true) ⊎ (is_preempted config b x ≡ false)
              → Few x.found spent (lower_counts config h x + rest)
          by (walked most le found) _ =
              let c = counts_are in
              let m = mine in
              let g = grows.0 in
              walked (0 + most) (omega (arith, le, c, m, g))
              (kept config app w h b lower (going_at weights) (ending_at weights) lighter x 0 most
              (rests config app w h b lower x.stamped.event x.found x.next (frame_effect config app w x.found x.next k.valid x.stamped.event k.step) other)
              (omega arith) found)
          by (brief le) (inl is) =
              let c = counts_are in
              let m = mine in
              let g = grows.0 in
              let u = grows.1 in
              let d = ap {B = ℕ} (λ o. cond o (begun size b x) spent) is in
              walked (behind_spent + 0) (omega (arith, le, c, m, g))
              (last config app w h b lower (going_at weights) (ending_at weights) lighter x k placed blocks.active blocks.raised behind_spent 0
              (let item = begun_fits x k in omega (arith, u, d, item)) (omega arith))
          by (brief le) (inr off) =
              let c = counts_are in
              let m = mine in
              let g = grows.0 in
              let u = grows.1 in
              let d = ap {B = ℕ} (λ o. cond o (begun size b x) spent) off in
              brief (omega (arith, le, c, m, g, u, d))

    few_in : (before behind : List Stage) (start at spent : ℕ) (s : System) (xs : List Stage) → run ≡ before ++ (xs ++ behind) → Linked start s xs
        → AllByRecursion (Known config app) xs → AreSpent config app size longest b at spent s xs → Placed app s → InSection config h b xs
        → Few s spent (total (lower_counts config h) xs)
    few_in before behind start at spent s [] is l k spends placed section = brief (omega arith)
    few_in before behind start at spent s (x ∷ xs) is l k spends placed section =
        subst (λ y. Few y spent (total (lower_counts config h) (x ∷ xs))) l.1
        (by (blocks_or_not config app h x.found b) (cases_Bool (is_other config h x))
        (few_in (before ++ x ∷ []) behind (end_of x) (cond (is_admit x.stamped) at x.stamped.stamp.at) (spent_behind config b at spent x.found x.stamped) x.next xs further
        l.2 k.1 spends.2 next_placed section.1))
      where
        further : run ≡ (before ++ x ∷ []) ++ (xs ++ behind)
        further = is ∙ sym (append_assoc before (x ∷ []) (xs ++ behind))

        placed_here : Placed app x.found
        placed_here = subst (Placed app) (sym l.1) placed

        next_placed : Placed app x.next
        next_placed =
            step_placed config app x.found x.next x.stamped.event (frame_effect config app w x.found x.next k.0.valid x.stamped.event k.0.step) placed_here

        by : Blocks config h x.found b ⊎ (Blocks config h x.found b → ⊥) → (is_other config h x ≡ true) ⊎ (is_other config h x ≡ false)
            → Few x.next (spent_behind config b at spent x.found x.stamped) (total (lower_counts config h) xs)
            → Few x.found spent (total (lower_counts config h) (x ∷ xs))
        by (inr away) o more =
            brief (brief_where_none before (x ∷ xs) behind is (none_follow config app h b lower x.start x.found (x ∷ xs) (refl, refl, l.2) k section away))
        by (inl blocks) (inl other) more =
            let r = section.0 other in
            with_turn x xs k.0 placed_here at spent spends.1 blocks other r
            (turn config app w h b lower x.stamped.event x.found x.next k.0.step k.0.valid r.turn)
            (λ gone. brief_where_none (before ++ x ∷ []) xs behind further
            (none_follow config app h b lower (end_of x) x.next xs l.2 k.1 section.1 (λ still. left_inactive config app w b x k.0 gone still.active))) more
        by (inl blocks) (inr other) more = without_turn x xs k.0 placed_here at spent spends.1 blocks other more

    -- what lower tasks have of a section is within the greatest sum, and one item
    pub section_shares : (most : ℕ) → ((positions : List Position) → IsSection config app h b positions → weigh (going_at weights) (ending_at weights) positions ≤ most)
        → (before behind : List Stage) (start at spent : ℕ) (s : System) (xs : List Stage) → run ≡ before ++ (xs ++ behind) → Linked start s xs
        → AllByRecursion (Known config app) xs → AreSpent config app size longest b at spent s xs → Placed app s → InSection config h b xs
        → total (lower_counts config h) xs ≤ most + longest
    section_shares most bound before behind start at spent s xs is l k spends placed section = by (few_in before behind start at spent s xs is l k spends placed section)
      where
        by : Few s spent (total (lower_counts config h) xs) → total (lower_counts config h) xs ≤ most + longest
        by (brief le) = omega (arith, le)
        by (walked sum le found) =
            let within = found_within config app w h b lower (going_at weights) (ending_at weights) lighter most bound s sum found in
            omega (arith, le, within)
