-- What a section of a lower task brings in is within a start that the task code fits.
use Rattle.std.proofs.Common.{◌≡◌, ℕ, ◌+◌, ◌<◌, ◌≤◌, ◌⊎◌, ◌==◌, ◌&&◌, List, [], ◌∷◌, ◌++◌, Bool, true, false, cond, append_assoc, refl, sym, ap, ◌∙◌, subst, arith, inl, inr}
use Rattle.std.specs.List.{AllByRecursion}
use Rattle.std.proofs.lemmas.Bool.{cases_Bool, true≢false, false≢true, eqb-true, and_parts}
use Rattle.sloth_base.specs.declared.config.Config.{Config}
use Rattle.sloth_base.specs.declared.app.App.{App}
use Rattle.sloth_base.specs.declared.service.Event.{Event}
use Rattle.sloth_base.specs.declared.service.Event.TheVariants as event
use Rattle.sloth_base.specs.declared.service.Service.{Service}
use Rattle.sloth_base.specs.declared.service.Service.TheVariants as service
use Rattle.sloth_base.specs.Named.{declaration}
use Rattle.sloth_base.specs.ServiceCodes.{is_service}
use Rattle.osek_scheduler.specs.State.{System, task}
use Rattle.osek_scheduler.specs.InTime.{is_admit}
use Rattle.osek_scheduler.specs.Steps.{OsekStep}
use Rattle.osek_scheduler.proofs.Facts.{Facts}
use Rattle.load_text.specs.declared.load_line.Entry.{Entry}
use Rattle.osek_scheduler.specs.Apart.{static_priority, IsActive}
use Rattle.osek_blocking.specs.Blocking.{IsRaisedTo}
use Rattle.osek_blocking.proofs.Effects.{Effect}
use Rattle.osek_blocking.proofs.Ordering.{effect}
use Rattle.osek_blocking.specs.Walks.{Position}
use Rattle.osek_blocking.specs.Sections.{operation_at, IsLower}
use Rattle.osek_blocking.proofs.FrameEffects.{frame_effect}
use Rattle.osek_blocking.proofs.Placed.{Placed, step_placed}
use Rattle.bound_rules.specs.declared.bound.BodyWeights.{BodyWeights}
use Rattle.walk_sums.specs.Weights.{going_at, ending_at}
use Rattle.walk_sums.specs.Rounds.{Reaches}
use Rattle.walk_sums.specs.declared.counted.Counted.TheVariants as counts
use Rattle.walk_sums.specs.Counted.{calls}
use Rattle.sim_induction.specs.Pace.{ItemSizes}
use Rattle.run_counts.specs.Stages.{Stage, charged, end_of, is_turn, is_entry}
use Rattle.run_counts.specs.Spending.{WeighsItems}
use Rattle.run_counts.specs.Rounds.{total, WeighsEndings}
use Rattle.run_counts.proofs.SpentStages.{AreSpent}
use Rattle.response_laws.specs.Sums.{total_where, count}
use Rattle.response_laws.specs.Shares.{share_of, lower_own, lower_counts, LowerSpendWithin}
use Rattle.response_laws.specs.Turns.{at_entry, is_other, begins_first, begins_next, activated, was_set}
use Rattle.response_laws.specs.Bounded.{EachOf, EachFirst, EachNext}
use Rattle.response_laws.specs.Busy.{is_quiet}
use Rattle.response_laws.specs.Demand.{Start}
use Rattle.response_laws.specs.Walked.{standing, is_executed, is_back, FitsItem, FirstRoundsSum, LaterRoundsSum, SectionsSum}
use Rattle.response_laws.specs.Once.{IsShutOut}
use Rattle.response_laws.specs.Makers.{activation_weights, setting_weights, MakesWithin}
use Rattle.response_laws.specs.Starts.{IsRaisedTurn, InSection, may_raise, OpensSection, AreOfSection, HasSectionBehind, JoinsSo, IsSectionWithin}
use Rattle.response_laws.specs.Works.{KeepsWork, WorksWithin}
use Rattle.response_laws.specs.CodeStarts.{SectionsTake, Joins, RoundsSum, RoundsCount, HasSections}
use Rattle.response_laws.proofs.Counting.{counted_lighter}
use Rattle.response_laws.proofs.Starting.{IsBusy}
use Rattle.response_laws.proofs.Highest.{declared_above, over_all}
use Rattle.response_laws.proofs.Linked.{Known, Linked, last_state, last_end, linked_front, linked_behind, each_append, each_so}
use Rattle.response_laws.proofs.Settled.{top_raised, no_lower_entry}
use Rattle.response_laws.proofs.Lower.{admit_is_none}
use Rattle.response_laws.proofs.SectionWalks.{FitsRaised, section_within}
use Rattle.response_laws.proofs.LowerSpending.{admit_counts}
use Rattle.response_laws.proofs.OwnShares.{own_apart, own_rests, admitted_share}
use Rattle.response_laws.proofs.Joined.{few_rounds, taken, makes_within, joined_counts}
use Rattle.response_laws.proofs.SectionOnce.{section_once}
use Rattle.response_laws.proofs.SectionShares.{executed_fits, section_shares}
use Rattle.response_laws.proofs.SectionWorks.{section_works}
use Rattle.response_laws.proofs.Uncounted.{activation_making, no_take}
use Rattle.response_laws.proofs.Seen.{position, Seen, stands_reached, entry_acts, entry_sets}

module _ (config : Config) (app : App) (w : Facts config app) (size : ItemSizes) (longest : ℕ) (weights : List BodyWeights) (weighs : WeighsItems app size weights)
    (ends : WeighsEndings app size weights) (h : ℕ) where
  module _ (b : ℕ) (lower : IsLower config h b) where
    -- ---- what raises the task

    -- an item with which it takes a resource
    takes_there : (x : Stage) → Seen config app size longest x → (t : ℕ) (served : Service) (status : ℕ) → OsekStep config app (event.Call t served status) x.found x.next
        → (t == b) ≡ true → is_service served service.GetResource ≡ true → calls service.GetResource (operation_at app (position x b)) ≡ true
    takes_there x s t served status step same is =
        let own_step = subst (λ v. OsekStep config app (event.Call v served status) x.found x.next) (eqb-true t b same) step in
        let at = own_step.1.1.at in
        ap (λ fs. calls service.GetResource (operation_at app (standing fs))) at.frames ∙ ap (calls service.GetResource) at.next
        ∙ ap (λ v. is_service v service.GetResource) own_step.1.1.same ∙ is

    -- in a state that is not quiet it is raised already, or preemptable
    raised_or_preemptable : (x : Stage) → Known config app x → is_quiet config h x.found ≡ false → may_raise config b x.stamped.event ≡ true
        → IsRaisedTurn config h b x ⊎ ((declaration config b).non ≡ false)
    raised_or_preemptable x k busy may =
        by x.stamped.event refl k.step (effect config app x.found x.next k.ordered x.stamped.event k.step) may
      where
        by : (e : Event) → x.stamped.event ≡ e → OsekStep config app e x.found x.next → Effect config x.found x.next e → may_raise config b e ≡ true
            → IsRaisedTurn config h b x ⊎ ((declaration config b).non ≡ false)
        by (event.Enter t) is step f raised =
            let same = eqb-true t b (and_parts (t == b) (declaration config b).non raised).0 in
            absurd (no_lower_entry config app h x.found t f.moves.top f.was busy (subst (λ v. static_priority config v < static_priority config h) (sym same) lower.1))
        by (event.Back t) is step f raised =
            let turn = (and_parts (t == b) (declaration config b).non raised).0 in
            let up = top_raised config app h x.found t f.moves.top f.was busy in
            inl (record { turn = ap (is_turn b) is ∙ turn; raised = subst (λ v. IsRaisedTo config x.found v h) (eqb-true t b turn) up })
        by (event.Call t served status) is step f raised = which (cases_Bool (declaration config b).non)
          where
            turn : (t == b) ≡ true
            turn = (and_parts (t == b) (is_service served service.GetResource) raised).0

            which : ((declaration config b).non ≡ true) ⊎ ((declaration config b).non ≡ false) → IsRaisedTurn config h b x ⊎ ((declaration config b).non ≡ false)
            which (inr preemptable) = inr preemptable
            which (inl non) =
                let same = eqb-true t b turn in
                let free = subst (λ v. (task x.found v).owed ≡ false) same step.1.1.at.free in
                inl (record {
                  turn = ap (is_turn b) is ∙ turn;
                  raised = over_all config app b lower.0 non h x.found k.valid free (subst (IsActive x.found) same f.was) (declared_above config h b lower);
                })
        by event.Boot is step f raised = absurd (false≢true raised)
        by e is step f raised = absurd (false≢true raised)

    -- what raises a preemptable task is within the room for it
    raising_charge : (raising : ℕ) → ((at : Position) → Reaches app b at → calls service.GetResource (operation_at app at) ≡ true → going_at weights at ≤ raising)
        → (declaration config b).non ≡ false → (x : Stage) → Seen config app size longest x → may_raise config b x.stamped.event ≡ true → charged x ≤ raising
    raising_charge raising takes preemptable x s may = by x.stamped.event refl s.known.step may
      where
        non_only : (c : Bool) → (c && (declaration config b).non) ≡ true → ⊥
        non_only c raised = true≢false (sym (and_parts c (declaration config b).non raised).1 ∙ preemptable)

        by : (e : Event) → x.stamped.event ≡ e → OsekStep config app e x.found x.next → may_raise config b e ≡ true → charged x ≤ raising
        by (event.Enter t) is step raised = absurd (non_only (t == b) raised)
        by (event.Back t) is step raised = absurd (non_only (t == b) raised)
        by (event.Call t served status) is step raised =
            let both = and_parts (t == b) (is_service served service.GetResource) raised in
            let le = executed_fits config app w size longest weights weighs ends (charged x) x.found x.next x.stamped.event b s.known.step s.within (ap (is_executed b) is ∙ both.0) in
            let most = takes (position x b) (stands_reached config app size longest x s b (ap (is_turn b) is ∙ both.0)) (takes_there x s t served status step both.0 both.1) in
            omega (arith, le, most)
        by e is step raised = absurd (false≢true raised)

    module _ (number : Stage → ℕ) (on_entry : (x : Stage) → Seen config app size longest x → at_entry b x ≡ true → number x ≤ 0)
        (c : List BodyWeights) (item : (x : Stage) → Seen config app size longest x → FitsItem b number (going_at c) (ending_at c) x)
        (no_take : (at : Position) → calls service.GetResource (operation_at app at) ≡ true → going_at c at ≤ 0) where
      raising_makes : (x : Stage) → Seen config app size longest x → may_raise config b x.stamped.event ≡ true → number x ≤ 0
      raising_makes x s may = by x.stamped.event refl s.known.step may
        where
          by : (e : Event) → x.stamped.event ≡ e → OsekStep config app e x.found x.next → may_raise config b e ≡ true → number x ≤ 0
          by (event.Enter t) is step raised = on_entry x s (ap (is_entry b) is ∙ (and_parts (t == b) (declaration config b).non raised).0)
          by (event.Back t) is step raised = (item x s).returns (ap (is_back b) is ∙ (and_parts (t == b) (declaration config b).non raised).0)
          by (event.Call t served status) is step raised =
              let both = and_parts (t == b) (is_service served service.GetResource) raised in
              let le = (item x s).goes (ap (is_executed b) is ∙ both.0) in
              let none = no_take (position x b) (takes_there x s t served status step both.0 both.1) in
              omega (arith, le, none)
          by e is step raised = absurd (false≢true raised)

    -- a sum over the other events of a section, with what raises its task in front
    module _ (f : Stage → ℕ) (most : ℕ)
        (in_section : (at : ℕ) (st : System) (xs : List Stage) → Linked at st xs → AllByRecursion (Seen config app size longest) xs → Placed app st
        → InSection config h b xs → total_where (is_other config h) f xs ≤ most)
        (raising : (x : Stage) → Seen config app size longest x → may_raise config b x.stamped.event ≡ true → f x ≤ 0) where
      abbrev sum : List Stage → ℕ
      sum xs = total_where (is_other config h) f xs

      of_section : (at : ℕ) (st : System) (xs : List Stage) → Linked at st xs → AllByRecursion (Seen config app size longest) xs → AreOfSection config h b xs → sum xs ≤ most
      of_section at st [] l seen section = omega arith
      of_section at st (x ∷ xs) l seen section = by (is_admit x.stamped) refl section (of_section (end_of x) x.next xs l.2 seen.1)
        where
          placed : Placed app x.found
          placed = seen.0.placed

          next_placed : Placed app x.next
          next_placed =
              step_placed config app x.found x.next x.stamped.event
              (frame_effect config app w x.found x.next seen.0.known.valid x.stamped.event seen.0.known.step) placed

          here : (other : Bool) → is_other config h x ≡ other → cond (is_other config h x) (f x) 0 ≡ cond other (f x) 0
          here other is = ap {B = ℕ} (λ b. cond b (f x) 0) is

          opened : (is_other config h x ≡ true) ⊎ (is_other config h x ≡ false)
              → ((is_other config h x ≡ true → IsRaisedTurn config h b x ⊎ (may_raise config b x.stamped.event ≡ true)) × InSection config h b xs) → sum (x ∷ xs) ≤ most
          opened (inr other) s =
              let le = in_section (end_of x) x.next xs l.2 seen.1 next_placed s.1 in
              let zero = here false other in
              omega (arith, le, zero)
          opened (inl is) s = which (s.0 is)
            where
              which : IsRaisedTurn config h b x ⊎ (may_raise config b x.stamped.event ≡ true) → sum (x ∷ xs) ≤ most
              which (inl r) =
                  let le = in_section x.start x.found (x ∷ xs) (refl, refl, l.2) seen placed ((λ _. r), s.1) in
                  omega (arith, le)
              which (inr may) =
                  let le = in_section (end_of x) x.next xs l.2 seen.1 next_placed s.1 in
                  let first = raising x seen.0 may in
                  let on = here true is in
                  omega (arith, le, first, on)

          by : (a : Bool) → is_admit x.stamped ≡ a → OpensSection config h b a (AreOfSection config h b xs) x xs
              → (AreOfSection config h b xs → sum xs ≤ most) → sum (x ∷ xs) ≤ most
          by true admits s again =
              let rest = again s in
              let zero = here false (admit_is_none config app h x admits) in
              omega (arith, rest, zero)
          by false later s again = opened (cases_Bool (is_other config h x)) s

    all_known : (xs : List Stage) → AllByRecursion (Seen config app size longest) xs → AllByRecursion (Known config app) xs
    all_known = each_so (Seen config app size longest) (Known config app) (λ x s. s.known)

    -- what each event of a section makes is within what its item weighs
    by_walks : (f : Stage → ℕ) (c : List BodyWeights) (le : (at : Position) → going_at c at ≤ ending_at c at)
        → ((x : Stage) → Seen config app size longest x → FitsItem b f (going_at c) (ending_at c) x) → (most : ℕ) → SectionsSum config app h b c most
        → (at : ℕ) (st : System) (xs : List Stage) → Linked at st xs → AllByRecursion (Seen config app size longest) xs → Placed app st → InSection config h b xs
        → total_where (is_other config h) f xs ≤ most
    by_walks f c le item most bound at st xs l seen placed section =
        section_within config app w h b lower (going_at c) (ending_at c) le f most bound at st xs l (all_known xs seen)
        (each_so (Seen config app size longest) (FitsRaised config app w h b lower (going_at c) (ending_at c) le f)
        (λ x s. record { goes = (item x s).goes; leaves = (item x s).leaves }) xs seen)
        placed section

    -- a start that has the sections of the task has them in each part of the run
    module _ (run : List Stage) (first_found : System) (linked : Linked 0 first_found run) (seen : AllByRecursion (Seen config app size longest) run)
        (spent : (before xs behind : List Stage) → run ≡ before ++ (xs ++ behind)
        → (at : ℕ) × ((spent : ℕ) × AreSpent config app size longest b at spent (last_state first_found before) xs)) (few : LowerSpendWithin config h longest run) (load : List Entry) (cuts : ℕ → Bool)
        (works : KeepsWork config load cuts run) (asleep : ¬ (IsActive first_found b)) (walks : (j most : ℕ) → MakesWithin app run b j true most)
        (own_first : cuts b ≡ true → (n : ℕ) → WorksWithin load b n ⊎ FirstRoundsSum app true b weights n → EachOf run true b (begins_first b) (λ x. 0) (share_of config b) n)
        (own_next : cuts b ≡ true → (n : ℕ) → WorksWithin load b n ⊎ LaterRoundsSum app true b weights n → EachOf run true b (begins_next true b) (λ x. 0) (share_of config b) n)
        (raised : Bool) (s : Start) (has : HasSections config app longest weights load cuts h b raised s) where
      -- where the task joins, its rounds are no more than the start has
      abbrev Fits : List Stage → Type 0
      Fits xs = Joins app cuts b s → count (begins_next true b) xs ≤ s.nexts b

      fits_behind : (x : Stage) (xs : List Stage) → Fits (x ∷ xs) → Fits xs
      fits_behind x xs fits joins = let le = fits joins in omega (arith, le)

      fits_so : (before xs behind : List Stage) → run ≡ before ++ (xs ++ behind) → AreOfSection config h b xs → JoinsSo config h s b xs → Fits xs
      fits_so before xs behind is section so joins =
          few_rounds config app w h b lower run first_found linked (all_known run seen) asleep cuts s joins walks before xs behind is section so

      part_links : (before xs behind : List Stage) → run ≡ before ++ (xs ++ behind) → Linked (last_end 0 before) (last_state first_found before) xs
      part_links before xs behind is =
          linked_front (last_end 0 before) (last_state first_found before) xs behind
          (linked_behind 0 first_found before (xs ++ behind) (subst (Linked 0 first_found) is linked))

      part_seen : (before xs behind : List Stage) → run ≡ before ++ (xs ++ behind) → AllByRecursion (Seen config app size longest) xs
      part_seen before xs behind is = (each_append (Seen config app size longest) xs behind (each_append (Seen config app size longest) before (xs ++ behind) (subst (AllByRecursion (Seen config app size longest)) is seen)).1).0

      in_shares : (before xs behind : List Stage) → run ≡ before ++ (xs ++ behind) → InSection config h b xs → Fits xs → total (lower_counts config h) xs ≤ has.counts + longest
      in_shares before [] behind is section fits = omega arith
      in_shares before (x ∷ xs) behind is section fits =
          let links = part_links before (x ∷ xs) behind is in
          let each = part_seen before (x ∷ xs) behind is in
          let so_far = spent before (x ∷ xs) behind is in
          let known = all_known (x ∷ xs) each in
          let placed = subst (Placed app) links.1 each.0.placed in
          by so_far.0 so_far.1.0 so_far.1.1 links known placed has.sum
        where
          by : (at done : ℕ) → AreSpent config app size longest b at done (last_state first_found before) (x ∷ xs) → Linked (last_end 0 before) (last_state first_found before) (x ∷ xs)
              → AllByRecursion (Known config app) (x ∷ xs) → Placed app (last_state first_found before)
              → SectionsTake config app weights load cuts h b has.counts ⊎ (Joins app cuts b s × RoundsCount app weights load b (s.nexts b) has.counts)
              → total (lower_counts config h) (x ∷ xs) ≤ has.counts + longest
          by at done so_far links known placed (inl (inl sums)) =
              section_shares config app w size longest weights weighs ends h b lower run few has.counts sums before behind (last_end 0 before) at done
              (last_state first_found before) (x ∷ xs) is links known so_far placed section
          by at done so_far links known placed (inl (inr (within, waits))) =
              section_works config app w size longest h b lower run few (cuts b) waits load cuts refl works has.counts within first_found asleep linked (all_known run seen)
              before behind (last_end 0 before) at done (x ∷ xs) is links known so_far placed section
          by at done so_far links known placed (inr (joins, rounds)) =
              let come =
              joined_counts config app w h b lower run first_found linked (all_known run seen) asleep size longest few (own_apart config app b true) (own_rests config app b) (admitted_share config b)
              rounds.under_way rounds.later (own_first joins.cut rounds.under_way rounds.firsts) (own_next joins.cut rounds.later rounds.laters_fit) rounds.longer before (x ∷ xs) behind is at done so_far section in
              let all = taken config app w h b lower run first_found linked (all_known run seen) asleep cuts s joins walks rounds (count (begins_next true b) (x ∷ xs)) (fits joins) in
              omega (arith, come, all)

      of_shares : raised ≡ false → (before xs behind : List Stage) → run ≡ before ++ (xs ++ behind) → AreOfSection config h b xs → AllByRecursion (IsBusy config h) xs
          → Fits xs → total (lower_counts config h) xs ≤ has.raising + has.counts + longest
      of_shares not_yet before [] behind is section busy fits = omega arith
      of_shares not_yet before (x ∷ xs) behind is section busy fits =
          by (is_admit x.stamped) refl section (λ s. of_shares not_yet (before ++ x ∷ []) xs behind further s busy.1 (fits_behind x xs fits))
        where
          further : run ≡ (before ++ x ∷ []) ++ (xs ++ behind)
          further = is ∙ sym (append_assoc before (x ∷ []) (xs ++ behind))

          here : (other : Bool) → is_other config h x ≡ other → lower_counts config h x ≡ cond other (charged x) (lower_own config h x)
          here other is = ap {B = ℕ} (λ b. cond b (charged x) (lower_own config h x)) is

          all_of : (is_other config h x ≡ true → IsRaisedTurn config h b x) → InSection config h b xs → total (lower_counts config h) (x ∷ xs) ≤ has.raising + has.counts + longest
          all_of raised section = let le = in_shares before (x ∷ xs) behind is (raised, section) fits in omega (arith, le)

          opened : (is_other config h x ≡ true) ⊎ (is_other config h x ≡ false)
              → ((is_other config h x ≡ true → IsRaisedTurn config h b x ⊎ (may_raise config b x.stamped.event ≡ true)) × InSection config h b xs)
              → total (lower_counts config h) (x ∷ xs) ≤ has.raising + has.counts + longest
          opened (inr other) s = all_of (λ on. absurd (true≢false (sym on ∙ other))) s.1
          opened (inl on) s = which (s.0 on)
            where
              which : IsRaisedTurn config h b x ⊎ (may_raise config b x.stamped.event ≡ true) → total (lower_counts config h) (x ∷ xs) ≤ has.raising + has.counts + longest
              which (inl r) = all_of (λ _. r) s.1
              which (inr may) = opening (raised_or_preemptable x x_seen.known busy.0 may)
                where
                  x_seen : Seen config app size longest x
                  x_seen = (part_seen before (x ∷ xs) behind is).0

                  opening : IsRaisedTurn config h b x ⊎ ((declaration config b).non ≡ false) → total (lower_counts config h) (x ∷ xs) ≤ has.raising + has.counts + longest
                  opening (inl r) = all_of (λ _. r) s.1
                  opening (inr preemptable) =
                      let le = in_shares (before ++ x ∷ []) xs behind further s.1 (fits_behind x xs fits) in
                      let first = raising_charge has.raising (has.takes not_yet preemptable) preemptable x x_seen may in
                      let own = here true on in
                      omega (arith, le, first, own)

          by : (a : Bool) → is_admit x.stamped ≡ a → OpensSection config h b a (AreOfSection config h b xs) x xs
              → (AreOfSection config h b xs → total (lower_counts config h) xs ≤ has.raising + has.counts + longest)
              → total (lower_counts config h) (x ∷ xs) ≤ has.raising + has.counts + longest
          by true admits s again =
              let rest = again s in
              let own = here false (admit_is_none config app h x admits) in
              let zero = admit_counts config app h x admits in
              omega (arith, rest, own, zero)
          by false later s again = opened (cases_Bool (is_other config h x)) s

      -- without the first stage of all
      behind_first : raised ≡ false → (before : List Stage) (x : Stage) (xs behind : List Stage) → run ≡ before ++ ((x ∷ xs) ++ behind) → AreOfSection config h b (x ∷ xs)
          → AllByRecursion (IsBusy config h) xs → Fits xs → total (lower_counts config h) xs ≤ has.raising + has.counts + longest
      behind_first not_yet before x xs behind is section busy fits = by (is_admit x.stamped) section
        where
          further : run ≡ (before ++ x ∷ []) ++ (xs ++ behind)
          further = is ∙ sym (append_assoc before (x ∷ []) (xs ++ behind))

          by : (a : Bool) → OpensSection config h b a (AreOfSection config h b xs) x xs → total (lower_counts config h) xs ≤ has.raising + has.counts + longest
          by true s = of_shares not_yet (before ++ x ∷ []) xs behind further s busy fits
          by false s = let le = in_shares (before ++ x ∷ []) xs behind further s.1 fits in omega (arith, le)

      -- what makes task j Ready among the other events of a section
      acts_in : (j : ℕ) → SectionsSum config app h b (activation_weights app b j) (s.inflow.acts j) ⊎ (IsShutOut config h b j × (1 ≤ s.inflow.acts j))
          → (at : ℕ) (st : System) (xs : List Stage) → Linked at st xs → AllByRecursion (Seen config app size longest) xs → Placed app st
          → InSection config h b xs → total_where (is_other config h) (activated j) xs ≤ s.inflow.acts j
      acts_in j sum at st xs l seen placed section = by sum
        where
          by : SectionsSum config app h b (activation_weights app b j) (s.inflow.acts j) ⊎ (IsShutOut config h b j × (1 ≤ s.inflow.acts j))
              → total_where (is_other config h) (activated j) xs ≤ s.inflow.acts j
          by (inl sums) =
              by_walks (activated j) (activation_weights app b j) (counted_lighter (cond (b == j) (counts.Chains j) (counts.Activations j)) app) (λ x y. y.acts b j)
              (s.inflow.acts j) sums at st xs l seen placed section
          by (inr (out, some)) = let le = section_once config app w h b lower j out at st xs l (all_known xs seen) section in omega (arith, le, some)

      front_within : (r : Bool) → raised ≡ r → (before behind : List Stage) (first : Stage) (xs : List Stage) → run ≡ before ++ ((first ∷ xs) ++ behind)
          → HasSectionBehind config h b r first xs → AllByRecursion (IsBusy config h) xs → Fits xs → total (lower_counts config h) xs ≤ has.raising + has.counts + longest
      front_within true already before behind first xs is section busy fits =
          let le = in_shares (before ++ first ∷ []) xs behind (is ∙ sym (append_assoc before (first ∷ []) (xs ++ behind))) section fits in omega (arith, le)
      front_within false not_yet before behind first xs is section busy fits = behind_first not_yet before first xs behind is section busy fits

      -- where it joins, by its rounds
      made_by_rounds : (f : Stage → ℕ) (c : List BodyWeights) (most : ℕ) → ((n : ℕ) → FirstRoundsSum app true b c n → EachFirst run true b f n)
          → ((n : ℕ) → LaterRoundsSum app true b c n → EachNext run true b f n) → Joins app cuts b s → RoundsSum app b c (s.nexts b) most
          → (before xs behind : List Stage) → run ≡ before ++ (xs ++ behind) → AreOfSection config h b xs → Fits xs → total_where (is_other config h) f xs ≤ most
      made_by_rounds f c most first next joins rounds before xs behind is section fits =
          let le = makes_within config app w h b lower run first_found linked (all_known run seen) asleep f rounds.under_way rounds.later (first rounds.under_way rounds.firsts)
          (next rounds.later rounds.laters_fit) rounds.longer before xs behind is section in
          let all = taken config app w h b lower run first_found linked (all_known run seen) asleep cuts s joins walks rounds (count (begins_next true b) xs) (fits joins) in
          omega (arith, le, all)

      acts_of : (before behind : List Stage) (j : ℕ) (xs : List Stage) → run ≡ before ++ (xs ++ behind) → AreOfSection config h b xs → Fits xs
          → (SectionsSum config app h b (activation_weights app b j) (s.inflow.acts j) ⊎ (IsShutOut config h b j × (1 ≤ s.inflow.acts j)))
          ⊎ (Joins app cuts b s × RoundsSum app b (activation_weights app b j) (s.nexts b) (s.inflow.acts j))
          → total_where (is_other config h) (activated j) xs ≤ s.inflow.acts j
      acts_of before behind j xs is section fits (inl sum) =
          of_section (activated j) (s.inflow.acts j) (acts_in j sum)
          (raising_makes (activated j) (λ x y entry. entry_acts config app size longest x y b j entry) (activation_weights app b j) (λ x y. y.acts b j)
          (no_take (cond (b == j) (counts.Chains j) (counts.Activations j)) (activation_making (b == j) j) app))
          (last_end 0 before) (last_state first_found before) xs (part_links before xs behind is) (part_seen before xs behind is) section
      acts_of before behind j xs is section fits (inr (joins, rounds)) =
          made_by_rounds (activated j) (activation_weights app b j) (s.inflow.acts j) (λ n. (walks j n).first_acts) (λ n. (walks j n).next_acts) joins rounds before xs behind is section fits

      sets_of : (before behind : List Stage) (j : ℕ) (xs : List Stage) → run ≡ before ++ (xs ++ behind) → AreOfSection config h b xs → Fits xs
          → SectionsSum config app h b (setting_weights app j) (s.inflow.sets j) ⊎ (Joins app cuts b s × RoundsSum app b (setting_weights app j) (s.nexts b) (s.inflow.sets j))
          → total_where (is_other config h) (was_set j) xs ≤ s.inflow.sets j
      sets_of before behind j xs is section fits (inl sums) =
          of_section (was_set j) (s.inflow.sets j)
          (by_walks (was_set j) (setting_weights app j) (counted_lighter (counts.Settings j) app) (λ x y. y.sets b j) (s.inflow.sets j) sums)
          (raising_makes (was_set j) (λ x y entry. entry_sets config app size longest x y b j entry) (setting_weights app j) (λ x y. y.sets b j)
          (no_take (counts.Settings j) refl app))
          (last_end 0 before) (last_state first_found before) xs (part_links before xs behind is) (part_seen before xs behind is) section
      sets_of before behind j xs is section fits (inr (joins, rounds)) =
          made_by_rounds (was_set j) (setting_weights app j) (s.inflow.sets j) (λ n. (walks j n).first_sets) (λ n. (walks j n).next_sets) joins rounds before xs behind is section fits

      pub sections_within : IsSectionWithin config h run b raised s
      sections_within = record {
        front = λ before behind first xs is all section busy so.
            let le = front_within raised refl before behind first xs is section busy (fits_behind first xs (fits_so before (first ∷ xs) behind is all so)) in
            let most = has.front in
            omega (arith, le, most);
        acts = λ before behind j xs over is section so. acts_of before behind j xs is section (fits_so before xs behind is section so) (has.acts j over);
        sets = λ before behind j xs over is section so. sets_of before behind j xs is section (fits_so before xs behind is section so) (has.sets j over);
      }
