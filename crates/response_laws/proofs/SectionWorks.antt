-- What lower tasks have of the counts of a section that lies in one round of its task: the own counts of the round, and one item.
use Rattle.std.proofs.Common.{◌≡◌, ℕ, ◌+◌, ◌≤◌, ◌⊎◌, ◌==◌, ◌&&◌, ◌||◌, List, [], ◌∷◌, ◌++◌, Bool, true, false, cond, refl, sym, ap, ◌∙◌, subst, arith, inl, inr, append_assoc, Option}
use Rattle.std.specs.Prelude.{IfSome}
use Rattle.std.specs.List.{AllByRecursion}
use Rattle.std.proofs.lemmas.Bool.{cases_Bool, false≢true, and_parts, or_parts, eqb-true}
use Rattle.std.proofs.lemmas.List.{append-nil}
use Rattle.sloth_base.specs.declared.config.Config.{Config}
use Rattle.sloth_base.specs.declared.app.App.{App}
use Rattle.sloth_base.specs.declared.service.Event.{Event}
use Rattle.sloth_base.specs.declared.service.Event.TheVariants as event
use Rattle.sloth_base.specs.declared.service.Service.TheVariants as service
use Rattle.sloth_base.specs.ServiceCodes.{is_service}
use Rattle.load_text.specs.declared.load_line.Entry.{Entry}
use Rattle.osek_scheduler.specs.State.{System, task}
use Rattle.osek_scheduler.specs.Apart.{IsActive}
use Rattle.osek_scheduler.specs.Steps.{OsekStep}
use Rattle.osek_scheduler.proofs.Facts.{Facts}
use Rattle.osek_blocking.proofs.Once.{Blocks}
use Rattle.osek_blocking.specs.Walks.{Position}
use Rattle.osek_blocking.specs.Sections.{IsLower, operation_at}
use Rattle.osek_blocking.proofs.FrameEffects.{frame_effect}
use Rattle.osek_blocking.proofs.Placed.{Placed, step_placed}
use Rattle.walk_sums.specs.Rounds.{is_wait}
use Rattle.sim_induction.specs.Pace.{ItemSizes}
use Rattle.sim_induction.specs.Spent.{spent_behind}
use Rattle.run_counts.specs.Stages.{Stage, is_turn, is_entry, charged, own, end_of}
use Rattle.run_counts.specs.Rounds.{is_left, goes_on_waiting, opens_round, closes_round, round_of, total}
use Rattle.run_counts.proofs.SpentStages.{AreSpent, turn_owns}
use Rattle.osek_scheduler.specs.InTime.{is_admit}
use Rattle.response_laws.specs.Sums.{count}
use Rattle.response_laws.specs.Turns.{is_other}
use Rattle.response_laws.specs.Walked.{standing}
use Rattle.response_laws.specs.Works.{KeepsWork, WorksWithin, WaitsNowhere}
use Rattle.response_laws.specs.Shares.{lower_own, lower_counts, LowerSpendWithin}
use Rattle.response_laws.specs.Starts.{IsRaisedTurn, InSection}
use Rattle.response_laws.proofs.Linked.{Known, Linked, last_state, linked_front, each_append, each_joined}
use Rattle.response_laws.proofs.Blocking.{blocks_or_not}
use Rattle.response_laws.proofs.LowerSpending.{own_where_none, no_left, blocker_runs}
use Rattle.response_laws.proofs.RoundEnds.{left_inactive}
use Rattle.response_laws.proofs.SectionWalks.{raised_position}
use Rattle.response_laws.proofs.SectionEnds.{none_follow}
use Rattle.response_laws.proofs.Steps.{stays_inactive}

-- ---- rounds

-- a round of more stages has no less
round_more : (cuts : Bool) (t : ℕ) (f : Stage → ℕ) (xs ys : List Stage) → total f (round_of cuts t xs) ≤ total f (round_of cuts t (xs ++ ys))
round_more cuts t f [] ys = omega arith
round_more cuts t f (x ∷ xs) ys = by (closes_round cuts t x.stamped.event) (round_more cuts t f xs ys)
  where
    by : (b : Bool) → total f (round_of cuts t xs) ≤ total f (round_of cuts t (xs ++ ys))
        → f x + total f (cond b [] (round_of cuts t xs)) ≤ f x + total f (cond b [] (round_of cuts t (xs ++ ys)))
    by true le = omega arith
    by false le = omega (arith, le)

-- what stands in front of its end is no more
round_behind_few : (cuts : Bool) (t : ℕ) (f : Stage → ℕ) (xs ys : List Stage) → AllByRecursion (λ x. closes_round cuts t x.stamped.event ≡ false) xs
    → total f (round_of cuts t ys) ≤ total f (round_of cuts t (xs ++ ys))
round_behind_few cuts t f [] ys open_still = omega arith
round_behind_few cuts t f (x ∷ xs) ys open_still =
    let rest = round_behind_few cuts t f xs ys open_still.1 in
    let same = ap (λ b. total f (cond b [] (round_of cuts t (xs ++ ys)))) open_still.0 in
    omega (arith, rest, same)

module _ (config : Config) (app : App) (w : Facts config app) (cuts : Bool) (b : ℕ) where
  -- the stages end in a round of the task
  pub record InRound (front : List Stage) : Type 0 where
    pub before : List Stage
    pub opens : Stage
    pub middle : List Stage
    pub parts : front ≡ before ++ opens ∷ middle
    pub opening : opens_round cuts b opens.stamped.event ≡ true
    pub open_still : AllByRecursion (λ x. closes_round cuts b x.stamped.event ≡ false) middle
    pub inside : AllByRecursion (λ x. is_entry b x.stamped.event ≡ false) middle

  -- one stage more
  one_more : (front : List Stage) (x : Stage) → Known config app x → (IsActive x.found b → InRound front) → IsActive x.next b → InRound (front ++ x ∷ [])
  one_more front x k was active = by (opens_round cuts b x.stamped.event) refl
    where
      by : (o : Bool) → opens_round cuts b x.stamped.event ≡ o → InRound (front ++ x ∷ [])
      by true opens = record { before = front; opens = x; middle = []; parts = refl; opening = opens; open_still = tt; inside = tt }
      by false still =
          let both = or_parts (is_entry b x.stamped.event) (cuts && goes_on_waiting b x.stamped.event) still in
          let r = was (stays_inactive config app b x k both.0 active) in
          record {
            before = r.before;
            opens = r.opens;
            middle = r.middle ++ x ∷ [];
            parts = ap (λ l. l ++ x ∷ []) r.parts ∙ append_assoc r.before (r.opens ∷ r.middle) (x ∷ []);
            opening = r.opening;
            open_still =
                each_joined (λ y. closes_round cuts b y.stamped.event ≡ false) r.middle (x ∷ []) r.open_still
                (ap (λ l. l || (cuts && goes_on_waiting b x.stamped.event)) (goes_on (is_left b x.stamped.event) refl) ∙ both.1, tt);
            inside = each_joined (λ y. is_entry b y.stamped.event ≡ false) r.middle (x ∷ []) r.inside (both.0, tt);
          }
        where
          goes_on : (l : Bool) → is_left b x.stamped.event ≡ l → is_left b x.stamped.event ≡ false
          goes_on true leaves = absurd (left_inactive config app w b x k leaves active)
          goes_on false still = still

  pub in_round : (at : ℕ) (s : System) (front xs : List Stage) → Linked at s xs → AllByRecursion (Known config app) xs → (IsActive s b → InRound front) → IsActive (last_state s xs) b
      → InRound (front ++ xs)
  in_round at s front [] l k was active = subst InRound (sym (append-nil front)) (was active)
  in_round at s front (x ∷ xs) l k was active =
      subst InRound (append_assoc front (x ∷ []) xs)
      (in_round (end_of x) x.next (front ++ x ∷ []) xs l.2 k.1 (one_more front x k.0 (λ on. was (subst (λ (y : System). IsActive y b) l.1 on))) active)

-- ---- a section

module _ (config : Config) (app : App) (w : Facts config app) (size : ItemSizes) (longest : ℕ) (h b : ℕ) (lower : IsLower config h b) (run : List Stage)
    (few : LowerSpendWithin config h longest run) (cuts : Bool) (no_wait : WaitsNowhere config app h b cuts) where
  abbrev lower_total : List Stage → ℕ
  lower_total xs = total (lower_counts config h) xs

  brief_where_none : (before xs behind : List Stage) → run ≡ before ++ (xs ++ behind) → count (is_other config h) xs ≤ 0 → lower_total xs ≤ longest
  brief_where_none before xs behind is none =
      let le = own_where_none config h xs none in
      let most = few before xs behind is none in
      omega (arith, le, most)

  module _ (x : Stage) (k : Known config app x) (placed : Placed app x.found) (blocks : Blocks config h x.found b) where
    -- it waits for nothing where it is raised
    goes_on : goes_on_waiting b x.stamped.event ≡ true → cuts ≡ true → ⊥
    goes_on waits cut = by x.stamped.event k.step waits
      where
        by : (e : Event) → OsekStep config app e x.found x.next → goes_on_waiting b e ≡ true → ⊥
        by (event.Call u served status) step is =
            let both = and_parts (u == b) (is_service served service.WaitEvent) is in
            let own_step = subst (λ v. OsekStep config app (event.Call v served status) x.found x.next) (eqb-true u b both.0) step in
            let at = own_step.1.1.at in
            let raised = raised_position config app w h b lower x k placed blocks.active blocks.raised in
            no_wait (standing (task x.found b).frames) raised.0 raised.1
            (ap (λ fs. is_wait (operation_at app (standing fs))) at.frames ∙ ap is_wait at.next ∙ ap (λ v. is_service v service.WaitEvent) own_step.1.1.same ∙ both.1) cut
        by e step is = false≢true is

    -- so its round ends only where it leaves
    closes_not : is_left b x.stamped.event ≡ false → closes_round cuts b x.stamped.event ≡ false
    closes_not still = ap (λ l. l || (cuts && goes_on_waiting b x.stamped.event)) still ∙ by cuts refl (goes_on_waiting b x.stamped.event) refl
      where
        by : (c : Bool) → cuts ≡ c → (g : Bool) → goes_on_waiting b x.stamped.event ≡ g → (c && g) ≡ false
        by false off g is = refl
        by true cut false is = refl
        by true cut true is = absurd (goes_on is cut)

  -- what lower tasks have of a section is within the own counts of the rest of its task's round, and one item
  worked : (before behind : List Stage) (start at spent : ℕ) (s : System) (xs : List Stage) → run ≡ before ++ (xs ++ behind) → Linked start s xs
      → AllByRecursion (Known config app) xs → AreSpent config app size longest b at spent s xs → Placed app s → InSection config h b xs
      → lower_total xs ≤ total (own config b) (round_of cuts b xs) + longest
  worked before behind start at spent s [] is l k spends placed section = omega arith
  worked before behind start at spent s (x ∷ xs) is l k spends placed section =
      by (blocks_or_not config app h x.found b) (cases_Bool (is_other config h x))
      (worked (before ++ x ∷ []) behind (end_of x) (cond (is_admit x.stamped) at x.stamped.stamp.at) (spent_behind config b at spent x.found x.stamped) x.next xs further
      l.2 k.1 spends.2 next_placed section.1)
    where
      further : run ≡ (before ++ x ∷ []) ++ (xs ++ behind)
      further = is ∙ sym (append_assoc before (x ∷ []) (xs ++ behind))

      placed_here : Placed app x.found
      placed_here = subst (Placed app) (sym l.1) placed

      next_placed : Placed app x.next
      next_placed =
          step_placed config app x.found x.next x.stamped.event (frame_effect config app w x.found x.next k.0.valid x.stamped.event k.0.step) placed_here

      -- where the round goes on
      longer : lower_counts config h x ≤ own config b x → closes_round cuts b x.stamped.event ≡ false → lower_total xs ≤ total (own config b) (round_of cuts b xs) + longest
          → lower_counts config h x + lower_total xs ≤ own config b x + total (own config b) (cond (closes_round cuts b x.stamped.event) [] (round_of cuts b xs)) + longest
      longer here still rest =
          let same = ap (λ c. total (own config b) (cond c [] (round_of cuts b xs))) still in
          omega (arith, here, rest, same)

      by : Blocks config h x.found b ⊎ (Blocks config h x.found b → ⊥) → (is_other config h x ≡ true) ⊎ (is_other config h x ≡ false) → lower_total xs ≤ total (own config b) (round_of cuts b xs) + longest
          → lower_counts config h x + lower_total xs ≤ own config b x + total (own config b) (cond (closes_round cuts b x.stamped.event) [] (round_of cuts b xs)) + longest
      by (inr away) o rest =
          let le : lower_counts config h x + lower_total xs ≤ longest = brief_where_none before (x ∷ xs) behind is (none_follow config app h b lower x.start x.found (x ∷ xs) (refl, refl, l.2) k section away) in
          omega (arith, le)
      by (inl blocks) (inl other) rest = which (is_left b x.stamped.event) refl
        where
          turn : is_turn b x.stamped.event ≡ true
          turn = (section.0 other).turn

          here : lower_counts config h x ≤ own config b x
          here =
              let c = ap {B = ℕ} (λ o. cond o (charged x) (lower_own config h x)) other in
              let same = turn_owns config app size longest b at spent x spends.1 turn in
              omega (arith, c, same)

          which : (l : Bool) → is_left b x.stamped.event ≡ l
              → lower_counts config h x + lower_total xs ≤ own config b x + total (own config b) (cond (closes_round cuts b x.stamped.event) [] (round_of cuts b xs)) + longest
          which false still = longer here (closes_not x k.0 placed_here blocks still) rest
          which true leaves =
              let le = brief_where_none (before ++ x ∷ []) xs behind further
              (none_follow config app h b lower (end_of x) x.next xs l.2 k.1 section.1 (λ more. left_inactive config app w b x k.0 leaves more.active)) in
              let h = here in
              omega (arith, h, le)
      by (inl blocks) (inr other) rest =
          let c = ap {B = ℕ} (λ o. cond o (charged x) (lower_own config h x)) other in
          let mine = blocker_runs config app h x k.0 other b blocks in
          longer (omega (arith, c, mine)) (closes_not x k.0 placed_here blocks (no_left config app h x.stamped.event b lower.1 other)) rest

  -- where the load bounds the rounds of the task, in each part of the run: what its sections have is within that, and one item
  module _ (load : List Entry) (all_cuts : ℕ → Bool) (cuts_are : all_cuts b ≡ cuts) (works : KeepsWork config load all_cuts run) (most : ℕ) (within : WorksWithin load b most)
      (first_found : System) (asleep : ¬ (IsActive first_found b)) (linked : Linked 0 first_found run) (known : AllByRecursion (Known config app) run) where
    bounded : (before behind : List Stage) (opens : Stage) → run ≡ before ++ opens ∷ behind → opens_round cuts b opens.stamped.event ≡ true
        → total (own config b) (round_of cuts b behind) ≤ most
    bounded before behind opens is opening =
        let said = subst (λ (o : Option ℕ). IfSome o (λ counts. (before behind : List Stage) (opens : Stage) → run ≡ before ++ opens ∷ behind → opens_round (all_cuts b) b opens.stamped.event ≡ true
        → total (own config b) (round_of (all_cuts b) b behind) ≤ counts)) within.1 (works b) in
        let le = subst (λ c. total (own config b) (round_of c b behind) ≤ within.0) cuts_are
        (said before behind opens is (subst (λ c. opens_round c b opens.stamped.event ≡ true) (sym cuts_are) opening)) in
        let few = within.2 in
        omega (arith, le, few)

    pub section_works : (before behind : List Stage) (start at spent : ℕ) (xs : List Stage) → run ≡ before ++ (xs ++ behind) → Linked start (last_state first_found before) xs
        → AllByRecursion (Known config app) xs → AreSpent config app size longest b at spent (last_state first_found before) xs → Placed app (last_state first_found before)
        → InSection config h b xs → lower_total xs ≤ most + longest
    section_works before behind start at spent xs is l k spends placed section = by (blocks_or_not config app h (last_state first_found before) b)
      where
        by : Blocks config h (last_state first_found before) b ⊎ (Blocks config h (last_state first_found before) b → ⊥) → lower_total xs ≤ most + longest
        by (inr away) =
            let le = brief_where_none before xs behind is (none_follow config app h b lower start (last_state first_found before) xs l k section away) in
            omega (arith, le)
        by (inl blocks) =
            let r : InRound config app w cuts b before =
            in_round config app w cuts b 0 first_found [] before (linked_front 0 first_found before (xs ++ behind) (subst (Linked 0 first_found) is linked))
            (each_append (Known config app) before (xs ++ behind) (subst (AllByRecursion (Known config app)) is known)).0 (λ active. absurd (asleep active)) blocks.active in
            let whole = worked before behind start at spent (last_state first_found before) xs is l k spends placed section in
            let split : run ≡ r.before ++ r.opens ∷ (r.middle ++ (xs ++ behind)) =
            is ∙ ap (λ v. v ++ (xs ++ behind)) r.parts ∙ append_assoc r.before (r.opens ∷ r.middle) (xs ++ behind) in
            let le = bounded r.before (r.middle ++ (xs ++ behind)) r.opens split r.opening in
            let behind_few = round_behind_few cuts b (own config b) r.middle (xs ++ behind) r.open_still in
            let more = round_more cuts b (own config b) xs behind in
            omega (arith, whole, le, behind_few, more)
