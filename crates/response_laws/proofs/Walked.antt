-- The items that the events of a round execute are those of a walk.
use Rattle.std.proofs.Common.{◌≡◌, ℕ, ◌+◌, ◌<◌, ◌≤◌, ◌⊎◌, ◌==◌, ◌&&◌, ◌||◌, not, List, [], ◌∷◌, ◌++◌, Bool, true, false, cond, length, refl, sym, ap, ◌∙◌, subst, arith, inl, inr, append_assoc, append-nil, Some}
use Rattle.std.specs.Prelude.{◌≢◌}
use Rattle.std.specs.List.{AllByRecursion}
use Rattle.std.proofs.lemmas.Bool.{cases_Bool, cases_eq, true≢false, false≢true, eq-eqb, ne_eqb, eqb-true, and_parts, and_right, and_left, not-true}
use Rattle.sloth_base.specs.declared.config.Config.{Config}
use Rattle.sloth_base.specs.declared.app.App.{App}
use Rattle.sloth_base.specs.declared.app.Op.{Op}
use Rattle.sloth_base.specs.declared.app.Op.TheVariants as op
use Rattle.sloth_base.specs.declared.service.Event.{Event}
use Rattle.sloth_base.specs.declared.service.Event.TheVariants as event
use Rattle.sloth_base.specs.declared.service.Service.TheVariants as service
use Rattle.sloth_base.specs.ServiceCodes.{is_service}
use Rattle.osek_scheduler.specs.State.{Frame, System, task, opening}
use Rattle.osek_scheduler.specs.Steps.{OsekStep, IsItemStep}
use Rattle.osek_scheduler.specs.Valid.{IsValid}
use Rattle.osek_scheduler.proofs.Facts.{Facts, facts}
use Rattle.osek_scheduler.proofs.Leading.{follows_leads}
use Rattle.osek_scheduler.proofs.Steps.{opening_valid}
use Rattle.osek_blocking.proofs.Ordering.{opening_ordered}
use Rattle.osek_blocking.specs.Walks.{Position, first_position, IsPositionStep, IsPositionStepTo, AreConsecutive, IsWalk}
use Rattle.osek_blocking.specs.Sections.{operation_at}
use Rattle.osek_blocking.proofs.FrameEffects.{frame_effect}
use Rattle.osek_blocking.proofs.Placed.{Placed, step_placed, opening_placed}
use Rattle.osek_blocking.proofs.Reached.{IsReached, walk_on}
use Rattle.sloth_base.specs.Named.{declaration}
use Rattle.osek_scheduler.specs.declared.state.TaskState.TheVariants as mode
use Rattle.osek_scheduler.specs.Meaning.{meaning}
use Rattle.osek_scheduler.specs.Services.{started_task}
use Rattle.osek_scheduler.specs.State.{Task, sleeping_task, entry_frame}
use Rattle.sloth_base.specs.Named.{body_of}
use Rattle.std.proofs.lemmas.List.{get_or-set_same}
use Rattle.osek_scheduler.specs.Apart.{IsActive}
use Rattle.osek_scheduler.specs.Valid.{InState}
use Rattle.osek_scheduler.proofs.Apart.{at_task}
use Rattle.osek_blocking.specs.Walks.{place, GoesBack, GoesOnInside, LeadsTo}
use Rattle.osek_blocking.proofs.Placed.{FrameEffect}
use Rattle.run_counts.specs.Stages.{Stage, end_of, is_turn, is_entry, run_stages}
use Rattle.run_counts.specs.Rounds.{goes_on_waiting, is_left, closes_round, round_of, total}
use Rattle.run_counts.specs.OwnCounts.{is_preempted, begun, left_begun}
use Rattle.sim_induction.specs.Pace.{ItemSizes, next_size}
use Rattle.sim_induction.specs.Events.{has_frames}
use Rattle.response_laws.specs.Turns.{at_entry, begins_first, begins_next, if_turn}
use Rattle.walk_sums.specs.Rounds.{is_wait, OnlyLast, IsBehindWait, Anywhere}
use Rattle.response_laws.specs.Walked.{standing, is_cut, IsLaterRound, weigh, FirstRoundsWeigh, LaterRoundsWeigh, is_executed, is_back, FitsItem, FitsBegun, RoundsFollowWalks, RoundsFollowWalksOn}
use Rattle.osek_scheduler.specs.Services.{moved_frames, ServiceOutcome, GoesOn, Leaves}
use Rattle.osek_scheduler.specs.Steps.{IsServiceStep}
use Rattle.osek_scheduler.proofs.Steps.{asleep_at}
use Rattle.sloth_base.proofs.Services.{same_service}
use Rattle.sloth_base.specs.declared.service.Service.{Service}
use Rattle.osek_blocking.proofs.Frames.{Served, served_frames}
use Rattle.response_laws.specs.Turns.{in_turn}
use Rattle.run_counts.proofs.Awake.{stays_active, entry_active}
use Rattle.response_laws.proofs.RoundSums.{waiting_turn}
use Rattle.run_counts.proofs.TaskCases.{frames_kept}
use Rattle.response_laws.proofs.Steps.{turn_active, active_declared}
use Rattle.response_laws.proofs.Linked.{Known, Linked, linked_behind, each_append, stages_linked, stages_known}

-- a walk goes on to some place
back_somewhere : (outer : Position) → GoesBack outer [] → ⊥
back_somewhere [] step = step
back_somewhere (caller ∷ outer) step = absurd cc

inside_somewhere : (app : App) (f i : ℕ) (outer : Position) → GoesOnInside app f i outer [] → ⊥
inside_somewhere app f i outer step = none step.3
  where
    none : [] ≡ place f step.0 ∷ outer → ⊥
    none e = cc

op_somewhere : (app : App) (o : Op) (f i : ℕ) (outer : Position) → LeadsTo app o f i outer [] → ⊥
op_somewhere app (op.Invoke g) f i outer step = none step
  where
    none : [] ≡ place g 0 ∷ place f i ∷ outer → ⊥
    none e = cc
op_somewhere app op.Return f i outer step = back_somewhere outer step
op_somewhere app o f i outer step = inside_somewhere app f i outer step

pub somewhere : (app : App) (from : Position) → IsPositionStep app from [] → ⊥
somewhere app [] step = step
somewhere app (here ∷ outer) step = op_somewhere app step.0 here.func here.item outer step.2

begun_stands : (fs : List Frame) → has_frames fs ≡ true → fs ≢ []
begun_stands [] is e = false≢true is
begun_stands (frame ∷ outer) is e = cc

-- ---- one event

-- ---- tasks that wait, or were woken

-- a position to which a walk goes on behind a WaitEvent
pub record BehindWait (app : App) (t : ℕ) (at : Position) : Type 0 where
  pub before : List Position
  pub wait : Position
  pub walk : IsWalk app t (before ++ wait ∷ [])
  pub waits : is_wait (operation_at app wait) ≡ true
  pub step : IsPositionStep app wait at

module _ (config : Config) (app : App) (w : Facts config app) (t : ℕ) where
  -- what an event does to where task t stands
  data View (e : Event) (s next : System) : Type 0 where
    goes : is_executed t e ≡ true → is_turn t e ≡ true → is_left t e ≡ false → IsPositionStep app (standing (task s t).frames) (standing (task next t).frames)
        → (is_wait (operation_at app (standing (task s t).frames)) ≡ true → goes_on_waiting t e ≡ true) → View e s next
    leaves : is_left t e ≡ true → is_turn t e ≡ true → View e s next
    returns : is_back t e ≡ true → is_turn t e ≡ true → is_left t e ≡ false → goes_on_waiting t e ≡ false → (task next t).frames ≡ (task s t).frames → View e s next
    rests : is_turn t e ≡ false → is_left t e ≡ false → goes_on_waiting t e ≡ false → (task next t).frames ≡ (task s t).frames → View e s next

  -- an item that a `run` executes is no WaitEvent
  pub runs_no_wait : (s next : System) (func item result : ℕ) (h : IsItemStep config app t func item result s next)
      → is_wait (operation_at app (standing (task s t).frames)) ≡ true → ⊥
  runs_no_wait s next func item result h is = by h.operation h.means (sym (ap is_wait place_is) ∙ is)
    where
      place_is : operation_at app (standing (task s t).frames) ≡ h.operation
      place_is = ap (λ fs. operation_at app (standing fs)) h.at.frames ∙ h.at.next

      by : (o : Op) → meaning app o (task s t).registers h.at.frame h.at.outer s.symbols ≡ Some h.meant → is_wait o ≡ true → ⊥
      by (op.Serve call) m waits = none m
        where
          none : meaning app (op.Serve call) (task s t).registers h.at.frame h.at.outer s.symbols ≡ Some h.meant → ⊥
          none e = cc
      by op.Return m waits = false≢true waits
      by o m waits = absurd (false≢true waits)

  view : (e : Event) (s next : System) → OsekStep config app e s next → IsValid config app s → (task s t).frames ≢ [] → View e s next
  view (event.Run u func item result) s next step v stands = by (cases_eq u t)
    where
      eff : FrameEffect app s next (event.Run u func item result)
      eff = frame_effect config app w s next v (event.Run u func item result) step

      by : (u ≡ t) ⊎ (u ≡ t → ⊥) → View (event.Run u func item result) s next
      by (inl e) =
          goes (eq-eqb u t e) (eq-eqb u t e) refl (subst (λ k. IsPositionStep app (standing (task s k).frames) (standing (task next k).frames)) e eff.steps.walks)
          (λ is. absurd (runs_no_wait s next func item result (subst (λ k. IsItemStep config app k func item result s next) e step.1) is))
      by (inr n) = rests (ne_eqb u t n) refl refl (eff.others t (λ e. n (sym e))).frames
  view (event.Call u served status) s next step v stands = by (cases_eq u t)
    where
      eff : FrameEffect app s next (event.Call u served status)
      eff = frame_effect config app w s next v (event.Call u served status) step

      place_is : operation_at app (standing (task s u).frames) ≡ op.Serve step.1.1.call
      place_is = ap (λ fs. operation_at app (standing fs)) step.1.1.at.frames ∙ step.1.1.at.next

      by : (u ≡ t) ⊎ (u ≡ t → ⊥) → View (event.Call u served status) s next
      by (inl e) =
          goes (eq-eqb u t e) (eq-eqb u t e) refl (subst (λ k. IsPositionStep app (standing (task s k).frames) (standing (task next k).frames)) e eff.steps.walks)
          (λ is.
          let waits : is_service step.1.1.call.service service.WaitEvent ≡ true =
          sym (ap is_wait place_is) ∙ subst (λ k. is_wait (operation_at app (standing (task s k).frames)) ≡ true) (sym e) is in
          let served_is : is_service served service.WaitEvent ≡ true = subst (λ x. is_service x service.WaitEvent ≡ true) step.1.1.same waits in
          ap (λ b. b && is_service served service.WaitEvent) (eq-eqb u t e) ∙ served_is)
      by (inr n) =
          rests (ne_eqb u t n) refl (and_left (u == t) (is_service served service.WaitEvent) (ne_eqb u t n)) (eff.others t (λ e. n (sym e))).frames
  view (event.Left u served) s next step v stands = by (cases_eq u t)
    where
      eff : FrameEffect app s next (event.Left u served)
      eff = frame_effect config app w s next v (event.Left u served) step

      by : (u ≡ t) ⊎ (u ≡ t → ⊥) → View (event.Left u served) s next
      by (inl e) = leaves (eq-eqb u t e) (eq-eqb u t e)
      by (inr n) = rests (ne_eqb u t n) (ne_eqb u t n) refl (eff.others t (λ e. n (sym e))).frames
  view (event.Back u) s next step v stands = by (cases_eq u t)
    where
      eff : FrameEffect app s next (event.Back u)
      eff = frame_effect config app w s next v (event.Back u) step

      by : (u ≡ t) ⊎ (u ≡ t → ⊥) → View (event.Back u) s next
      by (inl e) = returns (eq-eqb u t e) (eq-eqb u t e) refl refl (subst (λ k. (task next k).frames ≡ (task s k).frames) e eff.frames)
      by (inr n) = rests (ne_eqb u t n) refl refl (eff.others t (λ e. n (sym e))).frames
  view (event.Enter u) s next step v stands = by (cases_eq u t)
    where
      eff : FrameEffect app s next (event.Enter u)
      eff = frame_effect config app w s next v (event.Enter u) step

      -- one that has begun goes on where it stood
      goes_on : (fs : List Frame) → (task s t).frames ≡ fs → fs ≢ [] → (started_task app t fs (task s t)).frames ≡ (task s t).frames
      goes_on [] is some = absurd (some refl)
      goes_on (frame ∷ outer) is some = refl

      entered : (u ≡ t) → (task next t).frames ≡ (task s t).frames
      entered e =
          let there : OsekStep config app (event.Enter t) s next = subst (λ k. OsekStep config app (event.Enter k) s next) e step in
          subst (λ (x : System). (task x t).frames ≡ (task s t).frames) (sym there.4)
          (at_task s t t (record (started_task app t (task s t).frames (task s t)) { state = mode.Active; raised = (declaration config t).non })
          (λ k. k.frames ≡ (task s t).frames) refl (λ _. goes_on (task s t).frames refl stands))

      by : (u ≡ t) ⊎ (u ≡ t → ⊥) → View (event.Enter u) s next
      by (inl e) = rests refl refl refl (entered e)
      by (inr n) = rests refl refl refl (eff.others t (λ e. n (sym e))).frames
  view e s next step v stands = rests refl refl refl (frame_effect config app w s next v e step t).frames

  -- ---- a round

  module _ (cuts : Bool) (f : Stage → ℕ) (going ending : Position → ℕ) (lighter : (at : Position) → going at ≤ ending at) where
    abbrev StartsAt : Position → List Position → Type 0
    StartsAt at [] = Unit {0}
    StartsAt at (first ∷ further) = first ≡ at

    -- positions of a walk from here, which weigh at least so much
    record Found (at : Position) (sum : ℕ) : Type 0 where
      positions : List Position
      starts : StartsAt at positions
      consecutive : AreConsecutive app positions
      cut : OnlyLast app (is_cut cuts) positions
      weighs : sum ≤ weigh going ending positions

    nothing : (at : Position) (sum : ℕ) → sum ≤ 0 → Found at sum
    nothing at sum none = record { positions = []; starts = tt; consecutive = tt; cut = tt; weighs = none }

    -- the item with which the round ends
    last : (at : Position) (sum : ℕ) → sum ≤ ending at → Found at sum
    last at sum le = record { positions = at ∷ []; starts = refl; consecutive = (tt, tt); cut = ((λ some. absurd (some refl)), tt); weighs = le }

    in_sum : (at : Position) (counts rest : ℕ) → counts ≤ going at → (positions : List Position) → rest ≤ weigh going ending positions
        → counts + rest ≤ weigh going ending (at ∷ positions)
    in_sum at counts rest fits [] le = let more = lighter at in omega (arith, fits, le, more)
    in_sum at counts rest fits (next ∷ further) le = omega (arith, fits, le)

    in_front : (at next : Position) (counts rest : ℕ) → IsPositionStep app at next → is_cut cuts (operation_at app at) ≡ false → counts ≤ going at → Found next rest
        → Found at (counts + rest)
    in_front at next counts rest step no_wait fits found = record {
      positions = at ∷ found.positions;
      starts = refl;
      consecutive = (leads found.positions found.starts, found.consecutive);
      cut = ((λ _. no_wait), found.cut);
      weighs = in_sum at counts rest fits found.positions found.weighs;
    }
      where
        leads : (positions : List Position) → StartsAt next positions → IsPositionStepTo app at positions
        leads [] e = tt
        leads (first ∷ further) e = subst (IsPositionStep app at) (sym e) step

    kept : (at next : Position) (counts rest : ℕ) → at ≡ next → counts ≤ 0 → Found next rest → Found at (counts + rest)
    kept at next counts rest same none found =
        subst (λ p. Found p (counts + rest)) (sym same)
        (record {
          positions = found.positions;
          starts = found.starts;
          consecutive = found.consecutive;
          cut = found.cut;
          weighs = let le = found.weighs in omega (arith, none, le);
        })

    lighten : (at : Position) (sum less : ℕ) → less ≤ sum → Found at sum → Found at less
    lighten at sum less le found = record {
      positions = found.positions;
      starts = found.starts;
      consecutive = found.consecutive;
      cut = found.cut;
      weighs = let weight = found.weighs in omega (arith, le, weight);
    }

    module _ (size : ItemSizes) where
      -- what a round has, and the item that it has begun and not ended
      abbrev Sum : (so_far : ℕ) → List Stage → ℕ
      Sum so_far xs = total (if_turn t f) xs + left_begun config size t so_far xs

      abbrev FoundIn : System → ℕ → Type 0
      FoundIn s sum = Found (standing (task s t).frames) sum

      found_on : (at : ℕ) (s : System) (xs : List Stage) (so_far : ℕ) → Linked at s xs → AllByRecursion (Known config app) xs → AllByRecursion (FitsItem t f going ending) xs
          → AllByRecursion (FitsBegun config size t ending) xs → so_far ≤ ending (standing (task s t).frames) → (task s t).frames ≢ [] → FoundIn s (Sum so_far (round_of cuts t xs))
      found_on at s [] so_far l k fits begins few stands = last (standing (task s t).frames) (0 + so_far) (omega (arith, few))
      found_on at s (x ∷ xs) so_far l k fits begins few stands =
          subst (λ (y : System). FoundIn y (Sum so_far (round_of cuts t (x ∷ xs)))) l.1
          (here (view x.stamped.event x.found x.next k.0.step k.0.valid (λ none. stands (ap (λ (y : System). (task y t).frames) (sym l.1) ∙ none)))
          (λ le some. found_on (end_of x) x.next xs behind_so l.2 k.1 fits.1 begins.1 le some))
        where
          there : (task x.found t).frames ≢ []
          there none = stands (ap (λ (y : System). (task y t).frames) (sym l.1) ∙ none)

          few_here : so_far ≤ ending (standing (task x.found t).frames)
          few_here = subst (λ (y : System). so_far ≤ ending (standing (task y t).frames)) (sym l.1) few

          picked : ℕ
          picked = cond (is_preempted config t x) (begun size t x) so_far

          behind_so : ℕ
          behind_so = cond (is_turn t x.stamped.event) 0 picked

          picked_few : picked ≤ ending (standing (task x.found t).frames)
          picked_few = by (is_preempted config t x) begins.0
            where
              by : (b : Bool) → (b ≡ true → begun size t x ≤ ending (standing (task x.found t).frames))
                  → cond b (begun size t x) so_far ≤ ending (standing (task x.found t).frames)
              by true so = so refl
              by false so = few_here

          nothing_begun : is_turn t x.stamped.event ≡ true → behind_so ≡ 0
          nothing_begun is = ap {B = ℕ} (λ b. cond b 0 picked) is

          still_begun : is_turn t x.stamped.event ≡ false → behind_so ≡ picked
          still_begun is = ap {B = ℕ} (λ b. cond b 0 picked) is

          on : is_turn t x.stamped.event ≡ true → if_turn t f x ≡ f x
          on is = ap {B = ℕ} (λ b. cond b (f x) 0) is

          off : is_turn t x.stamped.event ≡ false → if_turn t f x ≡ 0
          off is = ap {B = ℕ} (λ b. cond b (f x) 0) is

          with_closes : (b : Bool) → closes_round cuts t x.stamped.event ≡ b
              → FoundIn x.found (if_turn t f x + Sum behind_so (cond b [] (round_of cuts t xs)))
              → FoundIn x.found (Sum so_far (round_of cuts t (x ∷ xs)))
          with_closes b is found =
              subst (λ c. FoundIn x.found ((if_turn t f x + total (if_turn t f) (cond c [] (round_of cuts t xs))) + left_begun config size t behind_so (cond c [] (round_of cuts t xs)))) (sym is)
              (lighten (standing (task x.found t).frames) _ _ (omega arith) found)

          closes_not : is_left t x.stamped.event ≡ false → goes_on_waiting t x.stamped.event ≡ false → closes_round cuts t x.stamped.event ≡ false
          closes_not stays quiet = ap (λ b. b || (cuts && goes_on_waiting t x.stamped.event)) stays ∙ and_right cuts (goes_on_waiting t x.stamped.event) quiet

          same_frames_next : (task x.next t).frames ≡ (task x.found t).frames → (task x.next t).frames ≢ []
          same_frames_next same none = there (sym same ∙ none)

          here : View x.stamped.event x.found x.next
              → (behind_so ≤ ending (standing (task x.next t).frames) → (task x.next t).frames ≢ [] → FoundIn x.next (Sum behind_so (round_of cuts t xs)))
              → FoundIn x.found (Sum so_far (round_of cuts t (x ∷ xs)))
          here (goes executed turn stays step waits) again = by (cases_Bool (cuts && goes_on_waiting t x.stamped.event))
            where
              some : (task x.next t).frames ≢ []
              some none = somewhere app (standing (task x.found t).frames) (subst (λ fs. IsPositionStep app (standing (task x.found t).frames) (standing fs)) none step)

              by : ((cuts && goes_on_waiting t x.stamped.event) ≡ true) ⊎ ((cuts && goes_on_waiting t x.stamped.event) ≡ false)
                  → FoundIn x.found (Sum so_far (round_of cuts t (x ∷ xs)))
              by (inl ends) =
                  with_closes true (ap (λ b. b || (cuts && goes_on_waiting t x.stamped.event)) stays ∙ ends)
                  (last (standing (task x.found t).frames) _
                  (let le = fits.0.goes executed in let more = lighter (standing (task x.found t).frames) in let a = on turn in let z = nothing_begun turn in omega (arith, le, more, a, z)))
              by (inr more) =
                  with_closes false (ap (λ b. b || (cuts && goes_on_waiting t x.stamped.event)) stays ∙ more)
                  (in_front (standing (task x.found t).frames) (standing (task x.next t).frames) _ _ step no_cut
                  (let le = fits.0.goes executed in let a = on turn in omega (arith, le, a)) (again (let z = nothing_begun turn in omega (arith, z)) some))
                where
                  no_cut : is_cut cuts (operation_at app (standing (task x.found t).frames)) ≡ false
                  no_cut = none cuts (is_wait (operation_at app (standing (task x.found t).frames))) (goes_on_waiting t x.stamped.event) more waits
                    where
                      none : (c w g : Bool) → (c && g) ≡ false → (w ≡ true → g ≡ true) → (c && w) ≡ false
                      none false w g off so = refl
                      none true false g off so = refl
                      none true true g off so = absurd (true≢false (sym (so refl) ∙ off))
          here (leaves is turn) again =
              with_closes true (ap (λ b. b || (cuts && goes_on_waiting t x.stamped.event)) is)
              (last (standing (task x.found t).frames) _ (let le = fits.0.leaves is in let a = on turn in let z = nothing_begun turn in omega (arith, le, a, z)))
          here (returns is turn stays quiet same) again =
              with_closes false (closes_not stays quiet)
              (kept (standing (task x.found t).frames) (standing (task x.next t).frames) _ _ (ap standing (sym same)) (let le = fits.0.returns is in let a = on turn in omega (arith, le, a))
              (again (let z = nothing_begun turn in omega (arith, z)) (same_frames_next same)))
          here (rests away stays quiet same) again =
              with_closes false (closes_not stays quiet)
              (kept (standing (task x.found t).frames) (standing (task x.next t).frames) _ _ (ap standing (sym same)) (let a = off away in omega (arith, a))
              (again (subst (λ fs. behind_so ≤ ending (standing fs)) (sym same) (let z = still_begun away in let le = picked_few in omega (arith, z, le))) (same_frames_next same)))

    anywhere : (positions : List Position) → AllByRecursion Anywhere positions
    anywhere [] = tt
    anywhere (at ∷ further) = (tt, anywhere further)

    -- what is found from where a walk leads is within the greatest sums
    first_found : (most sum : ℕ) → FirstRoundsWeigh app cuts t going ending most → Found (first_position app t) sum → sum ≤ most
    first_found most sum bound found =
        let le = bound found.positions (record {
          before = [];
          of_walk = walk found.positions found.starts found.consecutive;
          begins = refl;
          stands = anywhere found.positions;
          unbroken = found.cut;
        }) in
        let weight = found.weighs in
        omega (arith, le, weight)
      where
        walk : (positions : List Position) → StartsAt (first_position app t) positions → AreConsecutive app positions → IsWalk app t positions
        walk [] e c = tt
        walk (first ∷ further) e c = (e, c)

    later_found : (most sum : ℕ) (at : Position) → LaterRoundsWeigh app cuts t going ending most → BehindWait app t at → Found at sum → sum ≤ most
    later_found most sum at bound b found =
        let le = by found.positions refl in
        let weight = found.weighs in
        omega (arith, le, weight)
      where
        behind : IsBehindWait app (b.before ++ b.wait ∷ [])
        behind = (b.before, b.wait, refl, b.waits)

        by : (positions : List Position) → found.positions ≡ positions → weigh going ending found.positions ≤ most
        by [] e =
            bound found.positions
            (subst (IsLaterRound app cuts t) (sym e)
            (record {
              before = b.before ++ b.wait ∷ [];
              of_walk = subst (IsWalk app t) (sym (append-nil (b.before ++ b.wait ∷ []))) b.walk;
              begins = behind;
              stands = tt;
              unbroken = tt;
            }))
        by (first ∷ further) e =
            let at_first : first ≡ at = subst (StartsAt at) e found.starts in
            bound found.positions
            (record {
              before = b.before ++ b.wait ∷ [];
              of_walk = subst (λ ps. IsWalk app t ((b.before ++ b.wait ∷ []) ++ ps)) (sym e)
                  (subst (IsWalk app t) (sym (append_assoc b.before (b.wait ∷ []) (first ∷ further)))
                  (walk_on app t b.before (first ∷ further) b.wait b.walk
                  (subst (IsPositionStep app b.wait) (sym at_first) b.step, subst (AreConsecutive app) e found.consecutive)));
              begins = behind;
              stands = anywhere found.positions;
              unbroken = found.cut;
            })

module _ (config : Config) (app : App) (w : Facts config app) (t : ℕ) where
  -- a task that is not Active has no frames, or stands behind a WaitEvent
  abbrev pub Stands : System → Type 0
  Stands s = IsActive s t ⊎ (((task s t).frames ≡ []) ⊎ BehindWait app t (standing (task s t).frames))

  pub frames_same : (e : Event) (s next : System) → OsekStep config app e s next → IsValid config app s → is_turn t e ≡ false → is_entry t e ≡ false
      → (task next t).frames ≡ (task s t).frames
  frames_same e s next step v away out = (frames_kept app s next t e (frame_effect config app w s next v e step) away out).frames

  -- an Active task has frames, and stands where a walk leads
  active_reached : (s : System) → IsValid config app s → Placed app s → IsActive s t → IsReached app t (standing (task s t).frames)
  active_reached s v p active = by (p t)
    where
      by : ((task s t).frames ≡ []) ⊎ IsReached app t (standing (task s t).frames) → IsReached app t (standing (task s t).frames)
      by (inl none) = absurd ((subst (InState config t (task s t)) active (v.each t (active_declared config s t v.count active)).in_state).0 none)
      by (inr r) = r

  -- behind a WaitEvent of it
  behind_own : (served : Service) (s : System) (answer : ServiceOutcome) (next : System) → IsServiceStep config app t served s answer → IsValid config app s → Placed app s
      → served ≡ service.WaitEvent → IsPositionStep app (standing (task s t).frames) (standing (task next t).frames)
      → BehindWait app t (standing (task next t).frames)
  behind_own served s answer next h v p is step =
      let r = active_reached s v p h.at.active in
      record {
        before = r.before;
        wait = standing (task s t).frames;
        walk = r.walk;
        waits =
            ap (λ fs. is_wait (operation_at app (standing fs))) h.at.frames ∙ ap is_wait h.at.next
            ∙ ap (λ x. is_service x service.WaitEvent) (h.same ∙ is);
        step = step;
      }

  left_stands : (served : Service) (s next : System) → OsekStep config app (event.Left t served) s next → IsValid config app s → Placed app s
      → ((task next t).frames ≡ []) ⊎ BehindWait app t (standing (task next t).frames)
  left_stands served s next step v p =
      by ((subst (Served t s served) h.is (served_frames t s config served h.call.object h.call.mask)).frames there)
      (frame_effect config app w s next v (event.Left t served) step).frames
    where
      h : IsServiceStep config app t served s (Leaves step.1.0)
      h = step.1.1

      there : t < length s.tasks
      there = subst (λ n. t < n) (sym v.count) h.top.declared

      after : (task next t).frames ≡ (task step.1.0 t).frames
      after = ap (λ (x : System). (task x t).frames) step.1.2

      by : ((task step.1.0 t).frames ≡ []) ⊎ (((task step.1.0 t).frames ≡ moved_frames (task s t).frames) × (served ≡ service.WaitEvent))
          → ((task next t).frames ≡ []) ⊎ IsPositionStep app (standing (task s t).frames) (standing (task next t).frames)
          → ((task next t).frames ≡ []) ⊎ BehindWait app t (standing (task next t).frames)
      by (inl none) f = inl (after ∙ none)
      by (inr waits) (inl none) = inl none
      by (inr waits) (inr moves) = inr (behind_own served s (Leaves step.1.0) next h v p waits.1 moves)

  next_stands : (x : Stage) → Known config app x → Placed app x.found → Stands x.found → Stands x.next
  next_stands x k p stands = by (cases_Bool (is_left t x.stamped.event)) stands
    where
      left : (e : Event) → OsekStep config app e x.found x.next → is_left t e ≡ true → Stands x.next
      left (event.Left u served) step is =
          inr (left_stands served x.found x.next (subst (λ v. OsekStep config app (event.Left v served) x.found x.next) (eqb-true u t is) step) k.valid p)
      left e step is = absurd (false≢true is)

      resting : ((task x.found t).frames ≡ []) ⊎ BehindWait app t (standing (task x.found t).frames)
          → (at_entry t x ≡ true) ⊎ (at_entry t x ≡ false) → (in_turn t x ≡ true) ⊎ (in_turn t x ≡ false) → is_left t x.stamped.event ≡ false → Stands x.next
      resting rest (inl entry) turn away = inl (entry_active config app t x.stamped.event x.found x.next k.step k.valid entry)
      resting rest (inr out) (inl turn) away =
          inl (stays_active config app t x.stamped.event x.found x.next k.step k.valid away (turn_active config app t x k turn))
      resting rest (inr out) (inr idle) away =
          let same = frames_same x.stamped.event x.found x.next k.step k.valid idle out in
          inr (subst (λ fs. (fs ≡ []) ⊎ BehindWait app t (standing fs)) (sym same) rest)

      by : (is_left t x.stamped.event ≡ true) ⊎ (is_left t x.stamped.event ≡ false) → Stands x.found → Stands x.next
      by (inl is) s = left x.stamped.event k.step is
      by (inr away) (inl active) = inl (stays_active config app t x.stamped.event x.found x.next k.step k.valid away active)
      by (inr away) (inr rest) = resting rest (cases_Bool (at_entry t x)) (cases_Bool (in_turn t x)) away

  -- each stage finds it so
  pub all_stand : (at : ℕ) (s : System) (xs : List Stage) → Linked at s xs → AllByRecursion (Known config app) xs → Placed app s → Stands s
      → AllByRecursion (λ x. Stands x.found × Placed app x.found) xs
  all_stand at s [] l k p stands = tt
  all_stand at s (x ∷ xs) l k p stands =
      let here : Placed app x.found = subst (Placed app) (sym l.1) p in
      let standing_here : Stands x.found = subst Stands (sym l.1) stands in
      let next = step_placed config app x.found x.next x.stamped.event (frame_effect config app w x.found x.next k.0.valid x.stamped.event k.0.step) here in
      ((standing_here, here), all_stand (end_of x) x.next xs l.2 k.1 next (next_stands x k.0 here standing_here))

  -- behind where a round begins that is not the first, it stands behind a WaitEvent
  pub behind_wait : (cuts : Bool) (x : Stage) → Known config app x → Stands x.found → Placed app x.found → begins_next cuts t x ≡ true
      → BehindWait app t (standing (task x.next t).frames)
  behind_wait cuts x k stands p is = which (cases_Bool (at_entry t x && has_frames (task x.found t).frames))
    where
      same_at_entry : (e : Event) → OsekStep config app e x.found x.next → is_entry t e ≡ true → has_frames (task x.found t).frames ≡ true
          → (task x.next t).frames ≡ (task x.found t).frames
      same_at_entry (event.Enter u) step entry begun =
          by (view config app w t (event.Enter u) x.found x.next step k.valid (begun_stands (task x.found t).frames begun))
        where
          by : View config app w t (event.Enter u) x.found x.next → (task x.next t).frames ≡ (task x.found t).frames
          by (goes executed turn stays steps waits) = absurd (false≢true executed)
          by (leaves is turn) = absurd (false≢true is)
          by (returns is turn stays quiet same) = same
          by (rests away stays quiet same) = same
      same_at_entry e step entry begun = absurd (false≢true entry)

      not_active : (e : Event) → OsekStep config app e x.found x.next → is_entry t e ≡ true → IsActive x.found t → ⊥
      not_active (event.Enter u) step entry active =
          differ (sym (subst (λ v. (task x.found v).state ≡ mode.Ready) (eqb-true u t entry) step.2) ∙ active)
        where
          differ : mode.Ready ≡ mode.Active → ⊥
          differ e = cc
      not_active e step entry active = absurd (false≢true entry)

      entered : at_entry t x ≡ true → has_frames (task x.found t).frames ≡ true → Stands x.found → BehindWait app t (standing (task x.next t).frames)
      entered entry begun (inl active) = absurd (not_active x.stamped.event k.step entry active)
      entered entry begun (inr (inl none)) = absurd (begun_stands (task x.found t).frames begun none)
      entered entry begun (inr (inr behind)) =
          subst (λ fs. BehindWait app t (standing fs)) (sym (same_at_entry x.stamped.event k.step entry begun)) behind

      waited : (e : Event) → OsekStep config app e x.found x.next → goes_on_waiting t e ≡ true → BehindWait app t (standing (task x.next t).frames)
      waited (event.Call u served status) step waits =
          let both = and_parts (u == t) (is_service served service.WaitEvent) waits in
          let own : OsekStep config app (event.Call t served status) x.found x.next =
          subst (λ v. OsekStep config app (event.Call v served status) x.found x.next) (eqb-true u t both.0) step in
          behind_own served x.found (GoesOn status own.1.0) x.next own.1.1 k.valid p (same_service served service.WaitEvent both.1)
          (frame_effect config app w x.found x.next k.valid (event.Call t served status) own).steps.walks
      waited e step waits = absurd (false≢true waits)

      which : ((at_entry t x && has_frames (task x.found t).frames) ≡ true) ⊎ ((at_entry t x && has_frames (task x.found t).frames) ≡ false)
          → BehindWait app t (standing (task x.next t).frames)
      which (inl entry) =
          let both = and_parts (at_entry t x) (has_frames (task x.found t).frames) entry in
          entered both.0 both.1 stands
      which (inr other) =
          let on = sym (ap (λ b. b || (cuts && goes_on_waiting t x.stamped.event)) other) ∙ is in
          waited x.stamped.event k.step (and_parts cuts (goes_on_waiting t x.stamped.event) on).1

-- ---- rounds of a run

module _ (config : Config) (app : App) (w : Facts config app) where
  -- a task that is entered anew stands at the first item of its body
  stands_first : (t : ℕ) (x : Stage) → Known config app x → begins_first t x ≡ true
      → (standing (task x.next t).frames ≡ first_position app t) × ((task x.next t).frames ≢ [])
  stands_first t x k is =
      let both = and_parts (at_entry t x) (not (has_frames (task x.found t).frames)) is in
      by x.stamped.event k.step both.0 (not-true (has_frames (task x.found t).frames) both.1)
    where
      none_begun : (fs : List Frame) → has_frames fs ≡ false → fs ≡ []
      none_begun [] e = refl
      none_begun (frame ∷ outer) e = absurd (true≢false e)

      by : (e : Event) → OsekStep config app e x.found x.next → is_entry t e ≡ true → has_frames (task x.found t).frames ≡ false
          → (standing (task x.next t).frames ≡ first_position app t) × ((task x.next t).frames ≢ [])
      by (event.Enter u) step entry fresh =
          let there : OsekStep config app (event.Enter t) x.found x.next = subst (λ v. OsekStep config app (event.Enter v) x.found x.next) (eqb-true u t entry) step in
          let lt : t < length x.found.tasks = subst (λ n. t < n) (sym k.valid.count) there.1.declared in
          let new = record (started_task app t (task x.found t).frames (task x.found t)) { state = mode.Active; raised = (declaration config t).non } in
          let placed_new : task x.next t ≡ new = ap (λ (y : System). task y t) there.4 ∙ get_or-set_same x.found.tasks t new sleeping_task lt in
          let frames_are : (task x.next t).frames ≡ entry_frame app (body_of app.funcs t) ∷ [] =
          ap (λ (o : Task). o.frames) placed_new ∙ ap (λ fs. (started_task app t fs (task x.found t)).frames) (none_begun (task x.found t).frames fresh) in
          (ap standing frames_are, λ none. empty (sym frames_are ∙ none))
        where
          empty : entry_frame app (body_of app.funcs t) ∷ [] ≡ [] → ⊥
          empty e = cc
      by e step entry fresh = absurd (false≢true entry)

  -- behind a wait it has frames
  stands_again : (cuts : Bool) (t : ℕ) (x : Stage) → Known config app x → begins_next cuts t x ≡ true → (task x.next t).frames ≢ []
  stands_again cuts t x k is = which (cases_Bool (at_entry t x && has_frames (task x.found t).frames))
    where
      entered : has_frames (task x.found t).frames ≡ true → (e : Event) → OsekStep config app e x.found x.next → is_entry t e ≡ true → (task x.next t).frames ≢ []
      entered begun (event.Enter u) step entry none =
          by (view config app w t (event.Enter u) x.found x.next step k.valid (begun_stands (task x.found t).frames begun))
        where
          by : View config app w t (event.Enter u) x.found x.next → ⊥
          by (goes executed turn stays steps waits) = false≢true executed
          by (leaves is turn) = false≢true is
          by (returns is turn stays quiet same) = false≢true is
          by (rests away stays quiet same) = begun_stands (task x.found t).frames begun (sym same ∙ none)
      entered begun e step entry none = absurd (false≢true entry)

      waited : goes_on_waiting t x.stamped.event ≡ true → (task x.next t).frames ≢ []
      waited waits none =
          by (view config app w t x.stamped.event x.found x.next k.step k.valid stands)
        where
          active : IsActive x.found t
          active = turn_active config app t x k (waiting_turn t x.stamped.event waits)

          stands : (task x.found t).frames ≢ []
          stands =
              (subst (InState config t (task x.found t)) active
              (k.valid.each t (active_declared config x.found t k.valid.count active)).in_state).0

          by : View config app w t x.stamped.event x.found x.next → ⊥
          by (goes executed turn stays steps also) =
              somewhere app (standing (task x.found t).frames) (subst (λ fs. IsPositionStep app (standing (task x.found t).frames) (standing fs)) none steps)
          by (leaves is turn) = left_apart x.stamped.event is waits
            where
              left_apart : (e : Event) → is_left t e ≡ true → goes_on_waiting t e ≡ true → ⊥
              left_apart (event.Left u served) is waits = false≢true waits
              left_apart e is waits = absurd (false≢true is)
          by (returns is turn stays quiet same) = true≢false (sym waits ∙ quiet)
          by (rests away stays quiet same) = true≢false (sym waits ∙ quiet)

      which : ((at_entry t x && has_frames (task x.found t).frames) ≡ true) ⊎ ((at_entry t x && has_frames (task x.found t).frames) ≡ false) → (task x.next t).frames ≢ []
      which (inl entry) =
          let both = and_parts (at_entry t x) (has_frames (task x.found t).frames) entry in
          entered both.1 x.stamped.event k.step both.0
      which (inr other) =
          let on = sym (ap (λ b. b || (cuts && goes_on_waiting t x.stamped.event)) other) ∙ is in
          waited (and_parts cuts (goes_on_waiting t x.stamped.event) on).1

pub rounds_follow_on : RoundsFollowWalksOn
rounds_follow_on config app events t cuts f going ending size wf osek fits begins lighter before behind opens is = (
  λ most bound begun.
      let first = stands_first config app w t opens here begun in
      first_found config app w t cuts f going ending lighter most _ bound
      (subst (λ p. Found config app w t cuts f going ending lighter p (total (if_turn t f) (round_of cuts t behind) + left_begun config size t 0 (round_of cuts t behind))) first.0 (found first.1)),
  λ most bound begun.
      let some = stands_again config app w cuts t opens here begun in
      later_found config app w t cuts f going ending lighter most _ (standing (task opens.next t).frames) bound
      (behind_wait config app w t cuts opens here own.0 own.1 begun) (found some),
)
  where
    w : Facts config app
    w = facts config app wf

    known : AllByRecursion (Known config app) (run_stages config app events)
    known =
        stages_known config app w 0 (opening config app) osek.0 events (opening_ordered config app) (opening_valid config app)
        (follows_leads config app [] (opening config app) events osek.0 osek.1)

    here : Known config app opens
    here = (each_append (Known config app) before (opens ∷ behind) (subst (AllByRecursion (Known config app)) is known)).1.0

    stand : AllByRecursion (λ x. Stands config app w t x.found × Placed app x.found) (run_stages config app events)
    stand =
        all_stand config app w t 0 (opening config app) (run_stages config app events) (stages_linked config app 0 (opening config app) events) known
        (opening_placed config app) (inr (inl (ap (λ (k : Task). k.frames) (asleep_at config.tasks t))))

    own : Stands config app w t opens.found × Placed app opens.found
    own =
        (each_append (λ x. Stands config app w t x.found × Placed app x.found) before (opens ∷ behind)
        (subst (AllByRecursion (λ x. Stands config app w t x.found × Placed app x.found)) is stand)).1.0

    links : Linked (end_of opens) opens.next behind
    links =
        (linked_behind 0 (opening config app) before (opens ∷ behind)
        (subst (Linked 0 (opening config app)) is (stages_linked config app 0 (opening config app) events))).2

    found : (task opens.next t).frames ≢ []
        → Found config app w t cuts f going ending lighter (standing (task opens.next t).frames)
        (total (if_turn t f) (round_of cuts t behind) + left_begun config size t 0 (round_of cuts t behind))
    found stands =
        found_on config app w t cuts f going ending lighter size (end_of opens) opens.next behind 0 links
        (each_append (Known config app) before (opens ∷ behind) (subst (AllByRecursion (Known config app)) is known)).1.1
        (each_append (FitsItem t f going ending) before (opens ∷ behind) (subst (AllByRecursion (FitsItem t f going ending)) is fits)).1.1
        (each_append (FitsBegun config size t ending) before (opens ∷ behind) (subst (AllByRecursion (FitsBegun config size t ending)) is begins)).1.1
        (omega arith) stands

-- the same of the events alone: of items of no size none is begun
pub rounds_follow_walks : RoundsFollowWalks
rounds_follow_walks config app events t cuts f going ending wf osek fits lighter before behind opens is =
    let both = rounds_follow_on config app events t cuts f going ending (λ g i. 0) wf osek fits (none_begun (run_stages config app events)) lighter before behind opens is in (
      λ most bound begins. let le = both.0 most bound begins in omega (arith, le),
      λ most bound begins. let le = both.1 most bound begins in omega (arith, le),
    )
  where
    none_of : (b : Bool) (fs : List Frame) → cond b 0 (next_size (λ g i. 0) fs) ≤ 0
    none_of true fs = omega arith
    none_of false [] = omega arith
    none_of false (frame ∷ outer) = omega arith

    none_begun : (xs : List Stage) → AllByRecursion (FitsBegun config (λ g i. 0) t ending) xs
    none_begun [] = tt
    none_begun (x ∷ xs) = ((λ _. let none = none_of (task x.found t).owed (task x.found t).frames in omega (arith, none)), none_begun xs)
