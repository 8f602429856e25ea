-- While the task of highest priority is Ready, what the turns of lower tasks take is one item and a section at most.
use Rattle.std.proofs.Common.{◌≡◌, ◌∙◌, ℕ, ◌+◌, ◌-◌, ◌<◌, ◌≤◌, ◌⊎◌, List, [], ◌∷◌, Bool, true, false, cond, length, is_some, refl, sym, ap, subst, arith, inl, inr, Option, Some, None}
use Rattle.std.specs.Prelude.{◌≢◌}
use Rattle.std.proofs.lemmas.Bool.{true≢false, false≢true, cases_Bool, cases_lt, cond_both, cond-true, lt-ltb}
use Rattle.sloth_base.specs.declared.config.Config.{Config}
use Rattle.sloth_base.specs.declared.app.App.{App}
use Rattle.sloth_base.specs.declared.service.Event.{Event}
use Rattle.sloth_base.specs.declared.service.Event.TheVariants as event
use Rattle.sloth_base.specs.declared.service.Stamped.{Stamped}
use Rattle.sloth_base.specs.Events.{admitted_line, is_boot, working_task}
use Rattle.code_rules.specs.Code.{is_in}
use Rattle.osek_scheduler.specs.State.{Frame, System, task}
use Rattle.osek_scheduler.specs.InTime.{is_admit}
use Rattle.osek_scheduler.specs.Steps.{OsekStep}
use Rattle.osek_scheduler.specs.Apart.{static_priority, IsActive}
use Rattle.osek_scheduler.proofs.Facts.{Facts}
use Rattle.osek_blocking.specs.Blocking.{is_entry_of, events_up_to_entry, IsRaisedTo}
use Rattle.osek_blocking.proofs.Once.{Blocks, BlocksAlone, blocker, called}
use Rattle.osek_blocking.specs.Walks.{Position}
use Rattle.osek_blocking.specs.Sections.{IsLower}
use Rattle.osek_blocking.proofs.Frames.{SameFrames, KeepsFrames}
use Rattle.osek_blocking.proofs.FrameEffects.{frame_effect}
use Rattle.osek_blocking.proofs.Placed.{FrameEffect}
use Rattle.osek_blocking.proofs.Raised.{at_position}
use Rattle.osek_blocking.proofs.Reached.{IsReached}
use Rattle.osek_blocking.proofs.Stepping.{position_of}
use Rattle.osek_blocking.proofs.Window.{LowerPair, Waits}
use Rattle.bound_rules.specs.declared.bound.BodyWeights.{BodyWeights}
use Rattle.bound_rules.specs.Weights.{going_weight, ending_weight}
use Rattle.walk_sums.specs.Weights.{ending_at}
use Rattle.sim_induction.specs.Pace.{ItemSizes, paced_counts}
use Rattle.sim_induction.specs.Paced.{GoesInPace, ArePacedTo}
use Rattle.run_counts.specs.EntryLatency.{IsHighest, is_tick}
use Rattle.run_counts.proofs.Awaiting.{Awaits, is_outside, next_awaits}
use Rattle.run_counts.proofs.Turns.{IsLeft, Working, Leaving, Turn, turn_outside, turn_work, turn_leave, turn}
use Rattle.run_counts.proofs.Waiting.{waiting, goes_on, out_next, no_new, works_blocks, leaves_blocks, nobody_waits, none_waits}
use Rattle.run_counts.specs.Spending.{WeighsItems, NoSumIsAbove, NoneIsLower}
use Rattle.run_counts.specs.Rounds.{next_ending, WeighsEndings}
use Rattle.run_counts.specs.Latency.{TakesWithin}
use Rattle.run_counts.proofs.Weighed.{paced_leads, spends_at_most}
use Rattle.run_counts.proofs.Rounded.{IsWithin, left_fits}
use Rattle.run_counts.proofs.Summed.{Found, nothing, in_front, kept, within, place_few}

-- ---- what is no task's turn

-- it leaves all tasks where they stand
outside_keeps : (app : App) (s next : System) (what : Event) → is_outside what ≡ true → FrameEffect app s next what → KeepsFrames s next
outside_keeps app s next (event.Admit t) is keeps = keeps
outside_keeps app s next (event.Due c) is keeps = keeps
outside_keeps app s next (event.Tick c) is keeps = keeps
outside_keeps app s next what is keeps = absurd (false≢true is)

-- what a turn takes: the counts of its event, with those behind the event before it
abbrev pub taken_with : (at : ℕ) → Stamped → ℕ
taken_with at e = cond (is_outside e.event) 0 (e.stamp.at - at)

-- the same of these events, behind one that ended at count `at`
abbrev pub taken : (at : ℕ) → List Stamped → ℕ
taken at [] = 0
taken at (e ∷ events) = taken_with at e + taken (cond (is_admit e) at e.stamp.at) events

-- where no event is a turn nothing is taken
pub none_taken : (at : ℕ) (events : List Stamped) → waiting events ≡ 0 → taken at events ≡ 0
none_taken at [] none = refl
none_taken at (e ∷ events) none = by (cases_Bool (is_outside e.event)) (none_taken (cond (is_admit e) at e.stamp.at) events)
  where
    by : (is_outside e.event ≡ true) ⊎ (is_outside e.event ≡ false) → (waiting events ≡ 0 → taken (cond (is_admit e) at e.stamp.at) events ≡ 0) → taken at (e ∷ events) ≡ 0
    by (inl is) rest =
        let front = ap (λ b. cond b 0 (e.stamp.at - at)) is in
        let further = rest (omega (arith, none)) in
        omega (arith, front, further)
    by (inr other) rest = let one = ap {B = ℕ} (λ b. cond b 0 1) other in absurd (omega (arith, none, one))

-- ---- a section that a task leaves

module _ {config : Config} {app : App} {h l : ℕ} (pair : LowerPair config app h l) (size : ItemSizes) (longest : ℕ) (weights : List BodyWeights) (weighs : WeighsItems app size weights) where
  -- of one position, with which the task leaves
  at_end : (s : System) (counts : ℕ) → Waits pair s → IsActive s l → (task s l).owed ≡ false → IsRaisedTo config s l h
      → counts ≤ ending_at weights (position_of (task s l).frames) → Found pair size longest weights weighs s counts
  at_end s counts x active free raised fits = by (x.placed l)
    where
      here : Position
      here = position_of (task s l).frames

      by : ((task s l).frames ≡ []) ⊎ IsReached app l here → Found pair size longest weights weighs s counts
      by (inl none) =
          let zero_is : ending_at weights (position_of (task s l).frames) ≡ 0 = ap (λ (fs : List Frame). ending_at weights (position_of fs)) none in
          nothing pair size longest weights weighs s counts (omega (arith, fits, zero_is))
      by (inr reached) = record {
        positions = here ∷ [];
        starts = refl;
        consecutive = (tt, tt);
        raised = (subst (λ p. static_priority config h ≤ p) (at_position config app s l x.valid pair.lower.0 active free) raised, tt);
        unbroken = (λ more. absurd (more refl), tt);
        sum = fits;
        free = λ _. free;
        reached = λ _. reached;
      }

-- ---- the task of highest priority

module _ (config : Config) (app : App) (w : Facts config app) (h : ℕ) (declared : h < length config.tasks) (highest : IsHighest config h) (size : ItemSizes) (longest : ℕ)
    (weights : List BodyWeights) (weighs : WeighsItems app size weights) (ends : WeighsEndings app size weights) where
  abbrev Stands : System → Type 0
  Stands s = Awaits config app w h declared highest s

  abbrev up_to : List Stamped → List Stamped
  up_to events = events_up_to_entry h events

  abbrev Paced : (at : ℕ) → List Stamped → System → System → Type 0
  Paced at events s end = ArePacedTo config app size longest at events s end

  abbrev behind_it : (at : ℕ) → Stamped → ℕ
  behind_it at e = cond (is_admit e) at e.stamp.at

  -- task h with a lower one
  abbrev pair_of : (u : ℕ) → IsLower config h u → LowerPair config app h u
  pair_of u lower = record { facts = w; declared = declared; lower = lower }

  waits_of : (u : ℕ) (lower : IsLower config h u) (s : System) → Stands s → Waits (pair_of u lower) s
  waits_of u lower s x = record { valid = x.valid; ordered = x.ordered; placed = x.placed; ready = x.ready }

  -- a section of a lower task from where it stands
  abbrev Section : (u : ℕ) → IsLower config h u → System → ℕ → Type 0
  Section u lower s counts = Found (pair_of u lower) size longest weights weighs s counts

  ending_is : (frames : List Frame) → next_ending weights frames ≡ ending_at weights (position_of frames)
  ending_is [] = refl
  ending_is (frame ∷ outer) = refl

  -- what a task takes as it leaves is within its item
  leave_fits : (what : Event) (counts t : ℕ) (s next : System) → IsLeft t what → OsekStep config app what s next → IsWithin config app size longest weights weighs ends w counts what s
      → counts ≤ ending_at weights (position_of (task s t).frames)
  leave_fits (event.Left u served) counts t s next same step fits =
      let le = left_fits config app size longest weights weighs ends w counts u served s next step fits in
      let place = ending_is (task s u).frames in
      subst (λ v. counts ≤ ending_at weights (position_of (task s v).frames)) same (omega (arith, le, place))
  leave_fits what counts t s next left step fits = absurd left

  -- the counts of a turn are within what the event may take
  turn_within : (e : Stamped) (at : ℕ) (s : System) → GoesInPace config app size longest at s e
      → IsWithin config app size longest weights weighs ends w (e.stamp.at - at) e.event s
  turn_within e at s goes other later = let soon = goes.ends other later in omega (arith, soon)

  all_taken : (at : ℕ) (e : Stamped) → is_outside e.event ≡ false → taken_with at e ≡ e.stamp.at - at
  all_taken at e other = ap (λ b. cond b 0 (e.stamp.at - at)) other

  nothing_taken : (at : ℕ) (e : Stamped) → is_outside e.event ≡ true → taken_with at e ≡ 0
  nothing_taken at e is = ap (λ b. cond b 0 (e.stamp.at - at)) is

  -- where nobody blocks nothing is taken
  nobody_takes : (at : ℕ) (events : List Stamped) (s end : System) → Stands s → is_in h s.fresh ≡ false → ((u : ℕ) → ¬ (Blocks config h s u)) → Paced at events s end
      → taken at (up_to events) ≡ 0
  nobody_takes at events s end x out nobody paced =
      none_taken at (up_to events)
      (nobody_waits config app w h declared highest events s end x out nobody (paced_leads config app size longest at events s end paced))

  -- ---- where one task alone may block

  abbrev TakesSection : List Stamped → Type 0
  TakesSection events = (at : ℕ) (s end : System) (u : ℕ) (lower : IsLower config h u) → Stands s → is_in h s.fresh ≡ false → BlocksAlone config h s u → Paced at events s end
      → Section u lower s (taken at (up_to events))

  section_cons : (e : Stamped) (events : List Stamped) → TakesSection events → TakesSection (e ∷ events)
  section_cons e events again at s end u lower x out alone paced =
      goes_on config app w h declared highest s x e events paced.0 paced.2 (λ es. Section u lower s (taken at es))
      (nothing (pair_of u lower) size longest weights weighs s 0 refl)
      (λ away. by away (turn config app w h declared highest s paced.0 x e.event paced.2 away).2)
    where
      next_stands : is_entry_of h e.event ≡ false → Stands paced.0
      next_stands away = next_awaits config app w h declared highest s paced.0 x e.event paced.2 away

      next_out : is_in h paced.0.fresh ≡ false
      next_out = out_next config app w h declared highest s x e events paced.0 paced.2 out

      further : is_entry_of h e.event ≡ false → Section u lower paced.0 (taken (behind_it at e) (up_to events))
      further away =
          again (behind_it at e) paced.0 end u lower (next_stands away) next_out
          (λ v b. alone v (no_new config app w h declared highest s x e events paced.0 paced.2 out v b)) paced.3

      -- the sum in front of what is behind
      whole : (counts : ℕ) → taken_with at e ≡ counts → counts + taken (behind_it at e) (up_to events) ≡ taken at (e ∷ up_to events)
      whole counts is = sym (ap (λ n. n + taken (behind_it at e) (up_to events)) is)

      works : (t : ℕ) → t ≡ u → is_entry_of h e.event ≡ false → is_outside e.event ≡ false → Working config app w h declared highest s paced.0 x e.event t → Blocks config h s t
          → Section u lower s (taken at (e ∷ up_to events))
      works t same away other k b =
          let own : Working config app w h declared highest s paced.0 x e.event u = subst (λ v. Working config app w h declared highest s paced.0 x e.event v) same k in
          let raised : IsRaisedTo config s u h = subst (λ v. IsRaisedTo config s v h) same b.raised in
          subst (Section u lower s) (whole (e.stamp.at - at) (all_taken at e other))
          (in_front (pair_of u lower) size longest weights weighs s paced.0 (e.stamp.at - at) (taken (behind_it at e) (up_to events)) (waits_of u lower s x) own.active own.free raised
          own.step (spends_at_most config app size longest weights weighs e at s paced.0 u paced.2 own.works paced.1) (further away))

      leaves : (t : ℕ) → t ≡ u → is_entry_of h e.event ≡ false → is_outside e.event ≡ false → Leaving config app w h declared highest s paced.0 x e.event t → Blocks config h s t
          → Section u lower s (taken at (e ∷ up_to events))
      leaves t same away other k b =
          let own : Leaving config app w h declared highest s paced.0 x e.event u = subst (λ v. Leaving config app w h declared highest s paced.0 x e.event v) same k in
          let raised : IsRaisedTo config s u h = subst (λ v. IsRaisedTo config s v h) same b.raised in
          let rest = nobody_takes (behind_it at e) events paced.0 end (next_stands away) next_out
          (λ v c. own.gone (subst (IsActive paced.0) (alone v (no_new config app w h declared highest s x e events paced.0 paced.2 out v c)) c.active)) paced.3 in
          let front = all_taken at e other in
          let all : e.stamp.at - at ≡ taken at (e ∷ up_to events) = omega (arith, rest, front) in
          subst (Section u lower s) all
          (at_end (pair_of u lower) size longest weights weighs s (e.stamp.at - at) (waits_of u lower s x) own.calls.was own.free raised
          (leave_fits e.event (e.stamp.at - at) u s paced.0 own.leaves paced.2 (turn_within e at s paced.1)))

      by : is_entry_of h e.event ≡ false → Turn config app w h declared highest s paced.0 x e.event → Section u lower s (taken at (e ∷ up_to events))
      by away (turn_outside none is) =
          let same : SameFrames (task s u) (task paced.0 u) =
          outside_keeps app s paced.0 e.event is (frame_effect config app w s paced.0 x.valid e.event paced.2) u in
          let front = nothing_taken at e is in
          let all : taken (behind_it at e) (up_to events) ≡ taken at (e ∷ up_to events) = omega (arith, front) in
          subst (Section u lower s) all
          (kept (pair_of u lower) size longest weights weighs s paced.0 (taken (behind_it at e) (up_to events)) same (further away))
      by away (turn_work t other k) =
          let b = works_blocks config app w h declared highest s x e events paced.0 paced.2 t k out in
          works t (alone t b) away other k b
      by away (turn_leave t other k) =
          let b = leaves_blocks config app w h declared highest s x e events paced.0 paced.2 t k out in
          leaves t (alone t b) away other k b

  takes_section : (events : List Stamped) → TakesSection events
  takes_section [] at s end u lower x out alone paced = nothing (pair_of u lower) size longest weights weighs s 0 refl
  takes_section (e ∷ events) at s end u lower x out alone paced = section_cons e events (takes_section events) at s end u lower x out alone paced

  -- ---- from an arrival on

  module _ (bound : ℕ) (limits : TakesWithin config app weights h bound) where
    -- behind an event nothing but a section is taken
    rest_within : (at : ℕ) (events : List Stamped) (s end : System) → Stands s → is_in h s.fresh ≡ false → Paced at events s end → taken at (up_to events) ≤ limits.most
    rest_within at events s end x out paced = by (cases_lt u (length config.tasks)) (cases_lt (static_priority config u) (static_priority config h))
      where
        one : (b : ℕ) × BlocksAlone config h s b
        one = blocker config h s x.ordered

        u : ℕ
        u = one.0

        nobody : ((v : ℕ) → ¬ (Blocks config h s v)) → taken at (up_to events) ≤ limits.most
        nobody none = let zero_is = nobody_takes at events s end x out none paced in omega (arith, zero_is)

        by : (u < length config.tasks) ⊎ (length config.tasks ≤ u) → (static_priority config u < static_priority config h) ⊎ (static_priority config h ≤ static_priority config u)
            → taken at (up_to events) ≤ limits.most
        by (inl there) (inl low) =
            within (pair_of u (there, low)) size longest weights weighs limits.most limits.heaviest (limits.none_above u (there, low)) limits.items s (taken at (up_to events))
            (takes_section events at s end u (there, low) x out one.1 paced)
        by (inl there) (inr high) =
            nobody (λ v b. let same = ap (static_priority config) (one.1 v b) in let low = b.lower in absurd (omega (arith, same, low, high)))
        by (inr past) other =
            nobody (λ v b. let same = one.1 v b in let there = b.declared in absurd (omega (arith, same, there, past)))

    -- an item with which a task leaves
    place_ends : (at : Position) → ending_at weights at ≤ bound
    place_ends [] = omega arith
    place_ends (here ∷ outer) = limits.leaves here.func here.item

    abbrev TakesMost : List Stamped → Type 0
    TakesMost events = (at : ℕ) (s end : System) → Stands s → Paced at events s end → taken at (up_to events) ≤ bound

    most_cons : (e : Stamped) (events : List Stamped) → TakesMost events → TakesMost (e ∷ events)
    most_cons e events again at s end x paced =
        goes_on config app w h declared highest s x e events paced.0 paced.2 (λ es. taken at es ≤ bound) (omega arith)
        (λ away. by away (turn config app w h declared highest s paced.0 x e.event paced.2 away).2)
      where
        next_stands : is_entry_of h e.event ≡ false → Stands paced.0
        next_stands away = next_awaits config app w h declared highest s paced.0 x e.event paced.2 away

        by : is_entry_of h e.event ≡ false → Turn config app w h declared highest s paced.0 x e.event → taken at (e ∷ up_to events) ≤ bound
        by away (turn_outside none is) =
            let rest = again (behind_it at e) paced.0 end (next_stands away) paced.3 in
            let front = nothing_taken at e is in
            omega (arith, rest, front)
        by away (turn_work t other k) =
            let rest = rest_within (behind_it at e) events paced.0 end (next_stands away) (ap (is_in h) k.settles) paced.3 in
            let fits = spends_at_most config app size longest weights weighs e at s paced.0 t paced.2 k.works paced.1 in
            let few = place_few (pair_of t k.lower) size longest weights weighs limits.most limits.heaviest (limits.none_above t k.lower) limits.items (position_of (task s t).frames) in
            let front = all_taken at e other in
            let sum = limits.sum in
            omega (arith, rest, fits, few, front, sum)
        by away (turn_leave t other k) =
            let before = blocker config h s x.ordered in
            let test = lt-ltb _ _ k.lower.1 in
            let both = called config app h declared s paced.0 x.ready t before.0 before.1 k.calls (inl test) in
            let alone : BlocksAlone config h paced.0 t = subst (BlocksAlone config h paced.0) (cond-true _ t before.0 test) both in
            let rest = nobody_takes (behind_it at e) events paced.0 end (next_stands away) (ap (is_in h) k.calls.moves.acts.settles)
            (λ v b. k.gone (subst (IsActive paced.0) (alone v b) b.active)) paced.3 in
            let fits = leave_fits e.event (e.stamp.at - at) t s paced.0 k.leaves paced.2 (turn_within e at s paced.1) in
            let few = place_ends (position_of (task s t).frames) in
            let front = all_taken at e other in
            omega (arith, rest, fits, few, front)

    pub takes_most : (events : List Stamped) → TakesMost events
    takes_most [] at s end x paced = omega arith
    takes_most (e ∷ events) at s end x paced = most_cons e events (takes_most events) at s end x paced

  -- where no task is lower nothing is taken
  pub none_takes : NoneIsLower config h → (at : ℕ) (events : List Stamped) (s end : System) → Stands s → Paced at events s end → taken at (up_to events) ≡ 0
  none_takes nobody at events s end x paced =
      none_taken at (up_to events)
      (none_waits config app w h declared highest nobody events s end x (paced_leads config app size longest at events s end paced))
