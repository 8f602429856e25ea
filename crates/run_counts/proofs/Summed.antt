-- What a lower task spends while task h is Ready is at most the sum of a section of a walk of it.
use Rattle.std.proofs.Common.{◌≡◌, ◌∙◌, ℕ, ◌+◌, ◌-◌, ◌≤◌, ◌⊎◌, List, [], ◌∷◌, ◌++◌, Bool, true, false, cond, refl, sym, ap, subst, arith, inl, inr, Option, Some, None}
use Rattle.std.specs.Prelude.{◌≢◌}
use Rattle.std.specs.List.{AllByRecursion}
use Rattle.std.proofs.lemmas.Bool.{true≢false, cases_Bool, cond-true, lt-ltb}
use Rattle.sloth_base.specs.declared.config.Config.{Config}
use Rattle.sloth_base.specs.declared.app.App.{App}
use Rattle.sloth_base.specs.declared.service.Event.{Event}
use Rattle.sloth_base.specs.declared.service.Event.TheVariants as event
use Rattle.sloth_base.specs.declared.service.Stamped.{Stamped}
use Rattle.sloth_base.specs.Events.{working_task}
use Rattle.code_rules.specs.Code.{is_in}
use Rattle.osek_scheduler.specs.State.{System, task}
use Rattle.osek_scheduler.specs.InTime.{is_admit}
use Rattle.osek_scheduler.specs.Priority.{is_active}
use Rattle.osek_scheduler.proofs.Tests.{Decides-is_active}
use Rattle.osek_scheduler.specs.Apart.{static_priority, IsActive}
use Rattle.osek_blocking.specs.Blocking.{is_entry_of, events_up_to_entry, IsRaisedTo, FindsFresh}
use Rattle.osek_blocking.proofs.Effects.{Effect}
use Rattle.osek_blocking.proofs.Ordering.{effect}
use Rattle.osek_blocking.proofs.Once.{stays_out}
use Rattle.osek_blocking.specs.Walks.{Position, IsPositionStep, IsPositionStepTo, AreConsecutive, IsWalk}
use Rattle.osek_blocking.specs.Sections.{priority_at, operation_at, is_schedule, OnlyLastSchedules, IsSection}
use Rattle.osek_blocking.specs.Kept.{is_lower}
use Rattle.osek_blocking.specs.Spent.{spent_counts}
use Rattle.osek_blocking.proofs.Frames.{SameFrames}
use Rattle.osek_blocking.proofs.Stepping.{position_of}
use Rattle.osek_blocking.proofs.Raised.{at_position}
use Rattle.osek_blocking.proofs.Reached.{IsReached, walk_on}
use Rattle.osek_blocking.proofs.Placed.{Advances}
use Rattle.osek_blocking.proofs.Window.{LowerPair, Waits, Rests, View, works, departs, keeps, view, Blocked, goes, Onward, onward, rests_all}
use Rattle.bound_rules.specs.declared.bound.BodyWeights.{BodyWeights}
use Rattle.bound_rules.specs.Weights.{going_weight}
use Rattle.walk_sums.specs.Weights.{going_at, ending_at, sum_of}
use Rattle.walk_sums.specs.Told.{NoneIsAbove}
use Rattle.sim_induction.specs.Pace.{ItemSizes}
use Rattle.sim_induction.specs.Paced.{ArePacedTo}
use Rattle.run_counts.specs.Spending.{WeighsItems}
use Rattle.run_counts.proofs.Weighed.{paced_leads, spent_none, spends_at_most}

module _ {config : Config} {app : App} {h l : ℕ} (pair : LowerPair config app h l) (size : ItemSizes) (longest : ℕ) (weights : List BodyWeights) (weighs : WeighsItems app size weights) where
  -- what lower tasks spend with these events, up to the entry of h
  abbrev pub spent : (at : ℕ) → List Stamped → ℕ
  spent at events = spent_counts config h at (events_up_to_entry h events)

  -- what an event alone spends
  abbrev pub spent_with : (at : ℕ) → Stamped → ℕ
  spent_with at e = cond (is_lower config h (working_task e.event)) (e.stamp.at - at) 0

  -- behind an event
  abbrev pub behind_it : (at : ℕ) → Stamped → ℕ
  behind_it at e = cond (is_admit e) at e.stamp.at

  stops : (at : ℕ) (e : Stamped) (events : List Stamped) → is_entry_of h e.event ≡ true → spent at (e ∷ events) ≡ 0
  stops at e events c = ap (spent_counts config h at) (cond-true _ [] (e ∷ events_up_to_entry h events) c)

  spends : (at : ℕ) (e : Stamped) (events : List Stamped) → is_entry_of h e.event ≡ false → spent at (e ∷ events) ≡ spent_with at e + spent (behind_it at e) events
  spends at e events c = ap (spent_counts config h at) (goes pair e events c)

  nothing_with : (at : ℕ) (e : Stamped) → is_lower config h (working_task e.event) ≡ false → spent_with at e ≡ 0
  nothing_with at e not_lower = ap (λ b. cond b (e.stamp.at - at) 0) not_lower

  all_with : (at : ℕ) (e : Stamped) → working_task e.event ≡ Some l → spent_with at e ≡ e.stamp.at - at
  all_with at e is = ap (λ b. cond b (e.stamp.at - at) 0) (ap (is_lower config h) is ∙ lt-ltb _ _ pair.lower.1)

  -- where l rests nothing is spent
  none_spent : (at : ℕ) (events : List Stamped) (s end : System) → Waits pair s → Rests pair s → Blocked pair s events → ArePacedTo config app size longest at events s end
      → spent at events ≡ 0
  none_spent at events s end x r b paced =
      spent_none config h at (events_up_to_entry h events) (rests_all pair events s end x r b (paced_leads config app size longest at events s end paced))

  -- ---- a task that works

  abbrev pub StartsAt : Position → List Position → Type 0
  StartsAt at [] = Unit {0}
  StartsAt at (first ∷ further) = first ≡ at

  -- a section of l from where it stands, whose sum is at least this
  pub record Found (s : System) (counts : ℕ) : Type 0 where
    pub positions : List Position
    pub starts : StartsAt (position_of (task s l).frames) positions
    pub consecutive : AreConsecutive app positions
    pub raised : AllByRecursion (λ at. static_priority config h ≤ priority_at config app l at) positions
    pub unbroken : OnlyLastSchedules app positions
    pub sum : counts ≤ sum_of weights positions
    pub free : positions ≢ [] → (task s l).owed ≡ false
    pub reached : positions ≢ [] → IsReached app l (position_of (task s l).frames)

  pub nothing : (s : System) (counts : ℕ) → counts ≡ 0 → Found s counts
  nothing s counts e = record {
    positions = [];
    starts = tt;
    consecutive = tt;
    raised = tt;
    unbroken = tt;
    sum = omega (arith, e);
    free = λ k. absurd (k refl);
    reached = λ k. absurd (k refl);
  }

  abbrev FoundBehind : List Stamped → Type 0
  FoundBehind events = (at : ℕ) (s end : System) → Waits pair s → is_in h s.fresh ≡ false → Blocked pair s events → ArePacedTo config app size longest at events s end
      → Found s (spent at events)

  -- it rests, or it is free to go on
  rests_or_free : (s : System) → Rests pair s ⊎ (IsActive s l × ((task s l).owed ≡ false))
  rests_or_free s = by (cases_Bool (is_active (task s l).state)) (cases_Bool (task s l).owed)
    where
      by : (is_active (task s l).state ≡ true) ⊎ (is_active (task s l).state ≡ false) → ((task s l).owed ≡ true) ⊎ ((task s l).owed ≡ false) → Rests pair s ⊎ (IsActive s l × ((task s l).owed ≡ false))
      by a (inl e) = inl (λ _. e)
      by (inl a) (inr e) = inr ((Decides-is_active (task s l).state).0 a, e)
      by (inr a) (inr e) = inl (λ k. absurd (true≢false (sym ((Decides-is_active (task s l).state).1 k) ∙ a)))

  -- an item in front of a sum
  lighter : (at : Position) → going_at weights at ≤ ending_at weights at
  lighter [] = omega arith
  lighter (here ∷ outer) = weighs.no_lighter here.func here.item

  in_sum : (at : Position) (counts rest : ℕ) → counts ≤ going_at weights at → (positions : List Position) → rest ≤ sum_of weights positions → counts + rest ≤ sum_of weights (at ∷ positions)
  in_sum at counts rest fits [] le = let more = lighter at in omega (arith, fits, le, more)
  in_sum at counts rest fits (next ∷ further) le = omega (arith, fits, le)

  -- one position more in front
  pub in_front : (s next : System) (counts rest : ℕ) → Waits pair s → IsActive s l → (task s l).owed ≡ false → IsRaisedTo config s l h → Advances app l s next
      → counts ≤ going_at weights (position_of (task s l).frames) → Found next rest → Found s (counts + rest)
  in_front s next counts rest x active free raised step fits f = record {
    positions = here ∷ f.positions;
    starts = refl;
    consecutive = (leads f.positions f.starts, f.consecutive);
    raised = (subst (λ p. static_priority config h ≤ p) (at_position config app s l x.valid pair.lower.0 active free) raised, f.raised);
    unbroken = (λ more. not_schedule more (cases_Bool (is_schedule (operation_at app here))), f.unbroken);
    sum = in_sum here counts rest fits f.positions f.sum;
    free = λ _. free;
    reached = λ _. reached (x.placed l);
  }
    where
      here : Position
      here = position_of (task s l).frames

      leads : (positions : List Position) → StartsAt (position_of (task next l).frames) positions → IsPositionStepTo app here positions
      leads [] e = tt
      leads (first ∷ further) e = subst (IsPositionStep app here) (sym e) step.steps.walks

      not_schedule : f.positions ≢ [] → (is_schedule (operation_at app here) ≡ true) ⊎ (is_schedule (operation_at app here) ≡ false)
          → is_schedule (operation_at app here) ≡ false
      not_schedule more (inl is) = absurd (true≢false (sym (step.steps.schedules is) ∙ f.free more))
      not_schedule more (inr other) = other

      reached : ((task s l).frames ≡ []) ⊎ IsReached app l here → IsReached app l here
      reached (inl none) = absurd (subst (λ fs. IsPositionStep app (position_of fs) (position_of (task next l).frames)) none step.steps.walks)
      reached (inr r) = r

  -- the same from a state in which l stands in the same way
  pub kept : (s next : System) (counts : ℕ) → SameFrames (task s l) (task next l) → Found next counts → Found s counts
  kept s next counts same f = record {
    positions = f.positions;
    starts = subst (λ fs. StartsAt (position_of fs) f.positions) same.frames f.starts;
    consecutive = f.consecutive;
    raised = f.raised;
    unbroken = f.unbroken;
    sum = f.sum;
    free = λ more. sym same.owed ∙ f.free more;
    reached = λ more. subst (λ fs. IsReached app l (position_of fs)) same.frames (f.reached more);
  }

  found_in_front : (e : Stamped) (events : List Stamped) → FoundBehind events → FoundBehind (e ∷ events)
  found_in_front e events again at s end x out b paced = first (rests_or_free s)
    where
      further : Onward pair s paced.0 e events → Found paced.0 (spent (behind_it at e) events)
      further o =
          again (behind_it at e) paced.0 end o.waits (stays_out config app h pair.declared s paced.0 x.ready e.event (effect config app s paced.0 x.ordered e.event paced.2) out) o.blocked paced.3

      raised : Onward pair s paced.0 e events → working_task e.event ≡ Some l → IsRaisedTo config s l h
      raised o is = by (o.now.raised [] (events_up_to_entry h events) e l s refl (record { works = is; lower = pair.lower.1 }) refl)
        where
          by : IsRaisedTo config s l h ⊎ FindsFresh e.event s h → IsRaisedTo config s l h
          by (inl le) = le
          by (inr fresh) = absurd (true≢false (sym fresh.1 ∙ out))

      -- the sum in front of what is behind
      whole : is_entry_of h e.event ≡ false → (counts : ℕ) → spent_with at e ≡ counts → counts + spent (behind_it at e) events ≡ spent at (e ∷ events)
      whole c counts is = sym (spends at e events c ∙ ap (λ n. n + spent (behind_it at e) events) is)

      seen : is_entry_of h e.event ≡ false → Onward pair s paced.0 e events → View pair s paced.0 x e.event → Found s (spent at (e ∷ events))
      seen c o (works is active free step) =
          subst (Found s) (whole c (e.stamp.at - at) (all_with at e is))
          (in_front s paced.0 (e.stamp.at - at) (spent (behind_it at e) events) x active free (raised o is) step
          (spends_at_most config app size longest weights weighs e at s paced.0 l paced.2 is paced.1) (further o))
      seen c o (departs not_lower gone) =
          nothing s (spent at (e ∷ events))
          (spends at e events c
          ∙ (let front = nothing_with at e not_lower in
          let rest = none_spent (behind_it at e) events paced.0 end o.waits (λ a. absurd (gone a)) o.blocked paced.3 in
          omega (arith, front, rest)))
      seen c o (keeps not_lower same active) =
          let is = spends at e events c in
          let front = nothing_with at e not_lower in
          let all : spent (behind_it at e) events ≡ spent at (e ∷ events) = omega (arith, is, front) in
          subst (Found s) all (kept s paced.0 (spent (behind_it at e) events) same (further o))

      by : (is_entry_of h e.event ≡ true) ⊎ (is_entry_of h e.event ≡ false) → Found s (spent at (e ∷ events))
      by (inl c) = nothing s (spent at (e ∷ events)) (stops at e events c)
      by (inr c) =
          let o = onward pair s paced.0 e events x paced.2 b c in
          seen c o (view pair s paced.0 x e.event paced.2 o.one)

      first : Rests pair s ⊎ (IsActive s l × ((task s l).owed ≡ false)) → Found s (spent at (e ∷ events))
      first (inl r) = nothing s (spent at (e ∷ events)) (none_spent at (e ∷ events) s end x r b paced)
      first (inr f) = by (cases_Bool (is_entry_of h e.event))

  found_all : (events : List Stamped) → FoundBehind events
  found_all [] at s end x out b paced = nothing s 0 refl
  found_all (e ∷ events) at s end x out b paced = found_in_front e events (found_all events) at s end x out b paced

  -- ---- what is found is within the greatest sum

  module _ (most heaviest : ℕ) (none_above : NoneIsAbove (IsSection config app h l) weights most) (heavy : (f i : ℕ) → going_weight weights f i ≤ heaviest) where
    pub within : (s : System) (counts : ℕ) → Found s counts → counts ≤ most
    within s counts f =
        let sum = f.sum in
        let le = none_above f.positions (by f.positions refl) in
        omega (arith, sum, le)
      where
        by : (positions : List Position) → f.positions ≡ positions → IsSection config app h l f.positions
        by [] e = subst (IsSection config app h l) (sym e) (record { before = []; of_walk = tt; raised = tt; unbroken = tt })
        by (first ∷ more) e =
            let r = f.reached (λ none. empty (sym e ∙ none)) in
            let at : first ≡ position_of (task s l).frames = subst (StartsAt (position_of (task s l).frames)) e f.starts in
            let P : Position → Type 0 = λ p. IsWalk app l (r.before ++ p ∷ []) in
            record {
              before = r.before;
              of_walk = subst (λ ps. IsWalk app l (r.before ++ ps)) (sym e)
                  (walk_on app l r.before more first (subst P (sym at) r.walk) (subst (AreConsecutive app) e f.consecutive));
              raised = f.raised;
              unbroken = f.unbroken;
            }
          where
            empty : first ∷ more ≡ [] → ⊥
            empty k = cc

    -- an event of any task spends at most one item
    pub place_few : (at : Position) → going_at weights at ≤ heaviest
    place_few [] = omega arith
    place_few (here ∷ outer) = heavy here.func here.item

    one_at_most : (e : Stamped) (at : ℕ) (s next : System) → ArePacedTo config app size longest at (e ∷ []) s next → spent_with at e ≤ heaviest
    one_at_most e at s next paced = by (working_task e.event) refl
      where
        lower_or_not : (b : Bool) → e.stamp.at - at ≤ heaviest → cond b (e.stamp.at - at) 0 ≤ heaviest
        lower_or_not true le = le
        lower_or_not false le = omega arith

        by : (o : Option ℕ) → working_task e.event ≡ o → spent_with at e ≤ heaviest
        by None is = let none = nothing_with at e (ap (is_lower config h) is) in omega (arith, none)
        by (Some t) is =
            let fits = spends_at_most config app size longest weights weighs e at s paced.0 t paced.2 is paced.1 in
            let few = place_few (position_of (task s t).frames) in
            lower_or_not (is_lower config h (working_task e.event)) (omega (arith, fits, few))

    abbrev AtMost : List Stamped → Type 0
    AtMost events = (at : ℕ) (s end : System) → Waits pair s → Blocked pair s events → ArePacedTo config app size longest at events s end → spent at events ≤ heaviest + most

    at_most_cons : (e : Stamped) (events : List Stamped) → AtMost events → AtMost (e ∷ events)
    at_most_cons e events again at s end x b paced = by (cases_Bool (is_entry_of h e.event))
      where
        -- an event that is no admission: h is not fresh behind it
        behind : is_entry_of h e.event ≡ false → Onward pair s paced.0 e events → paced.0.fresh ≡ [] → spent at (e ∷ events) ≤ heaviest + most
        behind c o settles =
            let f = within paced.0 (spent (behind_it at e) events) (found_all events (behind_it at e) paced.0 end o.waits (ap (is_in h) settles) o.blocked paced.3) in
            let is = spends at e events c in
            let le = one_at_most e at s paced.0 (paced.0, paced.1, paced.2, refl) in
            omega (arith, f, is, le)

        admitted : is_entry_of h e.event ≡ false → Onward pair s paced.0 e events → is_lower config h (working_task e.event) ≡ false → spent at (e ∷ events) ≤ heaviest + most
        admitted c o not_lower =
            let rest = again (behind_it at e) paced.0 end o.waits o.blocked paced.3 in
            let is = spends at e events c in
            let none = nothing_with at e not_lower in
            omega (arith, rest, is, none)

        at_event : is_entry_of h e.event ≡ false → Onward pair s paced.0 e events → (v : Event) → e.event ≡ v → Effect config s paced.0 v → spent at (e ∷ events) ≤ heaviest + most
        at_event c o (event.Admit t) is f = admitted c o (ap (λ v. is_lower config h (working_task v)) is)
        at_event c o (event.Enter t) is f = behind c o f.moves.acts.settles
        at_event c o (event.Run t func item result) is f = behind c o f.moves.acts.settles
        at_event c o (event.Call t served status) is f = behind c o f.moves.acts.settles
        at_event c o (event.Left t served) is f = behind c o f.moves.acts.settles
        at_event c o (event.Back t) is f = behind c o f.moves.acts.settles
        at_event c o (event.Due d) is f = admitted c o (ap (λ v. is_lower config h (working_task v)) is)
        at_event c o v is f = behind c o f.settles

        by : (is_entry_of h e.event ≡ true) ⊎ (is_entry_of h e.event ≡ false) → spent at (e ∷ events) ≤ heaviest + most
        by (inl c) = let none = stops at e events c in omega (arith, none)
        by (inr c) = at_event c (onward pair s paced.0 e events x paced.2 b c) e.event refl (effect config app s paced.0 x.ordered e.event paced.2)

    pub at_most : (events : List Stamped) → AtMost events
    at_most [] at s end x b paced = omega arith
    at_most (e ∷ events) at s end x b paced = at_most_cons e events (at_most events) at s end x b paced
