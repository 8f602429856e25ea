-- The events of a lower task while task h is Ready are a section of a walk of it.
use Rattle.std.proofs.Common.{◌≡◌, ℕ, suc, ◌+◌, ◌≤◌, ◌⊎◌, List, [], ◌∷◌, ◌++◌, Bool, true, false, cond, refl, sym, ap, ◌∙◌, subst, arith, inl, inr, Some}
use Rattle.std.specs.Prelude.{◌≢◌}
use Rattle.std.specs.List.{AllByRecursion}
use Rattle.std.proofs.lemmas.Bool.{true≢false, cases_Bool}
use Rattle.sloth_base.specs.declared.config.Config.{Config}
use Rattle.sloth_base.specs.declared.app.App.{App}
use Rattle.sloth_base.specs.declared.service.Event.{Event}
use Rattle.sloth_base.specs.declared.service.Event.TheVariants as event
use Rattle.sloth_base.specs.declared.service.Stamped.{Stamped}
use Rattle.osek_scheduler.specs.State.{System, task}
use Rattle.code_rules.specs.Code.{is_in}
use Rattle.osek_scheduler.specs.Priority.{is_active}
use Rattle.osek_scheduler.specs.Runs.{AreStepsTo}
use Rattle.osek_scheduler.proofs.Tests.{Decides-is_active}
use Rattle.osek_scheduler.specs.Apart.{static_priority, IsActive}
use Rattle.sloth_base.specs.Events.{working_task}
use Rattle.osek_blocking.specs.Blocking.{is_entry_of, events_up_to_entry, IsRaisedTo, FindsFresh}
use Rattle.osek_blocking.proofs.Effects.{Effect}
use Rattle.osek_blocking.proofs.Ordering.{effect}
use Rattle.osek_blocking.proofs.Once.{stays_out}
use Rattle.osek_blocking.specs.Walks.{Position, IsPositionStep, IsPositionStepTo, AreConsecutive, IsWalk}
use Rattle.osek_blocking.specs.Sections.{priority_at, operation_at, is_schedule, OnlyLastSchedules, IsSection, size_of_section, NoneIsLarger}
use Rattle.osek_blocking.specs.Kept.{is_lower, lower_events}
use Rattle.osek_blocking.proofs.Frames.{SameFrames}
use Rattle.osek_blocking.proofs.Stepping.{position_of}
use Rattle.osek_blocking.proofs.Raised.{at_position}
use Rattle.osek_blocking.proofs.Reached.{IsReached, walk_on}
use Rattle.osek_blocking.proofs.Placed.{Advances}
use Rattle.osek_blocking.proofs.Window.{LowerPair, Waits, Rests, View, works, departs, keeps, view, Blocked, count, stops, goes, Onward, onward, uncounted, counted, rests_all}

module _ {config : Config} {app : App} {h l : ℕ} (pair : LowerPair config app h l) where
  -- ---- a task that works

  abbrev pub StartsAt : Position → List Position → Type 0
  StartsAt at [] = Unit {0}
  StartsAt at (first ∷ further) = first ≡ at

  -- a section of l from where it stands, as large as this
  pub record Found (s : System) (n : ℕ) : Type 0 where
    positions : List Position
    starts : StartsAt (position_of (task s l).frames) positions
    consecutive : AreConsecutive app positions
    raised : AllByRecursion (λ at. static_priority config h ≤ priority_at config app l at) positions
    unbroken : OnlyLastSchedules app positions
    size : size_of_section app positions ≡ n
    free : positions ≢ [] → (task s l).owed ≡ false
    reached : positions ≢ [] → IsReached app l (position_of (task s l).frames)

  nothing : (s : System) (n : ℕ) → n ≡ 0 → Found s n
  nothing s n e = record {
    positions = [];
    starts = tt;
    consecutive = tt;
    raised = tt;
    unbroken = tt;
    size = sym e;
    free = λ k. absurd (k refl);
    reached = λ k. absurd (k refl);
  }

  abbrev pub FoundBehind : List Stamped → Type 0
  FoundBehind events = (s end : System) → Waits pair s → is_in h s.fresh ≡ false → Blocked pair s events → AreStepsTo config app events s end → Found s (count pair events)

  -- it rests, or it is free to go on
  rests_or_free : (s : System) → Rests pair s ⊎ (IsActive s l × ((task s l).owed ≡ false))
  rests_or_free s = by (cases_Bool (is_active (task s l).state)) (cases_Bool (task s l).owed)
    where
      by : (is_active (task s l).state ≡ true) ⊎ (is_active (task s l).state ≡ false) → ((task s l).owed ≡ true) ⊎ ((task s l).owed ≡ false) → Rests pair s ⊎ (IsActive s l × ((task s l).owed ≡ false))
      by a (inl e) = inl (λ _. e)
      by (inl a) (inr e) = inr ((Decides-is_active (task s l).state).0 a, e)
      by (inr a) (inr e) = inl (λ k. absurd (true≢false (sym ((Decides-is_active (task s l).state).1 k) ∙ a)))

  -- one position more in front
  pub in_front : (s next : System) (n : ℕ) → Waits pair s → IsActive s l → (task s l).owed ≡ false → IsRaisedTo config s l h → Advances app l s next → Found next n
      → Found s (suc n)
  in_front s next n x active free raised step f = record {
    positions = here ∷ f.positions;
    starts = refl;
    consecutive = (leads f.positions f.starts, f.consecutive);
    raised = (subst (λ p. static_priority config h ≤ p) (at_position config app s l x.valid pair.lower.0 active free) raised, f.raised);
    unbroken = (λ more. not_schedule more (cases_Bool (is_schedule (operation_at app here))), f.unbroken);
    size = ap (λ b. cond b 1 0 + size_of_section app f.positions) step.steps.counts ∙ (let e = f.size in omega (arith, e));
    free = λ _. free;
    reached = λ _. reached (x.placed l);
  }
    where
      here : Position
      here = position_of (task s l).frames

      leads : (positions : List Position) → StartsAt (position_of (task next l).frames) positions → IsPositionStepTo app here positions
      leads [] e = tt
      leads (first ∷ further) e = subst (IsPositionStep app here) (sym e) step.steps.walks

      not_schedule : f.positions ≢ [] → (is_schedule (operation_at app here) ≡ true) ⊎ (is_schedule (operation_at app here) ≡ false)
          → is_schedule (operation_at app here) ≡ false
      not_schedule more (inl is) = absurd (true≢false (sym (step.steps.schedules is) ∙ f.free more))
      not_schedule more (inr other) = other

      reached : ((task s l).frames ≡ []) ⊎ IsReached app l here → IsReached app l here
      reached (inl none) = absurd (subst (λ fs. IsPositionStep app (position_of fs) (position_of (task next l).frames)) none step.steps.walks)
      reached (inr r) = r

  -- the same from a state in which l stands in the same way
  kept : (s next : System) (n : ℕ) → SameFrames (task s l) (task next l) → Found next n → Found s n
  kept s next n same f = record {
    positions = f.positions;
    starts = subst (λ fs. StartsAt (position_of fs) f.positions) same.frames f.starts;
    consecutive = f.consecutive;
    raised = f.raised;
    unbroken = f.unbroken;
    size = f.size;
    free = λ more. sym same.owed ∙ f.free more;
    reached = λ more. subst (λ fs. IsReached app l (position_of fs)) same.frames (f.reached more);
  }

  found_in_front : (e : Stamped) (events : List Stamped) → FoundBehind events → FoundBehind (e ∷ events)
  found_in_front e events again s end x out b leads = first (rests_or_free s)
    where
      further : Onward pair s leads.0 e events → Found leads.0 (count pair events)
      further o =
          again leads.0 end o.waits (stays_out config app h pair.declared s leads.0 x.ready e.event (effect config app s leads.0 x.ordered e.event leads.1) out) o.blocked leads.2

      raised : Onward pair s leads.0 e events → working_task e.event ≡ Some l → IsRaisedTo config s l h
      raised o is = by (o.now.raised [] (events_up_to_entry h events) e l s refl (record { works = is; lower = pair.lower.1 }) refl)
        where
          by : IsRaisedTo config s l h ⊎ FindsFresh e.event s h → IsRaisedTo config s l h
          by (inl le) = le
          by (inr fresh) = absurd (true≢false (sym fresh.1 ∙ out))

      at : is_entry_of h e.event ≡ false → Onward pair s leads.0 e events → View pair s leads.0 x e.event → Found s (count pair (e ∷ events))
      at c o (works is active free step) =
          subst (Found s) (sym (counted pair e events c is)) (in_front s leads.0 (count pair events) x active free (raised o is) step (further o))
      at c o (departs not_lower gone) =
          nothing s (count pair (e ∷ events))
          (uncounted pair e events c not_lower ∙ rests_all pair events leads.0 end o.waits (λ a. absurd (gone a)) o.blocked leads.2)
      at c o (keeps not_lower same active) =
          subst (Found s) (sym (uncounted pair e events c not_lower)) (kept s leads.0 (count pair events) same (further o))

      by : (is_entry_of h e.event ≡ true) ⊎ (is_entry_of h e.event ≡ false) → Found s (count pair (e ∷ events))
      by (inl c) = nothing s (count pair (e ∷ events)) (stops pair e events c)
      by (inr c) =
          let o = onward pair s leads.0 e events x leads.1 b c in
          at c o (view pair s leads.0 x e.event leads.1 o.one)

      first : Rests pair s ⊎ (IsActive s l × ((task s l).owed ≡ false)) → Found s (count pair (e ∷ events))
      first (inl r) = nothing s (count pair (e ∷ events)) (rests_all pair (e ∷ events) s end x r b leads)
      first (inr f) = by (cases_Bool (is_entry_of h e.event))

  pub found_all : (events : List Stamped) → FoundBehind events
  found_all [] s end x out b leads = nothing s 0 refl
  found_all (e ∷ events) s end x out b leads = found_in_front e events (found_all events) s end x out b leads

  -- ---- what is found is within the bound

  module _ (n : ℕ) (most : NoneIsLarger config app h n) where
    pub within : (s : System) (m : ℕ) → Found s m → m ≤ n
    within s m f = subst (λ k. k ≤ n) f.size (most f.positions (record { task = l; lower = pair.lower; is_section = by f.positions refl }))
      where
        by : (positions : List Position) → f.positions ≡ positions → IsSection config app h l f.positions
        by [] e = subst (IsSection config app h l) (sym e) (record { before = []; of_walk = tt; raised = tt; unbroken = tt })
        by (first ∷ more) e =
            let r = f.reached (λ none. empty (sym e ∙ none)) in
            let at : first ≡ position_of (task s l).frames = subst (StartsAt (position_of (task s l).frames)) e f.starts in
            let P : Position → Type 0 = λ p. IsWalk app l (r.before ++ p ∷ []) in
            record {
              before = r.before;
              of_walk = subst (λ ps. IsWalk app l (r.before ++ ps)) (sym e)
                  (walk_on app l r.before more first (subst P (sym at) r.walk) (subst (AreConsecutive app) e f.consecutive));
              raised = f.raised;
              unbroken = f.unbroken;
            }
          where
            empty : first ∷ more ≡ [] → ⊥
            empty k = cc

    abbrev pub AtMost : List Stamped → Type 0
    AtMost events = (s end : System) → Waits pair s → Blocked pair s events → AreStepsTo config app events s end → count pair events ≤ suc n

    one_at_most : (k : Bool) → cond k 1 0 ≤ 1
    one_at_most true = omega arith
    one_at_most false = omega arith

    at_most_cons : (e : Stamped) (events : List Stamped) → AtMost events → AtMost (e ∷ events)
    at_most_cons e events again s end x b leads = by (cases_Bool (is_entry_of h e.event))
      where
        -- an event that is no admission: h is not fresh behind it
        behind : is_entry_of h e.event ≡ false → Onward pair s leads.0 e events → leads.0.fresh ≡ [] → count pair (e ∷ events) ≤ suc n
        behind c o settles =
            let f = within leads.0 (count pair events) (found_all events leads.0 end o.waits (ap (is_in h) settles) o.blocked leads.2) in
            let is = ap (lower_events config h) (goes pair e events c) in
            let le = one_at_most (is_lower config h (working_task e.event)) in
            omega (arith, f, is, le)

        at : is_entry_of h e.event ≡ false → Onward pair s leads.0 e events → (v : Event) → e.event ≡ v → Effect config s leads.0 v → count pair (e ∷ events) ≤ suc n
        at c o (event.Admit t) is f =
            subst (λ k. k ≤ suc n) (sym (uncounted pair e events c (ap (λ v. is_lower config h (working_task v)) is))) (again leads.0 end o.waits o.blocked leads.2)
        at c o (event.Enter t) is f = behind c o f.moves.acts.settles
        at c o (event.Run t func item result) is f = behind c o f.moves.acts.settles
        at c o (event.Call t served status) is f = behind c o f.moves.acts.settles
        at c o (event.Left t served) is f = behind c o f.moves.acts.settles
        at c o (event.Back t) is f = behind c o f.moves.acts.settles
        at c o (event.Due d) is f =
            subst (λ k. k ≤ suc n) (sym (uncounted pair e events c (ap (λ v. is_lower config h (working_task v)) is))) (again leads.0 end o.waits o.blocked leads.2)
        at c o v is f = behind c o f.settles

        by : (is_entry_of h e.event ≡ true) ⊎ (is_entry_of h e.event ≡ false) → count pair (e ∷ events) ≤ suc n
        by (inl c) = subst (λ k. k ≤ suc n) (sym (stops pair e events c)) (omega arith)
        by (inr c) = at c (onward pair s leads.0 e events x leads.1 b c) e.event refl (effect config app s leads.0 x.ordered e.event leads.1)

    pub at_most : (events : List Stamped) → AtMost events
    at_most [] s end x b leads = omega arith
    at_most (e ∷ events) s end x b leads = at_most_cons e events (at_most events) s end x b leads
