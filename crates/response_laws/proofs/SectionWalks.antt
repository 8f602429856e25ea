-- The items that the events of a section execute are those of a part of a walk, at each position of which its task is raised.
use Rattle.std.proofs.Common.{◌≡◌, ℕ, ◌+◌, ◌≤◌, ◌⊎◌, List, [], ◌∷◌, ◌++◌, Bool, true, false, cond, refl, sym, ap, ◌∙◌, subst, arith, inl, inr}
use Rattle.std.specs.Prelude.{◌≢◌}
use Rattle.std.specs.List.{AllByRecursion}
use Rattle.std.proofs.lemmas.Bool.{cases_Bool, true≢false, false≢true, eqb-true}
use Rattle.sloth_base.specs.declared.config.Config.{Config}
use Rattle.sloth_base.specs.declared.app.App.{App}
use Rattle.sloth_base.specs.declared.service.Event.{Event}
use Rattle.sloth_base.specs.declared.service.Event.TheVariants as event
use Rattle.osek_scheduler.specs.State.{System, task}
use Rattle.osek_scheduler.specs.Steps.{OsekStep}
use Rattle.osek_scheduler.specs.Valid.{InState, IsValid}
use Rattle.osek_scheduler.specs.Apart.{priority_of, static_priority, IsActive}
use Rattle.osek_scheduler.proofs.Facts.{Facts}
use Rattle.osek_blocking.specs.Walks.{Position, IsPositionStep, IsPositionStepTo, AreConsecutive, IsWalk}
use Rattle.osek_blocking.specs.Sections.{priority_at, operation_at, is_schedule, OnlyLastSchedules, IsSection, IsLower}
use Rattle.osek_blocking.proofs.FrameEffects.{frame_effect}
use Rattle.osek_blocking.proofs.Frames.{SameFrames}
use Rattle.osek_blocking.proofs.Placed.{FrameEffect, Placed, step_placed}
use Rattle.osek_blocking.proofs.Raised.{at_position, owing}
use Rattle.osek_blocking.proofs.Reached.{IsReached, walk_on}
use Rattle.osek_blocking.proofs.Stepping.{StepsOn}
use Rattle.walk_sums.specs.Rounds.{Reaches}
use Rattle.run_counts.specs.Stages.{Stage, end_of, is_turn, is_entry}
use Rattle.run_counts.specs.Rounds.{is_left}
use Rattle.run_counts.proofs.TaskCases.{frames_kept}
use Rattle.response_laws.specs.Sums.{total_where}
use Rattle.response_laws.specs.Turns.{is_other_event, is_other}
use Rattle.response_laws.specs.Walked.{standing, weigh, is_executed}
use Rattle.response_laws.specs.Starts.{IsRaisedTurn, InSection}
use Rattle.response_laws.proofs.Linked.{Known, Linked}
use Rattle.response_laws.proofs.Steps.{turn_active, stays_inactive, active_declared}
use Rattle.response_laws.proofs.RoundEnds.{left_inactive}
use Rattle.response_laws.proofs.LowerSpending.{no_turn, no_entry}

module _ (config : Config) (app : App) (w : Facts config app) (h b : ℕ) (lower : IsLower config h b) where
  -- ---- events that are no other ones

  not_entered : (e : Event) → is_other_event config h e ≡ false → is_entry b e ≡ false
  not_entered e other = no_entry config app h e b lower.1 other

  -- they leave the task where it stands
  pub rests : (e : Event) (s next : System) → FrameEffect app s next e → is_other_event config h e ≡ false → SameFrames (task s b) (task next b)
  rests e s next f other = frames_kept app s next b e f (no_turn config app h e b lower.1 other) (not_entered e other)

  -- ---- events of a section

  -- an event in a turn of the task executes an item, leaves, or is the way back
  pub data Turn (e : Event) (s next : System) : Type 0 where
    executes : is_executed b e ≡ true → StepsOn app (task s b).frames (task next b).frames ((task next b).owed ≡ true) → Turn e s next
    leaves : is_left b e ≡ true → Turn e s next
    returns : (task s b).owed ≡ true → Turn e s next

  pub turn : (e : Event) (s next : System) → OsekStep config app e s next → IsValid config app s → is_turn b e ≡ true → Turn e s next
  turn (event.Run u func item result) s next step v is =
      let P : ℕ → Type 0 = λ t. StepsOn app (task s t).frames (task next t).frames ((task next t).owed ≡ true) in
      executes is (subst P (eqb-true u b is) (frame_effect config app w s next v (event.Run u func item result) step).steps)
  turn (event.Call u served status) s next step v is =
      let P : ℕ → Type 0 = λ t. StepsOn app (task s t).frames (task next t).frames ((task next t).owed ≡ true) in
      executes is (subst P (eqb-true u b is) (frame_effect config app w s next v (event.Call u served status) step).steps)
  turn (event.Left u served) s next step v is = leaves is
  turn (event.Back u) s next step v is = returns (let P : ℕ → Type 0 = λ t. (task s t).owed ≡ true in subst P (eqb-true u b is) step.3)
  turn e s next step v is = absurd (false≢true is)

  -- where it is raised
  abbrev pub IsUp : System → Type 0
  IsUp s = static_priority config h ≤ priority_of config b (task s b)

  -- it owes no way back
  pub free : (x : Stage) → Known config app x → IsActive x.found b → IsUp x.found → (task x.found b).owed ≡ false
  free x k active up = by (cases_Bool (task x.found b).owed)
    where
      by : ((task x.found b).owed ≡ true) ⊎ ((task x.found b).owed ≡ false) → (task x.found b).owed ≡ false
      by (inr off) = off
      by (inl owed) =
          let static = owing config app x.found b k.valid lower.0 active owed in
          let less = lower.1 in
          absurd (omega (arith, static, up, less))

  -- where it stands there is a position that a walk reaches, and raised
  pub raised_position : (x : Stage) → Known config app x → Placed app x.found → IsActive x.found b → IsUp x.found
      → Reaches app b (standing (task x.found b).frames) × (static_priority config h ≤ priority_at config app b (standing (task x.found b).frames))
  raised_position x k placed active up = (
    by (placed b),
    subst (λ p. static_priority config h ≤ p) (at_position config app x.found b k.valid lower.0 active (free x k active up)) up,
  )
    where
      stands : (task x.found b).frames ≢ []
      stands =
          (subst (InState config b (task x.found b)) active
          (k.valid.each b (active_declared config x.found b k.valid.count active)).in_state).0

      by : ((task x.found b).frames ≡ []) ⊎ IsReached app b (standing (task x.found b).frames) → Reaches app b (standing (task x.found b).frames)
      by (inl none) = absurd (stands none)
      by (inr r) = (r.before, r.walk)

  -- ---- what its items weigh

  module _ (going ending : Position → ℕ) (lighter : (at : Position) → going at ≤ ending at) where
    abbrev StartsAt : Position → List Position → Type 0
    StartsAt at [] = Unit {0}
    StartsAt at (first ∷ further) = first ≡ at

    abbrev IsRaisedAt : Position → Type 0
    IsRaisedAt at = static_priority config h ≤ priority_at config app b at

    -- raised positions of a walk from where the task stands, which weigh at least so much
    pub record Found (s : System) (counts : ℕ) : Type 0 where
      pub positions : List Position
      pub starts : StartsAt (standing (task s b).frames) positions
      pub consecutive : AreConsecutive app positions
      pub raised : AllByRecursion IsRaisedAt positions
      pub unbroken : OnlyLastSchedules app positions
      pub weighs : counts ≤ weigh going ending positions
      pub free_of_debt : positions ≢ [] → (task s b).owed ≡ false
      pub reached : positions ≢ [] → IsReached app b (standing (task s b).frames)

    pub nothing : (s : System) (counts : ℕ) → counts ≤ 0 → Found s counts
    nothing s counts none = record {
      positions = [];
      starts = tt;
      consecutive = tt;
      raised = tt;
      unbroken = tt;
      weighs = none;
      free_of_debt = λ some. absurd (some refl);
      reached = λ some. absurd (some refl);
    }

    in_sum : (at : Position) (counts rest : ℕ) → counts ≤ going at → (positions : List Position) → rest ≤ weigh going ending positions
        → counts + rest ≤ weigh going ending (at ∷ positions)
    in_sum at counts rest fits [] le = let more = lighter at in omega (arith, fits, le, more)
    in_sum at counts rest fits (next ∷ further) le = omega (arith, fits, le)

    module _ (x : Stage) (k : Known config app x) (placed : Placed app x.found) (active : IsActive x.found b) (up : IsUp x.found) where
      abbrev here : Position
      here = standing (task x.found b).frames

      stands : (task x.found b).frames ≢ []
      stands =
          (subst (InState config b (task x.found b)) active
          (k.valid.each b (active_declared config x.found b k.valid.count active)).in_state).0

      reached_here : IsReached app b here
      reached_here = by (placed b)
        where
          by : ((task x.found b).frames ≡ []) ⊎ IsReached app b here → IsReached app b here
          by (inl none) = absurd (stands none)
          by (inr reached) = reached

      raised_here : IsRaisedAt here
      raised_here =
          subst (λ p. static_priority config h ≤ p) (at_position config app x.found b k.valid lower.0 active (free x k active up)) up

      -- an item of so many counts, in front of others
      pub in_front : (counts rest : ℕ) → StepsOn app (task x.found b).frames (task x.next b).frames ((task x.next b).owed ≡ true) → counts ≤ going here → Found x.next rest
          → Found x.found (counts + rest)
      in_front counts rest steps fits found = record {
        positions = here ∷ found.positions;
        starts = refl;
        consecutive = (leads found.positions found.starts, found.consecutive);
        raised = (raised_here, found.raised);
        unbroken = ((λ more. no_schedule more (cases_Bool (is_schedule (operation_at app here)))), found.unbroken);
        weighs = in_sum here counts rest fits found.positions found.weighs;
        free_of_debt = λ _. free x k active up;
        reached = λ _. reached_here;
      }
        where
          leads : (positions : List Position) → StartsAt (standing (task x.next b).frames) positions → IsPositionStepTo app here positions
          leads [] e = tt
          leads (first ∷ further) e = subst (IsPositionStep app here) (sym e) steps.walks

          no_schedule : found.positions ≢ [] → (is_schedule (operation_at app here) ≡ true) ⊎ (is_schedule (operation_at app here) ≡ false)
              → is_schedule (operation_at app here) ≡ false
          no_schedule more (inl is) = absurd (true≢false (sym (steps.schedules is) ∙ found.free_of_debt more))
          no_schedule more (inr other) = other

      -- the item with which it leaves, or that it has begun
      pub last : (counts rest : ℕ) → counts ≤ ending here → rest ≤ 0 → Found x.found (counts + rest)
      last counts rest fits none = record {
        positions = here ∷ [];
        starts = refl;
        consecutive = (tt, tt);
        raised = (raised_here, tt);
        unbroken = ((λ some. absurd (some refl)), tt);
        weighs = omega (arith, fits, none);
        free_of_debt = λ _. free x k active up;
        reached = λ _. reached_here;
      }

    pub kept : (x : Stage) (counts rest : ℕ) → SameFrames (task x.found b) (task x.next b) → counts ≤ 0 → Found x.next rest → Found x.found (counts + rest)
    kept x counts rest same none found = record {
      positions = found.positions;
      starts = subst (λ fs. StartsAt (standing fs) found.positions) same.frames found.starts;
      consecutive = found.consecutive;
      raised = found.raised;
      unbroken = found.unbroken;
      weighs = let le = found.weighs in omega (arith, none, le);
      free_of_debt = λ more. sym same.owed ∙ found.free_of_debt more;
      reached = λ more. subst (λ fs. IsReached app b (standing fs)) same.frames (found.reached more);
    }

    -- what the positions weigh is within the greatest sum
    pub found_within : (most : ℕ) → ((positions : List Position) → IsSection config app h b positions → weigh going ending positions ≤ most) → (s : System) (counts : ℕ)
        → Found s counts → counts ≤ most
    found_within most bound s counts found =
        let le = bound found.positions (by found.positions refl) in
        let weight = found.weighs in
        omega (arith, le, weight)
      where
        by : (positions : List Position) → found.positions ≡ positions → IsSection config app h b found.positions
        by [] e =
            subst (IsSection config app h b) (sym e) (record { before = []; of_walk = tt; raised = tt; unbroken = tt })
        by (first ∷ more) e =
            let r = found.reached (λ none. empty (sym e ∙ none)) in
            let at : first ≡ standing (task s b).frames = subst (StartsAt (standing (task s b).frames)) e found.starts in
            let P : Position → Type 0 = λ p. IsWalk app b (r.before ++ p ∷ []) in
            record {
              before = r.before;
              of_walk = subst (λ ps. IsWalk app b (r.before ++ ps)) (sym e)
                  (walk_on app b r.before more first (subst P (sym at) r.walk) (subst (AreConsecutive app) e found.consecutive));
              raised = found.raised;
              unbroken = found.unbroken;
            }
          where
            empty : first ∷ more ≡ [] → ⊥
            empty k = cc

    module _ (f : Stage → ℕ) where
      -- a number of an event of the task is at most what the item weighs that it executes
      pub record FitsRaised (x : Stage) : Type 0 where
        pub goes : is_executed b x.stamped.event ≡ true → f x ≤ going (standing (task x.found b).frames)
        pub leaves : is_left b x.stamped.event ≡ true → f x ≤ ending (standing (task x.found b).frames)

      abbrev sum : List Stage → ℕ
      sum xs = total_where (is_other config h) f xs

      here_is : (x : Stage) (other : Bool) → is_other config h x ≡ other → cond (is_other config h x) (f x) 0 ≡ cond other (f x) 0
      here_is x other is = ap {B = ℕ} (λ c. cond c (f x) 0) is

      -- once it has left, nothing follows
      none_behind : (at : ℕ) (s : System) (xs : List Stage) → Linked at s xs → AllByRecursion (Known config app) xs → (IsActive s b → ⊥) → InSection config h b xs
          → sum xs ≤ 0
      none_behind at s [] l k away section = omega arith
      none_behind at s (x ∷ xs) l k away section =
          by (cases_Bool (is_other config h x)) (λ off. none_behind (end_of x) x.next xs l.2 k.1 (λ active. idle (stays_inactive config app b x k.0 off active)) section.1)
        where
          idle : IsActive x.found b → ⊥
          idle active = away (subst (λ y. IsActive y b) l.1 active)

          by : (is_other config h x ≡ true) ⊎ (is_other config h x ≡ false) → (is_entry b x.stamped.event ≡ false → sum xs ≤ 0) → sum (x ∷ xs) ≤ 0
          by (inl is) rest = absurd (idle (turn_active config app b x k.0 (section.0 is).turn))
          by (inr other) rest =
              let le = rest (not_entered x.stamped.event other) in
              let zero = here_is x false other in
              omega (arith, le, zero)

      found_in : (at : ℕ) (s : System) (xs : List Stage) → Linked at s xs → AllByRecursion (Known config app) xs → AllByRecursion FitsRaised xs → Placed app s
          → InSection config h b xs → Found s (sum xs)
      found_in at s [] l k fits placed section = nothing s 0 (omega arith)
      found_in at s (x ∷ xs) l k fits placed section =
          subst (λ y. Found y (sum (x ∷ xs))) l.1
          (by (cases_Bool (is_other config h x)) (found_in (end_of x) x.next xs l.2 k.1 fits.1 next_placed section.1))
        where
          placed_here : Placed app x.found
          placed_here = subst (Placed app) (sym l.1) placed

          effect : FrameEffect app x.found x.next x.stamped.event
          effect = frame_effect config app w x.found x.next k.0.valid x.stamped.event k.0.step

          next_placed : Placed app x.next
          next_placed = step_placed config app x.found x.next x.stamped.event effect placed_here

          active_of : IsRaisedTurn config h b x → IsActive x.found b
          active_of r = turn_active config app b x k.0 r.turn

          which : (r : IsRaisedTurn config h b x) → Turn x.stamped.event x.found x.next → Found x.next (sum xs) → Found x.found (f x + sum xs)
          which r (executes is steps) rest = in_front x k.0 placed_here (active_of r) r.raised (f x) (sum xs) steps (fits.0.goes is) rest
          which r (leaves is) rest =
              last x k.0 placed_here (active_of r) r.raised (f x) (sum xs) (fits.0.leaves is) (none_behind (end_of x) x.next xs l.2 k.1 (left_inactive config app w b x k.0 is) section.1)
          which r (returns owed) rest = absurd (true≢false (sym owed ∙ free x k.0 (active_of r) r.raised))

          by : (is_other config h x ≡ true) ⊎ (is_other config h x ≡ false) → Found x.next (sum xs) → Found x.found (sum (x ∷ xs))
          by (inl is) rest =
              let r = section.0 is in
              subst (λ c. Found x.found (c + sum xs)) (sym (here_is x true is)) (which r (turn x.stamped.event x.found x.next k.0.step k.0.valid r.turn) rest)
          by (inr other) rest =
              kept x (cond (is_other config h x) (f x) 0) (sum xs) (rests x.stamped.event x.found x.next effect other)
              (let zero = here_is x false other in omega (arith, zero)) rest

      -- what the other events of a section come to is within the greatest sum
      pub section_within : (most : ℕ) → ((positions : List Position) → IsSection config app h b positions → weigh going ending positions ≤ most)
          → (at : ℕ) (s : System) (xs : List Stage) → Linked at s xs → AllByRecursion (Known config app) xs → AllByRecursion FitsRaised xs → Placed app s
          → InSection config h b xs → total_where (is_other config h) f xs ≤ most
      section_within most bound at s xs l k fits placed section = found_within most bound s (sum xs) (found_in at s xs l k fits placed section)
