-- Stretches of sections that grow by a position.
use Rattle.std.proofs.Common.{◌≡◌, ℕ, ◌+◌, ◌<◌, ◌≤◌, ◌-◌, true, false, cond, List, [], ◌∷◌, ◌++◌, length, take, get_or, refl, sym, ap, ◌∙◌, subst, arith}
use Rattle.std.proofs.lemmas.List.{take_more, take_all}
use Rattle.std.specs.Prelude.{◌≢◌}
use Rattle.std.specs.List.{AllByRecursion}
use Rattle.sloth_base.specs.declared.config.Config.{Config}
use Rattle.sloth_base.specs.declared.app.App.{App}
use Rattle.osek_scheduler.specs.Apart.{static_priority}
use Rattle.osek_blocking.specs.Walks.{Position, IsPositionStep, AreConsecutive}
use Rattle.osek_blocking.specs.Sections.{priority_at, operation_at, is_schedule, is_counted, OnlyLastSchedules, IsSection, size_of_section}
use Rattle.osek_blocking.proofs.Reached.{walk_on}
use Rattle.walk_sums.specs.declared.standing.Point.{Point}
use Rattle.walk_sums.specs.declared.standing.Standing.{Standing}
use Rattle.section_ways.specs.SectionWays.{StandAt}
use Rattle.walk_sums.specs.Positions.{place_of, no_point}
use Rattle.section_ways.specs.Standings.{AreTold, IsStart, IsRaisedAt, IsSectionStep, last_of, IsStretch}
use Rattle.walk_sums.specs.Positions.{position_of}

some_there : (x : Position) (xs : List Position) → x ∷ xs ≢ []
some_there x xs = λ e. cc

last_more : (x : Position) (xs : List Position) (next : Position) → last_of x (xs ++ next ∷ []) ≡ next
last_more x [] next = refl
last_more x (y ∷ ys) next = last_more y ys next

all_more : (P : Position → Type 0) (xs : List Position) (next : Position) → AllByRecursion P xs → P next → AllByRecursion P (xs ++ next ∷ [])
all_more P [] next each p = (p, tt)
all_more P (x ∷ xs) next each p = (each.0, all_more P xs next each.1 p)

stand_more : (positions : List Position) (points : List Point) (next outer : Position) (q : Point) → next ≡ place_of q ∷ outer → StandAt positions points
    → StandAt (positions ++ next ∷ []) (points ++ q ∷ [])
stand_more [] [] next outer q is s = subst (λ p. StandAt (p ∷ []) (q ∷ [])) (sym is) (refl, tt)
stand_more [] (p ∷ points) next outer q is s = absurd s
stand_more ([] ∷ positions) [] next outer q is s = absurd s
stand_more ([] ∷ positions) (p ∷ points) next outer q is s = absurd s
stand_more ((here ∷ around) ∷ positions) [] next outer q is s = absurd s
stand_more ((here ∷ around) ∷ positions) (p ∷ points) next outer q is s = (s.0, stand_more positions points next outer q is s.1)

length_more : (points : List Point) (q : Point) → length (points ++ q ∷ []) ≡ length points + 1
length_more [] q = refl
length_more (p ∷ points) q = let e = length_more points q in omega (arith, e)

module _ (app : App) where
  consecutive_more : (x : Position) (xs : List Position) (next : Position) → AreConsecutive app (x ∷ xs) → IsPositionStep app (last_of x xs) next
      → AreConsecutive app (x ∷ (xs ++ next ∷ []))
  consecutive_more x [] next c step = (step, (tt, tt))
  consecutive_more x (y ∷ ys) next c step = (c.0, consecutive_more y ys next c.1 step)

  unbroken_more : (x : Position) (xs : List Position) (next : Position) → OnlyLastSchedules app (x ∷ xs) → is_schedule (operation_at app (last_of x xs)) ≡ false
      → OnlyLastSchedules app (x ∷ (xs ++ next ∷ []))
  unbroken_more x [] next u calm = (λ _. calm, (λ none. absurd (none refl), tt))
  unbroken_more x (y ∷ ys) next u calm = (λ _. u.0 (some_there y ys), unbroken_more y ys next u.1 calm)

  size_more : (xs : List Position) (next : Position) → is_counted (operation_at app next) ≡ true → size_of_section app (xs ++ next ∷ []) ≡ size_of_section app xs + 1
  size_more [] next counts = ap (λ b. cond b 1 0 + 0) counts
  size_more (x ∷ xs) next counts = let e = size_more xs next counts in omega (arith, e)

module _ (config : Config) (app : App) (h t : ℕ) where
  -- of one position
  pub stretch_first : (stack : List Standing) (p : Point) → AreTold config app h t stack → IsRaisedAt config app h t stack p → IsStretch config app h t stack stack (p ∷ [])
  stretch_first stack p told at = record {
    further = [];
    told = told;
    ends = refl;
    consecutive = (tt, tt);
    raised = (at.raised, tt);
    unbroken = (λ none. absurd (none refl), tt);
    stand = subst (λ x. StandAt (x ∷ []) (p ∷ [])) (sym at.is) (refl, tt);
    counted = ap (λ b. cond b 1 0 + 0) at.counts;
  }

  -- of one more
  pub stretch_more : (from old new : List Standing) (points : List Point) (p q : Point) → IsStretch config app h t from old points
      → IsSectionStep config app h t old new p q → IsStretch config app h t from new (points ++ q ∷ [])
  stretch_more from old new points p q s step =
      let first = position_of from in
      let e = s.counted in
      let more = size_more app (first ∷ s.further) (position_of new) step.at.counts in
      let longer = length_more points q in
      record {
        further = s.further ++ position_of new ∷ [];
        told = step.told;
        ends = last_more first s.further (position_of new);
        consecutive = consecutive_more app first s.further (position_of new) s.consecutive (subst (λ x. IsPositionStep app x (position_of new)) (sym s.ends) step.step);
        raised = all_more (λ at. static_priority config h ≤ priority_at config app t at) (first ∷ s.further) (position_of new) s.raised step.at.raised;
        unbroken = unbroken_more app first s.further (position_of new) s.unbroken (ap (λ x. is_schedule (operation_at app x)) s.ends ∙ step.goes);
        stand = stand_more (first ∷ s.further) points (position_of new) step.at.outer q step.at.is s.stand;
        counted = omega (arith, e, more, longer);
      }

  -- behind where a walk leads they are a section
  pub section_of : (from to : List Standing) (points : List Point) → IsStart config app h t from → (s : IsStretch config app h t from to points)
      → IsSection config app h t (position_of from ∷ s.further)
  section_of from to points start s = record {
    before = start.before;
    of_walk = walk_on app t start.before s.further (position_of from) start.walk s.consecutive;
    raised = s.raised;
    unbroken = s.unbroken;
  }

  -- ---- point by point

  -- a stretch to the stack at the first points, so many of them, on the way through all
  pub record IsUnderWay (from : List Standing) (points : List Point) (n : ℕ) (stack : List Standing) : Type 0 where
    pub stretch : IsStretch config app h t from stack (take n points)
    pub at : IsRaisedAt config app h t stack (get_or points (n - 1) no_point)

  pub under_way_first : (stack : List Standing) (points : List Point) → 0 < length points → AreTold config app h t stack
      → IsRaisedAt config app h t stack (get_or points 0 no_point) → IsUnderWay stack points 1 stack
  under_way_first stack [] some told at = absurd (omega (arith, some))
  under_way_first stack (p ∷ points) some told at = record { stretch = stretch_first stack p told at; at = at }

  pub under_way_more : (from old new : List Standing) (points : List Point) (n : ℕ) → n < length points → IsUnderWay from points n old
      → IsSectionStep config app h t old new (get_or points (n - 1) no_point) (get_or points n no_point) → IsUnderWay from points (n + 1) new
  under_way_more from old new points n lt w step = let here : n ≡ (n + 1) - 1 = omega arith in record {
    stretch = subst (IsStretch config app h t from new) (sym (take_more points n no_point lt))
        (stretch_more from old new (take n points) (get_or points (n - 1) no_point) (get_or points n no_point) w.stretch step);
    at = subst (λ k. IsRaisedAt config app h t new (get_or points k no_point)) here step.at;
  }

  pub under_way_all : (from to : List Standing) (points : List Point) (n : ℕ) → length points ≤ n → IsUnderWay from points n to → IsStretch config app h t from to points
  under_way_all from to points n le w = subst (IsStretch config app h t from to) (take_all n points le) w.stretch
