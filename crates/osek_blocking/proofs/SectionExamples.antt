-- Short systems and their bounds, by the definitions.
use Rattle.std.proofs.Common.{◌≡◌, ℕ, zero, suc, ◌+◌, ◌<◌, ◌≤◌, inl, inr, true, false, cond, List, [], ◌∷◌, ◌++◌, Option, Some, None, pos, refl, sym, ap, ◌∙◌, subst, arith}
use Rattle.std.specs.List.{AllByRecursion}
use Rattle.std.proofs.lemmas.Bool.{false≢true}
use Rattle.sloth_base.specs.declared.config.Config.{Config}
use Rattle.sloth_base.specs.declared.app.App.{App}
use Rattle.sloth_base.specs.declared.app.Func.{Func}
use Rattle.sloth_base.specs.declared.app.Op.{Op}
use Rattle.sloth_base.specs.declared.app.Op.TheVariants as op
use Rattle.sloth_base.specs.declared.app.ImmKind.TheVariants as imm
use Rattle.sloth_base.specs.declared.app.BranchKind.TheVariants as branch
use Rattle.sloth_base.specs.declared.service.Service.{Service}
use Rattle.sloth_base.specs.declared.service.Service.TheVariants as service
use Rattle.sloth_base.specs.Named.{function, operation}
use Rattle.code_rules.specs.Code.{IsItem, IsPathStep, is_followed, way}
use Rattle.osek_scheduler.proofs.Examples.{full, system, body, code, serve}
use Rattle.osek_scheduler.specs.Apart.{static_priority}
use Rattle.osek_blocking.specs.Walks.{Position, place, first_position, chains_itself, GoesOnInside, LeadsTo, IsPositionStep, IsPositionStepTo, AreConsecutive, IsWalk}
use Rattle.osek_blocking.specs.Sections.{priority_at, operation_at, is_counted, OnlyLastSchedules, IsSection, size_of_section, IsLower, IsSectionFor, NoneIsLarger, IsBound, lowest, above, HasNoBound}
use Rattle.osek_blocking.proofs.Reached.{IsReached, reached_next}

-- the current priority of task t at the position is at least the static priority of task h
abbrev IsRaisedAt : Config → App → (h t : ℕ) → Position → Type 0
IsRaisedAt config app h t at = static_priority config h ≤ priority_at config app t at

-- ---- values that no step of a walk exceeds bound the sections

module _ (config : Config) (app : App) (h t : ℕ) (value : Position → ℕ) where
  record IsPotential : Type 0 where
    alone : (at : Position) → IsReached app t at → IsRaisedAt config app h t at → cond (is_counted (operation_at app at)) 1 0 ≤ value at
    steps : (at next : Position) → IsReached app t at → IsRaisedAt config app h t at → IsRaisedAt config app h t next → IsPositionStep app at next
        → cond (is_counted (operation_at app at)) 1 0 + value next ≤ value at

  within : IsPotential → (at : Position) (further : List Position) → IsReached app t at → AreConsecutive app (at ∷ further)
      → AllByRecursion (IsRaisedAt config app h t) (at ∷ further) → size_of_section app (at ∷ further) ≤ value at
  within p at [] r c raised = let le = p.alone at r raised.0 in omega (arith, le)
  within p at (next ∷ further) r c raised =
      let le = within p next further (reached_next app t at next r c.0) c.1 raised.1 in
      let step = p.steps at next r raised.0 raised.1.0 c.0 in
      omega (arith, le, step)

  walk_front : (before further : List Position) (at : Position) → IsWalk app t (before ++ at ∷ further) → IsReached app t at × AreConsecutive app (at ∷ further)
  walk_front before further at w = (record { before = before; walk = front before w }, behind before w)
    where
      consecutive_front : (before : List Position) → AreConsecutive app (before ++ at ∷ further) → AreConsecutive app (before ++ at ∷ [])
      consecutive_front [] c = (tt, tt)
      consecutive_front (x ∷ []) c = (c.0, (tt, tt))
      consecutive_front (x ∷ y ∷ before) c = (c.0, consecutive_front (y ∷ before) c.1)

      front : (before : List Position) → IsWalk app t (before ++ at ∷ further) → IsWalk app t (before ++ at ∷ [])
      front [] w = (w.0, (tt, tt))
      front (x ∷ before) w = (w.0, consecutive_front (x ∷ before) w.1)

      consecutive_behind : (before : List Position) → AreConsecutive app (before ++ at ∷ further) → AreConsecutive app (at ∷ further)
      consecutive_behind [] c = c
      consecutive_behind (x ∷ before) c = consecutive_behind before c.1

      behind : (before : List Position) → IsWalk app t (before ++ at ∷ further) → AreConsecutive app (at ∷ further)
      behind [] w = w.1
      behind (x ∷ before) w = consecutive_behind (x ∷ before) w.1

  sections_within : IsPotential → (n : ℕ) → ((at : Position) → value at ≤ n) → (positions : List Position) → IsSection config app h t positions
      → size_of_section app positions ≤ n
  sections_within p n most [] s = omega arith
  sections_within p n most (at ∷ further) s =
      let w = walk_front s.before further at s.of_walk in
      let le = within p at further w.0 w.1 s.raised in
      let top = most at in
      omega (arith, le, top)

-- what holds of the first position and of each next one holds of each that a walk leads to
module _ (app : App) (t : ℕ) (P : Position → Type 0) (first : P (first_position app t)) (next : (at to : Position) → P at → IsPositionStep app at to → P to) where
  along : (at : Position) (before : List Position) (last : Position) → P at → AreConsecutive app (at ∷ (before ++ last ∷ [])) → P last
  along at [] last p c = next at last p c.0
  along at (x ∷ before) last p c = along x before last (next at x p c.0) c.1

  always : (at : Position) → IsReached app t at → P at
  always at r = by r.before r.walk
    where
      by : (before : List Position) → IsWalk app t (before ++ at ∷ []) → P at
      by [] w = subst P (sym w.0) first
      by (x ∷ before) w = along x before at (subst P (sym w.0) first) w.1

-- ---- Low, 0, takes the resource that High, 2, lists; Middle, 1, does not

abbrev three : Config
three = system (full 1 true (0 ∷ []) 0 ∷ full 2 false [] 0 ∷ full 3 false (0 ∷ []) 0 ∷ [])

abbrev nop : Op
nop = op.AluImm imm.Addi 0 0 (pos 0)

abbrev three_app : App
three_app = code (body 0 (serve service.GetResource 0 0 ∷ serve service.ActivateTask 2 0 ∷ serve service.ActivateTask 1 0 ∷ serve service.ReleaseResource 0 0 ∷ nop ∷ serve service.TerminateTask 0 0 ∷ []) []
    ∷ body 1 (serve service.TerminateTask 0 0 ∷ []) []
    ∷ body 2 (serve service.GetResource 0 0 ∷ serve service.ReleaseResource 0 0 ∷ serve service.TerminateTask 0 0 ∷ []) [] ∷ []) []

-- behind an item that does not jump a walk goes on to the next one, where it goes on
straight : (i : ℕ) (to : Position) → way (operation three_app 0 i) ≡ None → GoesOnInside three_app 0 i [] to
    → (is_followed (operation three_app 0 i) ≡ true) × (to ≡ place 0 (i + 1) ∷ [])
straight i to free g = by g.1
  where
    differ : (p : Option ℕ) (k : ℕ) → p ≡ None → p ≡ Some k → ⊥
    differ p k e d = cc

    by : IsPathStep (function three_app 0) i g.0 → (is_followed (operation three_app 0 i) ≡ true) × (to ≡ place 0 (i + 1) ∷ [])
    by (inl x) = (x.0, g.3 ∙ ap (λ j. place 0 j ∷ []) x.1)
    by (inr x) = absurd (differ (way (operation three_app 0 i)) x.0 free x.1)

-- Low stands before one of its six items
abbrev AtLow : Position → Type 0
AtLow at = (i : ℕ) × (i < 6) × (at ≡ place 0 i ∷ [])

led : (i : ℕ) (to : Position) → IsPositionStep three_app (place 0 i ∷ []) to → LeadsTo three_app (operation three_app 0 i) 0 i [] to
led i to w = subst (λ o. LeadsTo three_app o 0 i [] to) (sym w.1.is) w.2

low_next : (i : ℕ) (to : Position) → i < 6 → IsPositionStep three_app (place 0 i ∷ []) to → (i < 5) × (to ≡ place 0 (i + 1) ∷ [])
low_next zero to lt w = let s = straight 0 to refl (led 0 to w) in (omega arith, s.1)
low_next (suc zero) to lt w = let s = straight 1 to refl (led 1 to w) in (omega arith, s.1)
low_next (suc (suc zero)) to lt w = let s = straight 2 to refl (led 2 to w) in (omega arith, s.1)
low_next (suc (suc (suc zero))) to lt w = let s = straight 3 to refl (led 3 to w) in (omega arith, s.1)
low_next (suc (suc (suc (suc zero)))) to lt w = let s = straight 4 to refl (led 4 to w) in (omega arith, s.1)
low_next (suc (suc (suc (suc (suc zero))))) to lt w = let s = straight 5 to refl (led 5 to w) in absurd (false≢true s.0)
low_next (suc (suc (suc (suc (suc (suc i)))))) to lt w = absurd (omega (arith, lt))

at_low : (at : Position) → IsReached three_app 0 at → AtLow at
at_low = always three_app 0 AtLow (0, omega arith, refl) (λ at to p w. on p.0 at to p.1 p.2 w)
  where
    on : (i : ℕ) (at to : Position) → i < 6 → at ≡ place 0 i ∷ [] → IsPositionStep three_app at to → AtLow to
    on i at to lt e w =
        let n = low_next i to lt (subst (λ p. IsPositionStep three_app p to) e w) in
        let less = n.0 in
        (i + 1, omega (arith, less), n.1)

-- how many of the items from this one on it executes with the resource
abbrev left : ℕ → ℕ
left zero = 0
left (suc zero) = 3
left (suc (suc zero)) = 2
left (suc (suc (suc zero))) = 1
left (suc (suc (suc (suc i)))) = 0

abbrev value : Position → ℕ
value [] = 0
value (here ∷ outer) = left here.item

-- ---- the values of Low's positions, for task h, that is 1 or 2

module _ (h : ℕ) (above_low : 2 ≤ static_priority three h) where
  low_alone : (i : ℕ) → i < 6 → IsRaisedAt three three_app h 0 (place 0 i ∷ []) → cond (is_counted (operation_at three_app (place 0 i ∷ []))) 1 0 ≤ left i
  low_alone zero lt le = absurd (omega (arith, le, above_low))
  low_alone (suc zero) lt le = omega arith
  low_alone (suc (suc zero)) lt le = omega arith
  low_alone (suc (suc (suc zero))) lt le = omega arith
  low_alone (suc (suc (suc (suc zero)))) lt le = absurd (omega (arith, le, above_low))
  low_alone (suc (suc (suc (suc (suc zero))))) lt le = absurd (omega (arith, le, above_low))
  low_alone (suc (suc (suc (suc (suc (suc i)))))) lt le = absurd (omega (arith, lt))

  low_steps : (i : ℕ) → i < 5 → IsRaisedAt three three_app h 0 (place 0 i ∷ []) → IsRaisedAt three three_app h 0 (place 0 (i + 1) ∷ [])
      → cond (is_counted (operation_at three_app (place 0 i ∷ []))) 1 0 + left (i + 1) ≤ left i
  low_steps zero lt le next = absurd (omega (arith, le, above_low))
  low_steps (suc zero) lt le next = omega arith
  low_steps (suc (suc zero)) lt le next = omega arith
  low_steps (suc (suc (suc zero))) lt le next = absurd (omega (arith, next, above_low))
  low_steps (suc (suc (suc (suc zero)))) lt le next = absurd (omega (arith, le, above_low))
  low_steps (suc (suc (suc (suc (suc i))))) lt le next = absurd (omega (arith, lt))

  low_potential : IsPotential three three_app h 0 value
  low_potential = record {
    alone = λ at r raised. alone at (at_low at r) raised;
    steps = λ at next r raised raised_next w. steps at next (at_low at r) raised raised_next w;
  }
    where
      alone : (at : Position) → AtLow at → IsRaisedAt three three_app h 0 at → cond (is_counted (operation_at three_app at)) 1 0 ≤ value at
      alone at p =
          let P : Position → Type 0 = λ q. IsRaisedAt three three_app h 0 q → cond (is_counted (operation_at three_app q)) 1 0 ≤ value q in
          subst P (sym p.2) (low_alone p.0 p.1)

      steps : (at next : Position) → AtLow at → IsRaisedAt three three_app h 0 at → IsRaisedAt three three_app h 0 next → IsPositionStep three_app at next
          → cond (is_counted (operation_at three_app at)) 1 0 + value next ≤ value at
      steps at next p raised raised_next w =
          let n = low_next p.0 next p.1 (subst (λ q. IsPositionStep three_app q next) p.2 w) in
          let P : Position → Type 0 = λ q. cond (is_counted (operation_at three_app q)) 1 0 + value next ≤ value q in
          let Q : Position → Type 0 = λ q. cond (is_counted (operation_at three_app (place 0 p.0 ∷ []))) 1 0 + value q ≤ left p.0 in
          subst P (sym p.2) (subst Q (sym n.1)
          (low_steps p.0 n.0 (subst (IsRaisedAt three three_app h 0) p.2 raised) (subst (IsRaisedAt three three_app h 0) n.1 raised_next)))

-- ---- the bound of Middle, 1, is 4: one service, and three items of Low

low_is_lower : (t : ℕ) → IsLower three 1 t → t ≡ 0
low_is_lower zero l = refl
low_is_lower (suc zero) l = let lt = l.1 in absurd (omega (arith, lt))
low_is_lower (suc (suc zero)) l = let lt = l.1 in absurd (omega (arith, lt))
low_is_lower (suc (suc (suc t))) l = let lt = l.0 in absurd (omega (arith, lt))

value_small : (at : Position) → value at ≤ 3
value_small [] = omega arith
value_small (here ∷ outer) = by here.item
  where
    by : (i : ℕ) → left i ≤ 3
    by zero = omega arith
    by (suc zero) = omega arith
    by (suc (suc zero)) = omega arith
    by (suc (suc (suc zero))) = omega arith
    by (suc (suc (suc (suc i)))) = omega arith

none_above_three : NoneIsLarger three three_app 1 3
none_above_three positions s =
    sections_within three three_app 1 0 value (low_potential 1 (omega arith)) 3 value_small positions
    (subst (λ t. IsSection three three_app 1 t positions) (low_is_lower s.task s.lower) s.is_section)

serves_on : (i object : ℕ) (s : Service) → IsItem three_app 0 i (serve s object 0) → is_followed (operation three_app 0 i) ≡ true
    → chains_itself (function three_app 0) (operation three_app 0 i) ≡ false → IsPositionStep three_app (place 0 i ∷ []) (place 0 (i + 1) ∷ [])
serves_on i object s item goes free = (serve s object 0, item, (i + 1, inl (goes, refl), free, refl))

here_is : (i object : ℕ) (s : Service) → i < 6 → operation three_app 0 i ≡ serve s object 0 → IsItem three_app 0 i (serve s object 0)
here_is i object s lt is = record { known = omega arith; inside = lt; is = is }

three_items : IsSectionFor three three_app 1 ((place 0 1 ∷ []) ∷ (place 0 2 ∷ []) ∷ (place 0 3 ∷ []) ∷ [])
three_items = record {
  task = 0;
  lower = (omega arith, omega arith);
  is_section = record {
    before = (place 0 0 ∷ []) ∷ [];
    of_walk = (
      refl,
      (
        serves_on 0 0 service.GetResource (here_is 0 0 service.GetResource (omega arith) refl) refl refl,
        (
          serves_on 1 2 service.ActivateTask (here_is 1 2 service.ActivateTask (omega arith) refl) refl refl,
          (serves_on 2 1 service.ActivateTask (here_is 2 1 service.ActivateTask (omega arith) refl) refl refl, (tt, tt)),
        ),
      ),
    );
    raised = (omega arith, (omega arith, (omega arith, tt)));
    unbroken = ((λ _. refl), ((λ _. refl), ((λ _. refl), tt)));
  };
}

pub bound_of_middle : IsBound three three_app 1 4
bound_of_middle = above 3 (record { positions = _; is_section = three_items; size = refl; none_larger = none_above_three })

-- that of Low is 0
pub bound_of_low : IsBound three three_app 0 0
bound_of_low = lowest nobody
  where
    nobody : (t : ℕ) → ¬ (IsLower three 0 t)
    nobody zero l = let lt = l.1 in omega (arith, lt)
    nobody (suc zero) l = let lt = l.1 in omega (arith, lt)
    nobody (suc (suc zero)) l = let lt = l.1 in omega (arith, lt)
    nobody (suc (suc (suc t))) l = let lt = l.0 in omega (arith, lt)

-- ---- a loop at the release

-- a body whose label, at item 3, holds the resource
abbrev holding : Func → Func
holding f = record f { labels = record { name = []; line = 0; item = 3; holds = 0 ∷ [] } ∷ [] }

abbrev looping_app : App
looping_app = code (holding (body 0 (serve service.GetResource 0 0 ∷ serve service.ActivateTask 2 0 ∷ serve service.ActivateTask 1 0 ∷ op.Branch branch.Bne 5 0 0 ∷ serve service.ReleaseResource 0 0 ∷ nop ∷ serve service.TerminateTask 0 0 ∷ []) [])
    ∷ body 1 (serve service.TerminateTask 0 0 ∷ []) []
    ∷ body 2 (serve service.GetResource 0 0 ∷ serve service.ReleaseResource 0 0 ∷ serve service.TerminateTask 0 0 ∷ []) [] ∷ []) []

-- the loop's position, so many times and once more
abbrev again : ℕ → List Position
again zero = (place 0 3 ∷ []) ∷ []
again (suc n) = (place 0 3 ∷ []) ∷ again n

loops_back : IsPositionStep looping_app (place 0 3 ∷ []) (place 0 3 ∷ [])
loops_back = (op.Branch branch.Bne 5 0 0, record { known = omega arith; inside = omega arith; is = refl }, (3, inr (0, refl, refl), refl, refl))

again_walks : (n : ℕ) → AreConsecutive looping_app (again n)
again_walks zero = (tt, tt)
again_walks (suc n) = (to_first n, again_walks n)
  where
    to_first : (n : ℕ) → IsPositionStepTo looping_app (place 0 3 ∷ []) (again n)
    to_first zero = loops_back
    to_first (suc n) = loops_back

again_raised : (n : ℕ) → AllByRecursion (IsRaisedAt three looping_app 2 0) (again n)
again_raised zero = (omega arith, tt)
again_raised (suc n) = (omega arith, again_raised n)

again_unbroken : (n : ℕ) → OnlyLastSchedules looping_app (again n)
again_unbroken zero = ((λ _. refl), tt)
again_unbroken (suc n) = ((λ _. refl), again_unbroken n)

again_large : (n : ℕ) → n < size_of_section looping_app (again n)
again_large zero = omega arith
again_large (suc n) = let lt = again_large n in omega (arith, lt)

goes_at : (i object : ℕ) (s : Service) → i < 7 → operation looping_app 0 i ≡ serve s object 0 → is_followed (operation looping_app 0 i) ≡ true
    → chains_itself (function looping_app 0) (operation looping_app 0 i) ≡ false → IsPositionStep looping_app (place 0 i ∷ []) (place 0 (i + 1) ∷ [])
goes_at i object s lt is goes free = (serve s object 0, record { known = omega arith; inside = lt; is = is }, (i + 1, inl (goes, refl), free, refl))

-- High, 2, has no bound
pub no_bound_of_high : HasNoBound three looping_app 2
no_bound_of_high n = (again n, record { task = 0; lower = (omega arith, omega arith); is_section = section n }, again_large n)
  where
    walk : (n : ℕ) → IsWalk looping_app 0 ((place 0 0 ∷ []) ∷ (place 0 1 ∷ []) ∷ (place 0 2 ∷ []) ∷ again n)
    walk n = (
      refl,
      (goes_at 0 0 service.GetResource (omega arith) refl refl refl, (goes_at 1 2 service.ActivateTask (omega arith) refl refl refl, (to_loop n, again_walks n))),
    )
      where
        to_loop : (n : ℕ) → IsPositionStepTo looping_app (place 0 2 ∷ []) (again n)
        to_loop zero = goes_at 2 1 service.ActivateTask (omega arith) refl refl refl
        to_loop (suc n) = goes_at 2 1 service.ActivateTask (omega arith) refl refl refl

    section : (n : ℕ) → IsSection three looping_app 2 0 (again n)
    section n = record {
      before = (place 0 0 ∷ []) ∷ (place 0 1 ∷ []) ∷ (place 0 2 ∷ []) ∷ [];
      of_walk = walk n;
      raised = again_raised n;
      unbroken = again_unbroken n;
    }
