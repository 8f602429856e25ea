-- Each part of a task's walks is one that begins and stays in the activation of its body, built item by item.
use Rattle.std.proofs.Common.{◌≡◌, ℕ, ◌+◌, ◌<◌, ◌⊎◌, inl, inr, true, false, List, [], ◌∷◌, ◌++◌, length, Option, None, refl, sym, ap, ◌∙◌, subst, arith}
use Rattle.std.specs.List.{AllByRecursion}
use Rattle.std.proofs.lemmas.Bool.{false≢true}
use Rattle.std.proofs.lemmas.List.{append_assoc}
use Rattle.sloth_base.specs.declared.config.Config.{Config}
use Rattle.sloth_base.specs.declared.app.App.{App}
use Rattle.sloth_base.specs.declared.app.Op.TheVariants as op
use Rattle.sloth_base.specs.Named.{body_of}
use Rattle.code_rules.specs.Code.{IsItem}
use Rattle.osek_scheduler.proofs.Facts.{Facts}
use Rattle.osek_blocking.specs.Walks.{Place, Position, place, GoesBack, IsPositionStep, AreConsecutive, IsWalk, first_position}
use Rattle.osek_blocking.specs.Sections.{operation_at}
use Rattle.bound_rules.specs.declared.bound.BodyWeights.{BodyWeights}
use Rattle.bound_rules.specs.Weights.{going_weight, ending_weight}
use Rattle.walk_sums.specs.Weights.{going_at, sum_of}
use Rattle.walk_sums.specs.Activations.{is_raised, called_level, IsRaisedCall, level_behind}
use Rattle.walk_sums.proofs.LevelsAt.{leads_cases}
use Rattle.walk_sums.proofs.Callers.{step_of, AreCallers, Walked, stands_on, item_at, walked_to}
use Rattle.walk_sums.specs.declared.levels.Kind.{Kind}
use Rattle.walk_sums.specs.declared.levels.Kind.TheVariants as kinds
use Rattle.walk_sums.specs.Rounds.{OnlyLast, IsPart, IsFirst, IsBehindWait, is_wait}
use Rattle.walk_sums.specs.Kinds.{stops, StandsBehindWait, MayBegin, MayFollow, MayOpen}
use Rattle.walk_sums.specs.Parts.{IsOpenStep, SumsBack, SumsOn, SumsOut, SumsWithin, back_returns, back_inside, back_passes, on_ends, on_inside, on_enters, on_passes, out_here, out_behind, within_here, within_called, within_behind}
use Rattle.walk_sums.proofs.Covering.{waits_next}

-- the level of what is called at a position, and that parts stand exactly where it is reached
pub record IsStanding (config : Config) (app : App) (Level : Position → Option ℕ) (Stands : Position → Type 0) : Type 0 where
  pub opens : (f i : ℕ) (outer : Position) → Stands (place f i ∷ outer) → is_raised config app (Level outer) f i ≡ true
  pub stands : (f i : ℕ) (outer : Position) → is_raised config app (Level outer) f i ≡ true → Stands (place f i ∷ outer)
  pub called : (f i : ℕ) (outer : Position) → Level (place f i ∷ outer) ≡ level_behind config app (Level outer) f i

module _ (config : Config) (app : App) (weights : List BodyWeights) (kind : Kind) (t : ℕ) (L : Position → Option ℕ) (IsRaisedAt : Position → Type 0)
    (standing : IsStanding config app L IsRaisedAt) where
  raised_here : (f i : ℕ) (outer : Position) → IsRaisedAt (place f i ∷ outer) → is_raised config app (L outer) f i ≡ true
  raised_here f i outer r = standing.opens f i outer r

  level_called : (f i : ℕ) (outer : Position) → L (place f i ∷ outer) ≡ level_behind config app (L outer) f i
  level_called = standing.called

  raised_inside : (f i : ℕ) (outer : Position) → IsRaisedAt (place f i ∷ outer) → L (place f i ∷ outer) ≡ None
  raised_inside f i outer r = level_called f i outer ∙ ap (λ b. called_level b (L outer)) (raised_here f i outer r)

  -- ---- from the end of a section backwards

  -- positions that count n begin at item i of function f, over these callers: they stay in its activation, or leave it and go on in the caller's
  abbrev Spreads : (f i : ℕ) (outer : Position) (n : ℕ) → Type 0
  Spreads f i [] n = SumsOn config app weights kind (L []) f i n
  Spreads f i (caller ∷ outer) n =
      SumsOn config app weights kind (L (caller ∷ outer)) f i n
      ⊎ ((k : ℕ) × (m : ℕ) × SumsBack config app weights kind (L (caller ∷ outer)) f i k × Spreads caller.func (caller.item + 1) outer m × (n ≡ k + m))

  abbrev SpreadsAt : Position → ℕ → Type 0
  SpreadsAt [] n = ⊥
  SpreadsAt (here ∷ outer) n = Spreads here.func here.item outer n

  stays : (f i n : ℕ) (outer : Position) → SumsOn config app weights kind (L outer) f i n → Spreads f i outer n
  stays f i n [] on = on
  stays f i n (caller ∷ outer) on = inl on

  -- a plain item in front
  inside_front : (f i j n : ℕ) (outer : Position) → IsOpenStep config app kind (L outer) f i j → Spreads f j outer n → Spreads f i outer (going_weight weights f i + n)
  inside_front f i j n [] p s = on_inside (L []) f i j n p s
  inside_front f i j n (caller ∷ outer) p (inl on) = inl (on_inside (L (caller ∷ outer)) f i j n p on)
  inside_front f i j n (caller ∷ outer) p (inr s) =
      let e = s.4 in
      inr (going_weight weights f i + s.0, s.1, back_inside (L (caller ∷ outer)) f i j s.0 p s.2, s.3, omega (arith, e))

  -- a call in front
  call_front : (f i g n : ℕ) (outer : Position) → IsRaisedCall config app (L outer) f i g → L (place f i ∷ outer) ≡ None → Spreads g 0 (place f i ∷ outer) n → Spreads f i outer (going_weight weights f i + n)
  call_front f i g n outer e none (inl on) = stays f i (going_weight weights f i + n) outer (on_enters (L outer) f i g n e (subst (λ l. SumsOn config app weights kind l g 0 n) none on))
  call_front f i g n outer e none (inr s) =
      by outer e s.3
    where
      back : SumsBack config app weights kind None g 0 s.0
      back = subst (λ l. SumsBack config app weights kind l g 0 s.0) none s.2

      by : (outer : Position) → IsRaisedCall config app (L outer) f i g → Spreads f (i + 1) outer s.1 → Spreads f i outer (going_weight weights f i + n)
      by [] e rest = subst (SumsOn config app weights kind (L []) f i) (let is = s.4 in omega (arith, is)) (on_passes (L []) f i g s.0 s.1 e back rest)
      by (caller ∷ outer) e (inl on) = inl (subst (SumsOn config app weights kind (L (caller ∷ outer)) f i) (let is = s.4 in omega (arith, is)) (on_passes (L (caller ∷ outer)) f i g s.0 s.1 e back on))
      by (caller ∷ outer) e (inr q) =
          inr (going_weight weights f i + (s.0 + q.0), q.1, back_passes (L (caller ∷ outer)) f i g s.0 q.0 e back q.2, q.3, (let is = s.4 in let more = q.4 in omega (arith, is, more)))

  -- one position in front
  front : (at next : Position) (n : ℕ) → IsRaisedAt at → stops kind (operation_at app at) ≡ false → IsPositionStep app at next → SpreadsAt next n
      → SpreadsAt at (going_at weights at + n)
  front [] next n r free w s = absurd w
  front (here ∷ outer) next n r free w s =
      leads_cases app w.0 f i outer next (λ o. IsItem app f i o → SpreadsAt next n → SpreadsAt (here ∷ outer) (going_weight weights f i + n))
      (λ plain g item s.
      let P : Position → Type 0 = λ p. SpreadsAt p n in
      inside_front f i g.0 n outer
      (record { step = step_of app w.0 f i g.0 item plain g.1 g.2; no_stop = sym (ap (stops kind) item.is) ∙ free; raised = raised_here f i outer r })
      (subst P g.3 s))
      (λ g is e item s.
      let call = subst (IsItem app f i) is item in
      let P : Position → Type 0 = λ p. SpreadsAt p n in
      call_front f i g n outer (record { item = call; raised = raised_here f i outer r }) (raised_inside f i outer r) (subst P e s))
      (λ is back item s. returned outer back (subst (IsItem app f i) is item) (raised_here f i outer r) s)
      w.2 w.1 s
    where
      f : ℕ
      f = here.func

      i : ℕ
      i = here.item

      returned : (outer : Position) → GoesBack outer next → IsItem app f i op.Return → is_raised config app (L outer) f i ≡ true → SpreadsAt next n → Spreads f i outer (going_weight weights f i + n)
      returned [] back item raised s = absurd back
      returned (caller ∷ rest) back item raised s =
          let P : Position → Type 0 = λ p. SpreadsAt p n in
          inr (going_weight weights f i, n, back_returns (L (caller ∷ rest)) f i item raised, subst P back s, refl)

  abbrev AtWait : Position → Type 0
  AtWait [] = ⊥
  AtWait (here ∷ outer) = StandsBehindWait app here.func here.item

  module _ (w : Facts config app) where
    -- consecutive raised positions, none but the last a Schedule
    spreads : (at : Position) (further : List Position) → AreConsecutive app (at ∷ further) → AllByRecursion IsRaisedAt (at ∷ further)
        → OnlyLast app (stops kind) (at ∷ further) → Walked app t at → SpreadsAt at (sum_of weights (at ∷ further))
    spreads [] further c r u s = absurd s
    spreads (here ∷ outer) [] c r u s =
        stays here.func here.item (ending_weight weights here.func here.item) outer
        (on_ends (L outer) here.func here.item (item_at config app w here.func here.item s.0 s.1) (raised_here here.func here.item outer r.0))
    spreads (here ∷ outer) (next ∷ further) c r u s =
        front (here ∷ outer) next (sum_of weights (next ∷ further)) r.0 (u.0 (λ e. cc)) c.0
        (spreads next further c.1 r.1 u.1 (stands_on config app w t (here ∷ outer) next s c.0))

    -- ---- up to the body of the task

    abbrev Whole : ℕ → Type 0
    Whole n = SumsWithin config app weights kind (L []) (body_of app.funcs t) n

    climb_in : (f : ℕ) (outer : Position) (n : ℕ) → AreCallers app t f outer → SumsWithin config app weights kind (L outer) f n → Whole n
    climb_in f [] n callers w = subst (λ g. SumsWithin config app weights kind (L []) g n) callers w
    climb_in f (caller ∷ outer) n callers w =
        climb_in caller.func outer n callers.1
        (within_called (L outer) caller.func caller.item f n callers.0 (subst (λ l. SumsWithin config app weights kind l f n) (level_called caller.func caller.item outer) w))

    climb_out : (f : ℕ) (caller : Place) (outer : Position) (k m : ℕ) → AreCallers app t f (caller ∷ outer) → SumsOut config app weights kind (L (caller ∷ outer)) f k
        → Spreads caller.func (caller.item + 1) outer m → Whole (k + m)
    climb_out f caller [] k m callers out on =
        climb_in caller.func [] (k + m) callers.1
        (within_behind (L []) caller.func caller.item f k m callers.0 (subst (λ l. SumsOut config app weights kind l f k) (level_called caller.func caller.item []) out) on)
    climb_out f caller (next ∷ outer) k m callers out (inl on) =
        climb_in caller.func (next ∷ outer) (k + m) callers.1
        (within_behind (L (next ∷ outer)) caller.func caller.item f k m callers.0 (subst (λ l. SumsOut config app weights kind l f k) (level_called caller.func caller.item (next ∷ outer)) out) on)
    climb_out f caller (next ∷ outer) k m callers out (inr s) =
        subst Whole (let e = s.4 in omega (arith, e))
        (climb_out caller.func next outer (k + s.0) s.1 callers.1
        (out_behind (L (next ∷ outer)) caller.func caller.item f k s.0 callers.0 (subst (λ l. SumsOut config app weights kind l f k) (level_called caller.func caller.item (next ∷ outer)) out) s.2) s.3)

    abbrev Begins : Position → Type 0
    Begins [] = ⊥
    Begins (here ∷ outer) = MayBegin app kind here.func here.item

    climb : (at : Position) (n : ℕ) → Walked app t at → Begins at → SpreadsAt at n → Whole n
    climb [] n s may p = absurd s
    climb (here ∷ []) n s may on = climb_in here.func [] n s.2 (within_here (L []) here.func here.item n s.1 may on)
    climb (here ∷ caller ∷ outer) n s may (inl on) = climb_in here.func (caller ∷ outer) n s.2 (within_here (L (caller ∷ outer)) here.func here.item n s.1 may on)
    climb (here ∷ caller ∷ outer) n s may (inr p) =
        subst Whole (let e = p.4 in omega (arith, e))
        (climb_out here.func caller outer p.0 p.1 s.2 (out_here (L (caller ∷ outer)) here.func here.item p.0 s.1 may p.2) p.3)

    -- behind a WaitEvent
    begins_behind : (from at : Position) → Walked app t from → is_wait (operation_at app from) ≡ true → IsPositionStep app from at → AtWait at
    begins_behind [] at s e step = absurd s
    begins_behind (here ∷ outer) at s e step =
        leads_cases app step.0 here.func here.item outer at (λ o. IsItem app here.func here.item o → AtWait at)
        (λ plain g item. subst AtWait (sym g.3) (record {
          wait = here.item;
          next = waits_next app here.func here.item g.0 e g.1;
          reached = s.1;
          item = record { known = item.known; inside = item.inside; is = refl };
          waits = e;
        }))
        (λ g is next item. absurd (false≢true (sym (ap is_wait (item.is ∙ is)) ∙ e)))
        (λ is back item. absurd (false≢true (sym (ap is_wait (item.is ∙ is)) ∙ e))) step.2 step.1

    behind_wait : t < length config.tasks → (before : List Position) (at : Position) (further : List Position) → IsWalk app t (before ++ at ∷ further)
        → IsBehindWait app before → AtWait at
    behind_wait declared before at further walk (front, from, is, e) =
        let P : List Position → Type 0 = λ b. IsWalk app t (b ++ at ∷ further) in
        let whole = subst (IsWalk app t) (append_assoc front (from ∷ []) (at ∷ further)) (subst P is walk) in
        let found = walked_to config app w t declared front from (at ∷ further) whole in
        begins_behind from at found.0 e found.1.0

    begins_at : t < length config.tasks → (k : Kind) → k ≡ kind → (before : List Position) (at : Position) (further : List Position) → IsWalk app t (before ++ at ∷ further)
        → MayFollow app k before → MayOpen app k at → Begins at
    begins_at declared k same before [] further walk may may_open = absurd (walked_to config app w t declared before [] further walk).0
    begins_at declared kinds.Turns same before (here ∷ outer) further walk may may_open = absurd may
    begins_at declared kinds.Rounds same before (here ∷ outer) further walk may may_open =
        subst (λ v. MayBegin app v here.func here.item) same (behind_wait declared before (here ∷ outer) further walk may)
    begins_at declared kinds.Sections same before (here ∷ outer) further walk may may_open = subst (λ v. MayBegin app v here.func here.item) same tt
    begins_at declared (kinds.EarlySections line) same before (here ∷ outer) further walk may may_open = subst (λ v. MayBegin app v here.func here.item) same may_open
    begins_at declared (kinds.Uncleared events) same before (here ∷ outer) further walk may may_open =
        subst (λ v. MayBegin app v here.func here.item) same (behind_wait declared before (here ∷ outer) further walk may)

    -- ---- parts

    -- one that begins with the first item
    pub first_part : t < length config.tasks → (at : Position) (further : List Position) → IsPart app t IsFirst IsRaisedAt (stops kind) (at ∷ further)
        → SumsOn config app weights kind (L []) (body_of app.funcs t) 0 (sum_of weights (at ∷ further))
    first_part declared at further is =
        let P : List Position → Type 0 = λ b. IsWalk app t (b ++ at ∷ further) in
        let walk : (at ≡ first_position app t) × AreConsecutive app (at ∷ further) = subst P is.begins is.of_walk in
        let found = walked_to config app w t declared is.before at further is.of_walk in
        let Q : Position → Type 0 = λ p. SpreadsAt p (sum_of weights (at ∷ further)) in
        subst Q walk.0 (spreads at further walk.1 is.stands is.unbroken found.0)

    -- one that begins where parts may
    pub later_part : t < length config.tasks → (at : Position) (further : List Position) → IsPart app t (MayFollow app kind) IsRaisedAt (stops kind) (at ∷ further)
        → MayOpen app kind at → Whole (sum_of weights (at ∷ further))
    later_part declared at further is may_open =
        let found = walked_to config app w t declared is.before at further is.of_walk in
        climb at (sum_of weights (at ∷ further)) found.0 (begins_at declared kind refl is.before at further is.of_walk is.begins may_open)
        (spreads at further found.1 is.stands is.unbroken found.0)
