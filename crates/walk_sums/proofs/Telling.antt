-- What is told of a task is so, from the summary of its body.
use Rattle.std.proofs.Common.{◌≡◌, ℕ, ◌-◌, ◌<◌, ◌≤◌, ◌⊎◌, inl, inr, Bool, true, false, leb, cond, List, [], ◌∷◌, length, Option, Some, None, refl, sym, ap, ◌∙◌, subst, arith}
use Rattle.std.specs.Prelude.{MatchBool}
use Rattle.std.proofs.lemmas.Bool.{cases_eq, le-leb}
use Rattle.std.proofs.lemmas.Bool.Decides.{leb_tells}
use Rattle.sloth_base.specs.declared.config.Config.{Config}
use Rattle.sloth_base.specs.declared.app.App.{App}
use Rattle.sloth_base.specs.Named.{body_of, declaration, function, item_of}
use Rattle.sloth_base.specs.Limits.{count_limit}
use Rattle.code_rules.specs.WellFormed.{WellFormed}
use Rattle.call_graph.specs.Tables.{HasTaskBody}
use Rattle.stack_bounds.proofs.Bodies.{bodies_of}
use Rattle.osek_scheduler.specs.Apart.{static_priority}
use Rattle.osek_scheduler.proofs.Facts.{Facts}
use Rattle.osek_scheduler.proofs.Stacks.{has_body}
use Rattle.osek_blocking.specs.Walks.{Position, place}
use Rattle.osek_blocking.specs.Sections.{priority_at, is_schedule, OnlyLastSchedules, IsSection, IsLower}
use Rattle.bound_rules.specs.declared.bound.Summary.{Summary}
use Rattle.bound_rules.specs.declared.bound.BodyWeights.{BodyWeights}
use Rattle.bound_rules.specs.Summaries.{summary_of}
use Rattle.bound_rules.specs.Tasks.{task_summary}
use Rattle.walk_sums.specs.Weights.{sum_of, AreWeights}
use Rattle.walk_sums.proofs.LevelsAt.{L, level_raised, level_called}
use Rattle.walk_sums.proofs.LowerLevels.{level_is}
use Rattle.walk_sums.specs.declared.levels.Kind.{Kind}
use Rattle.walk_sums.specs.declared.levels.Kind.TheVariants as kinds
use Rattle.walk_sums.specs.declared.sections.Sum.{Sum}
use Rattle.walk_sums.specs.declared.sections.Sum.TheVariants as sum
use Rattle.walk_sums.specs.Rounds.{OnlyLast, IsPart, IsFirst, Anywhere, IsTurn}
use Rattle.walk_sums.specs.Early.{position_line, BeginsAt, IsEarlySection, IsToldEarly}
use Rattle.walk_sums.specs.Kinds.{stops, MayFollow, IsEarly, MayOpen, MayOpenPart}
use Rattle.walk_sums.specs.Parts.{SumsOn, SumsWithin}
use Rattle.walk_sums.specs.Known.{IsGreatestPart, SumsAny, endless_kind, IsExact, IsEndless, IsSummary, AreSums}
use Rattle.walk_sums.specs.Told.{NoneIsAbove, SomeReaches, ReachesLimit, IsToldSum, AreToldBoth, are_limited, are_endless, AreToldRounds, told, told_rounds, told_turn, told_section}
use Rattle.walk_sums.proofs.Climbing.{IsStanding, first_part, later_part}
use Rattle.walk_sums.proofs.Walking.{first_within, later_within}

-- ---- levels

-- anywhere
pub all_stand : (config : Config) (app : App) → IsStanding config app (λ outer. None) Anywhere
all_stand config app = record { opens = λ f i outer s. refl; stands = λ f i outer e. tt; called = λ f i outer. refl }

-- where a task is raised
pub raised_stand : (config : Config) (app : App) (h t : ℕ) → IsStanding config app (L config app h t) (λ at. static_priority config h ≤ priority_at config app t at)
raised_stand config app h t = record {
  opens = λ f i outer s. sym (level_raised config app h t f i outer) ∙ le-leb (static_priority config h) (priority_at config app t (place f i ∷ outer)) s;
  stands = λ f i outer e.
      by (leb_tells (static_priority config h) (priority_at config app t (place f i ∷ outer))) (level_raised config app h t f i outer ∙ e);
  called = λ f i outer. level_called config app h t f i outer;
}
  where
    by : {a b : ℕ} → ((leb a b ≡ true) × (a ≤ b)) ⊎ ((leb a b ≡ false) × (b < a)) → leb a b ≡ true → a ≤ b
    by (inl le) e = le.1
    by (inr lt) e = let wrong : true ≡ false = sym e ∙ lt.0 in absurd cc

-- each task has a body
pub task_body : (config : Config) (app : App) → WellFormed config app → (t : ℕ) → t < length config.tasks → HasTaskBody app.funcs t
task_body config app well t declared = bodies_of config app config.tasks app.funcs well refl refl t declared

-- ---- one kind of parts

-- the parts of walks are those that are built item by item
pub record AreParts (Part : List Position → Type 0) (weights : List BodyWeights) (Sums : ℕ → Type 0) : Type 0 where
  pub built : (at : Position) (further : List Position) → Part (at ∷ further) → Sums (sum_of weights (at ∷ further))
  pub walked : (n : ℕ) → Sums n → (positions : List Position) × Part positions × (sum_of weights positions ≡ n)

module _ (Part : List Position → Type 0) (weights : List BodyWeights) (Sums : ℕ → Type 0) (parts : AreParts Part weights Sums) where
  limited : (most : ℕ) → ((n : ℕ) → Sums n → n ≤ most) → NoneIsAbove Part weights most
  limited most le [] p = omega arith
  limited most le (at ∷ further) p = le (sum_of weights (at ∷ further)) (parts.built at further p)

  reaches : (n k : ℕ) → Sums k → n ≤ k → SomeReaches Part weights n
  reaches n k s le = let w = parts.walked k s in let is = w.2 in (w.0, w.1, omega (arith, le, is))

  -- what is told of a size
  pub told_part : (size limit : ℕ) → IsGreatestPart Sums size → ((n : ℕ) → Sums n → n ≤ limit) → IsToldSum Part weights (told size)
  told_part size limit g le = by (leb_tells size count_limit)
    where
      P : Bool → Type 0
      P b = IsToldSum Part weights (cond b (sum.Counts (size - 1)) sum.Huge)

      none : size ≤ count_limit → (n : ℕ) → Sums n → n ≤ size - 1
      none small n s = let more = g.none_larger n s in omega (arith, more, small)

      some : (size ≡ 0) ⊎ (size ≡ 0 → ⊥) → size ≤ count_limit → (size - 1 ≡ 0) ⊎ SomeReaches Part weights (size - 1)
      some (inl e) small = inl (omega (arith, e))
      some (inr d) small =
          let a = g.attained (omega (arith, d)) in
          let is = a.2 in
          inr (reaches (size - 1) a.0 a.1 (omega (arith, is, small)))

      huge : count_limit < size → ReachesLimit Part weights count_limit
      huge lt =
          let a = g.attained (omega (arith, lt)) in
          let is = a.2 in
          record { some_reaches = reaches count_limit a.0 a.1 (omega (arith, is, lt)); most = limit; none_above = limited limit le }

      by : ((leb size count_limit ≡ true) × (size ≤ count_limit)) ⊎ ((leb size count_limit ≡ false) × (count_limit < size)) → P (leb size count_limit)
      by (inl small) =
          let bound = small.1 in
          subst P (sym small.0) (record { none_above = limited (size - 1) (none bound); attained = some (cases_eq size 0) bound }, omega (arith, bound))
      by (inr large) = subst P (sym large.0) (huge large.1)

told_limited : (size : ℕ) → told size ≡ sum.Endless → ⊥
told_limited size e = by (leb size count_limit) e
  where
    by : (b : Bool) → cond b (sum.Counts (size - 1)) sum.Huge ≡ sum.Endless → ⊥
    by true e = cc
    by false e = cc

-- ---- tasks

module _ (config : Config) (app : App) (w : Facts config app) (weights : List BodyWeights) (fit : AreWeights app weights) (kind : Kind) (t : ℕ) (declared : t < length config.tasks)
    (Level : Position → Option ℕ) (Stands : Position → Type 0) (standing : IsStanding config app Level Stands) where
  pub first_parts : AreParts (IsPart app t IsFirst Stands (stops kind)) weights (SumsOn config app weights kind (Level []) (body_of app.funcs t) 0)
  first_parts = record {
    built = λ at further p. first_part config app weights kind t Level Stands standing w declared at further p;
    walked = λ n s. first_within config app weights kind fit t Level Stands standing n s;
  }

  opened_parts : AreParts (λ positions. IsPart app t (MayFollow app kind) Stands (stops kind) positions × MayOpenPart app kind positions) weights
      (SumsWithin config app weights kind (Level []) (body_of app.funcs t))
  opened_parts = record {
    built = λ at further p. later_part config app weights kind t Level Stands standing w declared at further p.0 p.1;
    walked = λ n s. later_within config app weights kind fit t Level Stands standing n s;
  }

  -- where they may begin with any position
  pub later_parts : ((at : Position) → MayOpen app kind at) → AreParts (IsPart app t (MayFollow app kind) Stands (stops kind)) weights
      (SumsWithin config app weights kind (Level []) (body_of app.funcs t))
  later_parts may_open = record {
    built = λ at further p. opened_parts.built at further (p, may_open at);
    walked = λ n s. let w = opened_parts.walked n s in (w.0, w.1.0, w.2);
  }

-- what is told of two kinds of parts, by the summary of a body
both_told : (First Later : List Position → Type 0) (config : Config) (app : App) (weights : List BodyWeights) (kind : Kind) (level : Option ℕ) (f : ℕ) → endless_kind kind ≡ kind
    → AreParts First weights (SumsOn config app weights kind level f 0) → AreParts Later weights (SumsWithin config app weights kind level f) → (s : Summary)
    → IsSummary config app weights kind level f s
    → AreToldBoth First Later weights (cond s.is_endless (record { first = sum.Endless; later = sum.Endless }) (record { first = told s.on; later = told s.most }))
both_told First Later config app weights kind level f same first later s is = by s.is_endless is
  where
    by : (b : Bool) → MatchBool b (IsEndless config app weights kind level f) (IsExact config app weights kind level f s)
        → AreToldBoth First Later weights (cond b (record { first = sum.Endless; later = sum.Endless }) (record { first = told s.on; later = told s.most }))
    by true e = are_endless (λ n. some n (subst (λ v. (k : ℕ) × SumsAny config app weights v level f k × (n ≤ k)) same (e n)))
      where
        some : (n : ℕ) → (k : ℕ) × (SumsOn config app weights kind level f 0 k ⊎ SumsWithin config app weights kind level f k) × (n ≤ k) → SomeReaches First weights n ⊎ SomeReaches Later weights n
        some n (k, inl on, le) = inl (reaches First weights (SumsOn config app weights kind level f 0) first n k on le)
        some n (k, inr within, le) = inr (reaches Later weights (SumsWithin config app weights kind level f) later n k within le)
    by false x = are_limited (record { first = told s.on; later = told s.most }) (told_limited s.on) (told_limited s.most)
        (told_part First weights (SumsOn config app weights kind level f 0) first s.on x.limited.limit x.on x.limited.on)
        (told_part Later weights (SumsWithin config app weights kind level f) later s.most x.limited.limit x.most x.limited.most)

module _ (config : Config) (app : App) (w : Facts config app) (weights : List BodyWeights) (fit : AreWeights app weights) (table : List Summary) (t : ℕ) (declared : t < length config.tasks) where
  -- of the rounds of a task
  pub rounds_told : AreSums config app weights kinds.Rounds None table → AreToldRounds app t weights (told_rounds app.funcs table t)
  rounds_told are =
      both_told _ _ config app weights kinds.Rounds None (body_of app.funcs t) refl
      (first_parts config app w weights fit kinds.Rounds t declared (λ outer. None) Anywhere (all_stand config app))
      (later_parts config app w weights fit kinds.Rounds t declared (λ outer. None) Anywhere (all_stand config app) (λ at. tt))
      (summary_of table (body_of app.funcs t)) (are.each (body_of app.funcs t) (has_body config app w t declared).0)

  -- of its turns
  pub turn_told : AreSums config app weights kinds.Turns None table → IsToldSum (IsTurn app t) weights (told_turn app.funcs table t)
  turn_told are = by (summary_of table (body_of app.funcs t)).is_endless (are.each (body_of app.funcs t) (has_body config app w t declared).0)
    where
      f : ℕ
      f = body_of app.funcs t

      s : Summary
      s = summary_of table (body_of app.funcs t)

      parts : AreParts (IsTurn app t) weights (SumsOn config app weights kinds.Turns None (body_of app.funcs t) 0)
      parts = first_parts config app w weights fit kinds.Turns t declared (λ outer. None) Anywhere (all_stand config app)

      later : AreParts (IsPart app t (MayFollow app kinds.Turns) Anywhere (stops kinds.Turns)) weights (SumsWithin config app weights kinds.Turns None (body_of app.funcs t))
      later = later_parts config app w weights fit kinds.Turns t declared (λ outer. None) Anywhere (all_stand config app) (λ at. tt)

      by : (b : Bool) → MatchBool b (IsEndless config app weights kinds.Turns None (body_of app.funcs t)) (IsExact config app weights kinds.Turns None (body_of app.funcs t) (summary_of table (body_of app.funcs t)))
          → IsToldSum (IsTurn app t) weights (cond b sum.Endless (told (summary_of table (body_of app.funcs t)).on))
      by true e = λ n. some n (e n)
        where
          some : (n : ℕ) → (k : ℕ) × (SumsOn config app weights kinds.Turns None (body_of app.funcs t) 0 k ⊎ SumsWithin config app weights kinds.Turns None (body_of app.funcs t) k) × (n ≤ k)
              → SomeReaches (IsTurn app t) weights n
          some n (k, inl on, le) = reaches (IsTurn app t) weights (SumsOn config app weights kinds.Turns None (body_of app.funcs t) 0) parts n k on le
          some n (k, inr within, le) = let walk = later.walked k within in absurd walk.1.begins
      by false x = told_part (IsTurn app t) weights (SumsOn config app weights kinds.Turns None (body_of app.funcs t) 0) parts
          (summary_of table (body_of app.funcs t)).on x.limited.limit x.on x.limited.on

-- ---- sections

only_schedules : (app : App) (positions : List Position) → OnlyLast app is_schedule positions → OnlyLastSchedules app positions
only_schedules app [] u = tt
only_schedules app (at ∷ further) u = (u.0, only_schedules app further u.1)

schedules_only : (app : App) (positions : List Position) → OnlyLastSchedules app positions → OnlyLast app is_schedule positions
schedules_only app [] u = tt
schedules_only app (at ∷ further) u = (u.0, schedules_only app further u.1)

-- of the sections of a lower task
module _ (config : Config) (app : App) (w : Facts config app) (weights : List BodyWeights) (fit : AreWeights app weights) (h : ℕ) (there : h < length config.tasks)
    (t : ℕ) (low : IsLower config h t) where
  body_is : (kind : Kind) (whole own : List Summary) → AreSums config app weights kind None whole → AreSums config app weights kind (Some (static_priority config h)) own
      → IsSummary config app weights kind (L config app h t []) (body_of app.funcs t) (task_summary config.tasks app.funcs whole own t)
  body_is kind whole own whole_is own_is =
      subst (λ l. IsSummary config app weights kind l (body_of app.funcs t) (task_summary config.tasks app.funcs whole own t)) (sym (level_is config app h there t low)) (by (declaration config t).non)
    where
      body : body_of app.funcs t < length app.funcs
      body = (has_body config app w t low.0).0

      by : (b : Bool) → IsSummary config app weights kind (cond b None (Some (static_priority config h))) (body_of app.funcs t)
          (cond b (summary_of whole (body_of app.funcs t)) (summary_of own (body_of app.funcs t)))
      by true = whole_is.each (body_of app.funcs t) body
      by false = own_is.each (body_of app.funcs t) body

  first : AreParts (IsPart app t IsFirst (λ at. static_priority config h ≤ priority_at config app t at) is_schedule) weights (SumsOn config app weights kinds.Sections (L config app h t []) (body_of app.funcs t) 0)
  first = first_parts config app w weights fit kinds.Sections t low.0 (L config app h t) (λ at. static_priority config h ≤ priority_at config app t at) (raised_stand config app h t)

  within : AreParts (IsPart app t Anywhere (λ at. static_priority config h ≤ priority_at config app t at) is_schedule) weights
      (SumsWithin config app weights kinds.Sections (L config app h t []) (body_of app.funcs t))
  within = later_parts config app w weights fit kinds.Sections t low.0 (L config app h t) (λ at. static_priority config h ≤ priority_at config app t at) (raised_stand config app h t) (λ at. tt)

  section_of : (positions : List Position) → IsPart app t Anywhere (λ at. static_priority config h ≤ priority_at config app t at) is_schedule positions → IsSection config app h t positions
  section_of positions p = record { before = p.before; of_walk = p.of_walk; raised = p.stands; unbroken = only_schedules app positions p.unbroken }

  part_of_section : (positions : List Position) → IsSection config app h t positions → IsPart app t Anywhere (λ at. static_priority config h ≤ priority_at config app t at) is_schedule positions
  part_of_section positions s = record { before = s.before; of_walk = s.of_walk; begins = tt; stands = s.raised; unbroken = schedules_only app positions s.unbroken }

  later : AreParts (IsSection config app h t) weights (SumsWithin config app weights kinds.Sections (L config app h t []) (body_of app.funcs t))
  later = record {
    built = λ at further s. within.built at further (part_of_section (at ∷ further) s);
    walked = λ n s. let p = within.walked n s in (p.0, section_of p.0 p.1, p.2);
  }

  -- those of any size
  reaching : (n : ℕ) → (k : ℕ) × (SumsOn config app weights kinds.Sections (L config app h t []) (body_of app.funcs t) 0 k ⊎ SumsWithin config app weights kinds.Sections (L config app h t []) (body_of app.funcs t) k) × (n ≤ k)
      → SomeReaches (IsSection config app h t) weights n
  reaching n (k, inl on, le) =
      let walk = first.walked k on in
      let is = walk.2 in
      (walk.0, section_of walk.0 (record { before = walk.1.before; of_walk = walk.1.of_walk; begins = tt; stands = walk.1.stands; unbroken = walk.1.unbroken }), omega (arith, le, is))
  reaching n (k, inr inside, le) = reaches (IsSection config app h t) weights (SumsWithin config app weights kinds.Sections (L config app h t []) (body_of app.funcs t)) later n k inside le

  -- of those that begin early
  module _ (line : ℕ) where
    abbrev Early : (n : ℕ) → Type 0
    Early n = SumsWithin config app weights (kinds.EarlySections line) (L config app h t []) (body_of app.funcs t) n

    opened : AreParts (λ positions. IsPart app t Anywhere (λ at. static_priority config h ≤ priority_at config app t at) is_schedule positions × MayOpenPart app (kinds.EarlySections line) positions) weights Early
    opened = opened_parts config app w weights fit (kinds.EarlySections line) t low.0 (L config app h t) (λ at. static_priority config h ≤ priority_at config app t at) (raised_stand config app h t)

    opens : (at : Position) (l : ℕ) → position_line app at ≡ Some l → l ≤ line → IsEarly app line at
    opens [] l e le = absurd (let z : ⊥ = cc in z)
    opens (here ∷ outer) l e le = let q : (item_of (function app here.func) here.item).line ≡ l = cc in omega (arith, q, le)

    begins : (positions : List Position) → MayOpenPart app (kinds.EarlySections line) positions → (l : ℕ) × BeginsAt app l positions × (l ≤ line)
    begins [] o = absurd o
    begins ([] ∷ further) o = absurd o
    begins ((here ∷ outer) ∷ further) o = (_, refl, o)

    early : AreParts (IsEarlySection config app h t line) weights Early
    early = record {
      built = λ at further s. opened.built at further (part_of_section (at ∷ further) s.0, opens at s.1.0 s.1.1 s.1.2);
      walked = λ n s. let p = opened.walked n s in (p.0, (section_of p.0 p.1.0, begins p.0 p.1.1), p.2);
    }

    early_of : (s : Sum) → (s ≡ sum.Endless → ⊥) → IsToldSum (IsEarlySection config app h t line) weights s → IsToldEarly config app weights h t line s
    early_of sum.Endless not told = absurd (not refl)
    early_of sum.Huge not told = told
    early_of (sum.Counts n) not told = told

    pub early_told : (whole own : List Summary) → AreSums config app weights (kinds.EarlySections line) None whole
        → AreSums config app weights (kinds.EarlySections line) (Some (static_priority config h)) own → IsToldEarly config app weights h t line (told_section config.tasks app.funcs whole own t)
    early_told whole own whole_is own_is = by S.is_endless (body_is (kinds.EarlySections line) whole own whole_is own_is)
      where
        S : Summary
        S = task_summary config.tasks app.funcs whole own t

        by : (b : Bool) → MatchBool b (IsEndless config app weights (kinds.EarlySections line) (L config app h t []) (body_of app.funcs t))
            (IsExact config app weights (kinds.EarlySections line) (L config app h t []) (body_of app.funcs t) (task_summary config.tasks app.funcs whole own t))
            → IsToldEarly config app weights h t line (cond b sum.Endless (told (task_summary config.tasks app.funcs whole own t).most))
        by true e = λ n. reaching n (e n)
        by false x =
            early_of (told (task_summary config.tasks app.funcs whole own t).most) (told_limited (task_summary config.tasks app.funcs whole own t).most)
            (told_part (IsEarlySection config app h t line) weights Early early (task_summary config.tasks app.funcs whole own t).most x.limited.limit x.most x.limited.most)

-- of all
module _ (config : Config) (app : App) (w : Facts config app) (weights : List BodyWeights) (fit : AreWeights app weights) (h : ℕ) (there : h < length config.tasks)
    (whole own : List Summary) (whole_is : AreSums config app weights kinds.Sections None whole) (own_is : AreSums config app weights kinds.Sections (Some (static_priority config h)) own)
    (t : ℕ) (low : IsLower config h t) where
  abbrev S : Summary
  S = task_summary config.tasks app.funcs whole own t

  pub section_told : IsToldSum (IsSection config app h t) weights (told_section config.tasks app.funcs whole own t)
  section_told = by S.is_endless (body_is config app w weights fit h there t low kinds.Sections whole own whole_is own_is)
    where
      by : (b : Bool) → MatchBool b (IsEndless config app weights kinds.Sections (L config app h t []) (body_of app.funcs t)) (IsExact config app weights kinds.Sections (L config app h t []) (body_of app.funcs t) S)
          → IsToldSum (IsSection config app h t) weights (cond b sum.Endless (told S.most))
      by true e = λ n. reaching config app w weights fit h there t low n (e n)
      by false x = told_part (IsSection config app h t) weights (SumsWithin config app weights kinds.Sections (L config app h t []) (body_of app.funcs t)) (later config app w weights fit h there t low) S.most x.limited.limit x.most x.limited.most
