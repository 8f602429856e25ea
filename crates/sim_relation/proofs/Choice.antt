-- The line that is taken is that of the top task.
use Rattle.std.proofs.Common.{◌≡◌, ℕ, ◌<◌, ◌≤◌, List, [], ◌∷◌, length, refl, sym, ap, ◌∙◌, subst, arith, ⊎_elim, inl, inr, true, false, cond, Some, None}
use Rattle.std.specs.Prelude.{◌⊎◌, slice_index}
use Rattle.std.proofs.lemmas.Bool.{cases_Bool, cases_lt, false≢true}
use Rattle.sloth_base.specs.Machine.{Core, State}
use Rattle.sloth_base.specs.Lines.{lines_of}
use Rattle.sloth_base.specs.Choose.{MayTake, IsChosen, choose_line, choose}
use Rattle.sloth_base.proofs.Choosing.{choose_line-is}
use Rattle.osek_scheduler.specs.declared.state.TaskState.{TaskState}
use Rattle.osek_scheduler.specs.declared.state.TaskState.TheVariants as mode
use Rattle.osek_scheduler.specs.State.{System, task, counter}
use Rattle.sloth_base.specs.Named.{declaration}
use Rattle.code_rules.specs.Code.{is_in}
use Rattle.osek_scheduler.specs.Priority.{IsDue, IsTop, NoTicks, IsNextTick}
use Rattle.sim_induction.specs.Mirror.{priority_of}
use Rattle.sloth_base.specs.PriorityLevels.{level_of}
use Rattle.sloth_base.specs.Owners.{counter_line, owners_in, IsOwned}
use Rattle.sloth_base.specs.MemoryMap.{line_count}
use Rattle.sloth_base.proofs.Owners.{IsCounterLine, owned_cases}
use Rattle.sim_relation.specs.Build.{Build}
use Rattle.sim_relation.specs.Context.{RunsFirst, RunsTask, RunsIdle}
use Rattle.sim_relation.specs.Stands.{Stands, AreLineBytes, AreFalling, AreActive}
use Rattle.sim_relation.proofs.ClockKept.{in_range}
use Rattle.sim_relation.proofs.Levels.{above_from, at_most_from, level_of-below, level_of-some, level_of-few}
use Rattle.sim_relation.proofs.Tops.{static_le, rank_active, rank_ready, first_most, top_running}

choice_is : (core : Core) → core.controller ≡ true → IsChosen (lines_of core) core.ilevel (choose core)
unfolding choose
choice_is core e =
    subst (λ v. IsChosen (lines_of core) core.ilevel (cond v (choose_line (lines_of core) core.ilevel) None)) (sym e) (choose_line-is (lines_of core) core.ilevel)

-- the line that the machine chooses is one by the definition of the choice
pub chosen_some : (core : Core) (line : ℕ) → core.controller ≡ true → choose core ≡ Some line → IsChosen (lines_of core) core.ilevel (Some line)
chosen_some core line h e = subst (IsChosen (lines_of core) core.ilevel) e (choice_is core h)

-- where it chooses none there is none
pub chosen_none : (core : Core) → core.controller ≡ true → choose core ≡ None → IsChosen (lines_of core) core.ilevel None
chosen_none core h e = subst (IsChosen (lines_of core) core.ilevel) e (choice_is core h)

ready_line : (m : TaskState) (pending enabled : ℕ) → m ≡ mode.Ready → AreLineBytes m pending enabled → (pending ≡ 1) × (enabled ≡ 1)
ready_line mode.Ready p e q h = h
ready_line mode.Suspended p e q h = cc
ready_line mode.Active p e q h = cc
ready_line (mode.Waiting w) p e q h = cc

ready_or_active : (m : TaskState) (pending enabled : ℕ) → pending ≡ 1 → enabled ≡ 1 → AreLineBytes m pending enabled → (m ≡ mode.Ready) ⊎ (m ≡ mode.Active)
ready_or_active mode.Ready p e a b h = inl refl
ready_or_active mode.Active p e a b h = inr refl
ready_or_active mode.Suspended p e a b h = absurd (omega (arith, h.0))
ready_or_active (mode.Waiting w) p e a b h = absurd (omega arith)

-- the level that runs
runs_at : Build → System → List ℕ → ℕ
runs_at b s [] = 0
runs_at b s (t ∷ below) = level_of b.config (priority_of b.config s t)

runs_level : (b : Build) (state : State) (s : System) (stack : List ℕ) → RunsFirst b state s stack → state.core.ilevel ≡ runs_at b s stack
unfolding runs_at
runs_level b state s [] k = k.level
runs_level b state s (t ∷ below) k = k.level

-- ---- counters

runs_low : (b : Build) (state : State) (s : System) (stack : List ℕ) → RunsFirst b state s stack → state.core.ilevel ≤ length b.config.tasks
runs_low b state s [] r = let e = r.level in omega (arith, e)
runs_low b state s (t ∷ below) r = let e = r.level in let l = level_of-few b.config (priority_of b.config s t) in omega (arith, e, l)

module _ (b : Build) (state : State) (s : System) (k : Stands b state s) where
  -- the line of a due counter may be taken
  counter_may : (c : ℕ) → c < length b.config.counters → (counter s c).due ≡ true → MayTake (lines_of state.core) state.core.ilevel (counter_line c)
  counter_may c h due =
      let own = k.lines.counters c h in
      let low = runs_low b state s k.stack k.running in
      let level = own.level in
      record {
        in_range = in_range b state s k c h;
        is_pending = own.pending ∙ ap (λ x. cond x 1 0) due;
        is_enabled = own.enabled;
        is_above = omega (arith, level, low);
      }

  -- where that is refuted, no counter is due
  not_due : ((c : ℕ) → c < length b.config.counters → MayTake (lines_of state.core) state.core.ilevel (counter_line c) → ⊥) → NoTicks b.config s
  not_due none c h =
      ⊎_elim (λ (due : (counter s c).due ≡ true). absurd (none c h (counter_may c h due))) (λ (n : (counter s c).due ≡ false). n) (cases_Bool (counter s c).due)

  -- so it is where no line is taken
  pub quiet : choose state.core ≡ None → NoTicks b.config s
  quiet e = not_due (λ c h may. chosen_none state.core k.fixed.controller e (counter_line c) may)

  -- and where the line of a task is taken, which is of a lower level
  pub quiet_task : (t : ℕ) → t < length b.config.tasks → choose state.core ≡ Some t → NoTicks b.config s
  quiet_task t is_task e =
      not_due (λ c h may.
      let own = (k.lines.counters c h).level in
      let other = k.lines.levels t is_task in
      let few = level_of-few b.config (declaration b.config t).priority in
      ⊎_elim
      (λ (y : slice_index state.core.levels (counter_line c) < slice_index state.core.levels t). omega (arith, own, other, few, y))
      (λ (y : (slice_index state.core.levels (counter_line c) ≡ slice_index state.core.levels t) × (t ≤ counter_line c)). let z = y.0 in omega (arith, own, other, few, z))
      ((chosen_some state.core t k.fixed.controller e).1 (counter_line c) may))

  -- the counter whose line is taken is the due one of least number
  pub taken_next : (c : ℕ) → c < length b.config.counters → choose state.core ≡ Some (counter_line c) → IsNextTick b.config s c
  taken_next c h e =
      let chosen = chosen_some state.core (counter_line c) k.fixed.controller e in
      let own = k.lines.counters c h in
      record {
        declared = h;
        due = ⊎_elim (λ (y : (counter s c).due ≡ true). y)
            (λ (n : (counter s c).due ≡ false).
            let is = chosen.0.is_pending in let p : slice_index state.core.pending (counter_line c) ≡ 0 = own.pending ∙ ap (λ x. cond x 1 0) n in absurd (omega (arith, is, p)))
            (cases_Bool (counter s c).due);
        is_first = λ d below.
            ⊎_elim
            (λ (due : (counter s d).due ≡ true).
            let l : d < length b.config.counters = omega (arith, h, below) in
            let mine = own.level in
            let other = (k.lines.counters d l).level in
            absurd (⊎_elim
            (λ (y : slice_index state.core.levels (counter_line d) < slice_index state.core.levels (counter_line c)). omega (arith, mine, other, y))
            (λ (y : (slice_index state.core.levels (counter_line d) ≡ slice_index state.core.levels (counter_line c)) × (counter_line c ≤ counter_line d)). let z = y.1 in omega (arith, z, below))
            (chosen.1 (counter_line d) (counter_may d l due))))
            (λ (n : (counter s d).due ≡ false). n)
            (cases_Bool (counter s d).due);
      }

-- ---- tasks

-- a task of a level above the running one has a priority above the current ones of all Active tasks
above_all : (b : Build) (s : System) (stack : List ℕ) → AreFalling b s stack → (t : ℕ) → runs_at b s stack < level_of b.config (declaration b.config t).priority
    → (u : ℕ) → is_in u stack ≡ true → priority_of b.config s u < (declaration b.config t).priority
unfolding runs_at
above_all b s [] f t l u h = cc
above_all b s (v ∷ below) f t l u h =
    let a = above_from b.config t (priority_of b.config s v) l in
    let q = first_most b s v below f u h in
    omega arith

module _ (b : Build) (state : State) (s : System) (k : Stands b state s) (few : length b.config.tasks ≤ line_count) where
  ready_may : (u : ℕ) → u < length b.config.tasks → (task s u).state ≡ mode.Ready → state.core.ilevel < level_of b.config (declaration b.config u).priority
      → MayTake (lines_of state.core) state.core.ilevel u
  ready_may u h e l =
      let r = ready_line (task s u).state (slice_index state.core.pending u) (slice_index state.core.enabled u) e (k.lines.each u h) in
      let v = k.lines.levels u h in
      record { in_range = omega arith; is_pending = r.0; is_enabled = r.1; is_above = omega arith }

  -- where no line is taken, no Ready task stands above the running level
  pub none_above : choose state.core ≡ None → (u : ℕ) → u < length b.config.tasks → (task s u).state ≡ mode.Ready
      → level_of b.config (declaration b.config u).priority ≤ state.core.ilevel
  none_above e u h r =
      ⊎_elim
      (λ (a : state.core.ilevel < level_of b.config (declaration b.config u).priority).
      absurd (chosen_none state.core k.fixed.controller e u (ready_may u h r a)))
      (λ (a : level_of b.config (declaration b.config u).priority ≤ state.core.ilevel). a)
      (cases_lt state.core.ilevel (level_of b.config (declaration b.config u).priority))

  -- then the first of the Active tasks is the top one
  pub running_top : choose state.core ≡ None → (t : ℕ) (below : List ℕ) → k.stack ≡ t ∷ below → IsTop b.config s [] t
  running_top e t below is =
      let active : AreActive b s (t ∷ below) = subst (AreActive b s) is k.active in
      let run : RunsTask b state s t below = subst (RunsFirst b state s) is k.running in
      top_running b s t below [] active refl
      (λ u h r o.
      let a = none_above e u h r in
      let v = run.level in
      at_most_from b.config u (priority_of b.config s t) h (omega arith))
      (quiet b state s k e)

  -- and where no task is Active, none is due
  pub none_due : choose state.core ≡ None → k.stack ≡ [] → (u : ℕ) → u < length b.config.tasks → ¬ (IsDue s u)
  none_due e is u h due =
      ⊎_elim
      (λ (r : (task s u).state ≡ mode.Ready).
      let run : RunsIdle b state = subst (RunsFirst b state s) is k.running in
      let a = none_above e u h r in
      let v = run.level in
      let w = level_of-some b.config u h in
      absurd (omega arith))
      (λ (r : (task s u).state ≡ mode.Active).
      let active : AreActive b s [] = subst (AreActive b s) is k.active in
      absurd (false≢true (active.all u h r)))
      due

  module _ (t : ℕ) (is_task : t < length b.config.tasks) (e : choose state.core ≡ Some t) where
    chosen : IsChosen (lines_of state.core) state.core.ilevel (Some t)
    chosen = chosen_some state.core t k.fixed.controller e

    may : MayTake (lines_of state.core) state.core.ilevel t
    may = chosen.0

    level_is : state.core.ilevel < level_of b.config (declaration b.config t).priority
    level_is = let l = k.lines.levels t is_task in let p = may.is_above in omega arith

    -- the Active tasks have current priorities below its static one
    pub taken_above : (u : ℕ) → is_in u k.stack ≡ true → priority_of b.config s u < (declaration b.config t).priority
    taken_above = above_all b s k.stack k.active.falling t (let l = level_is in let r = runs_level b state s k.stack k.running in omega arith)

    -- the task of the line that is taken is Ready
    pub taken_ready : (task s t).state ≡ mode.Ready
    taken_ready =
        ⊎_elim (λ (a : (task s t).state ≡ mode.Ready). a)
        (λ (a : (task s t).state ≡ mode.Active).
        absurd (let q = taken_above t (k.active.all t is_task a) in let v = static_le b.config s t in omega arith))
        (ready_or_active (task s t).state (slice_index state.core.pending t) (slice_index state.core.enabled t) may.is_pending may.is_enabled (k.lines.each t is_task))

    -- another Ready task has no higher priority
    most_ready : (u : ℕ) → u < length b.config.tasks → (task s u).state ≡ mode.Ready → (declaration b.config u).priority ≤ (declaration b.config t).priority
    most_ready u h r =
        ⊎_elim
        (λ (a : (declaration b.config t).priority < (declaration b.config u).priority). absurd (
        let higher = level_of-below b.config u (declaration b.config t).priority h a in
        let l = level_is in
        let v = k.lines.levels u h in
        let w = k.lines.levels t is_task in
        ⊎_elim
        (λ (y : slice_index state.core.levels u < slice_index state.core.levels t). omega arith)
        (λ (y : (slice_index state.core.levels u ≡ slice_index state.core.levels t) × (t ≤ u)). let z = y.0 in omega arith)
        (chosen.1 u (ready_may u h r (omega arith)))))
        (λ (a : (declaration b.config u).priority ≤ (declaration b.config t).priority). a)
        (cases_lt (declaration b.config t).priority (declaration b.config u).priority)

    -- it is the top task
    pub taken_top : IsTop b.config s [] t
    taken_top = record {
      declared = is_task;
      due = inl taken_ready;
      is_greatest = λ u h due o.
          ⊎_elim
          (λ (r : (task s u).state ≡ mode.Ready).
          let q = most_ready u h r in
          let x = rank_ready b.config s t taken_ready in
          let y = rank_ready b.config s u r in
          omega arith)
          (λ (r : (task s u).state ≡ mode.Active).
          let q = taken_above u (k.active.all u h r) in
          let x = rank_ready b.config s t taken_ready in
          let y = rank_active b.config s u r in
          omega arith)
          due;
      is_not_left_out = refl;
      no_ticks = quiet_task b state s k t is_task e;
    }

-- a line that is taken is enabled, so it has an owner
pub taken_owned : (b : Build) (state : State) (s : System) → Stands b state s → (line : ℕ) → choose state.core ≡ Some line → IsOwned (owners_in b.config) line
taken_owned b state s k line e unused =
    let may : MayTake (lines_of state.core) state.core.ilevel line = (chosen_some state.core line k.fixed.controller e).0 in
    let p = may.is_enabled in
    let o = k.lines.others line unused in
    absurd (omega arith)

-- it is a task's or a counter's
pub taken_cases : (b : Build) (state : State) (s : System) → Stands b state s → (line : ℕ) → choose state.core ≡ Some line
    → (line < length b.config.tasks) ⊎ ((c : ℕ) × IsCounterLine (owners_in b.config) line c)
taken_cases b state s k line e = owned_cases (owners_in b.config) line (taken_owned b state s k line e)
