-- A walk goes on exactly where the events are a run.
use Rattle.std.proofs.Common.{◌≡◌, ◌∙◌, ℕ, zero, suc, replicate, ◌+◌, ◌<◌, ◌≤◌, ◌⊎◌, inl, inr, List, [], ◌∷◌, ◌++◌, Bool, true, false, cond, length, get_or, take, refl, sym, ap, subst, arith, append_assoc, length-append, Option, Some, None}
use Rattle.std.specs.Prelude.{◌-◌, ◌==◌, ◌&&◌, ◌||◌, is_some, not, leb, ltb}
use Rattle.std.specs.Bool.{Decides}
use Rattle.std.proofs.lemmas.Bool.{and_from, and_parts, lt-ltb, ltb-true, true≢false}
use Rattle.std.specs.Int.{bit_at}
use Rattle.osek_machine.specs.Steps.{Machine}
use Rattle.std.proofs.lemmas.Bool.Decides.{Decides-and, Decides-or, Decides-not, Decides-ltb, Decides-below_and}
use Rattle.std.proofs.lemmas.List.{append-nil}
use Rattle.std.proofs.Math.Seq.{take-append_seam}
use Rattle.std.proofs.lemmas.List.{take_all, take-append-le}
use Rattle.sloth_base.specs.declared.config.Config.{Config}
use Rattle.sloth_base.specs.declared.app.App.{App}
use Rattle.sloth_base.specs.declared.service.Event.{Event}
use Rattle.sloth_base.specs.declared.service.Event.TheVariants as event
use Rattle.sloth_base.specs.declared.service.Stamped.{Stamped}
use Rattle.osek_scheduler.specs.declared.state.TaskState.TheVariants as mode
use Rattle.osek_scheduler.specs.State.{System, task, counter, opening}
use Rattle.osek_scheduler.specs.Priority.{rank, is_active, NoTicks}
use Rattle.osek_scheduler.specs.Steps.{OsekStep}
use Rattle.osek_scheduler.specs.Next.{all_below}
use Rattle.osek_scheduler.specs.Runs.{AreStepsBehind, ReadySince, OsekRun, PassesOver, PassesOverArrivals}
use Rattle.osek_scheduler.proofs.Tests.{Decides-is_ready, Decides-is_active}
use Rattle.osek_scheduler.proofs.Leading.{follows_leads, one_end}
use Rattle.sloth_base.specs.Owners.{is_counter_line, owners_in, first_counter_line}
use Rattle.sloth_base.specs.Limits.{task_limit}
use Rattle.sloth_base.specs.MemoryMap.{line_count}
use Rattle.osek_machine.specs.Above.{is_above, is_due_line, is_line_above}
use Rattle.trace_check.specs.Moments.{KeepsMoments, all_later}
use Rattle.trace_check.specs.Walk.{Walk, IsWalkStep, IsWalkOrStray, HasStrayAt, IsWalkEnd, IsWalked, task_passes, event_passes}
use Rattle.trace_check.proofs.Moments.{moments_more, no_moments}

abbrev one_bit : Bool → ℕ
one_bit b = cond b 1 0

-- ---- what is passed over

module _ (config : Config) (app : App) (past : List Stamped) (s : System) (moments : List ℕ) (keeps : KeepsMoments config app past s moments) (few : length config.tasks ≤ task_limit) where
  abbrev IsAbove : ℕ → ℕ → Type 0
  IsAbove t u = (u < length config.tasks) × (((task s u).state ≡ mode.Ready) × (rank config s t < rank config s u))

  Decides-above : (t u : ℕ) → Decides (is_above config s t u) (IsAbove t u)
  Decides-above t u =
      Decides-and _ _ (Decides-ltb u (length config.tasks)) (Decides-and _ _ (Decides-is_ready (task s u).state) (Decides-ltb (rank config s t) (rank config s u)))

  -- a task, or a due counter
  abbrev IsLineAbove : ℕ → ℕ → Type 0
  IsLineAbove t u = IsAbove t u ⊎ (is_due_line config s u ≡ true)

  Decides-line : (t u : ℕ) → Decides (is_line_above config s t u) (IsLineAbove t u)
  Decides-line t u = Decides-or _ _ (Decides-above t u) (λ e. e, λ e. e)

  abbrev Later : ℕ → ℕ → ℕ → Type 0
  Later t k u = (¬ (IsLineAbove t u)) ⊎ (k < get_or moments u 0)

  Decides-all_later : (t k : ℕ) → Decides (all_later (is_line_above config s t) moments k) ((u : ℕ) → u < line_count → Later t k u)
  unfolding all_later
  Decides-all_later t k =
      Decides-below_and (λ u. not (is_line_above config s t u) || ltb k (get_or moments u 0)) (Later t k)
      (λ n. all_below n (λ u. not (is_line_above config s t u) || ltb k (get_or moments u 0)))
      (λ u. Decides-or _ _ (Decides-not _ (Decides-line t u)) (Decides-ltb k (get_or moments u 0))) refl (λ _. refl) 32

  pub passes_of : (t k : ℕ) → all_later (is_line_above config s t) moments k ≡ true → PassesOver config app past s t k
  passes_of t k h u lt ready above = by ((Decides-all_later t k).0 h u (omega (arith, lt, few)))
    where
      by : Later t k u → ReadySince config app past u k
      by (inl n) = absurd (n (inl (lt, (ready, above))))
      by (inr less) = (keeps.tells u k).0 less

  -- where a task runs, no counter is due
  no_due_line : NoTicks config s → (u : ℕ) → is_due_line config s u ≡ true → ⊥
  no_due_line quiet u e =
      let due = and_parts (is_counter_line (owners_in config) u) (counter s (u - first_counter_line)).due e in
      let line = and_parts (leb first_counter_line u) (ltb (u - first_counter_line) (length config.counters)) due.0 in
      true≢false (sym due.1 ∙ quiet (u - first_counter_line) (ltb-true (u - first_counter_line) (length config.counters) line.1))

  pub passes_is : (t k : ℕ) → NoTicks config s → PassesOver config app past s t k → all_later (is_line_above config s t) moments k ≡ true
  passes_is t k quiet h = (Decides-all_later t k).1 (λ u _. by u (is_line_above config s t u) refl)
    where
      later : (u : ℕ) → IsLineAbove t u → k < get_or moments u 0
      later u (inl a) = (keeps.tells u k).1 (h u a.0 a.1.0 a.1.1)
      later u (inr due) = absurd (no_due_line quiet u due)

      by : (u : ℕ) (b : Bool) → is_line_above config s t u ≡ b → Later t k u
      by u true e = inr (later u ((Decides-line t u).0 e))
      by u false e = inl (λ a. true≢false (sym ((Decides-line t u).1 a) ∙ e))

  runs : (t : ℕ) → t < length config.tasks → (task s t).state ≡ mode.Active → (ltb t (length config.tasks) && is_active (task s t).state) ≡ true
  runs t lt active = and_from (ltb t (length config.tasks)) (is_active (task s t).state) (lt-ltb t (length config.tasks) lt) ((Decides-is_active (task s t).state).1 active)

  task_of : (t k : ℕ) → t < length config.tasks → (task s t).state ≡ mode.Active → task_passes config s moments t k ≡ true → PassesOver config app past s t k
  task_of t k lt active h = passes_of t k (sym (ap (λ b. cond b (all_later (is_line_above config s t) moments k) true) (runs t lt active)) ∙ h)

  task_is : (t k : ℕ) → t < length config.tasks → (task s t).state ≡ mode.Active → NoTicks config s → PassesOver config app past s t k → task_passes config s moments t k ≡ true
  task_is t k lt active quiet h = ap (λ b. cond b (all_later (is_line_above config s t) moments k) true) (runs t lt active) ∙ passes_is t k quiet h

  -- the test decides, where the event is a step
  pub event_of : (e : Event) (k : ℕ) (next : System) → OsekStep config app e s next → event_passes config s moments e k ≡ true → PassesOverArrivals config app past s k e
  event_of (event.Call t served status) k next step h = task_of t k step.1.1.top.declared step.1.1.at.active h
  event_of (event.Left t served) k next step h = task_of t k step.1.1.top.declared step.1.1.at.active h
  event_of e k next step h = tt

  pub event_is : (e : Event) (k : ℕ) (next : System) → OsekStep config app e s next → PassesOverArrivals config app past s k e → event_passes config s moments e k ≡ true
  event_is (event.Call t served status) k next step h = task_is t k step.1.1.top.declared step.1.1.at.active step.1.1.top.no_ticks h
  event_is (event.Left t served) k next step h = task_is t k step.1.1.top.declared step.1.1.at.active step.1.1.top.no_ticks h
  event_is e k next step h = refl

-- ---- runs, one event more

module _ (config : Config) (app : App) where
  follows_more : (past es : List Stamped) (e : Stamped) (s z next : System) → AreStepsBehind config app past s es z → OsekStep config app e.event z next
      → PassesOverArrivals config app (past ++ es) z e.stamp.from e.event → AreStepsBehind config app past s (es ++ e ∷ []) next
  follows_more past [] e s z next h step passes =
      let P : List Stamped → System → Type 0 = λ l x. PassesOverArrivals config app l x e.stamp.from e.event in
      let Q : System → Type 0 = λ x. OsekStep config app e.event x next in
      (next, subst Q h step, subst (λ (x : System). P past x) h (subst (λ (l : List Stamped). P l z) (append-nil past) passes), refl)
  follows_more past (x ∷ es) e s z next h step passes =
      let P : List Stamped → Type 0 = λ l. PassesOverArrivals config app l z e.stamp.from e.event in
      (h.0, h.1, h.2, follows_more (past ++ x ∷ []) es e h.0 z next h.3 step (subst P (sym (append_assoc past (x ∷ []) es)) passes))

  -- where a run goes on, its front is one
  pub record Cut (past front back : List Stamped) (s z : System) : Type 0 where
    pub middle : System
    pub before : AreStepsBehind config app past s front middle
    pub behind : AreStepsBehind config app (past ++ front) middle back z

  pub follows_cut : (past front back : List Stamped) (s z : System) → AreStepsBehind config app past s (front ++ back) z → Cut past front back s z
  follows_cut past [] back s z h =
      let P : List Stamped → Type 0 = λ l. AreStepsBehind config app l s back z in record { middle = s; before = refl; behind = subst P (sym (append-nil past)) h }
  follows_cut past (x ∷ front) back s z h =
      let rest = follows_cut (past ++ x ∷ []) front back h.0 z h.3 in
      let P : List Stamped → Type 0 = λ l. AreStepsBehind config app l rest.middle back z in
      record { middle = rest.middle; before = (h.0, h.1, h.2, rest.before); behind = subst P (append_assoc past (x ∷ []) front) rest.behind }

  pub run_front : (front back : List Stamped) → OsekRun config app (front ++ back) → OsekRun config app front
  run_front front back h = let c = follows_cut [] front back (opening config app) h.0 h.1 in (c.middle, c.before)

module _ (config : Config) (app : App) (past : List Stamped) (walk : Walk) (h : IsWalked config app past walk) (e : Stamped) where
  goes_on : (new : Walk) → walk.machine.config ≡ config → walk.machine.app ≡ app → IsWalkStep e walk new → IsWalked config app (past ++ e ∷ []) new
  goes_on new c a w =
      let P : Config → App → Type 0 = λ x y. OsekStep x y e.event walk.machine.system new.machine.system in
      let step = subst (λ (y : App). P config y) a (subst (λ (x : Config). P x walk.machine.app) c w.step) in
      let Q : Config → Type 0 = λ x. event_passes x walk.machine.system walk.moments e.event e.stamp.from ≡ true in
      let passes = event_of config app past walk.machine.system walk.moments h.keeps h.few e.event e.stamp.from new.machine.system step (subst Q c w.passes) in
      let R : List ℕ → Type 0 = λ l. KeepsMoments config app (past ++ e ∷ []) new.machine.system l in
      record {
        few = h.few;
        config_is = w.config ∙ c;
        app_is = w.app ∙ a;
        follows = follows_more config app [] past e (opening config app) walk.machine.system new.machine.system h.follows step passes;
        keeps = subst R (sym w.moments) (moments_more config app past walk.machine.system walk.moments h.keeps h.few e.stamp new.machine.system e.event step);
      }

  pub walked_more : (new : Walk) → IsWalkStep e walk new → IsWalked config app (past ++ e ∷ []) new
  walked_more new w = goes_on new h.config_is h.app_is w

  pub walked_stops : IsWalkEnd e walk → OsekRun config app (past ++ e ∷ []) → ⊥
  walked_stops stops run =
      let cut = follows_cut config app [] past (e ∷ []) (opening config app) run.0 run.1 in
      let same : cut.middle ≡ walk.machine.system =
      one_end config app past (opening config app) cut.middle walk.machine.system
      (follows_leads config app [] (opening config app) past cut.middle cut.before) (follows_leads config app [] (opening config app) past walk.machine.system h.follows) in
      let next = cut.behind.0 in
      let P : System → Type 0 = λ x. OsekStep config app e.event x next in
      let Q : System → Type 0 = λ x. PassesOverArrivals config app past x e.stamp.from e.event in
      let step = subst P same cut.behind.1 in
      let passes = event_is config app past walk.machine.system walk.moments h.keeps h.few e.event e.stamp.from next step (subst Q same cut.behind.2) in
      let R : Config → Type 0 = λ x. event_passes x walk.machine.system walk.moments e.event e.stamp.from ≡ true in
      let S : Config → App → Type 0 = λ x y. OsekStep x y e.event walk.machine.system next in
      stops (subst R (sym h.config_is) passes) next (subst (λ (x : Config). S x walk.machine.app) (sym h.config_is) (subst (λ (y : App). S config y) (sym h.app_is) step))

  pub strays_here : (k : ℕ) → k ≡ length past + 1 → IsWalkEnd e walk → HasStrayAt config app (past ++ e ∷ []) k
  strays_here k is stops =
      let long = length-append past (e ∷ []) in
      let P : List Stamped → Type 0 = λ l. OsekRun config app l in
      let front : k - 1 ≡ length past = omega (arith, is) in
      let before = ap (λ n. take n (past ++ e ∷ [])) front ∙ take-append_seam past (e ∷ []) in
      let all = take_all k (past ++ e ∷ []) (omega (arith, is, long)) in
      record {
        positive = omega (arith, is);
        inside = omega (arith, is, long);
        before = subst P (sym before) (walk.machine.system, h.follows);
        stray = λ run. walked_stops stops (subst P all run);
      }

-- what strays does so with more behind it
pub still_strays : (config : Config) (app : App) (events : List Stamped) (e : Stamped) (k : ℕ) → HasStrayAt config app events k → HasStrayAt config app (events ++ e ∷ []) k
still_strays config app events e k h =
    let long = length-append events (e ∷ []) in
    let inside = h.inside in
    let P : List Stamped → Type 0 = λ l. OsekRun config app l in
    record {
      positive = h.positive;
      inside = omega (arith, inside, long);
      before = subst P (sym (take-append-le (k - 1) events (e ∷ []) (omega (arith, inside)))) h.before;
      stray = λ run. h.stray (subst P (take-append-le k events (e ∷ []) inside) run);
    }

-- behind a stray event nothing is looked at
pub stays_stray : (config : Config) (app : App) (events : List Stamped) (e : Stamped) (stray : Option ℕ) (walk : Walk) → is_some stray ≡ true
    → IsWalkOrStray config app events stray walk → IsWalkOrStray config app (events ++ e ∷ []) stray walk
stays_stray config app events e (Some k) walk some h = still_strays config app events e k h
stays_stray config app events e None walk some h = absurd cc

-- where none strayed, the walk goes on
pub walks_here : (config : Config) (app : App) (events : List Stamped) (stray : Option ℕ) (walk : Walk) → is_some stray ≡ false → IsWalkOrStray config app events stray walk
    → IsWalked config app events walk
walks_here config app events None walk none h = h
walks_here config app events (Some k) walk none h = absurd cc

-- before the first event
pub walked_none : (config : Config) (app : App) (walk : Walk) → length config.tasks ≤ task_limit → walk.machine ≡ record { config = config; app = app; system = opening config app }
    → length walk.moments ≡ line_count → ((u : ℕ) → get_or walk.moments u 0 ≡ 0) → IsWalked config app [] walk
walked_none config app walk few is count zeros = record {
  few = few;
  config_is = ap (λ (m : Machine). m.config) is;
  app_is = ap (λ (m : Machine). m.app) is;
  follows = ap (λ (m : Machine). m.system) is;
  keeps =
      let P : System → Type 0 = λ s. KeepsMoments config app [] s walk.moments in
      subst P (sym (ap (λ (m : Machine). m.system) is)) (no_moments config app walk.moments count zeros);
}

-- ---- rows of lines

all_same : (n : ℕ) (one other : ℕ → Bool) → ((u : ℕ) → one u ≡ other u) → all_below n one ≡ all_below n other
all_same zero one other h = refl
all_same (suc n) one other h = ap (λ b. b && all_below n one) (h n) ∙ ap (λ b. other n && b) (all_same n one other h)

bit_is : (b : Bool) → (one_bit b == 1) ≡ b
bit_is true = refl
bit_is false = refl

-- a row of bits in the place of the test that it tells
pub same_row : (row k : ℕ) (moments : List ℕ) (test : ℕ → Bool) → ((u : ℕ) → bit_at row u ≡ cond (test u) 1 0) → all_later (λ u. bit_at row u == 1) moments k ≡ all_later test moments k
unfolding all_later
same_row row k moments test h =
    all_same 32 (λ u. not (bit_at row u == 1) || ltb k (get_or moments u 0)) (λ u. not (test u) || ltb k (get_or moments u 0))
    (λ u. ap (λ b. not b || ltb k (get_or moments u 0)) (ap (λ n. n == 1) (h u) ∙ bit_is (test u)))

abbrev pub zeros : ℕ → List ℕ
zeros n = replicate n 0

pub zeros_at : (n u : ℕ) → get_or (zeros n) u 0 ≡ 0
zeros_at zero u = refl
zeros_at (suc n) zero = refl
zeros_at (suc n) (suc u) = zeros_at n u
