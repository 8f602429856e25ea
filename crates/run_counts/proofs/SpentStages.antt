-- The stages of a run with what a task has spent on its next item.
use Rattle.std.proofs.Common.{◌≡◌, ◌∙◌, ℕ, ◌+◌, ◌-◌, ◌==◌, ◌≤◌, ◌⊎◌, ◌||◌, ◌&&◌, List, [], ◌∷◌, ◌++◌, Bool, true, false, cond, is_some, refl, sym, ap, subst, arith, inl, inr}
use Rattle.std.specs.List.{AllByRecursion}
use Rattle.std.proofs.lemmas.Bool.{cases_Bool, false≢true, or_cases, eqb-true, and_parts}
use Rattle.sloth_base.specs.declared.config.Config.{Config}
use Rattle.sloth_base.specs.declared.app.App.{App}
use Rattle.sloth_base.specs.declared.service.Event.{Event}
use Rattle.sloth_base.specs.declared.service.Event.TheVariants as event
use Rattle.sloth_base.specs.declared.service.Stamped.{Stamped}
use Rattle.sloth_base.specs.declared.service.Service.TheVariants as service
use Rattle.sloth_base.specs.Events.{admitted_line, is_boot}
use Rattle.sloth_base.specs.ServiceCodes.{is_service}
use Rattle.osek_scheduler.specs.declared.state.TaskState.TheVariants as mode
use Rattle.osek_scheduler.specs.State.{System, task}
use Rattle.osek_scheduler.specs.Apart.{IsActive}
use Rattle.osek_scheduler.specs.InTime.{is_admit}
use Rattle.osek_scheduler.specs.Steps.{OsekStep}
use Rattle.osek_scheduler.specs.Valid.{IsValid}
use Rattle.osek_scheduler.proofs.Facts.{Facts, facts}
use Rattle.osek_scheduler.proofs.Steps.{step_valid}
use Rattle.osek_blocking.specs.Pace.{takes_line}
use Rattle.bound_rules.specs.declared.bound.BodyWeights.{BodyWeights}
use Rattle.sim_induction.specs.Pace.{ItemSizes, paced_counts}
use Rattle.sim_induction.specs.Spent.{front_counts, spent_behind, SpendsWithin, AreSpentTo}
use Rattle.sim_induction.proofs.Spending.{none_left, none_entered}
use Rattle.run_counts.specs.Stages.{Stage, is_turn, is_entry, is_running, unseen, own, charged, end_of, stage, stages}
use Rattle.run_counts.specs.Rounds.{goes_on_waiting, is_left, opens_round, closes_round, weight_of, executed_weight}
use Rattle.run_counts.specs.OwnCounts.{is_preempted, if_preempted, IsOwn, begun}
use Rattle.run_counts.proofs.Awake.{stays_active, entry_active}
use Rattle.run_counts.proofs.Gaps.{line_facts}
use Rattle.run_counts.proofs.Owned.{HasParts}
use Rattle.run_counts.proofs.Staged.{behind_is, booted_before, admits_later}
use Rattle.run_counts.proofs.States.{not_ready}

-- ---- what the tests say of each event

-- an event of a turn takes no line, is no admission and no boot, and comes where its task is Active
turn_facts : (t : ℕ) (e : Event) → is_turn t e ≡ true → (takes_line e ≡ false) × (is_some (admitted_line e) ≡ false) × (is_boot e ≡ false)
turn_facts t (event.Run u func item result) turn = (refl, refl, refl)
turn_facts t (event.Call u served status) turn = (refl, refl, refl)
turn_facts t (event.Left u served) turn = (refl, refl, refl)
turn_facts t (event.Back u) turn = (refl, refl, refl)
turn_facts t e turn = absurd (false≢true turn)

-- what closes a round comes in a turn of its task
pub closes_turn : (cuts : Bool) (t : ℕ) (e : Event) → closes_round cuts t e ≡ true → is_turn t e ≡ true
closes_turn cuts t (event.Left u served) closes = ends (u == t) cuts closes
  where
    ends : (b cuts : Bool) → b || (cuts && false) ≡ true → b ≡ true
    ends true cuts k = refl
    ends false true k = k
    ends false false k = k
closes_turn cuts t (event.Call u served status) closes = (and_parts (u == t) (is_service served service.WaitEvent) (waits cuts ((u == t) && is_service served service.WaitEvent) closes)).0
  where
    waits : (cuts b : Bool) → cuts && b ≡ true → b ≡ true
    waits true b k = k
    waits false b k = absurd (false≢true k)
closes_turn cuts t e closes = absurd (never cuts closes)
  where
    never : (cuts : Bool) → cuts && false ≡ true → ⊥
    never true k = false≢true k
    never false k = false≢true k

-- a wait that goes on is a turn's event with which the task does not leave
waits_on : (t : ℕ) (e : Event) → goes_on_waiting t e ≡ true → (is_turn t e ≡ true) × (is_left t e ≡ false)
waits_on t (event.Call u served status) waits = ((and_parts (u == t) (is_service served service.WaitEvent) waits).0, refl)
waits_on t e waits = absurd (false≢true waits)

module _ (config : Config) (app : App) (t : ℕ) where
  -- no task that is Active is entered
  pub not_entered : (e : Event) (s next : System) → OsekStep config app e s next → IsActive s t → is_entry t e ≡ true → ⊥
  not_entered (event.Enter u) s next step active entry =
      not_ready (task s t).state active (subst (λ v. (task s v).state ≡ mode.Ready) (eqb-true u t entry) step.2)
  not_entered e s next step active entry = absurd (false≢true entry)

  turn_active : (e : Event) (s next : System) → OsekStep config app e s next → is_turn t e ≡ true → IsActive s t
  turn_active (event.Run u func item result) s next step turn = subst (IsActive s) (eqb-true u t turn) step.1.at.active
  turn_active (event.Call u served status) s next step turn = subst (IsActive s) (eqb-true u t turn) step.1.1.at.active
  turn_active (event.Left u served) s next step turn = subst (IsActive s) (eqb-true u t turn) step.1.1.at.active
  turn_active (event.Back u) s next step turn = subst (IsActive s) (eqb-true u t turn) step.2
  turn_active e s next step turn = absurd (false≢true turn)

  -- where a round begins the task is Active, and has spent nothing yet
  pub opens_so : (cuts : Bool) (x : Stage) (at spent : ℕ) → IsValid config app x.found → OsekStep config app x.stamped.event x.found x.next → opens_round cuts t x.stamped.event ≡ true
      → IsActive x.next t × (spent_behind config t at spent x.found x.stamped ≡ 0)
  opens_so cuts x at spent v step opens = by (or_cases (is_entry t x.stamped.event) (cuts && goes_on_waiting t x.stamped.event) opens)
    where
      by : (is_entry t x.stamped.event ≡ true) ⊎ ((cuts && goes_on_waiting t x.stamped.event) ≡ true)
          → IsActive x.next t × (spent_behind config t at spent x.found x.stamped ≡ 0)
      by (inl entry) = (entry_active config app t x.stamped.event x.found x.next step v entry, none_entered config t at spent x.found x.stamped entry)
      by (inr waits) =
          let on = waits_on t x.stamped.event (and_parts cuts (goes_on_waiting t x.stamped.event) waits).1 in (
            stays_active config app t x.stamped.event x.found x.next step v on.1 (turn_active x.stamped.event x.found x.next step on.0),
            none_left config t at spent x.found x.stamped on.0,
          )

-- ---- stages with what the task has spent

module _ (config : Config) (app : App) (size : ItemSizes) (longest t : ℕ) where
  -- a stage in whose state the events before it lead, which ended at count `at`
  pub record IsSpent (at spent : ℕ) (x : Stage) : Type 0 where
    pub step : OsekStep config app x.stamped.event x.found x.next
    pub within : SpendsWithin config app size longest t at spent x.found x.stamped
    pub begins : x.found.booted ≡ true → at + 1 ≤ x.start
    pub owns : IsOwn config t x
    pub has : HasParts x

  -- stages behind one another
  abbrev pub AreSpent : (at spent : ℕ) → System → List Stage → Type 0
  AreSpent at spent s [] = Unit {0}
  AreSpent at spent s (x ∷ xs) =
      (x.found ≡ s) × IsSpent at spent x
      × AreSpent (cond (is_admit x.stamped) at x.stamped.stamp.at) (spent_behind config t at spent x.found x.stamped) x.next xs

  pub spent_stages : (rest : List Stamped) (start at spent : ℕ) (s end : System) (to left : ℕ) → AreSpentTo config app size longest t at spent rest s end to left
      → (s.booted ≡ true → at + 1 ≤ start) → AllByRecursion (λ x. IsOwn config t x × HasParts x) (stages config app start s rest)
      → AreSpent at spent s (stages config app start s rest)
  spent_stages [] start at spent s end to left h begins own = tt
  spent_stages (e ∷ rest) start at spent s end to left h begins own =
      let is = behind_is config app e.event s h.0 h.2 in
      let x = stage config app start s e in
      let behind = spent_behind config t at spent s e in (
        refl,
        record {
          step = subst (OsekStep config app e.event s) (sym is) h.2;
          within = h.1;
          begins = begins;
          owns = own.0.0;
          has = own.0.1;
        },
        subst (λ v. AreSpent (cond (is_admit e) at e.stamp.at) behind v (stages config app (end_of x) v rest)) (sym is)
            (spent_stages rest (end_of x) (cond (is_admit e) at e.stamp.at) behind h.0 end to left h.3 (λ later. by (cases_Bool (is_admit e)))
            (subst (λ v. AllByRecursion (λ x. IsOwn config t x × HasParts x) (stages config app (end_of x) v rest)) is own.1)),
      )
    where
      by : (is_admit e ≡ true) ⊎ (is_admit e ≡ false) → cond (is_admit e) at e.stamp.at + 1 ≤ cond (is_admit e) start (e.stamp.at + 1)
      by (inl admits) =
          let near = begins (booted_before config app e.event s h.0 h.2 (admits_later e.event admits)) in
          let a = ap (λ b. cond b at e.stamp.at) admits in
          let c = ap (λ b. cond b start (e.stamp.at + 1)) admits in
          omega (arith, near, a, c)
      by (inr other) =
          let a = ap (λ b. cond b at e.stamp.at) other in
          let c = ap (λ b. cond b start (e.stamp.at + 1)) other in
          omega (arith, a, c)

  -- the stages behind others
  pub spent_later : (w : Facts config app) (before behind : List Stage) (at spent : ℕ) (s : System) → IsValid config app s → AreSpent at spent s (before ++ behind)
      → (at' spent' : ℕ) × ((found : System) × IsValid config app found × AreSpent at' spent' found behind)
  spent_later w [] behind at spent s v h = (at, spent, (s, v, h))
  spent_later w (x ∷ before) behind at spent s v h =
      spent_later w before behind (cond (is_admit x.stamped) at x.stamped.stamp.at) (spent_behind config t at spent x.found x.stamped) x.next
      (step_valid config app x.stamped.event x.found x.next w h.1.step (subst (IsValid config app) (sym h.0) v)) h.2

-- ---- a stage

module _ (config : Config) (app : App) (size : ItemSizes) (longest t at spent : ℕ) (x : Stage) (h : IsSpent config app size longest t at spent x) where
  abbrev e : Stamped
  e = x.stamped

  -- what stands in front of it
  front_few : is_admit e ≡ false → is_boot e.event ≡ false → unseen x ≤ front_counts at e
  front_few other later =
      let near = h.begins (booted_before config app e.event x.found x.next h.step later) in
      let u = ap (λ b. cond b 0 (e.stamp.from - x.start)) other in
      omega (arith, near, u)

  -- an event of a turn: with what was spent before, its counts are within its weight
  pub turn_fits : is_turn t e.event ≡ true → charged x + spent ≤ paced_counts config app size longest x.found e.event
  turn_fits turn =
      let facts = turn_facts t e.event turn in
      let ends = h.within.ends turn in
      let front = front_few facts.1 facts.2 in
      let has = h.has in
      let s = ap (λ b. cond b 0 (e.stamp.at + 1 - e.stamp.from)) facts.1 in
      omega (arith, ends, front, has, s)

  -- they are all of its counts
  pub turn_owns : is_turn t e.event ≡ true → own config t x ≡ charged x
  turn_owns turn =
      let facts = turn_facts t e.event turn in
      let all = h.owns in
      let c = ap (λ b. cond b (charged x) 0) turn in
      let none : if_preempted config t unseen x ≡ 0 = ap (λ b. cond (b && is_running config x.found t) (unseen x) 0) facts.0 in
      omega (arith, all, c, none)

  module _ (idle : is_turn t e.event ≡ false) where
    -- else they are those in front of an event that preempts the task
    idle_owns : own config t x ≡ if_preempted config t unseen x
    idle_owns = let all = h.owns in let c = ap (λ b. cond b (charged x) 0) idle in omega (arith, all, c)

    pub idle_weighs : (weights : List BodyWeights) → weight_of weights t x ≡ 0
    idle_weighs weights = ap (λ b. cond b (executed_weight weights x.found e.event) 0) idle

    spent_on : is_entry t e.event ≡ false → spent_behind config t at spent x.found e ≡ spent + if_preempted config t (λ y. front_counts at y.stamped) x
    spent_on away =
        ap (λ b. cond (b || is_entry t e.event) 0 (spent + if_preempted config t (λ y. front_counts at y.stamped) x)) idle
        ∙ ap (λ b. cond b 0 (spent + if_preempted config t (λ y. front_counts at y.stamped) x)) away

    -- what is spent then is within the item that has begun, and grows by no less than its own counts
    module _ (so_far : ℕ) (few : spent ≤ so_far) (away : is_entry t e.event ≡ false) where
      pub goes_on : (own config t x + spent ≤ spent_behind config t at spent x.found e)
          × (spent_behind config t at spent x.found e ≤ cond (is_preempted config t x) (begun size t x) so_far)
      goes_on = by (cases_Bool (is_preempted config t x))
        where
          by : (is_preempted config t x ≡ true) ⊎ (is_preempted config t x ≡ false)
              → (own config t x + spent ≤ spent_behind config t at spent x.found e)
              × (spent_behind config t at spent x.found e ≤ cond (is_preempted config t x) (begun size t x) so_far)
          by (inl is) =
              let line = line_facts e.event (and_parts (takes_line e.event) (is_running config x.found t) is).0 in
              let front = front_few line.0 line.1 in
              let item = h.within.preempts is in
              let o = idle_owns in
              let a = ap (λ b. cond b (unseen x) 0) is in
              let c = ap (λ b. cond b (front_counts at e) 0) is in
              let d = ap (λ b. cond b (begun size t x) so_far) is in
              let s = spent_on away in
              (omega (arith, front, o, a, c, s), omega (arith, item, c, d, s))
          by (inr other) =
              let o = idle_owns in
              let a = ap (λ b. cond b (unseen x) 0) other in
              let c = ap (λ b. cond b (front_counts at e) 0) other in
              let d = ap (λ b. cond b (begun size t x) so_far) other in
              let s = spent_on away in
              (omega (arith, o, a, c, s), omega (arith, few, c, d, s))
