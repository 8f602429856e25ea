-- The own counts of a task in a round are at most the weights of its items, however often it is preempted.
use Rattle.std.proofs.Common.{◌≡◌, ◌∙◌, ℕ, ◌+◌, ◌-◌, ◌==◌, ◌<◌, ◌≤◌, ◌⊎◌, ◌&&◌, List, [], ◌∷◌, ◌++◌, length, Bool, true, false, cond, sym, ap, subst, arith, inl, inr}
use Rattle.std.specs.List.{AllByRecursion}
use Rattle.std.proofs.lemmas.Bool.{cases_Bool, true≢false, false≢true, or_cases, eqb-true, and_parts}
use Rattle.sloth_base.specs.declared.config.Config.{Config}
use Rattle.sloth_base.specs.declared.app.App.{App}
use Rattle.sloth_base.specs.declared.service.Event.{Event}
use Rattle.sloth_base.specs.declared.service.Event.TheVariants as event
use Rattle.sloth_base.specs.declared.service.Stamped.{Stamped}
use Rattle.sloth_base.specs.declared.service.Service.TheVariants as service
use Rattle.sloth_base.specs.ServiceCodes.{is_service}
use Rattle.osek_scheduler.specs.State.{System, opening}
use Rattle.osek_scheduler.specs.Apart.{IsActive}
use Rattle.osek_scheduler.specs.InTime.{is_admit}
use Rattle.osek_scheduler.specs.Runs.{AreStepsTo}
use Rattle.osek_scheduler.specs.Steps.{OsekStep}
use Rattle.osek_scheduler.specs.Valid.{IsValid}
use Rattle.osek_scheduler.proofs.Facts.{Facts, facts}
use Rattle.osek_scheduler.proofs.Leading.{follows_leads}
use Rattle.osek_scheduler.proofs.Steps.{step_valid, opening_valid}
use Rattle.bound_rules.specs.declared.bound.BodyWeights.{BodyWeights}
use Rattle.sim_induction.specs.Items.{length_of}
use Rattle.sim_induction.specs.Pace.{ItemSizes}
use Rattle.sim_induction.proofs.BodyLengths.{short}
use Rattle.sim_induction.specs.Sound.{events_of}
use Rattle.sim_induction.specs.Spent.{spent_behind}
use Rattle.sim_induction.proofs.Spending.{none_left}
use Rattle.run_counts.specs.Stages.{Stage, is_turn, is_entry, own, charged, end_of, stage, stages}
use Rattle.run_counts.specs.Spending.{WeighsItems}
use Rattle.run_counts.specs.Rounds.{goes_on_waiting, opens_round, closes_round, round_of, total, weight_of, WeighsEndings}
use Rattle.run_counts.specs.OwnCounts.{is_preempted, begun, left_begun, RoundsOwnItems, ImagesOwnWithinItems}
use Rattle.run_counts.proofs.Awake.{stays_active}
use Rattle.run_counts.proofs.Counted.{counts_weigh, counts_end}
use Rattle.run_counts.proofs.Owing.{debt}
use Rattle.run_counts.proofs.Owned.{run_owned}
use Rattle.run_counts.proofs.Rounded.{fits, alone, begins_free, left_closes}
use Rattle.run_counts.proofs.Staged.{behind_is}
use Rattle.run_counts.proofs.SpentStages.{closes_turn, not_entered, opens_so, IsSpent, AreSpent, spent_stages, spent_later, turn_fits, turn_owns, idle_weighs, goes_on}

-- ---- a round

module _ (config : Config) (app : App) (size : ItemSizes) (longest : ℕ) (weights : List BodyWeights) (weighs : WeighsItems app size weights)
    (ends : WeighsEndings app size weights) (w : Facts config app) (cuts : Bool) (t : ℕ) where
  module _ (x : Stage) (xs : List Stage) (at spent so_far : ℕ) (s : System) (v : IsValid config app s) (active : IsActive s t) (few : spent ≤ so_far)
      (h : AreSpent config app size longest t at spent s (x ∷ xs)) where
    abbrev what : Event
    what = x.stamped.event

    abbrev behind_at : ℕ
    behind_at = cond (is_admit x.stamped) at x.stamped.stamp.at

    abbrev behind_spent : ℕ
    behind_spent = spent_behind config t at spent x.found x.stamped

    abbrev one : IsSpent config app size longest t at spent x
    one = h.1

    valid : IsValid config app x.found
    valid = subst (IsValid config app) (sym h.0) v

    next_valid : IsValid config app x.next
    next_valid = step_valid config app what x.found x.next w one.step valid

    active_here : IsActive x.found t
    active_here = subst (λ y. IsActive y t) (sym h.0) active

    same : debt t x.found ≡ debt t s
    same = ap (debt t) h.0

    sum_is : (f : Stage → ℕ) (b : Bool) → closes_round cuts t what ≡ b → total f (round_of cuts t (x ∷ xs)) ≡ f x + total f (cond b [] (round_of cuts t xs))
    sum_is f b is = ap (λ b. f x + total f (cond b [] (round_of cuts t xs))) is

    left_is : (b turn : Bool) → closes_round cuts t what ≡ b → is_turn t what ≡ turn
        → left_begun config size t so_far (round_of cuts t (x ∷ xs))
        ≡ left_begun config size t (cond turn 0 (cond (is_preempted config t x) (begun size t x) so_far)) (cond b [] (round_of cuts t xs))
    left_is b turn is comes =
        ap (λ b. left_begun config size t (cond (is_turn t what) 0 (cond (is_preempted config t x) (begun size t x) so_far)) (cond b [] (round_of cuts t xs))) is
        ∙ ap (λ c. left_begun config size t (cond c 0 (cond (is_preempted config t x) (begun size t x) so_far)) (cond b [] (round_of cuts t xs))) comes

    -- what is to be shown of all stages, and what is so of those behind the first
    abbrev Goal : Type 0
    Goal =
        total (own config t) (round_of cuts t (x ∷ xs)) + spent
        ≤ total (weight_of weights t) (round_of cuts t (x ∷ xs)) + debt t s + left_begun config size t so_far (round_of cuts t (x ∷ xs))

    abbrev Rest : Type 0
    Rest = (n : ℕ) → IsActive x.next t → behind_spent ≤ n
        → total (own config t) (round_of cuts t xs) + behind_spent ≤ total (weight_of weights t) (round_of cuts t xs) + debt t x.next + left_begun config size t n (round_of cuts t xs)

    -- the last event of the round
    last_stage : is_turn t what ≡ true → closes_round cuts t what ≡ true → Goal
    last_stage turn closes =
        let own_is = turn_owns config app size longest t at spent x one turn in
        let fitting = turn_fits config app size longest t at spent x one turn in
        let le = alone config app size longest weights weighs ends w what (charged x + spent) t x.found x.next valid one.step (λ other later. fitting) in
        let counts = ap (λ b. cond b (charged x + spent) 0) turn in
        let a = sum_is (own config t) true closes in
        let c = sum_is (weight_of weights t) true closes in
        let d = left_is true true closes turn in
        let e = same in
        omega (arith, own_is, le, counts, a, c, d, e)

    -- another event of a turn
    turn_stage : is_turn t what ≡ true → closes_round cuts t what ≡ false → Rest → Goal
    turn_stage turn stays rest =
        let away = left_closes config app size longest weights weighs ends w cuts t what stays in
        let own_is = turn_owns config app size longest t at spent x one turn in
        let fitting = turn_fits config app size longest t at spent x one turn in
        let le = fits config app size longest weights weighs ends w what (charged x + spent) t x.found x.next valid one.step (λ other later. fitting) away in
        let counts = ap (λ b. cond b (charged x + spent) 0) turn in
        let none = none_left config t at spent x.found x.stamped turn in
        let on = rest 0 (stays_active config app t what x.found x.next one.step valid away active_here) (omega (arith, none)) in
        let a = sum_is (own config t) false stays in
        let c = sum_is (weight_of weights t) false stays in
        let d = left_is false true stays turn in
        let e = same in
        omega (arith, own_is, le, counts, on, a, c, d, e)

    not_begun : (is_entry t what ≡ true) ⊎ (is_entry t what ≡ false) → is_entry t what ≡ false
    not_begun (inl entry) = absurd (not_entered config app t what x.found x.next one.step active_here entry)
    not_begun (inr out) = out

    -- any other
    other_stage : is_turn t what ≡ false → closes_round cuts t what ≡ false → Rest → Goal
    other_stage idle stays rest =
        let away = left_closes config app size longest weights weighs ends w cuts t what stays in
        let out = not_begun (cases_Bool (is_entry t what)) in
        let n = cond (is_preempted config t x) (begun size t x) so_far in
        let goes = goes_on config app size longest t at spent x one idle so_far few out in
        let le = fits config app size longest weights weighs ends w what 0 t x.found x.next valid one.step (λ other later. omega arith) away in
        let counts : ◌≡◌ {A = ℕ} (cond (is_turn t what) 0 0) 0 = ap {B = ℕ} (λ b. cond b 0 0) idle in
        let weight = idle_weighs config app size longest t at spent x one idle weights in
        let grows = goes.0 in
        let on = rest n (stays_active config app t what x.found x.next one.step valid away active_here) goes.1 in
        let a = sum_is (own config t) false stays in
        let c = sum_is (weight_of weights t) false stays in
        let d = left_is false false stays idle in
        let e = same in
        omega (arith, le, counts, weight, grows, on, a, c, d, e)

    any_stage : (is_turn t what ≡ true) ⊎ (is_turn t what ≡ false) → (closes_round cuts t what ≡ true) ⊎ (closes_round cuts t what ≡ false) → Rest → Goal
    any_stage (inl turn) (inl closes) rest = last_stage turn closes
    any_stage (inl turn) (inr stays) rest = turn_stage turn stays rest
    any_stage (inr idle) (inl closes) rest = absurd (true≢false (sym (closes_turn cuts t what closes) ∙ idle))
    any_stage (inr idle) (inr stays) rest = other_stage idle stays rest

  own_items : (xs : List Stage) (at spent so_far : ℕ) (s : System) → IsValid config app s → IsActive s t → spent ≤ so_far
      → AreSpent config app size longest t at spent s xs
      → total (own config t) (round_of cuts t xs) + spent ≤ total (weight_of weights t) (round_of cuts t xs) + debt t s + left_begun config size t so_far (round_of cuts t xs)
  own_items [] at spent so_far s v active few h = omega (arith, few)
  own_items (x ∷ xs) at spent so_far s v active few h =
      any_stage x xs at spent so_far s v active few h (cases_Bool (is_turn t x.stamped.event)) (cases_Bool (closes_round cuts t x.stamped.event))
      (λ n a less. own_items xs (cond (is_admit x.stamped) at x.stamped.stamp.at) (spent_behind config t at spent x.found x.stamped) n x.next
      (next_valid x xs at spent so_far s v active few h) a less h.2)

-- ---- the task of a round is one of the configuration

module _ (config : Config) (app : App) where
  -- a stage is a step
  abbrev IsStep : Stage → Type 0
  IsStep x = OsekStep config app x.stamped.event x.found x.next

  steps_of : (rest : List Stamped) (start : ℕ) (s end : System) → AreStepsTo config app rest s end → AllByRecursion IsStep (stages config app start s rest)
  steps_of [] start s end leads = tt
  steps_of (e ∷ rest) start s end leads =
      let is = behind_is config app e.event s leads.0 leads.1 in
      let x = stage config app start s e in (
        subst (OsekStep config app e.event s) (sym is) leads.1,
        subst (λ v. AllByRecursion IsStep (stages config app (end_of x) v rest)) (sym is) (steps_of rest (end_of x) leads.0 end leads.2),
      )

  step_of : (before behind : List Stage) (first : Stage) → AllByRecursion IsStep (before ++ first ∷ behind) → IsStep first
  step_of [] behind first h = h.0
  step_of (x ∷ before) behind first h = step_of before behind first h.1

  opens_declared : (t : ℕ) (cuts : Bool) (first : Stage) → IsStep first → opens_round cuts t first.stamped.event ≡ true → t < length config.tasks
  opens_declared t cuts first step opens = by (or_cases (is_entry t first.stamped.event) (cuts && goes_on_waiting t first.stamped.event) opens)
    where
      entered : (e : Event) → OsekStep config app e first.found first.next → is_entry t e ≡ true → t < length config.tasks
      entered (event.Enter u) step entry = subst (λ v. v < length config.tasks) (eqb-true u t entry) step.1.declared
      entered e step entry = absurd (false≢true entry)

      called : (e : Event) → OsekStep config app e first.found first.next → goes_on_waiting t e ≡ true → t < length config.tasks
      called (event.Call u served status) step waits =
          subst (λ v. v < length config.tasks) (eqb-true u t (and_parts (u == t) (is_service served service.WaitEvent) waits).0) step.1.1.top.declared
      called e step waits = absurd (false≢true waits)

      by : (is_entry t first.stamped.event ≡ true) ⊎ ((cuts && goes_on_waiting t first.stamped.event) ≡ true) → t < length config.tasks
      by (inl entry) = entered first.stamped.event step entry
      by (inr waits) = called first.stamped.event step (and_parts cuts (goes_on_waiting t first.stamped.event) waits).1

-- ---- the laws

pub own_items_of : RoundsOwnItems
own_items_of config app size longest n t cuts weights arrivals events wf run timed spends weighs ends before behind first is opens =
    let w = facts config app wf in
    let leads = follows_leads config app [] (opening config app) events run.0 run.1 in
    let owns = run_owned config app w n t arrivals events run.0 leads timed in
    let whole = spent_stages config app size longest t events 0 0 0 (opening config app) spends.last spends.to spends.left spends.each (λ booted. absurd (false≢true booted)) owns in
    let there = spent_later config app size longest t w before (first ∷ behind) 0 0 (opening config app) (opening_valid config app)
    (subst (AreSpent config app size longest t 0 0 (opening config app)) is whole) in
    let h = there.2.2 in
    let valid = subst (IsValid config app) (sym h.0) there.2.1 in
    let begun_so = opens_so config app t cuts first there.0 there.1 valid h.1.step opens in
    let sums = own_items config app size longest weights weighs ends w cuts t behind _ _ 0 first.next
    (step_valid config app first.stamped.event first.found first.next w h.1.step valid) begun_so.0 (let none = begun_so.1 in omega (arith, none)) h.2 in
    let free : debt t first.next ≡ 0 =
    ap (λ b. cond b 4 0) (begins_free config app size longest weights weighs ends w first.stamped.event cuts t first.found first.next valid h.1.step opens) in
    omega (arith, sums, free)

pub own_in_image : ImagesOwnWithinItems
own_in_image config app image lengths weights arrivals n t cuts wf code sound pace lengths_are counts are before behind first is opens =
    let run = sound.each arrivals n are in
    let leads = follows_leads config app [] (opening config app) (events_of image arrivals n) run.osek.0 run.osek.1 in
    let stepped = steps_of config app (events_of image arrivals n) 0 (opening config app) run.osek.0 leads in
    let declared = opens_declared config app t cuts first (step_of config app before behind first (subst (AllByRecursion (IsStep config app)) is stepped)) opens in
    let spends = (pace.spent lengths lengths_are).each arrivals n 36 t are declared in
    own_items_of config app (length_of lengths) 36 n t cuts weights arrivals (events_of image arrivals n) wf run.osek run.in_time spends
    (counts_weigh app lengths lengths_are (short app code lengths lengths_are) weights counts) (counts_end app lengths weights counts) before behind first is opens
