-- What is charged to the events of a round is within the weights of the items that they execute.
use Rattle.std.proofs.Common.{◌≡◌, ◌∙◌, ℕ, ◌+◌, ◌==◌, ◌&&◌, ◌||◌, ◌≤◌, ◌⊎◌, List, [], ◌∷◌, ◌++◌, Bool, true, false, cond, max, is_some, refl, sym, ap, subst, arith, inl, inr}
use Rattle.std.specs.List.{AllByRecursion}
use Rattle.std.proofs.lemmas.Bool.{true≢false, false≢true, cases_Bool, cases_eq, eq-eqb, eqb-true, ne_eqb, and_parts}
use Rattle.sloth_base.specs.declared.config.Config.{Config}
use Rattle.sloth_base.specs.declared.app.App.{App}
use Rattle.sloth_base.specs.declared.app.Func.{Func}
use Rattle.sloth_base.specs.declared.app.Op.{Op}
use Rattle.sloth_base.specs.declared.app.Op.TheVariants as op
use Rattle.sloth_base.specs.declared.service.Event.{Event}
use Rattle.sloth_base.specs.declared.service.Event.TheVariants as event
use Rattle.sloth_base.specs.declared.service.Stamped.{Stamped}
use Rattle.sloth_base.specs.declared.service.Service.{Service}
use Rattle.sloth_base.specs.declared.service.Service.TheVariants as service
use Rattle.sloth_base.specs.Events.{admitted_line, is_boot}
use Rattle.sloth_base.specs.Named.{function, operation}
use Rattle.sloth_base.specs.ServiceCodes.{is_service}
use Rattle.sloth_base.proofs.Services.{same_service}
use Rattle.osek_scheduler.specs.State.{System, task, opening}
use Rattle.osek_scheduler.specs.Steps.{OsekStep}
use Rattle.osek_scheduler.specs.Runs.{AreStepsTo}
use Rattle.osek_scheduler.specs.Valid.{IsValid}
use Rattle.osek_scheduler.proofs.Facts.{Facts, facts}
use Rattle.osek_scheduler.proofs.Leading.{follows_leads}
use Rattle.osek_scheduler.proofs.Steps.{step_valid, opening_valid}
use Rattle.osek_blocking.specs.Walks.{chains_itself}
use Rattle.osek_blocking.proofs.Frames.{KeepsOthers}
use Rattle.osek_blocking.proofs.FrameEffects.{frame_effect}
use Rattle.bound_rules.specs.declared.bound.BodyWeights.{BodyWeights}
use Rattle.bound_rules.specs.Weights.{going_weight, ending_weight}
use Rattle.sim_induction.specs.Events.{call_counts, left_counts}
use Rattle.sim_induction.specs.Items.{served_counts, going_counts, ending_counts}
use Rattle.code_lengths.specs.LongestPaths.{leaving_path}
use Rattle.sim_induction.specs.Pace.{ItemSizes, next_size, next_size_of, paced_counts}
use Rattle.run_counts.specs.Stages.{Stage, charged, is_turn, end_of, stage, stages, state_behind}
use Rattle.run_counts.specs.Laws.{IsWithinWeights}
use Rattle.run_counts.specs.Spending.{WeighsItems}
use Rattle.run_counts.specs.Rounds.{goes_on_waiting, is_left, opens_round, closes_round, round_of, total, charged_to, next_going, next_ending, executed_weight, weight_of, WeighsEndings, RoundsSpendWithinItems}
use Rattle.run_counts.proofs.Owing.{debt, pause, entered_owes, ran_owes, came_back_owes, called_owes, called_debt, ready_owes}
use Rattle.run_counts.proofs.Staged.{behind_is, keeps_weights}

-- a service that goes on takes, with its way back, no more than its item counts for it
call_few : (served : Service) → call_counts served + pause served ≤ served_counts served
call_few service.ChainTask = omega arith
call_few service.Schedule = omega arith
call_few served = omega arith

-- one by which a task leaves no more than an item that may end with it counts
left_few : (served : Service) (itself : Bool) → left_counts served ≤ max (served_counts served) (leaving_path served itself)
left_few service.ChainTask true = omega arith
left_few service.ChainTask false = omega arith
left_few served itself = omega arith

-- an event of another task
others_fit : (counts weight t u : ℕ) (s next : System) → (u ≡ t → ⊥) → KeepsOthers u s next
    → cond (u == t) counts 0 + debt t next ≤ cond (u == t) weight 0 + debt t s
others_fit counts weight t u s next n keeps =
    let no = ne_eqb u t n in
    let a = ap (λ b. cond b counts 0) no in
    let c = ap (λ b. cond b weight 0) no in
    let d : debt t next ≡ debt t s = ap (λ b. cond b 4 0) (keeps t (λ k. n (sym k))).owed in
    omega (arith, a, c, d)

-- one of its own
own_fits : (counts weight t u : ℕ) (s next : System) → u ≡ t → counts + debt u next ≤ weight + debt u s
    → cond (u == t) counts 0 + debt t next ≤ cond (u == t) weight 0 + debt t s
own_fits counts weight t u s next e le =
    let yes = eq-eqb u t e in
    let a = ap (λ b. cond b counts 0) yes in
    let c = ap (λ b. cond b weight 0) yes in
    let d : debt u next ≡ debt t next = ap (λ v. debt v next) e in
    let f : debt u s ≡ debt t s = ap (λ v. debt v s) e in
    omega (arith, a, c, d, f, le)

either_fits : (counts weight t u : ℕ) (s next : System) → KeepsOthers u s next → counts + debt u next ≤ weight + debt u s
    → cond (u == t) counts 0 + debt t next ≤ cond (u == t) weight 0 + debt t s
either_fits counts weight t u s next keeps le = by (cases_eq u t)
  where
    by : (u ≡ t) ⊎ (u ≡ t → ⊥) → cond (u == t) counts 0 + debt t next ≤ cond (u == t) weight 0 + debt t s
    by (inl e) = own_fits counts weight t u s next e le
    by (inr n) = others_fit counts weight t u s next n keeps

-- no task's event
kept_fits : (t : ℕ) (s next : System) → (task next t).owed ≡ (task s t).owed → 0 + debt t next ≤ 0 + debt t s
kept_fits t s next same = let d : debt t next ≡ debt t s = ap (λ b. cond b 4 0) same in omega (arith, d)

module _ (config : Config) (app : App) (size : ItemSizes) (longest : ℕ) (weights : List BodyWeights) (weighs : WeighsItems app size weights)
    (ends : WeighsEndings app size weights) (w : Facts config app) where
  -- what a stage of this event is charged with is within its weight
  abbrev pub IsWithin : (counts : ℕ) → Event → System → Type 0
  IsWithin counts what s = is_some (admitted_line what) ≡ false → is_boot what ≡ false → counts ≤ paced_counts config app size longest s what

  ran_fits : (counts u func item result : ℕ) (s next : System) → OsekStep config app (event.Run u func item result) s next
      → IsWithin counts (event.Run u func item result) s → counts + debt u next ≤ next_going weights (task s u).frames + debt u s
  ran_fits counts u func item result s next step within =
      let at = step.1.at in
      let le = within refl refl in
      let same : size func item ≡ size at.frame.func at.frame.item = ap (λ f. size f item) (sym step.1.in_function) ∙ ap (λ i. size at.frame.func i) (sym step.1.at_item) in
      let weight = weighs.item at.frame.func at.frame.item at.inside in
      let place : next_going weights (task s u).frames ≡ going_weight weights at.frame.func at.frame.item = ap (next_going weights) at.frames in
      let none : debt u next ≡ 0 = ap (λ b. cond b 4 0) (ran_owes config app u func item result s next step) in
      omega (arith, le, same, weight, place, none)

  pub called_fits : (counts u : ℕ) (served : Service) (status : ℕ) (s next : System) → OsekStep config app (event.Call u served status) s next
      → IsWithin counts (event.Call u served status) s → counts + debt u next ≤ next_going weights (task s u).frames + debt u s
  called_fits counts u served status s next step within =
      let call = step.1.1 in
      let at = call.at in
      let le = within refl refl in
      let size_is : next_size_of size (task s u) ≡ size at.frame.func at.frame.item =
      ap {B = ℕ} (λ b. cond b 0 (next_size size (task s u).frames)) at.free ∙ ap (next_size size) at.frames in
      let weight = weighs.item at.frame.func at.frame.item at.inside in
      let counted : going_counts (operation app at.frame.func at.frame.item) ≡ served_counts served = ap going_counts at.next ∙ ap served_counts call.same in
      let few = call_few served in
      let place : next_going weights (task s u).frames ≡ going_weight weights at.frame.func at.frame.item = ap (next_going weights) at.frames in
      let owes = called_debt config app u served status s next step in
      omega (arith, le, size_is, weight, counted, few, place, owes)

  came_back_fits : (counts u : ℕ) (s next : System) → IsValid config app s → OsekStep config app (event.Back u) s next
      → IsWithin counts (event.Back u) s → counts + debt u next ≤ 0 + debt u s
  came_back_fits counts u s next v step within =
      let le = within refl refl in
      let size_is : next_size_of size (task s u) ≡ 0 = ap {B = ℕ} (λ b. cond b 0 (next_size size (task s u).frames)) step.3 in
      let owed : debt u s ≡ 4 = ap (λ b. cond b 4 0) step.3 in
      let none : debt u next ≡ 0 = ap (λ b. cond b 4 0) (came_back_owes config app u s next v step) in
      omega (arith, le, size_is, owed, none)

  pub left_fits : (counts u : ℕ) (served : Service) (s next : System) → OsekStep config app (event.Left u served) s next
      → IsWithin counts (event.Left u served) s → counts ≤ next_ending weights (task s u).frames
  left_fits counts u served s next step within =
      let call = step.1.1 in
      let at = call.at in
      let le = within refl refl in
      let size_is : next_size_of size (task s u) ≡ size at.frame.func at.frame.item =
      ap {B = ℕ} (λ b. cond b 0 (next_size size (task s u).frames)) at.free ∙ ap (next_size size) at.frames in
      let weight = ends.item at.frame.func at.frame.item at.inside in
      let f = function app at.frame.func in
      let counted : ending_counts f (operation app at.frame.func at.frame.item) ≡ max (served_counts served) (leaving_path served (chains_itself f (operation app at.frame.func at.frame.item))) =
      by f (operation app at.frame.func at.frame.item) at.next in
      let few = left_few served (chains_itself f (operation app at.frame.func at.frame.item)) in
      let place : next_ending weights (task s u).frames ≡ ending_weight weights at.frame.func at.frame.item = ap (next_ending weights) at.frames in
      omega (arith, le, size_is, weight, counted, few, place)
    where
      by : (f : Func) (o : Op) → o ≡ op.Serve step.1.1.call → ending_counts f o ≡ max (served_counts served) (leaving_path served (chains_itself f o))
      by f o is =
          subst (λ (o : Op). ending_counts f o ≡ max (served_counts served) (leaving_path served (chains_itself f o))) (sym is)
          (ap (λ x. max (served_counts x) (leaving_path x (chains_itself f (op.Serve step.1.1.call)))) step.1.1.same)

  -- ---- any event

  abbrev pub Fits : (counts t : ℕ) → Event → System → System → Type 0
  Fits counts t what s next =
      cond (is_turn t what) counts 0 + debt t next ≤ cond (is_turn t what) (executed_weight weights s what) 0 + debt t s

  pub fits : (what : Event) (counts t : ℕ) (s next : System) → IsValid config app s → OsekStep config app what s next → IsWithin counts what s
      → is_left t what ≡ false → Fits counts t what s next
  fits (event.Run u func item result) counts t s next v step within stays =
      either_fits counts (next_going weights (task s u).frames) t u s next (frame_effect config app w s next v (event.Run u func item result) step).others
      (ran_fits counts u func item result s next step within)
  fits (event.Call u served status) counts t s next v step within stays =
      either_fits counts (next_going weights (task s u).frames) t u s next (frame_effect config app w s next v (event.Call u served status) step).others
      (called_fits counts u served status s next step within)
  fits (event.Back u) counts t s next v step within stays =
      either_fits counts 0 t u s next (frame_effect config app w s next v (event.Back u) step).others (came_back_fits counts u s next v step within)
  fits (event.Left u served) counts t s next v step within stays =
      others_fit counts (next_ending weights (task s u).frames) t u s next (λ e. true≢false (sym (eq-eqb u t e) ∙ stays))
      (frame_effect config app w s next v (event.Left u served) step).others
  fits (event.Enter u) counts t s next v step within stays = kept_fits t s next (entered_owes config app t u s next step)
  fits what counts t s next v step within stays = kept_fits t s next (frame_effect config app w s next v what step t).owed

  -- without what stands behind it
  abbrev pub FitsAlone : (counts t : ℕ) → Event → System → Type 0
  FitsAlone counts t what s = cond (is_turn t what) counts 0 ≤ cond (is_turn t what) (executed_weight weights s what) 0 + debt t s

  pub alone : (what : Event) (counts t : ℕ) (s next : System) → IsValid config app s → OsekStep config app what s next → IsWithin counts what s
      → FitsAlone counts t what s
  alone what counts t s next v step within = by (cases_Bool (is_left t what))
    where
      left : (what : Event) → OsekStep config app what s next → IsWithin counts what s → is_left t what ≡ true → FitsAlone counts t what s
      left (event.Left u served) step within leaves =
          let le = left_fits counts u served s next step within in
          let a = ap (λ b. cond b counts 0) leaves in
          let c = ap (λ b. cond b (next_ending weights (task s u).frames) 0) leaves in
          omega (arith, le, a, c)
      left what step within leaves = absurd (false≢true leaves)

      by : (is_left t what ≡ true) ⊎ (is_left t what ≡ false) → FitsAlone counts t what s
      by (inl leaves) = left what step within leaves
      by (inr stays) = let le = fits what counts t s next v step within stays in omega (arith, le)

  -- ---- stages

  -- stages behind one another, the first from state s on
  abbrev AreLinked : System → List Stage → Type 0
  AreLinked s [] = Unit {0}
  AreLinked s (x ∷ xs) =
      (x.found ≡ s) × OsekStep config app x.stamped.event x.found x.next × IsWithinWeights config app size longest x × AreLinked x.next xs

  linked : (rest : List Stamped) (start : ℕ) (s end : System) → AreStepsTo config app rest s end
      → AllByRecursion (IsWithinWeights config app size longest) (stages config app start s rest) → AreLinked s (stages config app start s rest)
  linked [] start s end leads all = tt
  linked (e ∷ rest) start s end leads all =
      let is = sym (behind_is config app e.event s leads.0 leads.1) in (
        refl,
        subst (OsekStep config app e.event s) is leads.1,
        all.0,
        linked rest (end_of (stage config app start s e)) (state_behind config app e.event s) end
            (subst (λ x. AreStepsTo config app rest x end) is leads.2) all.1,
      )

  linked_behind : (before behind : List Stage) (s : System) → IsValid config app s → AreLinked s (before ++ behind)
      → (found : System) × IsValid config app found × AreLinked found behind
  linked_behind [] behind s v l = (s, v, l)
  linked_behind (x ∷ before) behind s v l =
      linked_behind before behind x.next (step_valid config app x.stamped.event x.found x.next w l.1 (subst (IsValid config app) (sym l.0) v)) l.3

  -- ---- a round

  pub left_closes : (cuts : Bool) (t : ℕ) (e : Event) → closes_round cuts t e ≡ false → is_left t e ≡ false
  left_closes cuts t e stays = by (is_left t e) refl
    where
      by : (b : Bool) → is_left t e ≡ b → b ≡ false
      by true is = absurd (true≢false (sym (ap (λ b. b || (cuts && goes_on_waiting t e)) is) ∙ stays))
      by false is = refl

  within_items : (cuts : Bool) (t : ℕ) (xs : List Stage) (s : System) → IsValid config app s → AreLinked s xs
      → total (charged_to t) (round_of cuts t xs) ≤ total (weight_of weights t) (round_of cuts t xs) + debt t s
  within_items cuts t [] s v l = omega arith
  within_items cuts t (x ∷ xs) s v l = by (cases_Bool (closes_round cuts t x.stamped.event)) (within_items cuts t xs x.next next_valid l.3)
    where
      valid : IsValid config app x.found
      valid = subst (IsValid config app) (sym l.0) v

      next_valid : IsValid config app x.next
      next_valid = step_valid config app x.stamped.event x.found x.next w l.1 valid

      same : debt t x.found ≡ debt t s
      same = ap (debt t) l.0

      sum_is : (f : Stage → ℕ) (b : Bool) → closes_round cuts t x.stamped.event ≡ b
          → total f (round_of cuts t (x ∷ xs)) ≡ f x + total f (cond b [] (round_of cuts t xs))
      sum_is f b is = ap (λ b. f x + total f (cond b [] (round_of cuts t xs))) is

      by : (closes_round cuts t x.stamped.event ≡ true) ⊎ (closes_round cuts t x.stamped.event ≡ false)
          → total (charged_to t) (round_of cuts t xs) ≤ total (weight_of weights t) (round_of cuts t xs) + debt t x.next
          → total (charged_to t) (round_of cuts t (x ∷ xs)) ≤ total (weight_of weights t) (round_of cuts t (x ∷ xs)) + debt t s
      by (inl closes) rest =
          let one = alone x.stamped.event (charged x) t x.found x.next valid l.1 l.2 in
          let a = sum_is (charged_to t) true closes in
          let c = sum_is (weight_of weights t) true closes in
          let d = same in
          omega (arith, one, a, c, d)
      by (inr stays) rest =
          let one = fits x.stamped.event (charged x) t x.found x.next valid l.1 l.2 (left_closes cuts t x.stamped.event stays) in
          let a = sum_is (charged_to t) false stays in
          let c = sum_is (weight_of weights t) false stays in
          let d = same in
          omega (arith, one, rest, a, c, d)

  -- where a round begins the task owes nothing
  pub begins_free : (what : Event) (cuts : Bool) (t : ℕ) (s next : System) → IsValid config app s → OsekStep config app what s next
      → opens_round cuts t what ≡ true → (task next t).owed ≡ false
  begins_free (event.Enter u) cuts t s next v step opens =
      let e = eqb-true u t (enters (u == t) cuts opens) in
      subst (λ x. (task next x).owed ≡ false) e (entered_owes config app u u s next step ∙ ready_owes config app u s next v step)
    where
      enters : (b cuts : Bool) → b || (cuts && false) ≡ true → b ≡ true
      enters true cuts k = refl
      enters false true k = k
      enters false false k = k
  begins_free (event.Call u served status) cuts t s next v step opens =
      let both = and_parts (u == t) (is_service served service.WaitEvent) (waits cuts ((u == t) && is_service served service.WaitEvent) opens) in
      subst (λ x. (task next x).owed ≡ false) (eqb-true u t both.0)
      (called_owes config app u served status s next step (λ k. differ (sym (same_service served service.WaitEvent both.1) ∙ k)))
    where
      waits : (cuts b : Bool) → cuts && b ≡ true → b ≡ true
      waits true b k = k
      waits false b k = absurd (false≢true k)

      differ : service.WaitEvent ≡ service.Schedule → ⊥
      differ k = cc
  begins_free what cuts t s next v step opens = absurd (never cuts opens)
    where
      never : (cuts : Bool) → cuts && false ≡ true → ⊥
      never true k = false≢true k
      never false k = false≢true k

pub rounds_within : RoundsSpendWithinItems
rounds_within config app size longest n t cuts weights events wf run keeps weighs ends before behind first is opens =
    let w = facts config app wf in
    let leads = follows_leads config app [] (opening config app) events run.0 run.1 in
    let whole = linked config app size longest weights weighs ends w events 0 (opening config app) run.0 leads (keeps_weights config app size longest n events run keeps) in
    let there = linked_behind config app size longest weights weighs ends w before (first ∷ behind) (opening config app) (opening_valid config app)
    (subst (AreLinked config app size longest weights weighs ends w (opening config app)) is whole) in
    let valid = subst (IsValid config app) (sym there.2.0) there.1 in
    let le = within_items config app size longest weights weighs ends w cuts t behind first.next
    (step_valid config app first.stamped.event first.found first.next w there.2.1 valid) there.2.3 in
    let none : debt t first.next ≡ 0 =
    ap (λ b. cond b 4 0) (begins_free config app size longest weights weighs ends w first.stamped.event cuts t first.found first.next valid there.2.1 opens) in
    omega (arith, le, none)
