-- The expiries of alarms of a record are those of its configuration.
use Rattle.std.proofs.Common.{◌≡◌, ℕ, suc, ◌+◌, ◌-◌, ◌/◌, ◌<◌, ◌≤◌, ◌⊎◌, ◌==◌, ◌&&◌, not, Bool, true, false, cond, min, List, [], ◌∷◌, length, get_or, refl, sym, ap, ◌∙◌, subst, arith, inl, inr, ltb}
use Rattle.std.specs.Prelude.{nat_lt}
use Rattle.std.proofs.lemmas.Bool.{true≢false, lt-ltb, le-ltb, cases_lt}
use Rattle.std.proofs.lemmas.Bool.Decides.{not_from_Decides}
use Rattle.sloth_base.specs.declared.config.Action.{Action}
use Rattle.sloth_base.specs.declared.config.Action.TheVariants as action
use Rattle.sloth_base.specs.declared.config.AlarmDecl.{AlarmDecl}
use Rattle.sloth_base.specs.declared.config.Config.{Config}
use Rattle.sloth_base.specs.declared.app.App.{App}
use Rattle.sloth_base.specs.declared.app.Op.TheVariants as op
use Rattle.sloth_base.specs.declared.service.Service.TheVariants as service
use Rattle.sloth_base.specs.Named.{operation, alarm_declaration, undeclared_alarm}
use Rattle.walk_sums.specs.Counted.{calls_for}
use Rattle.run_windows.specs.declared.costs.AlarmCosts.{AlarmCosts}
use Rattle.run_windows.specs.Arrivals
use Rattle.run_windows.specs.Arrivals.{acts_on}
use Rattle.run_costs.specs.CostsOf.{AreEach, Names, task_of, no_alarm, IsAlarm}
use Rattle.run_costs.specs.CostsOf as costs_of
use Rattle.response_laws.specs.Ticks.{activates, sets_events}
use Rattle.response_laws.specs.Expiries.{sets_alarm, MarksAlarms, expiries, expiring}
use Rattle.run_responses.proofs.Coming.{calls_it}

-- ---- one alarm

-- the alarm of a record acts where the action does
and_true : (b : Bool) → (b && true) ≡ b
and_true true = refl
and_true false = refl

and_false : (b : Bool) → (b && false) ≡ false
and_false true = refl
and_false false = refl

abbrev pub test_of : (sets : Bool) → (j : ℕ) → Action → Bool
test_of true j a = sets_events j a
test_of false j a = activates j a

acts_same : (sets : Bool) (c j counter : ℕ) (a : Action)
    → ((counter == c) && ((task_of a == j) && cond sets (costs_of.sets_events a) (not (costs_of.sets_events a)))) ≡ ((counter == c) && test_of sets j a)
acts_same true c j counter (action.Activate t) = ap (λ b. (counter == c) && b) (and_false (t == j))
acts_same false c j counter (action.Activate t) = ap (λ b. (counter == c) && b) (and_true (t == j))
acts_same true c j counter (action.Set t mask) = ap (λ b. (counter == c) && b) (and_true (t == j))
acts_same false c j counter (action.Set t mask) = ap (λ b. (counter == c) && b) (and_false (t == j))

abbrev count_by : (boot : Bool) → (c j ticks : ℕ) → (sets : Bool) → AlarmCosts → ℕ
count_by boot c j ticks sets a = cond (acts_on sets c j a) (Arrivals.expiries boot a ticks) 0

-- an alarm of a record expires as often
abbrev alarm_counts : (boot set : Bool) → (time cycle ticks : ℕ) → ℕ
alarm_counts boot set time cycle ticks =
    cond set ticks
    (cond (time == 0) 0 (cond boot (cond (nat_lt ticks time) 0 (cond (cycle == 0) 1 (1 + (ticks - time) / cycle))) (cond (cycle == 0) (min ticks 1) ((ticks + cycle - 1) / cycle))))

one_alarm : (config : Config) (app : App) (boot sets : Bool) (c j ticks : ℕ) (d : AlarmDecl) (told : AlarmCosts)
    → told.counter ≡ d.counter → told.task ≡ task_of d.action → told.sets_events ≡ costs_of.sets_events d.action → told.time ≡ d.time → told.cycle ≡ d.cycle
    → cond ((d.counter == c) && test_of sets j d.action) (expiries boot told.is_set d ticks) 0
    ≡ count_by boot c j ticks sets told
one_alarm config app boot sets c j ticks d told counter task_is sets_is time cycle =
    sym (ap (λ b. cond b (expiries boot told.is_set d ticks) 0) (acts_same sets c j d.counter d.action))
    ∙ ap (λ n. cond ((n == c) && ((task_of d.action == j) && cond sets (costs_of.sets_events d.action) (not (costs_of.sets_events d.action)))) (expiries boot told.is_set d ticks) 0) (sym counter)
    ∙ ap (λ n. cond ((told.counter == c) && ((n == j) && cond sets (costs_of.sets_events d.action) (not (costs_of.sets_events d.action)))) (expiries boot told.is_set d ticks) 0) (sym task_is)
    ∙ ap (λ b. cond ((told.counter == c) && ((told.task == j) && cond sets b (not b))) (expiries boot told.is_set d ticks) 0) (sym sets_is)
    ∙ ap (λ n. cond (acts_on sets c j told) n 0) times
  where
    times : alarm_counts boot told.is_set d.time d.cycle ticks ≡ alarm_counts boot told.is_set told.time told.cycle ticks
    times = ap (λ n. alarm_counts boot told.is_set n d.cycle ticks) (sym time) ∙ ap (λ n. alarm_counts boot told.is_set told.time n ticks) (sym cycle)

-- ---- a list of them

-- an alarm of a record is that of a declaration
pub record IsDeclaredAs (d : AlarmDecl) (set : Bool) (a : AlarmCosts) : Type 0 where
  pub counter : a.counter ≡ d.counter
  pub task : a.task ≡ task_of d.action
  pub sets_events : a.sets_events ≡ costs_of.sets_events d.action
  pub time : a.time ≡ d.time
  pub cycle : a.cycle ≡ d.cycle
  pub marked : a.is_set ≡ set

module _ (config : Config) (app : App) (boot sets : Bool) (c j ticks : ℕ) (is_set : ℕ → Bool) (d : AlarmDecl) where
  all_alarms : (first : ℕ) (ds : List AlarmDecl) (bs : List AlarmCosts) → length bs ≡ length ds
      → ((i : ℕ) → i < length ds → IsDeclaredAs (get_or ds i d) (is_set (first + i)) (get_or bs i no_alarm))
      → expiring boot is_set c (test_of sets j) ticks first ds ≡ Arrivals.expiring boot sets c j ticks bs
  all_alarms first [] [] count each = refl
  all_alarms first [] (a ∷ bs) count each = absurd (omega (arith, count))
  all_alarms first (e ∷ ds) [] count each = absurd (omega (arith, count))
  all_alarms first (e ∷ ds) (a ∷ bs) count each =
      let here = each 0 (omega arith) in
      let z : first + 0 ≡ first = omega arith in
      let set : a.is_set ≡ is_set first = here.marked ∙ ap is_set z in
      let one = one_alarm config app boot sets c j ticks e a here.counter here.task here.sets_events here.time here.cycle in
      let as_set : cond ((e.counter == c) && test_of sets j e.action) (expiries boot (is_set first) e ticks) 0 ≡ count_by boot c j ticks sets a =
      ap (λ b. cond ((e.counter == c) && test_of sets j e.action) (expiries boot b e ticks) 0) (sym set) ∙ one in
      let rest = all_alarms (first + 1) ds bs (omega (arith, count))
      (λ i lt. let e : first + suc i ≡ first + 1 + i = omega arith in
      subst (λ m. IsDeclaredAs (get_or ds i d) (is_set m) (get_or bs i no_alarm)) e (each (suc i) (omega (arith, lt)))) in
      ap (λ v. cond ((e.counter == c) && test_of sets j e.action) (expiries boot (is_set first) e ticks) 0 + v) rest
      ∙ ap (λ v. v + Arrivals.expiring boot sets c j ticks bs) as_set

-- ---- those of a configuration

module _ (config : Config) (app : App) (alarms : List AlarmCosts) (are : AreEach (length config.alarms) no_alarm (IsAlarm config app) alarms) where
  -- the alarms that items set; those behind the last one count as set
  abbrev pub is_set : ℕ → Bool
  is_set a = cond (ltb a (length config.alarms)) (get_or alarms a no_alarm).is_set true

  set_inside : (a : ℕ) → a < length config.alarms → is_set a ≡ (get_or alarms a no_alarm).is_set
  set_inside a lt = ap (λ b. cond b (get_or alarms a no_alarm).is_set true) (lt-ltb a (length config.alarms) lt)

  pub marks : MarksAlarms app is_set
  marks a none f i = by (sets_alarm a (operation app f i)) refl
    where
      inside : a < length config.alarms → sets_alarm a (operation app f i) ≡ true → ⊥
      inside lt sets =
          let told = are.each a lt in
          let off : (get_or alarms a no_alarm).is_set ≡ false = sym (set_inside a lt) ∙ none in
          not_from_Decides (get_or alarms a no_alarm).is_set told.is_set off (names (calls_it a (operation app f i) sets))
        where
          names : (calls_for a service.SetRelAlarm (operation app f i) ≡ true) ⊎ (calls_for a service.SetAbsAlarm (operation app f i) ≡ true)
              → Names app service.SetRelAlarm a ⊎ Names app service.SetAbsAlarm a
          names (inl e) = inl (f, i, e)
          names (inr e) = inr (f, i, e)

      past : length config.alarms ≤ a → ⊥
      past le = true≢false (sym (ap (λ b. cond b (get_or alarms a no_alarm).is_set true) (le-ltb a (length config.alarms) le)) ∙ none)

      by : (b : Bool) → sets_alarm a (operation app f i) ≡ b → sets_alarm a (operation app f i) ≡ false
      by false e = e
      by true e = absurd (which (cases_lt a (length config.alarms)))
        where
          which : (a < length config.alarms) ⊎ (length config.alarms ≤ a) → ⊥
          which (inl lt) = inside lt e
          which (inr le) = past le

  pub expire : (boot sets : Bool) (c j ticks : ℕ)
      → expiring boot is_set c (test_of sets j) ticks 0 config.alarms ≡ Arrivals.expiring boot sets c j ticks alarms
  expire boot sets c j ticks =
      all_alarms config app boot sets c j ticks is_set undeclared_alarm 0 config.alarms alarms are.count
      (λ i lt.
      let told = are.each i lt in
      let e : i ≡ 0 + i = omega arith in
      subst (λ m. IsDeclaredAs (alarm_declaration config i) (is_set m) (get_or alarms i no_alarm)) e
      (record {
        counter = told.counter;
        task = told.task;
        sets_events = told.sets_events;
        time = told.time;
        cycle = told.cycle;
        marked = sym (set_inside i lt);
      }))
