-- What the alarms of a tick ask for, told from the state before the tick, is what each asks for in the state that those before it leave.
use Rattle.std.proofs.Common.{◌≡◌, ◌∙◌, ◌<◌, ◌≤◌, ◌+◌, ◌-◌, ℕ, suc, ◌⊎◌, inl, inr, List, [], ◌∷◌, ◌++◌, Bool, true, false, cond, length, get_or, refl, sym, ap, arith, append_assoc, append-nil, bit_and, bit_or}
use Rattle.std.specs.Prelude.{◌==◌, ◌||◌}
use Rattle.std.proofs.Math.Bool.{or-false, or-true}
use Rattle.std.proofs.lemmas.Bool.{cases_eq, cond_both, eq-eqb, ne_eqb}
use Rattle.std.proofs.lemmas.List.{get_or-set_other, get_or-set_same, length-set}
use Rattle.std.proofs.lemmas.List.Folds.{list_any-append}
use Rattle.sloth_base.specs.Named.{alarm_declaration, counter_declaration, undeclared_alarm}
use Rattle.sloth_base.specs.declared.config.Action.{Action}
use Rattle.sloth_base.specs.declared.config.Action.TheVariants as action
use Rattle.sloth_base.specs.declared.config.AlarmDecl.{AlarmDecl}
use Rattle.sloth_base.specs.declared.config.Config.{Config}
use Rattle.osek_machine.specs.Clocked.{NamesTask}
use Rattle.osek_scheduler.proofs.Apart.{at_task}
use Rattle.osek_scheduler.proofs.Outcomes.{KeptByOthers, by_suspended, sets_keep}
use Rattle.osek_scheduler.proofs.Ticking.{acted_keeps}
use Rattle.osek_scheduler.specs.Services.{activated_state, acted_state, alarm_ticked_state, counted_on_state, if_suspended, set_events, with_events, with_left, woken_state}
use Rattle.osek_scheduler.specs.State.{Clock, System, Task, alarm, no_alarm, sleeping_task, task}
use Rattle.osek_scheduler.specs.declared.state.Alarm.{Alarm}
use Rattle.osek_scheduler.specs.declared.state.TaskState.{TaskState}
use Rattle.osek_scheduler.specs.declared.state.TaskState.TheVariants as mode
use Rattle.losses_text.specs.Expiries.{expiries, expiry, is_asked}
use Rattle.losses_text.specs.RequestCounts.{is_of}
use Rattle.losses_text.specs.Requests.{alarm_requests, alarms_requests, is_busy, request, tick_requests}
use Rattle.losses_text.specs.declared.requests.Request.{Request}

-- ---- one action

awake_busy : (m : TaskState) → (m ≡ mode.Suspended → ⊥) → if_suspended m false true ≡ true
awake_busy mode.Suspended n = absurd (n refl)
awake_busy mode.Ready n = refl
awake_busy mode.Active n = refl
awake_busy (mode.Waiting mask) n = refl

module _ (y : System) where
  -- the task of an activation is not Suspended behind it, and each other task stays as it is
  acts_own : (t : ℕ) → t < length y.tasks → is_busy (acted_state (action.Activate t) y) t ≡ true
  acts_own t lt =
      by_suspended (task y t).state (activated_state y t) y (λ (x : System). is_busy x t ≡ true)
      (λ _. ap (λ (k : Task). if_suspended k.state false true) (get_or-set_same y.tasks t (record (task y t) { state = mode.Ready }) sleeping_task lt))
      (λ awake. awake_busy (task y t).state awake)

  acts_other : (t u : ℕ) → (u ≡ t → ⊥) → is_busy (acted_state (action.Activate t) y) u ≡ is_busy y u
  acts_other t u n =
      by_suspended (task y t).state (activated_state y t) y (λ (x : System). is_busy x u ≡ is_busy y u)
      (λ _.
      at_task y t u (record (task y t) { state = mode.Ready }) (λ (k : Task). if_suspended k.state false true ≡ is_busy y u) refl
      (λ e. absurd (n e)))
      (λ _. refl)

  -- a setting of events activates none
  sets_other : (t mask u : ℕ) → is_busy (acted_state (action.Set t mask) y) u ≡ is_busy y u
  sets_other t mask u =
      by_suspended (task y t).state y (set_events t mask y) (λ (x : System). is_busy x u ≡ is_busy y u) (λ _. refl) (λ awake. woken awake (task y t).state)
    where
      set : is_busy (with_events y t (bit_or (task y t).events mask)) u ≡ is_busy y u
      set =
          at_task y t u (record (task y t) { events = bit_or (task y t).events mask }) (λ (k : Task). if_suspended k.state false true ≡ is_busy y u) refl
          (λ e. ap (λ v. is_busy y v) (sym e))

      woken : ((task y t).state ≡ mode.Suspended → ⊥) → (m : TaskState)
          → is_busy (woken_state m (bit_or (task y t).events mask) t (with_events y t (bit_or (task y t).events mask))) u ≡ is_busy y u
      woken awake mode.Suspended = set
      woken awake mode.Ready = set
      woken awake mode.Active = set
      woken awake (mode.Waiting awaited) =
          cond_both (bit_and (bit_or (task y t).events mask) awaited == 0) (with_events y t (bit_or (task y t).events mask))
          (activated_state (with_events y t (bit_or (task y t).events mask)) t) (λ (x : System). is_busy x u ≡ is_busy y u) (λ _. set)
          (λ _.
          at_task (with_events y t (bit_or (task y t).events mask)) t u
          (record (task (with_events y t (bit_or (task y t).events mask)) t) { state = mode.Ready })
          (λ (k : Task). if_suspended k.state false true ≡ is_busy y u) set
          (λ e. sym (ap (λ v. is_busy y v) e ∙ awake_busy (task y t).state awake)))

set_clock : (s : System) (t mask : ℕ) → (set_events t mask s).clock ≡ s.clock
set_clock s t mask = by (task s t).state
  where
    by : (m : TaskState) → (woken_state m (bit_or (task s t).events mask) t (with_events s t (bit_or (task s t).events mask))).clock ≡ s.clock
    by mode.Suspended = refl
    by mode.Ready = refl
    by mode.Active = refl
    by (mode.Waiting awaited) =
        cond_both (bit_and (bit_or (task s t).events mask) awaited == 0) (with_events s t (bit_or (task s t).events mask))
        (activated_state (with_events s t (bit_or (task s t).events mask)) t) (λ (x : System). x.clock ≡ s.clock) (λ _. refl) (λ _. refl)

acts_clock : (does : Action) (y : System) → (acted_state does y).clock ≡ y.clock
acts_clock does y =
    acted_keeps (λ (x : System). x.clock ≡ y.clock) (λ s t h. h) (λ s t mask h. set_clock s t mask ∙ h) y does refl

count_kept : (n : ℕ) → KeptByOthers (λ (x : System). length x.tasks ≡ n)
count_kept n = record {
  activates = λ s t k. length-set s.tasks t _ ∙ k;
  sets = λ s t events k. length-set s.tasks t _ ∙ k;
  stores = λ s symbols k. k;
  sets_alarms = λ s a new k. k;
}

acts_count : (n : ℕ) (does : Action) (y : System) → length y.tasks ≡ n → length (acted_state does y).tasks ≡ n
acts_count n does y h =
    let P : System → Type 0 = λ x. length x.tasks ≡ n in
    acted_keeps P (count_kept n).activates (sets_keep P (count_kept n)) y does h

-- ---- one alarm

-- behind some alarms of a tick that asked for these: those of the tasks that they ask for are not Suspended, and the alarms from one on are as they were
pub record IsReached (n : ℕ) (s : System) (first : ℕ) (x : System) (before : List Request) : Type 0 where
  pub count : length x.tasks ≡ n
  pub busy : (t : ℕ) → is_busy x t ≡ (is_busy s t || is_asked before t)
  pub left : (a : ℕ) → first ≤ a → (alarm x a).left ≡ (alarm s a).left

-- an alarm that asks for nothing
asks_none : (n : ℕ) (s : System) (first : ℕ) (x z : System) (before : List Request) → IsReached n s first x before → length z.tasks ≡ n
    → ((t : ℕ) → is_busy z t ≡ is_busy x t) → ((a : ℕ) → first + 1 ≤ a → (alarm z a).left ≡ (alarm x a).left) → IsReached n s (first + 1) z (before ++ [])
asks_none n s first x z before h count busy left = record {
  count = count;
  busy = λ t. busy t ∙ h.busy t ∙ ap (λ (l : List Request). is_busy s t || is_asked l t) (sym (append-nil before));
  left = λ a le. left a le ∙ h.left a (omega (arith, le));
}

module _ (n : ℕ) (s : System) (at first : ℕ) (x : System) (before : List Request) (h : IsReached n s first x before) where
  -- what an alarm asks for that expires, or does not
  abbrev asked : Action → Bool → List Request
  asked (action.Activate t) b = cond b (request t at (is_busy s t || is_asked before t) ∷ []) []
  asked (action.Set t mask) b = []

  told : (does : Action) → expiry does first at before s ≡ asked does ((alarm x first).left == 1)
  told (action.Activate t) =
      ap (λ l. cond (l == 1) (request t at (is_busy s t || is_asked before t) ∷ []) []) (sym (h.left first (omega arith)))
  told (action.Set t mask) = refl

  found : (does : Action) → alarm_requests does first at x ≡ asked does ((alarm x first).left == 1)
  found (action.Activate t) = ap (λ b. cond ((alarm x first).left == 1) (request t at b ∷ []) []) (h.busy t)
  found (action.Set t mask) = refl

  -- the alarms behind it
  others : (left a : ℕ) → first + 1 ≤ a → (alarm (with_left first left x) a).left ≡ (alarm x a).left
  others left a le =
      ap (λ (k : Alarm). k.left) (get_or-set_other x.clock.alarms first a (record (alarm x first) { left = left }) no_alarm (λ e. omega (arith, e, le)))

  acted_others : (does : Action) (left a : ℕ) → first + 1 ≤ a → (alarm (acted_state does (with_left first left x)) a).left ≡ (alarm x a).left
  acted_others does left a le =
      ap (λ (k : Clock). (get_or k.alarms a no_alarm).left) (acts_clock does (with_left first left x)) ∙ others left a le

  -- one that expires
  expired : (does : Action) (left : ℕ) → NamesTask n does → IsReached n s (first + 1) (acted_state does (with_left first left x)) (before ++ asked does true)
  expired (action.Set t mask) left names =
      asks_none n s first x (acted_state (action.Set t mask) (with_left first left x)) before h
      (acts_count n (action.Set t mask) (with_left first left x) h.count) (λ u. sets_other (with_left first left x) t mask u)
      (acted_others (action.Set t mask) left)
  expired (action.Activate t) left names = record {
    count = acts_count n (action.Activate t) (with_left first left x) h.count;
    busy = λ u. by u (cases_eq u t);
    left = λ a le. acted_others (action.Activate t) left a le ∙ h.left a (omega (arith, le));
  }
    where
      inside : t < length x.tasks
      inside = let count = h.count in omega (arith, names, count)

      by : (u : ℕ) → (u ≡ t) ⊎ (u ≡ t → ⊥)
          → is_busy (acted_state (action.Activate t) (with_left first left x)) u ≡ (is_busy s u || is_asked (before ++ asked (action.Activate t) true) u)
      by u (inl e) =
          let one = asked (action.Activate t) true in
          let own : is_asked one u ≡ true = ap (λ b. b || false) (eq-eqb t u (sym e)) in
          let both : is_asked (before ++ one) u ≡ true =
          list_any-append (is_of u) before one ∙ ap (λ b. is_asked before u || b) own ∙ or-true (is_asked before u) in
          ap (λ v. is_busy (acted_state (action.Activate t) (with_left first left x)) v) e ∙ acts_own (with_left first left x) t inside
          ∙ sym (ap (λ b. is_busy s u || b) both ∙ or-true (is_busy s u))
      by u (inr n) =
          let one = asked (action.Activate t) true in
          let own : is_asked one u ≡ false = ap (λ b. b || false) (ne_eqb t u (λ e. n (sym e))) in
          let both : is_asked (before ++ one) u ≡ is_asked before u =
          list_any-append (is_of u) before one ∙ ap (λ b. is_asked before u || b) own ∙ or-false (is_asked before u) in
          acts_other (with_left first left x) t u n ∙ h.busy u ∙ sym (ap (λ b. is_busy s u || b) both)

  passed : (does : Action) (left : ℕ) → IsReached n s (first + 1) (with_left first left x) (before ++ asked does false)
  passed (action.Activate t) left = asks_none n s first x (with_left first left x) before h h.count (λ u. refl) (others left)
  passed (action.Set t mask) left = asks_none n s first x (with_left first left x) before h h.count (λ u. refl) (others left)

  ticked : (does : Action) → NamesTask n does → IsReached n s (first + 1) (alarm_ticked_state does first x) (before ++ asked does ((alarm x first).left == 1))
  ticked does names = by ((alarm x first).left == 1)
    where
      by : (b : Bool) → IsReached n s (first + 1) (cond b (acted_state does (with_left first (alarm x first).cycle x)) (with_left first ((alarm x first).left - 1) x)) (before ++ asked does b)
      by true = expired does (alarm x first).cycle names
      by false = passed does ((alarm x first).left - 1)

  -- the alarms behind it, where what they ask for is told so from each state that may be reached
  goes_on : (c : ℕ) (d : AlarmDecl) (ds : List AlarmDecl) → NamesTask n d.action
      → ((z : System) (done : List Request) → IsReached n s (first + 1) z done → done ++ alarms_requests c (first + 1) at ds z ≡ expiries c (first + 1) at ds s done)
      → (b : Bool)
      → before ++ (cond b (alarm_requests d.action first at x) [] ++ alarms_requests c (first + 1) at ds (cond b (alarm_ticked_state d.action first x) x))
      ≡ expiries c (first + 1) at ds s (cond b (before ++ expiry d.action first at before s) before)
  goes_on c d ds names rest true =
      let z = alarm_ticked_state d.action first x in
      let is = asked d.action ((alarm x first).left == 1) in
      let behind = alarms_requests c (first + 1) at ds z in
      ap (λ (l : List Request). before ++ (l ++ behind)) (found d.action) ∙ sym (append_assoc before is behind) ∙ rest z (before ++ is) (ticked d.action names)
      ∙ ap (λ (l : List Request). expiries c (first + 1) at ds s (before ++ l)) (sym (told d.action))
  goes_on c d ds names rest false = rest x before (record { count = h.count; busy = h.busy; left = λ a le. h.left a (omega (arith, le)) })

-- ---- all

all_told : (n : ℕ) (s : System) (c at first : ℕ) (ds : List AlarmDecl) (x : System) (before : List Request) → IsReached n s first x before
    → ((i : ℕ) → i < length ds → NamesTask n (get_or ds i undeclared_alarm).action) → before ++ alarms_requests c first at ds x ≡ expiries c first at ds s before
all_told n s c at first [] x before h names = append-nil before
all_told n s c at first (d ∷ ds) x before h names =
    goes_on n s at first x before h c d ds (names 0 (omega arith))
    (λ z done r. all_told n s c at (first + 1) ds z done r (λ i lt. names (suc i) (omega (arith, lt)))) (d.counter == c)

pub tick_told : (config : Config) (c at : ℕ) (s : System) → length s.tasks ≡ length config.tasks
    → ((a : ℕ) → a < length config.alarms → NamesTask (length config.tasks) (alarm_declaration config a).action)
    → expiries c 0 at config.alarms s [] ≡ tick_requests config c at s
tick_told config c at s count names =
    sym (all_told (length config.tasks) s c at 0 config.alarms (counted_on_state c (counter_declaration config c).max s) []
    (record { count = count; busy = λ t. sym (or-false (is_busy s t)); left = λ a le. refl }) names)
