-- The next state is the one that the plan of an event leads to.
use Rattle.std.proofs.Common.{◌≡◌, ◌∙◌, ℕ, zero, suc, ◌<◌, ◌≤◌, ◌⊎◌, inl, inr, List, [], ◌∷◌, Bool, true, false, cond, ltb, length, get_or, set, Option, Some, None, bit_and, bit_or, refl, sym, ap, subst, arith}
use Rattle.std.specs.Prelude.{◌&&◌, ◌==◌, not, is_some, slice_get}
use Rattle.std.specs.List.{list_all}
use Rattle.std.proofs.lemmas.Bool.{lt-ltb, le-ltb, ltb-true, cases_lt, and_parts, ne_eqb, false≢true}
use Rattle.std.proofs.lemmas.List.{set-set, get_or-set_same, length-set}
use Rattle.std.proofs.lemmas.Option.{slice_get-get_or, slice_get_past}
use Rattle.sloth_base.specs.Options.{is_number}
use Rattle.sloth_base.specs.ServiceCodes.{code_of}
use Rattle.sloth_base.specs.declared.config.Config.{Config}
use Rattle.sloth_base.specs.declared.app.App.{App}
use Rattle.sloth_base.specs.declared.app.Func.{Func}
use Rattle.sloth_base.specs.declared.app.Item.{Item}
use Rattle.sloth_base.specs.declared.app.Width.{Width}
use Rattle.sloth_base.specs.declared.app.Op.{Op}
use Rattle.sloth_base.specs.declared.app.Op.TheVariants as op
use Rattle.sloth_base.specs.declared.service.Event.TheVariants as event
use Rattle.sloth_base.specs.declared.service.Service.{Service}
use Rattle.sloth_base.specs.declared.service.Service.TheVariants as service
use Rattle.sloth_base.specs.Named.{function, no_function, no_item, declaration, body_of}
use Rattle.osek_scheduler.specs.declared.state.TaskState.{TaskState}
use Rattle.osek_scheduler.specs.declared.state.TaskState.TheVariants as mode
use Rattle.osek_scheduler.specs.State.{Frame, Task, System, sleeping_task, task, with_task}
use Rattle.osek_scheduler.specs.Priority.{is_active}
use Rattle.osek_scheduler.specs.Meaning.{ItemMeaning, execution, accessed_bytes, loaded_word, bytes_after_store, register, going_on_frame, write_meaning, is_own, registers_of, on_some, if_true}
use Rattle.osek_scheduler.specs.Services.{if_suspended, is_there, woken_state, with_events, set_events, ServiceOutcome, started_task}
use Rattle.osek_scheduler.specs.Outcomes.{shown_outcome, Decision, Does, IfSuspended, If, plan_in, outcome_of, decision, outcome, plan}
use Rattle.osek_scheduler.proofs.AllPlans.{OnPlans}
use Rattle.osek_scheduler.specs.Outcomes as one_by_one
use Rattle.osek_scheduler.proofs.Outcomes.{on_tested}
use Rattle.osek_scheduler.specs.declared.change.TaskChange.{TaskChange}
use Rattle.osek_scheduler.specs.declared.change.Other.{Other}
use Rattle.osek_scheduler.specs.Steps.{settled_state}
use Rattle.osek_scheduler.specs.Next.{is_ready, is_top, is_position, operation_of, operation_at, meaning_of, served_outcome, going_on_system, left_state, executed_state, answer_to, next_state}
use Rattle.osek_scheduler.specs.declared.change.TaskChange.TheVariants as change
use Rattle.osek_scheduler.specs.declared.change.Other.TheVariants as other
use Rattle.osek_scheduler.specs.declared.change.Plan.{Plan}
use Rattle.osek_scheduler.specs.Changes.{changed_task, woken_task_state, with_change}
use Rattle.osek_machine.specs.Plans.{with_other, planned_system, write_plan, service_plan, item_plan, item_behind, is_inside}
use Rattle.osek_machine.specs.Running.{next_operation, own_operation, run_plan, call_in, call_plan, serving_plan, running_plan, entry_change, entry_plan, back_plan}
use Rattle.osek_machine.specs.PlanSteps.{answer_plan, leave_plan, followed_state}

-- ---- options

chained : {A B C : Type 0} (o : Option A) (f : A → Option B) (g : B → Option C) → on_some (on_some o f) g ≡ on_some o (λ a. on_some (f a) g)
chained None f g = refl
chained (Some a) f g = refl

tested : {A B : Type 0} (b : Bool) (o : Option A) (f : A → Option B) → on_some (if_true b o) f ≡ if_true b (on_some o f)
tested true o f = refl
tested false o f = refl

under : {A B : Type 0} (o : Option A) (f g : A → Option B) → ((a : A) → f a ≡ g a) → on_some o f ≡ on_some o g
under None f g h = refl
under (Some a) f g h = h a

where_true : {A : Type 0} (b : Bool) (o p : Option A) → (b ≡ true → o ≡ p) → if_true b o ≡ if_true b p
where_true true o p h = h refl
where_true false o p h = refl

nothing : {A : Type 0} (b : Bool) → if_true {A = A} b None ≡ None
nothing true = refl
nothing false = refl

filtered : {B : Type 0} (o : Option Plan) (test : Plan → Bool) (f : Plan → Option B)
    → on_some (on_some o (λ p. if_true (test p) (Some p))) f ≡ on_some o (λ p. if_true (test p) (f p))
filtered None test f = refl
filtered (Some p) test f = tested (test p) (Some p) f

-- ---- items of lists

-- what is done with an item, by a test of its number
at_number : {A B : Type 0} (xs : List A) (i : ℕ) (d : A) (f : A → Option B) → on_some (slice_get xs i) f ≡ if_true (ltb i (length xs)) (f (get_or xs i d))
at_number {B = B} xs i d f = by (cases_lt i (length xs))
  where
    by : (i < length xs) ⊎ (length xs ≤ i) → on_some (slice_get xs i) f ≡ if_true (ltb i (length xs)) (f (get_or xs i d))
    by (inl lt) = ap (λ o. on_some o f) (slice_get-get_or xs i d lt) ∙ sym (ap (λ b. if_true b (f (get_or xs i d))) (lt-ltb i (length xs) lt))
    by (inr ge) = ap (λ o. on_some o f) (slice_get_past xs i ge) ∙ sym (ap (λ b. if_true b (f (get_or xs i d))) (le-ltb i (length xs) ge))

-- the same where nothing is done with the item that stands for one that is not there
or_missing : {A B : Type 0} (xs : List A) (i : ℕ) (d : A) (f : A → Option B) → f d ≡ None → on_some (slice_get xs i) f ≡ f (get_or xs i d)
or_missing [] i d f none = sym none
or_missing (x ∷ xs) zero d f none = refl
or_missing (x ∷ xs) (suc i) d f none = or_missing xs i d f none

-- ---- operations

next-operation : (app : App) (frames : List Frame) → next_operation app frames ≡ operation_of app frames
next-operation app [] = refl
next-operation app (frame ∷ outer) =
    or_missing app.funcs frame.func no_function (λ (f : Func). on_some (slice_get f.items frame.item) (λ (item : Item). Some item.op)) refl
    ∙ at_number (function app frame.func).items frame.item no_item (λ (item : Item). Some item.op)

pub own-operation : (app : App) (k : Task) → own_operation app k ≡ operation_at app k
own-operation app k = ap (if_true (is_active k.state && not k.owed)) (next-operation app k.frames)

-- what the operation of a task does, by the plan of it
by_operation : {B : Type 0} (app : App) (k : Task) (b : Bool) (go : Op → Option B) (planned : Op → Option Plan) (out : Plan → Option B)
    → ((o : Op) → go o ≡ on_some (planned o) out)
    → if_true b (on_some (operation_at app k) go) ≡ on_some (if_true b (on_some (own_operation app k) planned)) out
by_operation app k b go planned out same =
    ap (if_true b)
    (under (operation_at app k) go (λ o. on_some (planned o) out) same
    ∙ (ap (λ x. on_some x (λ (o : Op). on_some (planned o) out)) (sym (own-operation app k)) ∙ sym (chained (own_operation app k) planned out)))
    ∙ sym (tested b (on_some (own_operation app k) planned) out)

-- ---- items

abbrev does : ℕ → System → Task → ℕ → ItemMeaning → Option System
does t s k result m =
    if_true (m.result == result) (Some (settled_state (record (with_task s t (record k { registers = m.registers; frames = m.frames })) { symbols = m.symbols })))

abbrev plans : ℕ → System → Task → ℕ → Plan → Option System
plans t s k result p = if_true (is_number result p.answer) (Some (settled_state (with_other p.other (with_task s t (changed_task p.change k)))))

module _ (app : App) (t : ℕ) (s : System) (k0 : Task) (result : ℕ) (frame : Frame) where
  -- the task with this innermost frame
  abbrev own : List Frame → Task
  own outer = record k0 { frames = frame ∷ outer }

  abbrev Same : List Frame → Op → Type 0
  Same outer o =
      on_some (execution app o k0.registers frame outer s.symbols) (does t s (own outer) result)
      ≡ on_some (item_plan app o (function app frame.func) frame (length (frame ∷ outer)) k0.registers s.symbols) (plans t s (own outer) result)

  -- an operation that needs an item of a list
  from_list : (outer : List Frame) {A : Type 0} (xs : List A) (i : ℕ) (d : A) (m : Option ItemMeaning) (planned : A → Plan)
      → on_some m (does t s (own outer) result) ≡ plans t s (own outer) result (planned (get_or xs i d))
      → on_some (if_true (ltb i (length xs)) m) (does t s (own outer) result)
      ≡ on_some (on_some (slice_get xs i) (λ x. Some (planned x))) (plans t s (own outer) result)
  from_list outer xs i d m planned same =
      tested (ltb i (length xs)) m (does t s (own outer) result)
      ∙ (ap (if_true (ltb i (length xs))) same
      ∙ (sym (at_number xs i d (λ x. plans t s (own outer) result (planned x)))
      ∙ sym (chained (slice_get xs i) (λ x. Some (planned x)) (plans t s (own outer) result))))

  -- an operation that needs what there may be
  from_option : (outer : List Frame) {A : Type 0} (o : Option A) (means : A → Option ItemMeaning) (planned : A → Option Plan)
      → ((a : A) → on_some (means a) (does t s (own outer) result) ≡ on_some (planned a) (plans t s (own outer) result))
      → on_some (on_some o means) (does t s (own outer) result) ≡ on_some (on_some o planned) (plans t s (own outer) result)
  from_option outer None means planned same = refl
  from_option outer (Some a) means planned same = same a

  data-loaded : (outer : List Frame) (w : Width) (rd offset : ℕ) (o : Option (List ℕ))
      → on_some (on_some o (λ bytes. write_meaning rd (loaded_word w bytes offset) k0.registers frame outer s.symbols)) (does t s (own outer) result)
      ≡ on_some (on_some (on_some o (λ bytes. Some (loaded_word w bytes offset))) (λ value. Some (write_plan rd value))) (plans t s (own outer) result)
  data-loaded outer w rd offset None = refl
  data-loaded outer w rd offset (Some bytes) = refl

  data-stored : (outer : List Frame) (w : Width) (rs y offset : ℕ) (b : Bool)
      → on_some (on_some (cond b (Some (get_or s.symbols y [])) None) (λ bytes. Some (record {
        registers = k0.registers;
        frames = going_on_frame frame ∷ outer;
        symbols = set s.symbols y (bytes_after_store w bytes offset (register k0.registers rs));
        result = register k0.registers rs;
      }))) (does t s (own outer) result)
      ≡ on_some (if_true b (Some (plan (Some (register k0.registers rs)) change.MoveOn (other.Store y w offset (register k0.registers rs)))))
      (plans t s (own outer) result)
  data-stored outer w rs y offset true = refl
  data-stored outer w rs y offset false = refl

  returned-so : (outer : List Frame) → Same outer op.Return
  returned-so [] = refl
  returned-so (caller ∷ outer) =
      let p = plan (Some 0) change.Return other.Nothing in
      sym (ap (λ b. on_some (if_true b (Some p)) (plans t s (own (caller ∷ outer)) result)) (lt-ltb 1 (length (frame ∷ caller ∷ outer)) (omega arith)))

  item-same : (outer : List Frame) (o : Op) → Same outer o
  item-same outer (op.Alu kind rd a b) = refl
  item-same outer (op.AluImm kind rd a n) = refl
  item-same outer (op.Lui rd n) = refl
  item-same outer (op.Li rd v) = refl
  item-same outer (op.FrameLoad rd word) = from_list outer frame.words word 0 _ (write_plan rd) refl
  item-same outer (op.FrameStore rs word) =
      let v = register k0.registers rs in from_list outer frame.words word 0 _ (λ _. plan (Some v) (change.StoreWord word v) other.Nothing) refl
  item-same outer (op.Load w rd y offset) = data-loaded outer w rd offset (accessed_bytes s.symbols y w offset)
  item-same outer (op.Store w rs y offset) = data-stored outer w rs y offset (is_inside s.symbols y w offset)
  item-same outer (op.LoadAt w rd y index mask) =
      let offset = bit_and (register k0.registers index) mask in data-loaded outer w rd offset (accessed_bytes s.symbols y w offset)
  item-same outer (op.StoreAt w rs y index mask) =
      let offset = bit_and (register k0.registers index) mask in data-stored outer w rs y offset (is_inside s.symbols y w offset)
  item-same outer (op.Branch kind a b label) = from_option outer (item_behind (function app frame.func) label) _ _ (λ _. refl)
  item-same outer (op.Jump label) = from_option outer (item_behind (function app frame.func) label) _ _ (λ _. refl)
  item-same outer (op.Invoke g) =
      from_list outer app.funcs g no_function _ (λ called. plan (Some 0) (change.Invoke g called.frame_words) other.Nothing) refl
  item-same outer op.Return = returned-so outer
  item-same outer (op.Serve call) = refl

-- the innermost function is there
abbrev pub InFunction : App → List Frame → Type 0
InFunction app [] = Unit {0}
InFunction app (frame ∷ outer) = frame.func < length app.funcs

module _ (app : App) (t : ℕ) (s : System) (k0 : Task) (result : ℕ) (o : Op) where
  run-same : (frames : List Frame) → InFunction app frames
      → on_some (meaning_of app o (record k0 { frames = frames }) frames s) (does t s (record k0 { frames = frames }) result)
      ≡ on_some (run_plan app o (record k0 { frames = frames }) s.symbols) (plans t s (record k0 { frames = frames }) result)
  run-same [] h =
      let b = list_all is_own (registers_of o) in
      sym (tested b None (plans t s (record k0 { frames = [] }) result) ∙ nothing b)
  run-same (frame ∷ outer) h =
      let b = list_all is_own (registers_of o) in
      let k = record k0 { frames = frame ∷ outer } in
      let planned = λ (f : Func). item_plan app o f frame (length (frame ∷ outer)) k0.registers s.symbols in
      tested b (execution app o k0.registers frame outer s.symbols) (does t s k result)
      ∙ (ap (if_true b) (item-same app t s k0 result frame outer o)
      ∙ (sym (ap (λ x. if_true b (on_some (on_some x planned) (plans t s k result))) (slice_get-get_or app.funcs frame.func no_function h))
      ∙ sym (tested b (on_some (slice_get app.funcs frame.func) planned) (plans t s k result))))

module _ (config : Config) (app : App) (t : ℕ) (s : System) where
  abbrev after : Plan → Option System
  after p = Some (settled_state (planned_system t p s))

  abbrev k : Task
  k = task s t

  pub run-follows : (func item result : ℕ) → InFunction app (task s t).frames
      → next_state config app (event.Run t func item result) s ≡ followed_state t s (running_plan config app t func item result s)
  run-follows func item result h =
      by_operation app k (s.booted && (is_top config s [] t && is_position func item k.frames))
      (λ o. on_some (meaning_of app o k k.frames s) (executed_state t result s))
      (λ o. on_some (run_plan app o k s.symbols) (λ p. if_true (is_number result p.answer) (Some p))) after
      (λ o. run-same app t s k result o k.frames h ∙ sym (filtered (run_plan app o k s.symbols) (λ p. is_number result p.answer) after))

-- ---- services

-- the outcome that a plan of task t has
abbrev outcome_by : ℕ → System → Plan → ServiceOutcome
outcome_by t s p = shown_outcome p.answer (planned_system t p s)

-- one of two plans, by the state of a task
by_state : (t : ℕ) (s : System) (m : TaskState) (a b : ServiceOutcome) (p q : Plan) → (m ≡ mode.Suspended → a ≡ outcome_by t s p)
    → ((m ≡ mode.Suspended → ⊥) → b ≡ outcome_by t s q) → if_suspended m a b ≡ outcome_by t s (if_suspended m p q)
by_state t s mode.Suspended a b p q e f = e refl
by_state t s mode.Ready a b p q e f = f (λ x. cc)
by_state t s mode.Active a b p q e f = f (λ x. cc)
by_state t s (mode.Waiting mask) a b p q e f = f (λ x. cc)

-- one of two plans, by a test
by_test : (t : ℕ) (s : System) (c : Bool) (a b : ServiceOutcome) (p q : Plan) → (c ≡ true → a ≡ outcome_by t s p) → (c ≡ false → b ≡ outcome_by t s q)
    → cond c a b ≡ outcome_by t s (cond c p q)
by_test t s true a b p q e f = e refl
by_test t s false a b p q e f = f refl

-- events are set in one change
module _ (s : System) (t mask : ℕ) (lt : t < length s.tasks) where
  abbrev found : ℕ
  found = bit_or (task s t).events mask

  abbrev with_found : TaskState → Task
  with_found m = record (task s t) { events = found; state = m }

  kept : (m : TaskState) → (task s t).state ≡ m → with_events s t found ≡ with_task s t (with_found m)
  kept m e = ap (λ x. with_task s t (with_found x)) e

  waked : (w : ℕ) → (task s t).state ≡ mode.Waiting w → (b : Bool)
      → cond b (with_events s t found) (with_task (with_events s t found) t (record (task (with_events s t found) t) { state = mode.Ready }))
      ≡ with_task s t (with_found (cond b (mode.Waiting w) mode.Ready))
  waked w e true = kept (mode.Waiting w) e
  waked w e false =
      let one : Task = record (task s t) { events = found } in
      ap (λ (k : Task). record s { tasks = set (set s.tasks t one) t (record k { state = mode.Ready }) }) (get_or-set_same s.tasks t one sleeping_task lt)
      ∙ ap (λ (ks : List Task). record s { tasks = ks }) (set-set s.tasks t one (with_found mode.Ready))

  by_mode : (m : TaskState) → (task s t).state ≡ m → woken_state m found t (with_events s t found) ≡ with_task s t (with_found (woken_task_state m found))
  by_mode mode.Suspended e = kept mode.Suspended e
  by_mode mode.Ready e = kept mode.Ready e
  by_mode mode.Active e = kept mode.Active e
  by_mode (mode.Waiting w) e = waked w e (bit_and found w == 0)

  pub events-set : set_events t mask s ≡ with_change t (change.AddEvents mask) s
  events-set = by_mode (task s t).state refl

-- a task whose events are set is there
abbrev IsReached : System → Other → Type 0
IsReached s (other.AddEvents t mask) = t < length s.tasks
IsReached s _ = Unit {0}

-- no events are set
abbrev sets_none : Other → Bool
sets_none (other.AddEvents t mask) = false
sets_none _ = true

reached : (s : System) (o : Other) → sets_none o ≡ true → IsReached s o
reached s (other.AddEvents t mask) e = absurd (false≢true e)
reached s o e = tt

module _ (t : ℕ) (s : System) where
  besides-same : (c : TaskChange) (o : Other) → IsReached s o → one_by_one.with_other o (with_change t c s) ≡ with_other o (with_change t c s)
  besides-same c (other.AddEvents u mask) lt =
      events-set (with_change t c s) u mask (subst (λ n. u < n) (sym (length-set s.tasks t (changed_task c (task s t)))) lt)
  besides-same c other.Nothing lt = refl
  besides-same c o lt = refl

  -- the outcome of a decision is that of the plan that is taken
  decision-planned : (d : Decision) → OnPlans s (λ p. IsReached s p.other) d → outcome_of t s d ≡ outcome_by t s (plan_in s d)
  decision-planned (Does p) h = ap (shown_outcome p.answer) (besides-same p.change p.other h)
  decision-planned (IfSuspended u first second) h =
      by_state t s (task s u).state (outcome_of t s first) (outcome_of t s second) (plan_in s first) (plan_in s second)
      (λ e. decision-planned first (h.0 e)) (λ n. decision-planned second (h.1 n))
  decision-planned (If test first second) h =
      by_test t s test (outcome_of t s first) (outcome_of t s second) (plan_in s first) (plan_in s second)
      (λ e. decision-planned first (h.0 e)) (λ n. decision-planned second (h.1 n))

module _ (config : Config) (t : ℕ) (s : System) (count : length s.tasks ≡ length config.tasks) where
  abbrev all-reached : Service → ℕ → ℕ → Type 0
  all-reached srv object mask = OnPlans s (λ p. IsReached s p.other) (decision config srv object mask t s)

  sets-reached : (srv : Service) (object mask : ℕ) → is_there config (task s t).held srv object ≡ true → all-reached srv object mask
  sets-reached service.SetEvent object mask there =
      (λ _. tt, λ _. subst (λ n. object < n) (sym count) (ltb-true object (length config.tasks) there))
  sets-reached srv object mask there =
      on_tested s (λ p. IsReached s p.other) (λ p. sets_none p.other) (λ p. reached s p.other) (decision config srv object mask t s) refl

  outcome-planned : (srv : Service) (object mask : ℕ) → is_there config (task s t).held srv object ≡ true
      → outcome config srv object mask t s ≡ outcome_by t s (service_plan config srv object mask t s)
  outcome-planned srv object mask there = decision-planned t s (decision config srv object mask t s) (sets-reached srv object mask there)

  served-planned : (srv : Service) (o : Op) → served_outcome config srv t s o ≡ on_some (on_some (call_in o) (call_plan config srv t s)) (λ p. Some (outcome_by t s p))
  served-planned srv (op.Serve call) =
      let b = (code_of call.service == code_of srv) && is_there config (task s t).held srv call.object in
      let p = service_plan config srv call.object call.mask t s in
      where_true b (Some (outcome config srv call.object call.mask t s)) (Some (outcome_by t s p))
      (λ e. ap Some (outcome-planned srv call.object call.mask (and_parts _ _ e).1))
      ∙ sym (tested b (Some p) (λ x. Some (outcome_by t s x)))
  served-planned srv (op.Alu k a b c) = refl
  served-planned srv (op.AluImm k a b c) = refl
  served-planned srv (op.Lui a b) = refl
  served-planned srv (op.Li a b) = refl
  served-planned srv (op.FrameLoad a b) = refl
  served-planned srv (op.FrameStore a b) = refl
  served-planned srv (op.Load w a b c) = refl
  served-planned srv (op.Store w a b c) = refl
  served-planned srv (op.LoadAt w a b c d) = refl
  served-planned srv (op.StoreAt w a b c d) = refl
  served-planned srv (op.Branch k a b c) = refl
  served-planned srv (op.Jump a) = refl
  served-planned srv (op.Invoke a) = refl
  served-planned srv op.Return = refl

module _ (config : Config) (app : App) (t : ℕ) (s : System) (count : length s.tasks ≡ length config.tasks) (srv : Service) where
  abbrev serving : Option Plan
  serving = serving_plan config app t srv s

  abbrev settling : Plan → Option System
  settling p = Some (settled_state (planned_system t p s))

  answer-planned : answer_to config app t srv s ≡ on_some serving (λ p. Some (outcome_by t s p))
  answer-planned =
      by_operation app (task s t) (s.booted && is_top config s s.fresh t) (served_outcome config srv t s)
      (λ o. on_some (call_in o) (call_plan config srv t s)) (λ p. Some (outcome_by t s p)) (served-planned config t s count srv)

  -- what is made of the outcome, by a test of the plan
  by_outcome : (go : ServiceOutcome → Option System) (test : Plan → Bool) → ((p : Plan) → go (outcome_by t s p) ≡ if_true (test p) (settling p))
      → on_some (answer_to config app t srv s) go ≡ followed_state t s (on_some serving (λ p. if_true (test p) (Some p)))
  by_outcome go test same =
      ap (λ o. on_some o go) answer-planned
      ∙ (chained serving (λ p. Some (outcome_by t s p)) go
      ∙ (under serving (λ p. go (outcome_by t s p)) (λ p. if_true (test p) (settling p)) same ∙ sym (filtered serving test settling)))

  going-on : (status : ℕ) (answer : Option ℕ) (x : System) → going_on_system status (shown_outcome answer x) ≡ if_true (is_number status answer) (Some (settled_state x))
  going-on status (Some v) x = refl
  going-on status None x = refl

  leaving-so : (answer : Option ℕ) (x : System) → left_state (shown_outcome answer x) ≡ if_true (not (is_some answer)) (Some (settled_state x))
  leaving-so (Some v) x = refl
  leaving-so None x = refl

  pub call-follows : (status : ℕ) → next_state config app (event.Call t srv status) s ≡ followed_state t s (answer_plan config app t srv status s)
  call-follows status =
      by_outcome (going_on_system status) (λ p. is_number status p.answer) (λ p. going-on status p.answer (planned_system t p s))

  pub left-follows : next_state config app (event.Left t srv) s ≡ followed_state t s (leave_plan config app t srv s)
  left-follows = by_outcome left_state (λ p. not (is_some p.answer)) (λ p. leaving-so p.answer (planned_system t p s))

-- ---- entries

-- a test behind three others is a fourth one
fourth : {A : Type 0} (a b c d : Bool) (o : Option A) → if_true (a && (b && c)) (if_true d o) ≡ if_true (a && (b && (c && d))) o
fourth true true true d o = refl
fourth true true false d o = refl
fourth true false c d o = refl
fourth false b c d o = refl

module _ (config : Config) (app : App) (t : ℕ) (s : System) where
  abbrev body : ℕ
  body = body_of app.funcs t

  abbrev non : Bool
  non = (declaration config t).non

  entered-so : (k0 : Task) (frames : List Frame)
      → with_task s t (record (started_task app t frames (record k0 { frames = frames })) { state = mode.Active; raised = non })
      ≡ with_task s t (changed_task (entry_change body (function app body).frame_words (length frames) non).change (record k0 { frames = frames }))
  entered-so k0 [] = refl
  entered-so k0 (frame ∷ outer) =
      let k = record k0 { frames = frame ∷ outer } in
      sym (ap (λ b. with_task s t (changed_task (cond b (change.Start body (function app body).frame_words non) (change.Resume non)) k)) (ne_eqb (length (frame ∷ outer)) 0 (λ e. absurd (omega (arith, e)))))

  abbrev top : Bool
  top = is_top config s [] t

  abbrev ready : Bool
  ready = is_ready (task s t).state

  abbrev entering : Func → Plan
  entering f = entry_change body f.frame_words (length (task s t).frames) non

  abbrev done : Plan → Option System
  done p = Some (settled_state (planned_system t p s))

  pub enter-follows : next_state config app (event.Enter t) s ≡ followed_state t s (entry_plan config app t s)
  enter-follows =
      let b = s.booted && (top && ready) in
      let found = slice_get app.funcs body in
      sym (tested b (on_some found (λ f. Some (entering f))) done
      ∙ (ap (if_true b) (chained found (λ f. Some (entering f)) done ∙ at_number app.funcs body no_function (λ f. done (entering f)))
      ∙ (fourth s.booted top ready (ltb body (length app.funcs)) (done (entering (function app body)))
      ∙ ap (λ x. if_true (s.booted && (top && (ready && ltb body (length app.funcs)))) (Some (settled_state x))) (sym (entered-so (task s t) (task s t).frames)))))

  pub back-follows : next_state config app (event.Back t) s ≡ followed_state t s (back_plan config t s)
  back-follows =
      let b = s.booted && (is_top config s [] t && (is_active (task s t).state && (task s t).owed)) in
      sym (tested b (Some (plan None (change.ComeBack non) other.Nothing)) (λ p. Some (settled_state (planned_system t p s))))
