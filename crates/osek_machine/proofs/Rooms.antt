-- With well-formed task code there is always room for the next event.
use Rattle.std.proofs.Common.{◌≡◌, ◌∙◌, ℕ, ◌+◌, ◌<◌, ◌≤◌, ◌⊎◌, inl, inr, ⊎_elim, List, [], ◌∷◌, Bool, true, false, cond, ltb, length, length-append, map, Option, Some, None, bit_and, refl, sym, ap, subst, arith, eqb}
use Rattle.std.specs.Prelude.{◌&&◌, ◌||◌, ◌==◌, not, is_some, slice_get, IfSome}
use Rattle.std.specs.List.{AllByRecursion, IsDistinct, list_any, list_all}
use Rattle.std.proofs.lemmas.Bool.{ltb-true, leb-true, cases_lt, cases_eq, and_parts, or_parts, or_cases, eqb-true, ne_eqb, false≢true, false_from_ne_true}
use Rattle.std.proofs.lemmas.List.{get_or-set_same, length-map}
use Rattle.std.proofs.lemmas.List.Sums.{get_or-le-sum_by, sum-map}
use Rattle.std.proofs.lemmas.Map.Steps.{length-le_from_distinct_below}
use Rattle.std.proofs.lemmas.Option.{slice_get_within, get_or_from_slice_get, same_Some}
use Rattle.std.proofs.Math.ListN.{get_or-eq_default}
use Rattle.sloth_base.specs.Options.{is_number}
use Rattle.sloth_base.specs.ServiceCodes.{code_of}
use Rattle.sloth_base.specs.Arithmetic.{branch_holds}
use Rattle.sloth_base.specs.declared.config.Action.{Action}
use Rattle.sloth_base.specs.declared.config.Action.TheVariants as action
use Rattle.sloth_base.specs.declared.config.Config.{Config}
use Rattle.sloth_base.specs.declared.config.CounterDecl.{CounterDecl}
use Rattle.sloth_base.specs.ConfigRange.{IsAction}
use Rattle.sloth_base.specs.declared.app.App.{App}
use Rattle.sloth_base.specs.declared.app.Func.{Func}
use Rattle.sloth_base.specs.declared.app.Op.{Op}
use Rattle.sloth_base.specs.declared.app.Op.TheVariants as op
use Rattle.sloth_base.specs.declared.app.Width.{Width}
use Rattle.sloth_base.specs.declared.service.Event.{Event}
use Rattle.sloth_base.specs.declared.service.Event.TheVariants as event
use Rattle.sloth_base.specs.declared.service.Service.{Service}
use Rattle.sloth_base.specs.declared.service.Service.TheVariants as service
use Rattle.sloth_base.specs.Named.{function, no_function, body_of, declaration, counter_declaration, undeclared_counter, alarm_declaration, undeclared_alarm}
use Rattle.sloth_base.specs.Limits.{task_limit, ceiling_count, body_limit, frame_limit}
use Rattle.code_rules.specs.AppRange.{IsOp}
use Rattle.code_rules.specs.Code.{is_in}
use Rattle.osek_scheduler.specs.declared.state.TaskState.{TaskState}
use Rattle.osek_scheduler.specs.declared.state.TaskState.TheVariants as mode
use Rattle.osek_scheduler.specs.State.{Frame, Task, System, sleeping_task, task, with_task}
use Rattle.osek_scheduler.specs.Priority.{is_active}
use Rattle.osek_scheduler.specs.Meaning.{is_own, registers_of, on_some, if_true, register}
use Rattle.osek_scheduler.specs.Services.{is_task, is_alarm, is_there}
use Rattle.osek_scheduler.specs.Outcomes.{decision, plan}
use Rattle.osek_scheduler.proofs.AllPlans.{OnPlans, all_plans}
use Rattle.osek_scheduler.proofs.Outcomes.{on_tested, on_taken}
use Rattle.osek_scheduler.specs.declared.change.TaskChange.{TaskChange}
use Rattle.osek_scheduler.specs.Steps.{settled_state}
use Rattle.osek_scheduler.specs.Next.{is_ready, is_top, is_position, operation_of, next_state}
use Rattle.osek_scheduler.proofs.Next.{step_of}
use Rattle.osek_scheduler.proofs.Tests.{if_true_some, on_some_from, Decides-is_top}
use Rattle.osek_scheduler.specs.Valid.{IsFrame, IsCalledFrom, AreCalls, AreDistinct, IsValid}
use Rattle.osek_scheduler.proofs.Apart.{at_task}
use Rattle.osek_scheduler.proofs.Facts.{Facts, facts}
use Rattle.osek_scheduler.proofs.Steps.{step_valid}
use Rattle.osek_scheduler.proofs.Tidy.{tidy}
use Rattle.osek_scheduler.specs.declared.change.TaskChange.TheVariants as change
use Rattle.osek_scheduler.specs.declared.change.Other.{Other}
use Rattle.osek_scheduler.specs.declared.change.Other.TheVariants as other
use Rattle.osek_scheduler.specs.declared.change.Plan.{Plan}
use Rattle.osek_machine.specs.Clocked.{NamesTask, IsClocked}
use Rattle.osek_scheduler.specs.Frames.{CanMove, HasWord}
use Rattle.osek_scheduler.specs.Changes.{outer_frames, changed_task, with_change}
use Rattle.osek_machine.specs.Changes.{HasChangeRoom}
use Rattle.osek_machine.specs.Plans.{with_other, planned_system, write_plan, service_plan, item_plan, item_behind, load_of, is_inside, HasOther, HasPlanRoom}
use Rattle.osek_machine.specs.Running.{IsComputed, own_operation, run_plan, call_in, call_plan, serving_plan, running_plan, entry_change, entry_plan, back_plan}
use Rattle.osek_machine.specs.PlanSteps.{answer_plan, leave_plan, followed_state, IsRead}
use Rattle.osek_machine.specs.Steps.{IsSound}
use Rattle.osek_machine.proofs.Follows.{InFunction, own-operation, enter-follows, run-follows, call-follows, left-follows, back-follows}

-- ---- plans of services

-- nothing is done besides
abbrev is_nothing : Other → Bool
is_nothing other.Nothing = true
is_nothing _ = false

-- a change that a service makes of its caller
abbrev is_own_change : TaskChange → Bool
is_own_change (change.Answer status) = true
is_own_change (change.AnswerWith value) = true
is_own_change change.End = true
is_own_change (change.Wait mask) = true
is_own_change change.Pause = true
is_own_change (change.Take resource) = true
is_own_change change.Release = true
is_own_change (change.ClearEvents mask) = true
is_own_change _ = false

own-changes : (config : Config) (srv : Service) (object mask t : ℕ) (s : System)
    → all_plans (λ p. is_own_change p.change) (decision config srv object mask t s) ≡ true
own-changes config service.ActivateTask object mask t s = refl
own-changes config srv object mask t s = refl

-- ---- numbers that differ

eqb_sym : (x y : ℕ) → eqb x y ≡ eqb y x
eqb_sym x y = ⊎_elim (λ e. ap (λ z. eqb z y) e ∙ sym (ap (eqb y) e)) (λ n. ne_eqb x y n ∙ sym (ne_eqb y x (λ e. n (sym e)))) (cases_eq x y)

others : (x : ℕ) (xs : List ℕ) → is_in x xs ≡ false → AllByRecursion (λ y. eqb x y ≡ false) xs
others x [] h = tt
others x (y ∷ xs) h = let w = or_parts (y == x) (is_in x xs) h in (eqb_sym x y ∙ w.0, others x xs w.1)

distinct : (xs : List ℕ) → AreDistinct xs → IsDistinct eqb xs
unfolding IsDistinct
distinct [] h = tt
distinct (x ∷ xs) h = (others x xs h.0, distinct xs h.1)

any-in : (q : ℕ) (xs : List ℕ) → list_any (eqb q) xs ≡ is_in q xs
any-in q [] = refl
any-in q (x ∷ xs) = ap (λ b. b || list_any (eqb q) xs) (eqb_sym q x) ∙ ap (λ b. (x == q) || b) (any-in q xs)

-- numbers below n that differ are at most n
pub at_most : (xs : List ℕ) (n : ℕ) → AreDistinct xs → ((q : ℕ) → is_in q xs ≡ true → q < n) → length xs ≤ n
at_most xs n d below = length-le_from_distinct_below xs n (distinct xs d) (λ q h. below q (sym (any-in q xs) ∙ h))

-- ---- functions in progress

module _ (app : App) (t : ℕ) where
  -- a function is there where it is the first of these, or one of the others
  first-known : (f q : ℕ) (rest : List ℕ) → f < length app.funcs → (is_in q rest ≡ true → q < length app.funcs) → is_in q (f ∷ rest) ≡ true
      → q < length app.funcs
  first-known f q rest known later e = ⊎_elim (λ same. subst (λ x. x < length app.funcs) (eqb-true f q same) known) later (or_cases _ _ e)

  callers-known : (f : ℕ) (outer : List Frame) → IsCalledFrom app t f outer → (q : ℕ) → is_in q (map (λ x. x.func) outer) ≡ true → q < length app.funcs
  callers-known f [] h q e = absurd (false≢true e)
  callers-known f (caller ∷ outer) h q e = first-known caller.func q (map (λ x. x.func) outer) h.0.known (callers-known caller.func outer h.2 q) e

  calls-known : (frames : List Frame) → AreCalls app t frames → (q : ℕ) → is_in q (map (λ x. x.func) frames) ≡ true → q < length app.funcs
  calls-known [] h q e = absurd (false≢true e)
  calls-known (frame ∷ outer) h q e = first-known frame.func q (map (λ x. x.func) outer) h.0.known (callers-known frame.func outer h.1 q) e

-- ---- a task after what an event does besides

module _ {X : Type 0} (get : Task → X) where
  kept-at : (s : System) (u t : ℕ) (new : Task) → get new ≡ get (task s u) → get (task (with_task s u new) t) ≡ get (task s t)
  kept-at s u t new e = at_task s u t new (λ k. get k ≡ get (task s t)) refl (λ same. e ∙ sym (ap (λ x. get (task s x)) same))

  kept-besides : (o : Other) (s : System) (t : ℕ) → ((k : Task) → get (changed_task change.Activate k) ≡ get k)
      → ((mask : ℕ) (k : Task) → get (changed_task (change.AddEvents mask) k) ≡ get k) → get (task (with_other o s) t) ≡ get (task s t)
  kept-besides other.Nothing s t a b = refl
  kept-besides (other.Activate u) s t a b = kept-at s u t (changed_task change.Activate (task s u)) (a (task s u))
  kept-besides (other.AddEvents u mask) s t a b = kept-at s u t (changed_task (change.AddEvents mask) (task s u)) (b mask (task s u))
  kept-besides (other.Store y w offset value) s t a b = refl
  kept-besides (other.SetAlarm y left cycle) s t a b = refl

-- ---- what is read

in_range-so : (config : Config) (app : App) (f : Func) (o : Op) → IsOp config app f o → IsComputed o
in_range-so config app f (op.Alu k a b c) h = tt
in_range-so config app f (op.AluImm k a b c) h = h.2
in_range-so config app f (op.Lui a b) h = h.1
in_range-so config app f (op.Li a b) h = tt
in_range-so config app f (op.FrameLoad a b) h = tt
in_range-so config app f (op.FrameStore a b) h = tt
in_range-so config app f (op.Load w a b c) h = tt
in_range-so config app f (op.Store w a b c) h = tt
in_range-so config app f (op.LoadAt w a b c d) h = tt
in_range-so config app f (op.StoreAt w a b c d) h = tt
in_range-so config app f (op.Branch k a b c) h = tt
in_range-so config app f (op.Jump a) h = tt
in_range-so config app f (op.Invoke a) h = tt
in_range-so config app f op.Return h = tt
in_range-so config app f (op.Serve call) h = tt

-- an event and its plan, if it has one: it leads to the next state, and there is room for it
pub record IsPlanned (config : Config) (app : App) (s : System) (t : ℕ) (e : Event) (o : Option Plan) : Type 0 where
  pub leads : next_state config app e s ≡ followed_state t s o
  pub room : IfSome o (λ p. HasPlanRoom t p s)

module _ {config : Config} {app : App} {s : System} (sound : IsSound config app s) where
  abbrev w : Facts config app
  w = facts config app sound.well_formed

  -- a function that has an item is there
  known-by : (f i : ℕ) → i < length (function app f).items → f < length app.funcs
  known-by f i inside = ⊎_elim (λ lt. lt) past (cases_lt f (length app.funcs))
    where
      past : length app.funcs ≤ f → f < length app.funcs
      past ge =
          let none : length (function app f).items ≡ 0 = ap (λ (x : Func). length x.items) (get_or-eq_default app.funcs no_function ge) in
          absurd (omega (arith, inside, none))

  computed-in : (frames : List Frame) (o : Op) → operation_of app frames ≡ Some o → IsComputed o
  computed-in [] o e = absurd cc
  computed-in (frame ∷ outer) o e =
      let found = if_true_some (ltb frame.item (length (function app frame.func).items)) _ o e in
      let inside = ltb-true _ _ found.0 in
      in_range-so config app (function app frame.func) o
      (w.items frame.func frame.item o (record { known = known-by frame.func frame.item inside; inside = inside; is = same_Some _ _ found.1 }))

  item-small : (frame : Frame) → IsFrame app frame → frame.item < 4294967295
  item-small frame h =
      let inside = h.inside in
      let part = get_or-le-sum_by (λ (f : Func). length f.items) app.funcs frame.func no_function h.known in
      let whole = sum-map (λ (f : Func). length f.items) app.funcs in
      let few = w.in_range.limits.few_items in
      omega (arith, inside, part, whole, few)

  calls-move : (t : ℕ) (frames : List Frame) → AreCalls app t frames → CanMove frames
  calls-move t [] h = tt
  calls-move t (frame ∷ outer) h = item-small frame h.0

  calls-leave : (t : ℕ) (frames : List Frame) → AreCalls app t frames → CanMove (outer_frames frames)
  calls-leave t [] h = tt
  calls-leave t (frame ∷ []) h = tt
  calls-leave t (frame ∷ caller ∷ outer) h = item-small caller h.1.0

  calls-in : (t : ℕ) (frames : List Frame) → AreCalls app t frames → InFunction app frames
  calls-in t [] h = tt
  calls-in t (frame ∷ outer) h = h.0.known

  calls-of : (P : List Frame → Type 0) → ((t : ℕ) (frames : List Frame) → AreCalls app t frames → P frames) → (t : ℕ) → P (task s t).frames
  calls-of P of t = by (cases_lt t (length config.tasks))
    where
      by : (t < length config.tasks) ⊎ (length config.tasks ≤ t) → P (task s t).frames
      by (inl lt) = of t (task s t).frames (sound.valid.each t lt).calls
      by (inr ge) =
          let past : length s.tasks ≤ t = subst (λ n. n ≤ t) (sym sound.valid.count) ge in
          subst (λ (k : Task). P k.frames) (sym (get_or-eq_default s.tasks sleeping_task past)) (of t [] tt)

  moves : (t : ℕ) → CanMove (task s t).frames
  moves t = calls-of CanMove calls-move t

  returns : (t : ℕ) → CanMove (outer_frames (task s t).frames)
  returns t = calls-of (λ frames. CanMove (outer_frames frames)) calls-leave t

  in_function : (t : ℕ) → InFunction app (task s t).frames
  in_function t = calls-of (InFunction app) calls-in t

  pub clocked : IsClocked config s
  clocked = record {
    counters = sound.valid.clock.counters;
    alarms = sound.valid.clock.alarms;
    values = sound.valid.clock.values;
    greatest = λ c. by c (cases_lt c (length config.counters));
    actions = λ a lt. names (alarm_declaration config a).action (w.in_range.configuration.alarms a undeclared_alarm lt).action;
  }
    where
      by : (c : ℕ) → (c < length config.counters) ⊎ (length config.counters ≤ c) → (counter_declaration config c).max < 2147483648
      by c (inl lt) = let m = (w.in_range.configuration.counters c undeclared_counter lt).max.1 in omega (arith, m)
      by c (inr ge) = subst (λ (d : CounterDecl). d.max < 2147483648) (sym (get_or-eq_default config.counters undeclared_counter ge)) (omega arith)

      names : (does : Action) → IsAction config does → NamesTask (length config.tasks) does
      names (action.Activate t) h = h
      names (action.Set t mask) h = h.0

  pub reads : IsRead config app s
  reads = record {
    count = sound.valid.count;
    few = w.in_range.configuration.few_tasks;
    functions = w.in_range.limits.few_bodies;
    computed = λ k o e.
        let at = if_true_some (is_active k.state && not k.owed) (operation_of app k.frames) o (sym (own-operation app k) ∙ e) in computed-in k.frames o at.1;
    moves = moves;
    clocked = clocked;
  }

  words-of : (f : ℕ) (found : Func) → slice_get app.funcs f ≡ Some found → found.frame_words ≤ frame_limit
  words-of f found e =
      subst (λ (g : Func). g.frame_words ≤ frame_limit) (get_or_from_slice_get app.funcs f found no_function e)
      (w.in_range.bodies f no_function (slice_get_within app.funcs f found e)).frame

  -- the system has each task of the configuration
  in_tasks : (t : ℕ) → t < length config.tasks → t < length s.tasks
  in_tasks t lt = subst (λ n. t < n) (sym sound.valid.count) lt

  -- ---- the state behind the event is sound too

  module _ (e : Event) (t : ℕ) (lt : t < length config.tasks) (p : Plan) (next : next_state config app e s ≡ Some (settled_state (planned_system t p s))) where
    behind : IsValid config app (settled_state (planned_system t p s))
    behind = step_valid config app e s (settled_state (planned_system t p s)) w (step_of config app s (settled_state (planned_system t p s)) e next) sound.valid

    -- a part of the task that nothing changes besides
    part-behind : {X : Type 0} (get : Task → X) → ((k : Task) → get (changed_task change.Activate k) ≡ get k)
        → ((mask : ℕ) (k : Task) → get (changed_task (change.AddEvents mask) k) ≡ get k)
        → get (task (settled_state (planned_system t p s)) t) ≡ get (changed_task p.change (task s t))
    part-behind get a b =
        kept-besides get p.other (with_change t p.change s) t a b
        ∙ ap get (get_or-set_same s.tasks t (changed_task p.change (task s t)) sleeping_task (in_tasks t lt))

    few_frames : length (changed_task p.change (task s t)).frames ≤ body_limit
    few_frames =
        let own = tidy config app w (settled_state (planned_system t p s)) t behind lt in
        let most = at_most (map (λ x. x.func) (task (settled_state (planned_system t p s)) t).frames) (length app.funcs) own.frames_differ
        (calls-known app t (task (settled_state (planned_system t p s)) t).frames own.calls) in
        let long = length-map (task (settled_state (planned_system t p s)) t).frames (λ (x : Frame). x.func) in
        let same = ap length (part-behind (λ (k : Task). k.frames) (λ k. refl) (λ mask k. refl)) in
        let few = w.in_range.limits.few_bodies in
        omega (arith, most, long, same, few)

    few_held : length (changed_task p.change (task s t)).held ≤ ceiling_count
    few_held =
        let own = tidy config app w (settled_state (planned_system t p s)) t behind lt in
        let most = at_most (task (settled_state (planned_system t p s)) t).held 33 (behind.each t lt).distinct own.few in
        let same = ap length (part-behind (λ (k : Task). k.held) (λ k. refl) (λ mask k. refl)) in
        omega (arith, most, same)

  -- ---- items

  module _ (t : ℕ) (lt : t < length config.tasks) where
    abbrev k : Task
    k = task s t

    -- there is room for a plan of task t
    abbrev Roomy : Plan → Type 0
    Roomy p = HasChangeRoom p.change k × HasOther p.other s

    from_some : (p q : Plan) → Some p ≡ Some q → Roomy p → Roomy q
    from_some p q e r = subst Roomy (same_Some p q e) r

    room-of : (p q : Plan) → Some p ≡ Some q → Roomy p → HasPlanRoom t q s
    room-of p q e r = let same = from_some p q e r in record { declared = in_tasks t lt; allows = same.0; besides = same.1 }

    from_on : {A : Type 0} (o : Option A) (make : A → Plan) (q : Plan) → on_some o (λ a. Some (make a)) ≡ Some q → ((a : A) → o ≡ Some a → Roomy (make a)) → Roomy q
    from_on o make q e r = let found = on_some_from o _ q e in from_some (make found.0) q found.2 (r found.0 found.1)

    has_word : (frames : List Frame) (frame : Frame) (word old : ℕ) → slice_get frames 0 ≡ Some frame → slice_get frame.words word ≡ Some old → HasWord word frames
    has_word [] frame word old e f = tt
    has_word (x ∷ outer) frame word old e f =
        subst (λ (y : Frame). word < length y.words) (sym (same_Some x frame e)) (slice_get_within frame.words word old f)

    stored-in : (v y offset : ℕ) (wd : Width) (q : Plan) → if_true (is_inside s.symbols y wd offset) (Some (plan (Some v) change.MoveOn (other.Store y wd offset v))) ≡ Some q → Roomy q
    stored-in v y offset wd q e =
        let found = if_true_some (is_inside s.symbols y wd offset) _ q e in
        let both = and_parts _ _ found.0 in
        from_some (plan (Some v) change.MoveOn (other.Store y wd offset v)) q found.1 (moves t, (ltb-true _ _ both.0, leb-true _ _ both.1))

    item-room : (o : Op) (f : Func) (frame : Frame) (q : Plan) → slice_get k.frames 0 ≡ Some frame
        → item_plan app o f frame (length k.frames) k.registers s.symbols ≡ Some q → length (changed_task q.change k).frames ≤ body_limit → Roomy q
    item-room (op.Alu kind rd a b) f frame q at e deep = from_some _ q e (moves t, tt)
    item-room (op.AluImm kind rd a n) f frame q at e deep = from_some _ q e (moves t, tt)
    item-room (op.Lui rd n) f frame q at e deep = from_some _ q e (moves t, tt)
    item-room (op.Li rd v) f frame q at e deep = from_some _ q e (moves t, tt)
    item-room (op.FrameLoad rd word) f frame q at e deep = from_on (slice_get frame.words word) (write_plan rd) q e (λ v h. (moves t, tt))
    item-room (op.FrameStore rs word) f frame q at e deep =
        from_on (slice_get frame.words word) (λ old. plan (Some (register k.registers rs)) (change.StoreWord word (register k.registers rs)) other.Nothing) q e
        (λ old h. ((moves t, has_word k.frames frame word old at h), tt))
    item-room (op.Load wd rd y offset) f frame q at e deep = from_on (load_of s.symbols wd y offset) (write_plan rd) q e (λ v h. (moves t, tt))
    item-room (op.Store wd rs y offset) f frame q at e deep = stored-in (register k.registers rs) y offset wd q e
    item-room (op.LoadAt wd rd y index mask) f frame q at e deep =
        from_on (load_of s.symbols wd y (bit_and (register k.registers index) mask)) (write_plan rd) q e (λ v h. (moves t, tt))
    item-room (op.StoreAt wd rs y index mask) f frame q at e deep =
        stored-in (register k.registers rs) y (bit_and (register k.registers index) mask) wd q e
    item-room (op.Branch kind a b label) f frame q at e deep =
        from_on (item_behind f label)
        (λ target. plan (Some 0) (change.GoTo (cond (branch_holds kind (register k.registers a) (register k.registers b)) target (frame.item + 1))) other.Nothing) q e
        (λ target h. (tt, tt))
    item-room (op.Jump label) f frame q at e deep =
        from_on (item_behind f label) (λ item. plan (Some 0) (change.GoTo item) other.Nothing) q e (λ item h. (tt, tt))
    item-room (op.Invoke g) f frame q at e deep =
        let make = λ (called : Func). plan (Some 0) (change.Invoke g called.frame_words) other.Nothing in
        let found = on_some_from (slice_get app.funcs g) _ q e in
        let same = same_Some (make found.0) q found.2 in
        let long = subst (λ (p : Plan). length (changed_task p.change k).frames ≤ body_limit) (sym same) deep in
        subst Roomy same ((omega (arith, long), words-of g found.0 found.1), tt)
    item-room op.Return f frame q at e deep =
        let found = if_true_some (ltb 1 (length k.frames)) _ q e in
        from_some (plan (Some 0) change.Return other.Nothing) q found.1 (returns t, tt)
    item-room (op.Serve call) f frame q at e deep = absurd cc

    -- ---- services

    abbrev plan_of : Service → ℕ → ℕ → Plan
    plan_of srv object mask = service_plan config srv object mask t s

    there : (u : ℕ) → is_task config u ≡ true → u < length s.tasks
    there u e = in_tasks u (ltb-true u (length config.tasks) e)

    alarm-there : (a : ℕ) → is_alarm config a ≡ true → a < length s.clock.alarms
    alarm-there a e = subst (λ n. a < n) (sym sound.valid.clock.alarms) (ltb-true a (length config.alarms) e)

    -- the other task, or the alarm, that a service changes is there
    besides-there : (srv : Service) (object mask : ℕ) → is_there config k.held srv object ≡ true → OnPlans s (λ p. HasOther p.other s) (decision config srv object mask t s)
    besides-there service.ActivateTask object mask e = (λ _. there object e, λ _. tt)
    besides-there service.ChainTask object mask e = (λ _. in_tasks t lt, λ _. (λ _. there object e, λ _. tt))
    besides-there service.SetEvent object mask e = (λ _. tt, λ _. there object e)
    besides-there service.SetRelAlarm object mask e = (λ _. tt, λ _. (λ _. alarm-there object e, λ _. tt))
    besides-there service.SetAbsAlarm object mask e = (λ _. tt, λ _. (λ _. alarm-there object e, λ _. tt))
    besides-there service.CancelAlarm object mask e = (λ _. alarm-there object e, λ _. tt)
    besides-there srv object mask e =
        on_tested s (λ p. HasOther p.other s) (λ p. is_nothing p.other) (λ p. nothing-there p.other) (decision config srv object mask t s) refl
      where
        nothing-there : (o : Other) → is_nothing o ≡ true → HasOther o s
        nothing-there other.Nothing h = tt
        nothing-there o h = absurd (false≢true h)

    -- there is room for each change that a service makes of its caller, where it holds few resources
    own-allowed : (c : TaskChange) → is_own_change c ≡ true → length (changed_task c k).held ≤ ceiling_count → HasChangeRoom c k
    own-allowed change.End e holds = tt
    own-allowed (change.Take r) e holds = let long = length-append k.held (r ∷ []) in (moves t, omega (arith, long, holds))
    own-allowed (change.Answer status) e holds = moves t
    own-allowed (change.AnswerWith value) e holds = moves t
    own-allowed (change.Wait mask) e holds = moves t
    own-allowed change.Pause e holds = moves t
    own-allowed change.Release e holds = moves t
    own-allowed (change.ClearEvents mask) e holds = moves t
    own-allowed c e holds = absurd (false≢true e)

    service-room : (srv : Service) (object mask : ℕ) → is_there config k.held srv object ≡ true
        → length (changed_task (plan_of srv object mask).change k).held ≤ ceiling_count → Roomy (plan_of srv object mask)
    service-room srv object mask e holds =
        let d = decision config srv object mask t s in (
          on_taken s (λ p. length (changed_task p.change k).held ≤ ceiling_count → HasChangeRoom p.change k) d
              (on_tested s (λ p. length (changed_task p.change k).held ≤ ceiling_count → HasChangeRoom p.change k) (λ p. is_own_change p.change) (λ p. own-allowed p.change) d (own-changes config srv object mask t s))
              holds,
          on_taken s (λ p. HasOther p.other s) d (besides-there srv object mask e),
        )

  -- ---- events

  declared : (others : List ℕ) (t : ℕ) → is_top config s others t ≡ true → t < length config.tasks
  declared others t e = ((Decides-is_top config s others t).0 e).declared

  -- a plan that passes a test
  passes : (o : Option Plan) (test : Plan → Bool) (p : Plan) → on_some o (λ x. if_true (test x) (Some x)) ≡ Some p → o ≡ Some p
  passes None test p e = absurd cc
  passes (Some x) test p e = (if_true_some (test x) (Some x) p e).1

  entry-room : (t : ℕ) (p : Plan) → entry_plan config app t s ≡ Some p → HasPlanRoom t p s
  entry-room t p e =
      let top = if_true_some (s.booted && (is_top config s [] t && is_ready (task s t).state)) _ p e in
      let lt = declared [] t (and_parts _ _ (and_parts _ _ top.0).1).0 in
      let body = body_of app.funcs t in
      let non = (declaration config t).non in
      let depth = length (task s t).frames in
      let make = λ (f : Func). entry_change body f.frame_words depth non in
      let found = on_some_from (slice_get app.funcs body) _ p top.1 in
      let words = words-of body found.0 found.1 in
      room-of t lt (make found.0) p found.2 (by (depth == 0) body non found.0 words t)
    where
      by : (b : Bool) (body : ℕ) (non : Bool) (f : Func) → f.frame_words ≤ frame_limit → (t : ℕ)
          → HasChangeRoom (cond b (change.Start body f.frame_words non) (change.Resume non)) (task s t) × Unit {0}
      by true body non f h t = (h, tt)
      by false body non f h t = (tt, tt)

  back-room : (t : ℕ) (p : Plan) → back_plan config t s ≡ Some p → HasPlanRoom t p s
  back-room t p e =
      let top = if_true_some (s.booted && (is_top config s [] t && (is_active (task s t).state && (task s t).owed))) _ p e in
      let lt = declared [] t (and_parts _ _ (and_parts _ _ top.0).1).0 in
      room-of t lt _ p top.1 (tt, tt)

  run-room : (t func item result : ℕ) (p : Plan) → running_plan config app t func item result s ≡ Some p → HasPlanRoom t p s
  run-room t func item result p e =
      let top = if_true_some (s.booted && (is_top config s [] t && is_position func item (task s t).frames)) _ p e in
      let lt = declared [] t (and_parts _ _ (and_parts _ _ top.0).1).0 in
      let next = run-follows config app t s func item result (in_function t) ∙ ap (followed_state t s) e in
      let o = on_some_from (own_operation app (task s t)) _ p top.1 in
      let planned = passes (run_plan app o.0 (task s t) s.symbols) (λ x. is_number result x.answer) p o.2 in
      let own = if_true_some (list_all is_own (registers_of o.0)) _ p planned in
      let frame = on_some_from (slice_get (task s t).frames 0) _ p own.1 in
      let f = on_some_from (slice_get app.funcs frame.0.func) _ p frame.2 in
      room-of t lt p p refl (item-room t lt o.0 f.0 frame.0 p frame.1 f.2 (few_frames (event.Run t func item result) t lt p next))

  serving-room : (e : Event) (t : ℕ) (srv : Service) (p : Plan) → next_state config app e s ≡ Some (settled_state (planned_system t p s))
      → serving_plan config app t srv s ≡ Some p → HasPlanRoom t p s
  serving-room e t srv p next planned =
      let top = if_true_some (s.booted && is_top config s s.fresh t) _ p planned in
      let lt = declared s.fresh t (and_parts _ _ top.0).1 in
      let o = on_some_from (own_operation app (task s t)) _ p top.1 in
      let call = on_some_from (call_in o.0) (call_plan config srv t s) p o.2 in
      let found = if_true_some ((code_of call.0.service == code_of srv) && is_there config (task s t).held srv call.0.object) _ p call.2 in
      let same = same_Some (service_plan config srv call.0.object call.0.mask t s) p found.1 in
      let holds = subst (λ (q : Plan). length (changed_task q.change (task s t)).held ≤ ceiling_count) (sym same) (few_held e t lt p next) in
      room-of t lt _ p found.1 (service-room t lt srv call.0.object call.0.mask (and_parts _ _ found.0).1 holds)

  call-room : (t : ℕ) (srv : Service) (status : ℕ) (p : Plan) → answer_plan config app t srv status s ≡ Some p → HasPlanRoom t p s
  call-room t srv status p e =
      serving-room (event.Call t srv status) t srv p (call-follows config app t s sound.valid.count srv status ∙ ap (followed_state t s) e)
      (passes (serving_plan config app t srv s) (λ x. is_number status x.answer) p e)

  left-room : (t : ℕ) (srv : Service) (p : Plan) → leave_plan config app t srv s ≡ Some p → HasPlanRoom t p s
  left-room t srv p e =
      serving-room (event.Left t srv) t srv p (left-follows config app t s sound.valid.count srv ∙ ap (followed_state t s) e)
      (passes (serving_plan config app t srv s) (λ x. not (is_some x.answer)) p e)

  -- ---- each event and its plan

  -- an event by the name that is told of it
  pub by_name : {e named : Event} → e ≡ named → next_state config app e s ≡ next_state config app named s
  by_name is = ap (λ (x : Event). next_state config app x s) is

  -- an event and the plan that was made, by the event of this name and the plan that it has
  planned : {e named : Event} {o plan : Option Plan} (t : ℕ) → e ≡ named → o ≡ plan → next_state config app named s ≡ followed_state t s plan
      → ((p : Plan) → plan ≡ Some p → HasPlanRoom t p s) → IsPlanned config app s t e o
  planned {o = o} t is made leads room =
      record { leads = by_name is ∙ (leads ∙ sym (ap (followed_state t s) made)); room = by o (λ p e. room p (sym made ∙ e)) }
    where
      by : (x : Option Plan) → ((p : Plan) → x ≡ Some p → HasPlanRoom t p s) → IfSome x (λ p. HasPlanRoom t p s)
      by None h = tt
      by (Some p) h = h p refl

  module _ {e : Event} {o : Option Plan} {t : ℕ} where
    pub enters : e ≡ event.Enter t → o ≡ entry_plan config app t s → IsPlanned config app s t e o
    enters is made = planned t is made (enter-follows config app t s) (entry-room t)

    pub runs : {func item result : ℕ} → e ≡ event.Run t func item result → o ≡ running_plan config app t func item result s → IsPlanned config app s t e o
    runs {func} {item} {result} is made =
        planned t is made (run-follows config app t s func item result (in_function t)) (run-room t func item result)

    pub serves : {srv : Service} {status : ℕ} → e ≡ event.Call t srv status → o ≡ answer_plan config app t srv status s → IsPlanned config app s t e o
    serves {srv} {status} is made =
        planned t is made (call-follows config app t s sound.valid.count srv status) (call-room t srv status)

    pub leaves : {srv : Service} → e ≡ event.Left t srv → o ≡ leave_plan config app t srv s → IsPlanned config app s t e o
    leaves {srv} is made = planned t is made (left-follows config app t s sound.valid.count srv) (left-room t srv)

    pub comes_back : e ≡ event.Back t → o ≡ back_plan config t s → IsPlanned config app s t e o
    comes_back is made = planned t is made (back-follows config app t s) (back-room t)

  -- ---- admits

  no_both : (m : TaskState) → m ≡ mode.Suspended → m ≡ mode.Ready → ⊥
  no_both mode.Suspended a b = absurd cc
  no_both mode.Ready a b = absurd cc
  no_both mode.Active a b = absurd cc
  no_both (mode.Waiting x) a b = absurd cc

  -- what is fresh is Ready
  pub not_among : (t : ℕ) → (task s t).state ≡ mode.Suspended → is_in t s.fresh ≡ false
  not_among t asleep = false_from_ne_true _ (λ e. no_both (task s t).state asleep (sound.apart.fresh_ready t e))

  pub admit-room : (t : ℕ) → t < length s.tasks → (task s t).state ≡ mode.Suspended → length s.fresh < task_limit
  admit-room t lt asleep =
      let most = at_most (t ∷ s.fresh) (length s.tasks) (not_among t asleep, sound.distinct) (λ q h. all-there q (or_cases _ _ h)) in
      let few = w.in_range.configuration.few_tasks in
      let count = sound.valid.count in
      omega (arith, most, few, count)
    where
      ready-there : (q : ℕ) → (task s q).state ≡ mode.Ready → (q < length s.tasks) ⊎ (length s.tasks ≤ q) → q < length s.tasks
      ready-there q ready (inl l) = l
      ready-there q ready (inr ge) =
          absurd (no_both (task s q).state (ap (λ (x : Task). x.state) (get_or-eq_default s.tasks sleeping_task ge)) ready)

      all-there : (q : ℕ) → ((t == q) ≡ true) ⊎ (is_in q s.fresh ≡ true) → q < length s.tasks
      all-there q (inl same) = subst (λ x. x < length s.tasks) (eqb-true t q same) lt
      all-there q (inr e) = ready-there q (sound.apart.fresh_ready q e) (cases_lt q (length s.tasks))
