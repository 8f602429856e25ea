-- In a valid state each item has a meaning, and a task that runs has a next event.
use Rattle.std.proofs.Common.{◌≡◌, ℕ, zero, suc, ◌+◌, ◌<◌, ◌≤◌, ◌==◌, ◌⊎◌, List, [], ◌∷◌, ◌++◌, Bool, true, false, cond, ltb, ap, ◌∙◌, length, get_or, map, refl, sym, subst, arith, inl, inr, Some, None, Option, bit_and}
use Rattle.std.proofs.lemmas.Bool.{lt-ltb, le-leb, and_from, or_right, cond-true, cond_both, cases_eq, eq-eqb, ne_eqb}
use Rattle.std.proofs.lemmas.Nat.{and_le_r}
use Rattle.sloth_base.specs.declared.config.Config.{Config}
use Rattle.sloth_base.specs.declared.app.App.{App}
use Rattle.sloth_base.specs.declared.app.Call.{Call}
use Rattle.sloth_base.specs.declared.app.Func.{Func}
use Rattle.sloth_base.specs.declared.app.Op.{Op}
use Rattle.sloth_base.specs.declared.app.Op.TheVariants as op
use Rattle.sloth_base.specs.declared.app.Symbol.{Symbol}
use Rattle.sloth_base.specs.declared.app.Width.{Width}
use Rattle.sloth_base.specs.declared.service.Event.{Event}
use Rattle.sloth_base.specs.declared.service.Event.TheVariants as event
use Rattle.osek_scheduler.specs.declared.state.TaskState.{TaskState}
use Rattle.osek_scheduler.specs.declared.state.TaskState.TheVariants as mode
use Rattle.osek_scheduler.specs.State.{Frame, Task, System, task, with_task}
use Rattle.sloth_base.specs.Named.{function, operation, symbol_size, no_symbol, label_of, no_label}
use Rattle.code_rules.specs.Code.{is_in}
use Rattle.osek_scheduler.specs.Priority.{IsTop}
use Rattle.osek_scheduler.specs.Meaning.{ItemMeaning, meaning, load_meaning, store_meaning, accessed_bytes, register, is_own, registers_of, execution, target, on_some, returned_frames}
use Rattle.sloth_base.specs.Events.{admitted_line}
use Rattle.sloth_base.specs.ServiceCodes.{is_service, object_kind}
use Rattle.sloth_base.specs.declared.service.ObjectKind.{ObjectKind}
use Rattle.sloth_base.specs.declared.service.ObjectKind.TheVariants as object
use Rattle.sloth_base.specs.declared.service.Service.{Service}
use Rattle.sloth_base.specs.declared.service.Service.TheVariants as service
use Rattle.sloth_base.proofs.Services.{same_service}
use Rattle.std.specs.List.{list_all}
use Rattle.std.proofs.lemmas.List.{append_assoc}
use Rattle.std.proofs.lemmas.Option.{slice_get-get_or}
use Rattle.osek_scheduler.specs.Services.{is_there, is_resource, ServiceOutcome, GoesOn, Leaves, is_object}
use Rattle.osek_scheduler.specs.Outcomes.{outcome}
use Rattle.osek_scheduler.specs.Steps.{settled_state, IsAt, OsekStep}
use Rattle.osek_scheduler.proofs.Tests.{on_some_is, if_true_is}
use Rattle.sloth_base.specs.Arithmetic.{size_of}
use Rattle.sloth_base.specs.Limits.{resource_limit}
use Rattle.sloth_base.specs.ConfigRange.{scheduler_number}
use Rattle.code_rules.specs.AppRange.{IsRegister, IsOp, IsLabel, IsResource, IsObject}
use Rattle.code_rules.specs.Code.{service_op, is_last}
use Rattle.osek_scheduler.proofs.Facts.{Facts}
use Rattle.osek_scheduler.specs.Valid.{held_by, AreCalls, IsCalledFrom, InState, IsValidTask, IsValid}
use Rattle.osek_scheduler.specs.Apart.{TasksAreApart}
use Rattle.osek_scheduler.proofs.Stacks.{has_body}
use Rattle.osek_scheduler.proofs.Going.{Running, running}

-- the data have their declared sizes
sizes_at : (xs : List (List ℕ)) (ys : List Symbol) (y : ℕ) → map length xs ≡ map (λ y. length y.bytes) ys → y < length ys
    → (y < length xs) × (length (get_or xs y []) ≡ length (get_or ys y no_symbol).bytes)
sizes_at xs [] y e lt = absurd (omega (arith, lt))
sizes_at [] (b ∷ ys) y e lt = absurd cc
sizes_at (x ∷ xs) (b ∷ ys) zero e lt = (omega arith, cc)
sizes_at (x ∷ xs) (b ∷ ys) (suc y) e lt =
    let rest : map length xs ≡ map (λ y. length y.bytes) ys = cc in
    let r = sizes_at xs ys y rest (omega (arith, lt)) in
    (omega (arith, r.0), r.1)

-- ---- registers

is_own_of : (r : ℕ) → IsRegister r → is_own r ≡ true
is_own_of r (inl e) = subst (λ x. is_own x ≡ true) (sym e) refl
is_own_of r (inr b) = or_right (r == 0) _ (and_from _ _ (le-leb 5 r b.0) (lt-ltb r 30 (omega (arith, b.1))))

own_one : (a : ℕ) → IsRegister a → list_all is_own (a ∷ []) ≡ true
own_one a h = and_from _ _ (is_own_of a h) refl

own_two : (a b : ℕ) → IsRegister a → IsRegister b → list_all is_own (a ∷ b ∷ []) ≡ true
own_two a b h i = and_from _ _ (is_own_of a h) (own_one b i)

own_registers : (config : Config) (app : App) (f : Func) (o : Op) → IsOp config app f o → list_all is_own (registers_of o) ≡ true
own_registers config app f (op.Alu kind rd a b) i = and_from _ _ (is_own_of rd i.0) (own_two a b i.1 i.2)
own_registers config app f (op.AluImm kind rd a n) i = own_two rd a i.0 i.1
own_registers config app f (op.Lui rd n) i = own_one rd i.0
own_registers config app f (op.Li rd v) i = own_one rd i.0
own_registers config app f (op.FrameLoad rd word) i = own_one rd i.0
own_registers config app f (op.FrameStore rs word) i = own_one rs i.0
own_registers config app f (op.Load w rd y offset) i = own_one rd i.0
own_registers config app f (op.Store w rs y offset) i = own_one rs i.1
own_registers config app f (op.LoadAt w rd y index mask) i = own_two rd index i.0 i.2
own_registers config app f (op.StoreAt w rs y index mask) i = own_two rs index i.1 i.3
own_registers config app f (op.Branch kind a b l) i = own_two a b i.0 i.1
own_registers config app f (op.Jump l) i = refl
own_registers config app f (op.Invoke g) i = refl
own_registers config app f op.Return i = refl
own_registers config app f (op.Serve call) i = refl

last_of : (r : ℕ) (front : List ℕ) → is_last r (front ++ r ∷ []) ≡ true
last_of r [] = eq-eqb r r refl
last_of r (x ∷ []) = eq-eqb r r refl
last_of r (x ∷ y ∷ ys) = last_of r (y ∷ ys)

-- ---- items and services

module _ (config : Config) (app : App) (w : Facts config app) (t : ℕ) (k : Task) (frame : Frame) (outer : List Frame) (symbols : List (List ℕ))
    (same : map length symbols ≡ map (λ y. length y.bytes) app.symbols) where
  abbrev Means : Op → Type 0
  Means o = (m : ItemMeaning) × (meaning app o k.registers frame outer symbols ≡ Some m)

  inside : (y offset : ℕ) (width : Width) → y < length app.symbols → offset + size_of width ≤ symbol_size app y
      → accessed_bytes symbols y width offset ≡ Some (get_or symbols y [])
  inside y offset width lt le =
      let r = sizes_at symbols app.symbols y same lt in
      cond-true _ _ _ (and_from _ _ (lt-ltb _ _ r.0) (le-leb _ _ (subst (λ n. offset + size_of width ≤ n) (sym r.1) le)))

  load_means : (width : Width) (rd y offset : ℕ) → y < length app.symbols → offset + size_of width ≤ symbol_size app y
      → (m : ItemMeaning) × (load_meaning width rd y offset k.registers frame outer symbols ≡ Some m)
  load_means width rd y offset lt le = (_, on_some_is _ _ (get_or symbols y []) (Some _) (inside y offset width lt le) refl)

  store_means : (width : Width) (rs y offset : ℕ) → y < length app.symbols → offset + size_of width ≤ symbol_size app y
      → (m : ItemMeaning) × (store_meaning width rs y offset k.registers frame outer symbols ≡ Some m)
  store_means width rs y offset lt le = (_, on_some_is _ _ (get_or symbols y []) (Some _) (inside y offset width lt le) refl)

  masked_in : (y mask x : ℕ) (width : Width) → mask + size_of width ≤ symbol_size app y → bit_and x mask + size_of width ≤ symbol_size app y
  masked_in y mask x width le = omega (arith, le, and_le_r x mask)

  -- only a function that was called returns
  return_means : Running config app t k frame outer op.Return → Means op.Return
  return_means r = by outer r.called
    where
      clash : (o : Option ℕ) → o ≡ None → o ≡ Some t → ⊥
      clash None a b = absurd cc
      clash (Some x) a b = absurd cc

      by : (fs : List Frame) → IsCalledFrom app t frame.func fs
          → (m : ItemMeaning) × (on_some (returned_frames fs) (λ frames. Some (record { registers = k.registers; frames = frames; symbols = symbols; result = 0 })) ≡ Some m)
      by [] called =
          let body = has_body config app w t r.declared in
          absurd (clash (function app frame.func).task (w.returns_in_func frame.func frame.item r.item)
          (subst (λ f. (function app f).task ≡ Some t) (sym called) body.1))
      by (caller ∷ rest) called = (_, refl)

  label_is : (l : ℕ) → IsLabel (function app frame.func) l → target app frame l ≡ Some (label_of (function app frame.func) l).item
  label_is l lt = on_some_is _ _ _ _ (slice_get-get_or (function app frame.func).labels l no_label lt) refl

  abbrev Executed : Op → Type 0
  Executed o = (m : ItemMeaning) × (execution app o k.registers frame outer symbols ≡ Some m)

  executes : (o : Op) → Running config app t k frame outer o → Executed o ⊎ ((call : Call) × (o ≡ op.Serve call))
  executes (op.Alu kind rd a b) r = inl (_, refl)
  executes (op.AluImm kind rd a n) r = inl (_, refl)
  executes (op.Lui rd n) r = inl (_, refl)
  executes (op.Li rd v) r = inl (_, refl)
  executes (op.FrameLoad rd word) r =
      inl (_, if_true_is _ _ _ (lt-ltb _ _ (subst (λ n. word < n) (sym r.is_frame.words) (w.frame_loads frame.func frame.item rd word r.item))) refl)
  executes (op.FrameStore rs word) r =
      inl (_, if_true_is _ _ _ (lt-ltb _ _ (subst (λ n. word < n) (sym r.is_frame.words) (w.frame_stores frame.func frame.item rs word r.item))) refl)
  executes (op.Load width rd y offset) r =
      inl (load_means width rd y offset (w.items frame.func frame.item (op.Load width rd y offset) r.item).1
      (w.loads frame.func frame.item rd y offset width r.item))
  executes (op.Store width rs y offset) r =
      inl (store_means width rs y offset (w.items frame.func frame.item (op.Store width rs y offset) r.item).2
      (w.stores frame.func frame.item rs y offset width r.item))
  executes (op.LoadAt width rd y index mask) r =
      inl (load_means width rd y (bit_and (register k.registers index) mask) (w.items frame.func frame.item (op.LoadAt width rd y index mask) r.item).1
      (masked_in y mask _ width (w.masked_loads frame.func frame.item rd y index mask width r.item)))
  executes (op.StoreAt width rs y index mask) r =
      inl (store_means width rs y (bit_and (register k.registers index) mask) (w.items frame.func frame.item (op.StoreAt width rs y index mask) r.item).2
      (masked_in y mask _ width (w.masked_stores frame.func frame.item rs y index mask width r.item)))
  executes (op.Branch kind a b l) r =
      inl (_, on_some_is _ _ _ (Some _) (label_is l (w.items frame.func frame.item (op.Branch kind a b l) r.item).2) refl)
  executes (op.Jump l) r = inl (_, on_some_is _ _ _ (Some _) (label_is l (w.items frame.func frame.item (op.Jump l) r.item)) refl)
  executes (op.Invoke f) r = inl (_, if_true_is _ _ _ (lt-ltb _ _ (w.items frame.func frame.item (op.Invoke f) r.item).0) refl)
  executes op.Return r = inl (return_means r)
  executes (op.Serve call) r = inr (call, refl)

  pub means : (o : Op) → Running config app t k frame outer o → Means o ⊎ ((call : Call) × (o ≡ op.Serve call))
  means o r = by (executes o r)
    where
      by : Executed o ⊎ ((call : Call) × (o ≡ op.Serve call)) → Means o ⊎ ((call : Call) × (o ≡ op.Serve call))
      by (inl e) = inl (e.0, if_true_is _ _ _ (own_registers config app (function app frame.func) o (w.items frame.func frame.item o r.item)) e.1)
      by (inr c) = inr c

  -- what a service names is there, and what is released was taken last
  resource_there : (q : ℕ) → IsResource config q → is_resource config q ≡ true
  resource_there q h = by (cases_eq q 32) h
    where
      few : length config.resources ≤ resource_limit
      few = w.in_range.configuration.few_resources

      at : (b : Bool) → (q == scheduler_number) ≡ b → cond b config.res_scheduler (ltb q (length config.resources)) ≡ true → is_resource config q ≡ true
      at b e found = subst (λ c. cond c config.res_scheduler (ltb q (length config.resources)) ≡ true) (sym e) found

      by : (q ≡ scheduler_number) ⊎ (q ≡ scheduler_number → ⊥) → IsResource config q → is_resource config q ≡ true
      by (inl e) (inl lt) = absurd (omega (arith, e, lt, few))
      by (inl e) (inr is) = at true (eq-eqb q 32 e) is.1
      by (inr n) (inl lt) = at false (ne_eqb q 32 n) (lt-ltb _ _ lt)
      by (inr n) (inr is) = absurd (n is.0)

  last_there : (q m : ℕ) → Running config app t k frame outer (service_op service.ReleaseResource q m) → is_last q k.held ≡ true
  last_there q m r =
      let last = w.releases_last frame.func frame.item q m r.item in
      ap (is_last q) (r.held ∙ ap (λ l. held_by app outer ++ l) last.1 ∙ sym (append_assoc (held_by app outer) last.0 (q ∷ [])))
      ∙ last_of q (held_by app outer ++ last.0)

  object_there : (kind : ObjectKind) (o : ℕ) → IsObject config kind o → is_object config kind o ≡ true
  object_there object.Nothing o h = refl
  object_there object.Task t h = lt-ltb _ _ h
  object_there object.Resource q h = resource_there q h
  object_there object.Alarm a h = lt-ltb _ _ h

  pub there : (sv : Service) (o m : ℕ) → Running config app t k frame outer (service_op sv o m) → is_there config k.held sv o ≡ true
  there sv o m r =
      cond_both (is_service sv service.ReleaseResource) (is_last o k.held) (is_object config (object_kind sv) o) (λ b. b ≡ true)
      (λ e. last_there o m (subst (λ (x : Service). Running config app t k frame outer (service_op x o m)) (same_service sv service.ReleaseResource e) r))
      (λ _. object_there (object_kind sv) o (w.items frame.func frame.item (service_op sv o m) r.item).0)

module _ (config : Config) (app : App) where
  -- a task that runs is at an item of its function
  pub position : (s : System) (t : ℕ) → IsValid config app s → t < length config.tasks → (task s t).state ≡ mode.Active → (task s t).owed ≡ false
      → (o : Op) × IsAt app s t o
  position s t v declared active free = by (task s t).frames refl (subst (InState config t (task s t)) active k.in_state).0 k.calls
    where
      k : IsValidTask config app t (task s t)
      k = v.each t declared

      by : (fs : List Frame) → (task s t).frames ≡ fs → ((task s t).frames ≡ [] → ⊥) → AreCalls app t (task s t).frames → (o : Op) × IsAt app s t o
      by [] e some calls = absurd (some e)
      by (frame ∷ outer) e some stack =
          let at = subst (AreCalls app t) e stack in (
            operation app frame.func frame.item,
            record { active = active; free = free; frame = frame; outer = outer; frames = e; inside = at.0.inside; next = refl },
          )

  -- the top task, where it is Active and owes nothing, has a next event
  pub goes : (s : System) (t : ℕ) → Facts config app → IsValid config app s → TasksAreApart config s → s.booted ≡ true → IsTop config s [] t → (task s t).state ≡ mode.Active
      → (task s t).owed ≡ false → (e : Event) × (admitted_line e ≡ None) × (next : System) × OsekStep config app e s next
  goes s t w v a booted top active free =
      let p = position s t v top.declared active free in
      let r = running config app s t p.0 v top.declared p.1 in
      by p.0 p.1 (means config app w t (task s t) p.1.frame p.1.outer s.symbols v.sizes p.0 r)
    where
      not_fresh : (b : Bool) → is_in t s.fresh ≡ b → is_in t s.fresh ≡ false
      not_fresh false e = e
      not_fresh true e = absurd (clash (task s t).state active (a.fresh_ready t e))
        where
          clash : (m : TaskState) → m ≡ mode.Active → m ≡ mode.Ready → ⊥
          clash mode.Suspended x y = absurd cc
          clash mode.Ready x y = absurd cc
          clash mode.Active x y = absurd cc
          clash (mode.Waiting n) x y = absurd cc

      top_but : IsTop config s s.fresh t
      top_but = record {
        declared = top.declared;
        due = top.due;
        is_greatest = λ u lt due out. top.is_greatest u lt due refl;
        is_not_left_out = not_fresh (is_in t s.fresh) refl;
        no_ticks = top.no_ticks;
      }

      names : (call : Call) → IsAt app s t (op.Serve call) → is_there config (task s t).held call.service call.object ≡ true
      names call at =
          there config app w t (task s t) at.frame at.outer s.symbols v.sizes call.service call.object call.mask
          (running config app s t (op.Serve call) v top.declared at)

      answered_by : (call : Call) → (at : IsAt app s t (op.Serve call)) → (answer : ServiceOutcome) → outcome config call.service call.object call.mask t s ≡ answer
          → (e : Event) × (admitted_line e ≡ None) × (next : System) × OsekStep config app e s next
      answered_by call at (GoesOn status after) e = (
        event.Call t call.service status,
        refl,
        settled_state after,
        (booted, (after, record { top = top_but; call = call; at = at; same = refl; names = names call at; is = e }, refl)),
      )
      answered_by call at (Leaves after) e =
          (event.Left t call.service, refl, settled_state after, (booted, (after, record { top = top_but; call = call; at = at; same = refl; names = names call at; is = e }, refl)))

      by : (o : Op) → (at : IsAt app s t o)
          → ((m : ItemMeaning) × (meaning app o (task s t).registers at.frame at.outer s.symbols ≡ Some m)) ⊎ ((call : Call) × (o ≡ op.Serve call))
          → (e : Event) × (admitted_line e ≡ None) × (next : System) × OsekStep config app e s next
      by o at (inl m) = (
        event.Run t at.frame.func at.frame.item m.0.result,
        refl,
        settled_state (record (with_task s t (record (task s t) { registers = m.0.registers; frames = m.0.frames })) { symbols = m.0.symbols }),
        (
          booted,
          record {
            top = top;
            operation = o;
            at = at;
            in_function = refl;
            at_item = refl;
            meant = m.0;
            means = m.1;
            shows = refl;
            is = refl;
          },
        ),
      )
      by o at (inr c) = let P : Op → Type 0 = λ x. IsAt app s t x in answered_by c.0 (subst P c.1 at) _ refl
