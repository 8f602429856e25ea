-- The law of the entry of a task behind its wait.
use Rattle.std.proofs.Common.{◌≡◌, ℕ, ◌+◌, ◌*◌, ◌<◌, ◌≤◌, List, [], ◌∷◌, length, set, refl, sym, ap, ◌∙◌, subst, arith, ⊎_elim, inl, inr, Some}
use Rattle.std.specs.Prelude.{◌⊎◌, ◌≢◌, slice_index}
use Rattle.std.proofs.lemmas.Bool.{cases_eq}
use Rattle.std.proofs.lemmas.List.{get_or-set_same, get_or-set_other, length-set}
use Rattle.sloth_base.specs.declared.service.Event.TheVariants as event
use Rattle.sloth_base.specs.Machine.{State}
use Rattle.sloth_base.specs.Choose.{choose}
use Rattle.sloth_base.specs.Status.{E_OK}
use Rattle.sloth_region.specs.Layout.{cur, resume, idle_context}
use Rattle.rv32_instr.specs.Ram.{word_at, with_word}
use Rattle.vector_gen.specs.Fresh.{saved_registers}
use Rattle.masked_code.proofs.Words.{word_at-same, get_or-with_word, length-with_word}
use Rattle.osek_scheduler.specs.declared.state.TaskState.TheVariants as mode
use Rattle.osek_scheduler.specs.State.{Frame, Task, System, HasBody, task, with_task}
use Rattle.sloth_base.specs.Named.{declaration}
use Rattle.sloth_base.specs.Limits.{task_limit}
use Rattle.sloth_base.specs.MemoryMap.{memory_base, line_count}
use Rattle.osek_scheduler.specs.Priority.{is_active}
use Rattle.osek_scheduler.specs.Services.{started_task, entered_state}
use Rattle.osek_scheduler.specs.Steps.{OsekStep, settled_state}
use Rattle.sim_relation.specs.Build.{Build, HasFittingPlaces}
use Rattle.sim_relation.specs.Framing.{AreSameBytes}
use Rattle.sim_relation.specs.Position.{thread_of}
use Rattle.sim_relation.specs.Context.{IsContext, IsRested}
use Rattle.sim_relation.specs.Progress.{HasPassed}
use Rattle.sim_relation.specs.Stands.{Stands, IsAlive}
use Rattle.sim_relation.specs.Entry.{EntryRam, TaskEntry}
use Rattle.sim_relation.proofs.AtItem.{rested_context}
use Rattle.sim_relation.proofs.Contexts.{context_same}
use Rattle.sim_relation.proofs.Parts.{word_other}
use Rattle.sim_relation.proofs.Entering.{entry_stands}
use Rattle.sim_relation.proofs.Choice.{taken_ready, taken_top}
use Rattle.sim_relation.proofs.Room.{first_room}
use Rattle.sim_routines.specs.Range.{IsSane}
use Rattle.sim_routines.specs.Entries.{IsEntryBehindWait}
use Rattle.sim_routines.proofs.EntryRam.{IsStored}
use Rattle.sim_routines.proofs.OwnContext.{HasOwn, own_context, own_apart}
use Rattle.sim_routines.proofs.Saving.{preempted, cleared, saved, is_saved, entry_ram, entry_machine}

module _ (b : Build) (state end : State) (s : System) (t place own : ℕ) (fits : HasFittingPlaces b) (k : Stands b state s) (sane : IsSane state)
    (declared : t < length b.config.tasks) (e : choose state.core ≡ Some t) (some : (task s t).frames ≢ []) (has_body : HasBody b.app t)
    (x2 : slice_index state.core.registers 2 ≡ memory_base + (place + 128)) (link : word_at state.core.ram (resume t) ≡ memory_base + own)
    (ran : HasPassed b state s) (effect : IsEntryBehindWait b t place own state end) where
  few : length b.config.tasks ≤ line_count
  few = let f = fits.few_tasks in omega arith

  few30 : t < task_limit
  few30 = let g = fits.few_tasks in let l = declared in omega arith

  ready : (task s t).state ≡ mode.Ready
  ready = taken_ready b state s k few t declared e

  abbrev has : HasOwn b state.core.ram t (task s t)
  has = own_context b state s t fits k declared e some

  abbrev after : Task
  after = record (task s t) { state = mode.Active; registers = set (task s t).registers 5 E_OK; raised = (declaration b.config t).non }

  is_next : settled_state (with_task s t after) ≡ settled_state (entered_state b.config b.app t s)
  is_next = ap (λ u. settled_state (with_task s t (record u { state = mode.Active; raised = (declaration b.config t).non }))) (again (task s t).frames some)
    where
      again : (frames : List Frame) → frames ≢ [] → record (task s t) { registers = set (task s t).registers 5 E_OK } ≡ started_task b.app t frames (task s t)
      again [] n = absurd (n refl)
      again (frame ∷ outer) n = refl

  rested : IsRested b state.core.ram t (task s t) has.frame has.outer own
  rested =
      let same : has.place ≡ own = let l = has.rested.link in omega arith in
      subst (λ (p : ℕ). IsRested b state.core.ram t (task s t) has.frame has.outer p) same has.rested

  apart_own : (b.top t ≤ place) ⊎ (place + 128 ≤ b.low t)
  apart_own = own_apart b state s t fits k declared e some place x2

  -- ---- the RAM: the entry clears no frame

  from : b.low t ≤ b.top t
  from = let g = first_room b fits t declared in omega arith

  to : b.top t + 4 * 0 ≤ b.top t
  to = omega arith

  apart_top : (place + 128 ≤ b.top t) ⊎ (b.top t + 4 * 0 ≤ place)
  apart_top = let g = from in ⊎_elim (λ (a : b.top t ≤ place). inr (omega arith)) (λ (a : place + 128 ≤ b.low t). inl (omega arith)) apart_own

  abbrev before : List ℕ
  before = saved state t place (b.top t) 0

  is_stored : IsStored state.core.ram (preempted state) (saved_registers state.core) (cleared 0) place t (b.top t) before
  is_stored = is_saved b state s t place fits k sane declared x2 (b.top t) 0 from to apart_top

  abbrev new : List ℕ
  new = with_word before (resume t) 0

  ram_is : end.core.ram ≡ new
  ram_is = effect.left.ram

  high : (i : ℕ) → idle_context ≤ i → slice_index new i ≡ slice_index before i
  high i h = let d = few30 in get_or-with_word before (resume t) 0 i (inr (omega arith))

  ram : EntryRam b state new t place
  ram = entry_ram b state s t place fits k sane declared x2 (b.top t) 0 from to apart_top new (length-with_word before (resume t) 0) high
      (λ p h n. word_other before (resume t) 0 p h (omega arith) n)
      (let l = is_stored.long in let d = few30 in word_at-same before (resume t) 0 (omega arith) (omega arith))

  -- its own stack stays
  own_stack : AreSameBytes state.core.ram end.core.ram (own + 128) (b.top t)
  own_stack i l h =
      let f = fits.from t declared in
      let r = rested.room in
      ap (λ v. slice_index v i) ram_is ∙ high i (omega arith)
      ∙ is_stored.outside i (omega arith) (⊎_elim (λ (z : b.top t ≤ place). inl (omega arith)) (λ (z : place + 128 ≤ b.low t). inr (omega arith)) apart_own) (inl h)

  -- ---- the task goes on as its context says, but for a0

  register_is : (i : ℕ) → i < 25 → slice_index after.registers i ≡ slice_index end.core.registers (i + 5)
  register_is i l =
      let long = (k.tidy.each t declared).registers in
      ⊎_elim
      (λ (h : i ≡ 5). ap (slice_index after.registers) h ∙ get_or-set_same (task s t).registers 5 E_OK 0 (omega arith) ∙ sym effect.status
      ∙ ap (λ j. slice_index end.core.registers j) (omega arith))
      (λ (h : i ≡ 5 → ⊥). get_or-set_other (task s t).registers 5 i E_OK 0 h ∙ rested.registers i l
      ∙ sym (effect.loaded (i + 5) (omega arith) (omega arith) (λ q. h (omega arith))))
      (cases_eq i 5)

  at_old : IsContext b state.core.ram t after (thread_of end) (own + 128)
  at_old = rested_context b state.core.ram t (task s t) after has.frame has.outer own (thread_of end) rested has.frames ((k.tidy.each t declared).at_rest (ap is_active ready)).1
      effect.pc effect.x2 register_is

  context : IsContext b end.core.ram t after (thread_of end) (own + 128)
  context = context_same b state.core.ram end.core.ram t after after (thread_of end) (thread_of end) (own + 128) refl
      (record { pc = refl; x2 = refl; x = λ i x y. refl }) own_stack at_old

  alive : IsAlive (task s t)
  alive = inr some

  entry : TaskEntry b state end s t after place
  entry = record {
    ram = subst (λ x. EntryRam b state x t place) (sym ram_is) ram;
    machine = entry_machine b state s t place fits k sane declared x2 end new effect.left;
    state = refl;
    events = refl;
    held = refl;
    raised = refl;
    registers = length-set (task s t).registers 5 E_OK ∙ (k.tidy.each t declared).registers;
    x2 = x2;
    apart = λ u h n a. k.apart t u declared h (λ z. n (sym z)) alive a;
    frame = own + 128;
    context = context;
  }

  -- the task runs
  pub resumed_word : word_at end.core.ram cur ≡ t + 1
  resumed_word = entry.ram.current

  -- The entry is a step of the abstract machine, and the states stand.
  pub resume_law : OsekStep b.config b.app (event.Enter t) s (settled_state (entered_state b.config b.app t s)) × Stands b end (settled_state (entered_state b.config b.app t s))
  resume_law =
      ((k.tidy.booted, taken_top b state s k few t declared e, ready, has_body, refl), subst (λ x. Stands b end x) is_next (entry_stands b state end s k fits t declared e after place ran entry))
