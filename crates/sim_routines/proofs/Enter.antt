-- The law of the entry of a task that starts anew.
use Rattle.std.proofs.Common.{◌≡◌, ℕ, ◌+◌, ◌-◌, ◌*◌, ◌%◌, ◌<◌, ◌≤◌, [], ◌∷◌, length, refl, sym, ap, ◌∙◌, subst, arith, ⊎_elim, inl, inr, Some}
use Rattle.std.specs.Prelude.{◌⊎◌, slice_index}
use Rattle.std.proofs.lemmas.Bool.{cases_lt}
use Rattle.std.proofs.lemmas.List.{get_or_past}
use Rattle.sloth_base.specs.declared.app.App.{App}
use Rattle.sloth_base.specs.declared.app.Func.{Func}
use Rattle.sloth_base.specs.declared.service.Event.TheVariants as event
use Rattle.sloth_base.specs.Machine.{State}
use Rattle.sloth_base.specs.Choose.{choose}
use Rattle.sloth_region.specs.Layout.{cur, resume}
use Rattle.rv32_instr.specs.Ram.{word_at}
use Rattle.osek_scheduler.specs.declared.state.TaskState.TheVariants as mode
use Rattle.osek_scheduler.specs.State.{Task, System, task, with_task, entry_frame, zero_registers}
use Rattle.sloth_base.specs.Named.{declaration, body_of}
use Rattle.sloth_base.specs.Named.{function, no_function}
use Rattle.sloth_base.specs.MemoryMap.{memory_base, line_count}
use Rattle.osek_scheduler.specs.Priority.{is_active}
use Rattle.osek_scheduler.specs.Services.{started_task, entered_state}
use Rattle.osek_scheduler.specs.Steps.{OsekStep, settled_state}
use Rattle.sim_relation.specs.Build.{Build, HasFittingPlaces}
use Rattle.sim_relation.specs.Position.{AreWords, thread_of}
use Rattle.sim_relation.specs.Context.{IsContext}
use Rattle.sim_relation.specs.Progress.{HasPassed}
use Rattle.sim_relation.specs.Stands.{Stands}
use Rattle.sim_relation.specs.Entry.{EntryRam, TaskEntry}
use Rattle.sim_relation.proofs.AtItem.{position_first}
use Rattle.sim_relation.proofs.Parts.{rests}
use Rattle.sim_relation.proofs.Tops.{falling_active}
use Rattle.sim_relation.proofs.Entering.{entry_stands}
use Rattle.sim_relation.proofs.Choice.{taken_ready, taken_top}
use Rattle.sim_relation.proofs.Room.{first_room}
use Rattle.sim_routines.specs.Range.{IsSane}
use Rattle.sim_routines.specs.Entries.{IsNewEntry, StandsAlone, body_frame_words}
use Rattle.sim_routines.proofs.EntryRam.{IsStored}
use Rattle.sim_routines.proofs.Saving.{preempted, cleared, cleared_long, saved, is_saved, entry_ram, entry_machine}
use Rattle.sim_routines.proofs.Spot.{zero_at, stored_apart}
use Rattle.vector_gen.specs.Fresh.{saved_registers}

-- a function that has items is there
pub there : (app : App) (f : ℕ) → 0 < length (function app f).items → f < length app.funcs
there app f h =
    ⊎_elim
    (λ (l : f < length app.funcs). l)
    (λ (l : length app.funcs ≤ f). let e = ap (λ (g : Func). length g.items) (get_or_past app.funcs f no_function l) in absurd (omega arith))
    (cases_lt f (length app.funcs))

module _ (b : Build) (state end : State) (s : System) (t place : ℕ) (fits : HasFittingPlaces b) (k : Stands b state s) (sane : IsSane state)
    (declared : t < length b.config.tasks) (e : choose state.core ≡ Some t) (fresh : (task s t).frames ≡ []) (has_item : 0 < length (function b.app (body_of b.app.funcs t)).items) (alone : StandsAlone b s t)
    (x2 : slice_index state.core.registers 2 ≡ memory_base + (place + 128)) (ran : HasPassed b state s) (effect : IsNewEntry b t place state end) where
  few : length b.config.tasks ≤ line_count
  few = let f = fits.few_tasks in omega arith

  ready : (task s t).state ≡ mode.Ready
  ready = taken_ready b state s k few t declared e

  abbrev words : ℕ
  words = body_frame_words b t

  abbrev frame : ℕ
  frame = b.top t - 4 * words

  abbrev own : Task
  own = record (task s t) { state = mode.Active; registers = zero_registers; frames = entry_frame b.app (body_of b.app.funcs t) ∷ []; raised = (declaration b.config t).non }

  is_next : settled_state (with_task s t own) ≡ settled_state (entered_state b.config b.app t s)
  is_next = sym (ap (λ fs. settled_state (with_task s t (record (started_task b.app t fs (task s t)) { state = mode.Active; raised = (declaration b.config t).non }))) fresh)

  frame_room : (b.low t + 128 ≤ frame) × (frame + 4 * words ≡ b.top t) × (frame % 4 ≡ 0)
  frame_room = let g = first_room b fits t declared in let z = fits.to t declared in (omega arith, omega arith, omega arith)

  from : b.low t ≤ frame
  from = let g = frame_room in omega arith

  to : frame + 4 * words ≤ b.top t
  to = let g = frame_room in omega arith

  -- the context is stored apart from the frame
  apart_frame : (place + 128 ≤ frame) ⊎ (frame + 4 * words ≤ place)
  apart_frame =
      let g = frame_room in
      ⊎_elim (λ (a : b.top t ≤ place). inr (omega arith)) (λ (a : place + 128 ≤ b.low t). inl (omega arith))
      (stored_apart b state s k.stack place t fits x2 k.running (fits.from t declared)
      (λ v h.
      let c = falling_active b s k.stack k.active.falling v h in
      alone v c.declared (λ z. let r = ready in let d : (task s t).state ≡ mode.Active = subst (λ x. (task s x).state ≡ mode.Active) z c.active in cc) (inl c.active)))

  ram_is : end.core.ram ≡ saved state t place frame words
  ram_is = effect.left.ram

  is_stored : IsStored state.core.ram (preempted state) (saved_registers state.core) (cleared words) place t frame (saved state t place frame words)
  is_stored = is_saved b state s t place fits k sane declared x2 frame words from to apart_frame

  ram : EntryRam b state (saved state t place frame words) t place
  ram = entry_ram b state s t place fits k sane declared x2 frame words from to apart_frame (saved state t place frame words) refl (λ i h. refl) (λ p h n. refl)
      (let d = declared in
      let g = fits.few_tasks in
      is_stored.named (resume t) (omega arith) (omega arith) (λ a. omega arith) (λ a. omega arith) (λ a. omega arith)
      ∙ rests b state.core.ram t (task s t) (is_active (task s t).state) (task s t).frames fresh (k.words t declared).resumption)

  context : IsContext b end.core.ram t own (thread_of end) frame
  context = record {
    x2 = effect.x2;
    registers = λ i l. zero_at 25 i ∙ sym (effect.zeros (i + 5) (omega arith) (omega arith));
    position =
        position_first b end.core.ram t own (thread_of end) frame (entry_frame b.app (body_of b.app.funcs t)) [] refl
        ((k.tidy.each t declared).at_rest (ap is_active ready)).1 has_item effect.pc
        (cleared_long words, subst (λ x. AreWords x frame (cleared words)) (sym ram_is) is_stored.frame_words, ends);
    room = frame_room.0;
    aligned = frame_room.2;
  }
    where
      ends : frame + 4 * length (cleared words) ≡ b.top t
      ends = let n = cleared_long words in let g = frame_room in omega arith

  entry : TaskEntry b state end s t own place
  entry = record {
    ram = subst (λ x. EntryRam b state x t place) (sym ram_is) ram;
    machine = entry_machine b state s t place fits k sane declared x2 end (saved state t place frame words) effect.left;
    state = refl;
    events = refl;
    held = refl;
    raised = refl;
    registers = refl;
    x2 = x2;
    apart = alone;
    frame = frame;
    context = context;
  }

  stands : Stands b end (settled_state (with_task s t own))
  stands = entry_stands b state end s k fits t declared e own place ran entry

  -- the task runs
  pub entered_word : word_at end.core.ram cur ≡ t + 1
  entered_word = entry.ram.current

  -- The entry is a step of the abstract machine, and the states stand.
  pub enter_law : OsekStep b.config b.app (event.Enter t) s (settled_state (entered_state b.config b.app t s)) × Stands b end (settled_state (entered_state b.config b.app t s))
  enter_law = ((k.tidy.booted, taken_top b state s k few t declared e, ready, there b.app (body_of b.app.funcs t) has_item, refl), subst (λ x. Stands b end x) is_next stands)
