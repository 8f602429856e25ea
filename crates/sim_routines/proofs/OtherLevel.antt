-- The running task goes on at another level: what it holds may have changed, and of RAM the word of one resource.
use Rattle.std.proofs.Common.{◌≡◌, ℕ, ◌+◌, ◌%◌, ◌<◌, ◌≤◌, List, ◌∷◌, length, refl, sym, ap, ◌∙◌, subst, arith, inl, inr, true}
use Rattle.std.specs.Prelude.{◌≢◌, slice_index}
use Rattle.sloth_base.specs.Machine.{State}
use Rattle.sloth_base.specs.PriorityLevels.{level_of}
use Rattle.sloth_base.specs.declared.service.Service.{Service}
use Rattle.sloth_region.specs.Layout.{cur, below_word, active as active_place, events, wait, resume, saved_level, idle_context}
use Rattle.rv32_instr.specs.Ram.{word_at}
use Rattle.masked_code.specs.Kernel.{IsOpenedCore}
use Rattle.osek_scheduler.specs.declared.state.TaskState.TheVariants as mode
use Rattle.osek_scheduler.specs.State.{Task, System, task}
use Rattle.sloth_base.specs.Named.{declaration}
use Rattle.sloth_base.specs.Limits.{ceiling_count}
use Rattle.osek_scheduler.specs.Meaning.{going_on_frame}
use Rattle.code_rules.specs.Code.{is_in}
use Rattle.osek_scheduler.specs.Priority.{is_active, current_priority}
use Rattle.osek_scheduler.specs.Services.{moved_frames}
use Rattle.sim_relation.specs.Build.{Build, HasFittingPlaces}
use Rattle.sim_relation.specs.Context.{RunsTask, RunsFirst}
use Rattle.sim_relation.specs.Moves.{moved_system, TaskMove}
use Rattle.sim_relation.specs.Position.{AreFrames, IsPosition, thread_of}
use Rattle.sim_relation.specs.ServiceWords.{AreServiceWords, AreHeldWords, IsWaitWord, active_word, base_priority}
use Rattle.sim_relation.specs.Stands.{Stands, IsActiveTask}
use Rattle.sim_relation.proofs.AtItem.{position_first}
use Rattle.sim_relation.proofs.ClockKept.{clock_kept}
use Rattle.sim_relation.proofs.Contexts.{data_kept}
use Rattle.sim_relation.proofs.Framing.{frames_kept}
use Rattle.sim_relation.proofs.Machines.{left_same}
use Rattle.sim_relation.proofs.Parts.{service_kept}
use Rattle.sim_relation.proofs.Placed.{first_by_word, active_by_word}
use Rattle.sim_relation.proofs.TaskMoves.{task_moves}
use Rattle.sim_relation.proofs.TaskSteps.{active_resumes, resumes_active}
use Rattle.sim_routines.specs.Opening.{AtOpening, IsFollowed}
use Rattle.sim_routines.specs.Served.{IsServed}
use Rattle.sim_routines.proofs.GoesOn.{active, frames_are, free, stood}

-- what a routine leaves: the word of one resource may have changed, and no other part of RAM below code, data and stacks
pub record AtOtherLevel (b : Build) (state : State) (s : System) (t resource : ℕ) (own : Task) (level : ℕ) (ram : List ℕ) (end : State) : Type 0 where
  pub left : IsOpenedCore (record state.core { ilevel = level; ram = ram }) end.core
  pub x2 : slice_index end.core.registers 2 ≡ slice_index state.core.registers 2
  pub active : own.state ≡ mode.Active
  pub events : own.events ≡ (task s t).events
  pub long : length own.registers ≡ 25
  pub same : (i : ℕ) → i < 25 → slice_index own.registers i ≡ slice_index end.core.registers (i + 5)
  pub words : AreHeldWords b ram (base_priority b t own) own.held
  pub few : (r : ℕ) → is_in r own.held ≡ true → r < ceiling_count
  pub ram_long : length ram ≡ length state.core.ram
  pub high : (i : ℕ) → idle_context ≤ i → slice_index ram i ≡ slice_index state.core.ram i
  pub named : (p : ℕ) → p % 4 ≡ 0 → p ≢ saved_level resource → word_at ram p ≡ word_at state.core.ram p
  pub others : (u r : ℕ) → u < length b.config.tasks → u ≢ t → is_in r (task s u).held ≡ true → word_at ram (saved_level r) ≡ word_at state.core.ram (saved_level r)
  pub level_is : (below : List ℕ) → RunsTask b state s t below → level ≡ level_of b.config (current_priority b.config (declaration b.config t) own)
  pub position : (below : List ℕ) (run : RunsTask b state s t below) → IsPosition b end.core.ram t own (thread_of end) run.place

module _ (b : Build) (state : State) (s : System) (k : Stands b state s) (fits : HasFittingPlaces b) (t : ℕ) (current : word_at state.core.ram cur ≡ t + 1)
    (resource : ℕ) (own : Task) (level : ℕ) (ram : List ℕ) (end : State) (h : AtOtherLevel b state s t resource own level ram end) where
  here : IsActiveTask b s t
  here = active_by_word b state s t k current

  abbrev old : List ℕ
  old = state.core.ram

  abbrev new : List ℕ
  new = end.core.ram

  high : (i : ℕ) → idle_context ≤ i → slice_index new i ≡ slice_index old i
  high i l = ap (λ r. slice_index r i) h.left.ram ∙ h.high i l

  named : (p : ℕ) → p % 4 ≡ 0 → p ≢ saved_level resource → word_at new p ≡ word_at old p
  named p a n = ap (λ r. word_at r p) h.left.ram ∙ h.named p a n

  own_words : AreServiceWords b new t own
  own_words =
      let g = fits.few_tasks in
      let l = here.declared in
      let w = k.words t l in
      record {
        activity = named (active_place t) (omega arith) (λ e. omega arith) ∙ w.activity ∙ ap active_word here.active ∙ sym (ap active_word h.active);
        event_mask = named (events t) (omega arith) (λ e. omega arith) ∙ w.event_mask ∙ sym h.events;
        wait_mask = subst (λ m. IsWaitWord m (word_at new (wait t))) (sym h.active) tt;
        resumption = resumes_active b new t own (is_active own.state) own.frames (ap is_active h.active)
            (named (resume t) (omega arith) (λ e. omega arith)
            ∙ active_resumes b old t (task s t) (is_active (task s t).state) (task s t).frames (ap is_active here.active) w.resumption);
        held = subst (λ r. AreHeldWords b r (base_priority b t own) own.held) (sym h.left.ram) h.words;
      }

  other_words : (u : ℕ) → u < length b.config.tasks → u ≢ t → AreServiceWords b new u (task s u)
  other_words u l n =
      let g = fits.few_tasks in
      service_kept b old new u (task s u)
      (named (active_place u) (omega arith) (λ e. omega arith)) (named (events u) (omega arith) (λ e. omega arith))
      (named (wait u) (omega arith) (λ e. omega arith)) (named (resume u) (omega arith) (λ e. omega arith))
      (λ r i. ap (λ m. word_at m (saved_level r)) h.left.ram ∙ h.others u r l n i)
      (λ a f i x y. let low = fits.from u l in high i (omega arith)) (k.words u l)

  module _ (below : List ℕ) (stack_is : k.stack ≡ t ∷ below) where
    run : RunsTask b state s t below
    run = subst (RunsFirst b state s) stack_is k.running

    move : TaskMove b state end s t own s.symbols
    move = record {
      machine = left_same b state end _ k.fixed h.left (ap length h.left.ram ∙ h.ram_long) refl refl refl refl;
      active = h.active;
      level = h.left.running ∙ h.level_is below run;
      current = named cur (omega arith) (λ e. omega arith);
      link = named below_word (omega arith) (λ e. omega arith);
      idle = λ i x y. high i x;
      code = λ i x. let g = fits.elsewhere i (inl x) in high i (omega arith);
      others = λ u l n a i x y. let g = fits.from u l in high i (omega arith);
      own_words = own_words;
      other_words = other_words;
      clock = clock_kept b old new s.clock fits (λ p from to a. named p a (λ e. omega arith)) k.clock;
      tidy = record {
        registers = h.long;
        at_rest = λ a. let c = ap is_active h.active in cc;
        asleep = λ a. let c = h.active in cc;
        few = h.few;
      };
      place = run.place;
      context = record {
        x2 = h.x2 ∙ run.context.x2;
        registers = h.same;
        position = h.position below run;
        room = run.context.room;
        aligned = run.context.aligned;
      };
      data_stands = data_kept b old new s.symbols (λ i x. let g = fits.elsewhere i (inr x) in high i (omega arith)) k.data_stands;
    }

    moves : Stands b end (moved_system s t own s.symbols)
    moves = task_moves b state end s k t below stack_is own s.symbols move

  -- the relation stands there
  pub at_other_level : Stands b end (moved_system s t own s.symbols)
  at_other_level = let f = first_by_word b state s t k.stack k.running current in moves f.0 f.1

-- where a service goes back to its caller, the task stands at the item behind it
module _ (b : Build) (state : State) (s : System) (t : ℕ) (called : Task) (served : Service) (is : IsServed b state s t called served) (fits : HasFittingPlaces b)
    (followed : IsFollowed b is.opening.frame.func is.opening.frame.item) (end : State) (pc : end.pc ≡ slice_index state.core.registers 31)
    (ram : List ℕ) (ram_is : end.core.ram ≡ ram) (high : (i : ℕ) → idle_context ≤ i → slice_index ram i ≡ slice_index state.core.ram i)
    (own : Task) (frames : own.frames ≡ moved_frames (task s t).frames) (owes : own.owed ≡ (task s t).owed) (below : List ℕ) (run : RunsTask b state s t below) where
  abbrev opening : AtOpening b state t called served
  opening = is.opening

  low : 1024 ≤ run.place
  low = let r = run.context.room in let f = fits.from t (active b state s t called served is fits).declared in omega arith

  frames_now : AreFrames b end.core.ram (going_on_frame opening.frame) opening.outer run.place (b.top t)
  frames_now =
      frames_kept b state.core.ram end.core.ram run.place (b.top t) (λ i x y. let l = low in ap (λ r. slice_index r i) ram_is ∙ high i (omega arith))
      opening.frame opening.outer run.place (omega arith)
      (stood b state s t called served is fits run.place run.context.position)

  pub position_behind : IsPosition b end.core.ram t own (thread_of end) run.place
  position_behind =
      position_first b end.core.ram t own (thread_of end) run.place (going_on_frame opening.frame) opening.outer
      (frames ∙ ap moved_frames (frames_are b state s t called served is fits)) (owes ∙ free b state s t called served is fits) followed.more
      (pc ∙ opening.block.returns ∙ sym followed.adjacent) frames_now
