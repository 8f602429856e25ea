-- An instruction before the last one of an item shows nothing, and makes progress.
use Rattle.std.proofs.Common.{◌≡◌, ℕ, suc, ◌+◌, ◌-◌, ◌*◌, ◌/◌, ◌%◌, ◌<◌, ◌≤◌, List, [], ◌∷◌, length, refl, sym, ap, ◌∙◌, subst, arith, true, false, cond, inl, inr, ⊎_elim, None, ◌++◌}
use Rattle.std.specs.Prelude.{◌⊎◌, slice_index}
use Rattle.std.proofs.lemmas.Bool.{cases_lt, le-leb, lt-ltb, lt-leb, le-ltb, and_from, and_left, and_right}
use Rattle.std.proofs.lemmas.List.{set-get_or}
use Rattle.sloth_base.specs.declared.service.Arrival.{Arrival}
use Rattle.sloth_base.specs.Machine.{Core, State}
use Rattle.sloth_base.specs.MemoryMap.{memory_base, memory_bytes}
use Rattle.sloth_region.specs.Layout.{cur, context_bytes}
use Rattle.rv32_instr.specs.Execute.{Going, step, touched, touched_line_by, perform}
use Rattle.rv32_instr.specs.Ram.{word_at}
use Rattle.rv32_expand.specs.Expansion.{item_address, expansion}
use Rattle.sloth_base.specs.Named.{function}
use Rattle.observe.specs.Observe.{View, mark_at, outside_events}
use Rattle.osek_scheduler.specs.State.{Frame, Task, System, task, sleeping_task}
use Rattle.sim_induction.specs.Admits.{lines_at}
use Rattle.sim_induction.specs.PieceLaws.{seen_step_at}
use Rattle.sim_induction.proofs.Passing.{not_suspended, kept_admits}
use Rattle.sim_relation.specs.Build.{Build}
use Rattle.sim_relation.specs.Position.{IsPosition, thread_of}
use Rattle.sim_relation.specs.Context.{RunsFirst, RunsTask}
use Rattle.sim_relation.specs.Stands.{Stands, IsActiveTask}
use Rattle.sim_relation.specs.Moves.{moved_system, TaskStep, SameMachine}
use Rattle.sim_relation.proofs.Arrive.{stands_fresh}
use Rattle.sim_relation.proofs.Contexts.{data_kept}
use Rattle.sim_relation.proofs.Framing.{word_kept}
use Rattle.sim_relation.proofs.TaskSteps.{task_steps}
use Rattle.sim_relation.proofs.Placed.{first_by_word, active_by_word}
use Rattle.sim_relation.specs.Placed.{item_words}
use Rattle.sim_items.specs.Place.{ItemStands}
use Rattle.sim_items.specs.Outside.{StandsAt, GoesOutside}
use Rattle.sim_items.specs.Progress.{passed_count_at, passed_count_in, passed_count_by, progress_in}
use Rattle.rv32_instr.specs.declared.InstrKind.{InstrKind}
use Rattle.rv32_instr.specs.Encode.{Encode}
use Rattle.rv32_instr.specs.Effect.{effect}
use Rattle.masked_code.specs.Place.{offset_state}
use Rattle.sim_items.proofs.InRam as code
use Rattle.sim_items.proofs.Keeping.{Keeps}
use Rattle.sim_items.proofs.Outside as outside

-- ---- the measure

-- behind so many instructions so many are passed
pub at_done : (address count done : ℕ) → done < count → passed_count_at address count (address + 4 * done) ≡ done
at_done address count done h =
    let z : (address + 4 * done - address) / 4 ≡ done = omega arith in
    ap (λ b. cond b ((address + 4 * done - address) / 4) count)
    (and_from _ _ (le-leb address (address + 4 * done) (omega arith)) (lt-ltb (address + 4 * done) (address + 4 * count) (omega arith))) ∙ z

-- elsewhere all are
pub at_none : (address count pc : ℕ) → (pc < address) ⊎ (address + 4 * count ≤ pc) → passed_count_at address count pc ≡ count
at_none address count pc (inl h) = ap (λ b. cond b ((pc - address) / 4) count) (and_left _ _ (lt-leb address pc h))
at_none address count pc (inr h) = ap (λ b. cond b ((pc - address) / 4) count) (and_right _ _ (le-ltb pc (address + 4 * count) h))

-- no more are passed than there are
pub passed_few : (address count pc : ℕ) → passed_count_at address count pc ≤ count
passed_few address count pc =
    ⊎_elim
    (λ (h : pc < address). let e = at_none address count pc (inl h) in omega (arith, e))
    (λ (h : address ≤ pc).
    ⊎_elim
    (λ (l : pc < address + 4 * count).
    let e : passed_count_at address count pc ≡ (pc - address) / 4 =
    ap (λ b. cond b ((pc - address) / 4) count) (and_from _ _ (le-leb address pc h) (lt-ltb pc (address + 4 * count) l)) in
    omega (arith, e, l))
    (λ (l : address + 4 * count ≤ pc). let e = at_none address count pc (inr l) in omega (arith, e))
    (cases_lt pc (address + 4 * count)))
    (cases_lt pc address)

-- of the task that the word names, which owes nothing, by the item at which its innermost frame stands
by_word : (b : Build) (pc : ℕ) (s : System) (word t : ℕ) (frame : Frame) (outer : List Frame) → word ≡ t + 1 → (task s t).owed ≡ false → (task s t).frames ≡ frame ∷ outer
    → passed_count_by b.app b.places pc s word ≡ passed_count_at (item_address b.places frame.func frame.item) (length (expansion b.app b.places frame.func frame.item)) pc
by_word b pc s word t frame outer named free frames =
    let one : word ≡ suc t = omega (arith, named) in
    ap (passed_count_by b.app b.places pc s) one ∙ ap {B = ℕ} (λ o. cond o 0 (passed_count_in b.app b.places pc (task s t).frames)) free ∙ ap (passed_count_in b.app b.places pc) frames

-- ---- what it leaves

-- the task's registers and the data, and a position inside the item
pub record Passes (b : Build) (n next : State) (s : System) (t : ℕ) : Type 0 where
  pub machine : SameMachine n next
  pub level : next.core.ilevel ≡ n.core.ilevel
  pub kept : Keeps b n.core.ram next.core.ram s t
  pub data_stay : (i : ℕ) → b.is_data i ≡ true → slice_index next.core.ram i ≡ slice_index n.core.ram i
  pub registers : (i : ℕ) → 5 ≤ i → i < 30 → slice_index next.core.registers i ≡ slice_index n.core.registers i
  pub place : ℕ
  pub x2 : slice_index next.core.registers 2 ≡ memory_base + place
  pub position : IsPosition b next.core.ram t (task s t) (thread_of next) place
  pub room : b.low t + context_bytes ≤ place
  pub aligned : place % 4 ≡ 0

-- the idle loop has passed nothing
pub none_passed : (b : Build) (state : State) (s : System) → word_at state.core.ram cur ≡ 0 → progress_in b state s ≡ 0
none_passed b state s none = ap (passed_count_by b.app b.places state.pc s) none

module _ (b : Build) (view : View) (arrivals : List Arrival) (count : ℕ) (state : State) (s : System) (here : StandsAt b view arrivals count state s)
    (t : ℕ) (current : word_at (outside.n b view arrivals (progress_in b) count state s here).core.ram cur ≡ t + 1)
    (frame : Frame) (outer : List Frame) (frames : (task (outside.s1 b view arrivals (progress_in b) count state s here) t).frames ≡ frame ∷ outer)
    (free : (task (outside.s1 b view arrivals (progress_in b) count state s here) t).owed ≡ false) where
  abbrev n : State
  n = outside.n b view arrivals (progress_in b) count state s here

  abbrev s1 : System
  s1 = outside.s1 b view arrivals (progress_in b) count state s here

  now : Stands b n s1
  now = outside.now b view arrivals (progress_in b) count state s here

  abbrev address : ℕ
  address = item_address b.places frame.func frame.item

  abbrev size : ℕ
  size = length (expansion b.app b.places frame.func frame.item)

  found : (below : List ℕ) × (now.stack ≡ t ∷ below)
  found = first_by_word b n s1 t now.stack now.running current

  run : RunsTask b n s1 t found.0
  run = subst (RunsFirst b n s1) found.1 now.running

  here_now : IsActiveTask b s1 t
  here_now = active_by_word b n s1 t now current

  module _ (next : State) (passes : Passes b n next s1 t) where
    task_step : TaskStep b n next s1 t (task s1 t) s1.symbols
    task_step = record {
      machine = passes.machine;
      level = passes.level;
      low = passes.kept.low;
      code = passes.kept.code;
      others = passes.kept.others;
      active = here_now.active;
      events = refl;
      held = refl;
      raised = refl;
      registers = (now.tidy.each t here_now.declared).registers;
      place = passes.place;
      context = record {
        x2 = passes.x2;
        registers = λ i l. run.context.registers i l ∙ sym (passes.registers (i + 5) (omega arith) (omega arith));
        position = passes.position;
        room = passes.room;
        aligned = passes.aligned;
      };
      data_stands = data_kept b n.core.ram next.core.ram s1.symbols passes.data_stay now.data_stands;
    }

    -- the system stays, and the relation stands
    pub passes_stand : Stands b next s1
    passes_stand =
        subst (Stands b next) (ap (λ (v : List Task). record s1 { tasks = v }) (set-get_or s1.tasks t sleeping_task))
        (stands_fresh b next (moved_system s1 t (task s1 t) s1.symbols) s1.fresh
        (task_steps b n next s1 now here.fits t found.0 found.1 (task s1 t) s1.symbols task_step))

    -- the word stays
    pub word_same : word_at next.core.ram cur ≡ word_at state.core.ram cur
    word_same = word_kept n.core.ram next.core.ram 0 1024 cur passes.kept.low (omega arith) (omega arith)

    current_next : word_at next.core.ram cur ≡ t + 1
    current_next = word_same ∙ current

    pub progress_next : progress_in b next s1 ≡ passed_count_at address size next.pc
    progress_next = by_word b next.pc s1 (word_at next.core.ram cur) t frame outer current_next free frames

  -- the task's record before the arrivals of the count
  own_before : task s1 t ≡ task s t
  own_before = let a = (active_by_word b state s t here.stands current).active in kept_admits (lines_at arrivals count) t s (not_suspended (task s t).state a)

  pub progress_now : (done : ℕ) → n.pc ≡ address + 4 * done → done < size → progress_in b state s ≡ done
  progress_now done pc l =
      by_word b state.pc s (word_at state.core.ram cur) t frame outer current (sym (ap (λ (v : Task). v.owed) own_before) ∙ free) (sym (ap (λ (v : Task). v.frames) own_before) ∙ frames)
      ∙ ap (passed_count_at address size) pc ∙ at_done address size done l

  -- before the last instruction of an item less is passed than it has
  pub last_passed : (done : ℕ) → n.pc ≡ address + 4 * done → done < size → frame.item < length (function b.app frame.func).items → progress_in b state s < item_words b frame.func frame.item
  last_passed done pc l inside =
      let first = progress_now done pc l in
      let whole : item_words b frame.func frame.item ≡ size = ap {B = ℕ} (λ v. cond v size 0) (lt-ltb frame.item (length (function b.app frame.func).items) inside) in
      omega (arith, first, whole, l)

  -- ---- the instruction

  -- it passes some instructions of the item
  module _ (placed : ItemStands b view frame.func frame.item) (done : ℕ) (pc_is : n.pc ≡ address + 4 * done) (steps : ℕ) (some : 0 < steps) (within : done + steps < size)
      (next : State) (next_pc : next.pc ≡ address + 4 * (done + steps)) (stepped : step n ≡ Going next) (untouched : touched n ≡ None) (passes : Passes b n next s1 t) where
    rises : progress_in b state s < progress_in b next s1
    rises =
        let first : progress_in b state s ≡ done = progress_now done pc_is (omega arith) in
        let last : progress_in b next s1 ≡ done + steps = progress_next next passes ∙ ap (passed_count_at address size) next_pc ∙ at_done address size (done + steps) within in
        omega arith

    unmarked : mark_at view n.pc ≡ None
    unmarked = ap (mark_at view) pc_is ∙ placed.unmarked done (omega arith)

    -- from the state behind it
    pub passing_outside : GoesOutside b view arrivals (progress_in b) count state s
    passing_outside = (
      next,
      outside.one_instruction b view arrivals (progress_in b) count state s here next [] s1 stepped untouched
          (ap (λ m. outside_events m view (seen_step_at (outside.given b view arrivals (progress_in b) count state s here) count state next)) unmarked)
          refl rises (word_same next passes) (passes_stand next passes),
    )

  -- the instruction behind these of the item
  module _ (placed : ItemStands b view frame.func frame.item) (done : ℕ) (pc_is : n.pc ≡ address + 4 * done)
      (before : List InstrKind) (kind : InstrKind) (rest : List InstrKind) (expands : expansion b.app b.places frame.func frame.item ≡ before ++ (kind ∷ rest)) (reached : length before ≡ done)
      (steps : ℕ) (some : 0 < steps) (within : done + steps < size) (core_now : Core)
      (performs : (offset word : ℕ) → memory_base + offset ≡ address + 4 * done → offset + 4 ≤ memory_bytes → offset % 4 ≡ 0
      → perform (effect kind (memory_base + offset) n.core.registers) word (memory_base + offset) n.core ≡ Going (offset_state (offset + 4 * steps) core_now))
      (quiet : (pc : ℕ) → touched_line_by (effect kind pc n.core.registers) ≡ None)
      (passes : (offset : ℕ) → memory_base + offset ≡ address + 4 * done → Passes b n (offset_state (offset + 4 * steps) core_now) s1 t) where
    -- from the instruction itself
    pub instruction_outside : GoesOutside b view arrivals (progress_in b) count state s
    instruction_outside =
        let offset = code.offset b view n s1 here.fits now frame.func frame.item placed done pc_is before kind rest expands reached in
        let is = code.offset_is b view n s1 here.fits now frame.func frame.item placed done pc_is before kind rest expands reached in
        let inside = code.offset_inside b view n s1 here.fits now frame.func frame.item placed done pc_is before kind rest expands reached in
        let aligned = code.offset_aligned b view n s1 here.fits now frame.func frame.item placed done pc_is before kind rest expands reached in
        let next : State = offset_state (offset + 4 * steps) core_now in
        passing_outside placed done pc_is steps some within next (omega arith)
        (code.stepped b view n s1 here.fits now frame.func frame.item placed done pc_is before kind rest expands reached next (performs offset (Encode kind) is inside aligned))
        (code.untouched b view n s1 here.fits now frame.func frame.item placed done pc_is before kind rest expands reached (quiet (memory_base + offset)))
        (passes offset is)
