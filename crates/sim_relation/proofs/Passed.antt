-- The bound on what preempted tasks have passed: the relation stands with any other one that says no more of them.
use Rattle.std.proofs.Common.{◌≡◌, ℕ, suc, ◌+◌, ◌*◌, ◌≤◌, Bool, true, false, List, [], ◌∷◌, length, refl, sym, subst, arith, ⊎_elim, inl, inr, max}
use Rattle.sloth_base.specs.Machine.{Core, State}
use Rattle.sloth_base.specs.Arrive.{state_arrive}
use Rattle.sloth_base.specs.declared.app.Op.{Op}
use Rattle.sloth_base.specs.declared.app.Op.TheVariants as op
use Rattle.sloth_region.specs.Layout.{cur}
use Rattle.rv32_instr.specs.Ram.{word_at}
use Rattle.osek_scheduler.specs.State.{Frame, Task, System, task}
use Rattle.osek_scheduler.specs.Priority.{ceiling}
use Rattle.code_rules.specs.Code.{is_in}
use Rattle.sim_induction.specs.Admits.{with_admits}
use Rattle.sim_induction.proofs.Passing.{not_suspended, kept_admits}
use Rattle.sim_relation.specs.Build.{Build, with_passed}
use Rattle.sim_relation.specs.Position.{Thread, HasScratch, AreOuterFrames, AreFrames, InExpansion, AtBlock, IsStanding, IsOwing, IsCalling, IsReturning, IsPosition, thread_at}
use Rattle.sim_relation.specs.Progress.{passed_count_of, passed_count_by, progress_in, HasPassed}
use Rattle.sim_relation.specs.Context.{IsContext, IsContextChain, RunsFirst, HasOwnContext}
use Rattle.sim_relation.specs.ServiceWords.{AreServiceWords, AreHeldWords}
use Rattle.sim_relation.specs.DataStands.{DataStands}
use Rattle.sim_relation.specs.Stands.{Stands, IsActiveTask, AreFalling, LinesStand, IsFixed}
use Rattle.sim_relation.proofs.Placed.{active_by_word}
use Rattle.sim_relation.proofs.Tops.{below_other, is_in-head, is_in-tail}

module _ (b : Build) (passed : ℕ → ℕ) where
  abbrev c : Build
  c = with_passed b passed

  -- ---- where a task stands

  scratch_as : (x : List ℕ) (frame : Frame) (o : Op) (done : ℕ) (th : Thread) → HasScratch b x frame o done th → HasScratch c x frame o done th
  scratch_as x frame (op.Li rd value) done th h = h
  scratch_as x frame (op.Load width rd symbol offset) done th h = h
  scratch_as x frame (op.Store width rs symbol offset) done th h = h
  scratch_as x frame (op.LoadAt width rd symbol index mask) done th h = h
  scratch_as x frame (op.StoreAt width rs symbol index mask) done th h = h
  scratch_as x frame (op.Branch kind rs1 rs2 label) done th h = h
  scratch_as x frame (op.Serve call) done th h = h
  scratch_as x frame (op.Alu kind rd rs1 rs2) done th h = h
  scratch_as x frame (op.AluImm kind rd rs1 number) done th h = h
  scratch_as x frame (op.Lui rd number) done th h = h
  scratch_as x frame (op.FrameLoad rd word) done th h = h
  scratch_as x frame (op.FrameStore rs word) done th h = h
  scratch_as x frame (op.Jump label) done th h = h
  scratch_as x frame (op.Invoke callee) done th h = h
  scratch_as x frame op.Return done th h = h

  outer_as : (ram : List ℕ) (outer : List Frame) (place top : ℕ) → AreOuterFrames b ram outer place top → AreOuterFrames c ram outer place top
  outer_as ram [] place top h = h
  outer_as ram (frame ∷ outer) place top h = (h.0, h.1, h.2, outer_as ram outer (place + 4 + 4 * length frame.words) top h.3)

  frames_as : (ram : List ℕ) (frame : Frame) (outer : List Frame) (place top : ℕ) → AreFrames b ram frame outer place top → AreFrames c ram frame outer place top
  frames_as ram frame outer place top h = (h.0, h.1, outer_as ram outer (place + 4 * length frame.words) top h.2)

  expansion_as : (own : Task) (frame : Frame) (th : Thread) → InExpansion b own frame th → InExpansion c own frame th
  expansion_as own frame th h = record { done = h.done; within = h.within; pc = h.pc; scratch = scratch_as own.registers frame _ h.done th h.scratch }

  block_as : (frame : Frame) (th : Thread) → AtBlock b frame th → AtBlock c frame th
  block_as frame th h = record { call = h.call; is = h.is; pc = h.pc; returns = h.returns; mask = h.mask }

  standing_as : (ram : List ℕ) (top : ℕ) (own : Task) (frame : Frame) (outer : List Frame) (th : Thread) (place : ℕ)
      → IsStanding b ram top own frame outer th place → IsStanding c ram top own frame outer th place
  standing_as ram top own frame outer th place h = record {
    free = h.free;
    frames = frames_as ram frame outer place top h.frames;
    here = ⊎_elim (λ (x : InExpansion b own frame th). inl (expansion_as own frame th x)) (λ (x : AtBlock b frame th). inr (block_as frame th x)) h.here;
  }

  owing_as : (ram : List ℕ) (t : ℕ) (own : Task) (frame : Frame) (outer : List Frame) (th : Thread) (place : ℕ)
      → IsOwing b ram t own frame outer th place → IsOwing c ram t own frame outer th place
  owing_as ram t own frame outer th place h =
      record { owes = h.owes; frames = frames_as ram frame outer place (b.top t) h.frames; pc = h.pc; returns = h.returns; level = h.level }

  calling_as : (ram : List ℕ) (top : ℕ) (own : Task) (frame : Frame) (outer : List Frame) (th : Thread) (place : ℕ)
      → IsCalling b ram top own frame outer th place → IsCalling c ram top own frame outer th place
  calling_as ram top own frame outer th place h = record {
    free = h.free;
    callee = h.callee;
    is = h.is;
    done = h.done;
    some = h.some;
    within = h.within;
    pc = h.pc;
    frames = frames_as ram frame outer _ top h.frames;
    zeros = h.zeros;
    linked = h.linked;
    stored = h.stored;
  }

  returning_as : (ram : List ℕ) (top : ℕ) (own : Task) (frame : Frame) (outer : List Frame) (th : Thread) (place : ℕ)
      → IsReturning b ram top own frame outer th place → IsReturning c ram top own frame outer th place
  returning_as ram top own frame outer th place h = record {
    free = h.free;
    is = h.is;
    caller = h.caller;
    rest = h.rest;
    called_by = h.called_by;
    linked = h.linked;
    here = ⊎_elim (λ x. inl (x.0, frames_as ram frame outer place top x.1)) (λ x. inr (x.0, frames_as ram h.caller h.rest place top x.1)) h.here;
  }

  position_as : (ram : List ℕ) (t : ℕ) (own : Task) (th : Thread) (place : ℕ) → IsPosition b ram t own th place → IsPosition c ram t own th place
  position_as ram t own th place h = record {
    frame = h.frame;
    outer = h.outer;
    frames = h.frames;
    inside = h.inside;
    here = ⊎_elim (λ x. inl (standing_as ram (b.top t) own h.frame h.outer th place x))
        (λ x. inr (⊎_elim (λ y. inl (owing_as ram t own h.frame h.outer th place y))
        (λ y. inr (⊎_elim (λ z. inl (calling_as ram (b.top t) own h.frame h.outer th place z)) (λ z. inr (returning_as ram (b.top t) own h.frame h.outer th place z)) y)) x)) h.here;
  }

  context_as : (ram : List ℕ) (t : ℕ) (own : Task) (th : Thread) (place : ℕ) → IsContext b ram t own th place → IsContext c ram t own th place
  context_as ram t own th place h =
      record { x2 = h.x2; registers = h.registers; position = position_as ram t own th place h.position; room = h.room; aligned = h.aligned }

  -- ---- the stack of Active tasks

  chain_as : (ram : List ℕ) (s : System) (stack : List ℕ) (place : ℕ) → ((u : ℕ) → is_in u stack ≡ true → passed u ≤ b.passed u)
      → IsContextChain b ram s stack place → IsContextChain c ram s stack place
  chain_as ram s [] place few h = record { is = h.is; pc = h.pc; level = h.level; current = h.current }
  chain_as ram s (t ∷ below) place few h = (
    record {
      level = h.0.level;
      current = h.0.current;
      context = context_as ram t (task s t) (thread_at ram place) _ h.0.context;
      passed = let less = few t (is_in-head t below) in let least = h.0.passed in omega (arith, less, least);
    },
    (h.1.0, h.1.1, chain_as ram s below h.1.0 (λ u i. few u (is_in-tail t u below i)) h.1.2),
  )

  active_as : (s : System) (t : ℕ) → IsActiveTask b s t → IsActiveTask c s t
  active_as s t h = record { declared = h.declared; active = h.active }

  falling_as : (s : System) (stack : List ℕ) → AreFalling b s stack → AreFalling c s stack
  falling_as s [] h = tt
  falling_as s (t ∷ []) h = active_as s t h
  falling_as s (t ∷ u ∷ below) h = (active_as s t h.0, h.1, falling_as s (u ∷ below) h.2)

  runs_as : (state : State) (s : System) (stack : List ℕ) → AreFalling b s stack → ((u : ℕ) → (word_at state.core.ram cur ≡ u + 1 → ⊥) → passed u ≤ b.passed u)
      → RunsFirst b state s stack → RunsFirst c state s stack
  runs_as state s [] falling few h = record { level = h.level; current = h.current; pc = h.pc; x2 = h.x2 }
  runs_as state s (t ∷ below) falling few h = record {
    level = h.level;
    current = h.current;
    place = h.place;
    context = context_as state.core.ram t (task s t) _ h.place h.context;
    next = h.next;
    link = h.link;
    chain = chain_as state.core.ram s below h.next
        (λ u i. few u (λ named. below_other b s t below falling u i (let first = h.current in omega (arith, first, named)))) h.chain;
  }

  -- ---- the rest

  rested_as : (ram : List ℕ) (t : ℕ) (own : Task) (active : Bool) (frames : List Frame) → HasOwnContext b ram t own active frames → HasOwnContext c ram t own active frames
  rested_as ram t own true frames h = h
  rested_as ram t own false [] h = h
  rested_as ram t own false (frame ∷ outer) h = (
    h.0,
    record {
      link = h.1.link;
      inside = h.1.inside;
      pc = h.1.pc;
      registers = h.1.registers;
      frames = frames_as ram frame outer _ (b.top t) h.1.frames;
      room = h.1.room;
      aligned = h.1.aligned;
    },
  )

  held_as : (ram : List ℕ) (priority : ℕ) (held : List ℕ) → AreHeldWords b ram priority held → AreHeldWords c ram priority held
  held_as ram priority [] h = tt
  held_as ram priority (r ∷ held) h = (h.0, held_as ram (max priority (ceiling b.config r)) held h.1)

  words_as : (ram : List ℕ) (t : ℕ) (own : Task) → AreServiceWords b ram t own → AreServiceWords c ram t own
  words_as ram t own h = record {
    activity = h.activity;
    event_mask = h.event_mask;
    wait_mask = h.wait_mask;
    resumption = rested_as ram t own _ own.frames h.resumption;
    held = held_as ram _ own.held h.held;
  }

  data_as : (ram : List ℕ) (symbols : List (List ℕ)) → DataStands b ram symbols → DataStands c ram symbols
  data_as ram symbols h y k l = let byte = h y k l in record { from = byte.from; is_data = byte.is_data; holds = byte.holds }

  lines_as : (core : Core) (s : System) → LinesStand b core s → LinesStand c core s
  lines_as core s h = record { each = h.each; bits = h.bits; levels = h.levels; counters = h.counters; others = h.others }

  fixed_as : (core : Core) → IsFixed b core → IsFixed c core
  fixed_as core f = record {
    open_to_lines = f.open_to_lines;
    previous = f.previous;
    same_level = f.same_level;
    bases = f.bases;
    controller = f.controller;
    registers = f.registers;
    zero = f.zero;
    pending = f.pending;
    enabled = f.enabled;
    levels = f.levels;
    ram = f.ram;
    code = f.code;
  }

  -- of what runs nothing is asked
  pub stands_as : (state : State) (s : System) → ((u : ℕ) → (word_at state.core.ram cur ≡ u + 1 → ⊥) → passed u ≤ b.passed u) → Stands b state s → Stands c state s
  stands_as state s few k = record {
    stack = k.stack;
    active = record { falling = falling_as s k.stack k.active.falling; all = k.active.all };
    lines = lines_as state.core s k.lines;
    running = runs_as state s k.stack k.active.falling few k.running;
    words = λ t l. words_as state.core.ram t (task s t) (k.words t l);
    clock = k.clock;
    data_stands = data_as state.core.ram s.symbols k.data_stands;
    apart = k.apart;
    tidy = record { booted = k.tidy.booted; tasks = k.tidy.tasks; each = k.tidy.each };
    fixed = fixed_as state.core k.fixed;
  }

-- ---- what runs

-- an Active task's record stays, whatever arrives, so what it has passed does
pub passed_arrived : (b : Build) (state : State) (s : System) (lines : List ℕ) → Stands b state s → HasPassed b state s
    → HasPassed b (state_arrive lines state) (with_admits lines s)
passed_arrived b state s lines k ran t named =
    let active = (active_by_word b state s t k named).active in
    let same = kept_admits lines t s (not_suspended (task s t).state active) in
    subst (λ own. b.passed t ≤ passed_count_of b.app b.places state.pc own) (sym same) (ran t named)

-- by the measure of what runs
pub passed_by_word : (b : Build) (state : State) (s : System) (t : ℕ) → word_at state.core.ram cur ≡ t + 1 → progress_in b state s ≡ passed_count_of b.app b.places state.pc (task s t)
passed_by_word b state s t named =
    let one : word_at state.core.ram cur ≡ suc t = omega (arith, named) in
    subst (λ word. passed_count_by b.app b.places state.pc s word ≡ passed_count_of b.app b.places state.pc (task s t)) (sym one) refl

pub passed_measure : (b : Build) (state : State) (s : System) → HasPassed b state s → (t : ℕ) → word_at state.core.ram cur ≡ t + 1 → b.passed t ≤ progress_in b state s
passed_measure b state s ran t named =
    let least = ran t named in
    let is = passed_by_word b state s t named in
    omega (arith, least, is)
