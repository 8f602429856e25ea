-- What every entry leaves, anew or behind a wait: what was preempted is saved, and the task is the running one.
use Rattle.std.proofs.Common.{◌≡◌, ℕ, ◌+◌, ◌-◌, ◌*◌, ◌%◌, ◌<◌, ◌≤◌, List, length, refl, sym, ap, ◌∙◌, subst, arith, ⊎_elim, inl, inr}
use Rattle.std.specs.Prelude.{◌⊎◌, ◌≢◌, true, false, eqb, slice_index, replicate}
use Rattle.std.proofs.lemmas.Bool.{cases_Bool, ne_eqb}
use Rattle.std.proofs.lemmas.List.{length-replicate}
use Rattle.sloth_base.specs.Machine.{Core, State}
use Rattle.sloth_base.specs.Take.{take}
use Rattle.sloth_base.specs.Limits.{task_limit}
use Rattle.sloth_base.specs.MemoryMap.{memory_base, line_count}
use Rattle.sloth_region.specs.Layout.{cur, below_word, active, resume, idle_context}
use Rattle.rv32_instr.specs.Ram.{word_at}
use Rattle.masked_code.specs.Kernel.{IsOpenedCore}
use Rattle.masked_code.specs.Pieces.{registers_from}
use Rattle.masked_code.proofs.Words.{word_below}
use Rattle.vector_gen.specs.Fresh.{saved_registers}
use Rattle.vector_gen.proofs.SavedRegisters.{none_saved, all_saved, few_saved}
use Rattle.osek_scheduler.specs.State.{System}
use Rattle.sim_relation.specs.Build.{Build, HasFittingPlaces, start_level}
use Rattle.sim_relation.specs.Stands.{Stands}
use Rattle.sim_relation.specs.Entry.{EntryRam, EntryMachine}
use Rattle.sim_relation.proofs.SavedRegisters.{registers_at, registers_small}
use Rattle.sim_relation.proofs.Spot.{Spot, spot}
use Rattle.sim_routines.specs.Range.{IsSane}
use Rattle.sim_routines.proofs.Spot.{zeros_small, context_words, words_small}
use Rattle.sim_routines.proofs.EntryRam.{stored, IsStored, is_stored}

-- the four words that stand before the registers of what is preempted
abbrev pub preempted : State → List ℕ
preempted state = context_words state.pc state.core.ilevel (word_at state.core.ram cur) (word_at state.core.ram below_word)

-- the words of a frame that is cleared
abbrev pub cleared : ℕ → List ℕ
cleared words = replicate words 0

-- a cleared frame has as many words as asked
pub cleared_long : (words : ℕ) → length (cleared words) ≡ words
cleared_long words = length-replicate words 0

-- the registers that are saved are words
saved_small : (core : Core) → ((i : ℕ) → slice_index core.registers i < 4294967296) → (j : ℕ) → slice_index (saved_registers core) j < 4294967296
saved_small core small j =
    ⊎_elim
    (λ (e : eqb (word_at core.ram cur) 0 ≡ true). subst (λ l. slice_index l j < 4294967296) (sym (none_saved core e)) (omega arith))
    (λ (e : eqb (word_at core.ram cur) 0 ≡ false). subst (λ l. slice_index l j < 4294967296) (sym (all_saved core e)) (registers_small 27 5 core.registers small j))
    (cases_Bool (eqb (word_at core.ram cur) 0))

-- the bytes with the context of what is preempted, the words of the entry, and a frame of zero words
abbrev pub saved : State → (t place frame words : ℕ) → List ℕ
saved state t place frame words = stored state.core.ram (preempted state) (saved_registers state.core) (cleared words) place t frame

module _ (b : Build) (state : State) (s : System) (t place : ℕ) (fits : HasFittingPlaces b) (k : Stands b state s) (sane : IsSane state)
    (declared : t < length b.config.tasks) (x2 : slice_index state.core.registers 2 ≡ memory_base + (place + 128)) where
  few : length b.config.tasks ≤ line_count
  few = let f = fits.few_tasks in omega arith

  few30 : t < task_limit
  few30 = let g = fits.few_tasks in let l = declared in omega arith

  sp : Spot b s k.stack place
  sp = spot b state s k.stack place fits k.apart k.active.falling x2 k.running

  abbrev old : List ℕ
  old = state.core.ram

  abbrev rest : List ℕ
  rest = saved_registers state.core

  small_rest : (j : ℕ) → slice_index rest j < 4294967296
  small_rest = saved_small state.core sane.registers

  small_words : (j : ℕ) → slice_index (preempted state) j < 4294967296
  small_words = words_small state.pc state.core.ilevel (word_at old cur) (word_at old below_word) sane.pc (let i = sane.level in omega arith) (word_below old cur sane.bytes) (word_below old below_word sane.bytes)

  -- the frame lies in the task's part of the stacks, apart from the context
  module _ (frame words : ℕ) (from : b.low t ≤ frame) (to : frame + 4 * words ≤ b.top t) (apart : (place + 128 ≤ frame) ⊎ (frame + 4 * words ≤ place)) where
    -- the context of what was preempted is stored, and the frame cleared
    pub is_saved : IsStored old (preempted state) rest (cleared words) place t frame (saved state t place frame words)
    is_saved =
        let l = declared in
        let y = fits.from t l in
        let z = fits.to t l in
        let n = cleared_long words in
        is_stored old (preempted state) rest (cleared words) place t frame (record {
          size = k.fixed.ram;
          four = refl;
          rest = few_saved state.core;
          declared = few30;
          behind = sp.behind;
          aligned = sp.aligned;
          inside = sp.inside;
          frame_from = omega arith;
          frame_inside = omega arith;
          apart = subst (λ (w : ℕ). (place + 128 ≤ frame) ⊎ (frame + 4 * w ≤ place)) (sym (cleared_long words)) apart;
          small_words = small_words;
          small_registers = small_rest;
          small_zeros = zeros_small words;
        })

    -- The bytes are those, but that no context is kept for the task.
    module _ (new : List ℕ) (long : length new ≡ length (saved state t place frame words))
        (high : (i : ℕ) → idle_context ≤ i → slice_index new i ≡ slice_index (saved state t place frame words) i)
        (low : (p : ℕ) → p % 4 ≡ 0 → p ≢ resume t → word_at new p ≡ word_at (saved state t place frame words) p) (none : word_at new (resume t) ≡ 0) where
      in_context : (p : ℕ) → place ≤ p → p % 4 ≡ 0 → word_at new p ≡ word_at (saved state t place frame words) p
      in_context p h a = let y = sp.behind in let d = few30 in low p a (λ q. omega arith)

      word_is : (j : ℕ) → j < 4 → word_at new (place + 4 * j) ≡ slice_index (preempted state) j
      word_is j h = let a = sp.aligned in in_context (place + 4 * j) (omega arith) (omega arith) ∙ is_saved.word_is j h

      -- what an entry leaves of RAM
      pub entry_ram : EntryRam b state new t place
      entry_ram =
          let d = few30 in
          let n = cleared_long words in
          let a = sp.aligned in
          record {
            long = long ∙ is_saved.long;
            outside = λ i h x y. high i h ∙ is_saved.outside i h x (⊎_elim (λ (z : i < b.low t). inl (omega arith)) (λ (z : b.top t ≤ i). inr (omega arith)) y);
            pc_word = let p : place + 4 * 0 ≡ place = omega arith in ap (word_at new) (sym p) ∙ word_is 0 (omega arith);
            level_word = word_is 1 (omega arith);
            current_word = word_is 2 (omega arith);
            link_word = word_is 3 (omega arith);
            register_words = λ some i x y.
                let whole : rest ≡ registers_from 27 5 state.core.registers = all_saved state.core (ne_eqb (word_at old cur) 0 some) in
                let many : length rest ≡ 27 = ap length whole in
                let p : place + 20 + 4 * (i - 5) ≡ place + 4 * i = omega arith in
                let v : 5 + (i - 5) ≡ i = omega arith in
                ap (word_at new) (sym p) ∙ in_context (place + 20 + 4 * (i - 5)) (omega arith) (omega arith) ∙ is_saved.register_is (i - 5) (omega (arith, many, x, y))
                ∙ ap (λ l. slice_index l (i - 5)) whole ∙ registers_at 27 5 (i - 5) state.core.registers (omega arith) ∙ ap (λ j. slice_index state.core.registers j) v;
            named = λ p h v n0 n1 n2 n3. low p v n3 ∙ is_saved.named p h v n0 n1 n2;
            current = low cur (omega arith) (λ h. omega arith) ∙ is_saved.current;
            link = low below_word (omega arith) (λ h. omega arith) ∙ is_saved.link;
            activity = low (active t) (omega arith) (λ h. omega arith) ∙ is_saved.activity;
            resumption = none;
          }

  -- what it leaves of the machine beside RAM
  pub entry_machine : (end : State) (ram : List ℕ) → IsOpenedCore (record (take t state).core { ilevel = start_level b t; ram = ram }) end.core → EntryMachine b state end t
  entry_machine end ram left = record {
    registers = left.registers ∙ sym k.fixed.registers;
    zero = left.zero ∙ sym k.fixed.zero;
    level = left.running;
    pending = left.pending;
    enabled = left.enabled;
    levels = left.levels;
    controller = left.controller;
    open_to_lines = left.opened;
    previous = left.previous;
    same_level = left.same_level;
    bases = left.bases;
  }
