-- The code of a prologue has its effect where the task starts anew.
use Rattle.std.proofs.Common.{◌≡◌, ◌≢◌, ℕ, suc, ◌+◌, ◌-◌, ◌*◌, ◌%◌, ◌^◌, ◌<◌, ◌≤◌, ◌⊎◌, List, [], ◌∷◌, ◌++◌, length, get_or, refl, ap, ◌∙◌, subst, arith, inl, inr, length-append, lit<, lit≤}
use Rattle.std.specs.Prelude.{false, true, replicate}
use Rattle.std.proofs.lemmas.List.{get_or-set_other}
use Rattle.sloth_base.specs.Machine.{Core, State}
use Rattle.rv32_instr.specs.declared.InstrKind.{InstrKind}
use Rattle.rv32_instr.specs.declared.InstrKind.TheVariants.{Mret}
use Rattle.rv32_instr.specs.Ram.{with_words}
use Rattle.sloth_base.specs.Arithmetic.{hi}
use Rattle.sloth_base.specs.MemoryMap.{memory_base, memory_bytes, controller_base}
use Rattle.sloth_base.specs.Limits.{task_limit, level_count, frame_limit}
use Rattle.masked_code.specs.Place.{offset_state}
use Rattle.masked_code.specs.Masked.{Masked, WithArrivals}
use Rattle.masked_code.proofs.Owes.{◌▸◌, writes, accesses, Owes}
use Rattle.masked_code.specs.Pieces.{clearing_code, words_clearing_code}
use Rattle.masked_code.proofs.RegisterCode.{cleared_registers}
use Rattle.masked_code.proofs.Parts.{hi_lo}
use Rattle.masked_code.proofs.Spread.{based, based_is, spread_from, others}
use Rattle.masked_code.proofs.Runs.{clears_owes, clears_words_owes, length-clears_words, length-cleared, cleared_at, cleared_other}
use Rattle.masked_code.proofs.Leave.{behind}
use Rattle.masked_code.proofs.Routines.{jumps_in}
use Rattle.vector_gen.specs.Pieces.{beginning_code}
use Rattle.vector_gen.specs.Fresh.{vector, MayEnter, EntryEffect, IsEntryCode}
use Rattle.vector_gen.specs.Resuming.{with_entry}
use Rattle.vector_gen.proofs.Entering.{enters_first, entered, enters_owe}

-- the frame is cleared and the registers too, and `mret` starts the body
abbrev pub last : ℕ → List InstrKind
last words = words_clearing_code words 0 2 ++ (clearing_code 25 5 ++ Mret ∷ [])

-- the start of the task
abbrev pub starts : ℕ → ℕ → ℕ → List InstrKind
starts frame words first = beginning_code frame first ++ last words

-- the whole prologue of a basic task
abbrev pub code : ℕ → ℕ → ℕ → ℕ → ℕ → List InstrKind
code task level frame words first = enters_first task level (starts frame words first)

module _ (from to task level first place frame words : ℕ) (c : Core) (low_level : level < level_count) (first_fits : first < 2 ^ 32)
    (first_aligned : first % 4 ≡ 0) (masked : c.mie ≡ false) (previous : c.mpie ≡ true) (frame_aligned : frame % 4 ≡ 0)
    (frame_inside : frame + 4 * words ≤ memory_bytes) (frame_apart : (frame + 4 * words ≤ from) ⊎ (to ≤ frame)) where
  abbrev sp : ℕ
  sp = memory_base + frame

  abbrev start : State
  start = offset_state (vector task) (based c)

  abbrev tail : List ℕ
  tail = spread_from 26 6 c.registers

  abbrev ram8 : List ℕ
  ram8 = with_entry (based c) task place

  abbrev regs : List ℕ
  regs = 0 ∷ first ∷ sp ∷ controller_base ∷ memory_base ∷ c.plevel ∷ tail

  -- the state behind all that is stored and set
  abbrev stored : Core
  stored = record c { registers = regs; mepc = first - first % 4; plevel = level % 256; ram = ram8 }

  same_frame : frame + 4 * 0 ≡ frame
  same_frame = omega arith

  first_is : first - first % 4 ≡ first
  first_is = omega arith

  level_is : level % 256 ≡ level
  level_is = omega arith

  -- the registers from x30 on are as they were
  same_above : (i : ℕ) → 30 ≤ i → get_or regs i 0 ≡ get_or (based c).registers i 0
  same_above i h =
      let not_five : i ≢ 5 = λ e. absurd (omega arith) in
      get_or-set_other (0 ∷ first ∷ sp ∷ controller_base ∷ memory_base ∷ spread_from 27 5 c.registers) 5 i c.plevel 0 not_five
      ∙ others first sp controller_base memory_base (get_or c.registers 1 0) (get_or c.registers 2 0) controller_base memory_base (spread_from 27 5 c.registers) i (omega arith)

  done : EntryEffect task level first place frame words [] start (record { pc = first - first % 4; core = record stored { registers = cleared_registers 25 5 regs; ram = with_words ram8 (frame + 4 * 0) (replicate words 0); ilevel = level % 256; mie = c.mpie; mpie = true } })
  done = record {
    touches = refl;
    pc = first_is;
    x2 = cleared_other 25 5 regs 2 (inl (lit< tt));
    zeros = λ i from upto. cleared_at 25 5 regs i from upto (lit≤ tt);
    kept = λ i past. cleared_other 25 5 regs i (inr past) ∙ same_above i past;
    left = record {
      zero = cleared_other 25 5 regs 0 (inl (lit< tt));
      registers = length-cleared 25 5 regs;
      bases = (cleared_other 25 5 regs 3 (inl (lit< tt)), cleared_other 25 5 regs 4 (inl (lit< tt)));
      opened = previous;
      previous = refl;
      running = level_is;
      same_level = refl;
      pending = refl;
      enabled = refl;
      levels = refl;
      ram = ap (λ x. with_words ram8 x (replicate words 0)) same_frame;
      scratch = refl;
      controller = refl;
    };
  }

  cleared_owe : (o : ℕ)
      → Owes from to o (clearing_code 25 5 ++ Mret ∷ []) 0 (EntryEffect task level first place frame words) start
      (record stored { ram = with_words ram8 (frame + 4 * 0) (replicate words 0) })
  cleared_owe o = clears_owes from to (EntryEffect task level first place frame words) start (Mret ∷ []) 25 5 o (o + 100) (record stored { ram = with_words ram8 (frame + 4 * 0) (replicate words 0) }) refl (lit≤ tt) refl done

  frame_fits : frame + 4 * (0 + words) ≤ memory_bytes
  frame_fits = omega arith

  frame_clear : (frame + 4 * (0 + words) ≤ from) ⊎ (to ≤ frame)
  frame_clear = grind (arith, frame_apart)

  zeroed_owe : (o : ℕ) → Owes from to o (last words) 0 (EntryEffect task level first place frame words) start stored
  zeroed_owe o = clears_words_owes from to (EntryEffect task level first place frame words) start (clearing_code 25 5 ++ Mret ∷ []) frame frame_aligned words 0 2 o (o + 4 * words) stored refl refl refl frame_fits frame_clear (cleared_owe (o + 4 * words))

  sp_fits : sp < 2 ^ 32
  sp_fits = omega arith

  -- the start of the task, in the state behind the entry
  pub starts_owe : (o x1 x2 : ℕ) → Owes from to o (starts sp words first) 0 (EntryEffect task level first place frame words) start (entered task level place c x1 x2)
  starts_owe o x1 x2 =
      writes (hi sp * 4096) refl
      ▸ writes sp (hi_lo sp sp_fits)
      ▸ writes (hi first * 4096) refl
      ▸ writes first (hi_lo first first_fits)
      ▸ accesses c.mepc refl masked
      ▸ zeroed_owe (behind 5 o)

-- how many instructions clear and go
pub length-last : (words : ℕ) → length (last words) ≡ words + 26
length-last words =
    let e = length-append (words_clearing_code words 0 2) (clearing_code 25 5 ++ Mret ∷ []) in
    let f = length-clears_words words 0 2 in
    omega (arith, e, f)

-- how many instructions start a task
pub length-starts : (frame words first : ℕ) → length (starts frame words first) ≡ words + 31
length-starts frame words first = let e = length-last words in omega (arith, e)

length-code : (task level frame words first : ℕ) → length (code task level frame words first) ≡ words + 73
length-code task level frame words first = let e = length-starts frame words first in omega arith

module _ (task level first frame words : ℕ) (is_task : task < task_limit) (low_level : level < level_count) (first_fits : first < 2 ^ 32) (first_aligned : first % 4 ≡ 0)
    (few : words ≤ frame_limit) (offset place : ℕ) (c : Core) (h : MayEnter offset task place frame words (code task level (memory_base + frame) words first) c) where
  abbrev whole : List InstrKind
  whole = code task level (memory_base + frame) words first

  -- from the vector word to the first instruction of the task
  pub runs_it : Masked (74 + words) (offset_state (vector task) c) (WithArrivals (EntryEffect task level first place frame words) (offset_state (vector task) c))
  runs_it =
      let can = h.taken.can_run in
      let long = length-code task level (memory_base + frame) words first in
      let n = words + 73 in
      let e : suc n ≡ 74 + words = omega arith in
      let to = offset + 4 * length whole in
      let E = EntryEffect task level first place frame words in
      let own = memory_base + place in
      let fits = can.inside in
      let all = enters_owe offset to task level place c E (offset_state (vector task) (based c)) (starts (memory_base + frame) words first) is_task h.taken.masked h.taken.x2 h.taken.aligned h.taken.behind h.taken.inside h.taken.apart can.behind offset (omega (arith, fits))
      (λ o' e. starts_owe offset to task level first place frame words c low_level first_fits first_aligned h.taken.masked h.taken.previous h.frame_aligned h.frame_inside h.frame_apart o' own 1) in
      subst (λ k. Masked k (offset_state (vector task) c) (WithArrivals E (offset_state (vector task) c))) e
      (jumps_in (vector task) offset n h.taken.jump whole c E (offset_state (vector task) c) (omega arith) h.taken.vector_word h.taken.to_code
      (record { masked = h.taken.masked; there = can.controller; lines = can.lines; aligned = can.aligned; fits = can.inside; placed = can.placed })
      (omega arith)
      (subst (λ x. Owes offset to offset whole 0 E (offset_state (vector task) x) x) (based_is c can.registers can.zero h.taken.bases) all))

-- for each task, level, first instruction and frame
pub enters : (task level first frame words : ℕ) → task < task_limit → level < level_count → first < 2 ^ 32 → words ≤ frame_limit → IsEntryCode task level first frame words (code task level (memory_base + frame) words first)
enters task level first frame words a b d f =
    let long = length-code task level (memory_base + frame) words first in
    record { size = omega arith; runs = λ offset place core e h. runs_it task level first frame words a b d e f offset place core h }
