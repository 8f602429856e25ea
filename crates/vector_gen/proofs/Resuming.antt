-- The code of an extended task's prologue has its effect.
use Rattle.std.proofs.Common.{◌≡◌, ◌≢◌, ℕ, zero, suc, ◌+◌, ◌-◌, ◌*◌, ◌%◌, ◌^◌, ◌<◌, ◌≤◌, ◌⊎◌, List, [], ◌∷◌, ◌++◌, length, get_or, refl, ap, ◌∙◌, subst, arith, inl, inr, ⊎_elim, lit<, lit≤}
use Rattle.std.specs.Prelude.{ℤ, false, true, pos, set, max}
use Rattle.std.proofs.lemmas.Bool.{ne_eqb}
use Rattle.std.proofs.lemmas.List.{get_or-set_same, get_or-set_other, length-set}
use Rattle.sloth_base.specs.Machine.{Core, State}
use Rattle.sloth_base.specs.Arithmetic.{plus}
use Rattle.sloth_base.specs.Status.{E_OK}
use Rattle.sloth_base.specs.MemoryMap.{memory_base, memory_bytes, controller_base}
use Rattle.sloth_base.specs.Limits.{task_limit, level_count, frame_limit}
use Rattle.sloth_region.specs.Layout.{cur, active, resume, below_word, idle_context, context_bytes}
use Rattle.rv32_instr.specs.declared.InstrKind.{InstrKind}
use Rattle.rv32_instr.specs.Ram.{word_at, with_word, with_words}
use Rattle.masked_code.specs.Place.{offset_state, InPlace}
use Rattle.masked_code.specs.Kernel.{CanRun, HasBases}
use Rattle.rv32_instr.specs.declared.InstrKind.TheVariants.{Jal}
use Rattle.masked_code.specs.Masked.{Masked, WithArrivals}
use Rattle.masked_code.proofs.Owes.{◌▸◌, writes, loads, stores, accesses, Owes}
use Rattle.masked_code.specs.Pieces.{restoring_code, saving_code}
use Rattle.masked_code.proofs.RegisterCode.{restored_registers}
use Rattle.masked_code.proofs.Words.{word_at-other, word_at-others}
use Rattle.masked_code.proofs.Spread.{based, based_is, spread_from}
use Rattle.masked_code.proofs.Runs.{restores_owes, length-restored, restored_other, restored_at}
use Rattle.masked_code.proofs.Leave.{behind}
use Rattle.masked_code.proofs.Longest.{longest, longest_le}
use Rattle.masked_code.proofs.Routines.{in_place-front, jumps_within}
use Rattle.block_parts.specs.Prologues.{preempted_test, own_taking_code}
use Rattle.vector_gen.specs.Pieces.{csr_saving_code, words_saving_code, active_marking_code, beginning_code, wait_answer_code, kept_context_test}
use Rattle.vector_gen.specs.Fresh.{vector, EntryEffect, saved_registers}
use Rattle.vector_gen.specs.Resuming.{MayStart, MayResume, ResumeEffect, IsExtendedEntryCode, with_entry}
use Rattle.vector_gen.proofs.SavedRegisters.{few_saved}
use Rattle.vector_gen.proofs.Entering.{enters_first, entered, enters_owe}
use Rattle.vector_gen.proofs.Starting.{last, starts, starts_owe, length-last, length-starts}

-- what stands behind the entry, before the start
abbrev pub asks_first : ℕ → List InstrKind → List InstrKind
asks_first task rest = kept_context_test task ++ (own_taking_code task ++ (restoring_code 27 5 1 ++ (wait_answer_code ++ rest)))

-- behind the entry: the task goes on or starts anew
abbrev pub either : ℕ → ℕ → ℕ → ℕ → List InstrKind
either task frame words first = asks_first task (starts frame words first)

-- how many instructions are executed at most, with the rest: of the look at what was running,
tested_way : (code : List InstrKind) (k : ℕ) → longest code 0 ≤ k → longest code 27 ≤ k → longest (preempted_test ++ code) 0 ≤ 3 + k
tested_way code k first passed = omega (arith, first, passed)

-- where registers are saved, or passed
saved_way : (count first base : ℕ) (rest : List InstrKind) (k : ℕ) → longest rest 0 ≤ k → longest (saving_code count first base ++ rest) 0 ≤ count + k
saved_way zero first base rest k h = omega (arith, h)
saved_way (suc count) first base rest k h = let behind = saved_way count (suc first) base rest k h in omega (arith, behind)

passed_way : (rest : List InstrKind) (k : ℕ) → longest rest 0 ≤ k → longest (saving_code 27 5 1 ++ rest) 27 ≤ 27 + k
passed_way rest k h = omega (arith, h)

-- behind them
marked_way : (task level : ℕ) (rest : List InstrKind) (n : ℕ) → longest rest 0 ≤ n → longest (csr_saving_code level ++ (words_saving_code ++ (active_marking_code task ++ rest))) 0 ≤ 12 + n
marked_way task level rest n h = omega (arith, h)

-- of the entry
enters_way : (task level : ℕ) (rest : List InstrKind) (n : ℕ) → longest rest 0 ≤ n → longest (enters_first task level rest) 0 ≤ 3 + (27 + (12 + n))
enters_way task level rest n h =
    let tail = csr_saving_code level ++ (words_saving_code ++ (active_marking_code task ++ rest)) in
    let behind = marked_way task level rest n h in
    tested_way (saving_code 27 5 1 ++ tail) (27 + (12 + n)) (saved_way 27 5 1 tail (12 + n) behind) (passed_way tail (12 + n) behind)

-- behind it 35 where the task goes on, and 7 and the last ones where it starts anew
asks_way : (task frame first n : ℕ) (rest : List InstrKind) → longest rest 0 ≤ n → longest (asks_first task (beginning_code frame first ++ rest)) 0 ≤ max (7 + n) 35
asks_way task frame first n rest h = omega (arith, h)

start_most : (words : ℕ) → 3 + (27 + (12 + max (7 + (words + 26)) 35)) ≡ max (75 + words) 77
start_most words = omega arith

-- the whole prologue of an extended task
abbrev pub code : ℕ → ℕ → ℕ → ℕ → ℕ → List InstrKind
code task level frame words first = enters_first task level (either task frame words first)

-- where the branch lands
lands : (o : ℕ) → o ≤ 0x20_0004 → plus (memory_base + o) (pos 136) ≡ memory_base + (o + 4 + 4 * 33)
lands o small = omega arith

-- a word apart from all that the entry stores
entry_keeps : (c : Core) (task place p : ℕ) → (p + 4 ≤ place) ⊎ (place + context_bytes ≤ p) → (4 ≤ p) → (p + 4 ≤ below_word) ⊎ (below_word + 4 ≤ p)
    → (p + 4 ≤ active task) ⊎ (active task + 4 ≤ p) → word_at (with_entry c task place) p ≡ word_at c.ram p
entry_keeps c task place p far past below activity =
    let ws = saved_registers c in
    let few = few_saved c in
    let r1 = with_words c.ram (place + 4 * 5) ws in
    let r2 = with_word r1 place c.mepc in
    let r3 = with_word r2 (place + 4) c.plevel in
    let r4 = with_word r3 (place + 4 + 4) (word_at c.ram cur) in
    let r5 = with_word r4 (place + 4 + 4 + 4) (word_at c.ram below_word) in
    let r6 = with_word r5 below_word (memory_base + place) in
    let r7 = with_word r6 cur (task + 1) in
    word_at-other r7 (active task) 1 p activity
    ∙ word_at-other r6 cur (task + 1) p (inr (omega arith))
    ∙ word_at-other r5 below_word (memory_base + place) p below
    ∙ word_at-other r4 (place + 4 + 4 + 4) (word_at c.ram below_word) p (grind (arith, far))
    ∙ word_at-other r3 (place + 4 + 4) (word_at c.ram cur) p (grind (arith, far))
    ∙ word_at-other r2 (place + 4) c.plevel p (grind (arith, far))
    ∙ word_at-other r1 place c.mepc p (grind (arith, far))
    ∙ word_at-others ws c.ram (place + 4 * 5) p (grind (arith, far, few))

-- the resume word stands apart from it
kept_word : (c : Core) (task place : ℕ) → task < task_limit → idle_context ≤ place → word_at (with_entry c task place) (resume task) ≡ word_at c.ram (resume task)
kept_word c task place is_task past = entry_keeps c task place (resume task) (inl (omega arith)) (omega arith) (inr (omega arith)) (inr (omega arith))

-- no context is kept: the task starts anew
module _ (from to task level first place frame words : ℕ) (c : Core) (is_task : task < task_limit) (past : idle_context ≤ place) (none : word_at c.ram (resume task) ≡ 0) where
  abbrev E : List ℕ → State → State → Type 0
  E = EntryEffect task level first place frame words

  abbrev start : State
  start = offset_state (vector task) (based c)

  -- what is owed of the question whether a context is kept, where none is: the task starts anew
  pub fresh_owe : (o x1 : ℕ) → o ≤ memory_bytes
      → ((o' : ℕ) → Owes from to o' (starts (memory_base + frame) words first) 0 E start (entered task level place c 0 1))
      → Owes from to o (either task (memory_base + frame) words first) 0 E start (entered task level place c x1 1)
  fresh_owe o x1 small go =
      loads (resume task) (record { is = omega arith; aligned = omega arith; inside = omega arith }) 0 (kept_word (based c) task place is_task past ∙ none)
      ▸ record {
        passed = 33;
        lands = lands (o + 4) (omega arith);
        when_taken = λ t. go (behind 33 (behind 2 o));
        when_not = λ n. absurd (n refl);
      }

-- what a task that goes on behind a wait needs: the word of its context names one at `own`, apart from that of what it preempts
pub record IsKept (from task level place own : ℕ) (c : Core) : Type 0 where
  pub is_task : task < task_limit
  pub low_level : level < level_count
  pub masked : c.mie ≡ false
  pub previous : c.mpie ≡ true
  pub past : idle_context ≤ place
  pub inside : place + context_bytes ≤ memory_bytes
  pub is : word_at c.ram (resume task) ≡ memory_base + own
  pub aligned : own % 4 ≡ 0
  pub own_past : 1024 ≤ own
  pub own_inside : own + context_bytes ≤ memory_bytes
  pub apart : (own + context_bytes ≤ place) ⊎ (place + context_bytes ≤ own)
  pub returns : word_at c.ram own % 4 ≡ 0
  pub low : 1024 ≤ from

-- a context is kept, at `own`
module _ (from to task level place own : ℕ) (c : Core) (rest : List InstrKind) (is_kept : IsKept from task level place own c) where
  abbrev R : List ℕ → State → State → Type 0
  R = ResumeEffect task level place own

  abbrev begun : State
  begun = offset_state (vector task) (based c)

  abbrev at_own : ℕ
  at_own = memory_base + own

  abbrev sp : ℕ
  sp = memory_base + (own + context_bytes)

  abbrev ram : List ℕ
  ram = with_word (with_entry (based c) task place) (resume task) 0

  kept : (k : ℕ) → k + 4 ≤ context_bytes → word_at ram (own + k) ≡ word_at c.ram (own + k)
  kept k within =
      word_at-other (with_entry (based c) task place) (resume task) 0 (own + k) (inr (omega arith))
      ∙ entry_keeps (based c) task place (own + k) (grind (arith, is_kept.apart)) (omega arith) (inr (omega arith)) (inr (omega arith))

  zero_more : own + 0 ≡ own
  zero_more = omega arith

  kept_pc : word_at ram own ≡ word_at c.ram own
  kept_pc = subst (λ p. word_at ram p ≡ word_at c.ram p) zero_more (kept 0 (lit≤ tt))

  abbrev pc : ℕ
  pc = word_at c.ram own

  pc_is : pc - pc % 4 ≡ pc
  pc_is = omega arith

  level_is : level % 256 ≡ level
  level_is = omega arith

  abbrev regs : List ℕ
  regs = 0 ∷ at_own ∷ sp ∷ controller_base ∷ memory_base ∷ c.plevel ∷ spread_from 26 6 c.registers

  abbrev loaded : List ℕ
  loaded = restored_registers 27 5 ram own regs

  long : length loaded ≡ 32
  long = length-restored 27 5 ram own regs

  abbrev final : List ℕ
  final = set loaded 10 E_OK

  other : (i : ℕ) → i ≢ 10 → get_or final i 0 ≡ get_or loaded i 0
  other i ne = get_or-set_other loaded 10 i E_OK 0 (λ e. absurd (ne e))

  done : R [] begun (record { pc = pc - pc % 4; core = record c { registers = final; mepc = pc - pc % 4; plevel = level % 256; ram = ram; ilevel = level % 256; mie = c.mpie; mpie = true } })
  done = record {
    touches = refl;
    left = record {
      zero = other 0 (λ e. absurd (omega arith)) ∙ restored_other 27 5 ram own regs 0 (inl (lit< tt));
      registers = length-set loaded 10 E_OK ∙ long;
      bases = (
        other 3 (λ e. absurd (omega arith)) ∙ restored_other 27 5 ram own regs 3 (inl (lit< tt)),
        other 4 (λ e. absurd (omega arith)) ∙ restored_other 27 5 ram own regs 4 (inl (lit< tt)),
      );
      opened = is_kept.previous;
      previous = refl;
      running = level_is;
      same_level = refl;
      pending = refl;
      enabled = refl;
      levels = refl;
      ram = refl;
      scratch = refl;
      controller = refl;
    };
    pc = pc_is;
    x2 = other 2 (λ e. absurd (omega arith)) ∙ restored_other 27 5 ram own regs 2 (inl (lit< tt));
    status = get_or-set_same loaded 10 E_OK 0 (omega (arith, long));
    loaded = λ i from upto ne. other i ne ∙ restored_at 27 5 ram own regs i from upto (lit≤ tt) ∙ kept (4 * i) (omega arith);
  }

  abbrev stored : Core
  stored = record c { registers = regs; mepc = pc - pc % 4; plevel = level % 256; ram = ram }

  zero_there : get_or loaded 0 0 ≡ 0
  zero_there = restored_other 27 5 ram own regs 0 (inl (lit< tt))

  answered_owe : (o : ℕ) → Owes from to o (wait_answer_code ++ rest) 0 R begun (record stored { registers = loaded })
  answered_owe o =
      writes E_OK (ap (λ z. plus z (pos E_OK)) zero_there)
      ▸ done

  own_fits : own + 4 * (5 + 27) ≤ memory_bytes
  own_fits = omega arith

  restored_owe : (o : ℕ) → Owes from to o (restoring_code 27 5 1 ++ (wait_answer_code ++ rest)) 0 R begun stored
  restored_owe o = restores_owes from to R begun (wait_answer_code ++ rest) own is_kept.aligned 27 5 1 o (o + 108) stored refl (lit< tt) refl own_fits (answered_owe (o + 108))

  sp_is : plus at_own (pos context_bytes) ≡ sp
  sp_is = omega arith

  goes_on_owe : (o x2 : ℕ) → Owes from to o (own_taking_code task ++ (restoring_code 27 5 1 ++ (wait_answer_code ++ rest))) 0 R begun (entered task level place c at_own x2)
  goes_on_owe o x2 =
      stores (resume task) (record { is = omega arith; aligned = omega arith; inside = omega arith }) (inl (omega arith))
      ▸ loads own (record { is = omega arith; aligned = is_kept.aligned; inside = omega arith }) pc kept_pc
      ▸ accesses c.mepc refl is_kept.masked
      ▸ writes sp sp_is
      ▸ restored_owe (behind 4 o)

  not_zero : at_own ≢ 0
  not_zero e = absurd (omega arith)

  -- what is owed of the question where one is: the task goes on
  pub resumed_owe : (o x1 x2 : ℕ) → o ≤ memory_bytes → Owes from to o (asks_first task rest) 0 R begun (entered task level place c x1 x2)
  resumed_owe o x1 x2 small =
      loads (resume task) (record { is = omega arith; aligned = omega arith; inside = omega arith }) at_own (kept_word (based c) task place is_kept.is_task is_kept.past ∙ is_kept.is)
      ▸ record {
        passed = 33;
        lands = lands (o + 4) (omega arith);
        when_taken = λ t. let f = ne_eqb at_own 0 not_zero in absurd (cc);
        when_not = λ n. goes_on_owe (behind 2 o) x2;
      }

length-code : (task level frame words first : ℕ) → length (code task level frame words first) ≡ words + 108
length-code task level frame words first = let e = length-starts frame words first in omega arith

module _ (task level first frame words : ℕ) (is_task : task < task_limit) (low_level : level < level_count) (first_fits : first < 2 ^ 32) (few : words ≤ frame_limit) (offset place : ℕ) (c : Core) where
  abbrev whole : List InstrKind
  whole = code task level (memory_base + frame) words first

  abbrev rest : List InstrKind
  rest = either task (memory_base + frame) words first

  -- from the vector word on, where no way through the code is longer
  runs_within : (n : ℕ) (some : List InstrKind) (E : List ℕ → State → State → Type 0) (jump : ℤ) → longest some 0 ≤ n → CanRun offset some c → HasBases c.registers → c.mie ≡ false
      → InPlace c.ram (vector task) (Jal 0 jump ∷ []) → plus (memory_base + vector task) jump ≡ memory_base + offset
      → Owes offset (offset + 4 * length some) offset some 0 E (offset_state (vector task) (based c)) (based c)
      → Masked (suc n) (offset_state (vector task) c) (WithArrivals E (offset_state (vector task) c))
  runs_within n some E jump few can bases masked vector_word to_code all =
      let to = offset + 4 * length some in
      jumps_within (vector task) offset n jump some c E (offset_state (vector task) c) (omega arith) vector_word to_code
      (record { masked = masked; there = can.controller; lines = can.lines; aligned = can.aligned; fits = can.inside; placed = can.placed })
      few
      (subst (λ x. Owes offset to offset some 0 E (offset_state (vector task) x) x) (based_is c can.registers can.zero bases) all)

  -- the way to a start passes what takes up a context
  way_to_start : longest whole 0 ≤ max (75 + words) 77
  way_to_start =
      let most : longest (last words) 0 ≤ words + 26 = subst (λ k. longest (last words) 0 ≤ k) (length-last words) (longest_le (last words) 0) in
      subst (λ k. longest whole 0 ≤ k) (start_most words)
      (enters_way task level rest (max (7 + (words + 26)) 35) (asks_way task (memory_base + frame) first (words + 26) (last words) most))

  small_offset : CanRun offset whole c → offset + 168 ≤ memory_bytes
  small_offset can =
      let long = length-code task level (memory_base + frame) words first in
      let fits = can.inside in
      omega arith

  starts_it : first % 4 ≡ 0 → MayStart offset task place frame words whole c
      → Masked (max (76 + words) 78) (offset_state (vector task) c) (WithArrivals (EntryEffect task level first place frame words) (offset_state (vector task) c))
  starts_it first_aligned may =
      let h = may.enters in
      let can = h.taken.can_run in
      let to = offset + 4 * length whole in
      let E = EntryEffect task level first place frame words in
      let small = small_offset can in
      let n : suc (max (75 + words) 77) ≡ max (76 + words) 78 = omega arith in
      subst (λ k. Masked k (offset_state (vector task) c) (WithArrivals E (offset_state (vector task) c))) n
      (runs_within (max (75 + words) 77) whole E h.taken.jump way_to_start can h.taken.bases h.taken.masked h.taken.vector_word h.taken.to_code
      (enters_owe offset to task level place c E (offset_state (vector task) (based c)) rest is_task h.taken.masked h.taken.x2 h.taken.aligned h.taken.behind h.taken.inside h.taken.apart can.behind offset (omega (arith, small))
      (λ o e. fresh_owe offset to task level first place frame words c is_task h.taken.behind may.kept_none o (memory_base + place) (omega (arith, small, e))
      (λ o'. starts_owe offset to task level first place frame words c low_level first_fits first_aligned h.taken.masked h.taken.previous h.frame_aligned h.frame_inside h.frame_apart o' 0 1))))

  -- the code up to where a task goes on behind a wait
  abbrev front : List InstrKind
  front = enters_first task level (asks_first task [])

  front_can_run : CanRun offset whole c → CanRun offset front c
  front_can_run can =
      let long = length-code task level (memory_base + frame) words first in
      let fits = can.inside in
      record {
        controller = can.controller;
        registers = can.registers;
        zero = can.zero;
        lines = can.lines;
        aligned = can.aligned;
        behind = can.behind;
        inside = omega (arith, long, fits);
        placed = in_place-front c.ram front (starts (memory_base + frame) words first) offset can.placed;
      }

  front_apart : (place + context_bytes ≤ offset) ⊎ (offset + 4 * length whole ≤ place) → (place + context_bytes ≤ offset) ⊎ (offset + 4 * length front ≤ place)
  front_apart apart =
      let long = length-code task level (memory_base + frame) words first in
      ⊎_elim inl (λ behind. inr (omega (arith, long, behind))) apart

  resumes_it : (own : ℕ) → MayResume offset task place own whole c → Masked 78 (offset_state (vector task) c) (WithArrivals (ResumeEffect task level place own) (offset_state (vector task) c))
  resumes_it own h =
      let can = h.taken.can_run in
      let to = offset + 4 * length front in
      let E = ResumeEffect task level place own in
      let small = small_offset can in
      let kept : IsKept offset task level place own c = record {
        is_task = is_task;
        low_level = low_level;
        masked = h.taken.masked;
        previous = h.taken.previous;
        past = h.taken.behind;
        inside = h.taken.inside;
        is = h.resumes;
        aligned = h.own_aligned;
        own_past = h.own_behind;
        own_inside = h.own_inside;
        apart = h.own_apart;
        returns = h.returns;
        low = can.behind;
      } in
      runs_within 77 front E h.taken.jump (omega arith) (front_can_run can) h.taken.bases h.taken.masked h.taken.vector_word h.taken.to_code
      (enters_owe offset to task level place c E (offset_state (vector task) (based c)) (asks_first task []) is_task h.taken.masked h.taken.x2 h.taken.aligned h.taken.behind h.taken.inside (front_apart h.taken.apart) can.behind offset (omega (arith, small))
      (λ o e. resumed_owe offset to task level place own c [] kept o (memory_base + place) 1 (omega (arith, small, e))))

-- so the whole code does one of the two
pub enters_or_resumes : (task level first frame words : ℕ) → task < task_limit → level < level_count → first < 2 ^ 32 → words ≤ frame_limit
    → IsExtendedEntryCode task level first frame words (code task level (memory_base + frame) words first)
enters_or_resumes task level first frame words a b d f =
    let long = length-code task level (memory_base + frame) words first in
    record {
      size = omega arith;
      starts = λ offset place core e h. starts_it task level first frame words a b d f offset place core e h;
      resumes = λ offset place own core h. resumes_it task level first frame words a b d f offset place core own h;
    }
