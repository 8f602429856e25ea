-- What was preempted is saved, and the task is the running one.
use Rattle.std.proofs.Common.{◌≡◌, ℕ, ◌+◌, ◌*◌, ◌%◌, ◌<◌, ◌≤◌, ◌⊎◌, List, ◌∷◌, ◌++◌, get_or, refl, ◌∙◌, subst, arith, inl, lit≤}
use Rattle.std.specs.Prelude.{Bool, false, true, pos, neg_ℤ, eqb}
use Rattle.sloth_base.specs.Machine.{Core, State}
use Rattle.sloth_region.specs.Layout.{cur, active, below_word, idle_context, context_bytes, context_pc, context_level, context_cur, context_below}
use Rattle.rv32_instr.specs.declared.InstrKind.{InstrKind}
use Rattle.rv32_instr.specs.Ram.{word_at, with_word, with_words}
use Rattle.sloth_base.specs.Arithmetic.{plus}
use Rattle.sloth_base.specs.MemoryMap.{memory_base, memory_bytes, controller_base}
use Rattle.sloth_base.specs.Limits.{task_limit}
use Rattle.masked_code.proofs.Owes.{◌▸◌, writes, loads, stores, accesses, IsWordAt, IsApart, Owes}
use Rattle.masked_code.specs.Pieces.{saving_code}
use Rattle.masked_code.proofs.Words.{word_at-other, word_at-others}
use Rattle.masked_code.proofs.Spread.{based, spread_from}
use Rattle.masked_code.proofs.Runs.{saves_owes}
use Rattle.masked_code.proofs.Leave.{behind}
use Rattle.block_parts.specs.Prologues.{preempted_test}
use Rattle.vector_gen.specs.Pieces.{csr_saving_code, words_saving_code, active_marking_code}
use Rattle.vector_gen.specs.Fresh.{saved_registers}
use Rattle.vector_gen.specs.Resuming.{with_entry}
use Rattle.vector_gen.proofs.SavedRegisters.{none_saved, all_saved}

-- what stands before this code in each prologue
abbrev pub enters_first : ℕ → ℕ → List InstrKind → List InstrKind
enters_first task level rest = preempted_test ++ (saving_code 27 5 1 ++ (csr_saving_code level ++ (words_saving_code ++ (active_marking_code task ++ rest))))

-- the state behind it, whatever x1 and x2 are
abbrev pub entered : ℕ → ℕ → ℕ → Core → ℕ → ℕ → Core
entered task level place c x1 x2 =
    record c { registers = 0 ∷ x1 ∷ x2 ∷ controller_base ∷ memory_base ∷ c.plevel ∷ spread_from 26 6 c.registers; plevel = level % 256; ram = with_entry (based c) task place }

-- where the branch lands
lands : (o : ℕ) → o ≤ 0x20_1000 → plus (memory_base + o) (pos 112) ≡ memory_base + (o + 4 + 4 * 27)
lands o small = omega arith

module _ (from to task level place : ℕ) (c : Core) (E : List ℕ → State → State → Type 0) (start : State) (rest : List InstrKind) (is_task : task < task_limit)
    (masked : c.mie ≡ false) (x2 : get_or c.registers 2 0 ≡ memory_base + (place + context_bytes)) (aligned : place % 4 ≡ 0) (past : idle_context ≤ place)
    (inside : place + context_bytes ≤ memory_bytes) (apart : (place + context_bytes ≤ from) ⊎ (to ≤ place)) (low : 1024 ≤ from) where
  abbrev own : ℕ
  own = memory_base + place

  abbrev tail : List ℕ
  tail = spread_from 27 5 c.registers

  abbrev ram1 : List ℕ
  ram1 = with_words c.ram (place + 20) (saved_registers (based c))

  abbrev ram3 : List ℕ
  ram3 = with_word (with_word ram1 place c.mepc) (place + 4) c.plevel

  abbrev ram4 : List ℕ
  ram4 = with_word ram3 (place + 4 + 4) (word_at c.ram cur)

  found_below : word_at ram4 below_word ≡ word_at c.ram below_word
  found_below =
      word_at-other ram3 (place + 4 + 4) (word_at c.ram cur) below_word (inl (omega arith))
      ∙ word_at-other (with_word ram1 place c.mepc) (place + 4) c.plevel below_word (inl (omega arith))
      ∙ word_at-other ram1 place c.mepc below_word (inl (omega arith))
      ∙ word_at-others (saved_registers (based c)) c.ram (place + 20) below_word (inl (omega arith))

  word0 : IsWordAt (plus own (pos context_pc)) place
  word0 = record { is = omega arith; aligned = aligned; inside = omega arith }

  word4 : IsWordAt (plus own (pos context_level)) (place + 4)
  word4 = record { is = omega arith; aligned = omega arith; inside = omega arith }

  word8 : IsWordAt (plus own (pos context_cur)) (place + 4 + 4)
  word8 = record { is = omega arith; aligned = omega arith; inside = omega arith }

  word12 : IsWordAt (plus own (pos context_below)) (place + 4 + 4 + 4)
  word12 = record { is = omega arith; aligned = omega arith; inside = omega arith }

  word_active : IsWordAt (plus memory_base (pos (active task))) (active task)
  word_active = record { is = omega arith; aligned = omega arith; inside = omega arith }

  apart_by : (k : ℕ) → place ≤ k → k + 4 ≤ place + context_bytes → IsApart from to k
  apart_by k l h = grind (arith, apart)

  apart0 : IsApart from to place
  apart0 = apart_by place (omega arith) (omega arith)

  apart4 : IsApart from to (place + 4)
  apart4 = apart_by (place + 4) (omega arith) (omega arith)

  apart8 : IsApart from to (place + 4 + 4)
  apart8 = apart_by (place + 4 + 4) (omega arith) (omega arith)

  apart12 : IsApart from to (place + 4 + 4 + 4)
  apart12 = apart_by (place + 4 + 4 + 4) (omega arith) (omega arith)

  under : (k : ℕ) → k + 4 ≤ 1024 → IsApart from to k
  under k h = inl (omega arith)

  active_under : active task + 4 ≤ 1024
  active_under = omega arith

  next_task : plus 0 (pos (task + 1)) ≡ task + 1
  next_task = omega arith

  -- what is stored in the context, and the words of the entry
  begun_owe : (o : ℕ) → Owes from to (behind 12 o) rest 0 E start (entered task level place c own 1)
      → Owes from to o (csr_saving_code level ++ (words_saving_code ++ (active_marking_code task ++ rest))) 0 E start
      (record (based c) { registers = 0 ∷ own ∷ word_at c.ram cur ∷ controller_base ∷ memory_base ∷ tail; ram = ram1 })
  begun_owe o go =
      accesses c.mepc refl masked
      ▸ stores place word0 apart0
      ▸ accesses c.plevel refl masked
      ▸ stores (place + 4) word4 apart4
      ▸ stores (place + 4 + 4) word8 apart8
      ▸ loads below_word (record { is = refl; aligned = refl; inside = lit≤ tt }) (word_at c.ram below_word) found_below
      ▸ stores (place + 4 + 4 + 4) word12 apart12
      ▸ stores below_word (record { is = refl; aligned = refl; inside = lit≤ tt }) (under below_word (lit≤ tt))
      ▸ writes (task + 1) next_task
      ▸ stores cur (record { is = refl; aligned = refl; inside = lit≤ tt }) (under cur (lit≤ tt))
      ▸ writes 1 refl
      ▸ stores (active task) word_active (under (active task) active_under)
      ▸ go

  own_is : plus (get_or c.registers 2 0) (neg_ℤ (pos context_bytes)) ≡ own
  own_is = omega arith

  context_fits : place + 4 * (5 + 27) ≤ memory_bytes
  context_fits = omega arith

  context_apart : (place + 4 * (5 + 27) ≤ from) ⊎ (to ≤ place)
  context_apart = grind (arith, apart)

  abbrev after : List InstrKind
  after = csr_saving_code level ++ (words_saving_code ++ (active_marking_code task ++ rest))

  -- behind what saves the registers, with the bytes that it leaves
  abbrev Begun : ℕ → List ℕ → Type 0
  Begun o registers =
      Owes from to o after 0 E start
      (record (based c) { registers = 0 ∷ own ∷ word_at c.ram cur ∷ controller_base ∷ memory_base ∷ tail; ram = with_words c.ram (place + 20) registers })

  -- the branch, and the registers of a task
  pub enters_owe : (o : ℕ) → o ≤ memory_bytes
      → ((o' : ℕ) → o' ≡ o + 168 → Owes from to o' rest 0 E start (entered task level place c own 1))
      → Owes from to o (enters_first task level rest) 0 E start (based c)
  enters_owe o small go =
      writes own own_is
      ▸ loads cur (record { is = refl; aligned = refl; inside = lit≤ tt }) (word_at c.ram cur) refl
      ▸ record {
        passed = 27;
        lands = lands (o + 4 + 4) (omega arith);
        when_taken = λ t.
            subst (Begun (behind 27 (behind 3 o))) (none_saved (based c) t)
            (begun_owe (behind 27 (behind 3 o)) (go (behind 12 (behind 27 (behind 3 o))) (omega arith)));
        when_not = λ n.
            saves_owes from to E start after place aligned 27 5 1 (behind 3 o) (behind 3 o + 108)
            (record (based c) { registers = 0 ∷ own ∷ word_at c.ram cur ∷ controller_base ∷ memory_base ∷ tail }) refl refl context_fits context_apart
            (subst (Begun (behind 3 o + 108)) (all_saved (based c) (not_true (eqb (word_at c.ram cur) 0) n))
            (begun_owe (behind 3 o + 108) (go (behind 12 (behind 3 o + 108)) (omega arith))));
      }
    where
      not_true : (b : Bool) → (b ≡ true → ⊥) → b ≡ false
      not_true true n = absurd (n refl)
      not_true false n = refl
