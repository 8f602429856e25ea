-- Going back to what runs below.
use Rattle.std.proofs.Common.{◌≡◌, ◌≢◌, ℕ, zero, suc, ◌+◌, ◌-◌, ◌*◌, ◌%◌, ◌<◌, ◌≤◌, List, [], ◌∷◌, ◌++◌, length, get_or, refl, ◌∙◌, arith, inl, inr}
use Rattle.std.specs.Prelude.{false, true, pos}
use Rattle.std.proofs.lemmas.Bool.{ne_eqb}
use Rattle.sloth_base.specs.Arithmetic.{plus}
use Rattle.sloth_base.specs.Machine.{Core, State}
use Rattle.sloth_base.specs.MemoryMap.{memory_base, memory_bytes, controller_base}
use Rattle.sloth_region.specs.Layout.{cur, below_word, context_bytes, context_level, context_cur, context_below}
use Rattle.rv32_instr.specs.declared.InstrKind.TheVariants.{Mret}
use Rattle.rv32_instr.specs.Ram.{word_at, with_word}
use Rattle.masked_code.proofs.Owes.{◌▸◌, writes, loads, stores, accesses, Owes}
use Rattle.masked_code.specs.Kernel.{HasBases, IsContextBelow, idle_loop_test, leaving_code}
use Rattle.masked_code.proofs.Resumption.{IsResumedState}
use Rattle.masked_code.specs.Pieces.{restoring_code}
use Rattle.masked_code.proofs.RegisterCode.{restored_registers}
use Rattle.masked_code.proofs.Words.{word_at-other}
use Rattle.masked_code.proofs.Runs.{restores_owes, length-restored, restored_other, restored_at}

-- an offset so many instructions on
abbrev pub behind : ℕ → ℕ → ℕ
behind zero o = o
behind (suc n) o = behind n (o + 4)

-- the address behind a context in RAM
pub context_end : (place : ℕ) → place + context_bytes ≤ memory_bytes → plus (memory_base + place) (pos context_bytes) ≡ memory_base + (place + context_bytes)
context_end place inside = omega arith

-- where the branch lands
lands : (o : ℕ) → o ≤ 0x20_1000 → plus (memory_base + o) (pos 112) ≡ memory_base + (o + 4 + 4 * 27)
lands o small = omega arith

module _ (from to : ℕ) (E : List ℕ → State → State → Type 0) (start : State) (place : ℕ) (c : Core) (x1 x2 x5 : ℕ) (tail : List ℕ) (long : length tail ≡ 26) (masked : c.mie ≡ false) (previous : c.mpie ≡ true) (b : IsContextBelow place c) (code_behind : 1024 ≤ from) where
  abbrev v0 : ℕ
  v0 = word_at c.ram place

  abbrev v4 : ℕ
  v4 = word_at c.ram (place + context_level)

  abbrev v8 : ℕ
  v8 = word_at c.ram (place + context_cur)

  abbrev v12 : ℕ
  v12 = word_at c.ram (place + context_below)

  abbrev ram1 : List ℕ
  ram1 = with_word c.ram cur v8

  abbrev ram2 : List ℕ
  ram2 = with_word ram1 below_word v12

  abbrev regs : List ℕ
  regs = 0 ∷ (memory_base + place) ∷ (memory_base + (place + context_bytes)) ∷ controller_base ∷ memory_base ∷ v8 ∷ tail

  abbrev d : Core
  d = record c { registers = regs; mepc = v0 - v0 % 4; plevel = v4 % 256; ram = ram2 }

  same : (k : ℕ) → word_at ram2 (place + k) ≡ word_at c.ram (place + k)
  same k =
      let past = b.behind in
      word_at-other ram1 below_word v12 (place + k) (inr (omega arith)) ∙ word_at-other c.ram cur v8 (place + k) (inr (omega arith))

  -- behind `mret`, with these registers
  gone : (registers : List ℕ) → length registers ≡ 32 → get_or registers 0 0 ≡ 0 → get_or registers 2 0 ≡ memory_base + (place + context_bytes) → HasBases registers
      → (v8 ≢ 0 → (i : ℕ) → 5 ≤ i → i < 32 → get_or registers i 0 ≡ word_at c.ram (place + 4 * i))
      → IsResumedState place c (record { pc = v0 - v0 % 4; core = record d { registers = registers; ilevel = v4 % 256; mie = c.mpie; mpie = true } })
  gone registers all first sp bases loaded =
      let returns = b.returns in
      let level = b.level in
      record {
        left = record {
          zero = first;
          registers = all;
          bases = bases;
          opened = previous;
          previous = refl;
          running = omega arith;
          same_level = refl;
          pending = refl;
          enabled = refl;
          levels = refl;
          ram = refl;
          scratch = refl;
          controller = refl;
        };
        pc = omega arith;
        x2 = sp;
        loaded = loaded;
      }

  -- the registers are restored where a task runs below
  asked_owe : (o : ℕ) → o ≤ 0x20_1000 → ((end : State) → IsResumedState place c end → E [] start end)
      → Owes from to o (idle_loop_test ++ (restoring_code 27 5 1 ++ Mret ∷ [])) 0 E start d
  asked_owe o small go =
      let al = b.aligned in
      let fits = b.inside in
      let lengths = length-restored 27 5 ram2 place regs in
      record {
        passed = 27;
        lands = lands o small;
        when_taken = λ t. go _ (gone regs (omega arith) refl refl (refl, refl) (λ some. let f = ne_eqb v8 0 some in absurd (cc)));
        when_not = λ n.
            restores_owes from to E start (Mret ∷ []) place al 27 5 1 (o + 4) (o + 4 + 108) d refl (omega arith) refl (omega arith)
            (go _ (gone (restored_registers 27 5 ram2 place regs) (omega arith) (restored_other 27 5 ram2 place regs 0 (inl (omega arith))) (restored_other 27 5 ram2 place regs 2 (inl (omega arith)))
            (restored_other 27 5 ram2 place regs 3 (inl (omega arith)), restored_other 27 5 ram2 place regs 4 (inl (omega arith)))
            (λ some i low high. restored_at 27 5 ram2 place regs i low high (omega arith) ∙ same (4 * i))));
      }

  -- what is owed of going back: of the state that it ends in, whatever runs below
  pub leave_owes : (o : ℕ) → o ≤ memory_bytes → ((end : State) → IsResumedState place c end → E [] start end)
      → Owes from to o leaving_code 0 E start (record c { registers = 0 ∷ x1 ∷ x2 ∷ controller_base ∷ memory_base ∷ x5 ∷ tail })
  leave_owes o small go =
      let al = b.aligned in
      let fits = b.inside in
      let past = b.behind in
      loads below_word (record { is = refl; aligned = refl; inside = omega arith }) (memory_base + place) b.is
      ▸ loads place (record { is = omega arith; aligned = al; inside = omega arith }) v0 refl
      ▸ accesses c.mepc refl masked
      ▸ loads (place + context_level) (record { is = omega arith; aligned = omega arith; inside = omega arith }) v4 refl
      ▸ accesses c.plevel refl masked
      ▸ loads (place + context_cur) (record { is = omega arith; aligned = omega arith; inside = omega arith }) v8 refl
      ▸ stores cur (record { is = refl; aligned = refl; inside = omega arith }) (inl (omega arith))
      ▸ loads (place + context_below) (record { is = omega arith; aligned = omega arith; inside = omega arith }) v12 (word_at-other c.ram cur v8 (place + context_below) (inr (omega arith)))
      ▸ stores below_word (record { is = refl; aligned = refl; inside = omega arith }) (inl (omega arith))
      ▸ writes (memory_base + (place + context_bytes)) (context_end place fits)
      ▸ asked_owe (behind 10 o) (omega arith) go
