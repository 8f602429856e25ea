-- What is owed of the end of the running task, and of the way to what runs below.
use Rattle.std.proofs.Common.{◌≡◌, ℕ, ◌+◌, ◌*◌, ◌%◌, ◌<◌, ◌≤◌, List, [], ◌∷◌, ◌++◌, refl, sym, ap, ◌∙◌, subst, arith, inl, inr}
use Rattle.std.specs.Prelude.{set}
use Rattle.sloth_base.specs.Machine.{Core, State}
use Rattle.sloth_base.specs.Arrive.{arrive, state_arrive}
use Rattle.sloth_base.specs.MemoryMap.{memory_base, controller_base}
use Rattle.sloth_base.specs.Limits.{task_limit}
use Rattle.sloth_region.specs.Layout.{cur, active, events, below_word, idle_context, context_level, context_cur, context_below}
use Rattle.rv32_instr.specs.declared.InstrKind.{InstrKind}
use Rattle.rv32_instr.specs.Ram.{word_at, with_word}
use Rattle.masked_code.proofs.Owes.{◌▸◌, writes, loads, stores, clears, AreOfLine, Owes}
use Rattle.masked_code.specs.Kernel.{IsContextBelow}
use Rattle.masked_code.proofs.Resumption.{IsResumedState}
use Rattle.masked_code.proofs.Words.{word_at-other}
use Rattle.masked_code.proofs.Leave.{behind}
use Rattle.block_parts.specs.Pieces.{ending_code}
use Rattle.service_gen.specs.TerminateTask.{ended_ram, TerminateTaskEffect}

-- the end of a task changes no word behind those of the tasks
pub ended_kept : (ram : List ℕ) (own p : ℕ) → own < task_limit → below_word ≤ p → word_at (ended_ram ram own) p ≡ word_at ram p
ended_kept ram own p small far = word_at-other (with_word ram (active own) 0) (events own) 0 p (inr (omega arith)) ∙ word_at-other ram (active own) 0 p (inr (omega arith))

module _ (from to own : ℕ) (E : List ℕ → State → State → Type 0) (start : State) (rest : List InstrKind) (c : Core) (x1 x2 x5 : ℕ) (tail : List ℕ) (small : own < task_limit) (runs : word_at c.ram cur ≡ own + 1) (low : 1024 ≤ from) where
  -- what is owed of the end: of the code behind it, whatever arrived of the task before
  pub ends_owe : (o : ℕ) → ((lines : List ℕ) → AreOfLine own lines → Owes from to (behind 9 o) rest 0 (λ touched. E (own ∷ touched)) (state_arrive lines start) (record c { registers = 0 ∷ (memory_base + 12 * (own + 1)) ∷ x2 ∷ controller_base ∷ memory_base ∷ 8 * (own + 1) ∷ tail; pending = set (arrive lines c.pending) own 0; ram = ended_ram c.ram own })) → Owes from to o (ending_code ++ rest) 0 E start (record c { registers = 0 ∷ x1 ∷ x2 ∷ controller_base ∷ memory_base ∷ x5 ∷ tail })
  ends_owe o go =
      loads cur (record { is = refl; aligned = refl; inside = omega arith }) (own + 1) runs
      ▸ writes (own + 1 + controller_base) (omega arith)
      ▸ clears own (omega arith, omega arith) refl
      ▸ λ lines only.
      writes (8 * (own + 1)) (omega arith)
      ▸ writes (4 * (own + 1)) (omega arith)
      ▸ writes (12 * (own + 1)) (omega arith)
      ▸ writes (memory_base + 12 * (own + 1)) (omega arith)
      ▸ stores (active own) (record { is = omega arith; aligned = omega arith; inside = omega arith }) (inl (omega arith))
      ▸ stores (events own) (record { is = omega arith; aligned = omega arith; inside = omega arith }) (inl (omega arith))
      ▸ go lines only

-- what runs below is as it was
pub ended_below : (c d : Core) (own place : ℕ) → own < task_limit → d.ram ≡ ended_ram c.ram own → IsContextBelow place c → IsContextBelow place d
ended_below c d own place small e b =
    let past = b.behind in
    let kept : (p : ℕ) → below_word ≤ p → word_at d.ram p ≡ word_at c.ram p = λ p far. ap (λ r. word_at r p) e ∙ ended_kept c.ram own p small far in
    record { is = kept below_word (omega arith) ∙ b.is; aligned = b.aligned; behind = past; inside = b.inside; returns = ap (λ w. w % 4) (kept place (omega arith)) ∙ b.returns; level = subst (λ w. w < 256) (sym (kept (place + context_level) (omega arith))) b.level }

-- from the state that the way down leaves, but for the pending bytes
pub has_ended : (c d : Core) (own place : ℕ) (start end : State) → own < task_limit → idle_context ≤ place → d.ram ≡ ended_ram c.ram own → start.core.ram ≡ c.ram → start.core.enabled ≡ d.enabled → start.core.levels ≡ d.levels → start.core.mscratch ≡ d.mscratch → start.core.controller ≡ d.controller → IsResumedState place d end → TerminateTaskEffect own place (own ∷ []) start (record end { core = record end.core { pending = set start.core.pending own 0 } })
has_ended c d own place start end small past e same en le sc co has_left =
    let left = has_left.left in
    let kept : (p : ℕ) → below_word ≤ p → word_at d.ram p ≡ word_at start.core.ram p = λ p far. ap (λ r. word_at r p) e ∙ ended_kept c.ram own p small far ∙ ap (λ r. word_at r p) (sym same) in
    let ram : d.ram ≡ ended_ram start.core.ram own = e ∙ ap (λ r. ended_ram r own) (sym same) in
    record {
      touches = refl;
      left = record {
        zero = left.zero;
        registers = left.registers;
        opened = left.opened;
        previous = left.previous;
        running = left.running ∙ kept (place + context_level) (omega arith);
        same_level = left.same_level;
        bases = left.bases;
        pending = refl;
        enabled = left.enabled ∙ sym en;
        levels = left.levels ∙ sym le;
        ram =
            left.ram
            ∙ ap (λ r. with_word (with_word r cur (word_at d.ram (place + context_cur))) below_word (word_at d.ram (place + context_below))) ram
            ∙ ap (λ w. with_word (with_word (ended_ram start.core.ram own) cur w) below_word (word_at d.ram (place + context_below))) (kept (place + context_cur) (omega arith))
            ∙ ap (λ w. with_word (with_word (ended_ram start.core.ram own) cur (word_at start.core.ram (place + context_cur))) below_word w) (kept (place + context_below) (omega arith));
        scratch = left.scratch ∙ sym sc;
        controller = left.controller ∙ sym co;
      };
      pc = has_left.pc ∙ kept place (omega arith);
      x2 = has_left.x2;
      loaded = λ some i from upto. has_left.loaded (λ z. some (sym (kept (place + context_cur) (omega arith)) ∙ z)) i from upto ∙ kept (place + 4 * i) (omega arith);
    }
