-- The code of ChainTask has its effect.
use Rattle.std.proofs.Common.{◌≡◌, ℕ, ◌+◌, ◌*◌, ◌<◌, ◌≤◌, List, [], ◌∷◌, ◌++◌, get_or, refl, sym, ap, ◌∙◌, arith, inl, inr, ⊎_elim}
use Rattle.std.specs.Prelude.{false, true, set, pos, not, ◌≢◌, eqb}
use Rattle.std.proofs.lemmas.Bool.{cases_eq, eq-eqb, ne_eqb}
use Rattle.sloth_base.specs.Machine.{Core, State}
use Rattle.sloth_base.specs.Arrive.{arrive, state_arrive}
use Rattle.sloth_base.specs.Status.{E_OS_LIMIT}
use Rattle.sloth_base.specs.MemoryMap.{memory_base, memory_bytes, controller_base, line_count}
use Rattle.sloth_region.specs.Layout.{cur, active}
use Rattle.rv32_instr.specs.declared.InstrKind.{InstrKind}
use Rattle.rv32_instr.specs.declared.InstrKind.TheVariants.{Addi}
use Rattle.rv32_instr.specs.Ram.{word_at}
use Rattle.masked_code.specs.Place.{offset_state}
use Rattle.masked_code.specs.Masked.{FromOpening}
use Rattle.masked_code.proofs.Owes.{◌▸◌, writes, loads, raises, AreOfLine, Owes}
use Rattle.masked_code.specs.Kernel.{leaving_code, masking}
use Rattle.masked_code.proofs.Arrivals.{other_bytes}
use Rattle.masked_code.proofs.Spread.{based, spread_from}
use Rattle.masked_code.proofs.Routines.{masked}
use Rattle.masked_code.proofs.Leave.{leave_owes, behind}
use Rattle.block_parts.proofs.Landing.{lands}
use Rattle.block_parts.proofs.Returning.{goes_back}
use Rattle.block_parts.proofs.Busy.{Finds, looks_owe}
use Rattle.service_gen.proofs.Ending.{ends_owe, ended_below, has_ended}
use Rattle.block_parts.proofs.Serving.{opens_within}
use Rattle.block_parts.specs.Services.{own_task_code, refusing_code}
use Rattle.block_parts.specs.Pieces.{ending_code, looking_code, raising_code, back_code}
use Rattle.block_parts.specs.SuspensionTest.{IsFoundSuspended}
use Rattle.service_gen.specs.TerminateTask.{ended_ram, TerminateTaskEffect}
use Rattle.service_gen.specs.ChainTask.{MayChain, ChainTaskEffect, IsChainTaskCode}

-- the code behind the masking instruction
abbrev pub body : ℕ → List InstrKind
body task = own_task_code task ++ (looking_code task ++ (refusing_code ++ (back_code ++ (ending_code ++ (raising_code task ++ leaving_code)))))

-- a branch at an offset reaches the instruction behind so many more
module _ (offset task own place : ℕ) (c : Core) (h : MayChain offset task own place (masking ∷ body task) c) where
  low : 1024 ≤ offset
  low = h.goes_back.can_run.behind

  inside : offset + 252 ≤ memory_bytes
  inside = let f = h.goes_back.can_run.inside in omega arith

  line : task < line_count
  line = let s = h.is_task in omega arith

  abbrev st : List ℕ → State
  st p = offset_state offset (record (based c) { pending = p })

  abbrev x2 : ℕ
  x2 = get_or c.registers 2 0

  abbrev x5 : ℕ
  x5 = get_or c.registers 5 0

  -- from x6 on, where x10 is new
  abbrev tail : ℕ → List ℕ
  tail x10 = set (spread_from 26 6 c.registers) 4 x10

  abbrev word : ℕ
  word = word_at c.ram (active task)

  -- the caller's end, the raised line, and the way down
  go_owe : (o : ℕ) → o + 52 ≤ memory_bytes → (p : List ℕ) (x1 x10 : ℕ) (E : List ℕ → State → State → Type 0) → ((lines : List ℕ) (middle end : State) → AreOfLine own lines → TerminateTaskEffect own place (own ∷ []) (st (arrive lines p)) middle → end ≡ state_arrive (task ∷ []) middle → E (own ∷ []) (st (arrive lines p)) end) → Owes offset (offset + 4 + 248) o (ending_code ++ (raising_code task ++ leaving_code)) 0 E (st p) (record (masked (based c)) { registers = 0 ∷ x1 ∷ x2 ∷ controller_base ∷ memory_base ∷ x5 ∷ tail x10; pending = p })
  go_owe o small p x1 x10 E k =
      ends_owe offset (offset + 4 + 248) own E (st p) (raising_code task ++ leaving_code) (record (masked (based c)) { pending = p }) x1 x2 x5 (tail x10) h.is_own h.runs low o
      (λ lines only.
      let q = arrive lines p in
      let d = record (masked (based c)) { pending = set (set q own 0) task 1; ram = ended_ram c.ram own } in
      writes 1 refl
      ▸ raises task (omega arith, line) (λ z. absurd (cc))
      ▸ leave_owes offset (offset + 4 + 248) (λ u. E (own ∷ u)) (st q) place d 1 x2 (8 * (own + 1)) (tail x10) refl refl h.goes_back.previous (ended_below c d own place h.is_own refl h.below) low (behind 11 o) (omega (arith, small))
      (λ end left. k lines (record end { core = record end.core { pending = set q own 0 } }) end only
      (has_ended c d own place (st q) end h.is_own h.below.behind refl refl refl refl refl refl left)
      (ap (λ x. record end { core = record end.core { pending = x } }) left.left.pending)))

  -- the task was not Suspended
  stays_owe : (o : ℕ) (p : List ℕ) (v : ℕ) → task ≢ own → (IsFoundSuspended task (record c { pending = p }) → ⊥)
      → Owes offset (offset + 4 + 248) o (Addi 10 0 (pos E_OS_LIMIT) ∷ (back_code ++ (ending_code ++ (raising_code task ++ leaving_code)))) 0 (λ u. ChainTaskEffect task own place (task ∷ u)) (st p)
      (record (masked (based c)) { registers = 0 ∷ v ∷ x2 ∷ controller_base ∷ memory_base ∷ x5 ∷ tail word; pending = p })
  stays_owe o p v ne other =
      writes E_OS_LIMIT refl
      ▸ goes_back offset (masking ∷ body task) c h.goes_back (λ u. ChainTaskEffect task own place (task ∷ u)) v E_OS_LIMIT p p c.ram
      (λ last is went. inr (record { other = ne; not_suspended = other; touches = refl; status = is; back = went }))

  -- behind the look at the task
  looked_owe : (o : ℕ) (p : List ℕ) (v : ℕ) → o + 68 ≤ memory_bytes → task ≢ own → Finds task (record c { pending = p }) v
      → Owes offset (offset + 4 + 248) o (refusing_code ++ (back_code ++ (ending_code ++ (raising_code task ++ leaving_code)))) 0 (λ u. ChainTaskEffect task own place (task ∷ u)) (st p)
      (record (masked (based c)) { registers = 0 ∷ v ∷ x2 ∷ controller_base ∷ memory_base ∷ x5 ∷ tail word; pending = p })
  looked_owe o p v small ne found =
      record {
        passed = 3;
        lands = lands o 16 3 (omega arith) (omega arith) refl;
        when_taken = λ t. ⊎_elim
            (λ s. go_owe (behind 4 o) (omega arith) p v word (λ u. ChainTaskEffect task own place (task ∷ u)) (λ lines2 middle end only ended raised. inl (record { may = inr (ne, (s.0.0, other_bytes own lines2 p task only ne ∙ s.0.1, s.0.2), refl); middle = middle; ended = ended; raised = raised })))
            (λ s. let f : not (eqb v 0) ≡ false = ap (λ x. not (eqb x 0)) s.1 in absurd (cc))
            found;
        when_not = λ n. ⊎_elim
            (λ s. let f : not (eqb v 0) ≡ true = ap (λ x. not (eqb x 0)) s.1 in absurd (n f))
            (λ s. stays_owe (o + 4) p v ne s.0)
            found;
      }

  body_owes : Owes offset (offset + 4 + 248) (offset + 4) (body task) 0 (ChainTaskEffect task own place) (offset_state offset (based c)) (masked (based c))
  body_owes =
      let fits = inside in
      let small = h.is_task in
      loads cur (record { is = refl; aligned = refl; inside = omega arith }) (own + 1) h.runs
      ▸ writes (task + 1) (omega arith)
      ▸ record {
        passed = 9;
        lands = lands (behind 2 (offset + 4)) 40 9 (omega arith) (omega arith) refl;
        when_taken = λ t. ⊎_elim
            (λ same. go_owe (behind 12 (offset + 4)) (omega arith) c.pending (own + 1) (task + 1) (ChainTaskEffect task own place) (λ lines middle end only ended raised. inl (record { may = inl (omega arith, refl); middle = middle; ended = ended; raised = raised })))
            (λ ne. let f = ne_eqb (own + 1) (task + 1) ne in absurd (cc))
            (cases_eq (own + 1) (task + 1));
        when_not = λ n.
            let ne : task ≢ own = λ x. n (eq-eqb (own + 1) (task + 1) (ap (λ y. y + 1) (sym x))) in
            looks_owe offset (offset + 4 + 248) task (ChainTaskEffect task own place) (refusing_code ++ (back_code ++ (ending_code ++ (raising_code task ++ leaving_code)))) c h.is_task
            h.goes_back.can_run.lines h.active_bit h.pending_bit h.enabled_bit (behind 3 (offset + 4)) (own + 1) (task + 1)
            (λ lines v only found. looked_owe (behind 8 (offset + 4)) (arrive lines c.pending) v (omega arith) ne found);
      }

  runs_it : FromOpening 59 (offset_state offset c) (ChainTaskEffect task own place)
  runs_it = opens_within offset 59 (body task) c (ChainTaskEffect task own place) h.goes_back.can_run h.goes_back.bases (omega arith) body_owes

-- for each task that follows
pub chains : (task : ℕ) → IsChainTaskCode task (masking ∷ body task)
chains task = record { size = refl; masks = (body task, refl); runs = λ offset own place core h. runs_it offset task own place core h }
