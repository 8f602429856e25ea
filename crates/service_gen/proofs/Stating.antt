-- The code of GetTaskState has its effect.
use Rattle.std.proofs.Common.{◌≡◌, ℕ, ◌+◌, ◌<◌, ◌≤◌, List, [], ◌∷◌, ◌++◌, get_or, refl, sym, ap, subst, arith, ⊎_elim}
use Rattle.std.specs.Prelude.{set, negsuc, nat_lt, bit_xor, ◌≢◌}
use Rattle.std.proofs.lemmas.Bool.{cases_eq, cases_lt, eq-eqb, ne_eqb, lt-ltb}
use Rattle.sloth_base.specs.Machine.{Core, State}
use Rattle.sloth_base.specs.Arithmetic.{plus, one_if, left_shift}
use Rattle.sloth_base.specs.Arrive.{arrive}
use Rattle.sloth_base.specs.Status.{E_OK}
use Rattle.sloth_base.specs.MemoryMap.{memory_base, memory_bytes, controller_base, line_count}
use Rattle.sloth_base.specs.Limits.{task_limit}
use Rattle.sloth_region.specs.Layout.{cur, active}
use Rattle.rv32_instr.specs.declared.InstrKind.{InstrKind}
use Rattle.rv32_instr.specs.Ram.{word_at}
use Rattle.masked_code.specs.Place.{offset_state}
use Rattle.masked_code.specs.Masked.{FromOpening}
use Rattle.masked_code.specs.Kernel.{masking}
use Rattle.masked_code.proofs.Owes.{◌▸◌, writes, loads, loads_byte, Owes, Pending, Enabled}
use Rattle.masked_code.proofs.Leave.{behind}
use Rattle.masked_code.proofs.Spread.{based, spread_from}
use Rattle.masked_code.proofs.Routines.{masked}
use Rattle.block_parts.proofs.Busy.{bit_arrives}
use Rattle.block_parts.proofs.Landing.{lands}
use Rattle.block_parts.proofs.Returning.{goes_back_with}
use Rattle.block_parts.proofs.Serving.{opens_within}
use Rattle.block_parts.specs.Services.{resting_telling_code}
use Rattle.service_gen.specs.TaskPieces.{active_task_test, active_telling_code, waiting_task_test}
use Rattle.block_parts.specs.Pieces.{back_code}
use Rattle.service_gen.specs.GetTaskState.{MayTellState, IsStateNumber, GetTaskStateEffect, IsGetTaskStateCode}
use Rattle.service_gen.specs.GetTaskState.IsStateNumber.{running, preempted, waiting, ready, suspended}

-- the code behind the masking instruction
abbrev pub body : ℕ → List InstrKind
body task = active_task_test task ++ (active_telling_code task ++ (back_code ++ (waiting_task_test task ++ (resting_telling_code task ++ back_code))))

-- how far the running task's number is from this one
abbrev apart : ℕ → ℕ → ℕ
apart own task = plus (own + 1) (negsuc task)

-- what the code computes of that for an Active task
abbrev told : ℕ → ℕ
told v = left_shift (one_if (nat_lt 0 v)) 1

told_own : (task own : ℕ) → task < task_limit → task ≡ own → told (apart own task) ≡ 0
told_own task own x e = let z : apart own task ≡ 0 = omega arith in ap told z

told_other : (task own : ℕ) → task < task_limit → own < task_limit → task ≢ own → told (apart own task) ≡ 2
told_other task own x y ne =
    ⊎_elim
    (λ (more : 0 < apart own task). ap (λ t. left_shift (one_if t) 1) (lt-ltb 0 (apart own task) more))
    (λ none. absurd (ne (omega arith)))
    (cases_lt 0 (apart own task))

module _ (offset task own : ℕ) (c : Core) (h : MayTellState offset task own (masking ∷ body task) c) where
  line : task < line_count
  line = let s = h.is_task in omega arith

  abbrev st : List ℕ → State
  st p = offset_state offset (record (based c) { pending = p })

  abbrev x2 : ℕ
  x2 = get_or c.registers 2 0

  abbrev tail : List ℕ
  tail = spread_from 27 5 c.registers

  abbrev word : ℕ
  word = word_at c.ram (active task)

  abbrev enabled : ℕ
  enabled = get_or c.enabled task 0

  -- the way back, with the number in a1, where these lines were touched before
  back_owe : (p before : List ℕ) (x number : ℕ) → IsStateNumber task own (record (based c) { pending = p }) (before ++ []) number
      → Owes 0 0 0 back_code 0 (λ u. GetTaskStateEffect task own (before ++ u)) (st p)
      (record (masked (based c)) { registers = 0 ∷ x ∷ x2 ∷ controller_base ∷ memory_base ∷ set (set tail 6 number) 5 E_OK; pending = p })
  back_owe p before x number is =
      goes_back_with offset (masking ∷ body task) c h.goes_back (λ u. GetTaskStateEffect task own (before ++ u)) x E_OK number p p c.ram
      (λ last status answer went. record {
        status = status;
        number = subst (IsStateNumber task own (record (based c) { pending = p }) (before ++ [])) (sym answer) is;
        back = went;
      })

  -- the task is neither Active nor does it wait: what its pending byte tells
  rests : (q : ℕ) (p : List ℕ) → word ≡ 0 → enabled ≡ 1 → get_or p task 0 ≡ q → q < 2 → IsStateNumber task own (record (based c) { pending = p }) (task ∷ []) (bit_xor q 3)
  rests q p a e is small =
      ⊎_elim
      (λ (z : q ≡ 0). suspended (a, (omega arith), e) refl (ap (λ v. bit_xor v 3) z))
      (λ n. let one : q ≡ 1 = ⊎_elim (λ (z : q < 1). absurd (n (omega arith))) (λ (m : 1 ≤ q). omega arith) (cases_lt q 1) in ready a e (omega arith) refl (ap (λ v. bit_xor v 3) one))
      (cases_eq q 0)

  -- the task is not Active
  resting_owe : (o : ℕ) → o + 12 ≤ memory_bytes → word ≡ 0 → Owes offset (offset + 4 + 64) o (waiting_task_test task ++ (resting_telling_code task ++ back_code)) 0 (GetTaskStateEffect task own) (st c.pending) (record (masked (based c)) { registers = 0 ∷ word ∷ x2 ∷ controller_base ∷ memory_base ∷ set tail 5 E_OK; pending = c.pending })
  resting_owe o low a =
      let long = h.goes_back.can_run.lines in
      let below = line in
      loads_byte (Enabled task) (omega arith, below)
      ▸ writes 1 refl
      ▸ record {
        passed = 2;
        lands = lands (behind 2 o) 12 2 (omega arith) (omega arith) refl;
        when_taken = λ t. ⊎_elim
            (λ z. back_owe c.pending [] enabled 1 (waiting a z refl refl))
            (λ ne. let f = ne_eqb enabled 0 ne in absurd (cc))
            (cases_eq enabled 0);
        when_not = λ n.
            let bit = h.enabled_bit in
            let e : enabled ≡ 1 = ⊎_elim (λ (z : enabled < 1). absurd (n (eq-eqb enabled 0 (omega arith)))) (λ (m : 1 ≤ enabled). omega arith) (cases_lt enabled 1) in
            loads_byte (Pending task) (omega arith, below)
            ▸ λ lines only.
            let p = arrive lines c.pending in
            let q = get_or p task 0 in
            writes (bit_xor q 3) refl
            ▸ back_owe p (task ∷ []) q (bit_xor q 3)
            (rests q p a e refl (bit_arrives lines c.pending task (omega arith) h.pending_bit));
      }

  -- the task is Active
  active_owe : (o : ℕ) → word ≡ 1 → Owes offset (offset + 4 + 64) o (active_telling_code task ++ (back_code ++ (waiting_task_test task ++ (resting_telling_code task ++ back_code)))) 0 (GetTaskStateEffect task own) (st c.pending) (record (masked (based c)) { registers = 0 ∷ word ∷ x2 ∷ controller_base ∷ memory_base ∷ set tail 5 E_OK; pending = c.pending })
  active_owe o a =
      let v = apart own task in
      let number : IsStateNumber task own (based c) [] (told v) =
      ⊎_elim
      (λ (e : task ≡ own). running a e refl (told_own task own h.is_task e))
      (λ ne. preempted a ne refl (told_other task own h.is_task h.is_own ne))
      (cases_eq task own)
      in
      loads cur (record { is = refl; aligned = refl; inside = omega arith }) (own + 1) h.runs
      ▸ writes v refl
      ▸ writes (one_if (nat_lt 0 v)) refl
      ▸ writes (told v) refl
      ▸ back_owe c.pending [] v (told v) number

  body_owes : Owes offset (offset + 4 + 64) (offset + 4) (body task) 0 (GetTaskStateEffect task own) (offset_state offset (based c)) (masked (based c))
  body_owes =
      let fits = h.goes_back.can_run.inside in
      let small = h.is_task in
      let bit = h.active_bit in
      writes E_OK refl
      ▸ loads (active task) (record { is = omega arith; aligned = omega arith; inside = omega arith }) word refl
      ▸ record {
        passed = 6;
        lands = lands (behind 2 (offset + 4)) 28 6 (omega arith) (omega arith) refl;
        when_taken = λ t. ⊎_elim
            (λ z. resting_owe (behind 9 (offset + 4)) (omega arith) z)
            (λ ne. let f = ne_eqb word 0 ne in absurd (cc))
            (cases_eq word 0);
        when_not = λ n. active_owe (behind 3 (offset + 4))
            (⊎_elim (λ (z : word < 1). absurd (n (eq-eqb word 0 (omega arith)))) (λ (m : 1 ≤ word). omega arith) (cases_lt word 1));
      }

  runs_it : FromOpening 10 (offset_state offset c) (GetTaskStateEffect task own)
  runs_it = opens_within offset 10 (body task) c (GetTaskStateEffect task own) h.goes_back.can_run h.goes_back.bases (omega arith) body_owes

-- for each task that is asked for
pub tells_state : (task : ℕ) → IsGetTaskStateCode task (masking ∷ body task)
tells_state task = record { size = refl; masks = (body task, refl); runs = λ offset own core h. runs_it offset task own core h }
