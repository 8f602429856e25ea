-- The code of WaitEvent has its effect.
use Rattle.std.proofs.Common.{◌≡◌, ◌≢◌, ℕ, zero, suc, ◌+◌, ◌*◌, ◌%◌, ◌<◌, ◌≤◌, ◌⊎◌, List, [], ◌∷◌, ◌++◌, length, get_or, refl, sym, ap, ◌∙◌, subst, arith, inl, inr, ⊎_elim}
use Rattle.std.specs.Prelude.{set, pos, neg_ℤ}
use Rattle.std.proofs.lemmas.Bool.{eq-eqb, cases_eq, ne_eqb}
use Rattle.sloth_base.specs.Machine.{Core, State}
use Rattle.sloth_base.specs.Arithmetic.{plus}
use Rattle.sloth_base.specs.Status.{E_OK}
use Rattle.sloth_base.specs.MemoryMap.{memory_base, memory_bytes, controller_base}
use Rattle.sloth_region.specs.Layout.{cur, active, events, wait, resume, below_word, idle_context, context_bytes, context_level, context_cur, context_below}
use Rattle.rv32_instr.specs.declared.InstrKind.{InstrKind}
use Rattle.rv32_instr.specs.declared.InstrKind.TheVariants.{Addi}
use Rattle.rv32_instr.specs.Ram.{word_at, with_word, with_words}
use Rattle.masked_code.specs.Place.{offset_state, InPlace}
use Rattle.masked_code.specs.Masked.{FromOpening}
use Rattle.masked_code.specs.Pieces.{saving_code, registers_from}
use Rattle.masked_code.specs.Kernel.{CanRun, IsContextBelow, leaving_code, masking}
use Rattle.masked_code.proofs.Resumption.{IsResumedState}
use Rattle.masked_code.proofs.Owes.{◌▸◌, writes, loads, stores, sets_enabled, IsApart, Owes}
use Rattle.masked_code.proofs.Words.{word_at-other, word_at-others}
use Rattle.masked_code.proofs.Spread.{based, spread_from}
use Rattle.masked_code.proofs.Runs.{saves_owes}
use Rattle.masked_code.proofs.Routines.{in_place-front, masked}
use Rattle.masked_code.proofs.Leave.{leave_owes, behind}
use Rattle.block_parts.proofs.Returning.{goes_back}
use Rattle.block_parts.proofs.Landing.{lands}
use Rattle.block_parts.proofs.Serving.{opens_within}
use Rattle.block_parts.specs.Pieces.{back_code}
use Rattle.service_gen.proofs.Finding.{own_end, finds_by_x3}
use Rattle.block_parts.specs.Events.{keeping_code}
use Rattle.service_gen.specs.EventPieces.{own_finding_code, set_events_test, controller_address_code, set_answer_code, resting_code, disabling_code}
use Rattle.service_gen.specs.WaitEvent.{MayWait, WaitEventEffect, HasWaited, IsWaitEventCode, set_of, wait_length, rested_ram, kept_ram}

-- the registers are saved before this code
abbrev saved_first : List InstrKind → List InstrKind
saved_first rest = Addi 1 2 (neg_ℤ (pos context_bytes)) ∷ (saving_code 27 5 1 ++ rest)

-- behind the saved registers
abbrev saved_then : List InstrKind
saved_then = keeping_code ++ (controller_address_code ++ (disabling_code ++ leaving_code))

-- the code behind the masking instruction, up to the way back
abbrev front : List InstrKind
front = own_finding_code 3 ++ (set_events_test ++ (controller_address_code ++ (set_answer_code ++ (back_code ++ []))))

-- the code behind the masking instruction
abbrev pub body : List InstrKind
body = own_finding_code 3 ++ (set_events_test ++ (controller_address_code ++ (set_answer_code ++ (back_code ++ (resting_code ++ saved_first saved_then)))))

module _ (offset task place own : ℕ) (c : Core) (h : MayWait offset task place own (masking ∷ body) c) where
  abbrev st : State
  st = offset_state offset (based c)

  abbrev sp : ℕ
  sp = get_or c.registers 2 0

  abbrev at_own : ℕ
  at_own = memory_base + own

  abbrev tail : List ℕ
  tail = spread_from 27 5 c.registers

  abbrev found : ℕ
  found = set_of task c

  abbrev ram : List ℕ
  ram = kept_ram (based c) task own

  low : 1024 ≤ offset
  low = h.goes_back.can_run.behind

  abbrev end : ℕ
  end = offset + 4 + 356

  apart_by : (k : ℕ) → own ≤ k → k + 4 ≤ own + context_bytes → IsApart offset end k
  apart_by k l f = let a = h.code_apart in grind (arith, a)

  own_apart : (own + 4 * (5 + 27) ≤ offset) ⊎ (end ≤ own)
  own_apart = let a = h.code_apart in grind (arith, a)

  own_fits : own + 4 * (5 + 27) ≤ memory_bytes
  own_fits = let f = h.inside in omega arith

  own_is : plus sp (neg_ℤ (pos context_bytes)) ≡ at_own
  own_is = let e = h.x2 in let f = h.inside in omega arith

  -- what stands apart from all that is stored before the task leaves
  kept : (p : ℕ) → below_word ≤ p → (p + 4 ≤ 632) ⊎ ((idle_context ≤ p) × ((p + 4 ≤ own) ⊎ (own + context_bytes ≤ p))) → word_at ram p ≡ word_at c.ram p
  kept p past far =
      let small = h.is_task in
      let over = h.behind in
      let ws = registers_from 27 5 (based c).registers in
      let r2 = rested_ram (based c) task in
      let r3 = with_words r2 (own + 4 * 5) ws in
      let r4 = with_word r3 own (get_or c.registers 31 0) in
      word_at-other r4 (resume task) at_own p (grind (arith, far))
      ∙ word_at-other r3 own (get_or c.registers 31 0) p (grind (arith, far))
      ∙ word_at-others ws r2 (own + 4 * 5) p (grind (arith, far))
      ∙ word_at-other (with_word c.ram (active task) 0) (wait task) (get_or c.registers 30 0) p (inr (omega arith))
      ∙ word_at-other c.ram (active task) 0 p (inr (omega arith))

  -- the context of what runs below stands as it was
  kept_below : (k : ℕ) → k + 4 ≤ context_bytes → word_at ram (place + k) ≡ word_at c.ram (place + k)
  kept_below k within =
      let past = h.below.behind in
      let a = h.apart in
      kept (place + k) (omega arith) (inr (omega arith, grind (arith, a)))

  abbrev d : Core
  d = record (masked (based c)) { enabled = set c.enabled task 0; ram = ram }

  zero_more : place + 0 ≡ place
  zero_more = omega arith

  kept_place : word_at ram place ≡ word_at c.ram place
  kept_place = subst (λ p. word_at ram p ≡ word_at c.ram p) zero_more (kept_below 0 (omega arith))

  still_below : IsContextBelow place d
  still_below =
      let b = h.below in
      record {
        is = kept below_word (omega arith) (inl (omega arith)) ∙ b.is;
        aligned = b.aligned;
        behind = b.behind;
        inside = b.inside;
        returns = ap (λ w. w % 4) kept_place ∙ b.returns;
        level = subst (λ w. w < 256) (sym (kept_below context_level (omega arith))) b.level;
      }

  has_waited : (last : State) → found ≡ 0 → IsResumedState place d last → HasWaited task place own st last
  has_waited last none has_left =
      let l = has_left.left in
      let at_cur = kept_below context_cur (omega arith) in
      let at_below = kept_below context_below (omega arith) in
      record {
        none_set = none;
        left = record {
          zero = l.zero;
          registers = l.registers;
          opened = l.opened;
          previous = l.previous;
          running = l.running ∙ kept_below context_level (omega arith);
          same_level = l.same_level;
          bases = l.bases;
          pending = l.pending;
          enabled = l.enabled;
          levels = l.levels;
          ram =
              l.ram
              ∙ ap (λ w. with_word (with_word ram cur w) below_word (word_at ram (place + context_below))) at_cur
              ∙ ap (λ w. with_word (with_word ram cur (word_at c.ram (place + context_cur))) below_word w) at_below;
          scratch = l.scratch;
          controller = l.controller;
        };
        pc = has_left.pc ∙ kept_place;
        x2 = has_left.x2;
        loaded = λ some i from upto. has_left.loaded (λ z. some (sym at_cur ∙ z)) i from upto ∙ kept_below (4 * i) (omega arith);
      }

  -- behind the saved registers
  kept_owe : (o : ℕ) → o + 32 ≤ memory_bytes → found ≡ 0
      → Owes offset end o saved_then 0 (WaitEventEffect task place own) st
      (record (masked (based c)) { registers = 0 ∷ at_own ∷ sp ∷ found ∷ memory_base ∷ tail; ram = with_words (rested_ram (based c) task) (own + 4 * 5) (registers_from 27 5 (based c).registers) })
  kept_owe o near none =
      let small = h.is_task in
      let al = h.aligned in
      let over = h.behind in
      let fits = h.inside in
      let under = low in
      let ws = registers_from 27 5 (based c).registers in
      let r2 = rested_ram (based c) task in
      let r3 = with_words r2 (own + 4 * 5) ws in
      let runs_on : word_at (with_word r3 own (get_or c.registers 31 0)) cur ≡ task + 1 =
      word_at-other r3 own (get_or c.registers 31 0) cur (inl (omega arith))
      ∙ word_at-others ws r2 (own + 4 * 5) cur (inl (omega arith))
      ∙ word_at-other (with_word c.ram (active task) 0) (wait task) (get_or c.registers 30 0) cur (inl (omega arith))
      ∙ word_at-other c.ram (active task) 0 cur (inl (omega arith))
      ∙ h.runs
      in
      stores own (record { is = omega arith; aligned = al; inside = omega arith }) (apart_by own (omega arith) (omega arith))
      ▸ loads cur (record { is = refl; aligned = refl; inside = omega arith }) (task + 1) runs_on
      ▸ writes (4 * (task + 1)) (omega arith)
      ▸ writes (memory_base + 4 * (task + 1)) (omega arith)
      ▸ stores (resume task) (record { is = omega arith; aligned = omega arith; inside = omega arith }) (inl (omega arith))
      ▸ writes controller_base refl
      ▸ writes (task + 1 + controller_base) (omega arith)
      ▸ sets_enabled task (omega arith, omega arith)
      ▸ leave_owes offset end (WaitEventEffect task place own) st place d at_own sp (task + 1 + controller_base) (set (spread_from 26 6 c.registers) 24 (memory_base + 4 * (task + 1))) refl refl h.goes_back.previous still_below low (behind 8 o) (omega (arith, near))
      (λ last left. record { touches = refl; done = inr (has_waited last none left) })

  -- the registers are saved; whatever stands behind
  saved_owe : (rest : List InstrKind) (E : List ℕ → State → State → Type 0) (o x1 x3 : ℕ) (before : List ℕ)
      → Owes offset end (behind 1 o + 108) rest 0 E st
      (record (masked (based c)) { registers = 0 ∷ at_own ∷ sp ∷ x3 ∷ memory_base ∷ tail; ram = with_words before (own + 4 * 5) (registers_from 27 5 (based c).registers) })
      → Owes offset end o (saved_first rest) 0 E st (record (masked (based c)) { registers = 0 ∷ x1 ∷ sp ∷ x3 ∷ memory_base ∷ tail; ram = before })
  saved_owe rest E o x1 x3 before go =
      writes at_own own_is
      ▸ saves_owes offset end E st rest own h.aligned 27 5 1 (behind 1 o) (behind 1 o + 108) (record (masked (based c)) { registers = 0 ∷ at_own ∷ sp ∷ x3 ∷ memory_base ∷ tail; ram = before }) refl refl own_fits own_apart go

  -- the task goes to rest; whatever stands behind
  rested_owe : (rest : List InstrKind) (E : List ℕ → State → State → Type 0) (o : ℕ)
      → Owes offset end (behind 2 o) rest 0 E st
      (record (masked (based c)) { registers = 0 ∷ own_end task ∷ sp ∷ found ∷ memory_base ∷ tail; ram = rested_ram (based c) task })
      → Owes offset end o (resting_code ++ rest) 0 E st (record (masked (based c)) { registers = 0 ∷ own_end task ∷ sp ∷ found ∷ memory_base ∷ tail })
  rested_owe rest E o go =
      let small = h.is_task in
      let under = low in
      stores (active task) (record { is = omega arith; aligned = omega arith; inside = omega arith }) (inl (omega arith))
      ▸ stores (wait task) (record { is = omega arith; aligned = omega arith; inside = omega arith }) (inl (omega arith))
      ▸ go

  -- the look at the events; wherever the code ends, and whatever stands behind the way back
  looked_owe : (to : ℕ) (rest : List InstrKind)
      → (found ≡ 0 → Owes offset to (behind 12 (offset + 4)) rest 0 (WaitEventEffect task place own) st (record (masked (based c)) { registers = 0 ∷ own_end task ∷ sp ∷ found ∷ memory_base ∷ tail }))
      → Owes offset to (offset + 4) (own_finding_code 3 ++ (set_events_test ++ (controller_address_code ++ (set_answer_code ++ (back_code ++ rest))))) 0 (WaitEventEffect task place own) st (masked (based c))
  looked_owe to rest go =
      let small = h.is_task in
      let fits = h.goes_back.can_run.inside in
      finds_by_x3 offset to task (WaitEventEffect task place own) st (set_events_test ++ (controller_address_code ++ (set_answer_code ++ (back_code ++ rest)))) (masked (based c)) (get_or c.registers 1 0) sp
      controller_base tail small h.runs (offset + 4) (
      loads (events task) (record { is = omega arith; aligned = omega arith; inside = omega arith }) (word_at c.ram (events task)) refl
      ▸ writes found refl
      ▸ record {
        passed = 4;
        lands = lands (behind 7 (offset + 4)) 20 4 (omega arith) (omega arith) refl;
        when_taken = λ t. ⊎_elim
            (λ none. go none)
            (λ some. let f = ne_eqb found 0 some in absurd (cc))
            (cases_eq found 0);
        when_not = λ n. ⊎_elim
            (λ none. absurd (n (eq-eqb found 0 none)))
            (λ some.
            writes controller_base refl
            ▸ writes E_OK refl
            ▸ goes_back offset (masking ∷ body) c h.goes_back (WaitEventEffect task place own) (own_end task) E_OK
            c.pending c.pending c.ram (λ last is went. record { touches = refl; done = inl (record { one_set = some; status = is; back = went }) }))
            (cases_eq found 0);
      })

  body_owes : Owes offset end (offset + 4) body 0 (WaitEventEffect task place own) st (masked (based c))
  body_owes =
      let fits = h.goes_back.can_run.inside in
      let near : behind 3 (behind 12 (offset + 4)) + 108 + 32 ≤ memory_bytes = omega arith in
      looked_owe end (resting_code ++ saved_first saved_then)
      (λ none. rested_owe (saved_first saved_then) (WaitEventEffect task place own) (behind 12 (offset + 4))
      (saved_owe saved_then (WaitEventEffect task place own) (behind 2 (behind 12 (offset + 4))) (own_end task) found (rested_ram (based c) task)
      (kept_owe (behind 3 (behind 12 (offset + 4)) + 108) near none)))

  front_can_run : CanRun offset (masking ∷ front) c
  front_can_run =
      let can = h.goes_back.can_run in
      let fits = can.inside in
      record {
        controller = can.controller;
        registers = can.registers;
        zero = can.zero;
        lines = can.lines;
        aligned = can.aligned;
        behind = can.behind;
        inside = omega (arith, fits);
        placed = in_place-front c.ram (masking ∷ front) (resting_code ++ saved_first saved_then) offset can.placed;
      }

  -- where one of the events is set, the code up to the way back is all that is executed
  goes_on : found ≢ 0 → FromOpening 12 (offset_state offset c) (WaitEventEffect task place own)
  goes_on some =
      opens_within offset 12 front c (WaitEventEffect task place own) front_can_run h.goes_back.bases (omega arith)
      (looked_owe (offset + 4 + 4 * length front) [] (λ none. absurd (some none)))

  runs_it : FromOpening (wait_length found) (offset_state offset c) (WaitEventEffect task place own)
  runs_it = by found refl
    where
      by : (n : ℕ) → found ≡ n → FromOpening (wait_length n) (offset_state offset c) (WaitEventEffect task place own)
      by zero e = opens_within offset 85 body c (WaitEventEffect task place own) h.goes_back.can_run h.goes_back.bases (omega arith) body_owes
      by (suc n) e = goes_on (λ none. absurd (let z : 0 ≡ suc n = sym none ∙ e in omega (arith, z)))

-- the task goes to rest with its context, or goes on where one of the events is set
pub waits : IsWaitEventCode (masking ∷ body)
waits = record { size = refl; masks = (body, refl); runs = λ offset task place own core h. runs_it offset task place own core h }
