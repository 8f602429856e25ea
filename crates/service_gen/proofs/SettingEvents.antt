-- The code of SetEvent has its effect.
use Rattle.std.proofs.Common.{◌≡◌, ℕ, ◌+◌, ◌<◌, ◌≤◌, List, ◌∷◌, ◌++◌, length, get_or, refl, arith, inl, inr, ⊎_elim}
use Rattle.std.specs.Prelude.{set, bit_and}
use Rattle.std.proofs.lemmas.Bool.{eq-eqb, cases_eq, ne_eqb}
use Rattle.sloth_base.specs.Machine.{Core, State}
use Rattle.sloth_base.specs.Arrive.{arrive}
use Rattle.sloth_base.specs.Status.{E_OK, E_OS_STATE}
use Rattle.sloth_base.specs.MemoryMap.{memory_base, memory_bytes, controller_base, line_count}
use Rattle.sloth_region.specs.Layout.{active, events, wait}
use Rattle.rv32_instr.specs.declared.InstrKind.{InstrKind}
use Rattle.rv32_instr.specs.Ram.{word_at, with_word}
use Rattle.masked_code.specs.Place.{offset_state}
use Rattle.masked_code.specs.Masked.{FromOpening}
use Rattle.masked_code.specs.Kernel.{masking}
use Rattle.masked_code.proofs.Owes.{◌▸◌, writes, loads, stores, raises, sets_enabled, Owes}
use Rattle.masked_code.proofs.Words.{word_at-other}
use Rattle.masked_code.proofs.Spread.{based, spread_from}
use Rattle.masked_code.proofs.Routines.{masked}
use Rattle.masked_code.proofs.Leave.{behind}
use Rattle.block_parts.proofs.Returning.{goes_back}
use Rattle.block_parts.proofs.Busy.{Finds, looks_owe}
use Rattle.block_parts.proofs.Landing.{lands}
use Rattle.block_parts.proofs.Serving.{opens}
use Rattle.block_parts.specs.SuspensionTest.{IsFoundSuspended}
use Rattle.block_parts.specs.Back.{CanGoBack}
use Rattle.block_parts.specs.Pieces.{looking_code, raising_code, back_code}
use Rattle.service_gen.proofs.Refusing.{refuses_owe}
use Rattle.block_parts.specs.Events.{refusal_code, awaited_mask_test, enabling_code}
use Rattle.service_gen.specs.EventPieces.{mask_adding_code}
use Rattle.service_gen.specs.SetEvent.{MaySet, SetEventEffect, IsSetEventCode, with_mask}

-- the code behind the masking instruction
abbrev pub body : ℕ → List InstrKind
body task = looking_code task ++ (refusal_code 10 ++ (mask_adding_code task ++ (awaited_mask_test task ++ (raising_code task ++ (enabling_code task ++ back_code)))))

module _ (offset task : ℕ) (c : Core) (h : MaySet offset task (masking ∷ body task) c) where
  abbrev st : List ℕ → State
  st p = offset_state offset (record (based c) { pending = p })

  abbrev x2 : ℕ
  x2 = get_or c.registers 2 0

  abbrev tail : List ℕ
  tail = spread_from 27 5 c.registers

  abbrev word : ℕ
  word = word_at c.ram (active task)

  abbrev grown : ℕ
  grown = with_mask task c

  abbrev ram : List ℕ
  ram = with_word c.ram (events task) grown

  abbrev waits_for : ℕ
  waits_for = word_at c.ram (wait task)

  -- the code can go back with another line enabled too
  enabled_too : (e : List ℕ) → CanGoBack offset (masking ∷ body task) (record c { enabled = e })
  enabled_too e =
      let g = h.goes_back in
      let r = g.can_run in
      record {
        can_run = record { controller = r.controller; registers = r.registers; zero = r.zero; lines = r.lines; aligned = r.aligned; behind = r.behind; inside = r.inside; placed = r.placed };
        previous = g.previous;
        same_level = g.same_level;
        bases = g.bases;
        back = g.back;
      }

  -- the look at the awaited events
  asked_owe : (o : ℕ) (p : List ℕ) → o + 12 ≤ memory_bytes → (IsFoundSuspended task (record c { pending = p }) → ⊥)
      → Owes offset (offset + 4 + 76) o (awaited_mask_test task ++ (raising_code task ++ (enabling_code task ++ back_code))) 0 (λ u. SetEventEffect task (task ∷ u)) (st p)
      (record (masked (based c)) { registers = 0 ∷ grown ∷ x2 ∷ controller_base ∷ memory_base ∷ set tail 5 E_OS_STATE; pending = p; ram = ram })
  asked_owe o p small not_suspended =
      let few = h.is_task in
      let line : task < line_count = omega arith in
      let v = bit_and grown waits_for in
      loads (wait task) (record { is = omega arith; aligned = omega arith; inside = omega arith }) waits_for (word_at-other c.ram (events task) grown (wait task) (inr (omega arith)))
      ▸ writes v refl
      ▸ writes E_OK refl
      ▸ record {
        passed = 3;
        lands = lands (o + 4 + 4 + 4) 16 3 (omega arith) (omega arith) refl;
        when_taken = λ t. ⊎_elim
            (λ none. goes_back offset (masking ∷ body task) c h.goes_back (λ u. SetEventEffect task (task ∷ u)) v E_OK p p ram
            (λ last is went. record {
              touches = refl;
              done = inr (inl (record { not_suspended = not_suspended; none_awaited = none; status = is; back = went }));
            }))
            (λ some. let f = ne_eqb v 0 some in absurd (cc))
            (cases_eq v 0);
        when_not = λ n. ⊎_elim
            (λ none. absurd (n (eq-eqb v 0 none)))
            (λ some.
            writes 1 refl
            ▸ raises task (omega arith, line) (λ z. absurd (cc))
            ▸ sets_enabled task (omega arith, line)
            ▸ goes_back offset (masking ∷ body task) (record c { enabled = set c.enabled task 1 }) (enabled_too (set c.enabled task 1))
            (λ u s last. SetEventEffect task (task ∷ u) (st p) last) 1 E_OK p (set p task 1) ram
            (λ last is went. record {
              touches = refl;
              done = inr (inr (record {
                not_suspended = not_suspended;
                one_awaited = some;
                status = is;
                back = record { left = went.left; pc = went.pc; x2 = went.x2; kept = went.kept };
              }));
            }))
            (cases_eq v 0);
      }

  -- what is passed where the task is Suspended
  abbrev passed_code : List InstrKind
  passed_code = mask_adding_code task ++ (awaited_mask_test task ++ (raising_code task ++ enabling_code task))

  -- the code behind the look at the task
  abbrev further : List InstrKind
  further = refusal_code 10 ++ (passed_code ++ back_code)

  -- behind the look, which found v
  looked_owe : (o : ℕ) (p : List ℕ) (v : ℕ) → o + 40 ≤ memory_bytes → Finds task (record c { pending = p }) v
      → Owes offset (offset + 4 + 76) o further 0 (λ u. SetEventEffect task (task ∷ u)) (st p)
      (record (masked (based c)) { registers = 0 ∷ v ∷ x2 ∷ controller_base ∷ memory_base ∷ set tail 5 word; pending = p })
  looked_owe o p v small found =
      let few = h.is_task in
      let low = h.goes_back.can_run.behind in
      let n : length passed_code ≡ 10 = refl in
      refuses_owe offset (offset + 4 + 76) task (masking ∷ body task) c h.goes_back (λ u. SetEventEffect task (task ∷ u)) passed_code o p v word
      (omega arith) (omega arith) found
      (λ is_suspended end is went. record { touches = refl; done = inl (record { suspended = is_suspended; status = is; back = went }) })
      (λ not_suspended.
      loads (events task) (record { is = omega arith; aligned = omega arith; inside = omega arith }) (word_at c.ram (events task)) refl
      ▸ writes grown refl
      ▸ stores (events task) (record { is = omega arith; aligned = omega arith; inside = omega arith }) (inl (omega arith))
      ▸ asked_owe (behind 5 o) p (omega arith) not_suspended)

  body_owes : Owes offset (offset + 4 + 76) (offset + 4) (body task) 0 (SetEventEffect task) (offset_state offset (based c)) (masked (based c))
  body_owes =
      let fits = h.goes_back.can_run.inside in
      looks_owe offset (offset + 4 + 76) task (SetEventEffect task) further c h.is_task h.goes_back.can_run.lines
      h.active_bit h.pending_bit h.enabled_bit (offset + 4) (get_or c.registers 1 0) (get_or c.registers 10 0)
      (λ lines v only found. looked_owe (behind 5 (offset + 4)) (arrive lines c.pending) v (omega arith) found)

  runs_it : FromOpening 19 (offset_state offset c) (SetEventEffect task)
  runs_it = opens offset 19 (body task) c (SetEventEffect task) h.goes_back.can_run h.goes_back.bases (omega arith) body_owes

-- for each task
pub sets : (task : ℕ) → IsSetEventCode task (masking ∷ body task)
sets task = record { size = refl; masks = (body task, refl); runs = λ offset core h. runs_it offset task core h }
