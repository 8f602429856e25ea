-- Whole routines: handlers, which are entered masked, and services, whose first instruction masks.
use Rattle.std.proofs.Common.{◌≡◌, ℕ, suc, ◌+◌, ◌*◌, ◌%◌, ◌≤◌, List, [], ◌∷◌, ◌++◌, length, refl, sym, ap, ◌∙◌, subst, arith, None}
use Rattle.std.specs.Prelude.{ℤ, All, Bool, true, false, bit_and}
use Rattle.sloth_base.specs.Machine.{Core, State}
use Rattle.sloth_base.specs.Arrive.{core_arrive, state_arrive}
use Rattle.rv32_instr.specs.declared.InstrKind.{InstrKind}
use Rattle.rv32_instr.specs.declared.InstrKind.TheVariants.{Jal}
use Rattle.rv32_instr.specs.declared.csr.TheConstants.{MSTATUS}
use Rattle.rv32_instr.specs.Range.{InRange}
use Rattle.rv32_instr.specs.Table.{Decode}
use Rattle.rv32_instr.proofs.Table.{decode_encode}
use Rattle.sloth_base.specs.Arithmetic.{plus}
use Rattle.sloth_base.specs.MemoryMap.{memory_base, memory_bytes, line_count}
use Rattle.rv32_instr.specs.Execute.{Going, step, touched, touched_line_by, next_at_target, perform, mstatus_of, with_csr, next_behind}
use Rattle.masked_code.specs.Trace.{Trace, touched_lines, early_arrivals, late_arrivals}
use Rattle.masked_code.specs.Masked.{OnGoing, Masked, WithArrivals, FromOpening}
use Rattle.masked_code.specs.Place.{offset_state, InPlace, AreWritten}
use Rattle.masked_code.proofs.Owes.{Owes}
use Rattle.masked_code.specs.Kernel.{masking}
use Rattle.masked_code.proofs.Arrivals.{taken_early, left_late, taken, left}
use Rattle.masked_code.proofs.Longest.{longest, longest_le}
use Rattle.masked_code.proofs.Masked.{masked_map, masked_step}
use Rattle.masked_code.proofs.Machine.{step_at, touched_at, next_at, jump_at}
use Rattle.masked_code.proofs.Sound.{Ended, Inside, run}

-- what holds with arrivals that are placed as the trace says
with_arrivals : (E : List ℕ → State → State → Type 0) (start : State) (t : Trace) (x : State) → Ended E start [] t x → WithArrivals E start t x
with_arrivals E start t x h =
    let last = h.0 in
    let e : state_arrive (taken t []) start ≡ state_arrive (early_arrivals t) start = ap (λ p. record start { core = record start.core { pending = p } }) (taken_early t start.core.pending) in
    let f : state_arrive (left t []) last ≡ state_arrive (late_arrivals t) last = ap (λ p. record last { core = record last.core { pending = p } }) (left_late t last.core.pending) in
    (last, subst (λ s. E (touched_lines t) s last) e h.1, h.2 ∙ f)

few : (code : List InstrKind) (n : ℕ) → length code ≤ n → longest code 0 ≤ n
few code n h = let l = longest_le code 0 in omega (arith, h, l)

-- what holds of the state as a routine is entered
pub record IsEntered (o : ℕ) (code : List InstrKind) (c : Core) : Type 0 where
  pub masked : c.mie ≡ false
  pub there : c.controller ≡ true
  pub lines : length c.pending ≡ line_count
  pub aligned : o % 4 ≡ 0
  pub fits : o + 4 * length code ≤ memory_bytes
  pub placed : InPlace c.ram o code

-- what is owed of a handler holds of the stretch from its first instruction on
pub handles : (o n : ℕ) (code : List InstrKind) (c : Core) (E : List ℕ → State → State → Type 0) (start : State) → IsEntered o code c → length code ≤ n → Owes o (o + 4 * length code) o code 0 E start c → Masked n (offset_state o c) (WithArrivals E start)
handles o n code c E start e le h =
    let al = e.aligned in
    masked_map n (offset_state o c) _ _ (with_arrivals E start)
    (run o (o + 4 * length code) c.ram e.fits code 0 n o o c [] E start (few code n le) (omega arith) al (omega arith) (omega arith) e.placed
    (record { masked = e.masked; there = e.there; lines = e.lines; same = record { by = λ i a b. refl } }) h)

mask_bits : (mie mpie : Bool) (c : Core) → with_csr c MSTATUS (bit_and (mstatus_of (record c { mie = mie; mpie = mpie })) 4294967287) ≡ record c { mie = false; mpie = mpie }
mask_bits true true c = refl
mask_bits true false c = refl
mask_bits false true c = refl
mask_bits false false c = refl

-- `csrrci x0, mstatus, 8` makes MIE 0 and changes nothing else
pub masks : (o : ℕ) (c : Core) (code : List InstrKind) → o + 4 ≤ memory_bytes → InPlace c.ram o (masking ∷ code) → step (offset_state o c) ≡ Going (offset_state (o + 4) (record c { mie = false }))
unfolding perform
masks o c code h p = step_at o c masking (p.0, h) ∙ ap (next_behind (memory_base + o)) (mask_bits c.mie c.mpie c) ∙ next_at o (record c { mie = false }) h

-- what holds of the state as a service is called
pub record IsOpened (o : ℕ) (code : List InstrKind) (c : Core) : Type 0 where
  pub there : c.controller ≡ true
  pub lines : length c.pending ≡ line_count
  pub aligned : o % 4 ≡ 0
  pub fits : o + 4 + 4 * length code ≤ memory_bytes
  pub placed : InPlace c.ram o (masking ∷ code)

-- the state behind the masking instruction
abbrev pub masked : Core → Core
masked c = record c { mie = false }

-- what is owed of a service behind its masking instruction holds of the stretch from that instruction on
pub serves : (o n : ℕ) (code : List InstrKind) (c : Core) (E : List ℕ → State → State → Type 0) → IsOpened o code c → longest code 0 ≤ n → Owes o (o + 4 + 4 * length code) (o + 4) code 0 E (offset_state o c) (masked c) → FromOpening n (offset_state o c) E
serves o n code c E e le h =
    let al = e.aligned in
    let fits = e.fits in
    let c0 = masked c in
    let inside : Inside o (o + 4 + 4 * length code) c.ram fits c0 = record { masked = refl; there = e.there; lines = e.lines; same = record { by = λ i a b. refl } } in
    subst (λ x. OnGoing x (λ first. (first.core.mie ≡ false) × Masked n first (WithArrivals E (offset_state o c)))) (sym (masks o c code (omega arith) e.placed)) (
      refl,
      masked_map n (offset_state (o + 4) c0) _ _ (with_arrivals E (offset_state o c))
          (run o (o + 4 + 4 * length code) c.ram fits code 0 n (o + 4) (o + 4) c0 [] E (offset_state o c) le (omega arith) (omega arith) (omega arith) (omega arith) e.placed.1 inside h),
    )

-- ---- code that is written as words

-- instructions whose words are written stand there
pub in_place : (ram : List ℕ) (o : ℕ) (code : List InstrKind) → All InRange code → AreWritten ram o code → InPlace ram o code
in_place ram o [] h w = tt
in_place ram o (kind ∷ code) h w =
    (ap Decode w.0 ∙ decode_encode kind (h 0 kind (omega arith)), in_place ram (o + 4) code (λ k d below. h (suc k) d (omega arith)) w.1)

-- where code stands, so does its first part
pub in_place-front : (ram : List ℕ) (front rest : List InstrKind) (o : ℕ) → InPlace ram o (front ++ rest) → InPlace ram o front
in_place-front ram [] rest o p = tt
in_place-front ram (kind ∷ front) rest o p = (p.0, in_place-front ram front rest (o + 4) p.1)

-- a handler behind the jump of a vector word, where no way through its code is longer than so many instructions
pub jumps_within : (v o n : ℕ) (imm : ℤ) (code : List InstrKind) (c : Core) (E : List ℕ → State → State → Type 0) (start : State) → v + 4 ≤ memory_bytes → InPlace c.ram v (Jal 0 imm ∷ []) → plus (memory_base + v) imm ≡ memory_base + o → IsEntered o code c → longest code 0 ≤ n → Owes o (o + 4 * length code) o code 0 E start c → Masked (suc n) (offset_state v c) (WithArrivals E start)
unfolding perform touched_line_by
jumps_within v o n imm code c E start fit p there e few h =
    let al = e.aligned in
    masked_step n (offset_state v c) (WithArrivals E start) e.masked (λ a.
    let d = core_arrive a c in
    let s : step (offset_state v d) ≡ Going (offset_state o d) = step_at v d (Jal 0 imm) (p.0, fit) ∙ ap (λ x. next_at_target x d) there ∙ jump_at o d al in
    let t : touched (offset_state v d) ≡ None = touched_at v d (Jal 0 imm) p.0 in
    subst (λ x. OnGoing x (λ next. Masked n next (λ trace end. WithArrivals E start ((a, touched (offset_state v d)) ∷ trace) end))) (sym s)
    (subst (λ k. Masked n (offset_state o d) (λ trace end. WithArrivals E start ((a, k) ∷ trace) end)) (sym t)
    (masked_map n (offset_state o d) _ _ (λ trace end x. with_arrivals E start ((a, None) ∷ trace) end x)
    (run o (o + 4 * length code) c.ram e.fits code 0 n o o c a E start few (omega arith) al (omega arith) (omega arith) e.placed
    (record { masked = e.masked; there = e.there; lines = e.lines; same = record { by = λ i a b. refl } }) h))))

-- a handler behind the jump of a vector word, of so many instructions
pub jumps_in : (v o n : ℕ) (imm : ℤ) (code : List InstrKind) (c : Core) (E : List ℕ → State → State → Type 0) (start : State) → v + 4 ≤ memory_bytes → InPlace c.ram v (Jal 0 imm ∷ []) → plus (memory_base + v) imm ≡ memory_base + o → IsEntered o code c → length code ≤ n → Owes o (o + 4 * length code) o code 0 E start c → Masked (suc n) (offset_state v c) (WithArrivals E start)
jumps_in v o n imm code c E start fit p there e le = jumps_within v o n imm code c E start fit p there e (few code n le)
