-- The instructions before the last one of an item: what x30 and x31 hold behind each.
use Rattle.std.proofs.Common.{◌≡◌, ℕ, zero, suc, ◌+◌, ◌*◌, ◌%◌, ◌<◌, ◌≤◌, pos, List, [], ◌∷◌, ◌++◌, length, set, refl, ap, ◌∙◌, arith, ⊎_elim, None, Bool, bit_and}
use Rattle.std.specs.Prelude.{◌≢◌, slice_index}
use Rattle.std.proofs.lemmas.Bool.{cases_lt}
use Rattle.std.proofs.lemmas.List.{get_or-set_same, get_or-set_other, length-set}
use Rattle.sloth_base.specs.Arithmetic.{hi, lo, plus, sum32}
use Rattle.sloth_base.specs.Machine.{State}
use Rattle.sloth_base.specs.declared.app.Op.{Op}
use Rattle.sloth_base.specs.declared.app.Op.TheVariants as op
use Rattle.sloth_base.specs.declared.app.Width.{Width}
use Rattle.code_rules.specs.AppRange.{IsRegister}
use Rattle.sloth_base.specs.MemoryMap.{memory_bytes, memory_base}
use Rattle.rv32_instr.specs.Access.{load, store}
use Rattle.rv32_instr.specs.declared.InstrKind.{InstrKind}
use Rattle.rv32_instr.specs.declared.InstrKind.TheVariants.{Lui, Addi, Andi, Add, And}
use Rattle.rv32_instr.specs.declared.encoding.Effect.TheVariants.{Write}
use Rattle.rv32_instr.specs.Effect.{effect}
use Rattle.rv32_instr.specs.Execute.{Going, perform, touched_line_by, next_behind}
use Rattle.masked_code.specs.Place.{offset_state}
use Rattle.masked_code.proofs.Machine.{next_at}
use Rattle.masked_code.proofs.Parts.{hi_lo}
use Rattle.rv32_expand.specs.FarAccesses.{far_indexed}
use Rattle.rv32_expand.specs.Expansion.{item_address, symbol_address, index_code, operation_code}
use Rattle.osek_scheduler.specs.State.{Frame}
use Rattle.osek_scheduler.specs.Meaning.{register}
use Rattle.sim_relation.specs.Build.{Build}
use Rattle.sim_relation.specs.Position.{Thread, HasIndexed, HasFarIndexed, HasScratch, thread_of}
use Rattle.sim_items.specs.Place.{IsStraight}
use Rattle.sim_items.proofs.Cases.{straight_cases}
use Rattle.sim_items.proofs.Masked.{load_near, load_far, store_near, store_far}
use Rattle.sim_items.proofs.Registers.{written}
use Rattle.sim_items.proofs.Scratch.{SameRegisters}

-- The instruction behind so many of an item, which isn't the last: it passes some of them, and leaves x30 and x31 as the expansion has
-- them then.
pub record Prepares (b : Build) (state : State) (own : List ℕ) (frame : Frame) (long : Bool) (operation : Op) (done : ℕ) : Type 0 where
  pub before : List InstrKind
  pub kind : InstrKind
  pub rest : List InstrKind
  pub expands : operation_code b.app b.places frame.func (item_address b.places frame.func frame.item) long operation ≡ before ++ (kind ∷ rest)
  pub reached : length before ≡ done
  pub steps : ℕ
  pub some : 0 < steps
  pub within : done + steps < length (operation_code b.app b.places frame.func (item_address b.places frame.func frame.item) long operation)
  pub registers : List ℕ
  pub same : SameRegisters state.core.registers registers
  pub performs : (offset word : ℕ) → offset + 4 ≤ memory_bytes → offset % 4 ≡ 0
      → perform (effect kind (memory_base + offset) state.core.registers) word (memory_base + offset) state.core ≡ Going (offset_state (offset + 4 * steps) (record state.core { registers = registers }))
  pub quiet : (pc : ℕ) → touched_line_by (effect kind pc state.core.registers) ≡ None
  pub scratch : (offset : ℕ) → HasScratch b own frame operation (done + steps) (thread_of (offset_state offset (record state.core { registers = registers })))

-- a thread that has a value in one register, and all else of these
pub record HoldsValue (x : List ℕ) (rd value : ℕ) (th : Thread) : Type 0 where
  pub is : th.x rd ≡ value
  pub others : (i : ℕ) → i ≢ rd → th.x i ≡ slice_index x i

module _ (b : Build) (state : State) (own : List ℕ) (frame : Frame) (long : Bool) (wide : length state.core.registers ≡ 32)
    (agree : (r : ℕ) → IsRegister r → slice_index state.core.registers r ≡ register own r) where
  abbrev x : List ℕ
  x = state.core.registers

  abbrev expansion_of : Op → List InstrKind
  expansion_of o = operation_code b.app b.places frame.func (item_address b.places frame.func frame.item) long o

  abbrev Before : Op → ℕ → Type 0
  Before o done = Prepares b state own frame long o done

  -- ---- a register alone

  module _ (o : Op) (done : ℕ) (before : List InstrKind) (kind : InstrKind) (rest : List InstrKind) (expands : expansion_of o ≡ before ++ (kind ∷ rest)) (reached : length before ≡ done)
      (more : done + 1 < length (expansion_of o)) (rd value : ℕ) (from : 30 ≤ rd) (to : rd < 32) (writes : (pc : ℕ) → effect kind pc x ≡ Write rd value)
      (scratch : (th : Thread) → HoldsValue x rd value th → HasScratch b own frame o (done + 1) th) where
    performs_write : (offset word : ℕ) → offset + 4 ≤ memory_bytes
        → perform (effect kind (memory_base + offset) x) word (memory_base + offset) state.core ≡ Going (offset_state (offset + 4 * 1) (record state.core { registers = set x rd value }))
    unfolding perform
    performs_write offset word l =
        ap (λ e. perform e word (memory_base + offset) state.core) (writes (memory_base + offset))
        ∙ ap (next_behind (memory_base + offset)) (written state.core rd value (omega arith))
        ∙ next_at offset (record state.core { registers = set x rd value }) l

    quiet_write : (pc : ℕ) → touched_line_by (effect kind pc x) ≡ None
    unfolding touched_line_by
    quiet_write pc = ap touched_line_by (writes pc)

    -- each of the ten items, and each instruction before its last
    pub prepares : Before o done
    prepares = record {
      before = before;
      kind = kind;
      rest = rest;
      expands = expands;
      reached = reached;
      steps = 1;
      some = omega arith;
      within = more;
      registers = set x rd value;
      same = record { long = length-set x rd value; same = λ i l. get_or-set_other x rd i value 0 (λ e. omega arith) };
      performs = λ offset word l a. performs_write offset word l;
      quiet = quiet_write;
      scratch = λ offset. scratch (thread_of (offset_state offset (record state.core { registers = set x rd value })))
          (record { is = get_or-set_same x rd value 0 (omega arith); others = λ i n. get_or-set_other x rd i value 0 n });
    }

  abbrev P : Op → Type 0
  P o = (done : ℕ) → HasScratch b own frame o done (thread_of state) → done + 1 < length (expansion_of o) → Before o done

  -- the high part of a number
  opens : (o : Op) (value : ℕ) (last : InstrKind) → expansion_of o ≡ Lui 31 (hi value) ∷ last ∷ [] → ((th : Thread) → th.x 31 ≡ hi value * 4096 → HasScratch b own frame o 1 th) → P o
  opens o value last expands scratch zero h l =
      prepares o 0 [] (Lui 31 (hi value)) (last ∷ []) expands refl l 31 (hi value * 4096) (omega arith) (omega arith) (λ pc. refl) (λ th k. scratch th k.is)
  opens o value last expands scratch (suc done) h l = let e = ap (λ (c : List InstrKind). length c) expands in absurd (omega arith)

  -- ---- the address of a masked index

  module _ (o : Op) (index mask address : ℕ) (last : InstrKind) (own_index : IsRegister index) where
    abbrev masked : ℕ
    masked = bit_and (register own index) mask

    near : expansion_of o ≡ index_code index mask address ++ (last ∷ []) → ((d : ℕ) (th : Thread) → HasIndexed address masked d th → HasScratch b own frame o d th)
        → (done : ℕ) → HasIndexed address masked done (thread_of state) → done + 1 < length (expansion_of o) → Before o done
    near expands into zero h l =
        prepares o 0 [] (Andi 31 index (pos mask)) _ expands refl l 31 masked (omega arith) (omega arith)
        (λ pc. ap (λ v. Write 31 (bit_and v mask)) (agree index own_index))
        (λ th k. into 1 th (record { index = λ c d. k.is; upper = λ c. absurd (omega arith); sum = λ c. absurd (omega arith) }))
    near expands into (suc zero) h l =
        prepares o 1 (Andi 31 index (pos mask) ∷ []) (Lui 30 (hi address)) _ expands refl l 30 (hi address * 4096) (omega arith) (omega arith) (λ pc. refl)
        (λ th k. into 2 th (record {
          index = λ c d. k.others 31 (λ e. omega arith) ∙ h.index (omega arith) (omega arith);
          upper = λ c. k.is;
          sum = λ c. absurd (omega arith);
        }))
    near expands into (suc (suc zero)) h l =
        prepares o 2 (Andi 31 index (pos mask) ∷ Lui 30 (hi address) ∷ []) (Add 31 31 30) _ expands refl l 31 (sum32 masked (hi address * 4096)) (omega arith) (omega arith)
        (λ pc. ap (λ v. Write 31 (sum32 v (slice_index x 30))) (h.index (omega arith) (omega arith)) ∙ ap (λ v. Write 31 (sum32 masked v)) (h.upper (omega arith)))
        (λ th k. into 3 th (record {
          index = λ c d. absurd (omega arith);
          upper = λ c. k.others 30 (λ e. omega arith) ∙ h.upper (omega arith);
          sum = λ c. k.is;
        }))
    near expands into (suc (suc (suc done))) h l = let e = ap (λ (c : List InstrKind). length c) expands in absurd (omega arith)

    far : mask < 4294967296 → expansion_of o ≡ far_indexed index mask address ++ (last ∷ []) → ((d : ℕ) (th : Thread) → HasFarIndexed mask address masked d th → HasScratch b own frame o d th)
        → (done : ℕ) → HasFarIndexed mask address masked done (thread_of state) → done + 1 < length (expansion_of o) → Before o done
    far small expands into zero h l =
        prepares o 0 [] (Lui 30 (hi mask)) _ expands refl l 30 (hi mask * 4096) (omega arith) (omega arith) (λ pc. refl)
        (λ th k. into 1 th (record {
          upper_mask = λ c. k.is;
          whole_mask = λ c d. absurd (omega arith);
          index = λ c d. absurd (omega arith);
          upper = λ c. absurd (omega arith);
          sum = λ c. absurd (omega arith);
        }))
    far small expands into (suc zero) h l =
        prepares o 1 (Lui 30 (hi mask) ∷ []) (Addi 30 30 (lo mask)) _ expands refl l 30 mask (omega arith) (omega arith)
        (λ pc. ap (λ v. Write 30 (plus v (lo mask))) (h.upper_mask refl) ∙ ap (λ v. Write 30 v) (hi_lo mask small))
        (λ th k. into 2 th (record {
          upper_mask = λ c. absurd (omega arith);
          whole_mask = λ c d. k.is;
          index = λ c d. absurd (omega arith);
          upper = λ c. absurd (omega arith);
          sum = λ c. absurd (omega arith);
        }))
    far small expands into (suc (suc zero)) h l =
        prepares o 2 (Lui 30 (hi mask) ∷ Addi 30 30 (lo mask) ∷ []) (And 31 index 30) _ expands refl l 31 masked (omega arith) (omega arith)
        (λ pc. ap (λ v. Write 31 (bit_and v (slice_index x 30))) (agree index own_index) ∙ ap (λ v. Write 31 (bit_and (register own index) v)) (h.whole_mask (omega arith) (omega arith)))
        (λ th k. into 3 th (record {
          upper_mask = λ c. absurd (omega arith);
          whole_mask = λ c d. k.others 30 (λ e. omega arith) ∙ h.whole_mask (omega arith) (omega arith);
          index = λ c d. k.is;
          upper = λ c. absurd (omega arith);
          sum = λ c. absurd (omega arith);
        }))
    far small expands into (suc (suc (suc zero))) h l =
        prepares o 3 (Lui 30 (hi mask) ∷ Addi 30 30 (lo mask) ∷ And 31 index 30 ∷ []) (Lui 30 (hi address)) _ expands refl l 30 (hi address * 4096) (omega arith) (omega arith) (λ pc. refl)
        (λ th k. into 4 th (record {
          upper_mask = λ c. absurd (omega arith);
          whole_mask = λ c d. absurd (omega arith);
          index = λ c d. k.others 31 (λ e. omega arith) ∙ h.index (omega arith) (omega arith);
          upper = λ c. k.is;
          sum = λ c. absurd (omega arith);
        }))
    far small expands into (suc (suc (suc (suc zero)))) h l =
        prepares o 4 (Lui 30 (hi mask) ∷ Addi 30 30 (lo mask) ∷ And 31 index 30 ∷ Lui 30 (hi address) ∷ []) (Add 31 31 30) _ expands refl l 31 (sum32 masked (hi address * 4096)) (omega arith) (omega arith)
        (λ pc. ap (λ v. Write 31 (sum32 v (slice_index x 30))) (h.index (omega arith) (omega arith)) ∙ ap (λ v. Write 31 (sum32 masked v)) (h.upper (omega arith)))
        (λ th k. into 5 th (record {
          upper_mask = λ c. absurd (omega arith);
          whole_mask = λ c d. absurd (omega arith);
          index = λ c d. absurd (omega arith);
          upper = λ c. k.others 30 (λ e. omega arith) ∙ h.upper (omega arith);
          sum = λ c. k.is;
        }))
    far small expands into (suc (suc (suc (suc (suc done))))) h l = let e = ap (λ (c : List InstrKind). length c) expands in absurd (omega arith)

  of_load_at : (w : Width) (rd y index mask : ℕ) → IsStraight b.app frame.func (op.LoadAt w rd y index mask) → P (op.LoadAt w rd y index mask)
  of_load_at w rd y index mask h done scratch l =
      let few = h.2.few in
      let address = item_address b.places frame.func frame.item in
      ⊎_elim
      (λ (m : mask < 2048).
      near (op.LoadAt w rd y index mask) index mask (symbol_address b.places y) (load w rd 31 (lo (symbol_address b.places y))) h.1
      (load_near b.app b.places frame.func address long w rd y index mask (omega arith)) (λ d th k. (λ c. k, λ c. absurd (omega arith))) done (scratch.0 (omega arith)) l)
      (λ (m : 2048 ≤ mask).
      far (op.LoadAt w rd y index mask) index mask (symbol_address b.places y) (load w rd 31 (lo (symbol_address b.places y))) h.1 (omega arith)
      (load_far b.app b.places frame.func address long w rd y index mask m) (λ d th k. (λ c. absurd (omega arith), λ c. k)) done (scratch.1 m) l)
      (cases_lt mask 2048)

  of_store_at : (w : Width) (rs y index mask : ℕ) → IsStraight b.app frame.func (op.StoreAt w rs y index mask) → P (op.StoreAt w rs y index mask)
  of_store_at w rs y index mask h done scratch l =
      let few = h.2.few in
      let address = item_address b.places frame.func frame.item in
      ⊎_elim
      (λ (m : mask < 2048).
      near (op.StoreAt w rs y index mask) index mask (symbol_address b.places y) (store w rs 31 (lo (symbol_address b.places y))) h.1
      (store_near b.app b.places frame.func address long w rs y index mask (omega arith)) (λ d th k. (λ c. k, λ c. absurd (omega arith))) done (scratch.0 (omega arith)) l)
      (λ (m : 2048 ≤ mask).
      far (op.StoreAt w rs y index mask) index mask (symbol_address b.places y) (store w rs 31 (lo (symbol_address b.places y))) h.1 (omega arith)
      (store_far b.app b.places frame.func address long w rs y index mask m) (λ d th k. (λ c. absurd (omega arith), λ c. k)) done (scratch.1 m) l)
      (cases_lt mask 2048)

  -- ---- all of them

  -- the same, by the item's kind
  pub prepares_straight : (o : Op) → IsStraight b.app frame.func o → P o
  prepares_straight =
      straight_cases b.app frame.func P (record {
        registers = λ kind rd rs1 rs2 h done k l. absurd (omega arith);
        number = λ kind rd rs1 number h done k l. absurd (omega arith);
        upper = λ rd number h done k l. absurd (omega arith);
        constant = λ rd value h. opens (op.Li rd value) value _ refl (λ th e one. e);
        frame_load = λ rd word h done k l. absurd (omega arith);
        frame_store = λ rs word h done k l. absurd (omega arith);
        load = λ w rd y offset h. opens (op.Load w rd y offset) (symbol_address b.places y + offset) _ refl (λ th e one. e);
        store = λ w rs y offset h. opens (op.Store w rs y offset) (symbol_address b.places y + offset) _ refl (λ th e one. e);
        load_at = of_load_at;
        store_at = of_store_at;
      })
