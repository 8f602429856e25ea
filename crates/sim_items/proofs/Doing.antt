-- What the last instruction of an item does is what the item means.
use Rattle.std.proofs.Common.{◌≡◌, ℕ, zero, suc, ◌+◌, ◌-◌, ◌*◌, ◌<◌, ◌≤◌, ℤ, pos, List, [], ◌∷◌, ◌++◌, length, get_or, set, refl, sym, ap, ◌∙◌, arith, ⊎_elim, inl, Bool, Some, None, bit_and}
use Rattle.std.specs.Prelude.{slice_index}
use Rattle.std.proofs.lemmas.Bool.{lt-ltb, cases_lt}
use Rattle.sloth_base.specs.Arithmetic.{register_result, number_result, complement, plus, sum32, extended_number, hi, lo}
use Rattle.sloth_base.specs.Machine.{State}
use Rattle.sloth_base.specs.Named.{function}
use Rattle.sloth_base.specs.declared.app.AluKind.{AluKind}
use Rattle.sloth_base.specs.declared.app.ImmKind.{ImmKind}
use Rattle.sloth_base.specs.declared.app.Op.{Op}
use Rattle.sloth_base.specs.declared.app.Op.TheVariants as op
use Rattle.sloth_base.specs.declared.app.Width.{Width}
use Rattle.sloth_base.specs.declared.app.Width.TheVariants as width
use Rattle.code_rules.specs.AppRange.{IsRegister}
use Rattle.sloth_base.specs.MemoryMap.{memory_base}
use Rattle.rv32_instr.specs.declared.InstrKind.{InstrKind}
use Rattle.rv32_instr.specs.declared.InstrKind.TheVariants.{Lui, Addi, Lw, Sw}
use Rattle.rv32_instr.specs.declared.encoding.Effect.TheVariants.{Write}
use Rattle.rv32_instr.specs.Access.{load, store}
use Rattle.rv32_instr.specs.Effect.{effect}
use Rattle.rv32_instr.specs.Execute.{perform, touched_line_by, next_behind, with_register}
use Rattle.rv32_instr.specs.Ram.{with_word}
use Rattle.masked_code.proofs.Parts.{hi_lo}
use Rattle.rv32_expand.specs.Expansion.{item_address, symbol_address, register_operation, number_operation, index_code, operation_code}
use Rattle.rv32_expand.specs.FarAccesses.{far_indexed}
use Rattle.rv32_expand.specs.InPlace.{result_register}
use Rattle.osek_scheduler.specs.State.{Frame, Task, System, task}
use Rattle.osek_scheduler.specs.Meaning.{ItemMeaning, meaning, execution, registers_of, register, shown_value, going_on_frame, write_meaning, load_meaning, store_meaning, loaded_word, bytes_after_store, on_some, if_true}
use Rattle.osek_scheduler.specs.Meaning as meaning
use Rattle.sim_relation.specs.Build.{Build, HasFittingPlaces}
use Rattle.sim_relation.specs.Position.{HasAddress, HasScratch, AreFrames, thread_of}
use Rattle.sim_relation.specs.DataStands.{DataStands}
use Rattle.sim_relation.specs.Stands.{Stands, IsActiveTask}
use Rattle.sim_relation.proofs.Framing.{frames_kept, outer_below}
use Rattle.sim_relation.proofs.Placed.{active_by_word}
use Rattle.sim_items.specs.Place.{AtItem, IsAccess, IsStraight, HasNumbers}
use Rattle.sim_items.proofs.Access.{IsPlaceOf, load_at, load_at_quiet, store_at, store_at_quiet, word_number, word_bytes}
use Rattle.sim_items.proofs.Bytes.{number_at}
use Rattle.sim_items.proofs.Cases.{straight_cases}
use Rattle.sim_items.proofs.Keeping.{Keeps, same_keeps, stack_stays, data_keeps, words_at, frame_keeps, frame_data, frame_stood}
use Rattle.sim_items.proofs.Masked.{masked_access, low_added, load_near, load_far, store_near, store_far}
use Rattle.sim_items.proofs.Registers.{own_agrees, Wrote, wrote}
use Rattle.sim_items.proofs.Symbols as symbol
use Rattle.sim_items.proofs.Values.{register_value, number_value, AreOwn, own_meaning}

-- The last instruction of an item: it writes one register of task code, or leaves all as they were where that is x0, and RAM.
pub record Does (b : Build) (state : State) (s : System) (t : ℕ) (at : AtItem b state s t) (long : Bool) (operation : Op) : Type 0 where
  pub before : List InstrKind
  pub kind : InstrKind
  pub expands : operation_code b.app b.places at.frame.func (item_address b.places at.frame.func at.frame.item) long operation ≡ before ++ (kind ∷ [])
  pub last : length before ≡ at.here.done
  pub rd : ℕ
  pub is_own : IsRegister rd
  pub value : ℕ
  pub ram : List ℕ
  pub performs : (word pc : ℕ) → perform (effect kind pc state.core.registers) word pc state.core ≡ next_behind pc (record (with_register state.core rd value) { ram = ram })
  pub quiet : (pc : ℕ) → touched_line_by (effect kind pc state.core.registers) ≡ None
  pub words : List ℕ
  pub symbols : List (List ℕ)
  pub result : ℕ
  pub means : meaning b.app operation (task s t).registers at.frame at.outer s.symbols ≡ Some (record {
    registers = meaning.with_register (task s t).registers rd value;
    frames = record at.frame { item = at.frame.item + 1; words = words } ∷ at.outer;
    symbols = symbols;
    result = result;
  })
  pub shows : result ≡ slice_index (with_register state.core rd value).registers (result_register operation)
  pub stood : AreFrames b ram (record at.frame { item = at.frame.item + 1; words = words }) at.outer at.place (b.top t)
  pub kept : Keeps b state.core.ram ram s t
  pub data_stands : DataStands b ram symbols

module _ (b : Build) (state : State) (s : System) (t : ℕ) (fits : HasFittingPlaces b) (k : Stands b state s) (at : AtItem b state s t) (numbers : HasNumbers b state s) (long : Bool) where
  abbrev frame : Frame
  frame = at.frame

  abbrev own : Task
  own = task s t

  abbrev x : List ℕ
  x = state.core.registers

  abbrev Here : Op → Type 0
  Here o = Does b state s t at long o

  abbrev expansion_of : Op → List InstrKind
  expansion_of o = operation_code b.app b.places frame.func (item_address b.places frame.func frame.item) long o

  active : IsActiveTask b s t
  active = active_by_word b state s t k at.current

  agree : (r : ℕ) → IsRegister r → slice_index x r ≡ register own.registers r
  agree = own_agrees x own.registers k.fixed.zero at.context.registers

  -- ---- a register alone

  same_ram : (rd value : ℕ) → with_register state.core rd value ≡ record (with_register state.core rd value) { ram = state.core.ram }
  same_ram zero value = refl
  same_ram (suc rd) value = refl

  module _ (o : Op) (before : List InstrKind) (kind : InstrKind) (rd value : ℕ) (is_own : IsRegister rd) (expands : expansion_of o ≡ before ++ (kind ∷ [])) (last : length before ≡ at.here.done)
      (performs : (word pc : ℕ) → perform (effect kind pc x) word pc state.core ≡ next_behind pc (with_register state.core rd value))
      (quiet : (pc : ℕ) → touched_line_by (effect kind pc x) ≡ None) (named : AreOwn (registers_of o))
      (means : execution b.app o own.registers frame at.outer s.symbols ≡ write_meaning rd value own.registers frame at.outer s.symbols) (shown : result_register o ≡ rd) where
    w : Wrote x own.registers rd value (with_register state.core rd value).registers (meaning.with_register own.registers rd value)
    w = wrote state.core own.registers rd value k.fixed.registers k.fixed.zero (k.tidy.each t active.declared).registers at.context.registers is_own

    writes_register : Here o
    writes_register = record {
      before = before;
      kind = kind;
      expands = expands;
      last = last;
      rd = rd;
      is_own = is_own;
      value = value;
      ram = state.core.ram;
      performs = λ word pc. performs word pc ∙ ap (next_behind pc) (same_ram rd value);
      quiet = quiet;
      words = frame.words;
      symbols = s.symbols;
      result = shown_value rd value;
      means = own_meaning b.app o own.registers frame at.outer s.symbols named ∙ means;
      shows = w.shows ∙ sym (ap (λ r. slice_index (with_register state.core rd value).registers r) shown);
      stood = at.stood;
      kept = same_keeps b state.core.ram s t;
      data_stands = k.data_stands;
    }

  performs_write : (kind : InstrKind) (rd value : ℕ) → ((pc : ℕ) → effect kind pc x ≡ Write rd value)
      → (word pc : ℕ) → perform (effect kind pc x) word pc state.core ≡ next_behind pc (with_register state.core rd value)
  unfolding perform
  performs_write kind rd value e word pc = ap (λ f. perform f word pc state.core) (e pc)

  quiet_write : (kind : InstrKind) (rd value : ℕ) → ((pc : ℕ) → effect kind pc x ≡ Write rd value) → (pc : ℕ) → touched_line_by (effect kind pc x) ≡ None
  unfolding touched_line_by
  quiet_write kind rd value e pc = ap touched_line_by (e pc)

  computes : (o : Op) (before : List InstrKind) (kind : InstrKind) (rd value : ℕ) → IsRegister rd → expansion_of o ≡ before ++ (kind ∷ []) → length before ≡ at.here.done
      → ((pc : ℕ) → effect kind pc x ≡ Write rd value) → AreOwn (registers_of o)
      → execution b.app o own.registers frame at.outer s.symbols ≡ write_meaning rd value own.registers frame at.outer s.symbols → result_register o ≡ rd → Here o
  computes o before kind rd value is_own expands last e named means shown =
      writes_register o before kind rd value is_own expands last (performs_write kind rd value e) (quiet_write kind rd value e) named means shown

  abbrev P : Op → Type 0
  P o = HasScratch b own.registers frame o at.here.done (thread_of state) → at.here.done + 1 ≡ length (expansion_of o) → Here o

  of_registers : (kind : AluKind) (rd rs1 rs2 : ℕ) → IsStraight b.app frame.func (op.Alu kind rd rs1 rs2) → P (op.Alu kind rd rs1 rs2)
  of_registers kind rd rs1 rs2 h scratch last =
      computes (op.Alu kind rd rs1 rs2) [] (register_operation kind rd rs1 rs2) rd (register_result kind (slice_index x rs1) (slice_index x rs2)) h.0 refl (omega arith)
      (λ pc. register_value kind rd rs1 rs2 pc x) (h.0, (h.1, (h.2, tt)))
      (ap (λ v. write_meaning rd (register_result kind v (register own.registers rs2)) own.registers frame at.outer s.symbols) (sym (agree rs1 h.1))
      ∙ ap (λ v. write_meaning rd (register_result kind (slice_index x rs1) v) own.registers frame at.outer s.symbols) (sym (agree rs2 h.2)))
      refl

  of_number : (kind : ImmKind) (rd rs1 : ℕ) (number : ℤ) → IsStraight b.app frame.func (op.AluImm kind rd rs1 number) → P (op.AluImm kind rd rs1 number)
  of_number kind rd rs1 number h scratch last =
      computes (op.AluImm kind rd rs1 number) [] (number_operation kind rd rs1 number) rd (number_result kind (slice_index x rs1) (complement number)) h.0 refl (omega arith)
      (λ pc. number_value kind rd rs1 number pc x h.2) (h.0, (h.1, tt))
      (ap (λ v. write_meaning rd (number_result kind v (complement number)) own.registers frame at.outer s.symbols) (sym (agree rs1 h.1)))
      refl

  of_upper : (rd number : ℕ) → IsStraight b.app frame.func (op.Lui rd number) → P (op.Lui rd number)
  of_upper rd number h scratch last =
      computes (op.Lui rd number) [] (Lui rd number) rd (number * 4096) h.0 refl (omega arith) (λ pc. refl) (h.0, tt) refl refl

  of_constant : (rd value : ℕ) → IsStraight b.app frame.func (op.Li rd value) → P (op.Li rd value)
  of_constant rd value h scratch last =
      computes (op.Li rd value) (Lui 31 (hi value) ∷ []) (Addi rd 31 (lo value)) rd value h.0 refl (omega arith)
      (λ pc. ap (λ a. Write rd (plus a (lo value))) (scratch (omega arith)) ∙ ap (λ v. Write rd v) (hi_lo value h.1)) (h.0, tt) refl refl

  -- ---- the frame

  frame_place : (word : ℕ) → word < length frame.words → IsPlaceOf width.Word (plus (slice_index x 2) (pos (4 * word))) (at.place + 4 * word)
  frame_place word h =
      let a = at.context.aligned in
      let e = at.context.x2 in
      let top = (fits.to t active.declared).0 in
      let l = outer_below b state.core.ram at.outer (at.place + 4 * length frame.words) (b.top t) at.stood.2 in
      record { is = omega arith; aligned = omega arith; inside = omega arith }

  in_frame : (word : ℕ) → word < (function b.app frame.func).frame_words → word < length frame.words
  in_frame word h = let e = at.stood.0 in omega arith

  of_frame_load : (rd word : ℕ) → IsStraight b.app frame.func (op.FrameLoad rd word) → P (op.FrameLoad rd word)
  of_frame_load rd word h scratch last =
      let l = in_frame word h.1 in
      let spot = frame_place word l in
      let value : extended_number width.Word (number_at state.core.ram (at.place + 4 * word) 4) ≡ get_or frame.words word 0 =
      sym (word_number state.core.ram (at.place + 4 * word)) ∙ words_at state.core.ram frame.words at.place word l at.stood.1 in
      writes_register (op.FrameLoad rd word) [] (Lw rd 2 (pos (4 * word))) rd (get_or frame.words word 0) h.0 refl (omega arith)
      (λ w pc. load_at state.core width.Word rd 2 (pos (4 * word)) (at.place + 4 * word) w pc spot ∙ ap (λ v. next_behind pc (with_register state.core rd v)) value)
      (λ pc. load_at_quiet state.core width.Word rd 2 (pos (4 * word)) (at.place + 4 * word) pc spot) (h.0, tt)
      (ap (λ y. if_true y (write_meaning rd (get_or frame.words word 0) own.registers frame at.outer s.symbols)) (lt-ltb word (length frame.words) l))
      refl

  of_frame_store : (rs word : ℕ) → IsStraight b.app frame.func (op.FrameStore rs word) → P (op.FrameStore rs word)
  of_frame_store rs word h scratch last =
      let l = in_frame word h.1 in
      let spot = frame_place word l in
      let value = slice_index x rs in
      let same = agree rs h.0 in
      record {
        before = [];
        kind = Sw 2 rs (pos (4 * word));
        expands = refl;
        last = omega arith;
        rd = 0;
        is_own = inl refl;
        value = 0;
        ram = with_word state.core.ram (at.place + 4 * word) value;
        performs = λ w pc. store_at state.core width.Word rs 2 (pos (4 * word)) (at.place + 4 * word) w pc spot
            ∙ ap (λ r. next_behind pc (record state.core { ram = r })) (sym (word_bytes state.core.ram (at.place + 4 * word) value));
        quiet = λ pc. store_at_quiet state.core width.Word rs 2 (pos (4 * word)) (at.place + 4 * word) pc spot;
        words = set frame.words word value;
        symbols = s.symbols;
        result = value;
        means = own_meaning b.app (op.FrameStore rs word) own.registers frame at.outer s.symbols (h.0, tt)
            ∙ ap (λ y. if_true y (Some (stores_as (register own.registers rs)))) (lt-ltb word (length frame.words) l)
            ∙ ap (λ v. Some (stores_as v)) (sym same);
        shows = refl;
        stood = frame_stood b fits state.core.ram s t active.declared (inl active.active) k.apart k.fixed.ram frame at.outer at.place at.context.room at.stood word value l (numbers.words rs)
            (frame.item + 1);
        kept = frame_keeps b fits state.core.ram s t active.declared (inl active.active) k.apart k.fixed.ram frame at.outer at.place at.context.room at.stood word value l (numbers.words rs);
        data_stands = frame_data b fits state.core.ram s t active.declared (inl active.active) k.apart k.fixed.ram frame at.outer at.place at.context.room at.stood word value l (numbers.words rs)
            s.symbols k.data_stands;
      }
    where
      stores_as : ℕ → ItemMeaning
      stores_as v = record {
        registers = own.registers;
        frames = record frame { item = frame.item + 1; words = set frame.words word v } ∷ at.outer;
        symbols = s.symbols;
        result = v;
      }

  -- ---- data

  abbrev access : (w : Width) (y offset : ℕ) → Type 0
  access w y offset = IsAccess b.app w y offset

  -- x31 and a number make the address
  abbrev Reaches : (number : ℤ) (y offset : ℕ) → Type 0
  Reaches number y offset = plus (slice_index x 31) number ≡ symbol_address b.places y + offset

  loads_into : (o : Op) (before : List InstrKind) (w : Width) (rd y offset : ℕ) (number : ℤ) → IsRegister rd → access w y offset → expansion_of o ≡ before ++ (load w rd 31 number ∷ [])
      → length before ≡ at.here.done → Reaches number y offset → AreOwn (registers_of o)
      → execution b.app o own.registers frame at.outer s.symbols ≡ load_meaning w rd y offset own.registers frame at.outer s.symbols → result_register o ≡ rd → Here o
  loads_into o before w rd y offset number is_own inside expands last reaches named means shown =
      let place = symbol_address b.places y - memory_base + offset in
      let spot = symbol.spot b fits state.core.ram s.symbols k.data_stands numbers.sizes w y offset inside (plus (slice_index x 31) number) reaches in
      let value = symbol.load_means b fits state.core.ram s.symbols k.data_stands numbers.sizes w y offset inside in
      writes_register o before (load w rd 31 number) rd (loaded_word w (get_or s.symbols y []) offset) is_own expands last
      (λ word pc. load_at state.core w rd 31 number place word pc spot ∙ ap (λ v. next_behind pc (with_register state.core rd v)) value)
      (λ pc. load_at_quiet state.core w rd 31 number place pc spot) named
      (means ∙ ap (λ found. on_some found (λ found_bytes. write_meaning rd (loaded_word w found_bytes offset) own.registers frame at.outer s.symbols))
      (symbol.accessed_is b fits state.core.ram s.symbols k.data_stands numbers.sizes w y offset inside))
      shown

  stores_from : (o : Op) (before : List InstrKind) (w : Width) (rs y offset : ℕ) (number : ℤ) → IsRegister rs → access w y offset → expansion_of o ≡ before ++ (store w rs 31 number ∷ [])
      → length before ≡ at.here.done → Reaches number y offset → AreOwn (registers_of o)
      → execution b.app o own.registers frame at.outer s.symbols ≡ store_meaning w rs y offset own.registers frame at.outer s.symbols → result_register o ≡ rs → Here o
  stores_from o before w rs y offset number is_own inside expands last reaches named means shown =
      let place = symbol_address b.places y - memory_base + offset in
      let spot = symbol.spot b fits state.core.ram s.symbols k.data_stands numbers.sizes w y offset inside (plus (slice_index x 31) number) reaches in
      let bytes = get_or s.symbols y [] in
      let value = slice_index x rs in
      let only = symbol.only_data b fits state.core.ram s.symbols k.data_stands numbers.sizes w y offset inside value k.fixed.ram in
      let new = symbol.new b fits state.core.ram s.symbols k.data_stands numbers.sizes w y offset inside value k.fixed.ram in
      record {
        before = before;
        kind = store w rs 31 number;
        expands = expands;
        last = last;
        rd = 0;
        is_own = inl refl;
        value = 0;
        ram = new;
        performs = λ word pc. store_at state.core w rs 31 number place word pc spot;
        quiet = λ pc. store_at_quiet state.core w rs 31 number place pc spot;
        words = frame.words;
        symbols = set s.symbols y (bytes_after_store w bytes offset value);
        result = value;
        means = own_meaning b.app o own.registers frame at.outer s.symbols named
            ∙ means ∙ ap (λ found. on_some found (λ found_bytes. Some (stores_as found_bytes (register own.registers rs))))
            (symbol.accessed_is b fits state.core.ram s.symbols k.data_stands numbers.sizes w y offset inside)
            ∙ ap (λ v. Some (stores_as bytes v)) (sym (agree rs is_own));
        shows = sym (ap (λ r. slice_index x r) shown);
        stood = frames_kept b state.core.ram new (b.low t) (b.top t) (stack_stays b fits state.core.ram new only t active.declared) frame at.outer at.place
            (let r = at.context.room in omega arith) at.stood;
        kept = data_keeps b fits state.core.ram new only s t (symbol.stored_long b fits state.core.ram s.symbols k.data_stands numbers.sizes w y offset inside value k.fixed.ram);
        data_stands = symbol.data_stands b fits state.core.ram s.symbols k.data_stands numbers.sizes w y offset inside value k.fixed.ram;
      }
    where
      stores_as : List ℕ → ℕ → ItemMeaning
      stores_as found v = record {
        registers = own.registers;
        frames = going_on_frame frame ∷ at.outer;
        symbols = set s.symbols y (bytes_after_store w found offset v);
        result = v;
      }

  -- where x31 holds the high part of the address
  reaches_direct : (w : Width) (y offset : ℕ) → access w y offset → slice_index x 31 ≡ hi (symbol_address b.places y + offset) * 4096 → Reaches (lo (symbol_address b.places y + offset)) y offset
  reaches_direct w y offset inside e =
      ap (λ v. plus v (lo (symbol_address b.places y + offset))) e
      ∙ hi_lo (symbol_address b.places y + offset) (symbol.reach b fits state.core.ram s.symbols k.data_stands numbers.sizes w y offset inside)

  of_load : (w : Width) (rd y offset : ℕ) → IsStraight b.app frame.func (op.Load w rd y offset) → P (op.Load w rd y offset)
  of_load w rd y offset h scratch last =
      let two : at.here.done + 1 ≡ 2 = last in
      loads_into (op.Load w rd y offset) (Lui 31 (hi (symbol_address b.places y + offset)) ∷ []) w rd y offset (lo (symbol_address b.places y + offset)) h.0 h.1 refl (omega arith)
      (reaches_direct w y offset h.1 (scratch (omega arith))) (h.0, tt) refl refl

  of_store : (w : Width) (rs y offset : ℕ) → IsStraight b.app frame.func (op.Store w rs y offset) → P (op.Store w rs y offset)
  of_store w rs y offset h scratch last =
      let two : at.here.done + 1 ≡ 2 = last in
      stores_from (op.Store w rs y offset) (Lui 31 (hi (symbol_address b.places y + offset)) ∷ []) w rs y offset (lo (symbol_address b.places y + offset)) h.0 h.1 refl (omega arith)
      (reaches_direct w y offset h.1 (scratch (omega arith))) (h.0, tt) refl refl

  -- ---- data at an index under a mask

  reaches_masked : (w : Width) (y masked : ℕ) → access w y masked → slice_index x 31 ≡ sum32 masked (hi (symbol_address b.places y) * 4096) → Reaches (lo (symbol_address b.places y)) y masked
  reaches_masked w y masked inside e =
      ap (λ v. plus v (lo (symbol_address b.places y))) e
      ∙ low_added (symbol_address b.places y) masked (symbol.reach b fits state.core.ram s.symbols k.data_stands numbers.sizes w y masked inside)

  -- of four instructions, or of six
  abbrev IsSummed : (y masked mask : ℕ) (last : InstrKind) (o : Op) → Type 0
  IsSummed y masked mask last o =
      (before : List InstrKind) × (expansion_of o ≡ before ++ (last ∷ [])) × (length before ≡ at.here.done) × (slice_index x 31 ≡ sum32 masked (hi (symbol_address b.places y) * 4096))

  summed : (o : Op) (y index mask : ℕ) (last : InstrKind)
      → (mask ≤ 2047 → expansion_of o ≡ index_code index mask (symbol_address b.places y) ++ (last ∷ [])) → (2048 ≤ mask → expansion_of o ≡ far_indexed index mask (symbol_address b.places y) ++ (last ∷ []))
      → HasAddress mask (symbol_address b.places y) (bit_and (register own.registers index) mask) at.here.done (thread_of state) → at.here.done + 1 ≡ length (expansion_of o)
      → IsSummed y (bit_and (register own.registers index) mask) mask last o
  summed o y index mask last near far scratch all =
      ⊎_elim
      (λ (m : mask < 2048).
      let e = near (omega arith) in
      let four : length (expansion_of o) ≡ 4 = ap (λ (c : List InstrKind). length c) e in
      (index_code index mask (symbol_address b.places y), e, omega arith, (scratch.0 (omega arith)).sum (omega arith)))
      (λ (m : 2048 ≤ mask).
      let e = far m in
      let six : length (expansion_of o) ≡ 6 = ap (λ (c : List InstrKind). length c) e in
      (far_indexed index mask (symbol_address b.places y), e, omega arith, (scratch.1 m).sum (omega arith)))
      (cases_lt mask 2048)

  of_load_at : (w : Width) (rd y index mask : ℕ) → IsStraight b.app frame.func (op.LoadAt w rd y index mask) → P (op.LoadAt w rd y index mask)
  of_load_at w rd y index mask h scratch last =
      let address = item_address b.places frame.func frame.item in
      let masked = bit_and (register own.registers index) mask in
      let inside = masked_access b.app w y mask (register own.registers index) h.2 in
      let v = summed (op.LoadAt w rd y index mask) y index mask (load w rd 31 (lo (symbol_address b.places y)))
      (load_near b.app b.places frame.func address long w rd y index mask) (load_far b.app b.places frame.func address long w rd y index mask) scratch last in
      loads_into (op.LoadAt w rd y index mask) v.0 w rd y masked (lo (symbol_address b.places y)) h.0 inside v.1 v.2 (reaches_masked w y masked inside v.3) (h.0, (h.1, tt)) refl refl

  of_store_at : (w : Width) (rs y index mask : ℕ) → IsStraight b.app frame.func (op.StoreAt w rs y index mask) → P (op.StoreAt w rs y index mask)
  of_store_at w rs y index mask h scratch last =
      let address = item_address b.places frame.func frame.item in
      let masked = bit_and (register own.registers index) mask in
      let inside = masked_access b.app w y mask (register own.registers index) h.2 in
      let v = summed (op.StoreAt w rs y index mask) y index mask (store w rs 31 (lo (symbol_address b.places y)))
      (store_near b.app b.places frame.func address long w rs y index mask) (store_far b.app b.places frame.func address long w rs y index mask) scratch last in
      stores_from (op.StoreAt w rs y index mask) v.0 w rs y masked (lo (symbol_address b.places y)) h.0 inside v.1 v.2 (reaches_masked w y masked inside v.3) (h.0, (h.1, tt)) refl refl

  -- each item of the ten does what it means
  pub does : (o : Op) → IsStraight b.app frame.func o → P o
  does = straight_cases b.app frame.func P (record {
    registers = of_registers;
    number = of_number;
    upper = of_upper;
    constant = of_constant;
    frame_load = of_frame_load;
    frame_store = of_frame_store;
    load = of_load;
    store = of_store;
    load_at = of_load_at;
    store_at = of_store_at;
  })
