-- A return in a run.
use Rattle.std.proofs.Common.{◌≡◌, ℕ, ◌+◌, ◌-◌, ◌*◌, ◌%◌, ◌≤◌, pos, List, [], ◌∷◌, length, set, refl, sym, ap, ◌∙◌, subst, arith, ⊎_elim, inl, inr, Some, None}
use Rattle.std.specs.Prelude.{slice_index}
use Rattle.std.proofs.lemmas.List.{get_or-set_same, get_or-set_other, length-set}
use Rattle.sloth_base.specs.Arithmetic.{plus}
use Rattle.sloth_base.specs.Machine.{Core, State}
use Rattle.sloth_base.specs.Named.{operation, function}
use Rattle.sloth_base.specs.declared.app.Op.{Op}
use Rattle.sloth_base.specs.declared.app.Op.TheVariants as op
use Rattle.sloth_base.specs.declared.app.Width.TheVariants as width
use Rattle.sloth_base.specs.declared.service.Arrival.{Arrival}
use Rattle.sloth_base.specs.declared.image.MarkKind.TheVariants as mark_kind
use Rattle.sloth_base.specs.MemoryMap.{memory_bytes, memory_base}
use Rattle.rv32_instr.specs.declared.InstrKind.{InstrKind}
use Rattle.rv32_instr.specs.declared.InstrKind.TheVariants.{Lw, Addi, Jalr}
use Rattle.rv32_instr.specs.Encode.{Encode}
use Rattle.rv32_instr.specs.Effect.{effect}
use Rattle.rv32_instr.specs.Execute.{Going, perform, touched_line_by, next_at_target, next_behind}
use Rattle.masked_code.specs.Place.{offset_state}
use Rattle.masked_code.proofs.Machine.{next_at}
use Rattle.rv32_expand.specs.Expansion.{item_address, is_long, operation_code, expansion}
use Rattle.rv32_expand.specs.InPlace.{result_register, mark_of}
use Rattle.observe.specs.Observe.{View}
use Rattle.osek_scheduler.specs.State.{Frame, System, task}
use Rattle.osek_scheduler.specs.Meaning.{meaning, going_on_frame}
use Rattle.sim_relation.specs.Build.{Build}
use Rattle.sim_relation.specs.Position.{IsReturning, HasScratch, AreOuterFrames, AreFrames, return_address, called_words, thread_of}
use Rattle.sim_relation.specs.Stands.{Stands, IsActiveTask}
use Rattle.sim_relation.proofs.Framing.{outer_below}
use Rattle.sim_relation.proofs.Placed.{active_by_word}
use Rattle.sim_items.specs.Place.{AtItem, InReturn, IsReturn}
use Rattle.sim_items.specs.Outside.{StandsAt, GoesOutside}
use Rattle.sim_items.specs.Progress.{progress_in}
use Rattle.sim_items.proofs.Access.{IsPlaceOf, load_at, load_at_quiet, word_number}
use Rattle.sim_items.proofs.CallCode.{call_size}
use Rattle.sim_items.proofs.Distances.{jumps_to, IsInRam, item_in_ram}
use Rattle.sim_items.proofs.InRam as code
use Rattle.sim_items.proofs.Passing.{Passes, last_passed, instruction_outside}
use Rattle.sim_items.proofs.Scratch.{registers_pass}
use Rattle.sim_items.proofs.Turning.{turns}
use Rattle.sim_items.proofs.Outside as outside

abbrev loads_link : ℕ → InstrKind
loads_link words = Lw 31 2 (pos (4 * words))

abbrev raises : ℕ → InstrKind
raises words = Addi 2 2 (pos (4 + 4 * words))

abbrev goes_back : InstrKind
goes_back = Jalr 0 31 (pos 12)

return_expands : (b : Build) (func item : ℕ) → operation b.app func item ≡ op.Return
    → expansion b.app b.places func item ≡ loads_link (function b.app func).frame_words ∷ raises (function b.app func).frame_words ∷ goes_back ∷ []
return_expands b func item is = ap (λ o. operation_code b.app b.places func (item_address b.places func item) (is_long b.places func item) o) is

return_mark : (b : Build) (func item address : ℕ) (o : Op) → o ≡ op.Return
    → mark_of o address func item ≡ record { address = address; kind = mark_kind.Item; a = result_register o; b = func; c = item }
return_mark b func item address o e =
    subst (λ v. mark_of v address func item ≡ record { address = address; kind = mark_kind.Item; a = result_register v; b = func; c = item }) (sym e) refl

-- the caller's frame stands behind the words of the one that returns
caller_behind : (b : Build) (ram : List ℕ) (frame caller : Frame) (outer rest : List Frame) (place top : ℕ) → outer ≡ caller ∷ rest → AreFrames b ram frame outer place top
    → AreOuterFrames b ram (caller ∷ rest) (place + 4 * (function b.app frame.func).frame_words) top
caller_behind b ram frame caller outer rest place top called_by stood =
    let long = stood.0 in
    let spot = place + 4 * (function b.app frame.func).frame_words in
    let e : place + 4 * length frame.words ≡ spot = omega arith in
    subst (λ o. AreOuterFrames b ram o spot top) called_by (subst (λ p. AreOuterFrames b ram outer p top) e stood.2)

-- ---- the first instruction

module _ (b : Build) (view : View) (arrivals : List Arrival) (count : ℕ) (state : State) (s : System) (here : StandsAt b view arrivals count state s)
    (t : ℕ) (caller : Frame) (rest : List Frame)
    (item : AtItem b (outside.n b view arrivals (progress_in b) count state s here) (outside.s1 b view arrivals (progress_in b) count state s here) t)
    (called_by : item.outer ≡ caller ∷ rest) (back : IsReturn b view item.frame.func item.frame.item caller) where
  abbrev n : State
  n = outside.n b view arrivals (progress_in b) count state s here

  abbrev s1 : System
  s1 = outside.s1 b view arrivals (progress_in b) count state s here

  now : Stands b n s1
  now = outside.now b view arrivals (progress_in b) count state s here

  abbrev x : List ℕ
  x = n.core.registers

  abbrev words : ℕ
  words = (function b.app item.frame.func).frame_words

  abbrev address : ℕ
  address = item_address b.places item.frame.func item.frame.item

  active : IsActiveTask b s1 t
  active = active_by_word b n s1 t now item.current

  expands : expansion b.app b.places item.frame.func item.frame.item ≡ loads_link words ∷ raises words ∷ goes_back ∷ []
  expands = return_expands b item.frame.func item.frame.item back.is

  three : length (expansion b.app b.places item.frame.func item.frame.item) ≡ 3
  three = ap length expands

  none_done : item.here.done ≡ 0
  none_done = subst (λ v. HasScratch b (task s1 t).registers item.frame v item.here.done (thread_of n)) back.is item.here.scratch

  abbrev spot : ℕ
  spot = item.place + 4 * words

  outer_at : AreOuterFrames b n.core.ram (caller ∷ rest) spot (b.top t)
  outer_at = caller_behind b n.core.ram item.frame caller item.outer rest item.place (b.top t) called_by item.stood

  link_spot : IsPlaceOf width.Word (plus (slice_index x 2) (pos (4 * words))) spot
  link_spot =
      let a = item.context.aligned in
      let e = item.context.x2 in
      let l = outer_below b n.core.ram rest (spot + 4 + 4 * length caller.words) (b.top t) outer_at.3 in
      let top = (here.fits.to t active.declared).0 in
      record { is = omega arith; aligned = omega arith; inside = omega arith }

  abbrev link : ℕ
  link = return_address b caller

  abbrev core_now : Core
  core_now = record n.core { registers = set x 31 link }

  performs : (offset word : ℕ) → offset + 4 ≤ memory_bytes
      → perform (effect (loads_link words) (memory_base + offset) x) word (memory_base + offset) n.core ≡ Going (offset_state (offset + 4 * 1) core_now)
  performs offset word l =
      load_at n.core width.Word 31 2 (pos (4 * words)) spot word (memory_base + offset) link_spot
      ∙ ap (λ v. next_behind (memory_base + offset) (record n.core { registers = set x 31 v })) (sym (word_number n.core.ram spot) ∙ outer_at.0)
      ∙ next_at offset core_now l

  quiet : (pc : ℕ) → touched_line_by (effect (loads_link words) pc x) ≡ None
  quiet pc = load_at_quiet n.core width.Word 31 2 (pos (4 * words)) spot pc link_spot

  passes : (offset : ℕ) → memory_base + offset ≡ address + 4 → Passes b n (offset_state offset core_now) s1 t
  passes offset e =
      let f = now.fixed in
      registers_pass b n s1 t now offset (set x 31 link) (length-set x 31 link) (λ i l z. get_or-set_other x 31 i link 0 (λ q. omega arith)) item.place
      (get_or-set_other x 31 2 link 0 (λ q. omega arith) ∙ item.context.x2)
      (record {
        frame = item.frame;
        outer = item.outer;
        frames = item.frames;
        inside = item.inside;
        here = inr (inr (inr (record {
          free = item.free;
          is = back.is;
          caller = caller;
          rest = rest;
          called_by = called_by;
          linked = get_or-set_same x 31 link 0 (let l = f.registers in omega arith);
          here = inl (e, item.stood);
        })));
      })
      item.context.room item.context.aligned

  -- its first instruction
  pub return_begins : GoesOutside b view arrivals (progress_in b) count state s
  return_begins =
      let a = three in
      let pc = item.here.pc in
      let z = none_done in
      instruction_outside b view arrivals count state s here t item.current item.frame item.outer item.frames item.free back.placed 0 (omega arith)
      [] (loads_link words) _ expands refl 1 (omega arith) (omega arith) core_now
      (λ offset word e l m. performs offset word l) quiet (λ offset e. passes (offset + 4 * 1) (omega arith))

-- ---- the others

module _ (b : Build) (view : View) (arrivals : List Arrival) (count : ℕ) (state : State) (s : System) (here : StandsAt b view arrivals count state s)
    (t : ℕ) (item : InReturn b (outside.n b view arrivals (progress_in b) count state s here) (outside.s1 b view arrivals (progress_in b) count state s here) t)
    (back : IsReturn b view item.frame.func item.frame.item item.returning.caller) where
  abbrev m : State
  m = outside.n b view arrivals (progress_in b) count state s here

  abbrev s2 : System
  s2 = outside.s1 b view arrivals (progress_in b) count state s here

  stands : Stands b m s2
  stands = outside.now b view arrivals (progress_in b) count state s here

  abbrev r : IsReturning b m.core.ram (b.top t) (task s2 t) item.frame item.outer (thread_of m) item.place
  r = item.returning

  abbrev y : List ℕ
  y = m.core.registers

  abbrev ram : List ℕ
  ram = m.core.ram

  abbrev size : ℕ
  size = (function b.app item.frame.func).frame_words

  abbrev from : ℕ
  from = item_address b.places item.frame.func item.frame.item

  is_active : IsActiveTask b s2 t
  is_active = active_by_word b m s2 t stands item.current

  expansion_is : expansion b.app b.places item.frame.func item.frame.item ≡ loads_link size ∷ raises size ∷ goes_back ∷ []
  expansion_is = return_expands b item.frame.func item.frame.item back.is

  count_is : length (expansion b.app b.places item.frame.func item.frame.item) ≡ 3
  count_is = ap length expansion_is

  -- ---- x2 is raised

  module _ (frames : AreFrames b ram item.frame item.outer item.place (b.top t)) where
    abbrev up : ℕ
    up = item.place + (4 + 4 * size)

    outer_up : AreOuterFrames b ram (r.caller ∷ r.rest) (item.place + 4 * size) (b.top t)
    outer_up = caller_behind b ram item.frame r.caller item.outer r.rest item.place (b.top t) r.called_by frames

    caller_stands : AreFrames b ram r.caller r.rest up (b.top t)
    caller_stands =
        let e : item.place + 4 * size + 4 ≡ up = omega arith in
        subst (λ p. AreFrames b ram r.caller r.rest p (b.top t)) e (outer_up.1, outer_up.2, outer_up.3)

    up_below : up ≤ b.top t
    up_below = let l = outer_below b ram r.rest (up + 4 * length r.caller.words) (b.top t) caller_stands.2 in omega arith

    raised : plus (slice_index y 2) (pos (4 + 4 * size)) ≡ memory_base + up
    raised = let e = item.context.x2 in let l = up_below in let top = (here.fits.to t is_active.declared).0 in omega arith

    abbrev core_raised : Core
    core_raised = record m.core { registers = set y 2 (memory_base + up) }

    raise_performs : (offset word : ℕ) → offset + 4 ≤ memory_bytes
        → perform (effect (raises size) (memory_base + offset) y) word (memory_base + offset) m.core ≡ Going (offset_state (offset + 4 * 1) core_raised)
    unfolding perform
    raise_performs offset word l = ap (λ v. next_behind (memory_base + offset) (record m.core { registers = set y 2 v })) raised ∙ next_at offset core_raised l

    raise_quiet : (pc : ℕ) → touched_line_by (effect (raises size) pc y) ≡ None
    unfolding touched_line_by
    raise_quiet pc = refl

    raise_passes : (offset : ℕ) → memory_base + offset ≡ from + 8 → Passes b m (offset_state offset core_raised) s2 t
    raise_passes offset e =
        let f = stands.fixed in
        let value = memory_base + up in
        registers_pass b m s2 t stands offset (set y 2 value) (length-set y 2 value) (λ i l z. get_or-set_other y 2 i value 0 z) up
        (get_or-set_same y 2 value 0 (let l = f.registers in omega arith))
        (record {
          frame = item.frame;
          outer = item.outer;
          frames = item.frames;
          inside = item.inside;
          here = inr (inr (inr (record {
            free = r.free;
            is = r.is;
            caller = r.caller;
            rest = r.rest;
            called_by = r.called_by;
            linked = get_or-set_other y 2 31 value 0 (λ q. omega arith) ∙ r.linked;
            here = inr (e, caller_stands);
          })));
        })
        (let l = item.context.room in omega arith) (let a = item.context.aligned in omega arith)

    raise_goes : m.pc ≡ from + 4 → GoesOutside b view arrivals (progress_in b) count state s
    raise_goes pc =
        let a = count_is in
        instruction_outside b view arrivals count state s here t item.current item.frame item.outer item.frames r.free back.placed 1 (omega arith)
        (loads_link size ∷ []) (raises size) _ expansion_is refl 1 (omega arith) (omega arith) core_raised
        (λ offset word e l even. raise_performs offset word l) raise_quiet (λ offset e. raise_passes (offset + 4 * 1) (omega arith))

  -- ---- the jump to the caller

  abbrev behind_call : Frame
  behind_call = going_on_frame r.caller

  abbrev goal : ℕ
  goal = item_address b.places r.caller.func (r.caller.item + 1)

  goal_ram : IsInRam goal
  goal_ram = item_in_ram b view r.caller.func (r.caller.item + 1) back.next

  -- the next item stands 12 bytes behind the return address
  lands : plus (slice_index y 31) (pos 12) ≡ goal
  lands =
      let linked = r.linked in
      let address : return_address b r.caller ≡ item_address b.places r.caller.func r.caller.item + 4 * (size + 1) =
      ap (λ o. item_address b.places r.caller.func r.caller.item + 4 * (called_words b.app o + 1)) back.call in
      let next = back.calling.adjacent back.more in
      let long = call_size b r.caller.func r.caller.item item.frame.func back.call in
      let in_ram = goal_ram.to in
      omega arith

  even : (a : ℕ) → a % 4 ≡ 0 → a - a % 2 ≡ a
  even a h = omega arith

  jump_performs : (word pc : ℕ) → perform (effect goes_back pc y) word pc m.core ≡ Going (record { pc = goal; core = m.core })
  unfolding perform
  jump_performs word pc =
      let a = here.fits.items r.caller.func (r.caller.item + 1) in
      ap (λ v. next_at_target (v - v % 2) m.core) lands ∙ ap (λ v. next_at_target v m.core) (even goal a) ∙ jumps_to goal m.core a

  jump_quiet : (pc : ℕ) → touched_line_by (effect goes_back pc y) ≡ None
  unfolding touched_line_by
  jump_quiet pc = refl

  meant : meaning b.app (operation b.app item.frame.func item.frame.item) (task s2 t).registers item.frame item.outer s2.symbols
      ≡ Some (record { registers = (task s2 t).registers; frames = behind_call ∷ r.rest; symbols = s2.symbols; result = 0 })
  meant =
      ap (λ o. meaning b.app o (task s2 t).registers item.frame item.outer s2.symbols) back.is
      ∙ ap (λ outer. meaning b.app op.Return (task s2 t).registers item.frame outer s2.symbols) r.called_by

  jump_goes : m.pc ≡ from + 8 → AreFrames b ram r.caller r.rest item.place (b.top t) → GoesOutside b view arrivals (progress_in b) count state s
  jump_goes pc frames =
      let a = count_is in
      let before = loads_link size ∷ raises size ∷ [] in
      let at_pc : m.pc ≡ from + 4 * 2 = omega arith in
      let offset = code.offset b view m s2 here.fits stands item.frame.func item.frame.item back.placed 2 at_pc before goes_back [] expansion_is refl in
      let next : State = record { pc = goal; core = m.core } in
      outside.committed_outside b view arrivals (progress_in b) count state s here t item.current item.frame.func item.frame.item
      (turns b m s2 t here.fits stands item.current (outside.top_here b view arrivals (progress_in b) count state s here t item.current) r.free item.frame item.outer item.frames item.inside
      item.place item.context behind_call r.rest back.more frames meant (ap result_register back.is)
      (code.stepped b view m s2 here.fits stands item.frame.func item.frame.item back.placed 2 at_pc before goes_back [] expansion_is refl next (jump_performs (Encode goes_back) (memory_base + offset)))
      (code.untouched b view m s2 here.fits stands item.frame.func item.frame.item back.placed 2 at_pc before goes_back [] expansion_is refl (jump_quiet (memory_base + offset))))
      back.placed (outside.last_at b view arrivals (progress_in b) count state s here item.frame.func item.frame.item 2 at_pc (omega arith))
      (λ address. return_mark b item.frame.func item.frame.item address (operation b.app item.frame.func item.frame.item) back.is)
      (last_passed b view arrivals count state s here t item.current item.frame item.outer item.frames r.free 2 at_pc (omega arith) item.inside)

  -- each further one
  pub return_goes_on : GoesOutside b view arrivals (progress_in b) count state s
  return_goes_on =
      ⊎_elim (λ (h : (m.pc ≡ from + 4) × AreFrames b ram item.frame item.outer item.place (b.top t)). raise_goes h.1 h.0)
      (λ (h : (m.pc ≡ from + 8) × AreFrames b ram r.caller r.rest item.place (b.top t)). jump_goes h.0 h.1)
      r.here
