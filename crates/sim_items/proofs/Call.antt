-- A call in a run.
use Rattle.std.proofs.Common.{◌≡◌, ℕ, zero, suc, ◌+◌, ◌-◌, ◌*◌, ◌<◌, ◌≤◌, pos, List, [], ◌∷◌, ◌++◌, length, get_or, set, refl, sym, ap, ◌∙◌, subst, arith, ⊎_elim, inl, inr, Some, None}
use Rattle.std.specs.Prelude.{neg_ℤ, slice_index, replicate}
use Rattle.std.proofs.lemmas.Bool.{cases_eq, cases_lt, lt-ltb}
use Rattle.std.proofs.lemmas.Int.{ints}
use Rattle.std.proofs.lemmas.List.{get_or-set_same, get_or-set_other, length-set}
use Rattle.sloth_base.specs.Arithmetic.{plus, sum32}
use Rattle.sloth_base.specs.Machine.{Core, State}
use Rattle.sloth_base.specs.Named.{operation, function}
use Rattle.sloth_base.specs.declared.app.Op.{Op}
use Rattle.sloth_base.specs.declared.app.Op.TheVariants as op
use Rattle.sloth_base.specs.declared.app.Width.TheVariants as width
use Rattle.sloth_base.specs.declared.service.Arrival.{Arrival}
use Rattle.sloth_base.specs.declared.image.MarkKind.TheVariants as mark_kind
use Rattle.sloth_base.specs.MemoryMap.{memory_base, memory_bytes, memory_end}
use Rattle.sloth_region.specs.Layout.{context_bytes}
use Rattle.rv32_instr.specs.declared.InstrKind.TheVariants.{Sw}
use Rattle.rv32_instr.specs.Encode.{Encode}
use Rattle.rv32_instr.specs.Effect.{effect}
use Rattle.rv32_instr.specs.Execute.{Going, perform, touched_line_by, next_at_target, next_behind}
use Rattle.rv32_instr.specs.Ram.{word_at, with_word}
use Rattle.masked_code.specs.Place.{offset_state}
use Rattle.masked_code.proofs.Machine.{next_at}
use Rattle.masked_code.proofs.Words.{word_at-other, word_at-same, get_or-with_word}
use Rattle.rv32_expand.specs.Expansion.{item_address, distance, zeros, call_code, expansion}
use Rattle.rv32_expand.specs.InPlace.{result_register, mark_of}
use Rattle.observe.specs.Observe.{View}
use Rattle.osek_scheduler.specs.State.{Frame, System, task, entry_frame}
use Rattle.osek_scheduler.specs.Meaning.{ItemMeaning, meaning, if_true}
use Rattle.osek_scheduler.specs.Valid.{AreCalls, IsCalledFrom}
use Rattle.code_rules.specs.Code.{IsCalledBy}
use Rattle.sim_relation.specs.Build.{Build}
use Rattle.sim_relation.specs.Position.{IsPosition, IsCalling, AreWords, AreOuterFrames, AreFrames, HasScratch, return_address, called_words, thread_of}
use Rattle.sim_relation.specs.Stands.{Stands, IsActiveTask}
use Rattle.sim_relation.proofs.Framing.{frames_kept, frames_below}
use Rattle.sim_relation.proofs.Machines.{kept_machine}
use Rattle.sim_relation.proofs.Placed.{active_by_word}
use Rattle.sim_relation.proofs.Room.{funcs_of, called_room}
use Rattle.sim_items.specs.Place.{AtItem, InCall, HasInstructions, IsCall}
use Rattle.sim_items.specs.Outside.{StandsAt, GoesOutside}
use Rattle.sim_items.specs.Progress.{progress_in}
use Rattle.sim_items.proofs.Access.{IsPlaceOf, store_at, store_at_quiet, word_bytes}
use Rattle.sim_items.proofs.CallCode.{lowers, clears, links, stores_link, jumps_away, call_expands, call_size, at_word, behind_words, at_store, behind_link, at_jump, behind_store}
use Rattle.sim_items.proofs.Distances.{arrives, jumps_to, IsInRam, item_in_ram}
use Rattle.sim_items.proofs.InRam as code
use Rattle.sim_items.proofs.Keeping.{part_keeps, part_data, words_from}
use Rattle.sim_items.proofs.Passing.{Passes, last_passed, instruction_outside}
use Rattle.sim_items.proofs.Scratch.{registers_pass}
use Rattle.sim_items.proofs.Turning.{turns}
use Rattle.sim_items.proofs.Outside as outside

lowered : (place n : ℕ) → 0 < n → n ≤ place → place < 0x20_0001 → plus (memory_base + place) (neg_ℤ (pos n)) ≡ memory_base + (place - n)
lowered place zero h l m = absurd (omega arith)
lowered place (suc n) h l m = omega (arith, ints)

-- functions that call each other
called_by : (b : Build) (t f : ℕ) (outer : List Frame) → IsCalledFrom b.app t f outer → IsCalledBy b.app t f (funcs_of outer)
called_by b t f [] h = h
called_by b t f (caller ∷ outer) h = ((caller.item, h.1), called_by b t caller.func outer h.2)

call_mark : (b : Build) (func item callee address : ℕ) (o : Op) → o ≡ op.Invoke callee
    → mark_of o address func item ≡ record { address = address; kind = mark_kind.Item; a = result_register o; b = func; c = item }
call_mark b func item callee address o e =
    subst (λ v. mark_of v address func item ≡ record { address = address; kind = mark_kind.Item; a = result_register v; b = func; c = item }) (sym e) refl

zero_words : (n k : ℕ) → ◌≡◌ {A = ℕ} (get_or (replicate n 0) k 0) 0
zero_words zero k = refl
zero_words (suc n) zero = refl
zero_words (suc n) (suc k) = zero_words n k

zeros_long : (n : ℕ) → length {A = ℕ} (replicate n 0) ≡ n
zeros_long zero = refl
zeros_long (suc n) = ap suc (zeros_long n)

-- ---- the first instruction

module _ (b : Build) (view : View) (arrivals : List Arrival) (count : ℕ) (state : State) (s : System) (here : StandsAt b view arrivals count state s)
    (t : ℕ) (item : AtItem b (outside.n b view arrivals (progress_in b) count state s here) (outside.s1 b view arrivals (progress_in b) count state s here) t)
    (callee : ℕ) (call : IsCall b view item.frame.func item.frame.item callee) (chain : AreCalls b.app t (item.frame ∷ item.outer)) where
  abbrev n : State
  n = outside.n b view arrivals (progress_in b) count state s here

  abbrev s1 : System
  s1 = outside.s1 b view arrivals (progress_in b) count state s here

  now : Stands b n s1
  now = outside.now b view arrivals (progress_in b) count state s here

  abbrev x : List ℕ
  x = n.core.registers

  abbrev words : ℕ
  words = (function b.app callee).frame_words

  abbrev address : ℕ
  address = item_address b.places item.frame.func item.frame.item

  active : IsActiveTask b s1 t
  active = active_by_word b n s1 t now item.current

  room : b.low t + context_bytes + (4 + 4 * words) ≤ item.place
  room =
      called_room b here.fits n.core.ram t active.declared item.frame item.outer item.place item.stood (called_by b t item.frame.func item.outer chain.1) callee
      (item.frame.item, record { known = chain.0.known; inside = item.inside; is = call.is })

  below_top : item.place ≤ b.top t
  below_top = frames_below b n.core.ram item.frame item.outer item.place (b.top t) item.stood

  abbrev place : ℕ
  place = item.place - (4 + 4 * words)

  all : length (expansion b.app b.places item.frame.func item.frame.item) ≡ 4 + words
  all = call_size b item.frame.func item.frame.item callee call.is

  none_done : item.here.done ≡ 0
  none_done = by (operation b.app item.frame.func item.frame.item) call.is item.here.scratch
    where
      by : (o : Op) → o ≡ op.Invoke callee → HasScratch b (task s1 t).registers item.frame o item.here.done (thread_of n) → item.here.done ≡ 0
      by o e h = subst (λ v. HasScratch b (task s1 t).registers item.frame v item.here.done (thread_of n)) e h

  value : plus (slice_index x 2) (neg_ℤ (pos (4 + 4 * words))) ≡ memory_base + place
  value =
      let r = room in
      let l = below_top in
      let m = (here.fits.to t active.declared).0 in
      ap (λ v. plus v (neg_ℤ (pos (4 + 4 * words)))) item.context.x2 ∙ lowered item.place (4 + 4 * words) (omega arith) (omega arith) (omega arith)

  abbrev core_now : Core
  core_now = record n.core { registers = set x 2 (memory_base + place) }

  performs : (offset word : ℕ) → offset + 4 ≤ memory_bytes
      → perform (effect (lowers words) (memory_base + offset) x) word (memory_base + offset) n.core ≡ Going (offset_state (offset + 4 * 1) core_now)
  unfolding perform
  performs offset word l = ap (λ v. next_behind (memory_base + offset) (record n.core { registers = set x 2 v })) value ∙ next_at offset core_now l

  quiet : (pc : ℕ) → touched_line_by (effect (lowers words) pc x) ≡ None
  unfolding touched_line_by
  quiet pc = refl

  passes : (offset : ℕ) → memory_base + offset ≡ address + 4 * 0 → Passes b n (offset_state (offset + 4 * 1) core_now) s1 t
  passes offset e =
      let f = now.fixed in
      let r = room in
      let back : place + 4 + 4 * words ≡ item.place = omega arith in
      let value = memory_base + place in
      registers_pass b n s1 t now (offset + 4 * 1) (set x 2 value) (length-set x 2 value) (λ i l z. get_or-set_other x 2 i value 0 z) place
      (get_or-set_same x 2 value 0 (let l = f.registers in omega arith))
      (record {
        frame = item.frame;
        outer = item.outer;
        frames = item.frames;
        inside = item.inside;
        here = inr (inr (inl (record {
          free = item.free;
          callee = callee;
          is = call.is;
          done = 1;
          some = omega arith;
          within = omega arith;
          pc = omega arith;
          frames = subst (λ p. AreFrames b n.core.ram item.frame item.outer p (b.top t)) (sym back) item.stood;
          zeros = λ i l h. absurd (omega arith);
          linked = λ h. absurd (omega arith);
          stored = λ h. absurd (omega arith);
        })));
      })
      (omega arith) (let a = item.context.aligned in omega arith)

  -- its first instruction
  pub call_begins : GoesOutside b view arrivals (progress_in b) count state s
  call_begins =
      let a = all in
      let pc = item.here.pc in
      let z = none_done in
      instruction_outside b view arrivals count state s here t item.current item.frame item.outer item.frames item.free call.placed 0 (omega arith)
      [] (lowers words) _ (call_expands b item.frame.func item.frame.item callee call.is) refl 1 (omega arith) (omega arith) core_now
      (λ offset word e l m. performs offset word l) quiet passes

-- ---- the others

module _ (b : Build) (view : View) (arrivals : List Arrival) (count : ℕ) (state : State) (s : System) (here : StandsAt b view arrivals count state s)
    (t : ℕ) (item : InCall b (outside.n b view arrivals (progress_in b) count state s here) (outside.s1 b view arrivals (progress_in b) count state s here) t)
    (call : IsCall b view item.frame.func item.frame.item item.calling.callee) where
  abbrev m : State
  m = outside.n b view arrivals (progress_in b) count state s here

  abbrev s2 : System
  s2 = outside.s1 b view arrivals (progress_in b) count state s here

  stands : Stands b m s2
  stands = outside.now b view arrivals (progress_in b) count state s here

  abbrev c : IsCalling b m.core.ram (b.top t) (task s2 t) item.frame item.outer (thread_of m) item.place
  c = item.calling

  abbrev ram : List ℕ
  ram = m.core.ram

  abbrev y : List ℕ
  y = m.core.registers

  abbrev size : ℕ
  size = (function b.app c.callee).frame_words

  abbrev from : ℕ
  from = item_address b.places item.frame.func item.frame.item

  abbrev to : ℕ
  to = item_address b.places c.callee 0

  is_active : IsActiveTask b s2 t
  is_active = active_by_word b m s2 t stands item.current

  count_is : length (expansion b.app b.places item.frame.func item.frame.item) ≡ 4 + size
  count_is = call_size b item.frame.func item.frame.item c.callee call.is

  expands : expansion b.app b.places item.frame.func item.frame.item ≡ call_code from size to
  expands = call_expands b item.frame.func item.frame.item c.callee call.is

  low_enough : item.place + 4 + 4 * size ≤ b.top t
  low_enough = frames_below b ram item.frame item.outer (item.place + 4 + 4 * size) (b.top t) c.frames

  return_is : return_address b item.frame ≡ from + 4 * (size + 1)
  return_is = ap (λ o. from + 4 * (called_words b.app o + 1)) call.is

  from_ram : IsInRam from
  from_ram = item_in_ram b view item.frame.func item.frame.item call.placed

  -- where so many instructions are done
  module _ (next : State) (done : ℕ) (some : 1 ≤ done) (within : done ≤ size + 3) (pc : next.pc ≡ from + 4 * done)
      (frames : AreFrames b next.core.ram item.frame item.outer (item.place + 4 + 4 * size) (b.top t))
      (zeros_are : (i : ℕ) → i < size → i + 1 < done → word_at next.core.ram (item.place + 4 * i) ≡ 0)
      (linked : size + 2 ≤ done → slice_index next.core.registers 31 ≡ return_address b item.frame)
      (stored : size + 3 ≤ done → word_at next.core.ram (item.place + 4 * size) ≡ return_address b item.frame) where
    calling_at : IsPosition b next.core.ram t (task s2 t) (thread_of next) item.place
    calling_at = record {
      frame = item.frame;
      outer = item.outer;
      frames = item.frames;
      inside = item.inside;
      here = inr (inr (inl (record {
        free = c.free;
        callee = c.callee;
        is = c.is;
        done = done;
        some = some;
        within = within;
        pc = pc;
        frames = frames;
        zeros = zeros_are;
        linked = linked;
        stored = stored;
      })));
    }

  -- ---- a store to the new frame

  module _ (word value : ℕ) (inside : word < size + 1) where
    abbrev spot : ℕ
    spot = item.place + 4 * word

    abbrev new : List ℕ
    new = with_word ram spot value

    in_part : (b.low t ≤ spot) × (spot + 4 ≤ b.top t)
    in_part = let r = item.context.room in let l = low_enough in (omega arith, omega arith)

    abbrev core_stored : Core
    core_stored = record m.core { ram = new }

    store_passes : (offset : ℕ) → IsPosition b new t (task s2 t) (thread_of (offset_state offset core_stored)) item.place → Passes b m (offset_state offset core_stored) s2 t
    store_passes offset position =
        let p = in_part in
        let keeps = part_keeps b here.fits ram s2 t is_active.declared (inl is_active.active) stands.apart spot value p.0 p.1 in
        record {
          machine = kept_machine b m stands.fixed (memory_base + offset) y new refl refl stands.fixed.bases keeps.long;
          level = refl;
          kept = keeps;
          data_stay = part_data b here.fits ram s2 t is_active.declared (inl is_active.active) stands.apart spot value p.0 p.1;
          registers = λ i l h. refl;
          place = item.place;
          x2 = item.context.x2;
          position = position;
          room = item.context.room;
          aligned = item.context.aligned;
        }

    store_spot : IsPlaceOf width.Word (plus (slice_index y 2) (pos (4 * word))) spot
    store_spot =
        let a = item.context.aligned in
        let e = item.context.x2 in
        let p = in_part in
        let top = (here.fits.to t is_active.declared).0 in
        record { is = omega arith; aligned = omega arith; inside = omega arith }

    store_performs : (rs offset code_word : ℕ) → slice_index y rs ≡ value → offset + 4 ≤ memory_bytes
        → perform (effect (Sw 2 rs (pos (4 * word))) (memory_base + offset) y) code_word (memory_base + offset) m.core ≡ Going (offset_state (offset + 4 * 1) core_stored)
    store_performs rs offset code_word e l =
        store_at m.core width.Word rs 2 (pos (4 * word)) spot code_word (memory_base + offset) store_spot
        ∙ ap (λ r. next_behind (memory_base + offset) (record m.core { ram = r })) (sym (word_bytes ram spot (slice_index y rs)))
        ∙ ap (λ v. next_behind (memory_base + offset) (record m.core { ram = with_word ram spot v })) e
        ∙ next_at offset core_stored l

    store_quiet : (rs pc : ℕ) → touched_line_by (effect (Sw 2 rs (pos (4 * word))) pc y) ≡ None
    store_quiet rs pc = store_at_quiet m.core width.Word rs 2 (pos (4 * word)) spot pc store_spot

    frames_stay : AreFrames b new item.frame item.outer (item.place + 4 + 4 * size) (b.top t)
    frames_stay =
        frames_kept b ram new (item.place + 4 + 4 * size) (b.top t) (λ i l h. get_or-with_word ram spot value i (inr (omega arith)))
        item.frame item.outer (item.place + 4 + 4 * size) (omega arith) c.frames

    -- another word
    other_word : (i : ℕ) → (i ≡ word → ⊥) → word_at new (item.place + 4 * i) ≡ word_at ram (item.place + 4 * i)
    other_word i e =
        word_at-other ram spot value (item.place + 4 * i)
        (⊎_elim (λ (l : i < word). inl (omega arith)) (λ (l : word ≤ i). inr (omega (arith, e))) (cases_lt i word))

    this_word : value < 4294967296 → word_at new spot ≡ value
    this_word small = word_at-same ram spot value (let l = stands.fixed.ram in let top = (here.fits.to t is_active.declared).0 in let p = in_part in omega arith) small

  -- ---- a word of zeros

  clear_goes : (word : ℕ) → word < size → c.done ≡ word + 1 → GoesOutside b view arrivals (progress_in b) count state s
  clear_goes word l e =
      let v = at_word from size to word l in
      let a = count_is in
      let pc = c.pc in
      instruction_outside b view arrivals count state s here t item.current item.frame item.outer item.frames c.free call.placed (word + 1) (omega arith)
      (lowers size ∷ zeros word 0) (clears word) v.rest (expands ∙ v.is) v.long 1 (omega arith) (omega arith) (core_stored word 0 (omega arith))
      (λ offset code_word q to_end even. store_performs word 0 (omega arith) 0 offset code_word stands.fixed.zero to_end) (store_quiet word 0 (omega arith) 0)
      (λ offset q.
      store_passes word 0 (omega arith) (offset + 4 * 1)
      (calling_at (offset_state (offset + 4 * 1) (core_stored word 0 (omega arith))) (word + 2) (omega arith) (omega arith) (omega arith)
      (frames_stay word 0 (omega arith))
      (λ i in_size before.
      ⊎_elim
      (λ (same : i ≡ word).
      let f : item.place + 4 * i ≡ item.place + 4 * word = omega arith in
      ap (λ p. word_at (new word 0 (omega arith)) p) f ∙ this_word word 0 (omega arith) (omega arith))
      (λ (other : i ≡ word → ⊥). other_word word 0 (omega arith) i other ∙ c.zeros i in_size (omega (arith, other)))
      (cases_eq i word))
      (λ h. absurd (omega arith)) (λ h. absurd (omega arith))))

  -- the item ends in RAM
  item_end : from + 4 * (size + 4) ≤ memory_end
  item_end =
      let i = code.behind b (lowers size ∷ (zeros size 0 ++ (links ∷ stores_link size ∷ []))) (jumps_away from size to) [] from
      (subst (HasInstructions b from) (expands ∙ at_jump from size to) call.placed.code) in
      let e = i.is in
      let l = i.to in
      let z = behind_store size in
      omega arith

  -- ---- the return address

  abbrev core_linked : Core
  core_linked = record m.core { registers = set y 31 (return_address b item.frame) }

  link_performs : (offset word : ℕ) → memory_base + offset ≡ from + 4 * (size + 1) → offset + 4 ≤ memory_bytes
      → perform (effect links (memory_base + offset) y) word (memory_base + offset) m.core ≡ Going (offset_state (offset + 4 * 1) core_linked)
  unfolding perform
  link_performs offset word q l =
      let r = return_is in
      let v : sum32 (memory_base + offset) (0 * 4096) ≡ return_address b item.frame = omega arith in
      ap (λ a. next_behind (memory_base + offset) (record m.core { registers = set y 31 a })) v ∙ next_at offset core_linked l

  link_quiet : (pc : ℕ) → touched_line_by (effect links pc y) ≡ None
  unfolding touched_line_by
  link_quiet pc = refl

  link_passes : (offset : ℕ) → memory_base + offset ≡ from + 4 * (size + 2) → c.done ≡ size + 1 → Passes b m (offset_state offset core_linked) s2 t
  link_passes offset q e =
      let f = stands.fixed in
      let link = return_address b item.frame in
      registers_pass b m s2 t stands offset (set y 31 link) (length-set y 31 link) (λ i l z. get_or-set_other y 31 i link 0 (λ q. omega arith)) item.place
      (get_or-set_other y 31 2 link 0 (λ z. omega arith) ∙ item.context.x2)
      (calling_at (offset_state offset core_linked) (size + 2) (omega arith) (omega arith) q c.frames
      (λ i in_size before. c.zeros i in_size (omega arith))
      (λ h. get_or-set_same y 31 link 0 (let l = f.registers in omega arith)) (λ h. absurd (omega arith)))
      item.context.room item.context.aligned

  link_goes : c.done ≡ size + 1 → GoesOutside b view arrivals (progress_in b) count state s
  link_goes e =
      let a = count_is in
      let pc = c.pc in
      instruction_outside b view arrivals count state s here t item.current item.frame item.outer item.frames c.free call.placed (size + 1) (omega arith)
      (lowers size ∷ zeros size 0) links _ expands (behind_words size) 1 (omega arith) (omega arith) core_linked
      (λ offset word q to_end even. link_performs offset word q to_end) link_quiet (λ offset q. link_passes (offset + 4 * 1) (omega arith) e)

  store_goes : c.done ≡ size + 2 → GoesOutside b view arrivals (progress_in b) count state s
  store_goes e =
      let a = count_is in
      let pc = c.pc in
      let link = return_address b item.frame in
      let r = return_is in
      let in_ram = from_ram.to in
      let placed_end = item_end in
      instruction_outside b view arrivals count state s here t item.current item.frame item.outer item.frames c.free call.placed (size + 2) (omega arith)
      (lowers size ∷ (zeros size 0 ++ (links ∷ []))) (stores_link size) _ (expands ∙ at_store from size to) (behind_link size) 1 (omega arith) (omega arith) (core_stored size link (omega arith))
      (λ offset word q to_end even. store_performs size link (omega arith) 31 offset word (c.linked (omega arith)) to_end) (store_quiet size link (omega arith) 31)
      (λ offset q.
      store_passes size link (omega arith) (offset + 4 * 1)
      (calling_at (offset_state (offset + 4 * 1) (core_stored size link (omega arith))) (size + 3) (omega arith) (omega arith) (omega arith)
      (frames_stay size link (omega arith))
      (λ i in_size before. other_word size link (omega arith) i (λ z. omega arith) ∙ c.zeros i in_size (omega arith))
      (λ h. c.linked (omega arith)) (λ h. this_word size link (omega arith) (omega arith))))

  -- ---- the jump

  abbrev entered : Frame
  entered = entry_frame b.app c.callee

  entered_stands : c.done ≡ size + 3 → AreFrames b ram entered (item.frame ∷ item.outer) item.place (b.top t)
  entered_stands e =
      let long = zeros_long size in
      let p : item.place + 4 * length entered.words ≡ item.place + 4 * size = ap (λ v. item.place + 4 * v) long in
      let f = c.frames in (
        long,
        words_from ram (replicate size 0) item.place (λ k l. c.zeros k (omega arith) (omega arith) ∙ sym (zero_words size k)),
        subst (λ q. AreOuterFrames b ram (item.frame ∷ item.outer) q (b.top t)) (sym p)
            (c.stored (omega arith), f.0, subst (λ q. AreWords ram q item.frame.words) reorder f.1, subst (λ q. AreOuterFrames b ram item.outer (q + 4 * length item.frame.words) (b.top t)) reorder f.2),
      )
    where
      reorder : item.place + 4 + 4 * size ≡ item.place + 4 * size + 4
      reorder = omega arith

  to_ram : IsInRam to
  to_ram = item_in_ram b view c.callee 0 call.first

  jump_performs : (offset word : ℕ) → memory_base + offset ≡ from + 4 * (size + 3) → offset + 4 ≤ memory_bytes
      → perform (effect (jumps_away from size to) (memory_base + offset) y) word (memory_base + offset) m.core ≡ Going (record { pc = to; core = m.core })
  unfolding perform
  jump_performs offset word q l =
      let r = to_ram.to in
      let d = distance (from + 4 * (size + 3)) to in
      ap (λ p. next_at_target (plus p d) m.core) q ∙ ap (λ p. next_at_target p m.core) (arrives (from + 4 * (size + 3)) to (omega arith) (omega arith)) ∙ jumps_to to m.core (here.fits.items c.callee 0)

  jump_quiet : (pc : ℕ) → touched_line_by (effect (jumps_away from size to) pc y) ≡ None
  unfolding touched_line_by
  jump_quiet pc = refl

  meant : meaning b.app (operation b.app item.frame.func item.frame.item) (task s2 t).registers item.frame item.outer s2.symbols
      ≡ Some (record { registers = (task s2 t).registers; frames = entered ∷ item.frame ∷ item.outer; symbols = s2.symbols; result = 0 })
  meant =
      let made : ItemMeaning = record { registers = (task s2 t).registers; frames = entered ∷ item.frame ∷ item.outer; symbols = s2.symbols; result = 0 } in
      ap (λ o. meaning b.app o (task s2 t).registers item.frame item.outer s2.symbols) call.is
      ∙ ap (λ k. if_true k (Some made)) (lt-ltb c.callee (length b.app.funcs) call.known)

  jump_goes : c.done ≡ size + 3 → GoesOutside b view arrivals (progress_in b) count state s
  jump_goes e =
      let a = count_is in
      let before = lowers size ∷ (zeros size 0 ++ (links ∷ stores_link size ∷ [])) in
      let expanded_so = expands ∙ at_jump from size to in
      let offset = code.offset b view m s2 here.fits stands item.frame.func item.frame.item call.placed c.done c.pc before (jumps_away from size to) [] expanded_so (behind_store size ∙ sym e) in
      let is = code.offset_is b view m s2 here.fits stands item.frame.func item.frame.item call.placed c.done c.pc before (jumps_away from size to) [] expanded_so (behind_store size ∙ sym e) in
      let to_end = code.offset_inside b view m s2 here.fits stands item.frame.func item.frame.item call.placed c.done c.pc before (jumps_away from size to) [] expanded_so (behind_store size ∙ sym e) in
      let next : State = record { pc = to; core = m.core } in
      outside.committed_outside b view arrivals (progress_in b) count state s here t item.current item.frame.func item.frame.item
      (turns b m s2 t here.fits stands item.current (outside.top_here b view arrivals (progress_in b) count state s here t item.current) c.free item.frame item.outer item.frames item.inside
      item.place item.context entered (item.frame ∷ item.outer) call.some (entered_stands e) meant (ap result_register call.is)
      (code.stepped b view m s2 here.fits stands item.frame.func item.frame.item call.placed c.done c.pc before (jumps_away from size to) [] expanded_so (behind_store size ∙ sym e) next
      (jump_performs offset (Encode (jumps_away from size to)) (omega arith) to_end))
      (code.untouched b view m s2 here.fits stands item.frame.func item.frame.item call.placed c.done c.pc before (jumps_away from size to) [] expanded_so (behind_store size ∙ sym e)
      (jump_quiet (memory_base + offset))))
      call.placed (outside.last_at b view arrivals (progress_in b) count state s here item.frame.func item.frame.item c.done c.pc (omega arith))
      (λ address. call_mark b item.frame.func item.frame.item c.callee address (operation b.app item.frame.func item.frame.item) call.is)
      (last_passed b view arrivals count state s here t item.current item.frame item.outer item.frames c.free c.done c.pc (omega arith) item.inside)

  -- each further one
  pub call_goes_on : GoesOutside b view arrivals (progress_in b) count state s
  call_goes_on =
      let some = c.some in
      let within = c.within in
      ⊎_elim (λ (l : c.done < size + 1). clear_goes (c.done - 1) (omega arith) (omega arith))
      (λ (l : size + 1 ≤ c.done).
      ⊎_elim (λ (d : c.done < size + 2). link_goes (omega arith))
      (λ (d : size + 2 ≤ c.done).
      ⊎_elim (λ (g : c.done < size + 3). store_goes (omega arith)) (λ (g : size + 3 ≤ c.done). jump_goes (omega arith)) (cases_lt c.done (size + 3)))
      (cases_lt c.done (size + 2)))
      (cases_lt c.done (size + 1))
