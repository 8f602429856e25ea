-- The jump to a service that has no mask.
use Rattle.std.proofs.Common.{◌≡◌, ℕ, ◌+◌, ◌*◌, ◌%◌, ◌<◌, List, [], ◌∷◌, ◌++◌, length, set, refl, sym, ap, ◌∙◌, subst, arith, inl, inr, None, ⊎_elim, ◌≤◌}
use Rattle.std.proofs.lemmas.List.{get_or-set_same, get_or-set_other, length-set}
use Rattle.sloth_base.specs.declared.service.Arrival.{Arrival}
use Rattle.sloth_base.specs.Machine.{State}
use Rattle.rv32_instr.specs.declared.InstrKind.TheVariants.{Jal}
use Rattle.sloth_base.specs.Arithmetic.{plus}
use Rattle.rv32_instr.specs.Execute.{Going, step, touched, touched_line_by, perform, next_at_target}
use Rattle.masked_code.specs.Place.{offset_state}
use Rattle.masked_code.proofs.Machine.{Here, step_at, touched_at, jump_at}
use Rattle.rv32_expand.specs.Expansion.{item_address, block_address, mask_of, distance, is_long, operation_code, expansion}
use Rattle.sloth_base.specs.Named.{operation}
use Rattle.rv32_expand.specs.InPlace.{item_mark, last_address, mark_kind}
use Rattle.sloth_base.specs.declared.image.Mark.{Mark}
use Rattle.sloth_base.specs.declared.app.Call.{Call}
use Rattle.sloth_base.specs.declared.app.Op.TheVariants as op
use Rattle.sloth_base.specs.MemoryMap.{memory_base}
use Rattle.observe.specs.Observe.{View, mark_at, events_of_kind}
use Rattle.osek_scheduler.specs.State.{System}
use Rattle.sim_induction.specs.PieceLaws.{seen_step_at}
use Rattle.sim_relation.specs.Build.{Build}
use Rattle.sim_relation.specs.Stands.{Stands}
use Rattle.sim_items.specs.Place.{AtItem, HasInstruction, HasInstructions, ItemStands}
use Rattle.sim_items.specs.Outside.{StandsAt, GoesOutside, JumpsToService}
use Rattle.sim_items.specs.Progress.{progress_in}
use Rattle.sim_items.proofs.Distances.{arrives}
use Rattle.sim_items.proofs.InRam.{code_here}
use Rattle.sim_items.proofs.Passing.{Passes, passes_stand, at_none, word_same, progress_now, progress_next}
use Rattle.sim_items.proofs.Scratch.{SameRegisters, scratch_passes}
use Rattle.sim_items.proofs.Outside as outside

-- a call without a mask is one jump
pub call_expands : (b : Build) (func item : ℕ) (call : Call) → operation b.app func item ≡ op.Serve call → mask_of call.service call.mask ≡ []
    → expansion b.app b.places func item ≡ Jal 31 (distance (item_address b.places func item) (block_address b.places call.service call.object)) ∷ []
call_expands b func item call is plain =
    let address = item_address b.places func item in
    let target = block_address b.places call.service call.object in
    let zero : address + 4 * 0 ≡ address = omega arith in
    ap (λ o. operation_code b.app b.places func address (is_long b.places func item) o) is
    ∙ ap (λ m. m ++ (Jal 31 (distance (address + 4 * length m) target) ∷ [])) plain
    ∙ ap (λ a. Jal 31 (distance a target) ∷ []) zero

module _ (b : Build) (view : View) (arrivals : List Arrival) (count : ℕ) (state : State) (s : System) (here : StandsAt b view arrivals count state s)
    (t : ℕ) (item : AtItem b (outside.n b view arrivals (progress_in b) count state s here) (outside.s1 b view arrivals (progress_in b) count state s here) t)
    (placed : ItemStands b view item.frame.func item.frame.item) (jump : JumpsToService b item.frame.func item.frame.item) where
  abbrev n : State
  n = outside.n b view arrivals (progress_in b) count state s here

  abbrev s1 : System
  s1 = outside.s1 b view arrivals (progress_in b) count state s here

  now : Stands b n s1
  now = outside.now b view arrivals (progress_in b) count state s here

  abbrev address : ℕ
  address = item_address b.places item.frame.func item.frame.item

  abbrev target : ℕ
  target = block_address b.places jump.call.service jump.call.object

  -- the jump is all of the item
  expands : expansion b.app b.places item.frame.func item.frame.item ≡ Jal 31 (distance address target) ∷ []
  expands = call_expands b item.frame.func item.frame.item jump.call jump.is jump.no_mask

  instruction : HasInstruction b address (Jal 31 (distance address target))
  instruction = (subst (HasInstructions b address) expands placed.code).0

  one : length (expansion b.app b.places item.frame.func item.frame.item) ≡ 1
  one = ap length expands

  -- it has one instruction, so none of it is done
  pc_is : n.pc ≡ address
  pc_is = let p = item.here.pc in let w = item.here.within in let o = one in omega arith

  abbrev offset : ℕ
  offset = instruction.offset

  abbrev link : ℕ
  link = (memory_base + offset + 4) % 4294967296

  abbrev next : State
  next = offset_state jump.block (record n.core { registers = set n.core.registers 31 link })

  code : Here n.core.ram offset (Jal 31 (distance address target))
  code = code_here b n s1 address (Jal 31 (distance address target)) now instruction

  n_is : n ≡ offset_state offset n.core
  n_is = ap (λ p. record { pc = p; core = n.core }) (pc_is ∙ instruction.is)

  arrives_there : plus (memory_base + offset) (distance address target) ≡ memory_base + jump.block
  arrives_there =
      let l = code.1 in
      let i = jump.in_ram in
      let e = jump.block_is in
      ap (λ p. plus p (distance address target)) (sym instruction.is)
      ∙ arrives address target (let a = instruction.is in omega arith) (omega arith) ∙ e

  aligned : jump.block % 4 ≡ 0
  aligned = let f = here.fits.blocks item.frame.func item.frame.item jump.call jump.is in let e = jump.block_is in omega arith

  stepped : step n ≡ Going next
  unfolding perform
  stepped =
      ap step n_is ∙ step_at offset n.core (Jal 31 (distance address target)) code
      ∙ ap (λ p. next_at_target p (record n.core { registers = set n.core.registers 31 link })) arrives_there
      ∙ jump_at jump.block (record n.core { registers = set n.core.registers 31 link }) aligned

  untouched : touched n ≡ None
  unfolding touched_line_by
  untouched = ap touched n_is ∙ touched_at offset n.core (Jal 31 (distance address target)) code.0

  last_is : last_address b.app b.places item.frame.func item.frame.item ≡ address
  last_is = let l = one in omega arith

  linked : link ≡ address + 4 * length (expansion b.app b.places item.frame.func item.frame.item)
  linked = let a = instruction.is in let c = one in let l = code.1 in omega arith

  no_words : length (mask_of jump.call.service jump.call.mask) ≡ 0
  no_words = ap length jump.no_mask

  same : SameRegisters n.core.registers (set n.core.registers 31 link)
  same = record { long = length-set n.core.registers 31 link; same = λ i l. get_or-set_other n.core.registers 31 i link 0 (λ e. omega arith) }

  passes : Passes b n next s1 t
  passes = scratch_passes b n s1 t now item jump.block (set n.core.registers 31 link) same (inr (record {
    call = jump.call;
    is = jump.is;
    pc = sym jump.block_is;
    returns = get_or-set_same n.core.registers 31 link 0 (let l = now.fixed.registers in omega arith) ∙ linked;
    mask = λ e. let z = no_words in absurd (omega arith);
  }))

  stands_next : Stands b next s1
  stands_next = passes_stand b view arrivals count state s here t item.current item.frame item.outer item.frames item.free next passes

  abbrev size : ℕ
  size = length (expansion b.app b.places item.frame.func item.frame.item)

  rises : progress_in b state s < progress_in b next s1
  rises =
      let first : progress_in b state s ≡ item.here.done =
      progress_now b view arrivals count state s here t item.current item.frame item.outer item.frames item.free item.here.done item.here.pc item.here.within in
      let last : progress_in b next s1 ≡ size =
      progress_next b view arrivals count state s here t item.current item.frame item.outer item.frames item.free next passes
      ∙ at_none address size (memory_base + jump.block)
      (⊎_elim (λ (l : memory_base + jump.block < address). inl l) (λ (l : address + 4 ≤ memory_base + jump.block). inr (let c = one in omega arith)) jump.apart) in
      let w = item.here.within in
      let o = one in
      omega arith

  abbrev mark : Mark
  mark = item_mark b.app b.places item.frame.func item.frame.item

  pub jump_outside : GoesOutside b view arrivals (progress_in b) count state s
  jump_outside = (
    next,
    outside.one_instruction b view arrivals (progress_in b) count state s here next [] s1 stepped untouched
        (outside.marked_shows b view arrivals (progress_in b) count state s here next mark [] (ap (mark_at view) (pc_is ∙ sym last_is) ∙ placed.marked)
        (ap (λ o. events_of_kind (mark_kind o) view mark (seen_step_at (outside.given b view arrivals (progress_in b) count state s here) count state next)) jump.is))
        refl rises
        (word_same b view arrivals count state s here t item.current item.frame item.outer item.frames item.free next passes)
        stands_next,
  )
