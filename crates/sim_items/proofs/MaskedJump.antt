-- A call of a service with a mask of events: the mask in its register, and the jump.
use Rattle.std.proofs.Common.{◌≡◌, ℕ, zero, suc, ◌+◌, ◌*◌, ◌%◌, ◌<◌, ◌≤◌, List, [], ◌∷◌, ◌++◌, length, set, refl, sym, ap, ◌∙◌, subst, arith, inl, inr, None, ⊎_elim, Bool}
use Rattle.std.specs.Prelude.{slice_index}
use Rattle.std.proofs.lemmas.Bool.{cases_lt}
use Rattle.std.proofs.lemmas.List.{get_or-set_same, get_or-set_other, length-set}
use Rattle.sloth_base.specs.Arithmetic.{hi, lo, plus}
use Rattle.sloth_base.specs.Machine.{State}
use Rattle.sloth_base.specs.declared.app.Op.{Op}
use Rattle.sloth_base.specs.declared.app.Op.TheVariants as op
use Rattle.sloth_base.specs.declared.service.Arrival.{Arrival}
use Rattle.sloth_base.specs.declared.image.Mark.{Mark}
use Rattle.code_rules.specs.AppRange.{IsRegister}
use Rattle.sloth_base.specs.MemoryMap.{memory_base, memory_bytes}
use Rattle.rv32_instr.specs.Effect.{effect}
use Rattle.rv32_instr.specs.Encode.{Encode}
use Rattle.rv32_instr.specs.Execute.{Going, step, touched, touched_line_by, perform, next_at_target}
use Rattle.rv32_instr.specs.declared.InstrKind.{InstrKind}
use Rattle.rv32_instr.specs.declared.InstrKind.TheVariants.{Lui, Addi, Jal}
use Rattle.rv32_instr.specs.declared.encoding.Effect.TheVariants.{Write}
use Rattle.masked_code.specs.Place.{offset_state}
use Rattle.masked_code.proofs.Machine.{jump_at}
use Rattle.masked_code.proofs.Parts.{hi_lo}
use Rattle.rv32_expand.specs.Expansion.{item_address, block_address, distance, is_long, operation_code, expansion}
use Rattle.rv32_expand.specs.InPlace.{item_mark, last_address, mark_kind}
use Rattle.observe.specs.Observe.{View, mark_at, events_of_kind}
use Rattle.osek_scheduler.specs.State.{System, task}
use Rattle.osek_scheduler.specs.Meaning.{register}
use Rattle.sim_induction.specs.PieceLaws.{seen_step_at}
use Rattle.sim_relation.specs.Build.{Build}
use Rattle.sim_relation.specs.Position.{HasMask, HasScratch, thread_of}
use Rattle.sim_relation.specs.Stands.{Stands}
use Rattle.sim_items.specs.Place.{AtItem, ItemStands}
use Rattle.sim_items.specs.Outside.{StandsAt, GoesOutside, JumpsWithMask}
use Rattle.sim_items.specs.Progress.{progress_in}
use Rattle.sim_items.proofs.Distances.{arrives}
use Rattle.sim_items.proofs.InRam as code
use Rattle.sim_items.proofs.Inner.{prepared_outside}
use Rattle.sim_items.proofs.Passing.{Passes, passes_stand, at_none, word_same, progress_now, progress_next}
use Rattle.sim_items.proofs.Preparing.{Prepares, prepares}
use Rattle.sim_items.proofs.Registers.{own_agrees}
use Rattle.sim_items.proofs.Scratch.{SameRegisters, scratch_passes}
use Rattle.sim_items.proofs.Outside as outside

module _ (b : Build) (view : View) (arrivals : List Arrival) (count : ℕ) (state : State) (s : System) (here : StandsAt b view arrivals count state s)
    (t : ℕ) (item : AtItem b (outside.n b view arrivals (progress_in b) count state s here) (outside.s1 b view arrivals (progress_in b) count state s here) t)
    (placed : ItemStands b view item.frame.func item.frame.item) (jump : JumpsWithMask b item.frame.func item.frame.item) where
  abbrev n : State
  n = outside.n b view arrivals (progress_in b) count state s here

  abbrev s1 : System
  s1 = outside.s1 b view arrivals (progress_in b) count state s here

  now : Stands b n s1
  now = outside.now b view arrivals (progress_in b) count state s here

  abbrev x : List ℕ
  x = n.core.registers

  abbrev own : List ℕ
  own = (task s1 t).registers

  abbrev address : ℕ
  address = item_address b.places item.frame.func item.frame.item

  abbrev long : Bool
  long = is_long b.places item.frame.func item.frame.item

  abbrev mask : ℕ
  mask = jump.call.mask

  abbrev this : Op
  this = op.Serve jump.call

  abbrev target : ℕ
  target = block_address b.places jump.call.service jump.call.object

  abbrev expansion_of : Op → List InstrKind
  expansion_of o = operation_code b.app b.places item.frame.func address long o

  abbrev first : InstrKind
  first = Lui 30 (hi mask)

  abbrev second : InstrKind
  second = Addi 30 30 (lo mask)

  abbrev jumps_there : InstrKind
  jumps_there = Jal 31 (distance (address + 8) target)

  expands : expansion_of this ≡ first ∷ second ∷ jumps_there ∷ []
  expands = ap (λ m. m ++ (Jal 31 (distance (address + 4 * length m) target) ∷ [])) jump.has_mask

  item_expands : expansion b.app b.places item.frame.func item.frame.item ≡ first ∷ second ∷ jumps_there ∷ []
  item_expands = ap (λ o. expansion_of o) jump.is ∙ expands

  abbrev size : ℕ
  size = length (expansion b.app b.places item.frame.func item.frame.item)

  three : size ≡ 3
  three = ap (λ (c : List InstrKind). length c) item_expands

  agree : (r : ℕ) → IsRegister r → slice_index x r ≡ register own r
  agree = own_agrees x own now.fixed.zero item.context.registers

  scratch : HasMask mask item.here.done (thread_of n)
  scratch = subst (λ o. HasScratch b own item.frame o item.here.done (thread_of n)) jump.is item.here.scratch

  -- ---- the two instructions of the mask

  inner : (done : ℕ) → HasMask mask done (thread_of n) → done + 1 < length (expansion_of this) → Prepares b n own item.frame long this done
  inner zero h l =
      prepares b n own item.frame long now.fixed.registers agree this 0 [] first (second ∷ jumps_there ∷ []) expands refl l 30 (hi mask * 4096) (omega arith) (omega arith) (λ pc. refl)
      (λ th k. record { upper = λ c. k.is; whole = λ c. absurd (omega arith) })
  inner (suc zero) h l =
      prepares b n own item.frame long now.fixed.registers agree this 1 (first ∷ []) second (jumps_there ∷ []) expands refl l 30 mask (omega arith) (omega arith)
      (λ pc. ap (λ v. Write 30 (plus v (lo mask))) (h.upper refl) ∙ ap (λ v. Write 30 v) (hi_lo mask jump.is_word))
      (λ th k. record { upper = λ c. absurd (omega arith); whole = λ c. k.is })
  inner (suc (suc done)) h l = let e = ap (λ (c : List InstrKind). length c) expands in absurd (omega arith)

  inner_outside : item.here.done + 1 < size → GoesOutside b view arrivals (progress_in b) count state s
  inner_outside more =
      prepared_outside b view arrivals count state s here t item placed
      (subst (λ o. Prepares b n own item.frame long o item.here.done) (sym jump.is)
      (inner item.here.done scratch (subst (λ o. item.here.done + 1 < length (expansion_of o)) jump.is more)))

  -- ---- the jump

  module _ (two : item.here.done ≡ 2) where
    abbrev before : List InstrKind
    before = first ∷ second ∷ []

    reached : length before ≡ item.here.done
    reached = sym two

    abbrev offset : ℕ
    offset = code.offset b view n s1 here.fits now item.frame.func item.frame.item placed item.here.done item.here.pc before jumps_there [] item_expands reached

    offset_is : memory_base + offset ≡ address + 4 * item.here.done
    offset_is = code.offset_is b view n s1 here.fits now item.frame.func item.frame.item placed item.here.done item.here.pc before jumps_there [] item_expands reached

    inside : offset + 4 ≤ memory_bytes
    inside = code.offset_inside b view n s1 here.fits now item.frame.func item.frame.item placed item.here.done item.here.pc before jumps_there [] item_expands reached

    abbrev link : ℕ
    link = (memory_base + offset + 4) % 4294967296

    abbrev next : State
    next = offset_state jump.block (record n.core { registers = set x 31 link })

    here_is : memory_base + offset ≡ address + 8
    here_is = let o = offset_is in let d = two in omega arith

    arrives_there : plus (memory_base + offset) (distance (address + 8) target) ≡ memory_base + jump.block
    arrives_there =
        let l = inside in
        let h = here_is in
        let i = jump.in_ram in
        let e = jump.block_is in
        ap (λ p. plus p (distance (address + 8) target)) here_is ∙ arrives (address + 8) target (omega arith) (omega arith) ∙ e

    aligned : jump.block % 4 ≡ 0
    aligned = let f = here.fits.blocks item.frame.func item.frame.item jump.call jump.is in let e = jump.block_is in omega arith

    performs : perform (effect jumps_there (memory_base + offset) x) (Encode jumps_there) (memory_base + offset) n.core ≡ Going next
    unfolding perform
    performs =
        ap (λ p. next_at_target p (record n.core { registers = set x 31 link })) arrives_there
        ∙ jump_at jump.block (record n.core { registers = set x 31 link }) aligned

    quiet : touched_line_by (effect jumps_there (memory_base + offset) x) ≡ None
    unfolding touched_line_by
    quiet = refl

    stepped : step n ≡ Going next
    stepped =
        code.stepped b view n s1 here.fits now item.frame.func item.frame.item placed item.here.done item.here.pc before jumps_there [] item_expands reached next performs

    untouched : touched n ≡ None
    untouched =
        code.untouched b view n s1 here.fits now item.frame.func item.frame.item placed item.here.done item.here.pc before jumps_there [] item_expands reached quiet

    last_is : last_address b.app b.places item.frame.func item.frame.item ≡ address + 4 * item.here.done
    last_is = let l = three in let d = two in omega arith

    linked : link ≡ address + 4 * size
    linked = let a = here_is in let c = three in let l = inside in omega arith

    same : SameRegisters x (set x 31 link)
    same = record { long = length-set x 31 link; same = λ i l. get_or-set_other x 31 i link 0 (λ e. omega arith) }

    passes : Passes b n next s1 t
    passes = scratch_passes b n s1 t now item jump.block (set x 31 link) same (inr (record {
      call = jump.call;
      is = jump.is;
      pc = sym jump.block_is;
      returns = get_or-set_same x 31 link 0 (let l = now.fixed.registers in omega arith) ∙ linked;
      mask = λ e. get_or-set_other x 31 30 link 0 (λ e. omega arith) ∙ scratch.whole two;
    }))

    stands_next : Stands b next s1
    stands_next = passes_stand b view arrivals count state s here t item.current item.frame item.outer item.frames item.free next passes

    rises : progress_in b state s < progress_in b next s1
    rises =
        let now_is : progress_in b state s ≡ item.here.done =
        progress_now b view arrivals count state s here t item.current item.frame item.outer item.frames item.free item.here.done item.here.pc item.here.within in
        let last : progress_in b next s1 ≡ size =
        progress_next b view arrivals count state s here t item.current item.frame item.outer item.frames item.free next passes
        ∙ at_none address size (memory_base + jump.block)
        (⊎_elim (λ (l : memory_base + jump.block < address). inl l) (λ (l : address + 12 ≤ memory_base + jump.block). inr (let c = three in omega arith)) jump.apart) in
        let d = two in
        let c = three in
        omega arith

    abbrev mark : Mark
    mark = item_mark b.app b.places item.frame.func item.frame.item

    jump_outside : GoesOutside b view arrivals (progress_in b) count state s
    jump_outside = (
      next,
      outside.one_instruction b view arrivals (progress_in b) count state s here next [] s1 stepped untouched
          (outside.marked_shows b view arrivals (progress_in b) count state s here next mark [] (ap (mark_at view) (item.here.pc ∙ sym last_is) ∙ placed.marked)
          (ap (λ o. events_of_kind (mark_kind o) view mark (seen_step_at (outside.given b view arrivals (progress_in b) count state s here) count state next)) jump.is))
          refl rises
          (word_same b view arrivals count state s here t item.current item.frame item.outer item.frames item.free next passes)
          stands_next,
    )

  pub masked_outside : GoesOutside b view arrivals (progress_in b) count state s
  masked_outside =
      ⊎_elim
      (λ (l : item.here.done + 1 < size). inner_outside l)
      (λ (l : size ≤ item.here.done + 1). let w = item.here.within in let c = three in jump_outside (omega arith))
      (cases_lt (item.here.done + 1) size)
