-- The stretch of WaitEvent, whatever lines arrive.
use Rattle.std.proofs.Common.{◌≡◌, ◌≢◌, ℕ, zero, suc, ◌+◌, ◌-◌, ◌*◌, ◌<◌, ◌≤◌, List, [], ◌∷◌, length, refl, sym, subst, arith, ⊎_elim, inl, inr}
use Rattle.std.specs.Prelude.{◌⊎◌, slice_index}
use Rattle.sloth_base.specs.declared.service.Arrival.{Arrival}
use Rattle.sloth_base.specs.declared.service.Service.TheVariants as service
use Rattle.sloth_base.specs.Arrive.{state_arrive}
use Rattle.sloth_base.specs.Machine.{State}
use Rattle.sloth_base.specs.MemoryMap.{memory_base}
use Rattle.sim_routines.proofs.Touching.{touches_none}
use Rattle.sloth_region.specs.Layout.{context_bytes}
use Rattle.rv32_instr.specs.declared.InstrKind.{InstrKind}
use Rattle.rv32_machine.specs.Run.{state_with_arrivals}
use Rattle.observe.specs.Observe.{View}
use Rattle.service_gen.specs.WaitEvent.{IsWaitEventCode, HasNotWaited, HasWaited, WaitEventEffect, MayWait, set_of, wait_length}
use Rattle.osek_scheduler.specs.State.{System, task}
use Rattle.sim_induction.specs.Admits.{IsSetting, lines_at, with_admits}
use Rattle.sim_relation.specs.Build.{Build, HasFittingPlaces}
use Rattle.sim_relation.specs.Context.{IsContextChain, RunsTask, RunsFirst}
use Rattle.sim_relation.specs.Placed.{IsPlaced, setting_of}
use Rattle.sim_relation.specs.Position.{thread_of, thread_at}
use Rattle.sim_relation.specs.Stands.{Stands, AreFalling, AreActive, StacksApart}
use Rattle.sim_relation.proofs.Contexts.{context_below}
use Rattle.sim_relation.proofs.Placed.{first_by_word}
use Rattle.sim_relation.proofs.Tops.{falling_head, is_in-head, below_other}
use Rattle.sim_relation.proofs.Codes.{code_apart}
use Rattle.sim_routines.proofs.Servable.{CanServe}
use Rattle.sim_routines.specs.Stretch.{HasStretch}
use Rattle.sim_routines.proofs.GoingOnStretch.{going_on_stretches}
use Rattle.sim_routines.proofs.ServiceStretch.{k}
use Rattle.sim_routines.specs.EventServiceSteps.{MayWaitAt}
use Rattle.sim_routines.specs.EventStretch.{OpensWaitEvent}
use Rattle.sim_routines.specs.ServiceSteps.{MayGoOn}
use Rattle.sim_routines.proofs.Waiting.{gone, wait_answers}
use Rattle.sim_routines.proofs.Weighing.{either_within, gone_within}

-- where a chain begins, apart from what lies in the part of a task that is not in it
chain_apart : (b : Build) (ram : List ℕ) (s : System) (t : ℕ) (below : List ℕ) (place own : ℕ) → HasFittingPlaces b → StacksApart b s → AreFalling b s (t ∷ below)
    → b.low t ≤ own → own + context_bytes ≤ b.top t → IsContextChain b ram s below place → (own + context_bytes ≤ place) ⊎ (place + context_bytes ≤ own)
chain_apart b ram s t [] place own fits apart f l h c =
    let p = c.is in let g = fits.from t f.declared in inr (omega arith)
chain_apart b ram s t (u ∷ below) place own fits apart f l h c =
    let here = falling_head b s t (u ∷ below) f in
    let there = falling_head b s u below f.2 in
    let low = c.0.context.room in
    let top = context_below b ram u (task s u) (thread_at ram place) (place + context_bytes) c.0.context in
    ⊎_elim (λ (z : b.top t ≤ b.low u). inl (omega arith)) (λ (z : b.top u ≤ b.low t). inr (omega arith))
    (apart t u here.declared there.declared (λ e. below_other b s t (u ∷ below) f u (is_in-head u below) (sym e)) (inl here.active) (inl there.active))

-- where one of the events is set, and at most
going_few : (some : ℕ) → some ≢ 0 → wait_length some ≤ 12
going_few zero h = absurd (h refl)
going_few (suc some) h = omega arith

wait_few : (some : ℕ) → wait_length some ≤ 85
wait_few zero = omega arith
wait_few (suc some) = omega arith

-- the offset of the context that is kept directly below x2
abbrev kept_at : State → ℕ
kept_at state = slice_index state.core.registers 2 - (memory_base + context_bytes)

-- the machine is as the contract asks, with the task's own context directly below x2
module _ (b : Build) (state : State) (s : System) (t offset place : ℕ) (code : List InstrKind) (fits : HasFittingPlaces b) (stands : Stands b state s) (some : 0 < length code)
    (placed : IsPlaced b offset code) (can : CanServe offset code t place state.core) where
  module _ (below : List ℕ) (stack_is : stands.stack ≡ t ∷ below) where
    may_wait_below : MayWait offset t place (kept_at state) code state.core
    may_wait_below =
        let active : AreActive b s (t ∷ below) = subst (AreActive b s) stack_is stands.active in
        let run : RunsTask b state s t below = subst (RunsFirst b state s) stack_is stands.running in
        let here = falling_head b s t below active.falling in
        let x = run.context.x2 in
        let r = run.context.room in
        let a = run.context.aligned in
        let d = here.declared in
        let w = fits.from t d in
        let z = fits.to t d in
        let link = run.link in
        let is = can.below.is in
        let same : run.next ≡ place = omega arith in
        let top = context_below b state.core.ram t (task s t) (thread_of state) run.place run.context in
        let kept : ℕ = kept_at state in
        record {
          goes_back = can.goes_back;
          runs = can.current;
          is_task = can.is_task;
          below = can.below;
          x2 = omega arith;
          aligned = omega arith;
          behind = omega arith;
          inside = omega arith;
          apart = chain_apart b state.core.ram s t below place kept fits stands.apart active.falling (omega arith) (omega arith)
              (subst (IsContextChain b state.core.ram s below) same run.chain);
          code_apart = ⊎_elim (λ (v : b.top t ≤ offset). inl (omega arith)) (λ (v : offset + 4 * length code ≤ b.low t). inr (omega arith))
              (code_apart b t offset code fits d (omega arith) some placed);
        }

  may_wait : MayWait offset t place (kept_at state) code state.core
  may_wait = let f = first_by_word b state s t stands.stack stands.running can.current in may_wait_below f.0 f.1

pub wait_stretches : (b : Build) (view : View) (arrivals : List Arrival) (count : ℕ) (state : State) (s : System) (t : ℕ)
    → HasFittingPlaces b → IsSetting (setting_of b view arrivals) → 0 < count → Stands b state s
    → OpensWaitEvent b view (state_with_arrivals arrivals count state) (with_admits (lines_at arrivals count) s) t → HasStretch b view arrivals count state s
wait_stretches b view arrivals count state s t fits setting after_boot stands o =
    let n = state_with_arrivals arrivals count state in
    let s1 = with_admits (lines_at arrivals count) s in
    let opens = o.goes_on.opens in
    let block = opens.block in
    let there = k b view arrivals count state s t service.WaitEvent (λ object. IsWaitEventCode) fits setting after_boot stands opens block.serves.masks in
    let some : 0 < length block.code = subst (λ (c : List InstrKind). 0 < length c) (sym block.serves.masks.1) (omega arith) in
    let found : (place : ℕ) → CanServe block.offset block.code t place n.core → MayWait block.offset t place (kept_at n) block.code n.core =
    λ place can. may_wait b n s1 t block.offset place block.code fits there some block.placed can in
    let object = opens.opening.block.call.object in
    let may_at : (place : ℕ) (lines : List ℕ) (s2 : System) → CanServe block.offset block.code t place n.core → MayGoOn b (state_arrive lines n) s2 t (task s1 t) service.WaitEvent object
    → MayWaitAt b (state_arrive lines n) s2 t (task s1 t) object place (kept_at n) =
    λ place lines s2 can may. record {
      goes_on = may;
      holds_nothing = o.holds_nothing;
      below = can.below.is;
      x2 = (found place can).x2;
      words = o.words;
    } in
    going_on_stretches b view arrivals count state s t service.WaitEvent (λ object. IsWaitEventCode) fits setting after_boot stands o.goes_on block.serves.masks
    (wait_length (set_of t n.core)) (let few = wait_few (set_of t n.core) in omega (arith, few)) (λ place. WaitEventEffect t place (kept_at n)) (λ place touched from to e. touches_none b touched e.touches)
    (λ place can. block.serves.runs block.offset t place (kept_at n) n.core (found place can))
    (λ place lines touched s2 end can may effect.
    wait_answers b (state_arrive lines n) s2 t (task s1 t) object place (kept_at n) touched end fits (may_at place lines s2 can may) effect)
    (λ place lines touched s2 end can may effect answer.
    let most = wait_length (set_of t n.core) in
    ⊎_elim
    (λ (h : HasNotWaited t (state_arrive lines n) end).
    let few = going_few (set_of t n.core) h.one_set in either_within b t service.WaitEvent most s2 touched end (omega (arith, few)) (omega (arith, few)))
    (λ (h : HasWaited t place (kept_at n) (state_arrive lines n) end).
    let few = wait_few (set_of t n.core) in
    gone_within b t service.WaitEvent most s2 touched end
    (gone b (state_arrive lines n) s2 t (task s1 t) object place (kept_at n) touched end fits (may_at place lines s2 can may) effect h) (omega (arith, few)))
    effect.done)
