-- Where a task and its calls stand, by the relation.
use Rattle.std.proofs.Common.{◌≡◌, inl, inr, ◌⊎◌, ⊎_elim, ℕ, ◌+◌, ◌*◌, ◌<◌, ◌≤◌, List, [], ◌∷◌, length, true, false, sym, ◌∙◌, ap, subst, arith}
use Rattle.sloth_base.specs.Named.{function, operation}
use Rattle.sloth_base.specs.declared.app.Call.{Call}
use Rattle.sloth_base.specs.declared.app.Op.{Op}
use Rattle.sloth_base.specs.declared.app.Op.TheVariants as op
use Rattle.rv32_expand.specs.Expansion.{block_address, expansion, is_long, item_address, operation_code}
use Rattle.rv32_expand.proofs.Counts.{calls_length}
use Rattle.osek_scheduler.specs.State.{Frame, Task}
use Rattle.sim_relation.specs.Build.{Build}
use Rattle.sim_relation.specs.Position.{AreFrames, AreOuterFrames, AtBlock, HasScratch, InExpansion, IsCalling, IsOwing, IsPosition, IsReturning, IsStanding, Thread}
use Rattle.debug_view.specs.TaskRegisters.{AreCalls, AreOuterCalls, HasCalls, IsOutsideCall}

-- one of the item's instructions, the code of the service that it calls, or the way back from Schedule
abbrev pub IsAtPlace : Build → Task → Frame → ℕ → Type 0
IsAtPlace b own frame pc =
    ((item_address b.places frame.func frame.item ≤ pc)
    × (pc < item_address b.places frame.func frame.item + 4 * length (expansion b.app b.places frame.func frame.item)))
    ⊎ (((call : Call) × (operation b.app frame.func frame.item ≡ op.Serve call) × (pc ≡ block_address b.places call.service call.object))
    ⊎ ((own.owed ≡ true) × (pc ≡ b.back)))

-- frames that stand are calls that stand
outer_calls : (b : Build) (ram : List ℕ) (outer : List Frame) (place top : ℕ) → AreOuterFrames b ram outer place top → AreOuterCalls b.app b.places ram outer place top
outer_calls b ram [] place top h = h
outer_calls b ram (frame ∷ outer) place top h = (h.0, h.2, outer_calls b ram outer (place + 4 + 4 * length frame.words) top h.3)

pub calls : (b : Build) (ram : List ℕ) (frame : Frame) (outer : List Frame) (place top : ℕ) → AreFrames b ram frame outer place top
    → AreCalls b.app b.places ram frame outer place top
calls b ram frame outer place top h = (h.1, outer_calls b ram outer (place + 4 * length frame.words) top h.2)

module _ (b : Build) (ram : List ℕ) (t : ℕ) (own : Task) (th : Thread) (place : ℕ) where
  -- behind so many of its instructions
  inside : (frame : Frame) (done : ℕ) → th.pc ≡ item_address b.places frame.func frame.item + 4 * done
      → done < length (expansion b.app b.places frame.func frame.item) → IsAtPlace b own frame th.pc
  inside frame done is within = inl (omega (arith, is), omega (arith, is, within))

  size : (frame : Frame) (o : Op) → operation b.app frame.func frame.item ≡ o → length (expansion b.app b.places frame.func frame.item)
      ≡ length (operation_code b.app b.places frame.func (item_address b.places frame.func frame.item) (is_long b.places frame.func frame.item) o)
  size frame o is =
      ap (λ o. length (operation_code b.app b.places frame.func (item_address b.places frame.func frame.item) (is_long b.places frame.func frame.item) o)) is

  by_standing : (frame : Frame) → InExpansion b own frame th ⊎ AtBlock b frame th → IsAtPlace b own frame th.pc
  by_standing frame (inl e) = inside frame e.done e.pc e.within
  by_standing frame (inr a) = inr (inl (a.call, a.is, a.pc))

  by_calling : (frame : Frame) (outer : List Frame) → IsCalling b ram (b.top t) own frame outer th place → IsAtPlace b own frame th.pc
  by_calling frame outer c =
      let many = size frame (op.Invoke c.callee) c.is
      ∙ calls_length (item_address b.places frame.func frame.item) (function b.app c.callee).frame_words (item_address b.places c.callee 0) in
      let l = c.within in
      inside frame c.done c.pc (omega (arith, many, l))

  by_returning : (frame : Frame) (outer : List Frame) → IsReturning b ram (b.top t) own frame outer th place → IsAtPlace b own frame th.pc
  by_returning frame outer r =
      let many : length (expansion b.app b.places frame.func frame.item) ≡ 3 = size frame op.Return r.is in
      ⊎_elim (λ h. (let is = h.0 in inside frame 1 (omega (arith, is)) (omega (arith, many)))) (λ h. (let is = h.0 in inside frame 2 (omega (arith, is)) (omega (arith, many)))) r.here

  by_place : (frame : Frame) (outer : List Frame)
      → (IsStanding b ram (b.top t) own frame outer th place ⊎ (IsOwing b ram t own frame outer th place
      ⊎ (IsCalling b ram (b.top t) own frame outer th place ⊎ IsReturning b ram (b.top t) own frame outer th place)))
      → IsAtPlace b own frame th.pc
  by_place frame outer (inl h) = by_standing frame h.here
  by_place frame outer (inr (inl h)) = inr (inr (h.owes, h.pc))
  by_place frame outer (inr (inr (inl h))) = by_calling frame outer h
  by_place frame outer (inr (inr (inr h))) = by_returning frame outer h

  pub at_item : (frame : Frame) (outer : List Frame) → IsPosition b ram t own th place → own.frames ≡ frame ∷ outer → IsAtPlace b own frame th.pc
  at_item frame outer h begun =
      let same : h.frame ≡ frame = (let e = sym h.frames ∙ begun in cc) in
      subst (λ f. IsAtPlace b own f th.pc) same (by_place h.frame h.outer h.here)

  abbrev HasCallsHere : Frame → List Frame → Type 0
  HasCallsHere frame outer = HasCalls b.app b.places ram own frame outer th.pc place (b.top t)

  -- at an item's instructions or its service's block
  outside_by_standing : (frame : Frame) → InExpansion b own frame th ⊎ AtBlock b frame th → IsOutsideCall b.app b.places own frame th.pc
  outside_by_standing frame (inl e) =
      let at = e.pc in
      inr (
        (λ callee is. (let none : e.done ≡ 0 = subst (λ o. HasScratch b own.registers frame o e.done th) is e.scratch in omega (arith, at, none))),
        (λ is. (let none : e.done ≡ 0 = subst (λ o. HasScratch b own.registers frame o e.done th) is e.scratch in omega (arith, at, none))),
      )
  outside_by_standing frame (inr a) =
      let serves = a.is in
      inr ((λ callee is. (let e = sym serves ∙ is in cc)), (λ is. (let e = sym serves ∙ is in cc)))

  calls_in_return : (frame : Frame) (outer : List Frame) (caller : Frame) (rest : List Frame) → own.owed ≡ false → operation b.app frame.func frame.item ≡ op.Return
      → outer ≡ caller ∷ rest
      → ((th.pc ≡ item_address b.places frame.func frame.item + 4) × AreFrames b ram frame outer place (b.top t))
      ⊎ ((th.pc ≡ item_address b.places frame.func frame.item + 8) × AreFrames b ram caller rest place (b.top t))
      → HasCallsHere frame outer
  calls_in_return frame outer caller rest free is called_by (inl h) =
      let at = h.0 in
      inl (inr ((λ callee calls. (let e = sym is ∙ calls in cc)), (λ same. omega (arith, at))), calls b ram frame outer place (b.top t) h.1)
  calls_in_return frame outer caller rest free is called_by (inr h) =
      inr (free, inr (caller, rest, is, called_by, h.0, calls b ram caller rest place (b.top t) h.1))

  calls_in_call : (frame : Frame) (outer : List Frame) → IsCalling b ram (b.top t) own frame outer th place → HasCallsHere frame outer
  calls_in_call frame outer c =
      let some = c.some in
      let at = c.pc in
      inr (c.free, inl (c.callee, c.is, omega (arith, some, at), calls b ram frame outer (place + 4 + 4 * (function b.app c.callee).frame_words) (b.top t) c.frames))

  calls_here : (frame : Frame) (outer : List Frame)
      → (IsStanding b ram (b.top t) own frame outer th place ⊎ (IsOwing b ram t own frame outer th place
      ⊎ (IsCalling b ram (b.top t) own frame outer th place ⊎ IsReturning b ram (b.top t) own frame outer th place)))
      → HasCallsHere frame outer
  calls_here frame outer (inl h) = inl (outside_by_standing frame h.here, calls b ram frame outer place (b.top t) h.frames)
  calls_here frame outer (inr (inl h)) = inl (inl h.owes, calls b ram frame outer place (b.top t) h.frames)
  calls_here frame outer (inr (inr (inl h))) = calls_in_call frame outer h
  calls_here frame outer (inr (inr (inr h))) = calls_in_return frame outer h.caller h.rest h.free h.is h.called_by h.here

  pub calls_at : (frame : Frame) (outer : List Frame) → IsPosition b ram t own th place → own.frames ≡ frame ∷ outer → HasCallsHere frame outer
  calls_at frame outer h begun =
      let same : h.frame ≡ frame = (let e = sym h.frames ∙ begun in cc) in
      let same_outer : h.outer ≡ outer = (let e = sym h.frames ∙ begun in cc) in
      subst (λ f. HasCallsHere f outer) same (subst (λ o. HasCallsHere h.frame o) same_outer (calls_here h.frame h.outer h.here))
