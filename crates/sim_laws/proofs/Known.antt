-- What the rules of well-formed task code say of an item is what its law asks.
use Rattle.std.proofs.Common.{◌≡◌, ℕ, ◌+◌, ◌%◌, ◌<◌, ◌≤◌, length, refl, sym, subst, arith, inl, inr, true}
use Rattle.std.specs.Prelude.{◌≢◌, ◌⊎◌}
use Rattle.std.proofs.lemmas.Bool.{cases_eq, cases_lt}
use Rattle.sloth_base.specs.Arithmetic.{size_of}
use Rattle.sloth_base.specs.Named.{operation, function, symbol_size}
use Rattle.sloth_base.specs.declared.app.Call.{Call}
use Rattle.sloth_base.specs.declared.app.Op.{Op}
use Rattle.sloth_base.specs.declared.app.Op.TheVariants as op
use Rattle.sloth_base.specs.declared.app.Width.{Width}
use Rattle.sloth_base.specs.declared.refusal.Code.TheVariants as code
use Rattle.code_rules.specs.AppRange.{IsOp}
use Rattle.sloth_base.specs.Limits.{mask_limit}
use Rattle.code_rules.specs.Code.{IsItem, is_followed}
use Rattle.code_rules.specs.WellFormed as rule
use Rattle.code_rules.specs.WellFormed.{WellFormed, at_item}
use Rattle.observe.specs.Observe.{View}
use Rattle.osek_scheduler.proofs.Facts.{Facts, facts}
use Rattle.osek_scheduler.proofs.Held.{falls_inside, jumps_inside}
use Rattle.sim_relation.specs.Build.{Build}
use Rattle.sim_items.specs.Place.{IsAccess, IsMasked, IsStraight, IsFlow}
use Rattle.sim_laws.specs.Kernel.{IsKnownItem}
use Rattle.sim_laws.specs.Kernel.IsKnownItem.{computes, flows, invokes, returns}

module _ (b : Build) (view : View) (func item : ℕ) (w : WellFormed b.config b.app) (known : func < length b.app.funcs) (inside : item < length (function b.app func).items)
    (services : (call : Call) → operation b.app func item ≡ op.Serve call → IsKnownItem b view func item) where
  rules : Facts b.config b.app
  rules = facts b.config b.app w

  module _ (o : Op) (is : operation b.app func item ≡ o) where
    at : IsItem b.app func item o
    at = record { known = known; inside = inside; is = is }

    says : IsOp b.config b.app (function b.app func) o
    says = rules.items func item o at

    -- V3
    even : ¬ (rule.IsUneven o)
    even h = w.no_fault _ (func, known, at_item item code.V3 inside (rule.is_uneven (subst rule.IsUneven (sym is) h)))

    -- V4
    masked : ¬ (rule.IsMaskPast b.app o)
    masked h = w.no_fault _ (func, known, at_item item code.V4 inside (rule.is_mask_past (subst (rule.IsMaskPast b.app) (sym is) h)))

    more : is_followed o ≡ true → item + 1 < length (function b.app func).items
    more = falls_inside b.config b.app rules func item o at

    straight : IsStraight b.app func o → is_followed o ≡ true → IsKnownItem b view func item
    straight h e = computes (record { straight = subst (IsStraight b.app func) (sym is) h; more = more e })

    flow : IsFlow b.app func item o → IsKnownItem b view func item
    flow h = flows (record { flow = subst (IsFlow b.app func item) (sym is) h })

  multiple : (n : ℕ) → ¬ (n ≢ 0) → n ≡ 0
  multiple n h = by (cases_eq n 0)
    where
      by : (n ≡ 0) ⊎ (n ≡ 0 → ⊥) → n ≡ 0
      by (inl e) = e
      by (inr e) = absurd (h e)

  few : (mask : ℕ) → ¬ (mask_limit < mask) → mask ≤ mask_limit
  few mask h = by (cases_lt mask_limit mask)
    where
      by : (mask_limit < mask) ⊎ (mask ≤ mask_limit) → mask ≤ mask_limit
      by (inl l) = absurd (h l)
      by (inr l) = l

  access : (width : Width) (y offset : ℕ) → offset + size_of width ≤ symbol_size b.app y → ¬ (offset % size_of width ≢ 0) → IsAccess b.app width y offset
  access width y offset l e = record { inside = l; aligned = multiple (offset % size_of width) e }

  masked_access : (width : Width) (y mask : ℕ) → mask + size_of width ≤ symbol_size b.app y → ¬ (mask % size_of width ≢ 0) → ¬ (mask_limit < mask) → IsMasked b.app width y mask
  masked_access width y mask l e f = record { inside = l; aligned = multiple (mask % size_of width) e; few = few mask f }

  by_kind : (o : Op) → operation b.app func item ≡ o → IsKnownItem b view func item
  by_kind (op.Alu kind rd rs1 rs2) e = straight (op.Alu kind rd rs1 rs2) e (says (op.Alu kind rd rs1 rs2) e) refl
  by_kind (op.AluImm kind rd rs1 z) e = straight (op.AluImm kind rd rs1 z) e (says (op.AluImm kind rd rs1 z) e) refl
  by_kind (op.Lui rd n) e = let h = says (op.Lui rd n) e in let l = h.1 in straight (op.Lui rd n) e (h.0, omega arith) refl
  by_kind (op.Li rd value) e = let h = says (op.Li rd value) e in let l = h.1 in straight (op.Li rd value) e (h.0, omega arith) refl
  by_kind (op.FrameLoad rd word) e =
      let o = op.FrameLoad rd word in
      let h = says o e in
      straight o e (h.0, rules.frame_loads func item rd word (at o e)) refl
  by_kind (op.FrameStore rs word) e =
      let o = op.FrameStore rs word in
      let h = says o e in
      straight o e (h.0, rules.frame_stores func item rs word (at o e)) refl
  by_kind (op.Load width rd y offset) e =
      let o = op.Load width rd y offset in
      let h = says o e in
      straight o e (h.0, access width y offset (rules.loads func item rd y offset width (at o e)) (even o e)) refl
  by_kind (op.Store width rs y offset) e =
      let o = op.Store width rs y offset in
      let h = says o e in
      straight o e (h.1, access width y offset (rules.stores func item rs y offset width (at o e)) (even o e)) refl
  by_kind (op.LoadAt width rd y index mask) e =
      let o = op.LoadAt width rd y index mask in
      let h = says o e in
      straight o e (h.0, h.2, masked_access width y mask (rules.masked_loads func item rd y index mask width (at o e)) (even o e) (λ l. masked o e (inl l))) refl
  by_kind (op.StoreAt width rs y index mask) e =
      let o = op.StoreAt width rs y index mask in
      let h = says o e in
      straight o e (h.1, h.3, masked_access width y mask (rules.masked_stores func item rs y index mask width (at o e)) (even o e) (λ l. masked o e (inl l))) refl
  by_kind (op.Branch kind rs1 rs2 label) e =
      let o = op.Branch kind rs1 rs2 label in
      let h = says o e in
      flow o e (h.0, h.1, record { known = h.2; inside = jumps_inside b.config b.app rules func item label known inside (inr (kind, rs1, rs2, at o e)) }, more o e refl)
  by_kind (op.Jump label) e =
      let o = op.Jump label in
      flow o e (record { known = says o e; inside = jumps_inside b.config b.app rules func item label known inside (inl (at o e)) })
  by_kind (op.Invoke callee) e = invokes (record { callee = callee; is = e })
  by_kind op.Return e = returns (record { is = e })
  by_kind (op.Serve call) e = services call e

  pub item_known : IsKnownItem b view func item
  item_known = by_kind (operation b.app func item) refl
