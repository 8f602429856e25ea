-- A basic task never waits, so it may be preempted where its scheduling is FULL or its body reaches a pause.
use Rattle.std.proofs.Common.{◌≡◌, ℕ, ◌<◌, inl, inr, ⊎_elim, Bool, false, length, get_or, refl, sym, ap, ◌∙◌, subst, arith}
use Rattle.std.specs.Prelude.{not, ◌||◌, bit_and}
use Rattle.std.specs.Bool.{Decides}
use Rattle.std.specs.Int.Bits.{and_zero_r}
use Rattle.std.proofs.lemmas.Bool.{and_parts, and_from, or_cases, or_left, or_right, not-true, not-false, not_from_false, eqb-true}
use Rattle.std.proofs.lemmas.Nat.{le_or_l}
use Rattle.sloth_base.specs.declared.config.Config.{Config}
use Rattle.sloth_base.specs.declared.app.App.{App}
use Rattle.sloth_base.specs.declared.service.Service.{Service}
use Rattle.sloth_base.specs.declared.service.Service.TheVariants as service
use Rattle.sloth_base.specs.declared.refusal.Code.TheVariants as code
use Rattle.sloth_base.specs.Named.{declaration, function, operation, body_of, undeclared_task, no_function, no_item}
use Rattle.code_rules.specs.AppRange.{IsOp, IsMask, mask_of}
use Rattle.sloth_base.specs.ConfigRange.{no_event}
use Rattle.code_rules.specs.Code.{IsItem, service_op, IsPausing, Reaches, TaskReaches, ReachesPause}
use Rattle.code_rules.specs.WellFormed.{WellFormed, HasEvents, IsUndeclaredUse, at_item, is_undeclared_use}
use Rattle.call_graph.specs.declared.lists.Ranks.{Ranks}
use Rattle.call_graph.specs.Ranks.{RanksOf}
use Rattle.stack_bounds.specs.Bounds.{IsBasic, ReachesSchedule, MayBePreempted}
use Rattle.call_graph.specs.Tables.{gives_way}
use Rattle.stack_bounds.proofs.Bodies.{has_body}

module _ (config : Config) (app : App) (w : WellFormed config app) where
  some_mask : (mask : ℕ) → IsMask config mask → 0 < mask
  some_mask mask m =
      let some = w.in_range.configuration.masks m.first no_event (m.declared 0 0 (omega arith)) in
      let e = m.is in
      let s = some.0 in
      let le = le_or_l (get_or config.events m.first no_event).mask (mask_of config m.more) in
      omega (arith, e, s, le)

  no_events : (t : ℕ) → IsBasic config t → (declaration config t).events ≡ 0
  no_events t basic =
      let task = w.in_range.configuration.tasks t undeclared_task basic.0 in
      eqb-true (declaration config t).events 0 (not-false _ (sym task.extended ∙ basic.1))

  lacks_all : (t mask : ℕ) → IsBasic config t → 0 < mask → ¬ (HasEvents (declaration config t) mask)
  lacks_all t mask basic some has =
      let e : mask ≡ 0 = sym has ∙ ap (bit_and mask) (no_events t basic) ∙ and_zero_r mask in
      omega (arith, some, e)

  never_waits : (t f i object mask : ℕ) → IsBasic config t → TaskReaches app t f → IsItem app f i (service_op service.WaitEvent object mask) → ⊥
  never_waits t f i object mask basic reaches item =
      let operands = subst (IsOp config app (function app f)) item.is ((w.in_range.bodies f no_function item.known).items i no_item item.inside) in
      let wrong : IsUndeclaredUse config app f (operation app f i) =
      subst (IsUndeclaredUse config app f) (sym item.is) (t, reaches, lacks_all t mask basic (some_mask mask operands.1)) in
      w.no_fault _ (f, item.known, at_item i code.V12 item.inside (is_undeclared_use wrong))

  module _ (ranks : Ranks) (belong : RanksOf app ranks) where
    pauses_schedule : (t : ℕ) → IsBasic config t → ReachesPause app (body_of app.funcs t) → ReachesSchedule app t
    pauses_schedule t basic p =
        let reaches : TaskReaches app t p.0 = (body_of app.funcs t, has_body config app w.in_range t basic.0, p.5) in by p.2 p.6 p.7 reaches
      where
        by : (s : Service) → IsItem app p.0 p.1 (service_op s p.3 p.4) → IsPausing s → TaskReaches app t p.0 → ReachesSchedule app t
        by s item (inl e) reaches = absurd (never_waits t p.0 p.1 p.3 p.4 basic reaches (subst (λ (x : Service). IsItem app p.0 p.1 (service_op x p.3 p.4)) e item))
        by s item (inr e) reaches = (p.0, p.1, p.3, p.4, reaches, subst (λ (x : Service). IsItem app p.0 p.1 (service_op x p.3 p.4)) e item)

    schedule_pauses : (t : ℕ) → IsBasic config t → ReachesSchedule app t → ReachesPause app (body_of app.funcs t)
    schedule_pauses t basic s =
        let same = w.in_range.tasks.one t s.4.0 (body_of app.funcs t) s.4.1 (has_body config app w.in_range t basic.0) in
        (s.0, s.1, service.Schedule, s.2, s.3, subst (λ (b : ℕ). Reaches app b s.0) same s.4.2, s.5, inr refl)

    abbrev pauses : ℕ → Bool
    pauses t = get_or ranks.pauses (body_of app.funcs t) false

    pub Decides-gives_way : (t : ℕ) → t < length config.tasks
        → Decides (gives_way (declaration config t) (pauses t)) (IsBasic config t × MayBePreempted config app t)
    Decides-gives_way t declared =
        let task = declaration config t in
        let decides = belong.pauses (body_of app.funcs t) (has_body config app w.in_range t declared).0 in (
          λ h.
              let parts = and_parts (not task.extended) (not task.non || pauses t) h in
              let basic : IsBasic config t = (declared, not-true task.extended parts.0) in (
                basic,
                ⊎_elim (λ full. inl (not-true task.non full)) (λ p. inr (pauses_schedule t basic (decides.0 p))) (or_cases (not task.non) (pauses t) parts.1),
              ),
          λ h. and_from _ _ (not_from_false task.extended h.0.1) (⊎_elim
              (λ full. or_left _ _ (not_from_false task.non full))
              (λ s. or_right (not task.non) _ (decides.1 (schedule_pauses t h.0 s)))
              h.1),
        )
