-- What a walk of a task reaches: objects that are declared, and of a basic task no WaitEvent.
use Rattle.std.proofs.Common.{◌≡◌, ℕ, ◌<◌, ◌≤◌, ◌⊎◌, ◌==◌, ◌++◌, not, Bool, true, false, List, [], ◌∷◌, length, refl, sym, ap, ◌∙◌, subst, arith, inl, inr}
use Rattle.std.specs.Int.Bits.{bit_and, and_zero_r}
use Rattle.std.proofs.lemmas.Bool.{false≢true, eqb-true, cases_lt}
use Rattle.std.proofs.lemmas.List.{get_or_past}
use Rattle.sloth_base.specs.declared.config.Config.{Config}
use Rattle.sloth_base.specs.declared.app.App.{App}
use Rattle.sloth_base.specs.declared.app.Call.{Call}
use Rattle.sloth_base.specs.declared.app.Op.{Op}
use Rattle.sloth_base.specs.declared.app.Op.TheVariants as op
use Rattle.sloth_base.specs.declared.service.Service.TheVariants as service
use Rattle.sloth_base.specs.Named.{declaration, undeclared_task, function, body_of, no_item}
use Rattle.sloth_base.proofs.Services.{same_service}
use Rattle.code_rules.specs.AppRange.{IsObject}
use Rattle.code_rules.specs.Code.{IsItem, service_op, TaskReaches}
use Rattle.code_rules.specs.WellFormed.{held_list_before}
use Rattle.code_rules.specs.Code
use Rattle.sloth_base.specs.ServiceCodes.{object_kind}
use Rattle.osek_scheduler.specs.State.{sleeping_task}
use Rattle.osek_scheduler.specs.Apart.{priority_of, static_priority}
use Rattle.osek_scheduler.proofs.Facts.{Facts}
use Rattle.osek_scheduler.proofs.Stacks.{has_body, calls_reach}
use Rattle.osek_blocking.specs.Walks.{Position, first_position, AreConsecutive, IsWalk}
use Rattle.osek_blocking.specs.Sections.{held_list_along, operation_at, priority_at}
use Rattle.walk_sums.specs.Activations.{reaches_first}
use Rattle.walk_sums.proofs.Callers.{AreCallers, Walked, item_at, stands_on}
use Rattle.walk_sums.specs.Rounds.{Reaches, is_wait}

module _ (config : Config) (app : App) (w : Facts config app) (t : ℕ) (declared : t < length config.tasks) where
  abbrev Standing : Position → Type 0
  Standing = Walked app t

  lead : (at : Position) (before : List Position) (last : Position) → Standing at → AreConsecutive app (at ∷ (before ++ last ∷ [])) → Standing last
  lead at [] last s c = stands_on config app w t at last s c.0
  lead at (x ∷ before) last s c = lead x before last (stands_on config app w t at x s c.0) c.1

  first_stands : Standing (first_position app t)
  first_stands = ((has_body config app w t declared).0, reaches_first (body_of app.funcs t), refl)

  reached_stands : (before : List Position) (at : Position) → IsWalk app t (before ++ at ∷ []) → Standing at
  reached_stands [] at walk = subst Standing (sym walk.0) first_stands
  reached_stands (x ∷ before) at walk = lead x before at (subst Standing (sym walk.0) first_stands) walk.1

  callers_reach : (f h : ℕ) (outer : Position) → AreCallers app t f outer → Code.Reaches app f h → Code.Reaches app (body_of app.funcs t) h
  callers_reach f h [] called r = subst (λ x. Code.Reaches app x h) called r
  callers_reach f h (caller ∷ outer) called r =
      callers_reach caller.func h outer called.1 (calls_reach app caller.func f h (caller.item, called.0.item) r)

  -- a call that a walk reaches is an item of a function that the task reaches
  pub record IsReachedCall (at : Position) (call : Call) : Type 0 where
    pub func : ℕ
    pub item : ℕ
    pub reaches : TaskReaches app t func
    pub is : IsItem app func item (op.Serve call)

  reached_call : (at : Position) (call : Call) → Reaches app t at → operation_at app at ≡ op.Serve call → IsReachedCall at call
  reached_call [] call reach is = absurd (reached_stands reach.0 [] reach.1)
  reached_call (here ∷ outer) call reach is =
      let stands = reached_stands reach.0 (here ∷ outer) reach.1 in
      record {
        func = here.func;
        item = here.item;
        reaches = (body_of app.funcs t, has_body config app w t declared, callers_reach here.func here.func outer stands.2 (inl refl));
        is = record { known = stands.0; inside = inside (cases_lt here.item (length (function app here.func).items)); is = is };
      }
    where
      none : op.Return ≡ op.Serve call → ⊥
      none e = cc

      inside : (here.item < length (function app here.func).items) ⊎ (length (function app here.func).items ≤ here.item) → here.item < length (function app here.func).items
      inside (inl lt) = lt
      inside (inr past) = absurd (none (sym (ap (λ i. i.op) (get_or_past (function app here.func).items here.item no_item past)) ∙ is))

  pub object_is : (at : Position) (call : Call) → Reaches app t at → operation_at app at ≡ op.Serve call → IsObject config (object_kind call.service) call.object
  object_is at call reach is = let r = reached_call at call reach is in (w.items r.func r.item (op.Serve call) r.is).0

  -- a basic task waits for nothing
  waits_never : (declaration config t).extended ≡ false → (call : Call) (at : Position) → Reaches app t at → operation_at app at ≡ op.Serve call → call.service ≡ service.WaitEvent → ⊥
  waits_never basic call at reach is waits =
      let r = reached_call at call reach is in
      let same : op.Serve call ≡ service_op service.WaitEvent call.object call.mask = ap (λ s. op.Serve (record { service = s; object = call.object; mask = call.mask })) waits in
      let item : IsItem app r.func r.item (service_op service.WaitEvent call.object call.mask) = subst (IsItem app r.func r.item) same r.is in
      let some = w.waits r.func r.item call.object call.mask item in
      let own = w.waits_own t r.func r.item call.object call.mask r.reaches item in
      let of_task = w.in_range.configuration.tasks t undeclared_task declared in
      let events : (declaration config t).events ≡ 0 = none (declaration config t).events (sym basic ∙ of_task.extended) in
      let zero = sym own ∙ ap (bit_and call.mask) events ∙ and_zero_r call.mask in
      omega (arith, some, zero)
    where
      none : (n : ℕ) → false ≡ not (n == 0) → n ≡ 0
      none n e = by (n == 0) refl e
        where
          by : (b : Bool) → (n == 0) ≡ b → false ≡ not b → n ≡ 0
          by true is e = eqb-true n 0 is
          by false is e = absurd (false≢true e)

  pub no_waits : (declaration config t).extended ≡ false → (at : Position) → Reaches app t at → is_wait (operation_at app at) ≡ false
  no_waits basic at reach = by (operation_at app at) refl
    where
      by : (o : Op) → operation_at app at ≡ o → is_wait o ≡ false
      by (op.Serve call) is = which (is_wait (op.Serve call)) refl
        where
          which : (b : Bool) → is_wait (op.Serve call) ≡ b → b ≡ false
          which false e = refl
          which true e = absurd (waits_never basic call at reach is (same_service call.service service.WaitEvent e))
      by op.Return is = refl
      by o is = refl

  -- ---- where it waits it holds nothing

  callers_free : (f h j o m : ℕ) (outer : Position) → AreCallers app t f outer → Code.Reaches app f h → IsItem app h j (service_op service.WaitEvent o m) → held_list_along app outer ≡ []
  callers_free f h j o m [] called r at = refl
  callers_free f h j o m (caller ∷ outer) called r at =
      ap (λ l. l ++ held_list_before app caller.func caller.item)
      (callers_free caller.func h j o m outer called.1 (calls_reach app caller.func f h (caller.item, called.0.item) r) at)
      ∙ w.calls_free caller.func caller.item f h j o m service.WaitEvent called.0.item r at (inl refl)

  waits_free : (call : Call) (at : Position) → Reaches app t at → operation_at app at ≡ op.Serve call → call.service ≡ service.WaitEvent → held_list_along app at ≡ []
  waits_free call [] reach is waits = refl
  waits_free call (here ∷ outer) reach is waits =
      let stands = reached_stands reach.0 (here ∷ outer) reach.1 in
      let same : op.Serve call ≡ service_op service.WaitEvent call.object call.mask = ap (λ s. op.Serve (record { service = s; object = call.object; mask = call.mask })) waits in
      let item : IsItem app here.func here.item (service_op service.WaitEvent call.object call.mask) =
      subst (IsItem app here.func here.item) (is ∙ same) (item_at config app w here.func here.item stands.0 stands.1) in
      ap (λ l. l ++ held_list_before app here.func here.item) (callers_free here.func here.func here.item call.object call.mask outer stands.2 (inl refl) item)
      ∙ w.serves_free here.func here.item call.object call.mask service.WaitEvent item (inr (inl refl))

  -- so a preemptable task has its static priority there
  pub waits_unraised : (declaration config t).non ≡ false → (at : Position) → Reaches app t at → is_wait (operation_at app at) ≡ true → priority_at config app t at ≤ static_priority config t
  waits_unraised preemptable at reach = by (operation_at app at) refl
    where
      by : (o : Op) → operation_at app at ≡ o → is_wait o ≡ true → priority_at config app t at ≤ static_priority config t
      by (op.Serve call) is e =
          let free = waits_free call at reach is (same_service call.service service.WaitEvent e) in
          let held = ap (λ l. priority_of config t (record sleeping_task { held = l; raised = (declaration config t).non })) free in
          let full = ap (λ n. priority_of config t (record sleeping_task { held = []; raised = n })) preemptable in
          omega (arith, held, full)
      by op.Return is e = absurd (false≢true e)
      by o is e = absurd (false≢true e)
