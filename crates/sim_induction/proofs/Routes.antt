-- From the contracts of generated code to the stretches of a run.
use Rattle.std.proofs.Common.{◌≡◌, ℕ, zero, suc, ◌+◌, ◌<◌, ◌≤◌, List, [], ◌∷◌, refl, ap, ◌∙◌, subst, arith, Bool, true, false, cond, Option, Some, None, inl, inr, is_some}
use Rattle.std.specs.Prelude.{◌||◌, ◌&&◌, not, ◌==◌, IfSome, Contains}
use Rattle.std.proofs.lemmas.Bool.{ne_eqb}
use Rattle.sloth_base.specs.declared.image.Mark.{Mark}
use Rattle.sloth_base.specs.declared.service.Arrival.{Arrival}
use Rattle.sloth_base.specs.declared.service.Event.TheVariants as event
use Rattle.sloth_base.specs.declared.numbers.Step.{Step}
use Rattle.sloth_base.specs.Machine.{State}
use Rattle.sloth_base.specs.Arrive.{state_arrive}
use Rattle.sloth_base.specs.Take.{line_to_take, entry_state, execution_state}
use Rattle.sloth_base.proofs.Owners.{kind_of_task}
use Rattle.rv32_instr.specs.Execute.{Next, Going, Stopped, step, touched}
use Rattle.rv32_machine.specs.Advance.{observed_step}
use Rattle.rv32_machine.specs.Run.{state_with_arrivals}
use Rattle.masked_code.specs.Masked.{OnGoing, Masked, WithArrivals, FromOpening, Steps}
use Rattle.masked_code.specs.Trace.{Trace, lines_of, touched_lines, early_arrivals, late_arrivals}
use Rattle.masked_code.proofs.Masked.{masked_run}
use Rattle.observe.specs.Pieces.{begins}
use Rattle.observe.specs.Observe.{View, stretch_event, later_event, unentered_event, marked_event, mark_at, entry_event}
use Rattle.sim_induction.specs.Admits.{lines_at}
use Rattle.std.specs.List.{AllByRecursion}

going : (x : Next) (P : State → Type 0) → OnGoing x P → (next : State) × (x ≡ Going next) × P next
going (Going next) P h = (next, refl, h)
going (Stopped why) P h = absurd h

-- an effect that leaves MIE 1
abbrev pub Opens : (List ℕ → State → State → Type 0) → Type 0
Opens Effect = (touched : List ℕ) (start last : State) → Effect touched start last → last.core.mie ≡ true

ends_open : (Effect : List ℕ → State → State → Type 0) → Opens Effect → (start : State) (t : Trace) (end : State) → WithArrivals Effect start t end → end.core.mie ≡ true
ends_open Effect opens start t end h =
    ap (λ (x : State). x.core.mie) h.2 ∙ opens (touched_lines t) (state_arrive (early_arrivals t) start) h.0 h.1

closed_start : (Effect : List ℕ → State → State → Type 0) → Opens Effect → (from start : State) → start.core.mie ≡ false → WithArrivals Effect from [] start → ⊥
closed_start Effect opens from start e h = let a : start.core.mie ≡ true = ends_open Effect opens from [] start h in cc

-- ---- a line that is taken, and code that runs masked from its vector on

pub record Entering (arrivals : List Arrival) (most k : ℕ) (m : State) (Effect : List ℕ → State → State → Type 0) : Type 0 where
  pub next : State
  pub goes : step (execution_state (state_with_arrivals arrivals k m)) ≡ Going next
  pub more : ℕ
  pub few : more ≤ most
  pub trace : Trace
  pub end : State
  pub steps : Steps more (k + 1) (lines_at arrivals) next trace end
  pub ends : end.core.mie ≡ true
  pub last : State
  pub effect : Effect (lines_of (touched (execution_state (state_with_arrivals arrivals k m))) (touched_lines trace)) (state_arrive (early_arrivals trace) (execution_state (state_with_arrivals arrivals k m))) last
  pub late_behind : end ≡ state_arrive (late_arrivals trace) last

pub entering : (arrivals : List Arrival) (most k : ℕ) (m : State) (Effect : List ℕ → State → State → Type 0) → Opens Effect → (execution_state (state_with_arrivals arrivals k m)).core.mie ≡ false
    → Masked (suc most) (execution_state (state_with_arrivals arrivals k m)) (WithArrivals Effect (execution_state (state_with_arrivals arrivals k m))) → Entering arrivals most k m Effect
unfolding Masked
entering arrivals most k m Effect opens off (inl h) = absurd (closed_start Effect opens (execution_state (state_with_arrivals arrivals k m)) (execution_state (state_with_arrivals arrivals k m)) off h)
entering arrivals most k m Effect opens off (inr h) =
    let n = execution_state (state_with_arrivals arrivals k m) in
    let P : Trace → State → Type 0 = λ trace end. WithArrivals Effect n (([], touched n) ∷ trace) end in
    let g = going (step n) (λ next. Masked most next P) (h.1 []) in
    let r = masked_run most (k + 1) (lines_at arrivals) g.0 P g.2 in
    record {
      next = g.0;
      goes = g.1;
      more = r.0;
      few = r.1;
      trace = r.2;
      end = r.3;
      steps = r.4;
      ends = ends_open Effect opens n (([], touched n) ∷ r.2) r.3 r.5;
      last = r.5.0;
      effect = r.5.1;
      late_behind = r.5.2;
    }

-- ---- code that begins with MIE 1, and masks with its first instruction

pub record Masking (arrivals : List Arrival) (most k : ℕ) (m : State) (Effect : List ℕ → State → State → Type 0) : Type 0 where
  pub next : State
  pub goes : step (execution_state (state_with_arrivals arrivals k m)) ≡ Going next
  pub off : next.core.mie ≡ false
  pub more : ℕ
  pub few : more ≤ most
  pub trace : Trace
  pub end : State
  pub steps : Steps more (k + 1) (lines_at arrivals) next trace end
  pub last : State
  pub effect : Effect (touched_lines trace) (state_arrive (early_arrivals trace) (state_with_arrivals arrivals k m)) last
  pub late_behind : end ≡ state_arrive (late_arrivals trace) last

pub masking : (arrivals : List Arrival) (most k : ℕ) (m : State) (Effect : List ℕ → State → State → Type 0) → line_to_take (state_with_arrivals arrivals k m) ≡ None
    → FromOpening most (state_with_arrivals arrivals k m) Effect → Masking arrivals most k m Effect
masking arrivals most k m Effect none h =
    let n = state_with_arrivals arrivals k m in
    let g = going (step n) (λ first. (first.core.mie ≡ false) × Masked most first (WithArrivals Effect n)) h in
    let r = masked_run most (k + 1) (lines_at arrivals) g.0 (WithArrivals Effect n) g.2.1 in
    record {
      next = g.0;
      goes = ap (λ o. step (entry_state o n)) none ∙ g.1;
      off = g.2.0;
      more = r.0;
      few = r.1;
      trace = r.2;
      end = r.3;
      steps = r.4;
      last = r.5.0;
      effect = r.5.1;
      late_behind = r.5.2;
    }

-- ---- boot

pub record Booting (arrivals : List Arrival) (most : ℕ) (m : State) (Effect : List ℕ → State → State → Type 0) : Type 0 where
  pub more : ℕ
  pub few : suc more ≤ most
  pub trace : Trace
  pub end : State
  pub steps : Steps (suc more) 0 (lines_at arrivals) m trace end
  pub ends : end.core.mie ≡ true
  pub last : State
  pub effect : Effect (touched_lines trace) (state_arrive (early_arrivals trace) m) last
  pub late_behind : end ≡ state_arrive (late_arrivals trace) last

pub booting : (arrivals : List Arrival) (most : ℕ) (m : State) (Effect : List ℕ → State → State → Type 0) → Opens Effect → m.core.mie ≡ false → Masked most m (WithArrivals Effect m) → Booting arrivals most m Effect
booting arrivals most m Effect opens off h =
    let r = masked_run most 0 (lines_at arrivals) m (WithArrivals Effect m) h in
    by r.0 r.1 r.2 r.3 r.4 r.5
  where
    by : (j : ℕ) → j ≤ most → (trace : Trace) (end : State) → Steps j 0 (lines_at arrivals) m trace end → WithArrivals Effect m trace end → Booting arrivals most m Effect
    by zero l trace end s w =
        absurd (closed_start Effect opens m m off (subst (WithArrivals Effect m []) s.1 (subst (λ t. WithArrivals Effect m t end) s.0 w)))
    by (suc j) l trace end s w = record { more = j; few = l; trace = trace; end = end; steps = s; ends = ends_open Effect opens m trace end w; last = w.0; effect = w.1; late_behind = w.2 }

-- ---- what stretches touch

pub touches_parted : (lines : List ℕ) (o : Option ℕ) (rest : List ℕ) → AllByRecursion (Contains lines) (lines_of o rest) → IfSome o (Contains lines) × AllByRecursion (Contains lines) rest
touches_parted lines None rest h = (tt, h)
touches_parted lines (Some l) rest h = (h.0, h.1)

-- ---- where a stretch begins, and which event it is

pub begins_entered : (k : ℕ) (n x : State) (line : ℕ) → line_to_take n ≡ Some line → begins (observed_step k n x) ≡ true
begins_entered k n x line h = ap (λ o. ((k == 0) || is_some o) || (n.core.mie && not x.core.mie)) h ∙ or_true (k == 0) (n.core.mie && not x.core.mie)
  where
    or_true : (a b : Bool) → (a || true) || b ≡ true
    or_true true b = refl
    or_true false b = refl

pub begins_masked : (k : ℕ) (n x : State) → n.core.mie ≡ true → x.core.mie ≡ false → begins (observed_step k n x) ≡ true
begins_masked k n x h e =
    ap (λ b. ((k == 0) || is_some (line_to_take n)) || (b && not x.core.mie)) h
    ∙ ap (λ b. ((k == 0) || is_some (line_to_take n)) || not b) e ∙ or_true ((k == 0) || is_some (line_to_take n))
  where
    or_true : (a : Bool) → a || true ≡ true
    or_true true = refl
    or_true false = refl

pub begins_none : (k : ℕ) (n x : State) → 0 < k → line_to_take n ≡ None → x.core.mie ≡ true → begins (observed_step k n x) ≡ false
begins_none k n x l h e =
    ap (λ b. (b || is_some (line_to_take n)) || (n.core.mie && not x.core.mie)) (ne_eqb k 0 (λ z. omega arith))
    ∙ ap (λ o. is_some o || (n.core.mie && not x.core.mie)) h ∙ ap (λ b. n.core.mie && not b) e ∙ and_false n.core.mie
  where
    and_false : (b : Bool) → b && false ≡ false
    and_false true = refl
    and_false false = refl

pub entered_event : (view : View) (k : ℕ) (n x : State) (last : Step) (line : ℕ) → 0 < k → line_to_take n ≡ Some line → line < view.owners.tasks → stretch_event view (observed_step k n x) last ≡ event.Enter line
entered_event view k n x last line l h t =
    ap (λ b. cond b event.Boot (later_event (line_to_take n) view (observed_step k n x) last)) (ne_eqb k 0 (λ z. omega arith))
    ∙ ap (λ o. later_event o view (observed_step k n x) last) h
    ∙ ap (entry_event line) (kind_of_task view.owners line t)

pub opened_event : (view : View) (k : ℕ) (n x : State) (last : Step) (mark : Mark) → 0 < k → line_to_take n ≡ None → mark_at view (execution_state n).pc ≡ Some mark
    → stretch_event view (observed_step k n x) last ≡ marked_event mark.kind view mark (observed_step k n x) last
opened_event view k n x last mark l h m =
    ap (λ b. cond b event.Boot (later_event (line_to_take n) view (observed_step k n x) last)) (ne_eqb k 0 (λ z. omega arith))
    ∙ ap (λ o. later_event o view (observed_step k n x) last) h
    ∙ ap (λ o. unentered_event o view (observed_step k n x) last) m
