-- What the trace of a stretch tells: its lines, and the lines that it touches.
use Rattle.std.proofs.Common.{◌≡◌, ℕ, zero, suc, ◌+◌, List, [], ◌∷◌, ◌++◌, refl, sym, ap, ◌∙◌, subst, Bool, true, false, cond, Option, Some, None}
use Rattle.std.specs.Prelude.{map, IfSome, take, Contains, ◌||◌, ◌==◌}
use Rattle.std.proofs.lemmas.List.{map-append}
use Rattle.sloth_base.specs.declared.service.Arrival.{Arrival}
use Rattle.sloth_base.specs.declared.numbers.Step.{Step}
use Rattle.sloth_base.specs.Arrivals.{AreRisingMoments}
use Rattle.sloth_base.specs.Machine.{State}
use Rattle.sloth_base.specs.Arrive.{state_arrive}
use Rattle.sloth_base.specs.Options.{is_number}
use Rattle.std.proofs.lemmas.Bool.{eqb-true}
use Rattle.rv32_instr.specs.Execute.{touched}
use Rattle.masked_code.specs.Masked.{Steps}
use Rattle.masked_code.specs.Trace.{TraceEntry, Trace, is_touched_line, touched_lines_of, untouched_lines_of, touched_lines, lines_of, early_arrivals, late_arrivals}
use Rattle.sim_induction.specs.Short.{TouchesOnly}
use Rattle.sim_induction.specs.Admits.{arrivals_at_moment, arrivals_before_event, arrivals_behind_event}
use Rattle.sim_induction.specs.Observed.{trace_of, AreFrom, AreBefore, IsTraced}
use Rattle.std.specs.List.{AllByRecursion}
use Rattle.sim_induction.proofs.Schedule.{lines_back}
use Rattle.sim_induction.proofs.Early.{early_is, late_is}

pub lines_before : (k : ℕ) (t : Trace) → map (λ a. a.line) (arrivals_before_event k t) ≡ early_arrivals t
lines_before k [] = refl
lines_before k (e ∷ t) =
    map-append (λ (a : Arrival). a.line) (arrivals_at_moment k (touched_lines_of (e ∷ t) e.0)) (arrivals_before_event (k + 1) t)
    ∙ ap (λ u. u ++ map (λ a. a.line) (arrivals_before_event (k + 1) t)) (lines_back k (touched_lines_of (e ∷ t) e.0)) ∙ ap (λ u. touched_lines_of (e ∷ t) e.0 ++ u) (lines_before (k + 1) t)

pub lines_behind : (k : ℕ) (t : Trace) → map (λ a. a.line) (arrivals_behind_event k t) ≡ late_arrivals t
lines_behind k [] = refl
lines_behind k (e ∷ t) =
    map-append (λ (a : Arrival). a.line) (arrivals_at_moment k (untouched_lines_of (e ∷ t) e.0)) (arrivals_behind_event (k + 1) t)
    ∙ ap (λ u. u ++ map (λ a. a.line) (arrivals_behind_event (k + 1) t)) (lines_back k (untouched_lines_of (e ∷ t) e.0)) ∙ ap (λ u. untouched_lines_of (e ∷ t) e.0 ++ u) (lines_behind (k + 1) t)

pub is_traced : (arrivals : List Arrival) → AreRisingMoments 0 arrivals → (k : ℕ) (done steps : List Step) → AreBefore k done → AreFrom k steps → IsTraced arrivals k done steps
is_traced arrivals up k done steps b f = record {
  before = early_is arrivals up k done steps b f;
  behind = late_is arrivals up k done steps b f;
  early = lines_before k (trace_of arrivals steps);
  late = lines_behind k (trace_of arrivals steps);
}

-- ---- what holds of each line that arrives

module _ (P : ℕ → Type 0) where
  lines-append : (a b : List ℕ) → AllByRecursion P a → AllByRecursion P b → AllByRecursion P (a ++ b)
  lines-append [] b h k = k
  lines-append (x ∷ a) b h k = (h.0, lines-append a b h.1 k)

  pick : (b : Bool) (x : ℕ) (u v : List ℕ) → P x → AllByRecursion P u → AllByRecursion P v → AllByRecursion P (cond b (x ∷ u) u) × AllByRecursion P (cond b v (x ∷ v))
  pick true x u v l p q = ((l, p), q)
  pick false x u v l p q = (p, (l, q))

  lines_parted : (t : Trace) (a : List ℕ) → AllByRecursion P a → AllByRecursion P (touched_lines_of t a) × AllByRecursion P (untouched_lines_of t a)
  lines_parted t [] h = (tt, tt)
  lines_parted t (x ∷ a) h = let r = lines_parted t a h.1 in pick (is_touched_line t x) x (touched_lines_of t a) (untouched_lines_of t a) h.0 r.0 r.1

  pub lines_trace : (j k : ℕ) (A : ℕ → List ℕ) (m : State) (t : Trace) (x : State) → ((i : ℕ) → AllByRecursion P (A i)) → Steps j k A m t x → AllByRecursion P (early_arrivals t) × AllByRecursion P (late_arrivals t)
  lines_trace zero k A m t x b h = subst (λ u. AllByRecursion P (early_arrivals u) × AllByRecursion P (late_arrivals u)) (sym h.0) (tt, tt)
  lines_trace (suc j) k A m t x b h =
      let r = lines_trace j (suc k) A h.1 h.3.0 x b h.3.2 in
      let e : TraceEntry = (A k, touched (state_arrive (A k) m)) in
      let w = lines_parted (e ∷ h.3.0) (A k) (b k) in
      subst (λ u. AllByRecursion P (early_arrivals u) × AllByRecursion P (late_arrivals u)) (sym h.3.1)
      (lines-append (touched_lines_of (e ∷ h.3.0) (A k)) (early_arrivals h.3.0) w.0 r.0, lines-append (untouched_lines_of (e ∷ h.3.0) (A k)) (late_arrivals h.3.0) w.1 r.1)

-- ---- what holds of each line that is touched holds of the early ones

module _ (P : ℕ → Type 0) where
  by_line : (o : Option ℕ) (line : ℕ) (rest : List ℕ) (b : Bool) → (AllByRecursion P rest → b ≡ true → P line) → AllByRecursion P (lines_of o rest)
      → (is_number line o || b) ≡ true → P line
  by_line None line rest b later h is = later h is
  by_line (Some l) line rest b later h is = at (l == line) refl
    where
      at : (c : Bool) → (l == line) ≡ c → P line
      at true same = subst P (eqb-true l line same) h.0
      at false other = later h.1 (sym (ap (λ c. c || b) other) ∙ is)

  of_touched : (t : Trace) (line : ℕ) → AllByRecursion P (touched_lines t) → is_touched_line t line ≡ true → P line
  of_touched [] line h is = absurd cc
  of_touched (e ∷ t) line h is = by_line e.1 line (touched_lines t) (is_touched_line t line) (of_touched t line) h is

  kept : (b : Bool) (line : ℕ) (u : List ℕ) → (b ≡ true → P line) → AllByRecursion P u → AllByRecursion P (cond b (line ∷ u) u)
  kept true line u p h = (p refl, h)
  kept false line u p h = h

  part_touched : (t : Trace) (a : List ℕ) → AllByRecursion P (touched_lines t) → AllByRecursion P (touched_lines_of t a)
  part_touched t [] h = tt
  part_touched t (line ∷ a) h = kept (is_touched_line t line) line (touched_lines_of t a) (of_touched t line h) (part_touched t a h)

  rest_touched : (o : Option ℕ) (rest : List ℕ) → AllByRecursion P (lines_of o rest) → AllByRecursion P rest
  rest_touched None rest h = h
  rest_touched (Some line) rest h = h.1

  pub early_touched : (t : Trace) → AllByRecursion P (touched_lines t) → AllByRecursion P (early_arrivals t)
  early_touched [] h = tt
  early_touched (e ∷ t) h =
      lines-append P (touched_lines_of (e ∷ t) e.0) (early_arrivals t) (part_touched (e ∷ t) e.0 h) (early_touched t (rest_touched e.1 (touched_lines t) h))

-- ---- the lines that the steps touch

step_touches : (lines : List ℕ) (o : Option ℕ) (s : Step) (rest : List ℕ) → s.touched ≡ o → AllByRecursion (Contains lines) (lines_of o rest) → TouchesOnly lines s × AllByRecursion (Contains lines) rest
step_touches lines None s rest e h = (subst (λ o. IfSome o (Contains lines)) (sym e) tt, h)
step_touches lines (Some l) s rest e h = (subst (λ o. IfSome o (Contains lines)) (sym e) h.0, h.1)

pub steps_touch : (arrivals : List Arrival) (lines : List ℕ) (steps : List Step) → AllByRecursion (Contains lines) (touched_lines (trace_of arrivals steps)) → AllByRecursion (TouchesOnly lines) steps
steps_touch arrivals lines [] h = tt
steps_touch arrivals lines (s ∷ steps) h =
    let q = step_touches lines s.touched s (touched_lines (trace_of arrivals steps)) refl h in (q.0, steps_touch arrivals lines steps q.1)

pub each_step-take : (P : Step → Type 0) (n : ℕ) (steps : List Step) → AllByRecursion P steps → AllByRecursion P (take n steps)
each_step-take P zero steps h = tt
each_step-take P (suc n) [] h = tt
each_step-take P (suc n) (s ∷ steps) h = (h.0, each_step-take P n steps h.1)
