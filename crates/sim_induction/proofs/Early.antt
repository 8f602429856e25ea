-- The observer's rule for the arrivals inside a stretch, told from the trace of the stretch.
use Rattle.std.proofs.Common.{◌≡◌, ℕ, suc, ◌+◌, ◌≤◌, List, [], ◌∷◌, ◌++◌, length, refl, sym, ap, ◌∙◌, arith, append_assoc, Bool, true, false, cond, filter}
use Rattle.std.specs.Prelude.{◌&&◌, ◌||◌, not}
use Rattle.std.specs.List.{list_any}
use Rattle.std.proofs.lemmas.Bool.{le-leb, lt-leb}
use Rattle.std.proofs.lemmas.List.Elements.{filter-append}
use Rattle.std.proofs.lemmas.List.Folds.{list_any-append}
use Rattle.sloth_base.specs.declared.service.Arrival.{Arrival}
use Rattle.sloth_base.specs.declared.numbers.Step.{Step}
use Rattle.sloth_base.specs.Arrivals.{moments, AreRisingMoments}
use Rattle.observe.specs.Observe.{is_early}
use Rattle.observe.specs.Observe as observer
use Rattle.observe.proofs.Moments.{moments-none}
use Rattle.masked_code.specs.Trace.{is_touched_line, touched_lines_of, untouched_lines_of}
use Rattle.sloth_base.specs.Options.{is_number}
use Rattle.sim_induction.specs.Admits.{lines_at, arrivals_at_moment, arrivals_before_event, arrivals_behind_event}
use Rattle.sim_induction.specs.Observed.{trace_of, AreFrom, AreBefore}
use Rattle.sim_induction.proofs.Schedule.{moments-split, moment_is}

-- steps before the moment do not touch it
none_before : (k line : ℕ) (steps : List Step) → AreBefore k steps → list_any (observer.is_touch k line) steps ≡ false
none_before k line [] h = refl
none_before k line (s ∷ steps) h =
    ap (λ b. (b && is_number line s.touched) || list_any (observer.is_touch k line) steps) (lt-leb k s.count h.0) ∙ none_before k line steps h.1

-- those from the moment on do where the trace does
as_traced : (arrivals : List Arrival) (k from line : ℕ) (steps : List Step) → k ≤ from → AreFrom from steps → list_any (observer.is_touch k line) steps ≡ is_touched_line (trace_of arrivals steps) line
as_traced arrivals k from line [] l h = refl
as_traced arrivals k from line (s ∷ steps) l h =
    let c : s.count ≡ from = h.0 in
    ap (λ b. (b && is_number line s.touched) || list_any (observer.is_touch k line) steps) (le-leb k s.count (omega arith))
    ∙ ap (λ b. is_number line s.touched || b) (as_traced arrivals k (from + 1) line steps (omega arith) h.1)

is_touched : (arrivals : List Arrival) (k line : ℕ) (done steps : List Step) → AreBefore k done → AreFrom k steps
    → is_early (done ++ steps) (record { at = k; line = line }) ≡ is_touched_line (trace_of arrivals steps) line
is_touched arrivals k line done steps b f =
    list_any-append (observer.is_touch k line) done steps
    ∙ ap (λ x. x || list_any (observer.is_touch k line) steps) (none_before k line done b)
    ∙ as_traced arrivals k k line steps (omega arith) f

moment_early : (arrivals : List Arrival) (k : ℕ) (done steps : List Step) → AreBefore k done → AreFrom k steps → (lines : List ℕ)
    → filter (is_early (done ++ steps)) (arrivals_at_moment k lines) ≡ arrivals_at_moment k (touched_lines_of (trace_of arrivals steps) lines)
moment_early arrivals k done steps b f [] = refl
moment_early arrivals k done steps b f (l ∷ lines) =
    let a : Arrival = record { at = k; line = l } in
    ap (λ x. cond x (a ∷ filter (is_early (done ++ steps)) (arrivals_at_moment k lines)) (filter (is_early (done ++ steps)) (arrivals_at_moment k lines))) (is_touched arrivals k l done steps b f)
    ∙ ap (λ u. cond (is_touched_line (trace_of arrivals steps) l) (a ∷ u) u) (moment_early arrivals k done steps b f lines)
    ∙ out (is_touched_line (trace_of arrivals steps) l) k l (touched_lines_of (trace_of arrivals steps) lines)
  where
    out : (x : Bool) (k l : ℕ) (u : List ℕ) → cond x (record { at = k; line = l } ∷ arrivals_at_moment k u) (arrivals_at_moment k u) ≡ arrivals_at_moment k (cond x (l ∷ u) u)
    out true k l u = refl
    out false k l u = refl

moment_late : (arrivals : List Arrival) (k : ℕ) (done steps : List Step) → AreBefore k done → AreFrom k steps → (lines : List ℕ)
    → filter (λ a. not (is_early (done ++ steps) a)) (arrivals_at_moment k lines) ≡ arrivals_at_moment k (untouched_lines_of (trace_of arrivals steps) lines)
moment_late arrivals k done steps b f [] = refl
moment_late arrivals k done steps b f (l ∷ lines) =
    let a : Arrival = record { at = k; line = l } in
    let rest = filter (λ a. not (is_early (done ++ steps) a)) (arrivals_at_moment k lines) in
    ap (λ x. cond (not x) (a ∷ rest) rest) (is_touched arrivals k l done steps b f)
    ∙ ap (λ u. cond (not (is_touched_line (trace_of arrivals steps) l)) (a ∷ u) u) (moment_late arrivals k done steps b f lines)
    ∙ out (is_touched_line (trace_of arrivals steps) l) k l (untouched_lines_of (trace_of arrivals steps) lines)
  where
    out : (x : Bool) (k l : ℕ) (u : List ℕ) → cond (not x) (record { at = k; line = l } ∷ arrivals_at_moment k u) (arrivals_at_moment k u) ≡ arrivals_at_moment k (cond x u (l ∷ u))
    out true k l u = refl
    out false k l u = refl

are_before : (k : ℕ) (done : List Step) (s : Step) → AreBefore k done → s.count ≡ k → AreBefore (k + 1) (done ++ s ∷ [])
are_before k [] s h e = (omega arith, tt)
are_before k (d ∷ done) s h e = (let l = h.0 in omega arith, are_before k done s h.1 e)

pub early_is : (arrivals : List Arrival) → AreRisingMoments 0 arrivals → (k : ℕ) (done steps : List Step) → AreBefore k done → AreFrom k steps
    → filter (is_early (done ++ steps)) (moments k (k + length steps) arrivals) ≡ arrivals_before_event k (trace_of arrivals steps)
early_is arrivals up k done [] b f =
    let e : k + 0 ≡ k = omega arith in
    ap (λ n. filter (is_early (done ++ [])) (moments k n arrivals)) e ∙ ap (filter (is_early (done ++ []))) (moments-none k arrivals)
early_is arrivals up k done (s ∷ steps) b f =
    let p = is_early (done ++ s ∷ steps) in
    let n : k + suc (length steps) ≡ k + 1 + length steps = omega arith in
    ap (filter p) (moments-split 0 k (k + 1) (k + suc (length steps)) arrivals up (omega arith) (omega arith))
    ∙ filter-append p (moments k (k + 1) arrivals) (moments (k + 1) (k + suc (length steps)) arrivals)
    ∙ ap (λ u. filter p u ++ filter p (moments (k + 1) (k + suc (length steps)) arrivals)) (moment_is k arrivals)
    ∙ ap (λ u. u ++ filter p (moments (k + 1) (k + suc (length steps)) arrivals)) (moment_early arrivals k done (s ∷ steps) b f (lines_at arrivals k))
    ∙ ap (λ m. arrivals_at_moment k (touched_lines_of (trace_of arrivals (s ∷ steps)) (lines_at arrivals k)) ++ filter p (moments (k + 1) m arrivals)) n
    ∙ ap (λ q. arrivals_at_moment k (touched_lines_of (trace_of arrivals (s ∷ steps)) (lines_at arrivals k)) ++ filter (is_early q) (moments (k + 1) (k + 1 + length steps) arrivals)) (sym (append_assoc done (s ∷ []) steps))
    ∙ ap (λ u. arrivals_at_moment k (touched_lines_of (trace_of arrivals (s ∷ steps)) (lines_at arrivals k)) ++ u) (early_is arrivals up (k + 1) (done ++ s ∷ []) steps (are_before k done s b f.0) f.1)
    ∙ ap (λ m. arrivals_at_moment k (touched_lines_of (trace_of arrivals (s ∷ steps)) (lines_at arrivals m)) ++ arrivals_before_event (k + 1) (trace_of arrivals steps)) (sym f.0)

pub late_is : (arrivals : List Arrival) → AreRisingMoments 0 arrivals → (k : ℕ) (done steps : List Step) → AreBefore k done → AreFrom k steps
    → filter (λ a. not (is_early (done ++ steps) a)) (moments k (k + length steps) arrivals) ≡ arrivals_behind_event k (trace_of arrivals steps)
late_is arrivals up k done [] b f =
    let e : k + 0 ≡ k = omega arith in
    ap (λ n. filter (λ a. not (is_early (done ++ []) a)) (moments k n arrivals)) e ∙ ap (filter (λ a. not (is_early (done ++ []) a))) (moments-none k arrivals)
late_is arrivals up k done (s ∷ steps) b f =
    let p : Arrival → Bool = λ a. not (is_early (done ++ s ∷ steps) a) in
    let n : k + suc (length steps) ≡ k + 1 + length steps = omega arith in
    ap (filter p) (moments-split 0 k (k + 1) (k + suc (length steps)) arrivals up (omega arith) (omega arith))
    ∙ filter-append p (moments k (k + 1) arrivals) (moments (k + 1) (k + suc (length steps)) arrivals)
    ∙ ap (λ u. filter p u ++ filter p (moments (k + 1) (k + suc (length steps)) arrivals)) (moment_is k arrivals)
    ∙ ap (λ u. u ++ filter p (moments (k + 1) (k + suc (length steps)) arrivals)) (moment_late arrivals k done (s ∷ steps) b f (lines_at arrivals k))
    ∙ ap (λ m. arrivals_at_moment k (untouched_lines_of (trace_of arrivals (s ∷ steps)) (lines_at arrivals k)) ++ filter p (moments (k + 1) m arrivals)) n
    ∙ ap (λ q. arrivals_at_moment k (untouched_lines_of (trace_of arrivals (s ∷ steps)) (lines_at arrivals k)) ++ filter (λ a. not (is_early q a)) (moments (k + 1) (k + 1 + length steps) arrivals)) (sym (append_assoc done (s ∷ []) steps))
    ∙ ap (λ u. arrivals_at_moment k (untouched_lines_of (trace_of arrivals (s ∷ steps)) (lines_at arrivals k)) ++ u) (late_is arrivals up (k + 1) (done ++ s ∷ []) steps (are_before k done s b f.0) f.1)
    ∙ ap (λ m. arrivals_at_moment k (untouched_lines_of (trace_of arrivals (s ∷ steps)) (lines_at arrivals m)) ++ arrivals_behind_event (k + 1) (trace_of arrivals steps)) (sym f.0)
