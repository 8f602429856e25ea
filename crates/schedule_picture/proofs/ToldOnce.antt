-- Of each arrival of the counts it is told once what became of it.
use Rattle.std.proofs.Common.{◌≡◌, ◌∙◌, ◌≤◌, ◌<◌, ◌+◌, zero, suc, ℕ, List, [], ◌∷◌, ◌++◌, Option, Some, None, length, get_or, map, refl, sym, ap, subst, arith, append_assoc, append-nil}
use Rattle.std.specs.Prelude.{Bool, true, false, ◌==◌, ◌&&◌, if◌then◌else◌, replicate, slice_index, slice_set}
use Rattle.std.proofs.lemmas.List.{map-append}
use Rattle.sloth_base.specs.Arrivals.{moments, AreRisingMoments}
use Rattle.sloth_base.specs.MemoryMap.{line_count}
use Rattle.sloth_base.specs.Machine.{State}
use Rattle.sloth_base.specs.declared.service.Arrival.{Arrival}
use Rattle.sloth_base.specs.declared.image.Image.{Image}
use Rattle.sloth_base.specs.declared.numbers.Step.{Step}
use Rattle.rv32_instr.specs.Memory.{Memory, memory_of}
use Rattle.rv32_machine.specs.Start.{start}
use Rattle.rv32_machine.specs.Run.{state_after}
use Rattle.observe.proofs.Moments.{moments-none}
use Rattle.sim_induction.proofs.Schedule.{moments-split}
use Rattle.run_samples.specs.Accesses.{arrival_kind, arrival_access, arrival_accesses, accesses_at, access_of, can_raise, code_access, fetched, stored_line_of}
use Rattle.run_samples.specs.Admissions.{Notes, no_notes, is_by_code, admission_of, admissions_of, with_accesses, with_code, with_sample, settled, run_notes, run_admissions}
use Rattle.run_samples.specs.Samples.{IsSample, AreSamples, no_sample, seen_behind}
use Rattle.run_samples.specs.declared.accesses.Access.{Access}
use Rattle.run_samples.specs.declared.admissions.Admission.{Admission}
use Rattle.sloth_runner.specs.declared.task_states.Seen.{Seen}
use Rattle.run_samples.specs.declared.samples.Sample.{Sample}
use Rattle.run_samples.proofs.Noted.{found_at}

-- the arrivals of which it is told what became of them
abbrev told_of : List Admission → List Arrival
told_of all = map (λ (a : Admission). a.arrival) all

-- those among accesses, which are not by code
abbrev arrived : List Access → List Arrival
arrived [] = []
arrived (x ∷ xs) = if is_by_code x.kind then arrived xs else x.arrival ∷ arrived xs

arrived-append : (xs ys : List Access) → arrived (xs ++ ys) ≡ arrived xs ++ arrived ys
arrived-append [] ys = refl
arrived-append (x ∷ xs) ys = by (is_by_code x.kind) (arrived-append xs ys)
  where
    by : (b : Bool) → arrived (xs ++ ys) ≡ arrived xs ++ arrived ys → (if b then arrived (xs ++ ys) else x.arrival ∷ arrived (xs ++ ys)) ≡ (if b then arrived xs else x.arrival ∷ arrived xs) ++ arrived ys
    by true e = e
    by false e = ap (λ l. x.arrival ∷ l) e

settling : (seen : Option Seen) (xs : List Access) → told_of (admissions_of seen xs) ≡ arrived xs
settling seen [] = refl
settling seen (x ∷ xs) = by (is_by_code x.kind) (settling seen xs)
  where
    by : (b : Bool) → told_of (admissions_of seen xs) ≡ arrived xs → told_of (if b then admissions_of seen xs else admission_of seen x xs ∷ admissions_of seen xs) ≡ (if b then arrived xs else x.arrival ∷ arrived xs)
    by true e = e
    by false e = ap (λ l. x.arrival ∷ l) e

-- arrivals are not by code
not-by-code : (raises : Bool) → is_by_code (arrival_kind raises) ≡ false
not-by-code true = refl
not-by-code false = refl

all-arrived : (memory : Memory) (raised : List ℕ) (arrivals : List Arrival) → arrived (arrival_accesses memory raised arrivals) ≡ arrivals
all-arrived memory raised [] = refl
all-arrived memory raised (a ∷ arrivals) =
    let rest : List Arrival = arrived (arrival_accesses memory (slice_set raised a.line 1) arrivals) in
    ap (λ b. if b then rest else a ∷ rest) (not-by-code ((slice_index raised a.line == 0) && can_raise memory a.line))
    ∙ ap (λ l. a ∷ l) (all-arrived memory (slice_set raised a.line 1) arrivals)

-- what code does is
abbrev IsByCode : Option Access → Type 0
IsByCode None = Unit {0}
IsByCode (Some access) = is_by_code access.kind ≡ true

one-by-code : (count : ℕ) (stored touched : Option ℕ) → IsByCode (access_of count stored touched)
one-by-code count None None = tt
one-by-code count None (Some line) = refl
one-by-code count (Some stored) touched = refl

by-code : (step : Step) (memory : Memory) → IsByCode (code_access step memory)
by-code step memory = by step.enabled_before
  where
    by : (b : Bool) → IsByCode (if b then None else access_of step.count (stored_line_of (fetched memory step.pc) step.regs) step.touched)
    by true = tt
    by false = one-by-code step.count (stored_line_of (fetched memory step.pc) step.regs) step.touched

-- ---- notes

-- all arrivals that were noted
abbrev whole : Notes → List Arrival
whole notes = told_of notes.admissions ++ arrived notes.accesses

more-arrived : (notes : Notes) (more : List Access) → whole (with_accesses notes more) ≡ whole notes ++ arrived more
more-arrived notes more =
    ap (λ l. told_of notes.admissions ++ l) (arrived-append notes.accesses more) ∙ sym (append_assoc (told_of notes.admissions) (arrived notes.accesses) (arrived more))

same-settled : (notes : Notes) (seen : Option Seen) → told_of (settled notes seen).admissions ≡ whole notes
same-settled notes seen =
    map-append (λ (a : Admission). a.arrival) notes.admissions (admissions_of seen notes.accesses) ∙ ap (λ l. told_of notes.admissions ++ l) (settling seen notes.accesses)

same-code : (notes : Notes) (access : Option Access) → IsByCode access → whole (with_code notes access) ≡ whole notes
same-code notes None is = refl
same-code notes (Some access) is =
    let one : arrived (access ∷ []) ≡ [] = ap (λ b. if b then [] else access.arrival ∷ []) is in
    ap (λ l. told_of notes.admissions ++ l) (arrived-append notes.accesses (access ∷ []) ∙ ap (λ l. arrived notes.accesses ++ l) one ∙ append-nil (arrived notes.accesses))

same-sample : (notes : Notes) (x : Sample) → IsByCode x.access → whole (with_sample notes x) ≡ whole notes
same-sample notes x code = by x.interrupts.masked
  where
    by : (b : Bool) → whole (if b then with_code notes x.access else settled notes x.seen) ≡ whole notes
    by true = same-code notes x.access code
    by false = append-nil (told_of (settled notes x.seen).admissions) ∙ same-settled notes x.seen

-- ---- the counts of a run

module _ (image : Image) (A : List Arrival) where
  sample-at : (c : ℕ) (xs : List Sample) (j : ℕ) → AreSamples image A c xs → j < length xs → IsSample image A (c + j) (get_or xs j no_sample)
  sample-at c [] j are below = absurd (omega (arith, below))
  sample-at c (x ∷ xs) zero are below = let S : ℕ → Type 0 = λ n. IsSample image A n x in subst S (omega arith) are.0
  sample-at c (x ∷ xs) (suc j) are below =
      let S : ℕ → Type 0 = λ n. IsSample image A n (get_or xs j no_sample) in subst S (omega arith) (sample-at (c + 1) xs j are.1 (omega (arith, below)))

  module _ (xs : List Sample) (are : AreSamples image A 0 xs) (up : AreRisingMoments 0 A) (from : ℕ) where
    first-none : whole (run_notes image A xs from 0) ≡ []
    unfolding run_notes
    first-none = refl

    one-more : (k : ℕ) → run_notes image A xs from (suc k)
        ≡ with_sample (with_accesses (run_notes image A xs from k) (found_at image A (from + k))) (get_or xs (from + k) no_sample)
    unfolding run_notes
    one-more k = refl

    found : (n : ℕ) (x : Sample) → IsSample image A n x → arrived (found_at image A n) ≡ moments n (n + 1) A
    found n x is =
        ap (λ s. arrived (accesses_at A n s)) is.after ∙ all-arrived (memory_of is.state.core) (replicate line_count 0) (moments n (n + 1) A)

    noted : (k : ℕ) → from + k ≤ length xs → whole (run_notes image A xs from k) ≡ moments from (from + k) A
    noted zero few = first-none ∙ sym (ap (λ n. moments from n A) (let e : from + 0 ≡ from = omega arith in e) ∙ moments-none from A)
    noted (suc k) few =
        let n : ℕ = from + k in
        let x : Sample = get_or xs n no_sample in
        let S : ℕ → Type 0 = λ m. IsSample image A m x in
        let is : IsSample image A n x = subst S (omega arith) (sample-at 0 xs n are (omega (arith, few))) in
        let code : IsByCode x.access = subst IsByCode (sym is.access) (by-code is.step (memory_of is.behind.core)) in
        let old : Notes = run_notes image A xs from k in
        let last : n + 1 ≡ from + suc k = omega arith in
        ap whole (one-more k) ∙ same-sample (with_accesses old (found_at image A n)) x code ∙ more-arrived old (found_at image A n)
        ∙ ap (λ l. l ++ arrived (found_at image A n)) (noted k (omega (arith, few))) ∙ ap (λ l. moments from n A ++ l) (found n x is)
        ∙ sym (moments-split 0 from n (n + 1) A up (omega arith) (omega arith)) ∙ ap (λ m. moments from m A) last

    pub told_once : (k : ℕ) → from + k ≤ length xs → map (λ (a : Admission). a.arrival) (run_admissions image A xs from k) ≡ moments from (from + k) A
    told_once k few = same-settled (run_notes image A xs from k) (seen_behind image A (from + k)) ∙ noted k few
