-- The arrivals of the next moment, and what they find.
use Rattle.std.proofs.Common.{◌≡◌, ◌∙◌, ◌+◌, ◌<◌, suc, ℕ, List, [], ◌∷◌, ◌++◌, length, take, drop, get_or, replicate, slice_set, sym, ap, arith, add-one, drop-cons, append_assoc}
use Rattle.sloth_base.specs.Arrivals.{moments}
use Rattle.sloth_base.specs.MemoryMap.{line_count}
use Rattle.sloth_base.specs.declared.service.Arrival.{Arrival}
use Rattle.sloth_base.specs.declared.image.Image.{Image}
use Rattle.observe.specs.Progress.{arrivals_from, arrivals_due}
use Rattle.observe.proofs.Moments.{here-from}
use Rattle.rv32_instr.specs.Memory.{Memory, memory_of}
use Rattle.rv32_machine.specs.Start.{start}
use Rattle.rv32_machine.specs.Run.{state_after}
use Rattle.run_samples.specs.Accesses.{arrival_access, arrival_accesses, accesses_at}
use Rattle.sloth_runner.specs.Moments.{sloth_state}
use Rattle.sloth_runner.specs.Runner.{HasRun, given_arrivals, count_of}
use Rattle.run_samples.specs.declared.accesses.Access.{Access}
use Rattle.sloth_runner.specs.declared.runner.Runner.{Runner}
use Rattle.sloth_runner.proofs.Turning.{front-is, weaker}

-- the arrivals of the next moment
due-is : (r : Runner) (image : Image) (k : ℕ) → HasRun r image k
    → take (length (arrivals_due (count_of r) r.coming.now)) r.coming.now ≡ moments k (k + 1) (given_arrivals r)
due-is r image k ran =
    let H : ℕ → List Arrival → List Arrival = λ c xs. take (length (arrivals_due c xs)) xs in
    ap (λ c. H c r.coming.now) ran.count ∙ ap (H k) ran.coming ∙ front-is _ (arrivals_from k (given_arrivals r))
    ∙ here-from 0 k (given_arrivals r) (weaker 1 0 (given_arrivals r) (omega arith) ran.arrivals.ordered)

pub noted_is : (r : Runner) (image : Image) (k : ℕ) (memory : Memory) (due : List Arrival) (old new : List Access) → HasRun r image k
    → due ≡ take (length (arrivals_due (count_of r) r.coming.now)) r.coming.now → memory ≡ memory_of (sloth_state r.machine).core
    → new ≡ old ++ arrival_accesses memory (replicate line_count 0) due → new ≡ old ++ accesses_at (given_arrivals r) k (state_after k (given_arrivals r) (start image))
noted_is r image k memory due old new ran first is noted =
    let A : List Arrival = given_arrivals r in
    let N : Memory → List Arrival → List Access = λ m d. old ++ arrival_accesses m (replicate line_count 0) d in
    noted ∙ ap (λ m. N m due) is ∙ ap (N (memory_of (sloth_state r.machine).core)) (first ∙ due-is r image k ran)
    ∙ ap (λ s. old ++ accesses_at A k s) (sym ran.after)

-- one arrival more of a moment
pub arrival_more : (bus b : Memory) (raised next : List ℕ) (xs : List Arrival) (i : ℕ) (x : Arrival) (found : Access) (all old new : List Access) → i < length xs
    → x ≡ get_or xs i x → b ≡ bus → found ≡ arrival_access b raised x → new ≡ old ++ found ∷ [] → next ≡ slice_set raised x.line 1
    → old ++ arrival_accesses bus raised (drop i xs) ≡ all → new ++ arrival_accesses bus next (drop (i + 1) xs) ≡ all
arrival_more bus b raised next xs i x found all old new within at same told pushed set before =
    let split : drop i xs ≡ x ∷ drop (i + 1) xs = rw add-one (drop-cons xs i x within ∙ ap (λ y. y ∷ drop (suc i) xs) (sym at)) in
    let rest : List Access = arrival_accesses bus (slice_set raised x.line 1) (drop (i + 1) xs) in
    let is : found ≡ arrival_access bus raised x = told ∙ ap (λ m. arrival_access m raised x) same in
    ap (λ r. new ++ arrival_accesses bus r (drop (i + 1) xs)) set ∙ ap (λ n. n ++ rest) pushed ∙ append_assoc old (found ∷ []) rest
    ∙ ap (λ f. old ++ f ∷ rest) is ∙ ap (λ l. old ++ arrival_accesses bus raised l) (sym split) ∙ before
