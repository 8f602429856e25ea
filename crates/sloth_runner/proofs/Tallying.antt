-- The numbers of events of each kind.
use Rattle.std.proofs.Common.{◌≡◌, ◌∙◌, ⊎_elim, ℕ, ◌+◌, ◌<◌, ◌≤◌, ◌^◌, List, [], ◌∷◌, ◌++◌, length, get_or, set, length-append, append_assoc, append-nil, arith, sym, ap}
use Rattle.std.specs.Prelude.{◌==◌, cond, slice_index}
use Rattle.std.specs.List.{All}
use Rattle.std.proofs.lemmas.List.{ext_get_or, get_or-set_same, get_or-set_other, length-set}
use Rattle.std.proofs.lemmas.List.Sums.{sum_by-append, count_by-le-length}
use Rattle.std.proofs.lemmas.List.FromFn.{get_or-map-range_with_len}
use Rattle.std.proofs.lemmas.Bool.Decides.{eqb_tells}
use Rattle.sloth_base.specs.declared.service.Event.{Event}
use Rattle.sloth_base.specs.declared.service.Event.TheVariants as event
use Rattle.sloth_base.specs.declared.service.Stamped.{Stamped}
use Rattle.sloth_base.specs.Limits.{arrival_limit, count_limit}
use Rattle.trace_text.specs.EventWords.{kind_of}
use Rattle.trace_text.specs.Summary.{count_of_kind, counts_of}
use Rattle.observe.specs.Progress.{remaining}
use Rattle.sim_induction.specs.Sound.{events_of}
use Rattle.sloth_runner.specs.Moments.{counts_with_one, counts_with}
use Rattle.sloth_runner.specs.Runner.{IsAdvance, AreAddedEvents, image_of, given_arrivals, count_of}
use Rattle.sloth_runner.proofs.RunInvariants.{IsBehindRun}
use Rattle.sloth_runner.specs.declared.runner.Runner.{Runner}
use Rattle.sloth_runner.proofs.Running.{adds-at}
use Rattle.sloth_runner.proofs.Turning.{advanced-adds}
use Rattle.sloth_runner.proofs.Bounded.{few-events}

-- the number of a kind
at : (events : List Stamped) (kind d : ℕ) → kind < 10 → get_or (counts_of events) kind d ≡ count_of_kind events kind
at events kind d h = get_or-map-range_with_len (count_of_kind events) 0 10 kind kind d h (omega arith)

-- one event more
one-of : (events : List Stamped) (e : Stamped) (kind : ℕ) → count_of_kind (events ++ e ∷ []) kind ≡ count_of_kind events kind + cond (kind_of e.event == kind) 1 0
one-of events e kind =
    let one : 0 + cond (kind_of e.event == kind) 1 0 ≡ cond (kind_of e.event == kind) 1 0 = omega arith in
    sum_by-append (λ (x : Stamped). cond (kind_of x.event == kind) 1 0) events (e ∷ []) ∙ ap (λ k. count_of_kind events kind + k) one

kind-below : (e : Event) → kind_of e < 10
kind-below event.Boot = omega arith
kind-below e = omega arith

one-more : (events : List Stamped) (e : Stamped) → counts_with_one (counts_of events) e ≡ counts_of (events ++ e ∷ [])
one-more events e =
    let k = kind_of e.event in
    let below = kind-below e.event in
    let old = counts_of events in
    let v = slice_index old k + 1 in
    ext_get_or 0 (set old k v) (counts_of (events ++ e ∷ [])) (length-set old k v) (λ i h.
    let size = length-set old k v in
    let inside : i < 10 = omega (arith, size, h) in
    let new = sym (one-of events e i) ∙ sym (at (events ++ e ∷ []) i 0 inside) in
    ⊎_elim
    (λ yes. ap (λ j. get_or (set old k v) j 0) (sym yes.1) ∙ get_or-set_same old k v 0 below ∙ ap (λ x. x + 1) (at events k 0 below)
    ∙ ap (λ j. count_of_kind events j + 1) yes.1 ∙ sym (ap (λ b. count_of_kind events i + cond b 1 0) yes.0) ∙ new)
    (λ no. let same : count_of_kind events i ≡ count_of_kind events i + 0 = omega arith in
    get_or-set_other old k i v 0 (λ q. no.1 (sym q)) ∙ at events i 0 inside ∙ same ∙ sym (ap (λ b. count_of_kind events i + cond b 1 0) no.0) ∙ new)
    (eqb_tells k i))

counted-counts : (events more : List Stamped) → counts_with (counts_of events) more ≡ counts_of (events ++ more)
counted-counts events [] = ap counts_of (sym (append-nil events))
counted-counts events (e ∷ rest) =
    ap (λ counts. counts_with counts rest) (one-more events e) ∙ counted-counts (events ++ e ∷ []) rest ∙ ap counts_of (append_assoc events (e ∷ []) rest)

-- each number is that of some events, and small where they are few
counts-small : (events : List Stamped) (more most : ℕ) → length events + more < most → All (λ number. number + more < most) (counts_of events)
counts-small events more most h k d l =
    let is = at events k d l in
    let few = count_by-le-length (λ (e : Stamped). kind_of e.event == k) events in omega (arith, is, few, h)

-- the events of an instruction that was done, in terms of what the run began with
pub adds-of : (r0 r p : Runner) (k : ℕ) → IsBehindRun r0 r k → IsAdvance r p → given_arrivals p ≡ given_arrivals r → AreAddedEvents (image_of r0) (given_arrivals r0) k (remaining p.observer)
adds-of r0 r p k ran advanced same =
    adds-at (image_of r) (image_of r0) (given_arrivals r) (given_arrivals r0) (count_of r) k (remaining p.observer) ran.image ran.arrivals ran.count (advanced-adds r p ran.running advanced same)

-- there is room for them
pub room-of : (r0 r p : Runner) (k : ℕ) → IsBehindRun r0 r k → IsAdvance r p → given_arrivals p ≡ given_arrivals r → length (given_arrivals r0) ≤ arrival_limit → k < count_limit
    → All (λ number. number + length (remaining p.observer) < 2 ^ 32) (counts_of (events_of (image_of r0) (given_arrivals r0) k))
room-of r0 r p k ran advanced same few short =
    let adds = ap length (adds-of r0 r p k ran advanced same) in
    let all = few-events (image_of r0) (given_arrivals r0) (k + 1) in
    let both = length-append (events_of (image_of r0) (given_arrivals r0) k) (remaining p.observer) in
    counts-small (events_of (image_of r0) (given_arrivals r0) k) (length (remaining p.observer)) (2 ^ 32) (omega (arith, adds, all, both, few, short))

-- the numbers behind an instruction
pub counts-behind : (r0 r p : Runner) (k : ℕ) → IsBehindRun r0 r k → IsAdvance r p → given_arrivals p ≡ given_arrivals r
    → counts_with (counts_of (events_of (image_of r0) (given_arrivals r0) k)) (remaining p.observer) ≡ counts_of (events_of (image_of r0) (given_arrivals r0) (k + 1))
counts-behind r0 r p k ran advanced same =
    counted-counts (events_of (image_of r0) (given_arrivals r0) k) (remaining p.observer) ∙ ap counts_of (sym (adds-of r0 r p k ran advanced same))
