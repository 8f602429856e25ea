-- One instruction of a runner.
use Rattle.std.proofs.Common.{◌≡◌, ◌<◌, ◌≤◌, ◌+◌, ℕ, zero, suc, List, [], ◌∷◌, ◌++◌, Some, length, take, drop, map, refl, sym, ◌∙◌, ap, subst, arith}
use Rattle.std.specs.List.{All}
use Rattle.sloth_base.specs.Machine.{State}
use Rattle.sloth_base.specs.Arrivals.{moments, AreRisingMoments, AreArrivals}
use Rattle.sloth_base.specs.Arrive.{state_arrive}
use Rattle.sloth_base.specs.declared.image.Image.{Image}
use Rattle.sloth_base.specs.declared.service.Arrival.{Arrival}
use Rattle.sloth_base.specs.declared.service.Stamped.{Stamped}
use Rattle.sloth_base.specs.declared.numbers.Step.{Step}
use Rattle.sloth_base.specs.Owners.{owners_named, IsOwned}
use Rattle.sloth_base.specs.declared.numbers.Owners.{Owners}
use Rattle.sloth_base.specs.Limits.{task_limit, counter_limit}
use Rattle.sloth_base.specs.MemoryMap.{line_count}
use Rattle.sloth_base.proofs.Owners.{owned_below}
use Rattle.observe.specs.Observe.{observe, view_of_image}
use Rattle.observe.specs.Progress.{HasProgress, remaining, view_of, arrivals_of, expected_count, arrivals_from, arrivals_due, arrivals_behind}
use Rattle.observe.specs.declared.observing.Observer.{Observer}
use Rattle.observe.proofs.Moments.{here-from, behind-from}
use Rattle.observe.proofs.Growing.{observe-nothing}
use Rattle.rv32_machine.specs.Start.{start}
use Rattle.rv32_machine.specs.Advance.{StepOutcome, Goes, advance}
use Rattle.rv32_machine.specs.declared.machine.Machine.{Machine}
use Rattle.machine_memory.specs.declared.sloth.SlothBus.{SlothBus}
use Rattle.rv32_machine.specs.Run.{Moment, moment, moment_of, state_with_arrivals, run, run_from, steps_of, state_after}
use Rattle.sim_induction.specs.Sound.{events_of}
use Rattle.sloth_runner.specs.Moments.{AreLines, IsHandedOut, sloth_state}
use Rattle.sloth_runner.specs.Runner.{HasRun, HasDone, HasArrived, HasExecuted, IsAdvance, AreAddedEvents, IsRunning, image_of, given_arrivals, count_of, run_steps}
use Rattle.sloth_runner.specs.declared.runner.Runner.{Runner}
use Rattle.rv32_machine.proofs.Runs.{after_more, run_more}
use Rattle.std.proofs.lemmas.List.Elements.{All-drop}

pub front-is : {X : Type 0} (n : ℕ) (xs : List X) → take (length (take n xs)) xs ≡ take n xs
front-is zero xs = refl
front-is (suc n) [] = refl
front-is (suc n) (x ∷ xs) = ap (λ ys. x ∷ ys) (front-is n xs)

-- what doesn't fall from a moment on doesn't fall from an earlier one on
pub weaker : (m n : ℕ) (A : List Arrival) → n ≤ m → AreRisingMoments m A → AreRisingMoments n A
weaker m n [] le h = tt
weaker m n (a ∷ A) le h = (omega arith, h.1)

in-order : (r : Runner) (image : Image) (k : ℕ) → HasRun r image k → AreRisingMoments 0 (given_arrivals r)
in-order r image k ran = weaker 1 0 (given_arrivals r) (omega arith) ran.arrivals.ordered

-- the state with the arrivals of the next moment
pub arrived-is : (r : Runner) (image : Image) (k : ℕ) (h : List Arrival) (m : State) → HasRun r image k
    → h ≡ take (length (arrivals_due (count_of r) r.coming.now)) r.coming.now → m ≡ state_arrive (map (λ a. a.line) h) (sloth_state r.machine)
    → m ≡ state_with_arrivals (given_arrivals r) k (sloth_state r.machine)
arrived-is r image k h m st e n =
    let H : ℕ → List Arrival → List Arrival = λ c xs. take (length (arrivals_due c xs)) xs in
    let mine : h ≡ moments k (k + 1) (given_arrivals r) =
    e ∙ ap (λ c. H c r.coming.now) st.count ∙ ap (H k) st.coming ∙ front-is _ (arrivals_from k (given_arrivals r)) ∙ here-from 0 k (given_arrivals r) (in-order r image k st) in
    n ∙ ap (λ g. state_arrive (map (λ a. a.line) g) (sloth_state r.machine)) mine

-- where none is due nothing arrives
pub none-arrive : (r : Runner) → HasRun r (image_of r) (count_of r) → length (arrivals_due (count_of r) r.coming.now) ≡ 0 → HasArrived r r
none-arrive r ran none = record {
  state = arrived-is r (image_of r) (count_of r) [] (sloth_state r.machine) ran (sym (ap (λ n. take n r.coming.now) none)) refl;
  coming = sym (ap (λ n. drop n r.coming.now) none);
  lines = ran.lines;
  count = refl;
}

map-append : (xs : List Moment) (m : Moment) → steps_of (xs ++ m ∷ []) ≡ steps_of xs ++ m.step ∷ []
map-append [] m = refl
map-append (x ∷ xs) m = ap (λ ss. x.step ∷ ss) (map-append xs m)

-- the steps of a run that goes on by one
steps-more : (k : ℕ) (A : List Arrival) (m0 m n : State) (s : Step) → state_after k A m0 ≡ Some m → moment A k m ≡ Goes s n → steps_of (run (k + 1) A m0) ≡ steps_of (run k A m0) ++ s ∷ []
steps-more k A m0 m n s h g = ap steps_of (run_more k A m0 m n s h g) ∙ map-append (run k A m0) (moment_of A k m s n)

-- what the machine does at a moment, behind its arrivals
pub moment-is : (r a : Runner) (o : StepOutcome) → HasArrived r a → advance (count_of a) (sloth_state a.machine) ≡ o
    → moment (given_arrivals r) (count_of r) (sloth_state r.machine) ≡ o
moment-is r a o arrived does =
    ap (advance (count_of r)) (sym arrived.state) ∙ ap (λ c. advance c (sloth_state a.machine)) (sym arrived.count) ∙ does

-- the machine after an instruction
pub machine-more : (r a q : Runner) (image : Image) (step : Step) → HasRun r image (count_of r) → HasArrived r a → HasExecuted a q step
    → given_arrivals q ≡ given_arrivals r → q.coming.now ≡ a.coming.now → HasRun q image (count_of r + 1)
machine-more r a q image step ran arrived executed same coming =
    let k : ℕ = count_of r in
    let A : List Arrival = given_arrivals r in
    let L : List Arrival → Type 0 = AreLines in
    let goes = moment-is r a (Goes step (sloth_state q.machine)) arrived executed.goes in
    record {
      arrivals = subst (λ B. AreArrivals (owners_named image) B) (sym same) ran.arrivals;
      lines = subst L (sym coming) arrived.lines;
      after = ap (λ B. state_after (k + 1) B (start image)) same ∙ after_more k A (start image) (sloth_state r.machine) (sloth_state q.machine) step ran.after goes;
      coming = coming ∙ arrived.coming ∙ ap (arrivals_behind k) ran.coming ∙ behind-from 0 k A (in-order r image k ran) ∙ ap (arrivals_from (k + 1)) (sym same);
      count = executed.count ∙ ap (λ c. c + 1) arrived.count;
    }

-- the events that an instruction adds
pub adds-is : (r : Runner) (image : Image) (k : ℕ) (s : Step) (n : State) (o : Observer) → HasDone r image k
    → moment (given_arrivals r) k (sloth_state r.machine) ≡ Goes s n
    → ((steps : List Step) (events : List Stamped) → HasProgress r.observer steps events → HasProgress o (steps ++ s ∷ []) events) → view_of o ≡ view_of r.observer → arrivals_of o ≡ given_arrivals r
    → AreAddedEvents image (given_arrivals r) k (remaining o)
adds-is r image k s n o st g fed view arrivals =
    let F : List Step = run_steps image (given_arrivals r) k in
    let f = fed F (events_of image (given_arrivals r) k) st.fed in
    ap (observe (view_of_image image) (given_arrivals r)) (steps-more k (given_arrivals r) (start image) (sloth_state r.machine) n s st.ran.after g)
    ∙ ap (λ w. observe w (given_arrivals r) (F ++ s ∷ [])) (sym (view ∙ st.view)) ∙ ap (λ B. observe (view_of o) B (F ++ s ∷ [])) (sym arrivals) ∙ sym f.told

-- the events of an instruction that was done
pub advanced-adds : (r p : Runner) → IsRunning r → (a : IsAdvance r p) → given_arrivals p ≡ given_arrivals r → AreAddedEvents (image_of r) (given_arrivals r) (count_of r) (remaining p.observer)
advanced-adds r p st a arrivals = adds-is r (image_of r) (count_of r) a.step (sloth_state p.machine) p.observer st a.goes a.fed a.view arrivals

-- what the machine has done, with another observer of the same arrivals
ran-beside : (p q : Runner) (image : Image) (k : ℕ) → HasRun p image k → given_arrivals q ≡ given_arrivals p → q.machine ≡ p.machine → q.coming.now ≡ p.coming.now
    → HasRun q image k
ran-beside p q image k ran same machine coming =
    let L : List Arrival → Type 0 = AreLines in
    record {
      arrivals = subst (λ B. AreArrivals (owners_named image) B) (sym same) ran.arrivals;
      lines = subst L (sym coming) ran.lines;
      after = ap (λ B. state_after k B (start image)) same ∙ ran.after ∙ ap (λ (m : Machine SlothBus). Some (sloth_state m)) (sym machine);
      coming = coming ∙ ran.coming ∙ ap (arrivals_from k) (sym same);
      count = ap (λ (m : Machine SlothBus). m.count) machine ∙ ran.count;
    }

-- the runner behind an instruction whose events were all handed out
done-more : (r p q : Runner) → IsRunning r → IsAdvance r p → given_arrivals p ≡ given_arrivals r → IsHandedOut p.observer q.observer
    → view_of q.observer ≡ view_of p.observer → arrivals_of q.observer ≡ arrivals_of p.observer → expected_count q.observer ≡ expected_count p.observer → remaining q.observer ≡ []
    → HasRun q (image_of r) (count_of r + 1) → HasDone q (image_of r) (count_of r + 1)
done-more r p q st a arrivals hands view same expected none ran =
    let image : Image = image_of r in
    let k : ℕ = count_of r in
    let A : List Arrival = given_arrivals r in
    let F : List Step = run_steps image A k in
    let E : List Stamped = events_of image A k in
    let more = steps-more k A (start image) (sloth_state r.machine) (sloth_state p.machine) a.step st.ran.after a.goes in
    let adds = advanced-adds r p st a arrivals in
    let fed = hands (F ++ a.step ∷ []) E (a.fed F E st.fed) in
    let G : List Step → Type 0 = λ K. HasProgress q.observer K (E ++ remaining p.observer) in
    let H : List Stamped → Type 0 = λ es. HasProgress q.observer (run_steps image A (k + 1)) es in
    let P : List Arrival → Type 0 = λ B. HasProgress q.observer (run_steps image B (k + 1)) (events_of image B (k + 1)) in
    record {
      format = st.format;
      ran = ran;
      view = view ∙ a.view ∙ st.view;
      fed = subst P (sym (same ∙ arrivals)) (subst H (sym adds) (subst G (sym more) fed));
      drained = none;
      expected = expected ∙ a.expected ∙ ap (λ c. c + 1) st.expected;
    }

-- a runner behind k instructions is between two
pub running-at : (q : Runner) (k : ℕ) → HasDone q q.image.now k → IsRunning q
running-at q k st = let P : ℕ → Type 0 = λ n. HasDone q q.image.now n in subst P (sym st.ran.count) st

-- the runner behind an instruction, once its events were handed out
pub running-behind : (r p q : Runner) → IsRunning r → IsAdvance r p → image_of q ≡ image_of r → given_arrivals p ≡ given_arrivals r → IsHandedOut p.observer q.observer
    → view_of q.observer ≡ view_of p.observer → arrivals_of q.observer ≡ arrivals_of p.observer → expected_count q.observer ≡ expected_count p.observer → remaining q.observer ≡ []
    → q.machine ≡ p.machine → q.coming.now ≡ p.coming.now → IsRunning q
running-behind r p q st a image arrivals hands view same expected none machine coming =
    let P : Image → Type 0 = λ i. HasDone q i (count_of r + 1) in
    let ran = ran-beside p q (image_of r) (count_of r + 1) a.ran same machine coming in
    running-at q (count_of r + 1) (subst P (sym image) (done-more r p q st a arrivals hands view same expected none ran))

pub lines-drop : (n : ℕ) (A : List Arrival) → AreLines A → AreLines (drop n A)
lines-drop n A h = All-drop (λ (a : Arrival). a.line < line_count) n A h

-- lines that have owners are lines of the controller
pub controller-lines : (owners : Owners) (A : List Arrival) → owners.tasks ≤ task_limit → owners.counters ≤ counter_limit → All (λ (a : Arrival). IsOwned owners a.line) A → AreLines A
controller-lines owners A few counters h k d l = owned_below owners _ few counters (h k d l)

-- an observer that was fed nothing
pub first-fed : (o : Observer) (image : Image) → HasProgress o [] [] → HasProgress o (run_steps image (arrivals_of o) 0) (events_of image (arrivals_of o) 0)
unfolding run_from
first-fed o image f =
    let P : List Stamped → Type 0 = λ es. HasProgress o [] es in
    subst P (sym (observe-nothing (view_of_image image) (arrivals_of o))) f
