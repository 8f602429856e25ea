-- A run, instruction by instruction.
use Rattle.std.proofs.Common.{◌≡◌, ◌<◌, ◌+◌, ℕ, List, [], ◌∷◌, ◌++◌, Some, None, Bool, false, refl, sym, ◌∙◌, ap, subst, arith, append_assoc}
use Rattle.sloth_base.specs.Take.{execution_state}
use Rattle.sloth_base.specs.declared.image.Image.{Image}
use Rattle.sloth_base.specs.declared.service.Arrival.{Arrival}
use Rattle.sloth_base.specs.declared.service.Stamped.{Stamped}
use Rattle.sloth_io.specs.Sink.{Output, output_with, GainsPart}
use Rattle.sloth_io.proofs.Gains.{gains-gains, gains-nil, part-behind}
use Rattle.trace_text.specs.Texts.{text_after, text_in, ends_idle}
use Rattle.trace_text.specs.declared.events.Form.{Form}
use Rattle.trace_text.specs.declared.events.Form.TheVariants as form
use Rattle.trace_text.proofs.Appends.{text_after-append}
use Rattle.observe.specs.Observe.{observe, view_of_image}
use Rattle.observe.proofs.Growing.{observe-front, observe-nothing}
use Rattle.rv32_machine.specs.Start.{start}
use Rattle.rv32_machine.specs.Advance.{Halts}
use Rattle.rv32_machine.specs.Run.{Moment, moment, state_with_arrivals, run, run_from, steps_of, state_after}
use Rattle.rv32_machine.proofs.Runs.{run_halts, stop_halts, stop_none, run_front}
use Rattle.sim_induction.specs.Sound.{events_of}
use Rattle.sloth_runner.specs.Runner.{IsFresh, IsRunning, IsPrintedAdvance, IsBrokenAdvance, HasRunEnd, AreAddedEvents, image_of, given_arrivals, count_of, run_steps, run_text, run_end, end_of}
use Rattle.sloth_runner.proofs.RunInvariants.{IsBehindRun, IsBehindPrintedRun}
use Rattle.sloth_runner.specs.Moments.{sloth_state}
use Rattle.sloth_runner.specs.declared.runner.Runner.{Runner}
use Rattle.sloth_runner.specs.declared.runner.Printer.{Printer}
use Rattle.sloth_runner.specs.declared.runner.RunEnd.{RunEnd}

pub nothing-yet : (image : Image) (A : List Arrival) → events_of image A 0 ≡ []
unfolding run_from
nothing-yet image A = observe-nothing (view_of_image image) A

no-text : (image : Image) (form : Form) → text_after image form false [] ≡ []
no-text image form.Counted = refl
no-text image form.Bare = refl

pub running-init : (r : Runner) (form : Form) (printer : Printer) (t : Output) → IsFresh r → printer.after_idle ≡ false → printer.form ≡ form
    → printer.image.now ≡ image_of r → IsBehindPrintedRun r r form printer t t (count_of r)
running-init r form printer t f idle form_is printed =
    let P : ℕ → Type 0 = λ k. IsBehindPrintedRun r r form printer t t k in
    subst P (sym f.1) (record {
      ran = record { running = f.0; count = f.1; image = refl; arrivals = refl };
      taken = sym (gains-nil t) ∙ ap (output_with t) (sym (ap (text_in (image_of r) form) (nothing-yet (image_of r) (given_arrivals r)) ∙ no-text (image_of r) form));
      idle = idle ∙ sym (ap (ends_idle false) (nothing-yet (image_of r) (given_arrivals r)));
      form_is = form_is;
      printed = printed;
    })

-- behind one instruction more
pub ran-more : (r0 r q : Runner) (k : ℕ) → IsBehindRun r0 r k → IsRunning q → count_of q ≡ count_of r + 1 → image_of q ≡ image_of r → given_arrivals q ≡ given_arrivals r → IsBehindRun r0 q (k + 1)
ran-more r0 r q k ran running count image arrivals =
    record { running = running; count = count ∙ ap (λ n. n + 1) ran.count; image = image ∙ ran.image; arrivals = arrivals ∙ ran.arrivals }

-- the same events at equal things
pub adds-at : (i j : Image) (A B : List Arrival) (k n : ℕ) (es : List Stamped) → i ≡ j → A ≡ B → k ≡ n → AreAddedEvents i A k es → AreAddedEvents j B n es
adds-at i j A B k n es p q e h =
    let P : Image → Type 0 = λ x. AreAddedEvents x A k es in
    let Q : List Arrival → Type 0 = λ x. AreAddedEvents j x k es in
    let R : ℕ → Type 0 = λ x. AreAddedEvents j B x es in
    subst R e (subst Q q (subst P p h))

-- the text of one instruction more
text-more : (image : Image) (A : List Arrival) (form : Form) (k : ℕ) (es : List Stamped) → AreAddedEvents image A k es
    → run_text image A form (k + 1) ≡ run_text image A form k ++ text_after image form (ends_idle false (events_of image A k)) es
text-more image A form k es h = ap (text_in image form) h ∙ text_after-append image form false (events_of image A k) es

ends-append : (b : Bool) (es fs : List Stamped) → ends_idle b (es ++ fs) ≡ ends_idle (ends_idle b es) fs
ends-append b [] fs = refl
ends-append b (e ∷ es) fs = ends-append _ es fs

-- the text of some events, in terms of what the run began with
piece-at : (i j : Image) (f g : Form) (b c : Bool) (es : List Stamped) → i ≡ j → f ≡ g → b ≡ c → text_after i f b es ≡ text_after j g c es
piece-at i j f g b c es p q e = ap (λ x. text_after x f b es) p ∙ ap (λ x. text_after j x b es) q ∙ ap (λ x. text_after j g x es) e

running-more : (r0 r q : Runner) (form : Form) (before after : Printer) (t0 t u : Output) (k : ℕ) → IsBehindPrintedRun r0 r form before t0 t k → IsPrintedAdvance r q before after t u
    → image_of q ≡ image_of r → given_arrivals q ≡ given_arrivals r → after.form ≡ before.form → after.image.now ≡ before.image.now → IsBehindPrintedRun r0 q form after t0 u (k + 1)
running-more r0 r q form before after t0 t u k run w image arrivals form_is printed =
    let i0 : Image = image_of r0 in
    let A : List Arrival = given_arrivals r0 in
    let adds = adds-at (image_of r) i0 (given_arrivals r) A (count_of r) k w.events run.ran.image run.ran.arrivals run.ran.count w.adds in
    let piece = piece-at (image_of r) i0 before.form form before.after_idle (ends_idle false (events_of i0 A k)) w.events run.ran.image run.form_is run.idle in
    record {
      ran = ran-more r0 r q k run.ran w.running w.count image arrivals;
      taken = w.taken ∙ ap (output_with t) piece ∙ ap (λ x. output_with x (text_after i0 form (ends_idle false (events_of i0 A k)) w.events)) run.taken
          ∙ gains-gains t0 (run_text i0 A form k) (text_after i0 form (ends_idle false (events_of i0 A k)) w.events) ∙ ap (output_with t0) (sym (text-more i0 A form k w.events adds));
      idle = w.idle ∙ ap (λ b. ends_idle b w.events) run.idle ∙ sym (ends-append false (events_of i0 A k) w.events) ∙ ap (ends_idle false) (sym adds);
      form_is = form_is ∙ run.form_is;
      printed = printed ∙ run.printed;
    }

-- behind one instruction more
pub running-on : (r0 r q : Runner) (form : Form) (before after : Printer) (t0 t u : Output) → IsBehindPrintedRun r0 r form before t0 t (count_of r)
    → IsPrintedAdvance r q before after t u → image_of q ≡ image_of r → given_arrivals q ≡ given_arrivals r → after.form ≡ before.form → after.image.now ≡ before.image.now
    → IsBehindPrintedRun r0 q form after t0 u (count_of q)
running-on r0 r q form before after t0 t u run w image arrivals form_is printed =
    let P : ℕ → Type 0 = λ k. IsBehindPrintedRun r0 q form after t0 u k in
    subst P (sym w.count) (running-more r0 r q form before after t0 t u (count_of r) run w image arrivals form_is printed)

-- the state after the instructions that were done
after-is : (r0 r : Runner) (k : ℕ) → IsBehindRun r0 r k → state_after k (given_arrivals r0) (start (image_of r0)) ≡ Some (sloth_state r.machine)
after-is r0 r k ran =
    ap (λ n. state_after n (given_arrivals r0) (start (image_of r0))) (sym ran.count)
    ∙ ap (λ A. state_after (count_of r) A (start (image_of r0))) (sym ran.arrivals)
    ∙ ap (λ (i : Image). state_after (count_of r) (given_arrivals r) (start i)) (sym ran.image) ∙ ran.running.ran.after

halted-is : (r0 r : Runner) (k : ℕ) (e : RunEnd) → IsBehindRun r0 r k → (h : HasRunEnd r e) → moment (given_arrivals r0) k (sloth_state r.machine) ≡ Halts h.0
halted-is r0 r k e ran h =
    ap (λ A. moment A k (sloth_state r.machine)) (sym ran.arrivals) ∙ ap (λ n. moment (given_arrivals r) n (sloth_state r.machine)) (sym ran.count) ∙ h.1

-- a run that stops shows no more
pub stopped-events : (r0 r : Runner) (k n : ℕ) (e : RunEnd) → IsBehindRun r0 r k → HasRunEnd r e → k < n → events_of (image_of r0) (given_arrivals r0) k ≡ events_of (image_of r0) (given_arrivals r0) n
stopped-events r0 r k n e ran h lt =
    let i0 : Image = image_of r0 in
    ap (λ ms. observe (view_of_image i0) (given_arrivals r0) (steps_of ms))
    (sym (run_halts n k (given_arrivals r0) (start i0) (sloth_state r.machine) h.0 lt (after-is r0 r k ran) (halted-is r0 r k e ran h)))

pub stopped-text : (r0 r : Runner) (form : Form) (p : Printer) (t0 t u : Output) (k n : ℕ) (e : RunEnd) → IsBehindPrintedRun r0 r form p t0 t k → HasRunEnd r e → k < n → u ≡ t → u ≡ output_with t0 (run_text (image_of r0) (given_arrivals r0) form n)
stopped-text r0 r form p t0 t u k n e run h lt same =
    same ∙ run.taken ∙ ap (λ es. output_with t0 (text_in (image_of r0) form es)) (stopped-events r0 r k n e run.ran h lt)

pub stopped-end : (r0 r : Runner) (k n : ℕ) (e : RunEnd) → IsBehindRun r0 r k → HasRunEnd r e → k < n → e ≡ run_end (image_of r0) (given_arrivals r0) n
stopped-end r0 r k n e ran h lt =
    h.2 ∙ ap (λ A. end_of (Some (record { pc = (execution_state (state_with_arrivals A (count_of r) (sloth_state r.machine))).pc; stop = h.0 }))) ran.arrivals
    ∙ ap (λ c. end_of (Some (record { pc = (execution_state (state_with_arrivals (given_arrivals r0) c (sloth_state r.machine))).pc; stop = h.0 }))) ran.count
    ∙ ap end_of (sym (stop_halts n k (given_arrivals r0) (start (image_of r0)) (sloth_state r.machine) h.0 lt (after-is r0 r k ran) (halted-is r0 r k e ran h)))

pub whole-end : (r0 r : Runner) (k : ℕ) → IsBehindRun r0 r k → end_of None ≡ run_end (image_of r0) (given_arrivals r0) k
whole-end r0 r k ran = ap end_of (sym (stop_none k (given_arrivals r0) 0 (start (image_of r0)) (sloth_state r.machine) (after-is r0 r k ran)))

steps-append : (ms ns : List Moment) → steps_of (ms ++ ns) ≡ steps_of ms ++ steps_of ns
steps-append [] ns = refl
steps-append (m ∷ ms) ns = ap (λ ss. m.step ∷ ss) (steps-append ms ns)

-- a run that broke off put a front of the text
pub broken-text : (r0 r : Runner) (form : Form) (p : Printer) (t0 t u : Output) (k n : ℕ) → IsBehindPrintedRun r0 r form p t0 t k → IsBrokenAdvance r p t u → k < n → GainsPart t0 u (run_text (image_of r0) (given_arrivals r0) form n)
broken-text r0 r form p t0 t u k n run b lt =
    let i0 : Image = image_of r0 in
    let A : List Arrival = given_arrivals r0 in
    let adds = adds-at (image_of r) i0 (given_arrivals r) A (count_of r) k b.events run.ran.image run.ran.arrivals run.ran.count b.adds in
    let last : Bool = ends_idle false (events_of i0 A k) in
    let piece = piece-at (image_of r) i0 p.form form p.after_idle last b.events run.ran.image run.form_is run.idle in
    let P : List ℕ → Type 0 = λ x. GainsPart t u x in
    let front = run_front n (k + 1) A 0 (start i0) (omega arith) in
    let more = observe-front (view_of_image i0) A (run_steps i0 A (k + 1)) (steps_of front.0) in
    let all : events_of i0 A n ≡ events_of i0 A (k + 1) ++ more.0 =
    ap (λ ms. observe (view_of_image i0) A (steps_of ms)) front.1 ∙ ap (observe (view_of_image i0) A) (steps-append (run_from (k + 1) A 0 (start i0)) front.0) ∙ more.1 in
    let tail : List ℕ = text_after i0 form (ends_idle false (events_of i0 A (k + 1))) more.0 in
    part-behind t0 t u (run_text i0 A form k) (text_after i0 form last b.events) tail (run_text i0 A form n) run.taken (subst P piece b.taken)
    (ap (text_in i0 form) all ∙ text_after-append i0 form false (events_of i0 A (k + 1)) more.0
    ∙ ap (λ x. x ++ tail) (text-more i0 A form k b.events adds)
    ∙ append_assoc (run_text i0 A form k) (text_after i0 form last b.events) tail)
