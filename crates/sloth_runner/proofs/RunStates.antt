-- What is seen last of a run, instruction by instruction; and that a run shows one thing.
use Rattle.std.proofs.Common.{◌≡◌, ◌<◌, ◌≤◌, ◌+◌, ℕ, List, Option, Some, None, Bool, true, false, if◌then◌else◌, refl, sym, ◌∙◌, ap, subst, arith, ⊎_elim}
use Rattle.std.specs.Option.{option_or}
use Rattle.std.proofs.lemmas.Bool.{cases_lt}
use Rattle.sloth_base.specs.declared.image.Image.{Image}
use Rattle.sloth_base.specs.declared.service.Arrival.{Arrival}
use Rattle.sloth_base.specs.Machine.{State}
use Rattle.sloth_base.specs.Take.{execution_state}
use Rattle.rv32_instr.specs.declared.encoding.Stop.{Stop}
use Rattle.rv32_machine.specs.Start.{start}
use Rattle.rv32_machine.specs.Advance.{Halts}
use Rattle.rv32_machine.specs.Run.{state_with_arrivals, moment, state_after}
use Rattle.rv32_machine.proofs.Runs.{stop_halts, stop_none}
use Rattle.sloth_runner.specs.declared.runner.Runner.{Runner}
use Rattle.sloth_runner.specs.Runner.{HasRun, end_of, image_of, given_arrivals, count_of}
use Rattle.sloth_runner.specs.Moments.{sloth_state}
use Rattle.sloth_runner.specs.declared.runner.RunEnd.TheVariants as ends
use Rattle.sloth_runner.specs.declared.task_states.Seen.{Seen}
use Rattle.sloth_runner.specs.declared.task_states.Sight.{Sight}
use Rattle.sloth_runner.specs.declared.task_states.Sight.TheVariants as sights
use Rattle.sloth_runner.specs.TaskStates.{task_states, running_task, AreMasked, AreLastStates, AreStatesAt, IsLast, image_states}
use Rattle.sloth_runner.proofs.WholeRuns.{states_behind_run}

module _ (image : Image) (A : List Arrival) where
  -- ---- one count more

  masked-more : (from k : ℕ) (m : State) → state_after k A (start image) ≡ Some m → m.core.mie ≡ false → AreMasked image A from k → AreMasked image A from (k + 1)
  masked-more from k m after off masked count state f l found =
      ⊎_elim (λ (before : count < k). masked count state f before found)
      (λ (le : k ≤ count).
      let e : k ≡ count = omega arith in
      let same : Some m ≡ Some state = sym after ∙ ap (λ n. state_after n A (start image)) e ∙ found in
      cc)
      (cases_lt count k)

  still-last : (k : ℕ) (m : State) (last : Option Seen) → state_after k A (start image) ≡ Some m → m.core.mie ≡ false → IsLast image A k last → IsLast image A (k + 1) last
  still-last k m None after off is = masked-more 0 k m after off is
  still-last k m (Some seen) after off is = record {
    state = is.state;
    within = (let w = is.within in omega arith);
    after = is.after;
    enabled = is.enabled;
    tasks = is.tasks;
    running = is.running;
    last = masked-more (seen.count + 1) k m after off is.last;
  }

  last-more : (k : ℕ) (m : State) (last : Option Seen) → state_after k A (start image) ≡ Some m → IsLast image A k last
      → IsLast image A (k + 1) (option_or (image_states image k (state_with_arrivals A k m)) last)
  last-more k m last after is = by m.core.mie refl
    where
      by : (b : Bool) → m.core.mie ≡ b
          → IsLast image A (k + 1) (option_or (if b then Some (record { count = k; tasks = task_states image (state_with_arrivals A k m); running = running_task (state_with_arrivals A k m) }) else None) last)
      by true on = record {
        state = m;
        within = omega arith;
        after = after;
        enabled = on;
        tasks = refl;
        running = refl;
        last = λ count state f l found. absurd (omega arith);
      }
      by false off = still-last k m last after off is

  -- the same of what was looked at
  pub last-behind : (k : ℕ) (m looked : State) (shows : Image) (seen last : Option Seen) → state_after k A (start image) ≡ Some m → IsLast image A k last
      → shows ≡ image → looked ≡ state_with_arrivals A k m → seen ≡ image_states shows k looked → IsLast image A (k + 1) (option_or seen last)
  last-behind k m looked shows seen last after is same there e =
      let L : Option Seen → Type 0 = λ o. IsLast image A (k + 1) (option_or o last) in
      subst L (sym (e ∙ ap (λ (i : Image). image_states i k looked) same ∙ ap (image_states image k) there)) (last-more k m last after is)

  -- ---- the end

  sight-whole : (k : ℕ) (m : State) (last : Option Seen) → state_after (k + 1) A (start image) ≡ Some m → IsLast image A (k + 1) last → AreStatesAt image A k (states_behind_run last)
  sight-whole k m None after is = (ap end_of (stop_none (k + 1) A 0 (start image) m after), is)
  sight-whole k m (Some seen) after is = (ap end_of (stop_none (k + 1) A 0 (start image) m after), is)

  pub sight-stopped : (k n pc : ℕ) (m : State) (stop : Stop) → k < n + 1 → state_after k A (start image) ≡ Some m → moment A k m ≡ Halts stop
      → pc ≡ (execution_state (state_with_arrivals A k m)).pc → AreStatesAt image A n (sights.Stopped pc stop)
  sight-stopped k n pc m stop below after halts is =
      ap end_of (stop_halts (n + 1) k A (start image) m stop below after halts) ∙ ap (λ p. ends.Stopped p stop) (sym is)

  -- ---- it is one

  not-later : (n : ℕ) (a b : Seen) → AreLastStates image A n a → AreLastStates image A n b → a.count < b.count → ⊥
  not-later n a b h k below =
      let off = h.last b.count k.state (omega arith) k.within k.after in
      let on = k.enabled in
      cc

  same-count : (n : ℕ) (a b : Seen) → AreLastStates image A n a → AreLastStates image A n b → a.count ≡ b.count
  same-count n a b h k =
      ⊎_elim (λ (l : a.count < b.count). absurd (not-later n a b h k l))
      (λ (l : b.count ≤ a.count).
      ⊎_elim (λ (m : b.count < a.count). absurd (not-later n b a k h m)) (λ (m : a.count ≤ b.count). omega arith) (cases_lt b.count a.count))
      (cases_lt a.count b.count)

  one-seen : (n : ℕ) (a b : Seen) → AreLastStates image A n a → AreLastStates image A n b → a ≡ b
  one-seen n a b h k =
      let count = same-count n a b h k in
      let found : Some h.state ≡ Some k.state = sym h.after ∙ ap (λ c. state_after c A (start image)) count ∙ k.after in
      let state : h.state ≡ k.state = cc in
      let tasks : a.tasks ≡ b.tasks =
      h.tasks ∙ ap (λ c. task_states image (state_with_arrivals A c h.state)) count ∙ ap (λ (x : State). task_states image (state_with_arrivals A b.count x)) state ∙ sym k.tasks in
      let running : a.running ≡ b.running =
      h.running ∙ ap (λ c. running_task (state_with_arrivals A c h.state)) count ∙ ap (λ (x : State). running_task (state_with_arrivals A b.count x)) state ∙ sym k.running in
      ap (λ c. record { count = c; tasks = a.tasks; running = a.running }) count ∙ ap (λ ts. record { count = b.count; tasks = ts; running = a.running }) tasks
      ∙ ap (λ r. record { count = b.count; tasks = b.tasks; running = r }) running

  -- what is seen is not masked
  not-masked : (n : ℕ) (a : Seen) → AreLastStates image A n a → AreMasked image A 0 n → ⊥
  not-masked n a h masked = let off = masked a.count h.state (omega arith) h.within h.after in let on = h.enabled in cc

  -- what was seen last is one
  pub one-last : (n : ℕ) (a b : Option Seen) → IsLast image A n a → IsLast image A n b → a ≡ b
  one-last n None None h k = refl
  one-last n None (Some b) h k = absurd (not-masked n b k h)
  one-last n (Some a) None h k = absurd (not-masked n a h k)
  one-last n (Some a) (Some b) h k = ap Some (one-seen n a b h k)

  pub one_sight : (k : ℕ) (a b : Sight) → AreStatesAt image A k a → AreStatesAt image A k b → a ≡ b
  one_sight k (sights.Stopped p x) (sights.Stopped q y) h l = let e = sym h ∙ l in cc
  one_sight k (sights.Stopped p x) sights.Booting h l = let e = sym h ∙ l.0 in cc
  one_sight k (sights.Stopped p x) (sights.At b) h l = let e = sym h ∙ l.0 in cc
  one_sight k sights.Booting (sights.Stopped q y) h l = let e = sym h.0 ∙ l in cc
  one_sight k sights.Booting sights.Booting h l = refl
  one_sight k sights.Booting (sights.At b) h l = absurd (not-masked (k + 1) b l.1 h.1)
  one_sight k (sights.At a) (sights.Stopped q y) h l = let e = sym h.0 ∙ l in cc
  one_sight k (sights.At a) sights.Booting h l = absurd (not-masked (k + 1) a h.1 l.1)
  one_sight k (sights.At a) (sights.At b) h l = ap sights.At (one-seen (k + 1) a b h.1 l.1)

-- what the run of a runner shows that did not stop
pub sight-behind : (r0 r : Runner) (k : ℕ) (last : Option Seen) → HasRun r (image_of r0) (count_of r) → given_arrivals r ≡ given_arrivals r0
    → IsLast (image_of r0) (given_arrivals r0) (count_of r) last → count_of r ≡ k + 1 → AreStatesAt (image_of r0) (given_arrivals r0) k (states_behind_run last)
sight-behind r0 r k last ran same is all =
    let N : ℕ → Type 0 = λ n. state_after n (given_arrivals r0) (start (image_of r0)) ≡ Some (sloth_state r.machine) in
    let L : ℕ → Type 0 = λ n. IsLast (image_of r0) (given_arrivals r0) n last in
    sight-whole (image_of r0) (given_arrivals r0) k (sloth_state r.machine) last
    (subst N all (ap (λ A. state_after (count_of r) A (start (image_of r0))) (sym same) ∙ ran.after)) (subst L all is)
