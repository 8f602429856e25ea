-- Runs of images meet the bounds of computed costs.
use Rattle.std.proofs.Common.{refl, ◌≡◌, ℕ, ◌+◌, ◌-◌, ◌<◌, ◌≤◌, ◌⊎◌, inl, inr, sym, ◌∙◌, false, Bool, List, [], ◌∷◌, length, arith, Some, cond, true, ltb}
use Rattle.std.proofs.lemmas.Bool.{cases_Bool, cases_eq, cases_lt, true≢false}
use Rattle.std.specs.Prelude.{All}
use Rattle.std.proofs.lemmas.List.Elements.{All-head, All-tail}
use Rattle.sloth_base.specs.declared.config.Config.{Config}
use Rattle.sloth_base.specs.declared.app.App.{App}
use Rattle.sloth_base.specs.Named.{undeclared_task}
use Rattle.code_rules.specs.WellFormed.{WellFormed}
use Rattle.osek_scheduler.specs.Apart.{static_priority}
use Rattle.osek_scheduler.proofs.Facts.{Facts, facts}
use Rattle.load_text.specs.declared.load_line.Entry.{Entry}
use Rattle.load_text.specs.declared.load_line.Form.{Form}
use Rattle.load_text.specs.declared.load_line.Form.TheVariants as form
use Rattle.load_text.specs.LoadText.{is_of}
use Rattle.load_text.specs.Loads.{said, IsNumber}
use Rattle.run_windows.specs.declared.costs.Costs.{Costs}
use Rattle.run_windows.specs.declared.costs.Start.{Start}
use Rattle.run_windows.specs.Costs.{task, comes}
use Rattle.run_windows.specs.Windows.{Numbers, none_made, is_boot, is_target_made, IsSolution}
use Rattle.response_laws.specs.Demand
use Rattle.sim_induction.specs.Sound.{events_of}
use Rattle.response_laws.specs.Response.{EntersOnce, RespondsWithin}
use Rattle.response_laws.specs.SoundRuns.{IsLongestItem, IsCodeStart}
use Rattle.response_laws.proofs.Images.{images_respond_by_code}
use Rattle.run_costs.specs.RunCosts.{AreRunCosts}
use Rattle.run_windows.specs.RunWindows.{margin, lead_of, run_starts, start_at, run_window, IsStartWithin, AreRunBounds, AreTold}
use Rattle.run_responses.specs.Meeting.{AreCutTasks, ImagesMeetBounds}
use Rattle.run_responses.proofs.StartLists.{by_place}
use Rattle.run_responses.proofs.Coming.{closed}
use Rattle.run_responses.proofs.Never.{never_responds}
use Rattle.run_responses.proofs.Alarms.{is_set, marks}
use Rattle.run_responses.proofs.Rounds.{law_costs, fits_rounds, cut_as, is_full, is_whole}
use Rattle.run_responses.proofs.Windows.{enough, has_arrivals, has_expiries, lasts}
use Rattle.run_responses.proofs.Joined.{joined_so, fits_joined}
use Rattle.run_responses.proofs.Fronts.{start_of, begins, AreSolved, fits_starts}

-- a number of a load is none of 0
pub some_said : (f : Form) (owner : ℕ) (load : List Entry) → All IsNumber load → (said f owner load ≡ Some 0) → ⊥
some_said f owner [] all is = cc
some_said f owner (entry ∷ load) all is = by (is_of f owner entry) (some_said f owner load (All-tail IsNumber entry load all)) is
  where
    by : (b : Bool) → ((said f owner load ≡ Some 0) → ⊥) → (cond b (Some entry.number) (said f owner load)) ≡ Some 0 → ⊥
    by true none e = let some = (All-head IsNumber entry load all).0 in let zero : entry.number ≡ 0 = cc in omega (arith, some, zero)
    by false none e = none e

module _ (config : Config) (app : App) (wf : WellFormed config app) (load : List Entry) (late longest h r : ℕ) (boot : Bool) (cuts : ℕ → Bool) (costs : Costs)
    (item : IsLongestItem app longest) (cut : AreCutTasks config app cuts) (are : AreRunCosts config app load costs) (there : h < length config.tasks) (told : AreTold costs h)
    (here : comes costs h ≡ true) (bounds : AreRunBounds longest late costs h boot r) where
  abbrev w : Facts config app
  w = facts config app wf

  abbrev set : ℕ → Bool
  set = is_set config app costs.alarms are.alarms

  abbrev law : Demand.Costs
  law = law_costs config app w load costs are h there

  abbrev once : Bool
  once = (task costs h).is_entered_once

  abbrev at : ℕ → Start
  at i = start_at (run_starts costs h true) i

  -- boot is left out, or another start
  abbrev Counts : ℕ → Type 0
  Counts i = is_boot (at i) ≡ true → boot ≡ true

  -- a length of a window, which is enough where its start counts
  record Solved (opens : Bool) (i : ℕ) : Type 0 where
    numbers : Numbers
    lasting : ℕ
    room : margin longest late ≤ lasting
    solves : Counts i → IsSolution costs (run_window longest late costs h opens (at i)) numbers lasting
    within : Counts i → (l : ℕ) × (l ≡ cond (is_target_made (Some h) numbers) lasting 0) × (l + lead_of opens late ≤ r + margin longest late)

  solved : (opens : Bool) (i : ℕ) → Solved opens i
  solved opens i = by (cases_Bool (is_boot (at i))) (cases_Bool boot)
    where
      counted : Counts i → Solved opens i
      counted may =
          let (l, (n, counts, least, few, is), le) = by_place costs h boot (IsStartWithin longest late costs h r) bounds i may opens in
          record {
            numbers = n;
            lasting = counts;
            room = let filled = least.solves.filled in omega (arith, filled);
            solves = λ _. least.solves;
            within = λ _. (l, is, le);
          }

      by : (is_boot (at i) ≡ true) ⊎ (is_boot (at i) ≡ false) → (boot ≡ true) ⊎ (boot ≡ false) → Solved opens i
      by (inr other) both = counted (λ boots. absurd (true≢false (sym boots ∙ other)))
      by (inl boots) (inl on) = counted (λ _. on)
      by (inl boots) (inr off) = record {
        numbers = λ _. none_made;
        lasting = margin longest late;
        room = omega arith;
        solves = λ may. absurd (true≢false (sym (may boots) ∙ off));
        within = λ may. absurd (true≢false (sym (may boots) ∙ off));
      }

  abbrev numbers : (opens : Bool) → ℕ → Numbers
  numbers opens i = (solved opens i).numbers

  abbrev lasting : (opens : Bool) → ℕ → ℕ
  lasting opens i = (solved opens i).lasting

  abbrev starting : ℕ → Demand.Start
  starting = begins config app w load longest late costs are h there here told cuts cut numbers lasting

  start_so : (opens : Bool) (i : ℕ) → IsCodeStart config app (comes costs) set load late (longest + late) h r cuts once boot law (start_of config app w load longest late costs are h there here told cuts cut numbers lasting opens i)
  start_so opens i = record {
    arrivals = has_arrivals config app load longest late costs are h opens (at i) (numbers opens i) (lasting opens i) (solved opens i).room;
    expiries = has_expiries config app load longest late costs are h opens (at i) (numbers opens i) (lasting opens i) (solved opens i).room;
    joining = λ b is. fits_joined config app w load costs are h there b (joined_so costs h (at i) b is).1 told cuts cut;
    enough = λ counts. enough config app w load longest late costs are h there told cuts cut here opens (at i) (numbers opens i) (lasting opens i) ((solved opens i).solves counts);
    lasts = λ counts.
        let within = (solved opens i).within counts in
        lasts config app w load longest late costs are h there told cuts cut here opens (at i) (numbers opens i) (lasting opens i) ((solved opens i).solves counts)
        within.0 r within.1 within.2;
  }

  all_solved : AreSolved config app w load longest late costs are h there here told cuts cut numbers lasting
  all_solved opens i other = (solved opens i).solves (λ boots. absurd (true≢false (sym boots ∙ other)))

  code_start : (i : ℕ) → IsCodeStart config app (comes costs) set load late (longest + late) h r cuts once boot law (starting i)
  code_start i = by (ltb i (length (run_starts costs h true))) (start_so true i) (start_so false (i - length (run_starts costs h true)))
    where
      by : (b : Bool) {x y : Demand.Start} → IsCodeStart config app (comes costs) set load late (longest + late) h r cuts once boot law x → IsCodeStart config app (comes costs) set load late (longest + late) h r cuts once boot law y
          → IsCodeStart config app (comes costs) set load late (longest + late) h r cuts once boot law (cond b x y)
      by true first second = first
      by false first second = second

  -- no other task has the priority of h
  alone : (t : ℕ) → t < length config.tasks → static_priority config t ≡ static_priority config h → t ≡ h
  alone t lt same = by (cases_eq t h)
    where
      by : (t ≡ h) ⊎ (t ≡ h → ⊥) → t ≡ h
      by (inl e) = e
      by (inr other) = absurd (which (cases_lt t h))
        where
          which : (t < h) ⊎ (h ≤ t) → ⊥
          which (inl less) = w.in_range.configuration.priorities_differ t h undeclared_task less there same
          which (inr most) = w.in_range.configuration.priorities_differ h t undeclared_task (omega (arith, other, most)) lt (sym same)

  enters : once ≡ true → EntersOnce config h cuts
  enters is = record {
    preemptable = is_full config app load costs are h there is;
    alone = alone;
    whole = sym (cut_as config app w load costs are h there told cuts cut h there (are.tasks.each h there).clean (are.tasks.each h there).clears)
        ∙ is_whole config app load costs are h there is;
  }

pub images_meet_bounds : ImagesMeetBounds
images_meet_bounds config app image load arrivals n late longest h r boot cuts costs wf code sound weighed pace item above come in_load keeps cut works are there told bounds = by (comes costs h) refl
  where
    by : (b : Bool) → comes costs h ≡ b → RespondsWithin config app n (longest + late) h r boot (events_of image arrivals n)
    by false never =
        never_responds config app load (comes costs) n (longest + late) h r boot arrivals (events_of image arrivals n) wf (sound.each arrivals n come).osek (sound.each arrivals n come).in_time keeps
        (closed config app load costs are) never
    by true here =
        images_respond_by_code config app image are.weights load (comes costs) arrivals n late longest h r cuts
        (set config app wf load late longest h r boot cuts costs item cut are there told here bounds) (law config app wf load late longest h r boot cuts costs item cut are there told here bounds)
        (task costs h).is_entered_once boot (length (run_starts costs h true) + length (run_starts costs h true)) (starting config app wf load late longest h r boot cuts costs item cut are there told here bounds)
        (enters config app wf load late longest h r boot cuts costs item cut are there told here bounds)
        wf code sound weighed pace are.are_counts (marks config app costs.alarms are.alarms) item come above (λ line. some_said form.Every line load in_load.numbers) keeps (closed config app load costs are) works
        (fits_rounds config app (facts config app wf) load costs are h there told cuts cut)
        (fits_starts config app (facts config app wf) load longest late costs are h there here told cuts cut (numbers config app wf load late longest h r boot cuts costs item cut are there told here bounds)
        (lasting config app wf load late longest h r boot cuts costs item cut are there told here bounds)
        (all_solved config app wf load late longest h r boot cuts costs item cut are there told here bounds))
        (λ i _. code_start config app wf load late longest h r boot cuts costs item cut are there told here bounds i)
