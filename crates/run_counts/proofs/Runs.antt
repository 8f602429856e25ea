-- Every sound run of an image keeps the pace, and so the blocking bounds.
use Rattle.std.proofs.Common.{◌≡◌, ℕ, Bool, zero, suc, ◌+◌, ◌<◌, ◌≤◌, ◌⊎◌, List, [], ◌∷◌, ◌++◌, length, false, None, refl, sym, ap, ◌∙◌, subst, arith, inl, inr}
use Rattle.std.specs.List.{flat_map}
use Rattle.std.proofs.lemmas.List.{length-append}
use Rattle.std.proofs.lemmas.List.Elements.{recursion_from_All}
use Rattle.sloth_base.specs.declared.config.Config.{Config}
use Rattle.sloth_base.specs.declared.app.App.{App}
use Rattle.sloth_base.specs.declared.service.Arrival.{Arrival}
use Rattle.sloth_base.specs.declared.image.Image.{Image}
use Rattle.sloth_base.specs.declared.numbers.Step.{Step}
use Rattle.sloth_base.specs.Machine.{State}
use Rattle.sloth_base.specs.Arrivals.{moments}
use Rattle.sloth_base.specs.Stretches.{longest_stretch}
use Rattle.sloth_base.specs.Limits.{counter_limit}
use Rattle.code_rules.specs.WellFormed.{WellFormed}
use Rattle.rv32_machine.specs.Advance.{StepOutcome, Goes, Halts}
use Rattle.rv32_machine.specs.Coherent.{AreCoherent}
use Rattle.rv32_machine.specs.Run.{moment, moment_of, on_goes, run_from, run, steps_of, stop_from, stopping, state_with_arrivals}
use Rattle.rv32_machine.specs.Start.{start}
use Rattle.rv32_machine.proofs.Coherence.{coherent}
use Rattle.observe.specs.Pieces as piece
use Rattle.observe.specs.Pieces.{pieces, cut_off_steps}
use Rattle.observe.specs.Observe.{View, view_of_image, first_masked_moment, found_admits, piece_events, observe}
use Rattle.observe.proofs.Rule.{is-cut}
use Rattle.sim_induction.specs.Short.{AreShort, IsShortPiece, Short}
use Rattle.sim_induction.specs.Sound.{IsSoundRun, events_of}
use Rattle.osek_blocking.specs.Pace.{entry_counts, last_count}
use Rattle.osek_blocking.proofs.KeptBounds.{keeps_bounds}
use Rattle.osek_blocking.proofs.Counts.{keeps_counts}
use Rattle.run_counts.proofs.PacedRun.{BeginsWithBoot, IsPacedRun}
use Rattle.run_counts.specs.BlockingBounds.{KeepsBlockingBounds}
use Rattle.run_counts.proofs.Entering.{enters_in_time}
use Rattle.run_counts.proofs.Continuing.{Continues, nothing, joined, admissions, admissions_alone}
use Rattle.run_counts.proofs.Paced.{Paces, paces, later_limit}

-- ---- the steps of a whole run

-- a run that does not stop has a step for each instruction
whole_steps : (n : ℕ) (arrivals : List Arrival) (count : ℕ) (state : State) → stop_from n arrivals count state ≡ None
    → length (steps_of (run_from n arrivals count state)) ≡ n
unfolding run_from stop_from
whole_steps zero arrivals count state h = refl
whole_steps (suc n) arrivals count state h =
    by (moment arrivals count state) (λ after more. whole_steps n arrivals (count + 1) after more) h
  where
    by : (o : StepOutcome) → ((after : State) → stop_from n arrivals (count + 1) after ≡ None → length (steps_of (run_from n arrivals (count + 1) after)) ≡ n)
        → on_goes o (stopping (state_with_arrivals arrivals count state) o) (λ step after. stop_from n arrivals (count + 1) after) ≡ None
        → length (steps_of (on_goes o [] (λ step after. moment_of arrivals count state step after ∷ run_from n arrivals (count + 1) after))) ≡ suc n
    by (Goes step after) more h = ap suc (more after h)
    by (Halts stop) more h = absurd cc

-- ---- its events

module _ (config : Config) (view : View) (arrivals : List Arrival) (few_counters : length config.counters ≤ counter_limit) where
  found_continues : (at : ℕ) (rest : List Step) → Continues config at (found_admits view arrivals rest) at
  found_continues at [] = nothing config at
  found_continues at (first ∷ more) = admissions config view at (moments first.count (first_masked_moment first) arrivals)

  found_alone : (rest : List Step) → BeginsWithBoot (found_admits view arrivals rest) → ⊥
  found_alone [] h = h
  found_alone (first ∷ more) h = admissions_alone view (moments first.count (first_masked_moment first) arrivals) h

  -- behind boot the open part of a run is short
  cut_limit : (rest : List Step) (count : ℕ) (enabled : Bool) → AreCoherent count enabled rest → AreShort config rest → 0 < count
      → length rest ≤ longest_stretch config
  cut_limit [] count enabled c short later = omega arith
  cut_limit (first ∷ more) count enabled c short later =
      let e = c.0 in
      later_limit config view arrivals few_counters first more short (omega (arith, e, later))

  pub is_paced : (n : ℕ) (steps : List Step) → Short config view steps → AreCoherent 0 false steps → length steps ≡ n
      → IsPacedRun config n (observe view arrivals steps)
  unfolding observe
  is_paced n steps short c long =
      let parts = pieces [] steps in
      let rest = cut_off_steps [] steps in
      let cut = is-cut steps in
      let p = paces config view arrivals few_counters parts rest 0 0 0 false (subst (AreCoherent 0 false) (sym cut.joined) c) cut.each
      (recursion_from_All (IsShortPiece config) parts short.finished) short.gaps (omega arith) (omega arith) in
      let all = joined config (flat_map (piece_events view arrivals) parts) (found_admits view arrivals rest) 0 p.to p.to p.goes (found_continues p.to rest) in
      record {
        paced = all.paced;
        brief = all.brief;
        ticks = all.ticks;
        reaches = λ boot. near p all.last boot p.onward;
      }
    where
      near : (p : Paces config view arrivals few_counters 0 (pieces [] steps) 0 (cut_off_steps [] steps))
          → last_count 0 (flat_map (piece_events view arrivals) (pieces [] steps) ++ found_admits view arrivals (cut_off_steps [] steps)) ≡ p.to
          → BeginsWithBoot (flat_map (piece_events view arrivals) (pieces [] steps) ++ found_admits view arrivals (cut_off_steps [] steps))
          → (pieces [] steps ≡ []) ⊎ (0 < p.next)
          → n ≤ last_count 0 (flat_map (piece_events view arrivals) (pieces [] steps) ++ found_admits view arrivals (cut_off_steps [] steps)) + 1 + entry_counts config
      near p last boot (inl none) =
          absurd (found_alone (cut_off_steps [] steps)
          (subst (λ ps. BeginsWithBoot (flat_map (piece_events view arrivals) ps ++ found_admits view arrivals (cut_off_steps [] steps))) none boot))
      near p last boot (inr later) =
          let le = cut_limit (cut_off_steps [] steps) p.next p.enabled p.behind short.cut later in
          let counted = p.counted in
          let near = p.near in
          let few = p.few in
          let whole = sym (ap length (is-cut steps).joined) ∙ length-append (flat_map piece.steps_of (pieces [] steps)) (cut_off_steps [] steps) in
          omega (arith, le, counted, near, few, whole, long, last)

pub sound_is_paced : (config : Config) (app : App) (image : Image) (arrivals : List Arrival) (n : ℕ) → length config.counters ≤ counter_limit
    → IsSoundRun config app image arrivals n → IsPacedRun config n (events_of image arrivals n)
sound_is_paced config app image arrivals n few sound =
    is_paced config (view_of_image image) arrivals few n (steps_of (run n arrivals (start image))) sound.short (coherent n arrivals 0 (start image))
    (whole_steps n arrivals 0 (start image) sound.whole)

pub keeps_blocking_bounds : (config : Config) (app : App) (image : Image) (arrivals : List Arrival) (n : ℕ) → WellFormed config app
    → IsSoundRun config app image arrivals n → KeepsBlockingBounds config app n (events_of image arrivals n)
keeps_blocking_bounds config app image arrivals n code sound =
    let bounds = keeps_bounds config app (events_of image arrivals n) code sound.osek in
    let paced = sound_is_paced config app image arrivals n code.in_range.configuration.few_counters sound in
    record {
      bounds = bounds;
      counts = keeps_counts config app (events_of image arrivals n) bounds paced.paced;
      latency = enters_in_time config app n (events_of image arrivals n) code sound.osek paced sound.in_time.placed;
      ticks = paced.ticks;
    }
