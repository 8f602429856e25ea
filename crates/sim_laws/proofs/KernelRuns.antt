-- Every run of a kernel in place is one of the abstract scheduler.
use Rattle.std.proofs.Common.{◌≡◌, ℕ, zero, suc, ◌+◌, ◌<◌, ◌≤◌, Bool, List, [], ◌∷◌, length, sym, ◌∙◌, arith, true, false, cond, filter, Some}
use Rattle.std.specs.Prelude.{map, replicate}
use Rattle.sloth_base.specs.declared.service.Arrival.{Arrival}
use Rattle.sloth_base.specs.declared.image.Image.{Image}
use Rattle.sloth_base.specs.Owners.{owners_in}
use Rattle.sloth_base.specs.Arrivals.{moments}
use Rattle.sloth_base.specs.Machine.{State}
use Rattle.sloth_region.specs.Layout.{cur}
use Rattle.rv32_instr.specs.Ram.{word_at}
use Rattle.rv32_machine.specs.Start.{start}
use Rattle.rv32_machine.specs.Run.{state_after, state_with_arrivals}
use Rattle.masked_code.specs.Trace.{late_arrivals}
use Rattle.rv32_expand.proofs.Counts.{size_is, size_few}
use Rattle.rv32_expand.proofs.InRangeOf.{frame_of}
use Rattle.rv32_expand.specs.Expansion.{item_address, is_long, expansion}
use Rattle.sloth_base.specs.Named.{operation}
use Rattle.sloth_base.specs.Limits.{unseen_counts}
use Rattle.sloth_base.specs.MemoryMap.{line_count}
use Rattle.observe.specs.Observe.{View, view_of_image}
use Rattle.osek_scheduler.specs.State.{Frame, System, task, opening}
use Rattle.osek_scheduler.specs.Runs.{AreStepsTo}
use Rattle.sim_induction.specs.Sound.{AreComing, Sound, events_of, stands_before}
use Rattle.sim_induction.specs.Weighed.{Weighed}
use Rattle.sim_induction.specs.Paced.{Paced}
use Rattle.sim_induction.specs.Admits.{IsSetting, lines_at, with_admits, admit_event}
use Rattle.sim_induction.specs.PieceLaws.{Passed, BootLaw}
use Rattle.sim_induction.specs.Spent.{SpentBySizes}
use Rattle.sim_induction.specs.Related.{IsSimulation}
use Rattle.sim_induction.proofs.Boot.{whole_run}
use Rattle.sim_induction.proofs.Follow.{booted_admits, leads_admits}
use Rattle.sim_induction.proofs.Invariants.{With, along_events, simulation_with, boot_with}
use Rattle.sim_induction.proofs.Schedule.{owned_at}
use Rattle.sim_induction.proofs.Simulated.{sound, weighed, paced, spent, is_setting}
use Rattle.sim_relation.specs.Bounds.{AreBelow}
use Rattle.sim_relation.specs.Build.{Build, with_passed}
use Rattle.sim_relation.specs.Stands.{Stands}
use Rattle.sim_relation.proofs.Arrive.{stands_arrived}
use Rattle.sim_relation.proofs.MirrorOf.{mirror_of}
use Rattle.sim_relation.proofs.Passed.{stands_as}
use Rattle.sim_routines.proofs.Boot.{ram_at}
use Rattle.sim_routines.proofs.BootRoute.{boot_stretch}
use Rattle.sim_routines.proofs.Spot.{zero_at}
use Rattle.sim_relation.specs.Placed.{item_words, setting_of}
use Rattle.sim_items.specs.Progress.{passed_count_in, passed_count_by, progress_in}
use Rattle.sim_items.proofs.Passing.{passed_few}
use Rattle.sim_laws.specs.Bounded.{IsBounded}
use Rattle.sim_laws.specs.Kernel.{Kernel}
use Rattle.sim_laws.specs.Standing.{StandsNested}
use Rattle.sim_laws.specs.Steady.{IsSteady}
use Rattle.sim_laws.proofs.Bounded.{arrive_fits, bounds_stay}
use Rattle.sim_laws.proofs.Steady.{steady_stays, opening_steady}
use Rattle.sim_laws.proofs.Measured.{measured}
use Rattle.sim_laws.proofs.AnyBound.{kernel_as}
use Rattle.sim_laws.proofs.Dispatch.{advance}
use Rattle.sim_laws.proofs.Nesting.{stack_nested}

-- ---- the start

zero_below : (bound n : ℕ) → 0 < bound → AreBelow bound (replicate n 0)
zero_below bound n h i = let z = zero_at n i in omega arith

pub start_bounded : (image : Image) → AreBelow 256 image.memory → IsBounded (start image)
start_bounded image bytes = record {
  pc = omega arith;
  core = record {
    registers = zero_below 4294967296 32 (omega arith);
    scratch = omega arith;
    return_address = omega arith;
    level = omega arith;
    previous_level = omega arith;
    bytes = λ i. (let a = ram_at image.memory i in let c = bytes i in omega arith);
    pending = zero_below 256 32 (omega arith);
    enabled = zero_below 256 32 (omega arith);
    levels = zero_below 256 32 (omega arith);
  };
}

module _ (b : Build) (image : Image) (kernel : Kernel b image) where
  abbrev view : View
  view = view_of_image image

  few : length b.config.tasks ≤ line_count
  few = let f = kernel.fits.few_tasks in omega arith

  few_instructions : (func item : ℕ) → length (expansion b.app b.places func item) ≤ unseen_counts
  few_instructions func item =
      let long = is_long b.places func item in
      let o = operation b.app func item in
      let e = size_is b.app b.places func (item_address b.places func item) long o in
      let f = size_few b.app (frame_of b.app (b.config, kernel.well_formed.in_range)) long o in
      omega (arith, e, f.few)

  in_frames : (pc : ℕ) (frames : List Frame) → passed_count_in b.app b.places pc frames ≤ unseen_counts
  in_frames pc [] = omega arith
  in_frames pc (frame ∷ outer) =
      let few = few_instructions frame.func frame.item in
      let most = passed_few (item_address b.places frame.func frame.item) (length (expansion b.app b.places frame.func frame.item)) pc in
      omega (arith, few, most)

  -- the measure is at most `unseen_counts`
  passed_small : (pc : ℕ) (s : System) (current : ℕ) → passed_count_by b.app b.places pc s current ≤ unseen_counts
  passed_small pc s zero = omega arith
  passed_small pc s (suc t) = by (task s t).owed
    where
      by : (owed : Bool) → cond owed 0 (passed_count_in b.app b.places pc (task s t).frames) ≤ unseen_counts
      by true = omega arith
      by false = in_frames pc (task s t).frames

  abbrev R : Passed → State → System → Type 0
  R p = With (Stands (with_passed b p)) IsBounded (IsSteady b.config b.app)

  -- nothing said of any task
  abbrev nothing : Passed
  nothing = λ t. 0

  module _ (arrivals : List Arrival) (setting : IsSetting (setting_of b view arrivals)) where
    steady_found : (count : ℕ) (s : System) → s.booted ≡ true → IsSteady b.config b.app s → IsSteady b.config b.app (with_admits (lines_at arrivals count) s)
    steady_found count s booted h =
        along_events b.config b.app (IsSteady b.config b.app) (steady_stays b.config b.app kernel.well_formed) (map admit_event (moments count (count + 1) arrivals)) s (with_admits (lines_at arrivals count) s)
        (leads_admits b.config b.app (moments count (count + 1) arrivals) s setting.few_tasks booted (owned_at (setting_of b view arrivals) setting count)) h

    simulation : IsSimulation (setting_of b view arrivals) R (progress_in b)
    simulation =
        simulation_with (setting_of b view arrivals) setting (λ p. Stands (with_passed b p)) IsBounded (IsSteady b.config b.app) (progress_in b) (bounds_stay arrivals) (steady_stays b.config b.app kernel.well_formed)
        (λ p count state s positive w.
        advance (with_passed b p) image (kernel_as b p image kernel) arrivals setting count positive state s w.base (arrive_fits (lines_at arrivals count) state w.machine) (steady_found count s w.base.tidy.booted w.system))
        (λ p count state s w. stands_arrived (with_passed b p) (lines_at arrivals count) state s kernel.fits.few_tasks (owned_at (setting_of b view arrivals) setting count) w.base)
        (λ count state h. arrive_fits (lines_at arrivals count) state h)
        (λ p state s w. w.base.tidy.booted)
        (λ p state s w. mirror_of (with_passed b p) state s w.base)
        (λ p state s w. measured (with_passed b p) state s w.base view arrivals)
        (λ p state s w. passed_small state.pc s (word_at state.core.ram cur))

    booting : BootLaw (setting_of b view arrivals) (R nothing) (start image)
    booting =
        let k = kernel_as b nothing image kernel in
        let law = boot_stretch (with_passed b nothing) view arrivals setting image k.fits k.is_image k.boot in
        boot_with (setting_of b view arrivals) setting (λ p. Stands (with_passed b p)) IsBounded (IsSteady b.config b.app) (progress_in b) (bounds_stay arrivals) (steady_stays b.config b.app kernel.well_formed)
        nothing (start image) law (sym (booted_admits (late_arrivals law.trace) law.after) ∙ law.related.tidy.booted)
        (start_bounded image kernel.bytes) (opening_steady b.config b.app kernel.well_formed)

  pub sound_kernel : Sound b.config b.app image
  sound_kernel =
      sound b.config b.app (item_words b) image R (progress_in b) nothing kernel.fits.few_tasks kernel.tasks kernel.counters
      (λ arrivals are. let setting = is_setting b.config b.app (item_words b) image arrivals kernel.fits.few_tasks kernel.tasks kernel.counters are in (simulation arrivals setting, booting arrivals setting))

  pub weighed_kernel : Weighed b.config b.app image
  weighed_kernel =
      weighed b.config b.app (item_words b) image R (progress_in b) nothing kernel.fits.few_tasks kernel.tasks kernel.counters
      (λ arrivals are. let setting = is_setting b.config b.app (item_words b) image arrivals kernel.fits.few_tasks kernel.tasks kernel.counters are in (simulation arrivals setting, booting arrivals setting))

  pub paced_kernel : Paced b.config b.app (item_words b) image
  paced_kernel =
      paced b.config b.app (item_words b) image R (progress_in b) nothing kernel.fits.few_tasks kernel.tasks kernel.counters
      (λ arrivals are. let setting = is_setting b.config b.app (item_words b) image arrivals kernel.fits.few_tasks kernel.tasks kernel.counters are in (simulation arrivals setting, booting arrivals setting))

  pub spent_kernel : SpentBySizes b.config b.app (item_words b) image
  spent_kernel =
      spent b.config b.app (item_words b) image R (progress_in b) nothing kernel.fits.few_tasks kernel.tasks kernel.counters
      (λ arrivals are. let setting = is_setting b.config b.app (item_words b) image arrivals kernel.fits.few_tasks kernel.tasks kernel.counters are in (simulation arrivals setting, booting arrivals setting))

  -- at each count that finds MIE 1 the relation stands
  pub stands_kernel : (arrivals : List Arrival) (n count : ℕ) (state : State) → AreComing (owners_in b.config) arrivals → count < n
      → state_after count arrivals (start image) ≡ Some state → state.core.mie ≡ true
      → (s : System) × AreStepsTo b.config b.app (filter (stands_before count) (events_of image arrivals n)) (opening b.config b.app) s
      × StandsNested (with_passed b nothing) (state_with_arrivals arrivals count state) s
  stands_kernel arrivals n count state are before after enabled =
      let setting = is_setting b.config b.app (item_words b) image arrivals kernel.fits.few_tasks kernel.tasks kernel.counters are in
      let whole = whole_run (setting_of b view arrivals) setting R (progress_in b) (simulation arrivals setting) nothing (start image) (booting arrivals setting) n in
      let found = whole.mirrors count before state after enabled in
      let related = found.2.1 in
      let x = state_with_arrivals arrivals count state in
      let stands : Stands (with_passed b nothing) x found.0 = stands_as (with_passed b found.2.0) nothing x found.0 (λ u other. omega arith) related.base in (
        found.0,
        found.1,
        record {
          stands = stands;
          nested = stack_nested (with_passed b nothing) found.0 related.system.valid related.system.owing kernel.nested stands.stack stands.active.falling;
        },
      )
