-- From the contract of the code of boot to the first stretch of a run.
use Rattle.std.proofs.Common.{◌≡◌, ℕ, suc, ◌≤◌, List, [], length, refl, sym, ap, ◌∙◌, subst, arith}
use Rattle.std.specs.Prelude.{map, slice_index}
use Rattle.sloth_base.specs.declared.service.Arrival.{Arrival}
use Rattle.sloth_base.specs.declared.image.Image.{Image}
use Rattle.sloth_base.specs.Machine.{State}
use Rattle.sloth_base.specs.Arrive.{state_arrive}
use Rattle.sloth_base.specs.Owners.{owners_in, IsOwned}
use Rattle.sloth_base.specs.MemoryMap.{line_count}
use Rattle.rv32_machine.specs.Start.{start}
use Rattle.masked_code.specs.Trace.{Trace, touched_lines, early_arrivals, late_arrivals}
use Rattle.observe.specs.Observe.{View}
use Rattle.vector_gen.specs.Boot.{BootEffect}
use Rattle.sim_induction.specs.Admits.{IsSetting, lines_at, with_admits}
use Rattle.sim_induction.specs.PieceLaws.{BootLaw}
use Rattle.sim_induction.proofs.Untouched.{nothing_before}
use Rattle.code_lengths.specs.CodeLengths.{boot_length}
use Rattle.code_lengths.proofs.Short.{short_lines}
use Rattle.sim_induction.proofs.Routes.{Booting, booting}
use Rattle.sim_induction.proofs.Schedule.{owned_at}
use Rattle.sim_induction.proofs.Traces.{lines_before, lines_trace}
use Rattle.sim_relation.specs.Build.{Build, HasFittingPlaces}
use Rattle.sim_relation.specs.Placed.{setting_of}
use Rattle.sim_relation.specs.Stands.{Stands}
use Rattle.sim_relation.specs.Start.{started_system}
use Rattle.sim_relation.proofs.Arrive.{stands_arrived}
use Rattle.sim_relation.proofs.Placed.{in_place-agree}
use Rattle.sim_routines.specs.Boot.{IsImage}
use Rattle.sim_routines.specs.Codes.{BootStands}
use Rattle.sim_routines.proofs.Boot.{boots_law, ram_at}

-- a stretch that touches no line has no early arrivals
pub none_early : (trace : Trace) → touched_lines trace ≡ [] → early_arrivals trace ≡ []
none_early trace h = sym (lines_before 0 trace) ∙ ap (map (λ (a : Arrival). a.line)) (nothing_before 0 trace h)

module _ (b : Build) (view : View) (arrivals : List Arrival) (setting : IsSetting (setting_of b view arrivals)) (image : Image) (fits : HasFittingPlaces b) (is : IsImage b image)
    (boot : BootStands b) where
  abbrev first : State
  first = start image

  abbrev most : ℕ
  most = boot_length b.config.tasks (length b.config.counters)

  in_ram : (i : ℕ) → slice_index first.core.ram i ≡ slice_index b.memory i
  in_ram i = ram_at image.memory i ∙ ap (λ m. slice_index m i) is.memory

  route : Booting arrivals most first (BootEffect b.config.tasks (length b.config.counters) boot.levels (length b.config.tasks) b.idle)
  route =
      booting arrivals most first (BootEffect b.config.tasks (length b.config.counters) boot.levels (length b.config.tasks) b.idle) (λ touched from last e. e.left.opened) refl
      (boot.boots.runs 0x480 first.core fits.idle_address
      (record {
        masked = refl;
        enabled = refl;
        levels = refl;
        can_run = record {
          controller = refl;
          registers = refl;
          zero = refl;
          lines = refl;
          aligned = boot.placed.aligned;
          behind = omega arith;
          inside = boot.placed.inside;
          placed = in_place-agree b.memory first.core.ram boot.code 0x480 (λ i x y. in_ram i) boot.placed.placed;
        };
      }))

  -- The stretch of boot is the event Boot, and the states at its end are related.
  pub boot_stretch : BootLaw (setting_of b view arrivals) (Stands b) (start image)
  boot_stretch =
      let untouched : touched_lines route.trace ≡ [] = route.effect.touches in
      let effect : BootEffect b.config.tasks (length b.config.counters) boot.levels (length b.config.tasks) b.idle [] first route.last =
      subst (λ x. BootEffect b.config.tasks (length b.config.counters) boot.levels (length b.config.tasks) b.idle x first route.last) untouched
      (subst (λ x. BootEffect b.config.tasks (length b.config.counters) boot.levels (length b.config.tasks) b.idle (touched_lines route.trace) (state_arrive x first) route.last) (none_early route.trace untouched) route.effect) in
      let law = boots_law b image boot.levels route.last fits is boot.ranks effect in
      let in_range = lines_trace (IsOwned (owners_in b.config)) (suc route.more) 0 (lines_at arrivals) first route.trace route.end (owned_at (setting_of b view arrivals) setting) route.steps in
      let few : length b.config.tasks ≤ line_count = let f = fits.few_tasks in omega arith in
      record {
        more = route.more;
        few = let f = route.few in let lines = short_lines b.config.tasks in let tasks = fits.few_tasks in let counters = fits.few_counters in omega (arith, f, lines, tasks, counters);
        within = route.few;
        trace = route.trace;
        end = route.end;
        steps = route.steps;
        ends = route.ends;
        untouched = untouched;
        after = started_system b;
        step_is = law.0;
        related = subst (λ x. Stands b x (with_admits (late_arrivals route.trace) (started_system b))) (sym route.late_behind)
            (stands_arrived b (late_arrivals route.trace) route.last (started_system b) fits.few_tasks in_range.1 law.1);
      }
