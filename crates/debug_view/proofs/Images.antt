-- An image of a planned map has a kernel in place, so wherever interrupts are open memory and controller have the system.
use Rattle.std.proofs.Common.{◌≡◌, ℕ, ◌+◌, ◌%◌, ◌<◌, [], length, refl, sym, ap, ◌∙◌, subst, arith}
use Rattle.std.specs.Prelude.{List, Some, filter, get_or, true}
use Rattle.std.proofs.Math.ListN.{length-map}
use Rattle.std.proofs.lemmas.List.{get_or-map}
use Rattle.sloth_base.specs.Blocks.{block_number}
use Rattle.sloth_base.specs.Machine.{State}
use Rattle.sloth_base.specs.Named.{declaration, undeclared_task}
use Rattle.sloth_base.specs.Owners.{owners_in}
use Rattle.sloth_base.specs.declared.app.App.{App}
use Rattle.sloth_base.specs.declared.config.Config.{Config}
use Rattle.sloth_base.specs.declared.config.TaskDecl.{TaskDecl}
use Rattle.sloth_base.specs.declared.service.Arrival.{Arrival}
use Rattle.sloth_base.specs.declared.image.Image.{Image}
use Rattle.sloth_base.specs.declared.service.Service.TheVariants as service
use Rattle.sloth_region.specs.declared.region.Map.{Map}
use Rattle.code_rules.specs.WellFormed.{WellFormed}
use Rattle.rv32_instr.specs.Memory.{memory_of}
use Rattle.rv32_machine.specs.Run.{state_after, state_with_arrivals}
use Rattle.rv32_machine.specs.Start.{start}
use Rattle.rv32_expand.specs.Expansion.{block_address}
use Rattle.rv32_expand.specs.InPlace.{IsBodyName, ItemsInPlace}
use Rattle.service_gen.specs.Calls.{IsCalledWith}
use Rattle.service_gen.specs.Schedule.{way_back}
use Rattle.osek_scheduler.specs.Runs.{AreStepsTo}
use Rattle.osek_scheduler.specs.State.{System, opening}
use Rattle.osek_scheduler.proofs.Leading.{one_end}
use Rattle.sim_induction.specs.Sound.{AreComing, Sound, events_of, stands_before}
use Rattle.sim_relation.specs.Build.{Build, with_passed}
use Rattle.sim_relation.specs.Stands.{Stands}
use Rattle.sim_laws.specs.GeneratedZones.{IsBuiltBy}
use Rattle.sim_laws.specs.Kernel.{Kernel}
use Rattle.sim_laws.specs.Zones.{build_of}
use Rattle.sim_laws.proofs.Generated.{generated_kernel}
use Rattle.sim_laws.proofs.Generating.{built_is_generated}
use Rattle.sim_laws.proofs.KernelRuns.{stands_kernel}
use Rattle.sloth_build.specs.ImageOf.{HasPlannedMap, IsImageOf}
use Rattle.sloth_build.proofs.AllCode.{even_at}
use Rattle.sloth_build.proofs.Called.{called_with}
use Rattle.debug_view.specs.RightFiles.{PlannedImagesShow, ShowsFormulas}
use Rattle.debug_view.proofs.Open.{has_system}
use Rattle.debug_view.proofs.RightNumbers.{attributes_right}
use Rattle.debug_view.proofs.Table.{table_right}

module _ (config : Config) (app : App) (image : Image) (well : WellFormed config app) (sound : Sound config app image) (items : ItemsInPlace image config app)
    (has : HasPlannedMap config app image) where
  abbrev map : Map
  map = has.by_map.map

  pub is : IsImageOf config app has.by_map.levels map image.memory image.marks
  is = has.by_map.is

  named : (t : ℕ) → t < length config.tasks → IsBodyName app t (declaration config t).name
  named t declared =
      let many = ap length items.tasks ∙ length-map config.tasks (λ (d : TaskDecl). d.name) in
      let name : get_or image.tasks t [] ≡ (declaration config t).name =
      ap (λ names. get_or names t []) items.tasks ∙ get_or-map (λ (d : TaskDecl). d.name) config.tasks t undeclared_task [] declared in
      subst (IsBodyName app t) name (items.bodies t (omega (arith, declared, many)))

  -- the way back stands in the block of Schedule
  abbrev way : ℕ
  way = block_address map.places service.Schedule 0 + way_back

  way_even : way % 4 ≡ 0
  way_even =
      let even = even_at map.places.blocks (block_number service.Schedule 0) has.by_map.planned.zones.blocks_aligned in
      let block : block_address map.places service.Schedule 0 ≡ get_or map.places.blocks (block_number service.Schedule 0) 0 = refl in
      omega (arith, even, block)

  built : IsBuiltBy config app has.by_map.levels map is.bounds way is.size is.blocks is.symbols image
  built = record {
    are_levels = has.by_map.are_levels;
    counters = sound.counters;
    linked = is.linked;
    has_code = is.has_code;
    has_items = is.has_items;
    own_marks = is.own_marks;
    marks = is.marks_are;
    ascending = is.ascending;
    names = record { functions = items.functions; tasks = items.tasks; bodies = named };
    bytes = is.bytes;
    back_aligned = way_even;
    back_is = λ func item call of e called.
        let object = called_with config app well func item call of e in
        let none : call.object ≡ 0 = subst (λ v. IsCalledWith config v call.object) called object in
        sym (ap (λ v. block_address map.places v call.object + way_back) called ∙ ap (λ o. block_address map.places service.Schedule o + way_back) none);
  }

  abbrev pub b : Build
  b = build_of config app map is.bounds way image.memory

  pub kernel : Kernel b image
  kernel = generated_kernel b image has.by_map.levels map (built_is_generated config app has.by_map.levels map is.bounds way is.size is.blocks is.symbols image built)

  -- so at each count that finds MIE 1 the machine stands as the system says to which the events before the count lead
  pub stands_open : (arrivals : List Arrival) (n count : ℕ) (state : State) (s : System) → AreComing (owners_in config) arrivals → count < n
      → state_after count arrivals (start image) ≡ Some state → state.core.mie ≡ true
      → AreStepsTo config app (filter (stands_before count) (events_of image arrivals n)) (opening config app) s
      → Stands (with_passed b (λ t. 0)) (state_with_arrivals arrivals count state) s
  stands_open arrivals n count state s are before after enabled leads =
      let found = stands_kernel b image kernel arrivals n count state are before after enabled in
      subst (Stands (with_passed b (λ t. 0)) (state_with_arrivals arrivals count state))
      (one_end config app _ (opening config app) found.0 s found.1 leads) found.2.stands

  shows : ShowsFormulas config app image map
  shows = record {
    each = λ arrivals n count state s are before after enabled leads.
        let open_state = state_with_arrivals arrivals count state in
        let has_it = has_system (with_passed b (λ t. 0)) open_state s (stands_open arrivals n count state s are before after enabled leads) in
        table_right (memory_of open_state.core) config map s
        (attributes_right config map (memory_of open_state.core) s has_it has.by_map.planned.zones.few_tasks has.by_map.planned.stacks.number);
  }

pub images_show : PlannedImagesShow
images_show config app image well sound items has = shows config app image well sound items has
