-- What the prologues need, by the map and the task code.
use Rattle.std.proofs.Common.{◌≡◌, ◌<◌, ◌+◌, ℕ, List, [], length, get_or, refl, ap, ◌∙◌, arith}
use Rattle.std.specs.Prelude.{All}
use Rattle.std.specs.Prelude as prelude
use Rattle.std.proofs.lemmas.List.{get_or_default}
use Rattle.std.proofs.Math.ListN.{length-map}
use Rattle.sloth_base.specs.Named.{no_function, body_of}
use Rattle.sloth_base.specs.declared.app.App.{App}
use Rattle.sloth_base.specs.declared.app.Func.{Func}
use Rattle.sloth_base.specs.declared.config.Config.{Config}
use Rattle.sloth_base.specs.declared.limits.Levels.{Levels}
use Rattle.sloth_region.specs.declared.region.Map.{Map}
use Rattle.vector_gen.specs.Places.{IsStackTop}
use Rattle.rv32_expand.specs.Sizes.{items_before}
use Rattle.rv32_expand.proofs.Verified.{has_first}
use Rattle.mem_map.specs.Starts.{code_byte_count}
use Rattle.sim_laws.proofs.Fitting.{part_inside, code_from, code_to}
use Rattle.mem_map.proofs.Starts.{length_starts}
use Rattle.sloth_build.specs.Prologues.{MayStartTasks}
use Rattle.sloth_build.specs.Gathered.{MayGenerate}
use Rattle.sloth_build.proofs.Called.{room_for_calls}
use Rattle.sloth_link.proofs.Counting.{count_of, starts_at, before_within}

module _ (config : Config) (app : App) (levels : Levels) (map : Map) (may : MayGenerate config app levels map) where
  -- the number of items
  pub items_long : length map.places.items ≡ items_before app.funcs (length app.funcs)
  items_long =
      let sizes = may.planned.lengths.items in
      ap length may.planned.addresses.items ∙ length_starts _ (prelude.map code_byte_count sizes) ∙ length-map sizes code_byte_count ∙ may.planned.are_lengths.items.count

  pub first_long : length map.places.first ≡ length app.funcs
  first_long = ap length may.planned.addresses.first ∙ length_starts 0 (prelude.map count_of app.funcs) ∙ length-map app.funcs count_of

  pub first_is : (func : ℕ) → func < length app.funcs → get_or map.places.first func 0 ≡ items_before app.funcs func
  first_is func l =
      let none : 0 + items_before app.funcs func ≡ items_before app.funcs func = omega arith in
      ap (λ (firsts : List ℕ). get_or firsts func 0) may.planned.addresses.first ∙ starts_at 0 app.funcs func l ∙ none

  firsts_inside : All (λ i. i < length map.places.items) map.places.first
  firsts_inside = λ k d l.
      let n = first_long in
      let long = items_long in
      let is = first_is k (omega (arith, n, l)) in
      let same = get_or_default map.places.first k d 0 l in
      let within = before_within app.funcs (length app.funcs) k 0 (omega (arith, n, l)) (has_first config app may.well_formed k (omega (arith, n, l))).inside in
      omega (arith, is, same, within, long)

  tops : All IsStackTop map.tops
  tops = λ k d l.
      let p = may.planned in
      let count = p.stacks.tops in
      let declared : k < length config.tasks = omega (arith, l, count) in
      let i = part_inside config app map may.bounds 0 [] p.zones p.stacks k declared in
      let f = code_from config app map may.bounds 0 [] p.zones in
      let t = code_to config app map may.bounds 0 [] p.zones in
      let enough = room_for_calls config app may.bounds may.are_bounds k declared (body_of app.funcs k) [] refl in
      let same = get_or_default map.tops k 0 d l in
      (omega (arith, i.0, f, t, enough, same), omega (arith, i.1, same))

  pub may_start : MayStartTasks config app levels map
  may_start = record {
    few = may.well_formed.in_range.configuration.few_tasks;
    levels_fit = may.small;
    bodies = λ t l.
        let b = may.well_formed.in_range.tasks.body t l in
        let task = b.1.1 in
        (b.0, (b.1.0, λ d. ap (λ (f : Func). f.task) (get_or_default app.funcs b.0 d no_function b.1.0) ∙ task));
    frames = λ k d l. (may.well_formed.in_range.bodies k d l).frame;
    tops = (may.planned.stacks.tops, tops);
    items = (let n = first_long in omega (arith, n), firsts_inside);
  }
