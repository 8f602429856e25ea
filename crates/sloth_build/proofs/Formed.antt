-- What is linked is in the format of images.
use Rattle.std.proofs.Common.{◌*◌, ◌≡◌, ◌≤◌, ℕ, List, [], ◌∷◌, length, get_or, sym, ap, ◌∙◌, subst, arith}
use Rattle.std.specs.Prelude.{All}
use Rattle.std.specs.Prelude as prelude
use Rattle.std.proofs.lemmas.List.{length-append}
use Rattle.std.proofs.lemmas.List.Elements.{All-head, All-tail}
use Rattle.std.proofs.lemmas.List.Sorted.{All-permutation, length_permutation}
use Rattle.std.proofs.Math.ListN.{length-map}
use Rattle.sloth_base.specs.ImageRange.{AreNamesApart, AreFields, AreNames, InFormat, IsMark, service_limit}
use Rattle.sloth_base.specs.declared.app.App.{App}
use Rattle.sloth_base.specs.declared.app.Func.{Func}
use Rattle.sloth_base.specs.declared.config.Config.{Config}
use Rattle.sloth_base.specs.declared.config.CounterDecl.{CounterDecl}
use Rattle.sloth_base.specs.declared.config.TaskDecl.{TaskDecl}
use Rattle.sloth_base.specs.declared.image.Image.{Image}
use Rattle.sloth_base.specs.declared.limits.Levels.{Levels}
use Rattle.sloth_region.specs.declared.region.Map.{Map}
use Rattle.rv32_instr.specs.declared.block.Block.{Block}
use Rattle.mem_map.specs.Sections.{IsSectionInside, block_section, marks_of}
use Rattle.sloth_link.specs.Linked.{datum_section}
use Rattle.sloth_link.proofs.Written.{code_bytes_length, front_of}
use Rattle.sloth_link.proofs.Standing.{all_marks}
use Rattle.sloth_build.specs.Gathered.{MayGenerate}
use Rattle.sloth_build.specs.ImageOf.{IsImageOf}

-- at most twice as many marks as blocks
marks_few : (blocks : List Block) → All (λ b. length b.marks ≤ 2) blocks → length (marks_of blocks) ≤ 2 * length blocks
marks_few [] h = omega arith
marks_few (b ∷ blocks) h =
    let first = All-head (λ (x : Block). length x.marks ≤ 2) b blocks h in
    let rest = marks_few blocks (All-tail (λ (x : Block). length x.marks ≤ 2) b blocks h) in
    let n = length-append b.marks (marks_of blocks) in
    omega (arith, first, rest, n)

module _ (config : Config) (app : App) (levels : Levels) (map : Map) (may : MayGenerate config app levels map) (image : Image)
    (h : IsImageOf config app levels map image.memory image.marks) (tasks : image.tasks ≡ prelude.map (λ d. d.name) config.tasks)
    (functions : image.funcs ≡ prelude.map (λ f. f.name) app.funcs) (counters : image.counters ≡ prelude.map (λ c. c.name) config.counters) where
  funcs_long : length image.funcs ≡ length app.funcs
  funcs_long = ap length functions ∙ length-map app.funcs (λ (f : Func). f.name)

  counters_long : length image.counters ≡ length config.counters
  counters_long = ap length counters ∙ length-map config.counters (λ (c : CounterDecl). c.name)

  marks_fit : All (IsMark (service_limit (length image.counters)) (length image.funcs) (length image.memory)) image.marks
  marks_fit =
      let inside = front_of (IsSectionInside h.size) block_section h.blocks (prelude.map datum_section h.symbols) h.linked.room.inside in
      let size = h.linked.linked.size_is in
      All-permutation (IsMark (service_limit (length image.counters)) (length image.funcs) (length image.memory)) (marks_of h.blocks) image.marks h.marks_are
      (all_marks (IsMark (service_limit (length image.counters)) (length image.funcs) (length image.memory)) h.blocks
      (λ k d l n e m.
      let own = h.own_marks k d l n e m in
      let f = h.format k d l n e m in
      let i = inside k d l in
      let above = h.linked.room.blocks_above k d l in
      let bytes = code_bytes_length (get_or h.blocks k d).code in
      let P : (names count : ℕ) → Type 0 = λ names count. AreFields (service_limit names) count (get_or (get_or h.blocks k d).marks n e).kind (get_or (get_or h.blocks k d).marks n e).a (get_or (get_or h.blocks k d).marks n e).b (get_or (get_or h.blocks k d).marks n e).c in
      record {
        aligned = f.0;
        above = omega (arith, above, own.0);
        below = omega (arith, above, own.1, i, bytes, size);
        fields = subst (P (length image.counters)) (sym funcs_long) (subst (λ names. P names (length app.funcs)) (sym counters_long) f.1);
      }))

  pub in_format : InFormat image
  in_format =
      let size = h.linked.linked.size_is in
      let small = h.linked.small in
      let even = h.whole_words in
      let moved = length_permutation (marks_of h.blocks) image.marks h.marks_are in
      let few = marks_few h.blocks h.few_marks in
      let blocks = h.few in
      let range = may.well_formed.in_range in
      let funcs = funcs_long in
      let few_funcs = range.limits.few_bodies in
      let tasks_long : length image.tasks ≡ length config.tasks = ap length tasks ∙ length-map config.tasks (λ (d : TaskDecl). d.name) in
      let few_tasks = range.configuration.few_tasks in
      let counted = counters_long in
      let few_counters = range.configuration.few_counters in
      record {
        few_tasks = omega (arith, tasks_long, few_tasks);
        few_functions = omega (arith, funcs, few_funcs);
        tasks = subst AreNames (sym tasks) range.configuration.task_names;
        functions = subst AreNames (sym functions) range.func_names;
        few_counters = omega (arith, counted, few_counters);
        counters = subst AreNames (sym counters) range.configuration.counter_names;
        counters_apart = subst (λ names. AreNamesApart names image.tasks) (sym counters) (subst (AreNamesApart _) (sym tasks) range.configuration.counters_apart);
        memory_fits = omega (arith, size, small);
        whole_words = omega (arith, size, even);
        few_marks = omega (arith, moved, few, blocks);
        marks = marks_fit;
        ascending = h.ascending;
      }
