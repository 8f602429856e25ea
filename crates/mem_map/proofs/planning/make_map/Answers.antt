use Rattle.std.proofs.Common.{◌≤◌, ◌<◌, ◌+◌, ◌∙◌, ℕ, List, length, sym, ap, subst, drop, arith}
use Rattle.std.specs.Prelude.{All, map, slice_index_or}
use Rattle.sloth_base.specs.declared.config.TaskDecl.{TaskDecl}
use Rattle.sloth_region.specs.declared.region.Extent.{Extent}
use Rattle.mem_map.specs.Starts.{end_of}
use Rattle.mem_map.specs.Plan.{symbol_bytes}
use Rattle.mem_map.proofs.Planned.{AreEnds, few_starts, few_ticks, starts_small, ticks_small, sizes_small, code_short, ticks_above, services_above, items_above, counts_few, symbols_few, symbols_short, ends_are}
use Rattle.mem_map.proofs.Mapped.{addressed, zoned}
use Rattle.mem_map.specs.Run.{room_for, run}
use Rattle.mem_map.specs.StackParts.{no_extent}
use Rattle.mem_map.specs.StackParts.{first_own}
use Rattle.mem_map.proofs.StackNumbers.{few_stacks}
use Rattle.mem_map.proofs.StackParts.{ArePlaced, part, shared_some, fit, placed}
use Rattle.mem_map.proofs.planning.make_map.Goals.{In_ok-symbols, In_ok-zones}
use Rattle.mem_map.proofs.planning.make_map.Goals as goal

-- ---- what is called

pub plan_code-requires-clause-boot : goal.plan_code-requires-clause-boot
plan_code-requires-clause-boot c = c.requires.code.boot.1

pub plan_code-requires-clause-few : goal.plan_code-requires-clause-few
plan_code-requires-clause-few c = (few_starts _ _ _ _ _ c.requires, few_ticks _ _ _ _ _ c.requires)

pub plan_code-requires-clause-prologues : goal.plan_code-requires-clause-prologues
plan_code-requires-clause-prologues c = starts_small _ _ _ _ _ c.requires

pub plan_code-requires-clause-ticks : goal.plan_code-requires-clause-ticks
plan_code-requires-clause-ticks c = ticks_small _ _ _ _ _ c.requires

pub plan_code-requires-clause-items : goal.plan_code-requires-clause-items
plan_code-requires-clause-items c = sizes_small _ _ _ _ _ c.requires

pub plan_code-requires-clause-fits : goal.plan_code-requires-clause-fits
plan_code-requires-clause-fits c =
    let t = ticks_above _ _ _ _ _ c.requires in
    let a = services_above _ _ _ _ _ c.requires in
    let b = items_above _ _ _ _ _ c.requires in
    let h = code_short _ _ _ _ _ c.requires in
    (omega (arith, t, a, b, h), omega (arith, a, b, h), omega (arith, b, h), omega (arith, h))

pub plan_first-requires-clause-few : goal.plan_first-requires-clause-few
plan_first-requires-clause-few c = counts_few _ _ _ _ _ c.requires

pub plan_symbols-requires-clause-few : goal.plan_symbols-requires-clause-few
plan_symbols-requires-clause-few c = symbols_few _ _ _ _ _ c.requires

pub plan_symbols-requires-clause-fits : goal.plan_symbols-requires-clause-fits
plan_symbols-requires-clause-fits c =
    let e = c.in_ok-code.ensures.end in
    let f = ap (λ (from : ℕ). end_of from (map symbol_bytes c.args.app.now.symbols)) e in
    let h = code_short _ _ _ _ _ c.requires in
    let s = symbols_short _ _ _ _ _ c.requires in
    omega (arith, f, h, s)

-- ---- where the zones end

ends : (c : In_ok-symbols)
    → AreEnds c.args.config.now c.args.app.now c.args.lengths.now c.args.bounds.now c.args.offsets.now c.requires c.in_ok-code.code.end
    c.in_ok-symbols.symbols.end
ends c =
    let e = c.in_ok-code.ensures.end in
    ends_are _ _ _ _ _ c.requires _ _ e c.in_ok-symbols.ensures.end

pub overflow_sub-code : goal.overflow_sub-code
overflow_sub-code c =
    let h = ends (goal.at.overflow_sub-code c).In_ok-symbols in
    let some = h.some in
    omega (arith, some)

pub overflow_add-symbols : goal.overflow_add-symbols
overflow_add-symbols c =
    let h = ends (goal.at.overflow_add-symbols c).In_ok-symbols in
    record { fits = h.fits }

pub overflow_sub-symbols : goal.overflow_sub-symbols
overflow_sub-symbols c =
    let h = ends (goal.at.overflow_sub-symbols c).In_ok-symbols in
    let below = h.below in
    omega (arith, below)

pub stack_lengths-requires-clause-some : goal.stack_lengths-requires-clause-some
stack_lengths-requires-clause-some c =
    subst (λ (l : List TaskDecl). 0 < first_own l → 1 ≤ c.args.bounds.now.shared) (sym c.items-declared.ensures) (shared_some _ _ _ _ c.requires.needs)

pub stack_lengths-requires-clause-lengths : goal.stack_lengths-requires-clause-lengths
stack_lengths-requires-clause-lengths c = λ t l.
    let tasks = ap (λ (l : List TaskDecl). length l) c.items-declared.ensures in
    let p = part _ _ _ _ c.requires.needs t (omega (arith, tasks, l)) in
    let some = p.some in
    (omega (arith, some), p.small)

pub plan_zones-requires-clause-few : goal.plan_zones-requires-clause-few
plan_zones-requires-clause-few c =
    let few = c.requires.in_range.configuration.few_tasks in
    let tasks = ap (λ (l : List TaskDecl). length l) c.items-declared.ensures in
    let count = c.in_ok-stack_lens.ensures.count in
    let least = few_stacks c.items-declared.result.now in
    let same = ap (λ (l : List ℕ). length l) c.deref.ensures.value in
    omega (arith, few, tasks, count, least, same)

abbrev are_placed : (c : In_ok-zones)
    → ArePlaced c.args.config.now c.args.bounds.now c.items-declared.result.now c.in_ok-stack_lens.stack_lens.items c.in_ok-zones.zones.extents
    c.in_ok-zones.zones.stacks
are_placed c =
    record {
      declared_is = c.items-declared.ensures;
      are = c.in_ok-stack_lens.ensures;
      words = c.in_ok-zones.zones.words;
      code = c.in_ok-zones.zones.code;
      data_extent = c.in_ok-zones.zones.data;
      extents_are = c.in_ok-zones.ensures.extents;
      apart = c.in_ok-zones.ensures.apart;
      lens = c.in_ok-zones.ensures.stacks ∙ c.deref.ensures.value;
      run_is = c.in_ok-zones.ensures.stacks_are ∙ ap (run 16 (c.in_ok-zones.zones.data.base + c.in_ok-zones.zones.data.len)) c.deref.ensures.value;
      aligned = c.in_ok-zones.ensures.stacks_aligned;
    }

pub task_parts-requires-clause-fit : goal.task_parts-requires-clause-fit
task_parts-requires-clause-fit c =
    fit _ _ _ _ c.requires.needs _ c.in_ok-stack_lens.stack_lens.items c.in_ok-zones.zones.extents c.in_ok-zones.zones.stacks
    (are_placed (goal.at.task_parts-requires-clause-fit c).In_ok-zones)
    _ c.items.ensures

pub plan_zones-requires-clause-some : goal.plan_zones-requires-clause-some
plan_zones-requires-clause-some c =
    let h = ends (goal.at.plan_zones-requires-clause-some c).In_ok-symbols in
    let some = h.some in
    let below = h.below in
    (omega (arith, some), omega (arith, below), subst (All (λ len. 1 ≤ len)) (sym c.deref.ensures.value) c.in_ok-stack_lens.ensures.some)

pub plan_zones-requires-clause-words : goal.plan_zones-requires-clause-words
plan_zones-requires-clause-words c = (ends (goal.at.plan_zones-requires-clause-words c).In_ok-symbols).even

pub plan_zones-requires-clause-room : goal.plan_zones-requires-clause-room
plan_zones-requires-clause-room c =
    let h = (ends (goal.at.plan_zones-requires-clause-room c).In_ok-symbols).room in
    let few = c.requires.in_range.configuration.few_tasks in
    let tasks = ap (λ (l : List TaskDecl). length l) c.items-declared.ensures in
    let short = c.in_ok-stack_lens.ensures.room in
    let same = ap (room_for 16) c.deref.ensures.value in
    omega (arith, h, few, tasks, short, same)

-- ---- the map

pub returns-clause-addresses : goal.returns-clause-addresses
returns-clause-addresses c =
    let e = c.in_ok-code.ensures.end in
    addressed _ _ _ _ _ c.requires _
    c.in_ok-zones.zones.code c.in_ok-zones.zones.data c.in_ok-code.code.end c.in_ok-symbols.symbols.end
    (record { all = c.in_ok-zones.zones.stacks; extents = c.in_ok-zones.ensures.extents; code_is = c.in_ok-zones.ensures.code; data_is = c.in_ok-zones.ensures.data_zone; code_end_is = e; data_end_is = c.in_ok-symbols.ensures.end })
    c.in_ok-code.ensures.idle c.in_ok-code.ensures.lines c.in_ok-code.ensures.prologues c.in_ok-code.ensures.ticks c.in_ok-code.ensures.unused
    c.in_ok-code.ensures.services c.in_ok-code.ensures.items c.in_ok-first.ensures c.in_ok-symbols.ensures.starts

pub returns-clause-zones : goal.returns-clause-zones
returns-clause-zones c =
    let e = c.in_ok-code.ensures.end in
    zoned _ _ _ _ _ c.requires _
    c.in_ok-zones.zones.code c.in_ok-zones.zones.data c.in_ok-code.code.end c.in_ok-symbols.symbols.end
    (record { all = c.in_ok-zones.zones.stacks; extents = c.in_ok-zones.ensures.extents; code_is = c.in_ok-zones.ensures.code; data_is = c.in_ok-zones.ensures.data_zone; code_end_is = e; data_end_is = c.in_ok-symbols.ensures.end })
    (returns-clause-addresses c)
    c.in_ok-zones.ensures.words c.in_ok-zones.ensures.apart

pub returns-clause-stacks : goal.returns-clause-stacks
returns-clause-stacks c =
    placed _ _ _ _ c.requires.needs _ c.in_ok-stack_lens.stack_lens.items c.in_ok-zones.zones.extents c.in_ok-zones.zones.stacks
    (are_placed (goal.at.returns-clause-stacks c).In_ok-zones)
    _ c.items.ensures _ c.in_ok-parts.ensures (ap (λ (l : List Extent). drop 3 l) c.in_ok-zones.ensures.extents)
    (ap (λ (l : List Extent). slice_index_or l 2 no_extent) c.in_ok-zones.ensures.extents)
