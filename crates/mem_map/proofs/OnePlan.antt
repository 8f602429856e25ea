-- Task code has one plan, but for the parts of the shared stack.
use Rattle.std.proofs.Common.{◌≡◌, ◌<◌, ◌≤◌, ◌+◌, ◌-◌, ◌∙◌, ◌⊎◌, inl, inr, ⊎_elim, ℕ, List, ◌∷◌, Some, length, get_or, take, sym, ap, subst, arith}
use Rattle.std.specs.Prelude.{map, slice_get}
use Rattle.std.proofs.lemmas.Bool.{cases_lt}
use Rattle.std.proofs.lemmas.List.{ext_get_or, get_or-take}
use Rattle.std.proofs.lemmas.Option.{get_or_from_slice_get, slice_get_within}
use Rattle.sloth_base.specs.Blocks.{block_count}
use Rattle.sloth_base.specs.Named.{IsBodyOf, no_function}
use Rattle.sloth_base.specs.Owners.{first_counter_line, counter_line}
use Rattle.sloth_base.specs.declared.app.App.{App}
use Rattle.sloth_base.specs.declared.app.Func.{Func}
use Rattle.sloth_base.specs.declared.config.Config.{Config}
use Rattle.sloth_base.specs.declared.config.TaskDecl.{TaskDecl}
use Rattle.sloth_base.specs.declared.limits.Bounds.{Bounds}
use Rattle.sloth_base.specs.declared.limits.Places.{Places}
use Rattle.sloth_base.specs.MemoryMap.{line_count}
use Rattle.sloth_region.specs.declared.region.Extent.{Extent}
use Rattle.sloth_region.specs.declared.region.Map.{Map}
use Rattle.code_lengths.specs.CodeLengths.{IsPrologueLength, prologue_length}
use Rattle.code_rules.specs.AppRange.{AppInRange}
use Rattle.rv32_expand.proofs.Least.{sizes_are_one}
use Rattle.mem_map.specs.declared.all_lengths.CodeLengths.{CodeLengths}
use Rattle.mem_map.specs.Lengths.{AreLengths}
use Rattle.mem_map.specs.Starts.{code_byte_count}
use Rattle.mem_map.specs.Plan.{code_end, data_end, idle_at, items_at, prologues_at, services_at, symbol_bytes, tick_starts}
use Rattle.mem_map.specs.Planned.{IsPlanned}
use Rattle.mem_map.specs.Run.{run}
use Rattle.mem_map.specs.Starts.{starts}
use Rattle.mem_map.specs.Stacks.{lengths_before}
use Rattle.mem_map.specs.StackParts.{stack_number}
use Rattle.mem_map.specs.Zones.{all_stacks, code_zone, data_zone}
use Rattle.mem_map.specs.StackParts.{no_extent}

-- two maps have the same addresses and extents
pub record AreAlike (m n : Map) : Type 0 where
  pub extents : m.extents ≡ n.extents
  pub places : m.places ≡ n.places
  pub stacks : m.stacks ≡ n.stacks
  pub idle : m.idle ≡ n.idle
  pub handlers : m.handlers ≡ n.handlers

same_extent : (d e : Extent) → d.base ≡ e.base → d.base + d.len ≡ e.base + e.len → d ≡ e
same_extent d e base end =
    let len : d.len ≡ e.len = omega (arith, base, end) in
    ap (λ x. record { base = x; len = d.len }) base ∙ ap (λ x. record { base = e.base; len = x }) len

same_places : (a b : Places) → a.items ≡ b.items → a.first ≡ b.first → a.symbols ≡ b.symbols → a.blocks ≡ b.blocks → a ≡ b
same_places a b i f s k =
    ap (λ x. record { items = x; first = a.first; symbols = a.symbols; blocks = a.blocks }) i
    ∙ ap (λ x. record { items = b.items; first = x; symbols = a.symbols; blocks = a.blocks }) f
    ∙ ap (λ x. record { items = b.items; first = b.first; symbols = x; blocks = a.blocks }) s
    ∙ ap (λ x. record { items = b.items; first = b.first; symbols = b.symbols; blocks = x }) k

-- ---- lengths

-- a task has one length of its prologue
one_length : (config : Config) (app : App) (t a b : ℕ) → AppInRange config app → IsPrologueLength t config app a → IsPrologueLength t config app b → a ≡ b
one_length config app t a b range p q =
    let decls : Some p.decl ≡ Some q.decl = sym p.is_decl ∙ q.is_decl in
    let decl : p.decl ≡ q.decl = cc in
    let body : p.body ≡ q.body = range.tasks.one t p.body q.body (is_body p.body p.func p.is_func p.is_body) (is_body q.body q.func q.is_func q.is_body) in
    let funcs : Some p.func ≡ Some q.func = sym p.is_func ∙ ap (λ f. slice_get app.funcs f) body ∙ q.is_func in
    let func : p.func ≡ q.func = cc in
    p.is ∙ ap (λ (d : TaskDecl). prologue_length d.extended p.func.frame_words) decl ∙ ap (λ (f : Func). prologue_length q.decl.extended f.frame_words) func ∙ sym q.is
  where
    is_body : (f : ℕ) (func : Func) → slice_get app.funcs f ≡ Some func → func.task ≡ Some t → IsBodyOf app t f
    is_body f func found is =
        (slice_get_within app.funcs f func found, ap (λ (x : Func). x.task) (get_or_from_slice_get app.funcs f func no_function found) ∙ is)

same_lengths : (a b : CodeLengths) → a.boot ≡ b.boot → a.prologues ≡ b.prologues → a.ticks ≡ b.ticks → a.services ≡ b.services → a.items ≡ b.items → a ≡ b
same_lengths a b o p t s i =
    ap (λ x. record { boot = x; prologues = a.prologues; ticks = a.ticks; services = a.services; items = a.items }) o
    ∙ ap (λ x. record { boot = b.boot; prologues = x; ticks = a.ticks; services = a.services; items = a.items }) p
    ∙ ap (λ x. record { boot = b.boot; prologues = b.prologues; ticks = x; services = a.services; items = a.items }) t
    ∙ ap (λ x. record { boot = b.boot; prologues = b.prologues; ticks = b.ticks; services = x; items = a.items }) s
    ∙ ap (λ x. record { boot = b.boot; prologues = b.prologues; ticks = b.ticks; services = b.services; items = x }) i

one_lengths : (config : Config) (app : App) (a b : CodeLengths) → AppInRange config app → AreLengths config app a → AreLengths config app b → a ≡ b
one_lengths config app a b range p q =
    let tasks = p.prologues in
    let ticks = p.ticks in
    let services = p.services in
    same_lengths a b (p.boot ∙ sym q.boot)
    (ext_get_or 0 a.prologues b.prologues (p.prologues ∙ sym q.prologues)
    (λ t l. let there : t < length config.tasks = omega (arith, l, tasks) in one_length config app t _ _ range (p.each_prologue t there) (q.each_prologue t there)))
    (ext_get_or 0 a.ticks b.ticks (p.ticks ∙ sym q.ticks)
    (λ c l. let there : c < length config.counters = omega (arith, l, ticks) in p.each_tick c there ∙ sym (q.each_tick c there)))
    (ext_get_or 0 a.services b.services (p.services ∙ sym q.services)
    (λ k l. let there : k < block_count = omega (arith, l, services) in p.each_service k there ∙ sym (q.each_service k there)))
    (sizes_are_one app a.items b.items p.items q.items)

-- ---- maps

module _ (config : Config) (app : App) (range : AppInRange config app) (bounds : Bounds) (m n : Map) (p : IsPlanned config app bounds m) (q : IsPlanned config app bounds n) where
  abbrev tasks : ℕ
  tasks = length config.tasks

  lengths : p.lengths ≡ q.lengths
  lengths = one_lengths config app p.lengths q.lengths range p.are_lengths q.are_lengths

  idle : m.idle ≡ n.idle
  idle = p.addresses.idle ∙ ap idle_at lengths ∙ sym q.addresses.idle

  first : take tasks m.handlers ≡ take tasks n.handlers
  first = p.addresses.prologues ∙ ap (λ l. starts (prologues_at l) (map code_byte_count l.prologues)) lengths ∙ sym q.addresses.prologues

  -- where a line that is neither a task's nor a counter's goes
  unused : (line : ℕ) → tasks ≤ line → line < line_count → (line < first_counter_line) ⊎ (counter_line (length config.counters) ≤ line) → get_or m.handlers line 0 ≡ get_or n.handlers line 0
  unused line l below none = p.addresses.unused line l below none ∙ idle ∙ sym (q.addresses.unused line l below none)

  -- a line behind the tasks'
  later : (line : ℕ) → tasks ≤ line → line < line_count → get_or m.handlers line 0 ≡ get_or n.handlers line 0
  later line l below =
      ⊎_elim
      (λ (few : line < first_counter_line). unused line l below (inl few))
      (λ (many : first_counter_line ≤ line).
      let c : ℕ = line - first_counter_line in
      let is : counter_line c ≡ line = omega (arith, many) in
      let tick : c < length config.counters → get_or m.handlers (counter_line c) 0 ≡ get_or n.handlers (counter_line c) 0 =
      λ there. p.addresses.ticks c there ∙ ap (λ k. get_or (tick_starts k) c 0) lengths ∙ sym (q.addresses.ticks c there) in
      ⊎_elim
      (λ (there : c < length config.counters). subst (λ k. get_or m.handlers k 0 ≡ get_or n.handlers k 0) is (tick there))
      (λ (gone : length config.counters ≤ c). unused line l below (inr (omega (arith, gone, many))))
      (cases_lt c (length config.counters)))
      (cases_lt line first_counter_line)

  handlers : m.handlers ≡ n.handlers
  handlers = ext_get_or 0 m.handlers n.handlers (p.addresses.lines ∙ sym q.addresses.lines) each
    where
      each : (line : ℕ) → line < length m.handlers → get_or m.handlers line 0 ≡ get_or n.handlers line 0
      each line below = let lines = p.addresses.lines in
          ⊎_elim
          (λ (l : line < tasks). sym (get_or-take tasks m.handlers line 0 l) ∙ ap (λ (h : List ℕ). get_or h line 0) first ∙ get_or-take tasks n.handlers line 0 l)
          (λ (l : tasks ≤ line). later line l (omega (arith, below, lines)))
          (cases_lt line tasks)

  places : m.places ≡ n.places
  places =
      same_places m.places n.places
      (p.addresses.items ∙ ap (λ l. starts (items_at l) (map code_byte_count l.items)) lengths ∙ sym q.addresses.items)
      (p.addresses.first ∙ sym q.addresses.first)
      (p.addresses.symbols ∙ ap (λ l. starts (code_end l) (map symbol_bytes app.symbols)) lengths ∙ sym q.addresses.symbols)
      (p.addresses.blocks ∙ ap (λ l. starts (services_at l) (map code_byte_count l.services)) lengths ∙ sym q.addresses.blocks)

  code : code_zone m ≡ code_zone n
  code =
      same_extent (code_zone m) (code_zone n) (p.addresses.code_from ∙ sym q.addresses.code_from)
      (p.addresses.code_to ∙ ap code_end lengths ∙ sym q.addresses.code_to)

  data_is : data_zone m ≡ data_zone n
  data_is =
      same_extent (data_zone m) (data_zone n) (p.addresses.data_from ∙ ap code_end lengths ∙ sym q.addresses.data_from)
      (p.addresses.data_to ∙ ap (λ l. data_end app (code_end l)) lengths ∙ sym q.addresses.data_to)

  all : all_stacks m ≡ all_stacks n
  all =
      p.stacks.placed ∙ ap (λ (e : Extent). run 16 (e.base + e.len) (lengths_before config.tasks bounds tasks)) data_is ∙ sym q.stacks.placed

  extents : m.extents ≡ n.extents
  extents =
      p.zones.extents
      ∙ ap (λ (e : Extent). e ∷ code_zone m ∷ data_zone m ∷ all_stacks m) (p.zones.words ∙ sym q.zones.words)
      ∙ ap (λ (e : Extent). n.words ∷ e ∷ data_zone m ∷ all_stacks m) code
      ∙ ap (λ (e : Extent). n.words ∷ code_zone n ∷ e ∷ all_stacks m) data_is
      ∙ ap (λ (l : List Extent). n.words ∷ code_zone n ∷ data_zone n ∷ l) all
      ∙ sym q.zones.extents

  stacks : m.stacks ≡ n.stacks
  stacks = ext_get_or no_extent m.stacks n.stacks (p.stacks.count ∙ sym q.stacks.count) each
    where
      each : (t : ℕ) → t < length m.stacks → get_or m.stacks t no_extent ≡ get_or n.stacks t no_extent
      each t below =
          let count = p.stacks.count in
          let there : t < tasks = omega (arith, below, count) in
          p.stacks.number t there ∙ ap (λ (l : List Extent). get_or l (stack_number config.tasks t) no_extent) all ∙ sym (q.stacks.number t there)

  -- two plans of one app are alike
  pub one_plan : AreAlike m n
  one_plan = record { extents = extents; places = places; stacks = stacks; idle = idle; handlers = handlers }
