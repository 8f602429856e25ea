-- The kernel's pieces rise behind its words, so no two local symbols have one name.
use Rattle.std.proofs.Common.{◌≡◌, ◌<◌, ◌≤◌, ◌+◌, ◌∙◌, ℕ, zero, suc, Bool, true, false, cond, List, [], ◌∷◌, ◌++◌, Some, length, get_or, map, refl, sym, ap, subst, arith}
use Rattle.std.specs.Prelude.{◌≢◌}
use Rattle.std.specs.List.{flat_map}
use Rattle.std.proofs.lemmas.List.{get_or-map, length-map}
use Rattle.std.proofs.lemmas.List.Concat.{flat_map-append}
use Rattle.code_lengths.specs.CodeLengths.{block_length}
use Rattle.code_rules.specs.AppRange.{AreOperands, IsObject, IsOp}
use Rattle.code_rules.specs.WellFormed.{WellFormed}
use Rattle.map_text.proofs.ExactRows.{rows_exact}
use Rattle.map_text.specs.ExactRows.{behind_symbols, exact_rows, function_bytes, row_alone, rows_of}
use Rattle.map_text.specs.Rows.{has_basic, map_rows, own_rows, extent_row, shared_rows}
use Rattle.map_text.specs.declared.piece_starts.Kind.{Kind}
use Rattle.map_text.specs.declared.piece_starts.Kind.TheVariants as kind
use Rattle.map_text.specs.declared.piece_starts.Row.{Row}
use Rattle.mem_map.proofs.Callers.{caller}
use Rattle.mem_map.specs.Lengths.{wanted_length}
use Rattle.mem_map.specs.Plan.{code_end, items_at, prologues_at, services_at, symbol_bytes, ticks_at}
use Rattle.mem_map.specs.Planned.{IsPlanned}
use Rattle.mem_map.specs.StackParts.{is_extended, no_extent}
use Rattle.mem_map.specs.Starts.{code_byte_count}
use Rattle.mem_map.specs.Wanted.{is_wanted}
use Rattle.mem_map.specs.Zones.{stack_of}
use Rattle.sloth_base.proofs.Services.{object_number_few, of_code}
use Rattle.code_rules.proofs.Objects.{object_number}
use Rattle.sloth_base.specs.Blocks.{block_code, block_count, block_number, block_object, block_service}
use Rattle.sloth_base.specs.ConfigRange.{InRange}
use Rattle.sloth_base.specs.Named.{function, no_function, no_item}
use Rattle.sloth_base.specs.ServiceCodes.{code_of, object_kind, service_name, service_of}
use Rattle.sloth_base.specs.declared.app.App.{App}
use Rattle.sloth_base.specs.declared.config.Config.{Config}
use Rattle.sloth_base.specs.declared.limits.Bounds.{Bounds}
use Rattle.sloth_base.specs.declared.service.Service.{Service}
use Rattle.sloth_base.specs.declared.service.Service.TheVariants as service
use Rattle.sloth_region.specs.declared.region.Map.{Map}
use Rattle.map_text.specs.PieceNames.{block_symbol, service_symbol}
use Rattle.symbol_image.specs.Symbols.{local_of, local_symbols, word_symbols}
use Rattle.symbol_image.specs.declared.symbol.Symbol.{Symbol}
use Rattle.symbol_build.specs.SymbolNames.{LocalNamesDiffer}
use Rattle.symbol_build.proofs.LocalNames.{IsLocal, Kernel, OwnStack, Prologue, Serving, Tick}
use Rattle.symbol_build.proofs.RisingNames.{Rises, names_differ, rise_both, rise_from, rise_to}
use Rattle.symbol_build.proofs.WordNames.{local, words_rise}

-- ---- numbered pieces

-- what holds of each piece by its number and its bytes, where the first has this number
abbrev Hold : (W : ℕ → ℕ → Type 0) → ℕ → List ℕ → Type 0
Hold W n [] = Unit {0}
Hold W n (b ∷ bytes) = W n b × Hold W (n + 1) bytes

all-hold : (W : ℕ → ℕ → Type 0) (n : ℕ) (bytes : List ℕ) → ((i : ℕ) → i < length bytes → W (n + i) (get_or bytes i 0)) → Hold W n bytes
all-hold W n [] h = tt
all-hold W n (b ∷ bytes) h =
    let none : n + 0 ≡ n = omega arith in (
      subst (λ k. W k b) none (h 0 (omega arith)),
      all-hold W (n + 1) bytes
          (λ i l. let on : n + suc i ≡ n + 1 + i = omega arith in subst (λ k. W k (get_or bytes i 0)) on (h (suc i) (omega (arith, l)))),
    )

-- a place in the table of services that is one of a service with an object of the configuration
record IsServed (config : Config) (number : ℕ) : Type 0 where
  served : Service
  object : ℕ
  is : block_service number ≡ Some served
  object_is : block_object number ≡ object
  has : IsObject config (object_kind served) object
  numbered : block_number served object ≡ number

module _ (config : Config) (range : InRange config) where
  -- the local symbols of rows
  abbrev locals : List Row → List Symbol
  locals rows = flat_map (local_symbols config) rows

  both : (from mid to : ℕ) (one other : List Row) → Rises config from mid (locals one) → Rises config mid to (locals other)
      → Rises config from to (locals (one ++ other))
  both from mid to one other h k =
      subst (λ (symbols : List Symbol). Rises config from to symbols) (sym (flat_map-append (local_symbols config) one other)) (rise_both config from mid to (locals one) (locals other) h k)

  module _ (k : Kind) (base to : ℕ) (W : ℕ → ℕ → Type 0)
      (each : (n from len : ℕ) → W n (suc len)
      → Rises config (base + n) (base + n + 1) (local_of config k (record { kind = k; number = n; base = from; len = suc len }))) where
    pieces : (number from : ℕ) (bytes : List ℕ) → base + number + length bytes ≤ to → Hold W number bytes
        → Rises config (base + number) to (locals (rows_of k number from bytes))
    pieces number from [] le h = omega (arith, le)
    pieces number from (zero ∷ bytes) le h =
        rise_from config (base + number) (base + (number + 1)) to (locals (rows_of k (number + 1) from bytes)) (omega arith)
        (pieces (number + 1) from bytes (omega (arith, le)) h.1)
    pieces number from (suc len ∷ bytes) le h =
        rise_both config (base + number) (base + number + 1) to (local_of config k (record { kind = k; number = number; base = from; len = suc len }))
        (locals (rows_of k (number + 1) (from + suc len) bytes)) (each number from len h.0)
        (rise_from config (base + number + 1) (base + (number + 1)) to (locals (rows_of k (number + 1) (from + suc len) bytes)) (omega arith)
        (pieces (number + 1) (from + suc len) bytes (omega (arith, le)) h.1))

  -- bodies and data have no local symbols
  no_code : (number from : ℕ) (bytes : List ℕ) → locals (rows_of kind.Code number from bytes) ≡ []
  no_code number from [] = refl
  no_code number from (zero ∷ bytes) = no_code (number + 1) from bytes
  no_code number from (suc len ∷ bytes) = no_code (number + 1) (from + suc len) bytes

  no_data : (number from : ℕ) (bytes : List ℕ) → locals (rows_of kind.Data number from bytes) ≡ []
  no_data number from [] = refl
  no_data number from (zero ∷ bytes) = no_data (number + 1) from bytes
  no_data number from (suc len ∷ bytes) = no_data (number + 1) (from + suc len) bytes

  -- ---- services

  -- the last row stands for each service with an object
  serves : (s : Service) (o n : ℕ) (symbol : Symbol) → IsObject config (object_kind s) o → block_number s o ≡ n
      → symbol.name ≡ service_symbol config (service_name s) (object_kind s) o → IsLocal config (1000 + n) symbol
  serves service.TerminateTask o n symbol h at e = record { front = Kernel; number = 7; there = omega arith; key_is = omega (arith, at, h); name_is = e }
  serves service.Schedule o n symbol h at e = record { front = Kernel; number = 8; there = omega arith; key_is = omega (arith, at, h); name_is = e }
  serves service.GetTaskID o n symbol h at e = record { front = Kernel; number = 9; there = omega arith; key_is = omega (arith, at, h); name_is = e }
  serves service.ClearEvent o n symbol h at e = record { front = Kernel; number = 10; there = omega arith; key_is = omega (arith, at, h); name_is = e }
  serves service.WaitEvent o n symbol h at e = record { front = Kernel; number = 11; there = omega arith; key_is = omega (arith, at, h); name_is = e }
  serves s o n symbol h at e = record { front = Serving s; number = o; there = h; key_is = ap (λ m. 1000 + m) (sym at); name_is = e }

  abbrev Served : ℕ → ℕ → Type 0
  Served number bytes = bytes ≢ 0 → IsServed config number

  service_row : (n from len : ℕ) → Served n (suc len)
      → Rises config (1000 + n) (1000 + n + 1) (local_of config kind.Service (record { kind = kind.Service; number = n; base = from; len = suc len }))
  service_row n from len w =
      let c = w (λ none. omega (arith, none)) in
      let name : block_symbol config (block_service n) (block_object n) ≡ service_symbol config (service_name c.served) (object_kind c.served) c.object =
      ap (λ s. block_symbol config s (block_object n)) c.is ∙ ap (service_symbol config (service_name c.served) (object_kind c.served)) c.object_is in
      record { key = 1000 + n; above = omega arith; is = serves c.served c.object n _ c.has c.numbered name; rest = omega arith }

  -- ---- stacks

  shared : (b : Bool) (m : Map) → Rises config 1700 1800 (locals (cond b (extent_row kind.Shared 0 (get_or m.extents 3 no_extent) ∷ []) []))
  shared false m = omega arith
  shared true m = record { key = 1700; above = omega arith; is = local config range Kernel 6 _ (omega arith) refl; rest = omega arith }

  own_stack : (b : Bool) (m : Map) (t : ℕ) → t < length config.tasks
      → Rises config (1800 + t) (1800 + suc t) (locals (cond b (extent_row kind.Stack t (stack_of m t) ∷ []) []))
  own_stack false m t inside = omega arith
  own_stack true m t inside =
      record { key = 1800 + t; above = omega arith; is = local config range OwnStack t _ inside refl; rest = omega arith }

  own_stacks : (m : Map) (t : ℕ) → t ≤ length config.tasks → Rises config 1800 (1800 + t) (locals (own_rows config m t))
  unfolding own_rows
  own_stacks m zero le = omega arith
  own_stacks m (suc t) le =
      both 1800 (1800 + t) (1800 + suc t) (own_rows config m t) (cond (is_extended config.tasks t) (extent_row kind.Stack t (stack_of m t) ∷ []) [])
      (own_stacks m t (omega (arith, le))) (own_stack (is_extended config.tasks t) m t (omega (arith, le)))

-- ---- all of them

module _ (config : Config) (app : App) (bounds : Bounds) (m : Map) (well : WellFormed config app) (planned : IsPlanned config app bounds m) where
  range : InRange config
  range = well.in_range.configuration

  called : (number : ℕ) → number < block_count → get_or planned.lengths.services number 0 ≢ 0 → IsServed config number
  called number below some = by (is_wanted number app) refl (planned.are_lengths.each_service number below)
    where
      by : (b : Bool) → is_wanted number app ≡ b → get_or planned.lengths.services number 0 ≡ wanted_length app number → IsServed config number
      by false is long = absurd (some (long ∙ ap (λ b. cond b (block_length number) 0) is))
      by true is long =
          let c = caller number app is in
          let own = (well.in_range.bodies c.func no_function c.is_item.declared).items c.item no_item c.is_item.inside in
          let operands : AreOperands config c.call.service c.call.object c.call.mask = subst (IsOp config app (function app c.func)) c.is own in
          let small = object_number_few (object_kind c.call.service) c.call.object (object_number config range (object_kind c.call.service) c.call.object operands.0) in
          let n = c.numbered in
          let code : block_code number ≡ code_of c.call.service = omega (arith, small, n) in
          record {
            served = c.call.service;
            object = c.call.object;
            is = ap service_of code ∙ of_code c.call.service;
            object_is = omega (arith, small, n);
            has = operands.0;
            numbered = n;
          }

  prologues : Rises config 800 900 (flat_map (local_symbols config) (rows_of kind.Prologue 0 (prologues_at planned.lengths) (map code_byte_count planned.lengths.prologues)))
  prologues =
      let bytes = map code_byte_count planned.lengths.prologues in
      let long = length-map planned.lengths.prologues code_byte_count in
      let count = planned.are_lengths.prologues in
      let few = range.few_tasks in
      pieces config range kind.Prologue 800 900 (λ n b. n < length config.tasks)
      (λ n from len inside. record { key = 800 + n; above = omega arith; is = local config range Prologue n _ inside refl; rest = omega arith })
      0 (prologues_at planned.lengths) bytes (omega (arith, long, count, few))
      (all-hold (λ n b. n < length config.tasks) 0 bytes (λ i l. omega (arith, l, long, count)))

  ticks : Rises config 900 1000 (flat_map (local_symbols config) (rows_of kind.Tick 0 (ticks_at planned.lengths) (map code_byte_count planned.lengths.ticks)))
  ticks =
      let bytes = map code_byte_count planned.lengths.ticks in
      let long = length-map planned.lengths.ticks code_byte_count in
      let count = planned.are_lengths.ticks in
      let few = range.few_counters in
      pieces config range kind.Tick 900 1000 (λ n b. n < length config.counters)
      (λ n from len inside. record { key = 900 + n; above = omega arith; is = local config range Tick n _ inside refl; rest = omega arith })
      0 (ticks_at planned.lengths) bytes (omega (arith, long, count, few))
      (all-hold (λ n b. n < length config.counters) 0 bytes (λ i l. omega (arith, l, long, count)))

  services : Rises config 1000 1700 (flat_map (local_symbols config) (rows_of kind.Service 0 (services_at planned.lengths) (map code_byte_count planned.lengths.services)))
  services =
      let bytes = map code_byte_count planned.lengths.services in
      let long = length-map planned.lengths.services code_byte_count in
      let count = planned.are_lengths.services in
      pieces config range kind.Service 1000 1700 (Served config range) (service_row config range) 0 (services_at planned.lengths) bytes (omega (arith, long, count))
      (all-hold (Served config range) 0 bytes
      (λ i l some.
      let size = get_or-map code_byte_count planned.lengths.services i 0 0 (omega (arith, l, long)) in
      let same : i ≡ 0 + i = omega arith in
      subst (λ k. IsServed config k) same (called i (omega (arith, l, long, count)) (λ none. some (omega (arith, size, none))))))

  abbrev prologue_rows : List Row
  prologue_rows = rows_of kind.Prologue 0 (prologues_at planned.lengths) (map code_byte_count planned.lengths.prologues)

  abbrev tick_rows : List Row
  tick_rows = rows_of kind.Tick 0 (ticks_at planned.lengths) (map code_byte_count planned.lengths.ticks)

  abbrev service_rows : List Row
  service_rows = rows_of kind.Service 0 (services_at planned.lengths) (map code_byte_count planned.lengths.services)

  abbrev code_rows : List Row
  code_rows = rows_of kind.Code 0 (items_at planned.lengths) (function_bytes app.funcs (map code_byte_count planned.lengths.items))

  abbrev data_rows : List Row
  data_rows = rows_of kind.Data 0 (code_end planned.lengths) (map symbol_bytes app.symbols)

  abbrev end_rows : List Row
  end_rows = row_alone kind.End (behind_symbols app planned.lengths) 4 ∷ []

  code : Rises config 1700 1700 (flat_map (local_symbols config) code_rows)
  code =
      subst (λ (symbols : List Symbol). Rises config 1700 1700 symbols)
      (sym (no_code config range 0 (items_at planned.lengths) (function_bytes app.funcs (map code_byte_count planned.lengths.items)))) (omega arith)

  data_rise : Rises config 1700 1700 (flat_map (local_symbols config) data_rows)
  data_rise =
      subst (λ (symbols : List Symbol). Rises config 1700 1700 symbols)
      (sym (no_data config range 0 (code_end planned.lengths) (map symbol_bytes app.symbols))) (omega arith)

  code_rises : Rises config 703 1700
      (flat_map (local_symbols config) (prologue_rows ++ tick_rows ++ service_rows ++ code_rows ++ data_rows ++ end_rows))
  code_rises =
      let two = both config range 800 900 1000 prologue_rows tick_rows prologues ticks in
      let third = both config range 800 1000 1700 (prologue_rows ++ tick_rows) service_rows two services in
      let four = both config range 800 1700 1700 (prologue_rows ++ tick_rows ++ service_rows) code_rows third code in
      let five = both config range 800 1700 1700 (prologue_rows ++ tick_rows ++ service_rows ++ code_rows) data_rows four data_rise in
      rise_from config 703 800 1700 (flat_map (local_symbols config) (prologue_rows ++ tick_rows ++ service_rows ++ code_rows ++ data_rows ++ end_rows)) (omega arith)
      (both config range 800 1700 1700 (prologue_rows ++ tick_rows ++ service_rows ++ code_rows ++ data_rows) end_rows five (omega arith))

  shared_rise : Rises config 1700 1800 (flat_map (local_symbols config) (shared_rows config m))
  shared_rise = shared config range (has_basic config.tasks) m

  own_rise : Rises config 1800 3000 (flat_map (local_symbols config) (own_rows config m (length config.tasks)))
  own_rise =
      let few = range.few_tasks in
      rise_to config 1800 (1800 + length config.tasks) 3000 (flat_map (local_symbols config) (own_rows config m (length config.tasks))) (omega (arith, few))
      (own_stacks config range m (length config.tasks) (omega arith))

  pieces_rise : Rises config 700 3000 (flat_map (local_symbols config) (exact_rows app planned.lengths ++ shared_rows config m ++ own_rows config m (length config.tasks)))
  pieces_rise = record {
    key = 700;
    above = omega arith;
    is = local config range Kernel 3 _ (omega arith) refl;
    rest = record {
      key = 701;
      above = omega arith;
      is = local config range Kernel 4 _ (omega arith) refl;
      rest = record {
        key = 702;
        above = omega arith;
        is = local config range Kernel 5 _ (omega arith) refl;
        rest =
            both config range 703 1800 3000 (prologue_rows ++ tick_rows ++ service_rows ++ code_rows ++ data_rows ++ end_rows ++ shared_rows config m)
            (own_rows config m (length config.tasks))
            (both config range 703 1700 1800 (prologue_rows ++ tick_rows ++ service_rows ++ code_rows ++ data_rows ++ end_rows) (shared_rows config m) code_rises shared_rise)
            own_rise;
      };
    };
  }

  all_rise : Rises config 0 3000 (word_symbols config ++ flat_map (local_symbols config) (map_rows config m))
  all_rise =
      rise_both config 0 700 3000 (word_symbols config) (flat_map (local_symbols config) (map_rows config m)) (words_rise config range)
      (subst (λ (rows : List Row). Rises config 700 3000 (flat_map (local_symbols config) rows)) (sym (rows_exact config app bounds m well planned)) pieces_rise)

pub local_names_differ : LocalNamesDiffer
local_names_differ config app bounds m well planned =
    names_differ config well.in_range.configuration 0 3000 (word_symbols config ++ flat_map (local_symbols config) (map_rows config m))
    (all_rise config app bounds m well planned)
