-- In the rows of a planned map each piece of code and data has exactly its own bytes.
use Rattle.std.proofs.Common.{◌≡◌, ◌<◌, ◌+◌, ◌-◌, ◌∙◌, ℕ, zero, suc, List, [], ◌∷◌, ◌++◌, cond, length, get_or, map, take, drop, fold, sum, refl, sym, ap, arith}
use Rattle.std.proofs.lemmas.Bool.{lt-ltb, le-ltb}
use Rattle.std.proofs.lemmas.List.{append_assoc, drop-drop, ext_get_or, get_or-drop, get_or-take, length-drop, length-map, length-take-le, take-append-drop}
use Rattle.std.proofs.Math.Seq.{take-add}
use Rattle.sloth_base.specs.declared.app.App.{App}
use Rattle.sloth_base.specs.declared.app.Func.{Func}
use Rattle.sloth_base.specs.declared.config.Config.{Config}
use Rattle.sloth_base.specs.declared.limits.Bounds.{Bounds}
use Rattle.sloth_base.specs.MemoryMap.{memory_base, vectors_base, boot_base}
use Rattle.sloth_base.specs.Owners.{first_counter_line}
use Rattle.sloth_region.specs.declared.region.Map.{Map}
use Rattle.code_rules.specs.WellFormed.{WellFormed}
use Rattle.rv32_expand.specs.Sizes.{items_before}
use Rattle.mem_map.specs.declared.all_lengths.CodeLengths.{CodeLengths}
use Rattle.mem_map.specs.Starts.{code_byte_count}
use Rattle.mem_map.specs.Plan.{code_end, idle_at, idle_bytes, items_at, prologues_at, services_at, symbol_bytes, tick_starts, ticks_at}
use Rattle.mem_map.specs.Planned.{IsPlanned}
use Rattle.mem_map.specs.Starts.{starts, end_of}
use Rattle.mem_map.specs.Stacks.{address_behind_data}
use Rattle.mem_map.proofs.Starts.{length_starts}
use Rattle.map_text.specs.ExactRows.{RowsAreExact, behind_symbols, exact_rows, function_bytes, row_alone, rows_of}
use Rattle.map_text.specs.Rows.{address_behind_code, code_places, map_rows, numbered_starts, own_rows, prologues_of, shared_rows, single_start, starts_of, ticks_of}
use Rattle.map_text.specs.PieceRows.{first_start, row_to, rows_between}
use Rattle.map_text.specs.declared.piece_starts.Kind.{Kind}
use Rattle.map_text.specs.declared.piece_starts.Kind.TheVariants as kind
use Rattle.map_text.specs.declared.piece_starts.Row.{Row}
use Rattle.map_text.specs.declared.piece_starts.Start.{Start}

-- ---- one row

-- a piece with bytes
row_whole : (k : Kind) (n from len : ℕ) → 0 < len
    → row_to (record { kind = k; number = n; at = from }) (from + len) ≡ record { kind = k; number = n; base = from; len = len } ∷ []
row_whole k n from len some =
    let row : ℕ → Row = λ bytes. record { kind = k; number = n; base = from; len = bytes } in
    let back : from + len - from ≡ len = omega arith in
    ap (λ b. cond b (row (from + len - from) ∷ []) []) (lt-ltb from (from + len) (omega (arith, some))) ∙ ap (λ bytes. row bytes ∷ []) back

-- one without
row_empty : (k : Kind) (n from : ℕ) → row_to (record { kind = k; number = n; at = from }) (from + 0) ≡ []
row_empty k n from =
    let row : Row = record { kind = k; number = n; base = from; len = from + 0 - from } in
    ap (λ b. cond b (row ∷ []) []) (le-ltb from (from + 0) (omega arith))

-- ---- pieces that go from an address to another

-- they do, and these are their rows
record Fill (pieces : List Start) (from to : ℕ) (rows : List Row) : Type 0 where
  first : first_start pieces to ≡ from
  are : rows_between pieces to ≡ rows

first_both : (one other : List Start) (to : ℕ) → first_start (one ++ other) to ≡ first_start one (first_start other to)
first_both [] other to = refl
first_both (s ∷ one) other to = refl

rows_both : (one other : List Start) (to : ℕ) → rows_between (one ++ other) to ≡ rows_between one (first_start other to) ++ rows_between other to
rows_both [] other to = refl
rows_both (s ∷ one) other to =
    let mid = first_start other to in
    ap (λ a. row_to s a ++ rows_between (one ++ other) to) (first_both one other to)
    ∙ ap (λ l. row_to s (first_start one mid) ++ l) (rows_both one other to)
    ∙ sym (append_assoc (row_to s (first_start one mid)) (rows_between one mid) (rows_between other to))

fill_none : (to : ℕ) → Fill [] to to []
fill_none to = record { first = refl; are = refl }

fill_both : (one other : List Start) (from mid to : ℕ) (rows more : List Row) → Fill one from mid rows → Fill other mid to more
    → Fill (one ++ other) from to (rows ++ more)
fill_both one other from mid to rows more f g = record {
  first = first_both one other to ∙ ap (first_start one) g.first ∙ f.first;
  are = rows_both one other to ∙ ap (λ a. rows_between one a ++ rows_between other to) g.first ∙ ap (λ l. l ++ rows_between other to) f.are
      ∙ ap (λ l. rows ++ l) g.are;
}

-- a piece of which there is one, before others
fill_more : (k : Kind) (at from len mid to : ℕ) (others : List Start) (rows : List Row) → at ≡ from → from + len ≡ mid → 0 < len → Fill others mid to rows
    → Fill (single_start k at ∷ others) from to (row_alone k from len ∷ rows)
fill_more k at from len mid to others rows is end some f = record {
  first = is;
  are = ap (λ a. row_to (single_start k at) a ++ rows_between others to) (f.first ∙ sym end)
      ∙ ap (λ a. row_to (single_start k a) (from + len) ++ rows_between others to) is
      ∙ ap (λ l. l ++ rows_between others to) (row_whole k 0 from len some)
      ∙ ap (λ l. row_alone k from len ∷ l) f.are;
}

-- ---- pieces of a kind

first_numbered : (k : Kind) (n from : ℕ) (bytes : List ℕ) → first_start (numbered_starts k n (starts from bytes)) (end_of from bytes) ≡ from
first_numbered k n from [] = refl
first_numbered k n from (len ∷ bytes) = refl

rows_numbered : (k : Kind) (n from : ℕ) (bytes : List ℕ) → rows_between (numbered_starts k n (starts from bytes)) (end_of from bytes) ≡ rows_of k n from bytes
rows_numbered k n from [] = refl
rows_numbered k n from (zero ∷ bytes) =
    let s : Start = record { kind = k; number = n; at = from } in
    let rest : List Row = rows_between (numbered_starts k (n + 1) (starts (from + 0) bytes)) (end_of (from + 0) bytes) in
    let same : from + 0 ≡ from = omega arith in
    ap (λ a. row_to s a ++ rest) (first_numbered k (n + 1) (from + 0) bytes)
    ∙ ap (λ l. l ++ rest) (row_empty k n from)
    ∙ rows_numbered k (n + 1) (from + 0) bytes
    ∙ ap (λ a. rows_of k (n + 1) a bytes) same
rows_numbered k n from (suc len ∷ bytes) =
    let s : Start = record { kind = k; number = n; at = from } in
    let row : Row = record { kind = k; number = n; base = from; len = suc len } in
    let rest : List Row = rows_between (numbered_starts k (n + 1) (starts (from + suc len) bytes)) (end_of (from + suc len) bytes) in
    ap (λ a. row_to s a ++ rest) (first_numbered k (n + 1) (from + suc len) bytes)
    ∙ ap (λ l. l ++ rest) (row_whole k n from (suc len) (omega arith))
    ∙ ap (λ l. row ∷ l) (rows_numbered k (n + 1) (from + suc len) bytes)

fill_numbered : (k : Kind) (addresses : List ℕ) (from to : ℕ) (bytes : List ℕ) → addresses ≡ starts from bytes → end_of from bytes ≡ to
    → Fill (numbered_starts k 0 addresses) from to (rows_of k 0 from bytes)
fill_numbered k addresses from to bytes are end = record {
  first = ap (λ l. first_start (numbered_starts k 0 l) to) are ∙ ap (λ a. first_start (numbered_starts k 0 (starts from bytes)) a) (sym end) ∙ first_numbered k 0 from bytes;
  are = ap (λ l. rows_between (numbered_starts k 0 l) to) are ∙ ap (λ a. rows_between (numbered_starts k 0 (starts from bytes)) a) (sym end) ∙ rows_numbered k 0 from bytes;
}

-- ---- functions

end_both : (from : ℕ) (one other : List ℕ) → end_of from (one ++ other) ≡ end_of (end_of from one) other
end_both from [] other = refl
end_both from (len ∷ one) other = end_both (from + len) one other

end_folded : (from before : ℕ) (bytes : List ℕ) → end_of (from + before) bytes ≡ from + fold (λ a len. a + len) before bytes
end_folded from before [] = refl
end_folded from before (len ∷ bytes) =
    let same : from + before + len ≡ from + (before + len) = omega arith in
    ap (λ a. end_of a bytes) same ∙ end_folded from (before + len) bytes

end_is : (from : ℕ) (bytes : List ℕ) → end_of from bytes ≡ from + sum bytes
end_is from bytes = let same : from ≡ from + 0 = omega arith in ap (λ a. end_of a bytes) same ∙ end_folded from 0 bytes

-- where a piece begins that has so many before it
place_at : (from : ℕ) (bytes : List ℕ) (k : ℕ) → get_or (starts from bytes) k (end_of from bytes) ≡ end_of from (take k bytes)
place_at from [] zero = refl
place_at from [] (suc k) = refl
place_at from (len ∷ bytes) zero = refl
place_at from (len ∷ bytes) (suc k) = place_at (from + len) bytes k

-- the functions begin each behind the items of the one before it
functions_start : (from : ℕ) (bytes : List ℕ) (k : ℕ) (funcs : List Func)
    → map (λ first. get_or (starts from bytes) first (end_of from bytes)) (starts k (map (λ (f : Func). length f.items) funcs))
    ≡ starts (end_of from (take k bytes)) (function_bytes funcs (drop k bytes))
functions_start from bytes k [] = refl
functions_start from bytes k (f ∷ funcs) =
    let n = length f.items in
    let at = end_of from (take k bytes) in
    let own = take n (drop k bytes) in
    let later = starts (k + n) (map (λ (g : Func). length g.items) funcs) in
    let next : end_of from (take (k + n) bytes) ≡ at + sum own = ap (end_of from) (take-add k n bytes) ∙ end_both from (take k bytes) own ∙ end_is at own in
    ap (λ a. a ∷ map (λ first. get_or (starts from bytes) first (end_of from bytes)) later) (place_at from bytes k)
    ∙ ap (λ l. at ∷ l)
    (functions_start from bytes (k + n) funcs ∙ ap (λ a. starts a (function_bytes funcs (drop (k + n) bytes))) next
    ∙ ap (λ l. starts (at + sum own) (function_bytes funcs l)) (sym (drop-drop n k bytes)))

-- the last one ends where the items end
functions_end : (funcs : List Func) (from : ℕ) (bytes : List ℕ) → length bytes ≡ items_before funcs (length funcs)
    → end_of from (function_bytes funcs bytes) ≡ end_of from bytes
functions_end [] from [] count = refl
functions_end [] from (len ∷ bytes) count = absurd (omega (arith, count))
functions_end (f ∷ funcs) from bytes count =
    let n = length f.items in
    let own = take n bytes in
    let rest = drop n bytes in
    let long = length-drop n bytes in
    functions_end funcs (from + sum own) rest (omega (arith, count, long))
    ∙ ap (λ a. end_of a rest) (sym (end_is from own)) ∙ sym (end_both from own rest) ∙ ap (end_of from) (take-append-drop n bytes)

-- ---- all of it

module _ (config : Config) (app : App) (bounds : Bounds) (m : Map) (well : WellFormed config app) (planned : IsPlanned config app bounds m) where
  abbrev lengths : CodeLengths
  lengths = planned.lengths

  abbrev item_bytes : List ℕ
  item_bytes = map code_byte_count lengths.items

  abbrev counters : ℕ
  counters = length config.counters

  -- the handlers of the lines behind the tasks'
  abbrev later : List ℕ
  later = drop first_counter_line m.handlers

  ticks_count : length (ticks_of config m) ≡ counters
  ticks_count =
      let few = well.in_range.configuration.few_counters in
      let lines = planned.addresses.lines in
      let left = length-drop first_counter_line m.handlers in
      length-take-le counters later (omega (arith, few, lines, left))

  starts_count : length (tick_starts lengths) ≡ counters
  starts_count = length_starts (ticks_at lengths) (map code_byte_count lengths.ticks) ∙ length-map lengths.ticks code_byte_count ∙ planned.are_lengths.ticks

  one_tick : (c : ℕ) → c < counters → get_or (ticks_of config m) c 0 ≡ get_or (tick_starts lengths) c 0
  one_tick c there = get_or-take counters later c 0 there ∙ get_or-drop first_counter_line m.handlers c 0 ∙ planned.addresses.ticks c there

  ticks_are : ticks_of config m ≡ tick_starts lengths
  ticks_are =
      let count = ticks_count in
      ext_get_or 0 (ticks_of config m) (tick_starts lengths) (ticks_count ∙ sym starts_count) (λ c below. one_tick c (omega (arith, below, count)))

  code_are : code_places m ≡ starts (items_at lengths) (function_bytes app.funcs item_bytes)
  code_are =
      ap (λ l. map (λ first. get_or l first (address_behind_code m)) m.places.first) planned.addresses.items
      ∙ ap (λ a. map (λ first. get_or (starts (items_at lengths) item_bytes) first a) m.places.first) planned.addresses.code_to
      ∙ ap (λ l. map (λ first. get_or (starts (items_at lengths) item_bytes) first (code_end lengths)) l) planned.addresses.first
      ∙ functions_start (items_at lengths) item_bytes 0 app.funcs

  code_to : end_of (items_at lengths) (function_bytes app.funcs item_bytes) ≡ code_end lengths
  code_to = functions_end app.funcs (items_at lengths) item_bytes (length-map lengths.items code_byte_count ∙ planned.are_lengths.items.count)

  -- the pieces, kind by kind
  all_fill : Fill (starts_of config m) memory_base (address_behind_data m) (exact_rows app lengths)
  unfolding starts_of
  all_fill =
      let boot = planned.are_lengths.boot in
      let data_to = planned.addresses.data_to in
      let symbols = behind_symbols app lengths in
      let prologues = fill_numbered kind.Prologue (prologues_of config m) (prologues_at lengths) (ticks_at lengths) (map code_byte_count lengths.prologues) planned.addresses.prologues refl in
      let ticks = fill_numbered kind.Tick (ticks_of config m) (ticks_at lengths) (services_at lengths) (map code_byte_count lengths.ticks) ticks_are refl in
      let services = fill_numbered kind.Service m.places.blocks (services_at lengths) (items_at lengths) (map code_byte_count lengths.services) planned.addresses.blocks refl in
      let code = fill_numbered kind.Code (code_places m) (items_at lengths) (code_end lengths) (function_bytes app.funcs item_bytes) code_are code_to in
      let data_rows = fill_numbered kind.Data m.places.symbols (code_end lengths) symbols (map symbol_bytes app.symbols) planned.addresses.symbols refl in
      let end = fill_more kind.End (address_behind_data m - 4) symbols 4 (address_behind_data m) (address_behind_data m) [] [] (omega (arith, data_to)) (omega (arith, data_to)) (omega arith) (fill_none (address_behind_data m)) in
      let pieces =
      fill_both _ _ (prologues_at lengths) symbols (address_behind_data m) _ _
      (fill_both _ _ (prologues_at lengths) (code_end lengths) symbols _ _
      (fill_both _ _ (prologues_at lengths) (items_at lengths) (code_end lengths) _ _
      (fill_both _ _ (prologues_at lengths) (services_at lengths) (items_at lengths) _ _
      (fill_both _ _ (prologues_at lengths) (ticks_at lengths) (services_at lengths) _ _ prologues ticks) services) code) data_rows) end in
      fill_more kind.Words memory_base memory_base 1024 vectors_base (address_behind_data m) _ _ refl (omega arith) (omega arith)
      (fill_more kind.Vectors vectors_base vectors_base 128 boot_base (address_behind_data m) _ _ refl (omega arith) (omega arith)
      (fill_more kind.Boot boot_base boot_base (code_byte_count lengths.boot) (idle_at lengths) (address_behind_data m) _ _ refl refl (omega (arith, boot))
      (fill_more kind.Idle m.idle (idle_at lengths) idle_bytes (prologues_at lengths) (address_behind_data m) _ _ planned.addresses.idle refl (omega arith) pieces)))

  pub rows_exact : map_rows config m ≡ exact_rows app lengths ++ shared_rows config m ++ own_rows config m (length config.tasks)
  rows_exact = ap (λ l. l ++ shared_rows config m ++ own_rows config m (length config.tasks)) all_fill.are

pub rows_are_exact : RowsAreExact
rows_are_exact config app bounds m well planned = rows_exact config app bounds m well planned
