-- The rows of planned task code rise.
use Rattle.std.proofs.Common.{◌≡◌, ◌<◌, ◌≤◌, ◌+◌, ◌-◌, ◌^◌, ◌⊎◌, inl, inr, ℕ, zero, suc, Bool, true, false, cond, List, [], ◌∷◌, ◌++◌, length, get_or, sym, subst, arith}
use Rattle.std.specs.Prelude.{◌==◌}
use Rattle.std.proofs.lemmas.Bool.{cases_lt, lt-ltb, le-ltb}
use Rattle.sloth_base.specs.declared.app.Func.{Func}
use Rattle.sloth_base.specs.declared.app.Item.{Item}
use Rattle.sloth_base.specs.declared.limits.Places.{Places}
use Rattle.mem_map.proofs.Ends.{end_above}
use Rattle.mem_map.specs.Starts.{end_of, starts}
use Rattle.symbol_image.specs.LineMachine.{AreRisingRows}
use Rattle.map_text.specs.LineRows.{first_rows, item_address, item_rows, last_row, line_rows, row}
use Rattle.map_text.specs.declared.line_rows.LineRow.{LineRow}
use Rattle.symbol_image.specs.FileRows.{file_rows, row_from}
use Rattle.map_text.specs.LinePlaces.{no_place}
use Rattle.symbol_image.specs.declared.line_section.FileRow.{FileRow}
use Rattle.map_text.specs.declared.line_places.Place.{Place}
use Rattle.symbol_build.proofs.SmallPlaces.{AreSmall, IsSmall}
use Rattle.symbol_build.proofs.RisingLines.{BodiesRise, ItemsRise}

-- ---- addresses of pieces

-- those of pieces that follow each other rise up to where they end
starts_rise : (from end : ℕ) (lens : List ℕ) (k : ℕ) → end_of from lens ≤ end → get_or (starts from lens) k end ≤ get_or (starts from lens) (suc k) end
starts_rise from end [] k h = omega arith
starts_rise from end (len ∷ []) zero h = omega (arith, h)
starts_rise from end (len ∷ next ∷ lens) zero h = omega arith
starts_rise from end (len ∷ lens) (suc k) h = starts_rise (from + len) end lens k h

starts_within : (from end : ℕ) (lens : List ℕ) (k : ℕ) → end_of from lens ≤ end → get_or (starts from lens) k end ≤ end
starts_within from end [] k h = omega arith
starts_within from end (len ∷ lens) zero h = let above = end_above (from + len) lens in omega (arith, above, h)
starts_within from end (len ∷ lens) (suc k) h = starts_within (from + len) end lens k h

-- ---- rows

-- neither addresses nor lines fall from these on, nor behind the last row up to those
abbrev Rises : (address line : ℕ) → List LineRow → (end last : ℕ) → Type 0
Rises address line [] end last = (address ≤ end) × (line ≤ last)
Rises address line (r ∷ rows) end last = (address ≤ r.address) × (line ≤ r.line) × Rises r.address r.line rows end last

earlier : (a b l k : ℕ) (rows : List LineRow) (end last : ℕ) → a ≤ b → l ≤ k → Rises b k rows end last → Rises a l rows end last
earlier a b l k [] end last x y h = let p = h.0 in let q = h.1 in (omega (arith, x, p), omega (arith, y, q))
earlier a b l k (r ∷ rows) end last x y h = let p = h.0 in let q = h.1 in (omega (arith, x, p), omega (arith, y, q), h.2)

joined : (a l : ℕ) (one other : List LineRow) (mid line end last : ℕ) → Rises a l one mid line → Rises mid line other end last → Rises a l (one ++ other) end last
joined a l [] other mid line end last h k = earlier a mid l line other end last h.0 h.1 k
joined a l (r ∷ one) other mid line end last h k = (h.0, h.1, joined r.address r.line one other mid line end last h.2 k)

-- each line is at most the last
lines-within : (a l : ℕ) (rows : List LineRow) (end last : ℕ) → Rises a l rows end last → l ≤ last
lines-within a l [] end last h = h.1
lines-within a l (r ∷ rows) end last h = let p = h.1 in let q = lines-within r.address r.line rows end last h.2 in omega (arith, p, q)

-- a row with a place, or without one, in front of others
risen : (a address line : ℕ) (place : Place) (rows : List FileRow) (end : ℕ) (b : Bool) → a ≤ address → line < 2 ^ 32 → IsSmall place → AreRisingRows address rows end
    → AreRisingRows a (cond b (row_from address 1 line) (row_from address place.file place.line) ∷ rows) end
risen a address line place rows end true above small place_small h = (above, omega arith, small, h)
risen a address line place rows end false above small place_small h = (above, place_small.0, place_small.1, h)

are_rising : (places : List Place) → AreSmall places → (a l : ℕ) (rows : List LineRow) (end last : ℕ) → end < 2 ^ 32 → last < 2 ^ 32 → Rises a l rows end last
    → AreRisingRows a (file_rows places rows) end
are_rising places small a l [] end last e f h = (h.0, e)
are_rising places small a l (r ∷ rows) end last e f h =
    let q = lines-within r.address r.line rows end last h.2 in
    let place = get_or places (r.line - 1) no_place in
    risen a r.address r.line place (file_rows places rows) end (place.file == 0) h.0 (omega (arith, q, f)) (small (r.line - 1))
    (are_rising places small r.address r.line rows end last e f h.2)

-- the last instruction of a first item
last_rises : (first next line : ℕ) → first ≤ next → Rises first line (last_row first next line) next line
last_rises first next line le = by (cases_lt 4 (next - first))
  where
    by : (4 < next - first) ⊎ (next - first ≤ 4) → Rises first line (last_row first next line) next line
    by (inl more) =
        subst (λ (b : Bool). Rises first line (cond b (row (next - 4) line ∷ []) []) next line) (sym (lt-ltb 4 (next - first) more))
        (omega (arith, more), omega arith, (omega arith, omega arith))
    by (inr few) =
        subst (λ (b : Bool). Rises first line (cond b (row (next - 4) line ∷ []) []) next line) (sym (le-ltb 4 (next - first) few)) (le, omega arith)

module _ (places : Places) (end : ℕ) (step : (k : ℕ) → item_address places end k ≤ item_address places end (suc k)) where
  abbrev address : ℕ → ℕ
  address k = item_address places end k

  next : (k : ℕ) → address k ≤ address (k + 1)
  next k = let on : suc k ≡ k + 1 = omega arith in subst (λ n. address k ≤ address n) on (step k)

  items : (k line to : ℕ) (all : List Item) → ItemsRise line all to → Rises (address k) line (item_rows places end k all) (address (k + length all)) to
  items k line to [] h = let none : k ≡ k + 0 = omega arith in (subst (λ n. address k ≤ address n) none (omega arith), h)
  items k line to (i ∷ all) h =
      let on : k + 1 + length all ≡ k + suc (length all) = omega arith in (
        omega arith,
        h.0,
        earlier (address k) (address (k + 1)) i.line i.line (item_rows places end (k + 1) all) (address (k + suc (length all))) to (next k) (omega arith)
            (subst (λ n. Rises (address (k + 1)) i.line (item_rows places end (k + 1) all) (address n) to) on (items (k + 1) i.line to all h.1)),
      )

  first : (k line to : ℕ) (all : List Item) → ItemsRise line all to → Rises (address k) line (first_rows places end k all) (address (k + length all)) to
  first k line to [] h = let none : k ≡ k + 0 = omega arith in (subst (λ n. address k ≤ address n) none (omega arith), h)
  first k line to (i ∷ all) h =
      let on : k + 1 + length all ≡ k + suc (length all) = omega arith in (
        omega arith,
        h.0,
        joined (address k) i.line (last_row (address k) (address (k + 1)) i.line) (item_rows places end (k + 1) all) (address (k + 1)) i.line
            (address (k + suc (length all))) to (last_rises (address k) (address (k + 1)) i.line (next k))
            (subst (λ n. Rises (address (k + 1)) i.line (item_rows places end (k + 1) all) (address n) to) on (items (k + 1) i.line to all h.1)),
      )

  bodies : (k from to : ℕ) (funcs : List Func) → ((n : ℕ) → address n ≤ end) → BodiesRise from funcs to → Rises (address k) from (line_rows places end k funcs) end to
  bodies k from to [] within h = (within k, h)
  bodies k from to (f ∷ funcs) within h = (
    omega arith,
    h.above,
    joined (address k) f.line (first_rows places end k f.items) (line_rows places end (k + length f.items) funcs) (address (k + length f.items)) h.to end to
        (first k f.line h.to f.items h.items) (bodies (k + length f.items) h.to to funcs within h.rest),
  )

-- so rows of pieces that follow each other rise, where the lines do
pub rows_rise : (places : Places) (sources : List Place) → AreSmall sources → (at end to : ℕ) (lens : List ℕ) (funcs : List Func) → places.items ≡ starts at lens → end_of at lens ≤ end → end < 2 ^ 32 → to < 2 ^ 32
    → BodiesRise 1 funcs to → AreRisingRows 0 (file_rows sources (line_rows places end 0 funcs)) end
rows_rise places sources sources_small at end to lens funcs is below small few h =
    let step : (k : ℕ) → item_address places end k ≤ item_address places end (suc k) =
    λ k. subst (λ (l : List ℕ). get_or l k end ≤ get_or l (suc k) end) (sym is) (starts_rise at end lens k below) in
    let within : (k : ℕ) → item_address places end k ≤ end = λ k. subst (λ (l : List ℕ). get_or l k end ≤ end) (sym is) (starts_within at end lens k below) in
    are_rising sources sources_small 0 1 (line_rows places end 0 funcs) end to small few
    (earlier 0 (item_address places end 0) 1 1 (line_rows places end 0 funcs) end to (omega arith) (omega arith) (bodies places end step 0 1 to funcs within h))
