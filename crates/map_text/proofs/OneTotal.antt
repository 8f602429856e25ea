-- The bytes between rows, and the sums of parts: one row more.
use Rattle.std.proofs.Common.{◌≡◌, ◌<◌, ◌≤◌, ◌+◌, ◌∙◌, ℕ, List, [], ◌∷◌, ◌++◌, Some, None, length, get_or, drop, refl, sym, ap, append_assoc}
use Rattle.std.specs.Prelude.{slice_get}
use Rattle.std.proofs.lemmas.List.{drop_all, drop_more}
use Rattle.map_text.specs.declared.piece_starts.Row.{Row}
use Rattle.map_text.specs.declared.lines.Part.{Part}
use Rattle.map_text.specs.Totals.{between_rows, part_bytes, filled_rows, gap_rows, part_sum}
use Rattle.map_text.proofs.OneRow.{no_row}

pub gap_some : (row : Row) (rest : List Row) (next : Row) → slice_get rest 0 ≡ Some next → between_rows row rest ≡ gap_rows row next.base
gap_some row [] next e = absurd cc
gap_some row (x ∷ rest) next e = let same : x ≡ next = cc in ap (λ (r : Row). gap_rows row r.base) same

pub gap_none : (row : Row) (rest : List Row) → slice_get rest 0 ≡ None → between_rows row rest ≡ []
gap_none row [] e = refl
gap_none row (x ∷ rest) e = absurd cc

-- a row, and the bytes behind it
pub filled_more : (rows : List Row) (i : ℕ) (filled with_row more all : List Row) → i < length rows → with_row ≡ filled ++ get_or rows i no_row ∷ []
    → more ≡ with_row ++ between_rows (get_or rows i no_row) (drop (i + 1) rows) → filled ++ filled_rows (drop i rows) ≡ all
    → more ++ filled_rows (drop (i + 1) rows) ≡ all
filled_more rows i filled with_row more all inside is behind before =
    let row = get_or rows i no_row in
    let rest = drop (i + 1) rows in
    let gap = between_rows row rest in
    let others = filled_rows rest in
    ap (λ (l : List Row). l ++ others) behind
    ∙ ap (λ (l : List Row). (l ++ gap) ++ others) is
    ∙ append_assoc (filled ++ row ∷ []) gap others
    ∙ append_assoc filled (row ∷ []) (gap ++ others)
    ∙ ap (λ (l : List Row). filled ++ filled_rows l) (sym (drop_more rows i no_row inside))
    ∙ before

pub part_more : (p : Part) (rows : List Row) (i : ℕ) → i < length rows → part_sum p (drop i rows) ≡ part_bytes p (get_or rows i no_row) + part_sum p (drop (i + 1) rows)
part_more p rows i inside = ap (part_sum p) (drop_more rows i no_row inside)

pub part_end : (p : Part) (rows : List Row) (i : ℕ) → length rows ≤ i → part_sum p (drop i rows) ≡ 0
part_end p rows i past = ap (part_sum p) (drop_all i rows past)
