-- One row more of those between starts.
use Rattle.std.proofs.Common.{◌≡◌, ◌<◌, ◌+◌, ◌∙◌, ℕ, zero, suc, List, [], ◌∷◌, ◌++◌, Some, None, length, get_or, drop, refl, sym, ap, append_assoc}
use Rattle.std.specs.Prelude.{slice_get}
use Rattle.std.proofs.lemmas.List.{drop_more}
use Rattle.map_text.specs.declared.piece_starts.Kind.TheVariants as kind
use Rattle.map_text.specs.declared.piece_starts.Row.{Row}
use Rattle.map_text.specs.declared.piece_starts.Start.{Start}
use Rattle.map_text.specs.PieceRows.{first_start, row_to, rows_between}

-- what begins at a place of a list
pub first_some : (starts : List Start) (k end : ℕ) (s : Start) → slice_get starts k ≡ Some s → first_start (drop k starts) end ≡ s.at
first_some [] k end s e = absurd cc
first_some (x ∷ starts) zero end s e = let same : x ≡ s = cc in ap (λ (y : Start). y.at) same
first_some (x ∷ starts) (suc k) end s e = first_some starts k end s e

pub first_none : (starts : List Start) (k end : ℕ) → slice_get starts k ≡ None → first_start (drop k starts) end ≡ end
first_none [] zero end e = refl
first_none [] (suc k) end e = refl
first_none (x ∷ starts) zero end e = absurd cc
first_none (x ∷ starts) (suc k) end e = first_none starts k end e

-- what stands in the place of a start that is not there
abbrev pub no_start : Start
no_start = record { kind = kind.Words; number = 0; at = 0 }

-- one row more of those between starts
pub between_more : (starts : List Start) (end i : ℕ) (rows more all : List Row) (to : ℕ) → i < length starts → to ≡ first_start (drop (i + 1) starts) end
    → more ≡ rows ++ row_to (get_or starts i no_start) to → rows ++ rows_between (drop i starts) end ≡ all → more ++ rows_between (drop (i + 1) starts) end ≡ all
between_more starts end i rows more all to inside next is before =
    let s = get_or starts i no_start in
    let rest = rows_between (drop (i + 1) starts) end in
    ap (λ l. l ++ rest) is ∙ append_assoc rows (row_to s to) rest
    ∙ ap (λ t. rows ++ (row_to s t ++ rest)) next
    ∙ ap (λ l. rows ++ rows_between l end) (sym (drop_more starts i no_start inside))
    ∙ before
