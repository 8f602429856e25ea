-- One row more.
use Rattle.std.proofs.Common.{◌≡◌, ◌<◌, ◌≤◌, ◌+◌, ◌∙◌, ℕ, true, false, List, [], ◌∷◌, ◌++◌, length, get_or, drop, cond, refl, sym, ap, append-nil, append_assoc}
use Rattle.std.proofs.Math.Numerals.{add-one}
use Rattle.std.proofs.lemmas.List.{drop_all, drop_more}
use Rattle.sloth_base.specs.declared.config.Config.{Config}
use Rattle.sloth_region.specs.declared.region.Map.{Map}
use Rattle.mem_map.specs.StackParts.{is_extended}
use Rattle.mem_map.specs.Zones.{stack_of}
use Rattle.map_text.specs.declared.piece_starts.Kind.{Kind}
use Rattle.map_text.specs.declared.piece_starts.Kind.TheVariants as kind
use Rattle.map_text.specs.declared.piece_starts.Row.{Row}
use Rattle.map_text.specs.declared.piece_starts.Start.{Start}
use Rattle.map_text.specs.Rows.{numbered_starts, own_rows, extent_row, rows_sum}

-- what stands in the place of a row that is not there
abbrev pub no_row : Row
no_row = record { kind = kind.Words; number = 0; base = 0; len = 0 }

-- one start more of those that are numbered
pub numbered_more : (k : Kind) (addresses : List ℕ) (i : ℕ) (starts more all : List Start) → i < length addresses
    → more ≡ starts ++ record { kind = k; number = i; at = get_or addresses i 0 } ∷ [] → starts ++ numbered_starts k i (drop i addresses) ≡ all
    → more ++ numbered_starts k (i + 1) (drop (i + 1) addresses) ≡ all
numbered_more k addresses i starts more all inside is before =
    let s : Start = record { kind = k; number = i; at = get_or addresses i 0 } in
    let rest = numbered_starts k (i + 1) (drop (i + 1) addresses) in
    ap (λ l. l ++ rest) is ∙ append_assoc starts (s ∷ []) rest ∙ ap (λ l. starts ++ numbered_starts k i l) (sym (drop_more addresses i 0 inside)) ∙ before

-- ---- stacks

module _ (config : Config) (m : Map) where
  no_own : own_rows config m 0 ≡ []
  unfolding own_rows
  no_own = refl

  one_own_more : (t : ℕ) → own_rows config m (t + 1) ≡ own_rows config m t ++ cond (is_extended config.tasks t) (extent_row kind.Stack t (stack_of m t) ∷ []) []
  unfolding own_rows
  one_own_more t = ap (own_rows config m) (add-one t)

  pub own_begin : (rows : List Row) → rows ≡ rows ++ own_rows config m 0
  own_begin rows = sym (append-nil rows) ∙ ap (λ l. rows ++ l) (sym no_own)

  module _ (t : ℕ) (old rows : List Row) (before : rows ≡ old ++ own_rows config m t) where
    -- a task with a stack of its own
    pub own_more : (more : List Row) → is_extended config.tasks t ≡ true → more ≡ rows ++ extent_row kind.Stack t (stack_of m t) ∷ []
        → more ≡ old ++ own_rows config m (t + 1)
    own_more more e is =
        let row = extent_row kind.Stack t (stack_of m t) ∷ [] in
        is ∙ ap (λ l. l ++ row) before ∙ append_assoc old (own_rows config m t) row
        ∙ ap (λ b. old ++ (own_rows config m t ++ cond b row [])) (sym e) ∙ ap (λ l. old ++ l) (sym (one_own_more t))

    -- a basic one
    pub own_passed : is_extended config.tasks t ≡ false → rows ≡ old ++ own_rows config m (t + 1)
    own_passed e =
        let row = extent_row kind.Stack t (stack_of m t) ∷ [] in
        before ∙ ap (λ l. old ++ l) (sym (append-nil (own_rows config m t)))
        ∙ ap (λ b. old ++ (own_rows config m t ++ cond b row [])) (sym e) ∙ ap (λ l. old ++ l) (sym (one_own_more t))

-- ---- sums

pub sum_more : (rows : List Row) (i : ℕ) → i < length rows → rows_sum (drop i rows) ≡ (get_or rows i no_row).len + rows_sum (drop (i + 1) rows)
sum_more rows i inside = ap rows_sum (drop_more rows i no_row inside)

pub sum_end : (rows : List Row) (i : ℕ) → length rows ≤ i → rows_sum (drop i rows) ≡ 0
sum_end rows i past = ap rows_sum (drop_all i rows past)
