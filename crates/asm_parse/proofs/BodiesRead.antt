-- The bodies of lines that were read, where no name and no limit is at fault.
use Rattle.std.proofs.Common.{◌≡◌, ◌∙◌, ap, sym, refl, subst, ⊎_elim, inl, inr, ℕ, ◌+◌, ◌<◌, ◌≤◌, Bool, true, false, cond, not, List, [], ◌∷◌, length, take, get_or, length-take, arith, count_by}
use Rattle.std.specs.Prelude.{◌==◌, ◌&&◌, nat_lt, if◌then◌else◌, All}
use Rattle.std.specs.List.{list_any, take_while, prefix_len, sum_by}
use Rattle.std.specs.Str.{bytes_eq}
use Rattle.std.proofs.lemmas.Bool.{eqb-false, ltb-false, cases_lt, or_parts}
use Rattle.std.proofs.lemmas.List.Elements.{All-nil, All-cons, All-head, All-tail, All-take}
use Rattle.sloth_base.specs.declared.refusal.Code.TheVariants.{A5, A6}
use Rattle.sloth_base.specs.declared.refusal.Part.TheVariants.{Src}
use Rattle.sloth_base.specs.Limits.{body_limit, item_limit, frame_limit}
use Rattle.sloth_base.specs.Order.{NoFault}
use Rattle.sloth_base.proofs.Nowhere.{nowhere, case_false}
use Rattle.asm_lines.specs.declared.source_line.SourceLine.{SourceLine}
use Rattle.asm_lines.specs.declared.source_line.SourceLine.TheVariants.{Empty}
use Rattle.asm_scopes.specs.declared.scope.Scope.{Scope}
use Rattle.asm_scopes.specs.Statements.{opens_body, closes_body, is_item, is_label, name_of, number_of, label_names}
use Rattle.asm_scopes.specs.Bodies.{BodyText, bodies_from, body_name, function_names}
use Rattle.asm_parse.specs.NameFaults.{has_long, is_misnamed, is_beyond, is_too_great, items_in, LineNameFault, BodyNameFault}
use Rattle.asm_scopes.specs.Scopes.{has_unknown}
use Rattle.asm_parse.proofs.Growth.{within, Apart, all_apart, kept_apart}
use Rattle.asm_parse.proofs.Read.{IsRead}

-- a body of lines that were read
abbrev pub IsReadBody : BodyText → Type 0
IsReadBody body = (opens_body body.header ≡ true) × IsRead body.header × All IsRead body.lines

pub bodies_read : (n : ℕ) (ls : List SourceLine) → All IsRead ls → All IsReadBody (bodies_from n ls)
bodies_read n [] h = All-nil IsReadBody
bodies_read n (l ∷ ls) h = by (opens_body l) refl (bodies_read (n + 1) ls (All-tail IsRead l ls h))
  where
    body : BodyText
    body = record { line = n; header = l; lines = take_while (λ x. not (closes_body x)) ls }

    by : (b : Bool) → opens_body l ≡ b → All IsReadBody (bodies_from (n + 1) ls) → All IsReadBody (if opens_body l then body ∷ bodies_from (n + 1) ls else bodies_from (n + 1) ls)
    by true e rest =
        subst (λ b. All IsReadBody (if b then body ∷ bodies_from (n + 1) ls else bodies_from (n + 1) ls)) (sym e)
        (All-cons IsReadBody body (bodies_from (n + 1) ls) (e, All-head IsRead l ls h, All-take IsRead (prefix_len (λ x. not (closes_body x)) ls) ls (All-tail IsRead l ls h)) rest)
    by false e rest = subst (λ b. All IsReadBody (if b then body ∷ bodies_from (n + 1) ls else bodies_from (n + 1) ls)) (sym e) rest

-- what stands in the place of a body that is not there
abbrev pub no_body : BodyText
no_body = record { line = 0; header = Empty; lines = [] }

-- a body by its number
abbrev pub body_at : List BodyText → ℕ → BodyText
body_at bodies i = get_or bodies i no_body

-- a line of a body by its place
abbrev pub line_at : BodyText → ℕ → SourceLine
line_at body j = get_or body.lines j Empty

module _ (scope : Scope) (bodies : List BodyText)
    (none : (i : ℕ) → i < length bodies → NoFault (BodyNameFault scope (take i bodies) (body_at bodies i))) where
  -- ---- headers

  new_name : (i : ℕ) → i < length bodies → list_any (bytes_eq (body_name (body_at bodies i))) (function_names (take i bodies)) ≡ false
  new_name i h = case_false Src (list_any (bytes_eq (body_name (body_at bodies i))) (function_names (take i bodies))) (body_at bodies i).line A5 (λ r x. none i h r (inl (inl x)))

  pub names_apart : Apart (function_names bodies)
  names_apart = all_apart body_name bodies no_body new_name

  not_great : (i : ℕ) → i < length bodies → is_too_great (length (take i bodies)) (body_at bodies i).header ≡ false
  not_great i h = case_false Src (is_too_great (length (take i bodies)) (body_at bodies i).header) (body_at bodies i).line A6 (λ r x. none i h r (inl (inr (inl x))))

  pub few_bodies : length bodies ≤ body_limit
  few_bodies = ⊎_elim
      (λ l. absurd (let t = length-take body_limit bodies in eqb-false (length (take body_limit bodies)) body_limit (or_parts (length (take body_limit bodies) == body_limit) _ (not_great body_limit l)).0 (omega (arith, t, l))))
      (λ l. l)
      (cases_lt body_limit (length bodies))

  pub few_words : (i : ℕ) → i < length bodies → number_of (body_at bodies i).header ≤ frame_limit
  few_words i h =
      let header = (body_at bodies i).header in
      ltb-false frame_limit (number_of header) (or_parts (nat_lt frame_limit (number_of header)) (has_long header) (or_parts (length (take i bodies) == body_limit) _ (not_great i h)).1).0

  pub short_name : (i : ℕ) → i < length bodies → has_long (body_at bodies i).header ≡ false
  short_name i h =
      let header = (body_at bodies i).header in
      (or_parts (nat_lt frame_limit (number_of header)) (has_long header) (or_parts (length (take i bodies) == body_limit) _ (not_great i h)).1).1

  -- ---- lines

  module _ (i : ℕ) (h : i < length bodies) where
    abbrev pub body : BodyText
    body = body_at bodies i

    abbrev pub before : ℕ
    before = sum_by items_in (take i bodies)

    line_fault : (j : ℕ) → j < length body.lines → NoFault (LineNameFault scope (label_names body.lines) before body.line (take j body.lines) (line_at body j))
    line_fault j l = nowhere (LineNameFault scope (label_names body.lines) before body.line) body.lines (λ r x. none i h r (inr x)) j Empty l

    well_named : (j : ℕ) → j < length body.lines → is_misnamed scope (label_names body.lines) (label_names (take j body.lines)) (line_at body j) ≡ false
    well_named j l =
        case_false Src (is_misnamed scope (label_names body.lines) (label_names (take j body.lines)) (line_at body j)) (body.line + length (take j body.lines) + 1) A5
        (λ r x. line_fault j l r (inl x))

    not_beyond : (j : ℕ) → j < length body.lines → is_beyond (before + count_by is_item (take j body.lines)) (line_at body j) ≡ false
    not_beyond j l =
        case_false Src (is_beyond (before + count_by is_item (take j body.lines)) (line_at body j)) (body.line + length (take j body.lines) + 1) A6
        (λ r x. line_fault j l r (inr x))

    pub known_at : (j : ℕ) → j < length body.lines → has_unknown scope (label_names body.lines) (line_at body j) ≡ false
    known_at j l =
        let x = line_at body j in
        (or_parts (is_label x && list_any (bytes_eq (name_of x)) (label_names (take j body.lines))) (has_unknown scope (label_names body.lines) x) (well_named j l)).1

    pub short_at : (j : ℕ) → j < length body.lines → has_long (line_at body j) ≡ false
    short_at j l =
        let x = line_at body j in (or_parts (is_item x && (before + count_by is_item (take j body.lines) == item_limit)) (has_long x) (not_beyond j l)).1

    pub labels_apart : Apart (label_names body.lines)
    labels_apart = kept_apart is_label name_of body.lines Empty
        (λ j l t.
        let x = line_at body j in
        let new = list_any (bytes_eq (name_of x)) (label_names (take j body.lines)) in
        ap (λ b. b && new) (sym t) ∙ (or_parts (is_label x && new) (has_unknown scope (label_names body.lines) x) (well_named j l)).0)

    next_item : (j : ℕ) → j < length body.lines → before + count_by is_item (take j body.lines) ≤ item_limit
        → before + count_by is_item (take j body.lines) + cond (is_item (line_at body j)) 1 0 ≤ item_limit
    next_item j l few =
        by (is_item (line_at body j)) (or_parts (is_item (line_at body j) && (before + count_by is_item (take j body.lines) == item_limit)) (has_long (line_at body j)) (not_beyond j l)).0
      where
        by : (b : Bool) → (b && (before + count_by is_item (take j body.lines) == item_limit)) ≡ false → before + count_by is_item (take j body.lines) + cond b 1 0 ≤ item_limit
        by true e = ⊎_elim (λ t. omega (arith, t)) (λ t. absurd (eqb-false (before + count_by is_item (take j body.lines)) item_limit e (omega (arith, t, few)))) (cases_lt (before + count_by is_item (take j body.lines)) item_limit)
        by false e = omega (arith, few)

    more_items : before ≤ item_limit → before + items_in body ≤ item_limit
    more_items = within (λ x. cond (is_item x) 1 0) before item_limit body.lines Empty next_item

  pub few_items : sum_by items_in bodies ≤ item_limit
  few_items =
      let w = within items_in 0 item_limit bodies no_body (λ i h few. let m = more_items i h (omega (arith, few)) in omega (arith, m)) (omega arith) in
      omega (arith, w)
