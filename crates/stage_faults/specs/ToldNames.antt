-- The faults of names and limits that are told: those of the judges, of which the refusal is the least, and each thing behind a limit.
use Rattle.std.specs.Prelude.{ℕ, ◌+◌, Bool, ◌⊎◌, ◌&&◌, ◌||◌, nat_lt, List, length, count_by}
use Rattle.std.specs.List.{list_any, sum_by}
use Rattle.std.specs.Str.{bytes_eq}
use Rattle.sloth_base.specs.declared.config.Config.{Config}
use Rattle.sloth_base.specs.declared.refusal.Code.TheVariants.{A5, A6, A7}
use Rattle.sloth_base.specs.declared.refusal.Refusal.{Refusal}
use Rattle.sloth_base.specs.Limits.{body_limit, item_limit, symbol_limit}
use Rattle.sloth_base.specs.Search.{Somewhere}
use Rattle.asm_lines.specs.declared.source_line.SourceLine.{SourceLine}
use Rattle.asm_lines.specs.Faults.{SourceCase}
use Rattle.asm_scopes.specs.declared.scope.Scope.{Scope}
use Rattle.asm_scopes.specs.Statements.{is_data, is_item, name_of, symbol_names, label_names}
use Rattle.asm_scopes.specs.Bodies.{BodyText, bodies_of, function_names}
use Rattle.asm_scopes.specs.Scopes.{scope_of}
use Rattle.asm_parse.specs.NameFaults.{bytes_of, is_taken, is_too_much, is_too_great, is_strange, is_misnamed, is_beyond, items_in, is_body_missing}

-- ---- symbols

-- A6 of a `data`, or a symbol behind more than there may be
abbrev pub is_symbol_beyond : ℕ → ℕ → SourceLine → Bool
is_symbol_beyond count bytes l = is_too_much count bytes l || (is_data l && nat_lt symbol_limit count)

-- A5 and A6 of a `data` on line n, behind so many symbols of these names, which have so many bytes
abbrev pub ToldSymbol : List (List ℕ) → ℕ → ℕ → ℕ → SourceLine → Refusal → Type 0
ToldSymbol earlier count bytes n l r = SourceCase (is_taken earlier l) n A5 r ⊎ SourceCase (is_symbol_beyond count bytes l) n A6 r

-- the same of a line with these before it
abbrev pub ToldData : List SourceLine → SourceLine → Refusal → Type 0
ToldData front l r = ToldSymbol (symbol_names front) (count_by is_data front) (sum_by bytes_of front) (length front + 1) l r

-- ---- headers

-- A6 of a header, or a body behind more than there may be
abbrev pub is_header_beyond : ℕ → SourceLine → Bool
is_header_beyond count header = is_too_great count header || nat_lt body_limit count

-- A5, A6 and A7 of a header on line n, behind so many bodies of these names
abbrev pub ToldHeader : Scope → List (List ℕ) → ℕ → ℕ → SourceLine → Refusal → Type 0
ToldHeader scope earlier count n header r =
    SourceCase (list_any (bytes_eq (name_of header)) earlier) n A5 r
    ⊎ (SourceCase (is_header_beyond count header) n A6 r
    ⊎ SourceCase (is_strange scope header) n A7 r)

-- ---- lines of a body

-- A6 of a line, or an item behind more than there may be
abbrev pub is_line_beyond : ℕ → SourceLine → Bool
is_line_beyond items l = is_beyond items l || (is_item l && nat_lt item_limit items)

-- A5 and A6 of line n, in a body with these labels, behind labels of these earlier names and so many items of all bodies
abbrev pub ToldBodyLine : Scope → List (List ℕ) → List (List ℕ) → ℕ → ℕ → SourceLine → Refusal → Type 0
ToldBodyLine scope labels earlier items n l r = SourceCase (is_misnamed scope labels earlier l) n A5 r ⊎ SourceCase (is_line_beyond items l) n A6 r

-- the same of a line with these lines of the body before it, where the header stands on line n, behind so many items
abbrev pub ToldLineName : Scope → List (List ℕ) → ℕ → ℕ → List SourceLine → SourceLine → Refusal → Type 0
ToldLineName scope labels items n front l r = ToldBodyLine scope labels (label_names front) (items + count_by is_item front) (n + length front + 1) l r

-- what is told of a body, with these bodies before it
abbrev pub ToldBody : Scope → List BodyText → BodyText → Refusal → Type 0
ToldBody scope front body r =
    ToldHeader scope (function_names front) (length front) body.line body.header r
    ⊎ Somewhere (ToldLineName scope (label_names body.lines) (sum_by items_in front) body.line) body.lines r

-- ---- all

-- a fault of names or limits that is told of these lines
abbrev pub ToldName : Config → List SourceLine → Refusal → Type 0
ToldName config ls r =
    Somewhere ToldData ls r
    ⊎ (Somewhere (ToldBody (scope_of config ls (bodies_of ls))) (bodies_of ls) r
    ⊎ SourceCase (is_body_missing config (bodies_of ls)) 1 A7 r)
