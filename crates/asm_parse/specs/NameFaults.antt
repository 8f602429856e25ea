-- The faults of names and of limits: A5 to A7.
use Rattle.std.specs.Prelude.{ℕ, ◌+◌, ◌==◌, Bool, false, ◌⊎◌, ◌&&◌, ◌||◌, not, nat_lt, if◌then◌else◌, List, length, count_by, codes, Option, Some, None}
use Rattle.std.specs.List.{list_any, sum_by}
use Rattle.std.specs.Str.{bytes_eq}
use Rattle.sloth_base.specs.declared.config.Config.{Config}
use Rattle.sloth_base.specs.declared.config.TaskDecl.{TaskDecl}
use Rattle.sloth_base.specs.declared.refusal.Code.TheVariants.{A5, A6, A7}
use Rattle.sloth_base.specs.declared.refusal.Refusal.{Refusal}
use Rattle.sloth_base.specs.Limits.{name_limit, body_limit, item_limit, symbol_limit, data_limit, frame_limit}
use Rattle.sloth_base.specs.Search.{Somewhere}
use Rattle.asm_lines.specs.declared.source_line.SourceLine.{SourceLine}
use Rattle.asm_lines.specs.declared.source_line.SourceLine.TheVariants.{Statement}
use Rattle.asm_lines.specs.Faults.{SourceCase}
use Rattle.asm_scopes.specs.declared.scope.Scope.{Scope}
use Rattle.asm_scopes.specs.Statements.{is_data, is_task, is_label, is_item, name_of, number_of, written_name, symbol_names, label_names}
use Rattle.asm_scopes.specs.Bodies.{BodyText, bodies_of, function_names, task_body_names}
use Rattle.asm_scopes.specs.Scopes.{scope_of, has_unknown}

-- more bytes than a name may have
abbrev pub is_long : List ℕ → Bool
is_long name = nat_lt name_limit (length name)

-- a name that is too long is written here
abbrev pub has_long_name : Option (List ℕ) → Bool
has_long_name None = false
has_long_name (Some name) = is_long name

-- one of the names that a line writes is long
abbrev pub has_long : SourceLine → Bool
has_long (Statement m os) = list_any (λ x. has_long_name (written_name x)) os
has_long _ = false

-- ---- symbols

-- the bytes that a line declares
abbrev pub bytes_of : SourceLine → ℕ
bytes_of l = if is_data l then number_of l else 0

-- A `data` takes a name that is taken: that of one of these symbols, or `frame`.
abbrev pub is_taken : List (List ℕ) → SourceLine → Bool
is_taken earlier l = is_data l && (list_any (bytes_eq (name_of l)) earlier || bytes_eq (name_of l) (codes "frame"))

-- one symbol too many, one that brings the sum of sizes above the limit, or one of a long name
abbrev pub is_too_much : ℕ → ℕ → SourceLine → Bool
is_too_much count bytes l = is_data l && ((count == symbol_limit) || (nat_lt data_limit (bytes + number_of l) || has_long l))

-- A5 and A6 of a `data` on line n, behind so many symbols of these names, which have so many bytes
abbrev pub SymbolFault : List (List ℕ) → ℕ → ℕ → ℕ → SourceLine → Refusal → Type 0
SymbolFault earlier count bytes n l r = SourceCase (is_taken earlier l) n A5 r ⊎ SourceCase (is_too_much count bytes l) n A6 r

-- the same of a line with these before it
abbrev pub DataFault : List SourceLine → SourceLine → Refusal → Type 0
DataFault front l r = SymbolFault (symbol_names front) (count_by is_data front) (sum_by bytes_of front) (length front + 1) l r

-- ---- headers

-- one body too many, a frame of too many words, or a long name
abbrev pub is_too_great : ℕ → SourceLine → Bool
is_too_great count header = (count == body_limit) || (nat_lt frame_limit (number_of header) || has_long header)

-- the body of a task that the configuration has not
abbrev pub is_strange : Scope → SourceLine → Bool
is_strange scope header = is_task header && not (list_any (bytes_eq (name_of header)) scope.tasks)

-- A5, A6 and A7 of a header on line n, behind so many bodies of these names
abbrev pub HeaderFault : Scope → List (List ℕ) → ℕ → ℕ → SourceLine → Refusal → Type 0
HeaderFault scope earlier count n header r =
    SourceCase (list_any (bytes_eq (name_of header)) earlier) n A5 r
    ⊎ (SourceCase (is_too_great count header) n A6 r
    ⊎ SourceCase (is_strange scope header) n A7 r)

-- ---- lines of a body

-- A label of one of these names, or a use of a name that no object of the wanted kind has.
abbrev pub is_misnamed : Scope → List (List ℕ) → List (List ℕ) → SourceLine → Bool
is_misnamed scope labels earlier l = (is_label l && list_any (bytes_eq (name_of l)) earlier) || has_unknown scope labels l

-- the 4,097th item, or a long name
abbrev pub is_beyond : ℕ → SourceLine → Bool
is_beyond items l = (is_item l && (items == item_limit)) || has_long l

-- A5 and A6 of line n, in a body with these labels, behind labels of these earlier names and so many items of all bodies
abbrev pub BodyLineFault : Scope → List (List ℕ) → List (List ℕ) → ℕ → ℕ → SourceLine → Refusal → Type 0
BodyLineFault scope labels earlier items n l r = SourceCase (is_misnamed scope labels earlier l) n A5 r ⊎ SourceCase (is_beyond items l) n A6 r

-- the same of a line with these lines of the body before it, where the header stands on line n, behind so many items
abbrev pub LineNameFault : Scope → List (List ℕ) → ℕ → ℕ → List SourceLine → SourceLine → Refusal → Type 0
LineNameFault scope labels items n front l r = BodyLineFault scope labels (label_names front) (items + count_by is_item front) (n + length front + 1) l r

-- the items of a body
abbrev pub items_in : BodyText → ℕ
items_in body = count_by is_item body.lines

-- a fault of a body, with these bodies before it
abbrev pub BodyNameFault : Scope → List BodyText → BodyText → Refusal → Type 0
BodyNameFault scope front body r =
    HeaderFault scope (function_names front) (length front) body.line body.header r
    ⊎ Somewhere (LineNameFault scope (label_names body.lines) (sum_by items_in front) body.line) body.lines r

-- ---- all

-- a task of the configuration has no body
abbrev pub is_body_missing : Config → List BodyText → Bool
is_body_missing config bodies = list_any (λ (t : TaskDecl). not (list_any (bytes_eq t.name) (task_body_names bodies))) config.tasks

-- a fault of names or limits of these lines
abbrev pub NameFault : Config → List SourceLine → Refusal → Type 0
NameFault config ls r =
    Somewhere DataFault ls r
    ⊎ (Somewhere (BodyNameFault (scope_of config ls (bodies_of ls))) (bodies_of ls) r
    ⊎ SourceCase (is_body_missing config (bodies_of ls)) 1 A7 r)
