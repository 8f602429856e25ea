-- The bodies of task source: a header, and the lines up to the next `end`.
use Rattle.std.specs.Prelude.{ℕ, ◌+◌, Bool, true, false, not, if◌then◌else◌, List, [], ◌∷◌, map, filter}
use Rattle.std.specs.List.{take_while}
use Rattle.asm_lines.specs.declared.source_line.SourceLine.{SourceLine}
use Rattle.asm_scopes.specs.Statements.{opens_body, closes_body, is_task, name_of}

-- a body: the number of its header's line, the header, and the lines behind it
pub record BodyText : Type 0 where
  pub line : ℕ
  pub header : SourceLine
  pub lines : List SourceLine

-- the bodies of these lines, of which the first has number n
abbrev pub bodies_from : ℕ → List SourceLine → List BodyText
bodies_from n [] = []
bodies_from n (l ∷ ls) =
    if opens_body l then record { line = n; header = l; lines = take_while (λ x. not (closes_body x)) ls } ∷ bodies_from (n + 1) ls
    else bodies_from (n + 1) ls

-- Functions are numbered in the order of their bodies.
abbrev pub bodies_of : List SourceLine → List BodyText
bodies_of ls = bodies_from 1 ls

-- the name in a body's header
abbrev pub body_name : BodyText → List ℕ
body_name body = name_of body.header

-- the body of a task
abbrev pub is_task_body : BodyText → Bool
is_task_body body = is_task body.header

-- the body of a function that may be called
abbrev pub is_called_body : BodyText → Bool
is_called_body body = not (is_task body.header)

-- the body of a task, or of a function that may be called
abbrev pub is_body_of : (of_task : Bool) → BodyText → Bool
is_body_of true body = is_task_body body
is_body_of false body = is_called_body body

-- Tasks and functions share one name space.
abbrev pub function_names : List BodyText → List (List ℕ)
function_names bodies = map body_name bodies

-- the names of the functions that may be called
abbrev pub called_names : List BodyText → List (List ℕ)
called_names bodies = map body_name (filter is_called_body bodies)

-- the names of the tasks that have a body
abbrev pub task_body_names : List BodyText → List (List ℕ)
task_body_names bodies = map body_name (filter is_task_body bodies)
