-- What is computed of all functions and of all tasks.
use Rattle.std.specs.Prelude.{ℕ, zero, suc, ◌+◌, ◌*◌, ◌<◌, ◌≤◌, ◌≡◌, ◌&&◌, ◌||◌, not, nat_lt, max, Bool, false, cond, List, length, get_or, Some}
use Rattle.sloth_base.specs.declared.app.Func.{Func}
use Rattle.sloth_base.specs.declared.app.Item.{Item}
use Rattle.sloth_base.specs.declared.app.Op.{Op}
use Rattle.sloth_base.specs.declared.app.Op.TheVariants as op
use Rattle.sloth_base.specs.declared.config.TaskDecl.{TaskDecl}
use Rattle.sloth_base.specs.Named.{no_function, no_item, undeclared_task, body_of}
use Rattle.sloth_base.specs.Limits.{task_limit, body_limit, frame_limit}

-- the sum of a size over the numbers below n
abbrev pub sum_below : ℕ → (ℕ → ℕ) → ℕ
sum_below zero size = 0
sum_below (suc n) size = sum_below n size + size n

-- the greatest size of a number below n
abbrev pub max_below : ℕ → (ℕ → ℕ) → ℕ
max_below zero size = 0
max_below (suc n) size = max (max_below n size) (size n)

-- the function with this number
abbrev pub func_of : List Func → ℕ → Func
func_of funcs f = get_or funcs f no_function

-- ---- calls

-- the bytes of the call that an operation may be: return address, frame, and what the function's own calls need
abbrev pub bytes_called : List Func → (ℕ → ℕ) → Op → ℕ
bytes_called funcs further (op.Invoke g) = 4 + 4 * (func_of funcs g).frame_words + further g
bytes_called funcs further _ = 0

-- the most of one of these items
abbrev pub most_called : List Func → (ℕ → ℕ) → List Item → ℕ
most_called funcs further items = max_below (length items) (λ i. bytes_called funcs further (get_or items i no_item).op)

-- the most that the calls of function f need, at most so many deep
abbrev pub calls_to_depth : List Func → (depth f : ℕ) → ℕ
calls_to_depth funcs zero f = 0
calls_to_depth funcs (suc depth) f = most_called funcs (λ g. calls_to_depth funcs depth g) (func_of funcs f).items

-- a table by function
abbrev pub table_entry : List ℕ → ℕ → ℕ
table_entry table f = get_or table f 0

-- the table has these of all functions
pub record IsTable (funcs : List Func) (depth : ℕ) (table : List ℕ) : Type 0 where
  pub count : length table ≡ length funcs
  pub calls : (f : ℕ) → f < length funcs → table_entry table f ≡ calls_to_depth funcs depth f

-- the function that this operation calls is there
abbrev pub IsKnownCall : List Func → Op → Type 0
IsKnownCall funcs (op.Invoke g) = g < length funcs
IsKnownCall funcs _ = Unit {0}

-- few functions, with small frames, that call functions which are there
pub record AreCallable (funcs : List Func) : Type 0 where
  pub few : length funcs ≤ body_limit
  pub frames : (f : ℕ) → f < length funcs → (func_of funcs f).frame_words ≤ frame_limit
  pub callees : (f i : ℕ) → f < length funcs → i < length (func_of funcs f).items → IsKnownCall funcs (get_or (func_of funcs f).items i no_item).op

-- as many entries as functions, none above that of 64 calls
pub record IsTableInLimit (funcs : List Func) (table : List ℕ) : Type 0 where
  pub count : length table ≡ length funcs
  pub small : (f : ℕ) → table_entry table f ≤ 8448

-- ---- tasks

-- some function is the body of the task
abbrev pub HasTaskBody : List Func → ℕ → Type 0
HasTaskBody funcs t = (f : ℕ) × (f < length funcs) × ((func_of funcs f).task ≡ Some t)

-- the bytes of a task by the table
abbrev pub task_bytes : List Func → List ℕ → ℕ → ℕ
task_bytes funcs table t = 4 * (func_of funcs (body_of funcs t)).frame_words + table_entry table (body_of funcs t) + 128

-- the task's declaration
abbrev pub task_at : List TaskDecl → ℕ → TaskDecl
task_at tasks t = get_or tasks t undeclared_task

-- it is basic and may be preempted, by whether its body waits or calls Schedule
abbrev pub gives_way : TaskDecl → Bool → Bool
gives_way task pauses = not task.extended && (not task.non || pauses)

-- the bytes of a task that may stand below one of this priority
abbrev pub bytes_under : List TaskDecl → List Bool → List ℕ → (priority : ℕ) → ℕ → ℕ
bytes_under tasks yielding bytes priority t =
    cond (get_or yielding t false && nat_lt (task_at tasks t).priority priority) (get_or bytes t 0) 0

-- the bytes of all that may stand below a basic task, and 0 for an extended one
abbrev pub bytes_lower : List TaskDecl → List Bool → List ℕ → ℕ → ℕ
bytes_lower tasks yielding bytes t =
    cond (task_at tasks t).extended 0 (sum_below (length tasks) (bytes_under tasks yielding bytes (task_at tasks t).priority))

-- the bytes of a basic task with all that may stand below it
abbrev pub bytes_with_lower : List TaskDecl → List Bool → List ℕ → ℕ → ℕ
bytes_with_lower tasks yielding bytes t =
    cond (task_at tasks t).extended 0
    (sum_below (length tasks) (bytes_under tasks yielding bytes (task_at tasks t).priority) + get_or bytes t 0)

-- the most bytes of a basic task with all that may stand below it
abbrev pub most_stacked : List TaskDecl → List Bool → List ℕ → ℕ
most_stacked tasks yielding bytes = max_below (length tasks) (bytes_with_lower tasks yielding bytes)

-- an entry for each task: the bytes of all that may stand below it
pub record AreOffsets (tasks : List TaskDecl) (yielding : List Bool) (bytes offsets : List ℕ) : Type 0 where
  pub count : length offsets ≡ length tasks
  pub each : (t : ℕ) → t < length tasks → get_or offsets t 0 ≡ bytes_lower tasks yielding bytes t

-- an entry for each of a few tasks, with bytes that have room in 32 bits together
pub record AreStacks (tasks : List TaskDecl) (yielding : List Bool) (bytes : List ℕ) : Type 0 where
  pub few : length tasks ≤ task_limit
  pub yielding_count : length yielding ≡ length tasks
  pub bytes_count : length bytes ≡ length tasks
  pub small : (t : ℕ) → get_or bytes t 0 ≤ 8704
