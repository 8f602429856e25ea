-- The OIL text of a generated application of n tasks, T0 to T(n - 1).
use Rattle.std.specs.Prelude.{ℕ, ◌+◌, ◌%◌, ◌==◌, Bool, if◌then◌else◌, List, [], ◌++◌, codes}
use Rattle.std.specs.List.{flat_map, range_with_len}
use Rattle.app_gen.specs.Pieces.{number_behind, has_event}

-- every seventh task is NON
abbrev pub is_non : ℕ → Bool
is_non i = i % 7 == 3

-- the event of a task that has one
unfoldable pub event_object : ℕ → List ℕ
event_object i = if has_event i then number_behind (codes "EVENT E") i ++ codes " { MASK = AUTO; };\n" else []

-- a resource
unfoldable pub resource_object : ℕ → List ℕ
resource_object k = number_behind (codes "RESOURCE R") k ++ codes " { RESOURCEPROPERTY = STANDARD; };\n"

-- the four resources
abbrev pub resource_objects : List ℕ
resource_objects = resource_object 0 ++ resource_object 1 ++ resource_object 2 ++ resource_object 3

-- the value of SCHEDULE
unfoldable pub schedule_of : ℕ → List ℕ
schedule_of i = if is_non i then codes "NON" else codes "FULL"

-- the value of AUTOSTART: the first task alone starts with the system
unfoldable pub autostart_of : ℕ → List ℕ
autostart_of i = if i == 0 then codes "TRUE { APPMODE = OSDEFAULTAPPMODE; }" else codes "FALSE"

-- the attribute EVENT of a task that has one
unfoldable pub event_attribute : ℕ → List ℕ
event_attribute i = if has_event i then number_behind (codes " EVENT = E") i ++ codes ";" else []

-- a task, on one line
unfoldable pub task_object : ℕ → List ℕ
task_object i =
    number_behind (codes "TASK T") i
    ++ number_behind (codes " { PRIORITY = ") (i + 1)
    ++ codes "; SCHEDULE = " ++ schedule_of i
    ++ codes "; ACTIVATION = 1; AUTOSTART = " ++ autostart_of i
    ++ number_behind (codes "; RESOURCE = R") (i % 4)
    ++ codes ";" ++ event_attribute i
    ++ codes " };\n"

-- the text
unfoldable pub oil_text : ℕ → List ℕ
oil_text n =
    codes "OIL_VERSION = \"2.5\";\nCPU c {\nOS o { STATUS = EXTENDED; };\n"
    ++ flat_map event_object (range_with_len 0 n)
    ++ resource_objects
    ++ flat_map task_object (range_with_len 0 n)
    ++ codes "};\n"
