-- The task source of a generated application of n tasks.
use Rattle.std.specs.Prelude.{ℕ, ◌-◌, ◌*◌, ◌%◌, if◌then◌else◌, List, [], ◌++◌, codes}
use Rattle.std.specs.List.{flat_map, range_with_len}
use Rattle.app_gen.specs.Draws.{draw}
use Rattle.app_gen.specs.Pieces.{number_behind, has_event}

-- the first task sets the event of another that has one
unfoldable pub setting_text : ℕ → List ℕ
setting_text j = if has_event j then number_behind (codes "SetEvent T") j ++ number_behind (codes ", E") j ++ codes "\n" else []

-- what the first task does with another in each round
unfoldable pub waking_text : ℕ → List ℕ
waking_text j = number_behind (codes "ActivateTask T") j ++ codes "\n" ++ setting_text j

-- the body of the first task
unfoldable pub first_body : ℕ → List ℕ
first_body n =
    codes "task T0\nlabel loop\n"
    ++ flat_map waking_text (range_with_len 1 (n - 1))
    ++ codes "j loop\nend\n"

-- a task that has an event waits for it
unfoldable pub waiting_text : ℕ → List ℕ
waiting_text i =
    if has_event i
    then number_behind (codes "WaitEvent E") i ++ number_behind (codes "\nClearEvent E") i ++ codes "\n"
    else []

-- how the body of task i begins: it keeps a number in its frame
unfoldable pub body_head : ℕ → ℕ → List ℕ
body_head i number =
    number_behind (codes "task T") i
    ++ number_behind (codes ", 2\nli t0, ") number
    ++ codes "\nsw t0, frame[1]\n"

-- with a resource held it adds the number to one of a table, and stores the sum at its own place there
unfoldable pub adding_text : ℕ → List ℕ
adding_text i =
    number_behind (codes "GetResource R") (i % 4)
    ++ codes "\nlw t1, tab[t0 & 252]\nadd t1, t1, t0\n"
    ++ number_behind (codes "sw t1, tab+") (4 * i)
    ++ number_behind (codes "\nReleaseResource R") (i % 4)
    ++ codes "\n"

-- how each body ends
unfoldable pub body_end : List ℕ
body_end = codes "lw t2, frame[1]\nTerminateTask\nend\n"

-- the body of task i, with this number
unfoldable pub numbered_body : ℕ → ℕ → List ℕ
numbered_body i number = body_head i number ++ adding_text i ++ waiting_text i ++ body_end

-- the body of task i, from 1 on: its number is the draw i
abbrev pub body : ℕ → ℕ → List ℕ
body seed i = numbered_body i (draw seed i)

-- the text
unfoldable pub source_text : ℕ → ℕ → List ℕ
source_text seed n =
    codes "data tab, 256\n"
    ++ first_body n
    ++ flat_map (body seed) (range_with_len 1 (n - 1))
