-- What the numbers in a configuration and in task code name.
use Rattle.std.specs.Prelude.{ℕ, zero, suc, ◌<◌, ◌≡◌, ◌==◌, List, [], ◌∷◌, false, cond, length, Some, None, get_or, count_by, max}
use Rattle.sloth_base.specs.declared.config.Config.{Config}
use Rattle.sloth_base.specs.declared.config.TaskDecl.{TaskDecl}
use Rattle.sloth_base.specs.declared.config.CounterDecl.{CounterDecl}
use Rattle.sloth_base.specs.declared.config.AlarmDecl.{AlarmDecl}
use Rattle.sloth_base.specs.declared.config.Action.TheVariants as action
use Rattle.sloth_base.specs.declared.app.App.{App}
use Rattle.sloth_base.specs.declared.app.Func.{Func}
use Rattle.sloth_base.specs.declared.app.Item.{Item}
use Rattle.sloth_base.specs.declared.app.Label.{Label}
use Rattle.sloth_base.specs.declared.app.Op.{Op}
use Rattle.sloth_base.specs.declared.app.Op.TheVariants as op
use Rattle.sloth_base.specs.declared.app.Symbol.{Symbol}
use Rattle.sloth_base.specs.Options.{is_number}

-- what stands in the place of a task that is not declared
abbrev pub undeclared_task : TaskDecl
undeclared_task = record { name = []; priority = 0; extended = false; non = false; autostart = false; resources = []; events = 0 }

-- a task's declaration
abbrev pub declaration : Config → ℕ → TaskDecl
declaration config t = get_or config.tasks t undeclared_task

-- ---- counters and alarms

-- what stands in the place of a counter that is not declared
abbrev pub undeclared_counter : CounterDecl
undeclared_counter = record { name = []; max = 0; min_cycle = 0 }

-- a counter's declaration
abbrev pub counter_declaration : Config → ℕ → CounterDecl
counter_declaration config c = get_or config.counters c undeclared_counter

-- what stands in the place of an alarm that is not declared
abbrev pub undeclared_alarm : AlarmDecl
undeclared_alarm = record { name = []; counter = 0; action = action.Activate 0; time = 0; cycle = 0 }

-- an alarm's declaration
abbrev pub alarm_declaration : Config → ℕ → AlarmDecl
alarm_declaration config a = get_or config.alarms a undeclared_alarm

-- the declaration of an alarm's counter
abbrev pub counter_of : Config → (alarm : ℕ) → CounterDecl
counter_of config a = counter_declaration config (alarm_declaration config a).counter

-- how many alarms a counter has
abbrev pub alarms_of : Config → (counter : ℕ) → ℕ
alarms_of config c = count_by (λ alarm. alarm.counter == c) config.alarms

-- the greatest of the first n values of a function, 0 where there is none
abbrev pub greatest_value_below : ℕ → (ℕ → ℕ) → ℕ
greatest_value_below zero f = 0
greatest_value_below (suc n) f = max (f n) (greatest_value_below n f)

-- the greatest number of alarms of one counter
abbrev pub most_alarms : Config → ℕ
most_alarms config = greatest_value_below (length config.counters) (alarms_of config)

-- ---- functions, items and data

-- what stands in the place of a function that is not there
abbrev pub no_function : Func
no_function = record { name = []; line = 0; task = None; frame_words = 0; items = []; labels = [] }

-- a function by its number
abbrev pub function : App → ℕ → Func
function app f = get_or app.funcs f no_function

-- what stands in the place of a label that is not there
abbrev pub no_label : Label
no_label = record { name = []; line = 0; item = 0; holds = [] }

-- a label of a function
abbrev pub label_of : Func → ℕ → Label
label_of f k = get_or f.labels k no_label

-- what stands in the place of an item that is not there
abbrev pub no_item : Item
no_item = record { line = 0; op = op.Return }

-- an item of a function
abbrev pub item_of : Func → ℕ → Item
item_of f i = get_or f.items i no_item

-- what item i of body f does
abbrev pub operation : App → ℕ → ℕ → Op
operation app f i = (item_of (function app f) i).op

-- what stands in the place of a symbol that is not there
abbrev pub no_symbol : Symbol
no_symbol = record { name = []; bytes = [] }

-- the number of bytes of a symbol
abbrev pub symbol_size : App → ℕ → ℕ
symbol_size app y = length (get_or app.symbols y no_symbol).bytes

-- ---- bodies of tasks

-- body f is that of task t
abbrev pub IsBodyOf : App → ℕ → ℕ → Type 0
IsBodyOf app t f = (f < length app.funcs) × ((function app f).task ≡ Some t)

-- the number of a task's body
abbrev pub body_of : List Func → ℕ → ℕ
body_of [] t = 0
body_of (f ∷ rest) t = cond (is_number t f.task) 0 (suc (body_of rest t))
