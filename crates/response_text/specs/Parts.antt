-- Of what the number of a window is made: a line for its start, for each part in front of all, for each kind of rounds and for each counter that ticks.
use Rattle.std.specs.Prelude.{ℕ, zero, suc, ◌<◌, ◌==◌, ◌≡◌, not, cond, Bool, true, false, List, [], ◌++◌, codes, get_or, length, ◌||◌, Option, Some, None}
use Rattle.sloth_base.specs.declared.config.Config.{Config}
use Rattle.sloth_base.specs.declared.app.App.{App}
use Rattle.sloth_base.specs.Named.{declaration, counter_declaration}
use Rattle.run_windows.specs.declared.costs.CounterCosts.{CounterCosts}
use Rattle.run_windows.specs.declared.costs.Costs.{Costs}
use Rattle.run_windows.specs.declared.costs.Start.{Start}
use Rattle.run_windows.specs.declared.costs.Start.TheVariants as start
use Rattle.run_windows.specs.declared.costs.Longest.{Longest}
use Rattle.run_windows.specs.declared.responses.Parts.{Parts}
use Rattle.run_windows.specs.Arrivals.{arrivals}
use Rattle.run_windows.specs.Costs.{task}
use Rattle.run_windows.specs.Windows.{numbers_of, is_round}
use Rattle.run_windows.specs.RunWindows.{IsNumber}
use Rattle.run_windows.specs.Longest.{AreParts}
use Rattle.run_windows.specs.declared.costs.RunCosts.{RunCosts}
use Rattle.response_reasons.specs.Calls.{StartsInside}
use Rattle.response_text.specs.Lines.{number_words}
use Rattle.response_text.specs.declared.part_lines.Name.{Name}
use Rattle.response_text.specs.declared.part_lines.Name.TheVariants as name
use Rattle.response_text.specs.declared.part_lines.FrontNames.{FrontNames}
use Rattle.response_text.specs.declared.part_lines.Bounded.{Bounded}
use Rattle.response_text.specs.declared.part_lines.PartNames.{PartNames}
use Rattle.response_text.specs.PartNames.{unbounded, AreFrontNames}

-- ---- a line

-- what a part is
abbrev pub name_words : Config → Name → List ℕ
name_words config name.Boot = codes " boot"
name_words config (name.Entry t) = codes " enter " ++ (declaration config t).name
name_words config (name.Tick c) = codes " tick " ++ (counter_declaration config c).name
name_words config (name.Line line) = codes " line" ++ number_words (Some line)
name_words config name.Work = codes " work"
name_words config name.Nothing = []

-- the last number of a line, and what it is
abbrev pub last_words : Config → (number : Option ℕ) → Name → List ℕ
last_words config number n = number_words number ++ (name_words config n ++ codes "\n")

-- so many counts in front of all; no line of none
abbrev pub front_line : Config → (word : List ℕ) → (counts : ℕ) → Name → List ℕ
front_line config word counts n = cond (counts == 0) [] (word ++ last_words config (Some counts) n)

-- so many of this cost
abbrev pub some_line : Config → (name word : List ℕ) → (n : ℕ) → (cost : Option ℕ) → Name → List ℕ
some_line config name word n cost is = ((name ++ word) ++ number_words (Some n)) ++ last_words config cost is

-- no line of none
abbrev pub part_line : Config → (name word : List ℕ) → (n : ℕ) → (cost : Option ℕ) → Name → List ℕ
part_line config name word n cost is = cond (n == 0) [] (some_line config name word n cost is)

-- ---- the start

abbrev pub start_word : Start → List ℕ
start_word start.Free = codes " free"
start_word start.Boot = codes " boot"
start_word (start.Activation j) = codes " activation "
start_word (start.Setting j) = codes " event "
start_word (start.Section k) = codes " section "
start_word (start.Round k) = codes " round "

-- the task of which it is
abbrev pub start_name : Config → Start → List ℕ
start_name config start.Free = []
start_name config start.Boot = []
start_name config (start.Activation j) = (declaration config j).name
start_name config (start.Setting j) = (declaration config j).name
start_name config (start.Section k) = (declaration config k).name
start_name config (start.Round k) = (declaration config k).name

abbrev pub start_line : Config → Start → List ℕ
start_line config s = (codes "start" ++ start_word s) ++ (start_name config s ++ codes "\n")

-- the counts of a section; a round that is under way stands with those of its task
abbrev pub section_of : Start → Parts → ℕ
section_of (start.Round k) p = 0
section_of _ p = p.section

-- what stands in front of all
abbrev pub front_lines : Config → Start → Parts → FrontNames → List ℕ
front_lines config s p names =
    (front_line config (codes "stretch") p.stretch names.stretch ++ front_line config (codes "service") p.service names.service)
    ++ (front_line config (codes "item") p.item names.item ++ front_line config (codes "section") (section_of s p) names.section)

-- ---- rounds

-- only a task whose turns WaitEvents cut has rounds of both kinds
abbrev pub first_word : (cut : Bool) → List ℕ
first_word cut = cond cut (codes " first") []

-- the work that the load says bounds them
abbrev pub work_name : (bounded : Bool) → Name
work_name bounded = cond bounded name.Work name.Nothing

abbrev pub bounded_at : List Bounded → (t : ℕ) → Bounded
bounded_at works t = get_or works t unbounded

-- the round of the task that is under way as the window begins, which may be of either kind
abbrev pub begun_line : Config → Start → (counts : ℕ) → Bounded → (t : ℕ) → List ℕ
begun_line config s counts b t =
    cond (is_round s t) (some_line config (declaration config t).name (codes " first") 1 (Some counts) (work_name (b.first || b.next))) []

-- the rounds of a task that begin with its first item, and those that begin behind a WaitEvent
abbrev pub round_line : Config → Costs → List Bounded → Start → Parts → (t : ℕ) → List ℕ
round_line config costs works s p t =
    let b = bounded_at works t in
    (begun_line config s p.section b t
    ++ part_line config (declaration config t).name (first_word (task costs t).is_cut) (numbers_of p.numbers t).activations (task costs t).first (work_name b.first))
    ++ part_line config (declaration config t).name (codes " next") (numbers_of p.numbers t).settings (task costs t).next (work_name b.next)

-- those of the first tasks, so many of them
unfoldable pub round_lines : Config → Costs → List Bounded → Start → Parts → (count : ℕ) → List ℕ
round_lines config costs works s p zero = []
round_lines config costs works s p (suc t) = round_lines config costs works s p t ++ round_line config costs works s p t

-- ---- ticks

abbrev pub no_counter : CounterCosts
no_counter = record { distance = None; tick = 0 }

abbrev pub counter_costs : Costs → (c : ℕ) → CounterCosts
counter_costs costs c = get_or costs.counters c no_counter

-- the ticks of a counter within so many counts
abbrev pub tick_line : Config → Costs → (counts c : ℕ) → List ℕ
tick_line config costs counts c =
    part_line config (counter_declaration config c).name [] (arrivals counts (counter_costs costs c).distance) (Some (counter_costs costs c).tick) name.Nothing

-- those of the first counters, so many of them
unfoldable pub tick_lines : Config → Costs → (counts count : ℕ) → List ℕ
tick_lines config costs counts zero = []
tick_lines config costs counts (suc c) = tick_lines config costs counts c ++ tick_line config costs counts c

-- ---- all

-- the lines of all parts of a window
abbrev pub part_lines : Config → Costs → List Bounded → Start → Parts → FrontNames → List ℕ
part_lines config costs works s p fronts =
    ((start_line config s ++ front_lines config s p fronts) ++ round_lines config costs works s p (length config.tasks))
    ++ tick_lines config costs p.counts (length config.counters)

-- there is a window with something in it
abbrev pub has_parts : Option Longest → Bool
has_parts (Some l) = not (l.number == 0)
has_parts None = false

-- its number is that of a window, and not 0
abbrev pub IsNumbered : RunCosts → (h : ℕ) → Option Longest → Type 0
IsNumbered costs h (Some l) = IsNumber costs.longest costs.late costs.costs h l.opens l.start (Some l.number) × (0 < l.number)
IsNumbered costs h None = ⊥

-- it begins with a start of one of so many tasks
abbrev pub BeginsInside : (n : ℕ) → Option Longest → Type 0
BeginsInside n (Some l) = StartsInside n l.start
BeginsInside n None = Unit {0}

-- These are the lines of the parts of task h's longest window, by what those of all windows are, where they are shown.
abbrev pub IsPartText : Config → App → RunCosts → PartNames → (h : ℕ) → (shown : Bool) → Option Longest → List ℕ → Type 0
IsPartText config app costs names h false l text = text ≡ []
IsPartText config app costs names h true None text = ⊥
IsPartText config app costs names h true (Some l) text =
    (p : Parts) × (fronts : FrontNames) × AreParts costs.longest costs.late costs.costs h l p × AreFrontNames config app costs.costs names h l.start fronts
    × (text ≡ part_lines config costs.costs names.bounded l.start p fronts)
