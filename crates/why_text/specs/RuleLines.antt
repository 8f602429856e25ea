-- The lines behind a refusal of task code, from its witness.
use Rattle.std.specs.Prelude.{ℕ, ◌+◌, ◌==◌, ◌++◌, ◌&&◌, nat_le, not, Bool, true, false, cond, List, [], ◌∷◌, length, Option, Some, None, get_or, codes, decimal}
use Rattle.sloth_base.specs.declared.config.Config.{Config}
use Rattle.sloth_base.specs.declared.app.App.{App}
use Rattle.sloth_base.specs.declared.app.Func.{Func}
use Rattle.sloth_base.specs.declared.app.Item.{Item}
use Rattle.sloth_base.specs.declared.app.Op.{Op}
use Rattle.sloth_base.specs.declared.app.Op.TheVariants as op
use Rattle.sloth_base.specs.declared.refusal.Code.{Code}
use Rattle.sloth_base.specs.declared.refusal.Code.TheVariants as code
use Rattle.sloth_base.specs.declared.refusal.Refusal.{Refusal}
use Rattle.sloth_base.specs.declared.service.Service.{Service}
use Rattle.sloth_base.specs.declared.service.Service.TheVariants as service
use Rattle.sloth_base.specs.ConfigRange.{no_event, resource_name}
use Rattle.sloth_base.specs.Named.{declaration, function, item_of, label_of, no_symbol, symbol_size}
use Rattle.sloth_base.specs.ServiceCodes.{service_name}
use Rattle.code_rules.specs.Code.{held_list_at, held_list_entering, is_followed, way}
use Rattle.task_verify.specs.Labels.{last_label_below}
use Rattle.fault_witnesses.specs.CallChains.{chain_end}
use Rattle.fault_witnesses.specs.declared.chains.Calls.{Calls}
use Rattle.fault_witnesses.specs.declared.chains.Link.{Link}
use Rattle.fault_witnesses.specs.declared.breaches.Place.{Place}
use Rattle.fault_witnesses.specs.declared.breaches.Place.TheVariants as place
use Rattle.fault_witnesses.specs.declared.users.User.{User}
use Rattle.fault_witnesses.specs.declared.witnesses.Way.{Way}
use Rattle.fault_witnesses.specs.declared.witnesses.Witness.{Witness}

-- ---- a word and a name

abbrev pub spaced_number : ℕ → List ℕ
spaced_number n = codes " " ++ decimal n

abbrev pub word_line : List ℕ → List ℕ → List ℕ
word_line word name = (word ++ (codes " " ++ name)) ++ codes "\n"

abbrev pub name_line : List ℕ → List ℕ
name_line name = word_line (codes "name") name

abbrev pub number_line : List ℕ → ℕ → List ℕ
number_line word n = word_line word (decimal n)

-- ---- ways, and what is held

-- the lines of these items
abbrev pub item_words : Func → List ℕ → List ℕ
item_words f [] = []
item_words f (i ∷ items) = spaced_number (item_of f i).line ++ item_words f items

-- the label that a way starts behind
abbrev pub start_line : Func → ℕ → List ℕ
start_line f k = ((codes "from" ++ spaced_number (label_of f k).line) ++ (codes " " ++ (label_of f k).name)) ++ codes "\n"

abbrev pub start_lines : Func → Option ℕ → List ℕ
start_lines f None = []
start_lines f (Some k) = start_line f k

abbrev pub way_line : Func → List ℕ → List ℕ
way_line f items = (codes "way" ++ item_words f items) ++ codes "\n"

abbrev pub way_lines : Func → Way → List ℕ
way_lines f way = start_lines f way.label ++ way_line f way.items

abbrev pub shown_way_lines : Func → Option Way → List ℕ
shown_way_lines f None = []
shown_way_lines f (Some way) = way_lines f way

abbrev pub behind_lines : Func → Option ℕ → List ℕ
behind_lines f None = []
behind_lines f (Some i) = number_line (codes "behind") (item_of f i).line

abbrev pub resource_words : Config → List ℕ → List ℕ
resource_words config [] = []
resource_words config (r ∷ list) = (codes " " ++ resource_name config r) ++ resource_words config list

abbrev pub list_words : Config → List ℕ → List ℕ
list_words config [] = codes " -"
list_words config (r ∷ list) = resource_words config (r ∷ list)

-- a line of resources in the order in which they were taken, `-` for none
abbrev pub list_line : Config → List ℕ → List ℕ → List ℕ
list_line config word list = (word ++ list_words config list) ++ codes "\n"

-- ---- calls

abbrev pub pair_words : List ℕ → ℕ → List ℕ
pair_words name line = (codes " " ++ name) ++ spaced_number line

-- calls, each with the line of its item
abbrev pub link_words : App → List Link → List ℕ
link_words app [] = []
link_words app (l ∷ links) = (codes "," ++ pair_words (function app l.func).name l.line) ++ link_words app links

abbrev pub service_words_of : Op → ℕ → List ℕ
service_words_of (op.Serve call) line = pair_words (service_name call.service) line
service_words_of _ line = []

abbrev pub service_words : Item → List ℕ
service_words item = service_words_of item.op item.line

abbrev pub ending_words : Option Item → List ℕ
ending_words None = []
ending_words (Some item) = codes "," ++ service_words item

-- a body with a line, the calls from there, and the service that they lead to
abbrev pub calls_line : App → List ℕ → ℕ → List Link → Option Item → List ℕ
calls_line app name line links ending = (((codes "calls" ++ pair_words name line) ++ link_words app links) ++ ending_words ending) ++ codes "\n"

-- ---- an item

-- the symbol of an access and its bytes, or the frame and its words
abbrev pub symbol_lines : App → ℕ → List ℕ
symbol_lines app y = name_line (get_or app.symbols y no_symbol).name ++ number_line (codes "bytes") (symbol_size app y)

abbrev pub size_lines : App → Func → Op → List ℕ
size_lines app f (op.Load w rd y offset) = symbol_lines app y
size_lines app f (op.Store w rs y offset) = symbol_lines app y
size_lines app f (op.LoadAt w rd y index mask) = symbol_lines app y
size_lines app f (op.StoreAt w rs y index mask) = symbol_lines app y
size_lines app f _ = name_line (codes "frame") ++ number_line (codes "words") f.frame_words

-- the label that an operation jumps to
abbrev pub jump_name_lines : Func → Option ℕ → List ℕ
jump_name_lines f None = []
jump_name_lines f (Some k) = name_line (label_of f k).name

-- item i is the last one, and goes on
abbrev pub falls_out : Func → ℕ → Bool
falls_out f i = is_followed (item_of f i).op && nat_le (length f.items) (i + 1)

-- V5: the label behind the last item, unless the item itself goes on past it
abbrev pub run_out_lines : Func → ℕ → List ℕ
run_out_lines f i = cond (falls_out f i) [] (jump_name_lines f (way (item_of f i).op))

-- V7: the label of a jump, and its list
abbrev pub target_lines : Config → Func → Option ℕ → List ℕ
target_lines config f None = []
target_lines config f (Some k) = name_line (label_of f k).name ++ list_line config (codes "lists") (label_of f k).holds

-- the resource of an operation
abbrev pub op_object : Op → ℕ
op_object (op.Serve call) = call.object
op_object _ = 0

-- V8: the last one taken, if there is one
abbrev pub last_lines : Config → List ℕ → List ℕ
last_lines config [] = []
last_lines config (r ∷ held) = word_line (codes "wants") (resource_name config (get_or (r ∷ held) (length held) 0))

abbrev pub release_lines : Config → List ℕ → Op → List ℕ
release_lines config held o = name_line (resource_name config (op_object o)) ++ last_lines config held

-- what an operation calls
abbrev pub op_callee : Op → ℕ
op_callee (op.Invoke g) = g
op_callee _ = 0

-- the item that the calls lead to
abbrev pub culprit_item : App → Op → Calls → Item
culprit_item app o calls = item_of (function app (chain_end (op_callee o) calls.links)) calls.item

abbrev pub called_lines : App → Item → Calls → List ℕ
called_lines app item calls = calls_line app (function app (op_callee item.op)).name item.line calls.links (Some (culprit_item app item.op calls))

-- V9: the resource that is taken twice, and the calls that take it
abbrev pub taken_lines : Config → App → Item → Option Calls → List ℕ
taken_lines config app item None = name_line (resource_name config (op_object item.op))
taken_lines config app item (Some calls) = name_line (resource_name config (op_object (culprit_item app item.op calls).op)) ++ called_lines app item calls

-- V10
abbrev pub left_lines : App → Item → Option Calls → List ℕ
left_lines app item None = []
left_lines app item (Some calls) = called_lines app item calls

-- the service names a resource
abbrev pub is_of_resource : Op → Bool
is_of_resource (op.Serve call) = uses call.service
  where
    uses : Service → Bool
    uses service.GetResource = true
    uses service.ReleaseResource = true
    uses _ = false
is_of_resource _ = false

abbrev pub event_lines : Config → Option ℕ → List ℕ
event_lines config None = []
event_lines config (Some e) = name_line (get_or config.events e no_event).name

-- what the task lacks
abbrev pub lacked_lines : Config → Op → Option ℕ → List ℕ
lacked_lines config o event = cond (is_of_resource o) (name_line (resource_name config (op_object o))) (event_lines config event)

-- the calls from the task's body, if there are any
abbrev pub user_calls : App → ℕ → List Link → List ℕ
user_calls app b [] = []
user_calls app b (l ∷ links) = calls_line app (function app b).name (function app b).line (l ∷ links) None

-- V12
abbrev pub user_lines : Config → App → Op → Option User → List ℕ
user_lines config app o None = []
user_lines config app o (Some user) =
    (word_line (codes "task") (declaration config user.task).name ++ lacked_lines config o user.event) ++ user_calls app user.body user.links

-- what stands behind the way and what is held
abbrev pub own_lines : Config → App → Func → ℕ → Code → Witness → List ℕ
own_lines config app f i code.V2 w = size_lines app f (item_of f i).op
own_lines config app f i code.V3 w = size_lines app f (item_of f i).op
own_lines config app f i code.V4 w = size_lines app f (item_of f i).op
own_lines config app f i code.V5 w = run_out_lines f i
own_lines config app f i code.V7 w = target_lines config f (way (item_of f i).op)
own_lines config app f i code.V8 w = release_lines config (held_list_at f i) (item_of f i).op
own_lines config app f i code.V9 w = taken_lines config app (item_of f i) w.calls
own_lines config app f i code.V10 w = left_lines app (item_of f i) w.calls
own_lines config app f i code.V11 w = name_line f.name
own_lines config app f i code.V12 w = user_lines config app (item_of f i).op w.user
own_lines config app f i _ w = []

-- rules on what is held
abbrev pub is_of_held : Code → Bool
is_of_held code.V7 = true
is_of_held code.V8 = true
is_of_held code.V9 = true
is_of_held code.V10 = true
is_of_held _ = false

abbrev pub held_lines : Config → Func → ℕ → Code → List ℕ
held_lines config f i c = cond (is_of_held c) (list_line config (codes "holds") (held_list_at f i)) []

abbrev pub item_lines : Config → App → Func → ℕ → Code → Witness → List ℕ
item_lines config app f i c w = ((shown_way_lines f w.way ++ behind_lines f w.behind) ++ held_lines config f i c) ++ own_lines config app f i c w

-- ---- a label

-- it stands where the body begins, and lists a resource
abbrev pub lists_at_begin : Func → ℕ → Bool
lists_at_begin f k = ((label_of f k).item == 0) && not (length (label_of f k).holds == 0)

-- the way to a label: that to the item in front, or none, from the label before it at its place
abbrev pub entry_lines : Func → ℕ → Option Way → List ℕ
entry_lines f k None = start_lines f (last_label_below f.labels (label_of f k).item k) ++ codes "way -\n"
entry_lines f k (Some way) = way_lines f way

abbrev pub entered_lines : Config → Func → ℕ → Option Way → List ℕ
entered_lines config f k way =
    cond (lists_at_begin f k) (codes "way -\nholds -\n") (entry_lines f k way ++ list_line config (codes "holds") (held_list_entering f k))

abbrev pub label_lines : Config → Func → ℕ → Option Way → List ℕ
label_lines config f k way = entered_lines config f k way ++ target_lines config f (Some k)

-- ---- all

abbrev pub place_lines : Config → App → Code → Witness → Place → List ℕ
place_lines config app c w (place.Header b) = name_line (function app b).name
place_lines config app c w (place.Label b k) = label_lines config (function app b) k w.way
place_lines config app c w (place.Item b i) = item_lines config app (function app b) i c w

-- the lines behind a refusal of V2 to V12
abbrev pub witness_lines : Config → App → Refusal → Witness → List ℕ
witness_lines config app r w = place_lines config app r.code w w.place

-- the line behind V1: the function, and the calls back to it
abbrev pub cycle_line : App → ℕ → List Link → List ℕ
cycle_line app f links = calls_line app (function app f).name (function app f).line links None
