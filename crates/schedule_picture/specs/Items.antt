-- The items that a task completes or calls a service for, at the counts of a bar.
use Rattle.std.specs.Prelude.{ℕ, zero, suc, ◌+◌, ◌-◌, Bool, true, false, if◌then◌else◌, List, [], ◌++◌, codes, get_or, Option, Some, None}
use Rattle.std.specs.Option.{option_or}
use Rattle.sloth_base.specs.declared.image.Image.{Image}
use Rattle.sloth_base.specs.declared.image.Mark.{Mark}
use Rattle.sloth_base.specs.declared.image.MarkKind.{MarkKind}
use Rattle.sloth_base.specs.declared.image.MarkKind.TheVariants as kind
use Rattle.trace_text.specs.MarkWords.{mark_text}
use Rattle.trace_text.specs.Listing.{mark_on}
use Rattle.lane_drawing.specs.declared.drawing.Bar.{Bar}
use Rattle.lane_drawing.specs.declared.drawing.Look.{Look}
use Rattle.lane_drawing.specs.declared.drawing.Look.TheVariants as look

-- the instruction of a mark completes an item, or jumps to its service
abbrev pub is_item : MarkKind → Bool
is_item kind.Item = true
is_item kind.Jump = true
is_item kind.Opening = false
is_item kind.Idle = false
is_item kind.Back = false

-- a mark, if it is one of an item
abbrev pub item_mark : Option Mark → Option Mark
item_mark None = None
item_mark (Some mark) = if is_item mark.kind then Some mark else None

-- the mark of an item on an address
abbrev pub address_item : Image → (address : ℕ) → Option Mark
address_item image address = item_mark (mark_on image.marks address)

-- the first one and the last one at so many counts from one on, by the addresses of counts
unfoldable pub first_item : Image → (addresses : List ℕ) → (from : ℕ) → ℕ → Option Mark
first_item image addresses from zero = None
first_item image addresses from (suc n) = option_or (address_item image (get_or addresses from 0)) (first_item image addresses (from + 1) n)

unfoldable pub last_item : Image → (addresses : List ℕ) → (from : ℕ) → ℕ → Option Mark
last_item image addresses from zero = None
last_item image addresses from (suc n) = option_or (address_item image (get_or addresses (from + n) 0)) (last_item image addresses from n)

-- what the listing says of one, behind these bytes
abbrev pub item_words : (front : List ℕ) → List (List ℕ) → Option Mark → List ℕ
item_words front functions None = []
item_words front functions (Some mark) = front ++ mark_text functions mark

-- both, at the counts from one to below another
unfoldable pub items_words : Image → (addresses : List ℕ) → (from to : ℕ) → List ℕ
items_words image addresses from to =
    item_words (codes ",") image.funcs (first_item image addresses from (to - from))
    ++ item_words (codes " to") image.funcs (last_item image addresses from (to - from))

-- a task's own code runs
abbrev pub is_running : Look → Bool
is_running look.Runs = true
is_running look.Served = false
is_running look.Preempted = false
is_running look.Ready = false
is_running look.Waiting = false
is_running look.Tick = false
is_running look.Kernel = false

-- the words of a bar, where these are the addresses of the counts from one on
abbrev pub bar_words : Image → (addresses : List ℕ) → (from : ℕ) → Bar → List ℕ
bar_words image addresses from bar =
    if is_running bar.look then items_words image addresses (bar.from - from) (bar.to - from) else []
