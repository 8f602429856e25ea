use Rattle.std.proofs.Common.{◌≡◌, ℕ, List, take}
use Rattle.std.specs.Prelude.{◌||◌, ◌&&◌, ◌==◌}
use Rattle.std.specs.List.{list_any}
use Rattle.oil_table.specs.ListedEvents.{lists_event, is_listing}
use Rattle.oil_table.proofs.task_events.add_events.Given as goal

abbrev pub invariant-loop-attr : goal.invariant-loop-attr
invariant-loop-attr l = (number : ℕ) (word : List ℕ) → list_any (is_listing number word) l.listed.keys
    ≡ (list_any (is_listing number word) l.fn.listed.keys || ((l.task == number) && list_any (lists_event word) (take l.attr-index l.attrs)))
