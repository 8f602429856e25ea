-- The faults of an attribute of a task that rest on other tasks and on events.
use Rattle.std.specs.Prelude.{ℕ, Bool, false, ◌⊎◌, not, ◌&&◌, ◌==◌, bit_and, List, codes, Option, Some, None}
use Rattle.sloth_base.specs.Options.{is_number}
use Rattle.std.specs.List.{list_any}
use Rattle.std.specs.Str.{bytes_eq}
use Rattle.sloth_base.specs.declared.config.EventDecl.{EventDecl}
use Rattle.sloth_base.specs.declared.refusal.Code.TheVariants.{O13, O15}
use Rattle.sloth_base.specs.declared.refusal.Refusal.{Refusal}
use Rattle.oil_parse.specs.declared.tree.OilValue.{OilValue}
use Rattle.oil_parse.specs.declared.tree.OilValue.TheVariants.{Word}
use Rattle.oil_parse.specs.declared.tree.OilAttr.{OilAttr}
use Rattle.oil_parse.specs.declared.tree.OilObject.{OilObject}
use Rattle.oil_table.specs.Cases.{OilCase}
use Rattle.oil_table.specs.Objects.{is_of_kind, is_use, is_used, number_of, first_number}
use Rattle.oil_table.specs.Events.{mask_named}

-- a task of this priority
abbrev pub has_priority : ℕ → OilObject → Bool
has_priority priority object = is_of_kind (codes "TASK") object && is_number priority (first_number object.attrs (codes "PRIORITY"))

-- an object in front is a task of this priority
abbrev pub is_taken : List OilObject → Option ℕ → Bool
is_taken front None = false
is_taken front (Some priority) = list_any (has_priority priority) front

-- the priority of the task, and an earlier task has it
abbrev pub repeats_priority : List OilObject → List OilAttr → OilAttr → Bool
repeats_priority front before attr = (is_use (codes "PRIORITY") attr && not (is_used before (codes "PRIORITY"))) && is_taken front (number_of attr.value)

-- different events with a bit in common
abbrev pub have_common_bit : List EventDecl → List ℕ → List ℕ → Bool
have_common_bit events one other = not (bytes_eq one other) && not (bit_and (mask_named events one) (mask_named events other) == 0)

-- two values name events that share a bit
abbrev pub is_event_clash : List EventDecl → OilValue → OilValue → Bool
is_event_clash events (Word one) (Word other) = have_common_bit events one other
is_event_clash events _ _ = false

-- an earlier EVENT attribute names an event that shares a bit with that of this one
abbrev pub shares_with : List EventDecl → OilAttr → OilAttr → Bool
shares_with events attr earlier = is_use (codes "EVENT") earlier && is_event_clash events earlier.value attr.value

-- an event that shares a bit with an earlier one of the task
abbrev pub shares_bit : List EventDecl → List OilAttr → OilAttr → Bool
shares_bit events before attr = is_use (codes "EVENT") attr && list_any (shares_with events attr) before

-- O13 and O15 of an attribute of a task, behind these tasks and behind these attributes
abbrev pub TaskFault : List EventDecl → List OilObject → List OilAttr → OilAttr → Refusal → Type 0
TaskFault events front before attr r = OilCase (repeats_priority front before attr) attr.line O13 r ⊎ OilCase (shares_bit events before attr) attr.line O15 r
