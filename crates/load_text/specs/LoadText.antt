-- The text of a load: what it means, and its faults.
use Rattle.std.specs.Prelude.{ℕ, ◌+◌, ◌==◌, ◌&&◌, ◌||◌, ◌⊎◌, not, nat_lt, Bool, true, false, cond, List, length, map, filter}
use Rattle.std.specs.Prelude.{Option, Some, None, is_some, unwrap_or, bytes_eq, codes}
use Rattle.std.specs.List.{list_any, before_first, after_first}
use Rattle.sloth_base.specs.declared.refusal.Part.TheVariants.{Load}
use Rattle.sloth_base.specs.declared.refusal.Code.TheVariants as code
use Rattle.sloth_base.specs.declared.refusal.Refusal.{Refusal}
use Rattle.sloth_base.specs.Search.{Somewhere}
use Rattle.sloth_base.specs.Cases.{CaseOf}
use Rattle.text_pieces.specs.Bytes.{is_name}
use Rattle.text_pieces.specs.Digits.{value_from}
use Rattle.text_pieces.specs.Lines.{lines}
use Rattle.trace_text.specs.ArrivalsText.{is_comment, are_digits, named_among, owner_line}
use Rattle.load_text.specs.declared.load_line.Entry.{Entry}
use Rattle.load_text.specs.declared.load_line.Form.{Form}
use Rattle.load_text.specs.declared.load_line.Form.TheVariants as form

-- the greatest number of a line: counts of 31 bits
abbrev pub load_limit : ℕ
load_limit = 2147483647

-- ---- a line

-- the word before the first space (32)
abbrev pub form_text : List ℕ → List ℕ
form_text line = before_first (λ b. b == 32) line

-- what stands behind it
abbrev pub others_text : List ℕ → List ℕ
others_text line = after_first (λ b. b == 32) line

-- the word between the first two spaces
abbrev pub owner_text : List ℕ → List ℕ
owner_text line = before_first (λ b. b == 32) (others_text line)

-- what stands behind the second
abbrev pub number_text : List ℕ → List ℕ
number_text line = after_first (λ b. b == 32) (others_text line)

-- the form that a word names
unfoldable pub form_named : List ℕ → Option Form
form_named word =
    cond (bytes_eq word (codes "every")) (Some form.Every)
    (cond (bytes_eq word (codes "work")) (Some form.Work) (cond (bytes_eq word (codes "deadline")) (Some form.Deadline) None))

-- a line of a form's word, a name and decimal digits, with one space between
unfoldable pub is_entry : List ℕ → Bool
is_entry line = is_some (form_named (form_text line)) && (is_name (owner_text line) && are_digits (number_text line))

-- the form of an entry; of another line this one
abbrev pub form_of : List ℕ → Form
form_of line = unwrap_or (form_named (form_text line)) form.Every

-- the number of its digits
abbrev pub number_of : List ℕ → ℕ
number_of line = value_from 10 0 (number_text line)

-- the line of the owner of this name: arrivals are of tasks and of counters, all else is said of tasks alone
abbrev pub owner_by : (tasks counters : List (List ℕ)) → Form → List ℕ → Option ℕ
owner_by tasks counters form.Every name = owner_line tasks counters name
owner_by tasks counters form.Work name = named_among 256 tasks name
owner_by tasks counters form.Deadline name = named_among 256 tasks name

-- that of an entry
abbrev pub owner_of : (tasks counters : List (List ℕ)) → List ℕ → Option ℕ
owner_of tasks counters line = owner_by tasks counters (form_of line) (owner_text line)

-- ---- the load

-- the entry of a line, with the names of the tasks and of the counters
abbrev pub entry_of : (tasks counters : List (List ℕ)) → List ℕ → Entry
entry_of tasks counters line = record { form = form_of line; owner = unwrap_or (owner_of tasks counters line) 0; number = number_of line }

-- the entries of these lines, in their order
abbrev pub entries_of : (tasks counters : List (List ℕ)) → List (List ℕ) → List Entry
entries_of tasks counters ls = map (entry_of tasks counters) (filter is_entry ls)

-- the load that a text says
abbrev pub load_in : (tasks counters : List (List ℕ)) → List ℕ → List Entry
load_in tasks counters text = entries_of tasks counters (lines text)

-- ---- the faults

-- two forms are the same
abbrev pub is_form : Form → Form → Bool
is_form form.Every form.Every = true
is_form form.Every form.Work = false
is_form form.Every form.Deadline = false
is_form form.Work form.Every = false
is_form form.Work form.Work = true
is_form form.Work form.Deadline = false
is_form form.Deadline form.Every = false
is_form form.Deadline form.Work = false
is_form form.Deadline form.Deadline = true

-- an entry is of this form and of the owner of this line
abbrev pub is_of : Form → (owner : ℕ) → Entry → Bool
is_of f owner entry = is_form entry.form f && (entry.owner == owner)

-- L1: a line of none of these forms
abbrev pub is_l1 : List ℕ → Bool
is_l1 line = not (is_comment line) && not (is_entry line)

-- L2: a name that no task and no counter has, where arrivals are said, and else no task
abbrev pub is_l2 : (tasks counters : List (List ℕ)) → List ℕ → Bool
is_l2 tasks counters line = is_entry line && not (is_some (owner_of tasks counters line))

-- there is such an owner, and one of these entries is of this form and that owner
abbrev pub is_said : List Entry → Form → Option ℕ → Bool
is_said before f None = false
is_said before f (Some owner) = list_any (is_of f owner) before

-- L3: a second entry of one form and name
abbrev pub is_l3 : (tasks counters : List (List ℕ)) → List Entry → List ℕ → Bool
is_l3 tasks counters before line = is_entry line && is_said before (form_of line) (owner_of tasks counters line)

-- a number outside 1 to `load_limit`
abbrev pub is_outside : List ℕ → Bool
is_outside line = nat_lt (number_of line) 1 || nat_lt load_limit (number_of line)

-- L4: a number out of range
abbrev pub is_l4 : List ℕ → Bool
is_l4 line = is_entry line && is_outside line

-- r is a fault of a line of this number, which these entries stand before
abbrev pub LineFault : (tasks counters : List (List ℕ)) → List Entry → ℕ → List ℕ → Refusal → Type 0
LineFault tasks counters before number line r =
    CaseOf Load (is_l1 line) number code.L1 r ⊎ (CaseOf Load (is_l2 tasks counters line) number code.L2 r
    ⊎ (CaseOf Load (is_l3 tasks counters before line) number code.L3 r ⊎ CaseOf Load (is_l4 line) number code.L4 r))

-- r is a fault of a line, which these lines stand before
abbrev pub FaultAt : (tasks counters : List (List ℕ)) → List (List ℕ) → List ℕ → Refusal → Type 0
FaultAt tasks counters front line r = LineFault tasks counters (entries_of tasks counters front) (length front + 1) line r

-- r is a fault of some of these lines
abbrev pub LinesFault : (tasks counters : List (List ℕ)) → List (List ℕ) → Refusal → Type 0
LinesFault tasks counters ls r = Somewhere (FaultAt tasks counters) ls r

-- r is a fault of the text of a load, with the names of the tasks and of the counters
abbrev pub LoadFault : (tasks counters : List (List ℕ)) → List ℕ → Refusal → Type 0
LoadFault tasks counters text r = LinesFault tasks counters (lines text) r
