-- `vCont`: actions of threads.
use Rattle.std.specs.Prelude.{ℕ, ◌==◌, ◌&&◌, List, [], ◌∷◌, length, Option, None, Some, Result, Ok, Err, Bool, ◌||◌, true, false, is_some, not, if◌then◌else◌}
use Rattle.debug_session.specs.Hex.{number_of}
use Rattle.debug_ways.specs.declared.standing.Step.{Step}
use Rattle.debug_session.specs.declared.replies.Request.{Request}
use Rattle.debug_session.specs.declared.replies.Request.TheVariants as asks
use Rattle.debug_session.specs.declared.replies.Window.{Window}
use Rattle.debug_session.specs.declared.words.Action.{Action}
use Rattle.debug_session.specs.declared.words.Action.TheVariants as actions
use Rattle.debug_session.specs.Words.{front, has, behind, told_window, thread_number}

-- a range is gone through by a step
abbrev pub range_action : Option Window → Action
range_action None = actions.NoAction
range_action (Some window) = actions.Stepped window.from window.length

-- the two digits of a signal
abbrev pub is_signal : List ℕ → Bool
is_signal digits = length digits == 2 && is_some (number_of digits)

-- an action: `r` and a range, `c` or `s` with nothing behind it, `C` or `S` and a signal
abbrev pub byte_action : (first : ℕ) → List ℕ → Action
byte_action first rest =
    if first == 114 then range_action (told_window rest)
    else if (first == 99 && length rest == 0) || (first == 67 && is_signal rest) then actions.Continued
    else if (first == 115 && length rest == 0) || (first == 83 && is_signal rest) then actions.Stepped 0 0
    else actions.NoAction

abbrev pub text_action : List ℕ → Action
text_action [] = actions.NoAction
text_action (first ∷ rest) = byte_action first rest

-- the thread behind a colon; without one any
abbrev pub thread_behind : (tasks : ℕ) → Option (List ℕ) → Result ℕ ℕ
thread_behind tasks None = Ok 0
thread_behind tasks (Some text) = thread_number tasks text

-- the first step of those in front of a part and of the part's action, or the number of its fault
abbrev pub with_action : Result ℕ ℕ → Action → Option Step → Result (Option Step) ℕ
with_action (Err fault) _ chosen = Err fault
with_action (Ok thread) actions.NoAction chosen = Err 1
with_action (Ok thread) actions.Continued chosen = Ok chosen
with_action (Ok thread) (actions.Stepped from to) None = Ok (Some (record { thread = thread; alone = false; backwards = false; from = from; to = to }))
with_action (Ok thread) (actions.Stepped from to) (Some step) = Ok (Some step)

abbrev pub part_step : (tasks : ℕ) → (part : List ℕ) → Option Step → Result (Option Step) ℕ
part_step tasks part chosen = with_action (thread_behind tasks (behind 58 part)) (text_action (front 58 part)) chosen

-- what is asked where all parts are read: the first step, alone where it is the only action, or else a continue
abbrev pub chosen_request : (only : Bool) → Option Step → Request
chosen_request only None = asks.Continue false
chosen_request only (Some step) = asks.Step (record step { alone = only })

-- on with the step, or the fault
abbrev pub on_step : Result (Option Step) ℕ → (Option Step → Request) → Request
on_step (Err fault) next = asks.Fault fault
on_step (Ok step) next = next step

-- what parts ask, behind others of which this is the first step
abbrev pub parts_request : (tasks : ℕ) → (only : Bool) → List (List ℕ) → Option Step → Request
parts_request tasks only [] chosen = chosen_request only chosen
parts_request tasks only (part ∷ parts) chosen = on_step (part_step tasks part chosen) (λ next. parts_request tasks only parts next)

-- a byte in front of the first part
abbrev pub with_byte : ℕ → List (List ℕ) → List (List ℕ)
with_byte byte [] = (byte ∷ []) ∷ []
with_byte byte (part ∷ parts) = (byte ∷ part) ∷ parts

-- the parts of a text between such bytes
abbrev pub parts_of : ℕ → List ℕ → List (List ℕ)
parts_of mark [] = [] ∷ []
parts_of mark (byte ∷ text) = if byte == mark then [] ∷ parts_of mark text else with_byte byte (parts_of mark text)

-- what actions ask that stand between semicolons; a step is alone where it is the only one
abbrev pub actions_request : (tasks : ℕ) → List ℕ → Request
actions_request tasks text = parts_request tasks (not (has 59 text)) (parts_of 59 text) None
