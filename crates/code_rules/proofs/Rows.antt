-- Small bodies that a rule refuses, at the line where it does, and such that it accepts. The checker computes what is held and what is reached.
use Rattle.std.proofs.Common.{◌≡◌, ℕ, zero, suc, ◌+◌, ◌<◌, ◌≤◌, inl, inr, List, [], ◌∷◌, true, false, replicate, Some, None, pos, refl, sym, ap, ◌∙◌, subst, arith}
use Rattle.std.proofs.lemmas.Bool.{true≢false, false≢true}
use Rattle.std.proofs.lemmas.List.{length-replicate}
use Rattle.sloth_base.specs.declared.config.Config.{Config}
use Rattle.sloth_base.specs.declared.config.TaskDecl.{TaskDecl}
use Rattle.sloth_base.specs.declared.app.App.{App}
use Rattle.sloth_base.specs.declared.app.BranchKind.TheVariants as branch
use Rattle.sloth_base.specs.declared.app.Func.{Func}
use Rattle.sloth_base.specs.declared.app.ImmKind.TheVariants as imm
use Rattle.sloth_base.specs.declared.app.Item.{Item}
use Rattle.sloth_base.specs.declared.app.Label.{Label}
use Rattle.sloth_base.specs.declared.app.Op.{Op}
use Rattle.sloth_base.specs.declared.app.Op.TheVariants as op
use Rattle.sloth_base.specs.declared.app.Width.TheVariants as width
use Rattle.sloth_base.specs.declared.refusal.Code.{Code}
use Rattle.sloth_base.specs.declared.refusal.Code.TheVariants as code
use Rattle.sloth_base.specs.declared.refusal.Refusal.{Refusal}
use Rattle.sloth_base.specs.declared.service.Service.{Service}
use Rattle.sloth_base.specs.declared.service.Service.TheVariants as service
use Rattle.sloth_base.specs.Named.{function, label_of, symbol_size}
use Rattle.code_rules.specs.Code.{service_op, IsItem, IsCallChain, Reaches, IsPath}
use Rattle.code_rules.specs.WellFormed

-- ---- how the bodies are written

abbrev at : ℕ → Op → Item
at line o = record { line = line; op = o }

-- Main lists R, the resource 0, and has the event of mask 1
abbrev main_task : TaskDecl
main_task = record { name = 77 ∷ []; priority = 1; extended = true; non = false; autostart = false; resources = 0 ∷ []; events = 1 }

-- Other is basic
abbrev other_task : TaskDecl
other_task = record { name = 79 ∷ []; priority = 2; extended = false; non = false; autostart = false; resources = []; events = 0 }

abbrev config : Config
config = record {
  tasks = main_task ∷ other_task ∷ [];
  resources = (82 ∷ []) ∷ (83 ∷ []) ∷ [];
  events = record { name = 69 ∷ []; mask = 1 } ∷ record { name = 70 ∷ []; mask = 2 } ∷ [];
  res_scheduler = true;
  counters = [];
  alarms = [];
}

-- `task Main, 4` on line 1
abbrev main : List Item → List Label → Func
main items labels = record { name = 77 ∷ []; line = 1; task = Some 0; frame_words = 4; items = items; labels = labels }

-- `func f` on line 20
abbrev func : List Item → Func
func items = record { name = 102 ∷ []; line = 20; task = None; frame_words = 0; items = items; labels = [] }

-- a symbol of four bytes
abbrev code_of : List Func → App
code_of funcs = record { funcs = funcs; symbols = record { name = 116 ∷ []; bytes = 0 ∷ 0 ∷ 0 ∷ 0 ∷ [] } ∷ [] }

abbrev one : List Item → App
one items = code_of (main items [] ∷ [])

abbrev label : (line item : ℕ) → List ℕ → Label
label line item holds = record { name = 108 ∷ []; line = line; item = item; holds = holds }

abbrev takes : ℕ → Op
takes r = service_op service.GetResource r 0

abbrev gives : ℕ → Op
gives r = service_op service.ReleaseResource r 0

abbrev ends : Op
ends = service_op service.TerminateTask 0 0

abbrev nop : Op
nop = op.AluImm imm.Addi 0 0 (pos 0)

-- the code has a fault of this rule on this line
abbrev Refuses : App → (line : ℕ) → Code → Type 0
Refuses app line c = WellFormed.RuleFault config app (WellFormed.fault_at_line line c)

-- item i of the first body does not break the rule
abbrev Passes : App → (i : ℕ) → Code → Type 0
Passes app i c = WellFormed.IsBreach config app 0 i c → ⊥

-- ---- V1

abbrev Acyclic : App → Type 0
Acyclic app = (r : Refusal) → WellFormed.CycleFault app r → ⊥

-- `task Main / call f / TerminateTask / end`, and f
abbrev calling : List Item → App
calling items = code_of (main (at 2 (op.Invoke 1) ∷ at 3 ends ∷ []) [] ∷ func items ∷ [])

calls_itself : WellFormed.CycleFault (calling (at 21 (op.Invoke 1) ∷ at 22 op.Return ∷ [])) (WellFormed.fault_at_line 20 code.V1)
calls_itself = WellFormed.on_cycle 1 [] (0, record { known = omega arith; inside = omega arith; is = refl })

call_each_other : WellFormed.CycleFault (code_of (main (at 2 ends ∷ []) [] ∷ func (at 21 (op.Invoke 2) ∷ []) ∷ func (at 21 (op.Invoke 1) ∷ []) ∷ [])) (WellFormed.fault_at_line 20 code.V1)
call_each_other = WellFormed.on_cycle 1 (2 ∷ []) (
  (0, record { known = omega arith; inside = omega arith; is = refl }),
  (0, record { known = omega arith; inside = omega arith; is = refl }),
)

-- ---- V2

abbrev stores : ℕ → App
stores word = one (at 2 (op.FrameStore 5 word) ∷ at 3 ends ∷ [])

frame_word_4 : Refuses (stores 4) 2 code.V2
frame_word_4 = (0, omega arith, WellFormed.at_item 0 code.V2 (omega arith) (WellFormed.is_access_past (omega arith)))

frame_word_3 : Passes (stores 3) 0 code.V2
frame_word_3 (WellFormed.is_access_past le) = omega (arith, le)

abbrev loads_half : ℕ → App
loads_half offset = one (at 2 (op.Load width.Half 5 0 offset) ∷ at 3 ends ∷ [])

half_at_3 : Refuses (loads_half 3) 2 code.V2
half_at_3 = (0, omega arith, WellFormed.at_item 0 code.V2 (omega arith) (WellFormed.is_access_past (omega arith)))

half_at_2 : Passes (loads_half 2) 0 code.V2
half_at_2 (WellFormed.is_access_past le) = omega (arith, le)

-- ---- V3

half_at_3_uneven : Refuses (loads_half 3) 2 code.V3
half_at_3_uneven = (0, omega arith, WellFormed.at_item 0 code.V3 (omega arith) (WellFormed.is_uneven (omega arith)))

half_at_2_even : Passes (loads_half 2) 0 code.V3
half_at_2_even (WellFormed.is_uneven ne) = ne refl

abbrev loads_word_at : ℕ → App
loads_word_at mask = one (at 2 (op.LoadAt width.Word 5 0 6 mask) ∷ at 3 ends ∷ [])

word_mask_2 : Refuses (loads_word_at 2) 2 code.V3
word_mask_2 = (0, omega arith, WellFormed.at_item 0 code.V3 (omega arith) (WellFormed.is_uneven (omega arith)))

word_mask_4 : Passes (loads_word_at 4) 0 code.V3
word_mask_4 (WellFormed.is_uneven ne) = ne refl

-- ---- V4

-- `data tab, SIZE / task Main / lbu t0, tab[t1 & MASK] / TerminateTask / end`
abbrev masks : (size mask : ℕ) → App
masks size mask = record {
  funcs = main (at 3 (op.LoadAt width.ByteU 5 0 6 mask) ∷ at 4 ends ∷ []) [] ∷ [];
  symbols = record { name = 116 ∷ []; bytes = replicate size 0 } ∷ [];
}

size_is : (size mask : ℕ) → symbol_size (masks size mask) 0 ≡ size
size_is size mask = length-replicate size 0

mask_past : (size mask : ℕ) → size < mask + 1 → Refuses (masks size mask) 3 code.V4
mask_past size mask l =
    let e = size_is size mask in (0, omega arith, WellFormed.at_item 0 code.V4 (omega arith) (WellFormed.is_mask_past (inr (omega (arith, e, l)))))

mask_inside : (size mask : ℕ) → mask ≤ 32767 → mask + 1 ≤ size → Passes (masks size mask) 0 code.V4
mask_inside size mask m l (WellFormed.is_mask_past (inl h)) = omega (arith, m, h)
mask_inside size mask m l (WellFormed.is_mask_past (inr h)) = let e = size_is size mask in omega (arith, e, l, h)

mask_2047_of_2048 : Passes (masks 2048 2047) 0 code.V4
mask_2047_of_2048 = mask_inside 2048 2047 (omega arith) (omega arith)

mask_2047_of_2047 : Refuses (masks 2047 2047) 3 code.V4
mask_2047_of_2047 = mask_past 2047 2047 (omega arith)

mask_32767_of_32768 : Passes (masks 32768 32767) 0 code.V4
mask_32767_of_32768 = mask_inside 32768 32767 (omega arith) (omega arith)

mask_32767_of_32767 : Refuses (masks 32767 32767) 3 code.V4
mask_32767_of_32767 = mask_past 32767 32767 (omega arith)

-- ---- V5

-- a jump at the end of the body, to a label before this item
abbrev jumps_to : ℕ → App
jumps_to item = code_of (main (at 3 nop ∷ at 4 (op.Jump 0) ∷ []) (label 2 item [] ∷ []) ∷ [])

jumps_behind : Refuses (jumps_to 2) 4 code.V5
jumps_behind = (0, omega arith, WellFormed.at_item 1 code.V5 (omega arith) (WellFormed.is_run_out (2, inr (0, refl, refl), omega arith)))

jumps_back : Passes (jumps_to 0) 1 code.V5
jumps_back (WellFormed.is_run_out (j, inl a, l)) = false≢true a.0
jumps_back (WellFormed.is_run_out (j, inr (k, e, q), l)) =
    let same : 0 ≡ k = cc in
    let h : j ≡ 0 = q ∙ ap (λ n. (label_of (function (jumps_to 0) 0) n).item) (sym same) in
    omega (arith, h, l)

no_items : Refuses (one []) 1 code.V5
no_items = (0, omega arith, WellFormed.at_header refl)

falls_out : Refuses (one (at 2 nop ∷ [])) 2 code.V5
falls_out = (0, omega arith, WellFormed.at_item 0 code.V5 (omega arith) (WellFormed.is_run_out (1, inl (refl, refl), omega arith)))

ends_there : Passes (one (at 2 ends ∷ [])) 0 code.V5
ends_there (WellFormed.is_run_out (j, inl a, l)) = false≢true a.0
ends_there (WellFormed.is_run_out (j, inr (k, e, q), l)) = absurd cc

-- ---- V6

-- what stands behind an end
behind_an_end : Refuses (one (at 2 ends ∷ at 3 ends ∷ [])) 3 code.V6
behind_an_end = (0, omega arith, WellFormed.at_item 1 code.V6 (omega arith) (WellFormed.is_unreached none))
  where
    none : (between : List ℕ) → ¬ (IsPath (function (one (at 2 ends ∷ at 3 ends ∷ [])) 0) 0 between 1)
    none [] e = absurd cc
    none (k ∷ between) (inl a, rest) = false≢true a.0
    none (k ∷ between) (inr b, rest) = let e = b.1 in absurd cc

-- what a jump passes over
abbrev passes_over : App
passes_over = code_of (main (at 2 (op.Jump 0) ∷ at 3 nop ∷ at 5 ends ∷ []) (label 4 2 [] ∷ []) ∷ [])

passed_over : Refuses passes_over 3 code.V6
passed_over = (0, omega arith, WellFormed.at_item 1 code.V6 (omega arith) (WellFormed.is_unreached none))
  where
    from_end : (between : List ℕ) → ¬ (IsPath (function passes_over 0) 2 between 1)
    from_end [] e = absurd cc
    from_end (k ∷ between) (inl a, rest) = false≢true a.0
    from_end (k ∷ between) (inr b, rest) = let e = b.1 in absurd cc

    none : (between : List ℕ) → ¬ (IsPath (function passes_over 0) 0 between 1)
    none [] e = absurd cc
    none (k ∷ between) (inl a, rest) = false≢true a.0
    none (k ∷ between) (inr b, rest) =
        let e = b.1 in
        let same : 0 ≡ b.0 = cc in
        let there : k ≡ 2 = b.2 ∙ ap (λ n. (label_of (function passes_over 0) n).item) (sym same) in
        from_end between (subst (λ (n : ℕ). IsPath (function passes_over 0) n between 1) there rest)

jumped_to : Passes passes_over 2 code.V6
jumped_to (WellFormed.is_unreached none) = none (2 ∷ []) (inr (0, refl, refl), refl)

first_item : Passes passes_over 0 code.V6
first_item (WellFormed.is_unreached none) = none [] refl

-- ---- V7

-- `GetResource R / beq t0, zero, out / ReleaseResource R / label out / TerminateTask`
abbrev branches : List ℕ → App
branches holds = code_of (main (at 2 (takes 0) ∷ at 3 (op.Branch branch.Beq 5 0 0) ∷ at 4 (gives 0) ∷ at 6 ends ∷ []) (label 5 3 holds ∷ []) ∷ [])

branch_differs : Refuses (branches []) 3 code.V7
branch_differs = (0, omega arith, WellFormed.at_item 1 code.V7 (omega arith) (WellFormed.is_other_list_jump (0, refl, λ e. cc)))

label_differs : Refuses (branches (0 ∷ [])) 5 code.V7
label_differs = (0, omega arith, WellFormed.at_label 0 (omega arith) (WellFormed.falling_in refl (λ e. cc)))

label_agrees : WellFormed.HasOtherList (function (branches []) 0) 0 → ⊥
label_agrees (WellFormed.falling_in into ne) = ne refl
label_agrees (WellFormed.at_begin e ne) = ne refl

-- a loop that takes the resource once in each turn
abbrev takes_in_turns : App
takes_in_turns = code_of (main (at 3 (takes 0) ∷ at 4 (op.Jump 0) ∷ []) (label 2 0 [] ∷ []) ∷ [])

each_turn_holds_more : Refuses takes_in_turns 4 code.V7
each_turn_holds_more = (0, omega arith, WellFormed.at_item 1 code.V7 (omega arith) (WellFormed.is_other_list_jump (0, refl, λ e. cc)))

-- a loop that holds it in all turns
abbrev holds_in_turns : App
holds_in_turns = code_of (main (at 2 (takes 0) ∷ at 4 nop ∷ at 5 (op.Jump 0) ∷ []) (label 3 1 (0 ∷ []) ∷ []) ∷ [])

each_turn_holds_it : Passes holds_in_turns 2 code.V7
each_turn_holds_it (WellFormed.is_other_list_jump (k, e, ne)) =
    let same : 0 ≡ k = cc in ne (ap (λ n. (label_of (function holds_in_turns 0) n).holds) (sym same))

is_start_with_resource : Refuses (code_of (main (at 3 ends ∷ []) (label 2 0 (0 ∷ []) ∷ []) ∷ [])) 2 code.V7
is_start_with_resource = (0, omega arith, WellFormed.at_label 0 (omega arith) (WellFormed.at_begin refl (λ e. cc)))

-- ---- V8

releases_nothing : Refuses (one (at 2 (gives 0) ∷ at 3 ends ∷ [])) 2 code.V8
releases_nothing = (0, omega arith, WellFormed.at_item 0 code.V8 (omega arith) (WellFormed.is_wrong_release (refl, refl)))

abbrev releases : ℕ → App
releases r = one (at 2 (takes 0) ∷ at 3 (takes 32) ∷ at 4 (gives r) ∷ [])

releases_the_first : Refuses (releases 0) 4 code.V8
releases_the_first = (0, omega arith, WellFormed.at_item 2 code.V8 (omega arith) (WellFormed.is_wrong_release (refl, refl)))

releases_the_last : Passes (releases 32) 2 code.V8
releases_the_last (WellFormed.is_wrong_release (e, not_last)) = true≢false not_last

releases_the_only : Passes (one (at 2 (takes 0) ∷ at 3 (gives 0) ∷ [])) 1 code.V8
releases_the_only (WellFormed.is_wrong_release (e, not_last)) = true≢false not_last

-- ---- V9

takes_twice : Refuses (one (at 2 (takes 0) ∷ at 3 (takes 0) ∷ [])) 3 code.V9
takes_twice = (0, omega arith, WellFormed.at_item 1 code.V9 (omega arith) (WellFormed.is_second_take (refl, refl)))

takes_another : Passes (one (at 2 (takes 0) ∷ at 3 (takes 32) ∷ [])) 1 code.V9
takes_another (WellFormed.is_second_take (e, held)) = false≢true held

takes_again : Passes (one (at 2 (takes 0) ∷ at 3 (gives 0) ∷ at 4 (takes 0) ∷ [])) 2 code.V9
takes_again (WellFormed.is_second_take (e, held)) = false≢true held

-- `GetResource R / call f`, and f
abbrev calls_holding : List Item → App
calls_holding items = code_of (main (at 2 (takes 0) ∷ at 3 (op.Invoke 1) ∷ []) [] ∷ func items ∷ [])

calls_what_takes : Refuses (calls_holding (at 21 (takes 0) ∷ at 22 (gives 0) ∷ at 23 op.Return ∷ [])) 3 code.V9
calls_what_takes = (
  0,
  omega arith,
  WellFormed.at_item 1 code.V9 (omega arith)
      (WellFormed.is_second_take (0, (1, 0, 0, inl refl, record { known = omega arith; inside = omega arith; is = refl }), refl)),
)

-- ---- V10

ends_holding : Refuses (one (at 2 (takes 0) ∷ at 3 ends ∷ at 4 (gives 0) ∷ [])) 3 code.V10
ends_holding = (0, omega arith, WellFormed.at_item 1 code.V10 (omega arith) (WellFormed.is_leave_with_resource (inl (inl refl), λ e. cc)))

ends_free : Passes (one (at 2 (takes 0) ∷ at 3 (gives 0) ∷ at 4 ends ∷ [])) 2 code.V10
ends_free (WellFormed.is_leave_with_resource (leaves, ne)) = ne refl

calls_what_schedules : Refuses (calls_holding (at 21 (service_op service.Schedule 0 0) ∷ at 22 op.Return ∷ [])) 3 code.V10
calls_what_schedules = (
  0,
  omega arith,
  WellFormed.at_item 1 code.V10 (omega arith)
      (WellFormed.is_leave_with_resource ((1, 0, service.Schedule, 0, 0, inl refl, record { known = omega arith; inside = omega arith; is = refl }, inr refl), λ e. cc)),
)

-- a call while the resource is held, of a function that neither waits nor calls Schedule
abbrev calls_plainly : App
calls_plainly = calls_holding (at 21 op.Return ∷ [])

calls_what_returns : Passes calls_plainly 1 code.V10
calls_what_returns (WellFormed.is_leave_with_resource ((g, i, s, object, mask, reach, is, pauses), ne)) = by reach
  where
    -- the function has one item, a `ret`
    alone : (i : ℕ) (o : Op) → IsItem calls_plainly 1 i o → op.Return ≡ o
    alone zero o is = is.is
    alone (suc i) o is = absurd (omega (arith, is.inside))

    by : Reaches calls_plainly 1 g → ⊥
    by (inl e) = let here : op.Return ≡ service_op s object mask = alone i _ (subst (λ (n : ℕ). IsItem calls_plainly n i (service_op s object mask)) (sym e) is) in cc
    by (inr ([], calls)) = let there : op.Return ≡ op.Invoke g = alone calls.0 _ calls.1 in cc
    by (inr (h ∷ between, chain)) = let there : op.Return ≡ op.Invoke h = alone chain.0.0 _ chain.0.1 in cc

-- ---- V11

task_returns : Refuses (one (at 2 op.Return ∷ [])) 2 code.V11
task_returns = (0, omega arith, WellFormed.at_item 0 code.V11 (omega arith) (WellFormed.is_wrong_leave (0, refl)))

function_ends : Refuses (code_of (main (at 2 ends ∷ []) [] ∷ func (at 21 (service_op service.ChainTask 1 0) ∷ []) ∷ [])) 21 code.V11
function_ends = (1, omega arith, WellFormed.at_item 0 code.V11 (omega arith) (WellFormed.is_wrong_leave (inr refl, refl)))

task_ends : Passes (one (at 2 ends ∷ [])) 0 code.V11
task_ends (WellFormed.is_wrong_leave (ending, none)) = absurd cc

task_chains : Passes (one (at 2 (service_op service.ChainTask 1 0) ∷ [])) 0 code.V11
task_chains (WellFormed.is_wrong_leave (ending, none)) = absurd cc

-- ---- V12

abbrev serves : Service → (object mask : ℕ) → App
serves s object mask = one (at 2 (service_op s object mask) ∷ at 3 ends ∷ [])

takes_unlisted : Refuses (serves service.GetResource 1 0) 2 code.V12
takes_unlisted = (
  0,
  omega arith,
  WellFormed.at_item 0 code.V12 (omega arith)
      (WellFormed.is_undeclared_use (omega arith, (0, (0, (omega arith, refl), inl refl), λ listed. false≢true listed))),
)

takes_scheduler : Passes (serves service.GetResource 32 0) 0 code.V12
takes_scheduler (WellFormed.is_undeclared_use (ne, user)) = ne refl

sets_unknown : Refuses (serves service.SetEvent 0 2) 2 code.V12
sets_unknown = (0, omega arith, WellFormed.at_item 0 code.V12 (omega arith) (WellFormed.is_undeclared_use (λ e. cc)))

sets_its_own : Passes (serves service.SetEvent 0 1) 0 code.V12
sets_its_own (WellFormed.is_undeclared_use lacks) = lacks refl

gets_of_basic : Refuses (serves service.GetEvent 1 0) 2 code.V12
gets_of_basic = (0, omega arith, WellFormed.at_item 0 code.V12 (omega arith) (WellFormed.is_undeclared_use refl))

gets_of_extended : Passes (serves service.GetEvent 0 0) 0 code.V12
gets_of_extended (WellFormed.is_undeclared_use e) = true≢false e

-- ---- V1, accepted

calls_nothing : Acyclic (one (at 2 ends ∷ []))
calls_nothing r (WellFormed.on_cycle f between chain) = none f between chain
  where
    no_call : (f i g : ℕ) → IsItem (one (at 2 ends ∷ [])) f i (op.Invoke g) → ⊥
    no_call zero zero g is = let e = is.is in cc
    no_call zero (suc i) g is = omega (arith, is.inside)
    no_call (suc f) i g is = omega (arith, is.known)

    none : (f : ℕ) (between : List ℕ) → IsCallChain (one (at 2 ends ∷ [])) f between f → ⊥
    none f [] calls = no_call f calls.0 f calls.1
    none f (h ∷ between) chain = no_call f chain.0.0 h chain.0.1

calls_once : Acyclic (calling (at 21 op.Return ∷ []))
calls_once r (WellFormed.on_cycle f between chain) = none f between chain
  where
    -- only Main calls, and only f
    call_is : (f i g : ℕ) → IsItem (calling (at 21 op.Return ∷ [])) f i (op.Invoke g) → (f ≡ 0) × (g ≡ 1)
    call_is zero zero g is = (refl, let e = is.is in let same : 1 ≡ g = cc in sym same)
    call_is zero (suc zero) g is = let e = is.is in absurd cc
    call_is zero (suc (suc i)) g is = absurd (omega (arith, is.inside))
    call_is (suc zero) zero g is = let e = is.is in absurd cc
    call_is (suc zero) (suc i) g is = absurd (omega (arith, is.inside))
    call_is (suc (suc f)) i g is = absurd (omega (arith, is.known))

    none : (f : ℕ) (between : List ℕ) → IsCallChain (calling (at 21 op.Return ∷ [])) f between f → ⊥
    none f [] calls = let e = call_is f calls.0 f calls.1 in omega (arith, e.0, e.1)
    none f (h ∷ []) chain =
        let e = call_is f chain.0.0 h chain.0.1 in let d = call_is h chain.1.0 f chain.1.1 in omega (arith, e.1, d.0)
    none f (h ∷ k ∷ between) chain =
        let e = call_is f chain.0.0 h chain.0.1 in let d = call_is h chain.1.0.0 k chain.1.0.1 in omega (arith, e.1, d.0)
