-- What the frames of bodies are at each of their instructions, as rules of `.debug_frame` (DWARF 4, 6.4.2).
use Rattle.std.specs.Prelude.{ℕ, ◌+◌, ◌-◌, ◌*◌, ◌/◌, ltb, cond, List, [], ◌∷◌, ◌++◌, length, Option, Some, None}
use Rattle.image_file.specs.Fields.{two_bytes}
use Rattle.sloth_base.specs.Named.{function}
use Rattle.sloth_base.specs.declared.app.App.{App}
use Rattle.sloth_base.specs.declared.app.Func.{Func}
use Rattle.sloth_base.specs.declared.app.Item.{Item}
use Rattle.sloth_base.specs.declared.app.Op.{Op}
use Rattle.sloth_base.specs.declared.app.Op.TheVariants as op
use Rattle.sloth_base.specs.declared.limits.Places.{Places}
use Rattle.symbol_image.specs.Fields.{unsigned_leb}
use Rattle.map_text.specs.LineRows.{item_address}

-- the rules go on behind so many instructions (DW_CFA_advance_loc1 and 2)
abbrev pub advance_by : (instructions : ℕ) → List ℕ
advance_by instructions = cond (ltb instructions 256) (2 ∷ instructions ∷ []) (3 ∷ two_bytes instructions)

-- the rules go on at an address
abbrev pub on_to : (at to : ℕ) → List ℕ
on_to at to = cond (ltb at to) (advance_by ((to - at) / 4)) []

-- a function has a word below its caller's frame: where it goes back to
abbrev pub back_words : Option ℕ → ℕ
back_words None = 1
back_words (Some task) = 0

-- the words of a body below its caller's frame
abbrev pub own_words : Func → ℕ
own_words func = func.frame_words + back_words func.task

-- a function goes on 12 bytes behind the word below its caller's frame (DW_CFA_val_expression of x1: DW_OP_lit4, minus, deref, plus 12)
abbrev pub back_rule : Option ℕ → List ℕ
back_rule None = 22 ∷ 1 ∷ 5 ∷ 52 ∷ 28 ∷ 6 ∷ 35 ∷ 12 ∷ []
back_rule (Some task) = []

-- where the caller's frame begins (DW_CFA_def_cfa_offset), in bytes above x2
abbrev pub frame_at : ℕ → List ℕ
frame_at bytes = 14 ∷ unsigned_leb bytes

-- within an item other rules hold from an offset on
pub record Inside : Type 0 where
  pub from : ℕ
  pub rules : List ℕ

-- Within a call, behind its first instruction, x2 is already that of the called body. Within a return, behind its second one, the frame is gone, and x31
-- has where it goes back to (DW_CFA_val_expression of x1: DW_OP_breg31 12). Both remember the rules before (DW_CFA_remember_state).
abbrev pub inside : App → (own : ℕ) → Op → Option Inside
inside app own (op.Invoke callee) = Some (record { from = 4; rules = 10 ∷ frame_at (4 * own + 4 + 4 * (function app callee).frame_words) })
inside app own op.Return = Some (record { from = 8; rules = 10 ∷ (frame_at 0 ++ 22 ∷ 1 ∷ 2 ∷ 143 ∷ 12 ∷ []) })
inside app own (op.Alu kind rd rs1 rs2) = None
inside app own (op.AluImm kind rd rs1 imm) = None
inside app own (op.Lui rd imm) = None
inside app own (op.Li rd value) = None
inside app own (op.FrameLoad rd word) = None
inside app own (op.FrameStore rs word) = None
inside app own (op.Load width rd symbol offset) = None
inside app own (op.Store width rs symbol offset) = None
inside app own (op.LoadAt width rd symbol index mask) = None
inside app own (op.StoreAt width rs symbol index mask) = None
inside app own (op.Branch kind rs1 rs2 label) = None
inside app own (op.Jump label) = None
inside app own (op.Serve call) = None

-- the rules of an item from one address to the next item, where the last rules were told at an address: they, and behind them, unless the body
-- ends there, those before (DW_CFA_restore_state)
abbrev pub item_rules : (at first next end : ℕ) → Option Inside → List ℕ
item_rules at first next end None = []
item_rules at first next end (Some i) =
    on_to at (first + i.from) ++ (i.rules ++ cond (ltb next end) (on_to (first + i.from) next ++ 11 ∷ []) [])

-- the address at which the last rules are told behind it
abbrev pub told_at : (at first next end : ℕ) → Option Inside → ℕ
told_at at first next end None = at
told_at at first next end (Some i) = cond (ltb next end) next (first + i.from)

-- the rules of items, the first of which has this place
abbrev pub items_rules : App → Places → (code_end own end at number : ℕ) → List Item → List ℕ
items_rules app places code_end own end at number [] = []
items_rules app places code_end own end at number (item ∷ items) =
    item_rules at (item_address places code_end number) (item_address places code_end (number + 1)) end (inside app own item.op)
    ++ items_rules app places code_end own end
    (told_at at (item_address places code_end number) (item_address places code_end (number + 1)) end (inside app own item.op)) (number + 1) items

-- the rules of a body, the first item of which has this place
unfoldable pub body_rules : App → Places → (code_end number : ℕ) → Func → List ℕ
body_rules app places code_end number func =
    frame_at (4 * own_words func) ++ (back_rule func.task
    ++ items_rules app places code_end (own_words func) (item_address places code_end (number + length func.items))
    (item_address places code_end number) number func.items)
