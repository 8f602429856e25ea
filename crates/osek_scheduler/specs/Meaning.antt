-- What an item of task code does to registers, frames and data. No address occurs.
use Rattle.std.specs.Prelude.{ℕ, zero, suc, ◌+◌, ◌-◌, ◌*◌, ◌/◌, ◌%◌, ◌^◌, ◌==◌, List, [], ◌∷◌, ◌++◌, Bool, true, false, cond, leb, ltb, ◌&&◌, ◌||◌, Option, Some, None, get_or, set, length, take, drop, bit_and, slice_get}
use Rattle.std.specs.List.{list_all}
use Rattle.sloth_base.specs.Arithmetic.{complement, size_of, extended_number, register_result, number_result, branch_holds}
use Rattle.sloth_base.specs.declared.app.App.{App}
use Rattle.sloth_base.specs.declared.app.Op.{Op}
use Rattle.sloth_base.specs.declared.app.Op.TheVariants as op
use Rattle.sloth_base.specs.declared.app.Width.{Width}
use Rattle.osek_scheduler.specs.State.{Frame, entry_frame}
use Rattle.sloth_base.specs.Named.{function}

-- the registers of task code: x0, and x5 to x29
abbrev pub is_own : ℕ → Bool
is_own r = (r == 0) || (leb 5 r && ltb r 30)

-- x0 is 0; the list holds x5 to x29
abbrev pub register : List ℕ → ℕ → ℕ
register registers zero = 0
register registers (suc r) = get_or registers (suc r - 5) 0

-- the registers with a new value; x0 stays 0
abbrev pub with_register : List ℕ → ℕ → ℕ → List ℕ
with_register registers zero value = registers
with_register registers (suc r) value = set registers (suc r - 5) value

-- the new value of the destination; that of x0 is 0
abbrev pub shown_value : ℕ → ℕ → ℕ
shown_value zero value = 0
shown_value (suc r) value = value

-- ---- data: little-endian numbers in the bytes of a symbol

-- the number in little-endian bytes
abbrev pub number_of : List ℕ → ℕ
number_of [] = 0
number_of (b ∷ bytes) = b + 256 * number_of bytes

-- so many little-endian bytes of a number
abbrev pub bytes_of : ℕ → ℕ → List ℕ
bytes_of zero value = []
bytes_of (suc n) value = value % 256 ∷ bytes_of n (value / 256)

-- the word that a load at an offset gives
abbrev pub loaded_word : Width → List ℕ → ℕ → ℕ
loaded_word w bytes offset = extended_number w (number_of (take (size_of w) (drop offset bytes)))

-- the bytes after a store at an offset
abbrev pub bytes_after_store : Width → List ℕ → ℕ → ℕ → List ℕ
bytes_after_store w bytes offset value = take offset bytes ++ (bytes_of (size_of w) (value % 2 ^ (8 * size_of w)) ++ drop (offset + size_of w) bytes)

-- the bytes of a symbol, where the access lies inside them
abbrev pub accessed_bytes : List (List ℕ) → ℕ → Width → ℕ → Option (List ℕ)
accessed_bytes symbols y w offset =
    cond (ltb y (length symbols) && leb (offset + size_of w) (length (get_or symbols y []))) (Some (get_or symbols y [])) None

-- ---- items

-- what an item leaves, and the result that it shows
pub record ItemMeaning : Type 0 where
  pub registers : List ℕ
  pub frames : List Frame
  pub symbols : List (List ℕ)
  pub result : ℕ

-- the frame behind its item
abbrev pub going_on_frame : Frame → Frame
going_on_frame frame = record frame { item = frame.item + 1 }

-- the caller goes on behind its call
abbrev pub returned_frames : List Frame → Option (List Frame)
returned_frames [] = None
returned_frames (caller ∷ outer) = Some (going_on_frame caller ∷ outer)

-- goes on with what there is
abbrev pub on_some : {A B : Type 0} → Option A → (A → Option B) → Option B
on_some None go = None
on_some (Some a) go = go a

-- what there is, where a test holds
abbrev pub if_true : {A : Type 0} → Bool → Option A → Option A
if_true true a = a
if_true false a = None

-- the number of the item behind a label of the function
abbrev pub target : App → Frame → ℕ → Option ℕ
target app frame label = on_some (slice_get (function app frame.func).labels label) (λ found. Some found.item)

-- a new value in rd
abbrev pub write_meaning : ℕ → ℕ → List ℕ → Frame → List Frame → List (List ℕ) → Option ItemMeaning
write_meaning rd value registers frame outer symbols =
    Some (record { registers = with_register registers rd value; frames = going_on_frame frame ∷ outer; symbols = symbols; result = shown_value rd value })

-- the next item is this one of the same function
abbrev pub jump_meaning : ℕ → List ℕ → Frame → List Frame → List (List ℕ) → Option ItemMeaning
jump_meaning item registers frame outer symbols =
    Some (record { registers = registers; frames = record frame { item = item } ∷ outer; symbols = symbols; result = 0 })

-- a load from a symbol into rd
abbrev pub load_meaning : Width → ℕ → ℕ → ℕ → List ℕ → Frame → List Frame → List (List ℕ) → Option ItemMeaning
load_meaning w rd y offset registers frame outer symbols =
    on_some (accessed_bytes symbols y w offset) (λ bytes. write_meaning rd (loaded_word w bytes offset) registers frame outer symbols)

-- a store of rs to a symbol
abbrev pub store_meaning : Width → ℕ → ℕ → ℕ → List ℕ → Frame → List Frame → List (List ℕ) → Option ItemMeaning
store_meaning w rs y offset registers frame outer symbols =
    on_some (accessed_bytes symbols y w offset) (λ bytes. Some (record {
      registers = registers;
      frames = going_on_frame frame ∷ outer;
      symbols = set symbols y (bytes_after_store w bytes offset (register registers rs));
      result = register registers rs;
    }))

-- the innermost frame executes an item that is no service
abbrev pub execution : App → Op → List ℕ → Frame → List Frame → List (List ℕ) → Option ItemMeaning
execution app (op.Alu kind rd rs1 rs2) x frame outer symbols =
    write_meaning rd (register_result kind (register x rs1) (register x rs2)) x frame outer symbols
execution app (op.AluImm kind rd rs1 number) x frame outer symbols =
    write_meaning rd (number_result kind (register x rs1) (complement number)) x frame outer symbols
execution app (op.Lui rd number) x frame outer symbols = write_meaning rd (number * 4096) x frame outer symbols
execution app (op.Li rd value) x frame outer symbols = write_meaning rd value x frame outer symbols
execution app (op.FrameLoad rd word) x frame outer symbols =
    if_true (ltb word (length frame.words)) (write_meaning rd (get_or frame.words word 0) x frame outer symbols)
execution app (op.FrameStore rs word) x frame outer symbols =
    if_true (ltb word (length frame.words))
    (Some (record {
      registers = x;
      frames = record frame { item = frame.item + 1; words = set frame.words word (register x rs) } ∷ outer;
      symbols = symbols;
      result = register x rs;
    }))
execution app (op.Load w rd y offset) x frame outer symbols = load_meaning w rd y offset x frame outer symbols
execution app (op.Store w rs y offset) x frame outer symbols = store_meaning w rs y offset x frame outer symbols
execution app (op.LoadAt w rd y index mask) x frame outer symbols = load_meaning w rd y (bit_and (register x index) mask) x frame outer symbols
execution app (op.StoreAt w rs y index mask) x frame outer symbols = store_meaning w rs y (bit_and (register x index) mask) x frame outer symbols
execution app (op.Branch kind rs1 rs2 label) x frame outer symbols =
    on_some (target app frame label) (λ item.
    jump_meaning (cond (branch_holds kind (register x rs1) (register x rs2)) item (frame.item + 1)) x frame outer symbols)
execution app (op.Jump label) x frame outer symbols = on_some (target app frame label) (λ item. jump_meaning item x frame outer symbols)
execution app (op.Invoke f) x frame outer symbols =
    if_true (ltb f (length app.funcs))
    (Some (record { registers = x; frames = entry_frame app f ∷ frame ∷ outer; symbols = symbols; result = 0 }))
execution app op.Return x frame outer symbols =
    on_some (returned_frames outer) (λ frames. Some (record { registers = x; frames = frames; symbols = symbols; result = 0 }))
execution app (op.Serve call) x frame outer symbols = None

-- the registers that an item names
abbrev pub registers_of : Op → List ℕ
registers_of (op.Alu kind rd rs1 rs2) = rd ∷ rs1 ∷ rs2 ∷ []
registers_of (op.AluImm kind rd rs1 number) = rd ∷ rs1 ∷ []
registers_of (op.Lui rd number) = rd ∷ []
registers_of (op.Li rd value) = rd ∷ []
registers_of (op.FrameLoad rd word) = rd ∷ []
registers_of (op.FrameStore rs word) = rs ∷ []
registers_of (op.Load w rd y offset) = rd ∷ []
registers_of (op.Store w rs y offset) = rs ∷ []
registers_of (op.LoadAt w rd y index mask) = rd ∷ index ∷ []
registers_of (op.StoreAt w rs y index mask) = rs ∷ index ∷ []
registers_of (op.Branch kind rs1 rs2 label) = rs1 ∷ rs2 ∷ []
registers_of (op.Jump label) = []
registers_of (op.Invoke f) = []
registers_of op.Return = []
registers_of (op.Serve call) = []

-- An item has a meaning where all that it names is there: registers of task code, words of its frame, bytes of the data,
-- labels of its function, functions.
abbrev pub meaning : App → Op → List ℕ → Frame → List Frame → List (List ℕ) → Option ItemMeaning
meaning app operation x frame outer symbols = if_true (list_all is_own (registers_of operation)) (execution app operation x frame outer symbols)
