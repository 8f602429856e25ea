-- How many instructions an item has, whatever the addresses are.
use Rattle.std.proofs.Common.{◌≡◌, ◌∙◌, ℕ, zero, suc, ◌+◌, ◌*◌, ◌≤◌, ◌<◌, Bool, true, false, List, [], ◌∷◌, length, refl, sym, ap, subst, arith, length-append}
use Rattle.std.specs.Prelude.{pos, if◌then◌else◌, nat_le}
use Rattle.std.proofs.lemmas.Bool.{cond_both}
use Rattle.sloth_base.specs.Named.{function}
use Rattle.sloth_base.specs.declared.app.App.{App}
use Rattle.sloth_base.specs.declared.app.Call.{Call}
use Rattle.sloth_base.specs.declared.app.Op.{Op}
use Rattle.sloth_base.specs.declared.app.Op.TheVariants as op
use Rattle.sloth_base.specs.declared.app.Width.{Width}
use Rattle.sloth_base.specs.declared.limits.Places.{Places}
use Rattle.sloth_base.specs.ServiceCodes.{has_mask}
use Rattle.sloth_base.specs.declared.service.Service.{Service}
use Rattle.sloth_base.specs.Limits.{frame_limit}
use Rattle.rv32_instr.specs.declared.InstrKind.{InstrKind}
use Rattle.rv32_instr.specs.declared.InstrKind.TheVariants.{Auipc, Sw, Jal}
use Rattle.rv32_expand.specs.Expansion.{number_in, zeros, call_code, mask_of, service_jump, distance, item_address, operation_code}
use Rattle.rv32_expand.specs.Long.{size, no_places}

-- a frame is cleared by an instruction for each word
pub zeros_length : (n k : ℕ) → length (zeros n k) ≡ n
zeros_length zero k = refl
zeros_length (suc n) k = ap suc (zeros_length n (k + 1))

-- what follows the zeros of a call
abbrev last_three : (address words target : ℕ) → List InstrKind
last_three address words target = Auipc 31 0 ∷ Sw 2 31 (pos (4 * words)) ∷ Jal 0 (distance (address + 4 * (words + 3)) target) ∷ []

-- a call has four more
pub calls_length : (address words target : ℕ) → length (call_code address words target) ≡ 4 + words
calls_length address words target =
    let l = length-append (zeros words 0) (last_three address words target) in
    let z = zeros_length words 0 in
    omega (arith, l, z)

-- a service is a jump, behind the mask of its events
pub served_length : (places : Places) (call : Call) (address : ℕ) → length (service_jump places call address) ≡ length (mask_of call.service call.mask) + 1
served_length places call address = length-append (mask_of call.service call.mask) _

-- a mask of either kind
either : (b : Bool) (near near' far far' : List InstrKind) → length near ≡ length near' → length far ≡ length far'
    → length (if b then near else far) ≡ length (if b then near' else far')
either true near near' far far' e f = e
either false near near' far far' e f = f

some_of : (b : Bool) (near far : List InstrKind) → 0 < length near → 0 < length far → 0 < length (if b then near else far)
some_of true near far e f = e
some_of false near far e f = f

module _ (app : App) (places : Places) (func address : ℕ) where
  -- the instructions of an item are as many as its length says
  pub size_is : (long : Bool) (o : Op) → length (operation_code app places func address long o) ≡ size app long o
  unfolding size
  size_is long (op.Alu kind rd rs1 rs2) = refl
  size_is long (op.AluImm kind rd rs1 number) = refl
  size_is long (op.Lui rd number) = refl
  size_is long (op.Li rd value) = refl
  size_is long (op.FrameLoad rd word) = refl
  size_is long (op.FrameStore rs word) = refl
  size_is long (op.Load w rd symbol offset) = refl
  size_is long (op.Store w rs symbol offset) = refl
  size_is long (op.LoadAt w rd symbol index mask) = either (nat_le mask 2047) _ _ _ _ refl refl
  size_is long (op.StoreAt w rs symbol index mask) = either (nat_le mask 2047) _ _ _ _ refl refl
  size_is true (op.Branch kind rs1 rs2 label) = refl
  size_is false (op.Branch kind rs1 rs2 label) = refl
  size_is long (op.Jump label) = refl
  size_is long (op.Invoke callee) =
      let n = (function app callee).frame_words in
      calls_length address n (item_address places callee 0) ∙ sym (calls_length 0 n (item_address no_places callee 0))
  size_is long op.Return = refl
  size_is long (op.Serve call) = served_length places call address ∙ sym (served_length no_places call 0)

-- each item has an instruction
pub expanded_some : (app : App) (places : Places) (func address : ℕ) (long : Bool) (o : Op) → 0 < length (operation_code app places func address long o)
expanded_some app places func address long (op.Alu kind rd rs1 rs2) = omega arith
expanded_some app places func address long (op.AluImm kind rd rs1 number) = omega arith
expanded_some app places func address long (op.Lui rd number) = omega arith
expanded_some app places func address long (op.Li rd value) = omega arith
expanded_some app places func address long (op.FrameLoad rd word) = omega arith
expanded_some app places func address long (op.FrameStore rs word) = omega arith
expanded_some app places func address long (op.Load w rd symbol offset) = omega arith
expanded_some app places func address long (op.Store w rs symbol offset) = omega arith
expanded_some app places func address long (op.LoadAt w rd symbol index mask) = some_of (nat_le mask 2047) _ _ (omega arith) (omega arith)
expanded_some app places func address long (op.StoreAt w rs symbol index mask) = some_of (nat_le mask 2047) _ _ (omega arith) (omega arith)
expanded_some app places func address true (op.Branch kind rs1 rs2 label) = omega arith
expanded_some app places func address false (op.Branch kind rs1 rs2 label) = omega arith
expanded_some app places func address long (op.Jump label) = omega arith
expanded_some app places func address long (op.Invoke callee) = omega arith
expanded_some app places func address long op.Return = omega arith
expanded_some app places func address long (op.Serve call) = let l = served_length places call address in omega (arith, l)

-- ---- the lengths one by one

module _ (app : App) (long : Bool) where
  -- a call clears the frame of what it calls
  pub size_invoke : (callee : ℕ) → size app long (op.Invoke callee) ≡ 4 + (function app callee).frame_words
  unfolding size
  size_invoke callee = calls_length 0 (function app callee).frame_words (item_address no_places callee 0)

  -- a service loads its mask first
  pub size_serve : (call : Call) → size app long (op.Serve call) ≡ length (mask_of call.service call.mask) + 1
  unfolding size
  size_serve call = served_length no_places call 0

  chosen : (b : Bool) (near far : List InstrKind) (n m : ℕ) → length near ≡ n → length far ≡ m → length (if b then near else far) ≡ (if b then n else m)
  chosen true near far n m e f = e
  chosen false near far n m e f = f

  -- a load by an index, by whether its mask fits into an instruction
  pub size_load_at : (w : Width) (rd symbol index mask : ℕ) → size app long (op.LoadAt w rd symbol index mask) ≡ (if nat_le mask 2047 then 4 else 6)
  unfolding size
  size_load_at w rd symbol index mask = chosen (nat_le mask 2047) _ _ 4 6 refl refl

  -- a store by an index
  pub size_store_at : (w : Width) (rs symbol index mask : ℕ) → size app long (op.StoreAt w rs symbol index mask) ≡ (if nat_le mask 2047 then 4 else 6)
  unfolding size
  size_store_at w rs symbol index mask = chosen (nat_le mask 2047) _ _ 4 6 refl refl

-- the mask of a service is loaded by two instructions
mask_few : (s : Service) (mask : ℕ) → length (mask_of s mask) ≤ 2
mask_few s mask = cond_both (has_mask s) (number_in 30 mask) [] (λ (xs : List InstrKind). length xs ≤ 2) (λ _. omega arith) (λ _. omega arith)

-- from 1 to 36
pub record IsFew (n : ℕ) : Type 0 where
  pub some : 1 ≤ n
  pub few : n ≤ 36

four_or_six : (b : Bool) → IsFew (if b then 4 else 6)
four_or_six true = record { some = omega arith; few = omega arith }
four_or_six false = record { some = omega arith; few = omega arith }

small : (n : ℕ) → 1 ≤ n → n ≤ 36 → IsFew n
small n some few = record { some = some; few = few }

-- every item's length is so
pub size_few : (app : App) → ((func : ℕ) → (function app func).frame_words ≤ frame_limit) → (long : Bool) (o : Op) → IsFew (size app long o)
unfolding size
size_few app frames long (op.Alu kind rd rs1 rs2) = small 1 (omega arith) (omega arith)
size_few app frames long (op.AluImm kind rd rs1 number) = small 1 (omega arith) (omega arith)
size_few app frames long (op.Lui rd number) = small 1 (omega arith) (omega arith)
size_few app frames long (op.Li rd value) = small 2 (omega arith) (omega arith)
size_few app frames long (op.FrameLoad rd word) = small 1 (omega arith) (omega arith)
size_few app frames long (op.FrameStore rs word) = small 1 (omega arith) (omega arith)
size_few app frames long (op.Load w rd symbol offset) = small 2 (omega arith) (omega arith)
size_few app frames long (op.Store w rs symbol offset) = small 2 (omega arith) (omega arith)
size_few app frames long (op.LoadAt w rd symbol index mask) = subst IsFew (sym (size_load_at app long w rd symbol index mask)) (four_or_six (nat_le mask 2047))
size_few app frames long (op.StoreAt w rs symbol index mask) = subst IsFew (sym (size_store_at app long w rs symbol index mask)) (four_or_six (nat_le mask 2047))
size_few app frames true (op.Branch kind rs1 rs2 label) = small 6 (omega arith) (omega arith)
size_few app frames false (op.Branch kind rs1 rs2 label) = small 1 (omega arith) (omega arith)
size_few app frames long (op.Jump label) = small 1 (omega arith) (omega arith)
size_few app frames long (op.Invoke callee) =
    let f = frames callee in
    subst IsFew (sym (size_invoke app long callee)) (small (4 + (function app callee).frame_words) (omega arith) (omega arith))
size_few app frames long op.Return = small 3 (omega arith) (omega arith)
size_few app frames long (op.Serve call) =
    let m = mask_few call.service call.mask in
    subst IsFew (sym (size_serve app long call)) (small (length (mask_of call.service call.mask) + 1) (omega arith) (omega arith))
