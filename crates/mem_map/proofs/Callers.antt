-- The code of services that is wanted: that which an item calls.
use Rattle.std.proofs.Common.{◌≡◌, ◌∙◌, ◌<◌, ℕ, List, Bool, true, false, length, get_or, refl, sym, ap, ⊎_elim, arith}
use Rattle.std.proofs.Math.ListN.{get_or-eq_default}
use Rattle.std.proofs.lemmas.Bool.{cases_lt, eqb-true, eq-eqb}
use Rattle.std.proofs.lemmas.List.{get_or_default}
use Rattle.std.proofs.lemmas.List.Folds.{Any-from_list_any, list_any_at}
use Rattle.sloth_base.specs.declared.app.App.{App}
use Rattle.sloth_base.specs.declared.app.Call.{Call}
use Rattle.sloth_base.specs.declared.app.Func.{Func}
use Rattle.sloth_base.specs.declared.app.Item.{Item}
use Rattle.sloth_base.specs.declared.app.Op.{Op}
use Rattle.sloth_base.specs.declared.app.Op.TheVariants as op
use Rattle.sloth_base.specs.Named.{function, no_function, item_of, no_item, operation}
use Rattle.sloth_base.specs.Blocks.{block_count, block_number}
use Rattle.rv32_expand.specs.InPlace.{IsAppItem}
use Rattle.mem_map.specs.Wanted.{is_call_of, is_called_by, is_wanted}

-- an item that calls the service with its object of a number
pub record Caller (app : App) (number : ℕ) : Type 0 where
  pub func : ℕ
  pub item : ℕ
  pub is_item : IsAppItem app func item
  pub call : Call
  pub is : operation app func item ≡ op.Serve call
  pub numbered : block_number call.service call.object ≡ number

-- an operation that calls it is a call of that number
call_of : (number : ℕ) (o : Op) → is_call_of number o ≡ true → (call : Call) × (o ≡ op.Serve call) × (block_number call.service call.object ≡ number)
call_of number (op.Serve call) is = (call, refl, eqb-true (block_number call.service call.object) number is)
call_of number (op.Alu kind rd rs1 rs2) is = absurd cc
call_of number (op.AluImm kind rd rs1 imm) is = absurd cc
call_of number (op.Lui rd imm) is = absurd cc
call_of number (op.Li rd value) is = absurd cc
call_of number (op.FrameLoad rd word) is = absurd cc
call_of number (op.FrameStore rs word) is = absurd cc
call_of number (op.Load width rd symbol offset) is = absurd cc
call_of number (op.Store width rs symbol offset) is = absurd cc
call_of number (op.LoadAt width rd symbol index mask) is = absurd cc
call_of number (op.StoreAt width rs symbol index mask) is = absurd cc
call_of number (op.Branch kind rs1 rs2 label) is = absurd cc
call_of number (op.Jump label) is = absurd cc
call_of number (op.Invoke callee) is = absurd cc
call_of number op.Return is = absurd cc

-- of a function that calls it, an item does
in_function : (number : ℕ) (func : Func) → is_called_by number func ≡ true
    → (item : ℕ) × (item < length func.items) × (is_call_of number (item_of func item).op ≡ true)
in_function number func is =
    let found = Any-from_list_any (λ (item : Item). is_call_of number item.op) func.items is in
    (found.0, found.2, ap (λ (item : Item). is_call_of number item.op) (get_or_default func.items found.0 no_item found.1 found.2 ∙ found.3) ∙ found.4)

-- what is wanted has a caller
pub caller : (number : ℕ) (app : App) → is_wanted number app ≡ true → Caller app number
caller number app is =
    let found = Any-from_list_any (is_called_by number) app.funcs is in
    let is_function : function app found.0 ≡ found.1 = get_or_default app.funcs found.0 no_function found.1 found.2 ∙ found.3 in
    let item = in_function number (function app found.0) (ap (is_called_by number) is_function ∙ found.4) in
    let called = call_of number (operation app found.0 item.0) item.2 in
    record {
      func = found.0;
      item = item.0;
      is_item = record { declared = found.2; inside = item.1 };
      call = called.0;
      is = called.1;
      numbered = called.2;
    }

-- what an item calls is wanted
pub called : (app : App) (func item : ℕ) (call : Call) → IsAppItem app func item → operation app func item ≡ op.Serve call
    → is_wanted (block_number call.service call.object) app ≡ true
called app func item call is e =
    let number : ℕ = block_number call.service call.object in
    list_any_at (is_called_by number) app.funcs func no_function is.declared
    (list_any_at (λ (item : Item). is_call_of number item.op) (function app func).items item no_item is.inside (ap (is_call_of number) e ∙ eq-eqb number number refl))

-- a number that is marked has a caller
pub marked : (app : App) (wanted : List Bool) → length wanted ≡ block_count → ((number : ℕ) → number < block_count → get_or wanted number false ≡ is_wanted number app)
    → (number : ℕ) → get_or wanted number false ≡ true → Caller app number
marked app wanted all are number is = ⊎_elim
    (λ below. caller number app (sym (are number below) ∙ is))
    (λ past. absurd (let none = get_or-eq_default wanted false {n = number} (omega (arith, all, past)) in cc))
    (cases_lt number block_count)
