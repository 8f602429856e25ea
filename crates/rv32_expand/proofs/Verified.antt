-- The items of task code that keeps its rules have room in their instructions, wherever they stand.
use Rattle.std.proofs.Common.{◌≡◌, ◌∙◌, ℕ, ◌+◌, ◌-◌, ◌*◌, ◌%◌, ◌^◌, ◌<◌, ◌≤◌, ◌⊎◌, inl, inr, ⊎_elim, Bool, true, false, pos, length, refl, sym, ap, subst, arith}
use Rattle.std.specs.Prelude.{negsuc, unsigned_abs, Some}
use Rattle.std.proofs.lemmas.Int.{ints}
use Rattle.std.proofs.lemmas.Bool.{cases_lt}
use Rattle.sloth_base.specs.Named.{function, no_function}
use Rattle.sloth_base.specs.declared.app.App.{App}
use Rattle.sloth_base.specs.declared.app.Call.{Call}
use Rattle.sloth_base.specs.declared.app.Func.{Func}
use Rattle.sloth_base.specs.declared.app.Op.{Op}
use Rattle.sloth_base.specs.declared.app.Op.TheVariants as op
use Rattle.sloth_base.specs.declared.config.Config.{Config}
use Rattle.sloth_base.specs.declared.limits.Places.{Places}
use Rattle.sloth_base.specs.declared.refusal.Code.{Code}
use Rattle.sloth_base.specs.declared.refusal.Code.TheVariants as code
use Rattle.code_rules.specs.AppRange.{IsRegister, IsOp}
use Rattle.code_rules.specs.Code.{is_followed, way}
use Rattle.sloth_base.specs.Named.{item_of, label_of, no_item}
use Rattle.code_rules.specs.WellFormed.{IsAccessPast, IsMaskPast, WellFormed, IsBreach, BodyFault, fault_at_line}
use Rattle.rv32_instr.specs.Range.{IsEven}
use Rattle.rv32_expand.specs.Expansion.{item_address, symbol_address, block_address, label_address, distance, mask_of, is_long, operation_code, expansion}
use Rattle.sloth_base.specs.Named.{operation}
use Rattle.sloth_base.specs.Limits.{mask_limit, frame_limit, operand_limit}
use Rattle.rv32_expand.specs.NumberRange.{HasBranchRoom, HasNumbersInRange}
use Rattle.rv32_expand.specs.InPlace.{IsAppItem}
use Rattle.rv32_expand.specs.Long.{target_of, IsBranchTo, AreLongBranches, IsInBranchReach}
use Rattle.rv32_expand.specs.ItemLengths.{ShortBranchesReach}
use Rattle.rv32_expand.specs.Sizes.{AgreeWithSizes, HasWordAddresses, IsVerified, IsWordAddress}
use Rattle.rv32_expand.proofs.Agreeing.{told, reaches, least_same}
use Rattle.rv32_expand.proofs.Counts.{calls_length, served_length, expanded_some}
use Rattle.rv32_expand.proofs.InRangeOf.{frame_of, small}

-- ---- branches

-- a branch has a label, and may go on
record IsBranchOf (body : Func) (o : Op) (target : ℕ) : Type 0 where
  label : ℕ
  is : target ≡ (label_of body label).item
  way_is : way o ≡ Some label
  goes : is_followed o ≡ true

branch_of : (body : Func) (o : Op) (target : ℕ) → target_of body o ≡ Some target → IsBranchOf body o target
branch_of body (op.Branch kind rs1 rs2 label) target e = record { label = label; is = cc; way_is = refl; goes = refl }
branch_of body (op.Alu kind rd rs1 rs2) target e = absurd cc
branch_of body (op.AluImm kind rd rs1 number) target e = absurd cc
branch_of body (op.Lui rd number) target e = absurd cc
branch_of body (op.Li rd value) target e = absurd cc
branch_of body (op.FrameLoad rd word) target e = absurd cc
branch_of body (op.FrameStore rs word) target e = absurd cc
branch_of body (op.Load w rd symbol offset) target e = absurd cc
branch_of body (op.Store w rs symbol offset) target e = absurd cc
branch_of body (op.LoadAt w rd symbol index mask) target e = absurd cc
branch_of body (op.StoreAt w rs symbol index mask) target e = absurd cc
branch_of body (op.Jump label) target e = absurd cc
branch_of body (op.Invoke callee) target e = absurd cc
branch_of body (op.Serve call) target e = absurd cc
branch_of body op.Return target e = absurd cc

-- ---- distances

even_distance : (a b : ℕ) → a % 4 ≡ 0 → b % 4 ≡ 0 → unsigned_abs (distance a b) % 2 ≡ 0
even_distance a b h k =
    ⊎_elim
    (λ (l : b < a). let e : distance a b ≡ negsuc (a - b - 1) = omega (arith, ints) in
    let f : (a - b - 1 + 1) % 2 ≡ 0 = omega arith in ap (λ z. unsigned_abs z % 2) e ∙ minus (a - b - 1) f)
    (λ (l : a ≤ b). let e : distance a b ≡ pos (b - a) = omega (arith, ints) in
    let f : (b - a) % 2 ≡ 0 = omega arith in ap (λ z. unsigned_abs z % 2) e ∙ f)
    (cases_lt b a)
  where
    minus : (n : ℕ) → (n + 1) % 2 ≡ 0 → unsigned_abs (negsuc n) % 2 ≡ 0
    minus n f = omega (arith, f)

jump_fits : (low a b : ℕ) → a % 4 ≡ 0 → b % 4 ≡ 0 → low ≤ a → a < low + 0x10_0000 → low ≤ b → b < low + 0x10_0000 → IsEven 21 (distance a b)
jump_fits low a b h k la ua lb ub = ((omega (arith, ints), omega (arith, ints)), even_distance a b h k)

test_reaches : (a b : ℕ) → a % 4 ≡ 0 → b % 4 ≡ 0 → IsInBranchReach a b → IsEven 13 (distance a b)
test_reaches a b h k r = let x = r.0 in let y = r.1 in ((omega (arith, ints), omega (arith, ints)), even_distance a b h k)

-- ---- what the rules say

own : (r : ℕ) → IsRegister r → r < 32
own r h = ⊎_elim (λ e. omega (arith, e)) (λ k. let l = k.1 in omega arith) h

module _ (config : Config) (app : App) (well : WellFormed config app) (func index : ℕ) (item : IsAppItem app func index) where
  abbrev body : Func
  body = function app func

  unbroken : (c : Code) → IsBreach config app func index c → ⊥
  unbroken c b = well.no_fault (fault_at_line (item_of body index).line c) (func, item.declared, BodyFault.at_item index c item.inside b)

  is_op : IsOp config app body (operation app func index)
  is_op = let b = well.in_range.bodies func no_function item.declared in b.items index no_item item.inside

  -- a label to which an item goes stands before an item
  pub goes_inside : (k : ℕ) → way (operation app func index) ≡ Some k → IsAppItem app func (label_of body k).item
  goes_inside k e = record {
    declared = item.declared;
    inside =
        ⊎_elim (λ h. h) (λ (h : length body.items ≤ (label_of body k).item).
        absurd (unbroken code.V5 (IsBreach.is_run_out ((label_of body k).item, inr (k, e, refl), h))))
        (cases_lt (label_of body k).item (length body.items));
  }

  -- an item that goes on has one behind it
  pub falls_inside : is_followed (operation app func index) ≡ true → IsAppItem app func (index + 1)
  falls_inside e = record {
    declared = item.declared;
    inside =
        ⊎_elim (λ h. h) (λ (h : length body.items ≤ index + 1). absurd (unbroken code.V5 (IsBreach.is_run_out (index + 1, inl (e, refl), h))))
        (cases_lt (index + 1) (length body.items));
  }

  -- a word of the frame
  in_frame : (word : ℕ) → (body.frame_words ≤ word → ⊥) → word < frame_limit
  in_frame word n =
      let f = frame_of app (config, well.in_range) func in
      ⊎_elim (λ (h : word < body.frame_words). omega arith) (λ h. absurd (n h)) (cases_lt word body.frame_words)

  mask_small : (mask : ℕ) (P : Type 0) → ((mask_limit < mask) ⊎ P → ⊥) → mask ≤ mask_limit
  mask_small mask P n = ⊎_elim (λ (h : mask_limit < mask). absurd (n (inl h))) (λ h. h) (cases_lt mask_limit mask)

-- a body has a first item
pub has_first : (config : Config) (app : App) → WellFormed config app → (func : ℕ) → func < length app.funcs → IsAppItem app func 0
has_first config app well func h = record {
  declared = h;
  inside =
      ⊎_elim (λ k. k) (λ (k : length (function app func).items ≤ 0).
      absurd (well.no_fault (fault_at_line (function app func).line code.V5) (func, h, BodyFault.at_header (omega arith))))
      (cases_lt 0 (length (function app func).items));
}

module _ (config : Config) (app : App) (well : WellFormed config app) (places : Places) (covers : HasWordAddresses app places) (agree : AgreeWithSizes app places)
    (func index : ℕ) (item : IsAppItem app func index) where
  abbrev address : ℕ
  address = item_address places func index

  here : IsWordAddress address
  here = covers.items func index item

  near : (n : ℕ) → n < length (expansion app places func index) → (covers.low ≤ address + 4 * n) × (address + 4 * n < covers.low + 0x10_0000)
  near n h = let i = covers.items_near func index item in (omega (arith, i.0), omega (arith, i.1))

  item_near : (f i : ℕ) → IsAppItem app f i → (covers.low ≤ item_address places f i) × (item_address places f i < covers.low + 0x10_0000)
  item_near f i h =
      let n = covers.items_near f i h in
      let s = expanded_some app places f (item_address places f i) (is_long places f i) (operation app f i) in
      (n.0, omega (arith, n.1, s))

  -- a jump from an instruction of the item to another item
  to_item : (n f i : ℕ) → n < length (expansion app places func index) → IsAppItem app f i → IsEven 21 (distance (address + 4 * n) (item_address places f i))
  to_item n f i h k =
      let a = near n h in
      let b = item_near f i k in
      let w = here in
      let v = covers.items f i k in
      jump_fits covers.low (address + 4 * n) (item_address places f i) (omega (arith, w.2)) v.2 a.0 a.1 b.0 b.1

  to_block : (n : ℕ) (call : Call) → operation app func index ≡ op.Serve call → n < length (expansion app places func index)
      → IsEven 21 (distance (address + 4 * n) (block_address places call.service call.object))
  to_block n call e h =
      let a = near n h in
      let b = covers.blocks_near func index call item e in
      let w = here in
      let v = covers.blocks func index call item e in
      jump_fits covers.low (address + 4 * n) (block_address places call.service call.object) (omega (arith, w.2)) v.2 a.0 a.1 b.0 b.1

  low_enough : address < 2 ^ 31 + 2 ^ 22
  low_enough = let w = here in omega (arith, w.1)

  -- a branch: its label's item, and whether it is long
  room : (target : ℕ) → IsBranchTo (function app func) index target → IsAppItem app func target → IsAppItem app func (index + 1) → (x : Bool) → is_long places func index ≡ x
      → HasBranchRoom x address (item_address places func target)
  room target g t n true e = let w = here in omega (arith, w.1)
  room target g t n false e =
      let w = here in
      let v = covers.items func target t in
      test_reaches address (item_address places func target) w.2 v.2
      (reaches app places agree func item.declared index target g t.inside (sym (told app places agree func item.declared index target g n.inside) ∙ e))

  in_ram : (symbol offset : ℕ) → symbol < length app.symbols → offset ≤ operand_limit → symbol_address places symbol + offset < 2 ^ 32
  in_ram symbol offset h k = let v = covers.symbols symbol h in omega (arith, v.1)

  -- one operation; `is` says that it is this item's
  fits : (o : Op) → operation app func index ≡ o → IsOp config app (function app func) o → (IsAccessPast app (function app func) o → ⊥) → (IsMaskPast app o → ⊥)
      → HasNumbersInRange app places func address (is_long places func index) o
  fits (op.Alu kind rd rs1 rs2) is h a m = (own rd h.0, own rs1 h.1, own rs2 h.2)
  fits (op.AluImm kind rd rs1 number) is h a m = (own rd h.0, own rs1 h.1, h.2)
  fits (op.Lui rd number) is h a m = let n = h.1 in (own rd h.0, omega arith)
  fits (op.Li rd value) is h a m = own rd h.0
  fits (op.FrameLoad rd word) is h a m = (own rd h.0, in_frame config app well func index item word a)
  fits (op.FrameStore rs word) is h a m = (own rs h.0, in_frame config app well func index item word a)
  fits (op.Load w rd symbol offset) is h a m = (own rd h.0, in_ram symbol offset h.1 h.2)
  fits (op.Store w rs symbol offset) is h a m = (own rs h.1, in_ram symbol offset h.2 h.3)
  fits (op.LoadAt w rd symbol i mask) is h a m = (own rd h.0, own i h.2, mask_small config app well func index item mask _ m)
  fits (op.StoreAt w rs symbol i mask) is h a m = (own rs h.1, own i h.3, mask_small config app well func index item mask _ m)
  fits (op.Branch kind rs1 rs2 label) is h a m =
      let target = (label_of (function app func) label).item in
      let g : IsBranchTo (function app func) index target = record { inside = item.inside; goes = ap (target_of (function app func)) is } in (
        own rs1 h.0,
        own rs2 h.1,
        room target g (goes_inside config app well func index item label (ap way is)) (falls_inside config app well func index item (ap is_followed is)) (is_long places func index) refl,
      )
  fits (op.Jump label) is h a m =
      let e : address + 4 * 0 ≡ address = omega arith in
      subst (λ (n : ℕ). IsEven 21 (distance n (label_address app places func label))) e
      (to_item 0 func (label_of (function app func) label).item (expanded_some app places func address (is_long places func index) (operation app func index))
      (goes_inside config app well func index item label (ap way is)))
  fits (op.Invoke callee) is h a m =
      let words = (function app callee).frame_words in
      let l : length (expansion app places func index) ≡ 4 + words = ap (λ o. length (operation_code app places func address (is_long places func index) o)) is ∙ calls_length address words (item_address places callee 0) in
      (frame_of app (config, well.in_range) callee, low_enough, to_item (words + 3) callee 0 (omega (arith, l)) (has_first config app well callee h.0))
  fits op.Return is h a m = frame_of app (config, well.in_range) func
  fits (op.Serve call) is h a m =
      let n = length (mask_of call.service call.mask) in
      let l : length (expansion app places func index) ≡ n + 1 = ap (λ o. length (operation_code app places func address (is_long places func index) o)) is ∙ served_length places call address in
      (low_enough, to_block n call is (omega (arith, l)))

-- each item's numbers have room where it stands
pub items_fit : (app : App) → IsVerified app → (places : Places) → HasWordAddresses app places → AgreeWithSizes app places → (func index : ℕ) → IsAppItem app func index
    → HasNumbersInRange app places func (item_address places func index) (is_long places func index) (operation app func index)
items_fit app (config, well) places covers agree func index item =
    fits config app well places covers agree func index item (operation app func index) refl (is_op config app well func index item)
    (λ h. unbroken config app well func index item code.V2 (IsBreach.is_access_past h)) (λ h. unbroken config app well func index item code.V4 (IsBreach.is_mask_past h))

-- the same of what code computes
pub fit_here : (app : App) → IsVerified app → (places : Places) → HasWordAddresses app places → AgreeWithSizes app places → (func index : ℕ) → IsAppItem app func index
    → (at : ℕ) → at ≡ item_address places func index → (long : Bool) → long ≡ is_long places func index → (o : Op) → o ≡ operation app func index
    → HasNumbersInRange app places func at long o
fit_here app verified places covers agree func index item at a long l o e =
    subst (λ (x : ℕ). HasNumbersInRange app places func x long o) (sym a)
    (subst (λ (x : Bool). HasNumbersInRange app places func (item_address places func index) x o) (sym l)
    (subst (λ (x : Op). HasNumbersInRange app places func (item_address places func index) (is_long places func index) x) (sym e) (items_fit app verified places covers agree func index item)))

-- the addresses make the least set of branches long
pub least_told : (app : App) → IsVerified app → (places : Places) → AgreeWithSizes app places → (func : ℕ) → func < length app.funcs → AreLongBranches app (function app func) (is_long places func)
least_told app (config, well) places agree func h =
    least_same app (function app func) (agree.are_sizes.long func) (is_long places func)
    (λ i t g. let b = branch_of (function app func) (operation app func i) t g.goes in
    sym (told app places agree func h i t g (falls_inside config app well func i (record { declared = h; inside = g.inside }) b.goes).inside))
    (λ i t g. let b = branch_of (function app func) (operation app func i) t g.goes in
    let l = (small app (config, well.in_range) func no_function h).labels b.label in
    let e = b.is in omega (arith, l, e))
    (agree.are_sizes.least func h)

-- a short branch reaches its item
pub short_reaches : ShortBranchesReach
short_reaches app (config, well) places agree func index target h g e =
    let item : IsAppItem app func index = record { declared = h; inside = g.inside } in
    let b = branch_of (function app func) (operation app func index) target g.goes in
    let t = goes_inside config app well func index item b.label b.way_is in
    let n = falls_inside config app well func index item b.goes in
    reaches app places agree func h index target g (subst (λ (x : ℕ). x < length (function app func).items) (sym b.is) t.inside)
    (sym (told app places agree func h index target g n.inside) ∙ e)
