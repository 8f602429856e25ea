-- The number of instructions of an item is that of its size.
use Rattle.std.proofs.Common.{◌≡◌, ◌+◌, ◌<◌, ◌≤◌, ℕ, Bool, cond, Option, Some, None, List, [], length, get_or, refl, sym, ap, ◌∙◌, ⊎_elim, arith}
use Rattle.std.proofs.lemmas.Bool.{cases_lt, le-ltb, lt-ltb}
use Rattle.std.proofs.lemmas.List.{get_or_past}
use Rattle.sloth_base.specs.Named.{function, no_function, operation}
use Rattle.sloth_base.specs.declared.app.App.{App}
use Rattle.sloth_base.specs.declared.app.Func.{Func}
use Rattle.sloth_base.specs.declared.limits.Places.{Places}
use Rattle.rv32_expand.specs.Expansion.{expansion, is_long, item_address}
use Rattle.rv32_expand.specs.InPlace.{IsAppItem}
use Rattle.rv32_expand.specs.Long.{size, target_of}
use Rattle.rv32_expand.specs.Passes.{AreShortest}
use Rattle.sim_induction.specs.Items.{length_of, AreLengths}
use Rattle.sim_relation.specs.Build.{Build}
use Rattle.sim_relation.specs.Placed.{item_words}
use Rattle.rv32_expand.specs.Sizes.{AgreeWithSizes, AreItemSizes, IsVerified, items_before}
use Rattle.rv32_expand.proofs.Counts.{size_is}
use Rattle.rv32_expand.proofs.Growth.{size_alike}
use Rattle.rv32_expand.proofs.Least.{least_is_one}
use Rattle.rv32_expand.proofs.Verified.{least_told}

pub size_of_item : (app : App) → IsVerified app → (places : Places) → AgreeWithSizes app places → (sizes : List ℕ) → AreItemSizes app sizes → (func index : ℕ) → IsAppItem app func index
    → length (expansion app places func index) ≡ get_or sizes (items_before app.funcs func + index) 0
size_of_item app verified places agree sizes are func index is =
    size_is app places func (item_address places func index) (is_long places func index) (operation app func index)
    ∙ by (target_of (function app func) (operation app func index)) refl ∙ sym (are.each func index is)
  where
    by : (t : Option ℕ) → target_of (function app func) (operation app func index) ≡ t
        → size app (is_long places func index) (operation app func index) ≡ size app (are.long func index) (operation app func index)
    by (Some t) e =
        ap (λ (long : Bool). size app long (operation app func index))
        (least_is_one app (function app func) (is_long places func) (are.long func) (least_told app verified places agree func is.declared) (are.least func is.declared) index t
        (record { inside = is.inside; goes = e }))
    by None e = size_alike app (function app func) (operation app func index) e (is_long places func index) (are.long func index)

-- and that of its length
pub length_of_item : (app : App) → IsVerified app → (places : Places) → AgreeWithSizes app places → (lengths : List (List ℕ)) → AreLengths app lengths → (func index : ℕ) → IsAppItem app func index
    → length (expansion app places func index) ≡ length_of lengths func index
length_of_item app verified places agree lengths are func index is =
    size_is app places func (item_address places func index) (is_long places func index) (operation app func index)
    ∙ by (target_of (function app func) (operation app func index)) refl ∙ sym (own.are_lengths.each index is.inside)
  where
    own : AreShortest app (function app func) (get_or lengths func [])
    own = are.each func is.declared

    by : (t : Option ℕ) → target_of (function app func) (operation app func index) ≡ t
        → size app (is_long places func index) (operation app func index) ≡ size app (own.long index) (operation app func index)
    by (Some t) e =
        ap (λ (long : Bool). size app long (operation app func index))
        (least_is_one app (function app func) (is_long places func) own.long (least_told app verified places agree func is.declared) own.is_least index t
        (record { inside = is.inside; goes = e }))
    by None e = size_alike app (function app func) (operation app func index) e (is_long places func index) (own.long index)

-- no item has more words than its length
pub words_fit : (b : Build) → IsVerified b.app → AgreeWithSizes b.app b.places → (lengths : List (List ℕ)) → AreLengths b.app lengths → (func index : ℕ)
    → item_words b func index ≤ length_of lengths func index
words_fit b verified agree lengths are func index =
    ⊎_elim
    (λ (inside : index < length (function b.app func).items).
    ⊎_elim
    (λ (declared : func < length b.app.funcs).
    let here : item_words b func index ≡ length (expansion b.app b.places func index) =
    ap {B = ℕ} (λ v. cond v (length (expansion b.app b.places func index)) 0) (lt-ltb index (length (function b.app func).items) inside) in
    let same = length_of_item b.app verified b.places agree lengths are func index (record { declared = declared; inside = inside }) in
    omega (arith, here, same))
    (λ (past : length b.app.funcs ≤ func).
    let none : length (function b.app func).items ≡ 0 = ap (λ (f : Func). length f.items) (get_or_past b.app.funcs func no_function past) in
    absurd (omega (arith, none, inside)))
    (cases_lt func (length b.app.funcs)))
    (λ (behind : length (function b.app func).items ≤ index).
    let here : item_words b func index ≡ 0 =
    ap {B = ℕ} (λ v. cond v (length (expansion b.app b.places func index)) 0) (le-ltb index (length (function b.app func).items) behind) in
    omega (arith, here))
    (cases_lt index (length (function b.app func).items))
