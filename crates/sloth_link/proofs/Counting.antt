-- The items of all functions in one list: where those of a function begin.
use Rattle.std.proofs.Common.{◌≡◌, ◌≤◌, ◌<◌, ◌+◌, ◌-◌, ℕ, zero, suc, List, [], ◌∷◌, ◌++◌, length, get_or, refl, sym, ap, ◌∙◌, subst, ⊎_elim, arith}
use Rattle.std.specs.Prelude as prelude
use Rattle.std.proofs.lemmas.Bool.{cases_lt}
use Rattle.std.proofs.lemmas.List.{length-append, get_or_append_left, get_or-append-add}
use Rattle.std.proofs.lemmas.List.FromFn.{length-map-range_with_len, get_or-map-range_with_len, map-range_with_len_more}
use Rattle.sloth_base.specs.Named.{function, no_function}
use Rattle.sloth_base.specs.declared.app.App.{App}
use Rattle.sloth_base.specs.declared.app.Func.{Func}
use Rattle.sloth_base.specs.declared.limits.Places.{Places}
use Rattle.sloth_base.specs.Limits.{item_limit}
use Rattle.rv32_instr.specs.declared.block.Block.{Block}
use Rattle.rv32_expand.specs.Sizes.{IsVerified, items_before}
use Rattle.rv32_expand.proofs.InRangeOf.{small}
use Rattle.mem_map.specs.Starts.{starts}
use Rattle.sloth_link.specs.Items.{item_block, first_items, items_of, item_blocks}
use Rattle.sloth_link.proofs.Growing.{flat_more}

-- how many items a function has
abbrev pub count_of : Func → ℕ
count_of f = length f.items

-- a function's items begin behind those of all functions before it
pub starts_at : (from : ℕ) (funcs : List Func) (k : ℕ) → k < length funcs → get_or (starts from (prelude.map count_of funcs)) k 0 ≡ from + items_before funcs k
starts_at from [] k l = absurd (omega (arith, l))
starts_at from (f ∷ funcs) zero l = omega arith
starts_at from (f ∷ funcs) (suc k) l = let h = starts_at (from + count_of f) funcs k (omega (arith, l)) in omega (arith, h)

-- one function more
before_more : (funcs : List Func) (n : ℕ) → items_before funcs (suc n) ≡ items_before funcs n + length (get_or funcs n no_function).items
before_more [] zero = refl
before_more [] (suc n) = refl
before_more (f ∷ []) zero = omega arith
before_more (f ∷ g ∷ funcs) zero = omega arith
before_more (f ∷ funcs) (suc n) = let h = before_more funcs n in omega (arith, h)

-- the place of an item is below the number of all items
pub before_within : (funcs : List Func) (n func index : ℕ) → func < n → index < length (get_or funcs func no_function).items → items_before funcs func + index < items_before funcs n
before_within funcs zero func index l i = absurd (omega (arith, l))
before_within [] (suc n) zero index l i = absurd (omega (arith, i))
before_within [] (suc n) (suc func) index l i = absurd (omega (arith, i))
before_within (f ∷ funcs) (suc n) zero index l i = omega (arith, i)
before_within (f ∷ funcs) (suc n) (suc func) index l i = let h = before_within funcs n func index (omega (arith, l)) i in omega (arith, h)

-- the item at a place of the list
pub record Located (funcs : List Func) (n k : ℕ) : Type 0 where
  pub func : ℕ
  pub index : ℕ
  pub declared : func < n
  pub inside : index < length (get_or funcs func no_function).items
  pub is : k ≡ items_before funcs func + index

-- each place of the list has an item
pub located : (funcs : List Func) (n k : ℕ) → k < items_before funcs n → Located funcs n k
located [] zero k l = absurd (omega (arith, l))
located [] (suc n) k l = absurd (omega (arith, l))
located (f ∷ funcs) zero k l = absurd (omega (arith, l))
located (f ∷ funcs) (suc n) k l =
    ⊎_elim
    (λ (x : k < length f.items). record { func = 0; index = k; declared = omega arith; inside = x; is = omega arith })
    (λ (x : length f.items ≤ k).
    let h = located funcs n (k - length f.items) (omega (arith, l, x)) in
    let d = h.declared in
    let is = h.is in
    record { func = suc h.func; index = h.index; declared = omega (arith, d); inside = h.inside; is = omega (arith, x, is) })
    (cases_lt k (length f.items))

-- a verified body has at most 4,096 items
pub few_items : (app : App) → IsVerified app → (func : ℕ) → func < length app.funcs → length (function app func).items ≤ item_limit
few_items app verified func l = (small app (verified.0, verified.1.in_range) func no_function l).items

module _ (app : App) (places : Places) where
  -- the blocks of a function, and one item's more
  pub item_more : (func index : ℕ) (blocks more : List Block) (block : Block) → more ≡ blocks ++ block ∷ [] → blocks ≡ first_items app places func index
      → block ≡ item_block app places func index → more ≡ first_items app places func (index + 1)
  item_more func index blocks more block is before own =
      is ∙ ap (λ (bs : List Block). bs ++ block ∷ []) before ∙ ap (λ (b : Block). first_items app places func index ++ b ∷ []) own
      ∙ sym (map-range_with_len_more (item_block app places func) 0 index index (omega arith))

  -- the blocks of all functions so far, and those of one more
  pub function_more : (func : ℕ) (blocks more own : List Block) → more ≡ blocks ++ own → blocks ≡ item_blocks app places func → own ≡ items_of app places func
      → more ≡ item_blocks app places (func + 1)
  function_more func blocks more own is before same =
      is ∙ ap (λ (bs : List Block). bs ++ own) before ∙ ap (λ (bs : List Block). item_blocks app places func ++ bs) same ∙ sym (flat_more (items_of app places) func)

  -- each item has one block
  pub length_blocks : (n : ℕ) → length (item_blocks app places n) ≡ items_before app.funcs n
  length_blocks zero = none app.funcs
    where
      none : (rest : List Func) → 0 ≡ items_before rest 0
      none [] = refl
      none (g ∷ rest) = refl
  length_blocks (suc n) =
      let one : suc n ≡ n + 1 = omega arith in
      let same : length (item_blocks app places (suc n)) ≡ length (item_blocks app places (n + 1)) = ap (λ k. length (item_blocks app places k)) one in
      let more : length (item_blocks app places (n + 1)) ≡ length (item_blocks app places n ++ items_of app places n) = ap length (flat_more (items_of app places) n) in
      let sum = length-append (item_blocks app places n) (items_of app places n) in
      let own : length (items_of app places n) ≡ length (function app n).items = length-map-range_with_len (item_block app places n) 0 (length (function app n).items) in
      let before = before_more app.funcs n in
      let h = length_blocks n in
      omega (arith, same, more, sum, own, before, h)

  -- an item's block, by its place
  pub block_at : (n func index : ℕ) (d : Block) → func < n → index < length (function app func).items
      → get_or (item_blocks app places n) (items_before app.funcs func + index) d ≡ item_block app places func index
  block_at zero func index d l i = absurd (omega (arith, l))
  block_at (suc n) func index d l i =
      let one : suc n ≡ n + 1 = omega arith in
      let more : item_blocks app places (n + 1) ≡ item_blocks app places n ++ items_of app places n = flat_more (items_of app places) n in
      let long = length_blocks n in
      ap (λ k. get_or (item_blocks app places k) (items_before app.funcs func + index) d) one
      ∙ ap (λ (bs : List Block). get_or bs (items_before app.funcs func + index) d) more
      ∙ ⊎_elim
      (λ (x : func < n).
      let within = before_within app.funcs n func index x i in
      get_or_append_left (item_blocks app places n) (items_of app places n) d (items_before app.funcs func + index) (omega (arith, within, long))
      ∙ block_at n func index d x i)
      (λ (x : n ≤ func).
      let same : func ≡ n = omega (arith, l, x) in
      let P : ℕ → Type 0 = λ f. index < length (function app f).items → get_or (item_blocks app places n ++ items_of app places n) (items_before app.funcs f + index) d ≡ item_block app places f index in
      subst P (sym same)
      (λ j.
      ap (λ k. get_or (item_blocks app places n ++ items_of app places n) (k + index) d) (sym long)
      ∙ get_or-append-add (item_blocks app places n) (items_of app places n) index d
      ∙ get_or-map-range_with_len (item_block app places n) 0 (length (function app n).items) index index d j (omega arith))
      i)
      (cases_lt func n)
