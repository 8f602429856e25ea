-- What the instructions of items need of the addresses.
use Rattle.std.proofs.Common.{◌≡◌, ◌≤◌, ◌<◌, ◌+◌, ◌%◌, ◌∙◌, ℕ, zero, suc, List, [], ◌∷◌, length, get_or, ap, subst, arith}
use Rattle.std.specs.Prelude.{All, map}
use Rattle.std.proofs.lemmas.List.{get_or-map, length-map}
use Rattle.std.proofs.lemmas.List.Elements.{All-map}
use Rattle.sloth_base.specs.ConfigRange.{InRange}
use Rattle.sloth_base.specs.Named.{function, no_function, operation, no_item}
use Rattle.sloth_base.specs.ServiceCodes.{code_of, object_kind}
use Rattle.sloth_base.proofs.Services.{object_number_few}
use Rattle.sloth_base.specs.declared.app.App.{App}
use Rattle.sloth_base.specs.declared.app.Call.{Call}
use Rattle.sloth_base.specs.declared.app.Func.{Func}
use Rattle.sloth_base.specs.declared.app.Op.{Op}
use Rattle.sloth_base.specs.declared.app.Op.TheVariants as op
use Rattle.sloth_base.specs.declared.config.Config.{Config}
use Rattle.sloth_base.specs.declared.limits.Places.{Places}
use Rattle.sloth_base.specs.declared.service.Service.{Service}
use Rattle.sloth_base.specs.declared.service.Service.TheVariants as service
use Rattle.sloth_base.specs.Blocks.{block_count, block_number}
use Rattle.sloth_base.specs.MemoryMap.{vectors_base, memory_end}
use Rattle.sloth_base.specs.Limits.{resource_limit}
use Rattle.code_rules.specs.AppRange.{AppInRange, AreOperands, IsOp}
use Rattle.code_rules.proofs.Objects.{object_number}
use Rattle.rv32_expand.specs.Expansion.{item_address, block_address, is_long}
use Rattle.rv32_expand.specs.InPlace.{IsAppItem}
use Rattle.rv32_expand.specs.Sizes.{AreItemSizes, AgreeWithSizes, HasWordAddresses, IsWordAddress, items_before}
use Rattle.rv32_expand.proofs.Counts.{size_few, size_is}
use Rattle.rv32_expand.proofs.InRangeOf.{frame_of}
use Rattle.mem_map.specs.Starts.{starts, end_of}
use Rattle.mem_map.specs.Starts.{code_byte_count}
use Rattle.mem_map.specs.Plan.{symbol_bytes}
use Rattle.mem_map.proofs.Starts.{stands, next, starts_aligned, length_starts, end_above}

-- ---- objects of services

object_few : (config : Config) (s : Service) (object mask : ℕ) → InRange config → AreOperands config s object mask → object ≤ resource_limit
object_few config s object mask range h = object_number_few (object_kind s) object (object_number config range (object_kind s) object h.0)

code_few : (s : Service) → code_of s ≤ 15
code_few service.ActivateTask = omega arith
code_few s = omega arith

-- ---- the number of an item

first_is : (from : ℕ) (funcs : List Func) (func : ℕ) → func < length funcs
    → get_or (starts from (map (λ (f : Func). length f.items) funcs)) func 0 ≡ from + items_before funcs func
first_is from [] func h = absurd (omega (arith, h))
first_is from (body ∷ funcs) zero h = omega arith
first_is from (body ∷ funcs) (suc func) h =
    let r = first_is (from + length body.items) funcs func (omega (arith, h)) in
    omega (arith, r)

number_inside : (funcs : List Func) (func index : ℕ) → func < length funcs → index < length (get_or funcs func no_function).items
    → items_before funcs func + index < items_before funcs (length funcs)
number_inside [] func index h l = absurd (omega (arith, h))
number_inside (body ∷ funcs) zero index h l = omega (arith, l)
number_inside (body ∷ funcs) (suc func) index h l =
    let r = number_inside funcs func index (omega (arith, h)) l in
    omega (arith, r)

-- ---- addresses of items

-- where the items, the symbols and the services begin
pub record ArePlaced (app : App) (sizes services : List ℕ) (places : Places) (services_from items_from symbols_from : ℕ) : Type 0 where
  pub first : places.first ≡ starts 0 (map (λ (f : Func). length f.items) app.funcs)
  pub items : places.items ≡ starts items_from (map code_byte_count sizes)
  pub symbols : places.symbols ≡ starts symbols_from (map symbol_bytes app.symbols)
  pub blocks : places.blocks ≡ starts services_from (map code_byte_count services)
  pub full : length services ≡ block_count
  pub above : vectors_base ≤ services_from
  pub services_to : end_of services_from (map code_byte_count services) ≤ items_from
  pub items_to : end_of items_from (map code_byte_count sizes) ≤ symbols_from
  pub near : symbols_from ≤ 0x8010_0370
  pub symbols_to : end_of symbols_from (map symbol_bytes app.symbols) < memory_end
  pub services_aligned : services_from % 4 ≡ 0
  pub items_aligned : items_from % 4 ≡ 0
  pub symbols_aligned : symbols_from % 4 ≡ 0
  pub items_some : All (λ (y : ℕ). 1 ≤ y) (map code_byte_count sizes)

-- all code has whole words
pub code_bytes_aligned : (sizes : List ℕ) → All (λ len. len % 4 ≡ 0) (map code_byte_count sizes)
code_bytes_aligned sizes = All-map (λ len. len % 4 ≡ 0) code_byte_count sizes (λ k d l. omega arith)

-- and so have symbols
pub symbol_bytes_aligned : (app : App) → All (λ len. len % 4 ≡ 0) (map symbol_bytes app.symbols)
symbol_bytes_aligned app = All-map (λ len. len % 4 ≡ 0) symbol_bytes app.symbols (λ k d l. omega arith)

module _ (config : Config) (app : App) (sizes services : List ℕ) (places : Places) (services_from items_from symbols_from : ℕ)
    (range : AppInRange config app) (are : AreItemSizes app sizes) (p : ArePlaced app sizes services places services_from items_from symbols_from) where
  abbrev number : ℕ → ℕ → ℕ
  number func index = items_before app.funcs func + index

  number_few : (func index : ℕ) → IsAppItem app func index → number func index < length sizes
  number_few func index item =
      let n = are.count in
      let h = number_inside app.funcs func index item.declared item.inside in
      omega (arith, n, h)

  address_is : (func index : ℕ) → IsAppItem app func index
      → item_address places func index ≡ get_or (starts items_from (map code_byte_count sizes)) (number func index) 0
  address_is func index item =
      let f = ap (λ (l : List ℕ). get_or l func 0) p.first ∙ first_is 0 app.funcs func item.declared in
      let e : get_or places.first func 0 + index ≡ number func index = omega (arith, f) in
      ap (λ (l : List ℕ). get_or l (get_or places.first func 0 + index) 0) p.items ∙ ap (λ (k : ℕ). get_or (starts items_from (map code_byte_count sizes)) k 0) e

  -- items stand as far apart as their lengths say
  pub agree : AgreeWithSizes app places
  agree = record {
    sizes = sizes;
    are_sizes = are;
    adjacent = λ func index item after.
        let k : ℕ = number func index in
        let a = address_is func index item in
        let b = address_is func (index + 1) after in
        let e : number func (index + 1) ≡ suc k = omega arith in
        let b' = b ∙ ap (λ (i : ℕ). get_or (starts items_from (map code_byte_count sizes)) i 0) e in
        let l = number_few func (index + 1) after in
        let m = length-map sizes code_byte_count in
        let n = next items_from (map code_byte_count sizes) k (omega (arith, l, m)) in
        let g = get_or-map code_byte_count sizes k 0 0 (omega (arith, l)) in
        omega (arith, a, b', n, g);
  }

  record IsInside (func index : ℕ) : Type 0 where
    above : items_from ≤ item_address places func index
    below : item_address places func index + 1 ≤ end_of items_from (map code_byte_count sizes)
    aligned : item_address places func index % 4 ≡ 0

  item_inside : (func index : ℕ) → IsAppItem app func index → IsInside func index
  item_inside func index item =
      let k : ℕ = number func index in
      let a = address_is func index item in
      let l = number_few func index item in
      let m = length-map sizes code_byte_count in
      let s = stands items_from (map code_byte_count sizes) k (omega (arith, l, m)) in
      let n = length_starts items_from (map code_byte_count sizes) in
      let f = starts_aligned items_from (map code_byte_count sizes) p.items_aligned (code_bytes_aligned sizes) k 0 (omega (arith, l, m, n)) in
      let one = p.items_some k 0 (omega (arith, l, m)) in
      let low = s.above in
      let high = s.below in
      record { above = omega (arith, a, low); below = omega (arith, a, high, one); aligned = omega (arith, a, f) }

  block_inside : (func index : ℕ) (call : Call) → IsAppItem app func index → operation app func index ≡ op.Serve call
      → IsWordAddress (block_address places call.service call.object) × (services_from ≤ block_address places call.service call.object)
      × (block_address places call.service call.object ≤ end_of services_from (map code_byte_count services))
  block_inside func index call item e =
      let f : Func = function app func in
      let P : Op → Type 0 = λ o. IsOp config app f o in
      let o = subst P e ((range.bodies func no_function item.declared).items index no_item item.inside) in
      let few = object_few config call.service call.object call.mask range.configuration o in
      let code = code_few call.service in
      let k : ℕ = block_number call.service call.object in
      let w = p.full in
      let m = length-map services code_byte_count in
      let l : k < length (map code_byte_count services) = omega (arith, few, code, w, m) in
      let s = stands services_from (map code_byte_count services) k l in
      let n = length_starts services_from (map code_byte_count services) in
      let at = ap (λ (l : List ℕ). get_or l k 0) p.blocks in
      let four = starts_aligned services_from (map code_byte_count services) p.services_aligned (code_bytes_aligned services) k 0 (omega (arith, l, n)) in
      let low = s.above in
      let high = s.below in
      let a = p.above in
      let b = p.services_to in
      let c = p.items_to in
      let d = p.near in
      let i = end_above items_from (map code_byte_count sizes) in (
        (omega (arith, at, low, a), omega (arith, at, high, b, c, d, i), omega (arith, at, four)),
        omega (arith, at, low),
        omega (arith, at, high),
      )

  -- each thing that an instruction names has an address that fits into it
  pub covers : HasWordAddresses app places
  covers = record {
    low = vectors_base;
    items = λ func index item.
        let h = item_inside func index item in
        let low = h.above in
        let high = h.below in
        let a = p.above in
        let b = p.services_to in
        let c = p.items_to in
        let d = p.near in
        let s = end_above services_from (map code_byte_count services) in
        (omega (arith, low, a, b, s), omega (arith, high, c, d), h.aligned);
    symbols = λ symbol l.
        let n = length-map app.symbols symbol_bytes in
        let s = stands symbols_from (map symbol_bytes app.symbols) symbol (omega (arith, l, n)) in
        let m = length_starts symbols_from (map symbol_bytes app.symbols) in
        let four = starts_aligned symbols_from (map symbol_bytes app.symbols) p.symbols_aligned (symbol_bytes_aligned app) symbol 0 (omega (arith, l, n, m)) in
        let at = ap (λ (l : List ℕ). get_or l symbol 0) p.symbols in
        let low = s.above in
        let high = s.below in
        let a = p.above in
        let b = p.services_to in
        let c = p.items_to in
        let d = p.symbols_to in
        let i = end_above items_from (map code_byte_count sizes) in
        let j = end_above services_from (map code_byte_count services) in
        (omega (arith, at, low, a, b, c, i, j), omega (arith, at, high, d), omega (arith, at, four));
    blocks = λ func index call item e. (block_inside func index call item e).0;
    items_near = λ func index item.
        let h = item_inside func index item in
        let long = size_is app places func (item_address places func index) (is_long places func index) (operation app func index) in
        let few = (size_few app (frame_of app (config, range)) (is_long places func index) (operation app func index)).few in
        let low = h.above in
        let high = h.below in
        let a = p.above in
        let b = p.services_to in
        let c = p.items_to in
        let d = p.near in
        let s = end_above services_from (map code_byte_count services) in
        (omega (arith, low, a, b, s), omega (arith, high, c, d, long, few));
    blocks_near = λ func index call item e.
        let h = block_inside func index call item e in
        let low = h.1 in
        let high = h.2 in
        let a = p.above in
        let b = p.services_to in
        let c = p.items_to in
        let d = p.near in
        let i = end_above items_from (map code_byte_count sizes) in
        (omega (arith, low, a), omega (arith, high, b, c, d, i));
  }
