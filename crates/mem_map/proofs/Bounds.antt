-- How long the code, the data and the stacks are at most.
use Rattle.std.proofs.Common.{◌≡◌, ◌≢◌, ◌≤◌, ◌+◌, ◌*◌, ◌∙◌, ℕ, zero, suc, Bool, true, false, List, [], ◌∷◌, Option, Some, None, length, get_or, refl, ap, subst, arith}
use Rattle.std.specs.Prelude.{◌==◌, nat_lt, nat_le, All, map, sum_by}
use Rattle.std.proofs.lemmas.Bool.{eq-eqb, lt-ltb, le-leb}
use Rattle.std.proofs.lemmas.Grind.{get_or_default_zero}
use Rattle.std.proofs.lemmas.List.Sums.{sum_by-cons}
use Rattle.sloth_base.specs.Named.{function, no_function, item_of}
use Rattle.sloth_base.specs.declared.app.App.{App}
use Rattle.sloth_base.specs.declared.app.Func.{Func}
use Rattle.sloth_base.specs.declared.app.Symbol.{Symbol}
use Rattle.sloth_base.specs.declared.config.Config.{Config}
use Rattle.sloth_base.specs.declared.service.ObjectKind.{ObjectKind}
use Rattle.sloth_base.specs.declared.service.ObjectKind.TheVariants as object
use Rattle.sloth_base.specs.declared.service.Service.{Service}
use Rattle.sloth_base.specs.Blocks.{block_count, block_service, block_object}
use Rattle.sloth_base.specs.ServiceCodes.{object_kind, IsObjectNumber}
use Rattle.sloth_base.specs.Limits.{task_limit, alarm_limit, resource_limit}
use Rattle.code_rules.specs.AppRange.{AppInRange}
use Rattle.rv32_expand.specs.InPlace.{IsAppItem}
use Rattle.rv32_expand.specs.Sizes.{AreItemSizes, items_before}
use Rattle.rv32_expand.proofs.Counts.{size_few}
use Rattle.rv32_expand.proofs.InRangeOf.{frame_of}
use Rattle.rv32_expand.proofs.Locating.{locate}
use Rattle.mem_map.specs.Starts.{end_of}
use Rattle.mem_map.specs.Wanted.{IsServicePlace}
use Rattle.mem_map.specs.Plan.{symbol_bytes}
use Rattle.mem_map.specs.Starts.{code_byte_count}

-- ---- sizes of items

-- an item has an instruction, and at most 36
abbrev pub IsSize : ℕ → Type 0
IsSize size = (1 ≤ size) × (size ≤ 36)

-- the length of each item is so
pub sizes_few : (config : Config) (app : App) (sizes : List ℕ) → AppInRange config app → AreItemSizes app sizes → All IsSize sizes
sizes_few config app sizes range are = λ k d l.
    let n = are.count in
    let at = locate app.funcs k no_function (omega (arith, n, l)) in
    let item : IsAppItem app at.func at.index = record { declared = at.declared; inside = at.inside } in
    let zero_is = get_or_default_zero sizes k d l in
    let place = ap (λ (i : ℕ). get_or sizes i 0) at.is in
    let each = are.each at.func at.index item in
    let few = size_few app (frame_of app (config, range)) (are.long at.func at.index) (item_of (function app at.func) at.index).op in
    let some = few.some in
    let most = few.few in
    (omega (arith, zero_is, place, each, some), omega (arith, zero_is, place, each, most))

-- all items are those of all functions
pub before_all : (funcs : List Func) → items_before funcs (length funcs) ≡ sum_by (λ (f : Func). length f.items) funcs
before_all [] = refl
before_all (body ∷ funcs) =
    let s = sum_by-cons (λ (f : Func). length f.items) body funcs in
    let r = before_all funcs in
    omega (arith, s, r)

-- ---- ends

-- at most so many bytes for each piece of code, where each has so many instructions at most
pub pieces_end : (most : ℕ) (IsSmall : ℕ → Type 0) → ((size : ℕ) → IsSmall size → size ≤ most) → (from : ℕ) (sizes : List ℕ) → All IsSmall sizes
    → end_of from (map code_byte_count sizes) ≤ from + length sizes * (4 * most)
pieces_end most IsSmall below from [] few = omega arith
pieces_end most IsSmall below from (size ∷ sizes) few =
    let h = below size (few 0 0 (omega arith)) in
    let r = pieces_end most IsSmall below (from + 4 * size) sizes (λ k d l. few (suc k) d (omega (arith, l))) in
    omega (arith, h, r)

-- at most three bytes more than each symbol has
pub symbols_end : (from : ℕ) (symbols : List Symbol) → end_of from (map symbol_bytes symbols) ≤ from + sum_by (λ (y : Symbol). length y.bytes) symbols + 3 * length symbols
symbols_end from [] = omega arith
symbols_end from (symbol ∷ symbols) =
    let s = sum_by-cons (λ (y : Symbol). length y.bytes) symbol symbols in
    let r = symbols_end (from + symbol_bytes symbol) symbols in
    omega (arith, s, r)

-- ---- services

one_if : Bool → ℕ
one_if true = 1
one_if false = 0

-- the number is that of an object of the kind
abbrev is_object : ObjectKind → ℕ → Bool
is_object object.Nothing o = o == 0
is_object object.Task o = nat_lt o task_limit
is_object object.Resource o = nat_le o resource_limit
is_object object.Alarm o = nat_lt o alarm_limit

-- the service may have the object
abbrev may_have : Option Service → ℕ → Bool
may_have None o = false
may_have (Some s) o = is_object (object_kind s) o

-- how many of so many places from k on are those of a service with an object that it may have
allowed : ℕ → ℕ → ℕ
allowed k zero = 0
allowed k (suc n) = one_if (may_have (block_service k) (block_object k)) + allowed (k + 1) n

all_allowed : allowed 0 block_count ≡ 349
unfolding allowed one_if
all_allowed = refl

has_object : (kind : ObjectKind) (o : ℕ) → IsObjectNumber kind o → is_object kind o ≡ true
has_object object.Nothing o h = eq-eqb o 0 h
has_object object.Task o h = lt-ltb o task_limit h
has_object object.Resource o h = le-leb o resource_limit h
has_object object.Alarm o h = lt-ltb o alarm_limit h

is_one : (k : ℕ) → IsServicePlace k → one_if (may_have (block_service k) (block_object k)) ≡ 1
unfolding one_if
is_one k place = ap (λ s. one_if (may_have s (block_object k))) place.is ∙ ap one_if (has_object (object_kind place.service) (block_object k) place.object)

wanted_end : (from k : ℕ) (sizes : List ℕ) → All (λ size. size ≤ 256) sizes → ((j : ℕ) → get_or sizes j 0 ≢ 0 → IsServicePlace (k + j))
    → end_of from (map code_byte_count sizes) ≤ from + 1024 * allowed k (length sizes)
unfolding allowed
wanted_end from k [] few places = omega arith
wanted_end from k (zero ∷ sizes) few places =
    let r = wanted_end (from + 0) (k + 1) sizes (λ j d l. few (suc j) d (omega (arith, l)))
    (λ j e. let s : k + suc j ≡ k + 1 + j = omega arith in subst IsServicePlace s (places (suc j) e)) in
    omega (arith, r)
wanted_end from k (suc size ∷ sizes) few places =
    let z : k + 0 ≡ k = omega arith in
    let most = few 0 0 (omega arith) in
    let o = is_one k (subst IsServicePlace z (places 0 (λ x. absurd (omega (arith, x))))) in
    let r = wanted_end (from + 4 * suc size) (k + 1) sizes (λ j d l. few (suc j) d (omega (arith, l)))
    (λ j e. let s : k + suc j ≡ k + 1 + j = omega arith in subst IsServicePlace s (places (suc j) e)) in
    omega (arith, o, r, most)

-- 349 services with their objects, each of at most 256 instructions
pub services_end : (from : ℕ) (sizes : List ℕ) → length sizes ≡ block_count → All (λ size. size ≤ 256) sizes → ((j : ℕ) → get_or sizes j 0 ≢ 0 → IsServicePlace j)
    → end_of from (map code_byte_count sizes) ≤ from + 357376
services_end from sizes n few places =
    let r = wanted_end from 0 sizes few (λ j e. let s : j ≡ 0 + j = omega arith in subst IsServicePlace s (places j e)) in
    let a = ap (allowed 0) n ∙ all_allowed in
    omega (arith, r, a)
