-- What is wanted has a caller, so it is a service with an object that it may have.
use Rattle.std.proofs.Common.{◌≡◌, ◌∙◌, ◌<◌, ℕ, Bool, true, false, List, length, get_or, ap, subst, arith}
use Rattle.std.proofs.lemmas.List.FromFn.{length-map-range_with_len, get_or-map-range_with_len, fill_by_all}
use Rattle.sloth_base.specs.Named.{function, no_function, no_item, operation}
use Rattle.sloth_base.specs.ServiceCodes.{code_of, service_of, object_kind, IsObjectNumber}
use Rattle.sloth_base.specs.declared.app.App.{App}
use Rattle.sloth_base.specs.declared.app.Call.{Call}
use Rattle.sloth_base.specs.declared.app.Op.TheVariants as op
use Rattle.sloth_base.specs.declared.config.Config.{Config}
use Rattle.sloth_base.specs.Blocks.{block_count, block_code, block_object}
use Rattle.sloth_base.proofs.Services.{of_code, object_number_few}
use Rattle.code_rules.specs.AppRange.{AreOperands, IsOp}
use Rattle.code_rules.specs.WellFormed.{WellFormed}
use Rattle.code_rules.proofs.Objects.{object_number}
use Rattle.rv32_expand.specs.InPlace.{IsAppItem}
use Rattle.mem_map.specs.Wanted.{IsServicePlace, is_wanted, wanted_blocks}
use Rattle.mem_map.proofs.Callers.{caller}

-- there is one entry for each place
pub all_places : (app : App) → length (wanted_blocks app) ≡ block_count
unfolding wanted_blocks
all_places app = length-map-range_with_len (λ number. is_wanted number app) 0 block_count

-- and it tells what is wanted
pub at_place : (app : App) (number : ℕ) → number < block_count → get_or (wanted_blocks app) number false ≡ is_wanted number app
unfolding wanted_blocks
at_place app number below = get_or-map-range_with_len (λ n. is_wanted n app) 0 block_count number number false below (omega arith)

-- a list with these entries is that one
pub places_are : (app : App) (xs : List Bool) → length xs ≡ block_count → ((number : ℕ) → number < block_count → get_or xs number false ≡ is_wanted number app)
    → xs ≡ wanted_blocks app
unfolding wanted_blocks
places_are app xs long are = fill_by_all (λ number. is_wanted number app) xs block_count false long are

-- an item calls a service with an object that it may have
has_object : (config : Config) (app : App) → WellFormed config app → (func item : ℕ) (call : Call) → IsAppItem app func item → operation app func item ≡ op.Serve call
    → IsObjectNumber (object_kind call.service) call.object
has_object config app well func item call is e =
    let own = (well.in_range.bodies func no_function is.declared).items item no_item is.inside in
    let operands : AreOperands config call.service call.object call.mask = subst (IsOp config app (function app func)) e own in
    object_number config well.in_range.configuration (object_kind call.service) call.object operands.0

-- so does the place that is wanted
pub wanted_services : (config : Config) (app : App) → WellFormed config app → (number : ℕ) → is_wanted number app ≡ true → IsServicePlace number
wanted_services config app well number is =
    let c = caller number app is in
    let has = has_object config app well c.func c.item c.call c.is_item c.is in
    let small = object_number_few (object_kind c.call.service) c.call.object has in
    let n = c.numbered in
    let code : block_code number ≡ code_of c.call.service = omega (arith, small, n) in
    let object : c.call.object ≡ block_object number = omega (arith, small, n) in
    record { service = c.call.service; is = ap service_of code ∙ of_code c.call.service; object = subst (IsObjectNumber (object_kind c.call.service)) object has }
