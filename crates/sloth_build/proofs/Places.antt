-- A service by its place in the table of blocks.
use Rattle.std.proofs.Common.{◌≡◌, ◌∙◌, ℕ, zero, suc, ◌+◌, ◌∷◌, List, [], Result, Ok, Err, Some, IfOk, refl, sym, ap, subst, arith}
use Rattle.std.specs.Prelude.{slice_get, slice_index}
use Rattle.sloth_base.specs.ServiceCodes.{code_of, services, service_of}
use Rattle.sloth_base.specs.Blocks.{block_number, block_code, block_object}
use Rattle.sloth_base.specs.declared.config.Config.{Config}
use Rattle.sloth_base.specs.declared.list.NoMemory.{NoMemory}
use Rattle.sloth_base.specs.declared.limits.Levels.{Levels}
use Rattle.sloth_base.specs.declared.service.Service.{Service}
use Rattle.code_lengths.specs.CodeLengths.{option_length}
use Rattle.sloth_region.specs.declared.region.Map.{Map}
use Rattle.rv32_instr.specs.declared.block.Block.{Block}
use Rattle.service_gen.specs.TaskBlock.{further_marks}
use Rattle.block_parts.specs.Marks.{opening}
use Rattle.block_parts.specs.ServiceBlock.{IsServiceBlock}
use Rattle.service_gen.specs.Calls.{IsCalledWith, IsAnyServiceBlock}
use Rattle.sloth_build.specs.Services.{IsService}

pub some_same : (a b : Service) → Some a ≡ Some b → a ≡ b
some_same a b e = cc

-- the services of a list have the numbers from `first` on
abbrev AreNumbered : ℕ → List Service → Type 0
AreNumbered first [] = Unit {0}
AreNumbered first (s ∷ rest) = (code_of s ≡ first) × AreNumbered (suc first) rest

numbered_at : (first k : ℕ) (xs : List Service) (s : Service) → AreNumbered first xs → slice_get xs k ≡ Some s → code_of s ≡ first + k
numbered_at first k [] s h e = absurd cc
numbered_at first zero (x ∷ xs) s h e = let n = h.0 in let same = ap code_of (some_same x s e) in omega (arith, n, same)
numbered_at first (suc k) (x ∷ xs) s h e = let n = numbered_at (suc first) k xs s h.1 e in omega (arith, n)

are_numbered : AreNumbered 0 services
are_numbered = (refl, (refl, (refl, (refl, (refl, (refl, (refl, (refl, (refl, (refl, (refl, (refl, (refl, (refl, (refl, (refl, tt))))))))))))))))

-- a service has the number that finds it
pub code_found : (n : ℕ) (s : Service) → service_of n ≡ Some s → code_of s ≡ n
code_found n s e = let l = numbered_at 0 n services s are_numbered e in omega (arith, l)

-- the place of a service and object that a place names is that place
number_back : (number : ℕ) (s : Service) → service_of (block_code number) ≡ Some s → block_number s (block_object number) ≡ number
number_back number s e = let c = code_found (block_code number) s e in omega (arith, c)

-- what the generator promises of a service is what is asked of the block at its place
pub served_at : (config : Config) (levels : Levels) (map : Map) (number object : ℕ) (s : Service) (r : Result Block NoMemory) → service_of (block_code number) ≡ Some s
    → object ≡ block_object number → IsCalledWith config s (block_object number)
    → IfOk r (IsServiceBlock s object map.places.blocks (further_marks s))
    → IfOk r (λ block. IsAnyServiceBlock config s object levels block.code)
    → IfOk r (IsService config levels map number)
served_at config levels map number object s (Ok block) e same has is_block serves = record {
  service = s;
  is = e;
  at = is_block.at ∙ ap (slice_index map.places.blocks) (ap (block_number s) same ∙ number_back number s e);
  marks = is_block.marks ∙ ap (λ code. opening block.at code ∷ further_marks s block.at) (code_found (block_code number) s e);
  long = is_block.long ∙ ap option_length (sym e);
  called_with = has;
  serves = subst (λ (o : ℕ). IsAnyServiceBlock config s o levels block.code) same serves;
}
served_at config levels map number object s (Err failed) e same has is_block serves = tt
