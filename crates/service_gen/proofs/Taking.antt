-- The code of GetResource has its effect.
use Rattle.std.proofs.Common.{◌≡◌, ℕ, ◌+◌, ◌%◌, ◌<◌, List, ◌∷◌, ◌++◌, get_or, refl, ap, subst, arith, inl, ⊎_elim}
use Rattle.std.specs.Prelude.{max, not, set}
use Rattle.std.proofs.lemmas.Bool.{cases_lt, lt-ltb, le-ltb}
use Rattle.sloth_base.specs.Machine.{Core}
use Rattle.sloth_base.specs.Status.{E_OK}
use Rattle.sloth_base.specs.MemoryMap.{memory_base, controller_base}
use Rattle.sloth_region.specs.Layout.{saved_level}
use Rattle.rv32_instr.specs.declared.InstrKind.{InstrKind}
use Rattle.rv32_instr.specs.Ram.{with_word}
use Rattle.masked_code.specs.Place.{offset_state}
use Rattle.masked_code.specs.Masked.{FromOpening}
use Rattle.masked_code.specs.Kernel.{masking}
use Rattle.masked_code.proofs.Owes.{◌▸◌, writes, stores, accesses, Owes}
use Rattle.masked_code.proofs.Spread.{based, spread_from}
use Rattle.masked_code.proofs.Routines.{masked}
use Rattle.block_parts.specs.Back.{BackEffect, a0}
use Rattle.block_parts.proofs.Returning.{goes_back_to}
use Rattle.block_parts.proofs.Landing.{lands}
use Rattle.block_parts.proofs.Serving.{opens}
use Rattle.block_parts.specs.Services.{taking_code}
use Rattle.service_gen.specs.TaskPieces.{ok_back_code}
use Rattle.service_gen.specs.GetResource.{MayTakeResource, GetResourceEffect, IsGetResourceCode}

-- the code behind the masking instruction
abbrev pub body : ℕ → ℕ → List InstrKind
body resource ceiling = taking_code resource ceiling ++ ok_back_code

module _ (offset resource ceiling : ℕ) (small : ceiling < 256) (c : Core) (h : MayTakeResource offset resource (masking ∷ body resource ceiling) c) where
  abbrev x2 : ℕ
  x2 = get_or c.registers 2 0

  abbrev ram : List ℕ
  ram = with_word c.ram (saved_level resource) c.plevel

  -- the level in plevel is to run
  rest_owe : (o v : ℕ) → v ≡ max c.ilevel ceiling → Owes offset (offset + 4 + 32) o ok_back_code 0 (GetResourceEffect resource ceiling) (offset_state offset (based c))
      (record (masked (based c)) { registers = 0 ∷ ceiling ∷ x2 ∷ controller_base ∷ memory_base ∷ set (spread_from 27 5 c.registers) 5 c.plevel; plevel = v; ram = ram })
  rest_owe o v e =
      writes E_OK refl
      ▸ goes_back_to offset (masking ∷ body resource ceiling) c h.goes_back (GetResourceEffect resource ceiling) ceiling v (max c.ilevel ceiling) E_OK
      c.pending c.pending ram e
      (λ last is went. record {
        touches = refl;
        status = is;
        back =
            subst
            (λ l. BackEffect a0 (record (based c) { ilevel = max c.ilevel ceiling; ram = with_word c.ram (saved_level resource) l }) (offset_state offset (based c)) last)
            h.goes_back.same_level went;
      })

  body_owes : Owes offset (offset + 4 + 32) (offset + 4) (body resource ceiling) 0 (GetResourceEffect resource ceiling) (offset_state offset (based c)) (masked (based c))
  body_owes =
      let few = h.is_resource in
      let level = h.level in
      let same = h.goes_back.same_level in
      let low = h.goes_back.can_run.behind in
      let fits = h.goes_back.can_run.inside in
      writes ceiling (omega arith)
      ▸ accesses c.plevel refl refl
      ▸ stores (saved_level resource) (record { is = omega arith; aligned = omega arith; inside = omega arith }) (inl (omega arith))
      ▸ record {
        passed = 1;
        lands = lands (offset + 4 + 4 + 4 + 4) 8 1 (omega arith) (omega arith) refl;
        when_taken = λ t. ⊎_elim
            (λ less. let f = ap not (lt-ltb ceiling c.plevel less) in absurd (cc))
            (λ most. rest_owe (offset + 4 + 4 + 4 + 4 + 4 + 4) (ceiling % 256) (omega arith))
            (cases_lt ceiling c.plevel);
        when_not = λ n. ⊎_elim
            (λ less.
            accesses (ceiling % 256) refl refl
            ▸ rest_owe (offset + 4 + 4 + 4 + 4 + 4 + 4) (c.plevel % 256) (omega arith))
            (λ most. absurd (n (ap not (le-ltb ceiling c.plevel most))))
            (cases_lt ceiling c.plevel);
      }

  runs_it : FromOpening 8 (offset_state offset c) (GetResourceEffect resource ceiling)
  runs_it = opens offset 8 (body resource ceiling) c (GetResourceEffect resource ceiling) h.goes_back.can_run h.goes_back.bases (omega arith) body_owes

-- for each resource and ceiling
pub taken : (resource ceiling : ℕ) → ceiling < 256 → IsGetResourceCode resource ceiling (masking ∷ body resource ceiling)
taken resource ceiling small = record { size = refl; masks = (body resource ceiling, refl); runs = λ offset core h. runs_it offset resource ceiling small core h }
