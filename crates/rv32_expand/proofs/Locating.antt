-- Where a length stands among those of all items.
use Rattle.std.proofs.Common.{◌≡◌, ℕ, suc, ◌+◌, ◌-◌, ◌<◌, ◌≤◌, ⊎_elim, List, [], ◌∷◌, length, get_or, arith}
use Rattle.std.proofs.lemmas.Bool.{cases_lt}
use Rattle.sloth_base.specs.declared.app.Func.{Func}
use Rattle.rv32_expand.specs.Sizes.{items_before}

-- where the length with a number stands
pub record IsAt (bodies : List Func) (k : ℕ) (d : Func) : Type 0 where
  pub func : ℕ
  pub index : ℕ
  pub declared : func < length bodies
  pub inside : index < length (get_or bodies func d).items
  pub is : k ≡ items_before bodies func + index

pub locate : (bodies : List Func) (k : ℕ) (d : Func) → k < items_before bodies (length bodies) → IsAt bodies k d
locate [] k d h = absurd (omega (arith, h))
locate (body ∷ bodies) k d h =
    ⊎_elim
    (λ (l : k < length body.items). record { func = 0; index = k; declared = omega arith; inside = l; is = omega arith })
    (λ (l : length body.items ≤ k). let r = locate bodies (k - length body.items) d (omega (arith, h)) in
    let e = r.is in let n = r.declared in
    record { func = suc r.func; index = r.index; declared = omega arith; inside = r.inside; is = omega (arith, e) })
    (cases_lt k (length body.items))
