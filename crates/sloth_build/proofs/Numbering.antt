-- The wanted services, number by number.
use Rattle.std.proofs.Common.{◌≡◌, ◌<◌, ◌+◌, ℕ, suc, Bool, true, false, List, [], ◌∷◌, ◌++◌, length, get_or, take, refl, sym, ap, ◌∙◌, subst, arith}
use Rattle.std.specs.Prelude.{cond}
use Rattle.std.specs.List.{AllZip}
use Rattle.std.proofs.lemmas.List.{append-nil, take_more, length-take-le}
use Rattle.rv32_instr.specs.declared.block.Block.{Block}
use Rattle.sloth_build.specs.Services.{wanted_services_from}
use Rattle.sloth_build.proofs.Each.{zip_push}

wanted_more : (n : ℕ) (wanted : List Bool) (b : Bool) → wanted_services_from n (wanted ++ b ∷ []) ≡ wanted_services_from n wanted ++ cond b ((n + length wanted) ∷ []) []
wanted_more n [] true = ap (λ m. m ∷ []) (omega arith)
wanted_more n [] false = refl
wanted_more n (true ∷ wanted) b =
    let k : (n + 1) + length wanted ≡ n + suc (length wanted) = omega arith in
    ap (λ l. n ∷ l) (wanted_more (n + 1) wanted b ∙ ap (λ m. wanted_services_from (n + 1) wanted ++ cond b (m ∷ []) []) k)
wanted_more n (false ∷ wanted) b =
    let k : (n + 1) + length wanted ≡ n + suc (length wanted) = omega arith in
    wanted_more (n + 1) wanted b ∙ ap (λ m. wanted_services_from (n + 1) wanted ++ cond b (m ∷ []) []) k

next : (wanted : List Bool) (i : ℕ) (b : Bool) → i < length wanted → get_or wanted i false ≡ b
    → wanted_services_from 0 (take (i + 1) wanted) ≡ wanted_services_from 0 (take i wanted) ++ cond b (i ∷ []) []
next wanted i b l e =
    let n = length-take-le i wanted (omega (arith, l)) in
    let same : 0 + length (take i wanted) ≡ i = omega (arith, n) in
    ap (wanted_services_from 0) (take_more wanted i false l) ∙ wanted_more 0 (take i wanted) (get_or wanted i false)
    ∙ ap (λ c. wanted_services_from 0 (take i wanted) ++ cond c ((0 + length (take i wanted)) ∷ []) []) e
    ∙ ap (λ m. wanted_services_from 0 (take i wanted) ++ cond b (m ∷ []) []) same

pub served : (R : ℕ → Block → Type 0) (wanted : List Bool) (i : ℕ) (blocks more : List Block) (block : Block) → i < length wanted → get_or wanted i false ≡ true
    → more ≡ blocks ++ block ∷ [] → R i block → AllZip R (wanted_services_from 0 (take i wanted)) blocks → AllZip R (wanted_services_from 0 (take (i + 1) wanted)) more
served R wanted i blocks more block l e is r h =
    let P : List ℕ → Type 0 = λ ns. AllZip R ns more in
    let Q : List Block → Type 0 = λ bs. AllZip R (wanted_services_from 0 (take i wanted) ++ i ∷ []) bs in
    subst P (sym (next wanted i true l e)) (subst Q (sym is) (zip_push R (wanted_services_from 0 (take i wanted)) blocks i block h r))

pub skipped : (R : ℕ → Block → Type 0) (wanted : List Bool) (i : ℕ) (blocks : List Block) → i < length wanted → get_or wanted i false ≡ false
    → AllZip R (wanted_services_from 0 (take i wanted)) blocks → AllZip R (wanted_services_from 0 (take (i + 1) wanted)) blocks
skipped R wanted i blocks l e h =
    let P : List ℕ → Type 0 = λ ns. AllZip R ns blocks in
    subst P (sym (next wanted i false l e ∙ append-nil (wanted_services_from 0 (take i wanted)))) h
