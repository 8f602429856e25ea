-- Lists that are kept.
use Rattle.std.proofs.Common.{◌≡◌, ◌∙◌, ℕ, ◌<◌, List, length, get_or, true, ⊎_elim, sym, ap, true≢false, arith}
use Rattle.std.proofs.lemmas.Bool.{cases_lt}
use Rattle.std.proofs.lemmas.List.{get_or_past}
use Rattle.sloth_base.specs.declared.app.Func.{Func}
use Rattle.code_rules.specs.Code.{held_list_at}
use Rattle.fault_witnesses.specs.declared.body_lists.KeptList.{KeptList}
use Rattle.fault_witnesses.specs.BodyLists.{no_list, IsKept, AreLists}

-- what is true of the rows that there are is true of all
pub all_lists : (f : Func) (rows : List KeptList) (n : ℕ) → length rows ≡ n → ((i : ℕ) → i < n → IsKept f i (get_or rows i no_list)) → AreLists f rows
all_lists f rows n count each i = ⊎_elim
    (λ l. each i l)
    (λ g. let past = get_or_past rows i no_list (omega (arith, count, g)) in
    λ t. absurd (true≢false (sym t ∙ ap (λ (r : KeptList). r.kept) past)))
    (cases_lt i n)

-- a row that is kept of what is held before the item
pub kept_as : (f : Func) (i : ℕ) (row : KeptList) (entered : List ℕ) → entered ≡ held_list_at f i → (row.kept ≡ true → row.list ≡ entered) → IsKept f i row
kept_as f i row entered is kept t = kept t ∙ is
