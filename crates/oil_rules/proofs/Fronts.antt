-- One more object before one.
use Rattle.std.proofs.Common.{◌≡◌, ◌∙◌, ℕ, ◌+◌, Bool, List, [], ◌∷◌, ◌++◌, ap, sym, arith}
use Rattle.std.specs.Prelude.{◌||◌, ◌&&◌, if◌then◌else◌, count_by}
use Rattle.std.specs.Borrow.{Bor}
use Rattle.std.specs.List.{list_any}
use Rattle.std.specs.Str.{bytes_eq}
use Rattle.std.proofs.lemmas.List.Sums.{sum_by-append}
use Rattle.std.proofs.lemmas.Slice.Eq.{bytes_eq-Decides}
use Rattle.std.proofs.lemmas.Bool.{and_parts}
use Rattle.indexmap.specs.IndexSet.{insert_key}
use Rattle.text_pieces.proofs.Tests.{any_insert}

pub named_more : (keys : List (Bor (List ℕ) × Bor (List ℕ))) (k n : Bor (List ℕ)) (kind name : List ℕ)
    → list_any (λ (y : Bor (List ℕ) × Bor (List ℕ)). bytes_eq y.0.now kind && bytes_eq y.1.now name) (insert_key (λ (x : Bor (List ℕ) × Bor (List ℕ)) y. bytes_eq x.0.now y.0.now && bytes_eq x.1.now y.1.now) keys (k, n))
    ≡ (list_any (λ (y : Bor (List ℕ) × Bor (List ℕ)). bytes_eq y.0.now kind && bytes_eq y.1.now name) keys || (bytes_eq k.now kind && bytes_eq n.now name))
named_more keys k n kind name = any_insert (λ (y : Bor (List ℕ) × Bor (List ℕ)). bytes_eq y.0.now kind && bytes_eq y.1.now name)
    (λ (x : Bor (List ℕ) × Bor (List ℕ)) y. bytes_eq x.0.now y.0.now && bytes_eq x.1.now y.1.now) (k, n)
    (λ (y : Bor (List ℕ) × Bor (List ℕ)) h.
    let e : k.now ≡ y.0.now = (bytes_eq-Decides k.now y.0.now).0 (and_parts (bytes_eq k.now y.0.now) (bytes_eq n.now y.1.now) h).0 in
    let f : n.now ≡ y.1.now = (bytes_eq-Decides n.now y.1.now).0 (and_parts (bytes_eq k.now y.0.now) (bytes_eq n.now y.1.now) h).1 in
    sym (ap (λ (w : List ℕ). bytes_eq w kind && bytes_eq n.now name) e ∙ ap (λ (w : List ℕ). bytes_eq y.0.now kind && bytes_eq w name) f)) keys

pub count_push : {X : Type 0} (p : X → Bool) (xs : List X) (x : X) (count : ℕ) → count ≡ count_by p xs → count + (if p x then 1 else 0) ≡ count_by p (xs ++ x ∷ [])
count_push p xs x count e =
    ap (λ n. n + (if p x then 1 else 0)) e ∙ sym (sum_by-append (λ y. if p y then 1 else 0) xs (x ∷ []) ∙ omega arith)
