-- Parts of lists of lines.
use Rattle.std.proofs.Common.{◌≡◌, ◌<◌, ◌-◌, ◌∙◌, ℕ, List, length, take, drop, map, false, sym, ap, arith, Bor}
use Rattle.std.proofs.lemmas.List.{drop-map, take-map, length-map, length-drop, take_all}
use Rattle.text_pieces.specs.Names.{referent}
use Rattle.debug_ways.specs.Around.{merged_from}

rest-all : (xs : List (Bor (List ℕ))) (n : ℕ) → take (length xs - n) (drop n xs) ≡ drop n xs
rest-all xs n = let e : length (drop n xs) ≡ length xs - n = length-drop n xs in take_all (length xs - n) (drop n xs) (omega (arith, e))

pub first_few : (xs : List (Bor (List ℕ))) → length xs < 8 → map referent xs ≡ take 8 (map referent xs)
first_few xs few =
    let f : length (map referent xs) ≡ length xs = length-map xs referent in
    sym (take_all 8 (map referent xs) (omega (arith, f, few)))

pub first_eight : (xs : List (Bor (List ℕ))) → map referent (take 8 xs) ≡ take 8 (map referent xs)
first_eight xs = sym (take-map referent 8 xs)

pub last_few : (xs : List (Bor (List ℕ))) (n : ℕ) → n ≡ length xs - 8
    → map referent (take (length xs - n) (drop n xs)) ≡ drop (length (map referent xs) - 8) (map referent xs)
last_few xs n is =
    ap (map referent) (rest-all xs n) ∙ sym (drop-map referent n xs)
    ∙ ap (λ k. drop k (map referent xs)) (is ∙ sym (ap (λ k. k - 8) (length-map xs referent)))

pub lines_merged : (parts : List (Bor (List ℕ))) (all : List (List ℕ)) → map referent parts ≡ all
    → merged_from false (map referent (take (length parts - 1) parts)) ≡ merged_from false (take (length all - 1) all)
lines_merged parts all is =
    ap (merged_from false) (
    sym (take-map referent (length parts - 1) parts) ∙ ap (λ l. take (length parts - 1) l) is
    ∙ ap (λ n. take (n - 1) all) (sym (length-map parts referent) ∙ ap length is)
    )
