-- The line of a text at which an arrival stands.
use Rattle.std.proofs.Common.{◌≡◌, ◌∙◌, ◌+◌, ◌-◌, ◌<◌, ℕ, zero, suc, true, false, not, cond, List, [], ◌∷◌, drop, get_or, length, map, add-one, refl, sym, ap, arith}
use Rattle.std.specs.Prelude.{◌&&◌, ◌==◌}
use Rattle.std.specs.Borrow.{Bor}
use Rattle.std.proofs.lemmas.List.{length-map}
use Rattle.text_pieces.specs.Names.{referent}
use Rattle.trace_text.specs.ArrivalsText.{is_comment}
use Rattle.run_load.specs.Soon.{line_among}

-- the texts from a place on
rest_is : (parts : List (Bor (List ℕ))) (i : ℕ) (d : Bor (List ℕ)) → i < length parts → drop i (map referent parts) ≡ (get_or parts i d).now ∷ drop (suc i) (map referent parts)
rest_is [] i d lt = absurd (let wrong : ⊥ = omega (arith, lt) in wrong)
rest_is (p ∷ parts) zero d lt = refl
rest_is (p ∷ parts) (suc i) d lt = rest_is parts i d (omega (arith, lt))

length_rest : (xs : List (List ℕ)) (i : ℕ) → i < length xs → length xs - length (drop (suc i) xs) ≡ i + 1
length_rest [] i lt = absurd (let wrong : ⊥ = omega (arith, lt) in wrong)
length_rest (x ∷ xs) zero lt = omega arith
length_rest (x ∷ xs) (suc i) lt = let ih = length_rest xs i (omega (arith, lt)) in omega (arith, ih)

module _ (parts : List (Bor (List ℕ))) (left i : ℕ) (d : Bor (List ℕ)) (inside : i < length parts) where
  here : line_among (length parts) left (drop i (map referent parts))
      ≡ cond (not (is_comment (get_or parts i d).now) && (left == 0)) (length parts - length (drop (suc i) (map referent parts)))
      (line_among (length parts) (cond (is_comment (get_or parts i d).now) left (left - 1)) (drop (suc i) (map referent parts)))
  here = ap (line_among (length parts) left) (rest_is parts i d inside)

  pub found-at : (not (is_comment (get_or parts i d).now) && (left == 0)) ≡ true → i + 1 ≡ line_among (length parts) left (drop i (map referent parts))
  found-at is =
      let count = length-map parts referent in
      let all = length_rest (map referent parts) i (omega (arith, inside, count)) in
      let number : i + 1 ≡ length parts - length (drop (suc i) (map referent parts)) = omega (arith, all, count) in
      number ∙ sym (here ∙ ap (λ b. cond b (length parts - length (drop (suc i) (map referent parts)))
      (line_among (length parts) (cond (is_comment (get_or parts i d).now) left (left - 1)) (drop (suc i) (map referent parts)))) is)

  pub passed-by : (later : ℕ) → (not (is_comment (get_or parts i d).now) && (left == 0)) ≡ false → later ≡ cond (is_comment (get_or parts i d).now) left (left - 1)
      → line_among (length parts) later (drop (i + 1) (map referent parts)) ≡ line_among (length parts) left (drop i (map referent parts))
  passed-by later is later_is =
      ap (λ k. line_among (length parts) k (drop (i + 1) (map referent parts))) later_is
      ∙ (ap (λ k. line_among (length parts) (cond (is_comment (get_or parts i d).now) left (left - 1)) (drop k (map referent parts))) (add-one i)
      ∙ sym (here ∙ ap (λ b. cond b (length parts - length (drop (suc i) (map referent parts)))
      (line_among (length parts) (cond (is_comment (get_or parts i d).now) left (left - 1)) (drop (suc i) (map referent parts)))) is))
