-- Texts that are put line by line: the first lines, and all of them.
use Rattle.std.proofs.Common.{◌≡◌, ◌<◌, ◌+◌, ◌-◌, ◌∙◌, ℕ, zero, suc, List, [], ◌++◌, refl, sym, ap, arith, append_assoc, append-nil}
use Rattle.sloth_io.specs.Sink.{Output, output_with, GainsPart}
use Rattle.sloth_io.proofs.Gains.{gains-gains, gains-nil, part-behind}

-- a sink that took nothing yet
pub took-no-lines : (first : ℕ → List ℕ) → first 0 ≡ [] → (old : Output) → old ≡ output_with old (first 0)
took-no-lines first none old = sym (gains-nil old) ∙ ap (output_with old) (sym none)

-- the lines, so many of the first of them, and that each more is behind those before it
module _ (line first : ℕ → List ℕ) (more : (k : ℕ) → first (k + 1) ≡ first k ++ line k) where
  -- more lines begin with fewer
  begins-by : (k d n : ℕ) → n ≡ k + d → (rest : List ℕ) × (first n ≡ first k ++ rest)
  begins-by k zero n e = let same : n ≡ k = omega (arith, e) in ([], ap first same ∙ sym (append-nil (first k)))
  begins-by k (suc d) n e =
      let m : ℕ = k + d in
      let next : n ≡ m + 1 = omega (arith, e) in
      let before = begins-by k d m refl in
      (before.0 ++ line m, ap first next ∙ more m ∙ ap (λ x. x ++ line m) before.1 ∙ append_assoc (first k) before.0 (line m))

  -- a sink that took the first lines, and then a line more
  pub took-one-more : (old mid new : Output) (k : ℕ) → mid ≡ output_with old (first k) → new ≡ output_with mid (line k) → new ≡ output_with old (first (k + 1))
  took-one-more old mid new k a b = b ∙ ap (λ x. output_with x (line k)) a ∙ gains-gains old (first k) (line k) ∙ ap (output_with old) (sym (more k))

  -- one that took the first lines, and broke off in the next one
  pub broke-at : (old mid new : Output) (n k : ℕ) → k < n → mid ≡ output_with old (first k) → GainsPart mid new (line k) → GainsPart old new (first n)
  broke-at old mid new n k lt a h =
      let rest = begins-by (k + 1) (n - (k + 1)) n (omega (arith, lt)) in
      part-behind old mid new (first k) (line k) rest.0 (first n) a h (rest.1 ∙ ap (λ x. x ++ rest.0) (more k) ∙ append_assoc (first k) (line k) rest.0)
