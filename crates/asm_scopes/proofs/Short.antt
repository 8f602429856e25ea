-- Bodies are no longer than the lines that they stand in.
use Rattle.std.proofs.Common.{◌≡◌, ℕ, ◌+◌, ◌<◌, ◌≤◌, Bool, true, false, not, List, [], ◌∷◌, length, refl, subst, arith, length-take}
use Rattle.std.specs.Prelude.{All, if◌then◌else◌}
use Rattle.std.specs.List.{take_while, prefix_len}
use Rattle.std.proofs.lemmas.List.Elements.{All-nil, All-cons}
use Rattle.asm_lines.specs.declared.source_line.SourceLine.{SourceLine}
use Rattle.asm_scopes.specs.Statements.{opens_body, closes_body}
use Rattle.asm_scopes.specs.Bodies.{BodyText, bodies_from}

abbrev pub EndsBefore : ℕ → BodyText → Type 0
EndsBefore m body = body.line + length body.lines < m

pub few_bodies : (n : ℕ) (ls : List SourceLine) → length (bodies_from n ls) ≤ length ls
few_bodies n [] = omega arith
few_bodies n (l ∷ ls) = by (opens_body l) (few_bodies (n + 1) ls)
  where
    body : BodyText
    body = record { line = n; header = l; lines = take_while (λ x. not (closes_body x)) ls }

    by : (b : Bool) → length (bodies_from (n + 1) ls) ≤ length ls → length (if b then body ∷ bodies_from (n + 1) ls else bodies_from (n + 1) ls) ≤ length (l ∷ ls)
    by true h = omega (arith, h)
    by false h = omega (arith, h)

pub short_bodies : (n : ℕ) (ls : List SourceLine) → All (EndsBefore (n + length ls)) (bodies_from n ls)
short_bodies n [] = All-nil (EndsBefore (n + 0))
short_bodies n (l ∷ ls) = by (opens_body l) (all (n + length (l ∷ ls)) refl (short_bodies (n + 1) ls))
  where
    body : BodyText
    body = record { line = n; header = l; lines = take_while (λ x. not (closes_body x)) ls }

    all : (k : ℕ) → k ≡ n + length (l ∷ ls) → All (EndsBefore (n + 1 + length ls)) (bodies_from (n + 1) ls) → All (EndsBefore k) (bodies_from (n + 1) ls)
    all k e h = let q : n + 1 + length ls ≡ k = omega (arith, e) in subst (λ (m : ℕ). All (EndsBefore m) (bodies_from (n + 1) ls)) q h

    here : n + length (take_while (λ x. not (closes_body x)) ls) < n + length (l ∷ ls)
    here = let t = length-take (prefix_len (λ x. not (closes_body x)) ls) ls in omega (arith, t)

    by : (b : Bool) → All (EndsBefore (n + length (l ∷ ls))) (bodies_from (n + 1) ls) → All (EndsBefore (n + length (l ∷ ls))) (if b then body ∷ bodies_from (n + 1) ls else bodies_from (n + 1) ls)
    by true h = All-cons (EndsBefore (n + length (l ∷ ls))) body (bodies_from (n + 1) ls) here h
    by false h = h
