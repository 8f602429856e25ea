-- A stretch that touches no line has no early arrivals.
use Rattle.std.proofs.Common.{◌≡◌, ◌∙◌, ℕ, ◌+◌, List, [], ◌∷◌, ◌++◌, refl, ap, false, cond, Option, Some, None}
use Rattle.std.specs.Prelude.{◌||◌}
use Rattle.sloth_base.specs.Options.{is_number}
use Rattle.masked_code.specs.Trace.{Trace, is_touched_line, touched_lines_of, touched_lines, lines_of}
use Rattle.sim_induction.specs.Admits.{arrivals_before_event, arrivals_at_moment}

pub nil_cons : {x : ℕ} {a : List ℕ} → x ∷ a ≡ [] → ⊥
nil_cons e = cc

no_line : (o : Option ℕ) (rest : List ℕ) (line : ℕ) → lines_of o rest ≡ [] → (is_number line o ≡ false) × (rest ≡ [])
no_line None rest line h = (refl, h)
no_line (Some l) rest line h = absurd (nil_cons h)

no_touch : (t : Trace) (line : ℕ) → touched_lines t ≡ [] → is_touched_line t line ≡ false
no_touch [] line h = refl
no_touch (e ∷ t) line h = let q = no_line e.1 (touched_lines t) line h in ap (λ b. b || is_touched_line t line) q.0 ∙ no_touch t line q.1

none_touched : (t : Trace) (a : List ℕ) → touched_lines t ≡ [] → touched_lines_of t a ≡ []
none_touched t [] h = refl
none_touched t (l ∷ a) h = ap (λ b. cond b (l ∷ touched_lines_of t a) (touched_lines_of t a)) (no_touch t l h) ∙ none_touched t a h

pub nothing_before : (k : ℕ) (t : Trace) → touched_lines t ≡ [] → arrivals_before_event k t ≡ []
nothing_before k [] h = refl
nothing_before k (e ∷ t) h =
    ap (λ u. arrivals_at_moment k u ++ arrivals_before_event (k + 1) t) (none_touched (e ∷ t) e.0 h) ∙ nothing_before (k + 1) t (no_line e.1 (touched_lines t) 0 h).1
