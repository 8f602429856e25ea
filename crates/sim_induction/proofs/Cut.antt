-- A stretch is one piece, and where the run ends inside it, none.
use Rattle.std.proofs.Common.{◌≡◌, ℕ, zero, suc, ◌<◌, List, [], ◌∷◌, ◌++◌, length, take, refl, ap, ◌∙◌, arith, append_assoc, false, cond}
use Rattle.sloth_base.specs.declared.numbers.Step.{Step}
use Rattle.observe.specs.Pieces.{Outside, Stretch, is_outside, pieces, cut_off_steps}
use Rattle.sim_induction.proofs.MaskedRun.{Flags}

opened_inside : (opened : List Step) (s t : Step) → is_outside (opened ++ s ∷ []) t ≡ false
opened_inside [] s t = refl
opened_inside (h ∷ hs) s t = refl

pub cut_whole : (ss : List Step) (opened : List Step) (s : Step) → is_outside opened s ≡ false → Flags (s ∷ ss)
    → (pieces opened (s ∷ ss) ≡ Stretch (opened ++ s ∷ ss) ∷ []) × (cut_off_steps opened (s ∷ ss) ≡ [])
cut_whole [] opened s a f = (
  ap (λ b. cond b (Outside s ∷ []) (cond s.enabled_after (Stretch (opened ++ s ∷ []) ∷ []) [])) a ∙ ap (λ b. cond b (Stretch (opened ++ s ∷ []) ∷ []) []) f,
  ap (λ b. cond b [] (cond s.enabled_after [] (opened ++ s ∷ []))) a ∙ ap (λ b. cond b [] (opened ++ s ∷ [])) f,
)
cut_whole (t ∷ ts) opened s a f =
    let r = cut_whole ts (opened ++ s ∷ []) t (opened_inside opened s t) f.1 in (
      ap (λ b. cond b (Outside s ∷ pieces [] (t ∷ ts)) (cond s.enabled_after (Stretch (opened ++ s ∷ []) ∷ pieces [] (t ∷ ts)) (pieces (opened ++ s ∷ []) (t ∷ ts)))) a
          ∙ ap (λ b. cond b (Stretch (opened ++ s ∷ []) ∷ pieces [] (t ∷ ts)) (pieces (opened ++ s ∷ []) (t ∷ ts))) f.0
          ∙ r.0 ∙ ap (λ u. Stretch u ∷ []) (append_assoc opened (s ∷ []) (t ∷ ts)),
      ap (λ b. cond b (cut_off_steps [] (t ∷ ts)) (cond s.enabled_after (cut_off_steps [] (t ∷ ts)) (cut_off_steps (opened ++ s ∷ []) (t ∷ ts)))) a
          ∙ ap (λ b. cond b (cut_off_steps [] (t ∷ ts)) (cut_off_steps (opened ++ s ∷ []) (t ∷ ts))) f.0 ∙ r.1,
    )

pub cut_short : (ss : List Step) (opened : List Step) (s : Step) (n : ℕ) → is_outside opened s ≡ false → Flags (s ∷ ss) → n < length ss
    → (pieces opened (s ∷ take n ss) ≡ []) × (cut_off_steps opened (s ∷ take n ss) ≡ opened ++ s ∷ take n ss)
cut_short [] opened s n a f l = absurd (omega arith)
cut_short (t ∷ ts) opened s zero a f l = (
  ap (λ b. cond b (Outside s ∷ []) (cond s.enabled_after (Stretch (opened ++ s ∷ []) ∷ []) [])) a ∙ ap (λ b. cond b (Stretch (opened ++ s ∷ []) ∷ []) []) f.0,
  ap (λ b. cond b [] (cond s.enabled_after [] (opened ++ s ∷ []))) a ∙ ap (λ b. cond b [] (opened ++ s ∷ [])) f.0,
)
cut_short (t ∷ ts) opened s (suc n) a f l =
    let r = cut_short ts (opened ++ s ∷ []) t n (opened_inside opened s t) f.1 (omega arith) in
    let u = t ∷ take n ts in (
      ap (λ b. cond b (Outside s ∷ pieces [] u) (cond s.enabled_after (Stretch (opened ++ s ∷ []) ∷ pieces [] u) (pieces (opened ++ s ∷ []) u))) a
          ∙ ap (λ b. cond b (Stretch (opened ++ s ∷ []) ∷ pieces [] u) (pieces (opened ++ s ∷ []) u)) f.0 ∙ r.0,
      ap (λ b. cond b (cut_off_steps [] u) (cond s.enabled_after (cut_off_steps [] u) (cut_off_steps (opened ++ s ∷ []) u))) a
          ∙ ap (λ b. cond b (cut_off_steps [] u) (cut_off_steps (opened ++ s ∷ []) u)) f.0 ∙ r.1 ∙ append_assoc opened (s ∷ []) u,
    )
