-- Texts that grow by one number at a time.
use Rattle.std.proofs.Common.{◌≡◌, ◌+◌, ℕ, suc, List, ◌++◌, sym, ◌∙◌, ap, arith, append_assoc, append-nil}
use Rattle.debug_session.specs.Texts.{up_to}

-- one number more
pub one_more : (text : ℕ → List ℕ) (k : ℕ) (old out new : List ℕ) → out ≡ old ++ up_to text k → new ≡ out ++ text k → new ≡ old ++ up_to text (k + 1)
one_more text k old out new before put =
    let one : suc k ≡ k + 1 = omega arith in
    put ∙ ap (λ bytes. bytes ++ text k) before ∙ append_assoc old (up_to text k) (text k) ∙ ap (λ n. old ++ up_to text n) one

-- none yet
pub none_yet : (text : ℕ → List ℕ) (old : List ℕ) → old ≡ old ++ up_to text 0
none_yet text old = sym (append-nil old)

-- five texts behind another, put in three steps
pub regrouped : (old a b c d e : List ℕ) → old ++ a ++ b ++ (c ++ d ++ e) ≡ old ++ (a ++ b ++ c ++ d ++ e)
regrouped old a b c d e = simp append_assoc
