-- The pieces of a line.
use Rattle.std.proofs.Common.{◌≡◌, ◌∙◌, ℕ, List, ◌++◌, ap}

-- twelve pieces, each behind those before it
pub twelve : (a b c d e f g h i j k l t1 t2 t3 t4 t5 t6 t7 t8 t9 t10 t11 t12 : List ℕ) → t1 ≡ a → t2 ≡ t1 ++ b → t3 ≡ t2 ++ c → t4 ≡ t3 ++ d → t5 ≡ t4 ++ e → t6 ≡ t5 ++ f → t7 ≡ t6 ++ g → t8 ≡ t7 ++ h → t9 ≡ t8 ++ i → t10 ≡ t9 ++ j → t11 ≡ t10 ++ k → t12 ≡ t11 ++ l → t12 ≡ a ++ b ++ c ++ d ++ e ++ f ++ g ++ h ++ i ++ j ++ k ++ l
twelve a b c d e f g h i j k l t1 t2 t3 t4 t5 t6 t7 t8 t9 t10 t11 t12 h1 h2 h3 h4 h5 h6 h7 h8 h9 h10 h11 h12 =
    h12 ∙ ap (λ t. t ++ l) (h11 ∙ ap (λ t. t ++ k) (h10 ∙ ap (λ t. t ++ j) (h9 ∙ ap (λ t. t ++ i) (h8 ∙ ap (λ t. t ++ h) (h7 ∙ ap (λ t. t ++ g) (h6 ∙ ap (λ t. t ++ f) (h5 ∙ ap (λ t. t ++ e) (h4 ∙ ap (λ t. t ++ d) (h3 ∙ ap (λ t. t ++ c) (h2 ∙ ap (λ t. t ++ b) h1))))))))))

-- eight pieces
pub eight : (a b c d e f g h t1 t2 t3 t4 t5 t6 t7 t8 : List ℕ) → t1 ≡ a → t2 ≡ t1 ++ b → t3 ≡ t2 ++ c → t4 ≡ t3 ++ d → t5 ≡ t4 ++ e → t6 ≡ t5 ++ f
    → t7 ≡ t6 ++ g → t8 ≡ t7 ++ h → t8 ≡ a ++ b ++ c ++ d ++ e ++ f ++ g ++ h
eight a b c d e f g h t1 t2 t3 t4 t5 t6 t7 t8 h1 h2 h3 h4 h5 h6 h7 h8 =
    h8 ∙ ap (λ t. t ++ h) (h7 ∙ ap (λ t. t ++ g) (h6 ∙ ap (λ t. t ++ f) (h5 ∙ ap (λ t. t ++ e) (h4 ∙ ap (λ t. t ++ d) (h3 ∙ ap (λ t. t ++ c) (h2 ∙ ap (λ t. t ++ b) h1))))))
