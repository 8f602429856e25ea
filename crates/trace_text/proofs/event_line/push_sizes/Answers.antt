use Rattle.std.proofs.Common.{◌≡◌, ◌∙◌, ◌++◌, List, ℕ, ap, append_assoc, codes, decimal, length}
use Rattle.trace_text.proofs.event_line.push_sizes.Goals as goal

-- words and numbers in one list, or one behind the other
joined : (old one a two b three c four d : List ℕ)
    → (((old ++ (one ++ a)) ++ (two ++ b)) ++ (three ++ c)) ++ (four ++ d) ≡ old ++ (one ++ a ++ two ++ b ++ three ++ c ++ four ++ d)
joined old one a two b three c four d = simp append_assoc

-- equal numbers of items have the same digits
pushed : (old new word xs ys : List ℕ) → new ≡ old ++ (word ++ xs) → xs ≡ ys → new ≡ old ++ (word ++ ys)
pushed old new word xs ys is same = is ∙ ap (λ (l : List ℕ). old ++ (word ++ l)) same

pub returns-clause-sizes : goal.returns-clause-sizes
returns-clause-sizes c =
    let line = c.args.line.now in
    let image = c.args.image.now in
    let one = pushed line _ (codes "tasks ") _ (decimal (length image.tasks)) c.push_counted.ensures.counted (ap (λ l. decimal (length l)) c.items.ensures) in
    let two = pushed _ _ (codes " functions ") _ (decimal (length image.funcs)) c.push_counted-2.ensures.counted (ap (λ l. decimal (length l)) c.items-2.ensures) in
    let three = pushed _ _ (codes " bytes ") _ (decimal (length image.memory)) c.push_counted-3.ensures.counted (ap (λ l. decimal (length l)) c.items-3.ensures) in
    let four = pushed _ _ (codes " marks ") _ (decimal (length image.marks)) c.push_counted-4.ensures.counted (ap (λ l. decimal (length l)) c.items-4.ensures) in
    four
    ∙ (ap (λ (l : List ℕ). l ++ (codes " marks " ++ decimal (length image.marks))) three
    ∙ (ap (λ (l : List ℕ). (l ++ (codes " bytes " ++ decimal (length image.memory))) ++ (codes " marks " ++ decimal (length image.marks))) two
    ∙ (ap (λ (l : List ℕ). ((l ++ (codes " functions " ++ decimal (length image.funcs))) ++ (codes " bytes " ++ decimal (length image.memory))) ++ (codes " marks " ++ decimal (length image.marks))) one
    ∙ joined line (codes "tasks ") (decimal (length image.tasks)) (codes " functions ") (decimal (length image.funcs)) (codes " bytes ") (decimal (length image.memory)) (codes " marks ") (decimal (length image.marks)))))
