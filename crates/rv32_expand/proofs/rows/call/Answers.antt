use Rattle.std.proofs.Common.{◌≡◌, ◌∙◌, ℕ, suc, ◌+◌, ◌-◌, ◌*◌, List, [], ◌∷◌, ◌++◌, pos, sym, ap, arith, append_assoc, append-nil}
use Rattle.std.proofs.lemmas.Grind.{common_steps}
use Rattle.rv32_instr.specs.declared.InstrKind.{InstrKind}
use Rattle.rv32_instr.specs.declared.InstrKind.TheVariants.{Auipc, Jal, Sw}
use Rattle.rv32_expand.specs.Expansion.{distance, zeros}
use Rattle.rv32_expand.proofs.rows.call.Goals as goal

pub loop-word-preserved : goal.loop-word-preserved
loop-word-preserved c =
    let draft = c.loop-word.draft in
    let word = c.loop-word.word in
    let rest = zeros (c.args.words - (word + 1)) (word + 1) in
    let more : c.args.words - word ≡ suc (c.args.words - (word + 1)) = omega arith in
    let pushed : c.push.new.self ≡ draft ++ Sw 2 0 (pos (4 * word)) ∷ [] = grind (arith, common_steps) in
    record {
      is =
          ap (λ (kinds : List InstrKind). kinds ++ rest) pushed
          ∙ append_assoc draft (Sw 2 0 (pos (4 * word)) ∷ []) rest
          ∙ ap (λ (n : ℕ). draft ++ zeros n word) (sym more)
          ∙ c.loop-word.invariant.is;
      count = grind (arith, common_steps);
    }

-- three instructions behind a list
behind : (draft start one two three : List InstrKind) (a b d x y z : InstrKind) → draft ≡ start → one ≡ draft ++ a ∷ [] → two ≡ one ++ b ∷ []
    → three ≡ two ++ d ∷ [] → a ≡ x → b ≡ y → d ≡ z → three ≡ start ++ (x ∷ y ∷ z ∷ [])
behind draft start one two three a b d x y z s e f g p q r =
    g
    ∙ ap (λ (l : List InstrKind). l ++ d ∷ []) (f ∙ ap (λ (l : List InstrKind). l ++ b ∷ []) (e ∙ ap (λ (l : List InstrKind). l ++ a ∷ []) s))
    ∙ append_assoc (start ++ a ∷ []) (b ∷ []) (d ∷ [])
    ∙ append_assoc start (a ∷ []) (b ∷ d ∷ [])
    ∙ ap (λ (k : InstrKind). start ++ (k ∷ b ∷ d ∷ [])) p
    ∙ ap (λ (k : InstrKind). start ++ (x ∷ k ∷ d ∷ [])) q
    ∙ ap (λ (k : InstrKind). start ++ (x ∷ y ∷ k ∷ [])) r

pub returns : goal.returns
returns c =
    let draft = c.loop-word.draft in
    let word = c.loop-word.word in
    let words = c.args.words in
    let over = c.loop-word-test.false in
    let none : words - word ≡ 0 = omega (arith, over) in
    let whole = sym (append-nil draft) ∙ ap (λ (n : ℕ). draft ++ zeros n word) (sym none) ∙ c.loop-word.invariant.is in
    let stored : c.sw-2.result ≡ Sw 2 31 (pos (4 * words)) = grind (arith, common_steps) in
    let jumped : c.jal.result ≡ Jal 0 (distance (c.args.at + 4 * (words + 3)) c.args.target) = grind (arith, common_steps) in
    behind draft _ _ _ _ _ _ _ (Auipc 31 0) (Sw 2 31 (pos (4 * words))) (Jal 0 (distance (c.args.at + 4 * (words + 3)) c.args.target)) whole
    c.push-2.ensures c.push-3.ensures c.push-4.ensures c.auipc.ensures stored jumped
