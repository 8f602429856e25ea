use Rattle.std.proofs.Common.{ℕ, ◌++◌, [], cond, List, ap, sym, ◌∙◌}
use Rattle.std.proofs.lemmas.List.{append_assoc}
use Rattle.call_graph.specs.Bits.{is_member}
use Rattle.shares_text.specs.SharesText.{resource_word, words_below}
use Rattle.shares_text.proofs.Words.{words_more}
use Rattle.shares_text.proofs.lines.push_resources.Goals as goal

pub loop-resource-preserved : goal.loop-resource-preserved
loop-resource-preserved c =
    let set = c.args.set in
    let r = c.loop-resource.resource in
    let word : ℕ → List ℕ = resource_word c.args.config.now in
    c.in_ok-push_member.ensures
    ∙ (ap (λ (t : List ℕ). t ++ cond (is_member set r) (word r) []) c.loop-resource.invariant
    ∙ (append_assoc c.args.text.now.items (words_below word set r) (cond (is_member set r) (word r) [])
    ∙ ap (λ (l : List ℕ). c.args.text.now.items ++ l) (sym (words_more word set r))))
