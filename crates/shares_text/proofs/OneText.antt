-- Texts have one list of lines at most.
use Rattle.std.proofs.Common.{◌≡◌, ℕ, zero, suc, ◌+◌, ◌<◌, List, [], ◌++◌, get_or, length, refl, sym, ap, ◌∙◌, subst, arith}
use Rattle.std.specs.Prelude.{codes}
use Rattle.std.proofs.Math.Numerals.{add-one}
use Rattle.sloth_base.specs.declared.config.Config.{Config}
use Rattle.sloth_base.specs.declared.app.App.{App}
use Rattle.sloth_base.specs.Named.{no_symbol}
use Rattle.sloth_source.proofs.Unique.{one_meaning}
use Rattle.shares_text.specs.declared.verdict.Verdict.{Verdict}
use Rattle.shares_text.specs.declared.verdict.Verdict.TheVariants as verdict
use Rattle.shares_text.specs.Verdicts.{AreVerdicts}
use Rattle.shares_text.specs.SharesText.{verdict_words, share_line, share_lines, OneText}
use Rattle.shares_text.proofs.OneVerdict.{words_same}

pub no-lines : (config : Config) (app : App) (verdicts : List Verdict) → share_lines config app verdicts 0 ≡ []
unfolding share_lines
no-lines config app verdicts = refl

pub one-line-more : (config : Config) (app : App) (verdicts : List Verdict) (k : ℕ)
    → share_lines config app verdicts (k + 1) ≡ share_lines config app verdicts k ++ share_line config app verdicts k
unfolding share_lines
one-line-more config app verdicts k = ap (share_lines config app verdicts) (add-one k)

pub line-is : (config : Config) (app : App) (verdicts : List Verdict) (k : ℕ) (name : List ℕ) (v : Verdict) → name ≡ (get_or app.symbols k no_symbol).name
    → v ≡ get_or verdicts k verdict.Unused → ((name ++ verdict_words config v) ++ codes "\n") ≡ share_line config app verdicts k
unfolding share_line
line-is config app verdicts k name v s e =
    ap (λ (x : List ℕ). (x ++ verdict_words config v) ++ codes "\n") s ∙ ap (λ x. ((get_or app.symbols k no_symbol).name ++ verdict_words config x) ++ codes "\n") e

same-line : (config : Config) (app : App) (one other : List Verdict) (k : ℕ)
    → verdict_words config (get_or one k verdict.Unused) ≡ verdict_words config (get_or other k verdict.Unused) → share_line config app one k ≡ share_line config app other k
unfolding share_line
same-line config app one other k e = ap (λ l. ((get_or app.symbols k no_symbol).name ++ l) ++ codes "\n") e

-- lines of the same words are the same
same-lines : (config : Config) (app : App) (one other : List Verdict) (n : ℕ)
    → ((y : ℕ) → y < n → verdict_words config (get_or one y verdict.Unused) ≡ verdict_words config (get_or other y verdict.Unused))
    → share_lines config app one n ≡ share_lines config app other n
unfolding share_lines
same-lines config app one other zero e = refl
same-lines config app one other (suc n) e =
    ap (λ l. l ++ share_line config app one n) (same-lines config app one other n (λ y lt. e y (omega (arith, lt))))
    ∙ ap (λ l. share_lines config app other n ++ l) (same-line config app one other n (e n (omega arith)))

pub one_text : OneText
one_text oil src one other a b =
    let same = one_meaning oil src a.config b.config a.app b.app a.accepted b.accepted in
    let there : AreVerdicts a.config a.app b.has_shares.verdicts = subst (λ c. AreVerdicts c a.app b.has_shares.verdicts) (sym same.0) (subst (λ x. AreVerdicts b.config x b.has_shares.verdicts) (sym same.1) b.has_shares.are_verdicts) in
    a.has_shares.lines
    ∙ (same-lines a.config a.app a.has_shares.verdicts b.has_shares.verdicts (length a.app.symbols)
    (λ y lt. words_same a.config a.app y (get_or a.has_shares.verdicts y verdict.Unused) (get_or b.has_shares.verdicts y verdict.Unused) (a.has_shares.are_verdicts.each y lt) (there.each y lt))
    ∙ (ap (λ (c : Config). share_lines c a.app b.has_shares.verdicts (length a.app.symbols)) same.0
    ∙ (ap (λ (x : App). share_lines b.config x b.has_shares.verdicts (length x.symbols)) same.1 ∙ sym b.has_shares.lines)))
