-- The lines of one task more, and of one counter more.
use Rattle.std.proofs.Common.{◌≡◌, ◌∙◌, ℕ, ◌+◌, List, [], ◌++◌, refl, sym, ap}
use Rattle.std.proofs.lemmas.List.{append_assoc, append-nil}
use Rattle.std.proofs.Math.Numerals.{add-one}
use Rattle.sloth_base.specs.declared.config.Config.{Config}
use Rattle.run_windows.specs.declared.costs.Costs.{Costs}
use Rattle.run_windows.specs.declared.costs.Start.{Start}
use Rattle.run_windows.specs.declared.responses.Parts.{Parts}
use Rattle.response_text.specs.declared.part_lines.Bounded.{Bounded}
use Rattle.response_text.specs.Parts.{round_line, round_lines, tick_line, tick_lines}

pub no_rounds : (config : Config) (costs : Costs) (works : List Bounded) (s : Start) (p : Parts) → round_lines config costs works s p 0 ≡ []
unfolding round_lines
no_rounds config costs works s p = refl

pub no_ticks : (config : Config) (costs : Costs) (counts : ℕ) → tick_lines config costs counts 0 ≡ []
unfolding tick_lines
no_ticks config costs counts = refl

one_round_more : (config : Config) (costs : Costs) (works : List Bounded) (s : Start) (p : Parts) (t : ℕ) → round_lines config costs works s p (t + 1) ≡ round_lines config costs works s p t ++ round_line config costs works s p t
unfolding round_lines
one_round_more config costs works s p t = ap (round_lines config costs works s p) (add-one t)

one_tick_more : (config : Config) (costs : Costs) (counts c : ℕ) → tick_lines config costs counts (c + 1) ≡ tick_lines config costs counts c ++ tick_line config costs counts c
unfolding tick_lines
one_tick_more config costs counts c = ap (tick_lines config costs counts) (add-one c)

-- behind others
pub rounds_begun : (config : Config) (costs : Costs) (works : List Bounded) (s : Start) (p : Parts) (text : List ℕ) → text ≡ text ++ round_lines config costs works s p 0
rounds_begun config costs works s p text = sym (append-nil text) ∙ ap (λ l. text ++ l) (sym (no_rounds config costs works s p))

pub ticks_begun : (config : Config) (costs : Costs) (counts : ℕ) (text : List ℕ) → text ≡ text ++ tick_lines config costs counts 0
ticks_begun config costs counts text = sym (append-nil text) ∙ ap (λ l. text ++ l) (sym (no_ticks config costs counts))

pub rounds_longer : (config : Config) (costs : Costs) (works : List Bounded) (s : Start) (p : Parts) (t : ℕ) (old text next : List ℕ) → text ≡ old ++ round_lines config costs works s p t
    → next ≡ text ++ round_line config costs works s p t → next ≡ old ++ round_lines config costs works s p (t + 1)
rounds_longer config costs works s p t old text next is e =
    e ∙ (ap (λ l. l ++ round_line config costs works s p t) is
    ∙ (append_assoc old (round_lines config costs works s p t) (round_line config costs works s p t) ∙ ap (λ l. old ++ l) (sym (one_round_more config costs works s p t))))

pub ticks_longer : (config : Config) (costs : Costs) (counts c : ℕ) (old text next : List ℕ) → text ≡ old ++ tick_lines config costs counts c
    → next ≡ text ++ tick_line config costs counts c → next ≡ old ++ tick_lines config costs counts (c + 1)
ticks_longer config costs counts c old text next is e =
    e ∙ (ap (λ l. l ++ tick_line config costs counts c) is
    ∙ (append_assoc old (tick_lines config costs counts c) (tick_line config costs counts c) ∙ ap (λ l. old ++ l) (sym (one_tick_more config costs counts c))))
