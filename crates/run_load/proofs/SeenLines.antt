-- The lines of one task or counter more.
use Rattle.std.proofs.Common.{◌≡◌, ◌∙◌, ℕ, ◌+◌, Bool, true, false, List, [], ◌++◌, Option, append_assoc, append-nil, refl, sym, ap}
use Rattle.std.proofs.Math.Numerals.{add-one}
use Rattle.sloth_base.specs.declared.config.Config.{Config}
use Rattle.sloth_base.specs.declared.app.App.{App}
use Rattle.sloth_base.specs.declared.service.Stamped.{Stamped}
use Rattle.load_text.specs.declared.load_line.Entry.{Entry}
use Rattle.load_text.specs.Loads.{work}
use Rattle.response_text.specs.declared.task_text.Response.{Response}
use Rattle.response_text.specs.Lines.{response_at}
use Rattle.run_load.specs.RunLines.{seen_line, seen_lines, tick_line, tick_lines}
use Rattle.run_load.specs.Seen.{longest_seen}
use Rattle.run_load.specs.Work.{above_limit, earlier, above_among}
use Rattle.run_load.specs.declared.work.Excess.{Excess}

pub no-lines : (config : Config) (app : App) (events : List Stamped) (responses : List Response) → [] ≡ seen_lines config app events responses 0
unfolding seen_lines
no-lines config app events responses = refl

pub lines-more : (config : Config) (app : App) (events : List Stamped) (responses : List Response) (t all behind : ℕ) (text more : List ℕ)
    → text ≡ seen_lines config app events responses t → more ≡ text ++ seen_line config t (response_at responses t) all behind
    → all ≡ longest_seen config app t true events → behind ≡ longest_seen config app t false events → more ≡ seen_lines config app events responses (t + 1)
unfolding seen_lines
lines-more config app events responses t all behind text more is added all_is behind_is =
    let line : ℕ → ℕ → List ℕ = λ a b. seen_line config t (response_at responses t) a b in
    added ∙ (ap (λ l. l ++ line all behind) is ∙ (ap (λ a. seen_lines config app events responses t ++ line a behind) all_is
    ∙ (ap (λ b. seen_lines config app events responses t ++ line (longest_seen config app t true events) b) behind_is ∙ sym (ap (seen_lines config app events responses) (add-one t)))))

pub above-more : (config : Config) (app : App) (load : List Entry) (cuts : ℕ → Bool) (events : List Stamped) (t : ℕ) (cut : Bool) (found this more : Option Excess)
    → found ≡ above_among config app load cuts events t → this ≡ above_limit config app cut t events (work load t) → cut ≡ cuts t → more ≡ earlier found this
    → more ≡ above_among config app load cuts events (t + 1)
above-more config app load cuts events t cut found this more is here cut_is e =
    e ∙ (ap (λ o. earlier o this) is ∙ (ap (λ o. earlier (above_among config app load cuts events t) o) (here ∙ ap (λ b. above_limit config app b t events (work load t)) cut_is)
    ∙ sym (ap (above_among config app load cuts events) (add-one t))))

-- ---- ticks

no_tick_lines : (config : Config) (load : List Entry) (events : List Stamped) (n : Option ℕ) → tick_lines config load events n 0 ≡ []
unfolding tick_lines
no_tick_lines config load events n = refl

one_tick_more : (config : Config) (load : List Entry) (events : List Stamped) (n : Option ℕ) (c : ℕ)
    → tick_lines config load events n (c + 1) ≡ tick_lines config load events n c ++ tick_line config load events n c
unfolding tick_lines
one_tick_more config load events n c = ap (tick_lines config load events n) (add-one c)

pub ticks-begun : (config : Config) (load : List Entry) (events : List Stamped) (n : Option ℕ) (text : List ℕ) → text ≡ text ++ tick_lines config load events n 0
ticks-begun config load events n text = sym (append-nil text) ∙ ap (λ l. text ++ l) (sym (no_tick_lines config load events n))

pub ticks-longer : (config : Config) (load : List Entry) (events : List Stamped) (n : Option ℕ) (c : ℕ) (old text next : List ℕ) → text ≡ old ++ tick_lines config load events n c
    → next ≡ text ++ tick_line config load events n c → next ≡ old ++ tick_lines config load events n (c + 1)
ticks-longer config load events n c old text next is e =
    e ∙ (ap (λ l. l ++ tick_line config load events n c) is
    ∙ (append_assoc old (tick_lines config load events n c) (tick_line config load events n c) ∙ ap (λ l. old ++ l) (sym (one_tick_more config load events n c))))
