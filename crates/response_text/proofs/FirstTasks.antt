-- The lines of the first tasks and counters.
use Rattle.std.proofs.Common.{◌≡◌, ◌+◌, ◌<◌, ◌||◌, ℕ, zero, suc, List, [], ◌++◌, Option, refl, sym, ap, ◌∙◌, arith}
use Rattle.std.proofs.lemmas.List.{append_assoc, append-nil}
use Rattle.std.proofs.Math.Numerals.{add-one}
use Rattle.sloth_base.specs.declared.config.Config.{Config}
use Rattle.sloth_base.specs.declared.app.App.{App}
use Rattle.load_text.specs.declared.load_line.Entry.{Entry}
use Rattle.load_text.specs.Loads.{deadline}
use Rattle.response_text.specs.declared.task_text.Response.{Response}
use Rattle.response_reasons.specs.declared.reasons.Reason.{Reason}
use Rattle.response_text.specs.Lines.{is_open, response_at, reason_at, response_line, response_lines, counter_row, counter_rows, has_open}

pub no_lines : (config : Config) (app : App) (load : List Entry) (responses : List Response) (reasons : List (Option Reason)) → response_lines config app load responses reasons 0 ≡ []
unfolding response_lines
no_lines config app load responses reasons = refl

pub one_line_more : (config : Config) (app : App) (load : List Entry) (responses : List Response) (reasons : List (Option Reason)) (t : ℕ)
    → response_lines config app load responses reasons (t + 1)
    ≡ response_lines config app load responses reasons t ++ response_line config app load t (response_at responses t) (reason_at reasons t)
unfolding response_lines
one_line_more config app load responses reasons t = ap (response_lines config app load responses reasons) (add-one t)

no_counter_rows : (config : Config) (load : List Entry) (n : Option ℕ) → counter_rows config load n 0 ≡ []
unfolding counter_rows
no_counter_rows config load n = refl

one_row_more : (config : Config) (load : List Entry) (n : Option ℕ) (c : ℕ) → counter_rows config load n (c + 1) ≡ counter_rows config load n c ++ counter_row config load n c
unfolding counter_rows
one_row_more config load n c = ap (counter_rows config load n) (add-one c)

pub rows_begun : (config : Config) (load : List Entry) (n : Option ℕ) (text : List ℕ) → text ≡ text ++ counter_rows config load n 0
rows_begun config load n text = sym (append-nil text) ∙ ap (λ l. text ++ l) (sym (no_counter_rows config load n))

pub rows_longer : (config : Config) (load : List Entry) (n : Option ℕ) (c : ℕ) (old text next : List ℕ) → text ≡ old ++ counter_rows config load n c
    → next ≡ text ++ counter_row config load n c → next ≡ old ++ counter_rows config load n (c + 1)
rows_longer config load n c old text next is e =
    e ∙ (ap (λ l. l ++ counter_row config load n c) is
    ∙ (append_assoc old (counter_rows config load n c) (counter_row config load n c) ∙ ap (λ l. old ++ l) (sym (one_row_more config load n c))))

pub one_more_open : (load : List Entry) (responses : List Response) (t : ℕ)
    → has_open load responses (t + 1) ≡ (has_open load responses t || is_open (response_at responses t) (deadline load t))
one_more_open load responses t = ap (has_open load responses) (add-one t)

-- ---- lines of the same responses

pub same_lines : (config : Config) (app : App) (load : List Entry) (one other : List Response) (why because : List (Option Reason)) (n : ℕ)
    → ((t : ℕ) → t < n → response_at one t ≡ response_at other t) → ((t : ℕ) → t < n → reason_at why t ≡ reason_at because t)
    → response_lines config app load one why n ≡ response_lines config app load other because n
unfolding response_lines
same_lines config app load one other why because zero e r = refl
same_lines config app load one other why because (suc n) e r =
    ap (λ l. l ++ response_line config app load n (response_at one n) (reason_at why n))
    (same_lines config app load one other why because n (λ t lt. e t (omega (arith, lt))) (λ t lt. r t (omega (arith, lt))))
    ∙ ap (λ l. response_lines config app load other because n ++ l)
    (ap (λ x. response_line config app load n x (reason_at why n)) (e n (omega arith)) ∙ ap (response_line config app load n (response_at other n)) (r n (omega arith)))

pub same_open : (load : List Entry) (one other : List Response) (n : ℕ) → ((t : ℕ) → t < n → response_at one t ≡ response_at other t)
    → has_open load one n ≡ has_open load other n
same_open load one other zero e = refl
same_open load one other (suc n) e =
    ap (λ b. b || is_open (response_at one n) (deadline load n)) (same_open load one other n (λ t lt. e t (omega (arith, lt))))
    ∙ ap (λ r. has_open load other n || is_open r (deadline load n)) (e n (omega arith))
