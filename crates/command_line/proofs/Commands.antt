-- Words are those of one command at most.
use Rattle.std.proofs.Common.{◌≡◌, ◌≤◌, ◌∙◌, ℕ, List, ◌∷◌, [], Option, None, Some, refl, sym, ap, subst, get_or, arith}
use Rattle.std.specs.Prelude.{codes, decimal}
use Rattle.std.proofs.lemmas.Fmt.{decimal_injective}
use Rattle.trace_text.specs.declared.events.Form.{Form}
use Rattle.trace_text.specs.declared.events.Form.TheVariants as form
use Rattle.std.specs.Prelude.{Bool, true, false, ◌||◌}
use Rattle.std.specs.Str.{bytes_eq}
use Rattle.std.proofs.lemmas.Bool.{true≢false}
use Rattle.sloth_base.specs.Limits.{count_limit}
use Rattle.command_line.specs.declared.tool.Tool.{Tool}
use Rattle.command_line.specs.declared.tool.Tool.TheVariants as tool
use Rattle.command_line.specs.Tools.{ToolUse, tool_word, tool_words}
use Rattle.command_line.proofs.ToolWords.{same-use}
use Rattle.command_line.specs.Command.{Command, Building, Execution, Run, Builds, Executes, Lists, Samples, Uses, word_of, words_by, spelling, IsInLimit, KeepsLimit, IsCommand}

same-form : (f g : Form) → word_of f ≡ word_of g → f ≡ g
same-form form.Counted form.Counted e = refl
same-form form.Bare form.Bare e = refl
same-form form.Counted form.Bare e = absurd (let d : codes "run" ≡ codes "order" = e in cc)
same-form form.Bare form.Counted e = absurd (let d : codes "order" ≡ codes "run" = e in cc)

same-run : (r s : Run) → r.form ≡ s.form → r.arr ≡ s.arr → r.n ≡ s.n → r ≡ s
same-run r s f a n =
    ap (λ x. record { form = x; arr = r.arr; n = r.n }) f ∙ ap (λ x. record { form = s.form; arr = x; n = r.n }) a ∙ ap (λ x. record { form = s.form; arr = s.arr; n = x }) n

same-building : (c d : Building) → c.oil ≡ d.oil → c.src ≡ d.src → c.img ≡ d.img → c.run ≡ d.run → c ≡ d
same-building c d o s i r =
    ap (λ x. record { oil = x; src = c.src; img = c.img; run = c.run }) o ∙ ap (λ x. record { oil = d.oil; src = x; img = c.img; run = c.run }) s
    ∙ ap (λ x. record { oil = d.oil; src = d.src; img = x; run = c.run }) i ∙ ap (λ x. record { oil = d.oil; src = d.src; img = d.img; run = x }) r

same-execution : (d e : Execution) → d.img ≡ e.img → d.arr ≡ e.arr → d.n ≡ e.n → d ≡ e
same-execution d e i a n =
    ap (λ x. record { img = x; arr = d.arr; n = d.n }) i ∙ ap (λ x. record { img = e.img; arr = x; n = d.n }) a ∙ ap (λ x. record { img = e.img; arr = e.arr; n = x }) n

same-runs : (o s i p t j : List ℕ) (r q : Run) → words_by o s i (Some r) ≡ words_by p t j (Some q) → r.n ≤ count_limit → q.n ≤ count_limit → r ≡ q
same-runs o s i p t j r q e l m =
    let words : word_of r.form ∷ o ∷ s ∷ r.arr ∷ i ∷ decimal r.n ∷ [] ≡ word_of q.form ∷ p ∷ t ∷ q.arr ∷ j ∷ decimal q.n ∷ [] = e in
    let first : word_of r.form ≡ word_of q.form = cc in
    let arr : r.arr ≡ q.arr = cc in
    let digits : decimal r.n ≡ decimal q.n = cc in
    same-run r q (same-form r.form q.form first) arr (decimal_injective r.n q.n (omega (arith, l)) (omega (arith, m)) digits)

same-parts : (o s i p t j : List ℕ) (r q : Option Run) → words_by o s i r ≡ words_by p t j q → IsInLimit r → IsInLimit q → (o ≡ p) × (s ≡ t) × (i ≡ j) × (r ≡ q)
same-parts o s i p t j None None e l m =
    let words : codes "build" ∷ o ∷ s ∷ i ∷ [] ≡ codes "build" ∷ p ∷ t ∷ j ∷ [] = e in
    let one : o ≡ p = cc in
    let two : s ≡ t = cc in
    let three : i ≡ j = cc in
    (one, two, three, refl)
same-parts o s i p t j (Some r) (Some q) e l m =
    let words : word_of r.form ∷ o ∷ s ∷ r.arr ∷ i ∷ decimal r.n ∷ [] ≡ word_of q.form ∷ p ∷ t ∷ q.arr ∷ j ∷ decimal q.n ∷ [] = e in
    let one : o ≡ p = cc in
    let two : s ≡ t = cc in
    let three : i ≡ j = cc in
    (one, two, three, ap Some (same-runs o s i p t j r q e l m))
same-parts o s i p t j None (Some q) e l m =
    let words : codes "build" ∷ o ∷ s ∷ i ∷ [] ≡ word_of q.form ∷ p ∷ t ∷ q.arr ∷ j ∷ decimal q.n ∷ [] = e in cc
same-parts o s i p t j (Some r) None e l m =
    let words : word_of r.form ∷ o ∷ s ∷ r.arr ∷ i ∷ decimal r.n ∷ [] ≡ codes "build" ∷ p ∷ t ∷ j ∷ [] = e in cc

-- the words of another command are those of none that builds
not-exec : (o s i img arr n : List ℕ) (r : Option Run) → words_by o s i r ≡ codes "exec" ∷ img ∷ arr ∷ n ∷ [] → ⊥
not-exec o s i img arr n None e = let words : codes "build" ∷ o ∷ s ∷ i ∷ [] ≡ codes "exec" ∷ img ∷ arr ∷ n ∷ [] = e in cc
not-exec o s i img arr n (Some r) e = let words : word_of r.form ∷ o ∷ s ∷ r.arr ∷ i ∷ decimal r.n ∷ [] ≡ codes "exec" ∷ img ∷ arr ∷ n ∷ [] = e in cc

not-list : (o s i img : List ℕ) (r : Option Run) → words_by o s i r ≡ codes "list" ∷ img ∷ [] → ⊥
not-list o s i img None e = let words : codes "build" ∷ o ∷ s ∷ i ∷ [] ≡ codes "list" ∷ img ∷ [] = e in cc
not-list o s i img (Some r) e = let words : word_of r.form ∷ o ∷ s ∷ r.arr ∷ i ∷ decimal r.n ∷ [] ≡ codes "list" ∷ img ∷ [] = e in cc

not-sample : (o s i seed img : List ℕ) (r : Option Run) → words_by o s i r ≡ codes "sample" ∷ seed ∷ img ∷ [] → ⊥
not-sample o s i seed img None e = let words : codes "build" ∷ o ∷ s ∷ i ∷ [] ≡ codes "sample" ∷ seed ∷ img ∷ [] = e in cc
not-sample o s i seed img (Some r) e = let words : word_of r.form ∷ o ∷ s ∷ r.arr ∷ i ∷ decimal r.n ∷ [] ≡ codes "sample" ∷ seed ∷ img ∷ [] = e in cc

same-sample : (a b : ℕ) (img other : List ℕ) → a ≡ b → img ≡ other → Samples a img ≡ Samples b other
same-sample a b img other e i = ap (λ x. Samples x img) e ∙ ap (λ x. Samples b x) i

-- the first word of a command that is no tool
abbrev stands : List ℕ → Bool
stands word =
    bytes_eq word (codes "build") || (bytes_eq word (codes "run") || (bytes_eq word (codes "order")
    || (bytes_eq word (codes "exec") || (bytes_eq word (codes "list") || bytes_eq word (codes "sample")))))

-- is no tool's
tool-apart : (t : Tool) → stands (tool_word t) ≡ false
tool-apart tool.Elf = refl
tool-apart t = refl

apart : (t : Tool) (word : List ℕ) → stands word ≡ true → tool_word t ≡ word → ⊥
apart t word stood e = let not : stands word ≡ false = subst (λ w. stands w ≡ false) e (tool-apart t) in true≢false (sym stood ∙ not)

not-tool : (c : Command) (used : ToolUse) (word : List ℕ) → stands word ≡ true → get_or (spelling c) 0 [] ≡ word → tool_words used ≡ spelling c → ⊥
not-tool c used word stood is e = apart used.tool word stood (ap (λ words. get_or words 0 []) e ∙ is)

built-word : (r : Option Run) (o s i : List ℕ) → stands (get_or (words_by o s i r) 0 []) ≡ true
built-word None o s i = refl
built-word (Some r) o s i = form-word r.form
  where
    form-word : (f : Form) → stands (word_of f) ≡ true
    form-word form.Counted = refl
    form-word form.Bare = refl

same-words : (c d : Command) → spelling c ≡ spelling d → KeepsLimit c → KeepsLimit d → c ≡ d
same-words (Builds b) (Builds d) e l m =
    let parts = same-parts b.oil b.src b.img d.oil d.src d.img b.run d.run e l m in ap Builds (same-building b d parts.0 parts.1 parts.2 parts.3)
same-words (Builds b) (Executes d) e l m = absurd (not-exec b.oil b.src b.img d.img d.arr (decimal d.n) b.run e)
same-words (Builds b) (Lists img) e l m = absurd (not-list b.oil b.src b.img img b.run e)
same-words (Builds b) (Samples seed img) e l m = absurd (not-sample b.oil b.src b.img (decimal seed) img b.run e)
same-words (Executes b) (Builds d) e l m = absurd (not-exec d.oil d.src d.img b.img b.arr (decimal b.n) d.run (sym e))
same-words (Executes b) (Executes d) e l m =
    let words : codes "exec" ∷ b.img ∷ b.arr ∷ decimal b.n ∷ [] ≡ codes "exec" ∷ d.img ∷ d.arr ∷ decimal d.n ∷ [] = e in
    let img : b.img ≡ d.img = cc in
    let arr : b.arr ≡ d.arr = cc in
    let digits : decimal b.n ≡ decimal d.n = cc in
    ap Executes (same-execution b d img arr (decimal_injective b.n d.n (omega (arith, l)) (omega (arith, m)) digits))
same-words (Executes b) (Lists img) e l m = absurd (let words : codes "exec" ∷ b.img ∷ b.arr ∷ decimal b.n ∷ [] ≡ codes "list" ∷ img ∷ [] = e in cc)
same-words (Executes b) (Samples seed img) e l m =
    absurd (let words : codes "exec" ∷ b.img ∷ b.arr ∷ decimal b.n ∷ [] ≡ codes "sample" ∷ decimal seed ∷ img ∷ [] = e in cc)
same-words (Lists img) (Builds d) e l m = absurd (not-list d.oil d.src d.img img d.run (sym e))
same-words (Lists img) (Executes d) e l m = absurd (let words : codes "list" ∷ img ∷ [] ≡ codes "exec" ∷ d.img ∷ d.arr ∷ decimal d.n ∷ [] = e in cc)
same-words (Lists img) (Lists other) e l m = let words : codes "list" ∷ img ∷ [] ≡ codes "list" ∷ other ∷ [] = e in let same : img ≡ other = cc in ap Lists same
same-words (Lists img) (Samples seed other) e l m = absurd (let words : codes "list" ∷ img ∷ [] ≡ codes "sample" ∷ decimal seed ∷ other ∷ [] = e in cc)
same-words (Samples seed img) (Builds d) e l m = absurd (not-sample d.oil d.src d.img (decimal seed) img d.run (sym e))
same-words (Samples seed img) (Executes d) e l m =
    absurd (let words : codes "sample" ∷ decimal seed ∷ img ∷ [] ≡ codes "exec" ∷ d.img ∷ d.arr ∷ decimal d.n ∷ [] = e in cc)
same-words (Samples seed img) (Lists other) e l m = absurd (let words : codes "sample" ∷ decimal seed ∷ img ∷ [] ≡ codes "list" ∷ other ∷ [] = e in cc)
same-words (Samples seed img) (Samples other to) e l m =
    let words : codes "sample" ∷ decimal seed ∷ img ∷ [] ≡ codes "sample" ∷ decimal other ∷ to ∷ [] = e in
    let digits : decimal seed ≡ decimal other = cc in
    let same : img ≡ to = cc in
    same-sample seed other img to (decimal_injective seed other (omega (arith, l)) (omega (arith, m)) digits) same
same-words (Uses u) (Uses w) e l m = ap Uses (same-use u w e l m)
same-words (Uses u) (Builds d) e l m = absurd (not-tool (Builds d) u _ (built-word d.run d.oil d.src d.img) refl e)
same-words (Uses u) (Executes d) e l m = absurd (not-tool (Executes d) u (codes "exec") refl refl e)
same-words (Uses u) (Lists img) e l m = absurd (not-tool (Lists img) u (codes "list") refl refl e)
same-words (Uses u) (Samples seed img) e l m = absurd (not-tool (Samples seed img) u (codes "sample") refl refl e)
same-words (Builds b) (Uses u) e l m = absurd (not-tool (Builds b) u _ (built-word b.run b.oil b.src b.img) refl (sym e))
same-words (Executes b) (Uses u) e l m = absurd (not-tool (Executes b) u (codes "exec") refl refl (sym e))
same-words (Lists img) (Uses u) e l m = absurd (not-tool (Lists img) u (codes "list") refl refl (sym e))
same-words (Samples seed img) (Uses u) e l m = absurd (not-tool (Samples seed img) u (codes "sample") refl refl (sym e))

pub one-command : (words : List (List ℕ)) (c d : Command) → IsCommand words c → IsCommand words d → c ≡ d
one-command words c d h i = same-words c d (sym h.0 ∙ i.0) h.1 i.1
