-- Texts have one list of lines with a latency at most.
use Rattle.std.proofs.Common.{◌≡◌, ◌∙◌, ℕ, ◌<◌, ◌++◌, List, [], Option, get_or, length, sym, ap, subst, arith}
use Rattle.std.proofs.lemmas.List.{ext_get_or}
use Rattle.sloth_base.specs.declared.config.Config.{Config}
use Rattle.sloth_base.specs.declared.app.App.{App}
use Rattle.sloth_source.proofs.Unique.{one_meaning}
use Rattle.bound_rules.specs.declared.bound.Bound.{Bound}
use Rattle.bound_rules.specs.declared.bound.Bound.TheVariants as bound
use Rattle.sim_induction.specs.Items.{AreLengths}
use Rattle.walk_sums.specs.Sections.{AreAllSums}
use Rattle.bounds_text.specs.Bounds.{AreToldBounds}
use Rattle.bounds_text.proofs.OneTold.{one_told}
use Rattle.bounds_text.specs.BoundsText.{bound_lines}
use Rattle.bounds_text.specs.Latency.{tick_lines, last_line, HasLatency, OneLatencyText}
use Rattle.bounds_text.proofs.Lines.{same-lines}
use Rattle.bounds_text.proofs.Keeping.{one-highest}
use Rattle.bounds_text.proofs.OneLowerCounts.{same-length, same-weights, same-table}

same-bound : (config : Config) (app : App) (one other : List Bound) → AreToldBounds config app one → AreToldBounds config app other
    → (t : ℕ) → t < length config.tasks → get_or one t bound.Endless ≡ get_or other t bound.Endless
same-bound config app one other a b t lt = one_told config app t (get_or one t bound.Endless) (get_or other t bound.Endless) (a.each t lt) (b.each t lt)

-- items have one list of lengths for each body
pub same-lengths : (app : App) (one other : List (List ℕ)) → AreLengths app one → AreLengths app other → one ≡ other
same-lengths app one other a b =
    ext_get_or [] one other (a.count ∙ sym b.count)
    (λ f h.
    let count = a.count in
    let known : f < length app.funcs = omega (arith, h, count) in
    let p = a.each f known in
    let q = b.each f known in
    ext_get_or 0 (get_or one f []) (get_or other f []) (p.are_lengths.count ∙ sym q.are_lengths.count)
    (λ i inside. let items = p.are_lengths.count in same-length app one other a b f i known (omega (arith, inside, items))))

same-latency : (config : Config) (app : App) (one other : List ℕ) → HasLatency config app one → HasLatency config app other → one ≡ other
same-latency config app one other a b =
    let lengths = same-lengths app a.lengths b.lengths a.are_lengths b.are_lengths in
    let weights = same-weights app a.weights b.weights (a.lengths, a.are_lengths, a.are_counts) (b.lengths, b.are_lengths, b.are_counts) in
    let table =
    same-table config app a.weights a.table b.table a.are_sums (subst (λ w. AreAllSums config app w b.table) (sym weights) b.are_sums) in
    let bounds = same-lines config.tasks a.bounds b.bounds (length config.tasks) (same-bound config app a.bounds b.bounds a.are_bounds b.are_bounds) in
    let highest = one-highest config a.highest b.highest a.is_highest b.is_highest in
    a.lines
    ∙ ap (λ lines. (lines ++ tick_lines config (length config.counters)) ++ last_line config app a.lengths a.weights a.table a.highest) bounds
    ∙ ap (λ l. (bound_lines config.tasks b.bounds (length config.tasks) ++ tick_lines config (length config.counters)) ++ last_line config app l a.weights a.table a.highest) lengths
    ∙ ap (λ w. (bound_lines config.tasks b.bounds (length config.tasks) ++ tick_lines config (length config.counters)) ++ last_line config app b.lengths w a.table a.highest) weights
    ∙ ap (λ t. (bound_lines config.tasks b.bounds (length config.tasks) ++ tick_lines config (length config.counters)) ++ last_line config app b.lengths b.weights t a.highest) table
    ∙ ap (λ (h : Option ℕ). (bound_lines config.tasks b.bounds (length config.tasks) ++ tick_lines config (length config.counters)) ++ last_line config app b.lengths b.weights b.table h) highest
    ∙ sym b.lines

pub one_latency_text : OneLatencyText
one_latency_text oil src one other a b =
    let same = one_meaning oil src a.config b.config a.app b.app a.accepted b.accepted in
    let there : HasLatency a.config a.app other =
    subst (λ c. HasLatency c a.app other) (sym same.0) (subst (λ x. HasLatency b.config x other) (sym same.1) b.has_latency) in
    same-latency a.config a.app one other a.has_latency there
