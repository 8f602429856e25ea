use Rattle.std.proofs.Common.{◌≡◌, ◌∙◌, ⊎_elim, inl, inr, ℕ, ◌<◌, ◌≤◌, List, length, get_or, take, sym, ap, arith}
use Rattle.std.specs.Prelude.{map}
use Rattle.std.proofs.lemmas.List.{length-map}
use Rattle.sloth_base.specs.Owners.{counter_line}
use Rattle.sloth_base.specs.Limits.{task_limit}
use Rattle.mem_map.specs.Starts.{starts, end_of}
use Rattle.mem_map.specs.Starts.{code_byte_count}
use Rattle.mem_map.specs.Plan.{prologues_at, ticks_at}
use Rattle.mem_map.proofs.Starts.{length_starts}
use Rattle.mem_map.proofs.planning.plan_code.Goals as goal

-- pieces, as the calls told of them
placed : (from : ℕ) (found made sizes wanted : List ℕ) → found ≡ made → made ≡ starts from (map code_byte_count sizes) → sizes ≡ wanted
    → found ≡ starts from (map code_byte_count wanted)
placed from found made sizes wanted e f g = e ∙ f ∙ ap (λ (l : List ℕ). starts from (map code_byte_count l)) g

-- the same behind other pieces
behind : (from start : ℕ) (found made sizes wanted before told : List ℕ) → from ≡ end_of start (map code_byte_count before) → before ≡ told → found ≡ made
    → made ≡ starts from (map code_byte_count sizes) → sizes ≡ wanted → found ≡ starts (end_of start (map code_byte_count told)) (map code_byte_count wanted)
behind from start found made sizes wanted before told at same e f g =
    placed from found made sizes wanted e f g
    ∙ ap (λ (k : ℕ). starts k (map code_byte_count wanted)) (at ∙ ap (λ (l : List ℕ). end_of start (map code_byte_count l)) same)

long : (from : ℕ) (found wanted : List ℕ) → found ≡ starts from (map code_byte_count wanted) → length found ≡ length wanted
long from found wanted e = ap length e ∙ length_starts from (map code_byte_count wanted) ∙ length-map wanted code_byte_count

pub handlers-requires : goal.handlers-requires
handlers-requires c =
    let lengths = c.args.lengths.now in
    let e = placed (prologues_at lengths) _ _ _ lengths.prologues c.items-4.ensures c.in_ok-prologues.ensures.starts c.items.ensures in
    let f = behind _ (prologues_at lengths) _ _ _ lengths.ticks _ lengths.prologues c.in_ok-prologues.ensures.end c.items.ensures c.items-5.ensures
    c.in_ok-ticks.ensures.starts c.items-2.ensures in
    let n = long (prologues_at lengths) _ lengths.prologues e in
    let m = long (ticks_at lengths) _ lengths.ticks f in
    let few = c.requires.few in
    (omega (arith, n, few.0), omega (arith, m, few.1))

pub returns-clause-prologues : goal.returns-clause-prologues
returns-clause-prologues c =
    let lengths = c.args.lengths.now in
    let e = placed (prologues_at lengths) _ _ _ lengths.prologues c.items-4.ensures c.in_ok-prologues.ensures.starts c.items.ensures in
    let n = long (prologues_at lengths) _ lengths.prologues e in
    ap (λ (k : ℕ). take k c.handlers.result) (sym n) ∙ c.handlers.ensures.prologues ∙ e

pub returns-clause-ticks : goal.returns-clause-ticks
returns-clause-ticks c = λ counter l.
    let lengths = c.args.lengths.now in
    let f = behind _ (prologues_at lengths) _ _ _ lengths.ticks _ lengths.prologues c.in_ok-prologues.ensures.end c.items.ensures c.items-5.ensures
    c.in_ok-ticks.ensures.starts c.items-2.ensures in
    let m = long (ticks_at lengths) _ lengths.ticks f in
    c.handlers.ensures.ticks counter (omega (arith, m, l)) ∙ ap (λ starts. get_or starts counter 0) f

pub returns-clause-unused : goal.returns-clause-unused
returns-clause-unused c = λ line l m other.
    let lengths = c.args.lengths.now in
    let e = placed (prologues_at lengths) _ _ _ lengths.prologues c.items-4.ensures c.in_ok-prologues.ensures.starts c.items.ensures in
    let n = long (prologues_at lengths) _ lengths.prologues e in
    let f = behind _ (prologues_at lengths) _ _ _ lengths.ticks _ lengths.prologues c.in_ok-prologues.ensures.end c.items.ensures c.items-5.ensures
    c.in_ok-ticks.ensures.starts c.items-2.ensures in
    let k = long (ticks_at lengths) _ lengths.ticks f in
    c.handlers.ensures.unused line (omega (arith, n, l)) m
    (⊎_elim (λ (b : line < task_limit). inl b) (λ (b : counter_line (length lengths.ticks) ≤ line). inr (omega (arith, b, k))) other)
