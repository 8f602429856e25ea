-- What is computed of verified task code are its bounds.
use Rattle.std.proofs.Common.{◌≡◌, ℕ, ◌+◌, ◌*◌, ◌<◌, Bool, false, List, [], length, get_or, sym, ap, ◌∙◌, subst, arith}
use Rattle.std.specs.Prelude.{All}
use Rattle.std.proofs.lemmas.List.{get_or_default}
use Rattle.sloth_base.specs.declared.config.Config.{Config}
use Rattle.sloth_base.specs.declared.config.TaskDecl.{TaskDecl}
use Rattle.sloth_base.specs.declared.app.App.{App}
use Rattle.sloth_base.specs.declared.app.Func.{Func}
use Rattle.sloth_base.specs.Named.{declaration, function, body_of}
use Rattle.code_rules.specs.WellFormed.{WellFormed}
use Rattle.call_graph.specs.declared.lists.Ranks.{Ranks}
use Rattle.call_graph.specs.Ranks.{RanksOf}
use Rattle.stack_bounds.specs.Bounds.{total, IsGreatest, context_bytes, frame_bytes, call_bytes, CallsInTurn, used_bytes, AreBounds, HaveStackRoom, IsLength}
use Rattle.call_graph.specs.Tables.{table_entry, IsTable, task_bytes, gives_way, most_stacked, task_at}
use Rattle.stack_bounds.proofs.Bodies.{has_body, callable}
use Rattle.stack_bounds.proofs.Chains.{greatest, greatest_small, inwards, words}
use Rattle.stack_bounds.proofs.Rows.{AreRows, preempted, greatest_shared}

-- with the same bytes more on both sides
with_more : (Kind : List ℕ → Type 0) (size : List ℕ → ℕ) (n before behind : ℕ) → IsGreatest Kind size n
    → IsGreatest Kind (λ list. before + size list + behind) (before + n + behind)
with_more Kind size n before behind is = record {
  some = (is.some.0, is.some.1, ap (λ (x : ℕ). before + x + behind) is.some.2);
  none_greater = λ list kind. let l = is.none_greater list kind in omega (arith, l);
}

-- the tables of verified task code
pub record AreTables (config : Config) (app : App) (ranks : Ranks) (table : List ℕ) (yielding : List Bool) (bytes : List ℕ) : Type 0 where
  pub verified : WellFormed config app
  pub belong : RanksOf app ranks
  pub calls : IsTable app.funcs (length app.funcs) table
  pub bytes_count : length bytes ≡ length config.tasks
  pub bytes_are : (t : ℕ) → t < length config.tasks → get_or bytes t 0 ≡ task_bytes app.funcs table t
  pub yielding_count : length yielding ≡ length config.tasks
  pub yielding_are : (t : ℕ) → t < length config.tasks
      → get_or yielding t false ≡ gives_way (declaration config t) (get_or ranks.pauses (body_of app.funcs t) false)

-- they are those that the functions make
pub made : (config : Config) (app : App) (ranks : Ranks) (tasks : List TaskDecl) (funcs : List Func) (pauses : List Bool) (table slice : List ℕ) (yielding : List Bool) (bytes : List ℕ)
    → WellFormed config app → RanksOf app ranks → tasks ≡ config.tasks → funcs ≡ app.funcs → pauses ≡ ranks.pauses → slice ≡ table → IsTable funcs (length funcs) table
    → length bytes ≡ length tasks → ((t : ℕ) → t < length tasks → get_or bytes t 0 ≡ task_bytes funcs slice t)
    → length yielding ≡ length tasks → ((t : ℕ) → t < length tasks → get_or yielding t false ≡ gives_way (task_at tasks t) (get_or pauses (body_of funcs t) false))
    → AreTables config app ranks table yielding bytes
made config app ranks tasks funcs pauses table slice yielding bytes w belong e f p s calls count are yields yield = record {
  verified = w;
  belong = belong;
  calls = subst (λ (x : List Func). IsTable x (length x) table) f calls;
  bytes_count = count ∙ ap length e;
  bytes_are = λ t l. are t (subst (λ (x : List TaskDecl). t < length x) (sym e) l)
      ∙ ap (λ (x : List Func). task_bytes x slice t) f
      ∙ ap (λ (x : List ℕ). task_bytes app.funcs x t) s;
  yielding_count = yields ∙ ap length e;
  yielding_are = preempted config app ranks tasks funcs pauses yielding e f p yield;
}

module _ (config : Config) (app : App) (ranks : Ranks) (table : List ℕ) (yielding : List Bool) (bytes : List ℕ)
    (h : AreTables config app ranks table yielding bytes) where
  -- ---- each task's bytes

  greatest_calls : (f : ℕ) → f < length app.funcs → IsGreatest (CallsInTurn app f) (total (call_bytes app)) (table_entry table f)
  greatest_calls f known =
      subst (IsGreatest (CallsInTurn app f) (total (call_bytes app))) (sym (h.calls.calls f known)) (greatest app (callable config app h.verified.in_range) ranks h.belong f known)

  greatest_bytes : (t : ℕ) → t < length config.tasks
      → IsGreatest (CallsInTurn app (body_of app.funcs t)) (used_bytes app (body_of app.funcs t)) (get_or bytes t 0)
  greatest_bytes t declared =
      let body = body_of app.funcs t in
      subst (IsGreatest (CallsInTurn app body) (used_bytes app body)) (sym (h.bytes_are t declared))
      (with_more (CallsInTurn app body) (total (call_bytes app)) (table_entry table body) (frame_bytes app body) context_bytes
      (greatest_calls body (has_body config app h.verified.in_range t declared).0))

  length_is : (t : ℕ) → t < length config.tasks → IsLength (get_or bytes t 0)
  length_is t declared =
      let body = body_of app.funcs t in
      let known = (has_body config app h.verified.in_range t declared).0 in
      let functions = callable config app h.verified.in_range in
      let calls = greatest_calls body known in
      let small = greatest_small app functions ranks h.belong body (table_entry table body) known calls in
      let frame = functions.frames body known in
      let is = h.bytes_are t declared in
      let whole = words app calls.some.0 in
      let e = calls.some.2 in
      let f = whole.1 in
      let all : get_or bytes t 0 ≡ 4 * ((function app body).frame_words + whole.0 + 32) = omega (arith, is, e, f) in
      (omega (arith, is, small, frame), omega (arith, all))

  lengths : All IsLength bytes
  lengths t d l = let declared : t < length config.tasks = subst (λ (n : ℕ). t < n) h.bytes_count l in
      subst IsLength (get_or_default bytes t 0 d l) (length_is t declared)

  pub rows : AreRows config app ranks yielding bytes
  rows = record {
    verified = h.verified;
    belong = h.belong;
    bytes_count = h.bytes_count;
    lengths = lengths;
    yielding_count = h.yielding_count;
    yielding_are = h.yielding_are;
  }

  room : (shared : ℕ) → HaveStackRoom config app (record { bytes = bytes; shared = shared })
  room shared t f callers declared called =
      let whole = inwards app t f callers [] called tt in
      let most = (greatest_bytes t declared).none_greater whole.0 whole.1 in
      let e = whole.2 in
      omega (arith, most, e)

  pub bounds : AreBounds config app (record { bytes = bytes; shared = most_stacked config.tasks yielding bytes })
  bounds = record {
    count = h.bytes_count;
    bytes = λ t body is.
        let declared = h.verified.in_range.tasks.declared t body is in
        let same = h.verified.in_range.tasks.one t (body_of app.funcs t) body (has_body config app h.verified.in_range t declared) is in
        subst (λ (b : ℕ). IsGreatest (CallsInTurn app b) (used_bytes app b) (get_or bytes t 0)) same (greatest_bytes t declared);
    shared = greatest_shared config app ranks yielding bytes rows;
    lengths = lengths;
    room = room (most_stacked config.tasks yielding bytes);
  }
