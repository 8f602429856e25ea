-- Tables of calls that are so many deep.
use Rattle.std.proofs.Common.{◌≡◌, ℕ, zero, suc, ◌+◌, ◌*◌, ◌<◌, ◌≤◌, ⊎_elim, List, length, get_or, refl, sym, ap, ◌∙◌, subst, arith}
use Rattle.std.proofs.lemmas.Bool.{cases_lt}
use Rattle.std.proofs.lemmas.List.{get_or_past}
use Rattle.sloth_base.specs.declared.app.Func.{Func}
use Rattle.sloth_base.specs.declared.app.Op.{Op}
use Rattle.sloth_base.specs.declared.app.Op.TheVariants as op
use Rattle.sloth_base.specs.Named.{no_item}
use Rattle.sloth_base.specs.Limits.{body_limit, frame_limit}
use Rattle.call_graph.specs.Tables.{func_of, bytes_called, most_called, calls_to_depth, table_entry, IsTable, IsKnownCall, IsTableInLimit, AreCallable}
use Rattle.stack_bounds.proofs.Below.{max_below-le, max_below-same}

module _ (funcs : List Func) where
  called_le : (further : ℕ → ℕ) (bound : ℕ) → ((f : ℕ) → f < length funcs → (func_of funcs f).frame_words ≤ frame_limit) → ((f : ℕ) → f < length funcs → further f ≤ bound)
      → (o : Op) → IsKnownCall funcs o → bytes_called funcs further o ≤ 132 + bound
  called_le further bound frames h (op.Invoke g) known = let w = frames g known in let m = h g known in omega (arith, w, m)
  called_le further bound frames h _ known = omega arith

  called_same : (one other : ℕ → ℕ) → ((f : ℕ) → f < length funcs → one f ≡ other f)
      → (o : Op) → IsKnownCall funcs o → bytes_called funcs one o ≡ bytes_called funcs other o
  called_same one other h (op.Invoke g) known = ap (λ (x : ℕ). 4 + 4 * (func_of funcs g).frame_words + x) (h g known)
  called_same one other h _ known = refl

  pub depth_small : AreCallable funcs → (depth f : ℕ) → f < length funcs → calls_to_depth funcs depth f ≤ 132 * depth
  depth_small callable zero f l = omega arith
  depth_small callable (suc depth) f l =
      let bound : most_called funcs (λ g. calls_to_depth funcs depth g) (func_of funcs f).items ≤ 132 + 132 * depth =
      max_below-le (length (func_of funcs f).items) (λ i. bytes_called funcs (λ g. calls_to_depth funcs depth g) (get_or (func_of funcs f).items i no_item).op) (132 + 132 * depth)
      (λ i inside. called_le (λ g. calls_to_depth funcs depth g) (132 * depth) callable.frames (λ g known. depth_small callable depth g known)
      (get_or (func_of funcs f).items i no_item).op (callable.callees f i l inside)) in
      omega (arith, bound)

  pub table_small : (depth : ℕ) (table : List ℕ) → AreCallable funcs → depth ≤ body_limit → IsTable funcs depth table → IsTableInLimit funcs table
  table_small depth table callable few is = record {
    count = is.count;
    small = λ f. ⊎_elim
        (λ l. let s = depth_small callable depth f l in let e = is.calls f l in omega (arith, s, e, few))
        (λ past. let c = is.count in let e : table_entry table f ≡ 0 = get_or_past table f 0 (omega (arith, past, c)) in omega (arith, e))
        (cases_lt f (length funcs));
  }

  pub one_deeper : (depth next_depth : ℕ) (table next : List ℕ) → next_depth ≡ suc depth → AreCallable funcs → IsTable funcs depth table → length next ≡ length funcs
      → ((f : ℕ) → f < length funcs → table_entry next f ≡ most_called funcs (table_entry table) (func_of funcs f).items)
      → IsTable funcs next_depth next
  one_deeper depth next_depth table next e callable is count calls = subst (λ (d : ℕ). IsTable funcs d next) (sym e) (record {
    count = count;
    calls = λ f l. calls f l ∙ max_below-same (length (func_of funcs f).items) _ _ (λ i inside.
        called_same (table_entry table) (λ g. calls_to_depth funcs depth g) is.calls (get_or (func_of funcs f).items i no_item).op (callable.callees f i l inside));
  })
