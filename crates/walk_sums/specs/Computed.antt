-- What is computed of one body. Each size is one more than a sum, and 0 where there is no such part.
use Rattle.std.specs.Prelude.{ℕ, ◌+◌, ◌-◌, ltb, max, cond, ◌&&◌, Bool, false, List, length, get_or, Option}
use Rattle.sloth_base.specs.declared.app.Func.{Func}
use Rattle.sloth_base.specs.declared.app.Op.{Op}
use Rattle.sloth_base.specs.declared.app.Op.TheVariants as op
use Rattle.sloth_base.specs.Named.{item_of}
use Rattle.call_graph.specs.Reached.{any_below}
use Rattle.call_graph.specs.Tables.{max_below}
use Rattle.bound_rules.specs.declared.bound.Body.{Body}
use Rattle.bound_rules.specs.declared.bound.Summary.{Summary}
use Rattle.bound_rules.specs.Items.{reaches_level, callee_of}
use Rattle.bound_rules.specs.Summaries.{summary_of, unknown}
use Rattle.bound_rules.specs.Weights.{joined}
use Rattle.walk_sums.specs.declared.levels.Kind.{Kind}
use Rattle.walk_sums.specs.Kinds.{may_begin}

-- ---- what is known

-- what is known of a body: its items, those that are reached with the ceilings before them, the level, and the summaries of the functions that
-- it calls, where the task is raised and where it is not
pub record KnownBody : Type 0 where
  pub func : Func
  pub body : Body
  pub level : Option ℕ
  pub whole : List Summary
  pub own : List Summary

-- these parts as one record
abbrev pub known_body_of : Func → Body → Option ℕ → (whole own : List Summary) → KnownBody
known_body_of func body level whole own = record { func = func; body = body; level = level; whole = whole; own = own }

-- the task is raised before item i, which is reached
abbrev pub is_alive : Body → Option ℕ → ℕ → Bool
is_alive body level i = get_or body.reached i false && reaches_level level (get_or body.ceilings i 0)

-- the summary of a function that is called at item i
abbrev pub callee : KnownBody → (i g : ℕ) → Summary
callee k i g = callee_of k.body k.level k.whole k.own i g

-- that of what item i calls, if it is reached; of which nothing is known, where it calls nothing
abbrev pub called_summary : KnownBody → ℕ → Op → Summary
called_summary k i (op.Invoke g) = cond (get_or k.body.reached i false) (callee k i g) unknown
called_summary k i o = unknown

-- some reached call is of a function in which parts have no limit
abbrev pub calls_endless : KnownBody → Bool
calls_endless k = any_below (length k.func.items) (λ i. (called_summary k i (item_of k.func i).op).is_endless)

-- ---- sizes

-- the functions through which a part may go
abbrev pub is_passed : Summary → Bool
is_passed s = ltb 0 s.back

-- what an operation of this weight adds to a part that goes on behind it
abbrev pub going_size : List Summary → (weight : ℕ) → Op → ℕ
going_size whole weight (op.Invoke g) = joined weight ((summary_of whole g).back - 1)
going_size whole weight o = weight

-- the size of a part that ends with it, or in a function that it calls
abbrev pub ending_size : List Summary → (weight : ℕ) → Op → ℕ
ending_size whole weight (op.Invoke g) = joined weight (max 1 (summary_of whole g).on)
ending_size whole weight o = joined weight 1

-- of one that leaves the function with it: a `ret` does
abbrev pub leaving_size : (weight : ℕ) → Op → ℕ
leaving_size weight op.Return = joined weight 1
leaving_size weight o = 0

-- one part behind another, where there are both
abbrev pub joined_both : ℕ → ℕ → ℕ
joined_both one other = cond (ltb 0 one && ltb 0 other) (joined one (other - 1)) 0

-- the greatest size of a part that begins in the function that item i calls, where it is reached; by the sizes of parts from each item on
abbrev pub called_most : KnownBody → List ℕ → ℕ → Op → ℕ
called_most k on i o = max (called_summary k i o).most (joined_both (called_summary k i o).out (get_or on (i + 1) 0))

-- the size of a part from item i, where one may begin
abbrev pub begun : KnownBody → Kind → List ℕ → ℕ → ℕ
begun k kind table i = cond (may_begin kind k.func k.body.reached i) (get_or table i 0) 0

-- the greatest size of a part that begins at item i, or in the function that it calls
abbrev pub most_at : KnownBody → Kind → List ℕ → ℕ → ℕ
most_at k kind on i = max (begun k kind on i) (called_most k on i (item_of k.func i).op)

-- that of all items
abbrev pub most_of : KnownBody → Kind → List ℕ → ℕ
most_of k kind on = max_below (length k.func.items) (most_at k kind on)

-- the same of a part that ends with the body's `ret`
abbrev pub called_out : KnownBody → List ℕ → ℕ → Op → ℕ
called_out k back i o = joined_both (called_summary k i o).out (get_or back (i + 1) 0)

abbrev pub out_at : KnownBody → Kind → List ℕ → ℕ → ℕ
out_at k kind back i = max (begun k kind back i) (called_out k back i (item_of k.func i).op)

abbrev pub out_of : KnownBody → Kind → List ℕ → ℕ
out_of k kind back = max_below (length k.func.items) (out_at k kind back)

-- the summary by the sizes of parts from each item: of all, and of those that end with the body's `ret`
abbrev pub summary_by : KnownBody → Kind → (on back : List ℕ) → Summary
summary_by k kind on back =
    record { is_endless = false; on = get_or on 0 0; back = get_or back 0 0; most = most_of k kind on; out = out_of k kind back }
