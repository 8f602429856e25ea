-- No size is above the greatest that is counted.
use Rattle.std.proofs.Common.{◌≡◌, ℕ, ◌<◌, ◌≤◌, ◌⊎◌, inl, inr, Bool, true, false, List, length, get_or, cond, sym, ◌∙◌, arith, ⊎_elim}
use Rattle.std.proofs.lemmas.Bool.{cases_eq, cases_lt}
use Rattle.std.proofs.lemmas.List.{get_or_past}
use Rattle.sloth_base.specs.declared.app.Func.{Func}
use Rattle.sloth_base.specs.declared.app.Op.{Op}
use Rattle.sloth_base.specs.declared.app.Op.TheVariants as op
use Rattle.sloth_base.specs.Named.{item_of}
use Rattle.sloth_base.specs.Limits.{size_limit}
use Rattle.walk_sums.specs.declared.graph.Ways.{Ways}
use Rattle.bound_rules.specs.declared.bound.Summary.{Summary}
use Rattle.walk_sums.specs.Trails.{AreSizes, AreSizesInLimit, IsLongest}
use Rattle.bound_rules.specs.declared.bound.BodyWeights.{BodyWeights}
use Rattle.walk_sums.specs.Computed.{going_size, ending_size, leaving_size}
use Rattle.walk_sums.specs.Known.{IsGreatestPart}

going_small : (whole : List Summary) (o : Op) (weight : ℕ) → weight ≤ size_limit → going_size whole weight o ≤ size_limit
going_small whole (op.Invoke g) weight le = omega arith
going_small whole _ weight le = le

ending_small : (whole : List Summary) (o : Op) (weight : ℕ) → weight ≤ size_limit → ending_size whole weight o ≤ size_limit
ending_small whole (op.Invoke g) weight le = omega arith
ending_small whole _ weight le = omega arith

leaving_small : (o : Op) (weight : ℕ) → weight ≤ size_limit → leaving_size weight o ≤ size_limit
leaving_small op.Return weight le = omega arith
leaving_small _ weight le = omega arith

if_small : (b : Bool) (n : ℕ) → n ≤ size_limit → cond b n 0 ≤ size_limit
if_small true n le = le
if_small false n le = omega arith

-- a table with small entries
table_small : (table : List ℕ) (n : ℕ) (size : ℕ → ℕ) → length table ≡ n → ((i : ℕ) → i < n → get_or table i 0 ≡ size i) → ((i : ℕ) → size i ≤ size_limit) → AreSizesInLimit table
table_small table n size count are small i = ⊎_elim
    (λ lt. let e = are i lt in let le = small i in omega (arith, e, le))
    (λ le. let e = get_or_past table i 0 (omega (arith, le, count)) in omega (arith, e))
    (cases_lt i n)

module _ (f : Func) (ways : List Ways) (ways_count : length ways ≡ length f.items) (whole : List Summary) (alive : List Bool) (weights : BodyWeights)
    (going : AreSizesInLimit weights.going) (steps : List ℕ)
    (steps_count : length steps ≡ length f.items) (steps_are : (i : ℕ) → i < length f.items → get_or steps i 0 ≡ going_size whole (get_or weights.going i 0) (item_of f i).op) where
  pub ending_sizes : AreSizesInLimit weights.ending → (ends : List ℕ) → length ends ≡ length f.items
      → ((i : ℕ) → i < length f.items → get_or ends i 0 ≡ cond (get_or alive i false) (ending_size whole (get_or weights.ending i 0) (item_of f i).op) 0) → AreSizes ways steps ends
  ending_sizes ending ends count are = record {
    steps_count = steps_count ∙ sym ways_count;
    ends_count = count ∙ sym ways_count;
    steps_small = table_small steps (length f.items) (λ i. going_size whole (get_or weights.going i 0) (item_of f i).op) steps_count steps_are (λ i. going_small whole (item_of f i).op (get_or weights.going i 0) (going i));
    ends_small = table_small ends (length f.items) (λ i. cond (get_or alive i false) (ending_size whole (get_or weights.ending i 0) (item_of f i).op) 0) count are
        (λ i. if_small (get_or alive i false) (ending_size whole (get_or weights.ending i 0) (item_of f i).op) (ending_small whole (item_of f i).op (get_or weights.ending i 0) (ending i)));
  }

  pub leaving_sizes : (leaves : List ℕ) → length leaves ≡ length f.items
      → ((i : ℕ) → i < length f.items → get_or leaves i 0 ≡ cond (get_or alive i false) (leaving_size (get_or weights.going i 0) (item_of f i).op) 0) → AreSizes ways steps leaves
  leaving_sizes leaves count are = record {
    steps_count = steps_count ∙ sym ways_count;
    ends_count = count ∙ sym ways_count;
    steps_small = table_small steps (length f.items) (λ i. going_size whole (get_or weights.going i 0) (item_of f i).op) steps_count steps_are (λ i. going_small whole (item_of f i).op (get_or weights.going i 0) (going i));
    ends_small = table_small leaves (length f.items) (λ i. cond (get_or alive i false) (leaving_size (get_or weights.going i 0) (item_of f i).op) 0) count are
        (λ i. if_small (get_or alive i false) (leaving_size (get_or weights.going i 0) (item_of f i).op) (leaving_small (item_of f i).op (get_or weights.going i 0) (going i)));
  }

-- the longest trails
pub longest_small : (ways : List Ways) (steps ends table : List ℕ) → length table ≡ length ways
    → ((i : ℕ) → i < length ways → IsLongest ways steps ends i (get_or table i 0)) → AreSizesInLimit table
longest_small ways steps ends table count is i = by (cases_eq (get_or table i 0) 0) (cases_lt i (length ways))
  where
    by : (get_or table i 0 ≡ 0) ⊎ (get_or table i 0 ≡ 0 → ⊥) → (i < length ways) ⊎ (length ways ≤ i) → get_or table i 0 ≤ size_limit
    by (inl e) at = omega (arith, e)
    by (inr n) (inl lt) = let t = (is i lt).attained (omega (arith, n)) in let e = t.2 in omega (arith, e)
    by (inr n) (inr le) = let e = get_or_past table i 0 (omega (arith, le, count)) in omega (arith, e)

-- a greatest size
pub greatest_small : (Kind : ℕ → Type 0) (size : ℕ) → IsGreatestPart Kind size → size ≤ size_limit
greatest_small Kind size g = by (cases_eq size 0)
  where
    by : (size ≡ 0) ⊎ (size ≡ 0 → ⊥) → size ≤ size_limit
    by (inl e) = omega (arith, e)
    by (inr n) = let a = g.attained (omega (arith, n)) in let e = a.2 in omega (arith, e)
