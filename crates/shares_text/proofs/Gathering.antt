-- Lists of what items give: what holds of each, and that none is left out.
use Rattle.std.proofs.Common.{◌≡◌, ℕ, zero, suc, ◌+◌, ◌-◌, ◌<◌, ◌≤◌, ◌⊎◌, inl, inr, Bool, true, false, ◌&&◌, cond, List, [], ◌∷◌, ◌++◌, length, get_or, filter, Option, Some, None, refl, sym, ap, ◌∙◌, subst, arith}
use Rattle.std.specs.Prelude.{◌==◌}
use Rattle.std.specs.List.{list_any, AllByRecursion}
use Rattle.std.proofs.lemmas.Bool.{false≢true, or_cases, or_left, or_right, and_parts, and_from, eq-eqb, eqb-true, cases_eq}
use Rattle.std.proofs.lemmas.List.Folds.{list_any-append}
use Rattle.std.proofs.lemmas.List.{append-nil}
use Rattle.sloth_base.specs.declared.config.Config.{Config}
use Rattle.sloth_base.specs.declared.app.App.{App}
use Rattle.sloth_base.specs.declared.app.Func.{Func}
use Rattle.sloth_base.specs.declared.app.Item.{Item}
use Rattle.sloth_base.specs.declared.app.Op.{Op}
use Rattle.sloth_base.specs.declared.app.Op.TheVariants as op
use Rattle.sloth_base.specs.Named.{function, no_function, item_of, no_item}
use Rattle.code_rules.specs.Code.{IsItem}
use Rattle.code_rules.specs.WellFormed.{held_list_before}
use Rattle.osek_scheduler.specs.Priority.{greatest}
use Rattle.call_graph.specs.declared.lists.Ranks.{Ranks}
use Rattle.call_graph.specs.Ranks.{RanksOf}
use Rattle.shares_text.specs.declared.sites.Held.{Held}
use Rattle.shares_text.specs.declared.sites.HeldRow.{HeldRow}
use Rattle.shares_text.specs.declared.sites.CallSite.{CallSite}
use Rattle.shares_text.specs.Accesses.{symbol_of, is_store}
use Rattle.shares_text.specs.Sites.{no_held, no_row, IsHeld, AreHeld, AreAllHeld, gather_items, gather, call_of, call_at, access_to, access_at, is_of_rank, down_from, IsCallSite, IsAccess}
use Rattle.shares_text.specs.Tables.{is_call_at, is_access_at, HasCallSite, AreDescending, AreCalls, AreAccesses}

-- ---- what holds of each

pub all_append : {X : Type 0} (P : X → Type 0) (xs ys : List X) → AllByRecursion P xs → AllByRecursion P ys → AllByRecursion P (xs ++ ys)
all_append P [] ys h k = k
all_append P (x ∷ xs) ys h k = (h.0, all_append P xs ys h.1 k)

-- the item that stands there, with what its function holds
pub record Stands (config : Config) (app : App) (f i : ℕ) (x : Item) (h : Held) : Type 0 where
  pub known : f < length app.funcs
  pub inside : i < length (function app f).items
  pub is : item_of (function app f) i ≡ x
  pub held : IsHeld config (held_list_before app f i) h

module _ {X : Type 0} (config : Config) (app : App) (at : (f i : ℕ) → Item → Held → List X) where
  -- the items from i on of the function
  record Rest (f i : ℕ) (items : List Item) : Type 0 where
    pub ends : i + length items ≡ length (function app f).items
    pub is : (k : ℕ) → k < length items → item_of (function app f) (i + k) ≡ get_or items k no_item

  rest_more : (f i : ℕ) (x : Item) (items : List Item) → Rest f i (x ∷ items) → Rest f (i + 1) items
  rest_more f i x items r = record {
    ends = let e = r.ends in omega (arith, e);
    is = λ k lt. let same : (i + 1) + k ≡ i + suc k = omega arith in ap (item_of (function app f)) same ∙ r.is (suc k) (omega (arith, lt));
  }

  rest_here : (f i : ℕ) (x : Item) (items : List Item) → Rest f i (x ∷ items) → item_of (function app f) i ≡ x
  rest_here f i x items r = let same : i ≡ i + 0 = omega arith in ap (item_of (function app f)) same ∙ r.is 0 (omega arith)

  -- and the functions from f on
  record Later (f : ℕ) (funcs : List Func) : Type 0 where
    pub ends : f + length funcs ≡ length app.funcs
    pub is : (k : ℕ) → k < length funcs → function app (f + k) ≡ get_or funcs k no_function

  later_more : (f : ℕ) (x : Func) (funcs : List Func) → Later f (x ∷ funcs) → Later (f + 1) funcs
  later_more f x funcs r = record {
    ends = let e = r.ends in omega (arith, e);
    is = λ k lt. let same : (f + 1) + k ≡ f + suc k = omega arith in ap (function app) same ∙ r.is (suc k) (omega (arith, lt));
  }

  later_here : (f : ℕ) (x : Func) (funcs : List Func) → Later f (x ∷ funcs) → function app f ≡ x
  later_here f x funcs r = let same : f ≡ f + 0 = omega arith in ap (function app) same ∙ r.is 0 (omega arith)

  all_items : (f : ℕ) (x : Func) → function app f ≡ x → Rest f 0 x.items
  all_items f x e = record {
    ends = let same = ap (λ (y : Func). length y.items) e in omega (arith, same);
    is = λ k lt. let same : 0 + k ≡ k = omega arith in ap (item_of (function app f)) same ∙ ap (λ (y : Func). item_of y k) e;
  }

  all_functions : Later 0 app.funcs
  all_functions = record { ends = omega arith; is = λ k lt. let same : 0 + k ≡ k = omega arith in ap (function app) same }

  module _ (P : X → Type 0) (each : (f i : ℕ) (x : Item) (h : Held) → Stands config app f i x h → AllByRecursion P (at f i x h)) where
    items_are : (f i : ℕ) (items : List Item) (rows : List Held) → f < length app.funcs → AreHeld config (function app f) rows → Rest f i items
        → AllByRecursion P (gather_items at f i items rows)
    items_are f i [] rows known held r = tt
    items_are f i (x ∷ items) rows known held r =
        let inside : i < length (function app f).items = (let e = r.ends in omega (arith, e)) in
        all_append P (at f i x (get_or rows i no_held)) (gather_items at f (i + 1) items rows)
        (each f i x (get_or rows i no_held) (record { known = known; inside = inside; is = rest_here f i x items r; held = held.each i inside }))
        (items_are f (i + 1) items rows known held (rest_more f i x items r))

    gathered_from : (f : ℕ) (funcs : List Func) (table : List HeldRow) → AreAllHeld config app table → Later f funcs → AllByRecursion P (gather at f funcs table)
    gathered_from f [] table held r = tt
    gathered_from f (x ∷ funcs) table held r =
        let known : f < length app.funcs = (let e = r.ends in omega (arith, e)) in
        all_append P (gather_items at f 0 x.items (get_or table f no_row).items) (gather at (f + 1) funcs table)
        (items_are f 0 x.items (get_or table f no_row).items known (held.each f known) (all_items f x (later_here f x funcs r)))
        (gathered_from (f + 1) funcs table held (later_more f x funcs r))

    pub gathered : (table : List HeldRow) → AreAllHeld config app table → AllByRecursion P (gather at 0 app.funcs table)
    gathered table held = gathered_from 0 app.funcs table held all_functions

  -- ---- that none is left out

  module _ (test : X → Bool) (g j : ℕ) (found : (h : Held) → list_any test (at g j (item_of (function app g) j) h) ≡ true) where
    in_front : (xs ys : List X) → list_any test xs ≡ true → list_any test (xs ++ ys) ≡ true
    in_front xs ys h = list_any-append test xs ys ∙ or_left (list_any test xs) (list_any test ys) h

    behind : (xs ys : List X) → list_any test ys ≡ true → list_any test (xs ++ ys) ≡ true
    behind xs ys h = list_any-append test xs ys ∙ or_right (list_any test xs) (list_any test ys) h

    item_found : (i : ℕ) (items : List Item) (rows : List Held) → Rest g i items → i ≤ j → j < length (function app g).items
        → list_any test (gather_items at g i items rows) ≡ true
    item_found i [] rows r le lt = let e = r.ends in absurd (omega (arith, e, le, lt))
    item_found i (x ∷ items) rows r le lt = by (λ h. item_found (i + 1) items rows (rest_more g i x items r) h lt) (cases_eq j i)
      where
        first : List X
        first = at g i x (get_or rows i no_held)

        by : (i + 1 ≤ j → list_any test (gather_items at g (i + 1) items rows) ≡ true) → (j ≡ i) ⊎ (j ≡ i → ⊥)
            → list_any test (first ++ gather_items at g (i + 1) items rows) ≡ true
        by later (inl e) =
            let here : item_of (function app g) j ≡ x = ap (item_of (function app g)) e ∙ rest_here g i x items r in
            in_front first (gather_items at g (i + 1) items rows)
            (subst (λ n. list_any test (at g n x (get_or rows i no_held)) ≡ true) e
            (subst (λ (y : Item). list_any test (at g j y (get_or rows i no_held)) ≡ true) here (found (get_or rows i no_held))))
        by later (inr n) = behind first (gather_items at g (i + 1) items rows) (later (omega (arith, le, n)))

    found_from : (f : ℕ) (funcs : List Func) (table : List HeldRow) → Later f funcs → f ≤ g → g < length app.funcs → j < length (function app g).items
        → list_any test (gather at f funcs table) ≡ true
    found_from f [] table r le lt inside = let e = r.ends in absurd (omega (arith, e, le, lt))
    found_from f (x ∷ funcs) table r le lt inside = by (λ h. found_from (f + 1) funcs table (later_more f x funcs r) h lt inside) (cases_eq g f)
      where
        first : List X
        first = gather_items at f 0 x.items (get_or table f no_row).items

        by : (f + 1 ≤ g → list_any test (gather at (f + 1) funcs table) ≡ true) → (g ≡ f) ⊎ (g ≡ f → ⊥)
            → list_any test (first ++ gather at (f + 1) funcs table) ≡ true
        by later (inl e) =
            let here : function app g ≡ x = ap (function app) e ∙ later_here f x funcs r in
            in_front first (gather at (f + 1) funcs table)
            (subst (λ n. list_any test (gather_items at n 0 x.items (get_or table f no_row).items) ≡ true) e
            (item_found 0 x.items (get_or table f no_row).items (all_items g x here) (omega arith) inside))
        by later (inr n) = behind first (gather at (f + 1) funcs table) (later (omega (arith, le, n)))

    pub none_left : (table : List HeldRow) → g < length app.funcs → j < length (function app g).items → list_any test (gather at 0 app.funcs table) ≡ true
    none_left table lt inside = found_from 0 app.funcs table all_functions (omega arith) lt inside

-- ---- accesses and calls

access_is : (config : Config) (app : App) (f i : ℕ) (x : Item) (h : Held) → Stands config app f i x h → AllByRecursion (IsAccess config app) (access_at f i x h)
access_is config app f i x h s = by (symbol_of x.op) refl
  where
    by : (o : Option ℕ) → symbol_of x.op ≡ o → AllByRecursion (IsAccess config app) (access_to o f i x h)
    by None e = tt
    by (Some y) e = (
      record {
        known = s.known;
        inside = s.inside;
        symbol = ap (λ (z : Item). symbol_of z.op) s.is ∙ e;
        line = ap (λ (z : Item). z.line) (sym s.is);
        stores = ap (λ (z : Item). is_store z.op) (sym s.is);
        held = s.held;
      },
      tt,
    )

pub accesses_are : (config : Config) (app : App) (table : List HeldRow) → AreAllHeld config app table → AreAccesses config app (gather access_at 0 app.funcs table)
accesses_are config app table held = record {
  each = gathered config app access_at (IsAccess config app) (access_is config app) table held;
  all = λ f i y known inside e.
      none_left config app access_at (is_access_at f i) f i
      (λ h. ap (λ o. list_any (is_access_at f i) (access_to o f i (item_of (function app f) i) h)) e
      ∙ or_left ((f == f) && (i == i)) false (and_from (f == f) (i == i) (eq-eqb f f refl) (eq-eqb i i refl)))
      table known inside;
}

call_is : (config : Config) (app : App) (f i : ℕ) (x : Item) (h : Held) → Stands config app f i x h → AllByRecursion (IsCallSite config app) (call_at f i x h)
call_is config app f i x h s = by x.op refl
  where
    by : (o : Op) → x.op ≡ o → AllByRecursion (IsCallSite config app) (call_of f i o h)
    by (op.Invoke g) e = (record { is = record { known = s.known; inside = s.inside; is = ap (λ (z : Item). z.op) s.is ∙ e }; held = s.held }, tt)
    by _ e = tt

calls_are : (config : Config) (app : App) (table : List HeldRow) → AreAllHeld config app table → AllByRecursion (IsCallSite config app) (gather call_at 0 app.funcs table)
calls_are config app table held = gathered config app call_at (IsCallSite config app) (call_is config app) table held

all_calls : (config : Config) (app : App) (table : List HeldRow) (f i g : ℕ) → IsItem app f i (op.Invoke g) → HasCallSite (gather call_at 0 app.funcs table) f i
all_calls config app table f i g is =
    none_left config app call_at (is_call_at f i) f i
    (λ h. ap (λ o. list_any (is_call_at f i) (call_of f i o h)) is.is
    ∙ or_left ((f == f) && (i == i)) false (and_from (f == f) (i == i) (eq-eqb f f refl) (eq-eqb i i refl)))
    table is.known is.inside

-- ---- the order of calls

module _ (ranks : List ℕ) where
  abbrev rank : ℕ → ℕ
  rank f = get_or ranks f 0

  filter_all : (P : CallSite → Type 0) (test : CallSite → Bool) (calls : List CallSite) → AllByRecursion P calls → AllByRecursion P (filter test calls)
  filter_all P test [] h = tt
  filter_all P test (c ∷ calls) h = by (filter_all P test calls h.1) (test c) refl
    where
      by : AllByRecursion P (filter test calls) → (b : Bool) → test c ≡ b → AllByRecursion P (filter test (c ∷ calls))
      by rest true e = subst (λ b. AllByRecursion P (cond b (c ∷ filter test calls) (filter test calls))) (sym e) (h.0, rest)
      by rest false e = subst (λ b. AllByRecursion P (cond b (c ∷ filter test calls) (filter test calls))) (sym e) rest

  filter_passes : (test : CallSite → Bool) (calls : List CallSite) → AllByRecursion (λ c. test c ≡ true) (filter test calls)
  filter_passes test [] = tt
  filter_passes test (c ∷ calls) = by (filter_passes test calls) (test c) refl
    where
      by : AllByRecursion (λ d. test d ≡ true) (filter test calls) → (b : Bool) → test c ≡ b → AllByRecursion (λ d. test d ≡ true) (filter test (c ∷ calls))
      by rest true e = subst (λ b. AllByRecursion (λ d. test d ≡ true) (cond b (c ∷ filter test calls) (filter test calls))) (sym e) (e, rest)
      by rest false e = subst (λ b. AllByRecursion (λ d. test d ≡ true) (cond b (c ∷ filter test calls) (filter test calls))) (sym e) rest

  down_all : (P : CallSite → Type 0) (calls : List CallSite) (n : ℕ) → AllByRecursion P calls → AllByRecursion P (down_from ranks calls n)
  down_all P calls zero h = filter_all P (is_of_rank ranks 0) calls h
  down_all P calls (suc n) h =
      all_append P (filter (is_of_rank ranks (suc n)) calls) (down_from ranks calls n) (filter_all P (is_of_rank ranks (suc n)) calls h) (down_all P calls n h)

  -- one rank less
  pub down_step : (calls : List CallSite) (top step : ℕ) → step < top
      → down_from ranks calls (top - step) ≡ filter (is_of_rank ranks (top - step)) calls ++ down_from ranks calls (top - (step + 1))
  down_step calls top step lt =
      let e : top - step ≡ suc (top - (step + 1)) = omega (arith, lt) in
      ap (down_from ranks calls) e ∙ sym (ap (λ n. filter (is_of_rank ranks n) calls ++ down_from ranks calls (top - (step + 1))) e)

  -- what passes one test
  weaker : (P Q : CallSite → Type 0) → ((c : CallSite) → P c → Q c) → (calls : List CallSite) → AllByRecursion P calls → AllByRecursion Q calls
  weaker P Q f [] h = tt
  weaker P Q f (c ∷ calls) h = (f c h.0, weaker P Q f calls h.1)

  below : (calls : List CallSite) (n : ℕ) → AllByRecursion (λ d. rank d.caller ≤ n) (down_from ranks calls n)
  below calls zero =
      weaker (λ d. is_of_rank ranks 0 d ≡ true) (λ d. rank d.caller ≤ 0) (λ c e. let same = eqb-true (rank c.caller) 0 e in omega (arith, same))
      (filter (is_of_rank ranks 0) calls) (filter_passes (is_of_rank ranks 0) calls)
  below calls (suc n) =
      all_append (λ d. rank d.caller ≤ suc n) (filter (is_of_rank ranks (suc n)) calls) (down_from ranks calls n)
      (weaker (λ d. is_of_rank ranks (suc n) d ≡ true) (λ d. rank d.caller ≤ suc n) (λ c e. let same = eqb-true (rank c.caller) (suc n) e in omega (arith, same))
      (filter (is_of_rank ranks (suc n)) calls) (filter_passes (is_of_rank ranks (suc n)) calls))
      (weaker (λ d. rank d.caller ≤ n) (λ d. rank d.caller ≤ suc n) (λ c le. omega (arith, le)) (down_from ranks calls n) (below calls n))

  -- calls of one rank, then those of no higher rank
  descending : (n : ℕ) (xs ys : List CallSite) → AllByRecursion (λ d. rank d.caller ≡ n) xs → AllByRecursion (λ d. rank d.caller ≤ n) ys → AreDescending rank ys
      → AreDescending rank (xs ++ ys)
  descending n [] ys h k d = d
  descending n (x ∷ xs) ys h k d = (
    subst (λ m. AllByRecursion (λ c. rank c.caller ≤ m) (xs ++ ys)) (sym h.0)
        (all_append (λ c. rank c.caller ≤ n) xs ys (weaker (λ c. rank c.caller ≡ n) (λ c. rank c.caller ≤ n) (λ c e. omega (arith, e)) xs h.1) k),
    descending n xs ys h.1 k d,
  )

  of_rank : (calls : List CallSite) (n : ℕ) → AllByRecursion (λ d. rank d.caller ≡ n) (filter (is_of_rank ranks n) calls)
  of_rank calls n =
      weaker (λ d. is_of_rank ranks n d ≡ true) (λ d. rank d.caller ≡ n) (λ c e. eqb-true (rank c.caller) n e) (filter (is_of_rank ranks n) calls)
      (filter_passes (is_of_rank ranks n) calls)

  falling : (calls : List CallSite) (n : ℕ) → AreDescending rank (down_from ranks calls n)
  falling calls zero =
      subst (AreDescending rank) (append-nil (filter (is_of_rank ranks 0) calls))
      (descending 0 (filter (is_of_rank ranks 0) calls) [] (of_rank calls 0) tt tt)
  falling calls (suc n) =
      descending (suc n) (filter (is_of_rank ranks (suc n)) calls) (down_from ranks calls n) (of_rank calls (suc n))
      (weaker (λ d. rank d.caller ≤ n) (λ d. rank d.caller ≤ suc n) (λ c le. omega (arith, le)) (down_from ranks calls n) (below calls n)) (falling calls n)

  module _ (f i : ℕ) where
    kept : (n : ℕ) → rank f ≡ n → (calls : List CallSite) → HasCallSite calls f i → HasCallSite (filter (is_of_rank ranks n) calls) f i
    kept n is [] h = h
    kept n is (c ∷ calls) h = by (λ r. kept n is calls r) (is_of_rank ranks n c) refl (or_cases (is_call_at f i c) (list_any (is_call_at f i) calls) h)
      where
        by : (HasCallSite calls f i → HasCallSite (filter (is_of_rank ranks n) calls) f i) → (b : Bool) → is_of_rank ranks n c ≡ b → (is_call_at f i c ≡ true) ⊎ (list_any (is_call_at f i) calls ≡ true)
            → HasCallSite (filter (is_of_rank ranks n) (c ∷ calls)) f i
        by later true e (inl a) =
            subst (λ b. HasCallSite (cond b (c ∷ filter (is_of_rank ranks n) calls) (filter (is_of_rank ranks n) calls)) f i) (sym e)
            (or_left (is_call_at f i c) (list_any (is_call_at f i) (filter (is_of_rank ranks n) calls)) a)
        by later true e (inr r) =
            subst (λ b. HasCallSite (cond b (c ∷ filter (is_of_rank ranks n) calls) (filter (is_of_rank ranks n) calls)) f i) (sym e)
            (or_right (is_call_at f i c) (list_any (is_call_at f i) (filter (is_of_rank ranks n) calls)) (later r))
        by later false e (inl a) =
            let same = eqb-true c.caller f (and_parts (c.caller == f) (c.item == i) a).0 in
            absurd (false≢true (sym e ∙ eq-eqb (rank c.caller) n (ap rank same ∙ is)))
        by later false e (inr r) =
            subst (λ b. HasCallSite (cond b (c ∷ filter (is_of_rank ranks n) calls) (filter (is_of_rank ranks n) calls)) f i) (sym e) (later r)

    all_down : (n : ℕ) → rank f ≤ n → (calls : List CallSite) → HasCallSite calls f i → HasCallSite (down_from ranks calls n) f i
    all_down zero le calls h = kept 0 (omega (arith, le)) calls h
    all_down (suc n) le calls h = by (λ less. all_down n less calls h) (cases_eq (rank f) (suc n))
      where
        first : List CallSite
        first = filter (is_of_rank ranks (suc n)) calls

        by : (rank f ≤ n → HasCallSite (down_from ranks calls n) f i) → (rank f ≡ suc n) ⊎ (rank f ≡ suc n → ⊥)
            → HasCallSite (first ++ down_from ranks calls n) f i
        by later (inl e) =
            list_any-append (is_call_at f i) first (down_from ranks calls n)
            ∙ or_left (list_any (is_call_at f i) first) (list_any (is_call_at f i) (down_from ranks calls n)) (kept (suc n) e calls h)
        by later (inr m) =
            list_any-append (is_call_at f i) first (down_from ranks calls n)
            ∙ or_right (list_any (is_call_at f i) first) (list_any (is_call_at f i) (down_from ranks calls n)) (later (omega (arith, le, m)))

  at_most : (xs : List ℕ) (f : ℕ) → get_or xs f 0 ≤ greatest xs
  at_most [] f = omega arith
  at_most (x ∷ xs) zero = omega arith
  at_most (x ∷ xs) (suc f) = let le = at_most xs f in omega (arith, le)

pub ordered_are : (config : Config) (app : App) (ranks : Ranks) (table : List HeldRow) → RanksOf app ranks → AreAllHeld config app table
    → AreCalls config app (down_from ranks.rank (gather call_at 0 app.funcs table) (greatest ranks.rank))
ordered_are config app ranks table belong held =
    let calls = gather call_at 0 app.funcs table in
    record {
      each = down_all ranks.rank (IsCallSite config app) calls (greatest ranks.rank) (calls_are config app table held);
      all = λ f i g is. all_down ranks.rank f i (greatest ranks.rank) (at_most ranks.rank ranks.rank f) calls (all_calls config app table f i g is);
      rank = λ f. get_or ranks.rank f 0;
      falls = λ f i g is. belong.above f g (i, is);
      descending = falling ranks.rank calls (greatest ranks.rank);
    }
