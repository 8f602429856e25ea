-- A search of nodes in depth.
use Rattle.std.proofs.Common.{◌≡◌, ℕ, ◌+◌, ◌*◌, ◌<◌, ◌≤◌, Bool, true, false, not, ◌||◌, ◌⊎◌, inl, inr, List, [], ◌∷◌, ◌++◌, length, get_or, set, take, cond, Option, Some, None, is_some, refl, ap, sym, ◌∙◌, subst, arith, ⊎_elim}
use Rattle.std.specs.Prelude.{◌==◌, ◌≢◌}
use Rattle.std.proofs.lemmas.Bool.{cases_eq, cases_lt, or_cases, eqb-true, eq-eqb, true≢false, false≢true}
use Rattle.std.proofs.lemmas.List.{get_or-set_same, get_or-set_other, get_or_past, length-set, length-append, get_or_append_left, take-append-le}
use Rattle.std.proofs.Math.Seq.{get_or-append_seam, take-append_seam}
use Rattle.std.proofs.lemmas.List.Folds.{list_any-append}
use Rattle.std.proofs.lemmas.List.Sums.{sum_by-set}
use Rattle.code_rules.specs.Code.{is_in}
use Rattle.walk_sums.specs.declared.graph.Ways.{Ways}
use Rattle.walk_sums.specs.Graph.{ways_of, HasWay, AreInside, IsLoop, IsOrder, unseen_way, first_of, unseen_of, leads_to_open, HasWayOn, IsChain, HasMark, IsSearching, AreStillSeen}
use Rattle.walk_sums.proofs.Unseen.{unseen_count}

-- ---- members

joined : (i x : ℕ) (xs : List ℕ) → is_in i (xs ++ x ∷ []) ≡ (is_in i xs || ((x == i) || false))
joined i x xs = list_any-append (λ y. y == i) xs (x ∷ [])

yes_or : (a b : Bool) → a ≡ true → (a || b) ≡ true
yes_or true b e = refl
yes_or false b e = absurd (false≢true e)

or_yes : (a b : Bool) → b ≡ true → (a || b) ≡ true
or_yes true b e = refl
or_yes false b e = e

pub in_front : (i x : ℕ) (xs : List ℕ) → is_in i xs ≡ true → is_in i (xs ++ x ∷ []) ≡ true
in_front i x xs h = joined i x xs ∙ yes_or (is_in i xs) ((x == i) || false) h

pub at_end : (x : ℕ) (xs : List ℕ) → is_in x (xs ++ x ∷ []) ≡ true
at_end x xs = joined x x xs ∙ or_yes (is_in x xs) ((x == x) || false) (yes_or (x == x) false (eq-eqb x x refl))

pub front_or_end : (i x : ℕ) (xs : List ℕ) → is_in i (xs ++ x ∷ []) ≡ true → (is_in i xs ≡ true) ⊎ (x ≡ i)
front_or_end i x xs h = ⊎_elim inl
    (λ e. ⊎_elim (λ t. inr (eqb-true x i t)) (λ f. absurd (false≢true f)) (or_cases (x == i) false e))
    (or_cases (is_in i xs) ((x == i) || false) (sym (joined i x xs) ∙ h))

-- ---- marks

pub has_more : (marks : List Bool) (at i : ℕ) → HasMark marks i → HasMark (set marks at true) i
has_more marks at i m = ⊎_elim
    (λ e. subst (λ (x : ℕ). HasMark (set marks at true) x) (sym e) (get_or-set_same marks at true false (inside (cases_lt i (length marks)) e)))
    (λ n. get_or-set_other marks at i true false n ∙ m)
    (cases_eq i at)
  where
    inside : (i < length marks) ⊎ (length marks ≤ i) → i ≡ at → at < length marks
    inside (inl l) e = subst (λ (x : ℕ). x < length marks) e l
    inside (inr l) e = absurd (true≢false (sym m ∙ get_or_past marks i false l))

pub keeps_more : (marks : List Bool) (at : ℕ) → AreStillSeen marks (set marks at true)
keeps_more marks at i m = has_more marks at i m

pub has_now : (marks : List Bool) (at : ℕ) → at < length marks → HasMark (set marks at true) at
has_now marks at lt = get_or-set_same marks at true false lt

pub has_before : (marks : List Bool) (at i : ℕ) → i ≢ at → HasMark (set marks at true) i → HasMark marks i
has_before marks at i n m = sym (get_or-set_other marks at i true false n) ∙ m

-- a node less is unseen
pub fewer : (seen : List Bool) (node : ℕ) → node < length seen → get_or seen node false ≡ false → unseen_count (set seen node true) + 1 ≡ unseen_count seen
fewer seen node lt e =
    let s = sum_by-set (λ b. cond {A = ℕ} (not b) 1 0) seen node true false lt in
    let f : cond {A = ℕ} (not (get_or seen node false)) 1 0 ≡ 1 = ap (λ b. cond {A = ℕ} (not b) 1 0) e in
    omega (arith, s, f)

-- ---- chains

module _ (ways : List Ways) where
  front_chain : (xs : List ℕ) (x : ℕ) → IsChain ways (xs ++ x ∷ []) → IsChain ways xs
  front_chain [] x c = tt
  front_chain (y ∷ []) x c = (tt, tt)
  front_chain (y ∷ z ∷ xs) x c = (c.0, front_chain (z ∷ xs) x c.1)

  longer_chain : (xs : List ℕ) (x y : ℕ) → HasWay ways x y → IsChain ways (xs ++ x ∷ []) → IsChain ways ((xs ++ x ∷ []) ++ y ∷ [])
  longer_chain [] x y g c = (g, (tt, tt))
  longer_chain (z ∷ []) x y g c = (c.0, (g, (tt, tt)))
  longer_chain (z ∷ v ∷ xs) x y g c = (c.0, longer_chain (v ∷ xs) x y g c.1)

  -- each node of a chain but the last leads to one of it
  abbrev LeadsInto : (xs : List ℕ) (x i : ℕ) → Type 0
  LeadsInto xs x i = (x ≡ i) ⊎ ((j : ℕ) × HasWay ways i j × (is_in j (xs ++ x ∷ []) ≡ true))

  goes_step : (y : ℕ) (xs : List ℕ) (x i : ℕ) → IsChain ways (y ∷ (xs ++ x ∷ [])) → is_in i (y ∷ (xs ++ x ∷ [])) ≡ true
      → (is_in i (xs ++ x ∷ []) ≡ true → LeadsInto xs x i) → LeadsInto (y ∷ xs) x i
  goes_step y xs x i c h again = by (or_cases (y == i) (is_in i (xs ++ x ∷ [])) h)
    where
      -- the node behind y
      after : (xs : List ℕ) → HasWayOn ways y (xs ++ x ∷ []) → (j : ℕ) × HasWay ways y j × (is_in j (xs ++ x ∷ []) ≡ true)
      after [] g = (x, g, at_end x [])
      after (z ∷ more) g = (z, g, yes_or (z == z) (is_in z (more ++ x ∷ [])) (eq-eqb z z refl))

      further : LeadsInto xs x i → LeadsInto (y ∷ xs) x i
      further (inl e) = inl e
      further (inr g) = inr (g.0, g.1, or_yes (y == g.0) (is_in g.0 (xs ++ x ∷ [])) g.2)

      by : ((y == i) ≡ true) ⊎ (is_in i (xs ++ x ∷ []) ≡ true) → LeadsInto (y ∷ xs) x i
      by (inl e) =
          let a = after xs c.0 in
          inr (a.0, subst (λ v. HasWay ways v a.0) (eqb-true y i e) a.1, or_yes (y == a.0) (is_in a.0 (xs ++ x ∷ [])) a.2)
      by (inr e) = further (again e)

  goes_in : (xs : List ℕ) (x i : ℕ) → IsChain ways (xs ++ x ∷ []) → is_in i (xs ++ x ∷ []) ≡ true → LeadsInto xs x i
  goes_in [] x i c h = ⊎_elim (λ t. inl (eqb-true x i t)) (λ f. absurd (false≢true f)) (or_cases (x == i) false h)
  goes_in (y ∷ xs) x i c h = goes_step y xs x i c h (λ e. goes_in xs x i c.1 e)

  -- ---- what the tests tell

  some_is : (a b : ℕ) → Some a ≡ Some b → a ≡ b
  some_is a b e = cc

  of_way : (seen : List Bool) (way : Option ℕ) (j : ℕ) → unseen_way seen way ≡ Some j → (way ≡ Some j) × (get_or seen j false ≡ false)
  of_way seen None j e = absurd cc
  of_way seen (Some k) j e = by (get_or seen k false) refl e
    where
      by : (b : Bool) → get_or seen k false ≡ b → cond b None (Some k) ≡ Some j → (Some k ≡ Some j) × (get_or seen j false ≡ false)
      by true is h = absurd cc
      by false is h = (h, subst (λ v. get_or seen v false ≡ false) (some_is k j h) is)

  all_of_way : (seen : List Bool) (way : Option ℕ) (j : ℕ) → unseen_way seen way ≡ None → way ≡ Some j → HasMark seen j
  all_of_way seen None j e is = absurd cc
  all_of_way seen (Some k) j e is = subst (HasMark seen) (some_is k j is) (by (get_or seen k false) refl e)
    where
      by : (b : Bool) → get_or seen k false ≡ b → cond b None (Some k) ≡ None → HasMark seen k
      by true e h = e
      by false e h = absurd cc

  pub unseen_is : (seen : List Bool) (i j : ℕ) → unseen_of ways seen i ≡ Some j → HasWay ways i j × (get_or seen j false ≡ false)
  unseen_is seen i j e = by (unseen_way seen (ways_of ways i).next) refl e
    where
      by : (o : Option ℕ) → unseen_way seen (ways_of ways i).next ≡ o → first_of o (unseen_way seen (ways_of ways i).jump) ≡ Some j
          → HasWay ways i j × (get_or seen j false ≡ false)
      by None is h = let f = of_way seen (ways_of ways i).jump j h in (inr f.0, f.1)
      by (Some k) is h = let f = of_way seen (ways_of ways i).next j (is ∙ h) in (inl f.0, f.1)

  pub all_seen : (seen : List Bool) (i j : ℕ) → unseen_of ways seen i ≡ None → HasWay ways i j → HasMark seen j
  all_seen seen i j e g = by (unseen_way seen (ways_of ways i).next) refl e g
    where
      by : (o : Option ℕ) → unseen_way seen (ways_of ways i).next ≡ o → first_of o (unseen_way seen (ways_of ways i).jump) ≡ None → HasWay ways i j → HasMark seen j
      by None is h (inl f) = all_of_way seen (ways_of ways i).next j is f
      by None is h (inr f) = all_of_way seen (ways_of ways i).jump j h f
      by (Some k) is h f = absurd cc

  open_is : (done : List Bool) (i : ℕ) → leads_to_open ways done i ≡ true → (j : ℕ) × HasWay ways i j × (get_or done j false ≡ false)
  open_is done i e = by (unseen_of ways done i) refl e
    where
      by : (o : Option ℕ) → unseen_of ways done i ≡ o → is_some o ≡ true → (j : ℕ) × HasWay ways i j × (get_or done j false ≡ false)
      by None is h = absurd (false≢true h)
      by (Some j) is h = let f = unseen_is done i j is in (j, f.0, f.1)

  all_done : (done : List Bool) (i j : ℕ) → leads_to_open ways done i ≡ false → HasWay ways i j → HasMark done j
  all_done done i j e g = by (unseen_of ways done i) refl e
    where
      by : (o : Option ℕ) → unseen_of ways done i ≡ o → is_some o ≡ false → HasMark done j
      by None is h = all_seen done i j is g
      by (Some k) is h = absurd (true≢false h)

  -- ---- one step of the search, from node `from` at the end of the stack

  module _ (seen done : List Bool) (stack rest order : List ℕ) (from : ℕ) (is : stack ≡ rest ++ from ∷ []) (s : IsSearching ways seen done stack order) where
    t : IsSearching ways seen done (rest ++ from ∷ []) order
    t = subst (λ l. IsSearching ways seen done l order) is s

    pub known : from < length ways
    known = (t.stacked from (at_end from rest)).0

    pub pushed : AreInside ways → (node : ℕ) → unseen_of ways seen from ≡ Some node
        → IsSearching ways (set seen node true) done ((rest ++ from ∷ []) ++ node ∷ []) order
    pushed inside node e =
        let f = unseen_is seen from node e in
        let lt = inside from node f.0 in
        let here = has_now seen node (subst (λ n. node < n) (sym t.seen_count) lt) in
        record {
          seen_count = length-set seen node true ∙ t.seen_count;
          done_count = t.done_count;
          stacked = λ i h. ⊎_elim
              (λ g. let k = t.stacked i g in (k.0, has_more seen node i k.1))
              (λ e. (subst (λ (y : ℕ). y < length ways) e lt, subst (HasMark (set seen node true)) e here))
              (front_or_end i node (rest ++ from ∷ []) h);
          held = λ i h. ⊎_elim
              (λ e. inl (subst (λ (y : ℕ). is_in y ((rest ++ from ∷ []) ++ node ∷ []) ≡ true) (sym e) (at_end node (rest ++ from ∷ []))))
              (λ n. ⊎_elim (λ g. inl (in_front i node (rest ++ from ∷ []) g)) inr (t.held i (has_before seen node i n h)))
              (cases_eq i node);
          listed = t.listed;
          inside = t.inside;
          chain = longer_chain rest from node f.0 t.chain;
          behind = t.behind;
        }

    pub looped : unseen_of ways seen from ≡ None → leads_to_open ways done from ≡ true → IsLoop ways (rest ++ from ∷ [])
    looped none opens = record {
      some = (from, at_end from rest);
      inside = λ i h. (t.stacked i h).0;
      goes = λ i h. ⊎_elim (λ e. subst (λ (v : ℕ). (j : ℕ) × HasWay ways v j × (is_in j (rest ++ from ∷ []) ≡ true)) e back) (λ g. g) (goes_in rest from i t.chain h);
    }
      where
        back : (j : ℕ) × HasWay ways from j × (is_in j (rest ++ from ∷ []) ≡ true)
        back =
            let f = open_is done from opens in
            (f.0, f.1, ⊎_elim (λ g. g) (λ g. absurd (true≢false (sym g ∙ f.2))) (t.held f.0 (all_seen seen from f.0 none f.1)))

    pub finished : leads_to_open ways done from ≡ false → IsSearching ways seen (set done from true) rest (order ++ from ∷ [])
    finished closed = record {
      seen_count = t.seen_count;
      done_count = length-set done from true ∙ t.done_count;
      stacked = λ i h. t.stacked i (in_front i from rest h);
      held = λ i h. ⊎_elim
          (λ g. ⊎_elim inl (λ e. inr (subst (HasMark (set done from true)) e here)) (front_or_end i from rest g))
          (λ g. inr (has_more done from i g)) (t.held i h);
      listed = λ i h. ⊎_elim
          (λ e. subst (λ (y : ℕ). is_in y (order ++ from ∷ []) ≡ true) (sym e) (at_end from order))
          (λ n. in_front i from order (t.listed i (has_before done from i n h)))
          (cases_eq i from);
      inside = λ i h. ⊎_elim (t.inside i) (λ e. subst (λ (y : ℕ). y < length ways) e known) (front_or_end i from order h);
      chain = front_chain rest from t.chain;
      behind = λ k j lt g. at k j (cases_lt k (length order)) (subst (λ n. k < n) (length-append order (from ∷ [])) lt) g;
    }
      where
        here : HasMark (set done from true) from
        here = has_now done from (subst (λ n. from < n) (sym t.done_count) known)

        at : (k j : ℕ) → (k < length order) ⊎ (length order ≤ k) → k < length order + 1 → HasWay ways (get_or (order ++ from ∷ []) k 0) j
            → is_in j (take k (order ++ from ∷ [])) ≡ true
        at k j (inl lt) less g =
            ap (is_in j) (take-append-le k order (from ∷ []) (omega (arith, lt)))
            ∙ t.behind k j lt (subst (λ v. HasWay ways v j) (get_or_append_left order (from ∷ []) 0 k lt) g)
        at k j (inr ge) less g =
            let e : k ≡ length order = omega (arith, ge, less) in
            let P : ℕ → Type 0 = λ v. HasWay ways (get_or (order ++ from ∷ []) v 0) j → is_in j (take v (order ++ from ∷ [])) ≡ true in
            subst P (sym e) (λ g. ap (is_in j) (take-append_seam order (from ∷ []))
            ∙ t.listed j (all_done done from j closed (subst (λ v. HasWay ways v j) (get_or-append_seam order from [] 0) g))) g

    -- the same as the code has it
    pub pushed_as : AreInside ways → (node : ℕ) → unseen_of ways seen from ≡ Some node → (new : List Bool) (mid longer : List ℕ)
        → new ≡ set seen node true → mid ≡ rest ++ from ∷ [] → longer ≡ mid ++ node ∷ [] → IsSearching ways new done longer order
    pushed_as inside node e new mid longer m k l =
        let P : List Bool → Type 0 = λ b. IsSearching ways b done longer order in
        let Q : List ℕ → Type 0 = λ ns. IsSearching ways (set seen node true) done ns order in
        subst P (sym m) (subst Q (sym (l ∙ ap (λ ns. ns ++ node ∷ []) k)) (pushed inside node e))

    pub finished_as : leads_to_open ways done from ≡ false → (new : List Bool) (longer : List ℕ) → new ≡ set done from true → longer ≡ order ++ from ∷ []
        → IsSearching ways seen new rest longer
    finished_as closed new longer m l =
        let P : List Bool → Type 0 = λ b. IsSearching ways seen b rest longer in
        let Q : List ℕ → Type 0 = λ ns. IsSearching ways seen (set done from true) rest ns in
        subst P (sym m) (subst Q (sym l) (finished closed))

    -- the node that is pushed is there, and was unseen
    pub pushed_known : AreInside ways → (node : ℕ) → unseen_of ways seen from ≡ Some node → (node < length seen) × (get_or seen node false ≡ false)
    pushed_known inside node e =
        let f = unseen_is seen from node e in
        (subst (λ n. node < n) (sym t.seen_count) (inside from node f.0), f.1)

    pub known_done : from < length done
    known_done = subst (λ n. from < n) (sym t.done_count) known

    pub fewer_as : AreInside ways → (node : ℕ) → unseen_of ways seen from ≡ Some node → (new : List Bool) (mid longer : List ℕ)
        → new ≡ set seen node true → mid ≡ rest ++ from ∷ [] → longer ≡ mid ++ node ∷ []
        → 2 * unseen_count new + length longer < 2 * unseen_count seen + length stack
    fewer_as inside node e new mid longer m k l =
        let f = pushed_known inside node e in
        let u = ap unseen_count m in
        let v = fewer seen node f.0 f.1 in
        let a = ap length l ∙ length-append mid (node ∷ []) in
        let b = ap length k ∙ length-append rest (from ∷ []) in
        let d = ap length is ∙ length-append rest (from ∷ []) in
        omega (arith, u, v, a, b, d)

-- ---- all nodes

module _ (ways : List Ways) where
  -- a search of a further node begins
  pub begun : (seen done : List Bool) (order : List ℕ) (node : ℕ) → IsSearching ways seen done [] order → node < length ways
      → IsSearching ways (set seen node true) done (node ∷ []) order
  begun seen done order node s lt =
      let here = has_now seen node (subst (λ n. node < n) (sym s.seen_count) lt) in
      record {
        seen_count = length-set seen node true ∙ s.seen_count;
        done_count = s.done_count;
        stacked = λ i h. ⊎_elim
            (λ g. absurd (false≢true g))
            (λ e. (subst (λ (y : ℕ). y < length ways) e lt, subst (HasMark (set seen node true)) e here))
            (front_or_end i node [] h);
        held = λ i h. ⊎_elim
            (λ e. inl (subst (λ (y : ℕ). is_in y (node ∷ []) ≡ true) (sym e) (at_end node [])))
            (λ n. ⊎_elim (λ g. absurd (false≢true g)) inr (s.held i (has_before seen node i n h)))
            (cases_eq i node);
        listed = s.listed;
        inside = s.inside;
        chain = (tt, tt);
        behind = s.behind;
      }

  -- the same as the code has it
  pub begun_as : (seen done : List Bool) (order stack : List ℕ) (node : ℕ) → IsSearching ways seen done stack order → stack ≡ [] → node < length ways
      → (new : List Bool) (longer : List ℕ) → new ≡ set seen node true → longer ≡ stack ++ node ∷ [] → IsSearching ways new done longer order
  begun_as seen done order stack node s none lt new longer m l =
      let P : List Bool → Type 0 = λ b. IsSearching ways b done longer order in
      let Q : List ℕ → Type 0 = λ ns. IsSearching ways (set seen node true) done ns order in
      subst P (sym m) (subst Q (sym (l ∙ ap (λ ns. ns ++ node ∷ []) none))
      (begun seen done order node (subst (λ ns. IsSearching ways seen done ns order) none s) lt))

  -- where all are seen and none is in the stack
  pub all_listed : (seen done : List Bool) (stack order : List ℕ) → IsSearching ways seen done stack order → stack ≡ []
      → ((i : ℕ) → i < length ways → HasMark seen i) → IsOrder ways order
  all_listed seen done stack order s none all = record {
    all = λ i lt. ⊎_elim (λ g. absurd (false≢true (sym (ap (is_in i) none) ∙ g))) (s.listed i) (s.held i (all i lt));
    inside = s.inside;
    behind = s.behind;
  }

  -- before the search
  pub unmarked : (seen done : List Bool) → length seen ≡ length ways → length done ≡ length ways
      → ((i : ℕ) → i < length ways → get_or seen i false ≡ false) → ((i : ℕ) → i < length ways → get_or done i false ≡ false) → IsSearching ways seen done [] []
  unmarked seen done a b f g = record {
    seen_count = a;
    done_count = b;
    stacked = λ i h. absurd (false≢true h);
    held = λ i h. absurd (false≢true (sym (clear seen a f i) ∙ h));
    listed = λ i h. absurd (false≢true (sym (clear done b g i) ∙ h));
    inside = λ i h. absurd (false≢true h);
    chain = tt;
    behind = λ k j lt. absurd (omega (arith, lt));
  }
    where
      clear : (marks : List Bool) → length marks ≡ length ways → ((i : ℕ) → i < length ways → get_or marks i false ≡ false) → (i : ℕ) → get_or marks i false ≡ false
      clear marks count none i = ⊎_elim (λ lt. none i lt) (λ le. get_or_past marks i false (omega (arith, count, le))) (cases_lt i (length ways))
