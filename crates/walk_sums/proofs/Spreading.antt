-- A search that marks what a node reaches.
use Rattle.std.proofs.Common.{◌≡◌, ℕ, ◌+◌, ◌*◌, ◌<◌, Bool, true, false, inl, inr, List, [], ◌∷◌, ◌++◌, length, get_or, set, Some, None, ◌↔◌, ap, sym, ◌∙◌, subst, arith, ⊎_elim}
use Rattle.std.proofs.lemmas.Bool.{cases_eq, cases_lt, false≢true}
use Rattle.std.proofs.lemmas.List.{get_or_past, length-set, length-append}
use Rattle.code_rules.specs.Code.{is_in}
use Rattle.walk_sums.specs.declared.graph.Ways.{Ways}
use Rattle.walk_sums.specs.Graph.{HasWay, AreInside, HasMark, unseen_of}
use Rattle.walk_sums.proofs.Unseen.{unseen_count}
use Rattle.walk_sums.specs.Search.{IsReachable, reachable_first, reachable_on, IsSpreading}
use Rattle.walk_sums.proofs.Diving.{at_end, in_front, front_or_end, has_more, has_now, has_before, fewer, unseen_is, all_seen}

module _ (ways : List Ways) (first : ℕ) (marks : List Bool) (stack rest : List ℕ) (from : ℕ) (is : stack ≡ rest ++ from ∷ []) (s : IsSpreading ways first marks stack) where
  t : IsSpreading ways first marks (rest ++ from ∷ [])
  t = subst (IsSpreading ways first marks) is s

  pub known : from < length ways
  known = (t.kept from (at_end from rest)).0

  -- the node that is pushed is there, and was not marked
  pub pushed_known : AreInside ways → (node : ℕ) → unseen_of ways marks from ≡ Some node → (node < length marks) × (get_or marks node false ≡ false)
  pushed_known inside node e =
      let f = unseen_is ways marks from node e in
      (subst (λ n. node < n) (sym t.count) (inside from node f.0), f.1)

  pushed : AreInside ways → (node : ℕ) → unseen_of ways marks from ≡ Some node → IsSpreading ways first (set marks node true) ((rest ++ from ∷ []) ++ node ∷ [])
  pushed inside node e =
      let f = unseen_is ways marks from node e in
      let lt = inside from node f.0 in
      let here = has_now marks node (subst (λ n. node < n) (sym t.count) lt) in
      record {
        count = length-set marks node true ∙ t.count;
        start = has_more marks node first t.start;
        sound = λ i h. ⊎_elim
            (λ same. subst (IsReachable ways first) (sym same) (reachable_on from node (t.sound from (t.kept from (at_end from rest)).1) f.0))
            (λ n. t.sound i (has_before marks node i n h))
            (cases_eq i node);
        kept = λ i h. ⊎_elim
            (λ g. let k = t.kept i g in (k.0, has_more marks node i k.1))
            (λ same. (subst (λ (y : ℕ). y < length ways) same lt, subst (HasMark (set marks node true)) same here))
            (front_or_end i node (rest ++ from ∷ []) h);
        closed = λ i h. ⊎_elim
            (λ same. inl (subst (λ (y : ℕ). is_in y ((rest ++ from ∷ []) ++ node ∷ []) ≡ true) (sym same) (at_end node (rest ++ from ∷ []))))
            (λ n. ⊎_elim (λ g. inl (in_front i node (rest ++ from ∷ []) g)) (λ g. inr (λ j goes. has_more marks node j (g j goes))) (t.closed i (has_before marks node i n h)))
            (cases_eq i node);
      }

  -- the same as the code has it
  pub pushed_as : AreInside ways → (node : ℕ) → unseen_of ways marks from ≡ Some node → (new : List Bool) (mid longer : List ℕ)
      → new ≡ set marks node true → mid ≡ rest ++ from ∷ [] → longer ≡ mid ++ node ∷ [] → IsSpreading ways first new longer
  pushed_as inside node e new mid longer m k l =
      let P : List Bool → Type 0 = λ b. IsSpreading ways first b longer in
      let Q : List ℕ → Type 0 = λ ns. IsSpreading ways first (set marks node true) ns in
      subst P (sym m) (subst Q (sym (l ∙ ap (λ ns. ns ++ node ∷ []) k)) (pushed inside node e))

  pub fewer_as : AreInside ways → (node : ℕ) → unseen_of ways marks from ≡ Some node → (new : List Bool) (mid longer : List ℕ)
      → new ≡ set marks node true → mid ≡ rest ++ from ∷ [] → longer ≡ mid ++ node ∷ []
      → 2 * unseen_count new + length longer < 2 * unseen_count marks + length stack
  fewer_as inside node e new mid longer m k l =
      let f = pushed_known inside node e in
      let u = ap unseen_count m in
      let v = fewer marks node f.0 f.1 in
      let a = ap length l ∙ length-append mid (node ∷ []) in
      let b = ap length k ∙ length-append rest (from ∷ []) in
      let d = ap length is ∙ length-append rest (from ∷ []) in
      omega (arith, u, v, a, b, d)

  -- a node of which all ways are marked
  pub dropped : unseen_of ways marks from ≡ None → IsSpreading ways first marks rest
  dropped none = record {
    count = t.count;
    start = t.start;
    sound = t.sound;
    kept = λ i h. t.kept i (in_front i from rest h);
    closed = λ i h. ⊎_elim
        (λ g. ⊎_elim inl (λ same. inr (λ j goes. all_seen ways marks from j none (subst (λ v. HasWay ways v j) (sym same) goes))) (front_or_end i from rest g))
        inr (t.closed i h);
  }

module _ (ways : List Ways) (first : ℕ) where
  -- nothing is in the stack any more
  pub spread_out : (marks : List Bool) (stack : List ℕ) → length stack ≡ 0 → IsSpreading ways first marks stack → (i : ℕ) → HasMark marks i ↔ IsReachable ways first i
  spread_out marks stack e s i = (s.sound i, all i)
    where
      none : (i : ℕ) (xs : List ℕ) → length xs ≡ 0 → is_in i xs ≡ true → ⊥
      none i [] e h = false≢true h
      none i (x ∷ xs) e h = absurd (omega (arith, e))

      all : (i : ℕ) → IsReachable ways first i → HasMark marks i
      all i reachable_first = s.start
      all i (reachable_on k j r goes) = ⊎_elim (λ h. absurd (none k stack e h)) (λ g. g j goes) (s.closed k (all k r))

  -- this node alone is marked and in the stack
  pub first_marked : (clear new : List Bool) (stack : List ℕ) → length clear ≡ length ways → first < length ways → ((i : ℕ) → i < length ways → get_or clear i false ≡ false)
      → new ≡ set clear first true → stack ≡ first ∷ [] → IsSpreading ways first new stack
  first_marked clear new stack count some none m k =
      let P : List Bool → Type 0 = λ b. IsSpreading ways first b stack in
      let Q : List ℕ → Type 0 = λ ns. IsSpreading ways first (set clear first true) ns in
      subst P (sym m) (subst Q (sym k) start)
    where
      clear_all : (i : ℕ) → get_or clear i false ≡ false
      clear_all i = ⊎_elim (λ h. none i h) (λ h. get_or_past clear i false (omega (arith, h, count))) (cases_lt i (length ways))

      only : (i : ℕ) → HasMark (set clear first true) i → i ≡ first
      only i h = ⊎_elim (λ e. e) (λ n. absurd (false≢true (sym (clear_all i) ∙ has_before clear first i n h))) (cases_eq i first)

      here : HasMark (set clear first true) first
      here = has_now clear first (omega (arith, count, some))

      start : IsSpreading ways first (set clear first true) (first ∷ [])
      start = record {
        count = length-set clear first true ∙ count;
        start = here;
        sound = λ i h. subst (IsReachable ways first) (sym (only i h)) reachable_first;
        kept = λ i h. ⊎_elim
            (λ g. absurd (false≢true g))
            (λ e. (subst (λ (y : ℕ). y < length ways) e some, subst (HasMark (set clear first true)) e here))
            (front_or_end i first [] h);
        closed = λ i h. inl (subst (λ (y : ℕ). is_in y (first ∷ []) ≡ true) (sym (only i h)) (at_end first []));
      }
