-- Verdicts on a symbol have the same words.
use Rattle.std.proofs.Common.{◌≡◌, ℕ, zero, suc, ◌<◌, ◌⊎◌, inl, inr, true, false, ◌||◌, cond, List, [], ◌∷◌, ◌++◌, length, get_or, Option, Some, None, refl, sym, ap, ◌∙◌, subst, arith}
use Rattle.std.specs.Prelude.{◌≢◌, codes}
use Rattle.std.specs.Bool.{Decides}
use Rattle.std.proofs.lemmas.Bool.{false≢true}
use Rattle.std.proofs.lemmas.Bool.Decides.{same_from_decides}
use Rattle.sloth_base.specs.declared.config.Config.{Config}
use Rattle.sloth_base.specs.declared.app.App.{App}
use Rattle.sloth_base.specs.Limits.{ceiling_count}
use Rattle.sloth_base.specs.Named.{declaration}
use Rattle.osek_scheduler.specs.Apart.{static_priority}
use Rattle.call_graph.specs.Bits.{is_member}
use Rattle.shares_text.specs.declared.keepers.Keeper.{Keeper}
use Rattle.shares_text.specs.declared.open_pairs.OpenPair.{OpenPair}
use Rattle.shares_text.specs.declared.verdict.Verdict.{Verdict}
use Rattle.shares_text.specs.declared.verdict.Verdict.TheVariants as verdict
use Rattle.shares_text.specs.Accesses.{Uses}
use Rattle.shares_text.specs.Verdicts.{IsUsedByOne, IsShared, IsOnlyRead, IsWritten, KeepsOut, IsKeeper, AreKeepersBelow, AreKeepers, no_keeper, IsFirstOpenPair, IsVerdict}
use Rattle.shares_text.proofs.Orders.{IsNoLater, no_later}
use Rattle.shares_text.specs.SharesText.{task_word, resource_word, words_below, has_below, under_words, keeper_words, further_keepers, keepers_words, pair_words, verdict_words}

-- ---- sets

below_same : (word : ℕ → List ℕ) (a b n : ℕ) → ((k : ℕ) → k < n → is_member a k ≡ is_member b k) → words_below word a n ≡ words_below word b n
below_same word a b zero h = refl
below_same word a b (suc n) h =
    ap (λ l. l ++ cond (is_member a n) (word n) []) (below_same word a b n (λ k lt. h k (omega (arith, lt))))
    ∙ ap (λ t. words_below word b n ++ cond t (word n) []) (h n (omega arith))

has_same : (a b n : ℕ) → ((k : ℕ) → k < n → is_member a k ≡ is_member b k) → has_below a n ≡ has_below b n
has_same a b zero h = refl
has_same a b (suc n) h =
    ap (λ t. t || is_member a n) (has_same a b n (λ k lt. h k (omega (arith, lt)))) ∙ ap (λ t. has_below b n || t) (h n (omega arith))

under_same : (config : Config) (a b : ℕ) → ((r : ℕ) → r < ceiling_count → is_member a r ≡ is_member b r) → under_words config a ≡ under_words config b
under_same config a b h =
    ap (λ t. cond t (codes " under" ++ words_below (resource_word config) a ceiling_count) []) (has_same a b ceiling_count h)
    ∙ ap (λ l. cond (has_below b ceiling_count) (codes " under" ++ l) []) (below_same (resource_word config) a b ceiling_count h)

-- ---- pairs

later_both : (a b : ℕ) (P Q : Type 0) → (a < b) ⊎ ((a ≡ b) × P) → (b < a) ⊎ ((b ≡ a) × Q) → (a ≡ b) × P × Q
later_both a b P Q (inl x) (inl y) = absurd (omega (arith, x, y))
later_both a b P Q (inl x) (inr y) = let e = y.0 in absurd (omega (arith, x, e))
later_both a b P Q (inr x) (inl y) = let e = x.0 in absurd (omega (arith, e, y))
later_both a b P Q (inr x) (inr y) = (x.0, x.1, y.1)

one_pair : (p q : OpenPair) → IsNoLater p q → IsNoLater q p → p ≡ q
one_pair p q h k =
    let a = later_both p.low_line q.low_line _ _ h k in
    let b = later_both p.high_line q.high_line _ _ a.1 a.2 in
    let c = later_both p.low q.low _ _ b.1 b.2 in
    let le = c.1 in
    let ge = c.2 in
    let d : p.high ≡ q.high = omega (arith, le, ge) in
    ap (λ x. record { low = x; low_line = p.low_line; high = p.high; high_line = p.high_line }) c.0
    ∙ (ap (λ x. record { low = q.low; low_line = x; high = p.high; high_line = p.high_line }) a.0
    ∙ (ap (λ x. record { low = q.low; low_line = q.low_line; high = x; high_line = p.high_line }) d
    ∙ ap (λ x. record { low = q.low; low_line = q.low_line; high = q.high; high_line = x }) b.0))

module _ (config : Config) (app : App) (y : ℕ) where
  -- ---- users in order

  -- the priority is below the other one, if there is one
  abbrev Under : ℕ → Option ℕ → Type 0
  Under priority None = Unit {0}
  Under priority (Some above) = priority < above

  -- the user is in the list
  abbrev In : ℕ → List Keeper → Type 0
  In t [] = ⊥
  In t (k ∷ rest) = (k.task ≡ t) ⊎ In t rest

  -- each user below is in the list
  abbrev Covers : Option ℕ → List Keeper → Type 0
  Covers above list = (t : ℕ) → Uses app y t → Under (static_priority config t) above → In t list

  is_under : (above : Option ℕ) (k : Keeper) → IsKeeper config app y above k → Under (static_priority config k.task) above
  is_under None k h = tt
  is_under (Some p) k h = h.0

  -- all of a list are below
  all_under : (above : Option ℕ) (list : List Keeper) → AreKeepersBelow config app y above list → (t : ℕ) → In t list → Under (static_priority config t) above
  all_under above [] h t i = absurd i
  all_under above (k ∷ rest) h t i = by above h.1 i (λ j. all_under (Some (static_priority config k.task)) rest h.2 t j)
    where
      by : (a : Option ℕ) → IsKeeper config app y a k → In t (k ∷ rest) → (In t rest → static_priority config t < static_priority config k.task)
          → Under (static_priority config t) a
      by None is i later = tt
      by (Some p) is (inl e) later = subst (λ x. static_priority config x < p) e is.0
      by (Some p) is (inr j) later = let lt = later j in let less = is.0 in omega (arith, lt, less)

  covers_rest : (above : Option ℕ) (k : Keeper) (rest : List Keeper) → AreKeepersBelow config app y above (k ∷ rest) → Covers above (k ∷ rest)
      → Covers (Some (static_priority config k.task)) rest
  covers_rest above k rest h covers t used lt = by (covers t used (wider above h.1))
    where
      wider : (a : Option ℕ) → IsKeeper config app y a k → Under (static_priority config t) a
      wider None is = tt
      wider (Some p) is = let less = is.0 in omega (arith, lt, less)

      by : In t (k ∷ rest) → In t rest
      by (inl e) = let same = ap (static_priority config) e in absurd (omega (arith, lt, same))
      by (inr j) = j

  -- the first of two lists is one
  one_head : (above : Option ℕ) (k j : Keeper) (rest others : List Keeper) → AreKeepersBelow config app y above (k ∷ rest) → AreKeepersBelow config app y above (j ∷ others)
      → Covers above (k ∷ rest) → Covers above (j ∷ others) → k.task ≡ j.task
  one_head above k j rest others h g covers all =
      by (all k.task h.0 (is_under above k h.1)) (covers j.task g.0 (is_under above j g.1))
    where
      by : In k.task (j ∷ others) → In j.task (k ∷ rest) → k.task ≡ j.task
      by (inl e) i = sym e
      by (inr a) (inl e) = e
      by (inr a) (inr b) =
          let x = all_under (Some (static_priority config j.task)) others g.2 k.task a in
          let z = all_under (Some (static_priority config k.task)) rest h.2 j.task b in
          absurd (omega (arith, x, z))

  -- what a keeper says is determined
  keeper_same : (above : Option ℕ) (k j : Keeper) → k.task ≡ j.task → IsKeeper config app y above k → IsKeeper config app y above j → keeper_words config k ≡ keeper_words config j
  keeper_same None k j e h g =
      ap (λ t. (task_word config t ++ cond k.non (codes " NON") []) ++ under_words config k.held) e
      ∙ (ap (λ b. (task_word config j.task ++ cond b (codes " NON") []) ++ under_words config k.held) (h.0 ∙ sym g.0)
      ∙ ap (λ s. (task_word config j.task ++ cond j.non (codes " NON") []) ++ under_words config s) (h.1 ∙ sym g.1))
  keeper_same (Some p) k j e h g =
      ap (λ t. (task_word config t ++ cond k.non (codes " NON") []) ++ under_words config k.held) e
      ∙ (ap (λ b. (task_word config j.task ++ cond b (codes " NON") []) ++ under_words config k.held) non
      ∙ ap (λ u. (task_word config j.task ++ cond j.non (codes " NON") []) ++ u) (under_same config k.held j.held held))
    where
      non : k.non ≡ j.non
      non = h.1 ∙ (ap (λ t. (declaration config t).non) e ∙ sym g.1)

      held : (r : ℕ) → r < ceiling_count → is_member k.held r ≡ is_member j.held r
      held r lt =
          let a = h.2 r lt in
          let b = g.2 r lt in
          same_from_decides (is_member k.held r) (is_member j.held r) a (
            λ m. let s = b.0 m in (non ∙ s.0, subst (λ t. KeepsOut config app y t p r) (sym e) s.1),
            λ s. b.1 (sym non ∙ s.0, subst (λ t. KeepsOut config app y t p r) e s.1),
          )

  further_same : (above : Option ℕ) (list other : List Keeper) → AreKeepersBelow config app y above list → AreKeepersBelow config app y above other → Covers above list → Covers above other
      → further_keepers config list ≡ further_keepers config other
  further_same above [] [] h g covers all = refl
  further_same above [] (j ∷ others) h g covers all = absurd (covers j.task g.0 (is_under above j g.1))
  further_same above (k ∷ rest) [] h g covers all = absurd (all k.task h.0 (is_under above k h.1))
  further_same above (k ∷ rest) (j ∷ others) h g covers all =
      let e = one_head above k j rest others h g covers all in
      let P : ℕ → Type 0 = λ t. AreKeepersBelow config app y (Some (static_priority config t)) others in
      let C : ℕ → Type 0 = λ t. Covers (Some (static_priority config t)) others in
      ap (λ l. (codes "," ++ l) ++ further_keepers config rest) (keeper_same above k j e h.1 g.1)
      ∙ ap (λ l. (codes "," ++ keeper_words config j) ++ l)
      (further_same (Some (static_priority config k.task)) rest others h.2 (subst P (sym e) g.2) (covers_rest above k rest h covers)
      (subst C (sym e) (covers_rest above j others g all)))

  keepers_same : (list other : List Keeper) → AreKeepersBelow config app y None list → AreKeepersBelow config app y None other → Covers None list → Covers None other
      → keepers_words config list ≡ keepers_words config other
  keepers_same [] [] h g covers all = refl
  keepers_same [] (j ∷ others) h g covers all = absurd (covers j.task g.0 tt)
  keepers_same (k ∷ rest) [] h g covers all = absurd (all k.task h.0 tt)
  keepers_same (k ∷ rest) (j ∷ others) h g covers all =
      let e = one_head None k j rest others h g covers all in
      let P : ℕ → Type 0 = λ t. AreKeepersBelow config app y (Some (static_priority config t)) others in
      let C : ℕ → Type 0 = λ t. Covers (Some (static_priority config t)) others in
      ap (λ l. l ++ further_keepers config rest) (keeper_same None k j e h.1 g.1)
      ∙ ap (λ l. keeper_words config j ++ l)
      (further_same (Some (static_priority config k.task)) rest others h.2 (subst P (sym e) g.2) (covers_rest None k rest h covers)
      (subst C (sym e) (covers_rest None j others g all)))

  covering : (list : List Keeper) → AreKeepers config app y list → Covers None list
  covering list h t used under = let s = h.all t used in at list s.0 s.1 s.2
    where
      at : (l : List Keeper) (k : ℕ) → k < length l → (get_or l k no_keeper).task ≡ t → In t l
      at [] k lt e = absurd (omega (arith, lt))
      at (x ∷ l) zero lt e = inl e
      at (x ∷ l) (suc k) lt e = inr (at l k (omega (arith, lt)) e)

  -- ---- verdicts

  one_shared : (t : ℕ) → IsUsedByOne app y t → IsShared app y → ⊥
  one_shared t h s = s.differ (h.1 s.one s.first ∙ sym (h.1 s.other s.second))

  read_written : IsOnlyRead app y → IsWritten app y → ⊥
  read_written h w = false≢true (sym (h w.task w.here w.outer w.is) ∙ w.stores)

  tasks_same : (a b : ℕ) → ((t : ℕ) → t < length config.tasks → Decides (is_member a t) (Uses app y t)) → ((t : ℕ) → t < length config.tasks → Decides (is_member b t) (Uses app y t))
      → words_below (task_word config) a (length config.tasks) ≡ words_below (task_word config) b (length config.tasks)
  tasks_same a b h g =
      below_same (task_word config) a b (length config.tasks)
      (λ t lt. same_from_decides (is_member a t) (is_member b t) (h t lt) (g t lt))

  first_same : (p q : OpenPair) → IsFirstOpenPair config app y p → IsFirstOpenPair config app y q → p ≡ q
  first_same p q h g = one_pair p q (no_later p q (h.first q g.is)) (no_later q p (g.first p h.is))

  pub words_same : (v w : Verdict) → IsVerdict config app y v → IsVerdict config app y w → verdict_words config v ≡ verdict_words config w
  words_same verdict.Unused verdict.Unused h g = refl
  words_same verdict.Unused (verdict.One u) h g = absurd (h u g.0)
  words_same verdict.Unused (verdict.Reads b) h g = absurd (h g.0.one g.0.first)
  words_same verdict.Unused (verdict.Guarded b) h g = absurd (h g.0.one g.0.first)
  words_same verdict.Unused (verdict.Ordered b) h g = absurd (h g.0.one g.0.first)
  words_same verdict.Unused (verdict.Open q) h g = absurd (h g.0.one g.0.first)
  words_same (verdict.One t) verdict.Unused h g = absurd (g t h.0)
  words_same (verdict.One t) (verdict.One u) h g = ap (λ x. codes " one" ++ task_word config x) (g.1 t h.0)
  words_same (verdict.One t) (verdict.Reads b) h g = absurd (one_shared t h g.0)
  words_same (verdict.One t) (verdict.Guarded b) h g = absurd (one_shared t h g.0)
  words_same (verdict.One t) (verdict.Ordered b) h g = absurd (one_shared t h g.0)
  words_same (verdict.One t) (verdict.Open q) h g = absurd (one_shared t h g.0)
  words_same (verdict.Reads a) verdict.Unused h g = absurd (g h.0.one h.0.first)
  words_same (verdict.Reads a) (verdict.One u) h g = absurd (one_shared u g h.0)
  words_same (verdict.Reads a) (verdict.Reads b) h g = ap (λ l. codes " reads" ++ l) (tasks_same a b h.2 g.2)
  words_same (verdict.Reads a) (verdict.Guarded b) h g = absurd (read_written h.1 g.1)
  words_same (verdict.Reads a) (verdict.Ordered b) h g = absurd (read_written h.1 g.1)
  words_same (verdict.Reads a) (verdict.Open q) h g = absurd (read_written h.1 g.1)
  words_same (verdict.Guarded a) verdict.Unused h g = absurd (g h.0.one h.0.first)
  words_same (verdict.Guarded a) (verdict.One u) h g = absurd (one_shared u g h.0)
  words_same (verdict.Guarded a) (verdict.Reads b) h g = absurd (read_written g.1 h.1)
  words_same (verdict.Guarded a) (verdict.Guarded b) h g =
      ap (λ l. codes " guarded" ++ l)
      (below_same (resource_word config) a b ceiling_count (λ r lt. same_from_decides (is_member a r) (is_member b r) (h.3 r lt) (g.3 r lt)))
  words_same (verdict.Guarded a) (verdict.Ordered b) h g = absurd (g.2 h.2)
  words_same (verdict.Guarded a) (verdict.Open q) h g = absurd (g.2 h.2)
  words_same (verdict.Ordered a) verdict.Unused h g = absurd (g h.0.one h.0.first)
  words_same (verdict.Ordered a) (verdict.One u) h g = absurd (one_shared u g h.0)
  words_same (verdict.Ordered a) (verdict.Reads b) h g = absurd (read_written g.1 h.1)
  words_same (verdict.Ordered a) (verdict.Guarded b) h g = absurd (h.2 g.2)
  words_same (verdict.Ordered a) (verdict.Ordered b) h g =
      ap (λ l. codes " ordered" ++ l) (keepers_same a b h.4.below g.4.below (covering a h.4) (covering b g.4))
  words_same (verdict.Ordered a) (verdict.Open q) h g = absurd (h.3 q g.3.is)
  words_same (verdict.Open p) verdict.Unused h g = absurd (g h.0.one h.0.first)
  words_same (verdict.Open p) (verdict.One u) h g = absurd (one_shared u g h.0)
  words_same (verdict.Open p) (verdict.Reads b) h g = absurd (read_written g.1 h.1)
  words_same (verdict.Open p) (verdict.Guarded b) h g = absurd (h.2 g.2)
  words_same (verdict.Open p) (verdict.Ordered b) h g = absurd (g.3 p h.3.is)
  words_same (verdict.Open p) (verdict.Open q) h g = ap (λ x. codes " open" ++ pair_words config x) (first_same p q h.3 g.3)
