-- What rows of bits say is what chains of calls reach.
use Rattle.std.proofs.Common.{◌≡◌, ℕ, ◌<◌, inl, inr, ⊎_elim, Bool, true, ◌||◌, ◌&&◌, List, [], ◌∷◌, length, map, get_or, refl, sym, ap, ◌∙◌, subst, arith}
use Rattle.std.specs.Prelude.{◌==◌, count_ones}
use Rattle.std.specs.Bool.{Decides}
use Rattle.std.proofs.lemmas.Bool.{false_from_ne_true, eqb-true, eq-eqb, or_cases, and_parts, and_from}
use Rattle.std.proofs.lemmas.Nat.{ones_le_self}
use Rattle.std.proofs.Math.ListN.{get_or-map}
use Rattle.std.proofs.Math.Bool.{or-true}
use Rattle.sloth_base.specs.declared.app.App.{App}
use Rattle.sloth_base.specs.declared.refusal.Refusal.{Refusal}
use Rattle.sloth_base.specs.Order.{NoFault}
use Rattle.sloth_base.specs.Options.{is_number}
use Rattle.code_rules.specs.Code.{HasCall, IsCallChain, Reaches, TaskReaches, ReachesTaking, ReachesPause}
use Rattle.code_rules.specs.WellFormed.{CycleFault, on_cycle}
use Rattle.call_graph.specs.declared.lists.Ranks.{Ranks}
use Rattle.call_graph.specs.Bits.{is_member}
use Rattle.call_graph.specs.Rows.{row_has, IsRowChain}
use Rattle.call_graph.specs.Cycles.{RowCycle}
use Rattle.call_graph.specs.Reached.{func_of, is_direct_call, is_direct_taking, is_direct_pause, reaches_by, takes_by, pauses_by, used_by}
use Rattle.call_graph.specs.Gathered.{AreGathered}
use Rattle.call_graph.specs.Ranks.{RanksOf}
use Rattle.call_graph.proofs.Sets.{row_inside}
use Rattle.call_graph.proofs.Counted.{counts_less}
use Rattle.call_graph.proofs.Itself.{number_found, number_counts, Decides-calls, takes_are, are_takes, pauses_are, are_pauses, body_is, is_body}

none_counted : count_ones 0 ≡ 0
none_counted = omega (arith, ones_le_self 0)

-- the rows of direct calls, and their closure
pub record Closed (app : App) (direct rows : List ℕ) : Type 0 where
  pub count : length direct ≡ length app.funcs
  pub calls : (f g : ℕ) → f < length app.funcs → row_has direct f g ≡ is_direct_call (func_of app.funcs f) g
  pub closed : (i j : ℕ) → Decides (row_has rows i j) ((between : List ℕ) × IsRowChain direct i between j)

module _ (app : App) (direct rows : List ℕ) (c : Closed app direct rows) where
  calls_are : (f g : ℕ) → row_has direct f g ≡ true → HasCall app f g
  calls_are f g h =
      let known : f < length app.funcs = subst (λ (n : ℕ). f < n) c.count (row_inside direct f g h) in
      (Decides-calls app f known g).0 (sym (c.calls f g known) ∙ h)

  are_calls : (f g : ℕ) → HasCall app f g → row_has direct f g ≡ true
  are_calls f g x = c.calls f g x.1.known ∙ (Decides-calls app f x.1.known g).1 x

  chain_is : (f g : ℕ) (between : List ℕ) → IsRowChain direct f between g → IsCallChain app f between g
  chain_is f g [] h = calls_are f g h
  chain_is f g (k ∷ between) h = (calls_are f k h.0, chain_is k g between h.1)

  is_chain : (f g : ℕ) (between : List ℕ) → IsCallChain app f between g → IsRowChain direct f between g
  is_chain f g [] h = are_calls f g h
  is_chain f g (k ∷ between) h = (are_calls f k h.0, is_chain k g between h.1)

  chained : (f g : ℕ) (between : List ℕ) → IsCallChain app f between g → row_has rows f g ≡ true
  chained f g between h = (c.closed f g).1 (between, is_chain f g between h)

  pub Decides-reaches : (f g : ℕ) → Decides (reaches_by f (get_or rows f 0) g) (Reaches app f g)
  Decides-reaches f g = (
    λ h. ⊎_elim
        (λ e. inl (eqb-true f g e))
        (λ e. let x = (c.closed f g).0 e in inr (x.0, chain_is f g x.0 x.1))
        (or_cases (f == g) (is_member (get_or rows f 0) g) h),
    λ r. by r,
  )
    where
      by : Reaches app f g → reaches_by f (get_or rows f 0) g ≡ true
      by (inl e) = ap (λ b. b || is_member (get_or rows f 0) g) (eq-eqb f g e)
      by (inr x) = let h = chained f g x.0 x.1 in ap (λ b. (f == g) || b) h ∙ or-true (f == g)

  pub Decides-takes : (f r : ℕ) → Decides (takes_by app.funcs f (get_or rows f 0) r) (ReachesTaking app f r)
  Decides-takes f r =
      let test : ℕ → Bool = λ g. reaches_by f (get_or rows f 0) g && is_direct_taking (func_of app.funcs g) r in (
        λ h.
            let x = number_found test (length app.funcs) h in
            let parts = and_parts (reaches_by f (get_or rows f 0) x.0) (is_direct_taking (func_of app.funcs x.0) r) x.2 in
            let y = takes_are app x.0 x.1 r parts.1 in
            (x.0, y.0, y.1, (Decides-reaches f x.0).0 parts.0, y.2),
        λ x. number_counts test (length app.funcs) x.0 x.4.known
            (and_from (reaches_by f (get_or rows f 0) x.0) (is_direct_taking (func_of app.funcs x.0) r) ((Decides-reaches f x.0).1 x.3) (are_takes app x.0 x.4.known r x.1 x.2 x.4)),
      )

  pub Decides-pauses : (f : ℕ) → Decides (pauses_by app.funcs f (get_or rows f 0)) (ReachesPause app f)
  Decides-pauses f =
      let test : ℕ → Bool = λ g. reaches_by f (get_or rows f 0) g && is_direct_pause (func_of app.funcs g) in (
        λ h.
            let x = number_found test (length app.funcs) h in
            let parts = and_parts (reaches_by f (get_or rows f 0) x.0) (is_direct_pause (func_of app.funcs x.0)) x.2 in
            let y = pauses_are app x.0 x.1 parts.1 in
            (x.0, y.0, y.1, y.2, y.3, (Decides-reaches f x.0).0 parts.0, y.4, y.5),
        λ x. number_counts test (length app.funcs) x.0 x.6.known
            (and_from (reaches_by f (get_or rows f 0) x.0) (is_direct_pause (func_of app.funcs x.0)) ((Decides-reaches f x.0).1 x.5) (are_pauses app x.0 x.6.known x.1 x.3 x.4 x.2 x.6 x.7)),
      )

  pub Decides-used : (f t : ℕ) → Decides (used_by app.funcs rows f t) (TaskReaches app t f)
  Decides-used f t =
      let test : ℕ → Bool = λ b. reaches_by b (get_or rows b 0) f && is_number t (func_of app.funcs b).task in (
        λ h.
            let x = number_found test (length app.funcs) h in
            let parts = and_parts (reaches_by x.0 (get_or rows x.0 0) f) (is_number t (func_of app.funcs x.0).task) x.2 in
            (x.0, (x.1, body_is t _ parts.1), (Decides-reaches x.0 f).0 parts.0),
        λ x. number_counts test (length app.funcs) x.0 x.1.0
            (and_from (reaches_by x.0 (get_or rows x.0 0) f) (is_number t (func_of app.funcs x.0).task) ((Decides-reaches x.0 f).1 x.2) (is_body t _ x.1.1)),
      )

  -- ---- cycles

  pub cycle_is : (r : Refusal) → RowCycle app.funcs rows r → CycleFault app r
  cycle_is r x =
      let y = (c.closed x.0 x.0).0 x.2.0 in
      subst (CycleFault app) (sym x.2.1) (on_cycle x.0 y.0 (chain_is x.0 x.0 y.0 y.1))

  chain_known : (f g : ℕ) (between : List ℕ) → IsCallChain app f between g → f < length app.funcs
  chain_known f g [] h = h.1.known
  chain_known f g (k ∷ between) h = h.0.1.known

  pub is_cycle : (r : Refusal) → CycleFault app r → RowCycle app.funcs rows r
  is_cycle r (on_cycle f between chain) = (f, chain_known f f between chain, (chained f f between chain, refl))

  -- ---- ranks

  rank_above : (f g : ℕ) → NoFault (RowCycle app.funcs rows) → HasCall app f g → count_ones (get_or rows g 0) < count_ones (get_or rows f 0)
  rank_above f g none calls =
      counts_less (get_or rows g 0) (get_or rows f 0) g
      (λ i h. let x = (c.closed g i).0 h in (c.closed f i).1 (g ∷ x.0, (are_calls f g calls, x.1)))
      ((c.closed f g).1 ([], are_calls f g calls))
      (false_from_ne_true _ (λ h.
      let x = (c.closed g g).0 h in
      none _ (is_cycle _ (on_cycle g x.0 (chain_is g g x.0 x.1)))))

  rank_is : (ranks : List ℕ) (f : ℕ) → ranks ≡ map count_ones rows → get_or ranks f 0 ≡ count_ones (get_or rows f 0)
  rank_is ranks f e =
      ap (λ (x : List ℕ). get_or x f 0) e ∙ ap (λ d. get_or (map count_ones rows) f d) (sym none_counted) ∙ get_or-map count_ones rows f 0

  pub belongs : (ranks : Ranks) → AreGathered app.funcs rows ranks → NoFault (RowCycle app.funcs rows) → RanksOf app ranks
  belongs ranks g none = record {
    covers = record { rank = g.rank_count; resources = g.resource_count; pauses = g.pause_count; users = g.user_count };
    above = λ f h calls.
        subst (λ (x : ℕ). x < get_or ranks.rank f 0) (sym (rank_is ranks.rank h g.rank))
        (subst (λ (x : ℕ). count_ones (get_or rows h 0) < x) (sym (rank_is ranks.rank f g.rank)) (rank_above f h none calls));
    resources = λ f r known. subst (λ b. Decides b (ReachesTaking app f r)) (sym (g.resources f r known)) (Decides-takes f r);
    pauses = λ f known. subst (λ b. Decides b (ReachesPause app f)) (sym (g.pauses f known)) (Decides-pauses f);
    users = λ f t known. subst (λ b. Decides b (TaskReaches app t f)) (sym (g.users f t known)) (Decides-used f t);
  }
