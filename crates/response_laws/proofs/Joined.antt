-- What a lower task that joins a busy period has of its counts, and makes: the rest of the round that is under way, and its rounds behind WaitEvents.
use Rattle.std.proofs.Common.{◌≡◌, ℕ, zero, suc, ◌+◌, ◌*◌, ◌<◌, ◌≤◌, ◌⊎◌, ◌==◌, ◌&&◌, ◌||◌, not, List, [], ◌∷◌, ◌++◌, Bool, true, false, cond, refl, sym, ap, ◌∙◌, subst, arith, inl, inr, append_assoc, mul-add}
use Rattle.std.specs.List.{AllByRecursion}
use Rattle.std.proofs.lemmas.Bool.{cases_Bool, true≢false, false≢true, and_parts, or_parts}
use Rattle.sloth_base.specs.declared.config.Config.{Config}
use Rattle.sloth_base.specs.declared.app.App.{App}
use Rattle.sloth_base.specs.declared.service.Event.{Event}
use Rattle.sloth_base.specs.declared.service.Event.TheVariants as event
use Rattle.sloth_base.specs.declared.service.Service.TheVariants as service
use Rattle.sloth_base.specs.Named.{declaration}
use Rattle.sloth_base.specs.ServiceCodes.{is_service}
use Rattle.osek_scheduler.specs.declared.state.TaskState.{TaskState}
use Rattle.osek_scheduler.specs.declared.state.TaskState.TheVariants as mode
use Rattle.osek_scheduler.specs.State.{System, task}
use Rattle.osek_scheduler.specs.Apart.{IsActive}
use Rattle.osek_scheduler.specs.InTime.{is_admit}
use Rattle.osek_scheduler.specs.Priority.{is_active}
use Rattle.osek_scheduler.proofs.Facts.{Facts}
use Rattle.osek_blocking.proofs.Once.{Blocks}
use Rattle.osek_blocking.specs.Sections.{IsLower}
use Rattle.sim_induction.specs.Events.{has_frames}
use Rattle.sim_induction.specs.Pace.{ItemSizes}
use Rattle.sim_induction.specs.Spent.{spent_behind}
use Rattle.run_counts.specs.Stages.{Stage, is_turn, is_entry, charged, own, end_of}
use Rattle.run_counts.specs.Rounds.{goes_on_waiting, is_left, opens_round, closes_round, total}
use Rattle.run_counts.proofs.SpentStages.{AreSpent, turn_owns}
use Rattle.response_laws.specs.Sums.{total_where, count}
use Rattle.response_laws.specs.Turns.{in_turn, at_entry, is_other, begins_first, begins_next, round_behind, if_entry, if_turn, was_set}
use Rattle.response_laws.specs.Bounded.{EachOf, EachFirst, EachNext}
use Rattle.response_laws.specs.Demand.{Start}
use Rattle.response_laws.specs.Shares.{share_of, lower_own, lower_counts, LowerSpendWithin}
use Rattle.response_laws.specs.Makers.{MakesWithin}
use Rattle.response_laws.specs.Starts.{IsRaisedTurn, InSection, may_raise, OpensSection, AreOfSection, JoinsSo}
use Rattle.response_laws.specs.CodeStarts.{RoundsTake, Joins}
use Rattle.response_laws.proofs.Blocking.{blocks_or_not}
use Rattle.response_laws.proofs.Linked.{Known, Linked, last_state, last_end, linked_front, linked_behind, each_append}
use Rattle.response_laws.proofs.Lower.{admit_is_none}
use Rattle.response_laws.proofs.LowerSpending.{own_where_none, no_turn, no_entry, blocker_runs}
use Rattle.response_laws.proofs.RoundSums.{turn_apart, turn_rests}
use Rattle.response_laws.proofs.SectionEnds.{none_follow}
use Rattle.response_laws.proofs.SectionWorks.{InRound, in_round}
use Rattle.response_laws.proofs.Shares.{IsApart, IsNoneAtRest, entry_alone, longer, rounds_of, no_round}
use Rattle.response_laws.proofs.Steps.{at_most_one}
use Rattle.response_laws.proofs.Sums.{product_grows, total-le, each_stage}

active_is : (m : TaskState) → is_active m ≡ true → m ≡ mode.Active
active_is mode.Suspended e = absurd (false≢true e)
active_is mode.Ready e = absurd (false≢true e)
active_is mode.Active e = refl
active_is (mode.Waiting mask) e = absurd (false≢true e)

module _ (config : Config) (app : App) (w : Facts config app) (h b : ℕ) (lower : IsLower config h b) (run : List Stage) (first_found : System) (linked : Linked 0 first_found run)
    (known : AllByRecursion (Known config app) run) (asleep : ¬ (IsActive first_found b)) where
  part_links : (before xs behind : List Stage) → run ≡ before ++ (xs ++ behind) → Linked (last_end 0 before) (last_state first_found before) xs
  part_links before xs behind is =
      linked_front (last_end 0 before) (last_state first_found before) xs behind
      (linked_behind 0 first_found before (xs ++ behind) (subst (Linked 0 first_found) is linked))

  part_known : (before xs behind : List Stage) → run ≡ before ++ (xs ++ behind) → AllByRecursion (Known config app) xs
  part_known before xs behind is = (each_append (Known config app) xs behind (each_append (Known config app) before (xs ++ behind) (subst (AllByRecursion (Known config app)) is known)).1).0

  -- ---- no entry

  -- in a section the task is not entered
  no_entry_in : (x : Stage) → (is_other config h x ≡ true → IsRaisedTurn config h b x) → at_entry b x ≡ false
  no_entry_in x turns = by (cases_Bool (is_other config h x))
    where
      not_both : (e : Bool) → at_entry b x ≡ e → in_turn b x ≡ true → at_entry b x ≡ false
      not_both true entry turn = absurd (true≢false (sym turn ∙ (entry_alone b x.stamped.event entry).0))
      not_both false off turn = off

      by : (is_other config h x ≡ true) ⊎ (is_other config h x ≡ false) → at_entry b x ≡ false
      by (inl other) = not_both (at_entry b x) refl (turns other).turn
      by (inr other) = no_entry config app h x.stamped.event b lower.1 other

  no_first : (xs : List Stage) → InSection config h b xs → count (begins_first b) xs ≤ 0
  no_first [] s = omega arith
  no_first (x ∷ xs) s =
      let here = ap {B = ℕ} (λ e. cond (e && not (has_frames (task x.found b).frames)) 1 0) (no_entry_in x s.0) in
      let rest = no_first xs s.1 in
      omega (arith, here, rest)

  -- ---- rounds

  module _ (entry share : Stage → ℕ) (apart : IsApart true b entry share) (rests : IsNoneAtRest true b entry share config app)
      (none_admitted : (x : Stage) → is_admit x.stamped ≡ true → share x ≡ 0)
      (most more : ℕ) (each : EachOf run true b (begins_first b) entry share most) (again : EachOf run true b (begins_next true b) entry share more) (less : more ≤ most) where
    abbrev rest_of_round : List Stage → ℕ
    rest_of_round xs = total share (round_behind true b xs)

    -- what stands in front of the end of a round is no more
    behind_more : (xs ys : List Stage) → AllByRecursion (λ x. closes_round true b x.stamped.event ≡ false) xs → AllByRecursion (λ x. is_entry b x.stamped.event ≡ false) xs
        → rest_of_round ys ≤ rest_of_round (xs ++ ys)
    behind_more [] ys still inside = omega arith
    behind_more (x ∷ xs) ys still inside =
        let rest = behind_more xs ys still.1 inside.1 in
        let goes = (or_parts (is_left b x.stamped.event) (goes_on_waiting b x.stamped.event) still.0).1 in
        let same = ap (λ e. total share (cond e [] (x ∷ cond (goes_on_waiting b x.stamped.event) [] (round_behind true b (xs ++ ys))))) inside.0 in
        let cut = ap (λ g. total share (cond g [] (round_behind true b (xs ++ ys)))) goes in
        omega (arith, rest, same, cut)

    -- a round of either kind
    of_either : (before behind : List Stage) (opens : Stage) → run ≡ before ++ opens ∷ behind → opens_round true b opens.stamped.event ≡ true → rest_of_round behind ≤ most
    of_either before behind opens is begun = by (at_entry b opens) refl (has_frames (task opens.found b).frames) refl begun
      where
        first : begins_first b opens ≡ true → rest_of_round behind ≤ most
        first begins = let le = each before behind opens is begins in omega (arith, le)

        next : begins_next true b opens ≡ true → rest_of_round behind ≤ most
        next begins = let le = again before behind opens is begins in let fits = less in omega (arith, le, fits)

        by : (e : Bool) → at_entry b opens ≡ e → (g : Bool) → has_frames (task opens.found b).frames ≡ g → (e || goes_on_waiting b opens.stamped.event) ≡ true → rest_of_round behind ≤ most
        by true entry false fresh any = first (ap (λ e. e && not (has_frames (task opens.found b).frames)) entry ∙ ap not fresh)
        by true entry true resumed any =
            next (ap (λ e. (e && has_frames (task opens.found b).frames) || goes_on_waiting b opens.stamped.event) entry
            ∙ ap (λ g. g || goes_on_waiting b opens.stamped.event) resumed)
        by false off g frames waits = next (ap (λ e. (e && has_frames (task opens.found b).frames) || goes_on_waiting b opens.stamped.event) off ∙ waits)

    -- the round that is under way where stages begin
    under_way : (before xs behind : List Stage) → run ≡ before ++ (xs ++ behind) → rest_of_round xs ≤ most
    under_way before xs behind is = by (is_active (task (last_state first_found before) b).state) refl
      where
        by : (a : Bool) → is_active (task (last_state first_found before) b).state ≡ a → rest_of_round xs ≤ most
        by false off =
            let none = no_round true b entry share config app rests (last_end 0 before) (last_state first_found before) xs (part_links before xs behind is) (part_known before xs behind is)
            (λ active. true≢false (sym (ap is_active active) ∙ off)) in
            omega (arith, none)
        by true on =
            let r : InRound config app w true b before =
            in_round config app w true b 0 first_found [] before (linked_front 0 first_found before (xs ++ behind) (subst (Linked 0 first_found) is linked))
            (each_append (Known config app) before (xs ++ behind) (subst (AllByRecursion (Known config app)) is known)).0 (λ active. absurd (asleep active))
            (active_is (task (last_state first_found before) b).state on) in
            let split : run ≡ r.before ++ r.opens ∷ (r.middle ++ (xs ++ behind)) =
            is ∙ ap (λ v. v ++ (xs ++ behind)) r.parts ∙ append_assoc r.before (r.opens ∷ r.middle) (xs ++ behind) in
            let le = of_either r.before (r.middle ++ (xs ++ behind)) r.opens split r.opening in
            let few = behind_more r.middle (xs ++ behind) r.open_still r.inside in
            let grown = longer true b entry share xs behind in
            omega (arith, le, few, grown)

    -- a first round begins with what raises the task, or a round is under way
    first_or_under_way : (before xs behind : List Stage) → run ≡ before ++ (xs ++ behind) → AreOfSection config h b xs → rest_of_round xs + count (begins_first b) xs * most ≤ most
    first_or_under_way before [] behind is s = omega arith
    first_or_under_way before (x ∷ xs) behind is s =
        by (is_admit x.stamped) refl s (first_or_under_way (before ++ x ∷ []) xs behind (is ∙ sym (append_assoc before (x ∷ []) (xs ++ behind))))
      where
        fewer : (g : Bool) → total share (cond g [] (round_behind true b xs)) ≤ rest_of_round xs
        fewer true = omega arith
        fewer false = omega arith

        opened : (e : Bool) → at_entry b x ≡ e → InSection config h b xs → rest_of_round (x ∷ xs) + count (begins_first b) (x ∷ xs) * most ≤ most
        opened true entry s =
            let none = no_first xs s in
            let one = at_most_one (begins_first b x) in
            let ends = ap (λ e. total share (cond e [] (x ∷ cond (goes_on_waiting b x.stamped.event) [] (round_behind true b xs)))) entry in
            let le = product_grows (count (begins_first b) (x ∷ xs)) 1 most (omega (arith, none, one)) in
            omega (arith, ends, le)
        opened false off s =
            let none = no_first xs s in
            let zero = ap {B = ℕ} (λ e. cond (e && not (has_frames (task x.found b).frames)) 1 0) off in
            let le = product_grows (count (begins_first b) (x ∷ xs)) 0 most (omega (arith, none, zero)) in
            let rest = under_way before (x ∷ xs) behind is in
            omega (arith, le, rest)

        by : (a : Bool) → is_admit x.stamped ≡ a → OpensSection config h b a (AreOfSection config h b xs) x xs
            → (AreOfSection config h b xs → rest_of_round xs + count (begins_first b) xs * most ≤ most) → rest_of_round (x ∷ xs) + count (begins_first b) (x ∷ xs) * most ≤ most
        by true admits s after =
            let rest = after s in
            let off = no_entry config app h x.stamped.event b lower.1 (admit_is_none config app h x admits) in
            let none = none_admitted x admits in
            let ends = ap (λ e. total share (cond e [] (x ∷ cond (goes_on_waiting b x.stamped.event) [] (round_behind true b xs)))) off in
            let few = fewer (goes_on_waiting b x.stamped.event) in
            let zero = ap {B = ℕ} (λ e. cond (e && not (has_frames (task x.found b).frames)) 1 0) off in
            let le = product_grows (count (begins_first b) (x ∷ xs)) (count (begins_first b) xs) most (omega (arith, zero)) in
            omega (arith, rest, none, ends, few, le)
        by false later s after = opened (at_entry b x) refl s.1

    -- the rounds of a section come to no more
    pub rounds_come : (before xs behind : List Stage) → run ≡ before ++ (xs ++ behind) → AreOfSection config h b xs
        → total (λ x. if_entry b entry x + share x) xs ≤ most + count (begins_next true b) xs * more
    rounds_come before xs behind is section =
        let le = rounds_of true b entry share run most more each again apart before xs behind is in
        let first = first_or_under_way before xs behind is section in
        omega (arith, le, first)

    pub rounds_come_in : (before xs behind : List Stage) → run ≡ before ++ (xs ++ behind) → InSection config h b xs
        → total (λ x. if_entry b entry x + share x) xs ≤ most + count (begins_next true b) xs * more
    rounds_come_in before xs behind is section =
        let le = rounds_of true b entry share run most more each again apart before xs behind is in
        let none = product_grows (count (begins_first b) xs) 0 most (no_first xs section) in
        let rest = under_way before xs behind is in
        omega (arith, le, none, rest)

  -- ---- what it makes

  module _ (f : Stage → ℕ) where
    abbrev others : List Stage → ℕ
    others xs = total_where (is_other config h) f xs

    abbrev by_task : Stage → ℕ
    by_task x = if_entry b f x + if_turn b f x

    -- what raises the task is an entry of it, or in a turn of it
    raises : (e : Event) → may_raise config b e ≡ true → (is_entry b e ≡ true) ⊎ (is_turn b e ≡ true)
    raises (event.Enter t) may = inl (and_parts (t == b) (declaration config b).non may).0
    raises (event.Back t) may = inr (and_parts (t == b) (declaration config b).non may).0
    raises (event.Call t served status) may = inr (and_parts (t == b) (is_service served service.GetResource) may).0
    raises e may = absurd (false≢true may)

    turned : (x : Stage) (xs : List Stage) → (is_other config h x ≡ true → (at_entry b x ≡ true) ⊎ (in_turn b x ≡ true)) → others xs ≤ total by_task xs → others (x ∷ xs) ≤ total by_task (x ∷ xs)
    turned x xs is rest = by (is_other config h x) refl
      where
        which : (at_entry b x ≡ true) ⊎ (in_turn b x ≡ true) → f x ≤ by_task x
        which (inl entry) = let on = ap {B = ℕ} (λ e. cond e (f x) 0) entry in omega (arith, on)
        which (inr turn) = let on = ap {B = ℕ} (λ e. cond e (f x) 0) turn in omega (arith, on)

        by : (o : Bool) → is_other config h x ≡ o → cond o (f x) 0 + others xs ≤ total by_task (x ∷ xs)
        by true other = let here = which (is other) in let more = rest in omega (arith, here, more)
        by false other = let more = rest in omega (arith, more)

    in_turns : (xs : List Stage) → InSection config h b xs → others xs ≤ total by_task xs
    in_turns [] s = omega arith
    in_turns (x ∷ xs) s = turned x xs (λ other. inr (s.0 other).turn) (in_turns xs s.1)

    others_within : (xs : List Stage) → AreOfSection config h b xs → others xs ≤ total by_task xs
    others_within [] s = omega arith
    others_within (x ∷ xs) s = by (is_admit x.stamped) refl s (others_within xs)
      where
        which : IsRaisedTurn config h b x ⊎ (may_raise config b x.stamped.event ≡ true) → (at_entry b x ≡ true) ⊎ (in_turn b x ≡ true)
        which (inl raised) = inr raised.turn
        which (inr may) = raises x.stamped.event may

        by : (a : Bool) → is_admit x.stamped ≡ a → OpensSection config h b a (AreOfSection config h b xs) x xs → (AreOfSection config h b xs → others xs ≤ total by_task xs)
            → others (x ∷ xs) ≤ total by_task (x ∷ xs)
        by true admits s after = turned x xs (λ other. absurd (true≢false (sym other ∙ admit_is_none config app h x admits))) (after s)
        by false later s after = turned x xs (λ other. which (s.0 other)) (in_turns xs s.1)

    pub makes_within : (most more : ℕ) → EachFirst run true b f most → EachNext run true b f more → more ≤ most
        → (before xs behind : List Stage) → run ≡ before ++ (xs ++ behind) → AreOfSection config h b xs → others xs ≤ most + count (begins_next true b) xs * more
    makes_within most more each again less before xs behind is section =
        let le = rounds_come f (if_turn b f) (turn_apart true b f) (turn_rests b f config app) none_admitted most more each again less before xs behind is section in
        let all = others_within xs section in
        omega (arith, le, all)
      where
        none_admitted : (x : Stage) → is_admit x.stamped ≡ true → if_turn b f x ≡ 0
        none_admitted x admits = ap {B = ℕ} (λ t. cond t (f x) 0) (no_turn config app h x.stamped.event b lower.1 (admit_is_none config app h x admits))

  -- ---- where it joins

  module _ (cuts : ℕ → Bool) (s : Start) (joins : Joins app cuts b s) (walks : (j most : ℕ) → MakesWithin app run b j true most) where
    -- its rounds behind WaitEvents are no more than the start has
    pub few_rounds : (before xs behind : List Stage) → run ≡ before ++ (xs ++ behind) → AreOfSection config h b xs → JoinsSo config h s b xs → count (begins_next true b) xs ≤ s.nexts b
    few_rounds before xs behind is section so = by joins.sets.later refl
      where
        own_sets : total_where (is_other config h) (was_set b) xs ≤ joins.sets.under_way + count (begins_next true b) xs * joins.sets.later
        own_sets =
            makes_within (was_set b) joins.sets.under_way joins.sets.later ((walks b joins.sets.under_way).first_sets joins.sets.firsts)
            ((walks b joins.sets.later).next_sets joins.sets.laters_fit) joins.sets.longer before xs behind is section

        by : (n : ℕ) → joins.sets.later ≡ n → count (begins_next true b) xs ≤ s.nexts b
        by zero e =
            let few = so joins.joins in
            let own = own_sets in
            let none = ap (λ v. count (begins_next true b) xs * v) e in
            let all = joins.sets.all in
            let number = joins.number in
            omega (arith, few, own, none, all, number)
        by (suc k) e =
            let each = ap (λ v. s.nexts b * v) e in
            let parts = mul-add (s.nexts b) 1 k in
            let all = joins.sets.all in
            let number = joins.number in
            absurd (omega (arith, each, parts, all, number))

    -- so many rounds come to no more than is taken for them
    pub taken : {First Later : ℕ → Type 0} {most : ℕ} (r : RoundsTake First Later (s.nexts b) most) (n : ℕ) → n ≤ s.nexts b → r.under_way + n * r.later ≤ most
    taken r n le = let grown = product_grows n (s.nexts b) r.later le in let all = r.all in omega (arith, grown, all)

  -- ---- its counts

  module _ (size : ItemSizes) (longest : ℕ) (few : LowerSpendWithin config h longest run) where
    -- what lower tasks have of a section is the task's own, and one item
    lower_within : (before behind : List Stage) (start at spent : ℕ) (s : System) (xs : List Stage) → run ≡ before ++ (xs ++ behind) → Linked start s xs
        → AllByRecursion (Known config app) xs → AreSpent config app size longest b at spent s xs → InSection config h b xs
        → total (lower_counts config h) xs ≤ total (share_of config b) xs + longest
    lower_within before behind start at spent s [] is l k spends section = omega arith
    lower_within before behind start at spent s (x ∷ xs) is l k spends section =
        by (blocks_or_not config app h x.found b) (cases_Bool (is_other config h x))
        (lower_within (before ++ x ∷ []) behind (end_of x) (cond (is_admit x.stamped) at x.stamped.stamp.at) (spent_behind config b at spent x.found x.stamped) x.next xs
        (is ∙ sym (append_assoc before (x ∷ []) (xs ++ behind))) l.2 k.1 spends.2 section.1)
      where
        shared : share_of config b x ≡ own config b x
        shared = ap {B = ℕ} (λ e. cond e 0 (own config b x)) (no_entry_in x section.0)

        by : Blocks config h x.found b ⊎ (Blocks config h x.found b → ⊥) → (is_other config h x ≡ true) ⊎ (is_other config h x ≡ false)
            → total (lower_counts config h) xs ≤ total (share_of config b) xs + longest
            → total (lower_counts config h) (x ∷ xs) ≤ total (share_of config b) (x ∷ xs) + longest
        by (inr away) o rest =
            let none = none_follow config app h b lower x.start x.found (x ∷ xs) (refl, refl, l.2) k section away in
            let le = own_where_none config h (x ∷ xs) none in
            let most = few before (x ∷ xs) behind is none in
            omega (arith, le, most)
        by (inl blocks) (inl other) rest =
            let c = ap {B = ℕ} (λ o. cond o (charged x) (lower_own config h x)) other in
            let same = turn_owns config app size longest b at spent x spends.1 (section.0 other).turn in
            let mine = shared in
            omega (arith, c, same, mine, rest)
        by (inl blocks) (inr other) rest =
            let c = ap {B = ℕ} (λ o. cond o (charged x) (lower_own config h x)) other in
            let runs = blocker_runs config app h x k.0 other b blocks in
            let mine = shared in
            omega (arith, c, runs, mine, rest)

    -- so it is within its rounds
    pub joined_counts : IsApart true b (λ x. 0) (share_of config b) → IsNoneAtRest true b (λ x. 0) (share_of config b) config app → ((x : Stage) → is_admit x.stamped ≡ true → share_of config b x ≡ 0)
        → (most more : ℕ) → EachOf run true b (begins_first b) (λ x. 0) (share_of config b) most → EachOf run true b (begins_next true b) (λ x. 0) (share_of config b) more → more ≤ most
        → (before xs behind : List Stage) → run ≡ before ++ (xs ++ behind) → (at spent : ℕ) → AreSpent config app size longest b at spent (last_state first_found before) xs
        → InSection config h b xs → total (lower_counts config h) xs ≤ most + count (begins_next true b) xs * more + longest
    joined_counts apart rests none_admitted most more each again less before xs behind is at spent spends section =
        let lower = lower_within before behind (last_end 0 before) at spent (last_state first_found before) xs is (part_links before xs behind is) (part_known before xs behind is) spends section in
        let all = total-le (share_of config b) (λ x. if_entry b (λ y. 0) x + share_of config b x) xs (each_stage (λ x. share_of config b x ≤ if_entry b (λ y. 0) x + share_of config b x) (λ x. omega arith) xs) in
        let come = rounds_come_in (λ x. 0) (share_of config b) apart rests none_admitted most more each again less before xs behind is section in
        omega (arith, lower, all, come)
