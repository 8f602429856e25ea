-- Each part that is built item by item is one of a walk.
use Rattle.std.proofs.Common.{◌≡◌, ℕ, ◌+◌, inl, true, false, not, ◌&&◌, List, [], ◌∷◌, ◌++◌, Option, None, refl, ap, sym, ◌∙◌, subst, arith}
use Rattle.std.specs.List.{AllByRecursion}
use Rattle.sloth_base.specs.declared.config.Config.{Config}
use Rattle.sloth_base.specs.declared.app.App.{App}
use Rattle.sloth_base.specs.declared.app.Op.{Op}
use Rattle.sloth_base.specs.declared.app.Op.TheVariants as op
use Rattle.sloth_base.specs.Named.{function, operation, body_of}
use Rattle.sloth_base.specs.declared.app.Func.{Func}
use Rattle.sloth_base.specs.declared.service.Service.{Service}
use Rattle.sloth_base.specs.declared.service.Service.TheVariants as service
use Rattle.sloth_base.specs.Options.{is_number}
use Rattle.sloth_base.specs.ServiceCodes.{is_service}
use Rattle.code_rules.specs.Code.{IsItem, is_followed, ends_for_good}
use Rattle.std.proofs.lemmas.Bool.{false≢true}
use Rattle.osek_blocking.specs.Walks.{Position, place, IsPositionStep, AreConsecutive, IsWalk, chains_itself}
use Rattle.std.proofs.lemmas.List.{append_assoc}
use Rattle.osek_blocking.specs.Sections.{operation_at}
use Rattle.osek_blocking.proofs.Reached.{IsReached, walk_on, reached_next, reached_first}
use Rattle.bound_rules.specs.declared.bound.BodyWeights.{BodyWeights}
use Rattle.bound_rules.specs.Weights.{going_weight}
use Rattle.walk_sums.specs.Weights.{going_at, ending_at, sum_of, AreWeights}
use Rattle.walk_sums.specs.Activations.{is_raised, called_level, is_plain, ReachesItem, reaches_first, reaches_inside, reaches_behind, IsRaisedCall, ReachesCall, level_behind}
use Rattle.walk_sums.specs.declared.levels.Kind.{Kind}
use Rattle.walk_sums.specs.declared.levels.Kind.TheVariants as kinds
use Rattle.walk_sums.specs.Rounds.{OnlyLast, IsPart, IsFirst, IsBehindWait, is_wait}
use Rattle.walk_sums.specs.Kinds.{stops, StandsBehindWait, MayBegin, MayFollow, MayOpen, MayOpenPart}
use Rattle.walk_sums.specs.Parts.{IsOpenStep, SumsBack, SumsOn, SumsOut, SumsWithin, back_returns, back_inside, back_passes, on_ends, on_inside, on_enters, on_passes, out_here, out_behind, within_here, within_called, within_behind}
use Rattle.walk_sums.proofs.PlainSteps.{plain_leads, step_inside}
use Rattle.walk_sums.proofs.Stopping.{call_free, return_free}
use Rattle.walk_sums.proofs.Climbing.{IsStanding}

-- behind a WaitEvent a walk goes on to the next item
wait_plain : (o : Op) → is_wait o ≡ true → is_plain o ≡ true
wait_plain (op.Serve call) e = refl
wait_plain _ e = absurd (false≢true e)

waits_on : (s : Service) → is_service s service.WaitEvent ≡ true → not (ends_for_good s) ≡ true
waits_on service.TerminateTask h = absurd (false≢true h)
waits_on _ h = refl

wait_followed : (o : Op) → is_wait o ≡ true → is_followed o ≡ true
wait_followed (op.Serve call) e = waits_on call.service e
wait_followed _ e = absurd (false≢true e)

no_chain : (s : Service) → is_service s service.WaitEvent ≡ true → is_service s service.ChainTask ≡ false
no_chain service.ChainTask h = absurd (false≢true h)
no_chain _ h = refl

wait_stays : (f : Func) (o : Op) → is_wait o ≡ true → chains_itself f o ≡ false
wait_stays f (op.Serve call) e = ap (λ b. b && is_number call.object f.task) (no_chain call.service e)
wait_stays f _ e = absurd (false≢true e)

module _ (config : Config) (app : App) (weights : List BodyWeights) (kind : Kind) (fit : AreWeights app weights) (t : ℕ) (Level : Position → Option ℕ)
    (IsRaisedAt : Position → Type 0) (standing : IsStanding config app Level IsRaisedAt) where
  -- raised positions from one to another, both among them, each leading to the next, none but the last one that stops
  data Part : Position → ℕ → Position → Type 0 where
    ends : (at : Position) → IsRaisedAt at → Part at (ending_at weights at) at
    goes : (at next to : Position) (n : ℕ) → IsRaisedAt at → stops kind (operation_at app at) ≡ false → IsPositionStep app at next
        → Part next n to → Part at (going_at weights at + n) to

  joined : (at mid next to : Position) (n k : ℕ) → ending_at weights mid ≡ going_at weights mid → stops kind (operation_at app mid) ≡ false → IsPositionStep app mid next
      → Part at n mid → Part next k to → Part at (n + k) to
  joined at mid next to n k same calm step (ends a raised) q = subst (λ v. Part a (v + k) to) (sym same) (goes a next to k raised calm step q)
  joined at mid next to n k same calm step (goes a then m size raised free first p) q =
      subst (λ v. Part a v to) (omega arith) (goes a then to (size + k) raised free first (joined then m next to size k same calm step p q))

  -- a section from a part
  record Listed (at : Position) (n : ℕ) : Type 0 where
    further : List Position
    consecutive : AreConsecutive app (at ∷ further)
    raised : AllByRecursion IsRaisedAt (at ∷ further)
    unbroken : OnlyLast app (stops kind) (at ∷ further)
    size : sum_of weights (at ∷ further) ≡ n

  listed : (at to : Position) (n : ℕ) → Part at n to → Listed at n
  listed at to n (ends a raised) = record {
    further = [];
    consecutive = (tt, tt);
    raised = (raised, tt);
    unbroken = (λ none. absurd (none refl), tt);
    size = refl;
  }
  listed at to n (goes a next last size raised free step p) =
      let l = listed next last size p in
      record {
        further = next ∷ l.further;
        consecutive = (step, l.consecutive);
        raised = (raised, l.raised);
        unbroken = (λ _. free, l.unbroken);
        size = ap (λ v. going_at weights a + v) l.size;
      }

  part_of : (Begins : List Position → Type 0) (at to : Position) (n : ℕ) (r : IsReached app t at) → Begins r.before → Part at n to
      → (positions : List Position) × IsPart app t Begins IsRaisedAt (stops kind) positions × (sum_of weights positions ≡ n)
  part_of Begins at to n r may p =
      let l = listed at to n p in
      (at ∷ l.further, record { before = r.before; of_walk = walk_on app t r.before l.further at r.walk l.consecutive; begins = may; stands = l.raised; unbroken = l.unbroken }, l.size)

  -- ---- walks inside an activation

  walk_inside : (f i : ℕ) (outer : Position) → ReachesItem app f i → IsReached app t (place f 0 ∷ outer) → IsReached app t (place f i ∷ outer)
  walk_inside f i outer (reaches_first g) r = r
  walk_inside f i outer (reaches_inside g k j before s) r =
      reached_next app t (place g k ∷ outer) (place g j ∷ outer) (walk_inside g k outer before r) (step_inside app g k j outer s)
  walk_inside f i outer (reaches_behind a k g q before call inner ret) r =
      let at = walk_inside a k outer before r in
      let entered = reached_next app t (place a k ∷ outer) (place g 0 ∷ place a k ∷ outer) at (op.Invoke g, call, refl) in
      reached_next app t (place g q ∷ place a k ∷ outer) (place a (k + 1) ∷ outer) (walk_inside g q (place a k ∷ outer) inner entered) (op.Return, ret, refl)

  -- ---- parts

  up_raised : (l : Option ℕ) (f i : ℕ) (outer : Position) → Level outer ≡ l → is_raised config app l f i ≡ true → IsRaisedAt (place f i ∷ outer)
  up_raised l f i outer is u = standing.stands f i outer (ap (λ b. is_raised config app b f i) is ∙ u)

  within_call : (l : Option ℕ) (f i : ℕ) (outer : Position) → Level outer ≡ l → is_raised config app l f i ≡ true → Level (place f i ∷ outer) ≡ None
  within_call l f i outer is u =
      standing.called f i outer ∙ ap (λ b. called_level b (Level outer)) (ap (λ b. is_raised config app b f i) is ∙ u)

  not_stop : (f i : ℕ) (o : Op) → IsItem app f i o → stops kind o ≡ false → stops kind (operation app f i) ≡ false
  not_stop f i o item calm = ap (stops kind) item.is ∙ calm

  -- a plain item in front of a part
  inside_front : (l : Option ℕ) (f i j n : ℕ) (outer to : Position) → Level outer ≡ l → IsOpenStep config app kind l f i j → Part (place f j ∷ outer) n to
      → Part (place f i ∷ outer) (going_weight weights f i + n) to
  inside_front l f i j n outer to is p part =
      goes (place f i ∷ outer) (place f j ∷ outer) to n (up_raised l f i outer is p.raised) (not_stop f i p.step.operation p.step.item p.no_stop)
      (step_inside app f i j outer p.step) part

  -- a call in front of one
  call_front : (l : Option ℕ) (f i g n : ℕ) (outer to : Position) → Level outer ≡ l → IsRaisedCall config app l f i g → Part (place g 0 ∷ place f i ∷ outer) n to
      → Part (place f i ∷ outer) (going_weight weights f i + n) to
  call_front l f i g n outer to is e part =
      goes (place f i ∷ outer) (place g 0 ∷ place f i ∷ outer) to n (up_raised l f i outer is e.raised)
      (not_stop f i (op.Invoke g) e.item (call_free kind g)) (op.Invoke g, e.item, refl) part

  -- a part up to a `ret`
  record Returned (f i n : ℕ) (outer : Position) : Type 0 where
    item : ℕ
    is : IsItem app f item op.Return
    part : Part (place f i ∷ outer) n (place f item ∷ outer)

  -- what follows the `ret` of a function that was called
  after_ret : (f i g q n k : ℕ) (outer from to : Position) → IsItem app g q op.Return → Part from n (place g q ∷ place f i ∷ outer) → Part (place f (i + 1) ∷ outer) k to
      → Part from (n + k) to
  after_ret f i g q n k outer from to ret part next =
      joined from (place g q ∷ place f i ∷ outer) (place f (i + 1) ∷ outer) to n k (fit.same g q (ap is_plain ret.is)) (not_stop g q op.Return ret (return_free kind)) (op.Return, ret, refl) part next

  back_part : (l : Option ℕ) (f i n : ℕ) (outer : Position) → Level outer ≡ l → SumsBack config app weights kind l f i n → Returned f i n outer
  back_part l f i n outer is (back_returns d g k ret u) =
      record {
        item = k;
        is = ret;
        part = subst (λ v. Part (place g k ∷ outer) v (place g k ∷ outer)) (fit.same g k (ap is_plain ret.is)) (ends (place g k ∷ outer) (up_raised d g k outer is u));
      }
  back_part l f i n outer is (back_inside d g k j size p further) =
      let r = back_part d g j size outer is further in
      record { item = r.item; is = r.is; part = inside_front d g k j size outer (place g r.item ∷ outer) is p r.part }
  back_part l f i n outer is (back_passes d a k g size more e inner further) =
      let p = back_part None g 0 size (place a k ∷ outer) (within_call d a k outer is e.raised) inner in
      let q = back_part d a (k + 1) more outer is further in
      record {
        item = q.item;
        is = q.is;
        part = call_front d a k g (size + more) outer (place a q.item ∷ outer) is e
            (after_ret a k g p.item size more outer (place g 0 ∷ place a k ∷ outer) (place a q.item ∷ outer) p.is p.part q.part);
      }

  -- a part to some position
  record Ended (at : Position) (n : ℕ) : Type 0 where
    to : Position
    part : Part at n to

  on_part : (l : Option ℕ) (f i n : ℕ) (outer : Position) → Level outer ≡ l → SumsOn config app weights kind l f i n → Ended (place f i ∷ outer) n
  on_part l f i n outer is (on_ends d g k item u) = record { to = place g k ∷ outer; part = ends (place g k ∷ outer) (up_raised d g k outer is u) }
  on_part l f i n outer is (on_inside d g k j size p further) =
      let r = on_part d g j size outer is further in
      record { to = r.to; part = inside_front d g k j size outer r.to is p r.part }
  on_part l f i n outer is (on_enters d a k g size e inner) =
      let p = on_part None g 0 size (place a k ∷ outer) (within_call d a k outer is e.raised) inner in
      record { to = p.to; part = call_front d a k g size outer p.to is e p.part }
  on_part l f i n outer is (on_passes d a k g size more e inner further) =
      let p = back_part None g 0 size (place a k ∷ outer) (within_call d a k outer is e.raised) inner in
      let q = on_part d a (k + 1) more outer is further in
      record {
        to = q.to;
        part = call_front d a k g (size + more) outer q.to is e
            (after_ret a k g p.item size more outer (place g 0 ∷ place a k ∷ outer) q.to p.is p.part q.part);
      }

  -- ---- parts from where a walk leads

  -- a walk leads to the item, behind what a part of the kind begins
  record Begun (f i : ℕ) (outer : Position) : Type 0 where
    reached : IsReached app t (place f i ∷ outer)
    begins : MayFollow app kind reached.before
    opens : MayOpen app kind (place f i ∷ outer)

  behind : (f i : ℕ) (outer : Position) → StandsBehindWait app f i → IsReached app t (place f 0 ∷ outer)
      → (r : IsReached app t (place f i ∷ outer)) × IsBehindWait app r.before
  behind f i outer s from =
      let wait = walk_inside f s.wait outer s.reached from in
      let o = operation app f s.wait in
      let step : IsPositionStep app (place f s.wait ∷ outer) (place f i ∷ outer) =
      (o, s.item, plain_leads app o f s.wait outer (place f i ∷ outer) (wait_plain o s.waits) (i, inl (wait_followed o s.waits, s.next), wait_stays (function app f) o s.waits, refl)) in (
        record {
          before = wait.before ++ (place f s.wait ∷ outer) ∷ [];
          walk = subst (IsWalk app t) (sym (append_assoc wait.before ((place f s.wait ∷ outer) ∷ []) ((place f i ∷ outer) ∷ [])))
              (walk_on app t wait.before ((place f i ∷ outer) ∷ []) (place f s.wait ∷ outer) wait.walk (step, (tt, tt)));
        },
        (wait.before, place f s.wait ∷ outer, refl, s.waits),
      )

  begun : (k : Kind) → k ≡ kind → (f i : ℕ) (outer : Position) → ReachesItem app f i → MayBegin app kind f i → IsReached app t (place f 0 ∷ outer) → Begun f i outer
  begun k same f i outer r may from = by k same (subst (λ v. MayBegin app v f i) (sym same) may)
    where
      at_wait : (v : Kind) → v ≡ kind → ((before : List Position) → IsBehindWait app before → MayFollow app v before) → MayOpen app v (place f i ∷ outer) → StandsBehindWait app f i
          → Begun f i outer
      at_wait v e follows may_open s =
          let found = behind f i outer s from in
          record { reached = found.0; begins = subst (λ w. MayFollow app w found.0.before) e (follows found.0.before found.1); opens = subst (λ w. MayOpen app w (place f i ∷ outer)) e may_open }

      by : (v : Kind) → v ≡ kind → MayBegin app v f i → Begun f i outer
      by kinds.Turns e m = absurd m
      by kinds.Rounds e m = at_wait kinds.Rounds e (λ before b. b) tt m
      by kinds.Sections e m =
          let there = walk_inside f i outer r from in
          record { reached = there; begins = subst (λ w. MayFollow app w there.before) e tt; opens = subst (λ w. MayOpen app w (place f i ∷ outer)) e tt }
      by (kinds.EarlySections line) e m =
          let there = walk_inside f i outer r from in
          record { reached = there; begins = subst (λ w. MayFollow app w there.before) e tt; opens = subst (λ w. MayOpen app w (place f i ∷ outer)) e m }
      by (kinds.Uncleared events) e m = at_wait (kinds.Uncleared events) e (λ before b. b) tt m

  -- in an activation that a walk enters, from some position up to a `ret`
  record Left (f n : ℕ) (outer : Position) : Type 0 where
    at : Position
    reached : IsReached app t at
    begins : MayFollow app kind reached.before
    opens : MayOpen app kind at
    item : ℕ
    is : IsItem app f item op.Return
    part : Part at n (place f item ∷ outer)

  enter : (f i g : ℕ) (outer : Position) → ReachesCall app f i g → IsReached app t (place f 0 ∷ outer) → IsReached app t (place g 0 ∷ place f i ∷ outer)
  enter f i g outer c from =
      reached_next app t (place f i ∷ outer) (place g 0 ∷ place f i ∷ outer) (walk_inside f i outer c.reached from) (op.Invoke g, c.item, refl)

  called_is : (l : Option ℕ) (f i : ℕ) (outer : Position) → Level outer ≡ l → Level (place f i ∷ outer) ≡ level_behind config app l f i
  called_is l f i outer is = standing.called f i outer ∙ ap (λ b. level_behind config app b f i) is

  out_part : (l : Option ℕ) (f n : ℕ) (outer : Position) → Level outer ≡ l → IsReached app t (place f 0 ∷ outer)
      → SumsOut config app weights kind l f n → Left f n outer
  out_part l f n outer is from (out_here d g k size r may b) =
      let p = back_part d g k size outer is b in
      let here = begun kind refl g k outer r may from in
      record { at = place g k ∷ outer; reached = here.reached; begins = here.begins; opens = here.opens; item = p.item; is = p.is; part = p.part }
  out_part l f n outer is from (out_behind d a k g size more c inner b) =
      let p = out_part (level_behind config app d a k) g size (place a k ∷ outer) (called_is d a k outer is) (enter a k g outer c from) inner in
      let q = back_part d a (k + 1) more outer is b in
      record {
        at = p.at;
        reached = p.reached;
        begins = p.begins;
        opens = p.opens;
        item = q.item;
        is = q.is;
        part = after_ret a k g p.item size more outer p.at (place a q.item ∷ outer) p.is p.part q.part;
      }

  record Found (n : ℕ) : Type 0 where
    at : Position
    to : Position
    reached : IsReached app t at
    begins : MayFollow app kind reached.before
    opens : MayOpen app kind at
    part : Part at n to

  within_part : (l : Option ℕ) (f n : ℕ) (outer : Position) → Level outer ≡ l → IsReached app t (place f 0 ∷ outer)
      → SumsWithin config app weights kind l f n → Found n
  within_part l f n outer is from (within_here d g k size r may b) =
      let p = on_part d g k size outer is b in
      let here = begun kind refl g k outer r may from in
      record { at = place g k ∷ outer; to = p.to; reached = here.reached; begins = here.begins; opens = here.opens; part = p.part }
  within_part l f n outer is from (within_called d a k g size c inner) =
      within_part (level_behind config app d a k) g size (place a k ∷ outer) (called_is d a k outer is) (enter a k g outer c from) inner
  within_part l f n outer is from (within_behind d a k g size more c inner b) =
      let p = out_part (level_behind config app d a k) g size (place a k ∷ outer) (called_is d a k outer is) (enter a k g outer c from) inner in
      let q = on_part d a (k + 1) more outer is b in
      record {
        at = p.at;
        to = q.to;
        reached = p.reached;
        begins = p.begins;
        opens = p.opens;
        part = after_ret a k g p.item size more outer p.at q.to p.is p.part q.part;
      }

  -- what begins within the task's body where parts may is one
  pub later_within : (n : ℕ) → SumsWithin config app weights kind (Level []) (body_of app.funcs t) n
      → (positions : List Position) × (IsPart app t (MayFollow app kind) IsRaisedAt (stops kind) positions × MayOpenPart app kind positions) × (sum_of weights positions ≡ n)
  later_within n w =
      let f = within_part (Level []) (body_of app.funcs t) n [] refl (reached_first app t) w in
      let l = listed f.at f.to n f.part in
      let walk = walk_on app t f.reached.before l.further f.at f.reached.walk l.consecutive in (
        f.at ∷ l.further,
        (record { before = f.reached.before; of_walk = walk; begins = f.begins; stands = l.raised; unbroken = l.unbroken }, f.opens),
        l.size,
      )

  -- what begins with its first item is one
  pub first_within : (n : ℕ) → SumsOn config app weights kind (Level []) (body_of app.funcs t) 0 n
      → (positions : List Position) × IsPart app t IsFirst IsRaisedAt (stops kind) positions × (sum_of weights positions ≡ n)
  first_within n on =
      let p = on_part (Level []) (body_of app.funcs t) 0 n [] refl on in
      part_of IsFirst (place (body_of app.funcs t) 0 ∷ []) p.to n (record { before = []; walk = (refl, (tt, tt)) }) refl p.part
