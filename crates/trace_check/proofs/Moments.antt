-- The moments of moments tells since when each Ready task has been Ready, whatever the events.
use Rattle.std.proofs.Common.{◌≡◌, ◌∙◌, ℕ, ◌<◌, ◌≤◌, ◌⊎◌, inl, inr, List, [], ◌∷◌, ◌++◌, length, get_or, set, refl, sym, ap, subst, arith, append_assoc}
use Rattle.std.specs.Prelude.{◌↔◌}
use Rattle.std.proofs.lemmas.Bool.{cases_eq}
use Rattle.std.proofs.lemmas.List.{append-nil, length-set, get_or-set_same, get_or-set_other}
use Rattle.sloth_base.specs.declared.config.Config.{Config}
use Rattle.sloth_base.specs.declared.app.App.{App}
use Rattle.sloth_base.specs.declared.service.Event.{Event}
use Rattle.sloth_base.specs.declared.service.Event.TheVariants as event
use Rattle.sloth_base.specs.declared.service.Stamp.{Stamp}
use Rattle.sloth_base.specs.declared.service.Stamped.{Stamped}
use Rattle.osek_scheduler.specs.declared.state.TaskState.{TaskState}
use Rattle.osek_scheduler.specs.declared.state.TaskState.TheVariants as mode
use Rattle.osek_scheduler.specs.State.{Task, System, task, sleeping_task, opening}
use Rattle.sloth_base.specs.Named.{declaration}
use Rattle.sloth_base.specs.Limits.{task_limit}
use Rattle.sloth_base.specs.MemoryMap.{line_count}
use Rattle.osek_scheduler.specs.Services.{if_suspended, activated_state, started_task}
use Rattle.osek_scheduler.specs.Steps.{OsekStep, admitted_state}
use Rattle.osek_scheduler.specs.Runs.{AreStepsTo, ReadySince}
use Rattle.osek_scheduler.proofs.Leading.{leads-append, leads-parts, one_end}
use Rattle.osek_blocking.proofs.Effects.{Ordered, Effect}
use Rattle.osek_blocking.proofs.Ordering.{effect, opening_ordered, leads_ordered}
use Rattle.trace_check.specs.Moments.{KeepsMoments, noted_moments}

-- ---- lists

abbrev Snoc : Stamped → List Stamped → List Stamped → List Stamped → Type 0
Snoc e b front rest =
    ((rest ≡ []) × (front ≡ b ++ e ∷ [])) ⊎ ((r0 : List Stamped) × (b ≡ front ++ r0) × (rest ≡ r0 ++ e ∷ []))

tail_of : List Stamped → List Stamped
tail_of [] = []
tail_of (x ∷ xs) = xs

same_tail : (x y : Stamped) (xs ys : List Stamped) → (x ∷ xs) ≡ (y ∷ ys) → xs ≡ ys
unfolding tail_of
same_tail x y xs ys h = ap tail_of h

-- where a list with one item more at its end is cut
snoc_cut : (e : Stamped) (b front rest : List Stamped) → b ++ e ∷ [] ≡ front ++ rest → Snoc e b front rest
snoc_cut e b [] rest h = inr (b, refl, sym h)
snoc_cut e [] (f ∷ []) rest h = let first : f ≡ e = cc in inl (sym (same_tail e f [] rest h), ap (λ (x : Stamped). x ∷ []) first)
snoc_cut e [] (f ∷ g ∷ front) rest h = absurd cc
snoc_cut e (x ∷ b) (f ∷ front) rest h = more (snoc_cut e b front rest (same_tail x f (b ++ e ∷ []) (front ++ rest) h))
  where
    first : x ≡ f
    first = cc

    more : Snoc e b front rest → Snoc e (x ∷ b) (f ∷ front) rest
    more (inl p) = inl (p.0, ap (λ (l : List Stamped). f ∷ l) p.1 ∙ ap (λ (y : Stamped). y ∷ b ++ e ∷ []) (sym first))
    more (inr p) = inr (p.0, ap (λ (y : Stamped). y ∷ b) first ∙ ap (λ (l : List Stamped). f ∷ l) p.1, p.2)

-- ---- states

not_both : (m : TaskState) → m ≡ mode.Ready → m ≡ mode.Active → ⊥
not_both mode.Suspended a b = absurd cc
not_both mode.Ready a b = absurd cc
not_both mode.Active a b = absurd cc
not_both (mode.Waiting x) a b = absurd cc

not_asleep : (m : TaskState) → m ≡ mode.Ready → m ≡ mode.Suspended → ⊥
not_asleep mode.Suspended a b = absurd cc
not_asleep mode.Ready a b = absurd cc
not_asleep mode.Active a b = absurd cc
not_asleep (mode.Waiting x) a b = absurd cc

module _ (config : Config) (app : App) where
  abbrev IsReady : System → ℕ → Type 0
  IsReady s u = (task s u).state ≡ mode.Ready

  -- ---- one admit behind which a task has been Ready

  behind_leads : (past : List Stamped) (s : System) (u k : ℕ) → (r : ReadySince config app past u k) → AreStepsTo config app past (opening config app) s
      → AreStepsTo config app r.behind (admitted_state u r.found) s
  behind_leads past s u k r h =
      let P : List Stamped → Type 0 = λ es. AreStepsTo config app es (opening config app) s in
      let parts = leads-parts config app r.before (r.admit ∷ r.behind) (opening config app) s (subst P r.is h) in
      let same : parts.0 ≡ r.found = one_end config app r.before (opening config app) parts.0 r.found parts.1 r.leads in
      let Q : Event → Type 0 = λ e. OsekStep config app e parts.0 parts.2.0 in
      let first = subst Q r.admits parts.2.1 in
      let next : parts.2.0 ≡ admitted_state u r.found = first.2 ∙ ap (admitted_state u) same in
      let R : System → Type 0 = λ x. AreStepsTo config app r.behind x s in
      subst R next parts.2.2

  -- it is Ready now
  pub ready_now : (past : List Stamped) (s : System) (u k : ℕ) → ReadySince config app past u k → AreStepsTo config app past (opening config app) s → IsReady s u
  ready_now past s u k r h = r.since r.behind [] s (sym (append-nil r.behind)) (behind_leads past s u k r h)

  module _ (past : List Stamped) (s next : System) (e : Stamped) (leads : AreStepsTo config app past (opening config app) s) (step : OsekStep config app e.event s next) where
    -- a task that is Ready behind one event more has been Ready since then
    kept_since : (u k : ℕ) → IsReady next u → ReadySince config app past u k → ReadySince config app (past ++ e ∷ []) u k
    kept_since u k ready r = record {
      before = r.before;
      admit = r.admit;
      behind = r.behind ++ e ∷ [];
      is = ap (λ (l : List Stamped). l ++ e ∷ []) r.is ∙ append_assoc r.before (r.admit ∷ r.behind) (e ∷ []);
      admits = r.admits;
      later = r.later;
      found = r.found;
      leads = r.leads;
      suspended = r.suspended;
      since = λ front rest x cut path. by front rest x path (snoc_cut e r.behind front rest cut);
    }
      where
        whole : AreStepsTo config app (r.behind ++ e ∷ []) (admitted_state u r.found) next
        whole = leads-append config app r.behind (e ∷ []) (admitted_state u r.found) s next (behind_leads past s u k r leads) (next, step, refl)

        by : (front rest : List Stamped) (x : System) → AreStepsTo config app front (admitted_state u r.found) x → Snoc e r.behind front rest → IsReady x u
        by front rest x path (inl p) =
            let P : List Stamped → Type 0 = λ l. AreStepsTo config app l (admitted_state u r.found) x in
            let Q : System → Type 0 = λ y. IsReady y u in
            subst Q (one_end config app (r.behind ++ e ∷ []) (admitted_state u r.found) next x whole (subst P p.1 path)) ready
        by front rest x path (inr p) = r.since front p.0 x p.1 path

    -- the event made the task Ready, or it has been Ready since an earlier one
    abbrev Before : ℕ → ℕ → Type 0
    Before u k = ((e.event ≡ event.Admit u) × (k < e.stamp.at) × ((task s u).state ≡ mode.Suspended)) ⊎ ReadySince config app past u k

    since_before : (u k : ℕ) → ReadySince config app (past ++ e ∷ []) u k → Before u k
    since_before u k r = by (snoc_cut e past r.before (r.admit ∷ r.behind) r.is)
      where
        at_end : (r0 : List Stamped) → past ≡ r.before ++ r0 → (r.admit ∷ r.behind) ≡ r0 ++ e ∷ [] → Before u k
        at_end [] front here =
            let it : r.admit ≡ e = cc in
            let P : List Stamped → Type 0 = λ l. AreStepsTo config app l (opening config app) s in
            let same = one_end config app r.before (opening config app) r.found s r.leads (subst P (front ∙ append-nil r.before) leads) in
            let Q : System → Type 0 = λ y. (task y u).state ≡ mode.Suspended in
            let R : Stamped → Type 0 = λ a. k < a.stamp.at in
            inl (ap (λ (a : Stamped). a.event) (sym it) ∙ r.admits, subst R it r.later, subst Q same r.suspended)
        at_end (a ∷ r1) front here = inr (record {
          before = r.before;
          admit = r.admit;
          behind = r1;
          is = front ∙ ap (λ (x : Stamped). r.before ++ x ∷ r1) (sym it);
          admits = r.admits;
          later = r.later;
          found = r.found;
          leads = r.leads;
          suspended = r.suspended;
          since = λ front1 rest x cut path.
              r.since front1 (rest ++ e ∷ []) x (rest_is ∙ (ap (λ (l : List Stamped). l ++ e ∷ []) cut ∙ append_assoc front1 rest (e ∷ []))) path;
        })
          where
            it : r.admit ≡ a
            it = cc

            rest_is : r.behind ≡ r1 ++ e ∷ []
            rest_is = same_tail r.admit a r.behind (r1 ++ e ∷ []) here

        by : Snoc e past r.before (r.admit ∷ r.behind) → Before u k
        by (inl p) = absurd cc
        by (inr p) = at_end p.0 p.1 p.2

    -- ---- one event

    abbrev Tells : List ℕ → ℕ → ℕ → Type 0
    Tells moments u k = (k < get_or moments u 0) ↔ ReadySince config app (past ++ e ∷ []) u k

    behind : AreStepsTo config app (past ++ e ∷ []) (opening config app) next
    behind = leads-append config app past (e ∷ []) (opening config app) s next leads (next, step, refl)

    -- the entry of a task that the event does not make Ready, and leaves Ready
    same_entry : (moments new : List ℕ) (u k : ℕ) → (k < get_or moments u 0) ↔ ReadySince config app past u k → get_or new u 0 ≡ get_or moments u 0
        → (IsReady s u → IsReady next u) → (e.event ≡ event.Admit u → (task s u).state ≡ mode.Suspended → ⊥) → Tells new u k
    same_entry moments new u k tells same stays not_it = (
      λ less. let r = tells.0 (omega (arith, less, same)) in kept_since u k (stays (ready_now past s u k r leads)) r,
      λ r. by (since_before u k r),
    )
      where
        by : Before u k → k < get_or new u 0
        by (inl p) = absurd (not_it p.0 p.2)
        by (inr r) = let less = tells.1 r in omega (arith, less, same)

    -- that of the task that it makes Ready
    admit_entry : (new : List ℕ) (u k : ℕ) → e.event ≡ event.Admit u → (task s u).state ≡ mode.Suspended → next ≡ admitted_state u s → IsReady next u
        → get_or new u 0 ≡ e.stamp.at → Tells new u k
    admit_entry new u k is asleep leads_to ready entry = (
      λ less. record {
        before = past;
        admit = e;
        behind = [];
        is = refl;
        admits = is;
        later = omega (arith, less, entry);
        found = s;
        leads = leads;
        suspended = asleep;
        since = λ front rest x cut path. now front rest x cut path;
      },
      λ r. by (since_before u k r),
    )
      where
        now : (front rest : List Stamped) (x : System) → [] ≡ front ++ rest → AreStepsTo config app front (admitted_state u s) x → IsReady x u
        now [] rest x cut path = let Q : System → Type 0 = λ y. IsReady y u in subst Q (leads_to ∙ sym path) ready
        now (f ∷ front) rest x cut path = absurd cc

        by : Before u k → k < get_or new u 0
        by (inl p) = let less = p.1 in omega (arith, less, entry)
        by (inr r) = absurd (not_asleep (task s u).state (ready_now past s u k r leads) asleep)

    -- that of a task that is not Ready behind it
    no_entry : (new : List ℕ) (u k : ℕ) → (IsReady next u → ⊥) → get_or new u 0 ≡ 0 → Tells new u k
    no_entry new u k rests entry = (
      λ less. absurd (omega (arith, less, entry)),
      λ r. absurd (rests (ready_now (past ++ e ∷ []) next u k r behind)),
    )

  -- ---- what each event leaves Ready

  module _ (s next : System) where
    -- each task that is Ready stays so, but for one that is entered
    stays_ready : (e : Event) → Effect config s next e → (u : ℕ) → IsReady s u → (e ≡ event.Enter u → ⊥) → IsReady next u
    stays_ready (event.Enter t) f u r n = f.moves.stays.ready u (λ same. n (ap event.Enter (sym same))) r
    stays_ready (event.Run t func item result) f u r n = f.moves.stays.ready u (λ same. not_both (task s t).state (subst (IsReady s) same r) f.was) r
    stays_ready (event.Call t served status) f u r n = f.moves.stays.ready u (λ same. not_both (task s t).state (subst (IsReady s) same r) f.was) r
    stays_ready (event.Left t served) f u r n = f.moves.stays.ready u (λ same. not_both (task s t).state (subst (IsReady s) same r) f.was) r
    stays_ready (event.Back t) f u r n = f.moves.stays.ready u (λ same. not_both (task s t).state (subst (IsReady s) same r) f.was) r
    stays_ready e f u r n = f.ready u r

  module _ (past : List Stamped) (s : System) (moments : List ℕ) (keeps : KeepsMoments config app past s moments) (few : length config.tasks ≤ task_limit) where
    ordered : Ordered config s
    ordered = leads_ordered config app past (opening config app) s (opening_ordered config app) keeps.leads

    module _ (stamp : Stamp) (next : System) where
      abbrev it : Event → Stamped
      it what = record { stamp = stamp; event = what }

      abbrev Told : Event → List ℕ → Type 0
      Told what new = (u k : ℕ) → (k < get_or new u 0) ↔ ReadySince config app (past ++ it what ∷ []) u k

      effect_of : (what : Event) → OsekStep config app what s next → Effect config s next what
      effect_of what step = effect config app s next ordered what step

      -- an event that neither admits nor enters
      plain : (what : Event) → OsekStep config app what s next → ((u : ℕ) → what ≡ event.Admit u → ⊥) → ((u : ℕ) → what ≡ event.Enter u → ⊥) → Told what moments
      plain what step no_admit no_enter u k =
          same_entry past s next (it what) keeps.leads step moments moments u k (keeps.tells u k) refl
          (λ r. stays_ready s next what (effect_of what step) u r (no_enter u)) (λ is asleep. no_admit u is)

      active_at : (t : ℕ) → OsekStep config app (event.Enter t) s next → (task next t).state ≡ mode.Active
      active_at t step =
          let declared = step.1.declared in
          let count = ordered.count in
          ap (λ (x : System). (task x t).state) step.4
          ∙ ap (λ (k : Task). k.state) (get_or-set_same s.tasks t (record (started_task app t (task s t).frames (task s t)) { state = mode.Active; raised = (declaration config t).non }) sleeping_task (omega (arith, declared, count)))

      enters : (t : ℕ) → OsekStep config app (event.Enter t) s next → Told (event.Enter t) (set moments t 0)
      enters t step u k = by (cases_eq u t)
        where
          inside : t < length moments
          inside = let declared = step.1.declared in let count = keeps.count in omega (arith, declared, count, few)

          same_number : event.Enter t ≡ event.Enter u → t ≡ u
          same_number h = cc

          by : (u ≡ t) ⊎ (u ≡ t → ⊥) → (k < get_or (set moments t 0) u 0) ↔ ReadySince config app (past ++ it (event.Enter t) ∷ []) u k
          by (inl same) =
              let P : ℕ → Type 0 = λ x. (k < get_or (set moments t 0) x 0) ↔ ReadySince config app (past ++ it (event.Enter t) ∷ []) x k in
              subst P (sym same)
              (no_entry past s next (it (event.Enter t)) keeps.leads step (set moments t 0) t k (λ r. not_both (task next t).state r (active_at t step))
              (get_or-set_same moments t 0 0 inside))
          by (inr differ) =
              same_entry past s next (it (event.Enter t)) keeps.leads step moments (set moments t 0) u k (keeps.tells u k) (get_or-set_other moments t u 0 0 differ)
              (λ r. stays_ready s next (event.Enter t) (effect_of (event.Enter t) step) u r (λ h. differ (sym (same_number h)))) (λ h asleep. cc)

      -- an arrival of a task that sleeps
      wakes : (t : ℕ) → OsekStep config app (event.Admit t) s next → (task s t).state ≡ mode.Suspended → Told (event.Admit t) (set moments t stamp.at)
      wakes t step asleep u k = by (cases_eq u t)
        where
          inside : t < length moments
          inside = let declared = step.1 in let count = keeps.count in omega (arith, declared, count, few)

          ready : (task next t).state ≡ mode.Ready
          ready =
              let declared = step.1 in
              let count = ordered.count in
              ap (λ (x : System). (task x t).state) step.2
              ∙ (ap (λ m. (task (if_suspended m (record (activated_state s t) { fresh = t ∷ s.fresh }) s) t).state) asleep
              ∙ ap (λ (k : Task). k.state) (get_or-set_same s.tasks t (record (task s t) { state = mode.Ready }) sleeping_task (omega (arith, declared, count))))

          same_number : event.Admit t ≡ event.Admit u → t ≡ u
          same_number h = cc

          by : (u ≡ t) ⊎ (u ≡ t → ⊥) → (k < get_or (set moments t stamp.at) u 0) ↔ ReadySince config app (past ++ it (event.Admit t) ∷ []) u k
          by (inl same) =
              let P : ℕ → Type 0 = λ x. (k < get_or (set moments t stamp.at) x 0) ↔ ReadySince config app (past ++ it (event.Admit t) ∷ []) x k in
              subst P (sym same)
              (admit_entry past s next (it (event.Admit t)) keeps.leads step (set moments t stamp.at) t k refl asleep step.2 ready
              (get_or-set_same moments t stamp.at 0 inside))
          by (inr differ) =
              same_entry past s next (it (event.Admit t)) keeps.leads step moments (set moments t stamp.at) u k (keeps.tells u k) (get_or-set_other moments t u stamp.at 0 differ)
              (λ r. stays_ready s next (event.Admit t) (effect_of (event.Admit t) step) u r (λ h. cc)) (λ h asleep. differ (sym (same_number h)))

      -- an arrival of another task changes nothing
      passes_by : (t : ℕ) → OsekStep config app (event.Admit t) s next → ((task s t).state ≡ mode.Suspended → ⊥) → Told (event.Admit t) moments
      passes_by t step awake u k =
          same_entry past s next (it (event.Admit t)) keeps.leads step moments moments u k (keeps.tells u k) refl
          (λ r. stays_ready s next (event.Admit t) (effect_of (event.Admit t) step) u r (λ h. cc))
          (λ h asleep. let same : t ≡ u = cc in awake (ap (λ x. (task s x).state) same ∙ asleep))

      admits : (t : ℕ) → OsekStep config app (event.Admit t) s next → (m : TaskState) → (task s t).state ≡ m → Told (event.Admit t) (if_suspended m (set moments t stamp.at) moments)
      admits t step mode.Suspended is = wakes t step is
      admits t step mode.Ready is = passes_by t step (λ asleep. cc)
      admits t step mode.Active is = passes_by t step (λ asleep. cc)
      admits t step (mode.Waiting mask) is = passes_by t step (λ asleep. cc)

      told : (what : Event) → OsekStep config app what s next → Told what (noted_moments what stamp.at s moments)
      told (event.Admit t) step = admits t step (task s t).state refl
      told (event.Enter t) step = enters t step
      told what step = plain what step (λ u h. cc) (λ u h. cc)

      kept_count : (what : Event) → length (noted_moments what stamp.at s moments) ≡ length moments
      kept_count (event.Admit t) = by (task s t).state
        where
          by : (m : TaskState) → length (if_suspended m (set moments t stamp.at) moments) ≡ length moments
          by mode.Suspended = length-set moments t stamp.at
          by mode.Ready = refl
          by mode.Active = refl
          by (mode.Waiting mask) = refl
      kept_count (event.Enter t) = length-set moments t 0
      kept_count what = refl

      -- the moments behind one event more
      pub moments_more : (what : Event) → OsekStep config app what s next → KeepsMoments config app (past ++ it what ∷ []) next (noted_moments what stamp.at s moments)
      moments_more what step = record {
        leads = leads-append config app past (it what ∷ []) (opening config app) s next keeps.leads (next, step, refl);
        count = kept_count what ∙ keeps.count;
        tells = told what step;
      }

  -- before the first event no task has been Ready since an admit
  pub no_moments : (moments : List ℕ) → length moments ≡ line_count → ((u : ℕ) → get_or moments u 0 ≡ 0) → KeepsMoments config app [] (opening config app) moments
  no_moments moments count zeros = record {
    leads = refl;
    count = count;
    tells = λ u k. (λ less. let z = zeros u in absurd (omega (arith, less, z)), λ r. absurd (none r.admit r.behind r.before r.is));
  }
    where
      none : (a : Stamped) (rest before : List Stamped) → [] ≡ before ++ a ∷ rest → ⊥
      none a rest [] h = cc
      none a rest (x ∷ xs) h = cc
