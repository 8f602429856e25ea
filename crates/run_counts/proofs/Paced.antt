-- The events of a run whose stretches and gaps are short keep the pace.
use Rattle.std.proofs.Common.{◌≡◌, ℕ, suc, ◌+◌, ◌-◌, ◌==◌, ◌<◌, ◌≤◌, ◌⊎◌, List, [], ◌∷◌, ◌++◌, map, length, Bool, true, false, cond, Option, Some, None, refl, sym, ap, ◌∙◌, subst, arith, inl, inr}
use Rattle.std.specs.Prelude.{filter, not, nat_lt, slice_index}
use Rattle.std.specs.List.{AllByRecursion, flat_map}
use Rattle.std.proofs.lemmas.Bool.{false≢true, true≢false, cases_lt, ne_eqb}
use Rattle.std.proofs.lemmas.List.{append_assoc, length-append}
use Rattle.sloth_base.specs.declared.config.Config.{Config}
use Rattle.sloth_base.specs.declared.service.Arrival.{Arrival}
use Rattle.sloth_base.specs.declared.service.Event.{Event}
use Rattle.sloth_base.specs.declared.service.Event.TheVariants as event
use Rattle.sloth_base.specs.declared.service.Stamped.{Stamped}
use Rattle.sloth_base.specs.declared.image.Mark.{Mark}
use Rattle.sloth_base.specs.declared.image.MarkKind.{MarkKind}
use Rattle.sloth_base.specs.declared.image.MarkKind.TheVariants as kind
use Rattle.sloth_base.specs.declared.numbers.Step.{Step}
use Rattle.sloth_base.specs.declared.numbers.LineKind.{LineKind}
use Rattle.sloth_base.specs.declared.numbers.LineKind.TheVariants as line_of
use Rattle.sloth_base.specs.Arrivals.{moments}
use Rattle.sloth_base.specs.Owners.{first_counter_line, line_kind, owners_in}
use Rattle.sloth_base.specs.Events.{is_boot}
use Rattle.sloth_base.specs.ServiceCodes.{service_of}
use Rattle.sloth_base.specs.declared.service.Service.{Service}
use Rattle.sloth_base.specs.Stretches.{Boots, Takes, beginning_of, later_beginning, stretch_limit, entry_limit, longest_stretch}
use Rattle.sloth_base.specs.Limits.{item_counts, unseen_counts, boot_instructions, counter_limit}
use Rattle.sloth_base.proofs.Owners.{kind_tells}
use Rattle.sloth_base.proofs.Stretches.{begins_later, within_longest}
use Rattle.rv32_machine.specs.Coherent.{AreCoherent}
use Rattle.observe.specs.Pieces.{RunPiece, Outside, Stretch, steps_of, IsRunPiece}
use Rattle.observe.specs.Observe.{View, NO_TASK, NO_COUNTER, running_task, service_event, marked_event, unentered_event, stamp, admission, is_early, first_masked_moment, last_of, stretch_event, later_event, entry_event, stretch_events, events_of_kind, outside_events, mark_at, piece_events}
use Rattle.sim_induction.specs.Short.{AreShort, IsShortPiece, passed_count, passed_length, HasShortGaps}
use Rattle.sim_induction.proofs.Shown.{stretch_long}
use Rattle.osek_blocking.specs.Pace.{event_counts, takes_line}
use Rattle.run_counts.specs.EntryLatency.{is_tick, IsShortTick}
use Rattle.run_counts.proofs.PacedRun.{LastsBriefly}
use Rattle.run_counts.proofs.Continuing.{Continues, nothing, joined, no_tick, admissions, one_event}

module _ (config : Config) (view : View) (arrivals : List Arrival) (few_counters : length config.counters ≤ counter_limit) where
  -- the events go on to a count, behind which so many steps have shown none before the next one
  record Reaches (at : ℕ) (events : List Stamped) (count passed : ℕ) : Type 0 where
    to : ℕ
    goes : Continues config at events to
    near : count ≤ to + 1 + passed

  -- ---- a step outside the stretches

  shown_by : (k : MarkKind) (mark : Mark) (step : Step) (at before : ℕ) → step.count ≤ at + 1 + before → before ≤ unseen_counts
      → Reaches at (map (stamp step.count step.count) (events_of_kind k view mark step)) (step.count + 1) (passed_count (events_of_kind k view mark step) before)
  shown_by kind.Item mark step at before near few = record {
    to = step.count;
    goes = one_event config at step.count step.count _ refl (λ _. omega (arith, near, few)) (omega arith) (no_tick config _ refl);
    near = omega arith;
  }
  shown_by kind.Idle mark step at before near few = record {
    to = step.count;
    goes = one_event config at step.count step.count _ refl (λ _. omega (arith, near, few)) (omega arith) (no_tick config _ refl);
    near = omega arith;
  }
  shown_by kind.Jump mark step at before near few = record { to = at; goes = nothing config at; near = omega (arith, near) }
  shown_by kind.Opening mark step at before near few = record { to = at; goes = nothing config at; near = omega (arith, near) }
  shown_by kind.Back mark step at before near few = record { to = at; goes = nothing config at; near = omega (arith, near) }

  outside_shows : (m : Option Mark) (step : Step) (at before : ℕ) → step.count ≤ at + 1 + before → before ≤ unseen_counts
      → Reaches at (map (stamp step.count step.count) (outside_events m view step)) (step.count + 1) (passed_count (outside_events m view step) before)
  outside_shows (Some mark) step at before near few = shown_by mark.kind mark step at before near few
  outside_shows None step at before near few = record { to = at; goes = nothing config at; near = omega (arith, near) }

  -- events behind admits
  behind_admits : (found : List Arrival) (at : ℕ) (events : List Stamped) (count passed : ℕ) → Reaches at events count passed
      → Reaches at (map (admission view) found ++ events) count passed
  behind_admits found at events count passed r = record {
    to = r.to;
    goes = joined config (map (admission view) found) events at at r.to (admissions config view at found) r.goes;
    near = r.near;
  }

  -- ---- a stretch

  -- the steps of a stretch and those behind it follow one another
  record Follow (first : Step) (more tail : List Step) (count : ℕ) : Type 0 where
    last : (last_of first more).count ≡ count + length more
    enabled : Bool
    behind : AreCoherent (count + suc (length more)) enabled tail

  follow : (first : Step) (more tail : List Step) (count : ℕ) (enabled : Bool) → AreCoherent count enabled (first ∷ (more ++ tail)) → Follow first more tail count
  follow first [] tail count enabled c = record {
    last = let e = c.0 in omega (arith, e);
    enabled = first.enabled_after;
    behind = subst (λ k. AreCoherent k first.enabled_after tail) (omega arith) c.2;
  }
  follow first (next ∷ more) tail count enabled c =
      let f = follow next more tail (count + 1) first.enabled_after c.2 in
      record {
        last = let e = f.last in omega (arith, e);
        enabled = f.enabled;
        behind = subst (λ k. AreCoherent k f.enabled tail) (omega arith) f.behind;
      }

  -- how long it may be
  pub later_limit : (first : Step) (more : List Step) → AreShort config (first ∷ more) → 0 < first.count → suc (length more) ≤ longest_stretch config
  later_limit first more short later =
      let le = short.0 in
      let is = ap (stretch_limit config) (begins_later first later) in
      let most = within_longest config first.entered in
      omega (arith, le, is, most)

  -- behind boot its event is that of what begins it, and not boot
  later_shown : (first last : Step) → 0 < first.count → stretch_event view first last ≡ later_event first.entered view first last
  later_shown first last later = ap (λ b. cond b event.Boot (later_event first.entered view first last)) (ne_eqb first.count 0 (λ e. omega (arith, later, e)))

  -- an event that the taking of no line begins is of one of four kinds
  unentered : (test : Event → Bool) → test event.Stray ≡ false → ((t : ℕ) (s : Service) (status : ℕ) → test (event.Call t s status) ≡ false)
      → ((t : ℕ) (s : Service) → test (event.Left t s) ≡ false) → ((t : ℕ) → test (event.Back t) ≡ false) → (first last : Step)
      → test (unentered_event (mark_at view first.pc) view first last) ≡ false
  unentered test stray call left back first last = by (mark_at view first.pc)
    where
      t : ℕ
      t = running_task view.owners.tasks first.cur_before

      served : (called : Option Service) → test (service_event called view first last) ≡ false
      served None = stray
      served (Some s) = either (first.cur_before == last.cur_after)
        where
          either : (b : Bool) → test (cond b (event.Call t s (slice_index last.regs 10)) (event.Left t s)) ≡ false
          either true = call t s (slice_index last.regs 10)
          either false = left t s

      marked : (k : MarkKind) (mark : Mark) → test (marked_event k view mark first last) ≡ false
      marked kind.Opening mark = served (service_of mark.a)
      marked kind.Back mark = back t
      marked kind.Item mark = stray
      marked kind.Jump mark = stray
      marked kind.Idle mark = stray

      by : (m : Option Mark) → test (unentered_event m view first last) ≡ false
      by None = stray
      by (Some mark) = marked mark.kind mark

  never_boots : (entered : Option ℕ) (first last : Step) → is_boot (later_event entered view first last) ≡ false
  never_boots (Some line) first last = by (line_kind view.owners line)
    where
      by : (kind : LineKind) → is_boot (entry_event line kind) ≡ false
      by (line_of.Task t) = refl
      by (line_of.Counter c) = refl
      by line_of.Unused = either (nat_lt line first_counter_line)
        where
          either : (b : Bool) → is_boot (cond b (event.Enter NO_TASK) (event.Tick NO_COUNTER)) ≡ false
          either true = refl
          either false = refl
  never_boots None first last = unentered is_boot refl (λ _ _ _. refl) (λ _ _. refl) (λ _. refl) first last

  -- it ends soon behind an event: one that the taking of a line begins may be longer
  ends_soon : (first : Step) (more : List Step) (at before : ℕ) → AreShort config (first ∷ more) → 0 < first.count
      → (last_of first more).count ≡ first.count + length more → first.count ≤ at + 1 + before → before ≤ unseen_counts
      → (last_of first more).count ≤ at + event_counts (stamp first.count (last_of first more).count (stretch_event view first (last_of first more)))
  ends_soon first more at before short later last near few =
      subst (λ e. (last_of first more).count ≤ at + event_counts (stamp first.count (last_of first more).count e))
      (sym (later_shown first (last_of first more) later))
      (by first.entered (sym (ap (stretch_limit config) (begins_later first later))))
    where
      to : ℕ
      to = (last_of first more).count

      own : to ≤ at + (unseen_counts + (to + 1 - first.count))
      own = omega (arith, near, few)

      by : (entered : Option ℕ) → stretch_limit config (later_beginning entered) ≡ stretch_limit config (beginning_of first)
          → to ≤ at + event_counts (stamp first.count to (later_event entered view first (last_of first more)))
      by None limit = either (takes_line (later_event None view first (last_of first more)))
        where
          either : (b : Bool) → to ≤ at + cond b (unseen_counts + (to + 1 - first.count)) item_counts
          either true = own
          either false =
              let le = short.0 in
              omega (arith, le, limit, last, near, few)
      by (Some line) limit =
          let longest = ap (λ b. cond b (unseen_counts + (to + 1 - first.count)) item_counts) (taken line (line_kind view.owners line)) in
          let soon = own in
          omega (arith, longest, soon)
        where
          taken : (line : ℕ) (kind : LineKind) → takes_line (entry_event line kind) ≡ true
          taken line (line_of.Task t) = refl
          taken line (line_of.Counter c) = refl
          taken line line_of.Unused = either (nat_lt line first_counter_line)
            where
              either : (b : Bool) → takes_line (cond b (event.Enter NO_TASK) (event.Tick NO_COUNTER)) ≡ true
              either true = refl
              either false = refl

  -- a line that is a counter's in the view has at most that counter's limit
  counter_limits : (line c : ℕ) → line_kind view.owners line ≡ line_of.Counter c → stretch_limit config (Takes line) ≤ entry_limit config (line_of.Counter c)
  counter_limits line c shown = by (line_kind (owners_in config) line) refl
    where
      by : (kind : LineKind) → line_kind (owners_in config) line ≡ kind → entry_limit config kind ≤ entry_limit config (line_of.Counter c)
      by (line_of.Task t) e = omega arith
      by (line_of.Counter d) e =
          let one = (kind_tells view.owners line (line_of.Counter c) shown).is in
          let other = (kind_tells (owners_in config) line (line_of.Counter d) e).is in
          let same : d ≡ c = omega (arith, one, other) in
          let limit = ap (λ k. entry_limit config (line_of.Counter k)) same in
          omega (arith, limit)
      by line_of.Unused e = omega arith

  short_tick : (first : Step) (more : List Step) → AreShort config (first ∷ more) → 0 < first.count → (last_of first more).count ≡ first.count + length more
      → IsShortTick config (stamp first.count (last_of first more).count (stretch_event view first (last_of first more)))
  short_tick first more short later last c declared is =
      by first.entered (sym (ap (stretch_limit config) (begins_later first later))) (sym (later_shown first (last_of first more) later) ∙ is)
    where
      taken : (line : ℕ) (kind : LineKind) → line_kind view.owners line ≡ kind → stretch_limit config (Takes line) ≡ stretch_limit config (beginning_of first)
          → entry_event line kind ≡ event.Tick c → (last_of first more).count < first.count + entry_limit config (line_of.Counter c)
      taken line (line_of.Task t) shown limit is = absurd cc
      taken line (line_of.Counter d) shown limit is =
          let same : d ≡ c = cc in
          let most = subst (λ k. stretch_limit config (Takes line) ≤ entry_limit config (line_of.Counter k)) same (counter_limits line d shown) in
          let le = short.0 in
          omega (arith, le, limit, most, last)
      taken line line_of.Unused shown limit is = either (nat_lt line first_counter_line) is
        where
          either : (b : Bool) → cond b (event.Enter NO_TASK) (event.Tick NO_COUNTER) ≡ event.Tick c
              → (last_of first more).count < first.count + entry_limit config (line_of.Counter c)
          either true is = absurd cc
          either false is = let none : NO_COUNTER ≡ c = cc in absurd (omega (arith, few_counters, declared, none))

      by : (entered : Option ℕ) → stretch_limit config (later_beginning entered) ≡ stretch_limit config (beginning_of first)
          → later_event entered view first (last_of first more) ≡ event.Tick c
          → (last_of first more).count < first.count + entry_limit config (line_of.Counter c)
      by None limit is =
          absurd (true≢false (sym (ap is_tick is) ∙ unentered is_tick refl (λ _ _ _. refl) (λ _ _. refl) (λ _. refl) first (last_of first more)))
      by (Some line) limit is = taken line (line_kind view.owners line) refl limit is

  -- its event
  stretch_shows : (first : Step) (more : List Step) (at before : ℕ) → AreShort config (first ∷ more) → (last_of first more).count ≡ first.count + length more
      → first.count ≤ at + 1 + before → before ≤ unseen_counts
      → Reaches at (stamp first.count (last_of first more).count (stretch_event view first (last_of first more)) ∷ []) (first.count + suc (length more)) 0
  stretch_shows first more at before short last near few = by (cases_lt 0 first.count)
    where
      what : Event
      what = stretch_event view first (last_of first more)

      shows : (is_boot what ≡ false → (last_of first more).count ≤ at + event_counts (stamp first.count (last_of first more).count what))
          → LastsBriefly config (stamp first.count (last_of first more).count what) → IsShortTick config (stamp first.count (last_of first more).count what)
          → Reaches at (stamp first.count (last_of first more).count what ∷ []) (first.count + suc (length more)) 0
      shows soon brief tick = record {
        to = (last_of first more).count;
        goes = one_event config at first.count (last_of first more).count what (stretch_long view first (last_of first more)).0 soon brief tick;
        near = omega (arith, last);
      }

      brief_for : 0 < first.count → (last_of first more).count < first.count + longest_stretch config
          → LastsBriefly config (stamp first.count (last_of first more).count what)
      brief_for later lt =
          let boots = ap is_boot (later_shown first (last_of first more) later) ∙ never_boots first.entered first (last_of first more) in
          subst (λ b. (last_of first more).count < first.count + cond b (stretch_limit config Boots) (longest_stretch config)) (sym boots) lt

      by : (0 < first.count) ⊎ (first.count ≤ 0)
          → Reaches at (stamp first.count (last_of first more).count what ∷ []) (first.count + suc (length more)) 0
      by (inl later) =
          let le = later_limit first more short later in
          shows (λ _. ends_soon first more at before short later last near few) (brief_for later (omega (arith, le, last)))
          (short_tick first more short later last)
      by (inr zero_count) =
          let z : first.count ≡ 0 = omega (arith, zero_count) in
          let is : what ≡ event.Boot = ap (λ k. cond (k == 0) event.Boot (later_event first.entered view first (last_of first more))) z in
          let boots : is_boot what ≡ true = ap is_boot is in
          let le = short.0 in
          let limit : stretch_limit config (beginning_of first) ≡ boot_instructions = ap (λ k. stretch_limit config (cond (k == 0) Boots (later_beginning first.entered))) z in
          shows (λ no. absurd (false≢true (sym no ∙ boots)))
          (subst (λ b. (last_of first more).count < first.count + cond b (stretch_limit config Boots) (longest_stretch config)) (sym boots)
          (omega (arith, le, limit, last)))
          (no_tick config (stamp first.count (last_of first more).count what) (ap is_tick is))

  stretch_reaches : (first : Step) (more : List Step) (at before : ℕ) → AreShort config (first ∷ more) → (last_of first more).count ≡ first.count + length more
      → first.count ≤ at + 1 + before → before ≤ unseen_counts → Reaches at (piece_events view arrivals (Stretch (first ∷ more))) (first.count + suc (length more)) 0
  stretch_reaches first more at before short last near few =
      let last_step = last_of first more in
      let inside = moments (first_masked_moment first) (last_step.count + 1) arrivals in
      let shown = stretch_shows first more at before short last near few in
      let late = filter (λ arrival. not (is_early (first ∷ more) arrival)) inside in
      behind_admits (moments first.count (first_masked_moment first) arrivals) at (stretch_events view arrivals (first ∷ more)) (first.count + suc (length more)) 0
      (behind_admits (filter (is_early (first ∷ more)) inside) at
      (stamp first.count last_step.count (stretch_event view first last_step) ∷ map (admission view) late) (first.count + suc (length more)) 0
      (record {
        to = shown.to;
        goes = joined config (stamp first.count last_step.count (stretch_event view first last_step) ∷ []) (map (admission view) late) at shown.to shown.to
            shown.goes (admissions config view shown.to late);
        near = shown.near;
      }))

  -- ---- all pieces

  -- the events of the pieces keep the pace, and the steps behind them go on from there
  pub record Paces (at : ℕ) (parts : List RunPiece) (count : ℕ) (rest : List Step) : Type 0 where
    pub to : ℕ
    pub passed : ℕ
    pub next : ℕ
    pub enabled : Bool
    pub goes : Continues config at (flat_map (piece_events view arrivals) parts) to
    pub near : next ≤ to + 1 + passed
    pub few : passed ≤ unseen_counts
    pub behind : AreCoherent next enabled rest
    pub counted : next ≡ count + length (flat_map steps_of parts)
    pub onward : parts ≡ [] ⊎ (count < next)

  -- one more piece in front
  in_front : (piece : RunPiece) (parts : List RunPiece) (rest : List Step) (at count middle passed : ℕ) → Reaches at (piece_events view arrivals piece) middle passed
      → middle ≡ count + length (steps_of piece) → count < middle → ((to : ℕ) → middle ≤ to + 1 + passed → Paces to parts middle rest)
      → Paces at (piece ∷ parts) count rest
  in_front piece parts rest at count middle passed r is less go =
      let p = go r.to r.near in
      let e = p.counted in
      let l = length-append (steps_of piece) (flat_map steps_of parts) in
      record {
        to = p.to;
        passed = p.passed;
        next = p.next;
        enabled = p.enabled;
        goes = joined config (piece_events view arrivals piece) (flat_map (piece_events view arrivals) parts) at r.to p.to r.goes p.goes;
        near = p.near;
        few = p.few;
        behind = p.behind;
        counted = omega (arith, e, is, l);
        onward = inr (omega (arith, e, less));
      }

  pub paces : (parts : List RunPiece) (rest : List Step) (at before count : ℕ) (enabled : Bool) → AreCoherent count enabled (flat_map steps_of parts ++ rest)
      → AllByRecursion IsRunPiece parts → AllByRecursion (IsShortPiece config) parts → HasShortGaps view before parts → count ≤ at + 1 + before → before ≤ unseen_counts
      → Paces at parts count rest
  paces [] rest at before count enabled c each short gaps near few = record {
    to = at;
    passed = before;
    next = count;
    enabled = enabled;
    goes = nothing config at;
    near = near;
    few = few;
    behind = c;
    counted = omega arith;
    onward = inl refl;
  }
  paces (Outside step ∷ parts) rest at before count enabled c each short gaps near few =
      let e = c.0 in
      let shown = outside_shows (mark_at view step.pc) step at before (omega (arith, near, e)) few in
      let passed = passed_length view (Outside step) before in
      in_front (Outside step) parts rest at count (step.count + 1) passed
      (behind_admits (moments step.count (step.count + 1) arrivals) at _ (step.count + 1) passed shown) (omega (arith, e)) (omega (arith, e))
      (λ to le. paces parts rest to passed (step.count + 1) step.enabled_after
      (subst (λ k. AreCoherent (k + 1) step.enabled_after (flat_map steps_of parts ++ rest)) (sym e) c.2) each.1 short.1 gaps.1 le gaps.0)
  paces (Stretch [] ∷ parts) rest at before count enabled c each short gaps near few = absurd each.0.first
  paces (Stretch (first ∷ more) ∷ parts) rest at before count enabled c each short gaps near few =
      let tail = flat_map steps_of parts ++ rest in
      let whole = subst (AreCoherent count enabled) (append_assoc (first ∷ more) (flat_map steps_of parts) rest) c in
      let f = follow first more tail count enabled whole in
      let e = whole.0 in
      let l = f.last in
      in_front (Stretch (first ∷ more)) parts rest at count (first.count + suc (length more)) 0
      (stretch_reaches first more at before short.0 (omega (arith, e, l)) (omega (arith, near, e)) few) (omega (arith, e)) (omega (arith, e))
      (λ to le. paces parts rest to 0 (first.count + suc (length more)) f.enabled
      (subst (λ k. AreCoherent (k + suc (length more)) f.enabled tail) (sym e) f.behind) each.1 short.1 gaps.1 le (omega arith))
