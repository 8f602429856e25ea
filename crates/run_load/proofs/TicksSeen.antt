-- In a run whose arrivals keep a load no tick that is seen takes longer than the number of ticks: the tick of each arrival ends in time in a longer run.
use Rattle.std.proofs.Common.{◌≡◌, ◌∙◌, ◌+◌, ◌-◌, ◌<◌, ◌≤◌, ℕ, Bool, true, false, not, cond, List, [], ◌∷◌, ◌++◌, refl, sym, ap, subst, arith, append_assoc}
use Rattle.std.specs.Prelude.{◌&&◌, AllPairs, is_some}
use Rattle.std.specs.List.{AllByRecursion}
use Rattle.std.proofs.Math.Nat.{max-le}
use Rattle.std.proofs.lemmas.Bool.{false≢true, and_parts, eqb-true, eq-eqb}
use Rattle.std.proofs.lemmas.List.{map-append}
use Rattle.std.proofs.lemmas.List.Elements.{recursion_from_All}
use Rattle.sloth_base.specs.Events.{admitted_line}
use Rattle.sloth_base.specs.declared.config.Config.{Config}
use Rattle.sloth_base.specs.declared.service.Arrival.{Arrival}
use Rattle.sloth_base.specs.declared.service.Event.{Event}
use Rattle.sloth_base.specs.declared.service.Event.TheVariants as event
use Rattle.sloth_base.specs.declared.service.Stamped.{Stamped}
use Rattle.sloth_base.specs.declared.image.Image.{Image}
use Rattle.observe.specs.Observe.{view_of_image, observe}
use Rattle.observe.proofs.Growing.{observe-front}
use Rattle.osek_scheduler.specs.InTime.{InTime, IsOrdered, IsStamped, is_admit}
use Rattle.response_laws.specs.Ticking.{TicksBefore, TicksWithin}
use Rattle.response_laws.proofs.Linked.{each_append, each_joined, each_so}
use Rattle.response_laws.proofs.Ordering.{ordered_front, ends_before}
use Rattle.rv32_machine.specs.Run.{Moment, run, steps_of}
use Rattle.rv32_machine.specs.Start.{start}
use Rattle.rv32_machine.proofs.Runs.{run_front}
use Rattle.sim_induction.specs.Sound.{events_of}
use Rattle.run_load.specs.Ticks.{arrives, ticks, is_due, end_count, tick_end, longest_tick}

-- a longer run begins with the events of a shorter one
pub events-further : (image : Image) (arrivals : List Arrival) (n more : ℕ)
    → (extra : List Stamped) × (events_of image arrivals (n + more) ≡ events_of image arrivals n ++ extra)
events-further image arrivals n more =
    let front = run_front (n + more) n arrivals 0 (start image) (omega arith) in
    let view = view_of_image image in
    let grown = observe-front view arrivals (steps_of (run n arrivals (start image))) (steps_of front.0) in (
      grown.0,
      ap (λ ms. observe view arrivals (steps_of ms)) front.1
          ∙ (ap (observe view arrivals) (map-append (λ (m : Moment). m.step) (run n arrivals (start image)) front.0) ∙ grown.1),
    )

-- an event ends before this count, if it is no admission
abbrev EndsBefore : (limit : ℕ) → Stamped → Type 0
EndsBefore limit e = is_admit e ≡ false → e.stamp.at < limit

-- the events of the run are followed by others in a longer one, where an arrival's tick ends before the limit, and so do all events before it
pub record IsServed (c limit : ℕ) (before : List Stamped) (arrival : Stamped) (behind : List Stamped) : Type 0 where
  pub extra : List Stamped
  pub front : List Stamped
  pub tick : Stamped
  pub rest : List Stamped
  pub parts : behind ++ extra ≡ front ++ tick ∷ rest
  pub ticks : ticks c tick.event ≡ true
  pub ends_before : AllByRecursion (EndsBefore limit) before
  pub ends : AllByRecursion (EndsBefore limit) (front ++ tick ∷ [])

arrival_is : (c : ℕ) (what : Event) → arrives c what ≡ true → what ≡ event.Due c
arrival_is c (event.Due d) is = ap event.Due (eqb-true d c is)
arrival_is c what is = absurd (false≢true is)

tick_is_other : (c : ℕ) (what : Event) → ticks c what ≡ true → (e : Stamped) → e.event ≡ what → is_admit e ≡ false
tick_is_other c (event.Tick d) is e same = ap (λ w. is_some (admitted_line w)) same
tick_is_other c what is e same = absurd (false≢true is)

-- what is known of all arrivals of counter c among the events
abbrev pub AreServed : (c r : ℕ) → List Stamped → Type 0
AreServed c r events =
    (before behind : List Stamped) (arrival : Stamped) → events ≡ before ++ arrival ∷ behind → arrives c arrival.event ≡ true
    → IsServed c (arrival.stamp.at + r) before arrival behind

module _ (c limit : ℕ) where
  ended : (last : ℕ) (e : Stamped) → last ≤ limit → EndsBefore limit e → end_count last e ≤ limit
  ended last e le ends = by (is_admit e) refl
    where
      by : (b : Bool) → is_admit e ≡ b → cond (is_admit e) last (e.stamp.at + 1) ≤ limit
      by true is = subst (λ b. cond b last (e.stamp.at + 1) ≤ limit) (sym is) le
      by false is = let lt = ends is in subst (λ b. cond b last (e.stamp.at + 1) ≤ limit) (sym is) (let h : e.stamp.at + 1 ≤ limit = omega (arith, lt) in h)

  -- the tick that is served, or what stands for it at the end of the run, ends by the limit
  tick_ends : (last : ℕ) (es extra front rest : List Stamped) (tick : Stamped) → ticks c tick.event ≡ true → es ++ extra ≡ front ++ tick ∷ rest
      → AllByRecursion (EndsBefore limit) (front ++ tick ∷ []) → last ≤ limit → tick_end c last es ≤ limit
  tick_ends last [] extra front rest tick is parts ends le = le
  tick_ends last (e ∷ es) extra [] rest tick is parts ends le =
      let same : e ≡ tick = cc in
      let lt = ends.0 (tick_is_other c tick.event is tick refl) in
      let h : e.stamp.at + 1 ≤ limit = subst (λ (x : Stamped). x.stamp.at + 1 ≤ limit) (sym same) (omega (arith, lt)) in
      subst (λ b. cond b (e.stamp.at + 1) (tick_end c (end_count last e) es) ≤ limit) (sym (ap (λ (x : Stamped). ticks c x.event) same ∙ is)) h
  tick_ends last (e ∷ es) extra (f ∷ front) rest tick is parts ends le =
      by (ticks c e.event) refl (tick_ends (end_count last e) es extra front rest tick is later ends.1 (ended last e le here))
    where
      later : es ++ extra ≡ front ++ tick ∷ rest
      later = cc

      here : EndsBefore limit e
      here = let same : f ≡ e = cc in subst (EndsBefore limit) same ends.0

      by : (b : Bool) → ticks c e.event ≡ b → tick_end c (end_count last e) es ≤ limit → cond (ticks c e.event) (e.stamp.at + 1) (tick_end c (end_count last e) es) ≤ limit
      by true ticked on =
          let lt = here (tick_is_other c e.event ticked e refl) in
          subst (λ b. cond b (e.stamp.at + 1) (tick_end c (end_count last e) es) ≤ limit) (sym ticked) (let h : e.stamp.at + 1 ≤ limit = omega (arith, lt) in h)
      by false no_tick on = subst (λ b. cond b (e.stamp.at + 1) (tick_end c (end_count last e) es) ≤ limit) (sym no_tick) on

-- the count is no greater than each limit before which the events end
abbrev IsLast : (last : ℕ) → List Stamped → Type 0
IsLast last before = (limit : ℕ) → AllByRecursion (EndsBefore limit) before → last ≤ limit

last_more : (last : ℕ) (before : List Stamped) (e : Stamped) → IsLast last before → IsLast (end_count last e) (before ++ e ∷ [])
last_more last before e is limit ends =
    let both = each_append (EndsBefore limit) before (e ∷ []) ends in ended 0 limit last e (is limit both.0) both.1.0

module _ (c r : ℕ) (events : List Stamped) (served : AreServed c r events) where
  longest_within : (before rest : List Stamped) (due : Bool) (last : ℕ) → events ≡ before ++ rest → IsLast last before → longest_tick c due last rest ≤ r
  longest_within before [] due last parts is = omega arith
  longest_within before (e ∷ es) due last parts is =
      max-le (this (arrives c e.event && not due) refl)
      (longest_within (before ++ e ∷ []) es (is_due c due e.event) (end_count last e) (parts ∙ sym (append_assoc before (e ∷ []) es)) (last_more last before e is))
    where
      this : (b : Bool) → (arrives c e.event && not due) ≡ b → cond b (tick_end c last es - e.stamp.at) 0 ≤ r
      this false first = omega arith
      this true first =
          let h = served before es e parts (and_parts (arrives c e.event) (not due) first).0 in
          let le = tick_ends c (e.stamp.at + r) last es h.extra h.front h.rest h.tick h.ticks h.parts h.ends (is (e.stamp.at + r) h.ends_before) in
          omega (arith, le)

  pub longest-tick-within : longest_tick c false 0 events ≤ r
  longest-tick-within = longest_within [] events false 0 refl (λ limit ends. omega arith)

-- the arrivals of a run are served, where ticks end in time in each longer one
module _ (config : Config) (image : Image) (arrivals : List Arrival) (n more r c : ℕ) (in_time : (m : ℕ) → InTime config m arrivals (events_of image arrivals m))
    (within : (m : ℕ) → TicksWithin m more r (events_of image arrivals m)) where
  pub are-served : AreServed c r (events_of image arrivals n)
  are-served before behind arrival parts is = record {
    extra = further.0;
    front = ended.front;
    tick = ended.tick;
    rest = ended.rest;
    parts = ended.parts;
    ticks = is_tick;
    ends_before = both.0;
    ends = each_joined (EndsBefore limit) ended.front (ended.tick ∷ []) both.1.1 ((λ other. ended.in_time), tt);
  }
    where
      limit : ℕ
      limit = arrival.stamp.at + r

      m : ℕ
      m = n + (arrival.stamp.at + r + more)

      further : (extra : List Stamped) × (events_of image arrivals m ≡ events_of image arrivals n ++ extra)
      further = events-further image arrivals n (arrival.stamp.at + r + more)

      all : events_of image arrivals m ≡ before ++ arrival ∷ (behind ++ further.0)
      all = further.1 ∙ (ap (λ es. es ++ further.0) parts ∙ append_assoc before (arrival ∷ behind) further.0)

      ended : TicksBefore c limit (behind ++ further.0)
      ended = within m before (behind ++ further.0) arrival c all (arrival_is c arrival.event is) (omega arith)

      is_tick : ticks c ended.tick.event ≡ true
      is_tick = ap (ticks c) ended.ticks ∙ eq-eqb c c refl

      split : events_of image arrivals m ≡ (before ++ arrival ∷ ended.front) ++ ended.tick ∷ ended.rest
      split = all ∙ (ap (λ es. before ++ arrival ∷ es) ended.parts ∙ sym (append_assoc before (arrival ∷ ended.front) (ended.tick ∷ ended.rest)))

      ordered : AllByRecursion (λ x. IsOrdered x ended.tick) (before ++ arrival ∷ ended.front)
      ordered = ordered_front (before ++ arrival ∷ ended.front) ended.tick ended.rest (subst (AllPairs IsOrdered) split (in_time m).placed)

      stamped : AllByRecursion (IsStamped m) ((before ++ arrival ∷ ended.front) ++ ended.tick ∷ ended.rest)
      stamped = subst (AllByRecursion (IsStamped m)) split (recursion_from_All (IsStamped m) (events_of image arrivals m) (in_time m).stamped)

      from_at : ended.tick.stamp.from ≤ ended.tick.stamp.at
      from_at = (each_append (IsStamped m) (before ++ arrival ∷ ended.front) (ended.tick ∷ ended.rest) stamped).1.0.ordered

      ends : (x : Stamped) → IsOrdered x ended.tick → EndsBefore limit x
      ends x is_before other =
          let lt = ends_before x ended.tick is_before (tick_is_other c ended.tick.event is_tick ended.tick refl) other in
          let soon = ended.in_time in
          omega (arith, lt, from_at, soon)

      both : AllByRecursion (EndsBefore limit) before × AllByRecursion (EndsBefore limit) (arrival ∷ ended.front)
      both =
          each_append (EndsBefore limit) before (arrival ∷ ended.front)
          (each_so (λ x. IsOrdered x ended.tick) (EndsBefore limit) ends (before ++ arrival ∷ ended.front) ordered)
