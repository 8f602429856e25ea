-- Steps in pace: joined, those of arrivals, and one among others.
use Rattle.std.proofs.Common.{◌≡◌, ◌∙◌, ◌≤◌, ℕ, List, [], ◌∷◌, ◌++◌, length, Bool, cond, is_some, refl, sym, ap, subst, arith, true, false}
use Rattle.std.specs.Prelude.{map}
use Rattle.std.proofs.lemmas.Bool.{true≢false, false≢true}
use Rattle.sloth_base.specs.declared.app.App.{App}
use Rattle.sloth_base.specs.declared.config.Config.{Config}
use Rattle.sloth_base.specs.declared.image.Image.{Image}
use Rattle.sloth_base.specs.declared.service.Arrival.{Arrival}
use Rattle.sloth_base.specs.declared.service.Event.{Event}
use Rattle.sloth_base.specs.declared.service.Event.TheVariants as event
use Rattle.sloth_base.specs.declared.service.Stamped.{Stamped}
use Rattle.sloth_base.specs.Events.{admitted_line, is_boot}
use Rattle.sloth_base.specs.Machine.{State}
use Rattle.sloth_base.specs.Owners.{first_counter_line, owners_in, AreOwned}
use Rattle.rv32_instr.specs.Ram.{word_at}
use Rattle.osek_scheduler.specs.State.{Frame, Task, System, task}
use Rattle.osek_scheduler.specs.InTime.{is_admit}
use Rattle.osek_scheduler.specs.Runs.{AreStepsTo}
use Rattle.osek_scheduler.proofs.Leading.{one_step}
use Rattle.osek_blocking.specs.Pace.{last_count, takes_line}
use Rattle.sim_induction.specs.Pace.{ItemSizes, AreAtMost, next_size, next_size_of, gap_counts}
use Rattle.sim_induction.specs.Admits.{Setting, with_arrival, with_admits, admit_event}
use Rattle.sim_induction.specs.Paced.{ArePacedTo, GoesInPace, Paced}
use Rattle.sim_induction.specs.PieceLaws.{IsNamed, IsMeasure}
use Rattle.sim_induction.proofs.Follow.{booted_arrival}
use Rattle.sim_induction.proofs.Lines.{is_admitted, arrival_steps}

-- ---- the last count

pub last-append : (at : ℕ) (a b : List Stamped) → last_count at (a ++ b) ≡ last_count (last_count at a) b
last-append at [] b = refl
last-append at (e ∷ a) b = last-append (cond (is_admit e) at e.stamp.at) a b

-- admissions leave it
admit_leaves : (at : ℕ) (x : Arrival) → cond (is_admit (admit_event x)) at x.at ≡ at
admit_leaves at x = ap (λ b. cond b at x.at) (is_admitted x)

pub last_admits : (at : ℕ) (a : List Arrival) → last_count at (map admit_event a) ≡ at
last_admits at [] = refl
last_admits at (x ∷ a) = ap (λ v. last_count v (map admit_event a)) (admit_leaves at x) ∙ last_admits at a

-- an event between admissions is the last one
pub last_between : (at : ℕ) (before behind : List Arrival) (e : Stamped) → is_admit e ≡ false → last_count at (map admit_event before ++ (e ∷ map admit_event behind)) ≡ e.stamp.at
last_between at before behind e other =
    last-append at (map admit_event before) (e ∷ map admit_event behind)
    ∙ ap (λ b. last_count (cond b (last_count at (map admit_event before)) e.stamp.at) (map admit_event behind)) other
    ∙ last_admits e.stamp.at behind

-- an entry or a tick is no admission
takes_no_admit : (what : Event) → takes_line what ≡ true → is_some (admitted_line what) ≡ false
takes_no_admit (event.Enter t) takes = refl
takes_no_admit (event.Tick c) takes = refl
takes_no_admit what takes = absurd (false≢true takes)

-- ---- steps in pace

module _ (c : Config) (app : App) (size : ItemSizes) (longest : ℕ) where
  pub paced-append : (a b : List Stamped) (at mid : ℕ) (s x z : System) → last_count at a ≡ mid → ArePacedTo c app size longest at a s x
      → ArePacedTo c app size longest mid b x z → ArePacedTo c app size longest at (a ++ b) s z
  paced-append [] b at mid s x z last h k = subst (λ v. ArePacedTo c app size longest v b s z) (sym last) (subst (λ v. ArePacedTo c app size longest mid b v z) h k)
  paced-append (e ∷ a) b at mid s x z last h k = (h.0, h.1, h.2, paced-append a b (cond (is_admit e) at e.stamp.at) mid h.0 x z last h.3 k)

  -- an admission is not asked for
  pub paced_admits : (at : ℕ) (a : List Arrival) (s : System) → length c.tasks ≤ first_counter_line → s.booted ≡ true → AreOwned (owners_in c) (map (λ x. x.line) a)
      → ArePacedTo c app size longest at (map admit_event a) s (with_admits (map (λ x. x.line) a) s)
  paced_admits at [] s few b h = refl
  paced_admits at (x ∷ a) s few b h = (
    with_arrival x.line s,
    record {
      begins = λ other later. absurd (true≢false (sym (is_admitted x) ∙ other));
      preempts = λ takes t runs. absurd (true≢false (sym (is_admitted x) ∙ takes_no_admit (admit_event x).event takes));
      idles = λ takes rests. absurd (true≢false (sym (is_admitted x) ∙ takes_no_admit (admit_event x).event takes));
      ends = λ other later. absurd (true≢false (sym (is_admitted x) ∙ other));
    },
    arrival_steps c app x.line s few h.0 b,
    subst (λ v. ArePacedTo c app size longest v (map admit_event a) (with_arrival x.line s) (with_admits (map (λ y. y.line) a) (with_arrival x.line s))) (sym (admit_leaves at x))
        (paced_admits at a (with_arrival x.line s) few (booted_arrival x.line s ∙ b) h.1),
  )

  -- behind the events before it each event finds one state, and goes in pace there
  pub found_paced : (before behind : List Stamped) (e : Stamped) (at : ℕ) (s end found : System) → ArePacedTo c app size longest at (before ++ e ∷ behind) s end
      → AreStepsTo c app before s found → GoesInPace c app size longest (last_count at before) found e
  found_paced [] behind e at s end found h k = subst (λ v. GoesInPace c app size longest at v e) (sym k) h.1
  found_paced (x ∷ before) behind e at s end found h k =
      let same = one_step c app x.event s h.0 k.0 h.2 k.1 in
      found_paced before behind e (cond (is_admit x) at x.stamp.at) k.0 end found
      (subst (λ v. ArePacedTo c app size longest (cond (is_admit x) at x.stamp.at) (before ++ e ∷ behind) v end) same h.3) k.2

-- ---- in front of a stretch

-- no more has shown nothing before a stretch than its event may have in front of it
pub gap_enough : (given : Setting) (progress : State → System → ℕ) (m : State) (s : System) → IsMeasure given progress m s → (longest : ℕ) → AreAtMost given.size longest
    → (found early : List ℕ) (what : Event) → IsNamed (word_at m.core.ram 0) what → progress m s ≤ gap_counts given.size longest (with_admits early (with_admits found s)) what
gap_enough given progress m s measure longest most found early (event.Call t served status) named = measure.turn t named found early
gap_enough given progress m s measure longest most found early (event.Left t served) named = measure.turn t named found early
gap_enough given progress m s measure longest most found early (event.Back t) named = measure.turn t named found early
gap_enough given progress m s measure longest most found early (event.Enter t) named = measure.few longest most
gap_enough given progress m s measure longest most found early (event.Tick c) named = measure.few longest most
gap_enough given progress m s measure longest most found early what named = absurd named

-- its event is not boot
pub named_no_boot : (current : ℕ) (what : Event) → IsNamed current what → is_boot what ≡ false
named_no_boot current (event.Call t served status) named = refl
named_no_boot current (event.Left t served) named = refl
named_no_boot current (event.Back t) named = refl
named_no_boot current (event.Enter t) named = refl
named_no_boot current (event.Tick c) named = refl
named_no_boot current what named = absurd named

-- ---- longer items

module _ (config : Config) (app : App) (size wider : ItemSizes) (longer : (func item : ℕ) → size func item ≤ wider func item) where
  pub next_wider : (own : Task) → next_size_of size own ≤ next_size_of wider own
  next_wider own = by own.owed own.frames
    where
      by : (owed : Bool) (frames : List Frame) → cond owed 0 (next_size size frames) ≤ cond owed 0 (next_size wider frames)
      by true frames = omega arith
      by false [] = omega arith
      by false (frame ∷ outer) = longer frame.func frame.item

  pub gap_wider : (longest : ℕ) (found : System) (what : Event) → gap_counts size longest found what ≤ gap_counts wider longest found what
  gap_wider longest found (event.Run t func item result) = longer func item
  gap_wider longest found (event.Call t served status) = next_wider (task found t)
  gap_wider longest found (event.Left t served) = next_wider (task found t)
  gap_wider longest found (event.Back t) = next_wider (task found t)
  gap_wider longest found what = omega arith

  pub paced_wider : (image : Image) → Paced config app size image → Paced config app wider image
  paced_wider image paced = record {
    each = λ arrivals n longest are most.
        let keeps = paced.each arrivals n longest are (λ func item. let less = longer func item in let few = most func item in omega (arith, less, few)) in
        record {
          each = λ before behind e found is leads.
              let goes = keeps.each before behind e found is leads in
              let gap = gap_wider longest found e.event in
              record {
                begins = λ other later. let soon = goes.begins other later in omega (arith, soon, gap);
                preempts = λ takes t runs.
                    let soon = goes.preempts takes t runs in
                    let next = next_wider (task found t) in
                    omega (arith, soon, next);
                idles = goes.idles;
                ends = λ other later. let soon = goes.ends other later in omega (arith, soon, gap);
              };
          reaches = keeps.reaches;
          reaches_within = keeps.reaches_within;
        };
  }
