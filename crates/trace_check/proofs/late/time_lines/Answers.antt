use Rattle.std.proofs.Common.{◌≡◌, ◌∙◌, ℕ, List, inl, length, sym, ap, subst, arith}
use Rattle.std.proofs.lemmas.Result.{IfOk-weaker}
use Rattle.sloth_base.specs.declared.service.Stamped.{Stamped}
use Rattle.osek_scheduler.specs.InTime.{AreAllAdmitted}
use Rattle.trace_check.specs.Counts.{AreLinesInRange}
use Rattle.trace_check.specs.Lateness.{AreInPlace}
use Rattle.trace_check.specs.LatenessLines.{lateness_lines}
use Rattle.trace_check.specs.Reasons.{AreLatenessLines, IsTimeReason}
use Rattle.trace_check.proofs.Fronts.{shows_by}
use Rattle.trace_check.proofs.Judging.{few_names, line_words, lines_small, readable}
use Rattle.trace_check.proofs.late.time_lines.Goals as goal

pub read_events-requires : goal.read_events-requires
read_events-requires c = readable c.args.config.now c.args.app.now c.in_ok-names.names c.in_ok-names.ensures c.requires.well_formed

pub lateness_lines-requires : goal.lateness_lines-requires
lateness_lines-requires c = readable c.args.config.now c.args.app.now c.in_ok-names.names c.in_ok-names.ensures c.requires.well_formed

pub late_reason-requires-clause-short : goal.late_reason-requires-clause-short
late_reason-requires-clause-short c =
    let few = c.in_ok-events.ensures.few in
    let long = ap (λ (l : List Stamped). length l) c.as_slice.ensures.value in
    let short = c.requires.short in
    omega (arith, few, long, short)

pub late_reason-requires-clause-admits : goal.late_reason-requires-clause-admits
late_reason-requires-clause-admits c =
    let late = c.requires.late in
    let shown = c.in_ok-events.ensures.shows late.events (shows_by c.args.config.now c.args.app.now c.in_ok-names.names c.in_ok-names.ensures c.args.text.now late.events late.shows) in
    subst AreLinesInRange (sym (c.as_slice.ensures.value ∙ shown))
    (lines_small _ _ _ (few_names c.args.config.now c.requires.well_formed.in_range.configuration.few_counters) late.events late.shows.lines)

pub late_reason-requires-clause-lines : goal.late_reason-requires-clause-lines
late_reason-requires-clause-lines c = line_words c.args.config.now c.args.arrivals.now c.requires.well_formed.in_range.configuration c.requires.in_range

pub late_reason-requires-clause-late : goal.late_reason-requires-clause-late
late_reason-requires-clause-late c in_place admitted =
    let late = c.requires.late in
    let shown = c.in_ok-events.ensures.shows late.events (shows_by c.args.config.now c.args.app.now c.in_ok-names.names c.in_ok-names.ensures c.args.text.now late.events late.shows) in
    let same = c.as_slice.ensures.value ∙ shown in
    let P : List Stamped → Type 0 = λ l. AreInPlace c.args.n c.args.arrivals.now l in
    let Q : List Stamped → Type 0 = λ l. AreAllAdmitted c.args.n c.args.arrivals.now l in
    let placed = subst P same in_place in
    late.late (record { stamped = placed.stamped; placed = placed.placed; in_order = placed.in_order; admitted = inl (subst Q same admitted) })

pub returns : goal.returns
returns c =
    let late = c.requires.late in
    let names = c.in_ok-names.names in
    let shown = c.in_ok-events.ensures.shows late.events (shows_by c.args.config.now c.args.app.now names c.in_ok-names.ensures c.args.text.now late.events late.shows) in
    let P : List ℕ → List Stamped → Type 0 = λ lines l. AreLatenessLines names c.args.n c.args.arrivals.now l lines in
    let made : (lines : List ℕ) → lines ≡ lateness_lines names c.in_ok-reason.reason
    → IsTimeReason c.args.config.now c.args.app.now c.args.arrivals.now c.args.text.now c.args.n lines =
    λ lines is. record {
      names = names;
      named = c.in_ok-names.ensures;
      events = late.events;
      shows = late.shows;
      told = subst (λ (l : List Stamped). P lines l) (c.as_slice.ensures.value ∙ shown) (record { reason = c.in_ok-reason.reason; explains = c.in_ok-reason.ensures; is = is });
    } in
    IfOk-weaker c.lateness_lines.result _ _ (λ v is. made _ is) c.lateness_lines.ensures
