-- In front of the first line with which the events are no run each line leads on.
use Rattle.std.proofs.Common.{ℕ, ◌+◌, ◌-◌, ◌<◌, ◌≡◌, ◌∙◌, inl, inr, List, [], ◌∷◌, ◌++◌, All, length, take, drop, sym, ap, subst, arith, append_assoc, append-nil, length-append, take-add}
use Rattle.std.proofs.lemmas.List.Elements.{All-head}
use Rattle.std.proofs.Math.Seq.{take-append_seam}
use Rattle.sloth_base.specs.ImageRange.{AreNamesApart, AreNames}
use Rattle.sloth_base.specs.DeclaredNames.{AreNamesOf, task_names, function_names, counter_names}
use Rattle.sloth_base.specs.declared.config.DeclaredNames.{DeclaredNames}
use Rattle.sloth_base.specs.declared.config.Config.{Config}
use Rattle.sloth_base.specs.declared.app.App.{App}
use Rattle.sloth_base.specs.declared.service.Stamped.{Stamped}
use Rattle.text_pieces.specs.Bytes.{behind}
use Rattle.osek_scheduler.specs.Runs.{OsekRun}
use Rattle.trace_text.specs.EventLines.{counted_line}
use Rattle.trace_check.specs.TraceText.{HasLine, HasNoFirstLine, IsEventText, text_of}
use Rattle.trace_check.specs.Walk.{IsWalked, Walk}
use Rattle.trace_check.proofs.ReadEvents.{HasRead}
use Rattle.trace_check.proofs.TraceText.{reads_more, text_front}
use Rattle.trace_check.proofs.Walking.{run_front, walked_stops}
use Rattle.trace_check.specs.Verdicts.{IsFirstStray}
use Rattle.trace_check.specs.Front.{IsFront, IsLineEnd}

module _ (config : Config) (app : App) (names : DeclaredNames) (named : AreNamesOf config app names) (text : List ℕ) where
  pub shows_by : (events : List Stamped) → IsEventText (task_names config) (function_names app) (counter_names config) events text
      → IsEventText names.tasks names.funcs names.counters events text
  shows_by events shows =
      let P : List (List ℕ) → List (List ℕ) → List (List ℕ) → Type 0 = λ ts fs cs. IsEventText ts fs cs events text in
      subst (λ (ts : List (List ℕ)). P ts names.funcs names.counters) (sym named.tasks)
      (subst (λ (fs : List (List ℕ)). P (task_names config) fs names.counters) (sym named.funcs)
      (subst (λ (cs : List (List ℕ)). P (task_names config) (function_names app) cs) (sym named.counters) shows))

  module _ (tasks : AreNames names.tasks) (funcs : AreNames names.funcs) (counters : AreNames names.counters) (apart : AreNamesApart names.counters names.tasks)
      (k : ℕ) (stray : IsFirstStray config app text k) (events : List Stamped) (rest : List ℕ) (reads : HasRead names.tasks names.funcs names.counters text events rest)
      (walk : Walk) (walked : IsWalked config app events walk) (less : length events + 1 < k) where
    abbrev Lines : List Stamped → Type 0
    Lines l = All (HasLine names.tasks names.funcs names.counters) l

    all_shown : IsEventText names.tasks names.funcs names.counters stray.events text
    all_shown = shows_by stray.events stray.shows

    -- there is an event's line still
    bad : HasNoFirstLine names.tasks names.funcs names.counters rest → ⊥
    bad none =
        let f = text_front names.tasks names.funcs names.counters tasks funcs counters apart events stray.events rest reads.lines all_shown.lines (sym reads.is ∙ all_shown.is) in
        by f.0 f.1 f.2 f.3
      where
        by : (back : List Stamped) → stray.events ≡ events ++ back → rest ≡ text_of names.tasks names.funcs names.counters back → Lines back → ⊥
        by [] is same lines =
            let inside = stray.strays.inside in
            let long = ap length (is ∙ append-nil events) in
            omega (arith, inside, long, less)
        by (e ∷ more) is same lines =
            none e (text_of names.tasks names.funcs names.counters more) (All-head (HasLine names.tasks names.funcs names.counters) e more lines)
            (same ∙ append_assoc (counted_line names.tasks names.funcs names.counters e) (10 ∷ []) (text_of names.tasks names.funcs names.counters more))

    -- with one event more there is a run still
    runs : (e : Stamped) → HasRead names.tasks names.funcs names.counters text (events ++ e ∷ []) (behind 10 rest) → OsekRun config app (events ++ e ∷ [])
    runs e more =
        let front = events ++ e ∷ [] in
        let f = text_front names.tasks names.funcs names.counters tasks funcs counters apart front stray.events (behind 10 rest) more.lines all_shown.lines (sym more.is ∙ all_shown.is) in
        let long = length-append events (e ∷ []) in
        let count : k - 1 ≡ length front + (k - 1 - length front) = omega (arith, long, less) in
        let cut = ap (λ (l : List Stamped). take (k - 1) l) f.1 ∙ (ap (λ n. take n (front ++ f.0)) count
        ∙ (take-add (length front) (k - 1 - length front) (front ++ f.0) ∙ ap (λ (l : List Stamped). l ++ take (k - 1 - length front) (drop (length front) (front ++ f.0))) (take-append_seam front f.0))) in
        run_front config app front (take (k - 1 - length front) (drop (length front) (front ++ f.0))) (subst (λ (l : List Stamped). OsekRun config app l) cut stray.strays.before)

    pub leads_on : IsLineEnd names rest walk → ⊥
    leads_on (inl none) = bad none
    leads_on (inr s) =
        walked_stops config app events walk walked s.event s.ends
        (runs s.event (reads_more names.tasks names.funcs names.counters text events rest s.event reads s.first))

-- what is said in front of line k, from what is said in front of the line behind so many
pub front_at : (config : Config) (app : App) (names : DeclaredNames) (text : List ℕ) (k : ℕ) (walk : Walk) → 0 < k
    → (IsFirstStray config app text (k - 1 + 1) → IsFront config app names text (k - 1 + 1) walk) → IsFirstStray config app text k → IsFront config app names text k walk
front_at config app names text k walk positive f stray =
    let same : k - 1 + 1 ≡ k = omega (arith, positive) in
    subst (λ (j : ℕ). IsFront config app names text j walk) same (f (subst (λ (j : ℕ). IsFirstStray config app text j) (sym same) stray))
