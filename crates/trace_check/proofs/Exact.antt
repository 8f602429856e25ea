-- A text has one verdict, and that is yes exactly where the text is that of a run.
use Rattle.std.proofs.Common.{◌≡◌, ℕ, zero, suc, ◌-◌, ◌<◌, ◌≤◌, ◌⊎◌, inl, inr, List, [], ◌∷◌, take, drop, refl, sym, ap, subst, arith}
use Rattle.std.specs.Prelude.{◌↔◌, Result, Ok, Err, IfOk}
use Rattle.std.proofs.lemmas.Bool.{cases_order}
use Rattle.std.proofs.lemmas.List.{take-append-drop}
use Rattle.sloth_base.specs.ImageRange.{AreNamesApart, AreNames}
use Rattle.sloth_base.specs.declared.config.Config.{Config}
use Rattle.sloth_base.specs.declared.app.App.{App}
use Rattle.sloth_base.specs.declared.service.Arrival.{Arrival}
use Rattle.sloth_base.specs.declared.service.Stamped.{Stamped}
use Rattle.osek_scheduler.specs.Runs.{OsekRun}
use Rattle.osek_scheduler.specs.InTime.{InTime}
use Rattle.trace_check.specs.TraceText.{IsEventText, IsFirstBad}
use Rattle.trace_check.specs.Walk.{HasStrayAt}
use Rattle.sloth_base.specs.DeclaredNames.{task_names, counter_names, function_names}
use Rattle.trace_check.specs.Verdicts.{Checked, IsFirstStray, IsLate}
use Rattle.trace_check.specs.Answer.{IsVerdict}
use Rattle.trace_check.specs.declared.rows.Verdict.{Verdict}
use Rattle.trace_check.specs.declared.rows.Verdict.TheVariants as verdict
use Rattle.trace_check.proofs.TraceText.{shows_one, bad_shows_none, one_bad}
use Rattle.trace_check.proofs.Walking.{run_front}

take_front : (j m : ℕ) (events : List Stamped) → j ≤ m → take j (take m events) ≡ take j events
take_front zero m events le = refl
take_front (suc j) zero events le = absurd (omega (arith, le))
take_front (suc j) (suc m) [] le = refl
take_front (suc j) (suc m) (e ∷ events) le = ap (λ (l : List Stamped). e ∷ l) (take_front j m events (omega (arith, le)))

-- ---- the line of the first event that strays

module _ (config : Config) (app : App) (events : List Stamped) where
  strays_no_run : (k : ℕ) → HasStrayAt config app events k → OsekRun config app events → ⊥
  strays_no_run k h run =
      let P : List Stamped → Type 0 = λ l. OsekRun config app l in
      h.stray (run_front config app (take k events) (drop k events) (subst P (sym (take-append-drop k events)) run))

  strays_first : (j k : ℕ) → HasStrayAt config app events j → HasStrayAt config app events k → j < k → ⊥
  strays_first j k a b less =
      let P : List Stamped → Type 0 = λ l. OsekRun config app l in
      let front = take (k - 1) events in
      let cut = take_front j (k - 1) events (omega (arith, less)) in
      a.stray (subst P cut (run_front config app (take j front) (drop j front) (subst P (sym (take-append-drop j front)) b.before)))

  one_stray : (j k : ℕ) → HasStrayAt config app events j → HasStrayAt config app events k → j ≡ k
  one_stray j k a b = by (cases_order j k)
    where
      by : (j ≡ k) ⊎ ((j < k) ⊎ (k < j)) → j ≡ k
      by (inl same) = same
      by (inr (inl less)) = absurd (strays_first j k a b less)
      by (inr (inr less)) = absurd (strays_first k j b a less)

-- ---- all verdicts

module _ (config : Config) (app : App) (arrivals : List Arrival) (text : List ℕ) (n : ℕ) (tasks : AreNames (task_names config)) (funcs : AreNames (function_names app)) (counters : AreNames (counter_names config))
    (apart : AreNamesApart (counter_names config) (task_names config)) where
  abbrev ShowsThese : List Stamped → Type 0
  ShowsThese events = IsEventText (task_names config) (function_names app) (counter_names config) events text

  one_list : (events others : List Stamped) → ShowsThese events → ShowsThese others → events ≡ others
  one_list events others h k = shows_one (task_names config) (function_names app) (counter_names config) tasks funcs counters apart text events others h k

  not_bad : (k : ℕ) (events : List Stamped) → IsFirstBad (task_names config) (function_names app) (counter_names config) text k → ShowsThese events → ⊥
  not_bad k events b h = bad_shows_none (task_names config) (function_names app) (counter_names config) tasks funcs counters apart text k events b h

  not_stray : (k : ℕ) (events : List Stamped) → IsFirstStray config app text k → ShowsThese events → OsekRun config app events → ⊥
  not_stray k events b h run =
      let P : List Stamped → Type 0 = λ l. OsekRun config app l in
      strays_no_run config app b.events k b.strays (subst P (one_list events b.events h b.shows) run)

  not_late : IsLate config app arrivals text n → Checked config app arrivals text n → ⊥
  not_late b c =
      let P : List Stamped → Type 0 = λ l. InTime config n arrivals l in
      b.late (subst P (one_list c.events b.events c.shows b.shows) c.in_time)

  one_step : (j k : ℕ) → IsFirstStray config app text j → IsFirstStray config app text k → j ≡ k
  one_step j k a b =
      let P : List Stamped → Type 0 = λ l. HasStrayAt config app l j in
      one_stray config app b.events j k (subst P (one_list a.events b.events a.shows b.shows) a.strays) b.strays

  abbrev Says : Verdict → Type 0
  Says v = IsVerdict config app arrivals text n v

  pub one_verdict : (v w : Verdict) → Says v → Says w → v ≡ w
  one_verdict verdict.Yes verdict.Yes a b = refl
  one_verdict verdict.Yes (verdict.Line k) a b = absurd (not_bad k a.events b a.shows)
  one_verdict verdict.Yes (verdict.Step k) a b = absurd (not_stray k a.events b a.shows a.run)
  one_verdict verdict.Yes verdict.Time a b = absurd (not_late b a)
  one_verdict (verdict.Line j) verdict.Yes a b = absurd (not_bad j b.events a b.shows)
  one_verdict (verdict.Line j) (verdict.Line k) a b = ap verdict.Line (one_bad (task_names config) (function_names app) (counter_names config) tasks funcs counters apart text j k a b)
  one_verdict (verdict.Line j) (verdict.Step k) a b = absurd (not_bad j b.events a b.shows)
  one_verdict (verdict.Line j) verdict.Time a b = absurd (not_bad j b.events a b.shows)
  one_verdict (verdict.Step j) verdict.Yes a b = absurd (not_stray j b.events a b.shows b.run)
  one_verdict (verdict.Step j) (verdict.Line k) a b = absurd (not_bad k a.events b a.shows)
  one_verdict (verdict.Step j) (verdict.Step k) a b = ap verdict.Step (one_step j k a b)
  one_verdict (verdict.Step j) verdict.Time a b = absurd (not_stray j b.events a b.shows b.run)
  one_verdict verdict.Time verdict.Yes a b = absurd (not_late a b)
  one_verdict verdict.Time (verdict.Line k) a b = absurd (not_bad k a.events b a.shows)
  one_verdict verdict.Time (verdict.Step k) a b = absurd (not_stray k a.events b a.shows a.run)
  one_verdict verdict.Time verdict.Time a b = refl

  pub is_exact : (v : Verdict) → Says v → (v ≡ verdict.Yes) ↔ Checked config app arrivals text n
  is_exact v h = (is_checked v h, λ checked. one_verdict v verdict.Yes h checked)
    where
      is_checked : (v : Verdict) → Says v → v ≡ verdict.Yes → Checked config app arrivals text n
      is_checked verdict.Yes h e = h
      is_checked (verdict.Line k) h e = absurd cc
      is_checked (verdict.Step k) h e = absurd cc
      is_checked verdict.Time h e = absurd cc

  pub if_exact : {E : Type 0} (r : Result Verdict E) → IfOk r Says → IfOk r (λ v. (v ≡ verdict.Yes) ↔ Checked config app arrivals text n)
  if_exact (Ok v) h = is_exact v h
  if_exact (Err e) h = tt
