-- What is judged of texts, as what the calls tell of it.
use Rattle.std.proofs.Common.{◌≡◌, ◌∙◌, ℕ, List, length, inl, inr, ap, subst}
use Rattle.std.proofs.lemmas.List.{length-map}
use Rattle.sloth_base.specs.Arrivals.{AreArrivals}
use Rattle.sloth_base.specs.DeclaredNames.{task_names, counter_names}
use Rattle.sloth_base.specs.Owners.{owners_in}
use Rattle.sloth_base.specs.declared.numbers.Owners.{Owners}
use Rattle.sloth_base.specs.declared.app.App.{App}
use Rattle.sloth_base.specs.declared.config.Config.{Config}
use Rattle.sloth_base.specs.declared.config.CounterDecl.{CounterDecl}
use Rattle.sloth_base.specs.declared.config.TaskDecl.{TaskDecl}
use Rattle.sloth_base.specs.declared.service.Arrival.{Arrival}
use Rattle.sloth_base.specs.declared.refusal.BuildError.{BuildError}
use Rattle.sloth_base.specs.declared.refusal.BuildError.TheVariants as error
use Rattle.sloth_base.specs.Order.{ErrorIs, IsLeast}
use Rattle.sloth_source.specs.Texts.{AreAccepted, SourcesErrorIs}
use Rattle.trace_text.specs.ArrivalsText.{ArrivalsFault, owners_read}
use Rattle.core_commands.specs.Failures.{IsJudgeFailure, judge_failure}

-- the texts are refused
pub texts_refused : (oil src arr oil_read src_read : List ℕ) (e : BuildError) → oil_read ≡ oil → src_read ≡ src → SourcesErrorIs oil_read src_read e
    → IsJudgeFailure (judge_failure e) oil src arr
texts_refused oil src arr oil_read src_read (error.Refused r) o s h =
    inl (subst (λ (text : List ℕ). SourcesErrorIs oil text (error.Refused r)) s (subst (λ (text : List ℕ). SourcesErrorIs text src_read (error.Refused r)) o h))
texts_refused oil src arr oil_read src_read error.Memory o s h = tt

module _ (config : Config) (tasks counters : List (List ℕ)) (are_tasks : tasks ≡ task_names config) (are_counters : counters ≡ counter_names config) where
  -- the arrivals are, behind texts that are accepted
  pub arrivals_refused : (oil src arr oil_read src_read arr_read : List ℕ) (app : App) (e : BuildError) → oil_read ≡ oil → src_read ≡ src → arr_read ≡ arr
      → AreAccepted oil_read src_read config app → ErrorIs (ArrivalsFault tasks counters arr_read) e → IsJudgeFailure (judge_failure e) oil src arr
  arrivals_refused oil src arr oil_read src_read arr_read app (error.Refused r) o s a accepted h =
      inr (record {
        config = config;
        app = app;
        accepted = subst (λ (text : List ℕ). AreAccepted oil text config app) s (subst (λ (text : List ℕ). AreAccepted text src_read config app) o accepted);
        least = subst (λ (text : List ℕ). IsLeast (ArrivalsFault (task_names config) (counter_names config) text) r) a
            (subst (λ (names : List (List ℕ)). IsLeast (ArrivalsFault (task_names config) names arr_read) r) are_counters
            (subst (λ (names : List (List ℕ)). IsLeast (ArrivalsFault names counters arr_read) r) are_tasks h));
      })
  arrivals_refused oil src arr oil_read src_read arr_read app error.Memory o s a accepted h = tt

  -- they are in range for the owners of the configuration
  pub arrivals_owned : (arrivals : List Arrival) → AreArrivals (owners_read tasks counters) arrivals → AreArrivals (owners_in config) arrivals
  arrivals_owned arrivals h =
      let owners : ℕ → ℕ → Owners = λ t c. record { tasks = t; counters = c } in
      let t : length tasks ≡ length config.tasks = ap length are_tasks ∙ length-map config.tasks (λ (d : TaskDecl). d.name) in
      let c : length counters ≡ length config.counters = ap length are_counters ∙ length-map config.counters (λ (d : CounterDecl). d.name) in
      subst (λ (o : Owners). AreArrivals o arrivals) (ap (λ n. owners n (length counters)) t ∙ ap (owners (length config.tasks)) c) h
