-- What is read of texts and arrivals, as the calls tell of it; and that texts have one text for each image.
use Rattle.std.proofs.Common.{◌≡◌, ◌∙◌, ℕ, List, length, inl, inr, sym, ap, subst}
use Rattle.std.proofs.lemmas.List.{length-map}
use Rattle.sloth_base.specs.Arrivals.{AreArrivals}
use Rattle.sloth_base.specs.DeclaredNames.{counter_names, task_names}
use Rattle.sloth_base.specs.Owners.{owners_in, owners_named}
use Rattle.sloth_base.specs.declared.app.App.{App}
use Rattle.sloth_base.specs.declared.config.Config.{Config}
use Rattle.sloth_base.specs.declared.config.CounterDecl.{CounterDecl}
use Rattle.sloth_base.specs.declared.config.TaskDecl.{TaskDecl}
use Rattle.sloth_base.specs.declared.service.Arrival.{Arrival}
use Rattle.sloth_base.specs.declared.image.Image.{Image}
use Rattle.sloth_base.specs.declared.numbers.Owners.{Owners}
use Rattle.sloth_base.specs.declared.refusal.BuildError.{BuildError}
use Rattle.sloth_base.specs.declared.refusal.BuildError.TheVariants as error
use Rattle.sloth_base.specs.Order.{ErrorIs, IsLeast, NoFault}
use Rattle.osek_scheduler.specs.State.{opening}
use Rattle.run_inputs.specs.Inputs.{AreArrivalsOf, InputsErrorIs}
use Rattle.sim_induction.specs.Sound.{AreComing, events_of}
use Rattle.sloth_source.proofs.Unique.{one_meaning}
use Rattle.sloth_source.specs.Texts.{AreAccepted, SourcesErrorIs}
use Rattle.trace_text.specs.ArrivalsText.{ArrivalsFault, arrivals_in, owners_read}
use Rattle.losses_text.proofs.Along.{one_list}
use Rattle.losses_text.specs.Losses.{OneLossesText}
use Rattle.losses_text.specs.Requests.{AreRequests}
use Rattle.losses_text.specs.RequestsText.{requests_text}

-- the texts are refused
pub texts_refused : (oil src arr : List ℕ) (e : BuildError) → SourcesErrorIs oil src e → InputsErrorIs oil src arr e
texts_refused oil src arr (error.Refused r) h = inl h
texts_refused oil src arr error.Memory h = tt

-- the owners of the lines of arrivals are those that the image names
pub arrivals_named : (image : Image) (tasks counters : List (List ℕ)) → tasks ≡ image.tasks → counters ≡ image.counters → (read arrivals : List Arrival) → arrivals ≡ read
    → AreArrivals (owners_read tasks counters) read → AreArrivals (owners_named image) arrivals
arrivals_named image tasks counters t c read arrivals is h =
    let O : List (List ℕ) → List (List ℕ) → Type 0 = λ ts cs. AreArrivals (owners_read ts cs) arrivals in
    subst (λ (ts : List (List ℕ)). O ts image.counters) t
    (subst (λ (cs : List (List ℕ)). O tasks cs) c (subst (λ (l : List Arrival). AreArrivals (owners_read tasks counters) l) (sym is) h))

module _ (config : Config) (tasks counters : List (List ℕ)) (are_tasks : tasks ≡ task_names config) (are_counters : counters ≡ counter_names config) where
  -- the arrivals are refused, behind texts that are accepted
  pub arrivals_refused : (oil src arr : List ℕ) (app : App) (e : BuildError) → AreAccepted oil src config app → ErrorIs (ArrivalsFault tasks counters arr) e
      → InputsErrorIs oil src arr e
  arrivals_refused oil src arr app (error.Refused r) accepted h =
      inr (record {
        config = config;
        app = app;
        accepted = accepted;
        least = subst (λ (names : List (List ℕ)). IsLeast (ArrivalsFault (task_names config) names arr) r) are_counters
            (subst (λ (names : List (List ℕ)). IsLeast (ArrivalsFault names counters arr) r) are_tasks h);
      })
  arrivals_refused oil src arr app error.Memory accepted h = tt

  -- they are those of the configuration
  pub arrivals_are : (arr : List ℕ) (read arrivals : List Arrival) → arrivals ≡ read → NoFault (ArrivalsFault tasks counters arr) → read ≡ arrivals_in tasks counters arr
      → AreArrivalsOf (task_names config) (counter_names config) arr arrivals
  arrivals_are arr read arrivals is none are =
      let P : List (List ℕ) → List (List ℕ) → Type 0 = λ ts cs. AreArrivalsOf ts cs arr arrivals in
      subst (λ (cs : List (List ℕ)). P (task_names config) cs) are_counters
      (subst (λ (ts : List (List ℕ)). P ts counters) are_tasks (record { no_fault = none; arrivals_are = is ∙ are }))

  -- and may come into its runs
  pub arrivals_coming : (read arrivals : List Arrival) → arrivals ≡ read → AreArrivals (owners_read tasks counters) read → AreComing (owners_in config) arrivals
  arrivals_coming read arrivals is h =
      let owners : ℕ → ℕ → Owners = λ t c. record { tasks = t; counters = c } in
      let t : length tasks ≡ length config.tasks = ap (λ (l : List (List ℕ)). length l) are_tasks ∙ length-map config.tasks (λ (d : TaskDecl). d.name) in
      let c : length counters ≡ length config.counters =
      ap (λ (l : List (List ℕ)). length l) are_counters ∙ length-map config.counters (λ (d : CounterDecl). d.name) in
      let mine : AreArrivals (owners_in config) read =
      subst (λ (o : Owners). AreArrivals o read) (ap (λ n. owners n (length counters)) t ∙ ap (owners (length config.tasks)) c) h in
      subst (λ (l : List Arrival). AreComing (owners_in config) l) (sym is) (record { ordered = mine.ordered; lines_owned = mine.lines_owned })

-- ---- texts have one text for each image

pub one_losses_text : OneLossesText
one_losses_text oil src arr n one other h k same =
    let meant = one_meaning oil src h.config k.config h.app k.app h.accepted k.accepted in
    let arrivals : h.arrivals ≡ k.arrivals =
    h.read.arrivals_are ∙ ap (λ (c : Config). arrivals_in (task_names c) (counter_names c) arr) meant.0 ∙ sym k.read.arrivals_are in
    let C : Config → Type 0 = λ c. AreRequests c h.app (events_of h.image h.arrivals n) (opening c h.app) h.tells.all in
    let A : App → Type 0 = λ a. AreRequests k.config a (events_of h.image h.arrivals n) (opening k.config a) h.tells.all in
    let I : Image → Type 0 = λ i. AreRequests k.config k.app (events_of i h.arrivals n) (opening k.config k.app) h.tells.all in
    let L : List Arrival → Type 0 = λ l. AreRequests k.config k.app (events_of k.image l n) (opening k.config k.app) h.tells.all in
    let mine = subst L arrivals (subst I same (subst A meant.1 (subst C meant.0 h.tells.are))) in
    let all : h.tells.all ≡ k.tells.all =
    one_list k.config k.app (events_of k.image k.arrivals n) (opening k.config k.app) h.tells.all k.tells.all mine k.tells.are in
    h.tells.is ∙ ap (λ (i : Image). requests_text i h.tells.all) same ∙ ap (requests_text k.image) all ∙ sym k.tells.is
