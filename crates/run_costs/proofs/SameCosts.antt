-- Records of costs with the same fields.
use Rattle.std.proofs.Common.{◌≡◌, ◌∙◌, ℕ, Bool, List, Option, ap}
use Rattle.run_windows.specs.declared.costs.TaskCosts.{TaskCosts}
use Rattle.run_windows.specs.declared.costs.CounterCosts.{CounterCosts}
use Rattle.run_windows.specs.declared.costs.AlarmCosts.{AlarmCosts}
use Rattle.run_windows.specs.declared.costs.Makings.{Makings}
use Rattle.run_windows.specs.declared.costs.Services.{Services}
use Rattle.run_windows.specs.declared.costs.SectionCosts.{SectionCosts}
use Rattle.run_windows.specs.declared.costs.SectionMakings.{SectionMakings}
use Rattle.run_windows.specs.declared.costs.Level.{Level}
use Rattle.run_windows.specs.declared.costs.Costs.{Costs}

pub same_task : (a b : TaskCosts) → a.priority ≡ b.priority → a.is_entered_once ≡ b.is_entered_once → a.is_autostarted ≡ b.is_autostarted → a.is_cut ≡ b.is_cut → a.has_raised_waits ≡ b.has_raised_waits → a.distance ≡ b.distance → a.first ≡ b.first → a.next ≡ b.next → a.raising ≡ b.raising → a.section_work ≡ b.section_work → a.service ≡ b.service → a ≡ b
same_task a b e0 e1 e2 e3 e4 e5 e6 e7 e8 e9 e10 =
    let F0 : ℕ → TaskCosts = λ x. record { priority = x; is_entered_once = a.is_entered_once; is_autostarted = a.is_autostarted; is_cut = a.is_cut; has_raised_waits = a.has_raised_waits; distance = a.distance; first = a.first; next = a.next; raising = a.raising; section_work = a.section_work; service = a.service } in
    let F1 : Bool → TaskCosts = λ x. record { priority = b.priority; is_entered_once = x; is_autostarted = a.is_autostarted; is_cut = a.is_cut; has_raised_waits = a.has_raised_waits; distance = a.distance; first = a.first; next = a.next; raising = a.raising; section_work = a.section_work; service = a.service } in
    let F2 : Bool → TaskCosts = λ x. record { priority = b.priority; is_entered_once = b.is_entered_once; is_autostarted = x; is_cut = a.is_cut; has_raised_waits = a.has_raised_waits; distance = a.distance; first = a.first; next = a.next; raising = a.raising; section_work = a.section_work; service = a.service } in
    let F3 : Bool → TaskCosts = λ x. record { priority = b.priority; is_entered_once = b.is_entered_once; is_autostarted = b.is_autostarted; is_cut = x; has_raised_waits = a.has_raised_waits; distance = a.distance; first = a.first; next = a.next; raising = a.raising; section_work = a.section_work; service = a.service } in
    let F4 : Bool → TaskCosts = λ x. record { priority = b.priority; is_entered_once = b.is_entered_once; is_autostarted = b.is_autostarted; is_cut = b.is_cut; has_raised_waits = x; distance = a.distance; first = a.first; next = a.next; raising = a.raising; section_work = a.section_work; service = a.service } in
    let F5 : Option ℕ → TaskCosts = λ x. record { priority = b.priority; is_entered_once = b.is_entered_once; is_autostarted = b.is_autostarted; is_cut = b.is_cut; has_raised_waits = b.has_raised_waits; distance = x; first = a.first; next = a.next; raising = a.raising; section_work = a.section_work; service = a.service } in
    let F6 : Option ℕ → TaskCosts = λ x. record { priority = b.priority; is_entered_once = b.is_entered_once; is_autostarted = b.is_autostarted; is_cut = b.is_cut; has_raised_waits = b.has_raised_waits; distance = b.distance; first = x; next = a.next; raising = a.raising; section_work = a.section_work; service = a.service } in
    let F7 : Option ℕ → TaskCosts = λ x. record { priority = b.priority; is_entered_once = b.is_entered_once; is_autostarted = b.is_autostarted; is_cut = b.is_cut; has_raised_waits = b.has_raised_waits; distance = b.distance; first = b.first; next = x; raising = a.raising; section_work = a.section_work; service = a.service } in
    let F8 : ℕ → TaskCosts = λ x. record { priority = b.priority; is_entered_once = b.is_entered_once; is_autostarted = b.is_autostarted; is_cut = b.is_cut; has_raised_waits = b.has_raised_waits; distance = b.distance; first = b.first; next = b.next; raising = x; section_work = a.section_work; service = a.service } in
    let F9 : Option ℕ → TaskCosts = λ x. record { priority = b.priority; is_entered_once = b.is_entered_once; is_autostarted = b.is_autostarted; is_cut = b.is_cut; has_raised_waits = b.has_raised_waits; distance = b.distance; first = b.first; next = b.next; raising = b.raising; section_work = x; service = a.service } in
    let F10 : ℕ → TaskCosts = λ x. record { priority = b.priority; is_entered_once = b.is_entered_once; is_autostarted = b.is_autostarted; is_cut = b.is_cut; has_raised_waits = b.has_raised_waits; distance = b.distance; first = b.first; next = b.next; raising = b.raising; section_work = b.section_work; service = x } in
    ap F0 e0 ∙ (ap F1 e1 ∙ (ap F2 e2 ∙ (ap F3 e3 ∙ (ap F4 e4 ∙ (ap F5 e5 ∙ (ap F6 e6 ∙ (ap F7 e7 ∙ (ap F8 e8 ∙ (ap F9 e9 ∙ (ap F10 e10))))))))))

pub same_alarm : (a b : AlarmCosts) → a.counter ≡ b.counter → a.task ≡ b.task → a.sets_events ≡ b.sets_events → a.time ≡ b.time → a.cycle ≡ b.cycle → a.is_set ≡ b.is_set → a ≡ b
same_alarm a b e0 e1 e2 e3 e4 e5 =
    let F0 : ℕ → AlarmCosts = λ x. record { counter = x; task = a.task; sets_events = a.sets_events; time = a.time; cycle = a.cycle; is_set = a.is_set } in
    let F1 : ℕ → AlarmCosts = λ x. record { counter = b.counter; task = x; sets_events = a.sets_events; time = a.time; cycle = a.cycle; is_set = a.is_set } in
    let F2 : Bool → AlarmCosts = λ x. record { counter = b.counter; task = b.task; sets_events = x; time = a.time; cycle = a.cycle; is_set = a.is_set } in
    let F3 : ℕ → AlarmCosts = λ x. record { counter = b.counter; task = b.task; sets_events = b.sets_events; time = x; cycle = a.cycle; is_set = a.is_set } in
    let F4 : ℕ → AlarmCosts = λ x. record { counter = b.counter; task = b.task; sets_events = b.sets_events; time = b.time; cycle = x; is_set = a.is_set } in
    let F5 : Bool → AlarmCosts = λ x. record { counter = b.counter; task = b.task; sets_events = b.sets_events; time = b.time; cycle = b.cycle; is_set = x } in
    ap F0 e0 ∙ (ap F1 e1 ∙ (ap F2 e2 ∙ (ap F3 e3 ∙ (ap F4 e4 ∙ ap F5 e5))))

pub same_makings : (a b : Makings) → a.first_activations ≡ b.first_activations → a.first_settings ≡ b.first_settings → a.next_activations ≡ b.next_activations → a.next_settings ≡ b.next_settings → a ≡ b
same_makings a b e0 e1 e2 e3 =
    let F0 : Option ℕ → Makings = λ x. record { first_activations = x; first_settings = a.first_settings; next_activations = a.next_activations; next_settings = a.next_settings } in
    let F1 : Option ℕ → Makings = λ x. record { first_activations = b.first_activations; first_settings = x; next_activations = a.next_activations; next_settings = a.next_settings } in
    let F2 : Option ℕ → Makings = λ x. record { first_activations = b.first_activations; first_settings = b.first_settings; next_activations = x; next_settings = a.next_settings } in
    let F3 : Option ℕ → Makings = λ x. record { first_activations = b.first_activations; first_settings = b.first_settings; next_activations = b.next_activations; next_settings = x } in
    ap F0 e0 ∙ (ap F1 e1 ∙ (ap F2 e2 ∙ ap F3 e3))

pub same_services : (a b : Services) → a.activates ≡ b.activates → a.chains ≡ b.chains → a.sets_events ≡ b.sets_events → a ≡ b
same_services a b e0 e1 e2 =
    let F0 : Bool → Services = λ x. record { activates = x; chains = a.chains; sets_events = a.sets_events } in
    let F1 : Bool → Services = λ x. record { activates = b.activates; chains = x; sets_events = a.sets_events } in
    let F2 : Bool → Services = λ x. record { activates = b.activates; chains = b.chains; sets_events = x } in
    ap F0 e0 ∙ (ap F1 e1 ∙ ap F2 e2)

pub same_section : (a b : SectionCosts) → a.exists ≡ b.exists → a.is_endless ≡ b.is_endless → a.counts ≡ b.counts → a ≡ b
same_section a b e0 e1 e2 =
    let F0 : Bool → SectionCosts = λ x. record { exists = x; is_endless = a.is_endless; counts = a.counts } in
    let F1 : Bool → SectionCosts = λ x. record { exists = b.exists; is_endless = x; counts = a.counts } in
    let F2 : Option ℕ → SectionCosts = λ x. record { exists = b.exists; is_endless = b.is_endless; counts = x } in
    ap F0 e0 ∙ (ap F1 e1 ∙ ap F2 e2)

pub same_section_makings : (a b : SectionMakings) → a.activations ≡ b.activations → a.settings ≡ b.settings → a ≡ b
same_section_makings a b e0 e1 =
    let F0 : Option ℕ → SectionMakings = λ x. record { activations = x; settings = a.settings } in
    let F1 : Option ℕ → SectionMakings = λ x. record { activations = b.activations; settings = x } in
    ap F0 e0 ∙ ap F1 e1

pub same_level : (a b : Level) → a.sections ≡ b.sections → a.makings ≡ b.makings → a ≡ b
same_level a b e0 e1 =
    let F0 : List SectionCosts → Level = λ x. record { sections = x; makings = a.makings } in
    let F1 : List (List SectionMakings) → Level = λ x. record { sections = b.sections; makings = x } in
    ap F0 e0 ∙ ap F1 e1

pub same_costs : (a b : Costs) → a.tasks ≡ b.tasks → a.comes ≡ b.comes → a.counters ≡ b.counters → a.alarms ≡ b.alarms → a.makings ≡ b.makings → a.services ≡ b.services → a.levels ≡ b.levels → a ≡ b
same_costs a b e0 e1 e2 e3 e4 e5 e6 =
    let F0 : List TaskCosts → Costs = λ x. record { tasks = x; comes = a.comes; counters = a.counters; alarms = a.alarms; makings = a.makings; services = a.services; levels = a.levels } in
    let F1 : List Bool → Costs = λ x. record { tasks = b.tasks; comes = x; counters = a.counters; alarms = a.alarms; makings = a.makings; services = a.services; levels = a.levels } in
    let F2 : List CounterCosts → Costs = λ x. record { tasks = b.tasks; comes = b.comes; counters = x; alarms = a.alarms; makings = a.makings; services = a.services; levels = a.levels } in
    let F3 : List AlarmCosts → Costs = λ x. record { tasks = b.tasks; comes = b.comes; counters = b.counters; alarms = x; makings = a.makings; services = a.services; levels = a.levels } in
    let F4 : List (List Makings) → Costs = λ x. record { tasks = b.tasks; comes = b.comes; counters = b.counters; alarms = b.alarms; makings = x; services = a.services; levels = a.levels } in
    let F5 : List (List Services) → Costs = λ x. record { tasks = b.tasks; comes = b.comes; counters = b.counters; alarms = b.alarms; makings = b.makings; services = x; levels = a.levels } in
    let F6 : List Level → Costs = λ x. record { tasks = b.tasks; comes = b.comes; counters = b.counters; alarms = b.alarms; makings = b.makings; services = b.services; levels = x } in
    ap F0 e0 ∙ (ap F1 e1 ∙ (ap F2 e2 ∙ (ap F3 e3 ∙ (ap F4 e4 ∙ (ap F5 e5 ∙ ap F6 e6)))))
