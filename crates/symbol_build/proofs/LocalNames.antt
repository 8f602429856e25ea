-- The name of a local symbol tells what it names.
use Rattle.std.proofs.Common.{◌≡◌, ◌<◌, ◌+◌, ◌*◌, ◌∙◌, inl, inr, ℕ, zero, suc, cond, List, [], ◌∷◌, Option, Some, codes, length, get_or, map, refl, sym, ap, subst, arith}
use Rattle.std.specs.Prelude.{◌==◌, ◌≢◌, AllPairs, IsTrue, position, bytes_eq}
use Rattle.std.specs.Option.{option_map}
use Rattle.std.proofs.lemmas.Bool.{ne_eqb, eq-eqb}
use Rattle.std.proofs.lemmas.List.{get_or-map, length-map}
use Rattle.code_rules.specs.AppRange.{IsResource}
use Rattle.sloth_base.proofs.Services.{of_name}
use Rattle.sloth_base.specs.Blocks.{block_number}
use Rattle.sloth_base.specs.ConfigRange.{InRange, resource_name, scheduler_number}
use Rattle.sloth_base.specs.Named.{alarm_declaration, counter_declaration, declaration, undeclared_alarm, undeclared_counter, undeclared_task}
use Rattle.sloth_base.specs.ServiceCodes.{object_kind, service_name, service_named}
use Rattle.sloth_base.specs.declared.config.Config.{Config}
use Rattle.sloth_base.specs.declared.service.ObjectKind.{ObjectKind}
use Rattle.sloth_base.specs.declared.service.ObjectKind.TheVariants as object
use Rattle.sloth_base.specs.declared.service.Service.{Service}
use Rattle.sloth_base.specs.declared.service.Service.TheVariants as service
use Rattle.map_text.specs.PieceNames.{joined}
use Rattle.symbol_image.specs.declared.symbol.Symbol.{Symbol}
use Rattle.text_pieces.proofs.Places.{position_at}

-- ---- what stands in front of the `$`

pub data Front : Type 0 where
  Kernel : Front
  Active : Front
  Events : Front
  Wait : Front
  Value : Front
  Left : Front
  Cycle : Front
  Resume : Front
  Saved : Front
  Prologue : Front
  Tick : Front
  OwnStack : Front
  Serving : Service → Front

abbrev pub front_text : Front → List ℕ
front_text Kernel = codes "kernel"
front_text Active = codes "active"
front_text Events = codes "events"
front_text Wait = codes "wait"
front_text Value = codes "value"
front_text Left = codes "left"
front_text Cycle = codes "cycle"
front_text Resume = codes "resume"
front_text Saved = codes "saved"
front_text Prologue = codes "prologue"
front_text Tick = codes "tick"
front_text OwnStack = codes "stack"
front_text (Serving s) = service_name s

-- what a text is that stands there
abbrev front_named : List ℕ → Option Front
front_named word =
    cond (bytes_eq (codes "kernel") word) (Some Kernel)
    (cond (bytes_eq (codes "active") word) (Some Active)
    (cond (bytes_eq (codes "events") word) (Some Events)
    (cond (bytes_eq (codes "wait") word) (Some Wait)
    (cond (bytes_eq (codes "value") word) (Some Value)
    (cond (bytes_eq (codes "left") word) (Some Left)
    (cond (bytes_eq (codes "cycle") word) (Some Cycle)
    (cond (bytes_eq (codes "resume") word) (Some Resume)
    (cond (bytes_eq (codes "saved") word) (Some Saved)
    (cond (bytes_eq (codes "prologue") word) (Some Prologue)
    (cond (bytes_eq (codes "tick") word) (Some Tick)
    (cond (bytes_eq (codes "stack") word) (Some OwnStack) (option_map Serving (service_named word)))))))))))))

serving_found : (s : Service) → front_named (service_name s) ≡ option_map Serving (service_named (service_name s))
serving_found service.ActivateTask = refl
serving_found s = refl

found : (f : Front) → front_named (front_text f) ≡ Some f
found Kernel = refl
found Active = refl
found Events = refl
found Wait = refl
found Value = refl
found Left = refl
found Cycle = refl
found Resume = refl
found Saved = refl
found Prologue = refl
found Tick = refl
found OwnStack = refl
found (Serving s) = serving_found s ∙ ap (option_map Serving) (of_name s)

-- the bytes in front of the first `$`, and those behind it
abbrev before : List ℕ → List ℕ
before [] = []
before (b ∷ bytes) = cond (b == 36) [] (b ∷ before bytes)

abbrev behind : List ℕ → List ℕ
behind [] = []
behind (b ∷ bytes) = cond (b == 36) bytes (behind bytes)

before-service : (s : Service) (x : List ℕ) → before (joined (service_name s) x) ≡ service_name s
before-service service.ActivateTask x = refl
before-service s x = refl

before-front : (f : Front) (x : List ℕ) → before (joined (front_text f) x) ≡ front_text f
before-front Kernel x = refl
before-front Active x = refl
before-front Events x = refl
before-front Wait x = refl
before-front Value x = refl
before-front Left x = refl
before-front Cycle x = refl
before-front Resume x = refl
before-front Saved x = refl
before-front Prologue x = refl
before-front Tick x = refl
before-front OwnStack x = refl
before-front (Serving s) x = before-service s x

behind-service : (s : Service) (x : List ℕ) → behind (joined (service_name s) x) ≡ x
behind-service service.ActivateTask x = refl
behind-service s x = refl

behind-front : (f : Front) (x : List ℕ) → behind (joined (front_text f) x) ≡ x
behind-front Kernel x = refl
behind-front Active x = refl
behind-front Events x = refl
behind-front Wait x = refl
behind-front Value x = refl
behind-front Left x = refl
behind-front Cycle x = refl
behind-front Resume x = refl
behind-front Saved x = refl
behind-front Prologue x = refl
behind-front Tick x = refl
behind-front OwnStack x = refl
behind-front (Serving s) x = behind-service s x

-- names that are the same have the same in front and behind
one-name : (f g : Front) (x y : List ℕ) → joined (front_text f) x ≡ joined (front_text g) y → (f ≡ g) × (x ≡ y)
one-name f g x y e =
    let texts : front_text f ≡ front_text g = sym (before-front f x) ∙ ap before e ∙ before-front g y in
    let both : Some f ≡ Some g = sym (found f) ∙ ap front_named texts ∙ found g in
    let front : f ≡ g = cc in
    (front, sym (behind-front f x) ∙ ap behind e ∙ behind-front g y)

-- ---- what stands behind it

-- what is numbered: the kernel's own words and pieces, tasks, counters, alarms, resources
pub data Sort : Type 0 where
  Own : Sort
  OfTask : Sort
  OfCounter : Sort
  OfAlarm : Sort
  OfResource : Sort

abbrev pub kind_sort : ObjectKind → Sort
kind_sort object.Nothing = Own
kind_sort object.Task = OfTask
kind_sort object.Resource = OfResource
kind_sort object.Alarm = OfAlarm

abbrev pub sort_of : Front → Sort
sort_of Kernel = Own
sort_of Active = OfTask
sort_of Events = OfTask
sort_of Wait = OfTask
sort_of Value = OfCounter
sort_of Left = OfAlarm
sort_of Cycle = OfAlarm
sort_of Resume = OfTask
sort_of Saved = OfResource
sort_of Prologue = OfTask
sort_of Tick = OfCounter
sort_of OwnStack = OfTask
sort_of (Serving s) = kind_sort (object_kind s)

-- the kernel's own; the last five are the services without an object
abbrev pub own_words : List (List ℕ)
own_words =
    codes "cur" ∷ codes "below" ∷ codes "idle_context" ∷ codes "vectors" ∷ codes "boot" ∷ codes "idle" ∷ codes "stack" ∷ codes "TerminateTask"
    ∷ codes "Schedule" ∷ codes "GetTaskID" ∷ codes "ClearEvent" ∷ codes "WaitEvent" ∷ []

abbrev pub IsThere : Config → Sort → ℕ → Type 0
IsThere config Own n = n < 12
IsThere config OfTask n = n < length config.tasks
IsThere config OfCounter n = n < length config.counters
IsThere config OfAlarm n = n < length config.alarms
IsThere config OfResource n = IsResource config n

abbrev pub object_name : Config → Sort → ℕ → List ℕ
object_name config Own n = get_or own_words n []
object_name config OfTask n = (declaration config n).name
object_name config OfCounter n = (counter_declaration config n).name
object_name config OfAlarm n = (alarm_declaration config n).name
object_name config OfResource n = resource_name config n

own_found : (n : ℕ) → n < 12 → position (bytes_eq (get_or own_words n [])) own_words ≡ Some n
own_found zero h = refl
own_found (suc zero) h = refl
own_found (suc (suc zero)) h = refl
own_found (suc (suc (suc zero))) h = refl
own_found (suc (suc (suc (suc zero)))) h = refl
own_found (suc (suc (suc (suc (suc zero))))) h = refl
own_found (suc (suc (suc (suc (suc (suc zero)))))) h = refl
own_found (suc (suc (suc (suc (suc (suc (suc zero))))))) h = refl
own_found (suc (suc (suc (suc (suc (suc (suc (suc zero)))))))) h = refl
own_found (suc (suc (suc (suc (suc (suc (suc (suc (suc zero))))))))) h = refl
own_found (suc (suc (suc (suc (suc (suc (suc (suc (suc (suc zero)))))))))) h = refl
own_found (suc (suc (suc (suc (suc (suc (suc (suc (suc (suc (suc zero))))))))))) h = refl
own_found (suc (suc (suc (suc (suc (suc (suc (suc (suc (suc (suc (suc n)))))))))))) h = absurd (omega (arith, h))

-- of objects with names that differ
same-place : {X : Type 0} (name : X → List ℕ) (xs : List X) (d : X) → AllPairs (λ one other. one ≢ other) (map name xs) → (i j : ℕ) → i < length xs → j < length xs
    → name (get_or xs i d) ≡ name (get_or xs j d) → i ≡ j
same-place name xs d apart i j hi hj e =
    let long = length-map xs name in
    let at : (k : ℕ) → k < length xs → position (bytes_eq (name (get_or xs k d))) (map name xs) ≡ Some k =
    λ k h. ap (λ n. position (bytes_eq n) (map name xs)) (sym (get_or-map name xs k d [] h)) ∙ position_at (map name xs) apart k [] (omega (arith, long, h)) in
    let both : Some i ≡ Some j = sym (at i hi) ∙ ap (λ n. position (bytes_eq n) (map name xs)) e ∙ at j hj in cc

module _ (config : Config) (range : InRange config) where
  pub resource_is : (r : ℕ) → r < length config.resources → resource_name config r ≡ get_or config.resources r []
  resource_is r h =
      let few = range.few_resources in
      ap (λ b. cond b (codes "RES_SCHEDULER") (get_or config.resources r []))
      (ne_eqb r scheduler_number (λ e. let own : r ≡ scheduler_number = e in omega (arith, own, h, few)))

  scheduler_is : (r : ℕ) → r ≡ scheduler_number → resource_name config r ≡ codes "RES_SCHEDULER"
  scheduler_is r e = ap (λ b. cond b (codes "RES_SCHEDULER") (get_or config.resources r [])) (eq-eqb r scheduler_number e)

  never-both : (r s : ℕ) → r < length config.resources → s ≡ scheduler_number → IsTrue config.res_scheduler → resource_name config r ≡ resource_name config s → ⊥
  never-both r s h is exists e = range.scheduler_alone exists r [] h (sym (resource_is r h) ∙ e ∙ scheduler_is s is)

  same-resource : (i j : ℕ) → IsResource config i → IsResource config j → resource_name config i ≡ resource_name config j → i ≡ j
  same-resource i j (inl h) (inl k) e =
      let at : (r : ℕ) → r < length config.resources → position (bytes_eq (resource_name config r)) config.resources ≡ Some r =
      λ r l. ap (λ n. position (bytes_eq n) config.resources) (resource_is r l) ∙ position_at config.resources range.resource_names.distinct r [] l in
      let both : Some i ≡ Some j = sym (at i h) ∙ ap (λ n. position (bytes_eq n) config.resources) e ∙ at j k in cc
  same-resource i j (inl h) (inr k) e = absurd (never-both i j h k.0 k.1 e)
  same-resource i j (inr h) (inl k) e = absurd (never-both j i k h.0 h.1 (sym e))
  same-resource i j (inr h) (inr k) e = h.0 ∙ sym k.0

  same-number : (s : Sort) (i j : ℕ) → IsThere config s i → IsThere config s j → object_name config s i ≡ object_name config s j → i ≡ j
  same-number Own i j h k e =
      let both : Some i ≡ Some j = sym (own_found i h) ∙ ap (λ n. position (bytes_eq n) own_words) e ∙ own_found j k in cc
  same-number OfTask i j h k e = same-place (λ t. t.name) config.tasks undeclared_task range.task_names.distinct i j h k e
  same-number OfCounter i j h k e = same-place (λ c. c.name) config.counters undeclared_counter range.counter_names.distinct i j h k e
  same-number OfAlarm i j h k e = same-place (λ a. a.name) config.alarms undeclared_alarm range.alarm_names.distinct i j h k e
  same-number OfResource i j h k e = same-resource i j h k e

-- ---- the order of local symbols

-- a number for each of the kernel's own, which rise in the order of the symbols
abbrev pub own_places : List ℕ
own_places = 0 ∷ 300 ∷ 600 ∷ 700 ∷ 701 ∷ 702 ∷ 1700 ∷ 1040 ∷ 1120 ∷ 1160 ∷ 1360 ∷ 1440 ∷ []

-- and for each of the others
abbrev pub place : Front → ℕ → ℕ
place Kernel n = get_or own_places n 0
place Active t = 3 * t + 1
place Events t = 3 * t + 2
place Wait t = 3 * t + 3
place Value c = 100 + c
place Left a = 200 + 2 * a
place Cycle a = 201 + 2 * a
place Resume t = 400 + t
place Saved r = 500 + r
place Prologue t = 800 + t
place Tick c = 900 + c
place OwnStack t = 1800 + t
place (Serving s) o = 1000 + block_number s o

-- a symbol names this
pub record IsLocal (config : Config) (key : ℕ) (symbol : Symbol) : Type 0 where
  pub front : Front
  pub number : ℕ
  pub there : IsThere config (sort_of front) number
  pub key_is : key ≡ place front number
  pub name_is : symbol.name ≡ joined (front_text front) (object_name config (sort_of front) number)

-- so symbols of one name have one place
pub one-key : (config : Config) → InRange config → (k j : ℕ) (s t : Symbol) → IsLocal config k s → IsLocal config j t → s.name ≡ t.name → k ≡ j
one-key config range k j s t a b e =
    let same =
    one-name a.front b.front (object_name config (sort_of a.front) a.number) (object_name config (sort_of b.front) b.number) (sym a.name_is ∙ e ∙ b.name_is) in
    let There : Front → Type 0 = λ f. IsThere config (sort_of f) a.number in
    let Named : Front → Type 0 = λ f. object_name config (sort_of f) a.number ≡ object_name config (sort_of b.front) b.number in
    let number : a.number ≡ b.number =
    same-number config range (sort_of b.front) a.number b.number (subst There same.0 a.there) b.there (subst Named same.0 same.1) in
    a.key_is ∙ ap (λ f. place f a.number) same.0 ∙ ap (place b.front) number ∙ sym b.key_is
