-- No LF stands in the words of a line, nor in the text of an event of a task.
use Rattle.std.proofs.Common.{◌≡◌, ◌∙◌, ℕ, ◌<◌, ◌≤◌, ◌⊎◌, inl, inr, true, false, List, [], ◌∷◌, ◌++◌, length, get_or, refl, ap, arith, is_some}
use Rattle.std.specs.Prelude.{◌&&◌, decimal, codes, unwrap_or}
use Rattle.std.specs.Char.{is_ascii_digit}
use Rattle.std.proofs.lemmas.Bool.{cases_lt, false≢true}
use Rattle.std.proofs.lemmas.List.Sums.{list_all-from_AllPass}
use Rattle.std.proofs.lemmas.Option.{slice_get-get_or, slice_get_past}
use Rattle.sloth_base.specs.ImageRange.{AreNames, IsName, begins_word, continues_word}
use Rattle.sloth_base.specs.declared.service.Event.{Event}
use Rattle.sloth_base.specs.declared.service.Event.TheVariants as event
use Rattle.sloth_base.specs.declared.service.Service.{Service}
use Rattle.sloth_base.specs.declared.service.Service.TheVariants as service
use Rattle.text_pieces.specs.Bytes.{is_byte_of}
use Rattle.text_pieces.proofs.Cuts.{lacks, has_in}
use Rattle.trace_text.specs.EventNumbers.{HasEventNumbers}
use Rattle.sloth_base.specs.ServiceCodes.{service_name}
use Rattle.sloth_base.specs.Events.{named_task}
use Rattle.trace_text.specs.EventWords.{name_of, event_text}
use Rattle.trace_text.proofs.Digits.{writes}

pub number_lacks : (n : ℕ) → n < 0x1_0000_0000 → is_byte_of 10 (decimal n) ≡ false
number_lacks n h = lacks is_ascii_digit 10 refl (decimal n) (writes n (omega (arith, h))).digits_alone

name_lacks : (name : List ℕ) → IsName name → is_byte_of 10 name ≡ false
name_lacks [] h = absurd h.word
name_lacks (first ∷ rest) h =
    has_in 10 (first ∷ []) rest
    (lacks begins_word 10 refl (first ∷ []) (ap (λ b. b && true) h.word.0))
    (lacks continues_word 10 refl rest (list_all-from_AllPass continues_word rest h.word.1))

service_lacks : (s : Service) → is_byte_of 10 (service_name s) ≡ false
unfolding is_byte_of
service_lacks service.ActivateTask = refl
service_lacks s = refl

-- fixed words
pub record Fixed : Type 0 where
  pub space : is_byte_of 10 (codes " ") ≡ false
  pub dash : is_byte_of 10 (codes "-") ≡ false
  pub boot : is_byte_of 10 (codes "boot") ≡ false
  pub admit : is_byte_of 10 (codes "admit ") ≡ false
  pub enter : is_byte_of 10 (codes "enter ") ≡ false
  pub run : is_byte_of 10 (codes "run ") ≡ false
  pub call : is_byte_of 10 (codes "call ") ≡ false
  pub left : is_byte_of 10 (codes "left ") ≡ false
  pub back : is_byte_of 10 (codes "back ") ≡ false
  pub idle : is_byte_of 10 (codes "idle") ≡ false
  pub stray : is_byte_of 10 (codes "stray") ≡ false
  pub tick : is_byte_of 10 (codes "tick ") ≡ false

pub fixed : Fixed
unfolding is_byte_of
fixed = record { space = refl; dash = refl; boot = refl; admit = refl; enter = refl; run = refl; call = refl; left = refl; back = refl; idle = refl; stray = refl; tick = refl }

pub named_lacks : (names : List (List ℕ)) → AreNames names → (i : ℕ) → is_byte_of 10 (name_of names i) ≡ false
named_lacks names named i = by (cases_lt i (length names))
  where
    by : (i < length names) ⊎ (length names ≤ i) → is_byte_of 10 (name_of names i) ≡ false
    by (inl lt) =
        let e : name_of names i ≡ get_or names i [] = ap (λ o. unwrap_or o (codes "-")) (slice_get-get_or names i [] lt) in
        ap (is_byte_of 10) e ∙ name_lacks (get_or names i []) (named.each i [] lt)
    by (inr ge) = ap (λ o. is_byte_of 10 (unwrap_or o (codes "-"))) (slice_get_past names i ge) ∙ fixed.dash

pub and : (a b : List ℕ) → is_byte_of 10 a ≡ false → is_byte_of 10 b ≡ false → is_byte_of 10 (a ++ b) ≡ false
and a b p q = has_in 10 a b p q

module _ (tasks functions counters : List (List ℕ)) (named : AreNames tasks) (called : AreNames functions) where
  pub task_lacks : (e : Event) → HasEventNumbers (length tasks) (length functions) (length counters) e → is_some (named_task e) ≡ true
      → is_byte_of 10 (event_text tasks functions counters e) ≡ false
  task_lacks (event.Admit t) h named_one = and (codes "admit ") (name_of tasks t) fixed.admit (named_lacks tasks named t)
  task_lacks (event.Enter t) h named_one = and (codes "enter ") (name_of tasks t) fixed.enter (named_lacks tasks named t)
  task_lacks (event.Run t f item result) h named_one =
      and _ (decimal result)
      (and _ (codes " ")
      (and _ (decimal item)
      (and _ (codes " ")
      (and _ (name_of functions f)
      (and _ (codes " ") (and (codes "run ") (name_of tasks t) fixed.run (named_lacks tasks named t)) fixed.space)
      (named_lacks functions called f))
      fixed.space)
      (number_lacks item h.2))
      fixed.space)
      (number_lacks result h.3)
  task_lacks (event.Call t s status) h named_one =
      and _ (decimal status)
      (and _ (codes " ") (and _ (service_name s) (and _ (codes " ") (and (codes "call ") (name_of tasks t) fixed.call (named_lacks tasks named t)) fixed.space) (service_lacks s)) fixed.space)
      (number_lacks status h.1)
  task_lacks (event.Left t s) h named_one =
      and _ (service_name s) (and _ (codes " ") (and (codes "left ") (name_of tasks t) fixed.left (named_lacks tasks named t)) fixed.space) (service_lacks s)
  task_lacks (event.Back t) h named_one = and (codes "back ") (name_of tasks t) fixed.back (named_lacks tasks named t)
  task_lacks e h named_one = absurd (false≢true named_one)
