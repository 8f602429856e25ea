-- The event of a counted line is found.
use Rattle.std.proofs.Common.{◌≡◌, ◌≢◌, ◌∙◌, ℕ, zero, suc, ◌<◌, Bool, true, false, List, [], ◌∷◌, ◌++◌, Option, Some, None, length, get_or, cond, arith, refl, sym, ap, subst, true≢false}
use Rattle.std.specs.Prelude.{if◌then◌else◌, decimal, codes, bytes_eq, position}
use Rattle.std.proofs.lemmas.Option.{none-some, same_Some}
use Rattle.std.proofs.lemmas.Slice.Eq.{bytes_eq-Decides}
use Rattle.sloth_base.specs.ImageRange.{AreNamesApart, AreNames}
use Rattle.sloth_base.specs.declared.service.Event.{Event}
use Rattle.sloth_base.specs.declared.service.Event.TheVariants as event
use Rattle.sloth_base.specs.declared.service.Stamped.{Stamped}
use Rattle.text_pieces.specs.Bytes.{is_byte_of}
use Rattle.text_pieces.proofs.Places.{further, position-cons}
use Rattle.trace_text.specs.EventNumbers.{IsNameNumber, IsNumberOrNone, HasEventNumbers, Has32Bits}
use Rattle.trace_text.specs.EventLines.{IsLineOf, counted_line}
use Rattle.trace_text.specs.EventsRead.{◌>>=◌, first_word, other_words, number, place, place_or_none, more_in, is_single, admission_of, admit_in, tick_in, named_in, event_in, stamped_in, word_of}
use Rattle.trace_text.specs.EventWords.{name_of, event_text, single_in, bare_in}
use Rattle.trace_text.proofs.Digits.{decimal_lacks, number_back}
use Rattle.trace_text.proofs.TasksBack.{three, first_is, others_are, is_not_dash, inside, is_name, place_back, number_or_none_back, one_after, cut_there, task_back}

-- no name of these is found that differs from each
not_among : (names : List (List ℕ)) (w : List ℕ) → ((i : ℕ) (d : List ℕ) → i < length names → get_or names i d ≢ w) → position (bytes_eq w) names ≡ None
not_among [] w h = refl
not_among (x ∷ names) w h = position-cons (bytes_eq w) x names ∙ by (bytes_eq w x) refl (not_among names w (λ i d lt. h (suc i) d (omega (arith, lt))))
  where
    by : (b : Bool) → bytes_eq w x ≡ b → position (bytes_eq w) names ≡ None → (if b then Some 0 else further (position (bytes_eq w) names)) ≡ None
    by true e none = absurd (h zero [] (omega arith) (sym ((bytes_eq-Decides w x).0 e)))
    by false e none = ap further none

-- ---- events

module _ (tasks functions counters : List (List ℕ)) (named : AreNames tasks) (known : AreNames functions) (counted : AreNames counters)
    (apart : AreNamesApart counters tasks) where
  -- a name that no task has is not read as a task's number
  no_task : (c : ℕ) → IsNameNumber (length counters) c → place_or_none tasks (name_of counters c) ≡ None
  unfolding place_or_none place
  no_task c h =
      let w = name_of counters c in
      let own : w ≡ get_or counters c [] = inside counters counted c h.inside in
      let other : (i : ℕ) (d : List ℕ) → i < length tasks → get_or tasks i d ≢ w =
      λ i d lt same. apart c [] h.inside i d lt (same ∙ own) in
      ap (λ b. cond b (Some 4294967295) (place tasks w)) (is_not_dash w (is_name counters counted c h.inside))
      ∙ ap (λ o. o >>= word_of) (not_among tasks w other)

  due_back : (c : ℕ) → IsNameNumber (length counters) c → admit_in tasks counters (name_of counters c) ≡ Some (event.Due c)
  unfolding admit_in
  due_back c h =
      ap (λ o. admission_of o (place counters (name_of counters c))) (no_task c h)
      ∙ one_after (place counters (name_of counters c)) (λ k. Some (event.Due k)) c (place_back counters counted c h)

  tick_back : (c : ℕ) → IsNumberOrNone (length counters) c → tick_in counters (name_of counters c) ≡ Some (event.Tick c)
  unfolding tick_in
  tick_back c h = one_after (place_or_none counters (name_of counters c)) (λ k. Some (event.Tick k)) c (number_or_none_back counters counted c h)

  event_back : (e : Event) → HasEventNumbers (length tasks) (length functions) (length counters) e
      → event_in tasks functions counters (event_text tasks functions counters e) ≡ Some e
  unfolding event_in bare_in named_in single_in more_in is_byte_of
  event_back event.Boot h = refl
  event_back (event.Due c) h = cut_there tasks functions counters named known (codes "admit") (name_of counters c) refl ∙ due_back c h
  event_back (event.Tick c) h = cut_there tasks functions counters named known (codes "tick") (name_of counters c) refl ∙ tick_back c h
  event_back event.Idle h = refl
  event_back event.Stray h = refl
  event_back e h = task_back tasks functions counters named known e h refl

  pub stamped_back : (e : Stamped) (text : List ℕ) → IsLineOf tasks functions counters e text → stamped_in tasks functions counters text ≡ Some e
  unfolding stamped_in
  stamped_back e text h =
      let a = decimal e.stamp.from in
      let b = decimal e.stamp.at in
      let c = event_text tasks functions counters e.event in
      let spaced = a ++ 32 ∷ (b ++ 32 ∷ c) in
      let is : text ≡ spaced = h.prints ∙ three a b c in
      let p = h.from in
      let q = h.at in
      let front = decimal_lacks e.stamp.from (omega (arith, p)) in
      let next = decimal_lacks e.stamp.at (omega (arith, q)) in
      let behind_from = ap other_words is ∙ others_are a (b ++ 32 ∷ c) front in
      one_after (number (first_word text))
      (λ from. number (first_word (other_words text)) >>= (λ at. event_in tasks functions counters (other_words (other_words text)) >>= (λ event. Some (record { stamp = record { from = from; at = at }; event = event })))) e.stamp.from
      (ap (λ (w : List ℕ). number (first_word w)) is ∙ (ap number (first_is a (b ++ 32 ∷ c) front) ∙ number_back e.stamp.from p))
      ∙ (one_after (number (first_word (other_words text)))
      (λ at. event_in tasks functions counters (other_words (other_words text)) >>= (λ event. Some (record { stamp = record { from = e.stamp.from; at = at }; event = event }))) e.stamp.at
      (ap (λ (w : List ℕ). number (first_word w)) behind_from ∙ (ap number (first_is b c next) ∙ number_back e.stamp.at q))
      ∙ one_after (event_in tasks functions counters (other_words (other_words text))) (λ event. Some (record { stamp = e.stamp; event = event })) e.event
      (ap (λ (w : List ℕ). event_in tasks functions counters (other_words w)) behind_from ∙ (ap (event_in tasks functions counters) (others_are b c next) ∙ event_back e.event h.numbers)))

  -- ---- the text is compared with the line of the event that is found

  -- the event is the one whose line the text is
  abbrev pub IsReading : List ℕ → Option Stamped → Type 0
  IsReading text read = (e : Stamped) → (read ≡ Some e → IsLineOf tasks functions counters e text) × (IsLineOf tasks functions counters e text → read ≡ Some e)

  pub unread : (text : List ℕ) → None ≡ stamped_in tasks functions counters text → IsReading text None
  unread text n e = (λ h. absurd (none-some e h), λ is. n ∙ stamped_back e text is)

  pub misread : (text line : List ℕ) (found : Stamped) → Some found ≡ stamped_in tasks functions counters text → line ≡ counted_line tasks functions counters found
      → bytes_eq line text ≡ false → IsReading text None
  misread text line found s l f e = (
    λ h. absurd (none-some e h),
    λ is.
        let same : found ≡ e = same_Some found e (s ∙ stamped_back e text is) in
        let printed : line ≡ text = l ∙ (ap (counted_line tasks functions counters) same ∙ sym is.prints) in
        absurd (true≢false (sym ((bytes_eq-Decides line text).1 printed) ∙ f)),
  )

  pub reread : (text line : List ℕ) (found : Stamped) → Some found ≡ stamped_in tasks functions counters text → line ≡ counted_line tasks functions counters found
      → bytes_eq line text ≡ true → Has32Bits found.stamp.from → Has32Bits found.stamp.at → HasEventNumbers (length tasks) (length functions) (length counters) found.event
      → IsReading text (Some found)
  reread text line found s l t p q n e = (
    λ h.
        let is : IsLineOf tasks functions counters found text = record { from = p; at = q; numbers = n; prints = sym ((bytes_eq-Decides line text).0 t) ∙ l } in
        let P : Stamped → Type 0 = λ x. IsLineOf tasks functions counters x text in
        subst P (same_Some found e h) is,
    λ is. s ∙ stamped_back e text is,
  )
