-- The event of a task is found that a counted line shows.
use Rattle.std.proofs.Common.{◌≡◌, ◌∙◌, ℕ, ◌<◌, ◌≤◌, ⊎_elim, Bool, true, false, List, [], ◌∷◌, ◌++◌, Option, Some, None, length, get_or, cond, arith, refl, sym, ap, subst, true≢false, is_some}
use Rattle.std.specs.Prelude.{◌&&◌, decimal, codes, bytes_eq, position, unwrap_or}
use Rattle.std.proofs.lemmas.Bool.{le-ltb, cases_lt, false≢true}
use Rattle.std.proofs.lemmas.List.Sums.{list_all-from_AllPass}
use Rattle.std.proofs.lemmas.Option.{slice_get-get_or, slice_get_past}
use Rattle.std.proofs.lemmas.Slice.Eq.{bytes_eq-Decides}
use Rattle.sloth_base.specs.Limits.{name_limit}
use Rattle.sloth_base.specs.ImageRange.{AreNames, IsName, IsWord, begins_word, continues_word}
use Rattle.sloth_base.specs.declared.service.Event.{Event}
use Rattle.sloth_base.specs.declared.service.Event.TheVariants as event
use Rattle.sloth_base.specs.ServiceCodes.{service_name}
use Rattle.sloth_base.proofs.Services.{of_name}
use Rattle.sloth_base.specs.declared.service.Service.{Service}
use Rattle.sloth_base.specs.declared.service.Service.TheVariants as service
use Rattle.text_pieces.specs.Bytes.{is_byte_of}
use Rattle.text_pieces.proofs.Places.{position_at}
use Rattle.text_pieces.proofs.Cuts.{lacks, has_in, before_is, behind_is}
use Rattle.trace_text.specs.EventNumbers.{IsNameNumber, IsNumberOrNone, HasEventNumbers}
use Rattle.trace_text.specs.EventsRead.{◌>>=◌, first_word, other_words, number, place, place_or_none, run_in, call_in, left_in, more_in, is_single, of_task, admission_of, admit_in, named_in, event_in, word_of}
use Rattle.sloth_base.specs.ServiceCodes.{service_named}
use Rattle.sloth_base.specs.Events.{named_task}
use Rattle.trace_text.specs.EventWords.{name_of, event_text, single_in, bare_in}
use Rattle.trace_text.proofs.Digits.{decimal_lacks, number_back}

-- ---- words

-- words one after another, grouped as they are printed
two : (a b : List ℕ) → a ++ codes " " ++ b ≡ a ++ 32 ∷ b
two [] b = refl
two (x ∷ a) b = ap (λ (t : List ℕ). x ∷ t) (two a b)

pub three : (a b c : List ℕ) → a ++ codes " " ++ b ++ codes " " ++ c ≡ a ++ 32 ∷ (b ++ 32 ∷ c)
three [] b c = ap (λ (t : List ℕ). 32 ∷ t) (two b c)
three (x ∷ a) b c = ap (λ (t : List ℕ). x ∷ t) (three a b c)

four : (a b c d : List ℕ) → a ++ codes " " ++ b ++ codes " " ++ c ++ codes " " ++ d ≡ a ++ 32 ∷ (b ++ 32 ∷ (c ++ 32 ∷ d))
four [] b c d = ap (λ (t : List ℕ). 32 ∷ t) (three b c d)
four (x ∷ a) b c d = ap (λ (t : List ℕ). x ∷ t) (four a b c d)

pub first_is : (a b : List ℕ) → is_byte_of 32 a ≡ false → first_word (a ++ 32 ∷ b) ≡ a
first_is a b h = before_is 32 a b refl h

pub others_are : (a b : List ℕ) → is_byte_of 32 a ≡ false → other_words (a ++ 32 ∷ b) ≡ b
others_are a b h = behind_is 32 a b refl h

-- ---- names

name_lacks : (name : List ℕ) → IsName name → is_byte_of 32 name ≡ false
name_lacks [] h = absurd h.word
name_lacks (first ∷ rest) h =
    has_in 32 (first ∷ []) rest
    (lacks begins_word 32 refl (first ∷ []) (ap (λ b. b && true) h.word.0))
    (lacks continues_word 32 refl rest (list_all-from_AllPass continues_word rest h.word.1))

pub is_not_dash : (name : List ℕ) → IsName name → bytes_eq name (codes "-") ≡ false
is_not_dash name h = by (bytes_eq name (codes "-")) refl
  where
    by : (b : Bool) → bytes_eq name (codes "-") ≡ b → bytes_eq name (codes "-") ≡ false
    by false e = e
    by true e =
        let P : List ℕ → Type 0 = λ t. IsWord t in
        let w : IsWord (codes "-") = subst P ((bytes_eq-Decides name (codes "-")).0 e) h.word in
        absurd (true≢false (sym w.0))

word_is : (n : ℕ) → n < 0x1_0000_0000 → word_of n ≡ Some n
word_is n h = let t = le-ltb 4294967295 n (omega (arith, h)) in ap (λ b. cond b None (Some n)) t

module _ (names : List (List ℕ)) (named : AreNames names) where
  pub inside : (i : ℕ) → i < length names → name_of names i ≡ get_or names i []
  inside i h = ap (λ o. unwrap_or o (codes "-")) (slice_get-get_or names i [] h)

  past : (i : ℕ) → length names ≤ i → name_of names i ≡ codes "-"
  past i h = ap (λ o. unwrap_or o (codes "-")) (slice_get_past names i h)

  pub is_name : (i : ℕ) → i < length names → IsName (name_of names i)
  is_name i h = subst IsName (sym (inside i h)) (named.each i [] h)

  pub place_back : (i : ℕ) → IsNameNumber (length names) i → place names (name_of names i) ≡ Some i
  unfolding place
  place_back i h =
      ap (λ w. position (bytes_eq w) names >>= word_of) (inside i h.inside)
      ∙ (ap (λ o. o >>= word_of) (position_at names named.distinct i [] h.inside) ∙ word_is i h.word)

  place_lacks : (i : ℕ) → IsNameNumber (length names) i → is_byte_of 32 (name_of names i) ≡ false
  place_lacks i h = name_lacks (name_of names i) (is_name i h.inside)

  dash_back : (t : ℕ) → length names ≤ t → IsNumberOrNone (length names) t → place_or_none names (name_of names t) ≡ Some t
  unfolding place_or_none
  dash_back t ge h =
      let e : t ≡ 4294967295 = ⊎_elim (λ lt. absurd (omega (arith, lt, ge))) (λ e. e) h.names in
      ap (place_or_none names) (past t ge) ∙ ap Some (sym e)

  number_in_place : (t : ℕ) → t < length names → IsNumberOrNone (length names) t → place_or_none names (name_of names t) ≡ Some t
  unfolding place_or_none
  number_in_place t lt h =
      ap (λ b. cond b (Some 4294967295) (place names (name_of names t))) (is_not_dash (name_of names t) (is_name t lt))
      ∙ place_back t (record { word = h.word; inside = lt })

  pub number_or_none_back : (t : ℕ) → IsNumberOrNone (length names) t → place_or_none names (name_of names t) ≡ Some t
  number_or_none_back t h = ⊎_elim (λ lt. number_in_place t lt h) (λ ge. dash_back t ge h) (cases_lt t (length names))

  number_lacks : (t : ℕ) → is_byte_of 32 (name_of names t) ≡ false
  unfolding is_byte_of
  number_lacks t = ⊎_elim (λ lt. name_lacks (name_of names t) (is_name t lt)) (λ ge. ap (is_byte_of 32) (past t ge)) (cases_lt t (length names))

  -- a name or `-` is short
  pub short_names : (k : ℕ) → length (name_of names k) ≤ name_limit
  short_names k =
      ⊎_elim (λ lt. (is_name k lt).short) (λ ge. subst (λ (t : List ℕ). length t ≤ name_limit) (sym (past k ge)) (omega arith)) (cases_lt k (length names))

service_lacks : (s : Service) → is_byte_of 32 (service_name s) ≡ false
unfolding is_byte_of
service_lacks service.ActivateTask = refl
service_lacks s = refl

-- ---- events

pub one_after : {A B : Type 0} (o : Option A) (go : A → Option B) (a : A) → o ≡ Some a → (o >>= go) ≡ go a
one_after o go a e = ap (λ x. x >>= go) e

module _ (tasks functions counters : List (List ℕ)) (named : AreNames tasks) (known : AreNames functions) where
  pub cut_there : (kind rest : List ℕ) → is_byte_of 32 kind ≡ false
      → named_in tasks functions counters (first_word (kind ++ 32 ∷ rest)) (other_words (kind ++ 32 ∷ rest)) ≡ named_in tasks functions counters kind rest
  cut_there kind rest h =
      ap (λ (k : List ℕ). named_in tasks functions counters k (other_words (kind ++ 32 ∷ rest))) (first_is kind rest h)
      ∙ ap (named_in tasks functions counters kind) (others_are kind rest h)

  alone : (kind : List ℕ) (t : ℕ) → IsNumberOrNone (length tasks) t → is_single kind ≡ true → of_task tasks functions kind (name_of tasks t) ≡ single_in kind t
  unfolding of_task
  alone kind t h e =
      let w = name_of tasks t in
      ap (λ b. cond b (place_or_none tasks w >>= (λ task. single_in kind task)) (place_or_none tasks (first_word w) >>= (λ task. more_in kind task functions (other_words w)))) e
      ∙ one_after (place_or_none tasks w) (λ task. single_in kind task) t (number_or_none_back tasks named t h)

  with_more : (kind : List ℕ) (t : ℕ) (rest : List ℕ) → IsNumberOrNone (length tasks) t → is_single kind ≡ false
      → of_task tasks functions kind (name_of tasks t ++ 32 ∷ rest) ≡ more_in kind t functions rest
  unfolding of_task
  with_more kind t rest h e =
      let w = name_of tasks t ++ 32 ∷ rest in
      let lacks = number_lacks tasks named t in
      ap (λ b. cond b (place_or_none tasks w >>= (λ task. single_in kind task)) (place_or_none tasks (first_word w) >>= (λ task. more_in kind task functions (other_words w)))) e
      ∙ (one_after (place_or_none tasks (first_word w)) (λ task. more_in kind task functions (other_words w)) t
      (ap (place_or_none tasks) (first_is (name_of tasks t) rest lacks) ∙ number_or_none_back tasks named t h)
      ∙ ap (more_in kind t functions) (others_are (name_of tasks t) rest lacks))

  run_back : (t f i r : ℕ) → IsNameNumber (length functions) f → i < 0x1_0000_0000 → r < 0x1_0000_0000
      → run_in t functions (name_of functions f ++ 32 ∷ (decimal i ++ 32 ∷ decimal r)) ≡ Some (event.Run t f i r)
  unfolding run_in
  run_back t f i r h p q =
      let a = name_of functions f in
      let rest = decimal i ++ 32 ∷ decimal r in
      let text = a ++ 32 ∷ rest in
      let lacks = place_lacks functions known f h in
      let digits = decimal_lacks i (omega (arith, p)) in
      let behind_name = others_are a rest lacks in
      one_after (place functions (first_word text))
      (λ f. number (first_word (other_words text)) >>= (λ i. number (other_words (other_words text)) >>= (λ r. Some (event.Run t f i r)))) f
      (ap (place functions) (first_is a rest lacks) ∙ place_back functions known f h)
      ∙ (one_after (number (first_word (other_words text))) (λ i. number (other_words (other_words text)) >>= (λ r. Some (event.Run t f i r))) i
      (ap (λ (w : List ℕ). number (first_word w)) behind_name ∙ (ap number (first_is (decimal i) (decimal r) digits) ∙ number_back i p))
      ∙ one_after (number (other_words (other_words text))) (λ r. Some (event.Run t f i r)) r
      (ap (λ (w : List ℕ). number (other_words w)) behind_name ∙ (ap number (others_are (decimal i) (decimal r) digits) ∙ number_back r q)))

  call_back : (t : ℕ) (s : Service) (v : ℕ) → v < 0x1_0000_0000 → call_in t (service_name s ++ 32 ∷ decimal v) ≡ Some (event.Call t s v)
  unfolding call_in
  call_back t s v q =
      let text = service_name s ++ 32 ∷ decimal v in
      one_after (service_named (first_word text)) (λ s. number (other_words text) >>= (λ v. Some (event.Call t s v))) s
      (ap service_named (first_is (service_name s) (decimal v) (service_lacks s)) ∙ of_name s)
      ∙ one_after (number (other_words text)) (λ v. Some (event.Call t s v)) v
      (ap number (others_are (service_name s) (decimal v) (service_lacks s)) ∙ number_back v q)

  left_back : (t : ℕ) (s : Service) → left_in t (service_name s) ≡ Some (event.Left t s)
  unfolding left_in
  left_back t s = one_after (service_named (service_name s)) (λ s. Some (event.Left t s)) s (of_name s)

  admit_back : (t : ℕ) → IsNumberOrNone (length tasks) t → admit_in tasks counters (name_of tasks t) ≡ Some (event.Admit t)
  unfolding admit_in
  admit_back t h = ap (λ o. admission_of o (place counters (name_of tasks t))) (number_or_none_back tasks named t h)

  pub task_back : (e : Event) → HasEventNumbers (length tasks) (length functions) (length counters) e → is_some (named_task e) ≡ true
      → event_in tasks functions counters (event_text tasks functions counters e) ≡ Some e
  unfolding event_in bare_in named_in single_in more_in is_byte_of
  task_back (event.Admit t) h named_one = cut_there (codes "admit") (name_of tasks t) refl ∙ admit_back t h
  task_back (event.Enter t) h named_one = cut_there (codes "enter") (name_of tasks t) refl ∙ alone (codes "enter") t h refl
  task_back (event.Run t f i r) h named_one =
      let a = name_of tasks t in
      let b = name_of functions f in
      cut_there (codes "run") (a ++ codes " " ++ b ++ codes " " ++ decimal i ++ codes " " ++ decimal r) refl
      ∙ (ap (of_task tasks functions (codes "run")) (four a b (decimal i) (decimal r))
      ∙ (with_more (codes "run") t (b ++ 32 ∷ (decimal i ++ 32 ∷ decimal r)) h.0 refl ∙ run_back t f i r h.1 h.2 h.3))
  task_back (event.Call t s v) h named_one =
      let a = name_of tasks t in
      cut_there (codes "call") (a ++ codes " " ++ service_name s ++ codes " " ++ decimal v) refl
      ∙ (ap (of_task tasks functions (codes "call")) (three a (service_name s) (decimal v))
      ∙ (with_more (codes "call") t (service_name s ++ 32 ∷ decimal v) h.0 refl ∙ call_back t s v h.1))
  task_back (event.Left t s) h named_one =
      let a = name_of tasks t in
      cut_there (codes "left") (a ++ codes " " ++ service_name s) refl
      ∙ (ap (of_task tasks functions (codes "left")) (two a (service_name s))
      ∙ (with_more (codes "left") t (service_name s) h refl ∙ left_back t s))
  task_back (event.Back t) h named_one = cut_there (codes "back") (name_of tasks t) refl ∙ alone (codes "back") t h refl
  task_back e h named_one = absurd (false≢true named_one)
