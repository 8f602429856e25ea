-- A text shows one list of events at most, and none where a line is bad.
use Rattle.std.proofs.Common.{◌≡◌, ◌∙◌, ℕ, suc, ◌+◌, ◌<◌, Bool, true, false, List, [], ◌∷◌, ◌++◌, Some, None, length, refl, sym, ap, subst, arith, append_assoc, length-append, true≢false}
use Rattle.std.specs.Prelude.{◌==◌, ◌||◌, decimal, codes, All, ◌≢◌, IfSome, IfNone, Option, ◌↔◌}
use Rattle.std.proofs.lemmas.List.{append-nil}
use Rattle.std.proofs.lemmas.Bool.{eqb-true, false≢true}
use Rattle.std.proofs.lemmas.List.Elements.{All-cons, All-head, All-tail}
use Rattle.std.specs.List.{list_any}
use Rattle.std.proofs.lemmas.Option.{same_Some}
use Rattle.sloth_base.specs.ImageRange.{AreNamesApart, AreNames}
use Rattle.sloth_base.specs.declared.service.Event.{Event}
use Rattle.sloth_base.specs.declared.service.Event.TheVariants as event
use Rattle.sloth_base.specs.declared.service.Stamped.{Stamped}
use Rattle.text_pieces.specs.Bytes.{is_byte_of}
use Rattle.text_pieces.specs.Bytes.{before, behind}
use Rattle.text_pieces.proofs.Cuts.{has_here, before_is, behind_is}
use Rattle.trace_text.specs.EventNumbers.{HasEventNumbers}
use Rattle.trace_text.specs.EventLines.{IsLineOf, counted_line}
use Rattle.trace_text.specs.EventWords.{name_of, event_text}
use Rattle.trace_text.proofs.EventsBack.{stamped_back}
use Rattle.trace_check.specs.TraceText.{text_of, HasLine, IsEventText, IsFirstBad, HasFirstLine, HasNoFirstLine}
use Rattle.trace_check.proofs.OneLine.{number_lacks, fixed, named_lacks, and, task_lacks}
use Rattle.trace_check.proofs.ReadEvents.{HasRead}

module _ (tasks functions counters : List (List ℕ)) (named : AreNames tasks) (called : AreNames functions) (counted : AreNames counters) (apart : AreNamesApart counters tasks) where
  -- ---- no LF stands in a line

  event_lacks : (e : Event) → HasEventNumbers (length tasks) (length functions) (length counters) e → is_byte_of 10 (event_text tasks functions counters e) ≡ false
  event_lacks event.Boot h = fixed.boot
  event_lacks (event.Due c) h = and (codes "admit ") (name_of counters c) fixed.admit (named_lacks counters counted c)
  event_lacks (event.Tick c) h = and (codes "tick ") (name_of counters c) fixed.tick (named_lacks counters counted c)
  event_lacks event.Idle h = fixed.idle
  event_lacks event.Stray h = fixed.stray
  event_lacks e h = task_lacks tasks functions counters named called e h refl

  line_lacks : (e : Stamped) → HasLine tasks functions counters e → is_byte_of 10 (counted_line tasks functions counters e) ≡ false
  line_lacks e h =
      and _ (event_text tasks functions counters e.event)
      (and _ (codes " ") (and _ (decimal e.stamp.at) (and (decimal e.stamp.from) (codes " ") (number_lacks e.stamp.from h.from) fixed.space) (number_lacks e.stamp.at h.at)) fixed.space)
      (event_lacks e.event h.numbers)

  -- ---- the first line of a text

  first_line : (e : Stamped) (rest : List ℕ) → HasLine tasks functions counters e → before 10 (counted_line tasks functions counters e ++ 10 ∷ rest) ≡ counted_line tasks functions counters e
  first_line e rest h = before_is 10 (counted_line tasks functions counters e) rest refl (line_lacks e h)

  other_lines : (e : Stamped) (rest : List ℕ) → HasLine tasks functions counters e → behind 10 (counted_line tasks functions counters e ++ 10 ∷ rest) ≡ rest
  other_lines e rest h = behind_is 10 (counted_line tasks functions counters e) rest refl (line_lacks e h)

  -- a line is one event's
  one_line : (e f : Stamped) → HasLine tasks functions counters e → HasLine tasks functions counters f → counted_line tasks functions counters e ≡ counted_line tasks functions counters f → e ≡ f
  one_line e f h k same =
      let P : List ℕ → Type 0 = λ t. IsLineOf tasks functions counters f t in
      same_Some e f
      (sym (stamped_back tasks functions counters named called counted apart e (counted_line tasks functions counters e) h)
      ∙ stamped_back tasks functions counters named called counted apart f (counted_line tasks functions counters e) (subst P (sym same) k))

  text_cons : (e : Stamped) (events : List Stamped) (rest : List ℕ)
      → text_of tasks functions counters (e ∷ events) ++ rest ≡ counted_line tasks functions counters e ++ 10 ∷ (text_of tasks functions counters events ++ rest)
  text_cons e events rest =
      append_assoc (counted_line tasks functions counters e ++ 10 ∷ []) (text_of tasks functions counters events) rest
      ∙ append_assoc (counted_line tasks functions counters e) (10 ∷ []) (text_of tasks functions counters events ++ rest)

  not_empty : (e : Stamped) (rest : List ℕ) → [] ≡ counted_line tasks functions counters e ++ 10 ∷ rest → ⊥
  not_empty e rest h = none (counted_line tasks functions counters e) h
    where
      none : (line : List ℕ) → [] ≡ line ++ 10 ∷ rest → ⊥
      none [] h = absurd cc
      none (x ∷ line) h = absurd cc

  -- texts of events with something behind: of two the events of one begin with those of the other
  pub text_front : (events others : List Stamped) (rest : List ℕ) → All (HasLine tasks functions counters) events → All (HasLine tasks functions counters) others
      → text_of tasks functions counters events ++ rest ≡ text_of tasks functions counters others → (back : List Stamped) × (others ≡ events ++ back) × (rest ≡ text_of tasks functions counters back) × All (HasLine tasks functions counters) back
  text_front [] others rest h k same = (others, refl, same, k)
  text_front (e ∷ events) [] rest h k same = absurd (not_empty e (text_of tasks functions counters events ++ rest) (sym same ∙ text_cons e events rest))
  text_front (e ∷ events) (f ∷ others) rest h k same =
      let he = All-head (HasLine tasks functions counters) e events h in
      let hf = All-head (HasLine tasks functions counters) f others k in
      let left = text_cons e events rest in
      let right : text_of tasks functions counters (f ∷ others) ≡ counted_line tasks functions counters f ++ 10 ∷ text_of tasks functions counters others =
      append_assoc (counted_line tasks functions counters f) (10 ∷ []) (text_of tasks functions counters others) in
      let both = sym left ∙ (same ∙ right) in
      let line = sym (first_line e (text_of tasks functions counters events ++ rest) he) ∙ (ap (before 10) both ∙ first_line f (text_of tasks functions counters others) hf) in
      let tail = sym (other_lines e (text_of tasks functions counters events ++ rest) he) ∙ (ap (behind 10) both ∙ other_lines f (text_of tasks functions counters others) hf) in
      let it = one_line e f he hf line in
      let more = text_front events others rest (All-tail (HasLine tasks functions counters) e events h) (All-tail (HasLine tasks functions counters) f others k) tail in
      (more.0, ap (λ (x : Stamped). x ∷ others) (sym it) ∙ ap (λ (l : List Stamped). e ∷ l) more.1, more.2, more.3)

  -- a text shows one list of events
  pub shows_one : (text : List ℕ) (events others : List Stamped) → IsEventText tasks functions counters events text → IsEventText tasks functions counters others text → events ≡ others
  shows_one text events others h k =
      let f = text_front events others [] h.lines k.lines (append-nil (text_of tasks functions counters events) ∙ (sym h.is ∙ k.is)) in
      sym (f.1 ∙ (ap (λ (l : List Stamped). events ++ l) (no_more f.0 f.2) ∙ append-nil events))
    where
      no_more : (back : List Stamped) → [] ≡ text_of tasks functions counters back → back ≡ []
      no_more [] e = refl
      no_more (e ∷ back) h = absurd (not_empty e (text_of tasks functions counters back) (h ∙ append_assoc (counted_line tasks functions counters e) (10 ∷ []) (text_of tasks functions counters back)))

  -- one with a bad line shows none
  pub bad_shows_none : (text : List ℕ) (k : ℕ) (events : List Stamped) → IsFirstBad tasks functions counters text k → IsEventText tasks functions counters events text → ⊥
  bad_shows_none text k events b h =
      let f = text_front b.front events b.rest b.lines h.lines (sym b.is ∙ h.is) in
      by f.0 f.2 f.3
    where
      by : (back : List Stamped) → b.rest ≡ text_of tasks functions counters back → All (HasLine tasks functions counters) back → ⊥
      by [] e l = b.more e
      by (x ∷ back) e l =
          b.bad x (text_of tasks functions counters back) (All-head (HasLine tasks functions counters) x back l)
          (e ∙ append_assoc (counted_line tasks functions counters x) (10 ∷ []) (text_of tasks functions counters back))

  -- two bad lines of one text
  bad_front : (front others : List Stamped) (rest more : List ℕ) → All (HasLine tasks functions counters) front → All (HasLine tasks functions counters) others
      → text_of tasks functions counters front ++ rest ≡ text_of tasks functions counters others ++ more → HasNoFirstLine tasks functions counters rest → HasNoFirstLine tasks functions counters more → length front ≡ length others
  bad_front [] [] rest more h k same bad worse = refl
  bad_front [] (f ∷ others) rest more h k same bad worse =
      absurd (bad f (text_of tasks functions counters others ++ more) (All-head (HasLine tasks functions counters) f others k) (same ∙ text_cons f others more))
  bad_front (e ∷ front) [] rest more h k same bad worse =
      absurd (worse e (text_of tasks functions counters front ++ rest) (All-head (HasLine tasks functions counters) e front h) (sym same ∙ text_cons e front rest))
  bad_front (e ∷ front) (f ∷ others) rest more h k same bad worse =
      let he = All-head (HasLine tasks functions counters) e front h in
      let hf = All-head (HasLine tasks functions counters) f others k in
      let both = sym (text_cons e front rest) ∙ (same ∙ text_cons f others more) in
      let tail = sym (other_lines e (text_of tasks functions counters front ++ rest) he) ∙ (ap (behind 10) both ∙ other_lines f (text_of tasks functions counters others ++ more) hf) in
      ap (λ n. suc n) (bad_front front others rest more (All-tail (HasLine tasks functions counters) e front h) (All-tail (HasLine tasks functions counters) f others k) tail bad worse)

  pub one_bad : (text : List ℕ) (j k : ℕ) → IsFirstBad tasks functions counters text j → IsFirstBad tasks functions counters text k → j ≡ k
  one_bad text j k a b = a.line ∙ (ap (λ n. n + 1) (bad_front a.front b.front a.rest b.rest a.lines b.lines (sym a.is ∙ b.is) a.bad b.bad) ∙ sym b.line)

  -- ---- what the program finds at a line

  -- where the first LF stands
  record HasEnd (text : List ℕ) : Type 0 where
    line : List ℕ
    others : List ℕ
    is : text ≡ line ++ 10 ∷ others
    lacks_it : is_byte_of 10 line ≡ false

  has_end : (text : List ℕ) → is_byte_of 10 text ≡ true → HasEnd text
  unfolding is_byte_of
  has_end [] h = absurd (false≢true h)
  has_end (b ∷ text) h = by (has_end text) (b == 10) refl h
    where
      by : (list_any (λ x. x == 10) text ≡ true → HasEnd text) → (v : Bool) → (b == 10) ≡ v → (v || list_any (λ x. x == 10) text) ≡ true → HasEnd (b ∷ text)
      by more true e h = record { line = []; others = text; is = ap (λ (x : ℕ). x ∷ text) (eqb-true b 10 e); lacks_it = refl }
      by more false e h =
          let rest = more h in
          record {
            line = b ∷ rest.line;
            others = rest.others;
            is = ap (λ (l : List ℕ). b ∷ l) rest.is;
            lacks_it = ap (λ v. v || list_any (λ x. x == 10) rest.line) e ∙ rest.lacks_it;
          }

  has_split : (text : List ℕ) → is_byte_of 10 text ≡ true → text ≡ before 10 text ++ 10 ∷ behind 10 text
  has_split text h =
      let end = has_end text h in
      let front = ap (before 10) end.is ∙ before_is 10 end.line end.others refl end.lacks_it in
      let back = ap (behind 10) end.is ∙ behind_is 10 end.line end.others refl end.lacks_it in
      end.is ∙ (ap (λ (l : List ℕ). l ++ 10 ∷ end.others) (sym front) ∙ ap (λ (l : List ℕ). before 10 text ++ 10 ∷ l) (sym back))

  pub begins : (text : List ℕ) (e : Stamped) → is_byte_of 10 text ≡ true → IsLineOf tasks functions counters e (before 10 text) → HasFirstLine tasks functions counters text e
  begins text e h is =
      let P : List ℕ → Type 0 = λ t. IsLineOf tasks functions counters e t in
      record { line = subst P is.prints is; is = has_split text h ∙ ap (λ (l : List ℕ). l ++ 10 ∷ behind 10 text) is.prints }

  pub begins_no_end : (text : List ℕ) → is_byte_of 10 text ≡ false → HasNoFirstLine tasks functions counters text
  begins_no_end text no_end e after h same =
      true≢false (sym (has_here 10 (counted_line tasks functions counters e) after refl) ∙ (sym (ap (is_byte_of 10) same) ∙ no_end))

  pub begins_none : (text : List ℕ) → ((e : Stamped) → IsLineOf tasks functions counters e (before 10 text) → ⊥) → HasNoFirstLine tasks functions counters text
  begins_none text no_event e after h same =
      let P : List ℕ → Type 0 = λ t. IsLineOf tasks functions counters e t in
      no_event e (subst P (sym (ap (before 10) same ∙ first_line e after h)) h)

text_more : (tasks functions counters : List (List ℕ)) (events : List Stamped) (e : Stamped) (rest : List ℕ)
    → text_of tasks functions counters (events ++ e ∷ []) ++ rest ≡ text_of tasks functions counters events ++ (counted_line tasks functions counters e ++ 10 ∷ rest)
text_more tasks functions counters [] e rest =
    append_assoc (counted_line tasks functions counters e ++ 10 ∷ []) [] rest ∙ append_assoc (counted_line tasks functions counters e) (10 ∷ []) rest
text_more tasks functions counters (f ∷ events) e rest =
    append_assoc (counted_line tasks functions counters f ++ 10 ∷ []) (text_of tasks functions counters (events ++ e ∷ [])) rest
    ∙ (ap (λ (l : List ℕ). (counted_line tasks functions counters f ++ 10 ∷ []) ++ l) (text_more tasks functions counters events e rest)
    ∙ sym (append_assoc (counted_line tasks functions counters f ++ 10 ∷ []) (text_of tasks functions counters events) (counted_line tasks functions counters e ++ 10 ∷ rest)))

all_more : (P : Stamped → Type 0) (events : List Stamped) (e : Stamped) → All P events → P e → All P (events ++ e ∷ [])
all_more P [] e h p = All-cons P e [] p h
all_more P (f ∷ events) e h p = All-cons P f (events ++ e ∷ []) (All-head P f events h) (all_more P events e (All-tail P f events h) p)

module _ (tasks functions counters : List (List ℕ)) (text : List ℕ) where
  pub reads_nothing : HasRead tasks functions counters text [] text
  reads_nothing = record { lines = λ k d l. absurd (omega (arith, l)); is = refl; few = omega arith }

  pub reads_more : (events : List Stamped) (rest : List ℕ) (e : Stamped) → HasRead tasks functions counters text events rest → HasFirstLine tasks functions counters rest e
      → HasRead tasks functions counters text (events ++ e ∷ []) (behind 10 rest)
  reads_more events rest e r b = record {
    lines = all_more (HasLine tasks functions counters) events e r.lines b.line;
    is = r.is ∙ (ap (λ (l : List ℕ). text_of tasks functions counters events ++ l) b.is ∙ sym (text_more tasks functions counters events e (behind 10 rest)));
    few =
        let few = r.few in
        let more = length-append events (e ∷ []) in
        let cut = ap length b.is in
        let parts = length-append (counted_line tasks functions counters e) (10 ∷ behind 10 rest) in
        omega (arith, few, more, cut, parts);
  }

  pub reads_shorter : (rest : List ℕ) (e : Stamped) → HasFirstLine tasks functions counters rest e → length (behind 10 rest) < length rest
  reads_shorter rest e b =
      let cut = ap length b.is in let parts = length-append (counted_line tasks functions counters e) (10 ∷ behind 10 rest) in omega (arith, cut, parts)

  pub reads_bad : (events : List Stamped) (rest : List ℕ) → HasRead tasks functions counters text events rest → rest ≢ [] → HasNoFirstLine tasks functions counters rest
      → IsFirstBad tasks functions counters text (length events + 1)
  reads_bad events rest r more none = record { front = events; rest = rest; lines = r.lines; is = r.is; line = refl; more = more; bad = none }

  pub reads_all : (events : List Stamped) (rest : List ℕ) → HasRead tasks functions counters text events rest → rest ≡ [] → IsEventText tasks functions counters events text
  reads_all events rest r none = record {
    lines = r.lines;
    is = r.is ∙ (ap (λ (l : List ℕ). text_of tasks functions counters events ++ l) none ∙ append-nil (text_of tasks functions counters events));
  }

-- ---- what reading a line says

module _ (tasks functions counters : List (List ℕ)) (named : AreNames tasks) (called : AreNames functions) (counted : AreNames counters) (apart : AreNamesApart counters tasks) (text line : List ℕ) where
  abbrev ReadsLine : Option Stamped → Type 0
  ReadsLine result = (e : Stamped) → (result ≡ Some e) ↔ IsLineOf tasks functions counters e line

  pub reads_some : (result : Option Stamped) → is_byte_of 10 text ≡ true → line ≡ before 10 text → ReadsLine result → IfSome result (λ e. HasFirstLine tasks functions counters text e)
  reads_some None ended is reads = tt
  reads_some (Some e) ended is reads =
      let P : List ℕ → Type 0 = λ t. IsLineOf tasks functions counters e t in
      begins tasks functions counters named called counted apart text e ended (subst P is ((reads e).0 refl))

  pub reads_none : (result : Option Stamped) → line ≡ before 10 text → ReadsLine result → IfNone result (HasNoFirstLine tasks functions counters text)
  reads_none (Some e) is reads = tt
  reads_none None is reads =
      begins_none tasks functions counters named called counted apart text
      (λ e h. let P : List ℕ → Type 0 = λ t. IsLineOf tasks functions counters e t in none_some e ((reads e).1 (subst P (sym is) h)))
    where
      none_some : (e : Stamped) → None ≡ Some e → ⊥
      none_some e h = cc
