-- Faults that are told under names.
use Rattle.std.proofs.Common.{◌≡◌, ◌∙◌, ◌<◌, ◌+◌, ◌⊎◌, inl, inr, ⊎_elim, ℕ, suc, zero, Bool, true, false, List, [], ◌∷◌, ◌++◌, length, get_or, take, refl, ap, sym, subst, append-nil, append_assoc, Option, None, arith, eqb-true, eq-eqb, true≢false}
use Rattle.std.specs.Prelude.{All, not, ◌&&◌, ◌==◌}
use Rattle.std.specs.List.{Contains}
use Rattle.std.specs.List.Sorted.{IsPermutation}
use Rattle.std.proofs.Math.Seq.{take-length}
use Rattle.std.proofs.lemmas.Bool.{and_parts}
use Rattle.std.proofs.lemmas.List.{length_push, take_more}
use Rattle.std.proofs.lemmas.List.Elements.{All-nil, All-append, All-push, All-get_or, All-contains, Contains-get_or}
use Rattle.std.proofs.lemmas.List.Sorted.{All-permutation}
use Rattle.sloth_base.specs.declared.refusal.Code.{Code}
use Rattle.sloth_base.specs.declared.refusal.Code.TheVariants as code
use Rattle.stage_faults.specs.declared.notes.Note.{Note}
use Rattle.stage_faults.specs.Told.{IsTold, TellSame, Rise, AreInOrder, note_order}
use Rattle.stage_faults.proofs.Telling.{none_told, told_left, told_right, told_cases}
use Rattle.stage_faults.proofs.Places.{one_note, same_line, same_code_at, tell_on, tell_permuted}
use Rattle.why_text.specs.NamedFaults.{is_same_place, StandsAt, AddsGroup, AddsSome, NamesAll}

own_of : (f : Bool) → not f ≡ true → f ≡ false
own_of true e = absurd (true≢false (sym e))
own_of false e = refl

at_place : (fault note : Note) → StandsAt fault note → note_order note ≡ note_order fault
at_place fault note h = eqb-true (note_order note) (note_order fault) (and_parts (note_order note == note_order fault) (not note.follows) h).0

at_own : (fault note : Note) → StandsAt fault note → note.follows ≡ false
at_own fault note h = own_of note.follows (and_parts (note_order note == note_order fault) (not note.follows) h).1

pub stands_itself : (fault : Note) → fault.follows ≡ false → StandsAt fault fault
stands_itself fault own = ap (λ b. b && not fault.follows) (eq-eqb (note_order fault) (note_order fault) refl) ∙ ap not own

pub rise_own : (place : ℕ) (xs : List Note) (i : ℕ) (d : Note) → i < length xs → Rise place xs → (get_or xs i d).follows ≡ false
rise_own place [] i d lt h = absurd (omega (arith, lt))
rise_own place (x ∷ xs) zero d lt h = h.1
rise_own place (x ∷ xs) (suc i) d lt h = rise_own (note_order x + 1) xs i d (omega (arith, lt)) h.2

-- ---- a group

pub no_group : (fault : Note) (old : List Note) → AddsSome fault false old old
no_group fault old = record { more = []; are = sym (append-nil old); some = λ e. absurd (true≢false (sym e)); stand = All-nil (StandsAt fault) }

pub group_more : (fault note : Note) (found : Bool) (old mid new : List Note) → AddsSome fault found old mid → StandsAt fault note → new ≡ mid ++ note ∷ [] → AddsSome fault true old new
group_more fault note found old mid new g h e = record {
  more = g.more ++ note ∷ [];
  are = e ∙ ap (λ xs. xs ++ note ∷ []) g.are ∙ append_assoc old g.more (note ∷ []);
  some = λ t. let n = length_push g.more note in omega (arith, n);
  stand = All-push (StandsAt fault) g.more note g.stand h;
}

pub group_found : (fault : Note) (found : Bool) (old new : List Note) → AddsSome fault found old new → found ≡ true → AddsGroup fault old new
group_found fault found old new g t = record { more = g.more; are = g.are; some = g.some t; stand = g.stand }

pub group_itself : (fault : Note) (found : Bool) (old mid new : List Note) → AddsSome fault found old mid → StandsAt fault fault → new ≡ mid ++ fault ∷ [] → AddsGroup fault old new
group_itself fault found old mid new g h e = group_found fault true old new (group_more fault fault found old mid new g h e) refl

-- ---- all groups

group_to : (fault : Note) (old new : List Note) → AddsGroup fault old new → (line : ℕ) (code : Code) → IsTold (fault ∷ []) line code → IsTold new line code
group_to fault old new g line code t =
    let x = get_or g.more 0 fault in
    let h = All-get_or (StandsAt fault) g.more 0 fault g.some g.stand in
    let p = at_place fault x h in
    let e = one_note fault t.note t.stands in
    subst (λ (xs : List Note). IsTold xs line code) (sym g.are)
    (told_right old g.more line code (record {
      note = x;
      stands = Contains-get_or g.more 0 fault g.some;
      own = at_own fault x h;
      line_is = same_line x fault p ∙ (ap (λ (y : Note). y.line) e ∙ t.line_is);
      code_is = same_code_at x fault p ∙ (ap (λ (y : Note). y.code) e ∙ t.code_is);
    }))

group_from : (fault : Note) (old new : List Note) → fault.follows ≡ false → AddsGroup fault old new → (line : ℕ) (code : Code) → IsTold new line code
    → IsTold old line code ⊎ IsTold (fault ∷ []) line code
group_from fault old new own g line code t =
    ⊎_elim (λ h. inl h) (λ h. inr (itself h)) (told_cases old g.more line code (subst (λ (xs : List Note). IsTold xs line code) g.are t))
  where
    itself : IsTold g.more line code → IsTold (fault ∷ []) line code
    itself h =
        let p = at_place fault h.note (All-contains (StandsAt fault) g.more h.note g.stand h.stands) in
        record {
          note = fault;
          stands = Contains-get_or (fault ∷ []) 0 fault (omega arith);
          own = own;
          line_is = sym (same_line h.note fault p) ∙ h.line_is;
          code_is = sym (same_code_at h.note fault p) ∙ h.code_is;
        }

names_push : (faults old new : List Note) (fault : Note) → fault.follows ≡ false → AddsGroup fault old new → NamesAll faults old → NamesAll (faults ++ fault ∷ []) new
names_push faults old new fault own g all = record {
  same = record {
    to = λ line code t. ⊎_elim
        (λ h. subst (λ (xs : List Note). IsTold xs line code) (sym g.are) (told_left old g.more line code (all.same.to line code h)))
        (λ h. group_to fault old new g line code h) (told_cases faults (fault ∷ []) line code t);
    from = λ line code t. ⊎_elim
        (λ h. told_left faults (fault ∷ []) line code (all.same.from line code h))
        (λ h. told_right faults (fault ∷ []) line code h) (group_from fault old new own g line code t);
  };
  own = subst (All (λ (note : Note). note.follows ≡ false)) (sym g.are)
      (All-append (λ (note : Note). note.follows ≡ false) old g.more all.own (λ i d lt. at_own fault (get_or g.more i d) (g.stand i d lt)));
}

pub names_none : NamesAll [] []
names_none = record { same = record { to = λ line code t. t; from = λ line code t. t }; own = All-nil (λ (note : Note). note.follows ≡ false) }

pub names_more : (xs : List Note) (i : ℕ) (d : Note) (old new : List Note) → i < length xs → AreInOrder xs → AddsGroup (get_or xs i d) old new
    → NamesAll (take i xs) old → NamesAll (take (i + 1) xs) new
names_more xs i d old new lt order g all =
    subst (λ (ys : List Note). NamesAll ys new) (sym (take_more xs i d lt)) (names_push (take i xs) old new (get_or xs i d) (rise_own 0 xs i d lt order) g all)

-- what a loop reads behind the last fault
abbrev pub no_note : Note
no_note = record { line = 0; code = code.O1; name = record { ref_ptr = (0, 0); now = [] }; first = None; follows = false; position = record { object = 0; attribute = 0 } }

pub names_end : (xs : List Note) (i : ℕ) (list : List Note) → i ≡ length xs → NamesAll (take i xs) list → NamesAll xs list
names_end xs i list e all = subst (λ (ys : List Note). NamesAll ys list) (ap (λ k. take k xs) e ∙ take-length xs) all

pub names_sorted : (faults list sorted : List Note) → NamesAll faults list → IsPermutation list sorted → NamesAll faults sorted
names_sorted faults list sorted all p = record {
  same = tell_on faults list sorted all.same (tell_permuted list sorted p);
  own = All-permutation (λ (note : Note). note.follows ≡ false) list sorted p all.own;
}
