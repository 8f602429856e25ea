-- What is read as a packet stands so among the bytes.
use Rattle.std.proofs.Common.{◌≡◌, ℕ, ◌+◌, ◌%◌, ◌<◌, ◌≤◌, ◌∙◌, ◌⊎◌, inl, inr, ⊎_elim, Bool, true, false, length, List, [], ◌∷◌, ◌++◌, sum, refl, sym, ap, subst, arith, append_assoc, append-nil, add_assoc}
use Rattle.std.proofs.Math.Nat.{mod-add-mod}
use Rattle.std.specs.Prelude.{not, ◌&&◌, ◌==◌, if◌then◌else◌, nat_le}
use Rattle.std.proofs.lemmas.Bool.{eqb-true, leb-true, leb-false}
use Rattle.debug_session.specs.declared.session.Place.{Place}
use Rattle.debug_session.specs.declared.session.Place.TheVariants as places
use Rattle.debug_session.specs.declared.session.Event.TheVariants as events
use Rattle.debug_session.specs.Framing.{checksum}
use Rattle.debug_session.specs.Messages.{EndSo, is_inside}
use Rattle.debug_session.specs.Reading.{Reading, fresh, opened, data_with, after_inside, reading_at, reading_after, reading_of, is_told, event_at, event_after}
use Rattle.debug_session.proofs.RoundTrip.{sum-cons}

-- behind a mark stand data that were read, and then a tail
record IsOpen (done : List ℕ) (reading : Reading) (tail : List ℕ) : Type 0 where
  before : List ℕ
  all : List ℕ
  is : done ≡ before ++ 36 ∷ (all ++ tail)
  kept : (reading.content ≡ all) ⊎ (16384 < length reading.content)
  total : reading.sum ≡ checksum all
  inside : is_inside all ≡ true

-- what was read, by the place
abbrev StandsAt : Place → List ℕ → Reading → Type 0
StandsAt places.Outside done reading = Unit {0}
StandsAt places.Inside done reading = IsOpen done reading []
StandsAt places.Behind done reading = IsOpen done reading (35 ∷ [])
StandsAt (places.Half first) done reading = IsOpen done reading (35 ∷ first ∷ [])

abbrev Stands : List ℕ → Reading → Type 0
Stands done reading = StandsAt reading.place done reading

-- a byte more in a list
longer : (before all tail done : List ℕ) (b : ℕ) → done ≡ before ++ 36 ∷ (all ++ tail) → done ++ b ∷ [] ≡ before ++ 36 ∷ (all ++ (tail ++ b ∷ []))
longer before all tail done b is =
    ap (λ (xs : List ℕ). xs ++ b ∷ []) is ∙ append_assoc before (36 ∷ (all ++ tail)) (b ∷ [])
    ∙ ap (λ (xs : List ℕ). before ++ 36 ∷ xs) (append_assoc all tail (b ∷ []))

opens : (done : List ℕ) (b : ℕ) → b ≡ 36 → Stands (done ++ b ∷ []) opened
opens done b e = record {
  before = done;
  all = [];
  is = ap (λ n. done ++ n ∷ []) e;
  kept = inl refl;
  total = refl;
  inside = refl;
}

sum-last : (xs : List ℕ) (b : ℕ) → sum (xs ++ b ∷ []) ≡ sum xs + b
sum-last [] b = sum-cons b [] ∙ omega arith
sum-last (x ∷ xs) b = sum-cons x (xs ++ b ∷ []) ∙ ap (λ n. x + n) (sum-last xs b) ∙ sym (add_assoc x (sum xs) b) ∙ ap (λ n. n + b) (sym (sum-cons x xs))

inside-last : (xs : List ℕ) (b : ℕ) → is_inside xs ≡ true → (b == 35) ≡ false → (b == 36) ≡ false → is_inside (xs ++ b ∷ []) ≡ true
inside-last [] b h e f = rw (e, f) refl
inside-last (x ∷ xs) b h e f = by (not (x == 35) && not (x == 36)) h (λ k. inside-last xs b k e f) where
  by : (t : Bool) → (t && is_inside xs) ≡ true → (is_inside xs ≡ true → is_inside (xs ++ b ∷ []) ≡ true) → (t && is_inside (xs ++ b ∷ [])) ≡ true
  by true k more = more k
  by false k more = absurd cc

-- data with a byte more
kept_more : (content all : List ℕ) (b : ℕ) → (content ≡ all) ⊎ (16384 < length content) → (data_with content b ≡ all ++ b ∷ []) ⊎ (16384 < length (data_with content b))
kept_more content all b h = by (nat_le (length content) 16384) refl h where
  by : (t : Bool) → nat_le (length content) 16384 ≡ t → (content ≡ all) ⊎ (16384 < length content)
      → ((if t then content ++ b ∷ [] else content) ≡ all ++ b ∷ []) ⊎ (16384 < length (if t then content ++ b ∷ [] else content))
  by true e (inl same) = inl (ap (λ (xs : List ℕ). xs ++ b ∷ []) same)
  by true e (inr long) = absurd (omega (arith, long, leb-true (length content) 16384 e))
  by false e k = inr (omega (arith, leb-false (length content) 16384 e))

grows : (done : List ℕ) (reading : Reading) (b : ℕ) → (b == 35) ≡ false → (b == 36) ≡ false → IsOpen done reading []
    → IsOpen (done ++ b ∷ []) (record { place = places.Inside; content = data_with reading.content b; sum = (reading.sum + b) % 256 }) []
grows done reading b e f h = record {
  before = h.before;
  all = h.all ++ b ∷ [];
  is = longer h.before h.all [] done b h.is ∙ ap (λ (xs : List ℕ). h.before ++ 36 ∷ xs) (sym (append-nil (h.all ++ b ∷ [])));
  kept = kept_more reading.content h.all b h.kept;
  total = ap (λ n. (n + b) % 256) h.total ∙ mod-add-mod (sum h.all) 256 b ∙ ap (λ n. n % 256) (sym (sum-last h.all b));
  inside = inside-last h.all b h.inside e f;
}

step_inside : (done : List ℕ) (reading : Reading) (b : ℕ) → IsOpen done reading [] → Stands (done ++ b ∷ []) (after_inside reading b)
step_inside done reading b h = by (b == 36) (b == 35) refl refl where
  by : (s t : Bool) → (b == 36) ≡ s → (b == 35) ≡ t
      → Stands (done ++ b ∷ []) (if s then opened else if t then record { place = places.Behind; content = reading.content; sum = reading.sum }
      else record { place = places.Inside; content = data_with reading.content b; sum = (reading.sum + b) % 256 })
  by true t e f = opens done b (eqb-true b 36 e)
  by false true e f = record {
    before = h.before;
    all = h.all;
    is = longer h.before h.all [] done b h.is ∙ ap (λ n. h.before ++ 36 ∷ (h.all ++ n ∷ [])) (eqb-true b 35 f);
    kept = h.kept;
    total = h.total;
    inside = h.inside;
  }
  by false false e f = grows done reading b f e h

step_at : (p : Place) (done : List ℕ) (reading : Reading) (b : ℕ) → reading.place ≡ p → StandsAt p done reading → Stands (done ++ b ∷ []) (reading_at p reading b)
step_at places.Outside done reading b at h = by (b == 36) refl where
  by : (s : Bool) → (b == 36) ≡ s → Stands (done ++ b ∷ []) (if s then opened else reading)
  by true e = opens done b (eqb-true b 36 e)
  by false e = subst (λ (p : Place). StandsAt p (done ++ b ∷ []) reading) (sym at) tt
step_at places.Inside done reading b at h = step_inside done reading b h
step_at places.Behind done reading b at h = record {
  before = h.before;
  all = h.all;
  is = longer h.before h.all (35 ∷ []) done b h.is;
  kept = h.kept;
  total = h.total;
  inside = h.inside;
}
step_at (places.Half first) done reading b at h = tt

stand : (bytes done : List ℕ) (reading : Reading) → Stands done reading → Stands (done ++ bytes) (reading_of reading bytes)
stand [] done reading h = subst (λ (xs : List ℕ). Stands xs reading) (sym (append-nil done)) h
stand (b ∷ bytes) done reading h =
    subst (λ (xs : List ℕ). Stands xs (reading_of reading (b ∷ bytes))) (append_assoc done (b ∷ []) bytes)
    (stand bytes (done ++ b ∷ []) (reading_after reading b) (step_at reading.place done reading b refl h))

-- whether the sum was told, as the event says
ends : (p : Place) (done : List ℕ) (reading : Reading) (b : ℕ) (told : Bool) → length reading.content ≤ 16384 → StandsAt p done reading
    → event_at p reading b ≡ (if told then events.Packet else events.Wrong) → EndSo (done ++ b ∷ []) reading.content told
ends places.Outside done reading b told short h e = absurd (by (b == 3) (b == 45) told e) where
  by : (s t told : Bool) → (if s then events.Interrupt else if t then events.Again else events.Nothing) ≡ (if told then events.Packet else events.Wrong) → ⊥
  by true t true e = cc
  by true t false e = cc
  by false true true e = cc
  by false true false e = cc
  by false false true e = cc
  by false false false e = cc
ends places.Inside done reading b true short h e = absurd cc
ends places.Inside done reading b false short h e = absurd cc
ends places.Behind done reading b true short h e = absurd cc
ends places.Behind done reading b false short h e = absurd cc
ends (places.Half first) done reading b told short h e =
    ⊎_elim (λ same. record {
      first = first;
      second = b;
      stands = record {
        before = h.before;
        ends = longer h.before h.all (35 ∷ first ∷ []) done b h.is ∙ ap (λ (xs : List ℕ). h.before ++ 36 ∷ (xs ++ 35 ∷ first ∷ b ∷ [])) (sym same);
        inside = ap is_inside same ∙ h.inside;
      };
      sum = ap (λ (xs : List ℕ). is_told first b (checksum xs)) same ∙ ap (λ n. is_told first b n) (sym h.total) ∙ by (is_told first b reading.sum) told e;
    }) (λ long. absurd (omega (arith, long, short))) h.kept
  where
    by : (s told : Bool) → (if s then events.Packet else events.Wrong) ≡ (if told then events.Packet else events.Wrong) → s ≡ told
    by true true e = refl
    by true false e = absurd cc
    by false true e = absurd cc
    by false false e = refl

all_stand : (bytes : List ℕ) → Stands bytes (reading_of fresh bytes)
all_stand bytes = stand bytes [] fresh tt

pub packet_stands : (bytes : List ℕ) (byte : ℕ) → event_after (reading_of fresh bytes) byte ≡ events.Packet → length (reading_of fresh bytes).content ≤ 16384
    → EndSo (bytes ++ byte ∷ []) (reading_of fresh bytes).content true
packet_stands bytes byte e short = ends (reading_of fresh bytes).place bytes (reading_of fresh bytes) byte true short (all_stand bytes) e

pub wrong_stands : (bytes : List ℕ) (byte : ℕ) → event_after (reading_of fresh bytes) byte ≡ events.Wrong → length (reading_of fresh bytes).content ≤ 16384
    → EndSo (bytes ++ byte ∷ []) (reading_of fresh bytes).content false
wrong_stands bytes byte e short = ends (reading_of fresh bytes).place bytes (reading_of fresh bytes) byte false short (all_stand bytes) e
