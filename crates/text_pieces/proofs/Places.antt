-- Places of names among lists of names.
use Rattle.std.proofs.Common.{◌≡◌, ◌∙◌, ⊎_elim, ℕ, zero, suc, take, ◌<◌, ◌≤◌, ◌+◌, Bool, true, false, cond, Some, None, Option, List, [], ◌∷◌, ◌++◌, length, get_or, refl, ap, sym, arith, true≢false}
use Rattle.std.specs.Prelude.{◌≢◌, ◌||◌, not, nat_lt, if◌then◌else◌, position, is_some}
use Rattle.std.specs.List.{AllPairs, list_any, position_or_len}
use Rattle.std.specs.Str.{bytes_eq}
use Rattle.std.proofs.lemmas.Bool.{cases_lt, lt-ltb, le-ltb}
use Rattle.std.proofs.lemmas.List.Sums.{position_or_len_is}
use Rattle.std.proofs.lemmas.Slice.Eq.{bytes_eq-Decides}

-- the place behind one more
abbrev pub further : Option ℕ → Option ℕ
further None = None
further (Some i) = Some (suc i)

pub bytes_eq-sym : (a b : List ℕ) → bytes_eq a b ≡ bytes_eq b a
bytes_eq-sym a b = by (bytes_eq a b) (bytes_eq b a) refl refl
  where
    by : (x y : Bool) → bytes_eq a b ≡ x → bytes_eq b a ≡ y → bytes_eq a b ≡ bytes_eq b a
    by true y p q = p ∙ sym ((bytes_eq-Decides b a).1 (sym ((bytes_eq-Decides a b).0 p)))
    by false true p q = absurd (true≢false (sym ((bytes_eq-Decides a b).1 (sym ((bytes_eq-Decides b a).0 q))) ∙ p))
    by false false p q = p ∙ sym q

lt_suc : (a b : ℕ) → nat_lt (1 + a) (suc b) ≡ nat_lt a b
lt_suc a b = ⊎_elim (λ h. let k : 1 + a < suc b = omega (arith, h) in lt-ltb (1 + a) (suc b) k ∙ sym (lt-ltb a b h)) (λ h. let k : suc b ≤ 1 + a = omega (arith, h) in le-ltb (1 + a) (suc b) k ∙ sym (le-ltb a b h)) (cases_lt a b)

further_some : (n : ℕ) (b : Bool) → cond b (Some (1 + n)) None ≡ further (cond b (Some n) None)
further_some n true = let e : 1 + n ≡ suc n = omega arith in ap Some e
further_some n false = refl

module _ {X : Type 0} (p : X → Bool) where
  pub position-cons : (x : X) (xs : List X) → position p (x ∷ xs) ≡ (if p x then Some 0 else further (position p xs))
  position-cons x xs = by (p x) refl
    where
      by : (b : Bool) → p x ≡ b → position p (x ∷ xs) ≡ (if p x then Some 0 else further (position p xs))
      by true e =
          let n = position_or_len p xs in
          let z : nat_lt 0 (suc (length xs)) ≡ true = lt-ltb 0 (suc (length xs)) (omega arith) in
          ap (λ b. cond (nat_lt (cond (not b) (1 + n) 0) (suc (length xs))) (Some (cond (not b) (1 + n) 0)) None) e ∙ ap (λ b. cond b (Some 0) None) z
          ∙ sym (ap (λ b. cond b (Some 0) (further (position p xs))) e)
      by false e =
          let n = position_or_len p xs in
          ap (λ b. cond (nat_lt (cond (not b) (1 + n) 0) (suc (length xs))) (Some (cond (not b) (1 + n) 0)) None) e ∙ ap (λ b. cond b (Some (1 + n)) None) (lt_suc n (length xs))
          ∙ further_some n (nat_lt n (length xs)) ∙ sym (ap (λ b. cond b (Some 0) (further (position p xs))) e)

  pub position-any : (xs : List X) → is_some (position p xs) ≡ list_any p xs
  position-any [] = refl
  position-any (x ∷ xs) = ap is_some (position-cons x xs) ∙ by (p x) (position-any xs)
    where
      by : (b : Bool) → is_some (position p xs) ≡ list_any p xs → is_some (if b then Some 0 else further (position p xs)) ≡ (b || list_any p xs)
      by true e = refl
      by false e = any (position p xs) ∙ e
        where
          any : (o : Option ℕ) → is_some (further o) ≡ is_some o
          any None = refl
          any (Some i) = refl

-- A name at the end has a number of its own only where no earlier one is equal to it.
first_or_last : (a b : Bool) (o : Option ℕ) (n : ℕ) → (if a then Some 0 else further (if is_some o then o else if b then Some n else o))
    ≡ (if is_some (if a then Some 0 else further o) then (if a then Some 0 else further o) else if b then Some (suc n) else (if a then Some 0 else further o))
first_or_last true b o n = refl
first_or_last false true None n = refl
first_or_last false false None n = refl
first_or_last false b (Some i) n = refl

module _ {X : Type 0} (p : X → Bool) (x : X) where
  pub position_push : (xs : List X) → position p (xs ++ x ∷ []) ≡ (if is_some (position p xs) then position p xs else if p x then Some (length xs) else position p xs)
  position_push [] = position-cons p x [] ∙ refl
  position_push (y ∷ xs) =
      position-cons p y (xs ++ x ∷ []) ∙ ap (λ (o : Option ℕ). cond (p y) (Some 0) (further o)) (position_push xs) ∙ first_or_last (p y) (p x) (position p xs) (length xs)
      ∙ sym (ap (λ (o : Option ℕ). if is_some o then o else if p x then Some (suc (length xs)) else o) (position-cons p y xs))

abbrev pub below : Option ℕ → ℕ → Bool
below None k = false
below (Some i) k = nat_lt i k

below_none : (o : Option ℕ) → below o 0 ≡ false
below_none None = refl
below_none (Some i) = le-ltb i 0 (omega arith)

below_further : (o : Option ℕ) (k : ℕ) → below (further o) (suc k) ≡ below o k
below_further None k = refl
below_further (Some i) k = ⊎_elim (λ h. let l : suc i < suc k = omega (arith, h) in lt-ltb (suc i) (suc k) l ∙ sym (lt-ltb i k h)) (λ h. let l : suc k ≤ suc i = omega (arith, h) in le-ltb (suc i) (suc k) l ∙ sym (le-ltb i k h)) (cases_lt i k)

-- one of the first k passes where the first of all that passes is among them
pub any_take : {X : Type 0} (p : X → Bool) (k : ℕ) (xs : List X) → list_any p (take k xs) ≡ below (position p xs) k
any_take p k [] = by k
  where
    by : (k : ℕ) → list_any p (take k []) ≡ false
    by zero = refl
    by (suc k) = refl
any_take p zero (x ∷ xs) = sym (below_none (position p (x ∷ xs)))
any_take p (suc k) (x ∷ xs) = by (p x) (any_take p k xs) ∙ sym (ap (λ o. below o (suc k)) (position-cons p x xs))
  where
    by : (b : Bool) → list_any p (take k xs) ≡ below (position p xs) k → (b || list_any p (take k xs)) ≡ below (if b then Some 0 else further (position p xs)) (suc k)
    by true e = sym (lt-ltb 0 (suc k) (omega arith))
    by false e = e ∙ sym (below_further (position p xs) k)

-- Where names differ, the place of a name is the one at which it stands.
pub position_at : (names : List (List ℕ)) → AllPairs (λ one other. one ≢ other) names → (i : ℕ) (d : List ℕ) → i < length names
    → position (bytes_eq (get_or names i d)) names ≡ Some i
position_at names differ i d h =
    let name = get_or names i d in
    let at =
    position_or_len_is (bytes_eq name) names i d (omega (arith, h)) (λ k l. earlier k l (bytes_eq name (get_or names k d)) refl)
    (λ l. (bytes_eq-Decides name name).1 refl)
    in
    ap (λ n. cond (nat_lt n (length names)) (Some n) None) at ∙ ap (λ b. cond b (Some i) None) (lt-ltb i (length names) h)
  where
    earlier : (k : ℕ) → k < i → (b : Bool) → bytes_eq (get_or names i d) (get_or names k d) ≡ b → bytes_eq (get_or names i d) (get_or names k d) ≡ false
    earlier k l true e = absurd (differ k i d l h (sym ((bytes_eq-Decides (get_or names i d) (get_or names k d)).0 e)))
    earlier k l false e = e
