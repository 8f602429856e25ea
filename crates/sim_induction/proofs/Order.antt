-- Admits with no other event between them keep the order of the arrivals.
use Rattle.std.proofs.Common.{◌≡◌, ℕ, suc, List, [], ◌∷◌, ◌++◌, refl, sym, ap, ◌∙◌, subst, arith, Bool, true, false, cond, inl, inr, ⊎_elim, filter, Option, Some}
use Rattle.std.specs.Prelude.{map, All, IsTrue, ◌⊎◌}
use Rattle.std.proofs.lemmas.List.{map-append}
use Rattle.std.proofs.lemmas.List.Elements.{All-cons}
use Rattle.sloth_base.specs.declared.service.Arrival.{Arrival}
use Rattle.sloth_base.specs.declared.service.Stamped.{Stamped}
use Rattle.osek_scheduler.specs.InTime.{is_admit, IsSubsequence, KeepsOrder}
use Rattle.sloth_base.specs.Events.{admitted_line}
use Rattle.sim_induction.specs.Admits.{admit_event}
use Rattle.sim_induction.proofs.Lines.{line_back}
use Rattle.std.specs.List.{AllByRecursion}

abbrev pub Key : Type 0
Key = ℕ × Option ℕ

abbrev pub key : Stamped → Key
key e = (e.stamp.at, admitted_line e.event)

abbrev pub keys : List Arrival → List Key
keys arrivals = map (λ a. (a.at, Some a.line)) arrivals

cons_head : {x y : Stamped} {a b : List Stamped} → x ∷ a ≡ y ∷ b → x ≡ y
cons_head e = cc

cons_tail : {x y : Stamped} {a b : List Stamped} → x ∷ a ≡ y ∷ b → a ≡ b
cons_tail e = cc

nil_cons : {x : Stamped} {a : List Stamped} → [] ≡ x ∷ a → ⊥
nil_cons e = cc

-- ---- subsequences

skips : (g xs : List Key) (x : Key) → IsSubsequence g xs → IsSubsequence g (x ∷ xs)
skips [] xs x h = tt
skips (y ∷ g) xs x h = inr h

skips_all : (g xs ys : List Key) → IsSubsequence g ys → IsSubsequence g (xs ++ ys)
skips_all g [] ys h = h
skips_all g (x ∷ xs) ys h = skips g (xs ++ ys) x (skips_all g xs ys h)

subsequence-append : (f g xs ys : List Key) → IsSubsequence f xs → IsSubsequence g ys → IsSubsequence (f ++ g) (xs ++ ys)
subsequence-append [] g xs ys h k = skips_all g xs ys k
subsequence-append (x ∷ f) g [] ys h k = absurd h
subsequence-append (x ∷ f) g (y ∷ xs) ys (inl h) k = inl (h.0, subsequence-append f g xs ys h.1 k)
subsequence-append (x ∷ f) g (y ∷ xs) ys (inr h) k = inr (subsequence-append (x ∷ f) g xs ys h k)

front_of : (g behind : List Key) → IsSubsequence g (g ++ behind)
front_of [] behind = tt
front_of (x ∷ g) behind = inl (refl, front_of g behind)

inside_of : (before g behind : List Key) → IsSubsequence g (before ++ (g ++ behind))
inside_of before g behind = skips_all g before (g ++ behind) (front_of g behind)

under : (b : Bool) (g : List Key) (x : Arrival) (u xs : List Arrival) → ((f : List Key) → IsSubsequence f (keys u) → IsSubsequence f (keys xs)) → IsSubsequence g (keys (cond b (x ∷ u) u)) → IsSubsequence g (keys (x ∷ xs))
under false g x u xs f h = skips g (keys xs) (x.at, Some x.line) (f g h)
under true [] x u xs f h = tt
under true (y ∷ g) x u xs f (inl h) = inl (h.0, f g h.1)
under true (y ∷ g) x u xs f (inr h) = inr (f (y ∷ g) h)

pub of_filter : (p : Arrival → Bool) (xs : List Arrival) (g : List Key) → IsSubsequence g (keys (filter p xs)) → IsSubsequence g (keys xs)
of_filter p [] g h = h
of_filter p (x ∷ xs) g h = under (p x) g x (filter p xs) xs (of_filter p xs) h

-- ---- groups of admits

abbrev pub AllAdmits : List Stamped → Type 0
AllAdmits group = All (λ e. IsTrue (is_admit e)) group

rest_admits : (x : Stamped) (group : List Stamped) → AllAdmits (x ∷ group) → AllAdmits group
rest_admits x group h k d lt = h (suc k) d (omega arith)

pub record Split (a b group : List Stamped) : Type 0 where
  pub one : List Stamped
  pub two : List Stamped
  pub is : group ≡ one ++ two
  pub before_one : List Stamped
  pub behind_one : List Stamped
  pub in_one : a ≡ before_one ++ (one ++ behind_one)
  pub before_two : List Stamped
  pub behind_two : List Stamped
  pub in_two : b ≡ before_two ++ (two ++ behind_two)

split_front : (a b group behind : List Stamped) → a ++ b ≡ group ++ behind → (one two behind_one behind_two : List Stamped) × (group ≡ one ++ two) × (a ≡ one ++ behind_one) × (b ≡ two ++ behind_two)
split_front [] b group behind e = ([], group, [], behind, refl, refl, e)
split_front (x ∷ a) b [] behind e = ([], [], x ∷ a, b, refl, refl, refl)
split_front (x ∷ a) b (y ∷ group) behind e =
    let h : x ≡ y = cons_head e in
    let r = split_front a b group behind (cons_tail e) in
    (y ∷ r.0, r.1, r.2, r.3, ap (λ u. y ∷ u) r.4, ap (λ z. z ∷ a) h ∙ ap (λ u. y ∷ u) r.5, r.6)

split : (a b before group behind : List Stamped) → a ++ b ≡ before ++ (group ++ behind) → Split a b group
split [] b before group behind e = record { one = []; two = group; is = refl; before_one = []; behind_one = []; in_one = refl; before_two = before; behind_two = behind; in_two = e }
split (x ∷ a) b [] group behind e =
    let r = split_front (x ∷ a) b group behind e in
    record { one = r.0; two = r.1; is = r.4; before_one = []; behind_one = r.2; in_one = r.5; before_two = []; behind_two = r.3; in_two = r.6 }
split (x ∷ a) b (y ∷ before) group behind e =
    let r = split a b before group behind (cons_tail e) in
    record { one = r.one; two = r.two; is = r.is; before_one = x ∷ r.before_one; behind_one = r.behind_one; in_one = ap (λ u. x ∷ u) r.in_one; before_two = r.before_two; behind_two = r.behind_two; in_two = r.in_two }

all_front : (a b : List Stamped) → AllAdmits (a ++ b) → AllAdmits a × AllAdmits b
all_front [] b h = ((λ k d lt. absurd (omega arith)), h)
all_front (x ∷ a) b h =
    let r = all_front a b (rest_admits x (a ++ b) h) in
    (All-cons (λ e. IsTrue (is_admit e)) x a (h 0 x (omega arith)) r.0, r.1)

pub orders-append : (xs ys : List Arrival) (a b : List Stamped) → KeepsOrder xs a → KeepsOrder ys b → KeepsOrder (xs ++ ys) (a ++ b)
orders-append xs ys a b h k before group behind e admits =
    let r = split a b before group behind e in
    let q = all_front r.one r.two (subst AllAdmits r.is admits) in
    subst (λ u. IsSubsequence u (keys (xs ++ ys))) (sym (ap (map key) r.is ∙ map-append key r.one r.two))
    (subst (IsSubsequence (map key r.one ++ map key r.two)) (sym (map-append (λ (a : Arrival). (a.at, Some a.line)) xs ys))
    (subsequence-append (map key r.one) (map key r.two) (keys xs) (keys ys) (h r.before_one r.one r.behind_one r.in_one q.0) (k r.before_two r.two r.behind_two r.in_two q.1)))

keys_of : (xs : List Arrival) → map key (map admit_event xs) ≡ keys xs
keys_of [] = refl
keys_of (x ∷ xs) = ap (λ o. (x.at, o) ∷ map key (map admit_event xs)) (line_back x.line) ∙ ap (λ u. (x.at, Some x.line) ∷ u) (keys_of xs)

pub admits_order : (xs : List Arrival) → KeepsOrder xs (map admit_event xs)
admits_order xs before group behind e admits =
    subst (IsSubsequence (map key group)) (sym (map-append key before (group ++ behind) ∙ ap (λ u. map key before ++ u) (map-append key group behind)) ∙ sym (ap (map key) e) ∙ keys_of xs)
    (inside_of (map key before) (map key group) (map key behind))

no_first : (x : Stamped) (group : List Stamped) → is_admit x ≡ false → AllAdmits (x ∷ group) → ⊥
no_first x group o h = let z : is_admit x ≡ true = h 0 x (omega arith) in cc

-- none of these is an admit
pub others_order : (es : List Stamped) → AllByRecursion (λ e. is_admit e ≡ false) es → KeepsOrder [] es
others_order [] h [] [] behind e admits = tt
others_order [] h [] (x ∷ group) behind e admits = absurd (nil_cons e)
others_order [] h (y ∷ before) group behind e admits = absurd (nil_cons e)
others_order (x ∷ es) h (y ∷ before) group behind e admits = others_order es h.1 before group behind (cons_tail e) admits
others_order (x ∷ es) h [] [] behind e admits = tt
others_order (x ∷ es) h [] (y ∷ group) behind e admits =
    let q : x ≡ y = cons_head e in absurd (no_first y group (subst (λ v. is_admit v ≡ false) q h.0) admits)

-- a group of admits is before or behind another event
front_group : (a c : List Stamped) (e : Stamped) (group behind : List Stamped) → is_admit e ≡ false → a ++ e ∷ c ≡ group ++ behind → AllAdmits group → (more : List Stamped) × (a ≡ group ++ more)
front_group a c e [] behind o q h = (a, refl)
front_group [] c e (y ∷ group) behind o q h = absurd (no_first y group (subst (λ v. is_admit v ≡ false) (cons_head q) o) h)
front_group (x ∷ a) c e (y ∷ group) behind o q h =
    let r = front_group a c e group behind o (cons_tail q) (rest_admits y group h) in (r.0, ap (λ z. z ∷ a) (cons_head q) ∙ ap (λ u. y ∷ u) r.1)

group_side : (a c : List Stamped) (e : Stamped) (before group behind : List Stamped) → is_admit e ≡ false → a ++ e ∷ c ≡ before ++ (group ++ behind) → AllAdmits group
    → ((front more : List Stamped) × (a ≡ front ++ (group ++ more))) ⊎ ((front more : List Stamped) × (c ≡ front ++ (group ++ more)))
group_side a c e [] group behind o q h = let r = front_group a c e group behind o q h in inl ([], r.0, r.1)
group_side [] c e (y ∷ before) group behind o q h = inr (before, behind, cons_tail q)
group_side (x ∷ a) c e (y ∷ before) group behind o q h = longer x (group_side a c e before group behind o (cons_tail q) h)
  where
    longer : (x : Stamped) → ((front more : List Stamped) × (a ≡ front ++ (group ++ more))) ⊎ ((front more : List Stamped) × (c ≡ front ++ (group ++ more)))
        → ((front more : List Stamped) × (x ∷ a ≡ front ++ (group ++ more))) ⊎ ((front more : List Stamped) × (c ≡ front ++ (group ++ more)))
    longer x (inl r) = inl (x ∷ r.0, r.1, ap (λ u. x ∷ u) r.2)
    longer x (inr r) = inr r

-- arrivals parted by a test, with another event between the parts
pub parted_order : (p q : Arrival → Bool) (xs : List Arrival) (e : Stamped) → is_admit e ≡ false → KeepsOrder xs (map admit_event (filter p xs) ++ (e ∷ map admit_event (filter q xs)))
parted_order p q xs e o before group behind is admits =
    ⊎_elim
    (λ (r : (front more : List Stamped) × (map admit_event (filter p xs) ≡ front ++ (group ++ more))). of_filter p xs (map key group) (admits_order (filter p xs) r.0 group r.1 r.2 admits))
    (λ (r : (front more : List Stamped) × (map admit_event (filter q xs) ≡ front ++ (group ++ more))). of_filter q xs (map key group) (admits_order (filter q xs) r.0 group r.1 r.2 admits))
    (group_side (map admit_event (filter p xs)) (map admit_event (filter q xs)) e before group behind o is admits)

pub order_within : (p : Arrival → Bool) (xs : List Arrival) (es : List Stamped) → KeepsOrder (filter p xs) es → KeepsOrder xs es
order_within p xs es h before group behind e admits = of_filter p xs (map key group) (h before group behind e admits)
