-- What is kept in front of and behind each event is the order of all admits with no event between them.
use Rattle.std.proofs.Common.{◌≡◌, ◌∙◌, ℕ, List, [], ◌∷◌, ◌++◌, Bool, true, false, cond, map, refl, ap, subst, arith}
use Rattle.std.specs.Prelude.{All, IsTrue, Option}
use Rattle.std.proofs.lemmas.List.{map-append}
use Rattle.std.proofs.lemmas.List.Elements.{All-cons, All-head, All-tail}
use Rattle.sloth_base.specs.declared.service.Arrival.{Arrival}
use Rattle.sloth_base.specs.declared.service.Stamped.{Stamped}
use Rattle.osek_scheduler.specs.InTime.{is_admit, IsSubsequence, KeepsOrder}
use Rattle.trace_check.proofs.ScanOrder.{key_of, arrival_key, front_admits, IsOrderKeptBehind, IsOrderKept}
use Rattle.trace_check.proofs.Subsequences.{sub_tail, sub_front}

abbrev AreAdmits : List Stamped → Type 0
AreAdmits events = All (λ e. IsTrue (is_admit e)) events

-- what stands behind the admits in front
abbrev behind_admits : List Stamped → List Stamped
behind_admits [] = []
behind_admits (e ∷ events) = cond (is_admit e) (behind_admits events) (e ∷ events)

front_split : (events : List Stamped) → events ≡ front_admits events ++ behind_admits events
front_split [] = refl
front_split (e ∷ events) = by (front_split events) (is_admit e)
  where
    by : events ≡ front_admits events ++ behind_admits events → (c : Bool) → (e ∷ events) ≡ cond c (e ∷ front_admits events) [] ++ cond c (behind_admits events) (e ∷ events)
    by rest true = ap (λ (l : List Stamped). e ∷ l) rest
    by rest false = refl

front_are_admits : (events : List Stamped) → AreAdmits (front_admits events)
front_are_admits [] = λ k d h. absurd (omega (arith, h))
front_are_admits (e ∷ events) = by (front_are_admits events) (is_admit e) refl
  where
    by : AreAdmits (front_admits events) → (c : Bool) → is_admit e ≡ c → AreAdmits (cond c (e ∷ front_admits events) [])
    by rest true is = All-cons (λ (x : Stamped). IsTrue (is_admit x)) e (front_admits events) is rest
    by rest false is = λ k d h. absurd (omega (arith, h))

-- a group of admits in front is part of all that stand there
front_group : (group behind : List Stamped) → AreAdmits group → front_admits (group ++ behind) ≡ group ++ front_admits behind
front_group [] behind h = refl
front_group (e ∷ group) behind h =
    ap (λ c. cond c (e ∷ front_admits (group ++ behind)) []) (All-head (λ (x : Stamped). IsTrue (is_admit x)) e group h)
    ∙ ap (λ (l : List Stamped). e ∷ l) (front_group group behind (All-tail (λ (x : Stamped). IsTrue (is_admit x)) e group h))

module _ (arrivals : List Arrival) where
  order_tail : (e : Stamped) (events : List Stamped) → KeepsOrder arrivals (e ∷ events) → KeepsOrder arrivals events
  order_tail e events h before group behind is admits = h (e ∷ before) group behind (ap (λ (l : List Stamped). e ∷ l) is) admits

  in_front : (events : List Stamped) → KeepsOrder arrivals events → IsSubsequence (map key_of (front_admits events)) (map arrival_key arrivals)
  in_front events h = h [] (front_admits events) (behind_admits events) (front_split events) (front_are_admits events)

  all_behind : (events : List Stamped) → KeepsOrder arrivals events → IsOrderKeptBehind arrivals events
  all_behind [] h = tt
  all_behind (e ∷ events) h = (by (is_admit e), all_behind events (order_tail e events h))
    where
      by : (c : Bool) → cond c (Unit {0}) (IsSubsequence (map key_of (front_admits events)) (map arrival_key arrivals))
      by true = tt
      by false = in_front events (order_tail e events h)

  pub keeps_from_order : (events : List Stamped) → KeepsOrder arrivals events → IsOrderKept arrivals arrivals events
  keeps_from_order events h = record { front = in_front events h; behind = all_behind events h }

  keeps_tail : (e : Stamped) (events : List Stamped) → IsOrderKept arrivals arrivals (e ∷ events) → IsOrderKept arrivals arrivals events
  keeps_tail e events k = record { front = by (is_admit e) k.front k.behind.0; behind = k.behind.1 }
    where
      by : (c : Bool) → IsSubsequence (map key_of (cond c (e ∷ front_admits events) [])) (map arrival_key arrivals)
          → cond c (Unit {0}) (IsSubsequence (map key_of (front_admits events)) (map arrival_key arrivals))
          → IsSubsequence (map key_of (front_admits events)) (map arrival_key arrivals)
      by true front behind = sub_tail (key_of e) (map key_of (front_admits events)) (map arrival_key arrivals) front
      by false front behind = behind

  order_at : (before group behind : List Stamped) → AreAdmits group → IsOrderKept arrivals arrivals (before ++ (group ++ behind))
      → IsSubsequence (map key_of group) (map arrival_key arrivals)
  order_at [] group behind admits k =
      let P : List Stamped → Type 0 = λ l. IsSubsequence (map key_of l) (map arrival_key arrivals) in
      let Q : List (ℕ × Option ℕ) → Type 0 = λ l. IsSubsequence l (map arrival_key arrivals) in
      sub_front (map key_of group) (map key_of (front_admits behind)) (map arrival_key arrivals)
      (subst Q (map-append key_of group (front_admits behind)) (subst P (front_group group behind admits) k.front))
  order_at (e ∷ before) group behind admits k = order_at before group behind admits (keeps_tail e (before ++ (group ++ behind)) k)

  pub order_from_keeps : (events : List Stamped) → IsOrderKept arrivals arrivals events → KeepsOrder arrivals events
  order_from_keeps events k before group behind is admits =
      let P : List Stamped → Type 0 = λ l. IsOrderKept arrivals arrivals l in order_at before group behind admits (subst P is k)
