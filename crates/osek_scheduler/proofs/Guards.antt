-- The next state behind tests: what each decides, and which state it is.
use Rattle.std.proofs.Common.{◌≡◌, ◌&&◌, Bool, true, Option, Some, sym, ap}
use Rattle.std.specs.Bool.{Decides}
use Rattle.std.proofs.lemmas.Bool.Decides.{Decides-and}
use Rattle.osek_scheduler.specs.State.{System}
use Rattle.osek_scheduler.specs.Meaning.{if_true}
use Rattle.osek_scheduler.proofs.Tests.{some_one, if_true_some, if_true_is}

pub Decides-itself : (b : Bool) → Decides b (b ≡ true)
Decides-itself b = (λ e. e, λ e. e)

-- this state is found exactly where R holds
abbrev pub Finds : (next : System) → Option System → Type 0 → Type 0
Finds next o R = (o ≡ Some next → R) × (R → o ≡ Some next)

-- state x behind one test, or more
module _ {next x : System} where
  pub by_one : {b : Bool} {P : Type 0} → Decides b P → Finds next (if_true b (Some x)) (P × (next ≡ x))
  by_one {b} p = (
    λ e. let h = if_true_some b (Some x) next e in (p.0 h.0, sym (some_one x next h.1)),
    λ h. if_true_is b (Some x) next (p.1 h.0) (ap Some (sym h.1)),
  )

  pub by_two : {b c : Bool} {P Q : Type 0} → Decides b P → Decides c Q → Finds next (if_true (b && c) (Some x)) (P × Q × (next ≡ x))
  by_two {b} {c} p q =
      let all = by_one (Decides-and b c p q) in
      (λ e. let h = all.0 e in (h.0.0, h.0.1, h.1), λ h. all.1 ((h.0, h.1), h.2))

  pub by_three : {b c d : Bool} {P Q R : Type 0} → Decides b P → Decides c Q → Decides d R
      → Finds next (if_true (b && (c && d)) (Some x)) (P × Q × R × (next ≡ x))
  by_three {b} {c} {d} p q r =
      let all = by_two p (Decides-and c d q r) in
      (λ e. let h = all.0 e in (h.0, h.1.0, h.1.1, h.2), λ h. all.1 (h.0, (h.1, h.2), h.3))

  pub by_four : {b c d f : Bool} {P Q R S : Type 0} → Decides b P → Decides c Q → Decides d R → Decides f S
      → Finds next (if_true (b && (c && (d && f))) (Some x)) (P × Q × R × S × (next ≡ x))
  by_four {b} {c} {d} {f} p q r t =
      let all = by_three p q (Decides-and d f r t) in
      (λ e. let h = all.0 e in (h.0, h.1, h.2.0, h.2.1, h.3), λ h. all.1 (h.0, h.1, (h.2, h.3), h.4))
