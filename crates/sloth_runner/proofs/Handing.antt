-- Finished events handed out and counted, one after the other.
use Rattle.std.proofs.Common.{◌≡◌, ◌∙◌, ⊎_elim, ℕ, suc, ◌+◌, ◌<◌, ◌^◌, List, [], ◌∷◌, ◌++◌, length, get_or, set, append_assoc, append-nil, arith, refl, sym, ap, subst}
use Rattle.std.specs.Prelude.{slice_index}
use Rattle.std.specs.List.{All}
use Rattle.std.proofs.lemmas.List.{get_or-set_same, get_or-set_other, length-set}
use Rattle.std.proofs.lemmas.Bool.Decides.{eqb_tells}
use Rattle.sloth_base.specs.declared.numbers.Step.{Step}
use Rattle.sloth_base.specs.declared.service.Stamped.{Stamped}
use Rattle.observe.specs.declared.observing.Observer.{Observer}
use Rattle.observe.specs.Progress.{HasProgress, remaining, view_of, arrivals_of, expected_count}
use Rattle.sloth_runner.specs.Moments.{IsHandedOut}
use Rattle.sloth_runner.proofs.RunInvariants.{IsHandingOut}

pub handing-init : (o : Observer) → IsHandingOut o o
handing-init o = record { view = refl; arrivals = refl; expected = refl; fed = λ steps events f. (events, f, refl) }

-- one event more was handed out
pub handing-more : (o0 o p : Observer) (e : Stamped) → IsHandingOut o0 o → remaining o ≡ e ∷ remaining p → view_of p ≡ view_of o → arrivals_of p ≡ arrivals_of o
    → expected_count p ≡ expected_count o → ((steps : List Step) (events : List Stamped) → HasProgress o steps events → HasProgress p steps (events ++ e ∷ [])) → IsHandingOut o0 p
handing-more o0 o p e h head view arrivals expected fed = record {
  view = view ∙ h.view;
  arrivals = arrivals ∙ h.arrivals;
  expected = expected ∙ h.expected;
  fed = λ steps events f. let q = h.fed steps events f in
      (q.0 ++ e ∷ [], fed steps q.0 q.1, append_assoc q.0 (e ∷ []) (remaining p) ∙ ap (λ es. q.0 ++ es) (sym head) ∙ q.2);
}

-- all were handed out
pub handed-out : (o0 o : Observer) → IsHandingOut o0 o → remaining o ≡ [] → IsHandedOut o0 o
handed-out o0 o h none steps events f =
    let q = h.fed steps events f in
    let same : q.0 ≡ events ++ remaining o0 = sym (append-nil q.0) ∙ ap (λ es. q.0 ++ es) (sym none) ∙ q.2 in
    let P : List Stamped → Type 0 = λ es. HasProgress o steps es in
    subst P same q.1

-- one number grows by one, and one event less is left
room-more : (counts : List ℕ) (k more most : ℕ) → k < length counts → All (λ number. number + suc more < most) counts
    → All (λ number. number + more < most) (set counts k (slice_index counts k + 1))
room-more counts k more most below h i d l =
    let v = slice_index counts k + 1 in
    let size = length-set counts k v in
    let P : ℕ → Type 0 = λ number. number + more < most in
    let here = h k 0 below in
    ⊎_elim
    (λ yes. subst P (sym (ap (λ j. get_or (set counts k v) j d) (sym yes.1) ∙ get_or-set_same counts k v d below)) (omega (arith, here)))
    (λ no. let there = h i d (omega (arith, l, size)) in subst P (sym (get_or-set_other counts k i v d (λ q. no.1 (sym q)))) (omega (arith, there)))
    (eqb_tells k i)

pub next-room : (counts : List ℕ) (k : ℕ) (before after : List Stamped) (e : Stamped) → k < length counts → before ≡ e ∷ after
    → All (λ number. number + length before < 2 ^ 32) counts → All (λ number. number + length after < 2 ^ 32) (set counts k (slice_index counts k + 1))
next-room counts k before after e below head h =
    let P : List Stamped → Type 0 = λ es. All (λ number. number + length es < 2 ^ 32) counts in
    room-more counts k (length after) (2 ^ 32) below (subst P head h)
