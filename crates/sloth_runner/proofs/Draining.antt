-- The lines of finished events, put one after the other.
use Rattle.std.proofs.Common.{◌≡◌, ℕ, List, [], ◌∷◌, ◌++◌, Bool, refl, sym, ◌∙◌, ap, append_assoc, append-nil, subst}
use Rattle.sloth_base.specs.declared.image.Image.{Image}
use Rattle.sloth_base.specs.declared.numbers.Step.{Step}
use Rattle.sloth_base.specs.declared.service.Stamped.{Stamped}
use Rattle.sloth_io.specs.Sink.{Output, output_with, GainsPart}
use Rattle.sloth_io.proofs.Gains.{gains-gains, gains-nil, part-behind}
use Rattle.trace_text.specs.Texts.{text_after, ends_idle, is_idle}
use Rattle.trace_text.specs.declared.events.Form.{Form}
use Rattle.trace_text.specs.declared.events.Form.TheVariants as form
use Rattle.trace_text.proofs.Appends.{text_after-append}
use Rattle.observe.specs.declared.observing.Observer.{Observer}
use Rattle.observe.specs.Progress.{HasProgress, remaining, view_of, arrivals_of, expected_count}
use Rattle.sloth_runner.proofs.Handing.{handing-init, handing-more}
use Rattle.sloth_runner.proofs.RunInvariants.{IsDraining}

pub draining-init : (image : Image) (form : Form) (idle : Bool) (o : Observer) (t : Output) → IsDraining image form idle o idle o t t
draining-init image form idle o t = record {
  done = [];
  taken = sym (gains-nil t);
  text = refl;
  ends = refl;
  hands = handing-init o;
}

-- one more line was put, where its event needs one
pub draining-more : (image : Image) (form : Form) (idle : Bool) (o0 : Observer) (last : Bool) (o p : Observer) (t0 t u : Output) (e : Stamped)
    → IsDraining image form idle o0 last o t0 t → remaining o ≡ e ∷ remaining p → view_of p ≡ view_of o → arrivals_of p ≡ arrivals_of o → expected_count p ≡ expected_count o
    → ((steps : List Step) (events : List Stamped) → HasProgress o steps events → HasProgress p steps (events ++ e ∷ []))
    → u ≡ output_with t (text_after image form last (e ∷ []))
    → IsDraining image form idle o0 (is_idle e.event) p t0 u
draining-more image form idle o0 last o p t0 t u e d head view arrivals expected fed put =
    let line : List ℕ = text_after image form last (e ∷ []) in
    let split : text_after image form last (remaining o) ≡ line ++ text_after image form (is_idle e.event) (remaining p) =
    ap (text_after image form last) head ∙ text_after-append image form last (e ∷ []) (remaining p) in
    record {
      done = d.done ++ line;
      taken = put ∙ ap (λ x. output_with x line) d.taken ∙ gains-gains t0 d.done line;
      text = d.text ∙ ap (λ x. d.done ++ x) split ∙ sym (append_assoc d.done line (text_after image form (is_idle e.event) (remaining p)));
      ends = d.ends ∙ ap (ends_idle last) head;
      hands = handing-more o0 o p e d.hands head view arrivals expected fed;
    }

-- the front of what was due, where a line was put in part
pub draining-part : (image : Image) (form : Form) (idle : Bool) (o0 : Observer) (last : Bool) (o p : Observer) (t0 t u : Output) (e : Stamped)
    → IsDraining image form idle o0 last o t0 t → remaining o ≡ e ∷ remaining p → GainsPart t u (text_after image form last (e ∷ []))
    → GainsPart t0 u (text_after image form idle (remaining o0))
draining-part image form idle o0 last o p t0 t u e d head part =
    let line : List ℕ = text_after image form last (e ∷ []) in
    let split : text_after image form last (remaining o) ≡ line ++ text_after image form (is_idle e.event) (remaining p) =
    ap (text_after image form last) head ∙ text_after-append image form last (e ∷ []) (remaining p) in
    part-behind t0 t u d.done line (text_after image form (is_idle e.event) (remaining p)) _ d.taken part (d.text ∙ ap (λ x. d.done ++ x) split)

-- no text of no events
nothing-left : (image : Image) (form : Form) (last : Bool) → text_after image form last [] ≡ []
nothing-left image form.Counted last = refl
nothing-left image form.Bare last = refl

-- all was put
pub draining-done : (image : Image) (form : Form) (idle : Bool) (o0 : Observer) (last : Bool) (o : Observer) (t0 t : Output) → IsDraining image form idle o0 last o t0 t → remaining o ≡ []
    → t ≡ output_with t0 (text_after image form idle (remaining o0))
draining-done image form idle o0 last o t0 t d none =
    d.taken ∙ ap (output_with t0) (sym (d.text ∙ ap (λ es. d.done ++ text_after image form last es) none ∙ ap (λ x. d.done ++ x) (nothing-left image form last) ∙ append-nil d.done))

pub draining-ends : (image : Image) (form : Form) (idle : Bool) (o0 : Observer) (last : Bool) (o : Observer) (t0 t : Output) → IsDraining image form idle o0 last o t0 t → remaining o ≡ []
    → last ≡ ends_idle idle (remaining o0)
draining-ends image form idle o0 last o t0 t d none = sym (d.ends ∙ ap (ends_idle last) none)

-- one more line was put by a printer of the same image and form
pub draining-put : (image i : Image) (form f : Form) (idle : Bool) (o0 : Observer) (last next : Bool) (o p : Observer) (t0 t u : Output) (e : Stamped)
    → IsDraining image form idle o0 last o t0 t → i ≡ image → f ≡ form → next ≡ is_idle e.event
    → remaining o ≡ e ∷ remaining p → view_of p ≡ view_of o → arrivals_of p ≡ arrivals_of o → expected_count p ≡ expected_count o
    → ((steps : List Step) (events : List Stamped) → HasProgress o steps events → HasProgress p steps (events ++ e ∷ []))
    → u ≡ output_with t (text_after i f last (e ∷ []))
    → IsDraining image form idle o0 next p t0 u
draining-put image i form f idle o0 last next o p t0 t u e d ei ef en head view arrivals expected fed put =
    let P : Bool → Type 0 = λ b. IsDraining image form idle o0 b p t0 u in
    let same : u ≡ output_with t (text_after image form last (e ∷ [])) =
    put ∙ ap (λ x. output_with t (text_after x f last (e ∷ []))) ei ∙ ap (λ x. output_with t (text_after image x last (e ∷ []))) ef in
    subst P (sym en) (draining-more image form idle o0 last o p t0 t u e d head view arrivals expected fed same)

-- or in part
pub draining-broke : (image i : Image) (form f : Form) (idle : Bool) (o0 : Observer) (last : Bool) (o p : Observer) (t0 t u : Output) (e : Stamped)
    → IsDraining image form idle o0 last o t0 t → i ≡ image → f ≡ form → remaining o ≡ e ∷ remaining p → GainsPart t u (text_after i f last (e ∷ []))
    → GainsPart t0 u (text_after image form idle (remaining o0))
draining-broke image i form f idle o0 last o p t0 t u e d ei ef head part =
    let I : Image → Type 0 = λ x. GainsPart t u (text_after x f last (e ∷ [])) in
    let F : Form → Type 0 = λ x. GainsPart t u (text_after image x last (e ∷ [])) in
    draining-part image form idle o0 last o p t0 t u e d head (subst F ef (subst I ei part))
