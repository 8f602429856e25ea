-- Bytes that came, and then more.
use Rattle.std.proofs.Common.{◌≡◌, ◌∙◌, ℕ, List, [], ◌++◌, refl, sym, ap, subst, append_assoc}
use Rattle.std.specs.Prelude.{Option, None, Some}
use Rattle.debug_session.specs.Input.{Coming, Gives}

pub gives_nothing : (now : Option Coming) → Gives now now []
gives_nothing None = refl
gives_nothing (Some coming) = (coming.bytes, refl, refl)

pub gives_both : (a b c : Option Coming) (xs ys : List ℕ) → Gives a b xs → Gives b c ys → Gives a c (xs ++ ys)
gives_both None b c xs ys g h = untold b c ys g h where
  untold : (b c : Option Coming) (ys : List ℕ) → b ≡ None → Gives b c ys → c ≡ None
  untold b c ys e h = let P : Option Coming → Type 0 = λ x. Gives x c ys in subst P e h
gives_both (Some a) b c xs ys (rest, is, to) h =
    let P : Option Coming → Type 0 = λ x. Gives x c ys in
    let (last, more, from) = subst P to h in
    (last, is ∙ ap (λ (zs : List ℕ). xs ++ zs) more ∙ sym (append_assoc xs ys last), from)
