-- Places of names among lists of names.
use Rattle.std.proofs.Common.{◌≡◌, ◌∙◌, ℕ, ◌<◌, Bool, true, false, cond, Some, None, Option, List, [], ◌∷◌, length, get_or, slice_get, refl, ap, sym, arith}
use Rattle.std.specs.Prelude.{◌||◌, ◌&&◌, if◌then◌else◌, position, map, filter, find, is_some}
use Rattle.std.specs.List.{list_any}
use Rattle.std.specs.Str.{bytes_eq}
use Rattle.std.proofs.lemmas.Option.{slice_get-get_or}
use Rattle.std.proofs.lemmas.List.{length-map}
use Rattle.std.proofs.lemmas.List.Quantifiers.{position-Some}
use Rattle.sloth_base.specs.declared.config.EventDecl.{EventDecl}
use Rattle.oil_parse.specs.declared.tree.OilObject.{OilObject}
use Rattle.oil_table.specs.Objects.{is_of_kind, is_declaration, is_declared, names_of}
use Rattle.oil_table.specs.Events.{mask_given, mask_named}
use Rattle.text_pieces.proofs.Places.{further, bytes_eq-sym, position-cons, position-any}

abbrev pub place_in : {X : Type 0} → List X → Option ℕ → Option X
place_in xs None = None
place_in xs (Some i) = slice_get xs i

further_place : {X : Type 0} (x : X) (xs : List X) (o : Option ℕ) → place_in (x ∷ xs) (further o) ≡ place_in xs o
further_place x xs None = refl
further_place x xs (Some i) = refl

-- the event of a name is the one at the place of the name
pub event_at : (word : List ℕ) (events : List EventDecl) → find (λ (e : EventDecl). bytes_eq e.name word) events ≡ place_in events (position (bytes_eq word) (map (λ (e : EventDecl). e.name) events))
event_at word [] = refl
event_at word (e ∷ events) =
    by (bytes_eq word e.name) (bytes_eq-sym e.name word) (event_at word events) ∙ sym (ap (place_in (e ∷ events)) (position-cons (bytes_eq word) e.name (map (λ (x : EventDecl). x.name) events)))
  where
    by : (b : Bool) → bytes_eq e.name word ≡ b → find (λ (x : EventDecl). bytes_eq x.name word) events ≡ place_in events (position (bytes_eq word) (map (λ (x : EventDecl). x.name) events))
        → find (λ (x : EventDecl). bytes_eq x.name word) (e ∷ events) ≡ place_in (e ∷ events) (if b then Some 0 else further (position (bytes_eq word) (map (λ (x : EventDecl). x.name) events)))
    by true q again = ap (λ b. cond b (Some e) (find (λ (x : EventDecl). bytes_eq x.name word) events)) q
    by false q again =
        ap (λ b. cond b (Some e) (find (λ (x : EventDecl). bytes_eq x.name word) events)) q ∙ again ∙ sym (further_place e events (position (bytes_eq word) (map (λ (x : EventDecl). x.name) events)))

pub mask_some : (word : List ℕ) (events : List EventDecl) (names : List (List ℕ)) (i : ℕ) (d : EventDecl) → names ≡ map (λ (e : EventDecl). e.name) events → position (bytes_eq word) names ≡ Some i → i < length events
    → (get_or events i d).mask ≡ mask_named events word
mask_some word events names i d n e h =
    sym (ap mask_given (event_at word events ∙ ap (place_in events) (ap (position (bytes_eq word)) (sym n) ∙ e) ∙ slice_get-get_or events i d h))

pub mask_none : (word : List ℕ) (events : List EventDecl) (names : List (List ℕ)) → names ≡ map (λ (e : EventDecl). e.name) events → position (bytes_eq word) names ≡ None → 0 ≡ mask_named events word
mask_none word events names n e = sym (ap mask_given (event_at word events ∙ ap (place_in events) (ap (position (bytes_eq word)) (sym n) ∙ e)))

-- the object of a kind and a name is the one at the place of the name among those of the kind
pub declared_at : (kind word : List ℕ) (objects : List OilObject)
    → find (is_declaration kind word) objects ≡ place_in (filter (is_of_kind kind) objects) (position (bytes_eq word) (names_of kind objects))
declared_at kind word [] = refl
declared_at kind word (o ∷ objects) = by (bytes_eq o.kind kind) refl (bytes_eq word o.name) (bytes_eq-sym o.name word) (declared_at kind word objects)
  where
    kept : List OilObject
    kept = filter (is_of_kind kind) objects

    names : List (List ℕ)
    names = names_of kind objects

    by : (b : Bool) → bytes_eq o.kind kind ≡ b → (c : Bool) → bytes_eq o.name word ≡ c → find (is_declaration kind word) objects ≡ place_in kept (position (bytes_eq word) names)
        → find (is_declaration kind word) (o ∷ objects) ≡ place_in (filter (is_of_kind kind) (o ∷ objects)) (position (bytes_eq word) (names_of kind (o ∷ objects)))
    by false e c q again = rw e again
    by true e c q again =
        rw e (ap (λ b. cond b (Some o) (find (is_declaration kind word) objects)) q ∙ place c again ∙ sym (ap (place_in (o ∷ kept)) (position-cons (bytes_eq word) o.name names
        ∙ ap (λ b. cond b (Some 0) (further (position (bytes_eq word) names))) (bytes_eq-sym word o.name ∙ q))))
      where
        place : (c : Bool) → find (is_declaration kind word) objects ≡ place_in kept (position (bytes_eq word) names)
            → cond c (Some o) (find (is_declaration kind word) objects) ≡ place_in (o ∷ kept) (cond c (Some 0) (further (position (bytes_eq word) names)))
        place true again = refl
        place false again = again ∙ sym (further_place o kept (position (bytes_eq word) names))

any_named : (kind word : List ℕ) (objects : List OilObject) → list_any (bytes_eq word) (names_of kind objects) ≡ is_declared objects kind word
any_named kind word [] = refl
any_named kind word (o ∷ objects) = by (bytes_eq o.kind kind) refl (any_named kind word objects)
  where
    by : (b : Bool) → bytes_eq o.kind kind ≡ b → list_any (bytes_eq word) (names_of kind objects) ≡ is_declared objects kind word → list_any (bytes_eq word) (names_of kind (o ∷ objects)) ≡ is_declared (o ∷ objects) kind word
    by true e again =
        ap (λ b. list_any (bytes_eq word) (map (λ (x : OilObject). x.name) (cond b (o ∷ filter (is_of_kind kind) objects) (filter (is_of_kind kind) objects)))) e
        ∙ ap (λ b. b || list_any (bytes_eq word) (names_of kind objects)) (bytes_eq-sym word o.name) ∙ ap (λ b. bytes_eq o.name word || b) again
        ∙ sym (ap (λ b. (b && bytes_eq o.name word) || is_declared objects kind word) e)
    by false e again =
        ap (λ b. list_any (bytes_eq word) (map (λ (x : OilObject). x.name) (cond b (o ∷ filter (is_of_kind kind) objects) (filter (is_of_kind kind) objects)))) e ∙ again
        ∙ sym (ap (λ b. (b && bytes_eq o.name word) || is_declared objects kind word) e)

-- a name has a number where there is an object of the kind and the name
pub numbered : (kind word : List ℕ) (objects : List OilObject) (names : List (List ℕ)) → names ≡ names_of kind objects → is_some (position (bytes_eq word) names) ≡ is_declared objects kind word
numbered kind word objects names e =
    ap (λ (x : List (List ℕ)). is_some (position (bytes_eq word) x)) e ∙ position-any (bytes_eq word) (names_of kind objects) ∙ any_named kind word objects

pub within : (word : List ℕ) (events : List EventDecl) (names : List (List ℕ)) (i : ℕ) → names ≡ map (λ (e : EventDecl). e.name) events → position (bytes_eq word) names ≡ Some i → i < length events
within word events names i n e =
    let l : length names ≡ length events = ap length n ∙ length-map events (λ (x : EventDecl). x.name) in
    let h = (position-Some (bytes_eq word) names i [] e).0 in
    omega (arith, l, h)
