-- Each value of the table is that of an attribute of an object.
use Rattle.std.proofs.Common.{◌≡◌, ℕ, suc, ◌+◌, ◌<◌, List, [], ◌∷◌, length, refl, ap, ◌∙◌, arith}
use Rattle.std.specs.Prelude.{All, get_or}
use Rattle.std.specs.List.{flat_map}
use Rattle.std.proofs.lemmas.List.Elements.{All-append, All-cons, All-map, All-nil, Contains-get_or}
use Rattle.sloth_base.specs.declared.config.Config.{Config}
use Rattle.sloth_region.specs.declared.region.Map.{Map}
use Rattle.rv32_instr.specs.Memory.{Memory}
use Rattle.osek_scheduler.specs.State.{System}
use Rattle.orti_text.specs.Attributes.{attributes, object_names}
use Rattle.orti_text.specs.OrtiTable.{named_value, numbered_object, numbered_objects, objects_of_kind, present_kinds}
use Rattle.orti_text.specs.Tables.{Object}
use Rattle.orti_text.specs.Values.{attribute_value}
use Rattle.orti_text.specs.declared.attributes.Kind.{Kind}
use Rattle.debug_view.specs.RightValues.{AreRight, IsRight, IsRightValue}

-- what holds of each list that a function gives holds of all of them together
all_lists : {X Y : Type 0} (P : Y → Type 0) (f : X → List Y) (xs : List X) → ((x : X) → All P (f x)) → All P (flat_map f xs)
all_lists P f [] h = All-nil P
all_lists P f (x ∷ xs) h = All-append P (f x) (flat_map f xs) (h x) (all_lists P f xs h)

module _ (memory : Memory) (config : Config) (m : Map) (s : System)
    (right : (k : Kind) (n : ℕ) → n < length (object_names config k) → All (λ a. IsRightValue memory config m s a n (attribute_value config m a n)) (attributes config k)) where
  -- the values of an object
  abbrev RightObject : Object → Type 0
  RightObject o = All (IsRight memory config m s o) o.values

  object_right : (k : Kind) (n : ℕ) (name : List ℕ) → n < length (object_names config k) → name ≡ get_or (object_names config k) n []
      → RightObject (numbered_object config m k n name)
  object_right k n name declared is =
      All-map (IsRight memory config m s (numbered_object config m k n name)) (named_value config m n) (attributes config k)
      (λ i d l.
      record {
        of_kind = k;
        number = n;
        shown = get_or (attributes config k) i d;
        declared = declared;
        kind_is = refl;
        object_is = is;
        among = Contains-get_or (attributes config k) i d l;
        name_is = refl;
        right = right k n declared i d l;
      })

  -- the objects from a number on
  objects_right : (k : Kind) (n : ℕ) (names : List (List ℕ))
      → ((i : ℕ) → i < length names → (n + i < length (object_names config k)) × (get_or names i [] ≡ get_or (object_names config k) (n + i) []))
      → All RightObject (numbered_objects config m k n names)
  objects_right k n [] h = All-nil RightObject
  objects_right k n (name ∷ names) h =
      let first = h 0 (omega arith) in
      let here : n + 0 ≡ n = omega arith in
      All-cons RightObject (numbered_object config m k n name) (numbered_objects config m k (n + 1) names)
      (object_right k n name (let l = first.0 in omega (arith, l)) (first.1 ∙ ap (λ j. get_or (object_names config k) j []) here))
      (objects_right k (n + 1) names
      (λ i l.
      let next = h (suc i) (omega (arith, l)) in
      let there : n + suc i ≡ n + 1 + i = omega arith in
      (let below = next.0 in omega (arith, below), next.1 ∙ ap (λ j. get_or (object_names config k) j []) there)))

  kind_right : (k : Kind) → All RightObject (objects_of_kind config m k)
  kind_right k = objects_right k 0 (object_names config k) (λ i l.
      let same : i ≡ 0 + i = omega arith in
      (omega (arith, l), ap (λ j. get_or (object_names config k) j []) same))

  pub table_right : AreRight memory config m s
  table_right = all_lists RightObject (objects_of_kind config m) (present_kinds config) kind_right
