-- The machine accepts each file, and builds its tree.
use Rattle.std.proofs.Common.{◌≡◌, ℕ, ◌<◌, List, [], ◌∷◌, ◌++◌, Option, Some, None, refl, ap, sym, ◌∙◌, subst, suc, inl, inr, append_assoc}
use Rattle.std.proofs.lemmas.Bool.{lt-ltb}
use Rattle.std.proofs.lemmas.List.{append-nil}
use Rattle.oil_parse.specs.Tokens.{Lexeme}
use Rattle.oil_parse.specs.declared.tree.OilAttr.{OilAttr}
use Rattle.oil_parse.specs.declared.machine.Key.TheVariants.{Cpu}
use Rattle.oil_parse.specs.declared.machine.Shape.{Shape}
use Rattle.oil_parse.specs.declared.machine.Shape.TheVariants.{Word, Open, Close, Equals}
use Rattle.oil_parse.specs.declared.machine.Construct.{Construct}
use Rattle.oil_parse.specs.declared.machine.Construct.TheVariants.{Head, Section, Object, Attr, File}
use Rattle.oil_parse.specs.declared.machine.Expect.{Expect}
use Rattle.oil_parse.specs.declared.machine.Expect.TheVariants.{Start, VersionIs, VersionText, Ending, Describing, Closing, Body, SectionName, SectionOpen, Inside, CpuWord, CpuName, CpuOpen, Objects, ObjectName, ObjectTail, Attrs, AttrIs, AttrValue, AttrTail, Done}
use Rattle.oil_parse.specs.Shapes.{shape, IsWordToken}
use Rattle.oil_parse.specs.declared.tree.OilObject.{OilObject}
use Rattle.oil_parse.specs.declared.tree.OilTree.{OilTree}
use Rattle.oil_parse.specs.Grammar.{IsValue, IsEnd, bare, described, IsAttrs, no_attr, attr, block, attr_of, IsOilObject, plain_object, block_object, IsObjects, no_object, object, IsBalanced, no_token, token_in, braces, IsImplementation, no_section, section, IsHead, head, IsFile, file}
use Rattle.oil_parse.specs.Steps.{next, behind}
use Rattle.oil_parse.specs.Machine.{nothing_built, PartialTree, partial_tree_after, whole_object, whole_construct}
use Rattle.oil_parse.proofs.Steps.{step, build}
use Rattle.oil_parse.proofs.Steps.{step_append}

build_append : (o : Option Expect) (b : PartialTree) (ts us : List Lexeme) → build o b (ts ++ us) ≡ build (step o ts) (build o b ts) us
build_append o b [] us = refl
build_append None b (t ∷ ts) [] = refl
build_append None b (t ∷ ts) (u ∷ us) = refl
build_append (Some e) b (t ∷ ts) us = build_append (next e (shape t)) (partial_tree_after e (shape t) t b) ts us

-- From the first state these tokens lead to the second, and build the second from the first.
pub record Takes (e : Expect) (b : PartialTree) (ts : List Lexeme) (e' : Expect) (b' : PartialTree) : Type 0 where
  pub leads : step (Some e) ts ≡ Some e'
  pub builds : build (Some e) b ts ≡ b'

none_takes : {e : Expect} {b : PartialTree} → Takes e b [] e b
none_takes = record { leads = refl; builds = refl }

takes_then : {e e2 : Expect} {b b2 : PartialTree} (e1 : Expect) (b1 : PartialTree) {ts us : List Lexeme} → Takes e b ts e1 b1 → Takes e1 b1 us e2 b2 → Takes e b (ts ++ us) e2 b2
takes_then {e} {b = b} e1 b1 {ts} {us} x y = record {
  leads = step_append (Some e) ts us ∙ (ap (λ o. step o us) x.leads ∙ y.leads);
  builds = build_append (Some e) b ts us ∙ (ap (λ o. build o (build (Some e) b ts) us) x.leads ∙ (ap (λ z. build (Some e1) z us) x.builds ∙ y.builds));
}

takes_by : {e e2 : Expect} {b b2 : PartialTree} {x : Shape} {t : Lexeme} {ts : List Lexeme} (e1 : Expect) → shape t ≡ x → next e x ≡ Some e1
    → Takes e1 (partial_tree_after e x t b) ts e2 b2 → Takes e b (t ∷ ts) e2 b2
takes_by {e} {b = b} {x = x} {t = t} {ts = ts} e1 s n a = record {
  leads = ap (λ y. step (next e y) ts) s ∙ (ap (λ o. step o ts) n ∙ a.leads);
  builds = ap (λ y. build (next e y) (partial_tree_after e y t b) ts) s ∙ (ap (λ o. build o (partial_tree_after e x t b) ts) n ∙ a.builds);
}

takes_to : {e e2 : Expect} {b b1 b2 : PartialTree} {ts : List Lexeme} → Takes e b ts e2 b1 → b1 ≡ b2 → Takes e b ts e2 b2
takes_to a q = record { leads = a.leads; builds = a.builds ∙ q }

end_takes : {f : List Lexeme} → IsEnd f → (p : Construct) (b : PartialTree) → Takes (Ending p) b f (behind p) (whole_construct p b)
unfolding next partial_tree_after
end_takes (bare s) p b = takes_by (behind p) s refl none_takes
end_takes (described c x s) p b = takes_by (Describing p) c refl (takes_by (Closing p) x refl (takes_by (behind p) s refl none_takes))

object_end_takes : {f : List Lexeme} → IsEnd f → (b : PartialTree) → Takes ObjectTail b f Objects (whole_object b)
unfolding next partial_tree_after
object_end_takes (bare s) b = takes_by Objects s refl none_takes
object_end_takes (described c x s) b = takes_by (Describing Object) c refl (takes_by (Closing Object) x refl (takes_by Objects s refl none_takes))

attr_end_takes : {f : List Lexeme} → IsEnd f → (d : ℕ) (b : PartialTree) → Takes (AttrTail d) b f (Attrs d) b
unfolding next partial_tree_after
attr_end_takes (bare s) d b = takes_by (Attrs d) s refl none_takes
attr_end_takes (described c x s) d b = takes_by (Describing (Attr d)) c refl (takes_by (Closing (Attr d)) x refl (takes_by (Attrs d) s refl none_takes))

abbrev named : PartialTree → Lexeme → PartialTree
named b n = record b { attr_name = n.bytes; attr_line = n.line }

abbrev valued : ℕ → PartialTree → Lexeme → Lexeme → PartialTree
valued d b n v = record (named b n) { attrs = b.attrs ++ attr_of d n v ∷ [] }

-- a name, `=` and a value
value_takes : {n e v : Lexeme} (d : ℕ) (b : PartialTree) → IsWordToken n → shape e ≡ Equals → IsValue v → Takes (Attrs d) b (n ∷ e ∷ v ∷ []) (AttrTail d) (valued d b n v)
unfolding next partial_tree_after
value_takes d b w q (inl i) = takes_by (AttrIs d) w.1 refl (takes_by (AttrValue d) q refl (takes_by (AttrTail d) i.1 refl none_takes))
value_takes d b w q (inr (inl i)) = takes_by (AttrIs d) w.1 refl (takes_by (AttrValue d) q refl (takes_by (AttrTail d) i.1 refl none_takes))
value_takes d b w q (inr (inr i)) = takes_by (AttrIs d) w.1 refl (takes_by (AttrValue d) q refl (takes_by (AttrTail d) i refl none_takes))

abbrev with_attrs : PartialTree → List OilAttr → List ℕ → ℕ → PartialTree
with_attrs b al n l = record b { attrs = b.attrs ++ al; attr_name = n; attr_line = l }

with_eq : (b : PartialTree) (al bl : List OilAttr) (n : List ℕ) (l : ℕ) → al ≡ bl → record b { attrs = al; attr_name = n; attr_line = l } ≡ record b { attrs = bl; attr_name = n; attr_line = l }
with_eq b al bl n l e = ap (λ x. record b { attrs = x; attr_name = n; attr_line = l }) e

open_next : (d : ℕ) → d < 8 → next (AttrTail d) Open ≡ Some (Attrs (suc d))
unfolding next
open_next d h = rw (lt-ltb d 8 h) refl

pub attrs_take : {d : ℕ} {ts : List Lexeme} {al : List OilAttr} → IsAttrs d ts al → (b : PartialTree) → (n : List ℕ) × (l : ℕ) × Takes (Attrs d) b ts (Attrs d) (with_attrs b al n l)
unfolding next partial_tree_after
attrs_take no_attr b = (b.attr_name, b.attr_line, takes_to none_takes (sym (with_eq b (b.attrs ++ []) b.attrs b.attr_name b.attr_line (append-nil b.attrs))))
attrs_take (attr {d} {n} {e} {v} f ts {al} w q i g a) b =
    let r = attrs_take a (valued d b n v) in (
      r.0,
      r.1,
      takes_to
          (takes_then (AttrTail d) (valued d b n v) (value_takes d b w q i) (takes_then (Attrs d) (valued d b n v) (attr_end_takes g d (valued d b n v)) r.2))
          (with_eq b ((b.attrs ++ attr_of d n v ∷ []) ++ al) (b.attrs ++ attr_of d n v ∷ al) r.0 r.1 (append_assoc b.attrs (attr_of d n v ∷ []) al)),
    )
attrs_take (block {d} {n} {e} {v} {o} c us f ts bl al k w q i s a z g m) b =
    let r = attrs_take a (valued d b n v) in
    let b1 = with_attrs (valued d b n v) bl r.0 r.1 in
    let t = attrs_take m b1 in (
      t.0,
      t.1,
      takes_to
          (takes_then (AttrTail d) (valued d b n v) (value_takes d b w q i)
          (takes_by (Attrs (suc d)) s (open_next d k)
          (takes_then (Attrs (suc d)) b1 r.2
          (takes_by (Ending (Attr d)) z refl (takes_then (Attrs d) b1 (end_takes g (Attr d) b1) t.2)))))
          (with_eq b (((b.attrs ++ attr_of d n v ∷ []) ++ bl) ++ al) (b.attrs ++ attr_of d n v ∷ (bl ++ al)) t.0 t.1
          (simp append_assoc)),
    )

abbrev ObjectTaken : PartialTree → List Lexeme → List OilObject → Type 0
ObjectTaken b ts os = (b' : PartialTree) × Takes Objects b ts Objects b' × (b'.objects ≡ b.objects ++ os) × (b'.cpu_line ≡ b.cpu_line)

object_takes : {ts : List Lexeme} {o : OilObject} → IsOilObject ts o → (b : PartialTree) → ObjectTaken b ts (o ∷ [])
unfolding next partial_tree_after
object_takes (plain_object {k} {n} {f} v w g) b =
    let b1 = record b { kind = k.bytes; line = k.line; attrs = []; name = n.bytes } in
    (whole_object b1, takes_by ObjectName v.1 refl (takes_by ObjectTail w.1 refl (object_end_takes g b1)), refl, refl)
object_takes (block_object {k} {n} {o} c us f {al} v w s a z g) b =
    let b1 = record b { kind = k.bytes; line = k.line; attrs = []; name = n.bytes } in
    let r = attrs_take a b1 in
    let b2 = with_attrs b1 al r.0 r.1 in (
      whole_object b2,
      takes_by ObjectName v.1 refl (takes_by ObjectTail w.1 refl (takes_by (Attrs 0) s refl
          (takes_then (Attrs 0) b2 r.2 (takes_by (Ending Object) z refl (end_takes g Object b2))))),
      refl,
      refl,
    )

objects_take : {ts : List Lexeme} {os : List OilObject} → IsObjects ts os → (b : PartialTree) → ObjectTaken b ts os
objects_take no_object b = (b, none_takes, sym (append-nil b.objects), refl)
objects_take (object ts us {o} {os} i a) b =
    let r = object_takes i b in
    let t = objects_take a r.0 in
    (t.0, takes_then Objects r.0 r.1 t.1, t.2 ∙ (ap (λ x. x ++ os) r.2 ∙ append_assoc b.objects (o ∷ []) os), t.3 ∙ r.3)

stays : (n : ℕ) (x : Shape) → (x ≡ Open → ⊥) → (x ≡ Close → ⊥) → next (Inside n) x ≡ Some (Inside n)
unfolding next
stays n Open p q = absurd (p refl)
stays n Close p q = absurd (q refl)
stays n _ p q = refl

balanced_takes : {us : List Lexeme} → IsBalanced us → (n : ℕ) (b : PartialTree) → Takes (Inside n) b us (Inside n) b
unfolding next partial_tree_after
balanced_takes no_token n b = none_takes
balanced_takes (token_in {t} p q a) n b = takes_by (Inside n) refl (stays n (shape t) p q) (balanced_takes a n b)
balanced_takes (braces c us ts s a z m) n b =
    takes_by (Inside (suc n)) s refl (takes_then (Inside (suc n)) b (balanced_takes a (suc n) b) (takes_by (Inside n) z refl (balanced_takes m n b)))

-- an optional section, and the word CPU
section_takes : {xs : List Lexeme} → IsImplementation xs → (c : Lexeme) {rest : List Lexeme} (b : PartialTree) {b2 : PartialTree} {e2 : Expect} → shape c ≡ Word Cpu
    → Takes CpuName (record b { cpu_line = c.line }) rest e2 b2 → Takes Body b (xs ++ c ∷ rest) e2 b2
unfolding next partial_tree_after
section_takes no_section c b s a = takes_by CpuName s refl a
section_takes (section {i} {n} {o} z us f k w p g y h) c {rest} b {b2} {e2} s a =
    let b1 = record b { cpu_line = i.line } in
    takes_by SectionName k refl (takes_by SectionOpen w.1 refl (takes_by (Inside 0) p refl
    (subst (λ (x : List Lexeme). Takes (Inside 0) b1 x e2 b2) (sym (append_assoc us (z ∷ f) (c ∷ rest)))
    (takes_then (Inside 0) b1 (balanced_takes g 0 b1)
    (takes_by (Ending Section) y refl (takes_then CpuWord b1 (end_takes h Section b1) (takes_by CpuName s refl a)))))))

head_takes : {hs : List Lexeme} → IsHead hs → (b : PartialTree) → Takes Start b hs Body b
unfolding next partial_tree_after
head_takes (head v e x g) b = takes_by VersionIs v refl (takes_by VersionText e refl (takes_by (Ending Head) x refl (end_takes g Head b)))

-- behind the word CPU
pub cpu_takes : {hs xs : List Lexeme} → IsHead hs → IsImplementation xs → (c : Lexeme) {rest : List Lexeme} (b : PartialTree) {b2 : PartialTree} {e2 : Expect} → shape c ≡ Word Cpu
    → Takes CpuName (record b { cpu_line = c.line }) rest e2 b2 → Takes Start b (hs ++ (xs ++ c ∷ rest)) e2 b2
cpu_takes h s c b k a = takes_then Body b (head_takes h b) (section_takes s c b k a)

abbrev FileTaken : List Lexeme → OilTree → PartialTree → Type 0
FileTaken ts tree b = (b' : PartialTree) × Takes Start b ts Done b' × (b'.cpu_line ≡ tree.cpu_line) × (b'.objects ≡ b.objects ++ tree.objects)

pub file_takes : {ts : List Lexeme} {tree : OilTree} → IsFile ts tree → (b : PartialTree) → FileTaken ts tree b
unfolding next partial_tree_after
file_takes (file c n o z hs xs us f {os} h s k w q a y g) b =
    let b1 = record b { cpu_line = c.line } in
    let r = objects_take a b1 in (
      r.0,
      cpu_takes h s c b k (takes_by CpuOpen w.1 refl (takes_by Objects q refl (takes_then Objects r.0 r.1 (takes_by (Ending File) y refl (end_takes g File r.0))))),
      r.3,
      r.2,
    )

-- Tokens have one tree.
pub file_one : {ts : List Lexeme} {t u : OilTree} → IsFile ts t → IsFile ts u → t ≡ u
file_one {ts} {t} {u} f g =
    let a = file_takes f nothing_built in
    let b = file_takes g nothing_built in
    let e : a.0 ≡ b.0 = sym a.1.builds ∙ b.1.builds in
    ap (λ (x : ℕ). record t { cpu_line = x }) (sym a.2 ∙ (ap (λ (x : PartialTree). x.cpu_line) e ∙ b.2))
    ∙ ap (λ (x : List OilObject). record u { objects = x }) (sym a.3 ∙ (ap (λ (x : PartialTree). x.objects) e ∙ b.3))
