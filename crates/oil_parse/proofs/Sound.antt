-- What the machine accepts is in the grammar.
use Rattle.std.proofs.Common.{◌≡◌, ℕ, ◌<◌, ◌≤◌, Bool, true, false, cond, ltb, List, [], ◌∷◌, ◌++◌, length, Some, None, refl, ap, sym, ◌∙◌, subst, suc, zero, arith, inl, inr, append_assoc, length-append}
use Rattle.std.proofs.lemmas.Bool.{ltb-true}
use Rattle.std.proofs.lemmas.List.{append-nil}
use Rattle.oil_parse.specs.Tokens.{Lexeme}
use Rattle.oil_parse.specs.declared.tree.OilAttr.{OilAttr}
use Rattle.oil_parse.specs.declared.machine.Key.TheVariants.{Version, Implementation, Cpu}
use Rattle.oil_parse.specs.declared.machine.Shape.{Shape}
use Rattle.oil_parse.specs.declared.machine.Shape.TheVariants.{Word, Number, Text, Open, Close, Equals, Semicolon, Colon}
use Rattle.oil_parse.specs.declared.machine.Construct.{Construct}
use Rattle.oil_parse.specs.declared.machine.Construct.TheVariants.{Head, Section, Object, Attr, File}
use Rattle.oil_parse.specs.declared.machine.Expect.{Expect}
use Rattle.oil_parse.specs.declared.machine.Expect.TheVariants.{Start, VersionIs, VersionText, Ending, Describing, Closing, Body, SectionName, SectionOpen, Inside, CpuWord, CpuName, CpuOpen, Objects, ObjectName, ObjectTail, Attrs, AttrIs, AttrValue, AttrTail, Done}
use Rattle.oil_parse.specs.Shapes.{shape, IsWordToken}
use Rattle.oil_parse.specs.declared.tree.OilObject.{OilObject}
use Rattle.oil_parse.specs.declared.tree.OilTree.{OilTree}
use Rattle.oil_parse.specs.Grammar.{IsValue, IsEnd, bare, described, IsAttrs, no_attr, attr, block, attr_of, IsOilObject, plain_object, block_object, IsObjects, no_object, object, IsBalanced, no_token, token_in, braces, IsImplementation, no_section, section, head, IsFile, file}
use Rattle.oil_parse.specs.Steps.{next, behind, closed_construct, expectation_behind}
use Rattle.oil_parse.proofs.Steps.{step}
use Rattle.oil_parse.proofs.Steps.{none_done}

abbrev Accepts : Expect → List Lexeme → Type 0
Accepts e ts = step (Some e) ts ≡ Some Done

abbrev Next : Lexeme → List Lexeme → Shape → Expect → Type 0
Next t ts x e = (shape t ≡ x) × Accepts e ts

closing_by : (p : Construct) (t : Lexeme) (ts : List Lexeme) (x : Shape) → shape t ≡ x → step (next (Closing p) x) ts ≡ Some Done → Next t ts Semicolon (behind p)
unfolding next
closing_by p t ts Semicolon e h = (e, h)
closing_by p t ts _ e h = absurd (none_done ts h)

describing_by : (p : Construct) (t : Lexeme) (ts : List Lexeme) (x : Shape) → shape t ≡ x → step (next (Describing p) x) ts ≡ Some Done → Next t ts Text (Closing p)
unfolding next
describing_by p t ts Text e h = (e, h)
describing_by p t ts _ e h = absurd (none_done ts h)

abbrev EndRead : Construct → List Lexeme → Type 0
EndRead p ts = (f rest : List Lexeme) × (ts ≡ f ++ rest) × IsEnd f × Accepts (behind p) rest

described_read : (p : Construct) (t : Lexeme) (ts : List Lexeme) → shape t ≡ Colon → Accepts (Describing p) ts → EndRead p (t ∷ ts)
described_read p t [] e h = cc
described_read p t (x ∷ []) e h = let d = describing_by p x [] (shape x) refl h in let f = d.1 in cc
described_read p t (x ∷ s ∷ ts) e h =
    let d = describing_by p x (s ∷ ts) (shape x) refl h in
    let g = closing_by p s ts (shape s) refl d.1 in
    (t ∷ x ∷ s ∷ [], ts, refl, described e d.0 g.0, g.1)

pub ending_by : (p : Construct) (t : Lexeme) (ts : List Lexeme) (x : Shape) → shape t ≡ x → step (next (Ending p) x) ts ≡ Some Done → EndRead p (t ∷ ts)
unfolding next
ending_by p t ts Semicolon e h = (t ∷ [], ts, refl, bare e, h)
ending_by p t ts Colon e h = described_read p t ts e h
ending_by p t ts _ e h = absurd (none_done ts h)

pub ending_read : (p : Construct) (ts : List Lexeme) → Accepts (Ending p) ts → EndRead p ts
ending_read p [] h = cc
ending_read p (t ∷ ts) h = ending_by p t ts (shape t) refl h

abbrev AttrsRead : ℕ → List Lexeme → Type 0
AttrsRead d ts = (us : List Lexeme) × (c : Lexeme) × (rest : List Lexeme) × (al : List OilAttr) × (ts ≡ us ++ c ∷ rest) × IsAttrs d us al × (shape c ≡ Close) × Accepts (Ending (closed_construct d)) rest

-- `=`, a value, and what follows
is_by : (d : ℕ) (t : Lexeme) (ts : List Lexeme) (x : Shape) → shape t ≡ x → step (next (AttrIs d) x) ts ≡ Some Done → Next t ts Equals (AttrValue d)
unfolding next
is_by d t ts Equals e h = (e, h)
is_by d t ts _ e h = absurd (none_done ts h)

value_by : (d : ℕ) (t : Lexeme) (ts : List Lexeme) (x : Shape) → shape t ≡ x → step (next (AttrValue d) x) ts ≡ Some Done → IsValue t × Accepts (AttrTail d) ts
unfolding next
value_by d t ts (Word k) e h = (inl (k, e), h)
value_by d t ts (Number n) e h = (inr (inl (n, e)), h)
value_by d t ts Text e h = (inr (inr e), h)
value_by d t ts _ e h = absurd (none_done ts h)

abbrev Attributes : ℕ → Type 0
Attributes n = (d : ℕ) (us : List Lexeme) → length us ≤ n → Accepts (Attrs d) us → AttrsRead d us

module _ (m : ℕ) (ih : Attributes m) (d : ℕ) (n e v : Lexeme) (w : IsWordToken n) (q : shape e ≡ Equals) (i : IsValue v) where
  plain_attr : (ts : List Lexeme) → length ts ≤ m → EndRead (Attr d) ts → AttrsRead d (n ∷ e ∷ v ∷ ts)
  plain_attr ts l r =
      let le = ap length r.2 in
      let a = ih d r.1 (omega (arith, le, length-append r.0 r.1)) r.4 in (
        n ∷ e ∷ v ∷ (r.0 ++ a.0),
        a.1,
        a.2,
        attr_of d n v ∷ a.3,
        ap (λ x. n ∷ e ∷ v ∷ x) (r.2 ∙ (ap (λ x. r.0 ++ x) a.4 ∙ sym (append_assoc r.0 a.0 (a.1 ∷ a.2)))),
        attr r.0 a.0 w q i r.3 a.5,
        a.6,
        a.7,
      )

  block_attr : (o : Lexeme) (ts : List Lexeme) → shape o ≡ Open → d < 8 → suc (length ts) ≤ m → Accepts (Attrs (suc d)) ts → AttrsRead d (n ∷ e ∷ v ∷ o ∷ ts)
  block_attr o ts s k l h =
      let b = ih (suc d) ts (omega arith) h in
      let r = ending_read (Attr d) b.2 b.7 in
      let le = ap length r.2 in
      let lb = ap length b.4 in
      let a = ih d r.1 (omega (arith, le, lb, length-append b.0 (b.1 ∷ b.2), length-append r.0 r.1)) r.4 in (
        n ∷ e ∷ v ∷ o ∷ (b.0 ++ b.1 ∷ (r.0 ++ a.0)),
        a.1,
        a.2,
        attr_of d n v ∷ (b.3 ++ a.3),
        ap (λ x. n ∷ e ∷ v ∷ o ∷ x)
            (b.4 ∙ (ap (λ x. b.0 ++ b.1 ∷ x) (r.2 ∙ (ap (λ x. r.0 ++ x) a.4 ∙ sym (append_assoc r.0 a.0 (a.1 ∷ a.2))))
            ∙ sym (append_assoc b.0 (b.1 ∷ (r.0 ++ a.0)) (a.1 ∷ a.2)))),
        block b.1 b.0 r.0 a.0 b.3 a.3 k w q i s b.5 b.6 r.3 a.5,
        a.6,
        a.7,
      )

  tail_by : (o : Lexeme) (ts : List Lexeme) (x : Shape) → shape o ≡ x → suc (length ts) ≤ m → step (next (AttrTail d) x) ts ≡ Some Done → AttrsRead d (n ∷ e ∷ v ∷ o ∷ ts)
  unfolding next
  tail_by o ts Open s l h =
      let P : Bool → Type 0 = λ u. ltb d 8 ≡ u → step (cond u (Some (Attrs (suc d))) None) ts ≡ Some Done → AttrsRead d (n ∷ e ∷ v ∷ o ∷ ts) in
      (elim (ltb d 8) as P [
        | true ↦ λ u f. block_attr o ts s (ltb-true d 8 u) l f
        | false ↦ λ u f. absurd (none_done ts f)
      ]) refl h
  tail_by o ts Colon s l h = plain_attr (o ∷ ts) l (ending_by (Attr d) o ts Colon s h)
  tail_by o ts Semicolon s l h = plain_attr (o ∷ ts) l (ending_by (Attr d) o ts Semicolon s h)
  tail_by o ts _ s l h = absurd (none_done ts h)

name_by : (m : ℕ) (ih : Attributes m) (d : ℕ) (n : Lexeme) (ts : List Lexeme) → IsWordToken n → length ts ≤ m → Accepts (AttrIs d) ts → AttrsRead d (n ∷ ts)
name_by m ih d n [] w l h = cc
name_by m ih d n (e ∷ []) w l h = let r = is_by d e [] (shape e) refl h in let f = r.1 in cc
name_by m ih d n (e ∷ v ∷ []) w l h =
    let r = is_by d e (v ∷ []) (shape e) refl h in let i = value_by d v [] (shape v) refl r.1 in let f = i.1 in cc
name_by m ih d n (e ∷ v ∷ o ∷ ts) w l h =
    let r = is_by d e (v ∷ o ∷ ts) (shape e) refl h in
    let i = value_by d v (o ∷ ts) (shape v) refl r.1 in
    tail_by m ih d n e v w r.0 i.0 o ts (shape o) refl (omega arith) i.1

attrs_by : (m : ℕ) (ih : Attributes m) (d : ℕ) (t : Lexeme) (ts : List Lexeme) (x : Shape) → shape t ≡ x → length ts ≤ m → step (next (Attrs d) x) ts ≡ Some Done → AttrsRead d (t ∷ ts)
unfolding next
attrs_by m ih d t ts Close s l h = ([], t, ts, [], refl, no_attr, s, h)
attrs_by m ih d t ts (Word k) s l h = name_by m ih d t ts (k, s) l h
attrs_by m ih d t ts _ s l h = absurd (none_done ts h)

pub attrs_read : (m : ℕ) → Attributes m
attrs_read m d [] l h = cc
attrs_read zero d (t ∷ ts) l h = absurd (omega arith)
attrs_read (suc m) d (t ∷ ts) l h = attrs_by m (attrs_read m) d t ts (shape t) refl (omega arith) h

abbrev ObjectsRead : List Lexeme → Type 0
ObjectsRead ts = (us : List Lexeme) × (z : Lexeme) × (rest : List Lexeme) × (os : List OilObject) × (ts ≡ us ++ z ∷ rest) × IsObjects us os × (shape z ≡ Close) × Accepts (Ending File) rest

abbrev AllObjects : ℕ → Type 0
AllObjects n = (us : List Lexeme) → length us ≤ n → Accepts Objects us → ObjectsRead us

object_name_by : (t : Lexeme) (ts : List Lexeme) (x : Shape) → shape t ≡ x → step (next ObjectName x) ts ≡ Some Done → IsWordToken t × Accepts ObjectTail ts
unfolding next
object_name_by t ts (Word k) e h = ((k, e), h)
object_name_by t ts _ e h = absurd (none_done ts h)

one_object : (us rest : List Lexeme) (o : OilObject) (m : ℕ) → AllObjects m → length rest ≤ m → IsOilObject us o → Accepts Objects rest → ObjectsRead (us ++ rest)
one_object us rest o m ih l i h =
    let a = ih rest l h in
    (us ++ a.0, a.1, a.2, o ∷ a.3, ap (λ x. us ++ x) a.4 ∙ sym (append_assoc us a.0 (a.1 ∷ a.2)), object us a.0 i a.5, a.6, a.7)

module _ (m : ℕ) (ih : AllObjects m) (k n : Lexeme) (v : IsWordToken k) (w : IsWordToken n) where
  plain_read : (ts : List Lexeme) → length ts ≤ m → EndRead Object ts → ObjectsRead (k ∷ n ∷ ts)
  plain_read ts l r =
      let le = ap length r.2 in
      subst (λ (x : List Lexeme). ObjectsRead (k ∷ n ∷ x)) (sym r.2)
      (one_object (k ∷ n ∷ r.0) r.1 (record { kind = k.bytes; name = n.bytes; line = k.line; attrs = [] }) m ih (omega (arith, le, length-append r.0 r.1)) (plain_object v w r.3) r.4)

  block_read : (o : Lexeme) (ts : List Lexeme) → shape o ≡ Open → suc (length ts) ≤ m → Accepts (Attrs 0) ts → ObjectsRead (k ∷ n ∷ o ∷ ts)
  block_read o ts s l h =
      let b = attrs_read (length ts) 0 ts (omega arith) h in
      let r = ending_read Object b.2 b.7 in
      let le = ap length r.2 in
      let lb = ap length b.4 in
      let e : ts ≡ (b.0 ++ b.1 ∷ r.0) ++ r.1 = b.4 ∙ (ap (λ x. b.0 ++ b.1 ∷ x) r.2 ∙ sym (append_assoc b.0 (b.1 ∷ r.0) r.1)) in
      subst (λ (x : List Lexeme). ObjectsRead (k ∷ n ∷ o ∷ x)) (sym e)
      (one_object (k ∷ n ∷ o ∷ (b.0 ++ b.1 ∷ r.0)) r.1 (record { kind = k.bytes; name = n.bytes; line = k.line; attrs = b.3 }) m ih
      (omega (arith, le, lb, length-append b.0 (b.1 ∷ b.2), length-append r.0 r.1)) (block_object b.1 b.0 r.0 v w s b.5 b.6 r.3) r.4)

  object_tail_by : (o : Lexeme) (ts : List Lexeme) (x : Shape) → shape o ≡ x → suc (length ts) ≤ m → step (next ObjectTail x) ts ≡ Some Done → ObjectsRead (k ∷ n ∷ o ∷ ts)
  unfolding next
  object_tail_by o ts Open s l h = block_read o ts s l h
  object_tail_by o ts Colon s l h = plain_read (o ∷ ts) l (ending_by Object o ts Colon s h)
  object_tail_by o ts Semicolon s l h = plain_read (o ∷ ts) l (ending_by Object o ts Semicolon s h)
  object_tail_by o ts _ s l h = absurd (none_done ts h)

kind_by : (m : ℕ) (ih : AllObjects m) (k : Lexeme) (ts : List Lexeme) → IsWordToken k → length ts ≤ m → Accepts ObjectName ts → ObjectsRead (k ∷ ts)
kind_by m ih k [] v l h = cc
kind_by m ih k (n ∷ []) v l h = let r = object_name_by n [] (shape n) refl h in let f = r.1 in cc
kind_by m ih k (n ∷ o ∷ ts) v l h =
    let r = object_name_by n (o ∷ ts) (shape n) refl h in object_tail_by m ih k n v r.0 o ts (shape o) refl (omega arith) r.1

objects_by : (m : ℕ) (ih : AllObjects m) (t : Lexeme) (ts : List Lexeme) (x : Shape) → shape t ≡ x → length ts ≤ m → step (next Objects x) ts ≡ Some Done → ObjectsRead (t ∷ ts)
unfolding next
objects_by m ih t ts Close s l h = ([], t, ts, [], refl, no_object, s, h)
objects_by m ih t ts (Word k) s l h = kind_by m ih t ts (k, s) l h
objects_by m ih t ts _ s l h = absurd (none_done ts h)

pub objects_read : (m : ℕ) → AllObjects m
objects_read m [] l h = cc
objects_read zero (t ∷ ts) l h = absurd (omega arith)
objects_read (suc m) (t ∷ ts) l h = objects_by m (objects_read m) t ts (shape t) refl (omega arith) h

abbrev BalancedRead : ℕ → List Lexeme → Type 0
BalancedRead n ts = (us : List Lexeme) × (c : Lexeme) × (rest : List Lexeme) × (ts ≡ us ++ c ∷ rest) × IsBalanced us × (shape c ≡ Close) × Accepts (expectation_behind n) rest

abbrev AllBalanced : ℕ → Type 0
AllBalanced m = (n : ℕ) (us : List Lexeme) → length us ≤ m → Accepts (Inside n) us → BalancedRead n us

another : (n : ℕ) (t : Lexeme) (ts : List Lexeme) → (shape t ≡ Open → ⊥) → (shape t ≡ Close → ⊥) → BalancedRead n ts → BalancedRead n (t ∷ ts)
another n t ts p q r = (t ∷ r.0, r.1, r.2, ap (λ x. t ∷ x) r.3, token_in p q r.4, r.5, r.6)

inside_by : (m : ℕ) (ih : AllBalanced m) (n : ℕ) (t : Lexeme) (ts : List Lexeme) (x : Shape) → shape t ≡ x → length ts ≤ m → step (next (Inside n) x) ts ≡ Some Done → BalancedRead n (t ∷ ts)
unfolding next
inside_by m ih n t ts Open s l h =
    let a = ih (suc n) ts l h in
    let la = ap length a.3 in
    let b = ih n a.2 (omega (arith, la, length-append a.0 (a.1 ∷ a.2))) a.6 in (
      t ∷ (a.0 ++ a.1 ∷ b.0),
      b.1,
      b.2,
      ap (λ x. t ∷ x) (a.3 ∙ (ap (λ x. a.0 ++ a.1 ∷ x) b.3 ∙ sym (append_assoc a.0 (a.1 ∷ b.0) (b.1 ∷ b.2)))),
      braces a.1 a.0 b.0 s a.4 a.5 b.4,
      b.5,
      b.6,
    )
inside_by m ih n t ts Close s l h = ([], t, ts, refl, no_token, s, h)
inside_by m ih n t ts _ s l h = another n t ts (λ f. cc) (λ f. cc) (ih n ts l h)

pub balanced_read : (m : ℕ) → AllBalanced m
balanced_read m n [] l h = cc
balanced_read zero n (t ∷ ts) l h = absurd (omega arith)
balanced_read (suc m) n (t ∷ ts) l h = inside_by m (balanced_read m) n t ts (shape t) refl (omega arith) h

done_by : (t : Lexeme) (ts : List Lexeme) (x : Shape) → step (next Done x) ts ≡ Some Done → ⊥
unfolding next
done_by t ts Open h = none_done ts h
done_by t ts _ h = none_done ts h

done_read : (ts : List Lexeme) → Accepts Done ts → ts ≡ []
done_read [] h = refl
done_read (t ∷ ts) h = absurd (done_by t ts (shape t) h)

word_by : (t : Lexeme) (ts : List Lexeme) (x : Shape) → shape t ≡ x → step (next CpuName x) ts ≡ Some Done → IsWordToken t × Accepts CpuOpen ts
unfolding next
word_by t ts (Word k) e h = ((k, e), h)
word_by t ts _ e h = absurd (none_done ts h)

open_by : (t : Lexeme) (ts : List Lexeme) (x : Shape) → shape t ≡ x → step (next CpuOpen x) ts ≡ Some Done → Next t ts Open Objects
unfolding next
open_by t ts Open e h = (e, h)
open_by t ts _ e h = absurd (none_done ts h)

-- a file from its word CPU on
abbrev CpuRead : List Lexeme → Type 0
CpuRead ts = (c : Lexeme) × (n : Lexeme) × (o : Lexeme) × (z : Lexeme) × (us : List Lexeme) × (f : List Lexeme) × (os : List OilObject) × (ts ≡ c ∷ n ∷ o ∷ (us ++ z ∷ f))
    × (shape c ≡ Word Cpu) × IsWordToken n × (shape o ≡ Open) × IsObjects us os × (shape z ≡ Close) × IsEnd f

cpu_read : (c : Lexeme) (ts : List Lexeme) → shape c ≡ Word Cpu → Accepts CpuName ts → CpuRead (c ∷ ts)
cpu_read c [] s h = cc
cpu_read c (n ∷ []) s h = let r = word_by n [] (shape n) refl h in let f = r.1 in cc
cpu_read c (n ∷ o ∷ ts) s h =
    let w = word_by n (o ∷ ts) (shape n) refl h in
    let p = open_by o ts (shape o) refl w.1 in
    let r = objects_read (length ts) ts (omega arith) p.1 in
    let f = ending_read File r.2 r.7 in
    let e : r.2 ≡ f.0 = f.2 ∙ (ap (λ x. f.0 ++ x) (done_read f.1 f.4) ∙ append-nil f.0) in
    (c, n, o, r.1, r.0, f.0, r.3, ap (λ x. c ∷ n ∷ o ∷ x) (r.4 ∙ ap (λ x. r.0 ++ r.1 ∷ x) e), s, w.0, p.0, r.5, r.6, f.3)

cpu_word_by : (t : Lexeme) (ts : List Lexeme) (x : Shape) → shape t ≡ x → step (next CpuWord x) ts ≡ Some Done → CpuRead (t ∷ ts)
unfolding next
cpu_word_by t ts (Word Cpu) e h = cpu_read t ts e h
cpu_word_by t ts _ e h = absurd (none_done ts h)

cpu_word_read : (ts : List Lexeme) → Accepts CpuWord ts → CpuRead ts
cpu_word_read [] h = cc
cpu_word_read (t ∷ ts) h = cpu_word_by t ts (shape t) refl h

-- an optional section, and what comes behind it
abbrev BodyRead : List Lexeme → Type 0
BodyRead ts = (xs : List Lexeme) × (rest : List Lexeme) × (ts ≡ xs ++ rest) × IsImplementation xs × CpuRead rest

section_name_by : (t : Lexeme) (ts : List Lexeme) (x : Shape) → shape t ≡ x → step (next SectionName x) ts ≡ Some Done → IsWordToken t × Accepts SectionOpen ts
unfolding next
section_name_by t ts (Word k) e h = ((k, e), h)
section_name_by t ts _ e h = absurd (none_done ts h)

section_open_by : (t : Lexeme) (ts : List Lexeme) (x : Shape) → shape t ≡ x → step (next SectionOpen x) ts ≡ Some Done → Next t ts Open (Inside 0)
unfolding next
section_open_by t ts Open e h = (e, h)
section_open_by t ts _ e h = absurd (none_done ts h)

section_read : (i : Lexeme) (ts : List Lexeme) → shape i ≡ Word Implementation → Accepts SectionName ts → BodyRead (i ∷ ts)
section_read i [] s h = cc
section_read i (n ∷ []) s h = let r = section_name_by n [] (shape n) refl h in let f = r.1 in cc
section_read i (n ∷ o ∷ ts) s h =
    let w = section_name_by n (o ∷ ts) (shape n) refl h in
    let p = section_open_by o ts (shape o) refl w.1 in
    let b = balanced_read (length ts) 0 ts (omega arith) p.1 in
    let f = ending_read Section b.2 b.6 in (
      i ∷ n ∷ o ∷ (b.0 ++ b.1 ∷ f.0),
      f.1,
      ap (λ x. i ∷ n ∷ o ∷ x) (b.3 ∙ (ap (λ x. b.0 ++ b.1 ∷ x) f.2 ∙ sym (append_assoc b.0 (b.1 ∷ f.0) f.1))),
      section b.1 b.0 f.0 s w.0 p.0 b.4 b.5 f.3,
      cpu_word_read f.1 f.4,
    )

body_by : (t : Lexeme) (ts : List Lexeme) (x : Shape) → shape t ≡ x → step (next Body x) ts ≡ Some Done → BodyRead (t ∷ ts)
unfolding next
body_by t ts (Word Implementation) e h = section_read t ts e h
body_by t ts (Word Cpu) e h = ([], t ∷ ts, refl, no_section, cpu_read t ts e h)
body_by t ts _ e h = absurd (none_done ts h)

body_read : (ts : List Lexeme) → Accepts Body ts → BodyRead ts
body_read [] h = cc
body_read (t ∷ ts) h = body_by t ts (shape t) refl h

start_by : (t : Lexeme) (ts : List Lexeme) (x : Shape) → shape t ≡ x → step (next Start x) ts ≡ Some Done → Next t ts (Word Version) VersionIs
unfolding next
start_by t ts (Word Version) e h = (e, h)
start_by t ts _ e h = absurd (none_done ts h)

version_is_by : (t : Lexeme) (ts : List Lexeme) (x : Shape) → shape t ≡ x → step (next VersionIs x) ts ≡ Some Done → Next t ts Equals VersionText
unfolding next
version_is_by t ts Equals e h = (e, h)
version_is_by t ts _ e h = absurd (none_done ts h)

version_text_by : (t : Lexeme) (ts : List Lexeme) (x : Shape) → shape t ≡ x → step (next VersionText x) ts ≡ Some Done → Next t ts Text (Ending Head)
unfolding next
version_text_by t ts Text e h = (e, h)
version_text_by t ts _ e h = absurd (none_done ts h)

-- What the machine accepts is a file.
pub file_read : (ts : List Lexeme) → Accepts Start ts → (tree : OilTree) × IsFile ts tree
file_read [] h = cc
file_read (v ∷ []) h = let r = start_by v [] (shape v) refl h in let f = r.1 in cc
file_read (v ∷ e ∷ []) h = let r = start_by v (e ∷ []) (shape v) refl h in let q = version_is_by e [] (shape e) refl r.1 in let f = q.1 in cc
file_read (v ∷ e ∷ x ∷ ts) h =
    let r = start_by v (e ∷ x ∷ ts) (shape v) refl h in
    let q = version_is_by e (x ∷ ts) (shape e) refl r.1 in
    let p = version_text_by x ts (shape x) refl q.1 in
    let f = ending_read Head ts p.1 in
    let b = body_read f.1 f.4 in
    let c = b.4 in
    let tree : OilTree = record { cpu_line = c.0.line; objects = c.6 } in
    let whole : v ∷ e ∷ x ∷ ts ≡ (v ∷ e ∷ x ∷ f.0) ++ (b.0 ++ (c.0 ∷ c.1 ∷ c.2 ∷ (c.4 ++ c.3 ∷ c.5)))
    = ap (λ y. v ∷ e ∷ x ∷ y) (f.2 ∙ ap (λ y. f.0 ++ y) (b.2 ∙ ap (λ y. b.0 ++ y) c.7)) in (
      tree,
      subst (λ (y : List Lexeme). IsFile y tree) (sym whole)
          (file c.0 c.1 c.2 c.3 (v ∷ e ∷ x ∷ f.0) b.0 c.4 c.5 (head r.0 q.0 p.0 f.3) b.3 c.8 c.9 c.10 c.11 c.12 c.13),
    )
