-- The parser's loop, over lists.
use Rattle.std.proofs.Common.{◌≡◌, ℕ, ◌+◌, ◌<◌, ◌≤◌, Bool, true, false, cond, ltb, List, [], ◌∷◌, length, map, drop, Option, Some, None, refl, ap, sym, ◌∙◌, subst, suc, zero, arith, ◌⊎◌, inl, inr, ⊎_elim, ◌↔◌, get_or, add-one}
use Rattle.std.proofs.lemmas.Bool.{ltb-true, ltb-false}
use Rattle.std.proofs.Math.Seq.{drop-cons}
use Rattle.std.proofs.Math.ListN.{drop_of_length-le}
use Rattle.sloth_base.specs.declared.refusal.Refusal.{Refusal}
use Rattle.sloth_base.specs.declared.refusal.BuildError.{BuildError}
use Rattle.sloth_base.specs.declared.refusal.BuildError.TheVariants.{Refused, Memory}
use Rattle.sloth_base.specs.declared.refusal.Part.TheVariants.{Oil}
use Rattle.sloth_base.specs.declared.refusal.Code.TheVariants as code
use Rattle.sloth_base.specs.Order.{IsLeast, NoFault, ErrorIs}
use Rattle.sloth_base.specs.Search.{lesser}
use Rattle.sloth_base.proofs.Searching.{KeepsLeast}
use Rattle.sloth_base.proofs.Kept.{kept_on, kept_found, kept_none, kept_least, least_same}
use Rattle.oil_parse.specs.declared.tree.TokenKind.{TokenKind}
use Rattle.oil_parse.specs.declared.tree.TokenKind.TheVariants as token
use Rattle.oil_parse.specs.declared.tree.Token.{Token}
use Rattle.oil_parse.specs.Tokens.{Lexeme, lexeme}
use Rattle.oil_parse.specs.declared.machine.Key.TheVariants.{Version, Cpu}
use Rattle.oil_parse.specs.declared.machine.Shape.{Shape}
use Rattle.oil_parse.specs.declared.machine.Shape.TheVariants.{Word, Number, Text, Open, Close, Equals, Semicolon}
use Rattle.oil_parse.specs.declared.machine.Construct.{Construct}
use Rattle.oil_parse.specs.declared.machine.Construct.TheVariants.{Head, Section, Object, Attr, File}
use Rattle.oil_parse.specs.declared.machine.Expect.{Expect}
use Rattle.oil_parse.specs.declared.machine.Expect.TheVariants.{Start, VersionIs, VersionText, Ending, Describing, Closing, Body, SectionName, SectionOpen, Inside, CpuWord, CpuName, CpuOpen, Objects, ObjectName, ObjectTail, Attrs, AttrIs, AttrValue, AttrTail, Done}
use Rattle.oil_parse.specs.Shapes.{shape, shape_by}
use Rattle.oil_parse.specs.declared.tree.Parser.{Parser}
use Rattle.oil_parse.specs.declared.tree.OilTree.{OilTree}
use Rattle.oil_parse.specs.Grammar.{IsFile}
use Rattle.oil_parse.specs.Faults.{GrammarFault}
use Rattle.oil_parse.specs.Steps.{next, expectation_behind, behind}
use Rattle.oil_parse.specs.Machine.{partial_tree_after, PartialTree, nothing_built, too_big, TakesFit}
use Rattle.oil_parse.proofs.Steps.{step, build, TooBig, MachineFault}
use Rattle.oil_parse.specs.Parser.{draft, IsTokenStep, StopsWith}
use Rattle.oil_parse.proofs.Sound.{file_read}
use Rattle.oil_parse.proofs.Complete.{file_takes}
use Rattle.oil_parse.proofs.Faults.{FaultBy, same_faults}

-- no more braces are open than tokens were read
abbrev pub Within : Expect → ℕ → Type 0
Within (Inside n) i = n ≤ i
Within _ i = Unit {0}

-- Of all these tokens the parser has the rest to read.
pub record Reads (all : List Lexeme) (p : Parser) (rest : List Lexeme) : Type 0 where
  pub kept : KeepsLeast (MachineFault Start 1 all) (MachineFault p.expect p.last rest) p.least
  pub steps : step (Some p.expect) rest ≡ step (Some Start) all
  pub builds : p.least ≡ None → build (Some p.expect) (draft p.draft) rest ≡ build (Some Start) nothing_built all

pub fits : (e : Expect) (k : TokenKind) (bs : List ℕ) → too_big e (shape_by k bs) ≡ false → TakesFit e k
unfolding shape_by
fits (AttrValue d) (token.Number v) bs h = let l = ltb-false 4294967295 v h in omega (arith, l)
fits (AttrValue d) _ bs h = tt
fits _ k bs h = tt

-- the machine's faults from a token on that may stand there
goes_faults : (e e' : Expect) (n m : ℕ) (t : Lexeme) (rest : List Lexeme) → next e (shape t) ≡ Some e' → m ≡ t.line → (r : Refusal)
    → MachineFault e n (t ∷ rest) r ↔ (TooBig e (shape t) t r ⊎ MachineFault e' m rest r)
goes_faults e e' n m t rest q l r = (
  λ f. ⊎_elim inl (λ g. inr (subst (λ (x : ℕ). MachineFault e' x rest r) (sym l) g)) (subst (λ (o : Option Expect). FaultBy o e t rest r) q f),
  λ f. subst (λ (o : Option Expect). FaultBy o e t rest r) (sym q) (⊎_elim inl (λ g. inr (subst (λ (x : ℕ). MachineFault e' x rest r) l g)) f),
)

-- the test and the fault of a number
pub big_is : (e : Expect) (x : Shape) (t : Lexeme) (r : Refusal) → too_big e x ≡ true → TooBig e x t r ↔ (r ≡ record { part = Oil; line = t.line; code = code.O4 })
big_is (AttrValue d) (Number v) t r h = (λ f. f.1, λ f. (ltb-true 4294967295 v h, f))
big_is (AttrValue d) Text t r h = cc
big_is _ _ t r h = cc

pub small_is : (e : Expect) (x : Shape) (t : Lexeme) (r : Refusal) → too_big e x ≡ false → TooBig e x t r → ⊥
small_is (AttrValue d) (Number v) t r h f = let l = ltb-false 4294967295 v h in let g = f.0 in omega (arith, l, g)
small_is _ _ t r h f = f

kept_next : (all : List Lexeme) (e e' : Expect) (n m : ℕ) (t : Lexeme) (rest : List Lexeme) (o : Option Refusal) (b : Bool) → too_big e (shape t) ≡ b → next e (shape t) ≡ Some e' → m ≡ t.line
    → KeepsLeast (MachineFault Start 1 all) (MachineFault e n (t ∷ rest)) o
    → KeepsLeast (MachineFault Start 1 all) (MachineFault e' m rest) (cond b (Some (lesser o (record { part = Oil; line = t.line; code = code.O4 }))) o)
kept_next all e e' n m t rest o true h q l k =
    let g = goes_faults e e' n m t rest q l in
    let b = λ (r : Refusal). big_is e (shape t) t r h in
    kept_found (MachineFault Start 1 all) (MachineFault e n (t ∷ rest)) (MachineFault e' m rest) o (record { part = Oil; line = t.line; code = code.O4 })
    ((g (record { part = Oil; line = t.line; code = code.O4 })).1 (inl ((b (record { part = Oil; line = t.line; code = code.O4 })).1 refl)))
    (λ r f. ⊎_elim (λ x. inl ((b r).0 x)) inr ((g r).0 f))
    (λ r f. (g r).1 (inr f)) k
kept_next all e e' n m t rest o false h q l k =
    let g = goes_faults e e' n m t rest q l in
    kept_on (MachineFault Start 1 all) (MachineFault e n (t ∷ rest)) (MachineFault e' m rest) o
    (λ r f. ⊎_elim (λ x. absurd (small_is e (shape t) t r h x)) (λ x. x) ((g r).0 f))
    (λ r f. (g r).1 (inr f)) k

none_before : (b : Bool) (o : Option Refusal) (m : Refusal) → cond b (Some m) o ≡ None → o ≡ None
none_before true o m h = cc
none_before false o m h = h

pub reads_next : (all : List Lexeme) (p q : Parser) (t : Lexeme) (rest : List Lexeme) → Reads all p (t ∷ rest) → IsTokenStep p q t → Reads all q rest
reads_next all p q t rest r m = record {
  kept = subst (λ (o : Option Refusal). KeepsLeast (MachineFault Start 1 all) (MachineFault q.expect q.last rest) o) (sym m.least)
      (kept_next all p.expect q.expect p.last q.last t rest p.least (too_big p.expect (shape t)) refl m.goes m.last r.kept);
  steps = sym (ap (λ o. step o rest) m.goes) ∙ r.steps;
  builds = λ h.
      let n : p.least ≡ None = none_before (too_big p.expect (shape t)) p.least (lesser p.least (record { part = Oil; line = t.line; code = code.O4 })) (sym m.least ∙ h) in
      ap (λ x. build (Some q.expect) x rest) (m.built h) ∙ (sym (ap (λ o. build o (partial_tree_after p.expect (shape t) t (draft p.draft)) rest) m.goes) ∙ r.builds n);
}

to_grammar_least : (all : List Lexeme) (r : Refusal) → IsLeast (MachineFault Start 1 all) r → IsLeast (GrammarFault all) r
to_grammar_least all r l = least_same (MachineFault Start 1 all) (GrammarFault all) (λ s. (same_faults all s).1) (λ s. (same_faults all s).0) r l

-- one fault is left, and met
last_fault : (all : List Lexeme) (G : Refusal → Type 0) (o : Option Refusal) (m : Refusal) → G m → ((r : Refusal) → G r → r ≡ m) → KeepsLeast (MachineFault Start 1 all) G o → IsLeast (GrammarFault all) (lesser o m)
last_fault all G o m g only k =
    to_grammar_least all (lesser o m) (kept_least (MachineFault Start 1 all) (λ r. ⊥) (lesser o m) (λ r f. f)
    (kept_found (MachineFault Start 1 all) G (λ r. ⊥) o m g (λ r f. inl (only r f)) (λ r f. absurd f) k))

pub stuck : (all : List Lexeme) (p : Parser) (t : Lexeme) (rest : List Lexeme) → Reads all p (t ∷ rest) → (e : BuildError) → StopsWith p t e → ErrorIs (GrammarFault all) e
stuck all p t rest k Memory s = tt
stuck all p t rest k (Refused r) s =
    let m : Refusal = record { part = Oil; line = t.line; code = code.O5 } in
    subst (λ (x : Refusal). IsLeast (GrammarFault all) x) (sym s.1)
    (last_fault all (MachineFault p.expect p.last (t ∷ rest)) p.least m
    (subst (λ (o : Option Expect). FaultBy o p.expect t rest m) (sym s.0) refl)
    (λ q f. subst (λ (o : Option Expect). FaultBy o p.expect t rest q) s.0 f) k.kept)

pub unfinished : (all : List Lexeme) (p : Parser) → Reads all p [] → (p.expect ≡ Done → ⊥) → IsLeast (GrammarFault all) (lesser p.least (record { part = Oil; line = p.last; code = code.O6 }))
unfinished all p k n = last_fault all (MachineFault p.expect p.last []) p.least (record { part = Oil; line = p.last; code = code.O6 }) (n, refl) (λ r f. f.1) k.kept

pub refused : (all : List Lexeme) (p : Parser) (m : Refusal) → Reads all p [] → p.expect ≡ Done → p.least ≡ Some m → IsLeast (GrammarFault all) m
refused all p m k d e =
    to_grammar_least all m (kept_least (MachineFault Start 1 all) (MachineFault p.expect p.last []) m (λ r f. f.0 d)
    (subst (λ (o : Option Refusal). KeepsLeast (MachineFault Start 1 all) (MachineFault p.expect p.last []) o) e k.kept))

pub whole : (all : List Lexeme) (p : Parser) → Reads all p [] → p.expect ≡ Done → p.least ≡ None
    → IsFile all (record { cpu_line = (draft p.draft).cpu_line; objects = (draft p.draft).objects }) × NoFault (GrammarFault all)
whole all p k d e =
    let s : step (Some Start) all ≡ Some Done = sym k.steps ∙ ap Some d in
    let f = file_read all s in
    let b = file_takes f.1 nothing_built in
    let q : draft p.draft ≡ b.0 = k.builds e ∙ b.1.builds in
    let same : f.0 ≡ record { cpu_line = (draft p.draft).cpu_line; objects = (draft p.draft).objects } =
    ap (λ (x : ℕ). record f.0 { cpu_line = x }) (sym b.2 ∙ ap (λ (x : PartialTree). x.cpu_line) (sym q))
    ∙ ap (λ x. record { cpu_line = (draft p.draft).cpu_line; objects = x }) (sym b.3 ∙ ap (λ (x : PartialTree). x.objects) (sym q)) in (
      subst (λ (x : OilTree). IsFile all x) same f.1,
      λ r g. kept_none (MachineFault Start 1 all) (MachineFault p.expect p.last []) (λ x h. h.0 d)
          (subst (λ (o : Option Refusal). KeepsLeast (MachineFault Start 1 all) (MachineFault p.expect p.last []) o) e k.kept) r ((same_faults all r).0 g),
    )

-- one more token, one more brace at most
within_left : (n i : ℕ) → n ≤ i → Within (expectation_behind n) (i + 1)
within_left zero i h = tt
within_left (suc n) i h = omega arith

within_behind : (p : Construct) (i : ℕ) → Within (behind p) i
within_behind Head i = tt
within_behind Section i = tt
within_behind Object i = tt
within_behind (Attr d) i = tt
within_behind File i = tt

abbrev WithinO : Option Expect → ℕ → Type 0
WithinO None i = Unit {0}
WithinO (Some e) i = Within e i

within_open : (d i : ℕ) (b : Bool) → WithinO (cond b (Some (Attrs (suc d))) None) i
within_open d i true = tt
within_open d i false = tt

within_next : (e : Expect) (x : Shape) (i : ℕ) → Within e i → WithinO (next e x) (i + 1)
unfolding next
within_next Start (Word Version) i w = tt
within_next VersionIs Equals i w = tt
within_next VersionText Text i w = tt
within_next (Ending p) Semicolon i w = within_behind p (i + 1)
within_next (Describing p) Text i w = tt
within_next (Closing p) Semicolon i w = within_behind p (i + 1)
within_next Body (Word Cpu) i w = tt
within_next SectionName (Word k) i w = tt
within_next SectionOpen Open i w = omega arith
within_next (Inside n) Open i w = omega arith
within_next (Inside n) Close i w = within_left n i w
within_next (Inside n) _ i w = omega arith
within_next CpuWord (Word Cpu) i w = tt
within_next CpuName (Word k) i w = tt
within_next CpuOpen Open i w = tt
within_next Objects Close i w = tt
within_next ObjectName (Word k) i w = tt
within_next ObjectTail Open i w = tt
within_next (Attrs d) Close i w = tt
within_next (AttrIs d) Equals i w = tt
within_next (AttrValue d) Text i w = tt
within_next (AttrTail d) Open i w = within_open d (i + 1) (ltb d 8)
within_next Done Open i w = tt
within_next _ _ i w = tt

pub within_by : (e : Expect) (x : Shape) (e' : Expect) (i : ℕ) → next e x ≡ Some e' → Within e i → Within e' (i + 1)
within_by e x e' i h w = subst (λ (o : Option Expect). WithinO o (i + 1)) h (within_next e x i w)

pub tokens_at : (ts : List Token) (i : ℕ) (d : Token) → i < length ts → map lexeme (drop i ts) ≡ lexeme (get_or ts i d) ∷ map lexeme (drop (i + 1) ts)
tokens_at ts i d h = rw (add-one, drop-cons ts i d h) refl

-- The same at the token i of a slice.
pub stuck_at : (ts : List Token) (p : Parser) (i : ℕ) (d : Token) → i < length ts → Reads (map lexeme ts) p (map lexeme (drop i ts)) → (e : BuildError)
    → StopsWith p (lexeme (get_or ts i d)) e → ErrorIs (GrammarFault (map lexeme ts)) e
stuck_at ts p i d h r e s =
    stuck (map lexeme ts) p (lexeme (get_or ts i d)) (map lexeme (drop (i + 1) ts)) (subst (λ (x : List Lexeme). Reads (map lexeme ts) p x) (tokens_at ts i d h) r) e s

pub reads_at : (ts : List Token) (p q : Parser) (i : ℕ) (d : Token) → i < length ts → Reads (map lexeme ts) p (map lexeme (drop i ts))
    → IsTokenStep p q (lexeme (get_or ts i d)) → Reads (map lexeme ts) q (map lexeme (drop (i + 1) ts))
reads_at ts p q i d h r m =
    reads_next (map lexeme ts) p q (lexeme (get_or ts i d)) (map lexeme (drop (i + 1) ts)) (subst (λ (x : List Lexeme). Reads (map lexeme ts) p x) (tokens_at ts i d h) r) m

pub reads_end : (ts : List Token) (p : Parser) (i : ℕ) → length ts ≤ i → Reads (map lexeme ts) p (map lexeme (drop i ts)) → Reads (map lexeme ts) p []
reads_end ts p i h r = subst (λ (x : List Token). Reads (map lexeme ts) p (map lexeme x)) (drop_of_length-le ts {i = i} h) r
