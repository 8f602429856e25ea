-- The words of a text's tree are words.
use Rattle.std.proofs.Common.{◌≡◌, ℕ, Bool, true, false, cond, List, [], ◌∷◌, ◌++◌, refl, get_or}
use Rattle.std.specs.Prelude.{◌==◌, All}
use Rattle.std.specs.List.{AllByRecursion}
use Rattle.std.proofs.lemmas.List.Elements.{All-from_recursion}
use Rattle.sloth_base.specs.ImageRange.{IsWord}
use Rattle.oil_parse.specs.declared.tree.TokenKind.{TokenKind}
use Rattle.oil_parse.specs.declared.tree.TokenKind.TheVariants as token
use Rattle.oil_parse.specs.Tokens.{Lexeme}
use Rattle.oil_parse.proofs.TokenWords.{Spelled, tokens_spelled}
use Rattle.oil_parse.specs.declared.machine.Key.{Key}
use Rattle.oil_parse.specs.declared.machine.Shape.TheVariants.{Word, Open, Close, Equals, Semicolon, Colon, Other}
use Rattle.oil_parse.specs.declared.tree.OilAttr.{OilAttr}
use Rattle.oil_parse.specs.declared.tree.OilObject.{OilObject}
use Rattle.oil_parse.specs.declared.tree.OilTree.{OilTree}
use Rattle.oil_parse.specs.Shapes.{shape_by, sign_of, IsWordToken}
use Rattle.oil_parse.specs.Grammar.{value_by, attr_of, IsAttrs, no_attr, attr, block, IsOilObject, plain_object, block_object, IsObjects, no_object, object, IsFile, file}
use Rattle.oil_parse.specs.Text.{HasTree}
use Rattle.oil_parse.specs.Words.{IsValueOfWord, IsAttrOfWords, IsObjectOfWords}

no_sign : (a b c d e : Bool) (k : Key) → cond a Open (cond b Close (cond c Equals (cond d Semicolon (cond e Colon Other)))) ≡ Word k → ⊥
no_sign true b c d e k h = cc
no_sign false true c d e k h = cc
no_sign false false true d e k h = cc
no_sign false false false true e k h = cc
no_sign false false false false true k h = cc
no_sign false false false false false k h = cc

word_kind : (kind : TokenKind) (bytes : List ℕ) (k : Key) → shape_by kind bytes ≡ Word k → kind ≡ token.Word
unfolding shape_by sign_of
word_kind token.Word bytes k h = refl
word_kind (token.Number n) bytes k h = cc
word_kind token.Text bytes k h = cc
word_kind token.Sign bytes k h =
    absurd (no_sign (get_or bytes 0 0 == 123) (get_or bytes 0 0 == 125) (get_or bytes 0 0 == 61) (get_or bytes 0 0 == 59) (get_or bytes 0 0 == 58) k h)

word : (t : Lexeme) → IsWordToken t → Spelled t → IsWord t.bytes
word t w s = s (word_kind t.kind t.bytes w.0 w.1)

value_word : (kind : TokenKind) (bytes : List ℕ) → (kind ≡ token.Word → IsWord bytes) → IsValueOfWord (value_by kind bytes)
value_word token.Word bytes s = s refl
value_word (token.Number n) bytes s = tt
value_word token.Text bytes s = tt
value_word token.Sign bytes s = tt

-- the parts of a list
front_of : (P : Lexeme → Type 0) (ts us : List Lexeme) → AllByRecursion P (ts ++ us) → AllByRecursion P ts
front_of P [] us a = tt
front_of P (t ∷ ts) us a = (a.0, front_of P ts us a.1)

back_of : (P : Lexeme → Type 0) (ts us : List Lexeme) → AllByRecursion P (ts ++ us) → AllByRecursion P us
back_of P [] us a = a
back_of P (t ∷ ts) us a = back_of P ts us a.1

joined : (P : OilAttr → Type 0) (al bl : List OilAttr) → AllByRecursion P al → AllByRecursion P bl → AllByRecursion P (al ++ bl)
joined P [] bl a b = b
joined P (x ∷ al) bl a b = (a.0, joined P al bl a.1 b)

attr_words : (d : ℕ) (n v : Lexeme) → IsWordToken n → Spelled n → Spelled v → IsAttrOfWords (attr_of d n v)
attr_words d n v w s r = record { name = word n w s; value = value_word v.kind v.bytes r }

attrs_words : {d : ℕ} {ts : List Lexeme} {al : List OilAttr} → IsAttrs d ts al → AllByRecursion Spelled ts → AllByRecursion IsAttrOfWords al
attrs_words no_attr s = tt
attrs_words (attr {d} {n} {e} {v} f ts w q i g a) s = (attr_words d n v w s.0 s.1.1.0, attrs_words a (back_of Spelled f ts s.1.1.1))
attrs_words (block {d} {n} {e} {v} {o} c us f ts bl al k w q i p b z g a) s =
    let r = s.1.1.1.1 in (
      attr_words d n v w s.0 s.1.1.0,
      joined IsAttrOfWords bl al (attrs_words b (front_of Spelled us (c ∷ (f ++ ts)) r)) (attrs_words a (back_of Spelled f ts (back_of Spelled us (c ∷ (f ++ ts)) r).1)),
    )

object_words : {ts : List Lexeme} {o : OilObject} → IsOilObject ts o → AllByRecursion Spelled ts → IsObjectOfWords o
object_words (plain_object {k} {n} {f} v w g) s = record { kind = word k v s.0; name = word n w s.1.0; attrs = All-from_recursion IsAttrOfWords [] tt }
object_words (block_object {k} {n} {o} c us f {al} v w p a z g) s =
    record { kind = word k v s.0; name = word n w s.1.0; attrs = All-from_recursion IsAttrOfWords al (attrs_words a (front_of Spelled us (c ∷ f) s.1.1.1)) }

objects_words : {ts : List Lexeme} {os : List OilObject} → IsObjects ts os → AllByRecursion Spelled ts → AllByRecursion IsObjectOfWords os
objects_words no_object s = tt
objects_words (object ts us i a) s = (object_words i (front_of Spelled ts us s), objects_words a (back_of Spelled ts us s))

file_words : {ts : List Lexeme} {tree : OilTree} → IsFile ts tree → AllByRecursion Spelled ts → AllByRecursion IsObjectOfWords tree.objects
file_words (file c n o z hs xs us f h k w x q a y g) s =
    let r = back_of Spelled xs (c ∷ n ∷ o ∷ (us ++ z ∷ f)) (back_of Spelled hs (xs ++ (c ∷ n ∷ o ∷ (us ++ z ∷ f))) s) in
    objects_words a (front_of Spelled us (z ∷ f) r.1.1.1)

pub tree_words : (text : List ℕ) (tree : OilTree) → HasTree text tree → All IsObjectOfWords tree.objects
tree_words text tree h =
    All-from_recursion IsObjectOfWords tree.objects (file_words h.is_file (tokens_spelled text h.tokens h.are_tokens))
