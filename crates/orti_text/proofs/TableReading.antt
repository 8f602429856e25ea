-- The text of a table is read as this table.
use Rattle.std.proofs.Common.{◌≡◌, ◌∙◌, ℕ, zero, suc, ◌+◌, ◌≤◌, ◌==◌, Bool, true, false, cond, List, [], ◌∷◌, ◌++◌, Some, None, append_assoc, append-nil, arith, length, length-append, refl, sym, ap}
use Rattle.std.specs.Prelude.{bytes_eq, codes, decimal, Option}
use Rattle.std.specs.List.{AllByRecursion, find, flat_map}
use Rattle.std.proofs.lemmas.Bool.{eq-eqb}
use Rattle.text_pieces.specs.Bytes.{before, behind}
use Rattle.text_pieces.proofs.Cuts.{before_is, behind_is}
use Rattle.orti_text.specs.FormulaReading.{Reading, after_word, or_else, ◌>>=◌}
use Rattle.orti_text.specs.Formulas.{Formula}
use Rattle.orti_text.specs.TableReading.{AreValues, IsAttribute, IsKind, IsMeaning, IsObject, IsValue, Lacks, TablesReadBack, at_end, depth_limit, one_more, read_all, read_attribute, read_before, read_file, read_kind, read_many, read_meaning, read_number_line, read_object, read_objects, read_value, read_values, read_word}
use Rattle.orti_text.specs.Tables.{Meaning, Whole, Plain, OneOf, Attribute, Kind, Value, Expression, Literal, Named, Object, Table, attribute_text, head_text, kind_text, meaning_text, number_line, number_lines, object_text, value_line, value_text}
use Rattle.orti_text.proofs.FormulaReading.{formulas_read_back}

-- ---- readers

pub word_back : (word rest : List ℕ) → after_word word (word ++ rest) ≡ Some rest
word_back [] rest = refl
word_back (b ∷ word) rest = rw (eq-eqb b b refl) (word_back word rest)

before_back : (stop : ℕ) (t rest : List ℕ) → (stop == stop) ≡ true → Lacks stop t → read_before stop (t ++ stop ∷ rest) ≡ Some (t, rest)
before_back stop t rest same h = rw (before_is stop t rest same h, behind_is stop t rest same h) refl

-- what things print, numbered from this number on
abbrev printed : {A : Type 0} → (ℕ → A → List ℕ) → ℕ → List A → List ℕ
printed print n [] = []
printed print n (x ∷ xs) = print n x ++ printed print (n + 1) xs

-- how a reader of things and what they print fit together, and where the things end
record Fits {A : Type 0} (print : ℕ → A → List ℕ) (read : ℕ → List ℕ → Reading A) (Good : A → Type 0) (tail : List ℕ) : Type 0 where
  back : (n : ℕ) (x : A) (rest : List ℕ) → Good x → read n (print n x ++ rest) ≡ Some (x, rest)
  ends : (n : ℕ) → read n tail ≡ None
  some : (n : ℕ) (x : A) → 1 ≤ length (print n x)

module _ {A : Type 0} (print : ℕ → A → List ℕ) (read : ℕ → List ℕ → Reading A) (Good : A → Type 0) (tail : List ℕ) (fits : Fits print read Good tail) where
  many_back : (limit n : ℕ) (xs : List A) → AllByRecursion Good xs → length xs ≤ limit → read_many limit read n (printed print n xs ++ tail) ≡ (xs, tail)
  many_back zero n [] h few = refl
  many_back (suc limit) n [] h few = ap (λ (r : Reading A). one_more r (λ rest. read_many limit read (n + 1) rest) tail) (fits.ends n)
  many_back zero n (x ∷ xs) h few = absurd (omega (arith, few))
  many_back (suc limit) n (x ∷ xs) h few =
      let behind_x = printed print (n + 1) xs ++ tail in
      let next : List ℕ → List A × List ℕ = λ rest. read_many limit read (n + 1) rest in
      let whole = (print n x ++ printed print (n + 1) xs) ++ tail in
      ap (λ t. one_more (read n t) next t) (append_assoc (print n x) (printed print (n + 1) xs) tail)
      ∙ ap (λ (r : Reading A). one_more r next (print n x ++ behind_x)) (fits.back n x behind_x h.0)
      ∙ ap (λ (r : List A × List ℕ). (x ∷ r.0, r.1)) (many_back limit (n + 1) xs h.1 (omega (arith, few)))

  long : (n : ℕ) (xs : List A) → length xs ≤ length (printed print n xs)
  long n [] = omega arith
  long n (x ∷ xs) =
      let one = fits.some n x in
      let more = long (n + 1) xs in
      let sum = length-append (print n x) (printed print (n + 1) xs) in
      omega (arith, one, more, sum)

  all_back : (xs : List A) → AllByRecursion Good xs → read_all read (printed print 0 xs ++ tail) ≡ (xs, tail)
  all_back xs h =
      let few = long 0 xs in
      let sum = length-append (printed print 0 xs) tail in
      many_back (length (printed print 0 xs ++ tail)) 0 xs h (omega (arith, few, sum))

flat_is : {A : Type 0} (f : A → List ℕ) (n : ℕ) (xs : List A) → flat_map f xs ≡ printed (λ k x. f x) n xs
flat_is f n [] = refl
flat_is f n (x ∷ xs) = ap (λ l. f x ++ l) (flat_is f (n + 1) xs)

numbers_are : (n : ℕ) (names : List (List ℕ)) → number_lines n names ≡ printed number_line n names
numbers_are n [] = refl
numbers_are n (name ∷ names) = ap (λ l. number_line n name ++ l) (numbers_are (n + 1) names)

regrouped_four : (a b c d rest : List ℕ) → a ++ b ++ c ++ d ++ rest ≡ a ++ (b ++ (c ++ (d ++ rest)))
regrouped_four a b c d rest = simp append_assoc

regrouped_five : (a b c d e rest : List ℕ) → a ++ b ++ c ++ d ++ e ++ rest ≡ a ++ (b ++ (c ++ (d ++ (e ++ rest))))
regrouped_five a b c d e rest = simp append_assoc

regrouped_six : (a b c d e f rest : List ℕ) → a ++ b ++ c ++ d ++ e ++ f ++ rest ≡ a ++ (b ++ (c ++ (d ++ (e ++ (f ++ rest)))))
regrouped_six a b c d e f rest = simp append_assoc

regrouped_seven : (a b c d e f g rest : List ℕ) → a ++ b ++ c ++ d ++ e ++ f ++ g ++ rest ≡ a ++ (b ++ (c ++ (d ++ (e ++ (f ++ (g ++ rest))))))
regrouped_seven a b c d e f g rest = simp append_assoc

regrouped_eight : (a b c d e f g h rest : List ℕ)
    → a ++ b ++ c ++ d ++ e ++ f ++ g ++ h ++ rest ≡ a ++ (b ++ (c ++ (d ++ (e ++ (f ++ (g ++ (h ++ rest)))))))
regrouped_eight a b c d e f g h rest = simp append_assoc

-- ---- kinds

number_back : (n : ℕ) (name rest : List ℕ) → Lacks 34 name → read_number_line n (number_line n name ++ rest) ≡ Some (name, rest)
number_back n name rest h =
    let comma : List ℕ = cond (n == 0) [] (codes ",") in
    let after : List ℕ = codes " = " ++ (decimal n ++ rest) in
    let last : List ℕ × List ℕ → Reading (List ℕ) = λ v. after_word (codes " = " ++ decimal n) v.1 >>= (λ w. Some (v.0, w)) in
    let first : List ℕ → Reading (List ℕ) = λ t. after_word (codes "\n      \"") t >>= (λ u. read_before 34 u >>= last) in
    ap (read_number_line n) (regrouped_five comma (codes "\n      \"") name (codes "\" = ") (decimal n) rest)
    ∙ ap (λ (r : Option (List ℕ)). r >>= first) (word_back comma (codes "\n      \"" ++ (name ++ 34 ∷ after)))
    ∙ ap (λ (r : Reading (List ℕ)). r >>= last) (before_back 34 name after refl h)
    ∙ ap (λ (r : Option (List ℕ)). r >>= (λ w. Some (name, w))) (word_back (decimal n) rest)

numbers_end : (n : ℕ) (rest : List ℕ) → read_number_line n (codes "\n    ]" ++ rest) ≡ None
numbers_end n rest = by (n == 0)
  where
    more : List ℕ → Reading (List ℕ)
    more t = after_word (codes "\n      \"") t >>= (λ u. read_before 34 u >>= (λ v. after_word (codes " = " ++ decimal n) v.1 >>= (λ w. Some (v.0, w))))

    by : (b : Bool) → (after_word (cond b [] (codes ",")) (codes "\n    ]" ++ rest) >>= more) ≡ None
    by true = refl
    by false = refl

number_some : (n : ℕ) (name : List ℕ) → 1 ≤ length (number_line n name)
number_some n name =
    let front = cond (n == 0) [] (codes ",") ++ codes "\n      \"" ++ name in
    let a = length-append (front ++ codes "\" = ") (decimal n) in
    let b : length (front ++ codes "\" = ") ≡ length front + 4 = length-append front (codes "\" = ") in
    omega (arith, a, b)

meaning_back : (m : Meaning) (rest : List ℕ) → IsMeaning m → read_meaning (meaning_text m ++ rest) ≡ Some (m, rest)
meaning_back Whole rest h = refl
meaning_back Plain rest h = refl
meaning_back (OneOf names) rest h =
    let tail : List ℕ = codes "\n    ]" ++ rest in
    let fits : Fits number_line read_number_line (Lacks 34) tail =
    record { back = number_back; ends = λ n. numbers_end n rest; some = number_some } in
    let split = append_assoc (number_lines 0 names) (codes "\n    ]") rest ∙ ap (λ l. l ++ tail) (numbers_are 0 names) in
    let all = ap (read_all read_number_line) split ∙ all_back number_line read_number_line (Lacks 34) tail fits names h in
    ap (λ (r : List (List ℕ) × List ℕ). after_word (codes "\n    ]") r.1 >>= (λ w. Some (OneOf r.0, w))) all

traced_back : (b : Bool) (m : Meaning) (rest : List ℕ)
    → or_else (read_word (codes "TOTRACE ") true (cond b (codes "TOTRACE ") [] ++ (meaning_text m ++ rest))) (Some (false, cond b (codes "TOTRACE ") [] ++ (meaning_text m ++ rest)))
    ≡ Some (b, meaning_text m ++ rest)
traced_back true m rest = refl
traced_back false Whole rest = refl
traced_back false Plain rest = refl
traced_back false (OneOf names) rest = refl

attribute_back : (n : ℕ) (a : Attribute) (rest : List ℕ) → IsAttribute a → read_attribute n (attribute_text a ++ rest) ≡ Some (a, rest)
attribute_back n a rest h =
    let behind_about : List ℕ = codes ";\n" ++ rest in
    let behind_name : List ℕ = codes " \"" ++ (a.about ++ 34 ∷ behind_about) in
    let behind_meaning : List ℕ = codes " " ++ (a.name ++ 44 ∷ behind_name) in
    let k_about : Bool → Meaning → List ℕ → List ℕ × List ℕ → Reading Attribute =
    λ t m name about. after_word (codes ";\n") about.1 >>= (λ w. Some (record { traced = t; meaning = m; name = name; about = about.0 }, w)) in
    let k_name : Bool → Meaning → List ℕ × List ℕ → Reading Attribute =
    λ t m name. after_word (codes " \"") name.1 >>= (λ u. read_before 34 u >>= k_about t m name.0) in
    let k_meaning : Bool → Meaning × List ℕ → Reading Attribute =
    λ t m. after_word (codes " ") m.1 >>= (λ u. read_before 44 u >>= k_name t m.0) in
    let k_traced : Bool × List ℕ → Reading Attribute = λ t. read_meaning t.1 >>= k_meaning t.0 in
    ap (read_attribute n) (regrouped_eight (codes "    ") (cond a.traced (codes "TOTRACE ") []) (meaning_text a.meaning) (codes " ") a.name (codes ", \"") a.about (codes "\";\n") rest)
    ∙ ap (λ (r : Reading Bool). r >>= k_traced) (traced_back a.traced a.meaning behind_meaning)
    ∙ ap (λ (r : Reading Meaning). r >>= k_meaning a.traced) (meaning_back a.meaning behind_meaning h.meaning)
    ∙ ap (λ (r : Reading (List ℕ)). r >>= k_name a.traced a.meaning) (before_back 44 a.name behind_name refl h.name)
    ∙ ap (λ (r : Reading (List ℕ)). r >>= k_about a.traced a.meaning a.name) (before_back 34 a.about behind_about refl h.about)

attribute_some : (n : ℕ) (a : Attribute) → 1 ≤ length (attribute_text a)
attribute_some n a =
    let front = codes "    " ++ cond a.traced (codes "TOTRACE ") [] ++ meaning_text a.meaning ++ codes " " ++ a.name ++ codes ", \"" ++ a.about in
    let b : length (front ++ codes "\";\n") ≡ length front + 3 = length-append front (codes "\";\n") in
    omega (arith, b)

kind_some : (n : ℕ) (k : Kind) → 1 ≤ length (kind_text k)
kind_some n k =
    let front = codes "  " ++ k.word ++ codes " {\n" ++ flat_map attribute_text k.attributes ++ codes "  }, \"" ++ k.about in
    let b : length (front ++ codes "\";\n") ≡ length front + 3 = length-append front (codes "\";\n") in
    omega (arith, b)

kind_back : (n : ℕ) (k : Kind) (rest : List ℕ) → IsKind k → read_kind n (kind_text k ++ rest) ≡ Some (k, rest)
kind_back n k rest h =
    let behind_about : List ℕ = codes ";\n" ++ rest in
    let tail : List ℕ = codes "  }, \"" ++ (k.about ++ 34 ∷ behind_about) in
    let lines = flat_map attribute_text k.attributes in
    let behind_word : List ℕ = codes "{\n" ++ (lines ++ tail) in
    let fits : Fits (λ (i : ℕ) (x : Attribute). attribute_text x) read_attribute IsAttribute tail =
    record { back = attribute_back; ends = λ i. refl; some = attribute_some } in
    let all = ap (λ l. read_all read_attribute (l ++ tail)) (flat_is attribute_text 0 k.attributes)
    ∙ all_back (λ (i : ℕ) (x : Attribute). attribute_text x) read_attribute IsAttribute tail fits k.attributes h.attributes in
    let k_about : List Attribute → List ℕ × List ℕ → Reading Kind =
    λ attributes about. after_word (codes ";\n") about.1 >>= (λ w. Some (record { word = k.word; attributes = attributes; about = about.0 }, w)) in
    let k_all : List Attribute × List ℕ → Reading Kind = λ r. after_word (codes "  }, \"") r.1 >>= (λ u. read_before 34 u >>= k_about r.0) in
    let k_word : List ℕ × List ℕ → Reading Kind =
    λ word. after_word (codes "{\n") word.1 >>= (λ u. after_word (codes "  }, \"") (read_all read_attribute u).1 >>= (λ v. read_before 34 v >>=
    (λ about. after_word (codes ";\n") about.1 >>= (λ w. Some (record { word = word.0; attributes = (read_all read_attribute u).0; about = about.0 }, w))))) in
    ap (read_kind n) (regrouped_seven (codes "  ") k.word (codes " {\n") lines (codes "  }, \"") k.about (codes "\";\n") rest)
    ∙ ap (λ (r : Reading (List ℕ)). r >>= k_word) (before_back 32 k.word behind_word refl h.word)
    ∙ ap k_all all
    ∙ ap (λ (r : Reading (List ℕ)). r >>= k_about k.attributes) (before_back 34 k.about behind_about refl h.about)

-- ---- objects

value_back : (m : Meaning) (v : Value) (rest : List ℕ) → IsValue m v → read_value m (value_text v ++ 34 ∷ rest) ≡ Some (v, 34 ∷ rest)
value_back Plain (Literal t) rest h = rw (before_is 34 t rest refl h, behind_is 34 t rest refl h) refl
value_back Plain (Expression f) rest h = absurd h
value_back Whole (Literal t) rest h = absurd h
value_back Whole (Expression f) rest h =
    ap (λ (r : Reading Formula). r >>= (λ x. Some (Expression x.0, x.1))) (formulas_read_back f depth_limit (34 ∷ rest) h.0 h.1 (refl, refl, refl))
value_back (OneOf names) (Literal t) rest h = absurd h
value_back (OneOf names) (Expression f) rest h =
    ap (λ (r : Reading Formula). r >>= (λ x. Some (Expression x.0, x.1))) (formulas_read_back f depth_limit (34 ∷ rest) h.0 h.1 (refl, refl, refl))

values_back : (attributes : List Attribute) (values : List Named) (rest : List ℕ) → AreValues attributes values
    → read_values attributes (flat_map value_line values ++ rest) ≡ Some (values, rest)
values_back [] [] rest h = refl
values_back [] (v ∷ values) rest h = absurd h
values_back (a ∷ attributes) [] rest h = absurd h
values_back (a ∷ attributes) (v ∷ values) rest h =
    let others = flat_map value_line values in
    let behind_value : List ℕ = codes ";\n" ++ (others ++ rest) in
    let named : List ℕ → List ℕ = λ name. codes "  " ++ name ++ codes " = \"" in
    let k_values : Value → List Named × List ℕ → Reading (List Named) = λ x r. Some (record { name = a.name; value = x } ∷ r.0, r.1) in
    let k_value : Value × List ℕ → Reading (List Named) =
    λ x. after_word (codes "\";\n") x.1 >>= (λ u. read_values attributes u >>= k_values x.0) in
    let k_name : List ℕ → Reading (List Named) = λ u. read_value a.meaning u >>= k_value in
    let one : List ℕ = named v.name ++ (value_text v.value ++ 34 ∷ behind_value) in
    let split : flat_map value_line (v ∷ values) ++ rest ≡ one =
    append_assoc (value_line v) others rest ∙ regrouped_five (codes "  ") v.name (codes " = \"") (value_text v.value) (codes "\";\n") (others ++ rest)
    ∙ sym (append_assoc (codes "  " ++ v.name) (codes " = \"") (value_text v.value ++ 34 ∷ behind_value) ∙ append_assoc (codes "  ") v.name (codes " = \"" ++ (value_text v.value ++ 34 ∷ behind_value))) in
    ap (read_values (a ∷ attributes)) (split ∙ ap (λ name. named name ++ (value_text v.value ++ 34 ∷ behind_value)) h.0)
    ∙ ap (λ (r : Option (List ℕ)). r >>= k_name) (word_back (named a.name) (value_text v.value ++ 34 ∷ behind_value))
    ∙ ap (λ (r : Reading Value). r >>= k_value) (value_back a.meaning v.value behind_value h.1)
    ∙ ap (λ (r : Reading (List Named)). r >>= k_values v.value) (values_back attributes values rest h.2)
    ∙ ap (λ name. Some (record { name = name; value = v.value } ∷ values, rest)) (sym h.0)

module _ (kinds : List Kind) where
  object_back : (n : ℕ) (o : Object) (rest : List ℕ) → IsObject kinds o → read_object kinds n (object_text o ++ rest) ≡ Some (o, rest)
  object_back n o rest h =
      let tail : List ℕ = codes "};\n" ++ rest in
      let lines = flat_map value_line o.values in
      let behind_name : List ℕ = codes "{\n" ++ (lines ++ tail) in
      let behind_word : List ℕ = o.name ++ 32 ∷ behind_name in
      let k_values : List ℕ → List ℕ → List Named × List ℕ → Reading Object =
      λ word name r. after_word (codes "};\n") r.1 >>= (λ w. Some (record { kind = word; name = name; values = r.0 }, w)) in
      let k_name : List ℕ → Kind → List ℕ × List ℕ → Reading Object =
      λ word kind name. after_word (codes "{\n") name.1 >>= (λ u. read_values kind.attributes u >>= k_values word name.0) in
      let k_kind : List ℕ → List ℕ → Kind → Reading Object = λ word u kind. read_before 32 u >>= k_name word kind in
      let k_word : List ℕ × List ℕ → Reading Object = λ word. find (λ k. bytes_eq k.word word.0) kinds >>= k_kind word.0 word.1 in
      ap (read_object kinds n) (regrouped_six o.kind (codes " ") o.name (codes " {\n") lines (codes "};\n") rest)
      ∙ ap (λ (r : Reading (List ℕ)). r >>= k_word) (before_back 32 o.kind behind_word refl h.word)
      ∙ ap (λ (r : Option Kind). r >>= k_kind o.kind behind_word) h.found
      ∙ ap (λ (r : Reading (List ℕ)). r >>= k_name o.kind h.kind) (before_back 32 o.name behind_name refl h.name)
      ∙ ap (λ (r : Reading (List Named)). r >>= k_values o.kind o.name) (values_back h.kind.attributes o.values tail h.values)

  objects_end : (n : ℕ) → read_object kinds n [] ≡ None
  objects_end n = by (find (λ k. bytes_eq k.word (before 32 [])) kinds)
    where
      more : Kind → Reading Object
      more kind = read_before 32 (behind 32 []) >>= (λ name. after_word (codes "{\n") name.1 >>= (λ u. read_values kind.attributes u >>=
          (λ r. after_word (codes "};\n") r.1 >>= (λ w. Some (record { kind = before 32 []; name = name.0; values = r.0 }, w)))))

      by : (found : Option Kind) → (found >>= more) ≡ None
      by None = refl
      by (Some kind) = refl

  object_some : (n : ℕ) (o : Object) → 1 ≤ length (object_text o)
  object_some n o =
      let front = o.kind ++ codes " " ++ o.name ++ codes " {\n" ++ flat_map value_line o.values in
      let a : length (front ++ codes "};\n") ≡ length front + 3 = length-append front (codes "};\n") in
      omega (arith, a)

-- ---- files

pub tables_read_back : TablesReadBack
tables_read_back t h =
    let kinds = flat_map kind_text t.kinds in
    let objects = flat_map object_text t.objects in
    let tail : List ℕ = codes "};\n" ++ objects in
    let kinds_fit : Fits (λ (i : ℕ) (x : Kind). kind_text x) read_kind IsKind tail =
    record { back = kind_back; ends = λ i. refl; some = kind_some } in
    let all_kinds = ap (λ l. read_all read_kind (l ++ tail)) (flat_is kind_text 0 t.kinds)
    ∙ all_back (λ (i : ℕ) (x : Kind). kind_text x) read_kind IsKind tail kinds_fit t.kinds h.kinds in
    let objects_fit : Fits (λ (i : ℕ) (x : Object). object_text x) (read_object t.kinds) (IsObject t.kinds) [] =
    record { back = object_back t.kinds; ends = objects_end t.kinds; some = object_some t.kinds } in
    let all_objects = ap (read_all (read_object t.kinds)) (flat_is object_text 0 t.objects ∙ sym (append-nil _))
    ∙ all_back (λ (i : ℕ) (x : Object). object_text x) (read_object t.kinds) (IsObject t.kinds) [] objects_fit t.objects h.objects in
    let k_kinds : List Kind × List ℕ → Option Table = λ r. after_word (codes "};\n") r.1 >>= read_objects r.0 in
    let k_head : List ℕ → Option Table = λ u. after_word (codes "};\n") (read_all read_kind u).1 >>= read_objects (read_all read_kind u).0 in
    ap read_file (append_assoc (head_text ++ kinds) (codes "};\n") objects ∙ append_assoc head_text kinds tail)
    ∙ ap (λ (r : Option (List ℕ)). r >>= k_head) (word_back head_text (kinds ++ tail))
    ∙ ap k_kinds all_kinds
    ∙ ap (λ (r : List Object × List ℕ). at_end (record { kinds = t.kinds; objects = r.0 }) r.1) all_objects
