-- The block behind the first use of an attribute, among all attributes of an object and among its blocks.
use Rattle.std.proofs.Common.{◌≡◌, ◌∙◌, ℕ, ◌<◌, Bool, true, false, cond, Some, List, [], ◌∷◌, length, take, get_or, suc, zero, refl, ap, sym, subst, arith}
use Rattle.std.specs.Prelude.{◌==◌, not, fold, find}
use Rattle.std.specs.List.{take_while}
use Rattle.std.specs.Str.{bytes_eq}
use Rattle.std.proofs.lemmas.Bool.{and_parts}
use Rattle.std.proofs.lemmas.List.Sums.{take_while-cons}
use Rattle.oil_parse.specs.declared.tree.OilAttr.{OilAttr}
use Rattle.oil_table.specs.declared.table.Place.{Place}
use Rattle.oil_table.specs.Table.{block_place}
use Rattle.oil_table.specs.Objects.{is_use}
use Rattle.oil_rules.specs.AttributeFaults.{opened_place}
use Rattle.oil_rules.specs.Blocks.{is_inner, BlockText, blocks_of, first_block}

not_true : (b : Bool) → not b ≡ true → b ≡ false
not_true true e = cc
not_true false e = refl

-- attributes of blocks open no place
record StaysOpen (place q : Place) (xs : List OilAttr) (j : ℕ) (e : OilAttr) : Type 0 where
  opened : fold (opened_place place) q (take j xs) ≡ q
  within : j < length xs
  same : get_or xs j e ≡ get_or (take_while is_inner xs) j e

stays_open : (place q : Place) (xs : List OilAttr) (j : ℕ) (e : OilAttr) → j < length (take_while is_inner xs) → StaysOpen place q xs j e
stays_open place q [] j e h = absurd (omega arith)
stays_open place q (x ∷ xs) j e h =
    by (λ k l. stays_open place q xs k e l) (is_inner x) refl j (subst (λ ys. j < length ys) (take_while-cons is_inner x xs) h)
  where
    by : ((k : ℕ) → k < length (take_while is_inner xs) → StaysOpen place q xs k e) → (b : Bool) → is_inner x ≡ b → (j : ℕ)
        → j < length (cond (is_inner x) (x ∷ take_while is_inner xs) []) → StaysOpen place q (x ∷ xs) j e
    by again false t j l = let m = subst (λ b. j < length (cond b (x ∷ take_while is_inner xs) [])) t l in absurd (omega (arith, m))
    by again true t zero l = record {
      opened = refl;
      within = omega arith;
      same = sym (ap (λ ys. get_or ys 0 e) (take_while-cons is_inner x xs ∙ ap (λ b. cond b (x ∷ take_while is_inner xs) []) t));
    }
    by again true t (suc j) l =
        let m = subst (λ b. suc j < length (cond b (x ∷ take_while is_inner xs) [])) t l in
        let k = again j (omega (arith, m)) in
        let w = k.within in
        record {
          opened = ap (λ b. fold (opened_place place) (cond b (block_place place x) q) (take j xs)) (not_true (x.depth == 0) t) ∙ k.opened;
          within = omega (arith, w);
          same = k.same ∙ sym (ap (λ ys. get_or ys (suc j) e) (take_while-cons is_inner x xs ∙ ap (λ b. cond b (x ∷ take_while is_inner xs) []) t));
        }

-- an attribute of the block behind the first use of a name, among all attributes
pub record InFirst (place q : Place) (name : List ℕ) (attrs : List OilAttr) (j : ℕ) (e : OilAttr) : Type 0 where
  pub head : OilAttr
  pub found : find (is_use name) attrs ≡ Some head
  pub at : ℕ
  pub within : at < length attrs
  pub same : get_or attrs at e ≡ get_or (first_block name attrs) j e
  pub opened : fold (opened_place place) q (take at attrs) ≡ block_place place head

pub in_first : (place q : Place) (name : List ℕ) (attrs : List OilAttr) (j : ℕ) (e : OilAttr) → j < length (first_block name attrs) → InFirst place q name attrs j e
in_first place q name [] j e h = absurd (omega arith)
in_first place q name (x ∷ xs) j e h = by (in_first place (opened_place place q x) name xs j e) (is_use name x) refl h
  where
    by : (j < length (first_block name xs) → InFirst place (opened_place place q x) name xs j e) → (b : Bool) → is_use name x ≡ b
        → j < length (cond (is_use name x) (take_while is_inner xs) (first_block name xs)) → InFirst place q name (x ∷ xs) j e
    by ih true t l =
        let k = stays_open place (block_place place x) xs j e (subst (λ b. j < length (cond b (take_while is_inner xs) (first_block name xs))) t l) in
        let w = k.within in
        let own = (and_parts (x.depth == 0) (bytes_eq x.name name) t).0 in
        record {
          head = x;
          found = ap (λ b. cond b (Some x) (find (is_use name) xs)) t;
          at = suc j;
          within = omega (arith, w);
          same = k.same ∙ sym (ap (λ b. get_or (cond b (take_while is_inner xs) (first_block name xs)) j e) t);
          opened = ap (λ b. fold (opened_place place) (cond b (block_place place x) q) (take j xs)) own ∙ k.opened;
        }
    by ih false t l =
        let k = ih (subst (λ b. j < length (cond b (take_while is_inner xs) (first_block name xs))) t l) in
        let w = k.within in
        record {
          head = k.head;
          found = ap (λ b. cond b (Some x) (find (is_use name) xs)) t ∙ k.found;
          at = suc k.at;
          within = omega (arith, w);
          same = k.same ∙ sym (ap (λ b. get_or (cond b (take_while is_inner xs) (first_block name xs)) j e) t);
          opened = k.opened;
        }

-- the block behind the first use of a name, among the blocks
pub record IsBlock (name : List ℕ) (attrs : List OilAttr) (head : OilAttr) (d : BlockText) : Type 0 where
  pub at : ℕ
  pub within : at < length (blocks_of attrs)
  pub is : get_or (blocks_of attrs) at d ≡ record { head = head; inner = first_block name attrs }

pub is_block : (name : List ℕ) (attrs : List OilAttr) (head : OilAttr) (d : BlockText) → find (is_use name) attrs ≡ Some head → IsBlock name attrs head d
is_block name [] head d e = cc
is_block name (x ∷ xs) head d e = by (is_block name xs head d) (is_use name x) (is_inner x) refl refl
  where
    some_is : (a b : OilAttr) → Some a ≡ Some b → a ≡ b
    some_is a b e = cc

    outer : is_use name x ≡ true → is_inner x ≡ false
    outer t = ap not (and_parts (x.depth == 0) (bytes_eq x.name name) t).0

    by : (find (is_use name) xs ≡ Some head → IsBlock name xs head d) → (u i : Bool) → is_use name x ≡ u → is_inner x ≡ i → IsBlock name (x ∷ xs) head d
    by ih true true t s = let z : true ≡ false = sym s ∙ outer t in cc
    by ih true false t s =
        let same : x ≡ head = some_is x head (ap (λ b. cond b (Some x) (find (is_use name) xs)) (sym t) ∙ e) in
        record {
          at = 0;
          within = rw s (omega arith);
          is = ap (λ b. get_or (cond b (blocks_of xs) (record { head = x; inner = take_while is_inner xs } ∷ blocks_of xs)) 0 d) s
              ∙ ap (λ (h : OilAttr). record { head = h; inner = take_while is_inner xs }) same
              ∙ sym (ap (λ b. record { head = head; inner = cond b (take_while is_inner xs) (first_block name xs) }) t);
        }
    by ih false true t s =
        let k = ih (ap (λ b. cond b (Some x) (find (is_use name) xs)) (sym t) ∙ e) in
        record {
          at = k.at;
          within = rw s k.within;
          is = ap (λ b. get_or (cond b (blocks_of xs) (record { head = x; inner = take_while is_inner xs } ∷ blocks_of xs)) k.at d) s ∙ k.is
              ∙ sym (ap (λ b. record { head = head; inner = cond b (take_while is_inner xs) (first_block name xs) }) t);
        }
    by ih false false t s =
        let k = ih (ap (λ b. cond b (Some x) (find (is_use name) xs)) (sym t) ∙ e) in
        let w = k.within in
        record {
          at = suc k.at;
          within = rw s (omega (arith, w));
          is = ap (λ b. get_or (cond b (blocks_of xs) (record { head = x; inner = take_while is_inner xs } ∷ blocks_of xs)) (suc k.at) d) s ∙ k.is
              ∙ sym (ap (λ b. record { head = head; inner = cond b (take_while is_inner xs) (first_block name xs) }) t);
        }
