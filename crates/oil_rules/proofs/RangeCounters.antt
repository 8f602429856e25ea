-- The counters of a tree without a fault are in range.
use Rattle.std.proofs.Common.{◌≡◌, ◌∙◌, inl, inr, ℕ, ◌<◌, ◌≤◌, Bool, true, false, cond, Some, None, List, [], ◌∷◌, length, get_or, refl, ap, sym, arith}
use Rattle.std.specs.Prelude.{◌||◌, ◌&&◌, nat_le, codes, find, unwrap_or}
use Rattle.std.specs.List.{list_any}
use Rattle.std.proofs.lemmas.Bool.{leb-true, le-leb, and_parts}
use Rattle.sloth_base.specs.ConfigRange.{IsCounter}
use Rattle.sloth_base.specs.declared.refusal.Code.TheVariants.{O11}
use Rattle.sloth_base.specs.declared.refusal.Part.TheVariants.{Oil}
use Rattle.sloth_base.specs.Limits.{tick_limit}
use Rattle.sloth_base.specs.Order.{NoFault}
use Rattle.sloth_base.proofs.Nowhere.{case_false}
use Rattle.oil_parse.specs.declared.tree.OilValue.{OilValue}
use Rattle.oil_parse.specs.declared.tree.OilValue.TheVariants.{Word, Number, Text}
use Rattle.oil_parse.specs.declared.tree.OilAttr.{OilAttr}
use Rattle.oil_parse.specs.declared.tree.OilObject.{OilObject}
use Rattle.oil_parse.specs.declared.tree.OilTree.{OilTree}
use Rattle.oil_table.specs.declared.table.Attribute.TheVariants.{Limit}
use Rattle.oil_table.specs.Table.{attribute_of, place_of, is_allowed}
use Rattle.oil_table.specs.Objects.{is_of_kind, is_use, is_used, first_number, number_of, number_given}
use Rattle.oil_rules.specs.ObjectFaults.{lacks_attribute}
use Rattle.oil_table.specs.AlarmCounters.{limit_by}
use Rattle.oil_rules.specs.ModelFaults.{ModelFault}
use Rattle.oil_rules.specs.Clocks.{declared_counter}
use Rattle.oil_rules.proofs.NoFaults.{inner_at}
use Rattle.oil_rules.proofs.Lists.{first_of}
use Rattle.oil_rules.proofs.Attributes.{allowed}

-- where no element passes, none is found
pub none_found : {X : Type 0} (p : X → Bool) (xs : List X) → list_any p xs ≡ false → find p xs ≡ None
none_found p [] e = refl
none_found p (x ∷ xs) e = by (none_found p xs) (p x) refl
  where
    by : (list_any p xs ≡ false → find p xs ≡ None) → (b : Bool) → p x ≡ b → find p (x ∷ xs) ≡ None
    by ih true t = let z : true ≡ false = sym (ap (λ b. b || list_any p xs) t) ∙ e in cc
    by ih false t = ap (λ b. cond b (Some x) (find p xs)) t ∙ ih (ap (λ b. b || list_any p xs) (sym t) ∙ e)

-- a limit of a counter is a number of this range
pub record IsLimit (value : OilValue) : Type 0 where
  pub number : ℕ
  pub is : number_of value ≡ Some number
  pub low : 1 ≤ number
  pub high : number ≤ tick_limit

limit_number : (value : OilValue) → is_allowed Limit value ≡ true → IsLimit value
limit_number (Word word) a = cc
limit_number (Number number) a =
    let p = and_parts (nat_le 1 number) (nat_le number tick_limit) a in
    record { number = number; is = refl; low = leb-true 1 number p.0; high = leb-true number tick_limit p.1 }
limit_number (Text bytes) a = cc

-- a number in range is its own limit
limit_is : (n other : ℕ) → 1 ≤ n → n ≤ tick_limit → limit_by (Some n) other ≡ n
limit_is n other l h = ap (λ b. cond (b && nat_le n tick_limit) n other) (le-leb 1 n l) ∙ ap (λ b. cond b n other) (le-leb n tick_limit h)

-- a limit that is given or has its default
pub record HasLimit (attrs : List OilAttr) (name : List ℕ) (other : ℕ) : Type 0 where
  pub low : 1 ≤ unwrap_or (first_number attrs name) other
  pub high : unwrap_or (first_number attrs name) other ≤ tick_limit
  -- what an alarm takes for it
  pub same : limit_by (first_number attrs name) other ≡ unwrap_or (first_number attrs name) other

module _ (tree : OilTree) (none : NoFault (ModelFault tree)) where
  pub lacking : (i : ℕ) (d : OilObject) → i < length tree.objects → lacks_attribute (get_or tree.objects i d) ≡ false
  lacking i d h = let o = get_or tree.objects i d in case_false Oil (lacks_attribute o) o.line O11 (λ r x. inner_at tree none i d h r (inl (inr (inl x))))

  module _ (i : ℕ) (d : OilObject) (within : i < length tree.objects) (counter : is_of_kind (codes "COUNTER") (get_or tree.objects i d) ≡ true) where
    limit_of : (name : List ℕ) (other : ℕ) → attribute_of (place_of (codes "COUNTER")) name ≡ Some Limit → 1 ≤ other → other ≤ tick_limit
        → HasLimit (get_or tree.objects i d).attrs name other
    limit_of name other listed low high = by (is_used (get_or tree.objects i d).attrs name) refl
      where
        by : (b : Bool) → is_used (get_or tree.objects i d).attrs name ≡ b → HasLimit (get_or tree.objects i d).attrs name other
        by true t =
            let o = get_or tree.objects i d in
            let f = first_of (is_use name) o.attrs t in
            let v = limit_number f.item.value (ap (λ (x : OilAttr). is_allowed Limit x.value) (sym f.stands)
            ∙ allowed tree none i d within (codes "COUNTER") name Limit listed f.place f.item f.within counter (ap (is_use name) f.stands ∙ f.passes)) in
            let e : first_number o.attrs name ≡ Some v.number = ap number_given f.found ∙ v.is in
            record {
              low = rw e v.low;
              high = rw e v.high;
              same = rw e (limit_is v.number other v.low v.high);
            }
        by false t =
            let o = get_or tree.objects i d in
            let e : first_number o.attrs name ≡ None = ap number_given (none_found (is_use name) o.attrs t) in
            record { low = rw e low; high = rw e high; same = rw e refl }

    pub max_limit : HasLimit (get_or tree.objects i d).attrs (codes "MAXALLOWEDVALUE") tick_limit
    max_limit = limit_of (codes "MAXALLOWEDVALUE") tick_limit refl (omega arith) (omega arith)

    pub cycle_limit : HasLimit (get_or tree.objects i d).attrs (codes "MINCYCLE") 1
    cycle_limit = limit_of (codes "MINCYCLE") 1 refl (omega arith) (omega arith)

    pub is_counter : IsCounter (declared_counter (get_or tree.objects i d))
    is_counter = record { max = (max_limit.low, max_limit.high); min_cycle = (cycle_limit.low, cycle_limit.high) }
