-- The limits of an alarm's counter (OIL 2.5, section 3.2.8). Where the counter or one of its limits is missing or refused, the widest takes its place.
use Rattle.std.specs.Prelude.{◌≡◌, ℕ, ◌&&◌, if◌then◌else◌, nat_le, List, [], ◌∷◌, find, codes, Option, Some, None}
use Rattle.sloth_base.specs.Limits.{tick_limit}
use Rattle.oil_parse.specs.declared.tree.OilAttr.{OilAttr}
use Rattle.oil_parse.specs.declared.tree.OilObject.{OilObject}
use Rattle.oil_table.specs.Objects.{is_use, is_of_kind, names_of, object_named, first_number}
use Rattle.oil_table.specs.declared.counter_limits.Limits.{Limits}

-- a number that a limit may be, else what stands in its place
abbrev pub limit_by : Option ℕ → ℕ → ℕ
limit_by None other = other
limit_by (Some number) other = if nat_le 1 number && nat_le number tick_limit then number else other

-- the limits of a counter
abbrev pub limits_in : OilObject → Limits
limits_in counter = record {
  least = limit_by (first_number counter.attrs (codes "MINCYCLE")) 1;
  greatest = limit_by (first_number counter.attrs (codes "MAXALLOWEDVALUE")) tick_limit;
}

-- the same where there may be none
abbrev pub limits_given : Option OilObject → Limits
limits_given None = record { least = 1; greatest = tick_limit }
limits_given (Some counter) = limits_in counter

-- the limits of the counter that an alarm with these attributes names
abbrev pub limits_of : List OilObject → List OilAttr → Limits
limits_of objects attrs = limits_given (object_named objects (codes "COUNTER") (find (is_use (codes "COUNTER")) attrs))

-- the limits of the counters among these objects
abbrev pub limits_among : List OilObject → List Limits
limits_among [] = []
limits_among (object ∷ objects) = if is_of_kind (codes "COUNTER") object then limits_in object ∷ limits_among objects else limits_among objects

-- what is kept of the counters among these objects
pub record AreCounters (objects : List OilObject) (names : List (List ℕ)) (limits : List Limits) : Type 0 where
  pub named : names ≡ names_of (codes "COUNTER") objects
  pub limited : limits ≡ limits_among objects
