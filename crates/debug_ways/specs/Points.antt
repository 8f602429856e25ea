-- Breakpoints and watchpoints.
use Rattle.std.specs.Prelude.{ℕ, ◌+◌, ◌==◌, ◌&&◌, ◌||◌, nat_lt, List, filter, [], ◌∷◌, ◌++◌, Option, None, Some, Bool, false, not, length, if◌then◌else◌}
use Rattle.debug_ways.specs.declared.standing.Access.{Access}
use Rattle.debug_ways.specs.declared.points.Point.{Point}
use Rattle.debug_ways.specs.declared.points.Watch.{Watch}

-- two points are one
abbrev pub is_point : Point → Point → Bool
is_point one other = one.kind == other.kind && (one.address == other.address && one.length == other.length)

-- a point is among others
abbrev pub is_among : Point → List Point → Bool
is_among point [] = false
is_among point (other ∷ points) = is_point point other || is_among point points

-- the kind of the first breakpoint at an address
abbrev pub breakpoint_kind : List Point → ℕ → Option ℕ
breakpoint_kind [] pc = None
breakpoint_kind (point ∷ points) pc = if nat_lt point.kind 2 && point.address == pc then Some point.kind else breakpoint_kind points pc

-- a watchpoint is for such an access: 2 for stores, 3 for loads, 4 for both
abbrev pub is_for : Point → Access → Bool
is_for point access = point.kind == 4 || (if access.stores then point.kind == 2 else point.kind == 3)

-- a watchpoint and an access have an address in common
abbrev pub meets : Point → Access → Bool
meets point access =
    is_for point access && (nat_lt access.address (point.address + point.length) && nat_lt point.address (access.address + access.length))

-- the greater one
abbrev pub greater : ℕ → ℕ → ℕ
greater one other = if nat_lt one other then other else one

-- the first watchpoint that an access meets, with the first address that they have in common
abbrev pub first_watch : List Point → Access → Option Watch
first_watch [] access = None
first_watch (point ∷ points) access =
    if meets point access then Some (record { kind = point.kind; address = greater point.address access.address }) else first_watch points access

-- that of an instruction, which may be no access
abbrev pub watched : List Point → Option Access → Option Watch
watched points None = None
watched points (Some access) = first_watch points access

-- the most points that there may be
abbrev pub point_limit : ℕ
point_limit = 1000

-- the points with one more, unless it is among them or there are too many
abbrev pub with_point : List Point → Point → List Point
with_point points point = if is_among point points || not (nat_lt (length points) point_limit) then points else points ++ point ∷ []

-- the points without one
abbrev pub without_point : List Point → Point → List Point
without_point points point = filter (λ other. not (is_point point other)) points
