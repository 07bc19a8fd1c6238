-- The tries and handlers of a body, and the rules on them. After ECMA-335, Partition I.
use Rattle.std.specs.Prelude.{ℕ, ◌==◌, nat_lt, nat_le, min, Bool, true, false, not, ◌&&◌, ◌||◌, if◌then◌else◌, List, [], ◌∷◌, ◌++◌, flat_map, fold, Option, Some, None}
use Rattle.std.specs.List.{list_any}
use Rattle.type_tree.specs.Same.{is_same}
use Rattle.il_model.specs.declared.method.Sort.{Sort}
use Rattle.il_model.specs.declared.method.Sort.TheVariants as sort
use Rattle.il_model.specs.declared.method.Clause.{Clause}
use Rattle.cil_flow.specs.declared.region.Region.{Region}

abbrev pub try_of : Clause → Region
try_of c = record { from = c.from; to = c.to }

abbrev pub handler_of : Clause → Region
handler_of c = record { from = c.handler; to = c.end }

-- whether a region holds the instruction with this number
abbrev pub holds : Region → ℕ → Bool
holds r i = nat_le r.from i && nat_lt i r.to

-- whether a region begins with this instruction
abbrev pub begins : Region → ℕ → Bool
begins r i = (r.from == i) && nat_lt i r.to

-- whether a clause's try or handler holds the instruction
abbrev pub encloses : Clause → ℕ → Bool
encloses c i = holds (try_of c) i || holds (handler_of c) i

-- whether the instruction stands in a try or a handler
abbrev pub is_enclosed : List Clause → ℕ → Bool
is_enclosed cs i = list_any (λ c. encloses c i) cs

abbrev pub begins_try : List Clause → ℕ → Bool
begins_try cs i = list_any (λ c. begins (try_of c) i) cs

abbrev pub begins_handler : List Clause → ℕ → Bool
begins_handler cs i = list_any (λ c. begins (handler_of c) i) cs

-- whether going from one instruction to another leaves a region
abbrev pub goes_out : Region → ℕ → ℕ → Bool
goes_out r i j = holds r i && not (holds r j)

-- whether going from one instruction to another enters a region
abbrev pub goes_in : Region → ℕ → ℕ → Bool
goes_in r i j = not (holds r i) && holds r j

-- whether going from one instruction to another crosses a border of the clause; a try may be entered at its first instruction
abbrev pub crosses_clause : Clause → ℕ → ℕ → Bool
crosses_clause c i j =
    goes_out (try_of c) i j || goes_out (handler_of c) i j || goes_in (handler_of c) i j || (goes_in (try_of c) i j && not (c.from == j))

abbrev pub crosses : List Clause → ℕ → ℕ → Bool
crosses cs i j = list_any (λ c. crosses_clause c i j) cs

-- whether a region holds none of so many instructions
abbrev pub is_vacant : ℕ → Region → Bool
is_vacant count r = nat_le r.to r.from || nat_le count r.from

-- where a rule on a clause is judged: at the first instruction of its try, or at instruction 0 where it holds none
abbrev pub place_of_clause : ℕ → Clause → ℕ
place_of_clause count c = if is_vacant count (try_of c) then 0 else c.from

-- where a rule on two clauses is judged
abbrev pub place_of_both : ℕ → Clause → Clause → ℕ
place_of_both count a b = min (place_of_clause count a) (place_of_clause count b)

abbrev pub is_finally : Sort → Bool
is_finally (sort.Catch t) = false
is_finally sort.Finally = true

-- whether a handler stands before its try
abbrev pub stands_before : Clause → Bool
stands_before c = nat_lt c.handler c.from

-- whether the try begins with the first instruction of a handler, where the exception is on the stack
abbrev pub begins_in_handler : List Clause → Clause → Bool
begins_in_handler cs c = begins_handler cs c.from

-- the rules on one clause, among all of the body
abbrev pub is_bad_clause : ℕ → List Clause → Clause → Bool
is_bad_clause count cs c =
    is_finally c.sort || is_vacant count (try_of c) || is_vacant count (handler_of c) || stands_before c || begins_in_handler cs c

-- whether the first region begins earlier, and ends inside the second
abbrev pub runs_into : Region → Region → Bool
runs_into a b = nat_lt a.from b.from && nat_lt b.from a.to && nat_lt a.to b.to

-- whether two regions are neither nested nor apart
abbrev pub overlaps : Region → Region → Bool
overlaps a b = runs_into a b || runs_into b a

-- whether some region of the one clause overlaps one of the other
abbrev pub clauses_overlap : Clause → Clause → Bool
clauses_overlap a b =
    overlaps (try_of a) (try_of b) || overlaps (try_of a) (handler_of b) || overlaps (handler_of a) (try_of b) || overlaps (handler_of a) (handler_of b)

-- whether the try of the earlier clause holds that of the later one, which is smaller
abbrev pub holds_smaller : Clause → Clause → Bool
holds_smaller a b = nat_le a.from b.from && nat_le b.to a.to && (nat_lt a.from b.from || nat_lt b.to a.to)

-- whether two clauses catch different types
abbrev pub catch_differently : Sort → Sort → Bool
catch_differently (sort.Catch s) (sort.Catch t) = not (is_same s t)
catch_differently (sort.Catch s) sort.Finally = false
catch_differently sort.Finally (sort.Catch t) = false
catch_differently sort.Finally sort.Finally = false

-- whether the handlers of two clauses of different types begin with one instruction
abbrev pub share_handler : Clause → Clause → Bool
share_handler a b = (a.handler == b.handler) && catch_differently a.sort b.sort

-- the rules on two clauses, the first of which stands no later in the list
abbrev pub is_bad_pair : Clause → Clause → Bool
is_bad_pair a b = clauses_overlap a b || holds_smaller a b || share_handler a b

-- a number, if there is a reason to name it
abbrev pub place_if : Bool → ℕ → List ℕ
place_if b at = if b then (at ∷ []) else []

-- where the rules on a clause and on it and those from it on are broken
abbrev pub places_with : ℕ → Clause → List Clause → List ℕ
places_with count c later = flat_map (λ b. place_if (is_bad_pair c b) (place_of_both count c b)) later

abbrev pub places_of_clause : ℕ → List Clause → Clause → List ℕ
places_of_clause count cs c = place_if (is_bad_clause count cs c) (place_of_clause count c)

-- where the rules on one clause are broken, among all of the body
abbrev pub places_of_clauses : ℕ → List Clause → List Clause → List ℕ
places_of_clauses count cs judged = flat_map (places_of_clause count cs) judged

-- where the rules on pairs are broken
abbrev pub places_of_pairs : ℕ → List Clause → List ℕ
places_of_pairs count [] = []
places_of_pairs count (c ∷ cs) = places_with count c (c ∷ cs) ++ places_of_pairs count cs

-- the places at which a rule on one clause or on two is broken, in a body of so many instructions
abbrev pub bad_places : ℕ → List Clause → List ℕ
bad_places count cs = places_of_clauses count cs cs ++ places_of_pairs count cs

-- the lower of a number and the lowest one so far
abbrev pub lower : Option ℕ → ℕ → Option ℕ
lower None at = Some at
lower (Some lowest) at = Some (min lowest at)

-- the lower one, where the number counts
abbrev pub lower_if : Option ℕ → Bool → ℕ → Option ℕ
lower_if lowest b at = if b then lower lowest at else lowest

abbrev pub lowest : List ℕ → Option ℕ
lowest numbers = fold lower None numbers

-- the lowest place at which a rule on clauses is broken
abbrev pub first_bad_place : ℕ → List Clause → Option ℕ
first_bad_place count cs = lowest (bad_places count cs)
