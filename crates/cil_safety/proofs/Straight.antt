-- Forms that make no call and touch no object: constants, arguments and locals, arithmetic, conversions, comparisons and branches.
use Rattle.std.proofs.Common.{◌≡◌, ◌⊎◌, inl, inr, ⊎_elim, ℕ, suc, ◌%◌, ◌^◌, ◌<◌, List, [], ◌∷◌, Bool, true, false, Option, Some, None, refl, sym, ap, ◌∙◌, subst, arith, eq-eqb}
use Rattle.std.specs.Prelude.{◌==◌, ◌&&◌, ◌||◌, if◌then◌else◌, slice_get}
use Rattle.type_tree.specs.declared.tree.TExpr.{TExpr}
use Rattle.il_model.specs.declared.program.Program.{Program}
use Rattle.interaction.specs.Process.{Naming, Stuck}
use Rattle.store_object.specs.Store.{Store}
use Rattle.cil_flow.specs.declared.state.StackType.{StackType}
use Rattle.cil_flow.specs.declared.state.StackType.TheVariants as stack
use Rattle.cil_verify.specs.Places.{View}
use Rattle.cil_verify.specs.Fits.{is_int32, is_int64, is_number, is_object, is_null}
use Rattle.cil_verify.specs.Rows as rows
use Rattle.cil_verify.specs.Admits.{Operands, combined, shifted, changed, are_numbers, may_compare, may_test, take_one, take_two, push}
use Rattle.cil_meaning.specs.Words.{low_32, narrow, signed}
use Rattle.cil_meaning.specs.Values.{Kind, Value, Plain, Managed, is_struct, is_int32 as is_int32_kind}
use Rattle.cil_meaning.specs.Values as kind
use Rattle.cil_meaning.specs.Naming.{Mention, IsNaming, put_type}
use Rattle.cil_meaning.specs.Replies.{Left}
use Rattle.cil_meaning.specs.Search.{divide_by_zero, overflow, null_reference, index_out_of_range, invalid_cast, array_type_mismatch}
use Rattle.cil_meaning.specs.Site.{Site, goes, goes_to, throws}
use Rattle.cil_meaning.specs.Pieces.{pops, as_word}
use Rattle.cil_meaning.specs.Groups.{Rests, Copies, Drops, Pushes, Wrapping, Checked, Division, Shift, Unary, Conversion, ToInt32, ToInt64, ToUnsigned64, ToInt32Checked, Comparison, Wraps, Checks, Divides, Shifts, Turns, Converts, Compares, Jumps, JumpsWhere, JumpsBy, Chooses}
use Rattle.cil_meaning.specs.Arithmetic.{Width, Narrow, Wide, kind_at, at_width, same_width, two_words, two_numbers, wrapping_of, exact_of, is_signed_of, fits, fits_signed, divided, divides_past, shifted_by, turned, wrapped_int, are_compared, admits_references, compares, holds, bit_of, to_int64, to_unsigned64, converts, calculates}
use Rattle.cil_meaning.specs.Branches.{is_taken, jumps_if, chooses, branches}
use Rattle.cil_meaning.specs.Places.{stacks}
use Rattle.cil_safety.proofs.Sorts.{Scalar, Number32, Number64, Length, Nil, Sort, Words, sort_of, sorts_of, boxed_scalar}
use Rattle.cil_safety.proofs.Fit.{IsInt32, plus, Holds, WordFits, ValueFits, ValuesFit, GoesOn}
use Rattle.cil_safety.proofs.Numbers.{narrow_fits, narrow_is, NumberFits, wrapping_fits, checked_fits, shifted_fits, turned_fits, divided_fits, int32_below, narrow_low, below_low}
use Rattle.cil_safety.proofs.Types.{object_sort}
use Rattle.cil_safety.proofs.Pieces.{IsFault, HasHandlers, Sits, Runs, goes_to_fits, by_if, where_true, popped, word_popped, throws_fit}

-- the classes of the exceptions that instructions throw
pub record HasFaults (p : Program) : Type 0 where
  pub divide_by_zero : IsFault p divide_by_zero
  pub overflow : IsFault p overflow
  pub null_reference : IsFault p null_reference
  pub index_out_of_range : IsFault p index_out_of_range
  pub invalid_cast : IsFault p invalid_cast
  pub array_type_mismatch : IsFault p array_type_mismatch

-- ---- operands by their tests

both : (a b : Bool) → (a && b) ≡ true → (a ≡ true) × (b ≡ true)
both true b e = (refl, e)
both false b e = absurd (cc e)

either : (a b : Bool) → (a || b) ≡ true → (a ≡ true) ⊎ (b ≡ true)
either true b e = inl refl
either false b e = inr e

pub int32_is : (a : StackType) → is_int32 a ≡ true → a ≡ stack.Int32
int32_is stack.Int32 e = refl
int32_is stack.Int64 e = absurd (cc e)
int32_is stack.Native e = absurd (cc e)
int32_is stack.Null e = absurd (cc e)
int32_is (stack.Kind t) e = absurd (cc e)
int32_is (stack.Boxed t) e = absurd (cc e)
int32_is (stack.Pointer t) e = absurd (cc e)

pub int64_is : (a : StackType) → is_int64 a ≡ true → a ≡ stack.Int64
int64_is stack.Int32 e = absurd (cc e)
int64_is stack.Int64 e = refl
int64_is stack.Native e = absurd (cc e)
int64_is stack.Null e = absurd (cc e)
int64_is (stack.Kind t) e = absurd (cc e)
int64_is (stack.Boxed t) e = absurd (cc e)
int64_is (stack.Pointer t) e = absurd (cc e)

-- the stack type of numbers of a width
abbrev pub stack_at_width : Width → StackType
stack_at_width Narrow = stack.Int32
stack_at_width Wide = stack.Int64

abbrev pub number_scalar : Width → Scalar
number_scalar Narrow = Number32
number_scalar Wide = Number64

one_number : (a : StackType) → (is_int32 a || is_int64 a) ≡ true → (width : Width) × (a ≡ stack_at_width width)
one_number a e = ⊎_elim (λ h. (Narrow, int32_is a h)) (λ h. (Wide, int64_is a h)) (either (is_int32 a) (is_int64 a) e)

two_of_one : (a b : StackType) → are_numbers a b ≡ true → (width : Width) × (a ≡ stack_at_width width) × (b ≡ stack_at_width width)
two_of_one a b e = ⊎_elim
    (λ h. let q = both (is_int32 a) (is_int32 b) h in (Narrow, int32_is a q.0, int32_is b q.1))
    (λ h. let q = both (is_int64 a) (is_int64 b) h in (Wide, int64_is a q.0, int64_is b q.1))
    (either (is_int32 a && is_int32 b) (is_int64 a && is_int64 b) e)

-- which comparisons a row admits, as the meaning tells them apart
abbrev pub Admits : rows.Comparison → Comparison → Type 0
Admits rows.numbers_alone f = Unit {0}
Admits rows.also_references f = admits_references f ≡ true
Admits rows.also_with_null f = admits_references f ≡ true

if_gives : {A : Type 0} (c : Bool) (o : Option A) (a : A) → (if c then o else None) ≡ Some a → (c ≡ true) × (o ≡ Some a)
if_gives true o a h = (refl, h)
if_gives false o a h = absurd (cc h)

module _ (p : Program) (n : Naming Mention TExpr) (names : IsNaming n) (handlers : HasHandlers p n) (faults : HasFaults p) where
  module _ (u : ℕ) (x : Store) (s : Site) (h : Holds) (hs : List Holds) (c : Sits p n names x s h hs) where
    abbrev pub Safe : Left → Type 0
    Safe a = Runs p n names u x a

    -- operands of the body, the top first, and what values fit them
    abbrev pub Operand : StackType → Sort
    Operand a = sort_of p s.frame.method a

    abbrev pub Fit : List StackType → List Value → Type 0
    Fit os vs = ValuesFit p n x (h ∷ hs) (sorts_of p s.frame.method os) vs

    -- the instruction with this number takes what is left
    abbrev pub Goes : ℕ → List StackType → Type 0
    Goes at os = GoesOn p n s.frame.method s.definition at (sorts_of p s.frame.method os)

    pub goes_fits : (os : List StackType) (vs : List Value) → Goes (suc s.frame.at) os → Fit os vs → Safe (goes s vs)
    goes_fits os vs g f = goes_to_fits p n names u x s h hs (suc s.frame.at) (sorts_of p s.frame.method os) vs c g f

    pub jump_fits : (at : ℕ) (os : List StackType) (vs : List Value) → Goes at os → Fit os vs → Safe (goes_to s at vs)
    jump_fits at os vs g f = goes_to_fits p n names u x s h hs at (sorts_of p s.frame.method os) vs c g f

    pub fault_fits : (class : ℕ) → IsFault p class → Safe (throws p s class)
    fault_fits class e = throws_fit p n names handlers u x s h hs class e c

    -- ---- values on the stack alone

    pub rests_fit : (os : List StackType) (vs : List Value) → Goes (suc s.frame.at) os → Fit os vs → Safe (stacks s Rests vs)
    rests_fit os vs g f = goes_fits os vs g f

    pub copies_fit : (a : StackType) (os : List StackType) (vs : List Value) → Goes (suc s.frame.at) (a ∷ a ∷ os) → Fit (a ∷ os) vs → Safe (stacks s Copies vs)
    copies_fit a os vs g f = popped p n names u x (h ∷ hs) (Operand a) (sorts_of p s.frame.method os) vs (λ v rest. goes s (v ∷ v ∷ rest)) f (λ v rest e f'. goes_fits (a ∷ a ∷ os) (v ∷ v ∷ rest) g (e, (e, f')))

    pub drops_fit : (a : StackType) (os : List StackType) (vs : List Value) → Goes (suc s.frame.at) os → Fit (a ∷ os) vs → Safe (stacks s Drops vs)
    drops_fit a os vs g f = popped p n names u x (h ∷ hs) (Operand a) (sorts_of p s.frame.method os) vs (λ v rest. goes s rest) f (λ v rest e f'. goes_fits os rest g f')

    pub pushes_fit : (a : StackType) (v : Value) (os : List StackType) (vs : List Value) → ValueFits p n x (h ∷ hs) (Operand a) v → Goes (suc s.frame.at) (a ∷ os) → Fit os vs → Safe (stacks s (Pushes v) vs)
    pushes_fit a v os vs e g f = goes_fits (a ∷ os) (v ∷ vs) g (e, f)

    -- ---- words with their kinds

    words_popped : (la lb : Kind) (a b : Scalar) (ss : List Sort) (vs : List Value) (k : Kind → ℕ → Kind → ℕ → List Value → Left) → ValuesFit p n x (h ∷ hs) (Words lb (b ∷ []) ∷ Words la (a ∷ []) ∷ ss) vs →
        ((v w : ℕ) (rest : List Value) → WordFits p n x a v → WordFits p n x b w → ValuesFit p n x (h ∷ hs) ss rest → Safe (k la v lb w rest)) → Safe (two_words vs k)
    words_popped la lb a b ss vs k f go =
        popped p n names u x (h ∷ hs) (Words lb (b ∷ [])) (Words la (a ∷ []) ∷ ss) vs (λ v us. as_word v (λ kb w. pops us (λ v' ws. as_word v' (λ ka w'. k ka w' kb w ws)))) f (λ v us e f'.
        word_popped p n names u x (h ∷ hs) lb b v (λ kb w. pops us (λ v' ws. as_word v' (λ ka w'. k ka w' kb w ws))) e (λ w fw.
        popped p n names u x (h ∷ hs) (Words la (a ∷ [])) ss us (λ v' ws. as_word v' (λ ka w'. k ka w' lb w ws)) f' (λ v' ws e' f''.
        word_popped p n names u x (h ∷ hs) la a v' (λ ka w'. k ka w' lb w ws) e' (λ w' fw'. go w' w ws fw' fw f''))))

    width_fits : (width : Width) (w : ℕ) (k : Width → Left) → NumberFits width w → Safe (k width) → Safe (at_width (kind_at width) w k)
    width_fits Narrow w k e go = where_true p n names u x (narrow w == w) (k Narrow) Stuck (eq-eqb (narrow w) w (narrow_is w e)) go
    width_fits Wide w k e go = go

    same_width_fits : (width : Width) (q : Left) → Safe q → Safe (same_width width width q)
    same_width_fits Narrow q go = go
    same_width_fits Wide q go = go

    -- a number of a width is an operand of it
    to_number : (width : Width) (w : ℕ) → WordFits p n x (number_scalar width) w → NumberFits width w
    to_number Narrow w f = f
    to_number Wide w f = f

    from_number : (width : Width) (w : ℕ) → NumberFits width w → ValueFits p n x (h ∷ hs) (Operand (stack_at_width width)) (Plain (kind_at width) (w ∷ []))
    from_number Narrow w f = (refl, (f, tt))
    from_number Wide w f = (refl, (f, tt))

    sort_at : (width : Width) → Operand (stack_at_width width) ≡ Words (kind_at width) (number_scalar width ∷ [])
    sort_at Narrow = refl
    sort_at Wide = refl

    numbers_popped : (width : Width) (os : List StackType) (vs : List Value) (k : Width → ℕ → ℕ → List Value → Left) → Fit (stack_at_width width ∷ stack_at_width width ∷ os) vs →
        ((v w : ℕ) (rest : List Value) → NumberFits width v → NumberFits width w → Fit os rest → Safe (k width v w rest)) → Safe (two_numbers vs k)
    numbers_popped width os vs k f go =
        words_popped (kind_at width) (kind_at width) (number_scalar width) (number_scalar width) (sorts_of p s.frame.method os) vs (λ ka a kb b ws. at_width ka a (λ wa. at_width kb b (λ wb. same_width wa wb (k wa a b ws))))
        (subst (λ z. ValuesFit p n x (h ∷ hs) (z ∷ z ∷ sorts_of p s.frame.method os) vs) (sort_at width) f)
        (λ v w rest fv fw f'.
        width_fits width v (λ wa. at_width (kind_at width) w (λ wb. same_width wa wb (k wa v w rest))) (to_number width v fv)
        (width_fits width w (λ wb. same_width width wb (k width v w rest)) (to_number width w fw)
        (same_width_fits width (k width v w rest) (go v w rest (to_number width v fv) (to_number width w fw) f'))))

    -- ---- arithmetic

    -- two operands of one width, of which the row leaves one
    pub combines_fit : (os out : Operands) (vs : List Value) (k : Width → ℕ → ℕ → List Value → Left) → combined os ≡ Some out → Fit os vs → Goes (suc s.frame.at) out →
        ((width : Width) (rest : Operands) (a b : ℕ) (ws : List Value) → out ≡ stack_at_width width ∷ rest → NumberFits width a → NumberFits width b → Fit rest ws → Safe (k width a b ws)) → Safe (two_numbers vs k)
    combines_fit [] out vs k e f g go = absurd (cc e)
    combines_fit (a ∷ []) out vs k e f g go = absurd (cc e)
    combines_fit (b ∷ a ∷ os) out vs k e f g go =
        let t = if_gives (are_numbers a b) (Some (a ∷ os)) out e in
        let w = two_of_one a b t.0 in
        let is : a ∷ os ≡ out = cc t.1 in
        numbers_popped w.0 os vs k (subst (λ z. Fit (z ∷ stack_at_width w.0 ∷ os) vs) w.2 (subst (λ z. Fit (b ∷ z ∷ os) vs) w.1 f))
        (λ v v' rest fv fw f'. go w.0 os v v' rest (sym is ∙ ap (λ z. z ∷ os) w.1) fv fw f')

    -- a result of the width goes on the stack
    pub result_fits : (width : Width) (rest out : Operands) (w : ℕ) (ws : List Value) → out ≡ stack_at_width width ∷ rest → Goes (suc s.frame.at) out → NumberFits width w → Fit rest ws → Safe (goes s (Plain (kind_at width) (w ∷ []) ∷ ws))
    result_fits width rest out w ws e g f fs = goes_fits (stack_at_width width ∷ rest) (Plain (kind_at width) (w ∷ []) ∷ ws) (subst (λ z. Goes (suc s.frame.at) z) e g) (from_number width w f, fs)

    pub wraps_fit : (f : Wrapping) (os out : Operands) (vs : List Value) → combined os ≡ Some out → Fit os vs → Goes (suc s.frame.at) out → Safe (calculates p s (Wraps f) vs)
    wraps_fit f os out vs e fit g = combines_fit os out vs (λ width a b ws. goes s (Plain (kind_at width) (wrapping_of f width a b ∷ []) ∷ ws)) e fit g
        (λ width rest a b ws is fa fb fs. result_fits width rest out (wrapping_of f width a b) ws is g (wrapping_fits f width a b fa fb) fs)

    pub checks_fit : (f : Checked) (os out : Operands) (vs : List Value) → combined os ≡ Some out → Fit os vs → Goes (suc s.frame.at) out → Safe (calculates p s (Checks f) vs)
    checks_fit f os out vs e fit g = combines_fit os out vs (λ width a b ws. if fits (is_signed_of f) width (exact_of f width a b) then goes s (Plain (kind_at width) (wrapped_int width (exact_of f width a b) ∷ []) ∷ ws) else throws p s overflow) e fit g
        (λ width rest a b ws is fa fb fs. by_if p n names u x (fits (is_signed_of f) width (exact_of f width a b)) (goes s (Plain (kind_at width) (wrapped_int width (exact_of f width a b) ∷ []) ∷ ws)) (throws p s overflow)
        (λ yes'. result_fits width rest out (wrapped_int width (exact_of f width a b)) ws is g (checked_fits (is_signed_of f) width (exact_of f width a b) yes') fs)
        (λ no'. fault_fits overflow faults.overflow))

    pub divides_fit : (f : Division) (os out : Operands) (vs : List Value) → combined os ≡ Some out → Fit os vs → Goes (suc s.frame.at) out → Safe (calculates p s (Divides f) vs)
    divides_fit f os out vs e fit g = combines_fit os out vs (λ width a b ws. if b == 0 then throws p s divide_by_zero else (if divides_past f width a b then throws p s overflow else goes s (Plain (kind_at width) (divided f width a b ∷ []) ∷ ws))) e fit g
        (λ width rest a b ws is fa fb fs.
        by_if p n names u x (b == 0) (throws p s divide_by_zero) (if divides_past f width a b then throws p s overflow else goes s (Plain (kind_at width) (divided f width a b ∷ []) ∷ ws))
        (λ zero'. fault_fits divide_by_zero faults.divide_by_zero)
        (λ some'. by_if p n names u x (divides_past f width a b) (throws p s overflow) (goes s (Plain (kind_at width) (divided f width a b ∷ []) ∷ ws))
        (λ past'. fault_fits overflow faults.overflow)
        (λ fits'. result_fits width rest out (divided f width a b) ws is g (divided_fits f width a b fa fb fits') fs)))

    pub shifts_fit : (f : Shift) (os out : Operands) (vs : List Value) → shifted os ≡ Some out → Fit os vs → Goes (suc s.frame.at) out → Safe (calculates p s (Shifts f) vs)
    shifts_fit f [] out vs e fit g = absurd (cc e)
    shifts_fit f (a ∷ []) out vs e fit g = absurd (cc e)
    shifts_fit f (b ∷ a ∷ os) out vs e fit g =
        let t = if_gives ((is_int32 a || is_int64 a) && is_int32 b) (Some (a ∷ os)) out e in
        let q = both (is_int32 a || is_int64 a) (is_int32 b) t.0 in
        let w = one_number a q.0 in
        let is : a ∷ os ≡ out = cc t.1 in
        words_popped (kind_at w.0) kind.Int32 (number_scalar w.0) Number32 (sorts_of p s.frame.method os) vs (λ ka v kb count ws. at_width ka v (λ width. at_width kb count (λ other. same_width other Narrow (goes s (Plain (kind_at width) (shifted_by f width v count ∷ []) ∷ ws)))))
        (subst (λ z. ValuesFit p n x (h ∷ hs) (Words kind.Int32 (Number32 ∷ []) ∷ z ∷ sorts_of p s.frame.method os) vs) (ap (λ z. Operand z) w.1 ∙ sort_at w.0) (subst (λ z. Fit (z ∷ a ∷ os) vs) (int32_is b q.1) fit))
        (λ v count rest fv fc f'.
        width_fits w.0 v (λ width. at_width kind.Int32 count (λ other. same_width other Narrow (goes s (Plain (kind_at width) (shifted_by f width v count ∷ []) ∷ rest)))) (to_number w.0 v fv)
        (width_fits Narrow count (λ other. same_width other Narrow (goes s (Plain (kind_at w.0) (shifted_by f w.0 v count ∷ []) ∷ rest))) fc
        (result_fits w.0 os out (shifted_by f w.0 v count) rest (sym is ∙ ap (λ z. z ∷ os) w.1) g (shifted_fits f w.0 v count (to_number w.0 v fv)) f')))

    pub turns_fit : (f : Unary) (os out : Operands) (vs : List Value) → changed os ≡ Some out → Fit os vs → Goes (suc s.frame.at) out → Safe (calculates p s (Turns f) vs)
    turns_fit f [] out vs e fit g = absurd (cc e)
    turns_fit f (a ∷ os) out vs e fit g =
        let t = if_gives (is_int32 a || is_int64 a) (Some (a ∷ os)) out e in
        let w = one_number a t.0 in
        let is : a ∷ os ≡ out = cc t.1 in
        popped p n names u x (h ∷ hs) (Words (kind_at w.0) (number_scalar w.0 ∷ [])) (sorts_of p s.frame.method os) vs (λ v ws. as_word v (λ l v'. at_width l v' (λ width. goes s (Plain (kind_at width) (turned f width v' ∷ []) ∷ ws))))
        (subst (λ z. ValuesFit p n x (h ∷ hs) (z ∷ sorts_of p s.frame.method os) vs) (ap (λ z. Operand z) w.1 ∙ sort_at w.0) fit)
        (λ v rest fv f'.
        word_popped p n names u x (h ∷ hs) (kind_at w.0) (number_scalar w.0) v (λ l v'. at_width l v' (λ width. goes s (Plain (kind_at width) (turned f width v' ∷ []) ∷ rest))) fv (λ v' fv'.
        width_fits w.0 v' (λ width. goes s (Plain (kind_at width) (turned f width v' ∷ []) ∷ rest)) (to_number w.0 v' fv')
        (result_fits w.0 os out (turned f w.0 v') rest (sym is ∙ ap (λ z. z ∷ os) w.1) g (turned_fits f w.0 v' (to_number w.0 v' fv')) f')))

    -- ---- conversions

    -- a number of any width, or a length
    number_popped : (a : StackType) (os : List StackType) (vs : List Value) (k : Kind → ℕ → List Value → Left) → is_number a ≡ true → Fit (a ∷ os) vs →
        ((w : ℕ) (rest : List Value) → IsInt32 w → Fit os rest → Safe (k kind.Int32 w rest)) → ((w : ℕ) (rest : List Value) → w < 2 ^ 64 → Fit os rest → Safe (k kind.Int64 w rest)) → ((w : ℕ) (rest : List Value) → w < 2 ^ 32 → Fit os rest → Safe (k kind.Native w rest)) →
        Safe (pops vs (λ v ws. as_word v (λ l w. k l w ws)))
    number_popped stack.Int32 os vs k e f g32 g64 gn = popped p n names u x (h ∷ hs) (Words kind.Int32 (Number32 ∷ [])) (sorts_of p s.frame.method os) vs (λ v ws. as_word v (λ l w. k l w ws)) f (λ v rest fv f'. word_popped p n names u x (h ∷ hs) kind.Int32 Number32 v (λ l w. k l w rest) fv (λ w fw. g32 w rest fw f'))
    number_popped stack.Int64 os vs k e f g32 g64 gn = popped p n names u x (h ∷ hs) (Words kind.Int64 (Number64 ∷ [])) (sorts_of p s.frame.method os) vs (λ v ws. as_word v (λ l w. k l w ws)) f (λ v rest fv f'. word_popped p n names u x (h ∷ hs) kind.Int64 Number64 v (λ l w. k l w rest) fv (λ w fw. g64 w rest fw f'))
    number_popped stack.Native os vs k e f g32 g64 gn = popped p n names u x (h ∷ hs) (Words kind.Native (Length ∷ [])) (sorts_of p s.frame.method os) vs (λ v ws. as_word v (λ l w. k l w ws)) f (λ v rest fv f'. word_popped p n names u x (h ∷ hs) kind.Native Length v (λ l w. k l w rest) fv (λ w fw. gn w rest fw f'))
    number_popped stack.Null os vs k e f g32 g64 gn = absurd (cc e)
    number_popped (stack.Kind t) os vs k e f g32 g64 gn = absurd (cc e)
    number_popped (stack.Boxed t) os vs k e f g32 g64 gn = absurd (cc e)
    number_popped (stack.Pointer t) os vs k e f g32 g64 gn = absurd (cc e)

    -- what a conversion leaves
    abbrev pub converted : Conversion → StackType
    converted ToInt32 = stack.Int32
    converted ToInt64 = stack.Int64
    converted ToUnsigned64 = stack.Int64
    converted ToInt32Checked = stack.Int32

    -- a word below 2 ^ 64 of a kind of numbers
    abbrev pub IsNumberKind : Kind → Type 0
    IsNumberKind l = (bad : Left) (w : ℕ) (k : ℕ → Left) → to_int64 l w bad k ≡ k w

    converts_word : (f : Conversion) (l : Kind) (w : ℕ) (os : List StackType) (rest : List Value) → IsNumberKind l → w < 2 ^ 64 → (to_unsigned64 l w < 2 ^ 64) → Goes (suc s.frame.at) (converted f ∷ os) → Fit os rest → Safe (converts p s f l w rest)
    converts_word ToInt32 l w os rest l' lt un g f = subst (λ z. Safe z) (sym (l' Stuck w (λ a. goes s (Plain kind.Int32 (narrow a ∷ []) ∷ rest)))) (goes_fits (stack.Int32 ∷ os) (Plain kind.Int32 (narrow w ∷ []) ∷ rest) g ((refl, (narrow_fits w, tt)), f))
    converts_word ToInt64 l w os rest l' lt un g f = subst (λ z. Safe z) (sym (l' Stuck w (λ a. goes s (Plain kind.Int64 (a ∷ []) ∷ rest)))) (goes_fits (stack.Int64 ∷ os) (Plain kind.Int64 (w ∷ []) ∷ rest) g ((refl, (lt, tt)), f))
    converts_word ToUnsigned64 l w os rest l' lt un g f = subst (λ z. Safe z) (sym (l' Stuck w (λ a. goes s (Plain kind.Int64 (to_unsigned64 l a ∷ []) ∷ rest)))) (goes_fits (stack.Int64 ∷ os) (Plain kind.Int64 (to_unsigned64 l w ∷ []) ∷ rest) g ((refl, (un, tt)), f))
    converts_word ToInt32Checked l w os rest l' lt un g f = subst (λ z. Safe z) (sym (l' Stuck w (λ a. if fits_signed Narrow (signed a) then goes s (Plain kind.Int32 (a ∷ []) ∷ rest) else throws p s overflow)))
        (by_if p n names u x (fits_signed Narrow (signed w)) (goes s (Plain kind.Int32 (w ∷ []) ∷ rest)) (throws p s overflow)
        (λ yes'. goes_fits (stack.Int32 ∷ os) (Plain kind.Int32 (w ∷ []) ∷ rest) g ((refl, (narrow_low w lt yes', tt)), f))
        (λ no'. fault_fits overflow faults.overflow))

    pub converts_fit : (f : Conversion) (os out : Operands) (vs : List Value) → take_one is_number (push (converted f)) os ≡ Some out → Fit os vs → Goes (suc s.frame.at) out → Safe (calculates p s (Converts f) vs)
    converts_fit f [] out vs e fit g = absurd (cc e)
    converts_fit f (a ∷ os) out vs e fit g =
        let t = if_gives (is_number a) (Some (converted f ∷ os)) out e in
        let is : converted f ∷ os ≡ out = cc t.1 in
        let g' : Goes (suc s.frame.at) (converted f ∷ os) = subst (λ z. Goes (suc s.frame.at) z) (sym is) g in
        number_popped a os vs (λ l w ws. converts p s f l w ws) t.0 fit
        (λ w rest fw f'. converts_word f kind.Int32 w os rest (λ bad v k. refl) (int32_below w fw) (low_below w) g' f')
        (λ w rest fw f'. converts_word f kind.Int64 w os rest (λ bad v k. refl) fw fw g' f')
        (λ w rest fw f'. converts_word f kind.Native w os rest (λ bad v k. refl) (omega (arith, fw)) (omega (arith, fw)) g' f')
      where
        low_below : (w : ℕ) → low_32 w < 2 ^ 64
        low_below w = let lt : w % 2 ^ 32 < 2 ^ 32 = below_low w in omega (arith, lt)

    -- ---- comparisons and branches

    null_is_object : (a : StackType) → is_null a ≡ true → is_object p a ≡ true
    null_is_object stack.Int32 e = absurd (cc e)
    null_is_object stack.Int64 e = absurd (cc e)
    null_is_object stack.Native e = absurd (cc e)
    null_is_object stack.Null e = refl
    null_is_object (stack.Kind t) e = absurd (cc e)
    null_is_object (stack.Boxed t) e = absurd (cc e)
    null_is_object (stack.Pointer t) e = absurd (cc e)

    compared_numbers : (f : Comparison) (width : Width) → are_compared f (kind_at width) (kind_at width) ≡ true
    compared_numbers f Narrow = refl
    compared_numbers f Wide = refl

    numbers_compared : (f : Comparison) (a b : StackType) (os : List StackType) (vs : List Value) (k : Bool → List Value → Left) → are_numbers a b ≡ true → Fit (b ∷ a ∷ os) vs → ((b : Bool) (rest : List Value) → Fit os rest → Safe (k b rest)) → Safe (compares f vs k)
    numbers_compared f a b os vs k e fit go =
        let w = two_of_one a b e in
        words_popped (kind_at w.0) (kind_at w.0) (number_scalar w.0) (number_scalar w.0) (sorts_of p s.frame.method os) vs (λ ka v kb v' ws. if are_compared f ka kb then k (holds f v v') ws else Stuck)
        (subst (λ z. ValuesFit p n x (h ∷ hs) (z ∷ z ∷ sorts_of p s.frame.method os) vs) (sort_at w.0) (subst (λ z. Fit (z ∷ stack_at_width w.0 ∷ os) vs) w.2 (subst (λ z. Fit (b ∷ z ∷ os) vs) w.1 fit)))
        (λ v v' rest fv fv' f'. where_true p n names u x (are_compared f (kind_at w.0) (kind_at w.0)) (k (holds f v v') rest) Stuck (compared_numbers f w.0) (go (holds f v v') rest f'))

    references_compared : (f : Comparison) (a b : StackType) (os : List StackType) (vs : List Value) (k : Bool → List Value → Left) → admits_references f ≡ true → is_object p a ≡ true → is_object p b ≡ true → Fit (b ∷ a ∷ os) vs → ((b : Bool) (rest : List Value) → Fit os rest → Safe (k b rest)) → Safe (compares f vs k)
    references_compared f a b os vs k e ea eb fit go =
        let sa = object_sort p s.frame.method a ea in
        let sb = object_sort p s.frame.method b eb in
        words_popped kind.Reference kind.Reference sa.0 sb.0 (sorts_of p s.frame.method os) vs (λ ka v kb v' ws. if are_compared f ka kb then k (holds f v v') ws else Stuck)
        (subst (λ z. ValuesFit p n x (h ∷ hs) (z ∷ Words kind.Reference (sa.0 ∷ []) ∷ sorts_of p s.frame.method os) vs) sb.1 (subst (λ z. ValuesFit p n x (h ∷ hs) (Operand b ∷ z ∷ sorts_of p s.frame.method os) vs) sa.1 fit))
        (λ v v' rest fv fv' f'. where_true p n names u x (admits_references f) (k (holds f v v') rest) Stuck e (go (holds f v v') rest f'))

    compares_fit : (f : Comparison) (r : rows.Comparison) → Admits r f → (a b : StackType) (os : List StackType) (vs : List Value) (k : Bool → List Value → Left) → (view : View) → view.program ≡ p → may_compare view r a b ≡ true → Fit (b ∷ a ∷ os) vs → ((b : Bool) (rest : List Value) → Fit os rest → Safe (k b rest)) → Safe (compares f vs k)
    compares_fit f rows.numbers_alone adm a b os vs k view is e fit go = numbers_compared f a b os vs k e fit go
    compares_fit f rows.also_references adm a b os vs k view is e fit go = ⊎_elim
        (λ q. numbers_compared f a b os vs k q fit go)
        (λ q. let r = both (is_object view.program a) (is_object view.program b) q in references_compared f a b os vs k adm (subst (λ z. is_object z a ≡ true) is r.0) (subst (λ z. is_object z b ≡ true) is r.1) fit go)
        (either (are_numbers a b) (is_object view.program a && is_object view.program b) e)
    compares_fit f rows.also_with_null adm a b os vs k view is e fit go = ⊎_elim
        (λ q. numbers_compared f a b os vs k q fit go)
        (λ q. let r = both (is_object view.program a) (is_null b) q in references_compared f a b os vs k adm (subst (λ z. is_object z a ≡ true) is r.0) (null_is_object b r.1) fit go)
        (either (are_numbers a b) (is_object view.program a && is_null b) e)

    bit_is : (b : Bool) → IsInt32 (bit_of b)
    bit_is true = plus (omega arith)
    bit_is false = plus (omega arith)

    pub compares_row : (f : Comparison) (r : rows.Comparison) → Admits r f → (os out : Operands) (vs : List Value) (view : View) → view.program ≡ p → take_two (may_compare view r) (push stack.Int32) os ≡ Some out → Fit os vs → Goes (suc s.frame.at) out → Safe (calculates p s (Compares f) vs)
    compares_row f r adm [] out vs view is e fit g = absurd (cc e)
    compares_row f r adm (a ∷ []) out vs view is e fit g = absurd (cc e)
    compares_row f r adm (b ∷ a ∷ os) out vs view is e fit g =
        let t = if_gives (may_compare view r a b) (Some (stack.Int32 ∷ os)) out e in
        let o : stack.Int32 ∷ os ≡ out = cc t.1 in
        compares_fit f r adm a b os vs (λ is_so ws. goes s (Plain kind.Int32 (bit_of is_so ∷ []) ∷ ws)) view is t.0 fit
        (λ b' rest f'. goes_fits (stack.Int32 ∷ os) (Plain kind.Int32 (bit_of b' ∷ []) ∷ rest) (subst (λ z. Goes (suc s.frame.at) z) (sym o) g) ((refl, (bit_is b', tt)), f'))

    -- a branch goes on at its target or at the next instruction
    branch_if : (b : Bool) (to : ℕ) (os : List StackType) (rest : List Value) → Goes to os → Goes (suc s.frame.at) os → Fit os rest → Safe (jumps_if s b to rest)
    branch_if true to os rest gt gn f = jump_fits to os rest gt f
    branch_if false to os rest gt gn f = goes_fits os rest gn f

    pub branches_row : (f : Comparison) (r : rows.Comparison) → Admits r f → (to : ℕ) (os out : Operands) (vs : List Value) (view : View) → view.program ≡ p → take_two (may_compare view r) Some os ≡ Some out → Fit os vs → Goes to out → Goes (suc s.frame.at) out → Safe (branches s (JumpsBy f to) vs)
    branches_row f r adm to [] out vs view is e fit gt gn = absurd (cc e)
    branches_row f r adm to (a ∷ []) out vs view is e fit gt gn = absurd (cc e)
    branches_row f r adm to (b ∷ a ∷ os) out vs view is e fit gt gn =
        let t = if_gives (may_compare view r a b) (Some os) out e in
        let o : os ≡ out = cc t.1 in
        compares_fit f r adm a b os vs (λ is_so ws. jumps_if s is_so to ws) view is t.0 fit
        (λ b' rest f'. branch_if b' to os rest (subst (λ z. Goes to z) (sym o) gt) (subst (λ z. Goes (suc s.frame.at) z) (sym o) gn) f')

    pub jumps_row : (to : ℕ) (os : Operands) (vs : List Value) → Fit os vs → Goes to os → Safe (branches s (Jumps to) vs)
    jumps_row to os vs fit g = jump_fits to os vs g fit

    -- what `brtrue` tests: a number, a length or a reference, one word each
    tested_sort : (a : StackType) → (is_number a || is_object p a) ≡ true → (l : Kind) × (b : Scalar) × (Operand a ≡ Words l (b ∷ [])) × (is_struct l ≡ false)
    tested_sort stack.Int32 e = (kind.Int32, Number32, refl, refl)
    tested_sort stack.Int64 e = (kind.Int64, Number64, refl, refl)
    tested_sort stack.Native e = (kind.Native, Length, refl, refl)
    tested_sort stack.Null e = (kind.Reference, Nil, refl, refl)
    tested_sort (stack.Kind t) e = let r = object_sort p s.frame.method (stack.Kind t) e in (kind.Reference, r.0, r.1, refl)
    tested_sort (stack.Boxed t) e = (kind.Reference, boxed_scalar p (put_type s.frame.method t), refl, refl)
    tested_sort (stack.Pointer t) e = absurd (cc e)

    pub tests_row : (is_true : Bool) (to : ℕ) (os out : Operands) (vs : List Value) (view : View) → view.program ≡ p → take_one (may_test view) Some os ≡ Some out → Fit os vs → Goes to out → Goes (suc s.frame.at) out → Safe (branches s (JumpsWhere is_true to) vs)
    tests_row is_true to [] out vs view is e fit gt gn = absurd (cc e)
    tests_row is_true to (a ∷ os) out vs view is e fit gt gn =
        let t = if_gives (may_test view a) (Some os) out e in
        let o : os ≡ out = cc t.1 in
        let q = tested_sort a (subst (λ z. (is_number a || is_object z a) ≡ true) is t.0) in
        popped p n names u x (h ∷ hs) (Words q.0 (q.1 ∷ [])) (sorts_of p s.frame.method os) vs (λ v ws. as_word v (λ l w. if is_struct l then Stuck else jumps_if s (is_taken is_true w) to ws))
        (subst (λ z. ValuesFit p n x (h ∷ hs) (z ∷ sorts_of p s.frame.method os) vs) q.2 fit) (λ v rest fv f'.
        word_popped p n names u x (h ∷ hs) q.0 q.1 v (λ l w. if is_struct l then Stuck else jumps_if s (is_taken is_true w) to rest) fv (λ w fw.
        where_false' (is_struct q.0) Stuck (jumps_if s (is_taken is_true w) to rest) q.3
        (branch_if (is_taken is_true w) to os rest (subst (λ z. Goes to z) (sym o) gt) (subst (λ z. Goes (suc s.frame.at) z) (sym o) gn) f')))
      where
        where_false' : (b : Bool) (q r : Left) → b ≡ false → Safe r → Safe (if b then q else r)
        where_false' true q r e' f = absurd (cc e')
        where_false' false q r e' f = f

    pub chooses_row : (targets : List ℕ) (os out : Operands) (vs : List Value) → take_one is_int32 Some os ≡ Some out → Fit os vs → ((k to : ℕ) → slice_get targets k ≡ Some to → Goes to out) → Goes (suc s.frame.at) out → Safe (branches s (Chooses targets) vs)
    chooses_row targets [] out vs e fit gt gn = absurd (cc e)
    chooses_row targets (a ∷ os) out vs e fit gt gn =
        let t = if_gives (is_int32 a) (Some os) out e in
        let o : os ≡ out = cc t.1 in
        popped p n names u x (h ∷ hs) (Words kind.Int32 (Number32 ∷ [])) (sorts_of p s.frame.method os) vs (λ v ws. as_word v (λ l w. if is_int32_kind l then chooses s (slice_get targets w) ws else Stuck))
        (subst (λ z. Fit (z ∷ os) vs) (int32_is a t.0) fit) (λ v rest fv f'.
        word_popped p n names u x (h ∷ hs) kind.Int32 Number32 v (λ l w. if is_int32_kind l then chooses s (slice_get targets w) rest else Stuck) fv (λ w fw.
        by_target (slice_get targets w) (λ to is. subst (λ z. Goes to z) (sym o) (gt w to is)) (subst (λ z. Goes (suc s.frame.at) z) (sym o) gn) rest f'))
      where
        by_target : (r : Option ℕ) → ((to : ℕ) → r ≡ Some to → Goes to os) → Goes (suc s.frame.at) os → (rest : List Value) → Fit os rest → Safe (chooses s r rest)
        by_target None gt' gn' rest f = goes_fits os rest gn' f
        by_target (Some to) gt' gn' rest f = jump_fits to os rest (gt' to refl) f
