-- A closed entry that may stand behind entries is read where it is spelled.
use Rattle.std.proofs.Common.{◌≡◌, ◌∙◌, ℕ, suc, ◌<◌, ◌^◌, ◌==◌, Bool, true, not, nat_le, nat_lt, List, [], ◌∷◌, ◌++◌, length, take, flat_map, slice_get, option_to_list, Option, Some, None, Ok, refl, sym, ap, subst, append_assoc}
use Rattle.std.specs.Int.{w16}
use Rattle.std.specs.List.{list_any, list_all, AllByRecursion}
use Rattle.std.proofs.lemmas.Bool.{true≢false, eqb-true, leb-true, lt-ltb, and_parts, and_from, not_from_false}
use Rattle.std.proofs.lemmas.List.{append-nil}
use Rattle.type_tree.specs.declared.tree.TExpr.{TExpr}
use Rattle.type_tree.specs.Tree.{has_variables_below}
use Rattle.type_tree.specs.Positions.{positions_of}
use Rattle.il_model.specs.declared.entry.Entry.{Entry}
use Rattle.il_model.specs.declared.entry.Entry.TheVariants as entry
use Rattle.il_model.specs.declared.method.MethodDef.{MethodDef}
use Rattle.il_model.specs.declared.program.Program.{Program}
use Rattle.il_model.specs.Found.{method_at}
use Rattle.il_model.specs.Entries.{is_listed}
use Rattle.il_model.specs.ClassRules.{has_counts, is_number}
use Rattle.il_model.specs.Find.{class_number_of}
use Rattle.rgctx_template.specs.Admitted.{is_bounded_throughout, is_bounded_method}
use Rattle.rgctx_template.specs.GotEntries.{levels_of, most_entry_positions, most_entry_levels, most_closed_entries, trees_of, has_own_method, has_own_field, IsKeptEntry, AreKeptEntries}
use Rattle.aot_image.specs.ImageSpelling.{byte, half, tree_bytes, entry_bytes}
use Rattle.aot_image.specs.ImageForm.{tree_fits, EntryFits}
use Rattle.aot_image.specs.ImageReading.{Left, Read, and_then, check, found_or_bad, read_byte, read_half, read_tree, read_entry_tree, read_entry_trees_from, read_method_entry, read_offset_entry, read_type_entry, read_entry_of, read_entry, read_entries_from}
use Rattle.aot_image.proofs.StepLaws.{Goes, goes_then, goes_check, goes_found, byte_goes, wide16, number_goes}
use Rattle.aot_image.proofs.TreeLaws.{MayRead}
use Rattle.aot_image.proofs.BodyComplete.{goes_done, read_tree_goes}
use Rattle.aot_image.proofs.EntryLaws.{TreesAre}

one : (test : TExpr → Bool) (t : TExpr) (ts : List TExpr) → list_all test (t ∷ ts) ≡ true → list_all test (t ∷ []) ≡ true
one test t ts e = and_from _ _ (and_parts _ _ e).0 refl

-- ---- trees

may_read : (program : Program) (t : TExpr) → TreesAre program (t ∷ []) → MayRead program most_entry_levels most_entry_positions t
may_read program t are =
    record {
      counts = (and_parts _ _ are.counts).0;
      closed = (and_parts _ _ are.closed).0;
      fits = (and_parts _ _ are.fits).0;
      deep = leb-true _ _ (and_parts _ _ are.levels).0;
      few = leb-true _ _ (and_parts _ _ are.positions).0;
    }

first_tree : (program : Program) (t : TExpr) (ts : List TExpr) → TreesAre program (t ∷ ts) → TreesAre program (t ∷ [])
first_tree program t ts are =
    record {
      closed = one (has_variables_below 0 0) t ts are.closed;
      counts = one (has_counts program) t ts are.counts;
      fits = one tree_fits t ts are.fits;
      positions = one (λ x. nat_le (positions_of x) most_entry_positions) t ts are.positions;
      levels = one (λ x. nat_le (levels_of x) most_entry_levels) t ts are.levels;
      bounds = one (is_bounded_throughout program) t ts are.bounds;
    }

other_trees : (program : Program) (t : TExpr) (ts : List TExpr) → TreesAre program (t ∷ ts) → TreesAre program ts
other_trees program t ts are =
    record {
      closed = (and_parts _ _ are.closed).1;
      counts = (and_parts _ _ are.counts).1;
      fits = (and_parts _ _ are.fits).1;
      positions = (and_parts _ _ are.positions).1;
      levels = (and_parts _ _ are.levels).1;
      bounds = (and_parts _ _ are.bounds).1;
    }

entry_tree_goes : (program : Program) (row : ℕ) (t : TExpr) (left : Left) (rest : List ℕ) → TreesAre program (t ∷ []) → left.bytes ≡ tree_bytes t ++ rest →
    Goes (read_entry_tree program row left) t rest
unfolding read_entry_tree
entry_tree_goes program row t left rest are is =
    goes_then (read_tree program row most_entry_levels most_entry_positions left) (λ u more. and_then (check row (is_bounded_throughout program u) more) (λ _ more. Ok (u, more))) t t rest rest
    (read_tree_goes program row most_entry_levels most_entry_positions t left rest (may_read program t are) is)
    (λ back at. goes_check row (is_bounded_throughout program t) back (λ _ more. Ok (t, more)) t rest (and_parts _ _ are.bounds).0 (goes_done t back rest at))

entry_trees_goes : (program : Program) (row : ℕ) (ts found : List TExpr) (left : Left) (rest : List ℕ) → TreesAre program ts → left.bytes ≡ flat_map tree_bytes ts ++ rest →
    Goes (read_entry_trees_from program row (length ts) found left) (found ++ ts) rest
unfolding read_entry_trees_from
entry_trees_goes program row [] found left rest are is = subst (λ (xs : List TExpr). Goes (Ok (found, left)) xs rest) (sym (append-nil found)) (goes_done found left rest is)
entry_trees_goes program row (t ∷ ts) found left rest are is =
    subst (λ (xs : List TExpr). Goes (read_entry_trees_from program row (length (t ∷ ts)) found left) xs rest) (append_assoc found (t ∷ []) ts)
    (goes_then (read_entry_tree program row left) (λ u more. read_entry_trees_from program row (length ts) (found ++ u ∷ []) more) t ((found ++ t ∷ []) ++ ts) (flat_map tree_bytes ts ++ rest) rest
    (entry_tree_goes program row t left (flat_map tree_bytes ts ++ rest) (first_tree program t ts are) (is ∙ append_assoc (tree_bytes t) (flat_map tree_bytes ts) rest))
    (λ back at. entry_trees_goes program row ts (found ++ t ∷ []) back rest (other_trees program t ts are) at))

-- ---- kinds

type_goes : (program : Program) (row : ℕ) (made : TExpr → Entry) (t : TExpr) (left : Left) (rest : List ℕ) → TreesAre program (t ∷ []) → left.bytes ≡ tree_bytes t ++ rest →
    Goes (read_type_entry made program row left) (made t) rest
unfolding read_type_entry
type_goes program row made t left rest are is =
    goes_then (read_entry_tree program row left) (λ u more. Ok (made u, more)) t (made t) rest rest (entry_tree_goes program row t left rest are is) (λ back at. goes_done (made t) back rest at)

-- the method that an entry names is there
there_by : (program : Program) (c : TExpr) (number : ℕ) (o : Option MethodDef) → method_at program number ≡ o → has_own_method program c number ≡ true → (m : MethodDef) × (method_at program number ≡ Some m)
there_by program c number (Some m) is own = (m, is)
there_by program c number None is own =
    absurd (true≢false (sym own ∙ ap (λ (o : Option MethodDef). list_any (λ (m : MethodDef). is_number m.owner (class_number_of c)) (option_to_list o)) is))

at_there : (program : Program) (number : ℕ) (m : MethodDef) (test : MethodDef → Bool) → method_at program number ≡ Some m → list_all test (option_to_list (method_at program number)) ≡ true → test m ≡ true
at_there program number m test is all = (and_parts _ _ (sym (ap (λ (o : Option MethodDef). list_all test (option_to_list o)) is) ∙ all)).0

method_goes : (program : Program) (row number : ℕ) (c : TExpr) (args : List TExpr) (left : Left) (rest : List ℕ) → number < 2 ^ 16 → has_own_method program c number ≡ true →
    list_all (λ (m : MethodDef). length args == length m.vars) (option_to_list (method_at program number)) ≡ true →
    list_all (is_bounded_method program c args) (option_to_list (method_at program number)) ≡ true → TreesAre program (c ∷ args) →
    left.bytes ≡ (half number ++ (tree_bytes c ++ flat_map tree_bytes args)) ++ rest → Goes (read_method_entry program row left) (entry.Method number c args) rest
unfolding read_method_entry
method_goes program row number c args left rest lt own counted bounded are is =
    let there = there_by program c number (method_at program number) refl own in
    let m = there.0 in
    let count : length args ≡ length m.vars = eqb-true _ _ (at_there program number m (λ d. length args == length d.vars) there.1 counted) in
    let bounds : is_bounded_method program c args m ≡ true = at_there program number m (is_bounded_method program c args) there.1 bounded in
    let first_is : left.bytes ≡ half number ++ (tree_bytes c ++ (flat_map tree_bytes args ++ rest)) =
    is ∙ append_assoc (half number) (tree_bytes c ++ flat_map tree_bytes args) rest ∙ ap (λ (bs : List ℕ). half number ++ bs) (append_assoc (tree_bytes c) (flat_map tree_bytes args) rest) in
    goes_then (read_half left)
    (λ number more. and_then (found_or_bad row (method_at program number) more) (λ m more. and_then (read_entry_tree program row more) (λ c more.
    and_then (check row (has_own_method program c number) more) (λ _ more. and_then (read_entry_trees_from program row (length m.vars) [] more) (λ args more.
    and_then (check row (is_bounded_method program c args m) more) (λ _ more. Ok (entry.Method number c args, more)))))))
    number (entry.Method number c args) (tree_bytes c ++ (flat_map tree_bytes args ++ rest)) rest
    (number_goes w16 (2 ^ 16) wide16 left number (tree_bytes c ++ (flat_map tree_bytes args ++ rest)) first_is lt)
    (λ a at_a.
    goes_found row (method_at program number) m a
    (λ m more. and_then (read_entry_tree program row more) (λ c more.
    and_then (check row (has_own_method program c number) more) (λ _ more. and_then (read_entry_trees_from program row (length m.vars) [] more) (λ args more.
    and_then (check row (is_bounded_method program c args m) more) (λ _ more. Ok (entry.Method number c args, more))))))
    (entry.Method number c args) rest there.1
    (goes_then (read_entry_tree program row a)
    (λ c more.
    and_then (check row (has_own_method program c number) more) (λ _ more. and_then (read_entry_trees_from program row (length m.vars) [] more) (λ args more.
    and_then (check row (is_bounded_method program c args m) more) (λ _ more. Ok (entry.Method number c args, more)))))
    c (entry.Method number c args) (flat_map tree_bytes args ++ rest) rest
    (entry_tree_goes program row c a (flat_map tree_bytes args ++ rest) (first_tree program c args are) at_a)
    (λ b at_b.
    goes_check row (has_own_method program c number) b
    (λ _ more. and_then (read_entry_trees_from program row (length m.vars) [] more) (λ args more.
    and_then (check row (is_bounded_method program c args m) more) (λ _ more. Ok (entry.Method number c args, more))))
    (entry.Method number c args) rest own
    (goes_then (read_entry_trees_from program row (length m.vars) [] b)
    (λ args more. and_then (check row (is_bounded_method program c args m) more) (λ _ more. Ok (entry.Method number c args, more))) args (entry.Method number c args) rest rest
    (subst (λ k. Goes (read_entry_trees_from program row k [] b) args rest) count (entry_trees_goes program row args [] b rest (other_trees program c args are) at_b))
    (λ last at_last.
    goes_check row (is_bounded_method program c args m) last (λ _ more. Ok (entry.Method number c args, more)) (entry.Method number c args) rest bounds
    (goes_done (entry.Method number c args) last rest at_last))))))

offset_goes : (program : Program) (row : ℕ) (c : TExpr) (place : ℕ) (left : Left) (rest : List ℕ) → place < 2 ^ 16 → has_own_field program c place ≡ true → TreesAre program (c ∷ []) →
    left.bytes ≡ (tree_bytes c ++ half place) ++ rest → Goes (read_offset_entry program row left) (entry.Offset c place) rest
unfolding read_offset_entry
offset_goes program row c place left rest lt own are is =
    goes_then (read_entry_tree program row left)
    (λ c more. and_then (read_half more) (λ place more. and_then (check row (has_own_field program c place) more) (λ _ more. Ok (entry.Offset c place, more))))
    c (entry.Offset c place) (half place ++ rest) rest
    (entry_tree_goes program row c left (half place ++ rest) are (is ∙ append_assoc (tree_bytes c) (half place) rest))
    (λ a at_a.
    goes_then (read_half a) (λ place more. and_then (check row (has_own_field program c place) more) (λ _ more. Ok (entry.Offset c place, more))) place (entry.Offset c place) rest rest
    (number_goes w16 (2 ^ 16) wide16 a place rest at_a lt)
    (λ b at_b. goes_check row (has_own_field program c place) b (λ _ more. Ok (entry.Offset c place, more)) (entry.Offset c place) rest own (goes_done (entry.Offset c place) b rest at_b)))

-- ---- rows

trees_are : (program : Program) (earlier : List Entry) (e : Entry) → IsKeptEntry program earlier e → EntryFits e → TreesAre program (trees_of e)
trees_are program earlier e kept fits =
    record { closed = kept.closed; counts = kept.counts; fits = fits.trees; positions = kept.positions; levels = kept.levels; bounds = kept.bounds }

-- what follows the kind of an entry, in a row that begins at a place
abbrev Rest : Program → List Entry → ℕ → Entry → Left → Read (List Entry)
Rest program earlier row e more = and_then (check row (not (is_listed earlier e)) more) (λ _ more. Ok (earlier ++ e ∷ [], more))

put_goes : (program : Program) (earlier : List Entry) (row n : ℕ) (e : Entry) (left : Left) (rest tail : List ℕ) → IsKeptEntry program earlier e → left.bytes ≡ byte n ++ tail →
    ((back : Left) → back.bytes ≡ tail → Goes (read_entry_of program row n back) e rest) →
    Goes (and_then (read_byte left) (λ n more. and_then (check row (nat_lt (length earlier) most_closed_entries) more) (λ _ more. and_then (read_entry_of program row n more) (Rest program earlier row))))
    (earlier ++ e ∷ []) rest
put_goes program earlier row n e left rest tail kept is kind =
    goes_then (read_byte left) (λ n more. and_then (check row (nat_lt (length earlier) most_closed_entries) more) (λ _ more. and_then (read_entry_of program row n more) (Rest program earlier row)))
    n (earlier ++ e ∷ []) tail rest (byte_goes left n tail is)
    (λ a at_a.
    goes_check row (nat_lt (length earlier) most_closed_entries) a (λ _ more. and_then (read_entry_of program row n more) (Rest program earlier row)) (earlier ++ e ∷ []) rest (lt-ltb _ _ kept.few)
    (goes_then (read_entry_of program row n a) (Rest program earlier row) e (earlier ++ e ∷ []) rest rest (kind a at_a)
    (λ b at_b.
    goes_check row (not (is_listed earlier e)) b (λ _ more. Ok (earlier ++ e ∷ [], more)) (earlier ++ e ∷ []) rest (not_from_false _ kept.new) (goes_done (earlier ++ e ∷ []) b rest at_b))))

entry_goes : (program : Program) (earlier : List Entry) (e : Entry) (left : Left) (rest : List ℕ) → IsKeptEntry program earlier e → EntryFits e → left.bytes ≡ entry_bytes e ++ rest →
    Goes (read_entry program earlier left) (earlier ++ e ∷ []) rest
unfolding read_entry
entry_goes program earlier (entry.Kind t) left rest kept fits is =
    put_goes program earlier left.at 0 (entry.Kind t) left rest (tree_bytes t ++ rest) kept is
    (λ back at. type_goes program left.at entry.Kind t back rest (trees_are program earlier (entry.Kind t) kept fits) at)
entry_goes program earlier (entry.Method number c args) left rest kept fits is =
    put_goes program earlier left.at 1 (entry.Method number c args) left rest ((half number ++ (tree_bytes c ++ flat_map tree_bytes args)) ++ rest) kept is
    (λ back at.
    method_goes program left.at number c args back rest fits.numbers kept.member kept.arguments kept.method_bounds (trees_are program earlier (entry.Method number c args) kept fits) at)
entry_goes program earlier (entry.Size t) left rest kept fits is =
    put_goes program earlier left.at 2 (entry.Size t) left rest (tree_bytes t ++ rest) kept is
    (λ back at. type_goes program left.at entry.Size t back rest (trees_are program earlier (entry.Size t) kept fits) at)
entry_goes program earlier (entry.Extent t) left rest kept fits is =
    put_goes program earlier left.at 3 (entry.Extent t) left rest (tree_bytes t ++ rest) kept is
    (λ back at. type_goes program left.at entry.Extent t back rest (trees_are program earlier (entry.Extent t) kept fits) at)
entry_goes program earlier (entry.Offset c place) left rest kept fits is =
    put_goes program earlier left.at 4 (entry.Offset c place) left rest ((tree_bytes c ++ half place) ++ rest) kept is
    (λ back at. offset_goes program left.at c place back rest fits.numbers kept.member (trees_are program earlier (entry.Offset c place) kept fits) at)
entry_goes program earlier (entry.Slot number) left rest kept fits is = absurd (true≢false kept.kind)

entries_from_goes : (program : Program) (es found : List Entry) (left : Left) (rest : List ℕ) →
    ((k : ℕ) (e : Entry) → slice_get es k ≡ Some e → IsKeptEntry program (found ++ take k es) e) → AllByRecursion EntryFits es → left.bytes ≡ flat_map entry_bytes es ++ rest →
    Goes (read_entries_from program (length es) found left) (found ++ es) rest
unfolding read_entries_from
entries_from_goes program [] found left rest kept fits is =
    subst (λ (xs : List Entry). Goes (Ok (found, left)) xs rest) (sym (append-nil found)) (goes_done found left rest is)
entries_from_goes program (e ∷ es) found left rest kept fits is =
    let first : IsKeptEntry program found e = subst (λ (before : List Entry). IsKeptEntry program before e) (append-nil found) (kept 0 e refl) in
    subst (λ (xs : List Entry). Goes (read_entries_from program (length (e ∷ es)) found left) xs rest) (append_assoc found (e ∷ []) es)
    (goes_then (read_entry program found left) (λ grown more. read_entries_from program (length es) grown more) (found ++ e ∷ []) ((found ++ e ∷ []) ++ es) (flat_map entry_bytes es ++ rest) rest
    (entry_goes program found e left (flat_map entry_bytes es ++ rest) first fits.0 (is ∙ append_assoc (entry_bytes e) (flat_map entry_bytes es) rest))
    (λ back at.
    entries_from_goes program es (found ++ e ∷ []) back rest
    (λ k x here. subst (λ (before : List Entry). IsKeptEntry program before x) (sym (append_assoc found (e ∷ []) (take k es))) (kept (suc k) x here)) fits.1 at))

pub entries_goes : (program : Program) (es : List Entry) (left : Left) (rest : List ℕ) → AreKeptEntries program es → AllByRecursion EntryFits es → left.bytes ≡ flat_map entry_bytes es ++ rest →
    Goes (read_entries_from program (length es) [] left) es rest
entries_goes program es left rest kept fits is = entries_from_goes program es [] left rest kept.each fits is
