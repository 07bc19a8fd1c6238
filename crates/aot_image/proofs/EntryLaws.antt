-- A closed entry that is read was spelled so and may stand behind those before it.
use Rattle.std.proofs.Common.{◌≡◌, ◌∙◌, ℕ, zero, suc, ◌<◌, ◌^◌, ◌==◌, Bool, true, false, not, cond, eqb, nat_le, nat_lt, List, [], ◌∷◌, ◌++◌, length, take, flat_map, slice_get, option_to_list, Option, Some, Ok, refl, sym, ap, subst, append_assoc, arith}
use Rattle.std.specs.Int.{w16}
use Rattle.std.specs.List.{list_all, AllByRecursion}
use Rattle.std.proofs.lemmas.Bool.{eqb-true, eq-eqb, and_parts, and_from, le-leb, ltb-true, not-true}
use Rattle.std.proofs.lemmas.List.{append-nil}
use Rattle.std.proofs.lemmas.Option.{same_Some}
use Rattle.type_tree.specs.declared.tree.TExpr.{TExpr}
use Rattle.type_tree.specs.Tree.{has_variables_below}
use Rattle.type_tree.specs.Positions.{positions_of}
use Rattle.il_model.specs.declared.entry.Entry.{Entry}
use Rattle.il_model.specs.declared.entry.Entry.TheVariants as entry
use Rattle.il_model.specs.declared.method.MethodDef.{MethodDef}
use Rattle.il_model.specs.declared.program.Program.{Program}
use Rattle.il_model.specs.Found.{method_at}
use Rattle.il_model.specs.Entries.{is_listed}
use Rattle.il_model.specs.ClassRules.{has_counts}
use Rattle.rgctx_template.specs.Admitted.{is_bounded_throughout, is_bounded_method}
use Rattle.rgctx_template.specs.GotEntries.{levels_of, most_entry_positions, most_entry_levels, most_closed_entries, trees_of, is_slot, has_own_method, has_own_field, has_member, has_arguments, meets_method_bounds, IsKeptEntry, AreKeptEntries}
use Rattle.aot_image.specs.declared.image.ImageCause.TheVariants as cause
use Rattle.aot_image.specs.ImageSpelling.{byte, half, tree_bytes, entry_bytes}
use Rattle.aot_image.specs.ImageForm.{tree_fits, numbers_fit, EntryFits}
use Rattle.aot_image.specs.ImageReading.{Left, Reader, and_then, check, found_or_bad, fault_at, bad_table, read_byte, read_half, read_tree, read_entry_tree, read_entry_trees_from, read_method_entry, read_offset_entry, read_type_entry, read_entry_of, read_entry, read_entries_from}
use Rattle.aot_image.proofs.StepLaws.{refusal, value_of, rest_of, stepped, stepped_check, stepped_found, IsBytes, Took, took_none, took_then, byte_sound, wide16, number_sound}
use Rattle.aot_image.proofs.TreeLaws.{IsRead, tree_sound}

-- what the trees of an entry satisfy, each by itself
pub record TreesAre (program : Program) (ts : List TExpr) : Type 0 where
  pub closed : list_all (has_variables_below 0 0) ts ≡ true
  pub counts : list_all (has_counts program) ts ≡ true
  pub fits : list_all tree_fits ts ≡ true
  pub positions : list_all (λ t. nat_le (positions_of t) most_entry_positions) ts ≡ true
  pub levels : list_all (λ t. nat_le (levels_of t) most_entry_levels) ts ≡ true
  pub bounds : list_all (is_bounded_throughout program) ts ≡ true

no_trees : (program : Program) → TreesAre program []
no_trees program = record { closed = refl; counts = refl; fits = refl; positions = refl; levels = refl; bounds = refl }

more_trees : (program : Program) (t : TExpr) (ts : List TExpr) → TreesAre program (t ∷ []) → TreesAre program ts → TreesAre program (t ∷ ts)
more_trees program t ts one others =
    record {
      closed = and_from _ _ (and_parts _ _ one.closed).0 others.closed;
      counts = and_from _ _ (and_parts _ _ one.counts).0 others.counts;
      fits = and_from _ _ (and_parts _ _ one.fits).0 others.fits;
      positions = and_from _ _ (and_parts _ _ one.positions).0 others.positions;
      levels = and_from _ _ (and_parts _ _ one.levels).0 others.levels;
      bounds = and_from _ _ (and_parts _ _ one.bounds).0 others.bounds;
    }

tree_made : (program : Program) (t : TExpr) (remain : ℕ) → IsRead program most_entry_levels most_entry_positions t remain → is_bounded_throughout program t ≡ true → TreesAre program (t ∷ [])
tree_made program t remain read bounded =
    record {
      closed = and_from _ _ read.closed refl;
      counts = and_from _ _ read.counts refl;
      fits = and_from _ _ read.fits refl;
      positions = and_from _ _ (le-leb _ _ (omega (arith, read.sum))) refl;
      levels = and_from _ _ (le-leb _ _ read.deep) refl;
      bounds = and_from _ _ bounded refl;
    }

entry_tree_sound : (program : Program) (row : ℕ) (left : Left) (t : TExpr) (back : Left) → IsBytes left.bytes → read_entry_tree program row left ≡ Ok (t, back) →
    Took left (tree_bytes t) back × TreesAre program (t ∷ [])
unfolding read_entry_tree
entry_tree_sound program row left t back fits e =
    stepped (read_tree program row most_entry_levels most_entry_positions left) (λ u more. and_then (check row (is_bounded_throughout program u) more) (λ _ more. Ok (u, more))) t back e
    (λ u mid e1 e2.
    let read = tree_sound program row most_entry_levels most_entry_positions left u mid fits e1 in
    stepped_check row (is_bounded_throughout program u) mid (λ _ more. Ok (u, more)) t back e2
    (λ bounded e3.
    subst (λ (l : Left). Took left (tree_bytes t) l × TreesAre program (t ∷ [])) (rest_of u t mid back e3)
    (subst (λ (x : TExpr). Took left (tree_bytes x) mid × TreesAre program (x ∷ [])) (value_of u t mid back e3) (read.0, tree_made program u read.1.0 read.1.1 bounded))))

pub record TreesTook (program : Program) (n : ℕ) (found ts : List TExpr) (left back : Left) : Type 0 where
  pub new : List TExpr
  pub is : ts ≡ found ++ new
  pub took : Took left (flat_map tree_bytes new) back
  pub count : length new ≡ n
  pub trees : TreesAre program new

entry_trees_sound : (program : Program) (row n : ℕ) (found : List TExpr) (left : Left) (ts : List TExpr) (back : Left) → IsBytes left.bytes →
    read_entry_trees_from program row n found left ≡ Ok (ts, back) → TreesTook program n found ts left back
unfolding read_entry_trees_from
entry_trees_sound program row zero found left ts back fits e =
    let same : found ≡ ts = value_of found ts left back e in
    let stays : left ≡ back = rest_of found ts left back e in
    record { new = []; is = sym same ∙ sym (append-nil found); took = subst (λ (l : Left). Took left [] l) stays (took_none left fits); count = refl; trees = no_trees program }
entry_trees_sound program row (suc n) found left ts back fits e =
    stepped (read_entry_tree program row left) (λ t more. read_entry_trees_from program row n (found ++ t ∷ []) more) ts back e
    (λ t mid e1 e2.
    let one = entry_tree_sound program row left t mid fits e1 in
    let others = entry_trees_sound program row n (found ++ t ∷ []) mid ts back one.0.fits e2 in
    record {
      new = t ∷ others.new;
      is = others.is ∙ append_assoc found (t ∷ []) others.new;
      took = took_then left mid back (tree_bytes t) (flat_map tree_bytes others.new) one.0 others.took;
      count = ap suc others.count;
      trees = more_trees program t others.new one.1 others.trees;
    })

-- what an entry that was read satisfies by itself
pub record EntryRead (program : Program) (e : Entry) (left back : Left) : Type 0 where
  pub took : Took left (entry_bytes e) back
  pub kind : is_slot e ≡ false
  pub numbers : numbers_fit e
  pub trees : TreesAre program (trees_of e)
  pub member : has_member program e ≡ true
  pub arguments : has_arguments program e ≡ true
  pub method_bounds : meets_method_bounds program e ≡ true

-- ---- one kind after another

-- an entry that is made of a type alone
pub record OfType (program : Program) (n : ℕ) (made : TExpr → Entry) : Type 0 where
  pub bytes : (t : TExpr) → entry_bytes (made t) ≡ byte n ++ tree_bytes t
  pub trees : (t : TExpr) → trees_of (made t) ≡ t ∷ []
  pub kind : (t : TExpr) → is_slot (made t) ≡ false
  pub numbers : (t : TExpr) → numbers_fit (made t)
  pub member : (t : TExpr) → has_member program (made t) ≡ true
  pub arguments : (t : TExpr) → has_arguments program (made t) ≡ true
  pub method_bounds : (t : TExpr) → meets_method_bounds program (made t) ≡ true

of_kind : (program : Program) → OfType program 0 entry.Kind
of_kind program = record { bytes = λ t. refl; trees = λ t. refl; kind = λ t. refl; numbers = λ t. tt; member = λ t. refl; arguments = λ t. refl; method_bounds = λ t. refl }

of_size : (program : Program) → OfType program 2 entry.Size
of_size program = record { bytes = λ t. refl; trees = λ t. refl; kind = λ t. refl; numbers = λ t. tt; member = λ t. refl; arguments = λ t. refl; method_bounds = λ t. refl }

of_extent : (program : Program) → OfType program 3 entry.Extent
of_extent program = record { bytes = λ t. refl; trees = λ t. refl; kind = λ t. refl; numbers = λ t. tt; member = λ t. refl; arguments = λ t. refl; method_bounds = λ t. refl }

type_sound : (program : Program) (row k n : ℕ) (made : TExpr → Entry) (left mid : Left) (e : Entry) (back : Left) → OfType program k made → n ≡ k → Took left (byte n) mid →
    read_type_entry made program row mid ≡ Ok (e, back) → EntryRead program e left back
unfolding read_type_entry
type_sound program row k n made left mid e back of same first is =
    stepped (read_entry_tree program row mid) (λ t more. Ok (made t, more)) e back is
    (λ t last e1 e2.
    let read = entry_tree_sound program row mid t last first.fits e1 in
    let whole : EntryRead program (made t) left last = record {
      took = subst (λ (bs : List ℕ). Took left bs last) (sym (of.bytes t)) (took_then left mid last (byte k) (tree_bytes t) (subst (λ (m : ℕ). Took left (byte m) mid) same first) read.0);
      kind = of.kind t;
      numbers = of.numbers t;
      trees = subst (λ (ts : List TExpr). TreesAre program ts) (sym (of.trees t)) read.1;
      member = of.member t;
      arguments = of.arguments t;
      method_bounds = of.method_bounds t;
    } in
    subst (λ (l : Left). EntryRead program e left l) (rest_of (made t) e last back e2) (subst (λ (x : Entry). EntryRead program x left last) (value_of (made t) e last back e2) whole))

at_method : (program : Program) (number : ℕ) (m : MethodDef) (test : MethodDef → Bool) → method_at program number ≡ Some m → test m ≡ true → list_all test (option_to_list (method_at program number)) ≡ true
at_method program number m test is holds = ap (λ (o : Option MethodDef). list_all test (option_to_list o)) is ∙ and_from _ _ holds refl

method_sound : (program : Program) (row n : ℕ) (left mid : Left) (e : Entry) (back : Left) → n ≡ 1 → Took left (byte n) mid → read_method_entry program row mid ≡ Ok (e, back) →
    EntryRead program e left back
unfolding read_method_entry
method_sound program row n left mid e back same first is =
    stepped (read_half mid)
    (λ number more. and_then (found_or_bad row (method_at program number) more) (λ m more. and_then (read_entry_tree program row more) (λ c more.
    and_then (check row (has_own_method program c number) more) (λ _ more. and_then (read_entry_trees_from program row (length m.vars) [] more) (λ args more.
    and_then (check row (is_bounded_method program c args m) more) (λ _ more. Ok (entry.Method number c args, more)))))))
    e back is
    (λ number a e1 e2.
    let numbered = number_sound w16 (2 ^ 16) wide16 mid number a first.fits e1 in
    stepped_found row (method_at program number) a
    (λ m more. and_then (read_entry_tree program row more) (λ c more.
    and_then (check row (has_own_method program c number) more) (λ _ more. and_then (read_entry_trees_from program row (length m.vars) [] more) (λ args more.
    and_then (check row (is_bounded_method program c args m) more) (λ _ more. Ok (entry.Method number c args, more))))))
    e back e2
    (λ m there e3.
    stepped (read_entry_tree program row a)
    (λ c more.
    and_then (check row (has_own_method program c number) more) (λ _ more. and_then (read_entry_trees_from program row (length m.vars) [] more) (λ args more.
    and_then (check row (is_bounded_method program c args m) more) (λ _ more. Ok (entry.Method number c args, more)))))
    e back e3
    (λ c b e4 e5.
    let class = entry_tree_sound program row a c b numbered.0.fits e4 in
    stepped_check row (has_own_method program c number) b
    (λ _ more. and_then (read_entry_trees_from program row (length m.vars) [] more) (λ args more.
    and_then (check row (is_bounded_method program c args m) more) (λ _ more. Ok (entry.Method number c args, more))))
    e back e5
    (λ own e6.
    stepped (read_entry_trees_from program row (length m.vars) [] b)
    (λ args more. and_then (check row (is_bounded_method program c args m) more) (λ _ more. Ok (entry.Method number c args, more))) e back e6
    (λ args last e7 e8.
    let all = entry_trees_sound program row (length m.vars) [] b args last class.0.fits e7 in
    stepped_check row (is_bounded_method program c args m) last (λ _ more. Ok (entry.Method number c args, more)) e back e8
    (λ bounded e9.
    let args_are : TreesAre program args = subst (λ (ts : List TExpr). TreesAre program ts) (sym all.is) all.trees in
    let args_took : Took b (flat_map tree_bytes args) last = subst (λ (ts : List TExpr). Took b (flat_map tree_bytes ts) last) (sym all.is) all.took in
    let count : (length args == length m.vars) ≡ true = eq-eqb _ _ (ap length all.is ∙ all.count) in
    let whole : EntryRead program (entry.Method number c args) left last = record {
      took = took_then left mid last (byte 1) (half number ++ (tree_bytes c ++ flat_map tree_bytes args)) (subst (λ (k : ℕ). Took left (byte k) mid) same first)
          (took_then mid a last (half number) (tree_bytes c ++ flat_map tree_bytes args) numbered.0 (took_then a b last (tree_bytes c) (flat_map tree_bytes args) class.0 args_took));
      kind = refl;
      numbers = numbered.1;
      trees = more_trees program c args class.1 args_are;
      member = own;
      arguments = at_method program number m (λ d. length args == length d.vars) there count;
      method_bounds = at_method program number m (is_bounded_method program c args) there bounded;
    } in
    subst (λ (l : Left). EntryRead program e left l) (rest_of (entry.Method number c args) e last back e9)
    (subst (λ (x : Entry). EntryRead program x left last) (value_of (entry.Method number c args) e last back e9) whole)))))))

offset_sound : (program : Program) (row n : ℕ) (left mid : Left) (e : Entry) (back : Left) → n ≡ 4 → Took left (byte n) mid → read_offset_entry program row mid ≡ Ok (e, back) →
    EntryRead program e left back
unfolding read_offset_entry
offset_sound program row n left mid e back same first is =
    stepped (read_entry_tree program row mid)
    (λ c more. and_then (read_half more) (λ place more. and_then (check row (has_own_field program c place) more) (λ _ more. Ok (entry.Offset c place, more)))) e back is
    (λ c a e1 e2.
    let class = entry_tree_sound program row mid c a first.fits e1 in
    stepped (read_half a) (λ place more. and_then (check row (has_own_field program c place) more) (λ _ more. Ok (entry.Offset c place, more))) e back e2
    (λ place last e3 e4.
    let placed = number_sound w16 (2 ^ 16) wide16 a place last class.0.fits e3 in
    stepped_check row (has_own_field program c place) last (λ _ more. Ok (entry.Offset c place, more)) e back e4
    (λ own e5.
    let whole : EntryRead program (entry.Offset c place) left last = record {
      took = took_then left mid last (byte 4) (tree_bytes c ++ half place) (subst (λ (k : ℕ). Took left (byte k) mid) same first) (took_then mid a last (tree_bytes c) (half place) class.0 placed.0);
      kind = refl;
      numbers = placed.1;
      trees = class.1;
      member = own;
      arguments = refl;
      method_bounds = refl;
    } in
    subst (λ (l : Left). EntryRead program e left l) (rest_of (entry.Offset c place) e last back e5)
    (subst (λ (x : Entry). EntryRead program x left last) (value_of (entry.Offset c place) e last back e5) whole))))

entry_by : (program : Program) (row n : ℕ) (left mid : Left) (e : Entry) (back : Left) (b0 b1 b2 b3 b4 : Bool) → eqb n 0 ≡ b0 → eqb n 1 ≡ b1 → eqb n 2 ≡ b2 → eqb n 3 ≡ b3 → eqb n 4 ≡ b4 →
    Took left (byte n) mid →
    (let r : Reader Entry = cond b0 (read_type_entry entry.Kind program row) (cond b1 (read_method_entry program row) (cond b2 (read_type_entry entry.Size program row)
    (cond b3 (read_type_entry entry.Extent program row) (cond b4 (read_offset_entry program row) (bad_table row))))) in r mid ≡ Ok (e, back)) → EntryRead program e left back
entry_by program row n left mid e back true b1 b2 b3 b4 i0 i1 i2 i3 i4 first is = type_sound program row 0 n entry.Kind left mid e back (of_kind program) (eqb-true n 0 i0) first is
entry_by program row n left mid e back false true b2 b3 b4 i0 i1 i2 i3 i4 first is = method_sound program row n left mid e back (eqb-true n 1 i1) first is
entry_by program row n left mid e back false false true b3 b4 i0 i1 i2 i3 i4 first is = type_sound program row 2 n entry.Size left mid e back (of_size program) (eqb-true n 2 i2) first is
entry_by program row n left mid e back false false false true b4 i0 i1 i2 i3 i4 first is = type_sound program row 3 n entry.Extent left mid e back (of_extent program) (eqb-true n 3 i3) first is
entry_by program row n left mid e back false false false false true i0 i1 i2 i3 i4 first is = offset_sound program row n left mid e back (eqb-true n 4 i4) first is
entry_by program row n left mid e back false false false false false i0 i1 i2 i3 i4 first is = refusal (fault_at row cause.BadTable) e back is

-- ---- rows behind rows

pub record EntryPut (program : Program) (earlier grown : List Entry) (left back : Left) : Type 0 where
  pub entry_is : Entry
  pub is : grown ≡ earlier ++ entry_is ∷ []
  pub took : Took left (entry_bytes entry_is) back
  pub fits : EntryFits entry_is
  pub kept : IsKeptEntry program earlier entry_is

put_kept : (program : Program) (earlier : List Entry) (e : Entry) (left back : Left) → EntryRead program e left back → length earlier < most_closed_entries → is_listed earlier e ≡ false →
    EntryPut program earlier (earlier ++ e ∷ []) left back
put_kept program earlier e left back read few new =
    record {
      entry_is = e;
      is = refl;
      took = read.took;
      fits = record { numbers = read.numbers; trees = read.trees.fits };
      kept = record {
        kind = read.kind;
        closed = read.trees.closed;
        member = read.member;
        arguments = read.arguments;
        counts = read.trees.counts;
        positions = read.trees.positions;
        levels = read.trees.levels;
        bounds = read.trees.bounds;
        method_bounds = read.method_bounds;
        new = new;
        few = few;
      };
    }

entry_sound : (program : Program) (earlier : List Entry) (left : Left) (grown : List Entry) (back : Left) → IsBytes left.bytes → read_entry program earlier left ≡ Ok (grown, back) →
    EntryPut program earlier grown left back
unfolding read_entry
entry_sound program earlier left grown back fits is =
    let at : ℕ = left.at in
    stepped (read_byte left)
    (λ n more. and_then (check at (nat_lt (length earlier) most_closed_entries) more) (λ _ more. and_then (read_entry_of program at n more) (λ e more.
    and_then (check at (not (is_listed earlier e)) more) (λ _ more. Ok (earlier ++ e ∷ [], more)))))
    grown back is
    (λ n mid e1 e2.
    let first = byte_sound left n mid fits e1 in
    stepped_check at (nat_lt (length earlier) most_closed_entries) mid
    (λ _ more. and_then (read_entry_of program at n more) (λ e more. and_then (check at (not (is_listed earlier e)) more) (λ _ more. Ok (earlier ++ e ∷ [], more)))) grown back e2
    (λ few e3.
    stepped (read_entry_of program at n mid) (λ e more. and_then (check at (not (is_listed earlier e)) more) (λ _ more. Ok (earlier ++ e ∷ [], more))) grown back e3
    (λ e last e4 e5.
    let read = entry_by program at n left mid e last (eqb n 0) (eqb n 1) (eqb n 2) (eqb n 3) (eqb n 4) refl refl refl refl refl first.0 e4 in
    stepped_check at (not (is_listed earlier e)) last (λ _ more. Ok (earlier ++ e ∷ [], more)) grown back e5
    (λ new e6.
    let whole = put_kept program earlier e left last read (ltb-true _ _ few) (not-true (is_listed earlier e) new) in
    subst (λ (l : Left). EntryPut program earlier grown left l) (rest_of (earlier ++ e ∷ []) grown last back e6)
    (subst (λ (es : List Entry). EntryPut program earlier es left last) (value_of (earlier ++ e ∷ []) grown last back e6) whole)))))

abbrev pub AreKept : Program → List Entry → List Entry → Type 0
AreKept program found [] = Unit {0}
AreKept program found (e ∷ es) = IsKeptEntry program found e × AreKept program (found ++ e ∷ []) es

kept_at : (program : Program) (found es : List Entry) (k : ℕ) (e : Entry) → AreKept program found es → slice_get es k ≡ Some e → IsKeptEntry program (found ++ take k es) e
kept_at program found [] k e all at = absurd cc
kept_at program found (x ∷ xs) zero e all at =
    subst (λ (before : List Entry). IsKeptEntry program before e) (sym (append-nil found)) (subst (λ (y : Entry). IsKeptEntry program found y) (same_Some x e at) all.0)
kept_at program found (x ∷ xs) (suc k) e all at =
    subst (λ (before : List Entry). IsKeptEntry program before e) (append_assoc found (x ∷ []) (take k xs)) (kept_at program (found ++ x ∷ []) xs k e all.1 at)

pub are_kept : (program : Program) (es : List Entry) → AreKept program [] es → AreKeptEntries program es
are_kept program es all = record { each = λ k e at. kept_at program [] es k e all at }

pub record EntriesRead (program : Program) (n : ℕ) (found es : List Entry) (left back : Left) : Type 0 where
  pub new : List Entry
  pub is : es ≡ found ++ new
  pub took : Took left (flat_map entry_bytes new) back
  pub count : length new ≡ n
  pub fits : AllByRecursion EntryFits new
  pub kept : AreKept program found new

pub entries_sound : (program : Program) (n : ℕ) (found : List Entry) (left : Left) (es : List Entry) (back : Left) → IsBytes left.bytes → read_entries_from program n found left ≡ Ok (es, back) →
    EntriesRead program n found es left back
unfolding read_entries_from
entries_sound program zero found left es back fits is =
    let same : found ≡ es = value_of found es left back is in
    let stays : left ≡ back = rest_of found es left back is in
    record { new = []; is = sym same ∙ sym (append-nil found); took = subst (λ (l : Left). Took left [] l) stays (took_none left fits); count = refl; fits = tt; kept = tt }
entries_sound program (suc n) found left es back fits is =
    stepped (read_entry program found left) (λ grown more. read_entries_from program n grown more) es back is
    (λ grown mid e1 e2.
    let one = entry_sound program found left grown mid fits e1 in
    let others = entries_sound program n (found ++ one.entry_is ∷ []) mid es back one.took.fits (ap (λ (g : List Entry). read_entries_from program n g mid) (sym one.is) ∙ e2) in
    record {
      new = one.entry_is ∷ others.new;
      is = others.is ∙ append_assoc found (one.entry_is ∷ []) others.new;
      took = took_then left mid back (entry_bytes one.entry_is) (flat_map entry_bytes others.new) one.took others.took;
      count = ap suc others.count;
      fits = (one.fits, others.fits);
      kept = (one.kept, others.kept);
    })
