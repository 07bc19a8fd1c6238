-- What a body fetches names what is there, and is whole once whole types are put for its variables.
use Rattle.std.proofs.Common.{◌≡◌, ℕ, ◌==◌, Bool, true, false, ◌&&◌, List, [], ◌∷◌, ◌++◌, length, map, flat_map, take, bytes_eq, slice_get, Option, Some, None, option_and_then, if◌then◌else◌, refl, sym, ap, ◌∙◌, eqb-true}
use Rattle.std.specs.Prelude.{option_to_list}
use Rattle.std.specs.Bool.{beq}
use Rattle.std.specs.Cmp.Lexicographic.{pointwise}
use Rattle.std.specs.List.{AllByRecursion, All}
use Rattle.std.proofs.lemmas.Option.{option_and_then_some}
use Rattle.std.proofs.lemmas.List.{length-map}
use Rattle.std.proofs.lemmas.List.Elements.{All-from_recursion}
use Rattle.type_tree.specs.declared.tree.Head.TheVariants as head
use Rattle.type_tree.specs.declared.tree.TExpr.{TExpr}
use Rattle.type_tree.specs.declared.tree.TNode.TheVariants.{Node}
use Rattle.type_tree.specs.Tree.{HasVariablesBelow, IsClosed}
use Rattle.type_tree.specs.Substitution.{substituted}
use Rattle.type_tree.proofs.TreeLemmas.{top_of-tree_of}
use Rattle.type_tree.proofs.VariablesLemmas.{below_node}
use Rattle.type_tree.proofs.SubstitutionLemmas.{substituted_closed}
use Rattle.il_model.specs.declared.class.ClassDef.{ClassDef}
use Rattle.il_model.specs.declared.method.Sort.{Sort}
use Rattle.il_model.specs.declared.method.Sort.TheVariants as sort
use Rattle.il_model.specs.declared.method.Clause.{Clause}
use Rattle.il_model.specs.declared.method.Body.{Body}
use Rattle.il_model.specs.declared.method.MethodDef.{MethodDef}
use Rattle.il_model.specs.declared.member.MRef.{MRef}
use Rattle.il_model.specs.declared.member.FRef.{FRef}
use Rattle.il_model.specs.declared.op.Op.{Op}
use Rattle.il_model.specs.declared.entry.Entry.{Entry}
use Rattle.il_model.specs.declared.entry.Entry.TheVariants as entry
use Rattle.il_model.specs.declared.program.Program.{Program}
use Rattle.il_model.specs.Find.{class_number_of, class_of, takes_object, most_fields}
use Rattle.il_model.specs.Found.{same_param, same_result, is_method_named, is_field_named, method_at, is_named_in, own_method, own_field, method_found, field_found}
use Rattle.il_model.specs.Entries.{vector_of, size_entries, type_entries, field_type, field_entries_at, method_entry, has_slot_in, callvirt_entry, new_entries_at, Mention, mention_of, entries_at, entries_of, is_listed, once, catch_entries_of, clause_entries, mentions_of, closed_entry}
use Rattle.il_model.specs.Entries as mention
use Rattle.il_model.specs.Kinds.{is_reference}
use Rattle.il_model.specs.Admission.{has_count_top}
use Rattle.rgctx_fill.specs.declared.spelled.NodeTree.{NodeTree}
use Rattle.rgctx_fill.specs.Starting.{IsWholeType, IsWhole}
use Rattle.rgctx_fill.proofs.WholeLists.{join_all, found_holds, all_weaker, map_all, flat_all, both_of, IsItem, placed, get_of_take}
use Rattle.rgctx_fill.proofs.WholeTypes.{IsCounted, IsWritten, number-substituted, counts-of_parts, counts-substituted}
use Rattle.rgctx_fill.proofs.WholeScopes.{MentionHolds, SortHolds, BodyHolds, IsOwned, IsScoped}
use Rattle.rgctx_fill.proofs.WholeOffsets.{HasField, has-offset}

module _ (program : Program) where
  -- the method is of the class that the type names, and has so many variables
  pub record HasMethod (number : ℕ) (t : TExpr) (args : List TExpr) : Type 0 where
    pub method : MethodDef
    pub is : method_at program number ≡ Some method
    pub owner : class_number_of t ≡ Some method.owner
    pub count : length args ≡ length method.vars

  -- an entry of a body: what it names is there, and its types have these variables
  abbrev pub IsFound : (TExpr → Type 0) → Entry → Type 0
  IsFound P (entry.Kind t) = P t
  IsFound P (entry.Method number t args) = HasMethod number t args × P t × AllByRecursion P args
  IsFound P (entry.Size t) = Unit {0}
  IsFound P (entry.Extent t) = Unit {0}
  IsFound P (entry.Offset t place) = HasField program t place × P t
  IsFound P (entry.Slot number) = ⊥

  -- ---- members that are found

  module _ (scoped : IsScoped program) where
    -- the arguments of the test that a definition is the one that is named
    vars_of_named : (a b c d e : Bool) → (a && b && c && d && e) ≡ true → b ≡ true
    vars_of_named a b c d e h =
        (both_of a b (both_of (a && b) c (both_of (a && b && c) d (both_of (a && b && c && d) e h).0).0).0).1

    named_vars : (named : MRef) (m : MethodDef) → is_method_named named m ≡ true → length m.vars ≡ length named.args
    named_vars named m h =
        eqb-true (length m.vars) (length named.args)
        (vars_of_named (bytes_eq m.name named.name) (length m.vars == length named.args) (pointwise same_param m.params named.params) (same_result m.result named.result) (beq (takes_object m.shape) named.instance) h)

    method_in : (named : MRef) (number k : ℕ) (c : ClassDef) → class_number_of named.class ≡ Some k → slice_get program.classes k ≡ Some c → own_method program named c ≡ Some number → HasMethod number named.class named.args
    method_in named number k c e is found =
        let f : IsOwned program k number × (is_named_in named (method_at program number) ≡ true) =
        found_holds (IsOwned program k) (λ n. is_named_in named (method_at program n)) c.methods number ((scoped.classes k c is).methods) found in
        let o : IsOwned program k number = f.0 in
        let same : length o.method.vars ≡ length named.args = named_vars named o.method (ap (is_named_in named) (sym o.is) ∙ f.1) in
        record { method = o.method; is = o.is; owner = e ∙ ap Some (sym o.owner_is); count = sym same }

    method_there : (named : MRef) (number : ℕ) → method_found program named ≡ Some number → HasMethod number named.class named.args
    method_there named number found =
        option_and_then_some (own_method program named) (class_of program named.class) number found
        (λ c class own. option_and_then_some (λ k. slice_get program.classes k) (class_number_of named.class) c class
        (λ k e is. method_in named number k c e is own))

    field_in : (most : ℕ) (named : FRef) (place k : ℕ) (c : ClassDef) → class_number_of named.class ≡ Some k → slice_get program.classes k ≡ Some c → own_field most named c ≡ Some place → HasField program named.class place
    field_in most named place k c e is found =
        let p : IsItem (take most c.fields) place = placed (is_field_named named) (take most c.fields) place found in
        record { number = k; number_is = e; class = c; is = is; field = p.item; field_is = get_of_take most c.fields place p.item p.is }

    field_of : (most : ℕ) (named : FRef) (place : ℕ) → option_and_then (own_field most named) (class_of program named.class) ≡ Some place → HasField program named.class place
    field_of most named place found =
        option_and_then_some (own_field most named) (class_of program named.class) place found
        (λ c class own. option_and_then_some (λ k. slice_get program.classes k) (class_number_of named.class) c class
        (λ k e is. field_in most named place k c e is own))

    field_there : (named : FRef) (place : ℕ) → field_found program named ≡ Some place → HasField program named.class place
    field_there named place found = field_of most_fields named place found

    -- ---- what instructions and clauses fetch

    module _ (P : TExpr → Type 0) (vector : (t : TExpr) → P t → P (vector_of t)) where
      size_if : (t : TExpr) (b : Bool) → AllByRecursion (IsFound P) (if b then [] else (entry.Size t ∷ []))
      size_if t true = tt
      size_if t false = (tt, tt)

      size_found : (t : TExpr) → AllByRecursion (IsFound P) (size_entries program t)
      size_found t = size_if t (is_reference program t)

      field_entries_found : (f : FRef) (o : Option ℕ) → field_found program f ≡ o → P f.class → AllByRecursion (IsFound P) (field_entries_at program f o)
      field_entries_found f None e h = tt
      field_entries_found f (Some place) e h = (h, ((field_there f place e, h), size_found (field_type f)))

      call_found : (m : MRef) (o : Option ℕ) → method_found program m ≡ o → P m.class × AllByRecursion P m.args → AllByRecursion (IsFound P) (map (method_entry m) (option_to_list o))
      call_found m None e h = tt
      call_found m (Some number) e h = ((method_there m number e, h.0, h.1), tt)

      virtual_if : (m : MRef) (number : ℕ) (b : Bool) → method_found program m ≡ Some number → P m.class × AllByRecursion P m.args → IsFound P (if b then entry.Kind m.class else method_entry m number)
      virtual_if m number true e h = h.0
      virtual_if m number false e h = (method_there m number e, h.0, h.1)

      virtual_found : (m : MRef) (o : Option ℕ) → method_found program m ≡ o → P m.class × AllByRecursion P m.args → AllByRecursion (IsFound P) (map (callvirt_entry program m) (option_to_list o))
      virtual_found m None e h = tt
      virtual_found m (Some number) e h = (virtual_if m number (has_slot_in (method_at program number)) e h, tt)

      new_found : (m : MRef) (o : Option ℕ) → method_found program m ≡ o → P m.class × AllByRecursion P m.args → AllByRecursion (IsFound P) (flat_map (new_entries_at m) (option_to_list o))
      new_found m None e h = tt
      new_found m (Some number) e h = ((method_there m number e, h.0, h.1), (h.0, (tt, tt)))

      mention_found : (x : Mention) → MentionHolds P x → AllByRecursion (IsFound P) (entries_at program x)
      mention_found mention.nothing h = tt
      mention_found (mention.type t) h = (h, size_found t)
      mention_found (mention.kind t) h = (h, tt)
      mention_found (mention.vector t) h = (vector t h, size_found t)
      mention_found (mention.field f) h = field_entries_found f (field_found program f) refl h
      mention_found (mention.call m) h = call_found m (method_found program m) refl h
      mention_found (mention.virtual_call m) h = virtual_found m (method_found program m) refl h
      mention_found (mention.constrained t m) h = join_all (IsFound P) (type_entries program t) (entry.Kind m.class ∷ []) (h.0, size_found t) (h.1, tt)
      mention_found (mention.new m) h = new_found m (method_found program m) refl h

      sort_found : (s : Sort) → SortHolds P s → AllByRecursion (IsFound P) (catch_entries_of s)
      sort_found (sort.Catch t) h = (h, tt)
      sort_found sort.Finally h = tt

      -- all that a body fetches is found
      pub body-found : (b : Body) → BodyHolds P b → AllByRecursion (IsFound P) (mentions_of program b)
      body-found b h =
          join_all (IsFound P) (flat_map (entries_of program) b.code) (flat_map clause_entries b.clauses)
          (flat_all (IsFound P) (entries_of program) b.code (all_weaker (λ (i : Op). MentionHolds P (mention_of i)) (λ i. AllByRecursion (IsFound P) (entries_of program i)) (λ i k. mention_found (mention_of i) k) b.code h.code))
          (flat_all (IsFound P) clause_entries b.clauses (all_weaker (λ (c : Clause). SortHolds P c.sort) (λ c. AllByRecursion (IsFound P) (clause_entries c)) (λ c k. sort_found c.sort k) b.clauses h.clauses))

  once_if : (Q : Entry → Type 0) (b : Bool) (e : Entry) (xs ys : List Entry) → AllByRecursion Q xs → Q e × AllByRecursion Q ys → AllByRecursion Q (if b then xs else (e ∷ ys))
  once_if Q true e xs ys all more = all
  once_if Q false e xs ys all more = more

  pub once-all : (Q : Entry → Type 0) (listed es : List Entry) → AllByRecursion Q es → AllByRecursion Q (once listed es)
  once-all Q listed [] all = tt
  once-all Q listed (e ∷ es) all = once_if Q (is_listed listed e) e (once listed es) (once (listed ++ e ∷ []) es) (once-all Q listed es all.1) (all.0, once-all Q (listed ++ e ∷ []) es all.1)

  pub written-vector : (c m : ℕ) (t : TExpr) → IsWritten program c m t → IsWritten program c m (vector_of t)
  written-vector c m t h = record {
    below = below_node c m head.Vector (t ∷ []) (All-from_recursion (HasVariablesBelow c m) (t ∷ []) (h.below, tt));
    counts = counts-of_parts program head.Vector (t ∷ []) (ap (has_count_top program) (top_of-tree_of (Node head.Vector (t ∷ [])))) (h.counts, tt);
  }

  -- ---- arguments are put

  module _ (cs ms : List TExpr) (in_class : AllByRecursion (IsWholeType program) cs) (in_method : AllByRecursion (IsWholeType program) ms) where
    closed_all : (ts : List TExpr) → AllByRecursion (IsWholeType program) ts → All IsClosed ts
    closed_all ts all = All-from_recursion IsClosed ts (all_weaker (IsWholeType program) IsClosed (λ t h. h.closed) ts all)

    counted_all : (ts : List TExpr) → AllByRecursion (IsWholeType program) ts → AllByRecursion (IsCounted program) ts
    counted_all ts all = all_weaker (IsWholeType program) (IsCounted program) (λ t h. h.counts) ts all

    whole_type : (t : TExpr) → IsWritten program (length cs) (length ms) t → IsWholeType program (substituted cs ms t)
    whole_type t h = record {
      closed = substituted_closed cs ms (closed_all cs in_class) (closed_all ms in_method) t h.below;
      counts = counts-substituted program cs ms (counted_all cs in_class) (counted_all ms in_method) t h.counts;
    }

    -- with whole types put for its variables an entry that is found is whole
    pub found-whole : (spells : NodeTree) (e : Entry) → IsFound (IsWritten program (length cs) (length ms)) e → IsWhole program spells (closed_entry cs ms e)
    found-whole spells (entry.Kind t) h = whole_type t h
    found-whole spells (entry.Method number t args) h = record {
      method = h.0.method;
      is = h.0.is;
      owner = number-substituted cs ms t h.0.method.owner h.0.owner;
      class = whole_type t h.1;
      count = length-map args (substituted cs ms) ∙ h.0.count;
      args = All-from_recursion (IsWholeType program) (map (substituted cs ms) args) (map_all (IsWholeType program) (substituted cs ms) args
          (all_weaker (IsWritten program (length cs) (length ms)) (λ u. IsWholeType program (substituted cs ms u)) whole_type args h.2));
    }
    found-whole spells (entry.Size t) h = tt
    found-whole spells (entry.Extent t) h = tt
    found-whole spells (entry.Offset t place) h =
        has-offset program (substituted cs ms t) place
        (record { number = h.0.number; number_is = number-substituted cs ms t h.0.number h.0.number_is; class = h.0.class; is = h.0.is; field = h.0.field; field_is = h.0.field_is })
    found-whole spells (entry.Slot number) h = absurd h
