-- Where the turn of each service leads.
use Rattle.std.proofs.Common.{◌≡◌, ℕ, zero, suc, ◌+◌, ◌-◌, ◌%◌, ◌/◌, ◌^◌, ◌==◌, ◌&&◌, Bool, true, false, nat_lt, nat_le, List, [], ◌∷◌, length, Option, Some, None, Result, Ok, Err, if◌then◌else◌, refl}
use Rattle.std.specs.Prelude.{is_some}
use Rattle.type_tree.specs.declared.tree.TExpr.{TExpr}
use Rattle.il_model.specs.declared.layout.MethodTree.{MethodTree}
use Rattle.il_model.specs.declared.method.MethodDef.{MethodDef}
use Rattle.il_model.specs.declared.key.BodyRow.{BodyRow}
use Rattle.il_model.specs.Found.{method_at}
use Rattle.interaction.specs.declared.turn.What.TheVariants as noted
use Rattle.cil_meaning.specs.Naming.{strings_from, names_from}
use Rattle.store_object.specs.Store.{summed}
use Rattle.store_object.specs.declared.place.Place.{Place}
use Rattle.store_object.specs.declared.place.Place.TheVariants as at
use Rattle.store_object.specs.declared.request.Form.TheVariants as printed
use Rattle.store_object.specs.declared.reply.Reply.{Reply}
use Rattle.store_object.specs.declared.request.Request.TheVariants as ask
use Rattle.rgctx_words.specs.Frames.{frame_index}
use Rattle.rgctx_words.specs.NodeWords.{node_read, definition_of}
use Rattle.rgctx_words.specs.Stacks.{mem_of, with_word}
use Rattle.crossings.specs.Returns.{current_word}
use Rattle.rgctx_words.specs.Frames.{caller_word, back_word, most_frames}
use Rattle.cil_meaning.specs.Types.{passes_as}
use Rattle.store_object.specs.declared.request.Cause.TheVariants as cause
use Rattle.rgctx_fill.specs.declared.doing.Doing.TheVariants.{Runs, Interprets, Stops, Finishes}
use Rattle.rgctx_fill.specs.declared.spelled.NodeTree.{NodeTree}
use Rattle.rgctx_fill.specs.declared.spelled.NodeTree.TheVariants as tree
use Rattle.rgctx_fill.specs.Spelled.{argument_fields, is_packed, type_or_stop, with_type, applied_or_stop}
use Rattle.rgctx_fill.specs.ThreadStates.{ImageData, ThreadData, Move, with_stack, now_doing}
use Rattle.rgctx_fill.specs.ThreadStates as move
use Rattle.rgctx_fill.specs.ServiceReplies.{refuses, given, word_of_flag, answered}
use Rattle.rgctx_fill.specs.NodeReadings.{is_node_number, numbered, is_type_word, with_type_node, on_type, reads_types, reads_within, with_tree, on_type_tree, with_type_tree}
use Rattle.rgctx_fill.specs.StoreServices.{string_leaf, past_32, asks, index_in, number_in, swaps_frame, with_string, with_object, by_reference, prints_string, prints, allocates, types_of, measures, starts, ends, in_frame, in_object, in_statics, with_pointer, loads, saves, exchanges, compares, adds_at, adds}
use Rattle.rgctx_fill.specs.TypeServices.{is_vector_word, slot_found, finds, finds_slot, judges_assignable, finds_element}
use Rattle.rgctx_fill.specs.CallServices.{argument_widths, are_there, takes_result, calls_body, calls_interpreter, enters, calls_row, calls_method, calls_tree, calls, level_at, returned_to, returns_to, returns, row_entered}
use Rattle.rt_service.specs.GoingOn.{IsOnward}
use Rattle.rt_service.proofs.LeadLemmas.{Leads}

module _ (P : ThreadData → Type 0) (Q : (Reply → ThreadData) → Type 0) (quiet : (t : ThreadData) → IsOnward t.doing → P t) where
  abbrev pub Led : Move → Type 0
  Led m = Leads P Q m

  by_if : (b : Bool) (m n : Move) → (b ≡ true → Led m) → (b ≡ false → Led n) → Led (if b then m else n)
  by_if true m n p q = p refl
  by_if false m n p q = q refl

  pub either : (b : Bool) (m n : Move) → Led m → Led n → Led (if b then m else n)
  either b m n p q = by_if b m n (λ e. p) (λ e. q)

  -- Node words ---------------------------------------------------------------

  on_type_led : (r : Result TExpr NodeTree) (stops : NodeTree → Move) (goes : TExpr → Move) → ((t : NodeTree) → Led (stops t)) → ((t : TExpr) → Led (goes t)) → Led (on_type r stops goes)
  on_type_led (Ok t) stops goes p q = q t
  on_type_led (Err stop) stops goes p q = p stop

  types_led : (reads : ℕ → (NodeTree → Move) → Move) → ((n : ℕ) (back : NodeTree → Move) → ((t : NodeTree) → Led (back t)) → Led (reads n back)) → (i : ℕ) (ns : List ℕ) (then_ : Result (List TExpr) NodeTree → Move)
      → ((r : Result (List TExpr) NodeTree) → Led (then_ r)) → Led (reads_types reads i ns then_)
  types_led reads each i [] then_ p = p (Ok [])
  types_led reads each i (n ∷ ns) then_ p = either (n == 0) _ _ (p (Ok [])) (either (nat_lt n i) _ _
      (each n (λ spells. on_type (type_or_stop spells) (λ stop. then_ (Err stop)) (λ t. reads_types reads i ns (λ ts. then_ (with_type (Ok t) ts))))
      (λ spells. on_type_led (type_or_stop spells) (λ stop. then_ (Err stop)) (λ t. reads_types reads i ns (λ ts. then_ (with_type (Ok t) ts))) (λ stop. p (Err stop))
      (λ t. types_led reads each i ns (λ ts. then_ (with_type (Ok t) ts)) (λ ts. p (with_type (Ok t) ts)))))
      (p (Err tree.Other)))

  within_led : (levels i : ℕ) (then_ : NodeTree → Move) → ((t : NodeTree) → Led (then_ t)) → Led (reads_within levels i then_)
  within_led zero i then_ p = p tree.Other
  within_led (suc levels) i then_ p = λ word. either (is_packed (node_read word)) _ _
      (types_led (λ n back. reads_within levels n back) (λ n back q. within_led levels n back q) i (argument_fields (node_read word)) (λ ts. then_ (applied_or_stop (definition_of (node_read word).definition) ts)) (λ ts. p (applied_or_stop (definition_of (node_read word).definition) ts)))
      (p tree.Other)

  module _ (s : ThreadData) where
    pub numbered_led : (n : ℕ) (m : Move) → Led m → Led (numbered s n m)
    numbered_led n m p = either (is_node_number n) m (refuses s) p tt

    pub type_node_led : (n : ℕ) (m : Move) → Led m → Led (with_type_node s n m)
    type_node_led n m p = numbered_led n (move.Reads n (λ word. if is_type_word word then m else refuses s)) (λ word. either (is_type_word word) m (refuses s) p tt)

    pub tree_led : (n : ℕ) (m : NodeTree → Move) → ((t : NodeTree) → Led (m t)) → Led (with_tree s n m)
    tree_led n m p = numbered_led n (reads_within (suc n) n m) (within_led (suc n) n m p)

    on_tree_led : (m : TExpr → Move) → ((t : TExpr) → Led (m t)) → (t : NodeTree) → Led (on_type_tree s m t)
    on_tree_led m p (tree.Kind t) = p t
    on_tree_led m p (tree.Method x) = tt
    on_tree_led m p tree.Other = tt
    on_tree_led m p (tree.Zero n) = tt

    type_tree_led : (n : ℕ) (m : TExpr → Move) → ((t : TExpr) → Led (m t)) → Led (with_type_tree s n m)
    type_tree_led n m p = tree_led n (on_type_tree s m) (on_tree_led m p)

    pub two_led : (n k : ℕ) (m : TExpr → TExpr → Move) → ((t u : TExpr) → Led (m t u)) → Led (numbered s n (numbered s k (with_type_tree s n (λ t. with_type_tree s k (λ u. m t u)))))
    two_led n k m p = numbered_led n _ (numbered_led k _ (type_tree_led n (λ t. with_type_tree s k (λ u. m t u)) (λ t. type_tree_led k (λ u. m t u) (λ u. p t u))))

    -- Services that make no request ------------------------------------------

    module _ (im : ImageData) where
      found_led : (slot : Option ℕ) → Led (finds im s slot)
      found_led None = tt
      found_led (Some slot) = quiet (given s slot) tt

      pub slot_led : (n k ordinal : ℕ) → Led (finds_slot im s n k ordinal)
      slot_led n k ordinal = two_led n k _ (λ t u. found_led (slot_found im.cat.program t u ordinal))

      pub assignable_led : (n k : ℕ) → Led (judges_assignable im s n k)
      assignable_led n k = two_led n k _ (λ t u. quiet (given s (word_of_flag (passes_as im.cat.program t u))) tt)

      pub element_led : (n : ℕ) → Led (finds_element im s n)
      element_led n = numbered_led n _ (λ word. either (is_vector_word word) (move.Goes noted.Action (given s (node_read word).first)) (refuses s) (quiet (given s (node_read word).first) tt) tt)

      entered : (b : Bool) (t : ThreadData) → IsOnward t.doing → P (if b then now_doing s (Stops cause.Depth) else t)
      entered true t none = quiet (now_doing s (Stops cause.Depth)) tt
      entered false t none = quiet t none

      row_led : (node result list : ℕ) (row : Option BodyRow) → Led (calls_row im s node result list row)
      row_led node result list None = tt
      row_led node result list (Some row) = entered (length s.stack.bases == most_frames) (calls_body im s node result list row) tt

      method_led : (node result list word : ℕ) (m : MethodTree) (d : Option MethodDef) → Led (calls_method im s node result list word m d)
      method_led node result list word m None = tt
      method_led node result list word m (Some d) = either (is_some d.body) _ _ (either (word == 0) _ _ (either (are_there s.stack.words list (argument_widths im.cat.program m d) && takes_result s.stack.words result im.cat.program m d.result) (enters im s node result list (calls_interpreter im s node result list m d)) (refuses s) (entered (length s.stack.bases == most_frames) (calls_interpreter im s node result list m d) tt) tt) (row_led node result list (row_entered im.cat.bodies m.method word))) tt

      called_led : (node result list word : ℕ) (t : NodeTree) → Led (calls_tree im s node result list word t)
      called_led node result list word (tree.Kind t) = tt
      called_led node result list word (tree.Method m) = method_led node result list word m (method_at im.cat.program m.method)
      called_led node result list word tree.Other = tt
      called_led node result list word (tree.Zero n) = tt

      pub call_led : (value result list : ℕ) → Led (calls im s value result list)
      call_led value result list = tree_led (value % 65536) (calls_tree im s (value % 65536) result list (value / 65536)) (called_led (value % 65536) result list (value / 65536))

    back_quiet : (b : Bool) → IsOnward (if b then Interprets else Runs)
    back_quiet true = tt
    back_quiet false = tt

    level_led : (level : Option ℕ) → Led (returns_to s level)
    level_led None = tt
    level_led (Some level) = either (nat_lt (level + 1) (length s.stack.bases)) (move.Goes noted.Action (returned_to s level)) (refuses s) (quiet (returned_to s level) (back_quiet (current_word s.stack back_word == 0))) tt

    pub return_led : (n : ℕ) → Led (returns s n)
    return_led zero = tt
    return_led (suc zero) = quiet (now_doing s Finishes) tt
    return_led (suc (suc n)) = level_led (level_at s.stack.bases (current_word s.stack caller_word))

    -- Requests ---------------------------------------------------------------

    module _ (im : ImageData) where
      module _ (m : Move) (p : Led m) where
        string_led : (w : ℕ) → Led (with_string im s w m)
        string_led w = either (nat_lt w names_from) (if nat_le strings_from w && nat_lt (w - strings_from) (length im.cat.program.literals) then m else refuses s) (with_type_node s (w - names_from) m)
            (either (nat_le strings_from w && nat_lt (w - strings_from) (length im.cat.program.literals)) m (refuses s) p tt) (type_node_led (w - names_from) m p)

        object_led : (w : ℕ) → Led (with_object im s w m)
        object_led w = either (nat_lt 0 w && nat_lt w strings_from) m (refuses s) p tt

      pub reference_led : (w : ℕ) (object string : Move) → Led object → Led string → Led (by_reference im s w object string)
      reference_led w object string p q = either (nat_lt w strings_from) (with_object im s w object) (with_string im s w string) (object_led object p w) (string_led string q w)

      frame_led : (i : Option ℕ) (frame : ℕ → Move) → ((k : ℕ) → Led (frame k)) → Led (in_frame im s i frame)
      frame_led None frame p = tt
      frame_led (Some i) frame p = p i

      pointer_led : (pointer : ℕ) (frame : ℕ → Move) (store : Place → Move) → ((k : ℕ) → Led (frame k)) → ((place : Place) → Led (store place)) → Led (with_pointer im s pointer frame store)
      pointer_led pointer frame store p q =
          either (nat_lt pointer (2 ^ 62)) (in_frame im s (frame_index (length s.stack.words) pointer) frame) (if nat_lt pointer (2 ^ 63) then in_object im s (pointer - 2 ^ 62) store else in_statics im s (pointer - 2 ^ 63) store)
          (frame_led (frame_index (length s.stack.words) pointer) frame p)
          (either (nat_lt pointer (2 ^ 63)) (in_object im s (pointer - 2 ^ 62) store) (in_statics im s (pointer - 2 ^ 63) store) (object_at (pointer - 2 ^ 62)) (statics_at (pointer - 2 ^ 63)))
        where
          object_at : (low : ℕ) → Led (in_object im s low store)
          object_at low = either (nat_lt 0 (number_in im s low) && nat_lt (number_in im s low) past_32) (store (at.Object (number_in im s low) (index_in im s low))) (refuses s) (q (at.Object (number_in im s low) (index_in im s low))) tt

          statics_at : (low : ℕ) → Led (in_statics im s low store)
          statics_at low = type_node_led (number_in im s low) (store (at.Fixed (number_in im s low) (index_in im s low))) (q (at.Fixed (number_in im s low) (index_in im s low)))

      -- a service whose reply stands in x10
      module _ (e : Q (answered s)) where
        printed_string : (w : ℕ) → Led (prints_string im s w)
        printed_string w = either (w == 0) (asks im s (ask.Print printed.String w)) (with_string im s w (asks im s (ask.Print printed.String w))) e (string_led (asks im s (ask.Print printed.String w)) e w)

        added : (narrow : Bool) (pointer w : ℕ) → Led (adds_at im s narrow pointer w)
        added narrow pointer w = pointer_led pointer
            (λ i. swaps_frame im s i (summed narrow (mem_of s.stack i) w) (summed narrow (mem_of s.stack i) w)) (λ place. asks im s (ask.Add place w narrow)) (λ k. quiet _ tt) (λ place. e)

        pub requested : (a b c : ℕ) →
            Led (allocates im s a b c) × Led (types_of im s a) × Led (measures im s a) × Led (loads im s a) × Led (saves im s a b) × Led (exchanges im s a b) × Led (compares im s a b c) ×
            Led (adds im s a b c) × Led (prints im s a b) × Led (starts im s a) × Led (ends im s a)
        requested a b c = (
          either (nat_lt b past_32) (with_type_node s a (asks im s (ask.Alloc a b c))) (refuses s) (type_node_led a (asks im s (ask.Alloc a b c)) e) tt,
          reference_led a (asks im s (ask.TypeOf a)) (move.Goes noted.Action (given s string_leaf)) e (quiet (given s string_leaf) tt),
          object_led (asks im s (ask.Length a)) e a,
          pointer_led a (λ i. move.Goes noted.Action (given s (mem_of s.stack i))) (λ place. asks im s (ask.Load place)) (λ k. quiet (given s (mem_of s.stack k)) tt) (λ place. e),
          pointer_led a (λ i. move.Goes noted.Action (with_stack (now_doing s Runs) (with_word s.stack i b))) (λ place. asks im s (ask.Save place b)) (λ k. quiet (with_stack (now_doing s Runs) (with_word s.stack k b)) tt) (λ place. e),
          pointer_led a (λ i. swaps_frame im s i (mem_of s.stack i) b) (λ place. asks im s (ask.Exchange place b)) (λ k. quiet _ tt) (λ place. e),
          pointer_led a (λ i. swaps_frame im s i (mem_of s.stack i) (if mem_of s.stack i == c then b else mem_of s.stack i)) (λ place. asks im s (ask.CompareExchange place b c)) (λ k. quiet _ tt) (λ place. e),
          either (c == 32) (adds_at im s true a b) (if c == 64 then adds_at im s false a b else refuses s) (added true a b) (either (c == 64) (adds_at im s false a b) (refuses s) (added false a b) tt),
          either (b == 0) (asks im s (ask.Print printed.Number a)) (if b == 1 then prints_string im s a else refuses s) e (either (b == 1) (prints_string im s a) (refuses s) (printed_string a) tt),
          object_led (asks im s (ask.Start a)) e a,
          e,
        )
