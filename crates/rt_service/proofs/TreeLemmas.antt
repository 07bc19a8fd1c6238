-- Turns that need what a node spells go on where its words are there.
use Rattle.std.proofs.Common.{◌≡◌, ◌≢◌, ⊎_elim, inl, inr, ℕ, zero, suc, ◌<◌, ◌≤◌, ◌==◌, Bool, true, false, nat_lt, List, [], ◌∷◌, Option, Some, None, Result, Ok, Err, if◌then◌else◌, refl, sym, ap, ◌∙◌, subst, arith, eq-eqb}
use Rattle.std.specs.Prelude.{unwrap_or}
use Rattle.std.proofs.lemmas.Bool.{cases_eq}
use Rattle.std.proofs.lemmas.Bool.Decides.{nat_tests}
use Rattle.type_tree.specs.declared.tree.TExpr.{TExpr}
use Rattle.rgctx_words.specs.declared.node_word.Definition.{Definition}
use Rattle.rgctx_words.specs.NodeWords.{node_read, definition_of}
use Rattle.rgctx_template.specs.Catalogue.{CatData}
use Rattle.rgctx_fill.specs.declared.spelled.NodeTree.{NodeTree}
use Rattle.rgctx_fill.specs.declared.spelled.NodeTree.TheVariants as tree
use Rattle.rgctx_fill.specs.declared.thread.Want.{Want}
use Rattle.rgctx_fill.specs.Spelled.{argument_fields, is_packed, type_or_stop, with_type, types_of, applied_or_stop, spelled_by, spelled_from, spelled_below, spelled}
use Rattle.rgctx_fill.specs.SpelledLaws.{is_zero, stops_at_zero, below-is, below-past, spelled-grows}
use Rattle.rgctx_fill.specs.ThreadStates.{ThreadData, Move}
use Rattle.rgctx_words.specs.Held.{Grows}
use Rattle.rgctx_fill.specs.ServiceReplies.{refuses}
use Rattle.rgctx_fill.specs.NodeReadings.{is_node_number, numbered, on_type, reads_types, reads_within, with_tree}
use Rattle.rt_service.specs.Numbers.{node_number}
use Rattle.interaction.specs.declared.turn.What.TheVariants as noted
use Rattle.rgctx_fill.specs.declared.thread.Want.TheVariants as answers
use Rattle.rgctx_fill.specs.Reading.{IsUnknown, IsNodeTree}
use Rattle.rgctx_fill.specs.Moves.{Span, IsSame, IsMade}
use Rattle.rgctx_fill.specs.ThreadStates as move
use Rattle.rgctx_fill.proofs.ShownLaws.{sure-grows}

some_is : (a b : ℕ) → Some a ≡ Some b → a ≡ b
some_is a b e = ap (λ (o : Option ℕ). unwrap_or o 0) e

none_some : (b : ℕ) → None ≡ Some b → ⊥
none_some b e = cc

no_zero : {P : Type 0} → true ≡ false → P
no_zero e = cc

module _ (cat : CatData) (h : Span) (s : ThreadData) (said : Want) (new : ThreadData) where
  abbrev pub Made : Move → Type 0
  Made m = IsMade cat h s m said new

  by_if : (b : Bool) (m n : Move) → (b ≡ true → Made m) → (b ≡ false → Made n) → Made (if b then m else n)
  by_if true m n p q = p refl
  by_if false m n p q = q refl

  -- a type stands before the others
  rest_used : (t : TExpr) (rest : Result (List TExpr) NodeTree) → stops_at_zero (with_type (Ok t) rest) ≡ false → stops_at_zero rest ≡ false
  rest_used t (Ok ts) e = refl
  rest_used t (Err stop) e = e

  -- behind an argument's node
  behind : (spells : NodeTree) (rest : Result (List TExpr) NodeTree) (next : Result (List TExpr) NodeTree → Move) (more : TExpr → Move)
      → stops_at_zero (with_type (type_or_stop spells) rest) ≡ false
      → ((t : TExpr) → stops_at_zero rest ≡ false → Made (next (with_type (Ok t) rest)) → Made (more t))
      → Made (next (with_type (type_or_stop spells) rest))
      → Made (on_type (type_or_stop spells) (λ stop. next (Err stop)) more)
  behind (tree.Kind t) rest next more used goes made = goes t (rest_used t rest used) made
  behind (tree.Method m) rest next more used goes made = made
  behind tree.Other rest next more used goes made = made
  behind (tree.Zero n) rest next more used goes made = no_zero used

  first_used : (spells : NodeTree) (rest : Result (List TExpr) NodeTree) → stops_at_zero (with_type (type_or_stop spells) rest) ≡ false → is_zero spells ≡ false
  first_used (tree.Kind t) rest used = refl
  first_used (tree.Method m) rest used = refl
  first_used tree.Other rest used = refl
  first_used (tree.Zero n) rest used = no_zero used

  -- readers that go on with what is told of nodes below a number
  abbrev Tells : (ℕ → (NodeTree → Move) → Move) → (ℕ → NodeTree) → ℕ → Type 0
  Tells reads told i = (n : ℕ) → n < i → n ≢ 0 → is_zero (told n) ≡ false → (back : NodeTree → Move) → Made (back (told n)) → Made (reads n back)

  module _ (reads : ℕ → (NodeTree → Move) → Move) (told : ℕ → NodeTree) (i : ℕ) (tells : Tells reads told i) (past : (n : ℕ) → i ≤ n → told n ≡ tree.Other) where
    one_made : (n : ℕ) (ns : List ℕ) (next : Result (List TExpr) NodeTree → Move)
        → ((other : Result (List TExpr) NodeTree → Move) → stops_at_zero (types_of told ns) ≡ false → Made (other (types_of told ns)) → Made (reads_types reads i ns other))
        → (b : Bool) → (n == 0) ≡ b
        → stops_at_zero (if b then Ok [] else with_type (type_or_stop (told n)) (types_of told ns)) ≡ false
        → Made (next (if b then Ok [] else with_type (type_or_stop (told n)) (types_of told ns)))
        → Made (if b then next (Ok []) else (if nat_lt n i then reads n (λ spells. on_type (type_or_stop spells) (λ stop. next (Err stop)) (λ t. reads_types reads i ns (λ ts. next (with_type (Ok t) ts)))) else next (Err tree.Other)))
    one_made n ns next others true e used made = made
    one_made n ns next others false e used made = by_if (nat_lt n i) _ _
        (λ less. tells n (grind (arith, nat_tests)) (grind (arith, nat_tests)) (first_used (told n) (types_of told ns) used) _
        (behind (told n) (types_of told ns) next (λ t. reads_types reads i ns (λ ts. next (with_type (Ok t) ts))) used
        (λ t rest_is_used rest_made. others (λ ts. next (with_type (Ok t) ts)) rest_is_used rest_made) made))
        (λ more. subst (λ (x : NodeTree). Made (next (with_type (type_or_stop x) (types_of told ns)))) (past n (grind (arith, nat_tests))) made)

    types_made : (ns : List ℕ) (next : Result (List TExpr) NodeTree → Move) → stops_at_zero (types_of told ns) ≡ false → Made (next (types_of told ns)) → Made (reads_types reads i ns next)
    types_made [] next used made = made
    types_made (n ∷ ns) next used made = one_made n ns next (λ other u m. types_made ns other u m) (n == 0) refl used made

  from_word : (below : ℕ → NodeTree) (i word : ℕ) → is_zero (spelled_from below i word) ≡ false → (word ≢ 0) × (spelled_from below i word ≡ spelled_by below (node_read word))
  from_word below i word used = ⊎_elim
      (λ (e : word ≡ 0). let t : (word == 0) ≡ true = eq-eqb word 0 e in no_zero (subst (λ (b : Bool). is_zero (if b then tree.Zero i else spelled_by below (node_read word)) ≡ false) t used))
      (λ (ne : word ≢ 0). let t : (word == 0) ≡ false = grind (arith, nat_tests) in (ne, ap (λ (b : Bool). if b then tree.Zero i else spelled_by below (node_read word)) t))
      (cases_eq word 0)

  applied_used : (d : Option Definition) (r : Result (List TExpr) NodeTree) → is_zero (applied_or_stop d r) ≡ false → stops_at_zero r ≡ false
  applied_used d (Ok ts) e = refl
  applied_used d (Err stop) e = e

  -- the words are there, so many levels deep
  pub tree_made : (levels i : ℕ) → i < levels → is_zero (spelled h.after i) ≡ false → (next : NodeTree → Move) → Made (next (spelled h.after i)) → Made (reads_within levels i next)
  tree_made zero i less used next made = absurd (omega arith)
  tree_made (suc levels) i less used next made =
      let at : ℕ → ℕ = h.after in
      let below : ℕ → NodeTree = spelled_below at i in
      let word : ℕ = at i in
      let d : Option Definition = definition_of (node_read word).definition in
      let parts : List ℕ = argument_fields (node_read word) in
      let w : (word ≢ 0) × (spelled at i ≡ spelled_by below (node_read word)) = from_word below i word used in
      let chosen : Bool → NodeTree = λ b. if b then applied_or_stop d (types_of below parts) else tree.Other in
      inr (
        w.0,
        by_if (is_packed (node_read word)) _ _
            (λ p. let e : spelled at i ≡ applied_or_stop d (types_of below parts) = w.1 ∙ ap chosen p in
            types_made (λ n back. reads_within levels n back) below i
            (λ n low nz n_used back n_made. let b : below n ≡ spelled at n = below-is at i n low in
            tree_made levels n (omega (arith, low, less)) (ap is_zero (sym b) ∙ n_used) back (subst (λ (x : NodeTree). Made (back x)) b n_made))
            (below-past at i) parts (λ ts. next (applied_or_stop d ts))
            (applied_used d (types_of below parts) (ap is_zero (sym e) ∙ used))
            (subst (λ (x : NodeTree). Made (next x)) e made))
            (λ np. subst (λ (x : NodeTree). Made (next x)) (w.1 ∙ ap chosen np) made),
      )

  -- the node of a number spells this, by words that are held now or were held before
  pub tree_goes : (number node : ℕ) (t : NodeTree) (after : ℕ → ℕ) (next : NodeTree → Move) → node_number number ≡ Some node → Grows after h.after
      → spelled after node ≡ t → is_zero t ≡ false → Made (next t) → Made (with_tree s number next)
  tree_goes number node t after next found grows is used made = by_number (is_node_number number) refl found
    where
      by_number : (b : Bool) → is_node_number number ≡ b → (if b then Some number else None) ≡ Some node → Made (if b then reads_within (suc number) number next else refuses s)
      by_number true e f =
          let same : number ≡ node = some_is number node f in
          let later : spelled h.after number ≡ t = spelled-grows after h.after grows number (ap (λ (i : ℕ). is_zero (spelled after i)) same ∙ ap is_zero is ∙ used) ∙ ap (spelled after) same ∙ is in
          tree_made (suc number) number (omega arith) (ap is_zero later ∙ used) next (subst (λ (x : NodeTree). Made (next x)) (sym later) made)
      by_number false e f = absurd (none_some node f)

  read_is : (before after : ℕ → ℕ) (node : ℕ) (t : NodeTree) → is_zero t ≡ false → IsNodeTree cat before after node t → spelled after node ≡ t
  read_is before after node (tree.Kind t) used is = is
  read_is before after node (tree.Method m) used is = is
  read_is before after node tree.Other used is = is
  read_is before after node (tree.Zero n) used is = no_zero used

  -- the same of what a reader of the node answered
  pub tree_answered : (number node : ℕ) (answer t : NodeTree) (before after : ℕ → ℕ) (next : NodeTree → Move) → node_number number ≡ Some node → Grows after h.after
      → IsNodeTree cat before after node answer → answer ≡ t → is_zero t ≡ false → Made (next t) → Made (with_tree s number next)
  tree_answered number node answer t before after next found grows read e used made =
      tree_goes number node t after next found grows (read_is before after node t used (subst (λ (x : NodeTree). IsNodeTree cat before after node x) e read)) used made

  -- the node's word was answered as 0
  pub unread_made : (number node : ℕ) (before : ℕ → ℕ) (next : ℕ → Move) → node_number number ≡ Some node → Grows h.before before → IsUnknown cat before node
      → IsSame h s (answers.Did (noted.Load node)) said new → Made (numbered s number (move.Reads number next))
  unread_made number node before next found later unknown same = by_number (is_node_number number) refl found
    where
      by_number : (b : Bool) → is_node_number number ≡ b → (if b then Some number else None) ≡ Some node → Made (if b then move.Reads number next else refuses s)
      by_number true e f =
          let it : number ≡ node = some_is number node f in
          inl (record {
            same = subst (λ (i : ℕ). IsSame h s (answers.Did (noted.Load i)) said new) (sym it) same;
            unknown = subst (λ (i : ℕ). IsUnknown cat h.before i) (sym it) (λ shows. unknown (sure-grows cat h.before before (λ at. at node ≢ 0) later shows));
          })
      by_number false e f = absurd (none_some node f)
