-- The virtual slots of a class: each keeps its signature in all classes below, each virtual method has one, and holds it in its own class.
use Rattle.std.proofs.Common.{◌≡◌, ◌≢◌, ◌⊎◌, inl, inr, ℕ, zero, suc, ◌+◌, ◌<◌, ◌==◌, ◌&&◌, Bool, true, false, List, [], ◌∷◌, ◌++◌, length, Option, Some, None, refl, sym, ap, ◌∙◌, subst, arith, eqb-true, eq-eqb}
use Rattle.std.specs.Prelude.{map, fold, find, slice_get, slice_set, option_map, option_and_then, option_to_list, if◌then◌else◌}
use Rattle.std.specs.Option.{option_or}
use Rattle.std.specs.List.{list_all, AllByRecursion}
use Rattle.std.specs.Cmp.Lexicographic.{pointwise}
use Rattle.std.specs.Prelude.{bytes_eq}
use Rattle.std.proofs.lemmas.Bool.{and_parts}
use Rattle.std.proofs.lemmas.List.{append-nil, map-append, length-map, append_assoc}
use Rattle.std.proofs.lemmas.List.Folds.{find-append}
use Rattle.std.proofs.lemmas.Option.{slice_get_within, slice_get-map}
use Rattle.std.proofs.lemmas.Slice.Eq.{bytes_eq-Decides}
use Rattle.type_tree.specs.declared.tree.TExpr.{TExpr}
use Rattle.type_tree.specs.Substitution.{substituted}
use Rattle.il_model.specs.declared.program.Program.{Program}
use Rattle.il_model.specs.declared.class.ClassDef.{ClassDef}
use Rattle.il_model.specs.declared.method.PType.{PType}
use Rattle.il_model.specs.declared.method.PType.TheVariants as ptype
use Rattle.il_model.specs.declared.method.MethodDef.{MethodDef}
use Rattle.il_model.specs.declared.layout.MethodTree.{MethodTree}
use Rattle.il_model.specs.Find.{class_of}
use Rattle.il_model.specs.Found.{same_param, same_result, method_at}
use Rattle.il_model.specs.Library.{plain}
use Rattle.il_model.specs.Entries.{has_slot}
use Rattle.il_model.specs.Bases.{with_args_of, own_of_number, definition_of, base_of, upwards, proper_bases_of}
use Rattle.il_model.specs.Interfaces.{own_interfaces_of}
use Rattle.il_model.specs.Signatures.{Signature, param_at, signature_at, same_signature}
use Rattle.il_model.specs.Slots.{takes_new, methods_in, own_methods_of, candidates, is_match, nearest_match, VirtualSlots, no_slots, slot_taken, method_of, with_slot, slot_below, with_method_if, with_method, method_tree_at, slots_at, slots_or_none, virtual_within, virtual_slots_of}
use Rattle.type_inst.proofs.ListLemmas.{Has}
use Rattle.type_inst.proofs.ListingLemmas.{tends}
use Rattle.type_inst.proofs.SignatureLemmas.{same_params-Decides, same_result-Decides}
use Rattle.rgctx_fill.proofs.WholeLists.{join_all, set_all, found_holds, map_all, flat_all, all_weaker}
use Rattle.rgctx_fill.proofs.WholeScopes.{IsOwned}
use Rattle.rgctx_fill.proofs.TextLeaves.{got_left, got_right}
use Rattle.cil_safety.proofs.PlainTypes.{IsPlainType, substituted_same, class_plain, number_plain, class_of_plain, arguments_plain}
use Rattle.cil_safety.proofs.Signatures.{signature_of, Differ, AreApart}
use Rattle.cil_safety.proofs.Instances.{IsAccepted, nothing_put, own_plain}
use Rattle.cil_safety.proofs.NamesMembers.{map_same, option_same}
use Rattle.cil_safety.proofs.Uppers.{PlainClasses, IsOfClass, of_class, Based, itself, upward, base_class, base_may_be, tends_all}

-- ---- lists

-- a number stands in the list
abbrev pub Among : List ℕ → ℕ → Type 0
Among [] n = ⊥
Among (x ∷ xs) n = (x ≡ n) ⊎ Among xs n

pub among_all : (P : ℕ → Type 0) (xs : List ℕ) (n : ℕ) → AllByRecursion P xs → Among xs n → P n
among_all P [] n all h = absurd h
among_all P (x ∷ xs) n all h = elim h [ inl e ↦ subst P e all.0 | inr r ↦ among_all P xs n all.1 r ]

pub all_among : (xs : List ℕ) → AllByRecursion (Among xs) xs
all_among xs = each xs (λ n h. h)
  where
    each : (ys : List ℕ) → ((n : ℕ) → Among ys n → Among xs n) → AllByRecursion (Among xs) ys
    each [] f = tt
    each (y ∷ ys) f = (f y (inl refl), each ys (λ n h. f n (inr h)))

set_same : {A : Type 0} (xs : List A) (s : ℕ) (x : A) → s < length xs → slice_get (slice_set xs s x) s ≡ Some x
set_same [] s x lt = absurd (omega (arith, lt))
set_same (y ∷ ys) zero x lt = refl
set_same (y ∷ ys) (suc s) x lt = set_same ys s x (omega (arith, lt))

set_other : {A : Type 0} (xs : List A) (s q : ℕ) (x : A) → q ≢ s → slice_get (slice_set xs s x) q ≡ slice_get xs q
set_other [] s q x ne = refl
set_other (y ∷ ys) zero zero x ne = absurd (ne refl)
set_other (y ∷ ys) zero (suc q) x ne = refl
set_other (y ∷ ys) (suc s) zero x ne = refl
set_other (y ∷ ys) (suc s) (suc q) x ne = set_other ys s q x (λ e. ne (ap suc e))

-- a write that a function does not see
set_unseen : {A B : Type 0} (f : A → B) (xs : List A) (s : ℕ) (x : A) → slice_get (map f xs) s ≡ Some (f x) → map f (slice_set xs s x) ≡ map f xs
set_unseen f [] s x e = refl
set_unseen f (y ∷ ys) zero x e = let q : f y ≡ f x = cc e in ap (λ z. z ∷ map f ys) (sym q)
set_unseen f (y ∷ ys) (suc s) x e = ap (λ zs. f y ∷ zs) (set_unseen f ys s x e)

module _ (p : Program) where
  abbrev pub signature_at_number : ℕ → Option Signature
  signature_at_number n = option_map signature_of (method_at p n)

  -- the signature of the method in each slot
  abbrev pub signature_here : MethodTree → Option Signature
  signature_here m = signature_at_number m.method

  abbrev pub signatures : VirtualSlots → List (Option Signature)
  signatures v = map signature_here v.stands

  -- a method of the program in a slot of a type, which is that of its class or of one below
  pub record IsStanding (t : TExpr) (m : MethodTree) : Type 0 where
    pub definition : MethodDef
    pub there : method_at p m.method ≡ Some definition
    pub class : m.class ≡ plain definition.owner
    pub args : m.args ≡ []
    pub above : Based p t m.class
    pub slotted : has_slot definition.shape ≡ true

  -- the method with this number has the signature of the slot
  pub record HasSignature (gs : List (Option Signature)) (n s : ℕ) : Type 0 where
    pub definition : MethodDef
    pub there : method_at p n ≡ Some definition
    pub at : slice_get gs s ≡ Some (Some (signature_of definition))

  abbrev pub IsTaken : VirtualSlots → ℕ → Type 0
  IsTaken v n = (s : ℕ) × (slot_taken v n ≡ Some s)

  -- the method stands in some slot
  pub record Stands (v : VirtualSlots) (n : ℕ) : Type 0 where
    pub slot : ℕ
    pub method : MethodTree
    pub is : slice_get v.stands slot ≡ Some method
    pub number : method.method ≡ n

  pub record Slotted (t : TExpr) (v : VirtualSlots) : Type 0 where
    pub standing : AllByRecursion (IsStanding t) v.stands
    pub taken : (n s : ℕ) → slot_taken v n ≡ Some s → HasSignature (signatures v) n s

  -- a method that has a slot
  pub record IsVirtual (n : ℕ) : Type 0 where
    pub definition : MethodDef
    pub there : method_at p n ≡ Some definition
    pub slotted : has_slot definition.shape ≡ true

  more_signature : (gs rest : List (Option Signature)) (n s : ℕ) → HasSignature gs n s → HasSignature (gs ++ rest) n s
  more_signature gs rest n s h = record { definition = h.definition; there = h.there; at = got_left gs rest s (Some (signature_of h.definition)) h.at }

  -- ---- one method takes a slot

  -- what is after a method took its slot, or took none
  pub record Grown (t : TExpr) (v : VirtualSlots) (n : ℕ) (v' : VirtualSlots) : Type 0 where
    pub slotted : Slotted t v'
    pub rest : List (Option Signature)
    pub grows : signatures v' ≡ signatures v ++ rest
    pub keeps_taken : (k s : ℕ) → slot_taken v k ≡ Some s → slot_taken v' k ≡ Some s
    pub keeps : (k : ℕ) → IsVirtual k → Differ p k n → Stands v k → Stands v' k
    pub own_taken : IsVirtual n → IsTaken v' n
    pub own_stands : IsVirtual n → Stands v' n

  abbrev slot_in : List (ℕ × ℕ) → ℕ → Option ℕ
  slot_in taken k = option_map (λ (x : ℕ × ℕ). x.1) (find (λ (x : ℕ × ℕ). x.0 == k) taken)

  slot_split : (taken : List (ℕ × ℕ)) (n s k : ℕ) → slot_in (taken ++ (n, s) ∷ []) k ≡ option_or (slot_in taken k) (slot_in ((n, s) ∷ []) k)
  slot_split taken n s k = ap (λ o. option_map (λ (x : ℕ × ℕ). x.1) o) (find-append (λ (x : ℕ × ℕ). x.0 == k) taken ((n, s) ∷ [])) ∙ mapped_or (find (λ (x : ℕ × ℕ). x.0 == k) taken) (find (λ (x : ℕ × ℕ). x.0 == k) ((n, s) ∷ []))
    where
      mapped_or : (a b : Option (ℕ × ℕ)) → option_map (λ (x : ℕ × ℕ). x.1) (option_or a b) ≡ option_or (option_map (λ (x : ℕ × ℕ). x.1) a) (option_map (λ (x : ℕ × ℕ). x.1) b)
      mapped_or None b = refl
      mapped_or (Some x) b = refl

  slot_kept : (taken : List (ℕ × ℕ)) (n s k z : ℕ) → slot_in taken k ≡ Some z → slot_in (taken ++ (n, s) ∷ []) k ≡ Some z
  slot_kept taken n s k z e = slot_split taken n s k ∙ ap (λ o. option_or o (slot_in ((n, s) ∷ []) k)) e

  slot_new : (taken : List (ℕ × ℕ)) (n s : ℕ) → (z : ℕ) × (slot_in (taken ++ (n, s) ∷ []) n ≡ Some z)
  slot_new taken n s = by_old (slot_in taken n) refl
    where
      here : slot_in ((n, s) ∷ []) n ≡ Some s
      here = ap (λ b. option_map (λ (x : ℕ × ℕ). x.1) (if b then Some (n, s) else None)) (eq-eqb n n refl)

      by_old : (o : Option ℕ) → slot_in taken n ≡ o → (z : ℕ) × (slot_in (taken ++ (n, s) ∷ []) n ≡ Some z)
      by_old None e = (s, slot_split taken n s n ∙ ap (λ o. option_or o (slot_in ((n, s) ∷ []) n)) e ∙ here)
      by_old (Some z) e = (z, slot_kept taken n s n z e)

  slot_old : (taken : List (ℕ × ℕ)) (n s k z : ℕ) → slot_in (taken ++ (n, s) ∷ []) k ≡ Some z → (slot_in taken k ≡ Some z) ⊎ ((n ≡ k) × (s ≡ z))
  slot_old taken n s k z e = by_old (slot_in taken k) refl (sym (slot_split taken n s k) ∙ e)
    where
      by_new : (b : Bool) → (n == k) ≡ b → option_map (λ (x : ℕ × ℕ). x.1) (if b then Some (n, s) else None) ≡ Some z → (n ≡ k) × (s ≡ z)
      by_new true q f = (eqb-true n k q, (let r : s ≡ z = cc f in r))
      by_new false q f = absurd (cc f)

      by_old : (o : Option ℕ) → slot_in taken k ≡ o → option_or o (slot_in ((n, s) ∷ []) k) ≡ Some z → (slot_in taken k ≡ Some z) ⊎ ((n ≡ k) × (s ≡ z))
      by_old None q f = inr (by_new (n == k) refl f)
      by_old (Some y) q f = inl (q ∙ f)

  module _ (t : TExpr) (v : VirtualSlots) (ok : Slotted t v) (n : ℕ) (m : MethodTree) (is : m.method ≡ n) (stands : IsStanding t m) where
    definition_is : method_at p n ≡ Some stands.definition
    definition_is = ap (method_at p) (sym is) ∙ stands.there

    signature_is : signature_here m ≡ Some (signature_of stands.definition)
    signature_is = ap (λ o. option_map signature_of o) stands.there

    -- a new slot
    new_slot : Grown t v n (with_slot v m None)
    new_slot = record {
      slotted = record {
        standing = join_all (IsStanding t) v.stands (m ∷ []) ok.standing (stands, tt);
        taken = λ k s e. subst (λ gs. HasSignature gs k s) (sym grown) (elim (slot_old v.taken m.method (length v.stands) k s e) [
          | inl old ↦ more_signature (signatures v) (signature_here m ∷ []) k s (ok.taken k s old)
          | inr new ↦ record { definition = stands.definition; there = ap (method_at p) (sym new.0) ∙ stands.there; at = ap (slice_get (signatures v ++ signature_here m ∷ [])) (sym new.1) ∙ last ∙ ap Some signature_is }
        ]);
      };
      rest = signature_here m ∷ [];
      grows = grown;
      keeps_taken = λ k s e. slot_kept v.taken m.method (length v.stands) k s e;
      keeps = λ k vk d st. record { slot = st.slot; method = st.method; is = got_left v.stands (m ∷ []) st.slot st.method st.is; number = st.number };
      own_taken = λ vn. subst (λ z. IsTaken (with_slot v m None) z) is (slot_new v.taken m.method (length v.stands));
      own_stands = λ vn. record { slot = length v.stands + 0; method = m; is = got_right v.stands (m ∷ []) 0; number = is };
    }
      where
        grown : signatures (with_slot v m None) ≡ signatures v ++ signature_here m ∷ []
        grown = map-append signature_here v.stands (m ∷ [])

        last : slice_get (signatures v ++ signature_here m ∷ []) (length v.stands) ≡ Some (signature_here m)
        last =
            let e : length v.stands ≡ length (signatures v) + 0 = omega (arith, length-map v.stands signature_here) in
            ap (slice_get (signatures v ++ signature_here m ∷ [])) e ∙ got_right (signatures v) (signature_here m ∷ []) 0

    -- a slot of this signature
    old_slot : (s : ℕ) → slice_get (signatures v) s ≡ Some (signature_here m) → Grown t v n (with_slot v m (Some s))
    old_slot s at = record {
      slotted = record {
        standing = set_all (IsStanding t) v.stands s m ok.standing stands;
        taken = λ k z e. subst (λ gs. HasSignature gs k z) (sym same) (elim (slot_old v.taken m.method s k z e) [
          | inl old ↦ ok.taken k z old
          | inr new ↦ record { definition = stands.definition; there = ap (method_at p) (sym new.0) ∙ stands.there; at = ap (slice_get (signatures v)) (sym new.1) ∙ at ∙ ap Some signature_is }
        ]);
      };
      rest = [];
      grows = same ∙ sym (append-nil (signatures v));
      keeps_taken = λ k z e. slot_kept v.taken m.method s k z e;
      keeps = kept;
      own_taken = λ vn. subst (λ z. IsTaken (with_slot v m (Some s)) z) is (slot_new v.taken m.method s);
      own_stands = λ vn. record { slot = s; method = m; is = set_same v.stands s m inside; number = is };
    }
      where
        same : signatures (with_slot v m (Some s)) ≡ signatures v
        same = set_unseen signature_here v.stands s m at

        inside : s < length v.stands
        inside = let lt : s < length (signatures v) = slice_get_within (signatures v) s (signature_here m) at in omega (arith, lt, length-map v.stands signature_here)

        kept : (k : ℕ) → IsVirtual k → Differ p k n → Stands v k → Stands (with_slot v m (Some s)) k
        kept k vk d st = by_place (st.slot == s) refl
          where
            by_place : (b : Bool) → (st.slot == s) ≡ b → Stands (with_slot v m (Some s)) k
            by_place false q = record { slot = st.slot; method = st.method; is = set_other v.stands s st.slot m (λ e. cc (eq-eqb st.slot s e, q)) ∙ st.is; number = st.number }
            by_place true q =
                let e : st.slot ≡ s = eqb-true st.slot s q in
                let there : slice_get (signatures v) s ≡ Some (signature_here st.method) = ap (slice_get (signatures v)) (sym e) ∙ slice_get-map signature_here v.stands st.slot ∙ ap (λ o. option_map signature_here o) st.is in
                let own : signature_here st.method ≡ Some (signature_of vk.definition) = ap signature_at_number st.number ∙ ap (λ o. option_map signature_of o) vk.there in
                let one : Some (signature_of vk.definition) ≡ Some (signature_of stands.definition) = sym own ∙ (let r : signature_here st.method ≡ signature_here m = cc (there, at) in r) ∙ signature_is in
                absurd (d vk.definition stands.definition vk.there definition_is (let r : signature_of vk.definition ≡ signature_of stands.definition = cc one in r))

  -- ---- all methods of a class take their slots

  pub record AllGrown (t : TExpr) (v : VirtualSlots) (ns : List ℕ) (v' : VirtualSlots) : Type 0 where
    pub slotted : Slotted t v'
    pub rest : List (Option Signature)
    pub grows : signatures v' ≡ signatures v ++ rest
    pub keeps_taken : (k s : ℕ) → slot_taken v k ≡ Some s → slot_taken v' k ≡ Some s
    pub keeps : (k : ℕ) → IsVirtual k → AllByRecursion (Differ p k) ns → Stands v k → Stands v' k
    pub own_taken : (k : ℕ) → Among ns k → IsVirtual k → IsTaken v' k
    pub own_stands : (k : ℕ) → Among ns k → IsVirtual k → Stands v' k

  -- the method of a base that a method of this class takes the slot of has one, and the same signature
  abbrev pub SlotsBelow : ℕ → VirtualSlots → Type 0
  SlotsBelow k v = (m : MethodDef) (c : TExpr × ℕ) → nearest_match p (signature_at (plain k) m) (proper_bases_of p (plain k)) ≡ Some c → (s : ℕ) × (slot_taken v c.1 ≡ Some s) × (signature_at_number c.1 ≡ Some (signature_of m))

  unchanged : (t : TExpr) (v : VirtualSlots) (n : ℕ) → Slotted t v → (IsVirtual n → ⊥) → Grown t v n v
  unchanged t v n ok no' = record {
    slotted = ok;
    rest = [];
    grows = sym (append-nil (signatures v));
    keeps_taken = λ k s e. e;
    keeps = λ k vk d st. st;
    own_taken = λ vn. absurd (no' vn);
    own_stands = λ vn. absurd (no' vn);
  }

  one_grown : (k n : ℕ) → IsOwned p k n → (v : VirtualSlots) → Slotted (plain k) v → SlotsBelow k v → Grown (plain k) v n (with_method p (plain k) v n)
  one_grown k n o v ok below = subst (λ x. Grown (plain k) v n (with_method_if p (plain k) v n x)) (sym o.is) (by_slot (has_slot o.method.shape) refl)
    where
      m : MethodTree
      m = method_of (plain k) n

      standing : has_slot o.method.shape ≡ true → IsStanding (plain k) m
      standing e = record { definition = o.method; there = o.is; class = ap plain (sym o.owner_is); args = refl; above = itself; slotted = e }

      signature : signature_here m ≡ Some (signature_of o.method)
      signature = ap (λ z. option_map signature_of z) o.is

      by_near : has_slot o.method.shape ≡ true → (c : Option (TExpr × ℕ)) → nearest_match p (signature_at (plain k) o.method) (proper_bases_of p (plain k)) ≡ c → Grown (plain k) v n (with_slot v m (option_and_then (λ (x : TExpr × ℕ). slot_taken v x.1) c))
      by_near slots None e = new_slot (plain k) v ok n m refl (standing slots)
      by_near slots (Some c) e =
          let b = below o.method c e in
          let h : HasSignature (signatures v) c.1 b.0 = ok.taken c.1 b.0 b.1 in
          let same : Some (signature_of h.definition) ≡ Some (signature_of o.method) = sym (ap (λ z. option_map signature_of z) h.there) ∙ b.2 in
          subst (λ z. Grown (plain k) v n (with_slot v m z)) (sym b.1) (old_slot (plain k) v ok n m refl (standing slots) b.0 (h.at ∙ ap Some (same ∙ sym signature)))

      by_new : has_slot o.method.shape ≡ true → (b : Bool) → Grown (plain k) v n (with_slot v m (if b then None else slot_below p (plain k) v o.method))
      by_new slots true = new_slot (plain k) v ok n m refl (standing slots)
      by_new slots false = by_near slots (nearest_match p (signature_at (plain k) o.method) (proper_bases_of p (plain k))) refl

      by_slot : (b : Bool) → has_slot o.method.shape ≡ b → Grown (plain k) v n (if b then with_slot v m (if takes_new o.method.shape then None else slot_below p (plain k) v o.method) else v)
      by_slot true e = by_new e (takes_new o.method.shape)
      by_slot false e = unchanged (plain k) v n ok (λ vn. let q : vn.definition ≡ o.method = cc (vn.there, o.is) in let r : has_slot o.method.shape ≡ true = subst (λ (z : MethodDef). has_slot z.shape ≡ true) q vn.slotted in cc (r, e))

  all_grown : (k : ℕ) (ns : List ℕ) → AllByRecursion (IsOwned p k) ns → AreApart p ns → (v : VirtualSlots) → Slotted (plain k) v → SlotsBelow k v → AllGrown (plain k) v ns (fold (with_method p (plain k)) v ns)
  all_grown k [] owned apart v ok below = record {
    slotted = ok;
    rest = [];
    grows = sym (append-nil (signatures v));
    keeps_taken = λ n s e. e;
    keeps = λ n vn d st. st;
    own_taken = λ n a vn. absurd a;
    own_stands = λ n a vn. absurd a;
  }
  all_grown k (n ∷ ns) owned apart v ok below =
      let g : Grown (plain k) v n (with_method p (plain k) v n) = one_grown k n owned.0 v ok below in
      let h : AllGrown (plain k) (with_method p (plain k) v n) ns (fold (with_method p (plain k)) (with_method p (plain k) v n) ns) =
      all_grown k ns owned.1 apart.1 (with_method p (plain k) v n) g.slotted (λ m c e. let b = below m c e in (b.0, g.keeps_taken c.1 b.0 b.1, b.2)) in
      record {
        slotted = h.slotted;
        rest = g.rest ++ h.rest;
        grows = h.grows ∙ ap (λ z. z ++ h.rest) g.grows ∙ append_assoc (signatures v) g.rest h.rest;
        keeps_taken = λ i s e. h.keeps_taken i s (g.keeps_taken i s e);
        keeps = λ i vi d st. h.keeps i vi d.1 (g.keeps i vi d.0 st);
        own_taken = λ i a vi. elim a [
          | inl e ↦ let x : IsTaken (with_method p (plain k) v n) n = g.own_taken (subst IsVirtual (sym e) vi) in subst (λ z. IsTaken (fold (with_method p (plain k)) (with_method p (plain k) v n) ns) z) e (x.0, h.keeps_taken n x.0 x.1)
          | inr r ↦ h.own_taken i r vi
        ];
        own_stands = λ i a vi. elim a [
          | inl e ↦ subst (λ z. Stands (fold (with_method p (plain k)) (with_method p (plain k) v n) ns) z) e (h.keeps n (subst IsVirtual (sym e) vi) apart.0 (g.own_stands (subst IsVirtual (sym e) vi)))
          | inr r ↦ h.own_stands i r vi
        ];
      }

-- ---- signatures

abbrev signature_made : List ℕ → ℕ → List PType → Option TExpr → Signature
signature_made name vars params gives = record { name = name; vars = vars; params = params; gives = gives }

pub same_signature_is : (a b : Signature) → same_signature a b ≡ true → a ≡ b
same_signature_is a b e =
    let x = and_parts (bytes_eq a.name b.name) ((a.vars == b.vars) && (pointwise same_param a.params b.params && same_result a.gives b.gives)) e in
    let y = and_parts (a.vars == b.vars) (pointwise same_param a.params b.params && same_result a.gives b.gives) x.1 in
    let z = and_parts (pointwise same_param a.params b.params) (same_result a.gives b.gives) y.1 in
    ap (λ i. signature_made i a.vars a.params a.gives) ((bytes_eq-Decides a.name b.name).0 x.0)
    ∙ ap (λ i. signature_made b.name i a.params a.gives) (eqb-true a.vars b.vars y.0)
    ∙ ap (λ i. signature_made b.name b.vars i a.gives) ((same_params-Decides a.params b.params).0 z.0)
    ∙ ap (λ i. signature_made b.name b.vars b.params i) ((same_result-Decides a.gives b.gives).0 z.1)

pub args_same : (k : ℕ) (t : TExpr) → with_args_of (plain k) t ≡ t
args_same k t = ap (λ z. substituted z [] t) (arguments_plain k) ∙ nothing_put t

param_same : (k : ℕ) (t : PType) → param_at (plain k) t ≡ t
param_same k (ptype.Value t) = ap ptype.Value (args_same k t)
param_same k (ptype.Pointer t) = ap ptype.Pointer (args_same k t)
param_same k ptype.Native = refl

pub signature_plain : (k : ℕ) (m : MethodDef) → signature_at (plain k) m ≡ signature_of m
signature_plain k m =
    ap (λ i. signature_made m.name (length m.vars) i (option_map (with_args_of (plain k)) m.result)) (map_same (param_at (plain k)) m.params (param_same k))
    ∙ ap (λ i. signature_made m.name (length m.vars) m.params i) (option_same (with_args_of (plain k)) m.result (args_same k))

abbrev pub tree_made : ℕ → TExpr → List TExpr → MethodTree
tree_made method class args = record { method = method; class = class; args = args }

pub tree_same : (k : ℕ) (m : MethodTree) → method_tree_at (plain k) m ≡ m
tree_same k m =
    ap (λ i. tree_made m.method i (map (with_args_of (plain k)) m.args)) (args_same k m.class)
    ∙ ap (λ i. tree_made m.method m.class i) (map_same (with_args_of (plain k)) m.args (args_same k))

abbrev slots_made : List MethodTree → List (ℕ × ℕ) → VirtualSlots
slots_made stands taken = record { stands = stands; taken = taken }

slots_same : (k : ℕ) (v : VirtualSlots) → slots_at (plain k) v ≡ v
slots_same k v = ap (λ i. slots_made i v.taken) (map_same (method_tree_at (plain k)) v.stands (tree_same k))

-- ---- the slots of each class

module _ (p : Program) (ok : IsAccepted p) (classes : PlainClasses p) where
  -- a base is a class without arguments
  pub base_is : (t b : TExpr) → base_of p t ≡ Some b → (j : ℕ) × (b ≡ plain j)
  base_is t b e =
      let c = base_class p classes b (base_may_be p classes t b e) in
      let o : IsOfClass p b c.0 = of_class p b c.0 c.1 in
      (o.number, class_plain b o.number (by_class (class_of p t) refl e) o.named)
    where
      by_class : (o : Option ClassDef) → class_of p t ≡ o → option_and_then (λ (c : ClassDef). option_map (with_args_of t) c.base) o ≡ Some b → IsPlainType b
      by_class None is f = absurd (cc f)
      by_class (Some c) is f =
          let at : IsOfClass p t c = of_class p t c is in
          by_base c.base (ok.built.classes at.number c at.is).base f
        where
          by_base : (o : Option TExpr) → AllByRecursion IsPlainType (option_to_list o) → option_map (with_args_of t) o ≡ Some b → IsPlainType b
          by_base None all g = absurd (cc g)
          by_base (Some x) all g =
              let q : with_args_of t x ≡ b = cc g in
              subst IsPlainType (sym (substituted_same _ [] x all.0) ∙ q) all.0

  pub based_plain : (t u : TExpr) → Based p t u → (k : ℕ) → t ≡ plain k → (j : ℕ) × (u ≡ plain j)
  based_plain t u itself k e = (k, e)
  based_plain t u (upward {b = b} is h) k e = let j = base_is t b is in based_plain b u h j.0 j.1

  upwards_based : (levels : ℕ) (o : Option TExpr) (u : TExpr) → Has (upwards p levels o) u → (b : TExpr) × (o ≡ Some b) × Based p b u
  upwards_based zero o u h = absurd h
  upwards_based (suc levels) None u h = absurd h
  upwards_based (suc levels) (Some x) u h = elim h [
    | inl e ↦ (x, refl, subst (λ z. Based p x z) e itself)
    | inr r ↦ let q = upwards_based levels (base_of p x) u r in (x, refl, upward q.1 q.2)
  ]

  all_has : (ts : List TExpr) → AllByRecursion (Has ts) ts
  all_has ts = each ts (λ t h. h)
    where
      each : (us : List TExpr) → ((t : TExpr) → Has us t → Has ts t) → AllByRecursion (Has ts) us
      each [] f = tt
      each (u ∷ us) f = (f u (inl refl), each us (λ t h. f t (inr h)))

  abbrev IsCandidate : List TExpr → TExpr × ℕ → Type 0
  IsCandidate ts c = Has ts c.0 × Among (own_methods_of p c.0) c.1

  all_candidates : (ts : List TExpr) → AllByRecursion (IsCandidate ts) (candidates p ts)
  all_candidates ts =
      flat_all (IsCandidate ts) (λ t. map (λ number. (t, number)) (own_methods_of p t)) ts
      (all_weaker (Has ts) (λ t. AllByRecursion (IsCandidate ts) (map (λ number. (t, number)) (own_methods_of p t)))
      (λ t h. map_all (IsCandidate ts) (λ number. (t, number)) (own_methods_of p t)
      (all_weaker (Among (own_methods_of p t)) (λ number. IsCandidate ts (t, number)) (λ number a. (h, a)) (own_methods_of p t) (all_among (own_methods_of p t)))) ts (all_has ts))

  -- what is found for a signature among types
  pub record IsNearest (s : Signature) (ts : List TExpr) (c : TExpr × ℕ) : Type 0 where
    pub type : Has ts c.0
    pub own : Among (own_methods_of p c.0) c.1
    pub virtual : IsVirtual p c.1
    pub same : s ≡ signature_at c.0 virtual.definition

  pub nearest_is : (s : Signature) (ts : List TExpr) (c : TExpr × ℕ) → nearest_match p s ts ≡ Some c → IsNearest s ts c
  nearest_is s ts c e =
      let h = found_holds (IsCandidate ts) (λ (x : TExpr × ℕ). is_match s x.0 (method_at p x.1)) (candidates p ts) c (all_candidates ts) e in
      by_method h.0 (method_at p c.1) refl h.1
    where
      by_method : IsCandidate ts c → (o : Option MethodDef) → method_at p c.1 ≡ o → is_match s c.0 o ≡ true → IsNearest s ts c
      by_method h None is m = absurd (cc m)
      by_method h (Some d) is m =
          let q = and_parts (has_slot d.shape) (same_signature s (signature_at c.0 d)) m in
          record { type = h.0; own = h.1; virtual = record { definition = d; there = is; slotted = q.0 }; same = same_signature_is s (signature_at c.0 d) q.1 }

  -- ---- levels

  pub definition_same : (k : ℕ) → definition_of p (plain k) ≡ plain k
  definition_same k = ap (own_of_number p (plain k)) (number_plain k) ∙ own_plain p ok k

  abbrev Begun : ℕ → ℕ → VirtualSlots
  Begun n k = slots_or_none (λ base. virtual_within p n base) (base_of p (plain k))

  virtual_step : (n k : ℕ) → virtual_within p (suc n) (plain k) ≡ fold (with_method p (plain k)) (Begun n k) (own_methods_of p (plain k))
  virtual_step n k =
      slots_same k (fold (with_method p (definition_of p (plain k))) (slots_or_none (λ base. virtual_within p n base) (base_of p (definition_of p (plain k)))) (own_methods_of p (definition_of p (plain k))))
      ∙ ap (λ t. fold (with_method p t) (slots_or_none (λ base. virtual_within p n base) (base_of p t)) (own_methods_of p t)) (definition_same k)

  tends_below : (n : ℕ) (t b : TExpr) → tends p (suc n) t ≡ true → base_of p t ≡ Some b → tends p n b ≡ true
  tends_below n t b h e =
      (and_parts (tends p n b) (list_all (λ u. tends p n u) (own_interfaces_of p t)) (subst (λ o. list_all (λ u. tends p n u) (option_to_list o ++ own_interfaces_of p t) ≡ true) e h)).0

  -- as many levels as a way up has, or more, give the same
  levels_same : (n m k : ℕ) → tends p n (plain k) ≡ true → tends p m (plain k) ≡ true → virtual_within p n (plain k) ≡ virtual_within p m (plain k)
  levels_same zero m k h g = absurd (cc h)
  levels_same (suc n) zero k h g = absurd (cc g)
  levels_same (suc n) (suc m) k h g =
      virtual_step n k
      ∙ ap (λ v. fold (with_method p (plain k)) v (own_methods_of p (plain k))) (by_base (λ j h' g'. levels_same n m j h' g') (base_of p (plain k)) refl)
      ∙ sym (virtual_step m k)
    where
      by_base : ((j : ℕ) → tends p n (plain j) ≡ true → tends p m (plain j) ≡ true → virtual_within p n (plain j) ≡ virtual_within p m (plain j)) → (o : Option TExpr) → base_of p (plain k) ≡ o → slots_or_none (λ base. virtual_within p n base) o ≡ slots_or_none (λ base. virtual_within p m base) o
      by_base go None e = refl
      by_base go (Some b) e =
          let j = base_is (plain k) b e in
          let h' : tends p n (plain j.0) ≡ true = subst (λ z. tends p n z ≡ true) j.1 (tends_below n (plain k) b h e) in
          let g' : tends p m (plain j.0) ≡ true = subst (λ z. tends p m z ≡ true) j.1 (tends_below m (plain k) b g e) in
          subst (λ z. virtual_within p n z ≡ virtual_within p m z) (sym j.1) (go j.0 h' g')

  count_positive : (z : ℕ) × (length p.classes ≡ suc z)
  count_positive = (12 + length classes.others, ap length classes.library ∙ thirteen (length classes.others))
    where
      thirteen : (n : ℕ) → suc (suc (suc (suc (suc (suc (suc (suc (suc (suc (suc (suc (suc n)))))))))))) ≡ suc (12 + n)
      thirteen n = omega arith

  -- the slots of a class are those of its base, and then what its own methods take
  slots_opened : (k : ℕ) → virtual_slots_of p (plain k) ≡ fold (with_method p (plain k)) (slots_or_none (virtual_slots_of p) (base_of p (plain k))) (own_methods_of p (plain k))
  slots_opened k =
      let z = count_positive in
      let all : tends p (suc z.0) (plain k) ≡ true = subst (λ n. tends p n (plain k) ≡ true) z.1 (tends_all p classes (plain k)) in
      ap (λ n. virtual_within p n (plain k)) z.1 ∙ virtual_step z.0 k
      ∙ ap (λ v. fold (with_method p (plain k)) v (own_methods_of p (plain k))) (by_base z.0 all (base_of p (plain k)) refl)
    where
      by_base : (n : ℕ) → tends p (suc n) (plain k) ≡ true → (o : Option TExpr) → base_of p (plain k) ≡ o → slots_or_none (λ base. virtual_within p n base) o ≡ slots_or_none (virtual_slots_of p) o
      by_base n all None e = refl
      by_base n all (Some b) e =
          let j = base_is (plain k) b e in
          let h : tends p n (plain j.0) ≡ true = subst (λ z. tends p n z ≡ true) j.1 (tends_below n (plain k) b all e) in
          subst (λ z. virtual_within p n z ≡ virtual_slots_of p z) (sym j.1) (levels_same n (length p.classes) j.0 h (tends_all p classes (plain j.0)))

  -- ---- what is known of the slots of a class

  pub record HasSlots (k : ℕ) (v : VirtualSlots) : Type 0 where
    pub slotted : Slotted p (plain k) v
    pub taken : (u : TExpr) (n : ℕ) → Based p (plain k) u → Among (own_methods_of p u) n → IsVirtual p n → IsTaken p v n
    pub own : (n : ℕ) → Among (own_methods_of p (plain k)) n → IsVirtual p n → Stands p v n
    pub below : (b : TExpr) → base_of p (plain k) ≡ Some b → (rest : List (Option Signature)) × (signatures p v ≡ signatures p (virtual_slots_of p b) ++ rest)

  own_owned : (k : ℕ) → AllByRecursion (IsOwned p k) (own_methods_of p (plain k)) × AreApart p (own_methods_of p (plain k))
  own_owned k = subst (λ o. AllByRecursion (IsOwned p k) (methods_in o) × AreApart p (methods_in o)) (sym (class_of_plain p k)) (by_class (slice_get p.classes k) refl)
    where
      by_class : (o : Option ClassDef) → slice_get p.classes k ≡ o → AllByRecursion (IsOwned p k) (methods_in o) × AreApart p (methods_in o)
      by_class None e = (tt, tt)
      by_class (Some c) e = ((ok.scoped.classes k c e).methods, ok.apart k c e)

  lower_standing : (t b : TExpr) → base_of p t ≡ Some b → (ms : List MethodTree) → AllByRecursion (IsStanding p b) ms → AllByRecursion (IsStanding p t) ms
  lower_standing t b e ms all = all_weaker (IsStanding p b) (IsStanding p t) (λ m s. record { definition = s.definition; there = s.there; class = s.class; args = s.args; above = upward e s.above; slotted = s.slotted }) ms all

  pub has_slots : (levels k : ℕ) → tends p levels (plain k) ≡ true → HasSlots k (virtual_slots_of p (plain k))
  has_slots zero k h = absurd (cc h)
  has_slots (suc levels) k h = subst (HasSlots k) (sym (slots_opened k)) (by_base (λ j h'. has_slots levels j h') (base_of p (plain k)) refl)
    where
      by_base : ((j : ℕ) → tends p levels (plain j) ≡ true → HasSlots j (virtual_slots_of p (plain j))) → (o : Option TExpr) → base_of p (plain k) ≡ o → HasSlots k (fold (with_method p (plain k)) (slots_or_none (virtual_slots_of p) o) (own_methods_of p (plain k)))
      by_base go None e =
          let g : AllGrown p (plain k) no_slots (own_methods_of p (plain k)) (fold (with_method p (plain k)) no_slots (own_methods_of p (plain k))) =
          all_grown p k (own_methods_of p (plain k)) (own_owned k).0 (own_owned k).1 no_slots (record { standing = tt; taken = λ n s f. absurd (cc f) })
          (λ m c f. let near = nearest_is (signature_at (plain k) m) (proper_bases_of p (plain k)) c f in let u = upwards_based (length p.classes) (base_of p (plain k)) c.0 near.type in absurd (cc (u.1, e))) in
          record {
            slotted = g.slotted;
            taken = λ u n b a vn. alone u n (plain k) b refl a vn g;
            own = g.own_stands;
            below = λ b f. absurd (cc (e, f));
          }
        where
          alone : (u : TExpr) (n : ℕ) (t : TExpr) → Based p t u → t ≡ plain k → Among (own_methods_of p u) n → IsVirtual p n → AllGrown p (plain k) no_slots (own_methods_of p (plain k)) (fold (with_method p (plain k)) no_slots (own_methods_of p (plain k))) → IsTaken p (fold (with_method p (plain k)) no_slots (own_methods_of p (plain k))) n
          alone u n t itself is a vn g = g.own_taken n (subst (λ z. Among (own_methods_of p z) n) is a) vn
          alone u n t (upward f b) is a vn g = let f' : base_of p (plain k) ≡ Some _ = ap (base_of p) (sym is) ∙ f in absurd (cc (f', e))
      by_base go (Some b) e =
          let j = base_is (plain k) b e in
          let h' : tends p levels (plain j.0) ≡ true = subst (λ z. tends p levels z ≡ true) j.1 (tends_below levels (plain k) b h e) in
          let old : HasSlots j.0 (virtual_slots_of p b) = subst (λ z. HasSlots j.0 (virtual_slots_of p z)) (sym j.1) (go j.0 h') in
          let start : Slotted p (plain k) (virtual_slots_of p b) = record { standing = lower_standing (plain k) b e (virtual_slots_of p b).stands (subst (λ z. AllByRecursion (IsStanding p z) (virtual_slots_of p b).stands) (sym j.1) old.slotted.standing); taken = old.slotted.taken } in
          let g : AllGrown p (plain k) (virtual_slots_of p b) (own_methods_of p (plain k)) (fold (with_method p (plain k)) (virtual_slots_of p b) (own_methods_of p (plain k))) =
          all_grown p k (own_methods_of p (plain k)) (own_owned k).0 (own_owned k).1 (virtual_slots_of p b) start
          (λ m c f.
          let near = nearest_is (signature_at (plain k) m) (proper_bases_of p (plain k)) c f in
          let u = upwards_based (length p.classes) (base_of p (plain k)) c.0 near.type in
          let same_base : u.0 ≡ b = cc (u.1, e) in
          let based : Based p b c.0 = subst (λ z. Based p z c.0) same_base u.2 in
          let i = based_plain b c.0 based j.0 j.1 in
          let t = old.taken c.0 c.1 (subst (λ z. Based p z c.0) j.1 based) near.own near.virtual in
          let signs : signature_of m ≡ signature_of near.virtual.definition = sym (signature_plain k m) ∙ near.same ∙ ap (λ z. signature_at z near.virtual.definition) i.1 ∙ signature_plain i.0 near.virtual.definition in
          (t.0, t.1, ap (λ o. option_map signature_of o) near.virtual.there ∙ ap Some (sym signs))) in
          record {
            slotted = g.slotted;
            taken = λ u n d a vn. by_way u n (plain k) d refl a vn g j old;
            own = g.own_stands;
            below = λ b' f. let q : b ≡ b' = cc (e, f) in (g.rest, g.grows ∙ ap (λ z. signatures p (virtual_slots_of p z) ++ g.rest) q);
          }
        where
          by_way : (u : TExpr) (n : ℕ) (t : TExpr) → Based p t u → t ≡ plain k → Among (own_methods_of p u) n → IsVirtual p n → AllGrown p (plain k) (virtual_slots_of p b) (own_methods_of p (plain k)) (fold (with_method p (plain k)) (virtual_slots_of p b) (own_methods_of p (plain k))) → (j : ((j : ℕ) × (b ≡ plain j))) → HasSlots j.0 (virtual_slots_of p b) → IsTaken p (fold (with_method p (plain k)) (virtual_slots_of p b) (own_methods_of p (plain k))) n
          by_way u n t itself is a vn g j old = g.own_taken n (subst (λ z. Among (own_methods_of p z) n) is a) vn
          by_way u n t (upward {b = x} f d) is a vn g j old =
              let f' : base_of p (plain k) ≡ Some x = ap (base_of p) (sym is) ∙ f in
              let q : x ≡ plain j.0 = (let r : x ≡ b = cc (f', e) in r) ∙ j.1 in
              let t' = old.taken u n (subst (λ z. Based p z u) q d) a vn in
              (t'.0, g.keeps_taken n t'.0 t'.1)

  pub slots_of_class : (k : ℕ) → HasSlots k (virtual_slots_of p (plain k))
  slots_of_class k = has_slots (length p.classes) k (tends_all p classes (plain k))

  -- a class below has the slots of the class above first
  pub slots_above : (t u : TExpr) → Based p t u → (k : ℕ) → t ≡ plain k → (rest : List (Option Signature)) × (signatures p (virtual_slots_of p t) ≡ signatures p (virtual_slots_of p u) ++ rest)
  slots_above t u itself k e = ([], sym (append-nil (signatures p (virtual_slots_of p t))))
  slots_above t u (upward {b = b} is h) k e =
      let j = base_is t b is in
      let rest = slots_above b u h j.0 j.1 in
      let one = (slots_of_class k).below b (ap (base_of p) (sym e) ∙ is) in
      (rest.0 ++ one.0, ap (λ z. signatures p (virtual_slots_of p z)) e ∙ one.1 ∙ ap (λ z. z ++ one.0) rest.1 ∙ append_assoc (signatures p (virtual_slots_of p u)) rest.0 one.0)
