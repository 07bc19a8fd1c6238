-- Instructions of a canonical text, by what they hold.
use Rattle.std.proofs.Common.{◌≡◌, ℕ, ◌<◌, ◌^◌, ℤ, List, [], ◌∷◌, ◌++◌, map, Some, refl, sym, ap, ◌∙◌, subst, codes, decimal, Contains, slice_get, unwrap_or}
use Rattle.std.specs.List.{AllByRecursion}
use Rattle.std.specs.Fmt.{signed_decimal}
use Rattle.std.specs.Int.Signed.{mag}
use Rattle.type_tree.specs.declared.tree.TExpr.{TExpr}
use Rattle.il_model.specs.declared.member.MRef.{MRef}
use Rattle.il_model.specs.declared.member.FRef.{FRef}
use Rattle.il_model.specs.declared.form.Form.{Form}
use Rattle.il_model.specs.declared.op.Op.{Op}
use Rattle.il_model.specs.declared.written.WrittenType.{WrittenType}
use Rattle.il_model.specs.declared.written.WrittenMethodRef.{WrittenMethodRef}
use Rattle.il_model.specs.declared.written.WrittenFieldRef.{WrittenFieldRef}
use Rattle.il_model.specs.declared.written.WrittenOperand.{WrittenOperand}
use Rattle.il_model.specs.declared.written.WrittenOperand.TheVariants as operand
use Rattle.il_model.specs.declared.written.WrittenInstr.{WrittenInstr}
use Rattle.il_model.specs.Lexemes.{Lexeme, name_at}
use Rattle.il_model.specs.Literals.{int32_value, int64_value, place_value, text_value}
use Rattle.il_model.specs.Forms.{OperandKind, no_operand, int32_literal, int64_literal, text_literal, label, labels, type_operand, called_method, method_operand, field_operand, constrained_method, place as numbered_place, word, no_text, word_of, operand_kind}
use Rattle.il_model.specs.Ops.{Operand, nothing, int32, int64, literal, place, target, targets, type, method, field, constrained, form_of, operand_of}
use Rattle.il_model.specs.Spellings.{plain_name}
use Rattle.il_model.specs.Instructions.{IsLabel, label_name, plain_words, IsInside, nothing_inside, type_inside, IsLibraryCall, library_words, IsOperand, nothing as spelled_nothing, int32_number, int64_number, text, place_number, target as spelled_target, targets as spelled_targets, type as spelled_type, called, method as spelled_method, field as spelled_field, constrained as spelled_constrained, IsInstr, long, library}
use Rattle.il_model.specs.Names.{Scope, NamesType}
use Rattle.il_model.specs.LookUp.{NamesLabel, NamesOperand, names_nothing, names_int32, names_int64, names_literal, names_place, names_target, names_targets, names_type, names_method, names_field, names_constrained, NamesInstr, NamesFieldRef}
use Rattle.il_model.specs.Canonical.{Word, Printing, label_text, literal_text}
use Rattle.il_print.proofs.Keys.{Key, key_of, quoted, all_quoted, number_key, literal_key, label_key, keys_between, operand_keys, form_keys, op_keys, method_ref_keys, type_keys}
use Rattle.il_print.proofs.AgainKeys.{keys_first, keys_split, keys_one, keys_none, is_quoted, is_name}
use Rattle.il_print.proofs.AgainScopes.{IsFair}
use Rattle.il_print.proofs.AgainTypes.{type_again}
use Rattle.il_print.proofs.AgainLists.{Reads, separated_again, enclosed}
use Rattle.il_print.proofs.AgainNumbers.{int32_again, int64_again, place_again, text_again}
use Rattle.il_print.proofs.AgainMembers.{NamedRef, method_again, field_again}
use Rattle.il_print.proofs.AgainForms.{Inside, in_none, in_type, FormWritten, by_word, by_call, never}

-- the name that a place has is a label before it
abbrev pub IsLabelled : Printing → List (List ℕ × ℕ) → ℕ → Type 0
IsLabelled p marks to = Contains marks (label_text p.places to, to)

-- what lexemes with these keys spell is no call of the library
abbrev pub IsOwnCall : List Word → MRef → Type 0
IsOwnCall names m = (ls : List Lexeme) → map key_of ls ≡ method_ref_keys names m → (f : Form) (o : WrittenOperand) → ¬ (IsLibraryCall ls f o)

-- what a text can write behind the word of an instruction that takes an operand of this kind
pub data IsWritable (s : Scope) (p : Printing) (marks : List (List ℕ × ℕ)) : OperandKind → Operand → Type 0 where
  can_nothing : IsWritable s p marks no_operand nothing
  can_int32 : (n : ℤ) → mag n < 2 ^ 31 → IsWritable s p marks int32_literal (int32 n)
  can_int64 : (n : ℤ) → mag n < 2 ^ 63 → IsWritable s p marks int64_literal (int64 n)
  can_text : (number : ℕ) (bytes : List ℕ) → slice_get p.literals number ≡ Some bytes → IsWritable s p marks text_literal (literal number)
  can_place : (n : ℕ) → n < 2 ^ 64 → IsWritable s p marks numbered_place (place n)
  can_target : (to : ℕ) → IsLabelled p marks to → IsWritable s p marks label (target to)
  can_targets : (to : ℕ) (more : List ℕ) → IsLabelled p marks to → AllByRecursion (IsLabelled p marks) more → IsWritable s p marks labels (targets (to ∷ more))
  can_type : (written : WrittenType) (t : TExpr) → NamesType s written t → IsWritable s p marks type_operand (type t)
  can_call : (written : WrittenMethodRef) (m : MRef) → NamedRef s written m → IsOwnCall s.names m → IsWritable s p marks called_method (method m)
  can_method : (written : WrittenMethodRef) (m : MRef) → NamedRef s written m → IsWritable s p marks method_operand (method m)
  can_field : (written : WrittenFieldRef) (f : FRef) → NamesFieldRef s written f → IsWritable s p marks field_operand (field f)
  can_constrained : (written : WrittenType) (named : WrittenMethodRef) (t : TExpr) (m : MRef) → NamesType s written t → NamedRef s named m →
      IsWritable s p marks constrained_method (constrained t m)

-- ---- labels

pub label_again : (p : Printing) (marks : List (List ℕ × ℕ)) (to : ℕ) → IsLabelled p marks to → Reads IsLabel (NamesLabel marks) (λ n. label_key p.places n ∷ []) to
label_again p marks to found ls e =
    let one = keys_one ls (label_key p.places to) e in
    record {
      item = name_at one.lexeme;
      is = subst (λ z. IsLabel z (name_at one.lexeme)) (sym one.split) (label_name one.lexeme (is_name [] (label_text p.places to) one.lexeme one.is refl));
      names = subst (λ b. Contains marks (b, to)) (sym (ap (λ k. k.bytes) one.is)) found;
    }

labels_again : (p : Printing) (marks : List (List ℕ × ℕ)) (to : List ℕ) → AllByRecursion (IsLabelled p marks) to →
    AllByRecursion (Reads IsLabel (NamesLabel marks) (λ n. label_key p.places n ∷ [])) to
labels_again p marks [] all = tt
labels_again p marks (n ∷ ns) all = (label_again p marks n all.0, labels_again p marks ns all.1)

-- ---- operands

pub operand_again : (s : Scope) → IsFair s → (p : Printing) → p.names ≡ s.names → (marks : List (List ℕ × ℕ)) (kind : OperandKind) (o : Operand) →
    IsWritable s p marks kind o → Reads (IsOperand kind) (NamesOperand s p.literals marks) (operand_keys p) o
operand_again s fair p same marks kind o can_nothing ls e =
    record { item = operand.Nothing; is = subst (λ z. IsOperand no_operand z operand.Nothing) (sym (keys_none ls e)) spelled_nothing; names = names_nothing }
operand_again s fair p same marks kind o (can_int32 n low) ls e =
    let one = keys_one ls (number_key (signed_decimal n)) e in
    record {
      item = operand.Int32 n;
      is = subst (λ z. IsOperand int32_literal z (operand.Int32 n)) (sym one.split)
          (int32_number one.lexeme n (ap (λ k. k.kind) one.is) (ap (λ k. int32_value k.bytes) one.is ∙ int32_again n low));
      names = names_int32 n;
    }
operand_again s fair p same marks kind o (can_int64 n low) ls e =
    let one = keys_one ls (number_key (signed_decimal n)) e in
    record {
      item = operand.Int64 n;
      is = subst (λ z. IsOperand int64_literal z (operand.Int64 n)) (sym one.split)
          (int64_number one.lexeme n (ap (λ k. k.kind) one.is) (ap (λ k. int64_value k.bytes) one.is ∙ int64_again n low));
      names = names_int64 n;
    }
operand_again s fair p same marks kind o (can_text number bytes found) ls e =
    let one = keys_one ls (literal_key (literal_text (unwrap_or (slice_get p.literals number) []))) e in
    let value : text_value one.lexeme.bytes ≡ bytes =
    ap (λ k. text_value k.bytes) one.is ∙ text_again (unwrap_or (slice_get p.literals number) []) ∙ ap (λ f. unwrap_or f []) found
    in
    record {
      item = operand.Text (text_value one.lexeme.bytes);
      is = subst (λ z. IsOperand text_literal z (operand.Text (text_value one.lexeme.bytes))) (sym one.split) (text one.lexeme (ap (λ k. k.kind) one.is));
      names = names_literal (text_value one.lexeme.bytes) number (found ∙ ap Some (sym value));
    }
operand_again s fair p same marks kind o (can_place n low) ls e =
    let one = keys_one ls (number_key (decimal n)) e in
    record {
      item = operand.Place n;
      is = subst (λ z. IsOperand numbered_place z (operand.Place n)) (sym one.split)
          (place_number one.lexeme n (ap (λ k. k.kind) one.is) (ap (λ k. place_value k.bytes) one.is ∙ place_again n low));
      names = names_place n;
    }
operand_again s fair p same marks kind o (can_target to found) ls e =
    let a = label_again p marks to found ls e in
    record { item = operand.Label a.item; is = spelled_target ls a.item a.is; names = names_target a.item to a.names }
operand_again s fair p same marks kind o (can_targets to more found all) ls e =
    let c = enclosed (codes "(") (codes ")") (keys_between (codes ",") (map (λ n. label_key p.places n ∷ []) (to ∷ more))) ls e in
    let r = separated_again IsLabel (NamesLabel marks) (λ n. label_key p.places n ∷ []) (codes ",") to more (label_again p marks to found) (labels_again p marks more all) c.inner c.are in
    record {
      item = operand.Labels (r.first ∷ r.rest);
      is = spelled_targets ls c.inner c.left c.right (r.first ∷ r.rest) c.split c.opens r.are c.closes;
      names = names_targets (r.first ∷ r.rest) (to ∷ more) r.names;
    }
operand_again s fair p same marks kind o (can_type written t is) ls e =
    let a = type_again s fair written t is [] refl ls (e ∙ ap (λ names. type_keys names t) same) in
    record { item = operand.Type a.type; is = spelled_type ls a.type a.is; names = names_type a.type t a.names }
operand_again s fair p same marks kind o (can_call written m named own) ls e =
    let e1 : map key_of ls ≡ method_ref_keys s.names m = e ∙ ap (λ names. method_ref_keys names m) same in
    let a = method_again s fair written m named ls e1 in
    record { item = operand.Method a.item; is = called ls a.item a.is (own ls e1); names = names_method a.item m a.names }
operand_again s fair p same marks kind o (can_method written m named) ls e =
    let a = method_again s fair written m named ls (e ∙ ap (λ names. method_ref_keys names m) same) in
    record { item = operand.Method a.item; is = spelled_method ls a.item a.is; names = names_method a.item m a.names }
operand_again s fair p same marks kind o (can_field written f named) ls e =
    let a = field_again s fair written f named ls (e ∙ ap (λ names. operand_keys (record p { names = names }) (field f)) same) in
    record { item = operand.Field a.item; is = spelled_field ls a.item a.is; names = names_field a.item f a.names }
operand_again s fair p same marks kind o (can_constrained written named t m is ref) ls e =
    let e1 : map key_of ls ≡ type_keys s.names t ++ quoted (codes "callvirt") ∷ method_ref_keys s.names m =
    e ∙ ap (λ names. operand_keys (record p { names = names }) (constrained t m)) same
    in
    let split = keys_split ls (type_keys s.names t) (quoted (codes "callvirt") ∷ method_ref_keys s.names m) e1 in
    let l = keys_first split.back (quoted (codes "callvirt")) (method_ref_keys s.names m) split.second in
    let a = type_again s fair written t is [] refl split.front split.first in
    let b = method_again s fair named m ref l.rest l.are in
    record {
      item = operand.Constrained a.type b.item;
      is = spelled_constrained ls split.front l.rest l.lexeme a.type b.item (split.split ∙ ap (λ z. split.front ++ z) l.split) a.is (is_quoted (codes "callvirt") l.lexeme l.is) b.is;
      names = names_constrained a.type b.item t m a.names b.names;
    }

-- ---- instructions

inside_again : (s : Scope) → IsFair s → (p : Printing) → p.names ≡ s.names → (marks : List (List ℕ × ℕ)) (kind : OperandKind) (o : Operand) → Inside kind →
    IsWritable s p marks kind o → Reads (IsInside kind) (NamesOperand s p.literals marks) (operand_keys p) o
inside_again s fair p same marks kind o in_none can_nothing ls e =
    record { item = operand.Nothing; is = subst (λ z. IsInside no_operand z operand.Nothing) (sym (keys_none ls e)) nothing_inside; names = names_nothing }
inside_again s fair p same marks kind o in_type (can_type written t is) ls e =
    let a = type_again s fair written t is [] refl ls (e ∙ ap (λ names. type_keys names t) same) in
    record { item = operand.Type a.type; is = type_inside ls a.type a.is; names = names_type a.type t a.names }

plain_of_keys : (ls : List Lexeme) → plain_words ls ≡ map (λ k. plain_name k.bytes) (map key_of ls)
plain_of_keys [] = refl
plain_of_keys (l ∷ ls) = ap (λ z. plain_name l.bytes ∷ z) (plain_of_keys ls)

plain_of_quoted : (ws : List Word) → map (λ (k : Key). plain_name k.bytes) (all_quoted ws) ≡ map plain_name ws
plain_of_quoted [] = refl
plain_of_quoted (w ∷ ws) = ap (λ z. plain_name w ∷ z) (plain_of_quoted ws)

plain_quoted : (ls : List Lexeme) (ws : List Word) → map key_of ls ≡ all_quoted ws → map plain_name ws ≡ ws → plain_words ls ≡ ws
plain_quoted ls ws e short = plain_of_keys ls ∙ ap (λ ks. map (λ (k : Key). plain_name k.bytes) ks) e ∙ plain_of_quoted ws ∙ short

pub instr_again : (s : Scope) → IsFair s → (p : Printing) → p.names ≡ s.names → (marks : List (List ℕ × ℕ)) (made : Op) →
    IsWritable s p marks (operand_kind (form_of made)) (operand_of made) → ¬ (word_of (form_of made) ≡ no_text) → FormWritten (form_of made) →
    Reads IsInstr (NamesInstr s p.literals marks) (op_keys p) made
instr_again s fair p same marks made can some (by_word w is) ls e =
    let whole : map key_of ls ≡ quoted w ∷ operand_keys p (operand_of made) = e ∙ ap (λ fw. form_keys fw (operand_keys p (operand_of made))) is in
    let l = keys_first ls (quoted w) (operand_keys p (operand_of made)) whole in
    let a = operand_again s fair p same marks (operand_kind (form_of made)) (operand_of made) can l.rest l.are in
    let i : WrittenInstr = record { at = l.lexeme.at; form = form_of made; operand = a.item } in
    record {
      item = i;
      is = subst (λ z. IsInstr z i) (sym l.split) (long l.lexeme l.rest (form_of made) a.item (is ∙ ap word (sym (is_quoted w l.lexeme l.is))) a.is);
      names = record { form = refl; operand = a.names };
    }
instr_again s fair p same marks made can some (by_call first last is short_first short_last no_first no_last inside) ls e =
    let whole : map key_of ls ≡ quoted (codes "call") ∷ all_quoted first ++ operand_keys p (operand_of made) ++ all_quoted last =
    e ∙ ap (λ fw. form_keys fw (operand_keys p (operand_of made))) is
    in
    let l = keys_first ls (quoted (codes "call")) _ whole in
    let s1 = keys_split l.rest (all_quoted first ++ operand_keys p (operand_of made)) (all_quoted last) l.are in
    let s2 = keys_split s1.front (all_quoted first) (operand_keys p (operand_of made)) s1.first in
    let a = inside_again s fair p same marks (operand_kind (form_of made)) (operand_of made) inside can s2.back s2.second in
    let i : WrittenInstr = record { at = l.lexeme.at; form = form_of made; operand = a.item } in
    record {
      item = i;
      is = subst (λ z. IsInstr z i) (sym l.split) (library l.lexeme l.rest (form_of made) a.item (is_quoted (codes "call") l.lexeme l.is)
          (library_words l.rest s2.front s2.back s1.back (form_of made) a.item first last (s1.split ∙ ap (λ z. z ++ s1.back) s2.split) is
          (plain_quoted s2.front first s2.first short_first) a.is (plain_quoted s1.back last s1.second short_last)));
      names = record { form = refl; operand = a.names };
    }
instr_again s fair p same marks made can some (never is) ls e = absurd (some is)
