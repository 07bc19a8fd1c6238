-- What stands in the head of a class of a canonical text: its kind, its base and its interfaces.
use Rattle.std.proofs.Common.{◌≡◌, ℕ, Bool, true, false, if◌then◌else◌, List, [], ◌∷◌, map, Option, Some, None, refl, sym, ap, ◌∙◌, subst, codes, arith, bytes_eq, Contains}
use Rattle.std.proofs.lemmas.Bool.{true≢false}
use Rattle.type_tree.specs.declared.tree.TExpr.{TExpr}
use Rattle.il_model.specs.declared.class.ClassKind.{ClassKind}
use Rattle.il_model.specs.declared.class.ClassKind.TheVariants as kind
use Rattle.il_model.specs.declared.written.WrittenType.{WrittenType}
use Rattle.il_model.specs.Lexemes.{Lexeme, Is}
use Rattle.il_model.specs.Words.{kind_words}
use Rattle.il_model.specs.Classes.{IsKind, plain as plain_kind, worded, IsBase, no_base, base_of_plain, base_of_abstract, AreInterfaces, no_interfaces, interfaces}
use Rattle.il_model.specs.Names.{Scope, NamesTypes, no_types}
use Rattle.il_model.specs.LookUp.{NamesBase, object_of_plain, object_of_abstract, none_of_struct, none_of_interface, written_base}
use Rattle.il_model.specs.Library.{plain}
use Rattle.il_model.specs.Canonical.{kind_text, type_text}
use Rattle.il_print.proofs.Keys.{key_of, quoted, all_quoted, keys_between, type_keys, base_keys, interfaces_keys}
use Rattle.il_print.proofs.AgainKeys.{keys_first, keys_one, keys_none, is_quoted}
use Rattle.il_print.proofs.AgainScopes.{ArePlain, IsFair}
use Rattle.il_print.proofs.AgainTypes.{type_again}
use Rattle.il_print.proofs.AgainParams.{types_again}
use Rattle.il_print.proofs.AgainInstrs.{all_contained}
use Rattle.il_print.proofs.AgainBases.{object_text, object_is}

-- ---- what a class is

pub is_delegate : ClassKind → Bool
is_delegate kind.Plain = false
is_delegate kind.Abstract = false
is_delegate kind.Interface = false
is_delegate kind.Struct = false
is_delegate kind.Delegate = true

pub kind_again : (k : ClassKind) (ls : List Lexeme) → is_delegate k ≡ false → map key_of ls ≡ all_quoted (kind_text k) → IsKind ls k
unfolding is_delegate
kind_again kind.Plain ls can e = subst (λ z. IsKind z kind.Plain) (sym (keys_none ls e)) plain_kind
kind_again kind.Abstract ls can e =
    let one = keys_one ls (quoted (codes "abstract")) e in
    subst (λ z. IsKind z kind.Abstract) (sym one.split) (worded one.lexeme kind.Abstract (subst (λ b. Contains kind_words (b, kind.Abstract)) (sym (ap (λ k. k.bytes) one.is)) (0, omega arith, refl)))
kind_again kind.Interface ls can e =
    let one = keys_one ls (quoted (codes "interface")) e in
    subst (λ z. IsKind z kind.Interface) (sym one.split) (worded one.lexeme kind.Interface (subst (λ b. Contains kind_words (b, kind.Interface)) (sym (ap (λ k. k.bytes) one.is)) (1, omega arith, refl)))
kind_again kind.Struct ls can e =
    let one = keys_one ls (quoted (codes "struct")) e in
    subst (λ z. IsKind z kind.Struct) (sym one.split) (worded one.lexeme kind.Struct (subst (λ b. Contains kind_words (b, kind.Struct)) (sym (ap (λ k. k.bytes) one.is)) (2, omega arith, refl)))
kind_again kind.Delegate ls can e = absurd (true≢false can)

pub no_delegate : (ls : List Lexeme) (k : ClassKind) → IsKind ls k → is_delegate k ≡ false
unfolding is_delegate
no_delegate ls k plain_kind = refl
no_delegate ls k (worded l u among) = all_contained (λ (row : List ℕ × ClassKind). is_delegate row.1 ≡ false) kind_words (l.bytes, k) (refl, (refl, (refl, tt))) among

-- ---- the base and the interfaces

pub record BaseAgain (s : Scope) (k : ClassKind) (ls : List Lexeme) (o : Option TExpr) : Type 0 where
  pub base : Option WrittenType
  pub is : IsBase k ls base
  pub names : NamesBase s k base o

-- no base is printed
left_out : (s : Scope) (k : ClassKind) (ls : List Lexeme) (o : Option TExpr) → NamesBase s k None o → map key_of ls ≡ [] → BaseAgain s k ls o
left_out s k ls o names e = record { base = None; is = subst (λ z. IsBase k z None) (sym (keys_none ls e)) (no_base k); names = names }

no_object : (s : Scope) → ArePlain s.names → (ls : List Lexeme) → map key_of ls ≡ base_keys s.names (Some (plain 0)) → map key_of ls ≡ []
no_object s names ls e = e ∙ ap (λ b. if b then [] else quoted (codes "extends") ∷ type_keys s.names (plain 0)) (object_text s names)

by_choice : (s : Scope) (k : ClassKind) (t : TExpr) (b : Bool) → bytes_eq (type_text s.names t) (codes "object") ≡ b → (ls : List Lexeme) →
    map key_of ls ≡ (if b then [] else quoted (codes "extends") ∷ type_keys s.names t) →
    (b ≡ true → map key_of ls ≡ [] → BaseAgain s k ls (Some t)) →
    ((l : Lexeme) (rest : List Lexeme) → ls ≡ l ∷ rest → Is (codes "extends") l → map key_of rest ≡ type_keys s.names t → BaseAgain s k ls (Some t)) → BaseAgain s k ls (Some t)
by_choice s k t true is ls e out written = out refl e
by_choice s k t false is ls e out written =
    let l = keys_first ls (quoted (codes "extends")) (type_keys s.names t) e in
    written l.lexeme l.rest l.split (is_quoted (codes "extends") l.lexeme l.is) l.are

pub base_again : (s : Scope) → IsFair s → (k : ClassKind) (lexemes : List Lexeme) (written : Option WrittenType) (o : Option TExpr) → IsBase k lexemes written →
    NamesBase s k written o → (ls : List Lexeme) → map key_of ls ≡ base_keys s.names o → BaseAgain s k ls o
base_again s fair k lexemes written o (no_base u) object_of_plain ls e = left_out s k ls o object_of_plain (no_object s fair.plain ls e)
base_again s fair k lexemes written o (no_base u) object_of_abstract ls e = left_out s k ls o object_of_abstract (no_object s fair.plain ls e)
base_again s fair k lexemes written o (no_base u) none_of_struct ls e = left_out s k ls o none_of_struct e
base_again s fair k lexemes written o (no_base u) none_of_interface ls e = left_out s k ls o none_of_interface e
base_again s fair k lexemes written o (base_of_plain l ws x a b) (written_base v y t named) ls e =
    by_choice s kind.Plain t (bytes_eq (type_text s.names t) (codes "object")) refl ls e
    (λ hit none. left_out s kind.Plain ls (Some t) (subst (λ z. NamesBase s kind.Plain None (Some z)) (sym (object_is s fair.plain y t named hit)) object_of_plain) none)
    (λ word rest split is keys.
    let r = type_again s fair y t named [] refl rest keys in
    record {
      base = Some r.type;
      is = subst (λ z. IsBase kind.Plain z (Some r.type)) (sym split) (base_of_plain word rest r.type is r.is);
      names = written_base kind.Plain r.type t r.names;
    })
base_again s fair k lexemes written o (base_of_abstract l ws x a b) (written_base v y t named) ls e =
    by_choice s kind.Abstract t (bytes_eq (type_text s.names t) (codes "object")) refl ls e
    (λ hit none. left_out s kind.Abstract ls (Some t) (subst (λ z. NamesBase s kind.Abstract None (Some z)) (sym (object_is s fair.plain y t named hit)) object_of_abstract) none)
    (λ word rest split is keys.
    let r = type_again s fair y t named [] refl rest keys in
    record {
      base = Some r.type;
      is = subst (λ z. IsBase kind.Abstract z (Some r.type)) (sym split) (base_of_abstract word rest r.type is r.is);
      names = written_base kind.Abstract r.type t r.names;
    })

pub record InterfacesAgain (s : Scope) (ls : List Lexeme) (ts : List TExpr) : Type 0 where
  pub types : List WrittenType
  pub are : AreInterfaces ls types
  pub names : NamesTypes s types ts

pub interfaces_again : (s : Scope) → IsFair s → (written : List WrittenType) (ts : List TExpr) → NamesTypes s written ts → (ls : List Lexeme) →
    map key_of ls ≡ interfaces_keys s.names ts → InterfacesAgain s ls ts
interfaces_again s fair written [] named ls e =
    record { types = []; are = subst (λ z. AreInterfaces z []) (sym (keys_none ls e)) no_interfaces; names = no_types s }
interfaces_again s fair written (t ∷ ts) named ls e =
    let word = keys_first ls (quoted (codes "implements")) (keys_between (codes ",") (map (type_keys s.names) (t ∷ ts))) e in
    let r = types_again s fair (codes ",") written (t ∷ ts) named (omega arith) word.rest word.are in
    record {
      types = r.first ∷ r.rest;
      are = subst (λ z. AreInterfaces z (r.first ∷ r.rest)) (sym word.split) (interfaces word.lexeme word.rest r.first r.rest (is_quoted (codes "implements") word.lexeme word.is) r.are);
      names = r.names;
    }
