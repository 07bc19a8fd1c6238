-- Parameters, results, type arguments and type variables of a canonical text.
use Rattle.std.proofs.Common.{◌≡◌, true, false, ◌≤◌, length, arith, List, [], ◌∷◌, ◌++◌, map, Option, Some, None, refl, sym, ap, ◌∙◌, subst, codes}
use Rattle.type_tree.specs.declared.tree.TExpr.{TExpr}
use Rattle.il_model.specs.declared.class.VarDef.{VarDef}
use Rattle.il_model.specs.declared.method.PType.{PType}
use Rattle.il_model.specs.declared.written.WrittenType.{WrittenType}
use Rattle.il_model.specs.declared.written.WrittenParam.{WrittenParam}
use Rattle.il_model.specs.declared.written.WrittenVar.{WrittenVar}
use Rattle.il_model.specs.Lexemes.{Lexeme, name_at}
use Rattle.il_model.specs.Types.{AreTypes, IsResult, void, value, IsParam, by_value, pointer, AreParams, no_params, params, AreArguments, no_arguments, arguments, IsVar, unbounded, bounded, AreVars, no_vars, vars}
use Rattle.il_model.specs.Names.{Scope, end, neither, each, NamesTypes, no_types, more_types, NamesResult, NamesParam, by_pointer, by_value as of_value, NamesParams, NamesVar, NamesVars}
use Rattle.il_model.specs.Canonical.{Word}
use Rattle.il_print.proofs.Keys.{key_of, quoted, name_key, keys_between, angled_keys, type_keys, bound_keys, var_keys, vars_keys, param_keys, params_keys, result_keys}
use Rattle.il_print.proofs.AgainKeys.{keys_first, keys_split, keys_one, keys_none, is_quoted, is_name}
use Rattle.il_print.proofs.AgainScopes.{IsFair, AreQuoted}
use Rattle.il_print.proofs.AgainTypes.{type_again, rest_again, keys_after, between-after}
use Rattle.il_print.proofs.AgainLists.{ItemAgain, Reads, separated_again, all_read, Enclosed, enclosed}

-- ---- one type or several

pub record TypesAgain (s : Scope) (mark : Word) (ls : List Lexeme) (ts : List TExpr) : Type 0 where
  pub first : WrittenType
  pub rest : List WrittenType
  pub are : AreTypes mark ls (first ∷ rest)
  pub names : NamesTypes s (first ∷ rest) ts

pub types_again : (s : Scope) → IsFair s → (mark : Word) (written : List WrittenType) (ts : List TExpr) → NamesTypes s written ts → 1 ≤ length ts →
    (ls : List Lexeme) → map key_of ls ≡ keys_between mark (map (type_keys s.names) ts) → TypesAgain s mark ls ts
types_again s fair mark written ts (no_types s') some ls e = absurd (omega (arith, some))
types_again s fair mark written ts (more_types s' w1 t ws1 ts1 is are) some ls e =
    let split = keys_split ls (type_keys s.names t) (keys_after mark (map (type_keys s.names) ts1))
    (e ∙ between-after mark (type_keys s.names t) (map (type_keys s.names) ts1))
    in
    let a = type_again s fair w1 t is [] refl split.front split.first in
    let b = rest_again s fair ws1 ts1 are mark split.back split.second in
    record {
      first = a.type;
      rest = b.types;
      are = subst (λ z. AreTypes mark z (a.type ∷ b.types)) (sym split.split) (b.are split.front a.type a.is);
      names = more_types s a.type t b.types ts1 a.names b.names;
    }

-- ---- parameters

pub param_again : (s : Scope) → IsFair s → (written : WrittenParam) (p : PType) → NamesParam s written p → Reads IsParam (NamesParam s) (param_keys s.names) p
param_again s fair written p (of_value w t is) ls e =
    let a = type_again s fair w t is [] refl ls e in
    record { item = record { kind = a.type; pointer = false }; is = by_value ls a.type a.is; names = of_value a.type t a.names }
param_again s fair written p (by_pointer w t is) ls e =
    let split = keys_split ls (type_keys s.names t) (quoted (codes "&") ∷ []) e in
    let last = keys_one split.back (quoted (codes "&")) split.second in
    let a = type_again s fair w t is [] refl split.front split.first in
    record {
      item = record { kind = a.type; pointer = true };
      is = pointer ls split.front last.lexeme a.type (split.split ∙ ap (λ z. split.front ++ z) last.split) a.is (is_quoted (codes "&") last.lexeme last.is);
      names = by_pointer a.type t a.names;
    }

-- parameters in their brackets
pub record ParamsAgain (s : Scope) (ls : List Lexeme) (ps : List PType) : Type 0 where
  pub enclosed : Enclosed (codes "(") (codes ")") (keys_between (codes ",") (map (param_keys s.names) ps)) ls
  pub params : List WrittenParam
  pub are : AreParams enclosed.inner params
  pub names : NamesParams s params ps

pub params_again : (s : Scope) → IsFair s → (written : List WrittenParam) (ps : List PType) → NamesParams s written ps → (ls : List Lexeme) →
    map key_of ls ≡ params_keys s.names ps → ParamsAgain s ls ps
params_again s fair written [] named ls e =
    let c = enclosed (codes "(") (codes ")") [] ls e in
    record { enclosed = c; params = []; are = subst (λ z. AreParams z []) (sym (keys_none c.inner c.are)) no_params; names = end }
params_again s fair written (p ∷ ps) named ls e =
    let c = enclosed (codes "(") (codes ")") (keys_between (codes ",") (map (param_keys s.names) (p ∷ ps))) ls e in
    let all = all_read IsParam (NamesParam s) (param_keys s.names) (NamesParam s) (param_again s fair) written (p ∷ ps) named in
    let r = separated_again IsParam (NamesParam s) (param_keys s.names) (codes ",") p ps all.0 all.1 c.inner c.are in
    record { enclosed = c; params = r.first ∷ r.rest; are = params c.inner r.first r.rest r.are; names = r.names }

-- ---- results

pub result_again : (s : Scope) → IsFair s → (written : Option WrittenType) (r : Option TExpr) → NamesResult s written r → (words : List Word) → AreQuoted words →
    Reads (IsResult words) (NamesResult s) (result_keys s.names) r
result_again s fair written r neither words are ls e =
    let one = keys_one ls (quoted (codes "void")) e in
    record {
      item = None;
      is = subst (λ z. IsResult words z None) (sym one.split) (void one.lexeme (is_quoted (codes "void") one.lexeme one.is));
      names = neither;
    }
result_again s fair written r (each w t is) words are ls e =
    let a = type_again s fair w t is (codes "void" ∷ words) are ls e in
    record { item = Some a.type; is = value ls a.type a.is; names = each a.type t a.names }

-- ---- type arguments

pub record ArgumentsAgain (s : Scope) (ls : List Lexeme) (ts : List TExpr) : Type 0 where
  pub types : List WrittenType
  pub are : AreArguments ls types
  pub names : NamesTypes s types ts

pub arguments_again : (s : Scope) → IsFair s → (written : List WrittenType) (ts : List TExpr) → NamesTypes s written ts → (ls : List Lexeme) →
    map key_of ls ≡ angled_keys (map (type_keys s.names) ts) → ArgumentsAgain s ls ts
arguments_again s fair written [] named ls e =
    record { types = []; are = subst (λ z. AreArguments z []) (sym (keys_none ls e)) no_arguments; names = no_types s }
arguments_again s fair written (t ∷ ts) named ls e =
    let c = enclosed (codes "<") (codes ">") (keys_between (codes ",") (map (type_keys s.names) (t ∷ ts))) ls e in
    let r = types_again s fair (codes ",") written (t ∷ ts) named (omega arith) c.inner c.are in
    record { types = r.first ∷ r.rest; are = arguments ls c.inner c.left c.right (r.first ∷ r.rest) c.split c.opens r.are c.closes; names = r.names }

-- ---- type variables

bounds_again : (s : Scope) → IsFair s → (written : WrittenVar) (v : VarDef) → NamesVar s written v → (bounds : List TExpr) → v.bounds ≡ bounds → (ls : List Lexeme) →
    map key_of ls ≡ name_key v.name ∷ bound_keys s.names bounds → ItemAgain IsVar (NamesVar s) ls v
bounds_again s fair written v named [] same ls e =
    let one = keys_one ls (name_key v.name) e in
    record {
      item = record { name = name_at one.lexeme; bounds = [] };
      is = subst (λ z. IsVar z (record { name = name_at one.lexeme; bounds = [] })) (sym one.split) (unbounded one.lexeme (is_name [] v.name one.lexeme one.is refl));
      names = record { name = sym (ap (λ k. k.bytes) one.is); bounds = subst (NamesTypes s []) (sym same) (no_types s) };
    }
bounds_again s fair written v named (t ∷ ts) same ls e =
    let l = keys_first ls (name_key v.name) _ e in
    let c = keys_first l.rest (quoted (codes ":")) (keys_between (codes "&") (map (type_keys s.names) (t ∷ ts))) l.are in
    let r = types_again s fair (codes "&") written.bounds (t ∷ ts) (subst (NamesTypes s written.bounds) same named.bounds) (omega arith) c.rest c.are in
    record {
      item = record { name = name_at l.lexeme; bounds = r.first ∷ r.rest };
      is = subst (λ z. IsVar z (record { name = name_at l.lexeme; bounds = r.first ∷ r.rest })) (sym (l.split ∙ ap (λ z. l.lexeme ∷ z) c.split))
          (bounded l.lexeme c.lexeme c.rest (r.first ∷ r.rest) (is_name [] v.name l.lexeme l.is refl) (is_quoted (codes ":") c.lexeme c.is) r.are);
      names = record { name = sym (ap (λ k. k.bytes) l.is); bounds = subst (NamesTypes s (r.first ∷ r.rest)) (sym same) r.names };
    }

pub var_again : (s : Scope) → IsFair s → (written : WrittenVar) (v : VarDef) → NamesVar s written v → Reads IsVar (NamesVar s) (var_keys s.names) v
var_again s fair written v named ls e = bounds_again s fair written v named v.bounds refl ls e

pub record VarsAgain (s : Scope) (ls : List Lexeme) (vs : List VarDef) : Type 0 where
  pub vars : List WrittenVar
  pub are : AreVars ls vars
  pub names : NamesVars s vars vs

pub vars_again : (s : Scope) → IsFair s → (written : List WrittenVar) (vs : List VarDef) → NamesVars s written vs → (ls : List Lexeme) →
    map key_of ls ≡ vars_keys s.names vs → VarsAgain s ls vs
vars_again s fair written [] named ls e = record { vars = []; are = subst (λ z. AreVars z []) (sym (keys_none ls e)) no_vars; names = end }
vars_again s fair written (v ∷ vs) named ls e =
    let c = enclosed (codes "<") (codes ">") (keys_between (codes ",") (map (var_keys s.names) (v ∷ vs))) ls e in
    let all = all_read IsVar (NamesVar s) (var_keys s.names) (NamesVar s) (var_again s fair) written (v ∷ vs) named in
    let r = separated_again IsVar (NamesVar s) (var_keys s.names) (codes ",") v vs all.0 all.1 c.inner c.are in
    record { vars = r.first ∷ r.rest; are = vars ls c.inner c.left c.right (r.first ∷ r.rest) c.split c.opens r.are c.closes; names = r.names }
