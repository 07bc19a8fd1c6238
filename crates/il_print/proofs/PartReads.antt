-- Parameters, variables and members with the keys that they bring.
use Rattle.std.proofs.Common.{◌≡◌, Bool, true, false, List, [], ◌∷◌, ◌++◌, map, length, codes, Option, refl, sym, ap, ◌∙◌, subst, append_assoc, if◌then◌else◌}
use Rattle.std.specs.List.{AllByRecursion}
use Rattle.type_tree.specs.declared.tree.TExpr.{TExpr}
use Rattle.il_text.specs.declared.token.TokenKind.TheVariants as token
use Rattle.il_model.specs.declared.class.VarDef.{VarDef}
use Rattle.il_model.specs.declared.method.PType.{PType}
use Rattle.il_model.specs.declared.member.MRef.{MRef}
use Rattle.il_model.specs.declared.member.FRef.{FRef}
use Rattle.il_model.specs.declared.written.WrittenType.{WrittenType}
use Rattle.il_model.specs.declared.written.WrittenParam.{WrittenParam}
use Rattle.il_model.specs.declared.written.WrittenVar.{WrittenVar}
use Rattle.il_model.specs.declared.written.WrittenMethodRef.{WrittenMethodRef}
use Rattle.il_model.specs.declared.written.WrittenFieldRef.{WrittenFieldRef}
use Rattle.il_model.specs.Names.{Scope, Each, end, both, neither, each, NamesResult, NamesParam, by_value, by_pointer, NamesParams, NamesVar, NamesVars}
use Rattle.il_model.specs.LookUp.{scope_of_member, NamesMethodRef, NamesFieldRef}
use Rattle.il_model.specs.Canonical.{Word, comma, type_text, result_word, bound_words, var_words, vars_words, param_words, params_words, angled_words, method_ref_words, field_ref_words, between}
use Rattle.il_print.proofs.Keys.{Key, quoted, name_key, keys_between, angled_keys, type_keys, bound_keys, var_keys, vars_keys, param_keys, params_keys, result_keys, method_ref_keys, field_ref_keys}
use Rattle.il_print.proofs.TokenReads.{Opens, nothing_reads, quoted_opens, is_quotable}
use Rattle.il_print.proofs.WordReads.{Words, word_first, words_then, one_word, token_word, quoted_word, between_words, angled_words_read, in_parentheses_read}
use Rattle.il_print.proofs.TypeReads.{IsRead, IsReadable, type_read, types_read}
use Rattle.il_print.proofs.Spellable.{IsNameWord, AreSpellableVars}

-- ---- lists

-- what follows of each two follows of each second one
pub each_gives : {A B : Type 0} {R : A → B → Type 0} (P : B → Type 0) → ((x : A) (y : B) → R x y → P y) → (xs : List A) (ys : List B) →
    Each R xs ys → AllByRecursion P ys
each_gives P f xs ys end = tt
each_gives P f xs ys (both x y us vs r more) = (f x y r, each_gives P f us vs more)

pub each_gives_with : {A B : Type 0} {R : A → B → Type 0} (Q : A → Type 0) (P : B → Type 0) → ((x : A) (y : B) → R x y → Q x → P y) →
    (xs : List A) (ys : List B) → Each R xs ys → AllByRecursion Q xs → AllByRecursion P ys
each_gives_with Q P f xs ys end all = tt
each_gives_with Q P f xs ys (both x y us vs r more) all = (f x y r all.0, each_gives_with Q P f us vs more all.1)

pub follow_each : {X : Type 0} (P Q : X → Type 0) → ((x : X) → P x → Q x) → (xs : List X) → AllByRecursion P xs → AllByRecursion Q xs
follow_each P Q f [] all = tt
follow_each P Q f (x ∷ xs) all = (f x all.0, follow_each P Q f xs all.1)

pub of_each : {X : Type 0} (P : X → Type 0) → ((x : X) → P x) → (xs : List X) → AllByRecursion P xs
of_each P f [] = tt
of_each P f (x ∷ xs) = (f x, of_each P f xs)

-- a quoted word that may stand there
pub optional_word : (b : Bool) (w : Word) → is_quotable w ≡ true → Words (if b then w ∷ [] else []) (if b then quoted w ∷ [] else [])
optional_word true w e = quoted_word w [] [] e nothing_reads
optional_word false w e = nothing_reads

-- ---- types where they stand

module _ (s : Scope) (r : IsReadable s) where
  pub result_opens : (written : Option WrittenType) (t : Option TExpr) → NamesResult s written t → Opens (result_word s.names t) (result_keys s.names t)
  result_opens written t neither = quoted_opens (codes "void") refl
  result_opens written t (each w u named) = type_read s w u r named

  param_read : (written : WrittenParam) (p : PType) → NamesParam s written p → Words (param_words s.names p) (param_keys s.names p)
  param_read written p (by_value w t named) = one_word (type_text s.names t) (type_keys s.names t) (type_read s w t r named)
  param_read written p (by_pointer w t named) =
      word_first (type_text s.names t) (codes "&" ∷ []) (type_keys s.names t) (quoted (codes "&") ∷ []) (type_read s w t r named)
      (quoted_word (codes "&") [] [] refl nothing_reads)

  pub params_read : (written : List WrittenParam) (ps : List PType) → NamesParams s written ps → Words (params_words s.names ps) (params_keys s.names ps)
  params_read written ps named =
      in_parentheses_read (between comma (map (param_words s.names) ps)) (keys_between (codes ",") (map (param_keys s.names) ps))
      (between_words (param_words s.names) (param_keys s.names) comma ps refl
      (each_gives (λ p. Words (param_words s.names p) (param_keys s.names p)) param_read written ps named))

  type_words : (ts : List TExpr) → AllByRecursion (IsRead s.names) ts → AllByRecursion (λ t. Words (type_text s.names t ∷ []) (type_keys s.names t)) ts
  type_words =
      follow_each (IsRead s.names) (λ t. Words (type_text s.names t ∷ []) (type_keys s.names t))
      (λ t read. one_word (type_text s.names t) (type_keys s.names t) read)

  -- with a mark between each two
  pub types_between : (mark : Word) (ts : List TExpr) → is_quotable mark ≡ true → AllByRecursion (IsRead s.names) ts →
      Words (between mark (map (λ t. type_text s.names t ∷ []) ts)) (keys_between mark (map (type_keys s.names) ts))
  types_between mark ts e read = between_words (λ t. type_text s.names t ∷ []) (type_keys s.names) mark ts e (type_words ts read)

  bounds_read : (ts : List TExpr) → AllByRecursion (IsRead s.names) ts → Words (bound_words s.names ts) (bound_keys s.names ts)
  bounds_read [] read = nothing_reads
  bounds_read (t ∷ ts) read =
      quoted_word (codes ":") (between (codes "&") (map (λ bound. type_text s.names bound ∷ []) (t ∷ ts)))
      (keys_between (codes "&") (map (type_keys s.names) (t ∷ ts))) refl (types_between (codes "&") (t ∷ ts) refl read)

  var_read : (written : WrittenVar) (v : VarDef) → NamesVar s written v → IsNameWord written.name.name → Words (var_words s.names v) (var_keys s.names v)
  var_read written v named name =
      token_word token.Word v.name (bound_words s.names v.bounds) (bound_keys s.names v.bounds) (subst IsNameWord (sym named.name) name)
      (bounds_read v.bounds (types_read s written.bounds v.bounds r named.bounds))

  pub vars_read : (written : List WrittenVar) (vs : List VarDef) → NamesVars s written vs → AreSpellableVars written →
      Words (vars_words s.names vs) (vars_keys s.names vs)
  vars_read written vs named names =
      angled_words_read (var_words s.names) (var_keys s.names) vs
      (each_gives_with (λ v. IsNameWord v.name.name) (λ v. Words (var_words s.names v) (var_keys s.names v)) var_read written vs named names)

  pub args_read : (ts : List TExpr) → AllByRecursion (IsRead s.names) ts →
      Words (angled_words (map (λ t. type_text s.names t ∷ []) ts)) (angled_keys (map (type_keys s.names) ts))
  args_read ts read = angled_words_read (λ t. type_text s.names t ∷ []) (type_keys s.names) ts (type_words ts read)

-- ---- members as instructions name them

regroup : (a b c d e : List Key) → (a ++ (b ++ (c ++ d))) ++ e ≡ (((a ++ b) ++ c) ++ d) ++ e
regroup a b c d e = ap (λ ks. ks ++ e) (sym (append_assoc (a ++ b) c d ∙ append_assoc a b (c ++ d)))

pub method_ref_read : (s : Scope) (written : WrittenMethodRef) (m : MRef) → IsReadable s → NamesMethodRef s written m → IsNameWord written.name →
    Words (method_ref_words s.names m) (method_ref_keys s.names m)
method_ref_read s written m r named name =
    let inner = scope_of_member s m.class (length written.args) in
    let readable : IsReadable inner = record { names = r.names; some = r.some } in
    let start = if m.instance then codes "instance" ∷ [] else [] in
    let start_keys = if m.instance then quoted (codes "instance") ∷ [] else [] in
    let args = angled_words (map (λ t. type_text s.names t ∷ []) m.args) in
    let args_keys = angled_keys (map (type_keys s.names) m.args) in
    let named_keys = quoted (codes "::") ∷ name_key m.name ∷ args_keys in
    let named_read : Words (codes "::" ∷ m.name ∷ args) named_keys =
    quoted_word (codes "::") (m.name ∷ args) (name_key m.name ∷ args_keys) refl
    (token_word token.Word m.name args args_keys (subst IsNameWord (sym named.name) name) (args_read s r m.args (types_read s written.args m.args r named.args))) in
    let class_read : Words (type_text s.names m.class ∷ codes "::" ∷ m.name ∷ args) (type_keys s.names m.class ++ named_keys) =
    word_first (type_text s.names m.class) (codes "::" ∷ m.name ∷ args) (type_keys s.names m.class) named_keys (type_read s written.class m.class r named.class) named_read in
    let result_read : Words (result_word s.names m.result ∷ type_text s.names m.class ∷ codes "::" ∷ m.name ∷ args) (result_keys s.names m.result ++ (type_keys s.names m.class ++ named_keys)) =
    word_first (result_word s.names m.result) (type_text s.names m.class ∷ codes "::" ∷ m.name ∷ args) (result_keys s.names m.result)
    (type_keys s.names m.class ++ named_keys) (result_opens inner readable written.result m.result named.gives) class_read in
    subst (Words (method_ref_words s.names m)) (regroup start_keys (result_keys s.names m.result) (type_keys s.names m.class) named_keys (params_keys s.names m.params))
    (words_then (start ++ (result_word s.names m.result ∷ type_text s.names m.class ∷ codes "::" ∷ m.name ∷ args)) (params_words s.names m.params)
    (start_keys ++ (result_keys s.names m.result ++ (type_keys s.names m.class ++ named_keys))) (params_keys s.names m.params)
    (words_then start (result_word s.names m.result ∷ type_text s.names m.class ∷ codes "::" ∷ m.name ∷ args) start_keys
    (result_keys s.names m.result ++ (type_keys s.names m.class ++ named_keys)) (optional_word m.instance (codes "instance") refl) result_read)
    (params_read inner readable written.params m.params named.params))

pub field_ref_read : (s : Scope) (written : WrittenFieldRef) (f : FRef) → IsReadable s → NamesFieldRef s written f → IsNameWord written.name →
    Words (field_ref_words s.names f) (field_ref_keys s.names f)
field_ref_read s written f r named name =
    let inner = scope_of_member s f.class 0 in
    let readable : IsReadable inner = record { names = r.names; some = r.some } in
    let behind = quoted (codes "::") ∷ name_key f.name ∷ [] in
    let class_read : Words (type_text s.names f.class ∷ codes "::" ∷ f.name ∷ []) (type_keys s.names f.class ++ behind) =
    word_first (type_text s.names f.class) (codes "::" ∷ f.name ∷ []) (type_keys s.names f.class) behind (type_read s written.class f.class r named.class)
    (quoted_word (codes "::") (f.name ∷ []) (name_key f.name ∷ []) refl
    (token_word token.Word f.name [] [] (subst IsNameWord (sym named.name) name) nothing_reads)) in
    subst (Words (field_ref_words s.names f)) (sym (append_assoc (type_keys s.names f.kind) (type_keys s.names f.class) behind))
    (word_first (type_text s.names f.kind) (type_text s.names f.class ∷ codes "::" ∷ f.name ∷ []) (type_keys s.names f.kind) (type_keys s.names f.class ++ behind)
    (type_read inner written.kind f.kind readable named.kind) class_read)
