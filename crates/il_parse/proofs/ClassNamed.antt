-- A class stands for just what its look-up finds.
use Rattle.std.proofs.Common.{◌≡◌, ℕ, ◌+◌, Bool, false, List, [], ◌∷◌, ◌++◌, length, map, flat_map, Option, Some, None, Ok, refl, sym, ap, subst, ◌∙◌, bytes_eq}
use Rattle.std.specs.List.{IsDistinct}
use Rattle.type_tree.specs.declared.tree.TExpr.{TExpr}
use Rattle.il_model.specs.declared.class.ClassKind.{ClassKind}
use Rattle.il_model.specs.declared.class.ClassKind.TheVariants as kind
use Rattle.il_model.specs.declared.class.ClassDef.{ClassDef}
use Rattle.il_model.specs.declared.method.MethodDef.{MethodDef}
use Rattle.il_model.specs.declared.written.WrittenType.{WrittenType}
use Rattle.il_model.specs.declared.written.WrittenClass.{WrittenClass}
use Rattle.il_model.specs.Lexemes.{is_among}
use Rattle.il_model.specs.Spellings.{plain_name}
use Rattle.il_model.specs.Library.{plain, library_classes, library_methods}
use Rattle.il_model.specs.Bounds.{fields_of, methods_of}
use Rattle.il_model.specs.Names.{Scope, Each}
use Rattle.il_model.specs.LookUp.{Known, scope_of, NamesMethod, NamesField, NamesBase, object_of_plain, object_of_abstract, none_of_struct, none_of_interface, written_base, numbers_from, NamesClass, texts_of_method}
use Rattle.il_parse.specs.NamedTypes.{type_named, types_named, vars_named}
use Rattle.il_parse.specs.NamedClasses.{once, Found, members_named, base_named, Gathered, with_class, class_named}
use Rattle.il_parse.proofs.FreshLists.{Fresh, fresh_distinct, distinct_fresh}
use Rattle.il_parse.proofs.PairedLists.{each_numbers}
use Rattle.il_parse.proofs.LookSteps.{given, looked, by_look}
use Rattle.il_parse.proofs.TypesNamed.{type_sound, type_complete}
use Rattle.il_parse.proofs.MembersNamed.{types_sound, types_complete, vars_sound, vars_complete}
use Rattle.il_parse.proofs.BodiesNamed.{AreLiterals}
use Rattle.il_parse.proofs.SameSignatures.{alike}
use Rattle.il_parse.proofs.MethodsNamed.{once_sound, once_complete, EntriesOnce, began, members_sound, members_complete}

-- a text gives a class no other kind than these
abbrev pub HasTextKind : WrittenClass → Type 0
HasTextKind c = ¬ (c.kind ≡ kind.Delegate)

base_sound : (s : Scope) (k : ClassKind) (b : Option WrittenType) (t : Option TExpr) → ¬ (k ≡ kind.Delegate) → base_named s k b ≡ Ok t → NamesBase s k b t
unfolding base_named
base_sound s kind.Plain None t of_text e = subst (NamesBase s kind.Plain None) (given (Some (plain 0)) t e) object_of_plain
base_sound s kind.Abstract None t of_text e = subst (NamesBase s kind.Abstract None) (given (Some (plain 0)) t e) object_of_abstract
base_sound s kind.Interface None t of_text e = subst (NamesBase s kind.Interface None) (given None t e) none_of_interface
base_sound s kind.Struct None t of_text e = subst (NamesBase s kind.Struct None) (given None t e) none_of_struct
base_sound s kind.Delegate None t of_text e = absurd (of_text refl)
base_sound s k (Some written) t of_text e =
    looked (type_named s written) _ t e (λ u e0 e1. subst (NamesBase s k (Some written)) (given (Some u) t e1) (written_base k written u (type_sound s written u e0)))

base_complete : (s : Scope) (k : ClassKind) (b : Option WrittenType) (t : Option TExpr) → NamesBase s k b t → base_named s k b ≡ Ok t
unfolding base_named
base_complete s k b t object_of_plain = refl
base_complete s k b t object_of_abstract = refl
base_complete s k b t none_of_struct = refl
base_complete s k b t none_of_interface = refl
base_complete s k b t (written_base k' written u is) = by_look (type_named s written) _ (Ok (Some u)) u (type_complete s written u is) refl

-- the numbers of the first class and of the first method behind those found
abbrev pub next_class : Gathered → ℕ
next_class g = length library_classes + length g.classes

abbrev pub next_method : Gathered → ℕ
next_method g = length library_methods + length g.methods

-- a class behind those found before, and its methods
pub record ClassNamed (known : Known) (g : Gathered) (c : WrittenClass) (def : ClassDef) (ds : List MethodDef) : Type 0 where
  pub is : NamesClass known (next_method g) c def
  pub fresh : is_among g.names (plain_name c.name.name) ≡ false
  pub named : Each (NamesMethod known (next_class g) (length c.vars)) (methods_of c.members) ds
  pub apart : Fresh alike [] ds
  pub once : EntriesOnce g.begun (methods_of c.members)

-- what is gathered with this class
abbrev pub gathered_with : Gathered → WrittenClass → ClassDef → List MethodDef → Gathered
gathered_with g c def ds = record {
  names = plain_name c.name.name ∷ g.names;
  classes = g.classes ++ def ∷ [];
  methods = g.methods ++ ds;
  begun = began g.begun (methods_of c.members);
}

pub record ClassFound (known : Known) (g : Gathered) (c : WrittenClass) (more : Gathered) : Type 0 where
  pub def : ClassDef
  pub own : List MethodDef
  pub gives : gathered_with g c def own ≡ more
  pub is : ClassNamed known g c def own

pub class_sound : (known : Known) (g : Gathered) (c : WrittenClass) (more : Gathered) → HasTextKind c → AreLiterals known.literals (flat_map texts_of_method (methods_of c.members)) →
    class_named known g c ≡ Ok more → ClassFound known g c more
unfolding class_named
class_sound known g c more of_text texts e =
    let s : Scope = scope_of known (length c.vars) 0 in
    let start : Found = record { fields = []; methods = []; begun = g.begun } in
    looked (once (is_among g.names (plain_name c.name.name)) c.name.at) _ more e (λ u e0 f0.
    looked (vars_named s c.vars) _ more f0 (λ vars e1 f1.
    looked (base_named s c.kind c.base) _ more f1 (λ base e2 f2.
    looked (types_named s c.interfaces) _ more f2 (λ interfaces e3 f3.
    looked (members_named known (length library_classes + length g.classes) (length c.vars) start c.members) _ more f3 (λ members e4 f4.
    let v = vars_sound s c.vars vars e1 in
    let m = members_sound known (length library_classes + length g.classes) (length c.vars) start c.members members texts e4 in
    let made : ClassDef = record {
      name = c.name.name;
      kind = c.kind;
      vars = vars;
      base = base;
      interfaces = interfaces;
      fields = members.fields;
      methods = numbers_from (length library_methods + length g.methods) members.methods;
    } in
    let count = each_numbers (NamesMethod known (next_class g) (length c.vars)) (next_method g) (methods_of c.members) m.own_methods m.named_methods in
    record {
      def = made;
      own = members.methods;
      gives = ap (λ (b : Bool). record { names = plain_name c.name.name ∷ g.names; classes = g.classes ++ made ∷ []; methods = g.methods ++ members.methods; begun = b }) (sym m.begun)
          ∙ given (with_class g c made members) more f4;
      is = record {
        is = record {
          name = refl;
          kind = refl;
          distinct_vars = v.distinct;
          vars = v.are;
          base = base_sound s c.kind c.base base of_text e2;
          interfaces = types_sound s c.interfaces interfaces e3;
          distinct_fields = fresh_distinct bytes_eq [] (map (λ f. f.name.name) (fields_of c.members)) m.fresh;
          fields = subst (Each (NamesField s) (fields_of c.members)) (sym m.fields) m.named_fields;
          methods = ap (λ ds. numbers_from (next_method g) ds) m.methods ∙ sym count;
        };
        fresh = once_sound (is_among g.names (plain_name c.name.name)) c.name.at u e0;
        named = subst (Each (NamesMethod known (next_class g) (length c.vars)) (methods_of c.members)) (sym m.methods) m.named_methods;
        apart = subst (Fresh alike []) (sym m.methods) m.apart;
        once = m.once;
      };
    })))))

pub class_complete : (known : Known) (g : Gathered) (c : WrittenClass) (def : ClassDef) (ds : List MethodDef) → IsDistinct bytes_eq known.literals →
    ClassNamed known g c def ds → class_named known g c ≡ Ok (gathered_with g c def ds)
unfolding class_named
class_complete known g c def ds one names =
    let s : Scope = scope_of known (length c.vars) 0 in
    let n = names.is in
    let whole : Gathered = gathered_with g c def ds in
    let start : Found = record { fields = []; methods = []; begun = g.begun } in
    let count = each_numbers (NamesMethod known (next_class g) (length c.vars)) (next_method g) (methods_of c.members) ds names.named in
    by_look (once (is_among g.names (plain_name c.name.name)) c.name.at) _ (Ok whole) tt (once_complete (is_among g.names (plain_name c.name.name)) c.name.at names.fresh)
    (by_look (vars_named s c.vars) _ (Ok whole) def.vars (vars_complete s c.vars def.vars n.distinct_vars n.vars)
    (by_look (base_named s c.kind c.base) _ (Ok whole) def.base (base_complete s c.kind c.base def.base n.base)
    (by_look (types_named s c.interfaces) _ (Ok whole) def.interfaces (types_complete s c.interfaces def.interfaces n.interfaces)
    (by_look (members_named known (length library_classes + length g.classes) (length c.vars) start c.members) _ (Ok whole)
    (record { fields = def.fields; methods = ds; begun = began g.begun (methods_of c.members) })
    (members_complete known (next_class g) (length c.vars) start c.members def.fields ds one n.fields
    (distinct_fresh bytes_eq (map (λ f. f.name.name) (fields_of c.members)) n.distinct_fields) names.named names.apart names.once)
    (ap (λ (d : ClassDef). Ok (gathered_with g c d ds))
    (ap (λ (x : List ℕ). record { name = x; kind = c.kind; vars = def.vars; base = def.base; interfaces = def.interfaces; fields = def.fields; methods = numbers_from (next_method g) ds }) (sym n.name)
    ∙ ap (λ (x : ClassKind). record { name = def.name; kind = x; vars = def.vars; base = def.base; interfaces = def.interfaces; fields = def.fields; methods = numbers_from (next_method g) ds }) (sym n.kind)
    ∙ ap (λ (x : List ℕ). record { name = def.name; kind = def.kind; vars = def.vars; base = def.base; interfaces = def.interfaces; fields = def.fields; methods = x }) (sym count ∙ sym n.methods)))))))
