use Rattle.std.proofs.Common.{◌≡◌, ◌∙◌, not, [], ◌∷◌, ◌++◌, map, sym, ap, subst, bytes_eq}
use Rattle.std.specs.Prelude.{OnOk}
use Rattle.std.specs.List.{list_any}
use Rattle.indexmap.specs.IndexSet.{insert_key}
use Rattle.il_model.specs.declared.class.FieldDef.{FieldDef}
use Rattle.il_model.specs.Lexemes.{is_among}
use Rattle.il_parse.specs.Looking.{Looks, once}
use Rattle.il_parse.proofs.KeyLemmas.{any_named, named_adds, not_new}
use Rattle.il_parse.proofs.member_lists.Fields.add.Goals as goal

pub returns-clause-looks : goal.returns-clause-looks
returns-clause-looks c =
    let met : not c.in_ok-is_new.is_new ≡ is_among (map (λ (g : FieldDef). g.name) c.args.self.now) c.args.field.name =
    not_new c.in_ok-is_new.is_new (list_any (λ k. bytes_eq c.args.field.name k.field.name) c.self.inside.known.keys) (c.in_ok-is_new.ensures {u = tt}).added
    ∙ any_named (λ k. k.field) (λ (g : FieldDef). g.name) c.self.inside.known.keys c.args.field.name
    ∙ ap (λ fs. is_among (map (λ (g : FieldDef). g.name) fs) c.args.field.name) c.self.view_is in
    subst (λ b. Looks (once b c.args.at) c.once.result) met c.once.ensures

pub returns-clause-adds : goal.returns-clause-adds
returns-clause-adds c =
    let met : not c.in_ok-is_new.is_new ≡ list_any (λ k. bytes_eq c.args.field.name k.field.name) c.self.inside.known.keys =
    not_new c.in_ok-is_new.is_new (list_any (λ k. bytes_eq c.args.field.name k.field.name) c.self.inside.known.keys) (c.in_ok-is_new.ensures {u = tt}).added in
    let adds = named_adds (λ k. k.field) (λ (g : FieldDef). g.name) c.self.inside.known.keys (record { field = c.args.field }) c.args.at c.once.result
    (subst (λ b. Looks (once b c.args.at) c.once.result) met c.once.ensures) in
    subst (λ ks. OnOk c.once.result (map (λ k. k.field) ks ≡ c.args.self.now ++ c.args.field ∷ [])) (sym (c.in_ok-is_new.ensures {u = tt}).keys)
    (subst (λ fs. OnOk c.once.result (map (λ k. k.field) (insert_key (λ a b. bytes_eq a.field.name b.field.name) c.self.inside.known.keys (record { field = c.args.field })) ≡ fs ++ c.args.field ∷ []))
    c.self.view_is adds)
