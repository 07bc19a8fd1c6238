use Rattle.std.proofs.Common.{◌≡◌, ◌∙◌, not, map, reverse, sym, subst, bytes_eq, ℕ, List, ◌∷◌}
use Rattle.std.specs.Prelude.{OnOk}
use Rattle.std.specs.List.{list_any}
use Rattle.indexmap.specs.IndexSet.{insert_key}
use Rattle.il_model.specs.Lexemes.{is_among}
use Rattle.il_parse.specs.Looking.{Looks, once}
use Rattle.il_parse.proofs.KeyLemmas.{met_before, met_adds, not_new}
use Rattle.il_parse.proofs.met.MetNames.meet_at.Goals as goal

pub returns-clause-looks : goal.returns-clause-looks
returns-clause-looks c =
    let name : c.in_ok-bytes.bytes.items ≡ c.args.name.now = (c.in_ok-bytes.ensures {u = tt}).items in
    let met : not c.in_ok-is_new.is_new ≡ is_among c.args.self.now c.args.name.now =
    not_new c.in_ok-is_new.is_new (list_any (λ k. bytes_eq c.in_ok-bytes.bytes.items k.items) c.self.inside.known.keys) (c.in_ok-is_new.ensures {u = tt}).added
    ∙ met_before (λ k. k.items) c.self.inside.known.keys c.in_ok-bytes.bytes.items ∙ (λ i. is_among (c.self.view_is i) (name i)) in
    subst (λ b. Looks (once b c.args.at) c.once.result) met c.once.ensures

pub returns-clause-adds : goal.returns-clause-adds
returns-clause-adds c =
    let name : c.in_ok-bytes.bytes.items ≡ c.args.name.now = (c.in_ok-bytes.ensures {u = tt}).items in
    let met : not c.in_ok-is_new.is_new ≡ list_any (λ k. bytes_eq c.in_ok-bytes.bytes.items k.items) c.self.inside.known.keys =
    not_new c.in_ok-is_new.is_new (list_any (λ k. bytes_eq c.in_ok-bytes.bytes.items k.items) c.self.inside.known.keys) (c.in_ok-is_new.ensures {u = tt}).added in
    let adds = met_adds (λ k. k.items) c.self.inside.known.keys c.in_ok-bytes.bytes c.args.at c.once.result (subst (λ b. Looks (once b c.args.at) c.once.result) met c.once.ensures) in
    subst (λ ks. OnOk c.once.result (reverse (map (λ k. k.items) ks) ≡ c.args.name.now ∷ c.args.self.now)) (sym (c.in_ok-is_new.ensures {u = tt}).keys)
    (subst (λ (p : List ℕ × List (List ℕ)). OnOk c.once.result (reverse (map (λ k. k.items) (insert_key (λ a b. bytes_eq a.items b.items) c.self.inside.known.keys c.in_ok-bytes.bytes)) ≡ p.0 ∷ p.1)) (λ i. (name i, c.self.view_is i)) adds)
