-- Methods with their keys, compared by a test that computes, and what of them goes into a hash. This project's own.
use Rattle.std.specs.Prelude.{◌≡◌, ◌==◌, Bool, ◌&&◌, List, ◌++◌, flat_map}
use Rattle.std.proofs.Common.{ap, refl}
use Rattle.std.specs.Bool.{Decides}
use Rattle.std.specs.Cmp.Lexicographic.{pointwise}
use Rattle.std.specs.Hash as fed
use Rattle.std.specs.Hash.{HashWrites}
use Rattle.std.proofs.lemmas.Bool.Decides.{Decides-eqb, Decides-and, Decides-like}
use Rattle.std.proofs.lemmas.Slice.Eq.{slice_eq-Decides}
use Rattle.type_tree.proofs.SameLemmas.{is_same-Decides}
use Rattle.il_model.specs.declared.key.KeyPart.{KeyPart}
use Rattle.il_model.specs.declared.key.KeyPart.TheVariants as part
use Rattle.il_model.specs.declared.key.BodyRow.{BodyRow}
use Rattle.rgctx_template.specs.Fed.{tree_writes}
use Rattle.rgctx_template.specs.BodyRows.{same_part}
use Rattle.aot_image.specs.declared.decoding_picks.Pick.{Pick}

abbrev pub same_pick : Pick → Pick → Bool
same_pick a b = (a.method == b.method) && pointwise same_part a.parts b.parts

-- the method and the key of a body
abbrev pub pick_of : BodyRow → Pick
pick_of row = record { method = row.method; parts = row.key.parts }

abbrev pub part_writes : KeyPart → HashWrites
part_writes part.Ref = fed.u8 0
part_writes part.Any = fed.u8 1
part_writes (part.Exact t) = fed.u8 2 ++ tree_writes t

abbrev pub pick_writes : Pick → HashWrites
pick_writes p = fed.u16 p.method ++ flat_map part_writes p.parts

-- ---- the test is equality

pub same_part-Decides : (a b : KeyPart) → Decides (same_part a b) (a ≡ b)
same_part-Decides part.Ref part.Ref = ((λ e. refl), (λ e. refl))
same_part-Decides part.Any part.Any = ((λ e. refl), (λ e. refl))
same_part-Decides (part.Exact s) (part.Exact t) = Decides-like (same_part (part.Exact s) (part.Exact t)) (λ e. ap part.Exact e) (λ e. cc) (is_same-Decides s t)
same_part-Decides _ _ = ((λ e. cc), (λ e. cc))

same_parts-Decides : (a b : List KeyPart) → Decides (pointwise same_part a b) (a ≡ b)
same_parts-Decides a b = slice_eq-Decides same_part-Decides a b (pointwise same_part a b) refl

pub same_pick-Decides : (a b : Pick) → Decides (same_pick a b) (a ≡ b)
same_pick-Decides a b =
    Decides-like (same_pick a b) (λ p. λ k. record { method = p.0 k; parts = p.1 k }) (λ e. (ap (λ (x : Pick). x.method) e, ap (λ (x : Pick). x.parts) e))
    (Decides-and (a.method == b.method) (pointwise same_part a.parts b.parts) (Decides-eqb a.method b.method) (same_parts-Decides a.parts b.parts))
