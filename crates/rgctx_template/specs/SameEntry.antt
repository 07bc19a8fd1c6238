-- The test of equality of entries answers true exactly for equal entries, as the laws of their keys say. This project's own.
use Rattle.std.proofs.Common.{◌≡◌, ◌==◌, ◌&&◌, List, ap, refl}
use Rattle.std.specs.Bool.{Decides}
use Rattle.std.specs.Cmp.Lexicographic.{pointwise}
use Rattle.std.proofs.lemmas.Bool.Decides.{Decides-eqb, Decides-and, Decides-like}
use Rattle.std.proofs.lemmas.Slice.Eq.{slice_eq-Decides}
use Rattle.type_tree.specs.declared.tree.TExpr.{TExpr}
use Rattle.type_tree.specs.Same.{is_same}
use Rattle.type_tree.proofs.SameLemmas.{is_same-Decides}
use Rattle.il_model.specs.declared.entry.Entry.{Entry}
use Rattle.il_model.specs.declared.entry.Entry.TheVariants as entry
use Rattle.il_model.specs.Entries.{same_entry}

same_types-Decides : (ss ts : List TExpr) → Decides (pointwise is_same ss ts) (ss ≡ ts)
same_types-Decides ss ts = slice_eq-Decides is_same-Decides ss ts (pointwise is_same ss ts) refl

pub same_entry-Decides : (a b : Entry) → Decides (same_entry a b) (a ≡ b)
same_entry-Decides (entry.Kind s) (entry.Kind t) = Decides-like (same_entry (entry.Kind s) (entry.Kind t)) (λ e. ap entry.Kind e) (λ e. cc) (is_same-Decides s t)
same_entry-Decides (entry.Method m c ss) (entry.Method n d ts) =
    Decides-like (same_entry (entry.Method m c ss) (entry.Method n d ts)) (λ p. cc) (λ e. ((cc, cc), cc))
    (Decides-and ((m == n) && is_same c d) (pointwise is_same ss ts) (Decides-and (m == n) (is_same c d) (Decides-eqb m n) (is_same-Decides c d)) (same_types-Decides ss ts))
same_entry-Decides (entry.Size s) (entry.Size t) = Decides-like (same_entry (entry.Size s) (entry.Size t)) (λ e. ap entry.Size e) (λ e. cc) (is_same-Decides s t)
same_entry-Decides (entry.Extent s) (entry.Extent t) = Decides-like (same_entry (entry.Extent s) (entry.Extent t)) (λ e. ap entry.Extent e) (λ e. cc) (is_same-Decides s t)
same_entry-Decides (entry.Offset s m) (entry.Offset t n) =
    Decides-like (same_entry (entry.Offset s m) (entry.Offset t n)) (λ p. cc) (λ e. (cc, cc)) (Decides-and (is_same s t) (m == n) (is_same-Decides s t) (Decides-eqb m n))
same_entry-Decides (entry.Slot m) (entry.Slot n) = Decides-like (same_entry (entry.Slot m) (entry.Slot n)) (λ e. ap entry.Slot e) (λ e. cc) (Decides-eqb m n)
same_entry-Decides _ _ = ((λ e. cc), (λ e. cc))
