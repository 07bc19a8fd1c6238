-- Lemmas on what a run of a written meaning shows.
use Rattle.std.proofs.Common.{◌≡◌, ℕ, suc, ◌<◌, List, [], ◌∷◌, ◌++◌, Option, Some, None, length, take, drop, get_or, drop-cons, append_assoc, refl, sym, ap, ◌∙◌}
use Rattle.std.proofs.lemmas.Grind.{flat_map-append}
use Rattle.std.proofs.lemmas.List.{take-append-drop}
use Rattle.type_tree.specs.declared.tree.TExpr.{TExpr}
use Rattle.il_model.specs.declared.program.Program.{Program}
use Rattle.interaction.specs.declared.history.Event.{Event}
use Rattle.interaction.specs.Process.{Naming}
use Rattle.store_object.specs.declared.reply.Reply.{Reply}
use Rattle.store_object.specs.declared.request.Request.{Request}
use Rattle.cil_meaning.specs.Naming.{Mention}
use Rattle.cil_meaning.specs.Shown.{printed_line, output_bytes}
use Rattle.run_top.specs.Written.{event_bytes, meant_output}

module _ (p : Program) (n : Naming Mention TExpr) where
  -- the output up to an event, what it prints, and the rest
  pub meant_at : (h : List (Event Request Reply)) (i : ℕ) (d : Event Request Reply) → i < length h →
      meant_output p n h ≡ (meant_output p n (take i h) ++ event_bytes p n (get_or h i d).request) ++ meant_output p n (drop (suc i) h)
  meant_at h i d l =
      ap (meant_output p n) (sym (take-append-drop i h)) ∙ flat_map-append (λ (e : Event Request Reply). event_bytes p n e.request) (take i h) (drop i h)
      ∙ ap (λ r. meant_output p n (take i h) ++ meant_output p n r) (drop-cons h i d l)
      ∙ sym (append_assoc (meant_output p n (take i h)) (event_bytes p n (get_or h i d).request) (meant_output p n (drop (suc i) h)))

  -- the lines in order are what each event prints
  pub output_is : (h : List (Event Request Reply)) → output_bytes p n h ≡ meant_output p n h
  output_is [] = refl
  output_is (e ∷ h) = by_line (output_is h) (printed_line p n e.request) refl
    where
      by_line : output_bytes p n h ≡ meant_output p n h → (o : Option (List ℕ)) → printed_line p n e.request ≡ o → output_bytes p n (e ∷ h) ≡ meant_output p n (e ∷ h)
      by_line rest None is = rw is rest
      by_line rest (Some text) is = rw is (ap (λ z. (text ++ 10 ∷ []) ++ z) rest)
