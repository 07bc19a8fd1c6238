-- A whole instruction, with the entries that it settles first, against what it comes to.
use Rattle.std.proofs.Common.{◌≡◌, ℕ, List, [], ◌∷◌, ◌++◌, Option, Some, None, refl, ap, append_assoc, append-nil}
use Rattle.type_tree.specs.declared.tree.TExpr.{TExpr}
use Rattle.il_model.specs.declared.program.Program.{Program}
use Rattle.il_model.specs.declared.entry.Entry.{Entry}
use Rattle.il_model.specs.declared.layout.Limit.{Limit}
use Rattle.il_model.specs.declared.layout.MethodTree.{MethodTree}
use Rattle.il_model.specs.declared.method.MethodDef.{MethodDef}
use Rattle.il_model.specs.declared.op.Op.{Op}
use Rattle.il_model.specs.Entries.{entries_of}
use Rattle.il_model.specs.Methods.{limit_of_entry}
use Rattle.interaction.specs.Process.{Naming, Settle}
use Rattle.store_object.specs.declared.reply.Reply.{Reply}
use Rattle.cil_meaning.specs.Groups.{Group, OnStack, OnPlaces, OnNumbers, OnBranches, OnCalls, OnMembers, OnArrays, OnBoxes, OnThrow, OnLibrary, Excluded, group_of}
use Rattle.cil_meaning.specs.Meaning as meant
use Rattle.cil_meaning.specs.Mentions.{cause_of, within, settles, settles_all}
use Rattle.cil_meaning.specs.Naming.{Mention, OfEntry, put_entry, type_of_entry}
use Rattle.cil_meaning.specs.Replies.{Left}
use Rattle.cil_meaning.specs.Site.{Site}
use Rattle.type_inst.specs.Opening.{Extends}
use Rattle.unshared.specs.declared.frames.Frames.{Frames as FramesHere}
use Rattle.unshared.specs.Acted as acted
use Rattle.unshared.specs.Held.{stack_of, site_of}
use Rattle.unshared.specs.Listed.{value_in, naming_of}
use Rattle.unshared.specs.Settled.{stays_within, entry_number, settles_entry, settles_from}
use Rattle.unshared.specs.Silent.{named}
use Rattle.unshared.specs.Talk.{◌>>=◌, pure, said, say}
use Rattle.unshared.specs.Turns.{answered}
use Rattle.unshared.proofs.Doing.{Does, does_bind, does_stuck}
use Rattle.unshared.proofs.DoesArrays.{does_arrays}
use Rattle.unshared.proofs.DoesBoxes.{does_boxes_all, does_throws}
use Rattle.unshared.proofs.DoesCalls.{does_call_forms}
use Rattle.unshared.proofs.DoesForms.{does_numbers, does_branches, does_places}
use Rattle.unshared.proofs.DoesLibrary.{does_library}
use Rattle.unshared.proofs.DoesMembers.{does_members}
use Rattle.unshared.proofs.DoesStack.{does_stacks}
use Rattle.unshared.proofs.TiedAsks.{tied_stop}
use Rattle.unshared.proofs.TiedExacts.{settled}
use Rattle.unshared.proofs.TiedMemory.{tied_as}
use Rattle.unshared.proofs.Tying.{Met, Tied, tied_bind, tied_pure}

-- Entries. ---------------------------------------------------------------------

pub tied_within : (n : Naming Mention TExpr) (o : Option Limit) → Tied n (λ (k : Unit {0} → Left). within o (k tt)) (stays_within o)
tied_within n None = tied_pure n tt
tied_within n (Some l) = tied_stop n (cause_of l)

module _ (later : List TExpr) (p : Program) where
  -- what is mentioned has the number of this type, or is no type
  mention_meets : (m : Mention) (o : Option ℕ) → (naming_of later).value_of m ≡ o → (ys : List Reply) (k : ℕ → Left) → Met (naming_of later) (answered (naming_of later) ys (Settle m k)) k (said (named o) ys)
  mention_meets m None e ys k = tt
  mention_meets m (Some v) e ys k = settled (naming_of later) ys m v k e

  pub tied_mention : (m : Mention) (o : Option ℕ) → (naming_of later).value_of m ≡ o → Tied (naming_of later) (Settle m) (say (named o))
  tied_mention m o e = record { meets = mention_meets m o e }

  tied_entry : (m : MethodTree) (e : Entry) → Tied (naming_of later) (settles p m e) (settles_entry p later m e)
  unfolding settles_entry
  tied_entry m e =
      tied_bind (naming_of later) (λ (k : Unit {0} → Left). within (limit_of_entry p (put_entry m e)) (k tt)) (λ u k. Settle (OfEntry m e) k) (stays_within (limit_of_entry p (put_entry m e))) (λ u. say (entry_number later (put_entry m e)))
      (tied_within (naming_of later) (limit_of_entry p (put_entry m e))) (λ u. tied_mention (OfEntry m e) (value_in later (type_of_entry (put_entry m e))) refl)

  tied_entries : (m : MethodTree) (es : List Entry) (found : List ℕ) → Tied (naming_of later) (λ k. settles_all p m es (λ vs. k (found ++ vs))) (settles_from p later m es found)
  unfolding settles_from
  tied_entries m [] found = tied_as (naming_of later) (λ k. k (found ++ [])) (λ k. k found) (pure found) (λ k. ap k (append-nil found)) (tied_pure (naming_of later) found)
  tied_entries m (e ∷ es) found =
      tied_as (naming_of later) (λ k. settles_all p m (e ∷ es) (λ vs. k (found ++ vs))) (λ k. settles p m e (λ v. settles_all p m es (λ vs. k ((found ++ v ∷ []) ++ vs)))) (settles_from p later m (e ∷ es) found) (λ k. simp append_assoc)
      (tied_bind (naming_of later) (settles p m e) (λ v k. settles_all p m es (λ vs. k ((found ++ v ∷ []) ++ vs))) (settles_entry p later m e) (λ v. settles_from p later m es (found ++ v ∷ [])) (tied_entry m e)
      (λ v. tied_entries m es (found ++ v ∷ [])))

  -- The instruction. ------------------------------------------------------------

  module _ (kinds : List TExpr) (ext : Extends kinds later) (d : MethodDef) (f : FramesHere) where
    abbrev s : Site
    s = site_of d f

    does_group : (numbers : List ℕ) (g : Group) → Does (naming_of later) p s (meant.does p s numbers (stack_of f) g) (acted.does p kinds d numbers g f)
    does_group numbers (OnStack form) = does_stacks (naming_of later) p d f form
    does_group numbers (OnPlaces form) = does_places (naming_of later) p d f form
    does_group numbers (OnNumbers form) = does_numbers (naming_of later) p d f form
    does_group numbers (OnBranches form) = does_branches (naming_of later) p d f form
    does_group numbers (OnCalls form) = does_call_forms kinds later ext p d f numbers form
    does_group numbers (OnMembers form) = does_members (naming_of later) p d f numbers form
    does_group numbers (OnArrays form) = does_arrays kinds later ext p d f numbers form
    does_group numbers (OnBoxes form) = does_boxes_all kinds later ext p d f numbers form
    does_group numbers OnThrow = does_throws kinds later ext p d f
    does_group numbers (OnLibrary form) = does_library kinds later ext p d f numbers form
    does_group numbers Excluded = does_stuck (naming_of later) p s

    pub does_instruction : (o : Op) → Does (naming_of later) p s (meant.begins p s o) (settles_from p later f.top.method (entries_of p o) [] >>= (λ numbers. acted.does p kinds d numbers (group_of o) f))
    does_instruction o = does_bind (naming_of later) p s (settles_all p f.top.method (entries_of p o)) (λ numbers. meant.does p s numbers (stack_of f) (group_of o)) (settles_from p later f.top.method (entries_of p o) []) _
        (tied_entries f.top.method (entries_of p o) []) (λ numbers. does_group numbers (group_of o))
