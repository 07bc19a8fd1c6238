-- An instruction as the meaning has it, against what the code has done at each of its ends.
use Rattle.std.proofs.Common.{◌≡◌, ◌∙◌, ℕ, List, [], Result, Ok, Err, refl, sym, ap, subst}
use Rattle.std.specs.Result.{IsErr, IsErrAnd}
use Rattle.type_tree.specs.declared.tree.TExpr.{TExpr}
use Rattle.il_model.specs.declared.program.Program.{Program}
use Rattle.il_model.specs.declared.method.MethodDef.{MethodDef}
use Rattle.il_model.specs.declared.op.Op.{Op}
use Rattle.il_model.specs.Entries.{entries_of}
use Rattle.il_model.specs.Found.{method_at}
use Rattle.interaction.specs.Process.{Naming}
use Rattle.store_object.specs.declared.reply.Reply.{Reply}
use Rattle.cil_meaning.specs.Frames.{Frames}
use Rattle.cil_meaning.specs.Groups.{group_of}
use Rattle.cil_meaning.specs.Meaning.{meaning, begins}
use Rattle.cil_meaning.specs.Naming.{Mention}
use Rattle.cil_meaning.specs.Pieces.{given}
use Rattle.cil_meaning.specs.Replies.{Left}
use Rattle.cil_meaning.specs.Search.{Thrown, searches, raises}
use Rattle.cil_meaning.specs.Site.{op_at}
use Rattle.type_inst.specs.Opening.{Extends}
use Rattle.type_inst.proofs.OpeningLemmas.{extends_both}
use Rattle.unshared.specs.declared.frames.Frames.{Frames as FramesHere}
use Rattle.unshared.specs.declared.pause.Pause.{Pause}
use Rattle.unshared.specs.declared.pause.Pause.TheVariants as pause
use Rattle.unshared.specs.Acted as acted
use Rattle.unshared.specs.Acts.{Halts, Ends}
use Rattle.unshared.specs.Going.{Did, Goes, Throws, Raises}
use Rattle.unshared.specs.Growing.{Grows}
use Rattle.unshared.specs.Held.{the_frames, site_of}
use Rattle.unshared.specs.Listed.{naming_of}
use Rattle.unshared.specs.Searched.{Tells, searched, raised}
use Rattle.unshared.specs.Settled.{settles_from}
use Rattle.unshared.specs.Silent.{Gives}
use Rattle.unshared.specs.Starting.{op_here}
use Rattle.unshared.specs.Talk.{Came, Talk, Talks, and_then, said}
use Rattle.unshared.specs.Turns.{answered}
use Rattle.unshared.proofs.Doing.{finish}
use Rattle.unshared.proofs.DoesAll.{does_instruction}
use Rattle.unshared.proofs.Muting.{SilentMet, Mute, mute_bind, mute_there}
use Rattle.unshared.proofs.SearchLaws.{told, searched_meets, raised_meets}
use Rattle.unshared.proofs.Tying.{Met, tied_say}

mute_op : (p : Program) (f : FramesHere) → Mute (λ k. given (method_at p f.top.method.method) (λ d. given (op_at d f.top.at) (λ o. k (d, o)))) (op_here p f)
unfolding op_here
mute_op p f =
    mute_bind (given (method_at p f.top.method.method)) (λ d k. given (op_at d f.top.at) (λ o. k (d, o))) _ _ (mute_there (method_at p f.top.method.method))
    (λ d. mute_bind (given (op_at d f.top.at)) (λ o k. k (d, o)) _ _ (mute_there (op_at d f.top.at)) (λ o. record { met = λ k. refl }))

-- the instruction is there
opened : (p : Program) (f : FramesHere) (d : MethodDef) (o : Op) → op_here p f ≡ Ok (d, o) → meaning p (the_frames f) ≡ begins p (site_of d f) o
opened p f d o e = subst (λ r. SilentMet (λ (k : MethodDef × Op → Left). given (method_at p f.top.method.method) (λ d. given (op_at d f.top.at) (λ o. k (d, o)))) r) e (mute_op p f).met (λ r. begins p (site_of r.0 f) r.1)

-- what is left is the same after replies that were used
pub ends_after : (n : Naming Mention TExpr) (ys mid zs : List Reply) (q r : Left) (frames : Frames) (result : Result (Unit {0}) Pause) → answered n ys q ≡ answered n mid r → Ends n mid zs r frames result → Ends n ys zs q frames result
ends_after n ys mid zs q r frames (Ok u) e ends = e ∙ ends
ends_after n ys mid zs q r frames (Err (pause.Halts h)) e ends = subst (λ z. Halts z h) (sym e) ends
ends_after n ys mid zs q r frames (Err pause.NoMemory) e ends = tt

-- a pause that is handed on
pub handed_end : (n : Naming Mention TExpr) (ys zs : List Reply) (q : Left) (frames : Frames) (result : Result (Unit {0}) Pause) (x : Pause) → IsErr result × IsErrAnd result (λ e. e ≡ x) → Ends n ys zs q frames (Err x) → Ends n ys zs q frames result
handed_end n ys zs q frames (Ok u) x h ends = absurd h.1
handed_end n ys zs q frames (Err y) x h ends = subst (λ e. Ends n ys zs q frames (Err e)) (sym h.1) ends

-- types that got numbers before the end keep them; want of memory says nothing
pub grown_end : (later before after : List TExpr) (ys zs : List Reply) (q : Left) (frames : Frames) (result : Result (Unit {0}) Pause) → Grows before after result → Extends after later → (Extends before later → Ends (naming_of later) ys zs q frames result) → Ends (naming_of later) ys zs q frames result
grown_end later before after ys zs q frames (Ok u) grown ext ends = ends (extends_both before after later grown.extends ext)
grown_end later before after ys zs q frames (Err (pause.Halts h)) grown ext ends = ends (extends_both before after later grown.extends ext)
grown_end later before after ys zs q frames (Err pause.NoMemory) grown ext ends = tt

module _ (later : List TExpr) (p : Program) (f : FramesHere) where
  abbrev n : Naming Mention TExpr
  n = naming_of later

  -- there is no instruction
  pub ends_unopened : {A : Type 0} (see : A → MethodDef × Op) (ys zs : List Reply) (frames : Frames) (e : Pause) → Gives see (op_here p f) (Err e) → Ends n ys zs (meaning p (the_frames f)) frames (Err e)
  ends_unopened see ys zs frames (pause.Halts h) is =
      subst (λ r. Met n (answered n ys (meaning p (the_frames f))) (λ (r : MethodDef × Op). begins p (site_of r.0 f) r.1) (said r ys)) is
      ((tied_say n _ _ (mute_op p f)).meets ys (λ r. begins p (site_of r.0 f) r.1))
  ends_unopened see ys zs frames pause.NoMemory is = tt

  module _ (kinds : List TExpr) (ext : Extends kinds later) (d : MethodDef) (o : Op) (there_is : op_here p f ≡ Ok (d, o)) (ys : List Reply) where
    abbrev doing : List ℕ → Talk Did
    doing numbers = acted.does p kinds d numbers (group_of o) f

    meets : (came : Came Did) → and_then (settles_from p later f.top.method (entries_of p o) [] ys) doing ≡ came → Met n (answered n ys (meaning p (the_frames f))) (finish p (site_of d f)) came
    meets came e = subst (λ c. Met n (answered n ys (meaning p (the_frames f))) (finish p (site_of d f)) c) e
        (subst (λ z. Met n (answered n ys z) (finish p (site_of d f)) (and_then (settles_from p later f.top.method (entries_of p o) [] ys) doing)) (sym (opened p f d o there_is)) ((does_instruction later p kinds ext d f o).meets ys))

    pub ends_settling : {A : Type 0} (see : A → List ℕ) (mid zs : List Reply) (frames : Frames) (e : Pause) → Talks see (settles_from p later f.top.method (entries_of p o) [] ys) (Err e) mid → Ends n ys zs (meaning p (the_frames f)) frames (Err e)
    ends_settling see mid zs frames (pause.Halts h) is = meets (Err h) (ap (λ c. and_then c doing) is)
    ends_settling see mid zs frames pause.NoMemory is = tt

    module _ (numbers : List ℕ) (mid : List Reply) (settled : settles_from p later f.top.method (entries_of p o) [] ys ≡ Ok (numbers, mid)) where
      pub ends_doing : {A : Type 0} (see : A → Did) (us zs : List Reply) (frames : Frames) (e : Pause) → Talks see (doing numbers mid) (Err e) us → Ends n ys zs (meaning p (the_frames f)) frames (Err e)
      ends_doing see us zs frames (pause.Halts h) is = meets (Err h) (ap (λ c. and_then c doing) settled ∙ is)
      ends_doing see us zs frames pause.NoMemory is = tt

      comes_to : (x : Did) (zs : List Reply) → doing numbers mid ≡ Ok (x, zs) → answered n ys (meaning p (the_frames f)) ≡ answered n zs (finish p (site_of d f) x)
      comes_to x zs is = meets (Ok (x, zs)) (ap (λ c. and_then c doing) settled ∙ is)

      pub ends_going : (frames : Frames) (zs : List Reply) → doing numbers mid ≡ Ok (Goes frames, zs) → Ends n ys zs (meaning p (the_frames f)) frames (Ok tt)
      ends_going frames zs is = comes_to (Goes frames) zs is

      pub ends_throwing : (class : ℕ) (us zs : List Reply) (frames : Frames) (result : Result (Unit {0}) Pause) → doing numbers mid ≡ Ok (Throws class, us) → Tells (λ (u : Unit {0}). frames) (raised p later class (the_frames f) us) result zs → Ends n ys zs (meaning p (the_frames f)) frames result
      ends_throwing class us zs frames result is tells = ends_after n ys us zs (meaning p (the_frames f)) (raises p class (the_frames f)) frames result (comes_to (Throws class) us is)
          (told later p (raises p class (the_frames f)) frames _ us zs result (raised_meets later p class (the_frames f) us) tells)

      pub ends_raising : (x : Thrown) (us zs : List Reply) (frames : Frames) (result : Result (Unit {0}) Pause) → doing numbers mid ≡ Ok (Raises x, us) → Tells (λ (u : Unit {0}). frames) (searched p later x (the_frames f).frames (the_frames f).places us) result zs → Ends n ys zs (meaning p (the_frames f)) frames result
      ends_raising x us zs frames result is tells = ends_after n ys us zs (meaning p (the_frames f)) (searches p x (the_frames f).frames (the_frames f).places) frames result (comes_to (Raises x) us is)
          (told later p (searches p x (the_frames f).frames (the_frames f).places) frames _ us zs result (searched_meets later p x (the_frames f).frames (the_frames f).places us) tells)
