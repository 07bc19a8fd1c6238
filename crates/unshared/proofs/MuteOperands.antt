-- Operands as the meaning takes them, against what they give.
use Rattle.std.proofs.Common.{ℕ, Bool, true, false, List, [], ◌∷◌, Ok, if◌then◌else◌, nat_lt, ◌==◌, refl}
use Rattle.interaction.specs.Process.{Stuck}
use Rattle.cil_meaning.specs.Words.{narrow}
use Rattle.cil_meaning.specs.Values.{Kind, Int32, Int64, Native, Reference, Struct, Value, Plain, Managed, same_kind, is_reference_word}
use Rattle.cil_meaning.specs.Naming.{strings_from}
use Rattle.cil_meaning.specs.Pieces.{one_word, as_word, as_reference, as_pointer, as_object}
use Rattle.cil_meaning.specs.LibraryCalls.{word_of_kind}
use Rattle.cil_meaning.specs.Arithmetic.{Narrow, at_width}
use Rattle.unshared.specs.Calculated.{width_of}
use Rattle.unshared.specs.Operands.{only, word_of, reference_of, word_in_kind, pointer_of, object_of}
use Rattle.unshared.specs.Silent.{where_so}
use Rattle.unshared.proofs.Muting.{Mute, mute_bind}

-- a test of a value
pub mute_test : {B : Type 0} (b : Bool) (x : B) → Mute (λ k. if b then k x else Stuck) (where_so b (Ok x))
mute_test true x = record { met = λ k. refl }
mute_test false x = record { met = λ k. refl }

pub mute_only : (words : List ℕ) → Mute (one_word words) (only words)
mute_only [] = record { met = λ k. refl }
mute_only (w ∷ []) = record { met = λ k. refl }
mute_only (w ∷ v ∷ ws) = record { met = λ k. refl }

pub mute_word : (v : Value) → Mute (λ k. as_word v (λ kind w. k (kind, w))) (word_of v)
unfolding word_of
mute_word (Plain kind []) = record { met = λ k. refl }
mute_word (Plain kind (w ∷ [])) = record { met = λ k. refl }
mute_word (Plain kind (w ∷ u ∷ ws)) = record { met = λ k. refl }
mute_word (Managed q) = record { met = λ k. refl }

pub mute_reference : (v : Value) → Mute (as_reference v) (reference_of v)
unfolding reference_of
mute_reference v = mute_bind (λ k. as_word v (λ kind w. k (kind, w))) (λ r k. if is_reference_word r.0 then k r.1 else Stuck) (word_of v) (λ r. where_so (is_reference_word r.0) (Ok r.1)) (mute_word v) (λ r. mute_test (is_reference_word r.0) r.1)

pub mute_kind : (kind : Kind) (v : Value) → Mute (word_of_kind kind v) (word_in_kind kind v)
unfolding word_in_kind
mute_kind kind v = mute_bind (λ k. as_word v (λ other w. k (other, w))) (λ r k. if same_kind kind r.0 then k r.1 else Stuck) (word_of v) (λ r. where_so (same_kind kind r.0) (Ok r.1)) (mute_word v) (λ r. mute_test (same_kind kind r.0) r.1)

pub mute_pointer : (v : Value) → Mute (as_pointer v) (pointer_of v)
unfolding pointer_of
mute_pointer (Plain kind words) = record { met = λ k. refl }
mute_pointer (Managed q) = record { met = λ k. refl }

pub mute_object : (w : ℕ) → Mute (λ k. as_object w (k w)) (object_of w)
unfolding object_of
mute_object w = mute_test (nat_lt w strings_from) w

pub mute_width : (kind : Kind) (w : ℕ) → Mute (at_width kind w) (width_of kind w)
unfolding width_of
mute_width Int32 w = mute_test (narrow w == w) Narrow
mute_width Int64 w = record { met = λ k. refl }
mute_width Native w = record { met = λ k. refl }
mute_width Reference w = record { met = λ k. refl }
mute_width Struct w = record { met = λ k. refl }
