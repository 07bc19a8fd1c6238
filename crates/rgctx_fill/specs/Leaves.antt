-- The nodes with which each run begins. This project's own.
use Rattle.std.specs.Prelude.{ℕ, ◌≤◌, ◌<◌, List, [], ◌∷◌, slice_index, Option, Some, None}
use Rattle.il_model.specs.declared.method.MethodDef.{MethodDef}
use Rattle.il_model.specs.declared.program.Program.{Program}
use Rattle.il_model.specs.Found.{method_at}
use Rattle.rgctx_words.specs.declared.node_word.Definition.{Definition}
use Rattle.rgctx_words.specs.declared.node_word.Definition.TheVariants.{Int32, Int64, Bool, Image, Class, Method}
use Rattle.rgctx_words.specs.NodeWords.{node_word, number_of}

-- the node word of a definition with its first argument, 0 where it has none
abbrev pub word_with : Definition → ℕ → ℕ
word_with d first = node_word (record { definition = number_of d; first = first; second = 0; third = 0 })

abbrev pub word_alone : Definition → ℕ
word_alone d = word_with d 0

abbrev pub owner_in : Option MethodDef → ℕ
owner_in None = 0
owner_in (Some m) = m.owner

-- the class of the method with the entry point
abbrev pub main_class : Program → ℕ
main_class program = owner_in (method_at program program.main)

-- the last of the nodes with which each run begins
abbrev pub last_leaf : ℕ
last_leaf = 20

-- the words of the nodes from 2 on: int32, int64, bool, object, string, the classes of exceptions, Rt.IRun, Rt.Threads, the class of the entry point, Rt.Threads::Entry and the entry point
abbrev pub later_words : Program → List ℕ
later_words program =
    word_alone Int32 ∷ word_alone Int64 ∷ word_alone Bool ∷
    word_alone (Class 0) ∷ word_alone (Class 1) ∷
    word_alone (Class 2) ∷ word_alone (Class 3) ∷ word_alone (Class 4) ∷ word_alone (Class 5) ∷ word_alone (Class 6) ∷
    word_alone (Class 7) ∷ word_alone (Class 8) ∷ word_alone (Class 9) ∷ word_alone (Class 10) ∷
    word_alone (Class 11) ∷ word_alone (Class 12) ∷
    word_alone (Class (main_class program)) ∷
    word_with (Method 0) 17 ∷ word_with (Method program.main) 18 ∷ []

-- the words of the leaves, from node 1 on, which is the image
abbrev pub leaf_words : Program → List ℕ
leaf_words program = word_alone Image ∷ later_words program

-- the words with which each run begins: those of the leaves, and 0 elsewhere
abbrev pub opening : Program → ℕ → ℕ
opening program i = slice_index (0 ∷ leaf_words program) i

-- the node is one of those
abbrev pub IsLeaf : ℕ → Type 0
IsLeaf i = (0 < i) × (i ≤ last_leaf)
