-- Namings: what stands for what while a program runs. This project's own.
use Rattle.std.specs.Prelude.{◌≡◌, ℕ, ◌+◌, ◌^◌, ◌<◌, Option, Some, None}
use Rattle.type_tree.specs.declared.tree.TExpr.{TExpr}
use Rattle.type_tree.specs.Substitution.{substituted}
use Rattle.il_model.specs.declared.entry.Entry.{Entry}
use Rattle.il_model.specs.declared.entry.Entry.TheVariants as entry
use Rattle.il_model.specs.declared.layout.MethodTree.{MethodTree}
use Rattle.il_model.specs.Entries.{arguments_of, closed_entry}
use Rattle.il_model.specs.Library.{plain}
use Rattle.interaction.specs.Process.{Naming}

-- What is mentioned: an entry that an instruction of an instantiated method names, over the variables of its definition; one that a
-- clause names; the method in a slot of an exact class; and a class of exceptions that an instruction throws, by its number.
pub data Mention : Type 0 where
  OfEntry : MethodTree → Entry → Mention
  OfClause : MethodTree → Entry → Mention
  OfSlot : TExpr → ℕ → Mention
  OfFault : ℕ → Mention

-- a type over the variables of an instantiated method's definition, with its arguments put
abbrev pub put_type : MethodTree → TExpr → TExpr
put_type m t = substituted (arguments_of m.class) m.args t

abbrev pub put_entry : MethodTree → Entry → Entry
put_entry m e = closed_entry (arguments_of m.class) m.args e

-- the type whose number an entry is, if it is a type's
abbrev pub type_of_entry : Entry → Option TExpr
type_of_entry (entry.Kind t) = Some t
type_of_entry (entry.Method number class args) = None
type_of_entry (entry.Size t) = None
type_of_entry (entry.Extent t) = None
type_of_entry (entry.Offset t place) = None
type_of_entry (entry.Slot number) = None

-- the type whose number a mention has
abbrev pub type_of_mention : Mention → Option TExpr
type_of_mention (OfEntry m e) = type_of_entry (put_entry m e)
type_of_mention (OfClause m e) = type_of_entry (put_entry m e)
type_of_mention (OfSlot t number) = None
type_of_mention (OfFault class) = Some (plain class)

-- A naming: a finite map from numbers of 32 bits to types, in which different numbers have different types; and the mention of a
-- type has that type's number. What number stands for a method, a size or an offset is left open: the process looks at none.
pub record IsNaming (n : Naming Mention TExpr) : Type 0 where
  pub distinct : (i j : ℕ) (t : TExpr) → n.tree_at i ≡ Some t → n.tree_at j ≡ Some t → i ≡ j
  pub small : (i : ℕ) (t : TExpr) → n.tree_at i ≡ Some t → i < 2 ^ 32
  pub rightly : (m : Mention) (i : ℕ) (t : TExpr) → n.value_of m ≡ Some i → type_of_mention m ≡ Some t → n.tree_at i ≡ Some t

-- String words: a literal by its number, and the printed name of a type by that type's. Objects' numbers lie below both.
abbrev pub strings_from : ℕ
strings_from = 2 ^ 32

abbrev pub names_from : ℕ
names_from = 2 ^ 33

abbrev pub literal_word : ℕ → ℕ
literal_word number = strings_from + number

abbrev pub name_word : ℕ → ℕ
name_word number = names_from + number
