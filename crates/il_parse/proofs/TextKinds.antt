-- The grammar gives a class no kind but those of a text.
use Rattle.std.proofs.Common.{◌≡◌, ℕ, List}
use Rattle.std.specs.List.{AllByRecursion}
use Rattle.il_model.specs.declared.class.ClassKind.{ClassKind}
use Rattle.il_model.specs.declared.class.ClassKind.TheVariants as kind
use Rattle.il_model.specs.declared.written.WrittenClass.{WrittenClass}
use Rattle.il_model.specs.Lexemes.{Lexeme, none, more}
use Rattle.il_model.specs.Words.{kind_words}
use Rattle.il_model.specs.Classes.{IsKind, plain, worded, IsClass, class, IsProgram}
use Rattle.il_parse.proofs.Finding.{all_contains}
use Rattle.il_parse.proofs.ClassNamed.{HasTextKind}

words_of_text : AllByRecursion (λ (row : List ℕ × ClassKind). ¬ (row.1 ≡ kind.Delegate)) kind_words
words_of_text = ((λ e. cc), ((λ e. cc), ((λ e. cc), tt)))

kind_of_text : (ws : List Lexeme) (k : ClassKind) → IsKind ws k → ¬ (k ≡ kind.Delegate)
kind_of_text ws k plain = λ e. cc
kind_of_text ws k (worded l k' among) = all_contains (λ (row : List ℕ × ClassKind). ¬ (row.1 ≡ kind.Delegate)) kind_words (l.bytes, k) words_of_text among

class_of_text : (ws : List Lexeme) (c : WrittenClass) → IsClass ws c → HasTextKind c
class_of_text ws c (class ws' kinds vars base interfaces members word name left right k vs b is ms split h1 of h2 h3 h4 h5 h6 h7 h8) = kind_of_text kinds k of

pub kinds_of_text : (ws : List Lexeme) (classes : List WrittenClass) → IsProgram ws classes → AllByRecursion HasTextKind classes
kinds_of_text ws classes none = tt
kinds_of_text ws classes (more ws' front back c cs split is rest) = (class_of_text front c is, kinds_of_text back cs rest)
