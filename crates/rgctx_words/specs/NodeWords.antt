-- Node words: a definition with up to three nodes as its arguments. This project's own.
use Rattle.std.specs.Prelude.{ℕ, ◌+◌, ◌-◌, ◌*◌, ◌/◌, ◌%◌, ◌^◌, ◌<◌, ◌==◌, nat_lt, Option, Some, None, if◌then◌else◌}
use Rattle.rgctx_words.specs.declared.node_word.NodeWord.{NodeWord}
use Rattle.rgctx_words.specs.declared.node_word.Definition.{Definition}
use Rattle.rgctx_words.specs.declared.node_word.Definition.TheVariants.{Int32, Int64, Bool, Vector, Image, Class, Method}

-- the word of a node
abbrev pub node_word : NodeWord → ℕ
node_word n = n.definition * 2 ^ 48 + n.first * 2 ^ 32 + n.second * 2 ^ 16 + n.third

-- what a word says, as a node's
abbrev pub node_read : ℕ → NodeWord
node_read word = record {
  definition = word / 2 ^ 48;
  first = word / 2 ^ 32 % 2 ^ 16;
  second = word / 2 ^ 16 % 2 ^ 16;
  third = word % 2 ^ 16;
}

-- the number that stands for a definition in a node word
abbrev pub number_of : Definition → ℕ
number_of Int32 = 1
number_of Int64 = 2
number_of Bool = 3
number_of Vector = 4
number_of Image = 15
number_of (Class number) = 16 + number
number_of (Method number) = 0x8000 + number

-- the class or method has a number that a node word can hold
abbrev pub IsNumbered : Definition → Type 0
IsNumbered Int32 = Unit {0}
IsNumbered Int64 = Unit {0}
IsNumbered Bool = Unit {0}
IsNumbered Vector = Unit {0}
IsNumbered Image = Unit {0}
IsNumbered (Class number) = 16 + number < 0x8000
IsNumbered (Method number) = number < 0x8000

-- the definition that a number below 16 stands for
abbrev pub below_classes : ℕ → Option Definition
below_classes n = if n == 1 then Some Int32 else (if n == 2 then Some Int64 else (if n == 3 then Some Bool else (if n == 4 then Some Vector else (if n == 15 then Some Image else None))))

-- the definition that a number stands for
abbrev pub definition_of : ℕ → Option Definition
definition_of n = if nat_lt n 16 then below_classes n else (if nat_lt n 0x8000 then Some (Class (n - 16)) else Some (Method (n - 0x8000)))
