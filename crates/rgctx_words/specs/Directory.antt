-- Directory words: for which node, and at which depth, a row is in use. This project's own.
use Rattle.std.specs.Prelude.{ℕ, ◌+◌, ◌*◌, ◌/◌, ◌%◌}
use Rattle.rgctx_words.specs.declared.directory.DirectoryWord.{DirectoryWord}

-- the directory word of a row
abbrev pub directory_word : DirectoryWord → ℕ
directory_word d = 256 * d.node + d.depth

-- what a word says, as a row's in the directory
abbrev pub directory_read : ℕ → DirectoryWord
directory_read word = record { node = word / 256; depth = word % 256 }
