-- Memory after words of the frames were copied. This project's own.
use Rattle.std.specs.Prelude.{ℕ, ◌+◌, ◌-◌, ◌/◌, ◌%◌, ◌&&◌, nat_lt, nat_le, Bool, if◌then◌else◌, List, length, slice_index, Option, Some, None}
use Rattle.rgctx_words.specs.Frames.{frame_index, header_count, place_words}
use Rattle.crossings.specs.Calls.{argument_word}

abbrev pub index_or_first : Option ℕ → ℕ
index_or_first (Some i) = i
index_or_first None = 0

-- the index of the frame word that begins at an address; 0 where none does
abbrev pub index_at : List ℕ → ℕ → ℕ
index_at words address = index_or_first (frame_index (length words) address)

-- other words, so many from an index on
abbrev pub copied : ℕ → ℕ → (ℕ → ℕ) → (ℕ → ℕ) → ℕ → ℕ
copied to count word mem k = if nat_le to k && nat_lt k (to + count) then word (k - to) else mem k

-- whether word k of a place's region is one of the first n arguments'
abbrev pub is_argument : List ℕ → ℕ → ℕ → Bool
is_argument widths n k = nat_lt (k / place_words) n && nat_lt (k % place_words) (slice_index widths (k / place_words))

-- the first n arguments in the places of the frame that begins at an index
abbrev pub with_arguments : ℕ → List ℕ → ℕ → List ℕ → ℕ → (ℕ → ℕ) → ℕ → ℕ
with_arguments base words list widths n mem k =
    if nat_le (base + header_count) k && is_argument widths n (k - (base + header_count))
    then argument_word words list ((k - (base + header_count)) / place_words) ((k - (base + header_count)) % place_words)
    else mem k
