-- The frames of one thread in memory: their words, and where each frame begins. This project's own.
use Rattle.std.specs.Prelude.{◌≡◌, ◌≢◌, ℕ, ◌+◌, ◌-◌, ◌*◌, ◌<◌, ◌≤◌, List, [], ◌∷◌, ◌++◌, length, take, replicate, slice_index, slice_set, nat_lt, ◌==◌, if◌then◌else◌, Option, Some, None}
use Rattle.rgctx_words.specs.declared.frame.NewFrame.{NewFrame}
use Rattle.rgctx_words.specs.Frames.{frame_address, header_words, header_count, most_words, most_frames}

-- the words of all frames, and by level, from 0 for the first frame, at which word each begins
pub record StackWords : Type 0 where
  pub words : List ℕ
  pub bases : List ℕ

abbrev pub no_frames : StackWords
no_frames = record { words = []; bases = [] }

-- the words as memory has them: 0 past the end
abbrev pub mem_of : StackWords → ℕ → ℕ
mem_of s i = slice_index s.words i

abbrev pub base_of : StackWords → ℕ → ℕ
base_of s level = slice_index s.bases level

-- frames rise, each with room for its header, and none passes the limits
pub record IsStack (s : StackWords) : Type 0 where
  pub few : length s.bases ≤ most_frames
  pub low : (l : ℕ) → l < length s.bases → base_of s l ≤ most_words * l
  pub rising : (l m : ℕ) → l < m → m < length s.bases → base_of s l + header_count ≤ base_of s m
  pub inside : (l : ℕ) → l < length s.bases → base_of s l + header_count ≤ length s.words
  pub small : length s.words ≤ most_words * length s.bases

-- the address of the current frame, or 0 where there is none
abbrev pub current_address : StackWords → ℕ
current_address s = if length s.bases == 0 then 0 else frame_address (base_of s (length s.bases - 1))

-- the stack with another word at an index
abbrev pub with_word : StackWords → ℕ → ℕ → StackWords
with_word s i word = record { words = slice_set s.words i word; bases = s.bases }

-- the stack with a new frame on top: its header, then zeros
abbrev pub entered : StackWords → NewFrame → StackWords
entered s f = record {
  words = s.words ++ (header_words (current_address s) f ++ replicate (f.words - header_count) 0);
  bases = s.bases ++ length s.words ∷ [];
}

-- where the frame of a level ends
abbrev pub end_of : StackWords → ℕ → ℕ
end_of s level = if nat_lt (level + 1) (length s.bases) then base_of s (level + 1) else length s.words

-- the stack without the frames above a level
abbrev pub left_to : StackWords → ℕ → StackWords
left_to s level = record { words = take (end_of s level) s.words; bases = take (level + 1) s.bases }

-- the level of the frame that begins at an address; none where no frame does
abbrev pub IsLevelAt : StackWords → ℕ → Option ℕ → Type 0
IsLevelAt s address (Some level) = (level < length s.bases) × (frame_address (base_of s level) ≡ address)
IsLevelAt s address None = (level : ℕ) → level < length s.bases → frame_address (base_of s level) ≢ address
