mod EntryLemmas
mod CauseLemmas
