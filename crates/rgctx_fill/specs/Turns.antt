-- One turn of a fill, by what it is answered. This project's own.
use Rattle.std.specs.Prelude.{ℕ, ◌+◌, ◌^◌, ◌≤◌, ◌<◌, ◌==◌, ◌||◌, nat_lt, List, [], ◌∷◌, ◌++◌, length, slice_get, slice_index, Option, Some, None, if◌then◌else◌}
use Rattle.rgctx_words.specs.Regions.{node_count, row_count, directory_index, root_index, row_index, row_address, row_at}
use Rattle.rgctx_words.specs.Places.{depth_of, slot_of}
use Rattle.rgctx_words.specs.Directory.{directory_word}
use Rattle.rgctx_words.specs.NodeWords.{node_word}
use Rattle.rgctx_fill.specs.declared.stage.NodeStep.{NodeStep}
use Rattle.rgctx_fill.specs.declared.stage.Stage.{Stage}
use Rattle.rgctx_fill.specs.declared.stage.Stage.TheVariants as stage
use Rattle.rgctx_fill.specs.declared.stage.Region.TheVariants as region
use Rattle.rgctx_fill.specs.declared.stage.FillNext.{FillNext}
use Rattle.rgctx_fill.specs.declared.stage.FillNext.TheVariants as next
use Rattle.rgctx_fill.specs.declared.stage.FillStep.{FillStep}
use Rattle.rgctx_fill.specs.declared.stage.FillStep.TheVariants as step

-- a fill under way: the node and the entry that it fills; the nodes that the value needs, in order, and the numbers of those that are found; what is added to the number of the last to give the value; and where it stands
pub record FillData : Type 0 where
  pub node : ℕ
  pub entry : ℕ
  pub base : ℕ
  pub steps : List NodeStep
  pub found : List ℕ
  pub stage : Stage

-- a fill stands within its lists, its rows and its depths
abbrev pub IsAt : FillData → Stage → Type 0
IsAt f (stage.Node place) = (place ≤ node_count) × (length f.found < length f.steps)
IsAt f (stage.NodeClaim place) = (place < node_count) × (length f.found < length f.steps)
IsAt f (stage.Link depth row) = (depth ≤ depth_of f.entry) × (row < row_count)
IsAt f (stage.Row depth row place) = (depth ≤ depth_of f.entry) × (row < row_count) × (place ≤ row_count)
IsAt f (stage.RowClaim depth row place) = (depth ≤ depth_of f.entry) × (row < row_count) × (place < row_count)
IsAt f (stage.Tie depth row found) = (depth ≤ depth_of f.entry) × (row < row_count) × (found < row_count)
IsAt f (stage.Entry row) = row < row_count
IsAt f (stage.Done value) = Unit {0}

pub record IsFill (f : FillData) : Type 0 where
  pub number : (0 < f.node) × (f.node < node_count)
  pub depths : depth_of f.entry < 256
  pub small : f.base < 2 ^ 63
  pub stands : IsAt f f.stage

-- the next turn has a place to scan
abbrev pub HasPlace : Stage → Type 0
HasPlace (stage.Node place) = place < node_count
HasPlace (stage.NodeClaim place) = Unit {0}
HasPlace (stage.Link depth row) = Unit {0}
HasPlace (stage.Row depth row place) = place < row_count
HasPlace (stage.RowClaim depth row place) = Unit {0}
HasPlace (stage.Tie depth row found) = Unit {0}
HasPlace (stage.Entry row) = Unit {0}
HasPlace (stage.Done value) = Unit {0}

-- ---- what is looked for

-- the number of the node found for a place, counted from 1; 0 for none
abbrev pub node_for : List ℕ → ℕ → ℕ
node_for found place = slice_index (0 ∷ found) place

abbrev pub word_for : List ℕ → Option NodeStep → ℕ
word_for found None = 0
word_for found (Some s) = node_word (record {
  definition = s.definition;
  first = node_for found s.first;
  second = node_for found s.second;
  third = node_for found s.third;
})

-- the word of the next node
abbrev pub node_key : FillData → ℕ
node_key f = word_for f.found (slice_get f.steps (length f.found))

-- the directory word of the node's row of a depth
abbrev pub row_key : FillData → ℕ → ℕ
row_key f depth = directory_word (record { node = f.node; depth = depth })

-- where the address of the row of a depth stands: at the root, or at the link of the row before it
abbrev pub link_index : FillData → ℕ → ℕ → ℕ
link_index f depth row = if depth == 0 then root_index f.node else row_index row 0

-- the value: that of the last node that was found, or the base alone
abbrev pub value_of : FillData → ℕ
value_of f = f.base + node_for f.found (length f.found)

-- ---- the next turn

-- a list is scanned up to its end, where it is full
abbrev pub scanned : ℕ → ℕ → FillNext → FillNext → FillNext
scanned place end here full = if nat_lt place end then here else full

abbrev pub next_at : FillData → Stage → FillNext
next_at f (stage.Node place) = scanned place node_count (next.Load place) (next.Full region.Nodes (node_key f))
next_at f (stage.NodeClaim place) = next.Claim place (node_key f)
next_at f (stage.Link depth row) = next.Load (link_index f depth row)
next_at f (stage.Row depth row place) = scanned place row_count (next.Load (directory_index place)) (next.Full region.Rows (row_key f depth))
next_at f (stage.RowClaim depth row place) = next.Claim (directory_index place) (row_key f depth)
next_at f (stage.Tie depth row found) = next.Claim (link_index f depth row) (row_address found)
next_at f (stage.Entry row) = next.Claim (row_index row (slot_of f.entry)) (value_of f)
next_at f (stage.Done value) = next.Nothing

-- the word that the next turn loads or claims
abbrev pub next_of : FillData → FillNext
next_of f = next_at f f.stage

-- ---- what a turn does with its answer

abbrev pub with_stage : FillData → Stage → FillData
with_stage f s = record { node = f.node; entry = f.entry; base = f.base; steps = f.steps; found = f.found; stage = s }

-- the first turn for the nodes that are left, and else for the rows
abbrev pub first_stage : List NodeStep → ℕ → Stage
first_stage steps found = if nat_lt found (length steps) then stage.Node 1 else stage.Link 0 0

-- a fill of which no node is found
abbrev pub begun : ℕ → ℕ → List NodeStep → ℕ → FillData
begun node entry steps base = record { node = node; entry = entry; base = base; steps = steps; found = []; stage = first_stage steps 0 }

abbrev pub with_node : FillData → ℕ → FillData
with_node f number = record {
  node = f.node;
  entry = f.entry;
  base = f.base;
  steps = f.steps;
  found = f.found ++ number ∷ [];
  stage = first_stage f.steps (length f.found + 1);
}

-- the row of a depth is known: it has the entry, or the link to the next
abbrev pub at_row : FillData → ℕ → ℕ → Stage
at_row f depth row = if depth == depth_of f.entry then stage.Entry row else stage.Link (depth + 1) row

abbrev pub row_or_first : Option ℕ → ℕ
row_or_first None = 0
row_or_first (Some row) = row

abbrev pub taken_at : FillData → Stage → ℕ → FillData
-- a word is found, not there yet, or another
taken_at f (stage.Node place) a = if a == node_key f then with_node f place else with_stage f (if a == 0 then stage.NodeClaim place else stage.Node (place + 1))
-- a claim that finds 0 or the same word is found
taken_at f (stage.NodeClaim place) a = if (a == 0) || (a == node_key f) then with_node f place else with_stage f (stage.Node (place + 1))
taken_at f (stage.Link depth row) a = with_stage f (if a == 0 then stage.Row depth row 0 else at_row f depth (row_or_first (row_at a)))
taken_at f (stage.Row depth row place) a = with_stage f (if a == row_key f depth then stage.Tie depth row place else (if a == 0 then stage.RowClaim depth row place else stage.Row depth row (place + 1)))
taken_at f (stage.RowClaim depth row place) a = with_stage f (if (a == 0) || (a == row_key f depth) then stage.Tie depth row place else stage.Row depth row (place + 1))
taken_at f (stage.Tie depth row found) a = with_stage f (at_row f depth found)
taken_at f (stage.Entry row) a = with_stage f (stage.Done (if a == 0 then value_of f else a))
taken_at f (stage.Done value) a = f

-- the fill after a turn that was answered so
abbrev pub taken : FillData → ℕ → FillData
taken f a = taken_at f f.stage a

-- what a turn that leads to a stage gives
abbrev pub given_at : Stage → FillStep
given_at (stage.Done value) = step.Value value
given_at (stage.Node place) = step.More
given_at (stage.NodeClaim place) = step.More
given_at (stage.Link depth row) = step.More
given_at (stage.Row depth row place) = step.More
given_at (stage.RowClaim depth row place) = step.More
given_at (stage.Tie depth row found) = step.More
given_at (stage.Entry row) = step.More
