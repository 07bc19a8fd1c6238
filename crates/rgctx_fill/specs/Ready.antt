-- What a fill under way has found, and what its turns come to. This project's own.
use Rattle.std.specs.Prelude.{◌≡◌, ◌≢◌, ℕ, zero, suc, ◌+◌, ◌<◌, Bool, true, List, length, slice_index, Option}
use Rattle.rgctx_words.specs.declared.directory.DirectoryWord.{DirectoryWord}
use Rattle.rgctx_words.specs.Regions.{node_count, row_count, row_index}
use Rattle.rgctx_words.specs.Places.{depth_of, slot_of}
use Rattle.rgctx_words.specs.Held.{Grows, with_claim}
use Rattle.rgctx_template.specs.Catalogue.{CatData}
use Rattle.rgctx_fill.specs.declared.spelled.NodeTree.{NodeTree}
use Rattle.rgctx_fill.specs.declared.stage.Stage.{Stage}
use Rattle.rgctx_fill.specs.declared.stage.Stage.TheVariants as stage
use Rattle.rgctx_fill.specs.declared.stage.Region.{Region}
use Rattle.rgctx_fill.specs.declared.stage.Region.TheVariants as region
use Rattle.rgctx_fill.specs.declared.stage.FillNext.{FillNext}
use Rattle.rgctx_fill.specs.declared.stage.FillNext.TheVariants as next
use Rattle.rgctx_fill.specs.declared.stage.FillStep.{FillStep}
use Rattle.rgctx_fill.specs.declared.stage.FillStep.TheVariants as step
use Rattle.rgctx_fill.specs.Spelled.{spelled}
use Rattle.rgctx_fill.specs.Leaves.{last_leaf}
use Rattle.rgctx_fill.specs.Templates.{template_at}
use Rattle.rgctx_fill.specs.NamedValues.{IsNamed}
use Rattle.rgctx_fill.specs.Fitting.{directory, use_of}
use Rattle.rgctx_fill.specs.Claims.{ArePassed, IsSure}
use Rattle.rgctx_fill.specs.Turns.{FillData, IsFill, node_for, node_key, row_key, next_of, taken, given_at}
use Rattle.rgctx_fill.specs.Plans.{AreSpelled, IsPlan}

-- ---- what is found

abbrev pub row_for : ℕ → ℕ → DirectoryWord
row_for node depth = record { node = node; depth = depth }

-- what is held shows that the row is that of the node at this depth
abbrev pub IsRowAt : CatData → (ℕ → ℕ) → ℕ → ℕ → ℕ → Type 0
IsRowAt cat held node depth row = IsSure cat held (λ at. use_of at row ≡ row_for node depth)

-- the row before that of a depth is known; there is none before depth 0
abbrev pub IsBefore : CatData → (ℕ → ℕ) → ℕ → ℕ → ℕ → Type 0
IsBefore cat held node zero row = Unit {0}
IsBefore cat held node (suc depth) row = IsRowAt cat held node depth row

-- the nodes have smaller numbers than this place
abbrev pub AreBelow : List ℕ → ℕ → Type 0
AreBelow found place = (k : ℕ) → k < length found → slice_index found k < place

-- the entry of the node is held, and holds the value that it names
pub record IsFilled (cat : CatData) (held : ℕ → ℕ) (node entry value : ℕ) : Type 0 where
  pub row : ℕ
  pub low : row < row_count
  pub of : IsRowAt cat held node (depth_of entry) row
  pub used : value ≢ 0
  pub holds : held (row_index row (slot_of entry)) ≡ value
  pub named : IsNamed cat held node entry value

abbrev pub HasAll : FillData → Type 0
HasAll f = length f.found ≡ length f.steps

-- what a fill that stands here knows: the words that its scan passed are held and are others, and whose row the last row is
abbrev pub Knows : CatData → (ℕ → ℕ) → FillData → Stage → Type 0
Knows cat held f (stage.Node place) = (0 < place) × ArePassed held 1 place (node_key f)
Knows cat held f (stage.NodeClaim place) = (last_leaf < place) × ArePassed held 1 place (node_key f) × AreBelow f.found place
Knows cat held f (stage.Link depth row) = HasAll f × IsBefore cat held f.node depth row
Knows cat held f (stage.Row depth row place) = HasAll f × IsBefore cat held f.node depth row × ArePassed (directory held) 0 place (row_key f depth)
Knows cat held f (stage.RowClaim depth row place) = HasAll f × IsBefore cat held f.node depth row × ArePassed (directory held) 0 place (row_key f depth)
Knows cat held f (stage.Tie depth row found) = HasAll f × IsBefore cat held f.node depth row × (directory held found ≡ row_key f depth)
Knows cat held f (stage.Entry row) = HasAll f × IsRowAt cat held f.node (depth_of f.entry) row
Knows cat held f (stage.Done value) = IsFilled cat held f.node f.entry value

-- a fill under way, by what is held. It goes on to be one as more is held
pub record IsReady (cat : CatData) (held : ℕ → ℕ) (f : FillData) : Type 0 where
  pub fill : IsFill f
  -- the node is held, and its template has the entry
  pub used : held f.node ≢ 0
  pub within : f.entry < length (template_at cat held f.node)
  -- the steps are those of trees that may have nodes, and the found nodes spell the first of them
  pub trees : List NodeTree
  pub plan : IsPlan cat.program f.steps trees
  pub few : length f.found < suc (length f.steps)
  pub found : AreSpelled (spelled held) trees f.found
  -- with nodes for all of them the value is the one that the entry names
  pub value : (later : ℕ → ℕ) (numbers : List ℕ) → Grows held later → length numbers ≡ length f.steps → AreSpelled (spelled later) trees numbers
      → IsNamed cat later f.node f.entry (f.base + node_for numbers (length numbers))
  pub positive : length f.steps ≡ 0 → 0 < f.base
  pub knows : Knows cat held f f.stage

-- ---- one turn

-- a load of an index was answered so, from the words held before and after
pub record IsLoaded (alone : Bool) (before after : ℕ → ℕ) (i answer : ℕ) : Type 0 where
  pub again : before i ≢ 0 → answer ≡ before i
  pub held : answer ≢ 0 → after i ≡ answer
  pub only : alone ≡ true → (answer ≡ before i) × ((j : ℕ) → after j ≡ before j)

-- a claim of an index with a word was answered so
pub record IsClaimed (alone : Bool) (before after : ℕ → ℕ) (i word answer : ℕ) : Type 0 where
  pub again : before i ≢ 0 → answer ≡ before i
  pub held : answer ≢ 0 → after i ≡ answer
  pub put : answer ≡ 0 → after i ≡ word
  pub only : alone ≡ true → (answer ≡ before i) × ((j : ℕ) → j ≢ i → after j ≡ before j)

-- the listed claims, once a claim was answered so
abbrev pub claims_after : Option (List (ℕ × ℕ)) → FillNext → ℕ → Option (List (ℕ × ℕ))
claims_after claims (next.Load i) answer = claims
claims_after claims (next.Claim i word) zero = with_claim claims i word
claims_after claims (next.Claim i word) (suc n) = claims
claims_after claims (next.Full r key) answer = claims
claims_after claims next.Nothing answer = claims

-- what the turn did was answered so. A turn without a place, or behind the value, is none
abbrev pub IsAnswered : Bool → (ℕ → ℕ) → (ℕ → ℕ) → FillNext → ℕ → Type 0
IsAnswered alone before after (next.Load i) answer = IsLoaded alone before after i answer
IsAnswered alone before after (next.Claim i word) answer = IsClaimed alone before after i word answer
IsAnswered alone before after (next.Full r key) answer = ⊥
IsAnswered alone before after next.Nothing answer = ⊥

-- one turn was made: its load or claim was answered, and the fill goes on from that answer
pub record IsMade (alone : Bool) (before after : ℕ → ℕ) (listed relisted : Option (List (ℕ × ℕ))) (f new : FillData) (gives : FillStep) : Type 0 where
  pub answer : ℕ
  pub answered : IsAnswered alone before after (next_of f) answer
  pub claims : relisted ≡ claims_after listed (next_of f) answer
  pub takes : new ≡ taken f answer
  pub leads : gives ≡ given_at new.stage

-- no turn was made: the scan has no place for the word, and nothing changed
pub record IsAtEnd (before after : ℕ → ℕ) (listed relisted : Option (List (ℕ × ℕ))) (f new : FillData) (r : Region) (key : ℕ) : Type 0 where
  pub full : next_of f ≡ next.Full r key
  pub same : new ≡ f
  pub words : (i : ℕ) → after i ≡ before i
  pub claims : relisted ≡ listed

abbrev pub IsTurn : Bool → (ℕ → ℕ) → (ℕ → ℕ) → Option (List (ℕ × ℕ)) → Option (List (ℕ × ℕ)) → FillData → FillData → FillStep → Type 0
IsTurn alone before after listed relisted f new step.More = IsMade alone before after listed relisted f new step.More
IsTurn alone before after listed relisted f new (step.Value v) = IsMade alone before after listed relisted f new (step.Value v)
IsTurn alone before after listed relisted f new (step.Full r key) = IsAtEnd before after listed relisted f new r key

-- a list of words has no place for a word: each of its words is held, and none is this one
abbrev pub HasNoPlace : (ℕ → ℕ) → Region → ℕ → Type 0
HasNoPlace held region.Nodes key = ArePassed held 1 node_count key
HasNoPlace held region.Rows key = ArePassed (directory held) 0 row_count key

-- what a turn comes to, where the words meet the rule
abbrev pub Comes : CatData → (ℕ → ℕ) → FillData → FillStep → Type 0
Comes cat held f step.More = IsReady cat held f
Comes cat held f (step.Value v) = IsReady cat held f × IsFilled cat held f.node f.entry v
Comes cat held f (step.Full r key) = IsReady cat held f × HasNoPlace held r key

-- the fill has not answered its value
abbrev pub IsOn : Stage → Type 0
IsOn (stage.Node place) = Unit {0}
IsOn (stage.NodeClaim place) = Unit {0}
IsOn (stage.Link depth row) = Unit {0}
IsOn (stage.Row depth row place) = Unit {0}
IsOn (stage.RowClaim depth row place) = Unit {0}
IsOn (stage.Tie depth row found) = Unit {0}
IsOn (stage.Entry row) = Unit {0}
IsOn (stage.Done value) = ⊥
