-- What is counted of the items of the channels that one domain numbered, by the lines of the journals of all domains.
-- Source: docs/FORMATS.md, "Report".
use Rattle.std.specs.Prelude.{◌≡◌, ℕ, ◌+◌, ◌<◌, ◌^◌, Bool, false, ◌==◌, List, [], ◌∷◌, ◌++◌, length, count_by, sum_by, slice_index, slice_get, Option, None, Some, ◌&&◌, get_or, if◌then◌else◌}
use Rattle.board_model.specs.Journal.{Line}
use Rattle.board_numbers.specs.declared.items.ItemCounts.{ItemCounts}
use Rattle.board_numbers.specs.declared.items.ItemsTold.{ItemsTold}
use Rattle.board_numbers.specs.declared.items.ChannelKey.{ChannelKey}
use Rattle.board_numbers.specs.Counts.{one_if}
use Rattle.board_numbers.specs.EndedDomains.{Ended}
use Rattle.board_numbers.specs.Items.{is_item_put, is_item_taken, is_item_lost, is_close_put, told_in, closing_last, closed_after}
use Rattle.board_model.specs.Queues.{queued_on}

-- ---- what the lines of a journal tell of a channel, which is that of the domain of the number `own`

abbrev pub sent_in : ℕ → ℕ → ℕ → List Line → ℕ
sent_in owner number own lines = if own == owner then count_by (is_item_put number) lines else 0

abbrev pub brought_in : ℕ → ℕ → List Line → ℕ
brought_in owner number lines = count_by (is_item_taken owner number) lines

abbrev pub dropped_in : ℕ → ℕ → List Line → ℕ
dropped_in owner number lines = count_by (is_item_lost owner number) lines + closed_after owner number false lines

-- and what a domain at its end tells

abbrev pub sent_at : ℕ → ℕ → Ended → ℕ
sent_at owner number e = sent_in owner number e.number e.lines

abbrev pub brought_at : ℕ → ℕ → Ended → ℕ
brought_at owner number e = brought_in owner number e.lines

abbrev pub dropped_at : ℕ → ℕ → Ended → ℕ
dropped_at owner number e = dropped_in owner number e.lines

abbrev pub queued_at : ℕ → ℕ → Ended → ℕ
queued_at owner number e = queued_on owner number e.state

-- ---- the counts of the channels of one owner, by their numbers

-- these counts tell so many of each channel
pub record TellItems (put came gone : ℕ → ℕ) (c : ItemCounts) : Type 0 where
  pub sent : (n : ℕ) → n < length c.sent.items → slice_index c.sent.items n ≡ put n
  pub brought : (n : ℕ) → n < length c.brought.items → slice_index c.brought.items n ≡ came n
  pub dropped : (n : ℕ) → n < length c.dropped.items → slice_index c.dropped.items n ≡ gone n

-- each has a place for so many channels
pub record HavePlaces (many : ℕ) (c : ItemCounts) : Type 0 where
  pub sent : length c.sent.items ≡ many
  pub brought : length c.brought.items ≡ many
  pub dropped : length c.dropped.items ≡ many

-- the same channels have places
pub record HaveSamePlaces (old new : ItemCounts) : Type 0 where
  pub sent : length new.sent.items ≡ length old.sent.items
  pub brought : length new.brought.items ≡ length old.brought.items
  pub dropped : length new.dropped.items ≡ length old.dropped.items

abbrev pub HaveMoreThan : ℕ → ItemCounts → Type 0
HaveMoreThan number c = (many : ℕ) × (number < many) × HavePlaces many c

-- a domain of this number is one of these
abbrev pub IsOneOf : ℕ → List Ended → Type 0
IsOneOf owner es = (i : ℕ) × (e : Ended) × (slice_get es i ≡ Some e) × (e.number ≡ owner)

abbrev pub AreItemCounts : ℕ → List Ended → ItemCounts → Type 0
AreItemCounts owner es c = TellItems (λ n. sum_by (sent_at owner n) es) (λ n. sum_by (brought_at owner n) es) (λ n. sum_by (dropped_at owner n) es) c

-- they are small numbers
pub record ItemsFit (owner : ℕ) (es : List Ended) : Type 0 where
  pub sent : (n : ℕ) → sum_by (sent_at owner n) es < 2 ^ 64
  pub brought : (n : ℕ) → sum_by (brought_at owner n) es < 2 ^ 64
  pub dropped : (n : ℕ) → sum_by (dropped_at owner n) es < 2 ^ 64
  pub queued : (n : ℕ) → sum_by (queued_at owner n) es < 2 ^ 64

-- ---- what a line tells of a channel

abbrev pub is_channel : ℕ → ℕ → ChannelKey → Bool
is_channel owner number c = c.owner == owner && c.number == number

-- whether this channel is the one that the line before closes
abbrev pub is_closing : ℕ → ℕ → Option ChannelKey → Bool
is_closing owner number None = false
is_closing owner number (Some c) = is_channel owner number c

-- so many are told of this channel
abbrev pub told_of : (ItemsTold → ℕ) → ℕ → ℕ → Option ItemsTold → ℕ
told_of many owner number None = 0
told_of many owner number (Some t) = if is_channel owner number t.channel then many t else 0

-- what a line of the journal of the domain of this number tells, which follows one that closes a channel or none
pub record TellsItems (own : ℕ) (closing : Option ChannelKey) (l : Line) (t : Option ItemsTold) : Type 0 where
  pub sent : (owner n : ℕ) → told_of (λ x. x.sent) owner n t ≡ (if own == owner then one_if (is_item_put n l) else 0)
  pub brought : (owner n : ℕ) → told_of (λ x. x.brought) owner n t ≡ one_if (is_item_taken owner n l)
  pub dropped : (owner n : ℕ) → told_of (λ x. x.dropped) owner n t ≡ one_if (is_item_lost owner n l) + (if is_closing owner n closing then told_in l else 0)

-- it closes this channel
abbrev pub ClosesBy : Line → Option ChannelKey → Type 0
ClosesBy l c = (owner n : ℕ) → is_closing owner n c ≡ is_close_put owner n l

-- and the last of these lines does
abbrev pub ClosesLast : List Line → Option ChannelKey → Type 0
ClosesLast ls c = (owner n : ℕ) → is_closing owner n c ≡ closing_last owner n false ls

-- that much is added
pub record AddsTold (t : Option ItemsTold) (old new : ItemCounts) : Type 0 where
  pub owner : new.owner ≡ old.owner
  pub places : HaveSamePlaces old new
  pub sent : (n : ℕ) → n < length old.sent.items → slice_index old.sent.items n + told_of (λ x. x.sent) old.owner n t < 2 ^ 64 → slice_index new.sent.items n ≡ slice_index old.sent.items n + told_of (λ x. x.sent) old.owner n t
  pub brought : (n : ℕ) → n < length old.brought.items → slice_index old.brought.items n + told_of (λ x. x.brought) old.owner n t < 2 ^ 64 → slice_index new.brought.items n ≡ slice_index old.brought.items n + told_of (λ x. x.brought) old.owner n t
  pub dropped : (n : ℕ) → n < length old.dropped.items → slice_index old.dropped.items n + told_of (λ x. x.dropped) old.owner n t < 2 ^ 64 → slice_index new.dropped.items n ≡ slice_index old.dropped.items n + told_of (λ x. x.dropped) old.owner n t

-- ---- lines counted

-- so much is added for these lines of the journal of the domain of the number `own`
pub record AddsLines (owner own : ℕ) (lines : List Line) (old new : ItemCounts) : Type 0 where
  pub sent : (n : ℕ) → n < length old.sent.items → slice_index new.sent.items n ≡ slice_index old.sent.items n + sent_in owner n own lines
  pub brought : (n : ℕ) → n < length old.brought.items → slice_index new.brought.items n ≡ slice_index old.brought.items n + brought_in owner n lines
  pub dropped : (n : ℕ) → n < length old.dropped.items → slice_index new.dropped.items n ≡ slice_index old.dropped.items n + dropped_in owner n lines

pub record HasRoomForLines (owner own : ℕ) (lines : List Line) (c : ItemCounts) : Type 0 where
  pub sent : (n : ℕ) → n < length c.sent.items → slice_index c.sent.items n + sent_in owner n own lines < 2 ^ 64
  pub brought : (n : ℕ) → n < length c.brought.items → slice_index c.brought.items n + brought_in owner n lines < 2 ^ 64
  pub dropped : (n : ℕ) → n < length c.dropped.items → slice_index c.dropped.items n + dropped_in owner n lines < 2 ^ 64

-- the lines are counted, where there is room for them
pub record CountsLines (own : ℕ) (lines : List Line) (old new : ItemCounts) : Type 0 where
  pub owner : new.owner ≡ old.owner
  pub places : HaveSamePlaces old new
  pub counted : HasRoomForLines old.owner own lines old → AddsLines old.owner own lines old new

-- ---- the counts of all domains

-- each of one list goes so with the one at its place in another
pub record EachWith {A B : Type 0} (R : A → B → Type 0) (xs : List A) (ys : List B) : Type 0 where
  pub many : length ys ≡ length xs
  pub each : (k : ℕ) (x : A) (y : B) → k < length xs → R (get_or xs k x) (get_or ys k y)

-- one line more is counted, whatever lines were counted before
abbrev pub CountsOneMore : ℕ → Option ChannelKey → Line → List ItemCounts → List ItemCounts → Type 0
CountsOneMore own closing l old new = (lines : List Line) (begun : List ItemCounts) → ClosesLast lines closing → EachWith (CountsLines own lines) begun old → EachWith (CountsLines own (lines ++ l ∷ [])) begun new

-- nothing is counted yet, with a place for each channel that the domain numbered and one before them
pub record HasNoItems (e : Ended) (c : ItemCounts) : Type 0 where
  pub owner : c.owner ≡ e.number
  pub places : HavePlaces (e.state.channels_given + 1) c
  pub none : TellItems (λ n. 0) (λ n. 0) (λ n. 0) c

-- what the journals of some domains tell of the channels of one, where those of all tell small numbers
pub record IsCountedBy (all some : List Ended) (e : Ended) (c : ItemCounts) : Type 0 where
  pub owner : c.owner ≡ e.number
  pub places : HavePlaces (e.state.channels_given + 1) c
  pub counted : ItemsFit e.number all → AreItemCounts e.number some c

-- what the journals of all tell of the channels of each
abbrev pub AreCounted : List Ended → List ItemCounts → Type 0
AreCounted es all = EachWith (IsCountedBy es es) es all

-- and of those of the domain at a place
abbrev pub IsCountedAt : List Ended → ℕ → ItemCounts → Type 0
IsCountedAt es at c = (e : Ended) → IsCountedBy es es (get_or es at e) c
