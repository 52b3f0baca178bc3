-- What is to be done by a frame that is taken: its word, and the changes of the state.
-- Source: the code of a verdict, beside the rows of `board_model`, `TakenFrames`.
use Rattle.std.specs.Prelude.{◌≡◌, ℕ, Bool, false, not, ◌&&◌, nat_le, List, [], ◌∷◌, length, Some, is_some, option_map, if◌then◌else◌}
use Rattle.mc_base.specs.NameMap.{Names, names_limit, learned, forgotten, address_in}
use Rattle.mc_base.specs.declared.fate.Fate.{Fate}
use Rattle.mc_base.specs.declared.fate.Fate.TheVariants as fate
use Rattle.mc_base.specs.declared.refusal.Refusal.TheVariants.{ChanClosed}
use Rattle.board_model.specs.Change.{Change, channel_set, item_queued, item_handed, item_lost, waiting_ended, name_found, connect_settled, reply_owed, names_known}
use Rattle.board_model.specs.Dealing.{keeps_buffer}
use Rattle.board_model.specs.State.{DomainState, Item, peer_at}
use Rattle.board_model.specs.TakenFrames.{Row, first_row, names_of}
use Rattle.report_replay.specs.declared.verdict.Action.{Action}
use Rattle.report_replay.specs.declared.verdict.Action.TheVariants as action
use Rattle.report_replay.specs.declared.verdict.Verdict.{Verdict}
use Rattle.report_replay.specs.declared.verdict.Verdict.TheVariants.{Keep, Act}
use Rattle.report_replay.specs.declared.way.Way.{Way}
use Rattle.report_replay.specs.Views.{end_of, reply_of, settling}

-- ---- where the item of a frame is kept: the oldest receive that waits at the endpoint has it, or the queue

abbrev pub kept_word : Bool → Fate
kept_word hands = if hands then fate.Handed else fate.Queued

abbrev pub kept_change : ℕ → Item → Bool → Change
kept_change at i hands = if hands then item_handed at i else item_queued at i

-- ---- where nothing is kept

abbrev pub word_of : Action → Fate
word_of (action.Nothing word) = word
word_of (action.Learn name address) = fate.Acted
word_of (action.Forget name) = fate.Acted
word_of (action.Owe reply) = fate.Owed
word_of (action.Accept at end reply) = fate.Owed
word_of (action.Lose at) = fate.Closed
word_of (action.Set at left) = fate.Acted
word_of (action.Settle at left number rejected) = fate.Acted
word_of (action.EndReceives at left) = fate.Acted

-- the changes by a frame from a peer, of which these names are known, that brings this item
abbrev pub changes_of : ℕ → Names → Item → Action → List Change
changes_of peer known i (action.Nothing word) = []
changes_of peer known i (action.Learn name address) = names_known peer (learned name address known) ∷ name_found name address ∷ []
changes_of peer known i (action.Forget name) = names_known peer (forgotten name known) ∷ []
changes_of peer known i (action.Owe reply) = reply_owed peer (reply_of reply) ∷ []
changes_of peer known i (action.Accept at end reply) = channel_set at (Some (end_of end)) ∷ reply_owed peer (reply_of reply) ∷ []
changes_of peer known i (action.Lose at) = item_lost at i ∷ []
changes_of peer known i (action.Set at left) = channel_set at (option_map end_of left) ∷ []
changes_of peer known i (action.Settle at left number rejected) = channel_set at (option_map end_of left) ∷ connect_settled number (settling rejected) ∷ []
changes_of peer known i (action.EndReceives at left) = waiting_ended at ChanClosed ∷ channel_set at (option_map end_of left) ∷ []

-- a name is learned that is known, or while fewer than 64 are
abbrev pub HasRoom : Names → Action → Type 0
HasRoom known (action.Learn name address) = (not (is_some (address_in name known)) && nat_le names_limit (length known)) ≡ false
HasRoom known other = Unit {0}

-- ---- the verdict on a frame from a peer is that of a row

pub record Keeps (at : ℕ) (hands : Bool) (i : Item) (r : Row) : Type 0 where
  pub word : kept_word hands ≡ r.word
  pub changes : kept_change at i hands ∷ [] ≡ r.happens

pub record Follows (peer : ℕ) (known : Names) (i : Item) (r : Row) (a : Action) : Type 0 where
  pub word : word_of a ≡ r.word
  pub changes : changes_of peer known i a ≡ r.happens
  pub drops : keeps_buffer (word_of a) ≡ false
  pub room : HasRoom known a

abbrev pub Judges : ℕ → Names → Item → Row → Verdict → Type 0
Judges peer known i r (Keep at hands) = Keeps at hands i r
Judges peer known i r (Act a) = Follows peer known i r a

abbrev pub known_of : DomainState → ℕ → Names
known_of s peer = names_of (peer_at s peer)

-- the verdict on a letter that brings an item is that of the first of these rows that applies
abbrev pub ByRows : DomainState → Way → Item → List Row → Verdict → Type 0
ByRows s w i rows v = Judges w.peer (known_of s w.peer) i (first_row rows) v

abbrev pub ActsByRows : DomainState → Way → Item → List Row → Action → Type 0
ActsByRows s w i rows a = Follows w.peer (known_of s w.peer) i (first_row rows) a
