-- Words of the channel law: the letters of a channel on a lane, how far they have come, and what changes take and lose of a channel.
use Rattle.board_model.specs.Parts.{readings}
use Rattle.std.specs.Prelude.{◌≡◌, ℕ, Bool, false, ◌==◌, List, [], ◌∷◌, ◌++◌, map, drop, option_to_list, Option, Some, None, if◌then◌else◌}
use Rattle.std.specs.List.{flat_map}
use Rattle.byteorder.specs.Endian.{little_bytes}
use Rattle.mc_base.specs.Letter.{PlainLetter, connect, send_open, packet, scalar, send_close, bytes_of_bits}
use Rattle.mc_base.specs.Reading.{Reading, says}
use Rattle.mc_base.specs.declared.channel.Kind.{Kind}
use Rattle.mc_base.specs.declared.channel.Kind.TheVariants.{Packet, Scalar}
use Rattle.mc_base.specs.declared.channel.Side.{Side}
use Rattle.mc_base.specs.declared.channel.Side.TheVariants.{Sender}
use Rattle.board_model.specs.State.{Item, ChannelEnd, Endpoint, DomainState, endpoint_of, channel_in, queue_in}
use Rattle.board_model.specs.Change.{Change, item_handed, item_lost, oldest_gone, queue_dropped, changed}
use Rattle.board_model.specs.Choice.{oldest}
use Rattle.board_model.specs.ChannelEnds.{same_side, hears_from}

abbrev pub is_sender : Side → Bool
is_sender side = same_side side Sender

abbrev pub end_is : (ChannelEnd → Bool) → Option ChannelEnd → Bool
end_is test None = false
end_is test (Some c) = test c

abbrev pub rest : List Item → List Item
rest q = drop 1 q

-- ---- what changes take and lose of a channel

-- the endpoint, where it has the receiver's end of the channel
abbrev pub hears : ℕ → ℕ → Option Endpoint → Bool
hears o n e = end_is (hears_from o n) (channel_in e)

-- the contents of items, where they are of the channel
abbrev pub contents_if : Bool → List Item → List (List ℕ)
contents_if b q = if b then map (λ i. i.content) q else []

abbrev pub heard_there : ℕ → ℕ → DomainState → ℕ → Bool
heard_there o n s a = hears o n (endpoint_of s a)

abbrev pub taken_by : ℕ → ℕ → DomainState → Change → List (List ℕ)
taken_by o n s (item_handed a i) = contents_if (heard_there o n s a) (i ∷ [])
taken_by o n s (oldest_gone a) = contents_if (heard_there o n s a) (option_to_list (oldest (queue_in (endpoint_of s a))))
taken_by o n s other = []

abbrev pub dropped_by : ℕ → ℕ → DomainState → Change → List (List ℕ)
dropped_by o n s (item_lost a i) = contents_if (heard_there o n s a) (i ∷ [])
dropped_by o n s (queue_dropped a c) = contents_if (heard_there o n s a) (queue_in (endpoint_of s a))
dropped_by o n s other = []

-- along changes
abbrev pub through : {A : Type 0} → (DomainState → Change → List A) → DomainState → List Change → List A
through f s [] = []
through f s (c ∷ cs) = f s c ++ through f (changed s c) cs

-- ---- letters of a channel on its lane: those that its sender writes

abbrev pub letter_on : ℕ → PlainLetter → Bool
letter_on n (connect m kind) = m == n
letter_on n (send_open m) = m == n
letter_on n (packet m content) = m == n
letter_on n (scalar m bits value) = m == n
letter_on n (send_close m) = m == n
letter_on n other = false

-- those by which the receiver's end begins, gets an item, or learns of the end
abbrev pub turns_on : ℕ → PlainLetter → Bool
turns_on n (connect m kind) = m == n
turns_on n (packet m content) = m == n
turns_on n (scalar m bits value) = m == n
turns_on n (send_close m) = m == n
turns_on n other = false

-- a letter, its destination and its source
pub record Sent : Type 0 where
  pub source : ℕ
  pub destination : ℕ
  pub letter : PlainLetter

abbrev pub sent_by : ℕ → Reading → List Sent
sent_by n (says src dst l) = if letter_on n l then record { source = src; destination = dst; letter = l } ∷ [] else []
sent_by n other = []

abbrev pub letters_of : ℕ → List Reading → List Sent
letters_of n rs = flat_map (sent_by n) rs

-- of frames one after the other, each with the part before it
abbrev pub letters : ℕ → List (List ℕ) → List Sent
letters n frames = letters_of n (readings None frames)

-- the contents of data letters
abbrev pub data_of : PlainLetter → List (List ℕ)
data_of (packet n content) = content ∷ []
data_of (scalar n bits value) = little_bytes (bytes_of_bits bits) value ∷ []
data_of other = []

abbrev pub contents : List Sent → List (List ℕ)
contents ls = flat_map (λ l. data_of l.letter) ls

-- ---- how far a channel's letters have come on a lane

pub data Way : Type 0 where
  not_begun : Way
  goes_to : ℕ → Kind → Way
  is_over : ℕ → Way

-- the letter may come next: a connect begins; then come others to the same address, data of the kind, until a close, after which none
-- comes
abbrev pub Follows : Way → Sent → Type 0
Follows not_begun l = elim l.letter [ connect n kind ↦ Unit {0} | _ ↦ ⊥ ]
Follows (goes_to a k) l = elim l.letter [ connect n kind ↦ ⊥ | packet n content ↦ (l.destination ≡ a) × (k ≡ Packet) | scalar n bits value ↦ (l.destination ≡ a) × (k ≡ Scalar) | _ ↦ l.destination ≡ a ]
Follows (is_over a) l = ⊥

abbrev pub way_after : Way → Sent → Way
way_after w l = elim l.letter [ connect n kind ↦ goes_to l.destination kind | send_close n ↦ is_over l.destination | _ ↦ w ]

abbrev pub InOrder : Way → List Sent → Type 0
InOrder w [] = Unit {0}
InOrder w (l ∷ ls) = Follows w l × InOrder (way_after w l) ls

abbrev pub way_of : Way → List Sent → Way
way_of w [] = w
way_of w (l ∷ ls) = way_of (way_after w l) ls
