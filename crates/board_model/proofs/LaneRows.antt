-- What a domain does with a frame: what its row does, by what the frame says.
use Rattle.mc_base.specs.declared.fate.Fate.{Fate}
use Rattle.board_model.specs.Parts.{Came}
use Rattle.std.proofs.Common.{◌≡◌, ℕ, Bool, true, false, not, ◌&&◌, cond, List, [], ◌∷◌, Option, Some, None, refl, sym, ap, ap₂, ◌∙◌}
use Rattle.std.specs.Prelude.{is_some, is_none}
use Rattle.std.specs.List.{AllByRecursion}
use Rattle.std.proofs.lemmas.Bool.{and_parts}
use Rattle.mc_base.specs.FullName.{endpoint_named}
use Rattle.mc_base.specs.NameMap.{Names, learned, forgotten}
use Rattle.mc_base.specs.Letter.{PlainLetter, msg, connect, accept, reject, recv_open, send_open, packet, scalar, send_close, recv_close, Piece}
use Rattle.mc_base.specs.Reading.{Reading, is_faulty, announces, says, brings}
use Rattle.mc_base.specs.declared.fault.Fault.{Fault}
use Rattle.mc_base.specs.declared.fault.Fault.TheVariants as of
use Rattle.mc_base.specs.declared.fault.FrameFault.{FrameFault}
use Rattle.mc_base.specs.declared.fault.FrameFault.TheVariants as frame_fault
use Rattle.mc_base.specs.declared.fault.LetterFault.{LetterFault}
use Rattle.mc_base.specs.declared.fault.LetterFault.TheVariants as letter_fault
use Rattle.mc_base.specs.declared.fault.NsFault.{NsFault}
use Rattle.mc_base.specs.declared.fault.NsFault.TheVariants as ns_fault
use Rattle.mc_base.specs.declared.fate.Fate.TheVariants as fate
use Rattle.mc_base.specs.declared.name.EndName.{EndName}
use Rattle.mc_base.specs.declared.channel.Kind.{Kind}
use Rattle.mc_base.specs.declared.channel.Kind.TheVariants as kind
use Rattle.mc_base.specs.declared.channel.Reason.{Reason}
use Rattle.mc_base.specs.declared.channel.Reason.TheVariants as reason
use Rattle.mc_base.specs.declared.refusal.Refusal.TheVariants.{ChanClosed}
use Rattle.board_model.specs.State.{connected, ChannelEnd, is_accepted, is_rejected, Endpoint, DomainState, endpoint_of, one_waits, peer_at, Item}
use Rattle.board_model.specs.Change.{Change, channel_set, item_queued, item_handed, item_lost, waiting_ended, name_found, connect_settled, names_known}
use Rattle.board_model.specs.ChannelEnds.{is_connecting, is_closed, same_kind, sends_to, hears_from, far_closed_end, end_row, left_row, end_row_of}
use Rattle.board_model.specs.Dealing.{fault_word, frame_word, letter_word, ns_word, keeps_buffer}
use Rattle.board_model.specs.TakenFrames.{Row, row, last_row, first_row, names_of, name_rows, rejecting, accepting, is_busy, connect_rows, item_of, message_rows, acting, channel_rows, letter_rows, row_of}

-- a fault's word keeps no buffer
frame_word_gives : (f : FrameFault) → keeps_buffer (frame_word f) ≡ false
frame_word_gives frame_fault.FrameShort = refl
frame_word_gives frame_fault.FrameLong = refl
frame_word_gives frame_fault.HeaderLen = refl

letter_word_gives : (f : LetterFault) → keeps_buffer (letter_word f) ≡ false
letter_word_gives letter_fault.PayloadShort = refl
letter_word_gives letter_fault.Magic = refl
letter_word_gives letter_fault.Version = refl
letter_word_gives letter_fault.Kind = refl
letter_word_gives letter_fault.Argument = refl
letter_word_gives letter_fault.Channel = refl
letter_word_gives letter_fault.Size = refl

ns_word_gives : (f : NsFault) → keeps_buffer (ns_word f) ≡ false
ns_word_gives ns_fault.NsSize = refl
ns_word_gives ns_fault.NsFlags = refl
ns_word_gives ns_fault.NsName = refl

fault_word_gives : (f : Fault) → keeps_buffer (fault_word f) ≡ false
fault_word_gives (of.Frame f) = frame_word_gives f
fault_word_gives (of.Letter f) = letter_word_gives f
fault_word_gives (of.Ns f) = ns_word_gives f

-- ---- the first row that applies

-- whatever holds of the last row, and of each other one where it applies
abbrev pub ByRows : (Row → Type 0) → List Row → Type 0
ByRows P [] = P (first_row [])
ByRows P (r ∷ []) = P r
ByRows P (r ∷ q ∷ rs) = (r.applies ≡ true → P r) × (r.applies ≡ false → ByRows P (q ∷ rs))

pub by_rows : (P : Row → Type 0) (rs : List Row) → ByRows P rs → P (first_row rs)
by_rows P [] h = h
by_rows P (r ∷ []) h = h
by_rows P (r ∷ q ∷ rs) h = go r.applies refl (λ k. by_rows P (q ∷ rs) k)
  where
    go : (b : Bool) → r.applies ≡ b → (ByRows P (q ∷ rs) → P (first_row (q ∷ rs))) → P (cond b r (first_row (q ∷ rs)))
    go true is later = h.0 is
    go false is later = later (h.1 is)

-- ---- what a row does

-- an item is taken at an endpoint: a message where it has no channel, and else by the row of its channel's end
abbrev pub Carried : ℕ → Endpoint → PlainLetter → Type 0
Carried peer e (msg priority content) = e.channel ≡ None
Carried peer e (packet number content) = (c : ChannelEnd) × (e.channel ≡ Some c) × (end_row_of peer (Some c) (packet number content) ≡ end_row true fate.Queued (Some c))
Carried peer e (scalar number bits value) = (c : ChannelEnd) × (e.channel ≡ Some c) × (end_row_of peer (Some c) (scalar number bits value) ≡ end_row true fate.Queued (Some c))
Carried peer e other = ⊥

-- an item of a channel comes to an end that is closed
abbrev pub Late : ℕ → Endpoint → PlainLetter → Type 0
Late peer e (packet number content) = (c : ChannelEnd) × (e.channel ≡ Some c) × (end_row_of peer (Some c) (packet number content) ≡ end_row true fate.Closed (Some c))
Late peer e (scalar number bits value) = (c : ChannelEnd) × (e.channel ≡ Some c) × (end_row_of peer (Some c) (scalar number bits value) ≡ end_row true fate.Closed (Some c))
Late peer e other = ⊥

-- nothing; it is stray, or held in a part; it learns a name, or forgets one; it hands an item to a receive that waits, or queues it, or loses it; it owes a rejection, or
-- accepts a channel; or a letter acts on a channel
pub data Deals (s : DomainState) (peer : ℕ) (name : Came) (frame : Reading) (r : Row) : Type 0 where
  stays : r.happens ≡ [] → keeps_buffer r.word ≡ false → Deals s peer name frame r
  strays : (source at : ℕ) (q : Piece) → frame ≡ brings source at q → is_none name.part ≡ true → r.happens ≡ [] → r.word ≡ fate.Stray → Deals s peer name frame r
  awaits : (source at : ℕ) (q : Piece) → frame ≡ brings source at q → is_none name.part ≡ false → r.happens ≡ [] → r.word ≡ fate.Part → Deals s peer name frame r
  learns : (text : List ℕ) (n : EndName) (a : ℕ) (names : Names) → frame ≡ announces text a true → names ≡ learned n a (names_of (peer_at s peer)) → r.happens ≡ names_known peer names ∷ name_found n a ∷ [] → keeps_buffer r.word ≡ false → Deals s peer name frame r
  forgets : (text : List ℕ) (n : EndName) (a : ℕ) (names : Names) → frame ≡ announces text a false → names ≡ forgotten n (names_of (peer_at s peer)) → r.happens ≡ names_known peer names ∷ [] → keeps_buffer r.word ≡ false → Deals s peer name frame r
  hands : (source at : ℕ) (l : PlainLetter) (e : Endpoint) → frame ≡ says source at l → endpoint_of s at ≡ Some e → Carried peer e l → one_waits s e.local ≡ true → r.happens ≡ item_handed at (item_of peer name source l) ∷ [] → r.word ≡ fate.Handed → Deals s peer name frame r
  queues : (source at : ℕ) (l : PlainLetter) (e : Endpoint) → frame ≡ says source at l → endpoint_of s at ≡ Some e → Carried peer e l → one_waits s e.local ≡ false → r.happens ≡ item_queued at (item_of peer name source l) ∷ [] → r.word ≡ fate.Queued → Deals s peer name frame r
  loses : (source at : ℕ) (l : PlainLetter) (e : Endpoint) → frame ≡ says source at l → endpoint_of s at ≡ Some e → Late peer e l → r.happens ≡ item_lost at (item_of peer name source l) ∷ [] → r.word ≡ fate.Closed → Deals s peer name frame r
  rejects : (source at number : ℕ) (kind : Kind) (why : Reason) → frame ≡ says source at (connect number kind) → r.happens ≡ rejecting peer source at number why → keeps_buffer r.word ≡ false → Deals s peer name frame r
  accepts : (source at number : ℕ) (kind : Kind) (e : Endpoint) → frame ≡ says source at (connect number kind) → endpoint_of s at ≡ Some e → e.channel ≡ None → is_busy s e ≡ false → r.happens ≡ accepting peer source at number kind → keeps_buffer r.word ≡ false → Deals s peer name frame r
  acts : (source at : ℕ) (l : PlainLetter) (e : Endpoint) (c : ChannelEnd) (left : Option ChannelEnd) → frame ≡ says source at l → endpoint_of s at ≡ Some e → e.channel ≡ Some c → end_row_of peer (Some c) l ≡ end_row true fate.Acted left → r.happens ≡ acting at left l → keeps_buffer r.word ≡ false → Deals s peer name frame r

-- what each item says, whatever the letter
pub item-peer : (peer : ℕ) (name : Came) (source : ℕ) (l : PlainLetter) → (item_of peer name source l).peer ≡ peer
item-peer peer name source (msg priority content) = refl
item-peer peer name source (packet number content) = refl
item-peer peer name source (scalar number bits value) = refl
item-peer peer name source other = refl

pub item-frames : (peer : ℕ) (name : Came) (source : ℕ) (l : PlainLetter) → (item_of peer name source l).frames ≡ name.names
item-frames peer name source (msg priority content) = refl
item-frames peer name source (packet number content) = refl
item-frames peer name source (scalar number bits value) = refl
item-frames peer name source other = refl

-- what holds of a channel that is set, of requests to connect that are complete and of receives that end holds of all that a letter does
pub acting-all : (P : Change → Type 0) (at : ℕ) (left : Option ChannelEnd) → P (channel_set at left) → ((n : ℕ) → P (connect_settled n is_accepted)) → ((n : ℕ) (why : Reason) → P (connect_settled n (is_rejected why))) → P (waiting_ended at ChanClosed) → (l : PlainLetter) → AllByRecursion P (acting at left l)
acting-all P at left sets accepted rejected ends (accept number) = (sets, (accepted number, tt))
acting-all P at left sets accepted rejected ends (reject number why) = (sets, (rejected number why, tt))
acting-all P at left sets accepted rejected ends (send_close number) = (ends, (sets, tt))
acting-all P at left sets accepted rejected ends other = (sets, tt)

module _ (s : DomainState) (peer : ℕ) (name : Came) where
  names_deal : (text : List ℕ) (o : Option EndName) (address : ℕ) (there : Bool) → Deals s peer name (announces text address there) (first_row (name_rows peer (names_of (peer_at s peer)) o address there))
  names_deal text None address there = stays refl refl
  names_deal text (Some n) address true =
      by_rows (Deals s peer name (announces text address true)) (name_rows peer (names_of (peer_at s peer)) (Some n) address true)
      ((λ on. stays refl refl), (λ off. ((λ on. stays refl refl), (λ off2. learns text n address (learned n address (names_of (peer_at s peer))) refl refl refl refl))))
  names_deal text (Some n) address false =
      by_rows (Deals s peer name (announces text address false)) (name_rows peer (names_of (peer_at s peer)) (Some n) address false)
      ((λ on. stays refl refl), (λ off. ((λ on. stays refl refl), (λ off2. forgets text n address (forgotten n (names_of (peer_at s peer))) refl refl refl refl))))

  module _ (source destination : ℕ) where
    no_channel : (o : Option ChannelEnd) → is_some o ≡ false → o ≡ None
    no_channel None none = refl
    no_channel (Some c) none = absurd cc

    connects_deal : (o : Option Endpoint) (number : ℕ) (kind : Kind) → endpoint_of s destination ≡ o → Deals s peer name (says source destination (connect number kind)) (first_row (connect_rows s peer source destination o number kind))
    connects_deal None number kind found =
        by_rows (Deals s peer name (says source destination (connect number kind))) (connect_rows s peer source destination None number kind)
        ((λ full. stays refl refl), (λ room. rejects source destination number kind reason.NoEndpoint refl refl refl))
    connects_deal (Some e) number kind found =
        by_rows (Deals s peer name (says source destination (connect number kind))) (connect_rows s peer source destination (Some e) number kind) (
          (λ full. stays refl refl),
          (λ room. (
            (λ has. rejects source destination number kind reason.Connected refl refl refl),
            (λ none. ((λ busy. rejects source destination number kind reason.Busy refl refl refl), (λ free. accepts source destination number kind e refl found (no_channel e.channel none) free refl refl))),
          )),
        )

    messages_deal : (e : Endpoint) (c : Option ChannelEnd) (priority : ℕ) (content : List ℕ) → endpoint_of s destination ≡ Some e → e.channel ≡ c →
        Deals s peer name (says source destination (msg priority content)) (first_row (message_rows s destination e c (item_of peer name source (msg priority content))))
    messages_deal e (Some c) priority content found has = stays refl refl
    messages_deal e None priority content found none =
        by_rows (Deals s peer name (says source destination (msg priority content))) (message_rows s destination e None (item_of peer name source (msg priority content)))
        ((λ waits. hands source destination (msg priority content) e refl found none waits refl refl), (λ none_waits. queues source destination (msg priority content) e refl found none none_waits refl refl))

    -- a letter that acts on the channel, or is out of place
    module _ (l : PlainLetter) (e : Endpoint) (c : ChannelEnd) (found : endpoint_of s destination ≡ Some e) (has : e.channel ≡ Some c) where
      abbrev Rows : List Row → Type 0
      Rows rs = Deals s peer name (says source destination l) (first_row rs)

      acts_or_stays : (applies : Bool) (left : Option ChannelEnd) → end_row_of peer (Some c) l ≡ cond applies (end_row applies fate.Acted left) (left_row (Some c)) → Rows (row applies fate.Acted (acting destination left l) ∷ last_row fate.State [])
      acts_or_stays applies left is =
          by_rows (Deals s peer name (says source destination l)) (row applies fate.Acted (acting destination left l) ∷ last_row fate.State [])
          ((λ on. acts source destination l e c left refl found has (is ∙ ap (λ b. cond b (end_row b fate.Acted left) (left_row (Some c))) on) refl refl), (λ off. stays refl refl))

      -- an item of the channel comes, is too late, or is out of place
      comes_or_stays : (closed applies : Bool) → (end_row_of peer (Some c) l ≡ end_row true fate.Queued (Some c) → Carried peer e l) → (end_row_of peer (Some c) l ≡ end_row true fate.Closed (Some c) → Late peer e l) → end_row_of peer (Some c) l ≡ cond closed (end_row closed fate.Closed (Some c)) (cond applies (end_row applies fate.Queued (Some c)) (left_row (Some c))) →
          Rows (row closed fate.Closed (item_lost destination (item_of peer name source l) ∷ []) ∷ row (applies && one_waits s e.local) fate.Handed (item_handed destination (item_of peer name source l) ∷ []) ∷ row applies fate.Queued (item_queued destination (item_of peer name source l) ∷ []) ∷ last_row fate.State [])
      comes_or_stays closed applies carried late is =
          by_rows (Deals s peer name (says source destination l)) (row closed fate.Closed (item_lost destination (item_of peer name source l) ∷ []) ∷ row (applies && one_waits s e.local) fate.Handed (item_handed destination (item_of peer name source l) ∷ []) ∷ row applies fate.Queued (item_queued destination (item_of peer name source l) ∷ []) ∷ last_row fate.State []) (
            (λ too_late. loses source destination l e refl found (late (is ∙ ap (λ x. cond x (end_row x fate.Closed (Some c)) (cond applies (end_row applies fate.Queued (Some c)) (left_row (Some c)))) too_late)) refl refl),
            (λ in_time. (
              (λ both. let parts = and_parts applies (one_waits s e.local) both in hands source destination l e refl found (taken in_time parts.0) parts.1 refl refl),
              (λ not_both. ((λ on. queues source destination l e refl found (taken in_time on) (ap (λ b. b && one_waits s e.local) (sym on) ∙ not_both) refl refl), (λ off. stays refl refl))),
            )),
          )
        where
          taken : closed ≡ false → applies ≡ true → Carried peer e l
          taken in_time on = carried (is ∙ ap₂ (λ x y. cond x (end_row x fate.Closed (Some c)) (cond y (end_row y fate.Queued (Some c)) (left_row (Some c)))) in_time on)

    abbrev late : Kind → ChannelEnd → ℕ → Bool
    late k c number = hears_from peer number c && (same_kind c.kind k && (not c.far_closed && is_closed c.stage))

    abbrev comes : Kind → ChannelEnd → ℕ → Bool
    comes k c number = hears_from peer number c && (same_kind c.kind k && not c.far_closed)

    channels_deal : (e : Endpoint) (c : Option ChannelEnd) (l : PlainLetter) → endpoint_of s destination ≡ Some e → e.channel ≡ c → Deals s peer name (says source destination l) (first_row (channel_rows s peer destination e c (item_of peer name source l) l))
    channels_deal e None l found none = stays refl refl
    channels_deal e (Some c) (accept number) found has = acts_or_stays (accept number) e c found has (sends_to peer number c && is_connecting c.stage) (Some (record c { stage = connected })) refl
    channels_deal e (Some c) (reject number why) found has = acts_or_stays (reject number why) e c found has (sends_to peer number c && is_connecting c.stage) None refl
    channels_deal e (Some c) (recv_open number) found has = acts_or_stays (recv_open number) e c found has (sends_to peer number c && (not c.far_open && not c.far_closed)) (Some (record c { far_open = true })) refl
    channels_deal e (Some c) (recv_close number) found has = acts_or_stays (recv_close number) e c found has (sends_to peer number c && not c.far_closed) (far_closed_end c) refl
    channels_deal e (Some c) (send_open number) found has = acts_or_stays (send_open number) e c found has (hears_from peer number c && (not c.far_open && not c.far_closed)) (Some (record c { far_open = true })) refl
    channels_deal e (Some c) (send_close number) found has = acts_or_stays (send_close number) e c found has (hears_from peer number c && not c.far_closed) (far_closed_end c) refl
    channels_deal e (Some c) (packet number content) found has = comes_or_stays (packet number content) e c found has (late kind.Packet c number) (comes kind.Packet c number) (λ is. (c, has, is)) (λ is. (c, has, is)) refl
    channels_deal e (Some c) (scalar number bits value) found has = comes_or_stays (scalar number bits value) e c found has (late kind.Scalar c number) (comes kind.Scalar c number) (λ is. (c, has, is)) (λ is. (c, has, is)) refl
    channels_deal e (Some c) (msg priority content) found has = stays refl refl
    channels_deal e (Some c) (connect number kind) found has = stays refl refl

    letters_deal : (o : Option Endpoint) (l : PlainLetter) → endpoint_of s destination ≡ o → Deals s peer name (says source destination l) (first_row (letter_rows s peer name source destination o l))
    letters_deal o (connect number kind) found = connects_deal o number kind found
    letters_deal None l found = stays refl refl
    letters_deal (Some e) (msg priority content) found = messages_deal e e.channel priority content found refl
    letters_deal (Some e) l found = channels_deal e e.channel l found refl

  pub row-deals : (frame : Reading) → Deals s peer name frame (row_of s peer name frame)
  row-deals (is_faulty f) = stays refl (fault_word_gives f)
  row-deals (announces text address there) = names_deal text (endpoint_named text) address there
  row-deals (brings source destination q) =
      by_rows (Deals s peer name (brings source destination q)) (row (is_none name.part) fate.Stray [] ∷ last_row fate.Part [])
      ((λ none. strays source destination q refl none refl refl), (λ some. awaits source destination q refl some refl refl))
  row-deals (says source destination l) = letters_deal source destination (endpoint_of s destination) l refl

-- what holds of no change holds of what a part does
pub by_part : (P : List Change → Type 0) (s : DomainState) (peer : ℕ) (name : Came) (source destination : ℕ) (q : Piece) → P [] → P (row_of s peer name (brings source destination q)).happens
by_part P s peer name source destination q none = by_rows (λ r. P r.happens) (row (is_none name.part) fate.Stray [] ∷ last_row fate.Part []) ((λ on. none), (λ off. none))

abbrev pub is_brought : Reading → Bool
is_brought (brings source destination q) = true
is_brought other = false

-- ---- no word but that of a part without an open one is stray

abbrev pub is_stray : Fate → Bool
is_stray fate.Stray = true
is_stray other = false

abbrev Calm : Row → Type 0
Calm r = is_stray r.word ≡ false

frame_calm : (f : FrameFault) → is_stray (frame_word f) ≡ false
frame_calm frame_fault.FrameShort = refl
frame_calm frame_fault.FrameLong = refl
frame_calm frame_fault.HeaderLen = refl

letter_calm : (f : LetterFault) → is_stray (letter_word f) ≡ false
letter_calm letter_fault.PayloadShort = refl
letter_calm letter_fault.Magic = refl
letter_calm letter_fault.Version = refl
letter_calm letter_fault.Kind = refl
letter_calm letter_fault.Argument = refl
letter_calm letter_fault.Channel = refl
letter_calm letter_fault.Size = refl

ns_calm : (f : NsFault) → is_stray (ns_word f) ≡ false
ns_calm ns_fault.NsSize = refl
ns_calm ns_fault.NsFlags = refl
ns_calm ns_fault.NsName = refl

fault_calm : (f : Fault) → is_stray (fault_word f) ≡ false
fault_calm (of.Frame f) = frame_calm f
fault_calm (of.Letter f) = letter_calm f
fault_calm (of.Ns f) = ns_calm f

module _ (s : DomainState) (peer : ℕ) where
  names_calm : (o : Option EndName) (address : ℕ) (there : Bool) → Calm (first_row (name_rows peer (names_of (peer_at s peer)) o address there))
  names_calm None address there = refl
  names_calm (Some n) address true = by_rows Calm (name_rows peer (names_of (peer_at s peer)) (Some n) address true) ((λ on. refl), (λ off. ((λ on. refl), (λ last. refl))))
  names_calm (Some n) address false = by_rows Calm (name_rows peer (names_of (peer_at s peer)) (Some n) address false) ((λ on. refl), (λ off. ((λ on. refl), (λ last. refl))))

  module _ (source destination : ℕ) where
    connects_calm : (o : Option Endpoint) (number : ℕ) (kind : Kind) → Calm (first_row (connect_rows s peer source destination o number kind))
    connects_calm None number kind = by_rows Calm (connect_rows s peer source destination None number kind) ((λ on. refl), (λ off. refl))
    connects_calm (Some e) number kind = by_rows Calm (connect_rows s peer source destination (Some e) number kind) ((λ on. refl), (λ off. ((λ on. refl), (λ off. ((λ on. refl), (λ off. refl))))))

    messages_calm : (e : Endpoint) (c : Option ChannelEnd) (i : Item) → Calm (first_row (message_rows s destination e c i))
    messages_calm e (Some c) i = refl
    messages_calm e None i = by_rows Calm (message_rows s destination e None i) ((λ on. refl), (λ off. refl))

    channels_calm : (e : Endpoint) (c : Option ChannelEnd) (i : Item) (l : PlainLetter) → Calm (first_row (channel_rows s peer destination e c i l))
    channels_calm e None i l = refl
    channels_calm e (Some c) i (msg priority content) = refl
    channels_calm e (Some c) i (connect number kind) = refl
    channels_calm e (Some c) i (packet number content) = by_rows Calm (channel_rows s peer destination e (Some c) i (packet number content)) ((λ on. refl), (λ off. ((λ on. refl), (λ off. ((λ on. refl), (λ off. refl))))))
    channels_calm e (Some c) i (scalar number bits value) = by_rows Calm (channel_rows s peer destination e (Some c) i (scalar number bits value)) ((λ on. refl), (λ off. ((λ on. refl), (λ off. ((λ on. refl), (λ off. refl))))))
    channels_calm e (Some c) i (accept number) = by_rows Calm (channel_rows s peer destination e (Some c) i (accept number)) ((λ on. refl), (λ off. refl))
    channels_calm e (Some c) i (reject number why) = by_rows Calm (channel_rows s peer destination e (Some c) i (reject number why)) ((λ on. refl), (λ off. refl))
    channels_calm e (Some c) i (recv_open number) = by_rows Calm (channel_rows s peer destination e (Some c) i (recv_open number)) ((λ on. refl), (λ off. refl))
    channels_calm e (Some c) i (recv_close number) = by_rows Calm (channel_rows s peer destination e (Some c) i (recv_close number)) ((λ on. refl), (λ off. refl))
    channels_calm e (Some c) i (send_open number) = by_rows Calm (channel_rows s peer destination e (Some c) i (send_open number)) ((λ on. refl), (λ off. refl))
    channels_calm e (Some c) i (send_close number) = by_rows Calm (channel_rows s peer destination e (Some c) i (send_close number)) ((λ on. refl), (λ off. refl))

    letters_calm : (name : Came) (o : Option Endpoint) (l : PlainLetter) → Calm (first_row (letter_rows s peer name source destination o l))
    letters_calm name o (connect number kind) = connects_calm o number kind
    letters_calm name None l = refl
    letters_calm name (Some e) (msg priority content) = messages_calm e e.channel _
    letters_calm name (Some e) l = channels_calm e e.channel _ l

  -- where a part is open after the frame, or the frame brings none, its word is not stray
  pub row-calm : (name : Came) (r : Reading) → (is_brought r ≡ true → is_none name.part ≡ false) → Calm (row_of s peer name r)
  row-calm name (is_faulty f) open_so = fault_calm f
  row-calm name (announces text address there) open_so = names_calm (endpoint_named text) address there
  row-calm name (says source destination l) open_so = letters_calm source destination name (endpoint_of s destination) l
  row-calm name (brings source destination q) open_so = ap (λ b. is_stray (cond b (row b fate.Stray []) (row true fate.Part [])).word) (open_so refl)
